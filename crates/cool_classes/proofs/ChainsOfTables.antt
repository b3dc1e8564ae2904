-- No chain (a class with all its ancestors) has a class twice, so the function `chain` of `ClimbedChains.antt` returns the chain of each class of a complete
-- class table.
use Rattle.std.proofs.Common.{◌≡◌, ◌≢◌, ℕ, zero, suc, ◌<◌, ◌≤◌, min, ◌⊎◌, inl, inr, List, [], ◌∷◌, length, map, Option, Some, None, Bool, true, false, cond, ap, sym, ◌∙◌, refl, subst, arith}
use Rattle.std.specs.Prelude.{nat_eq, ltb, if◌then◌else◌}
use Rattle.std.specs.List.{AllByRecursion}
use Rattle.std.proofs.lemmas.Bool.{eqb-true, eqb-false, ltb-true, ltb-false}
use Rattle.std.proofs.lemmas.Option.{none-some}
use Rattle.std.proofs.lemmas.List.{length-map}
use Rattle.cool_classes.specs.declared.class_id.ClassId.{ClassId}
use Rattle.cool_classes.specs.Chains.{Class, class_number, parent_of, IsChain}
use Rattle.cool_classes.specs.Tables.{IsTable}
use Rattle.cool_classes.proofs.Climbs.{chain_unique}
use Rattle.cool_classes.specs.ClimbedChains.{climbed, above, chain}
use Rattle.cool_classes.specs.Cycles.{AreApart}

-- a climb of enough steps gives the chain
climbed_is : (n : ℕ) (p : List Class) (o : Option ClassId) (ds : List ClassId) → IsChain p o ds → length ds ≤ n → climbed n p o ≡ ds
unfolding climbed
climbed_is zero p None [] h l = refl
climbed_is zero p (Some c) [] h l = absurd h
climbed_is zero p o (d ∷ ds) h l = absurd (omega arith)
climbed_is (suc n) p None [] h l = refl
climbed_is (suc n) p None (d ∷ ds) h l = absurd h
climbed_is (suc n) p (Some c) [] h l = absurd h
climbed_is (suc n) p (Some c) (d ∷ ds) h l =
    let rest : climbed n p (parent_of p c) ≡ ds = climbed_is n p (parent_of p c) ds h.1 (omega arith) in
    λ i. sym h.0 i ∷ rest i

-- a list without the first place of a number
without : ℕ → List ℕ → List ℕ
without m [] = []
without m (x ∷ xs) = if nat_eq x m then xs else x ∷ without m xs

without_length : (m : ℕ) (xs : List ℕ) → length xs ≤ suc (length (without m xs))
unfolding without
without_length m [] = omega arith
without_length m (x ∷ xs) = by (nat_eq x m) (without_length m xs)
  where
    by : (b : Bool) → length xs ≤ suc (length (without m xs)) → length (x ∷ xs) ≤ suc (length (cond b xs (x ∷ without m xs)))
    by true h = omega arith
    by false h = omega arith

without_all : (P : ℕ → Type 0) (m : ℕ) (xs : List ℕ) → AllByRecursion P xs → AllByRecursion P (without m xs)
unfolding without
without_all P m [] h = tt
without_all P m (x ∷ xs) h = by (nat_eq x m) (without_all P m xs h.1)
  where
    by : (b : Bool) → AllByRecursion P (without m xs) → AllByRecursion P (cond b xs (x ∷ without m xs))
    by true k = h.1
    by false k = (h.0, k)

without_different : (m : ℕ) (xs : List ℕ) → AreApart xs → AreApart (without m xs)
unfolding without
without_different m [] h = tt
without_different m (x ∷ xs) h = by (nat_eq x m) (without_different m xs h.1)
  where
    by : (b : Bool) → AreApart (without m xs) → AreApart (cond b xs (x ∷ without m xs))
    by true k = h.1
    by false k = (without_all (λ y. y ≢ x) m xs h.0, k)

-- numbers up to one of which none is that one are below it
lower : (m : ℕ) (xs : List ℕ) → AllByRecursion (λ y. y < suc m) xs → AllByRecursion (λ y. y ≢ m) xs → AllByRecursion (λ y. y < m) xs
lower m [] h k = tt
lower m (x ∷ xs) h k =
    let other = k.0 in let low = h.0 in
    (elim (less_or m x low) [ inl less ↦ less | inr same ↦ absurd (other same) ], lower m xs h.1 k.1)
  where
    less_or : (m x : ℕ) → x < suc m → (x < m) ⊎ (x ≡ m)
    less_or m x l = by (nat_eq x m) refl
      where
        by : (b : Bool) → nat_eq x m ≡ b → (x < m) ⊎ (x ≡ m)
        by true e = inr (eqb-true x m e)
        by false e = let n = eqb-false x m e in inl (omega arith)

-- different numbers up to one are below it where that one is taken away
without_below : (m : ℕ) (xs : List ℕ) → AllByRecursion (λ y. y < suc m) xs → AreApart xs → AllByRecursion (λ y. y < m) (without m xs)
unfolding without
without_below m [] h d = tt
without_below m (x ∷ xs) h d = by (nat_eq x m) refl (without_below m xs h.1 d.1)
  where
    by : (b : Bool) → nat_eq x m ≡ b → AllByRecursion (λ y. y < m) (without m xs) → AllByRecursion (λ y. y < m) (cond b xs (x ∷ without m xs))
    by true e k = lower m xs h.1 (subst (λ (z : ℕ). AllByRecursion (λ y. y ≢ z) xs) (eqb-true x m e) d.0)
    by false e k = (let n = eqb-false x m e in let low = h.0 in omega arith, k)

-- different numbers below one are at most so many
few_numbers : (n : ℕ) (xs : List ℕ) → AllByRecursion (λ y. y < n) xs → AreApart xs → length xs ≤ n
few_numbers zero [] h d = omega arith
few_numbers zero (x ∷ xs) h d = let low = h.0 in absurd (omega arith)
few_numbers (suc n) xs h d =
    let less = few_numbers n (without n xs) (without_below n xs h d) (without_different n xs d) in
    let l = without_length n xs in omega arith

-- a class of which each chain is longer stands on none of these
passed_by : (p : List Class) (c : ClassId) (big : ℕ) → ((es : List ClassId) → IsChain p (Some c) es → length es ≡ big)
    → (o : Option ClassId) (ds : List ClassId) → IsChain p o ds → length ds < big → AllByRecursion (λ (d : ClassId). d ≢ c) ds
passed_by p c big h None [] k l = tt
passed_by p c big h None (d ∷ ds) k l = absurd k
passed_by p c big h (Some b) [] k l = absurd k
passed_by p c big h (Some b) (d ∷ ds) k l = (
  λ e. let long = h (d ∷ ds) (subst (λ (x : ClassId). IsChain p (Some x) (d ∷ ds)) (sym k.0 ∙ e) k) in omega arith,
  passed_by p c big h (parent_of p b) ds k.1 (omega arith),
)

-- the numbers of classes, where all that are none of the table count as one
abbrev capped : ℕ → List ClassId → List ℕ
capped n = map (λ (d : ClassId). min d.0 n)

capped_low : (n : ℕ) (ds : List ClassId) → AllByRecursion (λ y. y < suc n) (capped n ds)
capped_low n [] = tt
capped_low n (d ∷ ds) = (omega arith, capped_low n ds)

capped_other : (n : ℕ) (c : ClassId) (ds : List ClassId) → c.0 < n → AllByRecursion (λ (d : ClassId). d ≢ c) ds → AllByRecursion (λ y. y ≢ min c.0 n) (capped n ds)
capped_other n c [] within h = tt
capped_other n c (d ∷ ds) within h =
    (λ e. h.0 (let same : d.0 ≡ c.0 = omega arith in ap class_number same), capped_other n c ds within h.1)

-- a class that is none of the table has no parent
outside : (p : List Class) (c : ClassId) → length p ≤ c.0 → parent_of p c ≡ None
outside p c past = by p c.0 past
  where
    by : (p : List Class) (k : ℕ) → length p ≤ k → parent_of p (class_number k) ≡ None
    by [] k past = refl
    by (x ∷ p) zero past = absurd (omega arith)
    by (x ∷ p) (suc k) past = by p k (omega arith)

-- no class stands on a chain twice
different_by : (p : List Class) (d : ClassId) (o : Option ClassId) → parent_of p d ≡ o → (ds : List ClassId) → IsChain p o ds → IsChain p (Some d) (d ∷ ds)
    → ((q : ClassId) → IsChain p (Some q) ds → AreApart (capped (length p) ds)) → AreApart (capped (length p) (d ∷ ds))
different_by p d None e [] h k more = (tt, tt)
different_by p d None e (x ∷ ds) h k more = absurd h
different_by p d (Some q) e ds h k more =
    let within : d.0 < length p = elim (below_or (length p) d.0) [ inl less ↦ less | inr past ↦ absurd (none-some q (sym (outside p d past) ∙ e)) ] in
    let unique = λ (xs : List ClassId) (h' : IsChain p (Some d) xs). ap length (chain_unique p (Some d) xs (d ∷ ds) h' k) in
    (capped_other (length p) d ds within (passed_by p d (length (d ∷ ds)) unique (Some q) ds h (omega arith)), more q h)
  where
    below_or : (n k : ℕ) → (k < n) ⊎ (n ≤ k)
    below_or n k = elim (ltb k n) as (λ b. ltb k n ≡ b → (k < n) ⊎ (n ≤ k)) [ true ↦ (λ e. inl (ltb-true k n e)) | false ↦ (λ e. inr (ltb-false k n e)) ] refl

different : (p : List Class) (c : ClassId) (ds : List ClassId) → IsChain p (Some c) ds → AreApart (capped (length p) ds)
different p c [] k = absurd k
different p c (d ∷ ds) k =
    different_by p d (parent_of p d) refl ds (subst (λ (x : ClassId). IsChain p (parent_of p x) ds) (sym k.0) k.1)
    (subst (λ (x : ClassId). IsChain p (Some x) (d ∷ ds)) (sym k.0) k) (λ q h. different p q ds h)

-- so a chain is no longer than the table, except that of a class outside the table
chain_few : (p : List Class) (c : ClassId) (ds : List ClassId) → IsChain p (Some c) ds → length ds ≤ suc (length p)
chain_few p c ds k =
    let few = few_numbers (suc (length p)) (capped (length p) ds) (capped_low (length p) ds) (different p c ds k) in
    let long : length (capped (length p) ds) ≡ length ds = length-map ds (λ (d : ClassId). min d.0 (length p)) in
    omega arith

-- the chain of a class that has one
pub above_of : (p : List Class) (c : ClassId) (ds : List ClassId) → IsChain p (parent_of p c) ds → above p c ≡ ds
unfolding above
above_of p c ds k = climbed_is (length p) p (parent_of p c) ds k (let few = chain_few p c (c ∷ ds) (refl, k) in omega arith)

pub chain_of : (p : List Class) (c : ClassId) (ds : List ClassId) → IsChain p (Some c) ds → chain p c ≡ ds
unfolding chain
chain_of p c [] k = absurd k
chain_of p c (d ∷ ds) k = let rest : above p c ≡ ds = above_of p c ds k.1 in λ i. sym k.0 i ∷ rest i

-- each class of a whole table has its chain
pub chain_is : (p : List Class) (c : ClassId) → IsTable p → c.0 < length p → IsChain p (Some c) (chain p c)
chain_is p c h within =
    let w = h.chains c within in subst (IsChain p (Some c)) (sym (chain_of p c w.0 w.1)) w.1
