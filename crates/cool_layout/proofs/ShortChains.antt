-- No chain (a class with all its ancestors) has more classes than the class table, so `chain` of `ClimbedChains.antt`, which takes a bounded number of steps,
-- returns the whole chain.
use Rattle.std.proofs.Common.{◌≡◌, ℕ, zero, suc, ◌<◌, ◌≤◌, List, [], ◌∷◌, length, map, Option, Some, None, Bool, true, false, ◌||◌, eqb, refl, sym, ap, ◌∙◌, subst, arith, true≢false, Contains}
use Rattle.std.specs.Prelude.{IfSome}
use Rattle.std.specs.List.{AllByRecursion, IsDistinct, list_any}
use Rattle.std.proofs.lemmas.List.{length-map}
use Rattle.std.proofs.lemmas.Map.Steps.{length-le_from_distinct_below}
use Rattle.cool_classes.specs.declared.class_id.ClassId.{ClassId}
use Rattle.cool_classes.specs.Chains.{Class, parent_of, IsChain}
use Rattle.cool_classes.specs.ClimbedChains.{climbed, chain}
use Rattle.cool_classes.proofs.Climbs.{chain_unique}
use Rattle.cool_classes.proofs.ChainsOfTables.{chain_of, chain_is as chain_of_class}
use Rattle.cool_layout.specs.Roots.{IsRooted}

-- a class, by its number
pub same_number : (c d : ClassId) → c.0 ≡ d.0 → c ≡ d
same_number c d e = λ i. record { 0 = e i }

-- a class of the table, where there is one
abbrev pub Within : List Class → Option ClassId → Type 0
Within p o = IfSome o (λ c. c.0 < length p)

pub parent_in : (p : List Class) → IsRooted p → (c : ClassId) → c.0 < length p → (o : Option ClassId) → parent_of p c ≡ o → Within p o
parent_in p r c within None e = tt
parent_in p r c within (Some q) e = r.above c q within e

-- the classes of a chain are classes of the table
pub chain_in : (p : List Class) → IsRooted p → (o : Option ClassId) → Within p o → (ds : List ClassId) → IsChain p o ds → AllByRecursion (λ d. d.0 < length p) ds
chain_in p r None w [] h = tt
chain_in p r None w (d ∷ ds) h = absurd h
chain_in p r (Some c) w [] h = absurd h
chain_in p r (Some c) w (d ∷ ds) h = (subst (λ (x : ClassId). x.0 < length p) (sym h.0) w, chain_in p r (parent_of p c) (parent_in p r c w (parent_of p c) refl) ds h.1)

-- a class on a chain has a chain of its own, which is no longer
abbrev ShorterChain : List Class → ℕ → ClassId → Type 0
ShorterChain p n c = (es : List ClassId) × IsChain p (Some c) es × (length es ≤ n)

on_chain : (p : List Class) (c : ClassId) (o : Option ClassId) (ds : List ClassId) → IsChain p o ds → list_any (λ d. eqb c.0 d.0) ds ≡ true → ShorterChain p (length ds) c
on_chain p c None [] h there = absurd (true≢false (sym there))
on_chain p c None (d ∷ ds) h there = absurd h
on_chain p c (Some q) [] h there = absurd h
on_chain p c (Some q) (d ∷ ds) h there = by (eqb c.0 d.0) refl (λ t. on_chain p c (parent_of p q) ds h.1 t)
  where
    by : (b : Bool) → eqb c.0 d.0 ≡ b → (list_any (λ d. eqb c.0 d.0) ds ≡ true → ShorterChain p (length ds) c) → ShorterChain p (suc (length ds)) c
    by true e more =
        let is : c.0 ≡ d.0 = grind arith in
        let same : d ≡ c = same_number d c (sym is) in
        (d ∷ ds, (same, subst (λ (x : ClassId). IsChain p (parent_of p x) ds) (sym h.0 ∙ same) h.1), omega arith)
    by false e more =
        let rest = more (ap (λ b. b || list_any (λ d. eqb c.0 d.0) ds) (sym e) ∙ there) in
        (rest.0, rest.1, let l = rest.2 in omega arith)

-- so no class stands twice on a chain
new_on_chain : (p : List Class) (c : ClassId) (ds : List ClassId) → IsChain p (parent_of p c) ds → (b : Bool) → list_any (λ d. eqb c.0 d.0) ds ≡ b → b ≡ false
new_on_chain p c ds h false e = refl
new_on_chain p c ds h true e =
    let again = on_chain p c (parent_of p c) ds h e in
    let same : c ∷ ds ≡ again.0 = chain_unique p (Some c) (c ∷ ds) again.0 (refl, h) again.1 in
    let long : suc (length ds) ≡ length again.0 = ap length same in
    let short = again.2 in
    absurd (omega arith)

-- a class does not stand above itself
pub new_above : (p : List Class) (c : ClassId) (ds : List ClassId) → IsChain p (parent_of p c) ds → Contains ds c → ⊥
new_above p c ds h there = absurd (true≢false (sym (found ds there) ∙ new_on_chain p c ds h (list_any (λ d. eqb c.0 d.0) ds) refl))
  where
    self : (n : ℕ) → eqb n n ≡ true
    self n = grind arith

    found : (es : List ClassId) → Contains es c → list_any (λ d. eqb c.0 d.0) es ≡ true
    found [] (k, l, e) = absurd (omega arith)
    found (x ∷ es) (zero, l, e) = ap (λ (y : ClassId). eqb c.0 y.0 || list_any (λ d. eqb c.0 d.0) es) e ∙ ap (λ b. b || list_any (λ d. eqb c.0 d.0) es) (self c.0)
    found (x ∷ es) (suc k, l, e) = by (eqb c.0 x.0) (found es (k, omega arith, e))
      where
        by : (b : Bool) → list_any (λ d. eqb c.0 d.0) es ≡ true → (b || list_any (λ d. eqb c.0 d.0) es) ≡ true
        by true t = refl
        by false t = t

none_of : (n : ℕ) (ds : List ClassId) → list_any (λ d. eqb n d.0) ds ≡ false → AllByRecursion (λ m. eqb n m ≡ false) (map (λ (d : ClassId). d.0) ds)
none_of n [] none = tt
none_of n (d ∷ ds) none = by (eqb n d.0) refl none (λ h. none_of n ds h)
  where
    by : (b : Bool) → eqb n d.0 ≡ b → (b || list_any (λ d. eqb n d.0) ds) ≡ false → (list_any (λ d. eqb n d.0) ds ≡ false → AllByRecursion (λ m. eqb n m ≡ false) (map (λ (d : ClassId). d.0) ds))
        → (eqb n d.0 ≡ false) × AllByRecursion (λ m. eqb n m ≡ false) (map (λ (d : ClassId). d.0) ds)
    by true e h more = absurd (true≢false h)
    by false e h more = (e, more h)

pub distinct : (p : List Class) (o : Option ClassId) (ds : List ClassId) → IsChain p o ds → IsDistinct eqb (map (λ (d : ClassId). d.0) ds)
unfolding IsDistinct
distinct p None [] h = tt
distinct p None (d ∷ ds) h = absurd h
distinct p (Some c) [] h = absurd h
distinct p (Some c) (d ∷ ds) h =
    let below : IsChain p (parent_of p d) ds = subst (λ (x : ClassId). IsChain p (parent_of p x) ds) (sym h.0) h.1 in
    (none_of d.0 ds (new_on_chain p d ds below (list_any (λ e. eqb d.0 e.0) ds) refl), distinct p (parent_of p c) ds h.1)

number_in : (n : ℕ) (ds : List ClassId) → AllByRecursion (λ (d : ClassId). d.0 < n) ds → (q : ℕ) → list_any (eqb q) (map (λ (d : ClassId). d.0) ds) ≡ true → q < n
number_in n [] all q h = absurd (true≢false (sym h))
number_in n (d ∷ ds) all q h = by (eqb q d.0) refl h (λ k. number_in n ds all.1 q k)
  where
    by : (b : Bool) → eqb q d.0 ≡ b → (b || list_any (eqb q) (map (λ (d : ClassId). d.0) ds)) ≡ true → (list_any (eqb q) (map (λ (d : ClassId). d.0) ds) ≡ true → q < n) → q < n
    by true e k more = let is : q ≡ d.0 = grind arith in let l = all.0 in omega arith
    by false e k more = more k

-- no chain has more classes than there are
pub short : (p : List Class) → IsRooted p → (o : Option ClassId) → Within p o → (ds : List ClassId) → IsChain p o ds → length ds ≤ length p
short p r o w ds h =
    let numbers : List ℕ = map (λ (d : ClassId). d.0) ds in
    let fits : length numbers ≤ length p = length-le_from_distinct_below numbers (length p) (distinct p o ds h) (number_in (length p) ds (chain_in p r o w ds h)) in
    let same : length numbers ≡ length ds = length-map ds (λ d. d.0) in
    omega arith

-- a climb that is long enough is the chain
pub climb_is : (p : List Class) (n : ℕ) (o : Option ClassId) (ds : List ClassId) → IsChain p o ds → length ds ≤ n → climbed n p o ≡ ds
unfolding climbed
climb_is p zero None [] h l = refl
climb_is p zero None (d ∷ ds) h l = absurd h
climb_is p zero (Some c) [] h l = absurd h
climb_is p zero (Some c) (d ∷ ds) h l = absurd (omega arith)
climb_is p (suc n) None [] h l = refl
climb_is p (suc n) None (d ∷ ds) h l = absurd h
climb_is p (suc n) (Some c) [] h l = absurd h
climb_is p (suc n) (Some c) (d ∷ ds) h l =
    ap (λ (x : ClassId). x ∷ climbed n p (parent_of p c)) (sym h.0) ∙ ap (λ (xs : List ClassId). d ∷ xs) (climb_is p n (parent_of p c) ds h.1 (omega arith))

-- such a climb from a class gives its chain
pub climb_all : (p : List Class) → IsRooted p → (c : ClassId) → c.0 < length p → climbed (length p) p (Some c) ≡ chain p c
climb_all p r c within = let h = r.table.chains c within in climb_is p (length p) (Some c) h.0 h.1 (short p r (Some c) within h.0 h.1) ∙ sym (chain_of p c h.0 h.1)

-- the chain of a class is one
pub chain_is : (p : List Class) → IsRooted p → (c : ClassId) → c.0 < length p → IsChain p (Some c) (chain p c)
chain_is p r c within = chain_of_class p c r.table within

-- and the only one
pub chain_only : (p : List Class) → IsRooted p → (c : ClassId) → c.0 < length p → (ds : List ClassId) → IsChain p (Some c) ds → ds ≡ chain p c
chain_only p r c within ds h = chain_unique p (Some c) ds (chain p c) h (chain_is p r c within)

-- one step of it
pub chain_step : (p : List Class) → IsRooted p → (c q : ClassId) → c.0 < length p → parent_of p c ≡ Some q → chain p c ≡ c ∷ chain p q
chain_step p r c q within e =
    sym (chain_only p r c within (c ∷ chain p q) (refl, subst (λ (o : Option ClassId). IsChain p o (chain p q)) (sym e) (chain_is p r q (r.above c q within e))))

pub chain_end : (p : List Class) → IsRooted p → (c : ClassId) → c.0 < length p → parent_of p c ≡ None → chain p c ≡ c ∷ []
chain_end p r c within e = sym (chain_only p r c within (c ∷ []) (refl, subst (λ (o : Option ClassId). IsChain p o []) (sym e) tt))
