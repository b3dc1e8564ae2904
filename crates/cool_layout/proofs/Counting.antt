-- A class occurs in a subtree of the class hierarchy (`family` of `Preorder.antt`) as often as the root of the subtree occurs in the list of the class and its
-- ancestors.
use Rattle.std.proofs.Common.{◌≡◌, ◌≢◌, ℕ, zero, suc, ◌+◌, ◌<◌, ◌≤◌, List, [], ◌∷◌, ◌++◌, length, flat_map, filter, Option, Some, None, Bool, true, false, cond, refl, sym, ap, ◌∙◌, arith}
use Rattle.std.specs.Prelude.{nat_eq}
use Rattle.cool_classes.specs.declared.class_id.ClassId.{ClassId}
use Rattle.cool_classes.specs.Chains.{Class, class_number, parent_of}
use Rattle.cool_classes.specs.ClimbedChains.{climbed, chain}
use Rattle.cool_layout.specs.Preorder.{numbers_from, is_class, is_parent, children, subtree, family}
use Rattle.cool_layout.specs.Roots.{IsRooted}
use Rattle.cool_layout.proofs.ShortChains.{same_number, climb_all}

abbrev pub one : Bool → ℕ
one true = 1
one false = 0

abbrev pub times : ClassId → List ClassId → ℕ
times d [] = 0
times d (x ∷ xs) = one (is_class d x) + times d xs

abbrev pub total : (ClassId → ℕ) → List ClassId → ℕ
total f [] = 0
total f (x ∷ xs) = f x + total f xs

pub times-append : (d : ClassId) (xs ys : List ClassId) → times d (xs ++ ys) ≡ times d xs + times d ys
times-append d [] ys = omega arith
times-append d (x ∷ xs) ys = let e : times d (xs ++ ys) ≡ times d xs + times d ys = times-append d xs ys in omega arith

times-flat_map : (d : ClassId) (f : ClassId → List ClassId) (xs : List ClassId) → times d (flat_map f xs) ≡ total (λ x. times d (f x)) xs
times-flat_map d f [] = refl
times-flat_map d f (x ∷ xs) =
    let a : times d (f x ++ flat_map f xs) ≡ times d (f x) + times d (flat_map f xs) = times-append d (f x) (flat_map f xs) in
    let b : times d (flat_map f xs) ≡ total (λ x. times d (f x)) xs = times-flat_map d f xs in
    omega arith

total_same : (f g : ClassId → ℕ) (xs : List ClassId) → ((x : ClassId) → f x ≡ g x) → total f xs ≡ total g xs
total_same f g [] same = refl
total_same f g (x ∷ xs) same = let a : f x ≡ g x = same x in let b : total f xs ≡ total g xs = total_same f g xs same in omega arith

pub total_sum : (f g : ClassId → ℕ) (xs : List ClassId) → total (λ x. f x + g x) xs ≡ total f xs + total g xs
total_sum f g [] = omega arith
total_sum f g (x ∷ xs) = let e : total (λ x. f x + g x) xs ≡ total f xs + total g xs = total_sum f g xs in omega arith

pub total_zero : (xs : List ClassId) → total (λ x. 0) xs ≡ 0
total_zero [] = refl
total_zero (x ∷ xs) = let e : total (λ x. 0) xs ≡ 0 = total_zero xs in omega arith

eq_comm : (a b : ℕ) → nat_eq a b ≡ nat_eq b a
eq_comm a b = grind arith

-- a class counts once among numbers that it is one of
before_numbers : (d : ClassId) (P : ClassId → Bool) (k n : ℕ) → d.0 < k → total (λ x. one (is_class x d)) (filter P (numbers_from k n)) ≡ 0
before_numbers d P k zero l = refl
before_numbers d P k (suc n) l = by (P (class_number k)) (before_numbers d P (k + 1) n (omega arith))
  where
    by : (b : Bool) → total (λ x. one (is_class x d)) (filter P (numbers_from (k + 1) n)) ≡ 0 → total (λ x. one (is_class x d)) (cond b (class_number k ∷ filter P (numbers_from (k + 1) n)) (filter P (numbers_from (k + 1) n))) ≡ 0
    by false h = h
    by true h = let other : nat_eq d.0 k ≡ false = grind arith in rw other (let e : 0 + total (λ x. one (is_class x d)) (filter P (numbers_from (k + 1) n)) ≡ 0 = omega arith in e)

pub among_numbers : (d : ClassId) (P : ClassId → Bool) (k n : ℕ) → k ≤ d.0 → d.0 < k + n → total (λ x. one (is_class x d)) (filter P (numbers_from k n)) ≡ one (P d)
among_numbers d P k zero l u = absurd (omega arith)
among_numbers d P k (suc n) l u = by (nat_eq d.0 k) refl (λ m. among_numbers d P (k + 1) n m (omega arith))
  where
    step : (b : Bool) (m t : ℕ) → total (λ x. one (is_class x d)) (filter P (numbers_from (k + 1) n)) ≡ t → one (nat_eq d.0 k) ≡ m
        → total (λ x. one (is_class x d)) (cond b (class_number k ∷ filter P (numbers_from (k + 1) n)) (filter P (numbers_from (k + 1) n))) ≡ cond b (m + t) t
    step true m t h e = let goal' : one (nat_eq d.0 k) + total (λ x. one (is_class x d)) (filter P (numbers_from (k + 1) n)) ≡ m + t = omega arith in goal'
    step false m t h e = h

    by : (b : Bool) → nat_eq d.0 k ≡ b → (k + 1 ≤ d.0 → total (λ x. one (is_class x d)) (filter P (numbers_from (k + 1) n)) ≡ one (P d))
        → total (λ x. one (is_class x d)) (filter P (numbers_from k (suc n))) ≡ one (P d)
    by true e more =
        let is : d.0 ≡ k = grind arith in
        let same : class_number k ≡ d = same_number (class_number k) d (sym is) in
        step (P (class_number k)) 1 0 (before_numbers d P (k + 1) n (omega arith)) (ap one e) ∙ ap (λ c. cond (P c) 1 0) same ∙ both (P d)
      where
        both : (b : Bool) → cond b 1 0 ≡ one b
        both true = refl
        both false = refl
    by false e more =
        let is : d.0 ≢ k = grind arith in
        step (P (class_number k)) 0 (one (P d)) (more (omega arith)) (ap one e) ∙ both (P (class_number k)) (one (P d))
      where
        both : (b : Bool) (t : ℕ) → cond b (0 + t) t ≡ t
        both true t = omega arith
        both false t = refl

pub climb_none : (p : List Class) (n : ℕ) → climbed n p None ≡ []
unfolding climbed
climb_none p zero = refl
climb_none p (suc n) = refl

-- the children of a class on a climb are followed by the class
on_climb : (p : List Class) → IsRooted p → (n : ℕ) (d c : ClassId) → d.0 < length p → total (λ k. times k (climbed n p (Some d))) (children p c) ≡ times c (climbed n p (parent_of p d))
unfolding climbed
on_climb p r zero d c within = total_zero (children p c) ∙ by (parent_of p d)
  where
    by : (o : Option ClassId) → 0 ≡ times c (climbed 0 p o)
    by None = refl
    by (Some q) = refl
on_climb p r (suc n) d c within = total_sum (λ k. one (is_class k d)) (λ k. times k (climbed n p (parent_of p d))) (children p c) ∙ by (parent_of p d) refl (λ q w. on_climb p r n q c w)
  where
    first : total (λ k. one (is_class k d)) (children p c) ≡ one (is_parent c (parent_of p d))
    first = among_numbers d (λ k. is_parent c (parent_of p k)) 0 (length p) (omega arith) (omega arith)

    by : (o : Option ClassId) → parent_of p d ≡ o → ((q : ClassId) → q.0 < length p → total (λ k. times k (climbed n p (Some q))) (children p c) ≡ times c (climbed n p (parent_of p q)))
        → total (λ k. one (is_class k d)) (children p c) + total (λ k. times k (climbed n p o)) (children p c) ≡ times c (climbed (suc n) p o)
    by None e more =
        let a : total (λ k. one (is_class k d)) (children p c) ≡ 0 = first ∙ ap (λ o. one (is_parent c o)) e in
        let b : total (λ k. times k (climbed n p None)) (children p c) ≡ 0 = ap (λ (xs : List ClassId). total (λ k. times k xs) (children p c)) (climb_none p n) ∙ total_zero (children p c) in
        omega arith
    by (Some q) e more =
        let a : total (λ k. one (is_class k d)) (children p c) ≡ one (is_class c q) = first ∙ ap (λ o. one (is_parent c o)) e in
        let b : total (λ k. times k (climbed n p (Some q))) (children p c) ≡ times c (climbed n p (parent_of p q)) = more q (r.above d q within e) in
        omega arith

-- a class stands in a family as often as its head on the chain of the class
pub times_in_subtree : (p : List Class) → IsRooted p → (n : ℕ) (d c : ClassId) → d.0 < length p → times d (subtree p n c) ≡ times c (climbed n p (Some d))
unfolding climbed
times_in_subtree p r zero d c within = refl
times_in_subtree p r (suc n) d c within =
    let a : times d (flat_map (subtree p n) (children p c)) ≡ total (λ k. times k (climbed n p (Some d))) (children p c) =
    times-flat_map d (subtree p n) (children p c) ∙ total_same (λ k. times d (subtree p n k)) (λ k. times k (climbed n p (Some d))) (children p c) (λ k. times_in_subtree p r n d k within) in
    let b : total (λ k. times k (climbed n p (Some d))) (children p c) ≡ times c (climbed n p (parent_of p d)) = on_climb p r n d c within in
    let e : one (is_class d c) ≡ one (is_class c d) = ap one (eq_comm c.0 d.0) in
    omega arith

pub times_in_family : (p : List Class) → IsRooted p → (d c : ClassId) → d.0 < length p → times d (family p c) ≡ times c (chain p d)
times_in_family p r d c within = times_in_subtree p r (length p) d c within ∙ ap (times c) (climb_all p r d within)
