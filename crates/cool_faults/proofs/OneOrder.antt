-- Two sorted lists of the same compile-time errors are equal if no two of the errors have the same sort key, which is a source location and the rank of the
-- kind of error.
use Rattle.std.proofs.Common.{◌≡◌, ◌⊎◌, inl, inr, ℕ, ◌+◌, ◌<◌, ◌≤◌, List, [], ◌∷◌, sum_by, ap, sym, ◌∙◌, refl, subst, arith}
use Rattle.std.proofs.lemmas.Bool.{cases_eq}
use Rattle.std.specs.List.{AllByRecursion}
use Rattle.std.specs.List.Sorted.{IsPermutation}
use Rattle.std.proofs.lemmas.List.Elements.{All-from_recursion, recursion_from_All}
use Rattle.std.proofs.lemmas.List.Sorted.{All-permutation}
use Rattle.std.proofs.lemmas.List.Sums.{sum_by-cons}
use Rattle.cool_syntax.specs.FaultOrder.{Standing, IsLessOr, IsNoLater, AreInOrder}
use Rattle.lists.proofs.Numbers.{le_on}

-- a standing is no later than itself
no_later_self : (a : Standing) → IsNoLater a a
no_later_self a = inr (refl, inr (refl, inr (refl, omega arith)))

-- two steps of the order by a number are one
less_or_less : {P Q R : Type 0} (l m n : ℕ) → (P → Q → R) → IsLessOr l m P → IsLessOr m n Q → IsLessOr l n R
less_or_less l m n f (inl a) (inl b) = inl (omega (arith, a, b))
less_or_less l m n f (inl a) (inr (e, q)) = inl (omega (arith, a, e))
less_or_less l m n f (inr (e, p)) (inl b) = inl (omega (arith, e, b))
less_or_less l m n f (inr (e, p)) (inr (g, q)) = inr (e ∙ g, f p q)

-- and two both ways leave equal numbers
less_or_same : {P Q R : Type 0} (m n : ℕ) → (P → Q → R) → IsLessOr m n P → IsLessOr n m Q → (m ≡ n) × R
less_or_same m n f (inl a) (inl b) = absurd (omega (arith, a, b))
less_or_same m n f (inl a) (inr (e, q)) = absurd (omega (arith, a, e))
less_or_same m n f (inr (e, p)) (inl b) = absurd (omega (arith, e, b))
less_or_same m n f (inr (e, p)) (inr (g, q)) = (e, f p q)

-- two numbers are one where neither is greater
level : (m n : ℕ) → m ≤ n → n ≤ m → m ≡ n
level m n a b = omega (arith, a, b)

-- two steps of the order are one
no_later_then : (a b c : Standing) → IsNoLater a b → IsNoLater b c → IsNoLater a c
no_later_then a b c h g =
    less_or_less a.at.file b.at.file c.at.file
    (less_or_less a.at.byte b.at.byte c.at.byte (less_or_less a.rank b.rank c.rank (le_on a.at.line b.at.line c.at.line))) h g

-- two standings of which each is no later than the other are one
same_standing : (a b : Standing) → IsNoLater a b → IsNoLater b a → a ≡ b
same_standing a b h g =
    let parts : (a.at.file ≡ b.at.file) × ((a.at.byte ≡ b.at.byte) × ((a.rank ≡ b.rank) × (a.at.line ≡ b.at.line))) =
    less_or_same a.at.file b.at.file (less_or_same a.at.byte b.at.byte (less_or_same a.rank b.rank (level a.at.line b.at.line))) h g in
    let file = parts.0 in
    let byte = parts.1.0 in
    let rank = parts.1.1.0 in
    let line = parts.1.1.1 in
    λ i. record { at = record { file = file i; line = line i; byte = byte i }; rank = rank i }

-- standings are one or they are not
one_or_not : (a b : Standing) → (a ≡ b) ⊎ (a ≡ b → ⊥)
one_or_not a b =
    elim (cases_eq a.at.file b.at.file) [
      | inr other ↦ inr (λ e. other (ap (λ (s : Standing). s.at.file) e))
      | inl file ↦ elim (cases_eq a.at.byte b.at.byte) [
        | inr other ↦ inr (λ e. other (ap (λ (s : Standing). s.at.byte) e))
        | inl byte ↦ elim (cases_eq a.rank b.rank) [
          | inr other ↦ inr (λ e. other (ap (λ (s : Standing). s.rank) e))
          | inl rank ↦ elim (cases_eq a.at.line b.at.line) [
            | inr other ↦ inr (λ e. other (ap (λ (s : Standing). s.at.line) e))
            | inl line ↦ inl (λ i. record { at = record { file = file i; line = line i; byte = byte i }; rank = rank i })
          ]
        ]
      ]
    ]

-- 1 where something holds, and 0 where not
hit : {P : Type 0} → P ⊎ (P → ⊥) → ℕ
hit (inl holds) = 1
hit (inr other) = 0

hit_yes : {P : Type 0} (d : P ⊎ (P → ⊥)) → P → hit d ≡ 1
unfolding hit
hit_yes (inl holds) p = refl
hit_yes (inr other) p = absurd (other p)

hit_no : {P : Type 0} (d : P ⊎ (P → ⊥)) → (P → ⊥) → hit d ≡ 0
unfolding hit
hit_no (inl holds) none = absurd (none holds)
hit_no (inr other) none = refl

-- whether something stands so
stands : {X : Type 0} → (X → Standing) → Standing → X → ℕ
stands standing s x = hit (one_or_not s (standing x))

stands_so : {X : Type 0} (standing : X → Standing) (x : X) → stands standing (standing x) x ≡ 1
unfolding stands
stands_so standing x = hit_yes (one_or_not (standing x) (standing x)) refl

stands_else : {X : Type 0} (standing : X → Standing) (s : Standing) (x : X) → (s ≡ standing x → ⊥) → stands standing s x ≡ 0
unfolding stands
stands_else standing s x none = hit_no (one_or_not s (standing x)) none

-- the rest of a list in order is in order
rest_in_order : {X : Type 0} (standing : X → Standing) (x : X) (xs : List X) → AreInOrder standing (x ∷ xs) → AreInOrder standing xs
rest_in_order standing x [] order = tt
rest_in_order standing x (y ∷ ys) order = order.1

-- if an item of an ordered list has this standing, the first item stands no later
first_no_later : {X : Type 0} (standing : X → Standing) (s : Standing) (x : X) (xs : List X) → AreInOrder standing (x ∷ xs) → 0 < sum_by (stands standing s) (x ∷ xs) → IsNoLater (standing x) s
first_no_later standing s x [] order some =
    elim (one_or_not s (standing x)) [
      | inl here ↦ subst (IsNoLater (standing x)) (sym here) (no_later_self (standing x))
      | inr other ↦
          let none : sum_by (stands standing s) (x ∷ []) ≡ stands standing s x + 0 = sum_by-cons (stands standing s) x [] in
          absurd (omega (arith, some, none, stands_else standing s x other))
    ]
first_no_later standing s x (y ∷ ys) order some =
    elim (one_or_not s (standing x)) [
      | inl here ↦ subst (IsNoLater (standing x)) (sym here) (no_later_self (standing x))
      | inr other ↦
          let more : 0 < sum_by (stands standing s) (y ∷ ys) = omega (arith, some, sum_by-cons (stands standing s) x (y ∷ ys), stands_else standing s x other) in
          no_later_then (standing x) (standing y) s order.0 (first_no_later standing s y ys order.1 more)
    ]

-- each item is counted as one
abbrev each : {X : Type 0} → X → ℕ
each x = 1

-- a list with an item has a greater sum than one with none
none_and_some : {X : Type 0} (x : X) (xs : List X) → ((f : X → ℕ) → sum_by f [] ≡ sum_by f (x ∷ xs)) → ⊥
none_and_some {X} x xs same =
    let none : 0 ≡ sum_by (each {X = X}) (x ∷ xs) = same each in
    let some : sum_by (each {X = X}) (x ∷ xs) ≡ 1 + sum_by (each {X = X}) xs = sum_by-cons each x xs in
    omega (arith, none, some)

-- a property of all holds of them in another order
pub all_moved : {X : Type 0} (P : X → Type 0) (xs ys : List X) → IsPermutation xs ys → AllByRecursion P xs → AllByRecursion P ys
all_moved P xs ys moved h = recursion_from_All P ys (All-permutation P xs ys moved (All-from_recursion P xs h))

-- Two lists in order that have the same sums of whatever is counted are one list, where of their items no two have one standing.
pub one_order : {X : Type 0} (standing : X → Standing) (Is : X → Type 0) → ((x y : X) → Is x → Is y → standing x ≡ standing y → x ≡ y) → (xs ys : List X)
    → AllByRecursion Is xs → AllByRecursion Is ys → AreInOrder standing xs → AreInOrder standing ys → ((f : X → ℕ) → sum_by f xs ≡ sum_by f ys) → xs ≡ ys
one_order standing Is apart [] [] h g a b same = refl
one_order standing Is apart [] (y ∷ ys) h g a b same = absurd (none_and_some y ys same)
one_order standing Is apart (x ∷ xs) [] h g a b same = absurd (none_and_some x xs (λ f. sym (same f)))
one_order {X} standing Is apart (x ∷ xs) (y ∷ ys) h g a b same =
    let there : 0 < sum_by (stands standing (standing y)) (x ∷ xs) =
    omega (arith, same (stands standing (standing y)), sum_by-cons (stands standing (standing y)) y ys, stands_so standing y) in
    let back : 0 < sum_by (stands standing (standing x)) (y ∷ ys) =
    omega (arith, same (stands standing (standing x)), sum_by-cons (stands standing (standing x)) x xs, stands_so standing x) in
    let first : x ≡ y =
    apart x y h.0 g.0 (same_standing (standing x) (standing y) (first_no_later standing (standing y) x xs a there) (first_no_later standing (standing x) y ys b back)) in
    let rest : xs ≡ ys =
    one_order standing Is apart xs ys h.1 g.1 (rest_in_order standing x xs a) (rest_in_order standing y ys b)
    (λ (f : X → ℕ). omega (arith, same f, sum_by-cons f x xs, sum_by-cons f y ys, ap f first)) in
    λ i. first i ∷ rest i
