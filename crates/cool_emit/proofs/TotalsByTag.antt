-- A sum over the classes in the order of their tags is at most the sum over them by class number, since each class occurs once in the preorder of the
-- inheritance tree.
use Rattle.std.proofs.Common.{◌≡◌, ℕ, zero, suc, ◌+◌, ◌≤◌, ◌<◌, List, [], ◌∷◌, length, Bool, true, false, refl, ap, arith}
use Rattle.std.specs.Prelude.{nat_eq}
use Rattle.std.specs.List.{AllByRecursion}
use Rattle.cool_classes.specs.declared.class_id.ClassId.{ClassId}
use Rattle.cool_classes.specs.Chains.{Class, class_number, class_at}
use Rattle.cool_layout.specs.Preorder.{numbers_from, is_class, preorder}
use Rattle.cool_layout.specs.Roots.{IsRooted}
use Rattle.cool_layout.proofs.Counting.{one, times}
use Rattle.cool_layout.proofs.TagRanges.{once, preorder_in}
use Rattle.cool_emit.proofs.Totals.{total, total-sum}
use Rattle.cool_emit.proofs.ClassesInTurn.{by_number}

-- a number where something holds
abbrev where_so : Bool → ℕ → ℕ
where_so true n = n
where_so false n = 0

-- the count of a class among classes
abbrev share : (ClassId → ℕ) → ClassId → List ClassId → ℕ
share f d xs = total (λ x. where_so (is_class d x) (f d)) xs

no_share : (f : ClassId → ℕ) (d : ClassId) (xs : List ClassId) → times d xs ≡ 0 → share f d xs ≡ 0
no_share f d [] e = refl
no_share f d (x ∷ xs) e = by (is_class d x) e (no_share f d xs)
  where
    by : (b : Bool) → one b + times d xs ≡ 0 → (times d xs ≡ 0 → share f d xs ≡ 0) → where_so b (f d) + share f d xs ≡ 0
    by true e more = absurd (omega arith)
    by false e more = omega (arith, more (omega arith))

-- a class that stands there at most once is counted at most once
one_share : (f : ClassId → ℕ) (d : ClassId) (xs : List ClassId) → times d xs ≤ 1 → share f d xs ≤ f d
one_share f d [] e = omega arith
one_share f d (x ∷ xs) e = by (is_class d x) e (one_share f d xs)
  where
    by : (b : Bool) → one b + times d xs ≤ 1 → (times d xs ≤ 1 → share f d xs ≤ f d) → where_so b (f d) + share f d xs ≤ f d
    by true e more = omega (arith, no_share f d xs (omega arith))
    by false e more = omega (arith, more (omega arith))

-- a number that is that of a class counts it
among : (f : ClassId → ℕ) (x : ClassId) (k n : ℕ) → k ≤ x.0 → x.0 < k + n
    → f x ≤ total (λ d. where_so (is_class d x) (f d)) (numbers_from k n)
among f x k zero low high = absurd (omega arith)
among f x k (suc n) low high = by (nat_eq x.0 k) refl (λ l. among f x (k + 1) n l (omega arith))
  where
    by : (b : Bool) → nat_eq x.0 k ≡ b → (k + 1 ≤ x.0 → f x ≤ total (λ d. where_so (is_class d x) (f d)) (numbers_from (k + 1) n))
        → f x ≤ where_so b (f (class_number k)) + total (λ d. where_so (is_class d x) (f d)) (numbers_from (k + 1) n)
    by true e more =
        let number : x.0 ≡ k = grind arith in
        let same : f x ≡ f (class_number k) = ap (λ (m : ℕ). f (class_number m)) number in
        omega arith
    by false e more =
        let other : k + 1 ≤ x.0 = grind arith in
        omega (arith, more other)

-- each class of a list is counted by its number
shared : (f : ClassId → ℕ) (n : ℕ) (xs : List ClassId) → AllByRecursion (λ x. x.0 < n) xs
    → total f xs ≤ total (λ d. share f d xs) (numbers_from 0 n)
shared f n [] all = omega arith
shared f n (x ∷ xs) all =
    let first : f x ≤ total (λ d. where_so (is_class d x) (f d)) (numbers_from 0 n) =
    among f x 0 n (omega arith) (let w = all.0 in omega arith) in
    let rest : total f xs ≤ total (λ d. share f d xs) (numbers_from 0 n) = shared f n xs all.1 in
    let sum : total (λ d. where_so (is_class d x) (f d) + share f d xs) (numbers_from 0 n)
    ≡ total (λ d. where_so (is_class d x) (f d)) (numbers_from 0 n) + total (λ d. share f d xs) (numbers_from 0 n) =
    total-sum (λ d. where_so (is_class d x) (f d)) (λ d. share f d xs) (numbers_from 0 n) in
    omega arith

-- a bound at each number
each_number : (f g : ClassId → ℕ) (k n : ℕ) → ((d : ClassId) → d.0 < k + n → f d ≤ g d)
    → total f (numbers_from k n) ≤ total g (numbers_from k n)
each_number f g k zero le = omega arith
each_number f g k (suc n) le = omega (arith, le (class_number k) (omega arith), each_number f g (k + 1) n (λ d l. le d (omega arith)))

pub by_tag : (g : Class → ℕ) (p : List Class) → IsRooted p → total (λ c. g (class_at p c)) (preorder p) ≤ total g p
by_tag g p r =
    let f : ClassId → ℕ = λ c. g (class_at p c) in
    let all : total f (preorder p) ≤ total (λ d. share f d (preorder p)) (numbers_from 0 (length p)) =
    shared f (length p) (preorder p) (preorder_in p r) in
    let each : total (λ d. share f d (preorder p)) (numbers_from 0 (length p)) ≤ total f (numbers_from 0 (length p)) =
    each_number (λ d. share f d (preorder p)) f 0 (length p) (λ d l. one_share f d (preorder p) (omega (
      arith,
      once p r d (omega arith),
    ))) in
    omega (arith, by_number g p)
