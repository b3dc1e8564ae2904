-- Lemmas on sums over a list: sums of joined lists, of mapped lists, and of functions that are nowhere greater.
use Rattle.std.proofs.Common.{◌≡◌, ℕ, ◌+◌, ◌*◌, ◌≤◌, List, [], ◌∷◌, ◌++◌, length, flat_map, refl, arith}

abbrev pub total : {X : Type 0} → (X → ℕ) → List X → ℕ
total f [] = 0
total f (x ∷ xs) = f x + total f xs

-- the total over two lists, one after the other
pub total-append : {X : Type 0} (f : X → ℕ) (xs ys : List X) → total f (xs ++ ys) ≡ total f xs + total f ys
total-append f [] ys = omega arith
total-append f (x ∷ xs) ys = omega (arith, total-append f xs ys)

-- the total over lists that are joined is that of the totals of each
pub total-flat_map : {X Y : Type 0} (f : Y → ℕ) (g : X → List Y) (xs : List X) → total f (flat_map g xs) ≡ total (λ x. total f (g x)) xs
total-flat_map f g [] = refl
total-flat_map f g (x ∷ xs) = omega (arith, total-append f (g x) (flat_map g xs), total-flat_map f g xs)

-- a function that is nowhere greater has no greater total
pub total-le : {X : Type 0} (f g : X → ℕ) (xs : List X) → ((x : X) → f x ≤ g x) → total f xs ≤ total g xs
total-le f g [] le = omega arith
total-le f g (x ∷ xs) le = omega (arith, le x, total-le f g xs le)

-- the total of a sum, and of one number
pub total-sum : {X : Type 0} (f g : X → ℕ) (xs : List X) → total (λ x. f x + g x) xs ≡ total f xs + total g xs
total-sum f g [] = omega arith
total-sum f g (x ∷ xs) = omega (arith, total-sum f g xs)

pub total-const : {X : Type 0} (n : ℕ) (xs : List X) → total (λ x. n) xs ≡ n * length xs
total-const n [] = grind arith
total-const n (x ∷ xs) = grind (arith, total-const n xs)
