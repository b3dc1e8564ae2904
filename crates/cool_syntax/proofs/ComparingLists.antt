-- If a function maps two lists to the same list, the two have the same length, and elements at the same position have the same value of the function.
use Rattle.std.proofs.Common.{◌≡◌, ℕ, ◌<◌, ◌≤◌, zero, suc, List, [], ◌∷◌, length, get_or, take, map, refl, arith}
use Rattle.std.proofs.lemmas.List.{take_all}

-- lists with equal images have equal images at each place
pub same_at : {A B : Type 0} (f : A → B) (xs ys : List A) (i : ℕ) (x y : A) → i < length xs → i < length ys → x ≡ get_or xs i x → y ≡ get_or ys i y → map f xs ≡ map f ys → f x ≡ f y
same_at f [] ys i x y p q d e h = absurd (omega arith)
same_at f (u ∷ us) [] i x y p q d e h = absurd (omega arith)
same_at f (u ∷ us) (v ∷ vs) zero x y p q d e h = cc
same_at f (u ∷ us) (v ∷ vs) (suc i) x y p q d e h = same_at f us vs i x y (omega arith) (omega arith) d e cc

-- lists with equal images have one length
pub same_length : {A B : Type 0} (f : A → B) (xs ys : List A) → map f xs ≡ map f ys → length xs ≡ length ys
same_length f [] [] h = refl
same_length f [] (v ∷ vs) h = absurd cc
same_length f (u ∷ us) [] h = absurd cc
same_length f (u ∷ us) (v ∷ vs) h = omega (arith, same_length f us vs cc)

-- a property of all places holds of the lists
pub same_whole : {A B : Type 0} (f : A → B) (xs ys : List A) (i : ℕ) → length xs ≤ i → length xs ≡ length ys → map f (take i xs) ≡ map f (take i ys) → map f xs ≡ map f ys
same_whole f xs ys i p e h =
    let a : take i xs ≡ xs = take_all i xs p in
    let b : take i ys ≡ ys = take_all i ys (omega arith) in
    rw (a, b) at h
