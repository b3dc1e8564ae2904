-- The number of a constant in the constant table does not change if more constants are added after it.
use Rattle.std.proofs.Common.{◌≡◌, List, [], ◌∷◌, ◌++◌, Bool, true, false, refl, arith}
use Rattle.std.specs.Prelude.{if◌then◌else◌}
use Rattle.std.specs.List.{position_or_len, list_any}

stays_there : {X : Type 0} (p : X → Bool) (x : X) (xs rest : List X) (v : X)
    → position_or_len p ((if list_any p xs then xs else xs ++ v ∷ []) ++ rest) ≡ position_or_len p xs
    → (b : Bool) → p x ≡ b → (a : Bool) → list_any p xs ≡ a
    → position_or_len p ((if list_any p (x ∷ xs) then x ∷ xs else (x ∷ xs) ++ v ∷ []) ++ rest) ≡ position_or_len p (x ∷ xs)
stays_there p x xs rest v more true e a f = grind (arith, e)
stays_there p x xs rest v more false e true f = grind (arith, e, f, more)
stays_there p x xs rest v more false e false f = grind (arith, e, f, more)

pub stays : {X : Type 0} (p : X → Bool) (xs rest : List X) (v : X) → p v ≡ true → position_or_len p ((if list_any p xs then xs else xs ++ v ∷ []) ++ rest) ≡ position_or_len p xs
stays p [] rest v h = grind (arith, h)
stays p (x ∷ xs) rest v h = stays_there p x xs rest v (stays p xs rest v h) (p x) refl (list_any p xs) refl
