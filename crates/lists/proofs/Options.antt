-- Lemmas on the tests whether an option has a value, and on a look-up that copies this value.
use Rattle.std.proofs.Common.{◌≡◌, ℕ, Option, Some, None, is_some, IsSome, option_copied, Bor, true, false, true≢false, refl, sym}

-- the test fails at none
pub none_is : {X : Type 0} (o : Option X) → is_some o ≡ false → o ≡ None
none_is None h = refl
none_is (Some x) h = absurd (true≢false h)

-- and passes at a value
pub some_value : {X : Type 0} (o : Option X) → is_some o ≡ true → (x : X) × (o ≡ Some x)
some_value (Some x) h = (x, refl)
some_value None h = absurd (true≢false (sym h))

pub value_of : {X : Type 0} (o : Option X) → IsSome o → (x : X) × (o ≡ Some x)
value_of o some = some_value o some

-- a look-up that copies finds as much
pub copied_some : (o : Option (Bor ℕ)) → is_some (option_copied o) ≡ is_some o
copied_some None = refl
copied_some (Some c) = refl
