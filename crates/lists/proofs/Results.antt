-- If each possible value has a consequence, the value of a result that is no error has it.
use Rattle.std.proofs.Common.{◌≡◌, Result, Ok, Err, is_err, IfOk, OnOk, false}

pub on_ok : {T E P : Type 0} (result : Result T E) → is_err result ≡ false → OnOk result P → P
on_ok (Ok x) e p = p
on_ok (Err x) e p = absurd cc

-- a consequence for each value holds for one that was made
pub for_ok : {T E : Type 0} (P Q : T → Type 0) (result : Result T E) → ((made : T) → P made → Q made) → IfOk result P → IfOk result Q
for_ok P Q (Err e) f h = tt
for_ok P Q (Ok made) f h = f made h
