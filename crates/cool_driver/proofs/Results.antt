-- Lemmas on `Result` values: a fact that always holds also holds for an `Ok` value, and a fact about each error holds for the error returned.
use Rattle.std.specs.Prelude.{Result, Ok, Err, IfErr, OnOk}

-- a fact holds for an `Ok` result, too
pub on_ok : {T E : Type 0} {P : Type 0} (result : Result T E) → P → OnOk result P
on_ok (Ok made) p = p
on_ok (Err e) p = tt

-- and what follows for each error follows for one that came
pub for_err : {T E : Type 0} (P Q : E → Type 0) (result : Result T E) → ((error : E) → P error → Q error) → IfErr result P → IfErr result Q
for_err P Q (Ok made) f h = tt
for_err P Q (Err e) f h = f e h
