use Rattle.std.proofs.Common.{◌≡◌, false, sym, subst}
use Rattle.std.specs.Prelude.{Result, Ok, Err, OnOk}
use Rattle.std.specs.Result.{is_err}
use Rattle.std.specs.Str.{IsUtf8}
use Rattle.spim_debug.proofs.HexDigits.{IsUtf8-encode_lower}
use Rattle.spim_debug.proofs.digits.hexadecimal_digits.Goals as goal

-- the facts about a result that is no error
on_ok : {T E P : Type 0} (result : Result T E) → false ≡ is_err result → OnOk result P → P
on_ok (Ok x) e p = p
on_ok (Err x) e p = absurd cc

-- the digits are text
pub unreachable-requires-in-Err : goal.unreachable-requires-in-Err
unreachable-requires-in-Err c =
    let written = on_ok c.encode_to_slice.result c.if-is_err.ensures.value c.encode_to_slice.ensures.written in
    let text = c.in-Err.ensures.variant.1 (subst IsUtf8 (sym written) (IsUtf8-encode_lower c.to_be_bytes.result)) in
    absurd cc
