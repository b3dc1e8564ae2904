-- The code of an arithmetic operation adds one constant to the constant table, the name of its source file, and that of a division asks for this constant
-- twice.
use Rattle.std.proofs.Common.{◌≡◌, ℕ, List, []}
use Rattle.std.specs.Prelude.{get_or}
use Rattle.cool_syntax.specs.declared.place.Place.{Place}
use Rattle.cool_syntax.specs.declared.operator.ArithOp.{ArithOp}
use Rattle.cool_syntax.specs.declared.operator.ArithOp.TheVariants as arith
use Rattle.cool_consts.specs.Constants.{Constants, with_string}
use Rattle.cool_codegen.specs.Numbered.{operation_asked, tested_strings}

-- the table after an operation, by the strings after its test
pub asked_is : (files : List (List ℕ)) (op : ArithOp) (at : Place) (t u : Constants) → u.integers ≡ t.integers
    → u.strings ≡ with_string (tested_strings files op at t.strings) (get_or files at.file []) → u ≡ operation_asked files op at t
asked_is files arith.Add at t u e f = λ i. record { integers = e i; strings = f i }
asked_is files arith.Sub at t u e f = λ i. record { integers = e i; strings = f i }
asked_is files arith.Mul at t u e f = λ i. record { integers = e i; strings = f i }
asked_is files arith.Div at t u e f = λ i. record { integers = e i; strings = f i }
