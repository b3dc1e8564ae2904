-- `negative` returns a number below 2 ^ 31 with the other sign, which fits into an `i32`.
use Rattle.std.proofs.Common.{◌≡◌, ℕ, zero, suc, ap, ◌∙◌, refl, w32, rules, arith}
use Rattle.std.specs.Prelude.{pos, ◌-ℤ◌}
use Rattle.std.proofs.lemmas.Int.{to_z-of_z, to_z_pos}
use Rattle.cool_codegen.specs.Code.{minus}
use Rattle.cool_codegen.proofs.number.negative.Goals as goal

-- taken from 0
from_zero : (n : ℕ) → pos 0 -ℤ pos n ≡ minus n
from_zero zero = refl
from_zero (suc n) = grind arith

pub returns : goal.returns
returns c = to_z-of_z w32 _ (search (rules, arith)) ∙ ap (λ z. pos 0 -ℤ z) (to_z_pos w32 c.args.number c.requires) ∙ from_zero c.args.number
