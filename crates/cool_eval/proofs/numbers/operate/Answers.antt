use Rattle.std.proofs.Common.{◌≡◌, ℤ, pos, negsuc, ◌<◌, ◌+ℤ◌, ◌-ℤ◌, ◌*ℤ◌, FitsSigned, w64, rules, arith, false, Option, Some, None, refl, of_z}
use Rattle.std.specs.Prelude.{SomeIff, int_div}
use Rattle.std.specs.Int.{CanDivide}
use Rattle.std.proofs.lemmas.Int.{to_z-of_z}
use Rattle.cool_meaning.specs.Numbers.{is_zero}
use Rattle.cool_meaning.specs.Evaluation.{exact}
use Rattle.cool_eval.proofs.GivenValues.{gives_same, quotient_is}
use Rattle.cool_eval.proofs.numbers.operate.Goals as goal

pub returns-in-Add-clause-value : goal.returns-in-Add-clause-value
returns-in-Add-clause-value c =
    let m = c.in_ok-left.left in
    let n = c.in_ok-right.right in
    let fits : FitsSigned w64 m = search rules in
    let fits' : FitsSigned w64 n = search rules in
    rw (c.in_ok-left.ensures, c.in_ok-right.ensures, c.in-Add.is) (gives_same c.exact.result (exact c.args.at (m +ℤ n)) _ (λ s k. refl) (c.exact.ensures.value (m +ℤ n) (simp to_z-of_z at c.checked_add.ensures)))

pub returns-in-Sub-clause-value : goal.returns-in-Sub-clause-value
returns-in-Sub-clause-value c =
    let m = c.in_ok-left.left in
    let n = c.in_ok-right.right in
    let fits : FitsSigned w64 m = search rules in
    let fits' : FitsSigned w64 n = search rules in
    rw (c.in_ok-left.ensures, c.in_ok-right.ensures, c.in-Sub.is) (gives_same c.exact-in-Sub.result (exact c.args.at (m -ℤ n)) _ (λ s k. refl) (c.exact-in-Sub.ensures.value (m -ℤ n) (simp to_z-of_z at c.checked_sub.ensures)))

pub returns-in-Mul-clause-value : goal.returns-in-Mul-clause-value
returns-in-Mul-clause-value c =
    let m = c.in_ok-left.left in
    let n = c.in_ok-right.right in
    let fits : FitsSigned w64 m = search rules in
    let fits' : FitsSigned w64 n = search rules in
    rw (c.in_ok-left.ensures, c.in_ok-right.ensures, c.in-Mul.is) (gives_same c.exact-in-Mul.result (exact c.args.at (m *ℤ n)) _ (λ s k. refl) (c.exact-in-Mul.ensures.value (m *ℤ n) (simp to_z-of_z at c.checked_mul.ensures)))

-- a divisor that is not 0
not_zero : (z : ℤ) → (of_z w64 z ≡ 0 → ⊥) → is_zero z ≡ false
not_zero (pos n) some = grind (arith, some)
not_zero (negsuc n) some = refl

-- a quotient by it is given if it fits
divided : (o : Option ℤ) (x y : ℤ) → (of_z w64 y ≡ 0 → ⊥) → SomeIff o (CanDivide w64 x y) (int_div x y) → SomeIff o (FitsSigned w64 (int_div x y)) (int_div x y)
divided None x y some none = λ fits. let above : 0 < of_z w64 y = omega (arith, some) in none (above, fits)
divided (Some n) x y some (can, is) = (can.1, is)

pub returns-else-right-eq0-clause-value : goal.returns-else-right-eq0-clause-value
returns-else-right-eq0-clause-value c =
    let m = c.in_ok-left.left in
    let n = c.in_ok-right.right in
    let fits : FitsSigned w64 m = search rules in
    let fits' : FitsSigned w64 n = search rules in
    let some : is_zero n ≡ false = not_zero n c.if-right-eq0.false in
    rw (c.in_ok-left.ensures, c.in_ok-right.ensures, c.in-Div.is) (gives_same c.exact-in-Div.result (exact c.args.at (int_div m n)) _ (λ s k. quotient_is c.args.at m n some s k) (c.exact-in-Div.ensures.value (int_div m n) (divided c.checked_div.result m n c.if-right-eq0.false (simp to_z-of_z at c.checked_div.ensures))))
