-- `int_label` returns the label that an integer has in the constant table, and in each table that extends it (`Extends`). The label stays the same because
-- constants are only added at the end.
use Rattle.std.proofs.Common.{◌≡◌, ◌++◌, ap, sym, ◌∙◌}
use Rattle.std.specs.Prelude.{nat_eq}
use Rattle.std.specs.List.{position_or_len}
use Rattle.std.proofs.lemmas.Result.{IfOk-weaker}
use Rattle.cool_consts.specs.Constants.{Constants, integer_number}
use Rattle.cool_consts.specs.Labels.{int_constant}
use Rattle.cool_codegen.specs.Asked.{Extends}
use Rattle.cool_codegen.proofs.ConstantsKept.{kept_integer, kept_same}
use Rattle.cool_codegen.proofs.NumbersStay.{stays}
use Rattle.cool_codegen.proofs.constant_labels.int_label.Goals as goal
use Rattle.lists.proofs.Numbers.{nat_eq-same}

pub returns-clause-label : goal.returns-clause-label
returns-clause-label c =
    let v = c.args.value in
    let old = c.args.consts.now.integers in
    let same : (g : Constants) → Extends c.int.new.self g → integer_number g.integers v ≡ c.in_ok-number.number =
    λ g more. ap (position_or_len (nat_eq v)) (more.integers.1 ∙ ap (λ xs. xs ++ more.integers.0) c.in_ok-number.ensures.integers)
    ∙ stays (nat_eq v) old more.integers.0 v (nat_eq-same v) ∙ sym c.in_ok-number.ensures.number in
    IfOk-weaker c.int_name.result _ _ (λ label e g more. e ∙ sym (ap int_constant (same g more))) c.int_name.ensures

pub returns-in_err-number-clause-kept : goal.returns-in_err-number-clause-kept
returns-in_err-number-clause-kept c = kept_same c.args.consts.now c.int.new.self c.in_err-number.ensures.refused

pub returns-clause-kept : goal.returns-clause-kept
returns-clause-kept c = kept_integer c.args.consts.now c.int.new.self c.args.value c.in_ok-number.ensures.integers c.int.ensures.strings
