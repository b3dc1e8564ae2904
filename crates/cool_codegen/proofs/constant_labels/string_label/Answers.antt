-- `string_label` returns the label that a string has in the constant table, and in each table that extends it (`Extends`). The label stays the same because
-- constants are only added at the end.
use Rattle.std.proofs.Common.{◌≡◌, ◌++◌, ap, sym, ◌∙◌}
use Rattle.std.specs.Prelude.{bytes_eq}
use Rattle.std.specs.List.{position_or_len}
use Rattle.std.proofs.lemmas.Result.{IfOk-weaker}
use Rattle.cool_consts.specs.Constants.{Constants, string_number}
use Rattle.cool_consts.specs.Labels.{string_constant}
use Rattle.cool_codegen.specs.Asked.{Extends}
use Rattle.cool_codegen.proofs.ConstantsKept.{kept_string, kept_same}
use Rattle.cool_codegen.proofs.NumbersStay.{stays}
use Rattle.cool_codegen.proofs.constant_labels.string_label.Goals as goal
use Rattle.lists.proofs.EqualBytes.{bytes_eq-same}

pub returns-clause-label : goal.returns-clause-label
returns-clause-label c =
    let v = c.args.bytes.now in
    let old = c.args.consts.now.strings in
    let same : (g : Constants) → Extends c.string.new.self g → string_number g.strings v ≡ c.in_ok-number.number =
    λ g more. ap (position_or_len (bytes_eq v)) (more.strings.1 ∙ ap (λ xs. xs ++ more.strings.0) c.in_ok-number.ensures.strings)
    ∙ stays (bytes_eq v) old more.strings.0 v (bytes_eq-same v) ∙ sym c.in_ok-number.ensures.number in
    IfOk-weaker c.string_name.result _ _ (λ label e g more. e ∙ sym (ap string_constant (same g more))) c.string_name.ensures

pub returns-in_err-number-clause-kept : goal.returns-in_err-number-clause-kept
returns-in_err-number-clause-kept c = kept_same c.args.consts.now c.string.new.self c.in_err-number.ensures.refused

pub returns-clause-kept : goal.returns-clause-kept
returns-clause-kept c = kept_string c.args.consts.now c.string.new.self c.args.bytes.now c.string.ensures.integers c.in_ok-number.ensures.strings
