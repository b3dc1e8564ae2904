use Rattle.std.proofs.Common.{neg_ℤ, FitsSigned, w64, refl, rules}
use Rattle.std.proofs.lemmas.Int.{to_z-of_z}
use Rattle.cool_meaning.specs.Evaluation.{exact}
use Rattle.cool_eval.proofs.GivenValues.{gives_same}
use Rattle.cool_eval.proofs.numbers.negate.Goals as goal

pub returns-clause-value : goal.returns-clause-value
returns-clause-value c =
    let n = c.in_ok-number.field-0 in
    let fits : FitsSigned w64 n = search rules in
    rw c.in_ok-number.ensures (gives_same c.exact.result (exact c.args.at (neg_ℤ n)) _ (λ s k. refl) (c.exact.ensures.value (neg_ℤ n) (simp to_z-of_z at c.checked_neg.ensures)))
