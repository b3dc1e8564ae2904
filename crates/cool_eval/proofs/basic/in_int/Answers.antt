use Rattle.std.proofs.Common.{◌≡◌, Err, refl, ap, ◌∙◌, arith, rules, to_z, of_z, w64}
use Rattle.std.proofs.lemmas.Int.{ints}
use Rattle.cool_meaning.specs.Values.{Int}
use Rattle.cool_meaning.specs.Numbers.{number_of}
use Rattle.cool_meaning.specs.BasicMethods.{line_of}
use Rattle.cool_eval.specs.declared.value.Value.TheVariants as value
use Rattle.cool_eval.proofs.MethodsAct.{acts_number, acts_untaken}
use Rattle.cool_eval.proofs.basic.in_int.Goals as goal

pub returns-in_err-line-clause-acts : goal.returns-in_err-line-clause-acts
returns-in_err-line-clause-acts g c = λ p at v vs store sink first output input rest before leaves ended n.
    let same : c.from_residual.result ≡ Err c.in_err-line.field-0.0 = search rules in
    rw same (acts_untaken c.in_err-line.field-0.0 (Int (number_of (line_of input).bytes)) store first sink output input rest n _ before (c.in_err-line.ensures.line input rest leaves ended) refl)

pub returns-clause-acts : goal.returns-clause-acts
returns-clause-acts g c = λ p at v vs store sink first output input rest before leaves ended n.
    let made : to_z w64 (of_z w64 c.from.result) ≡ c.number_of.result = omega (arith, ints) in
    let counted : c.number_of.result ≡ number_of c.in_ok-line.line.items = c.number_of.ensures ∙ ap number_of c.as_slice.ensures.value in
    acts_number (value.Int (to_z w64 (of_z w64 c.from.result))) c.number_of.result c.in_ok-line.line.items rest input output store first sink n _ (ap Int made) counted before (c.in_ok-line.ensures.line input rest leaves ended) refl
