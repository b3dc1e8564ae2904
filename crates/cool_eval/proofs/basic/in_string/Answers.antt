use Rattle.std.proofs.Common.{◌≡◌, Err, refl, rules}
use Rattle.cool_meaning.specs.Values.{Str}
use Rattle.cool_meaning.specs.BasicMethods.{line_of}
use Rattle.cool_eval.proofs.MethodsAct.{acts_untaken, acts_string}
use Rattle.cool_eval.proofs.basic.in_string.Goals as goal

pub returns-in_err-line-clause-acts : goal.returns-in_err-line-clause-acts
returns-in_err-line-clause-acts g c = λ p at v vs store sink first output input rest before leaves ended n.
    let same : c.from_residual.result ≡ Err c.in_err-line.field-0.0 = search rules in
    rw same (acts_untaken c.in_err-line.field-0.0 (Str (line_of input).bytes) store first sink output input rest n _ before (c.in_err-line.ensures.line input rest leaves ended) refl)

pub returns-clause-acts : goal.returns-clause-acts
returns-clause-acts g c = λ p at v vs store sink first output input rest before leaves ended n.
    acts_string c.string.result c.in_ok-line.line.items rest input output store first sink n _ c.string.ensures.string c.string.ensures.memory before (c.in_ok-line.ensures.line input rest leaves ended) refl
