use Rattle.cool_simulation.proofs.loading.LoadedSpans.{span_of_initializer, span_of_method}
use Rattle.cool_simulation.proofs.laws.law_spans_stand.Goals as goal

pub returns : goal.returns
returns c = record { methods = λ l is. span_of_method l is; initial_values = λ l is. span_of_initializer l is }
