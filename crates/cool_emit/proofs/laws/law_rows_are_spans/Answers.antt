use Rattle.cool_emit.proofs.RowsOfSpans.{rows_are_spans, rows_of_features}
use Rattle.cool_emit.proofs.ScopesOfRows.{scopes_of_rows}
use Rattle.cool_emit.proofs.laws.law_rows_are_spans.Goals as goal

pub returns : goal.returns
returns c = record { spans = rows_are_spans; features = rows_of_features; scopes = scopes_of_rows }
