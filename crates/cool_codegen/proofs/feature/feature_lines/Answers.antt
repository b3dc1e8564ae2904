-- `feature_lines` returns the lines of assembly of a feature, which are those of the code that `wanted_code` makes for the feature.
use Rattle.cool_codegen.proofs.feature.feature_lines.Goals as goal

pub returns-clause-lines : goal.returns-clause-lines
returns-clause-lines c x is g more = (c.in_ok-lines.ensures.made x is).lines g more
