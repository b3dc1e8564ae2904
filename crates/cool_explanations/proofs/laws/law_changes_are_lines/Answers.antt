-- The changes that `changes_by` lists for an edit are lines of the file and of the edited file at their line numbers, no change is left out, and all other
-- lines stay.
use Rattle.cool_explanations.proofs.LinesReplaced.{edit_shown}
use Rattle.cool_explanations.proofs.laws.law_changes_are_lines.Goals as goal

pub returns : goal.returns
returns c = edit_shown
