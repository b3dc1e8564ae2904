-- `add_class_names` appends the label of the table of class names and a line with the addresses of the names, as `class_names_lines` of `LinesOfLayout.antt`
-- lists them.
use Rattle.std.proofs.Common.{ap, ◌∙◌}
use Rattle.cool_runtime.specs.Labels.{name_table}
use Rattle.cool_runtime.specs.LinesOfData.{words}
use Rattle.cool_runtime.proofs.AddedLines.{with_line, in_turn}
use Rattle.cool_layout.proofs.tables.add_class_names.Goals as goal

pub returns : goal.returns
unfolding name_table
returns c =
    in_turn _ _ _ _ _ (with_line _ _ _ _ c.in_ok-push.ensures.items c.in_ok-label_line.ensures)
    (with_line _ _ _ _ c.in_ok-push-2.ensures.items (c.in_ok-word_line.ensures ∙ ap words c.in_ok-name_addresses.ensures))
