-- `add_defaults` appends the lines of assembly of the Int object 0 and then those of the empty String, as `default_lines` of `LinesOfLayout.antt` lists them.
use Rattle.std.proofs.Common.{ℕ, List, ap, ◌∙◌}
use Rattle.mips_isa.specs.Lines.{Line, WordItem}
use Rattle.cool_runtime.specs.Labels.{string_table}
use Rattle.cool_runtime.specs.LinesOfData.{int_lines, object_lines}
use Rattle.cool_runtime.specs.RoutineLabels.{default_int, default_string}
use Rattle.cool_runtime.proofs.AddedLines.{with_lines, adds, then_in_turn}
use Rattle.cool_layout.specs.LinesOfLayout.{empty_string_fields}
use Rattle.cool_layout.proofs.prototypes.add_defaults.Goals as goal

pub returns : goal.returns
unfolding default_int default_string string_table
returns c =
    let string : ℕ → List WordItem → List Line = λ tag fields. object_lines default_string tag 5 string_table fields in
    then_in_turn c.append-2.result _ _ _ _ _
    (with_lines _ _ _ _ c.in_ok-append.ensures.items (c.in_ok-int_object.ensures ∙ ap (λ (tag : ℕ). int_lines default_int tag 0) c.requires.int))
    (adds c.append-2.result _ _ _ _ c.append-2.ensures.items
    (c.in_ok-string.ensures ∙ ap (string c.args.tags.string) c.in_ok-empty_string_fields.ensures ∙ ap (λ (tag : ℕ). string tag empty_string_fields) c.requires.string))
