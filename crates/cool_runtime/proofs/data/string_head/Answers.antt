-- `string_head` returns the assembly lines of a String without its bytes (`string_head_lines` of `LinesOfData.antt`), because it calls `object` with the
-- address of the length as the only field.
use Rattle.std.proofs.Common.{◌≡◌, List, [], ◌∷◌, map, ap, ◌∙◌, subst}
use Rattle.std.specs.Prelude.{IfOk}
use Rattle.mips_isa.specs.Lines.{WordItem, lines_of, item_of}
use Rattle.cool_runtime.specs.Labels.{string_table}
use Rattle.cool_runtime.specs.LinesOfData.{object_lines}
use Rattle.cool_runtime.proofs.data.string_head.Goals as goal

pub returns : goal.returns
unfolding string_table
returns c =
    subst
    (λ (fields : List WordItem). IfOk c.object.result (λ lines. lines_of lines.items ≡ object_lines c.args.name.now c.args.tag c.args.size string_table fields))
    (ap (map item_of) c.in_ok-fields.ensures.items ∙ ap (λ (item : WordItem). item ∷ []) c.in_ok-address.ensures) c.object.ensures
