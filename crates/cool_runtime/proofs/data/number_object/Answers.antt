-- `number_object` returns the assembly lines of an object that holds one number (`number_lines` of `LinesOfData.antt`), because it calls `object` with the
-- number as the only field.
use Rattle.std.proofs.Common.{◌≡◌, List, [], ◌∷◌, map, ap, ◌∙◌, subst}
use Rattle.std.specs.Prelude.{IfOk}
use Rattle.mips_isa.specs.Lines.{WordItem, lines_of, item_of}
use Rattle.cool_runtime.specs.LinesOfData.{object_lines}
use Rattle.cool_runtime.proofs.data.number_object.Goals as goal

pub returns : goal.returns
returns c =
    subst
    (λ (fields : List WordItem). IfOk c.object.result (λ lines. lines_of lines.items ≡ object_lines c.args.name.now c.args.tag 4 c.args.table.now fields))
    (ap (map item_of) c.in_ok-fields.ensures.items ∙ ap (λ (item : WordItem). item ∷ []) c.number.ensures) c.object.ensures
