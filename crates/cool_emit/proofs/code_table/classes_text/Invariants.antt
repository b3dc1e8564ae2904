-- In the loop of `classes_text`, the result so far has the rows of debug information of the classes passed.
use Rattle.std.proofs.Common.{◌≡◌, flat_map}
use Rattle.cool_layout.specs.Preorder.{numbers_from}
use Rattle.cool_emit.specs.CodeTables.{class_rows}
use Rattle.cool_emit.specs.TableLines.{row_line}
use Rattle.cool_emit.proofs.code_table.classes_text.Given as goal

abbrev pub invariant-loop-number : goal.invariant-loop-number
invariant-loop-number l = l.text.items ≡ flat_map (row_line l.emission.program.now) (flat_map (class_rows l.emission.program.now) (numbers_from 0 l.number))
