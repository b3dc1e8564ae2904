-- In the loop of `table_of`, the result so far has the rows of all classes, and those of the code of the classes passed.
use Rattle.std.proofs.Common.{◌≡◌, ◌+◌, ◌++◌, flat_map, length}
use Rattle.mips_isa.specs.declared.address_map.TheConstants.{TEXT_START}
use Rattle.cool_runtime.specs.RoutineLines.{all_routine_lines}
use Rattle.cool_runtime.specs.Standing.{sizes}
use Rattle.cool_layout.specs.Preorder.{numbers_from}
use Rattle.cool_codegen.specs.Spans.{along}
use Rattle.cool_emit.specs.Additions.{files_of}
use Rattle.cool_emit.specs.CodeTables.{class_rows}
use Rattle.cool_emit.specs.Programs.{class_code}
use Rattle.cool_emit.specs.SpansOfPrograms.{told_in_class}
use Rattle.cool_emit.specs.TableLines.{row_line}
use Rattle.cool_emit.specs.Tellings.{constants, rows_of}
use Rattle.cool_emit.proofs.code_table.table_of.Given as goal

abbrev pub invariant-loop-number : goal.invariant-loop-number
invariant-loop-number l = record {
  address : l.told.address ≡ TEXT_START + sizes all_routine_lines + sizes (flat_map (class_code l.emission.program.now (files_of l.emission) (constants l.emission)) (numbers_from 0 l.number));
  text : l.told.text.items ≡ flat_map (row_line l.emission.program.now) (flat_map (class_rows l.emission.program.now) (numbers_from 0 (length l.emission.program.now))
      ++ along sizes (class_code l.emission.program.now (files_of l.emission) (constants l.emission)) (told_in_class sizes l.emission.program.now (files_of l.emission) (constants l.emission) (rows_of l.emission))
      (TEXT_START + sizes all_routine_lines) (numbers_from 0 l.number));
}
