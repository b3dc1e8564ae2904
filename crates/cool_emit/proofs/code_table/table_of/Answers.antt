-- `table_of` returns `table_text`, the debug information of a program: the rows of the classes, and then those of their code. Each step of its loop appends the
-- rows of the code of one class.
use Rattle.std.proofs.Common.{◌≡◌, ◌∙◌, ℕ, ◌+◌, ◌++◌, ◌<◌, length, flat_map, ap, arith}
use Rattle.mips_isa.specs.Lines.{lines_of}
use Rattle.mips_isa.specs.declared.address_map.TheConstants.{TEXT_START}
use Rattle.cool_runtime.specs.RoutineLines.{all_routine_lines}
use Rattle.cool_runtime.specs.Standing.{sizes}
use Rattle.cool_layout.specs.Preorder.{numbers_from}
use Rattle.cool_codegen.specs.Spans.{along}
use Rattle.cool_emit.specs.Additions.{files_of}
use Rattle.cool_emit.specs.CodeTables.{class_rows}
use Rattle.cool_emit.specs.Programs.{class_code}
use Rattle.cool_emit.specs.SpansOfPrograms.{told_in_class}
use Rattle.cool_emit.specs.TableLines.{row_line}
use Rattle.cool_emit.specs.Tellings.{constants, rows_of}
use Rattle.cool_emit.proofs.ClassesTold.{address_more, text_more}
use Rattle.cool_emit.proofs.RoomOfTables.{class_below, routines_below}
use Rattle.cool_emit.proofs.code_table.table_of.Goals as goal

pub pass-requires : goal.pass-requires
pass-requires c =
    let e = c.args.emission.now in
    let below = routines_below e.program.now (files_of e) c.requires.sound.buildable in
    let is : sizes (lines_of c.deref.result.now) ≡ sizes all_routine_lines = ap (λ ls. sizes (lines_of ls)) c.deref.ensures.value ∙ ap sizes c.in_ok-routines.ensures in
    record { room = omega arith }

pub add_class-requires-clause-room : goal.add_class-requires-clause-room
add_class-requires-clause-room c =
    let e = c.args.emission.now in
    let p = e.program.now in
    let count = c.count-number-end.ensures.count ∙ ap length c.table.ensures in
    let test = c.loop-number-test.true in
    let less : c.loop-number.number < length p = omega arith in
    let below = class_below p (files_of e) c.loop-number.number c.requires.sound.buildable less in
    let address = c.loop-number.invariant.address in
    omega arith

pub loop-number-preserved : goal.loop-number-preserved
loop-number-preserved c =
    let e = c.args.emission.now in
    let p = e.program.now in
    let pc = TEXT_START + sizes all_routine_lines in
    record {
      address = address_more e c.loop-number.number pc c.loop-number.told c.add_class.new.self c.loop-number.invariant.address c.in_ok-add_class.ensures;
      text = text_more e c.loop-number.number pc (flat_map (class_rows p) (numbers_from 0 (length p))) c.loop-number.told c.add_class.new.self c.loop-number.invariant.address c.loop-number.invariant.text c.in_ok-add_class.ensures;
    }

pub returns : goal.returns
returns c =
    let e = c.args.emission.now in
    let p = e.program.now in
    let count = c.count-number-end.ensures.count ∙ ap length c.table.ensures in
    let most = c.loop-number.auto.number-end in
    let least = c.loop-number-test.false in
    let all : c.loop-number.number ≡ length p = omega arith in
    c.loop-number.invariant.text
    ∙ ap
    (λ (n : ℕ). flat_map (row_line p) (flat_map (class_rows p) (numbers_from 0 (length p))
    ++ along sizes (class_code p (files_of e) (constants e)) (told_in_class sizes p (files_of e) (constants e) (rows_of e)) (TEXT_START + sizes all_routine_lines) (numbers_from 0 n)))
    all
