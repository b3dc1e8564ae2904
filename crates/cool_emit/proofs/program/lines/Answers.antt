-- `lines` returns the assembly lines of a whole program (`program_lines`): text and data, with the constants that all features use. The lines satisfy
-- `AreSound`, the condition for assembling, because the program is within the limits.
use Rattle.std.proofs.Common.{◌≡◌, ◌∙◌, ◌++◌, ◌∷◌, List, map, ap}
use Rattle.std.specs.Prelude.{string_bytes}
use Rattle.mips_isa.specs.Assembly.{directive_line}
use Rattle.mips_isa.specs.Lines.{Line, ToData, lines_of}
use Rattle.cool_runtime.specs.RoutineLines.{all_routine_lines}
use Rattle.cool_consts.specs.Constants.{Constants}
use Rattle.cool_codegen.specs.Asked.{with_integers, with_strings}
use Rattle.cool_codegen.proofs.NumbersAgree.{extends_same}
use Rattle.cool_emit.specs.Additions.{integers_asked, strings_asked}
use Rattle.cool_emit.specs.Programs.{all_features, classes_code, data_lines, program_constants}
use Rattle.cool_emit.proofs.ProgramsAreSound.{names_sound}
use Rattle.cool_emit.proofs.program.lines.Goals as goal

pub returns-clause-lines : goal.returns-clause-lines
returns-clause-lines c =
    let p = c.args.p.now in
    let files = map string_bytes c.args.names.now in
    let constants = c.add_text.new.consts in
    let classes = c.in_ok-add_text.ensures in
    let all : constants ≡ program_constants p files =
    classes.constants
    ∙ (λ i. record {
      integers = with_integers (c.new-consts.ensures.integers i) (integers_asked (all_features p));
      strings = with_strings (c.new-consts.ensures.strings i) (strings_asked files (all_features p));
    }) in
    c.in_ok-add_data.ensures
    ∙ (ap (λ (ls : List Line). ls ++ directive_line ToData ∷ data_lines p constants)
    (classes.lines constants (extends_same constants) ∙ ap (λ ls. lines_of ls ++ (all_routine_lines ++ classes_code p files constants)) c.new-lines.ensures.items)
    ∙ ap (λ (t : Constants). (all_routine_lines ++ classes_code p files t) ++ directive_line ToData ∷ data_lines p t) all)

pub returns-in_err-layout-clause-sound : goal.returns-in_err-layout-clause-sound
returns-in_err-layout-clause-sound c =
    names_sound c.args.p.now c.table.result.now c.args.names.now c.table.ensures.table c.requires.fits
    c.requires.names c.table.ensures.typed

pub returns-in_err-sections-clause-sound : goal.returns-in_err-sections-clause-sound
returns-in_err-sections-clause-sound c =
    names_sound c.args.p.now c.table.result.now c.args.names.now c.table.ensures.table c.requires.fits
    c.requires.names c.table.ensures.typed

pub returns-in_err-add_text-clause-sound : goal.returns-in_err-add_text-clause-sound
returns-in_err-add_text-clause-sound c =
    names_sound c.args.p.now c.table.result.now c.args.names.now c.table.ensures.table c.requires.fits
    c.requires.names c.table.ensures.typed

pub returns-in_err-add_data-clause-sound : goal.returns-in_err-add_data-clause-sound
returns-in_err-add_data-clause-sound c =
    names_sound c.args.p.now c.table.result.now c.args.names.now c.table.ensures.table c.requires.fits
    c.requires.names c.table.ensures.typed

pub returns-clause-sound : goal.returns-clause-sound
returns-clause-sound c =
    names_sound c.args.p.now c.table.result.now c.args.names.now c.table.ensures.table c.requires.fits
    c.requires.names c.table.ensures.typed
