-- `Emission::assemble` runs both passes of the assembler over the lines of the program. The second pass begins with all lines left (`HasLeft`), because the
-- first pass has taken all of them.
use Rattle.std.proofs.Common.{◌∙◌, Err, ap}
use Rattle.std.proofs.lemmas.Result.{err_from_is_err_and}
use Rattle.cool_emit.specs.Additions.{files_of}
use Rattle.cool_emit.specs.Programs.{program_lines}
use Rattle.cool_emit.proofs.PassesEnd.{first_ends}
use Rattle.cool_emit.proofs.ProgramsAreSound.{programs_sound}
use Rattle.cool_emit.proofs.SoundLinesAssemble.{in_range}
use Rattle.cool_emit.proofs.emission.Emission.assemble.Goals as goal

pub returns-in_err-second : goal.returns-in_err-second
returns-in_err-second c =
    let p = c.args.self.now.program.now in
    let files = files_of c.args.self.now in
    let ends = err_from_is_err_and c.from_residual-in_err-second.result c.from_residual-in_err-second.ensures.1 in
    first_ends (program_lines p files) c.in_err-second.field-0.0
    (c.in_err-second.ensures (program_lines p files) (in_range _ _ (programs_sound p files c.requires.sound.buildable)) c.in_ok-pass.ensures.taken)
    c.from_residual-in_err-second.result (ends.1 ∙ ap Err ends.2)

pub second_pass-requires-clause-all : goal.second_pass-requires-clause-all
second_pass-requires-clause-all c =
    let p = c.args.self.now.program.now in
    let files = files_of c.args.self.now in
    c.in_ok-second.ensures (program_lines p files) (in_range _ _ (programs_sound p files c.requires.sound.buildable)) c.in_ok-pass.ensures.taken
