use Rattle.cool_driver.specs.{Sources.{IsNoProgram}, commands.Debug.{IsNoDebuggee, IsDueToScript}}
use Rattle.cool_driver.proofs.{ProgramsMeant.{program_fits, program_meant}, RefusalsTold.{told_so, other_lined}, rooms.Debuggings.{debuggee_if, misscripted_if}, Results.{for_err}}
use Rattle.std.proofs.Common.{List, arith, length, ◌∷◌, [], ℕ}
use Rattle.cool_classes.specs.Chains.{Class}
use Rattle.cool_driver.specs.{Calls.{ShelfUse}, Sources.{EndsWith, GrewBy, IsProgram}}
use Rattle.cool_driver.proofs.HeldFiles.{first_then, held_length}
use Rattle.cool_words.specs.Plans.{words_of}
use Rattle.cool_driver.proofs.commands.debug.read_scripted.Goals as goal

-- the program fits so many files as there are names
pub script_program-requires-clause-fits : goal.script_program-requires-clause-fits
script_program-requires-clause-fits g c = program_fits c.args.names.now _ c.in-Ok.program c.in-Ok.ensures.program

-- the script is not too large
pub script_program-requires-clause-small : goal.script_program-requires-clause-small
script_program-requires-clause-small g c = c.requires.read.within

-- they were given after the script
given_after : {names : List (List ℕ)} {shelf : ShelfUse} {p : List Class} {bytes : List ℕ} {before : List (List ℕ)} → (is : IsProgram shelf names p)
    → EndsWith (bytes ∷ []) before → GrewBy (length names) before shelf.gave_after → EndsWith (bytes ∷ is.contents) shelf.gave_after
given_after {names} {shelf} {p} {bytes} {before} is script grew =
    first_then bytes names is.contents before shelf.gave_after script grew is.read.gave (held_length shelf.files names is.contents is.read.held)

-- the files are a program
pub returns-in-Ok-clause-debuggee : goal.returns-in-Ok-clause-debuggee
returns-in-Ok-clause-debuggee g c =
    let is = c.in-Ok.ensures.program in
    let script = c.requires.read in
    debuggee_if c.script_program.result (record { held = script.held; within = script.within }) is (given_after is c.requires.gave c.in-Ok.ensures.grew)
    (program_meant c.args.names.now _ c.in-Ok.program c.requires.names is) c.script_program.ensures.image c.script_program.ensures.says

pub returns-in-Ok-clause-refused : goal.returns-in-Ok-clause-refused
returns-in-Ok-clause-refused g c =
    let script = c.requires.read in
    misscripted_if c.script_program.result (record { held = script.held; within = script.within }) c.in-Ok.ensures.program
    (given_after c.in-Ok.ensures.program c.requires.gave c.in-Ok.ensures.grew) c.script_program.ensures.refused

-- they are none
pub returns-in-Err-clause-refused : goal.returns-in-Err-clause-refused
returns-in-Err-clause-refused g c =
    let script = c.requires.read in
    told_so (IsNoProgram _ _) (IsNoDebuggee _ _ _) c.in-Err.refusal (λ status note why. IsNoDebuggee.refused _ status note (record { held = script.held; within = script.within }) why) c.in-Err.ensures.refused

pub returns-in-Ok-clause-lined : goal.returns-in-Ok-clause-lined
returns-in-Ok-clause-lined g c =
    for_err _ _ c.script_program.result
    (λ refusal. other_lined (IsDueToScript c.args.script.now c.args.bytes.now (words_of c.args.names.now) c.in-Ok.program) _ _ refusal (λ status note why e. omega (arith, why.2, e)))
    c.script_program.ensures.refused
