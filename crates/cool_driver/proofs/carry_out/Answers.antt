use Rattle.std.proofs.Common.{◌≡◌, ◌∙◌, None, Option, Some, ap, refl}
use Rattle.std.specs.Prelude.{Err, Ok, Result}
use Rattle.cool_ports.proofs.AskedNames.{asked_none}
use Rattle.cool_words.specs.{Plans.{Answers, Asked, asked_by}, declared.plan.Plan.{Plan}, declared.words_error.WordsError.{WordsError}}
use Rattle.cool_words.specs.declared.words_error.WordsError.TheVariants.{Usage}
use Rattle.cool_driver.proofs.{DoingsByPlan.{command_does, short_does, usage_does}, rooms.Sessions.{read_fault_of_seven}}
use Rattle.cool_driver.proofs.carry_out.Goals as goal

-- a plan is what is asked for
asked_so : {asked : Option Asked} {read : Result Plan WordsError} {p q : Plan} → read ≡ Ok p → p ≡ q → Answers asked_by asked read
    → asked ≡ Some (asked_by q)
asked_so is same answers = rw (is ∙ ap Ok same) at answers

-- and where the words are at fault, nothing is
unasked : {asked : Option Asked} {read : Result Plan WordsError} {e : WordsError} → read ≡ Err e → e ≡ Usage → Answers asked_by asked read
    → asked ≡ None
unasked is same answers = (rw (is ∙ ap Err same) at answers) refl

pub returns-in-Ok-Check-clause-does : goal.returns-in-Ok-Check-clause-does
returns-in-Ok-Check-clause-does g c asked answers =
    command_does (rw (← c.deref.ensures.value) at (asked_so c.in-Ok-Check.is c.in-Ok-Check.field-0-is answers)) (c.check_files.ensures _ _)

pub returns-in-Ok-Asm-clause-does : goal.returns-in-Ok-Asm-clause-does
returns-in-Ok-Asm-clause-does g c asked answers =
    command_does (rw (← c.deref-in-Ok-Asm.ensures.value) at (asked_so c.in-Ok-Asm.is c.in-Ok-Asm.field-0-is answers)) (c.build_files.ensures _)

pub returns-in-Ok-Build-clause-does : goal.returns-in-Ok-Build-clause-does
returns-in-Ok-Build-clause-does g c asked answers =
    command_does (rw (← c.deref-in-Ok-Build.ensures.value) at (asked_so c.in-Ok-Build.is c.in-Ok-Build.field-0-is answers)) (c.build_files-in-Ok-Build.ensures _)

pub returns-in-Ok-Run-clause-does : goal.returns-in-Ok-Run-clause-does
returns-in-Ok-Run-clause-does g c asked answers = command_does (asked_so c.in-Ok-Run.is c.in-Ok-Run.field-0-is answers) c.run_files.ensures

pub returns-in-Ok-Eval-clause-does : goal.returns-in-Ok-Eval-clause-does
returns-in-Ok-Eval-clause-does g c asked answers =
    command_does (rw (← c.deref-in-Ok-Eval.ensures.value) at (asked_so c.in-Ok-Eval.is c.in-Ok-Eval.field-0-is answers)) c.evaluate_files.ensures

pub returns-in-Ok-Exec-clause-does : goal.returns-in-Ok-Exec-clause-does
returns-in-Ok-Exec-clause-does g c asked answers = command_does (asked_so c.in-Ok-Exec.is c.in-Ok-Exec.field-0-is answers) c.execute_file.ensures

pub returns-in-Ok-Debug-clause-does : goal.returns-in-Ok-Debug-clause-does
returns-in-Ok-Debug-clause-does g c asked answers =
    command_does (rw (← c.deref-in-Ok-Debug.ensures.value, ← c.as_str.ensures.value) at (asked_so c.in-Ok-Debug.is c.in-Ok-Debug.field-0-is answers)) c.debug_files.ensures

pub returns-in-Ok-Big-clause-does : goal.returns-in-Ok-Big-clause-does
returns-in-Ok-Big-clause-does g c asked answers = command_does (asked_so c.in-Ok-Big.is c.in-Ok-Big.field-0-is answers) (c.sum_up.ensures _ _ _)

pub returns-in-Ok-Session-clause-does : goal.returns-in-Ok-Session-clause-does
returns-in-Ok-Session-clause-does g c asked answers =
    let held = c.hold_session.ensures in
    command_does (asked_so c.in-Ok-Session.is c.in-Ok-Session.field-0-is answers)
    (record { files = refl; asked = asked_none _ _; lines = held.lines; refused = λ _. tt; taken = held.taken; ends = λ words given rest leaves. held.ends _ rest refl leaves })

-- the words are at fault, or memory ran out before that was known
pub returns-in-Usage-clause-does : goal.returns-in-Usage-clause-does
returns-in-Usage-clause-does g c asked answers = usage_does (unasked c.in-Err.is c.in-Usage.is answers) c.tell.ensures.noted c.tell.ensures.lines

pub returns-in-Memory-clause-does : goal.returns-in-Memory-clause-does
returns-in-Memory-clause-does g c asked answers = short_does asked

-- a read cut a session short
pub returns-in-Ok-Session-clause-unended : goal.returns-in-Ok-Session-clause-unended
returns-in-Ok-Session-clause-unended g c asked answers asks seven = c.hold_session.ensures.unended (read_fault_of_seven _ seven)
