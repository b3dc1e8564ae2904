use Rattle.std.proofs.{Common.{arith, length, refl, string_bytes, subst, sym, List, ℕ, ◌<◌, ◌≤◌, ◌≡◌, ◌∷◌, ◌++◌, []}, lemmas.List.{length-map}}
use Rattle.cool_syntax.specs.declared.TheConstants.{MOST_FILES}
use Rattle.cool_words.specs.Plans.{words_of}
use Rattle.cool_driver.specs.{Notes.{too_many_note}, Sources.{unless_too_many}, commands.Debug.{IsDueUnscripted, IsNoDebuggee}, declared.status.Status.{Status}}
use Rattle.cool_ports.proofs.AskedNames.{asked_first, asked_none, asked_then}
use Rattle.cool_driver.proofs.{ReadingNames.{few_asked}, RefusalsTold.{line_told, told_so, line_lined, other_lined}, LinesOfNotes.{ends_after, feed}}
use Rattle.std.specs.{Prelude.{codes, String}, Global.{Global}}
use Rattle.cool_ports.specs.ShelfFiles.{AskedFront}
use Rattle.cool_driver.proofs.commands.debug.read_debuggee.Goals as goal

-- there are too many files
pub returns-then-names-gt-MOST_FILES-clause-refused : goal.returns-then-names-gt-MOST_FILES-clause-refused
returns-then-names-gt-MOST_FILES-clause-refused g c =
    let names = words_of c.args.names.now in
    let many : MOST_FILES < length names = omega (arith, length-map c.args.names.now string_bytes, c.if-names-gt-MOST_FILES.true) in
    line_told (IsNoDebuggee c.args.script.now names _) Status.FileFault too_many_note c.refuse_by_line.result (ends_after (codes "cool: too many files") (codes "\n") feed) (IsNoDebuggee.too_many many refl)
    c.refuse_by_line.ensures

-- the shelf still holds the script that was read
pub read_scripted-requires-clause-read : goal.read_scripted-requires-clause-read
read_scripted-requires-clause-read g c =
    let read = rw (← c.deref.ensures.value) at c.in-Ok.ensures.read in
    record { held = rw c.read_bytes.ensures.kept read.held; within = read.within }

pub read_scripted-requires-clause-gave : goal.read_scripted-requires-clause-gave
read_scripted-requires-clause-gave g c = rw c.deref.ensures.value (_, c.in-Ok.ensures.gave)

-- it was read
pub returns-in-Ok-clause-debuggee : goal.returns-in-Ok-clause-debuggee
returns-in-Ok-clause-debuggee g c = rw (c.read_bytes.ensures.kept, c.in-Ok.ensures.calm) at c.read_scripted.ensures.debuggee

pub returns-in-Ok-clause-refused : goal.returns-in-Ok-clause-refused
returns-in-Ok-clause-refused g c = rw (c.read_bytes.ensures.kept, c.in-Ok.ensures.calm) at c.read_scripted.ensures.refused

-- it was not
pub returns-in-Err-clause-refused : goal.returns-in-Err-clause-refused
returns-in-Err-clause-refused g c =
    let few : length (words_of c.args.names.now) ≤ MOST_FILES = omega (arith, length-map c.args.names.now string_bytes, c.if-names-gt-MOST_FILES.false) in
    told_so (IsDueUnscripted _ _) (IsNoDebuggee _ _ _) c.in-Err.refusal (λ status note why. rw why.0 (IsNoDebuggee.unscripted note few why.1)) c.in-Err.ensures.refused

-- the files that the shelf was asked for: none, the script and some of the files, or only the script
pub returns-then-names-gt-MOST_FILES-clause-asked : goal.returns-then-names-gt-MOST_FILES-clause-asked
returns-then-names-gt-MOST_FILES-clause-asked g c = asked_none _ _

few : (names : List (String Global)) → length names ≤ MOST_FILES → (asked : List (List ℕ)) → unless_too_many (words_of names) asked ≡ asked
few names within asked = few_asked (words_of names) asked (omega (arith, length-map names string_bytes, within))

script_asked : (names : List (String Global)) → length names ≤ MOST_FILES → (script : List ℕ) (before after : List (List ℕ)) → after ≡ before ++ script ∷ []
    → AskedFront (unless_too_many (words_of names) (script ∷ words_of names)) before after
script_asked names within script before after asked =
    subst (λ (ns : List (List ℕ)). AskedFront ns before after) (sym (few names within (script ∷ words_of names)))
    (asked_first script (words_of names) before after asked)

both_asked : (names : List (String Global)) → length names ≤ MOST_FILES → (script : List ℕ) (before middle after : List (List ℕ)) → middle ≡ before ++ script ∷ []
    → AskedFront (unless_too_many (words_of names) (words_of names)) middle after
    → AskedFront (unless_too_many (words_of names) (script ∷ words_of names)) before after
both_asked names within script before middle after asked more =
    subst (λ (ns : List (List ℕ)). AskedFront ns before after) (sym (few names within (script ∷ words_of names)))
    (asked_then script (words_of names) before middle after asked (subst (λ (ns : List (List ℕ)). AskedFront ns middle after) (few names within (words_of names)) more))

pub returns-in-Ok-clause-asked : goal.returns-in-Ok-clause-asked
returns-in-Ok-clause-asked g c =
    both_asked c.args.names.now c.if-names-gt-MOST_FILES.false c.args.script.now _ _ _ c.read_bytes.ensures.asked c.read_scripted.ensures.asked

pub returns-in-Err-clause-asked : goal.returns-in-Err-clause-asked
returns-in-Err-clause-asked g c = script_asked c.args.names.now c.if-names-gt-MOST_FILES.false c.args.script.now _ _ c.read_bytes.ensures.asked

-- the lines of the refusal
pub returns-then-names-gt-MOST_FILES-clause-lined : goal.returns-then-names-gt-MOST_FILES-clause-lined
returns-then-names-gt-MOST_FILES-clause-lined g c = line_lined _ _ Status.FileFault _ c.refuse_by_line.result (λ e. omega (arith, e)) c.refuse_by_line.ensures

pub returns-in-Ok-clause-lined : goal.returns-in-Ok-clause-lined
returns-in-Ok-clause-lined g c = rw (c.read_bytes.ensures.kept, c.in-Ok.ensures.calm) at c.read_scripted.ensures.lined

pub returns-in-Err-clause-lined : goal.returns-in-Err-clause-lined
returns-in-Err-clause-lined g c = other_lined (IsDueUnscripted _ _) _ _ c.in-Err.refusal (λ status note why e. omega (arith, why.0, e)) c.in-Err.ensures.refused
