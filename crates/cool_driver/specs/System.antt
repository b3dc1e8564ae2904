-- `RunsAsSource` is the main theorem about `run` for the files, input and outputs of the operating system. It is stated by the bytes that these gave and took,
-- since contracts cannot see their contents.
use Rattle.std.specs.Prelude.{◌≡◌, ◌≢◌, ℕ, List, [], Option, Some, None}
use Rattle.cool_classes.specs.Chains.{Class}
use Rattle.cool_faults.specs.Verdicts.{IsAccepted}
use Rattle.cool_meaning.specs.SourceRun as source
use Rattle.cool_ports.specs.{Answers.{Past, Leaves}, SinkBytes.{appended}}
use Rattle.cool_simulation.specs.Accord.{Accord}
use Rattle.cool_syntax.specs.declared.TheConstants.{MOST_SOURCE_BYTES}
use Rattle.cool_words.specs.{Plans.Asked.{run}, Plans.{RunAsked}}
use Rattle.cool_driver.specs.{Calls.{ShelfUse, SinkUse}, CommandLine.{asked_for}, Headline.{limits_of}, Sources.{AreKnown}}
use Rattle.cool_driver.specs.Statuses.{READ_FAULT, WRITE_FAULT, OUT_OF_MEMORY}
use Rattle.lists.specs.Bytes.{AreBytes}

-- The theorem for a call of `run` whose files gave bytes that are accepted as a program, with a status other than 7, 8 and 9. The bytes that a sink took,
-- which held `held` before, are an output. It accords with the runs of the source, with the status and the rest of the input. The input is any that begins
-- with the bytes that the source gave, and is no more than those if the source reported its end.
abbrev pub RunsAsSource : (words : List (List ℕ)) → ShelfUse → (past past' : Past) → (held held' : Option (List ℕ)) → (status : ℕ) → Type 0
RunsAsSource words shelf past past' held held' status =
    (asked : RunAsked) (contents : List (List ℕ)) (p : List Class) (given rest : List ℕ)
    → asked_for words ≡ Some (run asked) → AreKnown shelf MOST_SOURCE_BYTES asked.names contents → IsAccepted contents p
    → AreBytes given → Leaves past past' given rest
    → status ≢ READ_FAULT → status ≢ WRITE_FAULT → status ≢ OUT_OF_MEMORY
    → (output : List ℕ) × (held' ≡ appended held output) × Accord (source.run p asked.names given) (limits_of asked.limits) status output rest

-- the use of a shelf over the system since it was made: its count of faults, and the names and files that it was asked for and gave
abbrev pub shelf_since_made : (faults : ℕ) → (asked gave : List (List ℕ)) → ShelfUse
shelf_since_made faults asked gave = record { files = None; faults_before = 0; faults_after = faults; asked_after = asked; gave_after = gave }

-- the use of a sink since it was made and held nothing: the bytes that it took, its count of faults, and its puts
abbrev pub sink_since_made : (held : Option (List ℕ)) → (faults : ℕ) → (puts : List (List ℕ)) → SinkUse
sink_since_made held faults puts = record {
  held_before = Some [];
  held_after = held;
  faults_before = 0;
  faults_after = faults;
  puts_before = [];
  puts_after = puts;
}
