-- A command that reads no input, or that did not refuse its source files for their errors, has its specified effects (`Does`) if the remaining conditions hold.
use Rattle.std.proofs.Common.{◌≡◌, ◌≢◌, ℕ, Bool, false, List}
use Rattle.std.specs.Prelude.{IfSome}
use Rattle.cool_ports.proofs.InputsInParts.{leaves_same, took_nothing}
use Rattle.cool_ports.specs.{Answers.{Leaves}, ShelfFiles.{AskedFront}, Taking.{Took}}
use Rattle.cool_driver.specs.{Calls.{call_between, shelf_between}, Does.{Doing, Does, DoesUnless, EndsUnless, Goes}, Refusals.{PutsFaults}}
use Rattle.cool_driver.specs.{Outside.{Outside, ShelfState, SinkState, SourceState, outside}, Statuses.{REFUSED}, Telling.{PutsLines}}

-- it takes nothing of the input
pub untaking_does : {Unasked : Type 0} {d : Doing} {shelf shelf' : ShelfState} {input : SourceState} {out out' notes notes' : SinkState} {status : ℕ}
    → shelf'.files ≡ shelf.files → AskedFront d.asked shelf.asked shelf'.asked → PutsLines notes.puts notes'.puts
    → (status ≡ REFUSED → IfSome d.sources (λ names. PutsFaults names (shelf_between shelf shelf') notes.puts notes'.puts))
    → ((words : List (List ℕ)) (given : List ℕ)
    → EndsUnless Unasked d.ends (call_between words (outside shelf input out notes) (outside shelf' input out' notes') given given) status)
    → DoesUnless Unasked d (outside shelf input out notes) (outside shelf' input out' notes') status
untaking_does {input = input} kept asked lines refused ends = record {
  files = kept;
  asked = asked;
  lines = lines;
  refused = refused;
  taken = (false, took_nothing _ _ _);
  ends = λ words given rest leaves. rw (leaves_same input.past given rest leaves) (ends words given);
}

-- it takes of it, and refuses no source files
pub unrefused_does : {d : Doing} {before after : Outside} {status : ℕ} → after.shelf.files ≡ before.shelf.files
    → AskedFront d.asked before.shelf.asked after.shelf.asked → PutsLines before.notes.puts after.notes.puts → status ≢ REFUSED
    → (ended : Bool) × Took false ended before.input.past after.input.past before.input.left after.input.left
    → ((words : List (List ℕ)) (given rest : List ℕ) → Leaves before.input.past after.input.past given rest
    → Goes d.ends (call_between words before after given rest) status)
    → Does d before after status
unrefused_does kept asked lines other taken ends = record {
  files = kept;
  asked = asked;
  lines = lines;
  refused = λ is. absurd (other is);
  taken = taken;
  ends = ends;
}
