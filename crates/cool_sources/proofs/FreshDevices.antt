-- The specification of a call holds, in the simpler form for unused files and outputs, if nothing was requested or written before the call.
use Rattle.std.proofs.Common.{◌≡◌, ℕ, List, [], subst}
use Rattle.std.specs.Prelude.{Option, Some, None}
use Rattle.cool_ports.specs.ShelfFiles.{FileMap}
use Rattle.cool_sources.specs.Devices.{ShelfUse, SinkUse}
use Rattle.cool_sources.specs.Ends.{HasEnded, fresh_shelf, fresh_sink}
use Rattle.cool_sources.specs.Tasks.{TaskSpec}
use Rattle.cool_sources.specs.declared.status.Status.{Status}

-- a shelf that was asked for nothing before
pub is_fresh_shelf : (shelf : ShelfUse) → shelf.files ≡ None → shelf.faults_before ≡ 0 → shelf.asked_before ≡ [] → shelf.gave_before ≡ []
    → shelf ≡ fresh_shelf shelf.faults_after shelf.asked_after shelf.gave_after
is_fresh_shelf shelf none faults asked gave = λ j. record {
  files = none j;
  faults_before = faults j;
  faults_after = shelf.faults_after;
  asked_before = asked j;
  asked_after = shelf.asked_after;
  gave_before = gave j;
  gave_after = shelf.gave_after;
}

-- a sink that got nothing before
pub is_fresh_sink : (sink : SinkUse) → sink.held_before ≡ Some [] → sink.faults_before ≡ 0 → sink.puts_before ≡ []
    → sink ≡ fresh_sink sink.held_after sink.faults_after sink.puts_after
is_fresh_sink sink held faults puts = λ j. record {
  held_before = held j;
  held_after = sink.held_after;
  faults_before = faults j;
  faults_after = sink.faults_after;
  puts_before = puts j;
  puts_after = sink.puts_after;
}

-- so a call with them ended
pub ended_fresh : (task : TaskSpec) (names : List (List ℕ)) (status : Status) (shelf fresh : ShelfUse) (out fresh_out notes fresh_notes : SinkUse)
    → shelf ≡ fresh → out ≡ fresh_out → notes ≡ fresh_notes → HasEnded task shelf names out notes status → HasEnded task fresh names fresh_out fresh_notes status
ended_fresh task names status shelf fresh out fresh_out notes fresh_notes e f h ended =
    subst (λ (s : ShelfUse). HasEnded task s names fresh_out fresh_notes status) e
    (subst (λ (o : SinkUse). HasEnded task shelf names o fresh_notes status) f (subst (λ (n : SinkUse). HasEnded task shelf names out n status) h ended))
