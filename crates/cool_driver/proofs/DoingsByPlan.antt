-- A call has the effects of the command that its arguments request. If they request none, or if memory runs out while they are parsed, it ends as specified for
-- these cases.
use Rattle.std.proofs.Common.{◌≡◌, None, Option, Some, [], arith, inl, inr, refl, ℕ}
use Rattle.cool_ports.proofs.AskedNames.{asked_none}
use Rattle.cool_words.specs.Plans.{Asked}
use Rattle.cool_driver.specs.{Calls.{Call, DidNothing, Got, sink_between}, Comes.{Comes}, CommandLine.{doing_of}, Does.{Does, DoesUnless, EndsUnless}, Ends.{EndsBy}, Notes.{usage_note}}
use Rattle.cool_driver.specs.{Outside.{Outside, ShelfState, SinkState, SourceState, outside}, Statuses.{code_of}, Telling.{Noted, PutsLines}, commands.Debug.{DebugComes}}
use Rattle.cool_driver.specs.{commands.Usage.{DueToUsage, UsageEnds}, declared.status.Status.{Status}}
use Rattle.cool_driver.proofs.{DevicesOfCalls.{got_nothing}, Doings.{untaking_does}, LinesOfNotes.{no_lines}, rooms.Bigs.{big_ends}, rooms.Builds.{unbuilt_ends}, rooms.Checks.{check_ends}}
use Rattle.cool_driver.proofs.{rooms.Debuggings.{debug_ends}, rooms.Evaluations.{unevaluated_ends}, rooms.Executions.{unloaded_ends}, rooms.Runnings.{unrun_ends}, rooms.Sessions.{unbegun}}

-- the effects of the command that the arguments request
pub command_does : {asked : Option Asked} {a : Asked} {before after : Outside} {status : ℕ} → asked ≡ Some a
    → Does (doing_of (Some a)) before after status → DoesUnless (asked ≡ None) (doing_of asked) before after status
command_does is does = rw is (record {
  files = does.files;
  asked = does.asked;
  lines = does.lines;
  refused = does.refused;
  taken = does.taken;
  ends = λ words given rest leaves.
      let goes = does.ends words given rest leaves in
      record { devices = goes.devices; ends = goes.ends; usage_only = λ two. absurd (goes.usage_only two) };
})

-- if they request nothing, the note that says so was written, or that write failed
usage_ends : {Unasked : Type 0} {c : Call} {answered : Status} → Unasked → c.request.faults_after ≡ c.request.faults_before → c.left ≡ c.request.input
    → c.input_after ≡ c.input_before → Got c.out [] → Noted c.notes usage_note Status.Usage answered → EndsUnless Unasked UsageEnds c (code_of answered)
usage_ends none calm left input out (inl (told, got)) =
    rw told (record {
      devices = grind arith;
      ends = record { comes = Comes.written 2 [] usage_note (rw left (DueToUsage.usage calm)) out got; usage_exactly = λ _ _. refl };
      usage_only = λ _. none;
    })
usage_ends none calm left input out (inr (failed, part)) =
    rw failed (record {
      devices = grind arith;
      ends = record { comes = Comes.unnoted 2 [] usage_note (rw left (DueToUsage.usage calm)) out part; usage_exactly = λ eight. absurd (eight refl) };
      usage_only = λ _. none;
    })

pub usage_does : {asked : Option Asked} {shelf : ShelfState} {input : SourceState} {out notes notes' : SinkState} {answered : Status} → asked ≡ None
    → Noted (sink_between notes notes') usage_note Status.Usage answered → PutsLines notes.puts notes'.puts
    → DoesUnless (asked ≡ None) (doing_of asked) (outside shelf input out notes) (outside shelf input out notes') (code_of answered)
usage_does none noted lines =
    rw none (untaking_does refl (asked_none _ _) lines (λ _. tt) (λ words given. usage_ends refl refl refl refl (got_nothing _ _) noted))

-- Memory ran out before it was known what the words ask for

short_promise : (c : Call) (asked : Option Asked) → c.out.puts_after ≡ c.out.puts_before → c.request.faults_after ≡ c.request.faults_before → DidNothing c → EndsBy asked c 9
short_promise c None still calm nothing = record { comes = Comes.short nothing; usage_exactly = λ eight nine. absurd (nine refl) }
short_promise c (Some (Asked.check names)) still calm nothing = check_ends (Comes.short nothing)
short_promise c (Some (Asked.asm names)) still calm nothing = unbuilt_ends still (Comes.short nothing)
short_promise c (Some (Asked.build names)) still calm nothing = unbuilt_ends still (Comes.short nothing)
short_promise c (Some (Asked.run asked)) still calm nothing = unrun_ends still (Comes.short nothing)
short_promise c (Some (Asked.eval names steps)) still calm nothing = unevaluated_ends still (Comes.short nothing)
short_promise c (Some (Asked.exec name limits)) still calm nothing = unloaded_ends still (Comes.short nothing)
short_promise c (Some (Asked.debug script names limits)) still calm nothing = debug_ends (DebugComes.refused (Comes.short nothing))
short_promise c (Some (Asked.big n)) still calm nothing = big_ends (Comes.short nothing)
short_promise c (Some Asked.session) still calm nothing = unbegun calm nothing

pub short_does : (asked : Option Asked) {shelf : ShelfState} {input : SourceState} {out notes : SinkState}
    → DoesUnless (asked ≡ None) (doing_of asked) (outside shelf input out notes) (outside shelf input out notes) 9
short_does asked =
    untaking_does refl (asked_none _ _) (no_lines _) (λ is. absurd (omega (arith, is))) (λ words given. record {
      devices = grind arith;
      ends = short_promise _ asked refl refl (got_nothing _ _, got_nothing _ _, refl, refl);
      usage_only = λ two. absurd (omega (arith, two));
    })
