-- The outcome of a debugger command follows from the outcomes of its parts: where the run stands, and whether its notes (messages) were written.
use Rattle.std.proofs.Common.{◌≡◌, ◌⊎◌, inl, inr, ◌∙◌, refl, sym, ap, subst, ℕ, List, [], ◌∷◌}
use Rattle.std.specs.Prelude.{Option, Some, None, Result, Ok, Err}
use Rattle.cool_ports.specs.SinkPuts.{SinkSeen, after_puts, PutSome}
use Rattle.cool_ports.proofs.SeenSinks.{SeenUpTo, some_next}
use Rattle.mips_isa.specs.declared.trap.Trap.{Trap}
use Rattle.mips_isa.specs.Machine.{Core}
use Rattle.mips_isa.specs.Calls.{Outcome, Running, Exited, Trapped}
use Rattle.spim_machine.specs.declared.halt.Halt.{Halt}
use Rattle.spim_machine.specs.declared.halt.Halt.TheVariants as halts
use Rattle.spim_debug.specs.declared.debugger.Debugger.{Debugger}
use Rattle.spim_debug.specs.declared.debugger.DebugEnd.{DebugEnd}
use Rattle.spim_debug.specs.declared.debugger.DebugEnd.TheVariants as end
use Rattle.spim_debug.specs.declared.script.DebugCommand.{DebugCommand}
use Rattle.spim_debug.specs.Moves.{Debuggee, Progress, outcome, moves}
use Rattle.spim_debug.specs.Notes.{at_note, ended_note, place_note, state_in, notes}
use Rattle.spim_debug.specs.Obeying.{halted_in, Stands, IsPut, ArePut, StopNoted, Obeyed}
use Rattle.spim_debug.proofs.GoingOn.{WentOn}

-- a note that was put is all notes that were to be
pub one_put : (note : List ℕ) (result : Result Unit DebugEnd) (noted noted' : SinkSeen) → IsPut note result noted noted'
    → ArePut (note ∷ []) result noted noted'
one_put note (Ok done) noted noted' put = put
one_put note (Err (end.Halt halt)) noted noted' put = absurd put
one_put note (Err end.NoteFault) noted noted' put = put
one_put note (Err end.Memory) noted noted' put = absurd put

-- a command whose notes were put
pub obeyed_put : (d : Debuggee) (c : DebugCommand) (p : Progress) (first : Option (List ℕ)) (result : Result Unit DebugEnd)
    (x : Debugger) (left held : Option (List ℕ)) (noted noted' : SinkSeen) (texts : List (List ℕ))
    → Stands d (moves d c p) first x left held → notes d c (moves d c p).executed ≡ texts
    → ArePut texts result noted noted' → Obeyed d c p first result x left held noted noted'
obeyed_put d c p first (Ok done) x left held noted noted' texts st is put = (st, put ∙ ap (after_puts noted) (sym is))
obeyed_put d c p first (Err (end.Halt halt)) x left held noted noted' texts st is put = absurd put
obeyed_put d c p first (Err end.NoteFault) x left held noted noted' texts st is put = (st, subst (λ (ts : List (List ℕ)). PutSome noted ts noted') (sym is) put)
obeyed_put d c p first (Err end.Memory) x left held noted noted' texts st is put = (st, subst (λ (ts : List (List ℕ)). PutSome noted ts noted') (sym is) put)

-- a note of an end that was put
pub ended_noted : (halt : Halt) (pc n : ℕ) (bytes : List ℕ) (result : Result Unit DebugEnd) (noted noted' : SinkSeen)
    → ((code : ℕ) × (halt ≡ halts.Exit code)) ⊎ ((trap : Trap) × (halt ≡ halts.Trap trap)) → bytes ≡ ended_note n
    → IsPut bytes result noted noted' → StopNoted halt pc n result noted noted'
ended_noted halt pc n bytes result noted noted' (inl (code, is)) same put =
    subst (λ (h : Halt). StopNoted h pc n result noted noted') (sym is) (subst (λ (bs : List ℕ). IsPut bs result noted noted') same put)
ended_noted halt pc n bytes result noted noted' (inr (trap, is)) same put =
    subst (λ (h : Halt). StopNoted h pc n result noted noted') (sym is) (subst (λ (bs : List ℕ). IsPut bs result noted noted') same put)

-- a note whose put failed, after those that were put
pub puts_failed : (stop : DebugEnd) (before mid after : SinkSeen) (texts later : List (List ℕ)) (note : List ℕ)
    → SeenUpTo before texts (note ∷ later) mid → ArePut (note ∷ []) (Err stop) mid after → ArePut texts (Err stop) before after
puts_failed (end.Halt halt) before mid after texts later note got put = absurd put
puts_failed end.NoteFault before mid after texts later note got put = some_next before mid after texts later note got put
puts_failed end.Memory before mid after texts later note got put = some_next before mid after texts later note got put

-- the text of where a run is, by how its machine has halted
place_ended : (o : Outcome) (n : ℕ) (halt : Halt) → halted_in o ≡ Some halt → place_note o n ≡ ended_note n
place_ended (Running s) n halt e = absurd cc
place_ended (Exited code s) n halt e = refl
place_ended (Trapped trap s) n halt e = refl

place_running : (o : Outcome) (n : ℕ) → halted_in o ≡ None → place_note o n ≡ at_note (state_in o).core.pc n
place_running (Running s) n e = refl
place_running (Exited code s) n e = absurd cc
place_running (Trapped trap s) n e = absurd cc

ended_text : (d : Debuggee) (q : Progress) (first : Option (List ℕ)) (halt : Halt) (x : Debugger) (left held : Option (List ℕ))
    → Stands d q first x left held → x.machine.halted ≡ Some halt
    → place_note (outcome d q.executed) q.executed ∷ [] ≡ ended_note x.executed ∷ []
ended_text d q first halt x left held st halted =
    ap (λ (note : List ℕ). note ∷ []) (place_ended (outcome d q.executed) q.executed halt (sym st.halted ∙ halted) ∙ ap (λ (n : ℕ). ended_note n) (sym st.executed))

running_text : (d : Debuggee) (q : Progress) (first : Option (List ℕ)) (x : Debugger) (left held : Option (List ℕ))
    → Stands d q first x left held → x.machine.halted ≡ None
    → place_note (outcome d q.executed) q.executed ∷ [] ≡ at_note x.machine.cpu.pc x.executed ∷ []
running_text d q first x left held st halted =
    let pc : x.machine.cpu.pc ≡ (state_in (outcome d q.executed)).core.pc = ap (λ (c : Core). c.pc) st.state.core in
    ap (λ (note : List ℕ). note ∷ [])
    (place_running (outcome d q.executed) q.executed (sym st.halted ∙ halted) ∙ ap (λ (a : ℕ). at_note a q.executed) (sym pc)
    ∙ ap (λ (n : ℕ). at_note x.machine.cpu.pc n) (sym st.executed))

-- a command that goes on and notes where the machine is
pub obeyed_stop : (d : Debuggee) (c : DebugCommand) (p : Progress) (first : Option (List ℕ)) (halt : Halt)
    (result : Result Unit DebugEnd) (x : Debugger) (left held : Option (List ℕ)) (noted noted' : SinkSeen)
    → notes d c (moves d c p).executed ≡ place_note (outcome d (moves d c p).executed) (moves d c p).executed ∷ []
    → WentOn d p (moves d c p) first halt x left held → StopNoted halt x.machine.cpu.pc x.executed result noted noted'
    → Obeyed d c p first result x left held noted noted'
obeyed_stop d c p first (halts.Exit code) result x left held noted noted' is (st, halted) put =
    obeyed_put d c p first result x left held noted noted' (ended_note x.executed ∷ []) st (is ∙ ended_text d (moves d c p) first (halts.Exit code) x left held st halted) (one_put (ended_note x.executed) result noted noted' put)
obeyed_stop d c p first (halts.Trap trap) result x left held noted noted' is (st, halted) put =
    obeyed_put d c p first result x left held noted noted' (ended_note x.executed ∷ []) st (is ∙ ended_text d (moves d c p) first (halts.Trap trap) x left held st halted) (one_put (ended_note x.executed) result noted noted' put)
obeyed_stop d c p first halts.StepLimit result x left held noted noted' is (st, halted) put =
    obeyed_put d c p first result x left held noted noted' (at_note x.machine.cpu.pc x.executed ∷ []) st (is ∙ running_text d (moves d c p) first x left held st halted) (one_put (at_note x.machine.cpu.pc x.executed) result noted noted' put)
obeyed_stop d c p first halts.ReadFault result x left held noted noted' is fails (answers, same) =
    subst (λ (r : Result Unit DebugEnd). Obeyed d c p first r x left held noted noted') (sym answers) (fails, same)
obeyed_stop d c p first halts.WriteFault result x left held noted noted' is fails (answers, same) =
    subst (λ (r : Result Unit DebugEnd). Obeyed d c p first r x left held noted noted') (sym answers) (fails, same)
