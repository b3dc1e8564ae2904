-- `SoFar` is the invariant of the debugger's loop over a script: after each command, the run stands where the commands so far lead, and their notes (messages)
-- have been written.
use Rattle.std.proofs.Common.{◌≡◌, inl, inr, ◌∙◌, refl, sym, ap, subst, ℕ, ◌+◌, ◌-◌, ◌<◌, ◌≤◌, List, [], ◌∷◌, ◌++◌, append_assoc, append-nil, length, drop, get_or, arith}
use Rattle.std.specs.Prelude.{Option, Some, Ok, Err}
use Rattle.std.specs.List.{concat}
use Rattle.std.proofs.lemmas.List.{drop_all}
use Rattle.cool_ports.specs.SinkBytes.{appended}
use Rattle.cool_ports.specs.SinkPuts.{SinkSeen, after_puts, PutSome}
use Rattle.cool_ports.proofs.GettingBytes.{appended-nil, got_none, got_so_far}
use Rattle.cool_ports.proofs.SeenSinks.{SeenUpTo, after-nil, after-append, some_after, some_before, some_so_far}
use Rattle.spim_machine.specs.declared.halt.Halt.{Halt}
use Rattle.spim_machine.specs.declared.halt.Halt.TheVariants as halts
use Rattle.spim_debug.specs.declared.debugger.Debugger.{Debugger}
use Rattle.spim_debug.specs.declared.debugger.DebugEnd.{DebugEnd}
use Rattle.spim_debug.specs.declared.debugger.DebugEnd.TheVariants as end
use Rattle.spim_debug.specs.declared.script.DebugCommand.{DebugCommand}
use Rattle.spim_debug.specs.Moves.{Debuggee, Progress, beginning, moves, all_moves, next_span}
use Rattle.spim_debug.specs.Notes.{notes, all_notes}
use Rattle.spim_debug.specs.Debugging.{StandsEarlier, FailsWithin, BrokenOff, StoppedIn, Debugged, PutOfFront, PutInCommand, NotesPut}
use Rattle.spim_debug.specs.Obeying.{Stands, EndsFrom, Obeyed}
use Rattle.lists.proofs.ItemsLeft.{drop_one}

-- the position after commands and one more
moves_more : (d : Debuggee) (front : List DebugCommand) (c : DebugCommand) (p : Progress)
    → all_moves d (front ++ c ∷ []) p ≡ moves d c (all_moves d front p)
moves_more d [] c p = refl
moves_more d (k ∷ front) c p = moves_more d front c (moves d k p)

-- the notes of commands, and of those behind them
notes_parts : (d : Debuggee) (front rest : List DebugCommand) (p : Progress)
    → all_notes d (front ++ rest) p ≡ all_notes d front p ++ all_notes d rest (all_moves d front p)
notes_parts d [] rest p = refl
notes_parts d (k ∷ front) rest p =
    let q : Progress = moves d k p in
    ap (λ (more : List (List ℕ)). notes d k q.executed ++ more) (notes_parts d front rest q)
    ∙ sym (append_assoc (notes d k q.executed) (all_notes d front q) (all_notes d rest (all_moves d front q)))

-- the notes of commands and one more
notes_more : (d : Debuggee) (front : List DebugCommand) (c : DebugCommand) (p : Progress)
    → all_notes d (front ++ c ∷ []) p ≡ all_notes d front p ++ notes d c (moves d c (all_moves d front p)).executed
notes_more d front c p =
    notes_parts d front (c ∷ []) p
    ∙ ap (λ (more : List (List ℕ)). all_notes d front p ++ more) (append-nil (notes d c (moves d c (all_moves d front p)).executed))

-- The commands that are done of a script, of which `rest` is to be done.
pub record SoFar (d : Debuggee) (script rest : List DebugCommand) (first : Option (List ℕ)) (x : Debugger) (left held : Option (List ℕ)) (noted noted' : SinkSeen) : Type 0 where
  pub front : List DebugCommand
  pub script_is : script ≡ front ++ rest
  pub stands : Stands d (all_moves d front beginning) first x left held
  pub noted_is : noted' ≡ after_puts noted (all_notes d front beginning)

-- at its start
pub so_far_none : (d : Debuggee) (script : List DebugCommand) (first : Option (List ℕ)) (x : Debugger) (left held : Option (List ℕ))
    (noted : SinkSeen) → Stands d beginning first x left held → SoFar d script script first x left held noted noted
so_far_none d script first x left held noted st = record { front = []; script_is = refl; stands = st; noted_is = sym (after-nil noted) }

-- after one more command
pub so_far_more : (d : Debuggee) (script : List DebugCommand) (i : ℕ) (c : DebugCommand) (first : Option (List ℕ)) (x x' : Debugger)
    (left held left' held' : Option (List ℕ)) (noted mid noted' : SinkSeen) → i < length script → c ≡ get_or script i c
    → (so : SoFar d script (drop i script) first x left held noted mid)
    → Obeyed d c (all_moves d so.front beginning) first (Ok tt) x' left' held' mid noted'
    → SoFar d script (drop (i + 1) script) first x' left' held' noted noted'
so_far_more d script i c first x x' left held left' held' noted mid noted' inside is so (st, put) =
    let p : Progress = all_moves d so.front beginning in
    let c_notes : List (List ℕ) = notes d c (moves d c p).executed in
    record {
      front = so.front ++ c ∷ [];
      script_is = so.script_is ∙ ap (λ (l : List DebugCommand). so.front ++ l) (drop_one script i c inside is) ∙ sym (append_assoc so.front (c ∷ []) (drop (i + 1) script));
      stands = subst (λ (q : Progress). Stands d q first x' left' held') (sym (moves_more d so.front c beginning)) st;
      noted_is = put ∙ ap (λ (sink : SinkSeen). after_puts sink c_notes) so.noted_is ∙ after-append noted (all_notes d so.front beginning) c_notes
          ∙ ap (after_puts noted) (sym (notes_more d so.front c beginning));
    }

-- it stands where the run stands after some instructions
abbrev earlier : (d : Debuggee) (p : Progress) (first : Option (List ℕ)) (x : Debugger) (left held : Option (List ℕ))
    → Stands d p first x left held → StandsEarlier d first left held
earlier d p first x left held st = record {
  executed = p.executed;
  within = omega (arith, st.executed, st.budget, st.within);
  left_is = st.state.input;
  held_is = st.state.output;
}

-- The outcome of a script, by the bytes of its notes and by the puts that brought them.
abbrev pub Went : Debuggee → List DebugCommand → DebugEnd → Option (List ℕ) → Option (List ℕ) → Option (List ℕ) → SinkSeen → SinkSeen → Type 0
Went d script stop first left held noted noted' =
    Debugged d script stop first left held noted.held noted'.held × NotesPut d script stop noted.puts noted'.puts

-- the notes of a front are some of those that are due
front_noted : (d : Debuggee) (script front rest : List DebugCommand) (noted noted' : SinkSeen) → script ≡ front ++ rest
    → noted' ≡ after_puts noted (all_notes d front beginning)
    → SeenUpTo noted (all_notes d script beginning) (all_notes d rest (all_moves d front beginning)) noted'
front_noted d script front rest noted noted' cut is = record {
  front = all_notes d front beginning;
  cut = ap (λ (commands : List DebugCommand). all_notes d commands beginning) cut ∙ notes_parts d front rest beginning;
  is = is;
}

-- A put failed, or memory ran out, in a command behind the front of a script.
record Stopped (d : Debuggee) (script : List DebugCommand) (executed : ℕ) (noted noted' : SinkSeen) : Type 0 where
  stopped_in : StoppedIn d script executed noted.held noted'.held
  put_in : PutInCommand d script noted.puts noted'.puts
  some : PutSome noted (all_notes d script beginning) noted'

stopped_at : (d : Debuggee) (script : List DebugCommand) (i : ℕ) (c : DebugCommand) (first : Option (List ℕ)) (x : Debugger)
    (left held : Option (List ℕ)) (noted mid noted' : SinkSeen) → i < length script → c ≡ get_or script i c
    → (so : SoFar d script (drop i script) first x left held noted mid)
    → PutSome mid (notes d c (moves d c (all_moves d so.front beginning)).executed) noted'
    → Stopped d script (moves d c (all_moves d so.front beginning)).executed noted noted'
stopped_at d script i c first x left held noted mid noted' inside is so put =
    let p : Progress = all_moves d so.front beginning in
    let rest : List DebugCommand = drop (i + 1) script in
    let front_notes : List (List ℕ) = all_notes d so.front beginning in
    let c_notes : List (List ℕ) = notes d c (moves d c p).executed in
    let cut : script ≡ so.front ++ c ∷ rest = so.script_is ∙ ap (λ (l : List DebugCommand). so.front ++ l) (drop_one script i c inside is) in
    let here : PutSome (after_puts noted front_notes) c_notes noted' = subst (λ (sink : SinkSeen). PutSome sink c_notes noted') so.noted_is put in
    let all : PutSome noted (front_notes ++ (c_notes ++ all_notes d rest (moves d c p))) noted' =
    some_after noted noted' front_notes (c_notes ++ all_notes d rest (moves d c p))
    (some_before (after_puts noted front_notes) noted' c_notes (all_notes d rest (moves d c p)) here) in
    let due : all_notes d script beginning ≡ front_notes ++ (c_notes ++ all_notes d rest (moves d c p)) =
    ap (λ (commands : List DebugCommand). all_notes d commands beginning) cut ∙ notes_parts d so.front (c ∷ rest) beginning in
    record {
      stopped_in = record { front = so.front; command = c; rest = rest; script_is = cut; executed_is = refl; noted_is = here.bytes };
      put_in = record { front = so.front; command = c; rest = rest; script_is = cut; put = here.puts };
      some = subst (λ (texts : List (List ℕ)). PutSome noted texts noted') (sym due) all;
    }

-- A read or a write failed behind the front of a script.
record Broken (d : Debuggee) (script : List DebugCommand) (halt : Halt) (first left held : Option (List ℕ)) (noted noted' : SinkSeen) : Type 0 where
  broken_off : BrokenOff d script halt first left held noted.held noted'.held
  put_of : PutOfFront d script noted.puts noted'.puts
  some : PutSome noted (all_notes d script beginning) noted'

broken_behind : (d : Debuggee) (script front rest : List DebugCommand) (halt : Halt) (first left held : Option (List ℕ)) (noted noted' : SinkSeen)
    → script ≡ front ++ rest → noted' ≡ after_puts noted (all_notes d front beginning)
    → FailsWithin d (all_moves d front beginning) (next_span d rest (all_moves d front beginning)) first halt left held
    → Broken d script halt first left held noted noted'
broken_behind d script front rest halt first left held noted noted' cut is fails = record {
  broken_off = record { front = front; rest = rest; script_is = cut; fails = fails; noted_is = ap (λ (sink : SinkSeen). sink.held) is };
  put_of = record { front = front; rest = rest; script_is = cut; put = ap (λ (sink : SinkSeen). sink.puts) is };
  some = some_so_far noted noted' (all_notes d script beginning) (all_notes d rest (all_moves d front beginning)) (front_noted d script front rest noted noted' cut is);
}

-- the same in a command
broken_at : (d : Debuggee) (script : List DebugCommand) (i : ℕ) (c : DebugCommand) (first : Option (List ℕ)) (halt : Halt)
    (x : Debugger) (left held left' held' : Option (List ℕ)) (noted mid noted' : SinkSeen) → i < length script → c ≡ get_or script i c
    → (so : SoFar d script (drop i script) first x left held noted mid)
    → FailsWithin d (all_moves d so.front beginning)
    ((moves d c (all_moves d so.front beginning)).executed - (all_moves d so.front beginning).executed) first halt left' held'
    → noted' ≡ mid → Broken d script halt first left' held' noted noted'
broken_at d script i c first halt x left held left' held' noted mid noted' inside is so fails same =
    broken_behind d script so.front (c ∷ drop (i + 1) script) halt first left' held' noted noted'
    (so.script_is ∙ ap (λ (l : List DebugCommand). so.front ++ l) (drop_one script i c inside is)) (same ∙ so.noted_is) fails

-- a call failed in a command
pub stopped_in : (d : Debuggee) (script : List DebugCommand) (i : ℕ) (c : DebugCommand) (first : Option (List ℕ)) (stop : DebugEnd)
    (x x' : Debugger) (left held left' held' : Option (List ℕ)) (noted mid noted' : SinkSeen) → i < length script → c ≡ get_or script i c
    → (so : SoFar d script (drop i script) first x left held noted mid)
    → Obeyed d c (all_moves d so.front beginning) first (Err stop) x' left' held' mid noted'
    → Went d script stop first left' held' noted noted'
stopped_in d script i c first (end.Halt halts.ReadFault) x x' left held left' held' noted mid noted' inside is so (fails, same) =
    let b = broken_at d script i c first halts.ReadFault x left held left' held' noted mid noted' inside is so fails.within same in
    ((fails.ends, b.some.bytes, b.broken_off), b.put_of)
stopped_in d script i c first (end.Halt halts.WriteFault) x x' left held left' held' noted mid noted' inside is so (fails, same) =
    let b = broken_at d script i c first halts.WriteFault x left held left' held' noted mid noted' inside is so fails.within same in
    ((fails.ends, b.some.bytes, b.broken_off), b.put_of)
stopped_in d script i c first (end.Halt (halts.Exit code)) x x' left held left' held' noted mid noted' inside is so (st, put) = absurd put
stopped_in d script i c first (end.Halt (halts.Trap trap)) x x' left held left' held' noted mid noted' inside is so (st, put) = absurd put
stopped_in d script i c first (end.Halt halts.StepLimit) x x' left held left' held' noted mid noted' inside is so (st, put) = absurd put
stopped_in d script i c first end.NoteFault x x' left held left' held' noted mid noted' inside is so (st, put) =
    let s = stopped_at d script i c first x left held noted mid noted' inside is so put in
    ((earlier d (moves d c (all_moves d so.front beginning)) first x' left' held' st, s.some.bytes, s.stopped_in), s.put_in)
stopped_in d script i c first end.Memory x x' left held left' held' noted mid noted' inside is so (st, put) =
    let s = stopped_at d script i c first x left held noted mid noted' inside is so put in
    ((earlier d (moves d c (all_moves d so.front beginning)) first x' left' held' st, s.some.bytes, inr s.stopped_in), inr s.put_in)

-- all commands are done
all_done : (d : Debuggee) (script rest : List DebugCommand) (first : Option (List ℕ)) (x : Debugger)
    (left held : Option (List ℕ)) (noted noted' : SinkSeen) → rest ≡ [] → (so : SoFar d script rest first x left held noted noted')
    → noted' ≡ after_puts noted (all_notes d script beginning)
all_done d script rest first x left held noted noted' none so =
    let whole : script ≡ so.front = so.script_is ∙ ap (λ (l : List DebugCommand). so.front ++ l) none ∙ append-nil so.front in
    so.noted_is ∙ ap (λ (commands : List DebugCommand). after_puts noted (all_notes d commands beginning)) (sym whole)

-- a call failed behind the last command
broken_last : (d : Debuggee) (script rest : List DebugCommand) (halt : Halt) (first : Option (List ℕ)) (x : Debugger)
    (left held left' held' : Option (List ℕ)) (noted noted' : SinkSeen) → rest ≡ [] → (so : SoFar d script rest first x left held noted noted')
    → FailsWithin d (all_moves d so.front beginning) (d.budget - (all_moves d so.front beginning).executed) first halt left' held'
    → Broken d script halt first left' held' noted noted'
broken_last d script rest halt first x left held left' held' noted noted' none so fails =
    broken_behind d script so.front [] halt first left' held' noted noted' (so.script_is ∙ ap (λ (l : List DebugCommand). so.front ++ l) none) so.noted_is fails

-- the run went on to its end after the last command
pub done_all : (d : Debuggee) (script : List DebugCommand) (i : ℕ) (first : Option (List ℕ)) (halt : Halt) (x : Debugger)
    (left held left' held' : Option (List ℕ)) (noted noted' : SinkSeen) → length script ≤ i
    → (so : SoFar d script (drop i script) first x left held noted noted')
    → EndsFrom d (all_moves d so.front beginning) (d.budget - (all_moves d so.front beginning).executed) first halt left' held'
    → Went d script (end.Halt halt) first left' held' noted noted'
done_all d script i first (halts.Exit code) x left held left' held' noted noted' past so at =
    let all = all_done d script (drop i script) first x left held noted noted' (drop_all i script past) so in
    ((at, ap (λ (sink : SinkSeen). sink.held) all, tt), ap (λ (sink : SinkSeen). sink.puts) all)
done_all d script i first (halts.Trap trap) x left held left' held' noted noted' past so at =
    let all = all_done d script (drop i script) first x left held noted noted' (drop_all i script past) so in
    ((at, ap (λ (sink : SinkSeen). sink.held) all, tt), ap (λ (sink : SinkSeen). sink.puts) all)
done_all d script i first halts.StepLimit x left held left' held' noted noted' past so at =
    let all = all_done d script (drop i script) first x left held noted noted' (drop_all i script past) so in
    ((at, ap (λ (sink : SinkSeen). sink.held) all, tt), ap (λ (sink : SinkSeen). sink.puts) all)
done_all d script i first halts.ReadFault x left held left' held' noted noted' past so at =
    let b = broken_last d script (drop i script) halts.ReadFault first x left held left' held' noted noted' (drop_all i script past) so at.within in
    ((at.ends, b.some.bytes, b.broken_off), b.put_of)
done_all d script i first halts.WriteFault x left held left' held' noted noted' past so at =
    let b = broken_last d script (drop i script) halts.WriteFault first x left held left' held' noted noted' (drop_all i script past) so at.within in
    ((at.ends, b.some.bytes, b.broken_off), b.put_of)

-- nothing was done, out of memory
pub not_begun : (d : Debuggee) (script : List DebugCommand) (first noted left : Option (List ℕ)) → left ≡ Some d.start.input
    → d.start.output ≡ [] → Debugged d script end.Memory first left first noted noted
not_begun d script first noted left is none = (
  record { executed = 0; within = omega arith; left_is = is; held_is = sym (appended-nil first) ∙ ap (appended first) (sym none) },
  got_so_far noted noted (concat (all_notes d script beginning)) (concat (all_notes d script beginning)) (got_none noted (concat (all_notes d script beginning))),
  inl (record { executed_is = refl; noted_is = refl }),
)
