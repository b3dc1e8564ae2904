-- During a run, the rest of the evaluation from each configuration has the outcome of the whole program, with any number of steps left.
use Rattle.std.proofs.Common.{◌≡◌, ℕ, zero, suc, ◌+◌, ◌<◌, List, [], ◌∷◌, ◌++◌, Option, Some, None, Ok, Err, inl, inr, ap, sym, ◌∙◌, refl, subst, arith, append_assoc, append-nil}
use Rattle.std.specs.Prelude.{◌≢◌, ◌⊎◌, Bool, true, false, codes}
use Rattle.std.proofs.lemmas.List.{append_cancel_left}
use Rattle.cool_ports.specs.Answers.{Past, Leaves}
use Rattle.cool_ports.specs.Taking.{EndsOnce, Took}
use Rattle.cool_ports.specs.SinkBytes.{appended, GotPrefix}
use Rattle.cool_ports.specs.SinkPuts.{SinkSeen, seen, pieces_of, PutFront}
use Rattle.cool_ports.proofs.SeenSinks.{seen_is}
use Rattle.cool_syntax.specs.Bare.{nowhere}
use Rattle.cool_syntax.specs.Tree.{New}
use Rattle.cool_classes.specs.Chains.{Class}
use Rattle.cool_meaning.specs.Values as values
use Rattle.cool_meaning.specs.Values.{State, start}
use Rattle.cool_meaning.specs.Meters.{Outcome, Val, Stop, On, Stuck}
use Rattle.cool_meaning.specs.SourceRun.{main_call}
use Rattle.cool_meaning.proofs.Later.{Later, After}
use Rattle.cool_eval.specs.declared.ending.Ending.{Ending}
use Rattle.cool_eval.specs.declared.ending.Ending.TheVariants as ending
use Rattle.cool_eval.specs.declared.frame.Focus.{Focus}
use Rattle.cool_eval.specs.declared.machine.Machine.{Machine}
use Rattle.cool_eval.specs.Configurations.{focus_of, frames_of, state_of, error_of}
use Rattle.cool_eval.specs.Counts.{FaultsInCalls}
use Rattle.cool_eval.specs.Devices.{HasLeft, HasPut, HasPutSome, ToStep, Reaches, sink_before, sink_after}
use Rattle.cool_eval.specs.StackMachine as machine
use Rattle.cool_eval.specs.StackMachine.{Begin, Receiver, Next, Continue, Halt, begun, begin_args, step}
use Rattle.cool_eval.specs.Puts.{written_since}
use Rattle.cool_eval.specs.Running.{outcome_of, output_of, puts_of, IsNeverStuck, IsAt, Steps, OfState, HasTaken, FailsReading, FailsWriting, RunsShort, Ended}
use Rattle.cool_eval.proofs.StepsMean.{means, step_means}
use Rattle.cool_eval.proofs.PutsOfSteps.{no_piece_since, sink_still, steps_still, step_more, front_behind}
use Rattle.cool_eval.proofs.SteadySteps.{Kind, StopsBefore, left_as, next_with, step_kind, advance}
use Rattle.cool_eval.proofs.NoStepLeft.{IsStill, means_still}
use Rattle.cool_eval.proofs.Growth.{means_later}
use Rattle.cool_eval.proofs.RunsMean.{start_means}

-- The bytes that sinks hold

pub nothing_appended : (first : Option (List ℕ)) → first ≡ appended first []
unfolding appended
nothing_appended None = refl
nothing_appended (Some bytes) = ap Some (sym (append-nil bytes))

-- at the start nothing is printed
pub nothing_before : (start : SinkSeen) → start ≡ sink_before start []
nothing_before start = seen_is start (sink_before start []) (nothing_appended start.held) refl

-- a prefix of a front
pub prefix_longer : (first : Option (List ℕ)) (a b : List ℕ) (held : Option (List ℕ)) → GotPrefix first a held
    → GotPrefix first (a ++ b) held
prefix_longer first a b held (rest, h) =
    (rest ++ b, record { front = h.front; cut = ap (λ (xs : List ℕ). xs ++ b) h.cut ∙ append_assoc h.front rest b; got = h.got })

-- The input left and the bytes put, for a later state

left_before : (rest : List ℕ) (s t : State) → HasLeft rest s → Later s t → HasLeft rest t
left_before rest s t (kept, is) h =
    (kept ++ h.taken, is ∙ (ap (λ (xs : List ℕ). kept ++ xs) h.input ∙ sym (append_assoc kept h.taken t.input)))

left_within : (rest : List ℕ) (s : State) (o : Outcome values.Value) → HasLeft rest s → After s o → OfState o (HasLeft rest)
left_within rest s (Val v t n) has h = left_before rest s t has h
left_within rest s (Stop e t) has h = left_before rest s t has h
left_within rest s (On t) has h = left_before rest s t has h
left_within rest s Stuck has h = tt

put_before : (first held : Option (List ℕ)) (output : List ℕ) (s t : State) → HasPut first output held s → Later s t
    → HasPut first output held t
put_before first held output s t (printed, is, got) h = (
  printed ++ h.printed,
  h.output ∙ (ap (λ (xs : List ℕ). xs ++ h.printed) is ∙ append_assoc output printed h.printed),
  prefix_longer (appended first output) printed h.printed held got,
)

put_within : (first held : Option (List ℕ)) (output : List ℕ) (s : State) (o : Outcome values.Value)
    → HasPut first output held s → After s o → OfState o (HasPut first output held)
put_within first held output s (Val v t n) has h = put_before first held output s t has h
put_within first held output s (Stop e t) has h = put_before first held output s t has h
put_within first held output s (On t) has h = put_before first held output s t has h
put_within first held output s Stuck has h = tt

-- an outcome with the console as it was
taken_within : (taken rest : List ℕ) (s : State) (o : Outcome values.Value) → s.input ≡ taken ++ rest → IsStill s o
    → OfState o (HasTaken s.output rest)
taken_within taken rest s (Val v t n) is (same, none) = (same.output, (taken, same.input ∙ is))
taken_within taken rest s (Stop e t) is same = (same.output, (taken, same.input ∙ is))
taken_within taken rest s (On t) is same = (same.output, (taken, same.input ∙ is))
taken_within taken rest s Stuck is same = tt

-- The printed output

still_output : (s : State) (o : Outcome values.Value) → o ≢ Stuck → IsStill s o → output_of o ≡ s.output
still_output s (Val v t n) some (same, none) = same.output
still_output s (Stop e t) some same = same.output
still_output s (On t) some same = same.output
still_output s Stuck some same = absurd (some refl)

same_end : (o o' : Outcome values.Value) → Halt o ≡ Halt o' → o ≡ o'
same_end o o' is = cc

left_output : (o : Outcome values.Value) (k : ℕ) → output_of (left_as o k) ≡ output_of o
left_output (Val v s n) k = refl
left_output (Stop e s) k = refl
left_output (On s) k = refl
left_output Stuck k = refl

-- Configurations along a run

-- With so many steps spent the machine comes to this configuration, however many are left: with k left it means what the program comes to
-- with so many more.
abbrev pub IsReached : List Class → List ℕ → ℕ → machine.Focus → List machine.Frame → State → Type 0
IsReached p input spent focus fs s = (k : ℕ) → means p (spent + k) (Continue focus fs s k) ≡ outcome_of p input (spent + k)

-- with the steps that were spent just that is printed which was printed there
pub reached_output : (p : List Class) (input : List ℕ) (spent : ℕ) (focus : machine.Focus) (fs : List machine.Frame) (s : State)
    → IsReached p input spent focus fs s → IsNeverStuck (outcome_of p input)
    → output_of (outcome_of p input spent) ≡ s.output
reached_output p input spent focus fs s reached never =
    let level : spent + 0 ≡ spent = omega arith in
    still_output s (outcome_of p input spent) (never spent)
    (subst (λ (o : Outcome values.Value). IsStill s o) (reached 0 ∙ ap (outcome_of p input) level) (means_still p (spent + 0) focus fs s))

-- The configuration after one step more, with so many steps left before it and after it. The output was `before`.
pub record NextReached (p : List Class) (input : List ℕ) (spent n n' : ℕ) (before : List ℕ) (focus : machine.Focus)
    (fs : List machine.Frame) (s : State) : Type 0 where
  pub after : ℕ
  pub whole : spent + n ≡ after + n'
  pub reached : IsReached p input after focus fs s
  pub puts : IsNeverStuck (outcome_of p input)
      → puts_of (outcome_of p input) after ≡ puts_of (outcome_of p input) spent ++ pieces_of 64 (written_since before s.output)

module _ (p : List Class) (input : List ℕ) (spent : ℕ) (focus : machine.Focus) (fs : List machine.Frame) (s : State) (reached : IsReached p input spent focus fs s) where
  -- the step from there, with so many steps left
  abbrev next : ℕ → Next
  next n = step p focus fs s n

  next_same : (n : ℕ) → means p (spent + n) (next n) ≡ outcome_of p input (spent + n)
  next_same n = step_means p (spent + n) focus fs s n (omega arith) ∙ reached n

  next_means : (n : ℕ) (next' : Next) → next n ≡ next' → means p (spent + n) next' ≡ outcome_of p input (spent + n)
  next_means n next' is = ap (means p (spent + n)) (sym is) ∙ next_same n

  none_spent : spent + 0 ≡ spent
  none_spent = omega arith

  -- the output with the steps up to here
  output_here : IsNeverStuck (outcome_of p input) → output_of (outcome_of p input spent) ≡ s.output
  output_here never = reached_output p input spent focus fs s reached never

  -- a step that writes nothing puts nothing
  quiet_puts : IsNeverStuck (outcome_of p input) → (now : List ℕ) → output_of (outcome_of p input spent) ≡ now
      → puts_of (outcome_of p input) spent ≡ puts_of (outcome_of p input) spent ++ pieces_of 64 (written_since s.output now)
  quiet_puts never now is =
      let before : List (List ℕ) = puts_of (outcome_of p input) spent in
      sym (append-nil before)
      ∙ ap (λ (ps : List (List ℕ)). before ++ ps) (sym (no_piece_since s.output now (sym (output_here never) ∙ is)))

  -- after a step that was spent
  spent_reached : (n n' : ℕ) (focus' : machine.Focus) (fs' : List machine.Frame) (t : State)
      → StopsBefore s next n n' focus' fs' t → IsReached p input (suc spent) focus' fs' t
  spent_reached n n' focus' fs' t c k =
      let level : spent + suc k ≡ suc spent + k = omega arith in
      subst (λ (a : ℕ). means p a (Continue focus' fs' t k) ≡ outcome_of p input a) level (next_means (suc k) (Continue focus' fs' t k) (c.any k))

  spent_puts : (n n' : ℕ) (focus' : machine.Focus) (fs' : List machine.Frame) (t : State)
      → StopsBefore s next n n' focus' fs' t → IsNeverStuck (outcome_of p input)
      → puts_of (outcome_of p input) (suc spent)
      ≡ puts_of (outcome_of p input) spent ++ pieces_of 64 (written_since s.output t.output)
  spent_puts n n' focus' fs' t c never =
      step_more (λ (k : ℕ). output_of (outcome_of p input k)) spent s.output t.output (output_here never)
      (reached_output p input (suc spent) focus' fs' t (spent_reached n n' focus' fs' t c) never)

  pub next_reached : (n n' : ℕ) (focus' : machine.Focus) (fs' : List machine.Frame) (t : State)
      → next n ≡ Continue focus' fs' t n' → NextReached p input spent n n' s.output focus' fs' t
  next_reached n n' focus' fs' t is = by (advance s next (step_kind p focus fs s) n n' focus' fs' t is)
    where
      by : ((n' ≡ n) × ((k : ℕ) → next k ≡ Continue focus' fs' t k)) ⊎ StopsBefore s next n n' focus' fs' t
          → NextReached p input spent n n' s.output focus' fs' t
      by (inl (same, any)) =
          let there : IsReached p input spent focus' fs' t = λ k. next_means k (Continue focus' fs' t k) (any k) in
          record {
            after = spent;
            whole = omega (arith, same);
            reached = there;
            puts = λ never. quiet_puts never t.output (reached_output p input spent focus' fs' t there never);
          }
      by (inr c) = record {
        after = suc spent;
        whole = omega (arith, c.spent);
        reached = spent_reached n n' focus' fs' t c;
        puts = λ never. spent_puts n n' focus' fs' t c never;
      }

  -- if the step is the end, the output up to the end is the output with the steps up to here, or with one more
  end_puts : IsNeverStuck (outcome_of p input) → (n : ℕ) (o : Outcome values.Value) → next n ≡ Halt o
      → puts_of (outcome_of p input) (spent + n)
      ≡ puts_of (outcome_of p input) spent ++ pieces_of 64 (written_since s.output (output_of o))
  end_puts never n o is = by (step_kind p focus fs s) n is
    where
      by : Kind s next → (n : ℕ) → next n ≡ Halt o
          → puts_of (outcome_of p input) (spent + n)
          ≡ puts_of (outcome_of p input) spent ++ pieces_of 64 (written_since s.output (output_of o))
      by (inl steady) n is =
          let text : (k : ℕ) → output_of (outcome_of p input (spent + k)) ≡ output_of o =
          λ k. ap output_of (sym (next_means k (Halt (left_as o k)) (steady n k ∙ ap (λ (x : Next). next_with x k) is))) ∙ left_output o k in
          steps_still (λ (k : ℕ). output_of (outcome_of p input k)) spent n (output_of o) text
          ∙ quiet_puts never (output_of o) (ap (λ (k : ℕ). output_of (outcome_of p input k)) (sym none_spent) ∙ text 0)
      by (inr spends) zero is =
          let same : On s ≡ o = same_end (On s) o (sym spends.none ∙ is) in
          ap (puts_of (outcome_of p input)) none_spent
          ∙ quiet_puts never (output_of o) (output_here never ∙ ap output_of same)
      by (inr spends) (suc n) is =
          let first : spent + suc n ≡ suc spent + n = omega arith in
          let none : suc spent + 0 ≡ suc spent = omega arith in
          let text : (k : ℕ) → output_of (outcome_of p input (suc spent + k)) ≡ output_of o =
          λ k.
          let level : suc spent + k ≡ spent + suc k = omega arith in
          ap (λ (a : ℕ). output_of (outcome_of p input a)) level
          ∙ (ap output_of (sym (next_means (suc k) (Halt (left_as o k)) (spends.more n k ∙ ap (λ (x : Next). next_with x k) is))) ∙ left_output o k) in
          ap (puts_of (outcome_of p input)) first
          ∙ (steps_still (λ (k : ℕ). output_of (outcome_of p input k)) (suc spent) n (output_of o) text
          ∙ step_more (λ (k : ℕ). output_of (outcome_of p input k)) spent s.output (output_of o) (output_here never)
          (ap (λ (a : ℕ). output_of (outcome_of p input a)) (sym none) ∙ text 0))

  -- the step was spent
  call_stops : (n n' : ℕ) (focus' : machine.Focus) (fs' : List machine.Frame) (t : State) → next n ≡ Continue focus' fs' t n'
      → n' < n → StopsBefore s next n n' focus' fs' t
  call_stops n n' focus' fs' t is less = by (advance s next (step_kind p focus fs s) n n' focus' fs' t is)
    where
      by : ((n' ≡ n) × ((k : ℕ) → next k ≡ Continue focus' fs' t k)) ⊎ StopsBefore s next n n' focus' fs' t
          → StopsBefore s next n n' focus' fs' t
      by (inl (same, any)) = absurd (omega (arith, same, less))
      by (inr c) = c

  -- with no step left it stops there
  stops_there : (n n' : ℕ) (focus' : machine.Focus) (fs' : List machine.Frame) (t : State)
      → StopsBefore s next n n' focus' fs' t → outcome_of p input spent ≡ On s
  stops_there n n' focus' fs' t c = ap (outcome_of p input) (sym none_spent) ∙ sym (next_means 0 (Halt (On s)) c.none)

  -- with one step left, it comes to what is later than the state after the step
  after_one : (n n' : ℕ) (focus' : machine.Focus) (fs' : List machine.Frame) (t : State)
      → StopsBefore s next n n' focus' fs' t → After t (outcome_of p input (spent + 1))
  after_one n n' focus' fs' t c =
      subst (λ (o : Outcome values.Value). After t o) (next_means 1 (Continue focus' fs' t 0) (c.any 0)) (means_later p (spent + 1) focus' fs' t 0)

  module _ (steps n : ℕ) (whole : steps ≡ spent + n) where
    -- the outcome of the program with all steps
    pub ended_with : (o : Outcome values.Value) → next n ≡ Halt o → outcome_of p input steps ≡ o
    ended_with o is = ap (outcome_of p input) whole ∙ sym (next_means n (Halt o) is)

    later_than : (focus' : machine.Focus) (fs' : List machine.Frame) (t : State) (n' : ℕ)
        → means p (spent + n) (Continue focus' fs' t n') ≡ outcome_of p input (spent + n)
        → After t (outcome_of p input steps)
    later_than focus' fs' t n' is =
        subst (λ (o : Outcome values.Value). After t o) (is ∙ ap (outcome_of p input) (sym whole)) (means_later p (spent + n) focus' fs' t n')

    -- Over a sink of which `start` is known at the start, and which was given `before` to put up to here.
    module _ (start sink : SinkSeen) (before : List (List ℕ)) (so_far : IsNeverStuck (outcome_of p input) → before ≡ start.puts ++ puts_of (outcome_of p input) spent) where
      abbrev first : SinkSeen
      first = seen start.held before

      -- the bytes put up to here, if nothing more is put
      same_held : sink ≡ sink_before first s.output → sink.held ≡ appended start.held s.output
      same_held is = ap (λ (k : SinkSeen). k.held) is

      same_puts : sink ≡ sink_before first s.output → IsNeverStuck (outcome_of p input)
          → sink.puts ≡ start.puts ++ puts_of (outcome_of p input) spent
      same_puts is never = ap (λ (k : SinkSeen). k.puts) is ∙ so_far never

      -- the case that the step is the end
      end_at : (rest : List ℕ) (o : Outcome values.Value) (t : State) → next n ≡ Halt o → output_of o ≡ t.output → rest ≡ t.input → sink ≡ sink_after first s.output t.output
          → IsAt (outcome_of p input) steps t start rest sink
      end_at rest o t is output left put = record {
        put = ap (λ (k : SinkSeen). k.held) put;
        puts = λ never.
            let texts : List (List ℕ) = pieces_of 64 (written_since s.output t.output) in
            ap (λ (k : SinkSeen). k.puts) put
            ∙ (ap (λ (ps : List (List ℕ)). ps ++ texts) (so_far never)
            ∙ (append_assoc start.puts (puts_of (outcome_of p input) spent) texts
            ∙ ap (λ (ps : List (List ℕ)). start.puts ++ ps)
            (ap (λ (xs : List ℕ). puts_of (outcome_of p input) spent ++ pieces_of 64 (written_since s.output xs)) (sym output)
            ∙ (sym (end_puts never n o is) ∙ ap (puts_of (outcome_of p input)) (sym whole)))));
        left = left;
      }

      module _ (taken rest : List ℕ) (input_is : s.input ≡ taken ++ rest) where
        -- a read failed in the step
        fails_reading : (n' : ℕ) → n' < n → sink ≡ sink_before first s.output → ToStep n' (next n) (HasLeft rest)
            → FailsReading (outcome_of p input) steps start rest sink
        fails_reading n' less put c =
            let stop = call_stops n n' c.focus c.frames c.state c.is less in
            record {
              spent = spent;
              fewer = omega (arith, whole, stop.spent);
              state = s;
              stops = stops_there n n' c.focus c.frames c.state stop;
              put = same_held put;
              puts = same_puts put;
              taken = taken;
              left = input_is;
              later =
                  left_within rest c.state (outcome_of p input (spent + 1)) c.there (after_one n n' c.focus c.frames c.state stop);
            }

        -- a write failed in the step
        fails_writing : (n' : ℕ) → n' < n → rest ≡ s.input → ToStep n' (next n) (HasPutSome first s.output sink)
            → FailsWriting (outcome_of p input) steps start rest sink
        fails_writing n' less left c =
            let stop = call_stops n n' c.focus c.frames c.state c.is less in
            let texts : List (List ℕ) = pieces_of 64 (written_since s.output c.state.output) in
            record {
              spent = spent;
              fewer = omega (arith, whole, stop.spent);
              state = s;
              stops = stops_there n n' c.focus c.frames c.state stop;
              left = left;
              later =
                  put_within start.held sink.held s.output c.state (outcome_of p input (spent + 1)) c.there.0 (after_one n n' c.focus c.frames c.state stop);
              puts = λ never.
                  let front : PutFront (start.puts ++ puts_of (outcome_of p input) spent) texts sink.puts =
                  subst (λ (ps : List (List ℕ)). PutFront ps texts sink.puts) (so_far never) c.there.1 in
                  subst (λ (ps : List (List ℕ)). PutFront start.puts ps sink.puts) (sym (spent_puts n n' c.focus c.frames c.state stop never))
                  (front_behind start.puts (puts_of (outcome_of p input) spent) texts sink.puts front);
            }

        -- memory ran out
        runs_short : sink ≡ sink_before first s.output → OfState (outcome_of p input steps) (HasLeft rest)
            → RunsShort (outcome_of p input) steps start rest sink
        runs_short put later =
            let still : IsStill s (outcome_of p input spent) =
            subst (λ (o : Outcome values.Value). IsStill s o) (reached 0 ∙ ap (outcome_of p input) none_spent) (means_still p (spent + 0) focus fs s) in
            record {
              spent = spent;
              within = omega (arith, whole);
              output = s.output;
              put = same_held put;
              puts = same_puts put;
              stands = taken_within taken rest s (outcome_of p input spent) input_is still;
              later = later;
            }

        -- with nothing taken
        pub short_here : sink ≡ sink_before first s.output → rest ≡ s.input
            → RunsShort (outcome_of p input) steps start rest sink
        short_here put same =
            runs_short put (left_within rest s (outcome_of p input steps) ([], same) (later_than focus fs s n (reached n)))

        short_by : (n' : ℕ) → sink ≡ sink_before first s.output → (rest ≡ s.input) ⊎ ToStep n' (next n) (HasLeft rest)
            → RunsShort (outcome_of p input) steps start rest sink
        short_by n' put (inl same) = short_here put same
        short_by n' put (inr c) =
            runs_short put (left_within rest c.state (outcome_of p input steps) c.there (later_than c.focus c.frames c.state n' (next_means n (Continue c.focus c.frames c.state n') c.is)))

        -- the step was the end
        pub reached_end : (e : Ending) (m : Machine) → FaultsInCalls {A = Focus} (Err e) n m.left → Reaches p (Err e) m first s.output s.input rest sink (next n) → Ended (outcome_of p input) steps start (Err e) rest sink
        reached_end (ending.Error e) m calls (now, put, is) =
            let t : State = state_of m rest now in
            (t, ended_with (Stop (error_of e) t) is, end_at rest (Stop (error_of e) t) t is refl refl put)
        reached_end ending.StepLimit m calls (now, put, is) =
            let t : State = state_of m rest now in
            (t, ended_with (On t) is, end_at rest (On t) t is refl refl put)
        reached_end ending.Stuck m calls is = ended_with Stuck is
        reached_end ending.Memory m calls (put, more) = short_by m.left put more
        reached_end ending.ReadFault m calls (put, c) = fails_reading m.left calls put c
        reached_end ending.WriteFault m calls (left, c) = fails_writing m.left calls left c

-- Along the run

-- The configuration is reached, with `rest` of the input left, over a sink of which `start` was known at the start.
pub record SoFar (p : List Class) (steps : ℕ) (start : SinkSeen) (input : List ℕ) (f : Focus) (m : Machine)
    (rest : List ℕ) (sink : SinkSeen) : Type 0 where
  pub now : List ℕ
  pub put : sink.held ≡ appended start.held now
  pub spent : ℕ
  pub puts : IsNeverStuck (outcome_of p input) → sink.puts ≡ start.puts ++ puts_of (outcome_of p input) spent
  pub whole : steps ≡ spent + m.left
  pub reached : IsReached p input spent (focus_of p f) (frames_of p m) (state_of m rest now)

-- a step came to what is done next
pub reached_on : (p : List Class) (steps spent n : ℕ) (start : SinkSeen) (before : List (List ℕ)) (input : List ℕ)
    (focus : machine.Focus) (fs : List machine.Frame) (s : State)
    → IsReached p input spent focus fs s → steps ≡ spent + n
    → (IsNeverStuck (outcome_of p input) → before ≡ start.puts ++ puts_of (outcome_of p input) spent)
    → (f : Focus) (m : Machine) (middle rest : List ℕ) (sink : SinkSeen)
    → Reaches p (Ok f) m (seen start.held before) s.output middle rest sink (step p focus fs s n)
    → SoFar p steps start input f m rest sink
reached_on p steps spent n start before input focus fs s reached whole so_far f m middle rest sink (now, put, is) =
    let next = next_reached p input spent focus fs s reached n m.left (focus_of p f) (frames_of p m) (state_of m rest now) is in
    let texts : List (List ℕ) = pieces_of 64 (written_since s.output now) in
    record {
      now = now;
      put = ap (λ (k : SinkSeen). k.held) put;
      spent = next.after;
      puts = λ never.
          ap (λ (k : SinkSeen). k.puts) put
          ∙ (ap (λ (ps : List (List ℕ)). ps ++ texts) (so_far never)
          ∙ (append_assoc start.puts (puts_of (outcome_of p input) spent) texts
          ∙ ap (λ (ps : List (List ℕ)). start.puts ++ ps) (sym (next.puts never))));
      whole = whole ∙ next.whole;
      reached = next.reached;
    }

module _ (p : List Class) (steps : ℕ) (start : SinkSeen) (input middle : List ℕ) (f : Focus) (m : Machine) (sink : SinkSeen) (h : SoFar p steps start input f m middle sink) where
  -- the step from here
  abbrev next_of : Next
  next_of = step p (focus_of p f) (frames_of p m) (state_of m middle h.now) m.left

  -- the sink before it
  abbrev first_of : SinkSeen
  first_of = seen start.held sink.puts

  pub stands : sink ≡ sink_before first_of h.now
  stands = seen_is sink (sink_before first_of h.now) h.put refl

  pub goes_on : (f' : Focus) (m' : Machine) (rest : List ℕ) (sink' : SinkSeen)
      → Steps p (Ok (Some f')) m' first_of h.now middle rest sink' next_of → SoFar p steps start input f' m' rest sink'
  goes_on f' m' rest sink' r =
      reached_on p steps h.spent m.left start sink.puts input (focus_of p f) (frames_of p m) (state_of m middle h.now) h.reached h.whole h.puts f' m' middle rest sink' r

  pub ends_well : (m' : Machine) (rest : List ℕ) (sink' : SinkSeen)
      → Steps p (Ok None) m' first_of h.now middle rest sink' next_of
      → Ended (outcome_of p input) steps start (Ok tt) rest sink'
  ends_well m' rest sink' (v, n, put, is) =
      let t : State = state_of m' rest h.now in (
        v,
        t,
        n,
        ended_with p input h.spent (focus_of p f) (frames_of p m) (state_of m middle h.now) h.reached steps m.left h.whole (Val v t n) is,
        end_at p input h.spent (focus_of p f) (frames_of p m) (state_of m middle h.now) h.reached steps m.left h.whole start sink' sink.puts h.puts rest (Val v t n) t is refl refl (put ∙ sink_still first_of h.now),
      )

  pub ends : (e : Ending) (m' : Machine) (taken rest : List ℕ) (sink' : SinkSeen) → middle ≡ taken ++ rest → FaultsInCalls {A = Option Focus} (Err e) m.left m'.left
      → Steps p (Err e) m' first_of h.now middle rest sink' next_of → Ended (outcome_of p input) steps start (Err e) rest sink'
  ends e m' taken rest sink' is calls r =
      reached_end p input h.spent (focus_of p f) (frames_of p m) (state_of m middle h.now) h.reached steps m.left h.whole start sink' sink.puts h.puts taken rest is e m' calls r

  -- the loop has an end of its own
  pub ends_here : Ended (outcome_of p input) steps start (Err ending.Memory) middle sink
  ends_here =
      short_here p input h.spent (focus_of p f) (frames_of p m) (state_of m middle h.now) h.reached steps m.left h.whole start sink sink.puts h.puts [] middle refl stands refl

-- if the end was answered, nothing is left
pub none_left : (is : Bool) (p q : Past) (left left' : Option (List ℕ)) (input rest : List ℕ) → Took false is p q left left'
    → Leaves p q input rest → is ≡ true → rest ≡ []
none_left is p q left left' input rest t l e = by is t.ends e
  where
    by : (b : Bool) → EndsOnce false b t.front p.ends q.ends left' → b ≡ true → rest ≡ []
    by true (more, end) e = l.all (omega (arith, more))
    by false same e = absurd cc

-- the bytes taken come before the rest
pub front_taken : (was is : Bool) (p q : Past) (left left' : Option (List ℕ)) (input rest : List ℕ)
    → (t : Took was is p q left left') → Leaves p q input rest → input ≡ t.front ++ rest
front_taken was is p q left left' input rest t l =
    append_cancel_left p.given input (t.front ++ rest) (l.cut ∙ (ap (λ (xs : List ℕ). xs ++ rest) t.given ∙ append_assoc p.given t.front rest))

-- The start

-- the configuration in which the object of class Main is made
abbrev pub main_focus : machine.Focus
main_focus = Begin values.Void [] (New nowhere (record { name = codes "Main"; at = nowhere }))

abbrev pub main_frames : List machine.Frame
main_frames = Receiver nowhere None (codes "main") [] ∷ []

main_means : (p : List Class) (input : List ℕ) (k : ℕ)
    → means p k (Continue main_focus main_frames (start input) k) ≡ outcome_of p input k
unfolding step begun begin_args outcome_of
main_means p input k =
    step_means p k (Begin values.Void [] main_call) [] (start input) k (omega arith) ∙ start_means p input k

-- it is reached with no step spent
pub main_reached : (p : List Class) (input : List ℕ) → IsReached p input 0 main_focus main_frames (start input)
main_reached p input k =
    let level : k ≡ 0 + k = omega arith in
    subst (λ (a : ℕ). means p a (Continue main_focus main_frames (start input) k) ≡ outcome_of p input a) level (main_means p input k)
