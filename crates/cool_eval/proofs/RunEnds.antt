-- When the interpreter's loop of steps has ended, the bytes written by then are those that the runs by the semantics write, also if a read or a write failed.
use Rattle.std.proofs.Common.{◌≡◌, ◌≢◌, ℕ, suc, ◌+◌, ◌≤◌, List, [], ◌++◌, length, Option, Ok, Err, inl, inr, ap, sym, ◌∙◌, refl, subst, append_assoc, append-nil, arith}
use Rattle.std.specs.Prelude.{◌-◌, take}
use Rattle.cool_ports.specs.SinkBytes.{appended, GotPrefix}
use Rattle.cool_ports.specs.SinkPuts.{SinkSeen, pieces_of, PutFront}
use Rattle.cool_classes.specs.Chains.{Class}
use Rattle.cool_rules.specs.TypedTables.{IsTypedTable}
use Rattle.cool_meaning.specs.Laws.{IsOver}
use Rattle.cool_meaning.specs.Values as values
use Rattle.cool_meaning.specs.Values.{State}
use Rattle.cool_meaning.specs.Meters.{Outcome, Val, Stop, On, Stuck}
use Rattle.cool_meaning.specs.SourceRun as runs
use Rattle.cool_meaning.specs.SourceRun.{Run, End, run_of, run, done_text, error_text}
use Rattle.cool_meaning.proofs.SoundRuns.{never_stuck}
use Rattle.cool_eval.specs.declared.ending.Ending.TheVariants as ending
use Rattle.cool_eval.specs.declared.ending.RunError.{RunError}
use Rattle.cool_eval.specs.declared.evaluation.EvalEnd.TheVariants.{Done, Error, StepLimit, ReadFault, WriteFault, Memory}
use Rattle.cool_eval.specs.Configurations.{error_of}
use Rattle.cool_eval.specs.Devices.{HasLeft, HasPut}
use Rattle.cool_eval.specs.Ends.{last_line, TookPart, Evaluates}
use Rattle.cool_eval.specs.Puts.{steps_puts, before_last, written, run_puts, PutByRun}
use Rattle.cool_eval.specs.Running.{outcome_of, output_of, puts_of, IsNeverStuck, OfState, HasTaken, FailsReading, RunsShort, Ended}
use Rattle.cool_eval.proofs.PutsOfSteps.{before_text, same_puts, steps_within, front_longer, front_behind}
use Rattle.cool_eval.proofs.RunSoFar.{prefix_longer}
use Rattle.cool_eval.proofs.RunsMean.{SameEnd, start_means, run_is}
use Rattle.cool_ports.proofs.GettingBytes.{appended-appended}

-- a text that is put after the output of a run
text_put : (first held held' : Option (List ℕ)) (output text : List ℕ) → held ≡ appended first output
    → held' ≡ appended held text → held' ≡ appended first (output ++ text)
text_put first held held' output text put is =
    is ∙ (ap (λ (h : Option (List ℕ)). appended h text) put ∙ appended-appended first output text)

outcome_run : (p : List Class) (names : List (List ℕ)) (input : List ℕ) (n : ℕ)
    → SameEnd (run p names input n) (run_of p names (outcome_of p input n) 0 0 0)
unfolding outcome_of
outcome_run p names input n = run_is p names input n (outcome_of p input n) (sym (start_means p input n))

-- the output of a run before its last line
cut_line : (p : List Class) (names : List (List ℕ)) (r : Run) (end : End) (output : List ℕ) → r.end ≡ end
    → r.output ≡ output ++ last_line p names end → before_last p names r ≡ output
cut_line p names r end output ends is =
    ap (λ (e : End). take (length r.output - length (last_line p names e)) r.output) ends
    ∙ (ap (λ (xs : List ℕ). take (length xs - length (last_line p names end)) xs) is ∙ before_text output (last_line p names end))

-- no typed program is stuck
pub never_no_rule : (p : List Class) → IsTypedTable p → (input : List ℕ) → IsNeverStuck (outcome_of p input)
never_no_rule p typed input n is =
    never_stuck p typed [] input n ((outcome_run p [] input n).end ∙ ap (λ (o : Outcome values.Value). (run_of p [] o 0 0 0).end) is)

module _ (p : List Class) (names : List (List ℕ)) (input : List ℕ) where
  -- the run with so many steps, by what the program comes to with them
  run_at : (n : ℕ) (o : Outcome values.Value) → outcome_of p input n ≡ o
      → SameEnd (run p names input n) (run_of p names o 0 0 0)
  run_at n o is =
      subst (λ (x : Outcome values.Value). SameEnd (run p names input n) (run_of p names x 0 0 0)) is (outcome_run p names input n)

  -- a run that goes on wrote what was printed
  output_on : (n : ℕ) (s : State) → outcome_of p input n ≡ On s → (run p names input n).output ≡ s.output
  output_on n s is = (run_at n (On s) is).output ∙ append-nil s.output

  module _ (never : (n : ℕ) → outcome_of p input n ≢ Stuck) where
    -- at least what the run leaves is left
    left_of_run : (n : ℕ) (rest : List ℕ) → OfState (outcome_of p input n) (HasLeft rest)
        → (kept : List ℕ) × (rest ≡ kept ++ (run p names input n).left)
    left_of_run n rest has = by (outcome_of p input n) refl has
      where
        by : (o : Outcome values.Value) → outcome_of p input n ≡ o → OfState o (HasLeft rest)
            → (kept : List ℕ) × (rest ≡ kept ++ (run p names input n).left)
        by (Val v s k) is (kept, left) = (kept, left ∙ ap (λ (xs : List ℕ). kept ++ xs) (sym (run_at n (Val v s k) is).left))
        by (Stop e s) is (kept, left) = (kept, left ∙ ap (λ (xs : List ℕ). kept ++ xs) (sym (run_at n (Stop e s) is).left))
        by (On s) is (kept, left) = (kept, left ∙ ap (λ (xs : List ℕ). kept ++ xs) (sym (run_at n (On s) is).left))
        by Stuck is has = absurd (never n is)

    module _ (steps : ℕ) (start sink : SinkSeen) (rest : List ℕ) where
      -- no step was left
      pub limit_ended : Ended (outcome_of p input) steps start (Err ending.StepLimit) rest sink
          → Evaluates p names input steps start.held StepLimit rest sink.held
      limit_ended (s, is, at) =
          let r = run_at steps (On s) is in
          (r.end, (at.put ∙ ap (appended start.held) (sym (output_on steps s is)), at.left ∙ sym r.left))

      -- the input taken when a read failed
      read_took : (h : FailsReading (outcome_of p input) steps start rest sink)
          → TookPart (run p names input h.spent) (run p names input (h.spent + 1)) rest
      read_took h =
          let r = run_at h.spent (On h.state) h.stops in
          let later = left_of_run (h.spent + 1) rest h.later in
          record { taken = h.taken; left = r.left ∙ h.left; kept = later.0; later = later.1 }

      -- a read failed
      pub read_ended : Ended (outcome_of p input) steps start (Err ending.ReadFault) rest sink
          → Evaluates p names input steps start.held ReadFault rest sink.held
      read_ended h =
          record {
            spent = h.spent;
            fewer = h.fewer;
            goes_on = (run_at h.spent (On h.state) h.stops).end;
            put = h.put ∙ ap (appended start.held) (sym (output_on h.spent h.state h.stops));
            input = read_took h;
          }

      -- the output of the run of which a prefix was put
      abbrev WritesAfter : List ℕ → ℕ → Type 0
      WritesAfter output n =
          (printed : List ℕ) × ((run p names input n).output ≡ output ++ printed) × GotPrefix (appended start.held output) printed sink.held

      writes_by : (output : List ℕ) (n : ℕ) (s : State) (text : List ℕ) → (run p names input n).output ≡ s.output ++ text
          → HasPut start.held output sink.held s → WritesAfter output n
      writes_by output n s text is (printed, more, got) = (
        printed ++ text,
        is ∙ (ap (λ (xs : List ℕ). xs ++ text) more ∙ append_assoc output printed text),
        prefix_longer (appended start.held output) printed text sink.held got,
      )

      writes_of_run : (output : List ℕ) (n : ℕ) → OfState (outcome_of p input n) (HasPut start.held output sink.held)
          → WritesAfter output n
      writes_of_run output n has = by (outcome_of p input n) refl has
        where
          by : (o : Outcome values.Value) → outcome_of p input n ≡ o → OfState o (HasPut start.held output sink.held)
              → WritesAfter output n
          by (Val v s k) is has = writes_by output n s done_text (run_at n (Val v s k) is).output has
          by (Stop e s) is has = writes_by output n s (error_text p names e) (run_at n (Stop e s) is).output has
          by (On s) is has = writes_by output n s [] (run_at n (On s) is).output has
          by Stuck is has = absurd (never n is)

      -- a write failed
      pub write_ended : Ended (outcome_of p input) steps start (Err ending.WriteFault) rest sink
          → Evaluates p names input steps start.held WriteFault rest sink.held
      write_ended h =
          let r = run_at h.spent (On h.state) h.stops in
          let (printed, later, got) = subst (λ (output : List ℕ). WritesAfter output (h.spent + 1)) (sym (output_on h.spent h.state h.stops)) (writes_of_run h.state.output (h.spent + 1) h.later) in
          inl (record {
            spent = h.spent;
            printed = printed;
            writes = record { fewer = h.fewer; goes_on = r.end; later = later };
            left = h.left ∙ sym r.left;
            got = got;
          })

      -- the output and the input taken when memory ran out
      record IsShort (h : RunsShort (outcome_of p input) steps start rest sink) : Type 0 where
        wrote : (run p names input h.spent).output ≡ h.output ++ last_line p names (run p names input h.spent).end
        took : TookPart (run p names input h.spent) (run p names input steps) rest

      short_by : (h : RunsShort (outcome_of p input) steps start rest sink) (s : State) (end : End)
          → (run p names input h.spent).end ≡ end → (run p names input h.spent).output ≡ s.output ++ last_line p names end
          → (run p names input h.spent).left ≡ s.input → HasTaken h.output rest s → IsShort h
      short_by h s end ends writes leaves (output, (taken, left)) =
          let later = left_of_run steps rest h.later in
          record {
            wrote =
                writes
                ∙ (ap (λ (xs : List ℕ). xs ++ last_line p names end) output ∙ ap (λ (e : End). h.output ++ last_line p names e) (sym ends));
            took = record { taken = taken; left = leaves ∙ left; kept = later.0; later = later.1 };
          }

      is_short : (h : RunsShort (outcome_of p input) steps start rest sink) → IsShort h
      is_short h = by (outcome_of p input h.spent) refl h.stands
        where
          by : (o : Outcome values.Value) → outcome_of p input h.spent ≡ o → OfState o (HasTaken h.output rest) → IsShort h
          by (Val v s n) is has = let r = run_at h.spent (Val v s n) is in short_by h s runs.Done r.end r.output r.left has
          by (Stop e s) is has =
              let r = run_at h.spent (Stop e s) is in short_by h s (runs.Failed e) r.end r.output r.left has
          by (On s) is has = let r = run_at h.spent (On s) is in short_by h s runs.GoesOn r.end r.output r.left has
          by Stuck is has = absurd (never h.spent is)

      -- memory ran out
      pub memory_ended : RunsShort (outcome_of p input) steps start rest sink
          → Evaluates p names input steps start.held Memory rest sink.held
      memory_ended h =
          let c = is_short h in
          record { spent = h.spent; within = h.within; before = h.output; output = c.wrote; put = h.put; input = c.took }

  -- The last line

  module _ (steps : ℕ) (start sink : SinkSeen) (held' : Option (List ℕ)) (rest : List ℕ) where
    -- a prefix of it was put
    line_cut : (s : State) (end : End) → IsOver end → (run p names input steps).end ≡ end
        → (run p names input steps).output ≡ s.output ++ last_line p names end → (run p names input steps).left ≡ s.input
        → sink.held ≡ appended start.held s.output → rest ≡ s.input → GotPrefix sink.held (last_line p names end) held'
        → Evaluates p names input steps start.held WriteFault rest held'
    line_cut s end over ends writes leaves put left got =
        inr (record {
          before = s.output;
          ends = record { over = subst IsOver (sym ends) over; output_is = writes ∙ ap (λ (e : End). s.output ++ last_line p names e) (sym ends) };
          left = left ∙ sym leaves;
          got =
              subst (λ (e : End). GotPrefix (appended start.held s.output) (last_line p names e) held') (sym ends) (subst (λ (h : Option (List ℕ)). GotPrefix h (last_line p names end) held') put got);
        })

    pub done_put : Ended (outcome_of p input) steps start (Ok tt) rest sink → held' ≡ appended sink.held done_text
        → Evaluates p names input steps start.held Done rest held'
    done_put (v, s, n, is, at) put =
        let r = run_at steps (Val v s n) is in
        (r.end, (text_put start.held sink.held held' s.output done_text at.put put ∙ ap (appended start.held) (sym r.output), at.left ∙ sym r.left))

    pub done_cut : Ended (outcome_of p input) steps start (Ok tt) rest sink → GotPrefix sink.held done_text held'
        → Evaluates p names input steps start.held WriteFault rest held'
    done_cut (v, s, n, is, at) got =
        let r = run_at steps (Val v s n) is in
        line_cut s runs.Done tt r.end r.output r.left at.put at.left got

    pub error_put : (e : RunError) → Ended (outcome_of p input) steps start (Err (ending.Error e)) rest sink
        → held' ≡ appended sink.held (error_text p names (error_of e)) → Evaluates p names input steps start.held Error rest held'
    error_put e (s, is, at) put =
        let r = run_at steps (Stop (error_of e) s) is in
        ((error_of e, r.end), (text_put start.held sink.held held' s.output (error_text p names (error_of e)) at.put put ∙ ap (appended start.held) (sym r.output), at.left ∙ sym r.left))

    pub error_cut : (e : RunError) → Ended (outcome_of p input) steps start (Err (ending.Error e)) rest sink
        → GotPrefix sink.held (error_text p names (error_of e)) held' → Evaluates p names input steps start.held WriteFault rest held'
    error_cut e (s, is, at) got =
        let r = run_at steps (Stop (error_of e) s) is in
        line_cut s (runs.Failed (error_of e)) tt r.end r.output r.left at.put at.left got

  -- the text of the error could not be made
  pub error_none : (steps : ℕ) (start sink : SinkSeen) (rest : List ℕ) (e : RunError)
      → Ended (outcome_of p input) steps start (Err (ending.Error e)) rest sink
      → Evaluates p names input steps start.held Memory rest sink.held
  error_none steps start sink rest e (s, is, at) =
      let r = run_at steps (Stop (error_of e) s) is in
      record {
        spent = steps;
        within = omega arith;
        before = s.output;
        output = r.output ∙ ap (λ (x : End). s.output ++ last_line p names x) (sym r.end);
        put = at.put;
        input = record { taken = []; left = r.left ∙ sym at.left; kept = []; later = at.left ∙ sym r.left };
      }

  -- The puts of the run

  -- the output of the runs before their last lines is the program's output
  pub written_is : (n : ℕ) → written p names input n ≡ output_of (outcome_of p input n)
  written_is n = by (outcome_of p input n) refl
    where
      by : (o : Outcome values.Value) → outcome_of p input n ≡ o → written p names input n ≡ output_of o
      by (Val v s k) is =
          let r = run_at n (Val v s k) is in cut_line p names (run p names input n) runs.Done s.output r.end r.output
      by (Stop e s) is =
          let r = run_at n (Stop e s) is in cut_line p names (run p names input n) (runs.Failed e) s.output r.end r.output
      by (On s) is =
          let r = run_at n (On s) is in cut_line p names (run p names input n) runs.GoesOn s.output r.end r.output
      by Stuck is =
          let r = run_at n Stuck is in cut_line p names (run p names input n) runs.IsStuck [] r.end r.output

  -- and with the last line it is all that they write
  pub written_whole : IsNeverStuck (outcome_of p input) → (n : ℕ)
      → (run p names input n).output ≡ written p names input n ++ last_line p names (run p names input n).end
  written_whole never n = by (outcome_of p input n) refl
    where
      whole : (output : List ℕ) (end : End) → (run p names input n).end ≡ end
          → (run p names input n).output ≡ output ++ last_line p names end
          → (run p names input n).output ≡ written p names input n ++ last_line p names (run p names input n).end
      whole output end ends is =
          is
          ∙ (ap (λ (e : End). output ++ last_line p names e) (sym ends)
          ∙ ap (λ (xs : List ℕ). xs ++ last_line p names (run p names input n).end) (sym (cut_line p names (run p names input n) end output ends is)))

      by : (o : Outcome values.Value) → outcome_of p input n ≡ o
          → (run p names input n).output ≡ written p names input n ++ last_line p names (run p names input n).end
      by (Val v s k) is = let r = run_at n (Val v s k) is in whole s.output runs.Done r.end r.output
      by (Stop e s) is = let r = run_at n (Stop e s) is in whole s.output (runs.Failed e) r.end r.output
      by (On s) is = let r = run_at n (On s) is in whole s.output runs.GoesOn r.end r.output
      by Stuck is = absurd (never n is)

  puts_are : (n : ℕ) → puts_of (outcome_of p input) n ≡ steps_puts (written p names input) n
  puts_are n =
      sym (same_puts (written p names input) (λ (k : ℕ). output_of (outcome_of p input k)) written_is n)

  module _ (never : IsNeverStuck (outcome_of p input)) (steps : ℕ) (start sink : SinkSeen) (rest : List ℕ) where
    -- the puts of some of the steps
    step_puts : (n : ℕ) → (IsNeverStuck (outcome_of p input) → sink.puts ≡ start.puts ++ puts_of (outcome_of p input) n)
        → sink.puts ≡ start.puts ++ steps_puts (written p names input) n
    step_puts n put = put never ∙ ap (λ (ps : List (List ℕ)). start.puts ++ ps) (puts_are n)

    -- and those of the last line
    line_puts : (end : End) (after : List (List ℕ)) → (run p names input steps).end ≡ end
        → (IsNeverStuck (outcome_of p input) → sink.puts ≡ start.puts ++ puts_of (outcome_of p input) steps)
        → after ≡ sink.puts ++ pieces_of 64 (last_line p names end)
        → after ≡ start.puts ++ run_puts p names input steps
    line_puts end after ends so_far is =
        let texts : List (List ℕ) = steps_puts (written p names input) steps in
        is
        ∙ (ap (λ (ps : List (List ℕ)). ps ++ pieces_of 64 (last_line p names end)) (step_puts steps so_far)
        ∙ (append_assoc start.puts texts (pieces_of 64 (last_line p names end))
        ∙ ap (λ (e : End). start.puts ++ (texts ++ pieces_of 64 (last_line p names e))) (sym ends)))

    line_front : (end : End) (after : List (List ℕ)) → (run p names input steps).end ≡ end
        → (IsNeverStuck (outcome_of p input) → sink.puts ≡ start.puts ++ puts_of (outcome_of p input) steps)
        → PutFront sink.puts (pieces_of 64 (last_line p names end)) after
        → PutFront start.puts (run_puts p names input steps) after
    line_front end after ends so_far front =
        let texts : List (List ℕ) = steps_puts (written p names input) steps in
        let line : List (List ℕ) = pieces_of 64 (last_line p names end) in
        let whole : run_puts p names input steps ≡ texts ++ line =
        ap (λ (e : End). texts ++ pieces_of 64 (last_line p names e)) ends in
        subst (λ (ps : List (List ℕ)). PutFront start.puts ps after) (sym whole)
        (front_behind start.puts texts line after (subst (λ (ps : List (List ℕ)). PutFront ps line after) (step_puts steps so_far) front))

    pub done_puts : (after : List (List ℕ)) → Ended (outcome_of p input) steps start (Ok tt) rest sink
        → after ≡ sink.puts ++ pieces_of 64 done_text → PutByRun p names input steps Done rest start.puts after
    done_puts after (v, s, n, is, at) put =
        line_puts runs.Done after (run_at steps (Val v s n) is).end at.puts put

    pub done_front : (after : List (List ℕ)) → Ended (outcome_of p input) steps start (Ok tt) rest sink
        → PutFront sink.puts (pieces_of 64 done_text) after → PutByRun p names input steps WriteFault rest start.puts after
    done_front after (v, s, n, is, at) front =
        line_front runs.Done after (run_at steps (Val v s n) is).end at.puts front

    pub error_puts : (after : List (List ℕ)) (e : RunError)
        → Ended (outcome_of p input) steps start (Err (ending.Error e)) rest sink
        → after ≡ sink.puts ++ pieces_of 64 (error_text p names (error_of e))
        → PutByRun p names input steps Error rest start.puts after
    error_puts after e (s, is, at) put =
        line_puts (runs.Failed (error_of e)) after (run_at steps (Stop (error_of e) s) is).end at.puts put

    pub error_front : (after : List (List ℕ)) (e : RunError)
        → Ended (outcome_of p input) steps start (Err (ending.Error e)) rest sink
        → PutFront sink.puts (pieces_of 64 (error_text p names (error_of e))) after
        → PutByRun p names input steps WriteFault rest start.puts after
    error_front after e (s, is, at) front =
        line_front (runs.Failed (error_of e)) after (run_at steps (Stop (error_of e) s) is).end at.puts front

    -- the text of the error could not be made
    pub error_short : (e : RunError) → Ended (outcome_of p input) steps start (Err (ending.Error e)) rest sink
        → PutByRun p names input steps Memory rest start.puts sink.puts
    error_short e (s, is, at) =
        let r = run_at steps (Stop (error_of e) s) is in (
          steps,
          omega arith,
          record { taken = []; left = r.left ∙ sym at.left; kept = []; later = at.left ∙ sym r.left },
          step_puts steps at.puts,
        )

    pub limit_puts : Ended (outcome_of p input) steps start (Err ending.StepLimit) rest sink
        → PutByRun p names input steps StepLimit rest start.puts sink.puts
    limit_puts (s, is, at) =
        line_puts runs.GoesOn sink.puts (run_at steps (On s) is).end at.puts (sym (append-nil sink.puts))

    pub read_puts : Ended (outcome_of p input) steps start (Err ending.ReadFault) rest sink
        → PutByRun p names input steps ReadFault rest start.puts sink.puts
    read_puts h = (h.spent, h.fewer, read_took never steps start sink rest h, step_puts h.spent h.puts)

    pub memory_puts : RunsShort (outcome_of p input) steps start rest sink
        → PutByRun p names input steps Memory rest start.puts sink.puts
    memory_puts h = (h.spent, h.within, (is_short never steps start sink rest h).took, step_puts h.spent h.puts)

    pub write_puts : Ended (outcome_of p input) steps start (Err ending.WriteFault) rest sink
        → PutByRun p names input steps WriteFault rest start.puts sink.puts
    write_puts h =
        let some : List (List ℕ) = steps_puts (written p names input) (suc h.spent) in
        let line : List (List ℕ) = pieces_of 64 (last_line p names (run p names input steps).end) in
        let front : PutFront start.puts some sink.puts =
        subst (λ (ps : List (List ℕ)). PutFront start.puts ps sink.puts) (puts_are (suc h.spent)) (h.puts never) in
        let less : suc h.spent ≤ steps = omega (arith, h.fewer) in
        let (later, is) = steps_within (written p names input) (suc h.spent) steps less in
        let whole : run_puts p names input steps ≡ some ++ (later ++ line) =
        ap (λ (ps : List (List ℕ)). ps ++ line) is ∙ append_assoc some later line in
        subst (λ (ps : List (List ℕ)). PutFront start.puts ps sink.puts) (sym whole) (front_longer start.puts some (later ++ line) sink.puts front)
