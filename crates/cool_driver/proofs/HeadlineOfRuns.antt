-- If an image is a correct compilation of a program, each call that ran the image within its limits satisfies the main theorem about `run` (`Headline`): its
-- outcome agrees with the source.
use Rattle.std.proofs.Common.{arith, ◌≡◌, ℕ, ◌+◌, ◌<◌, ◌⊎◌, inl, inr, List, [], ◌++◌, Some, refl, sym, ◌∙◌, ap, subst, append_assoc, append-nil}
use Rattle.cool_classes.specs.Chains.{Class}
use Rattle.cool_eval.specs.Ends.{IsPartOf}
use Rattle.cool_meaning.specs.SourceRun as source
use Rattle.cool_ports.specs.SinkBytes.{appended}
use Rattle.cool_ports.proofs.GettingBytes.{appended-appended}
use Rattle.cool_simulation.specs.Accord.{Limits, Accord, Accords, AreLimits, Means}
use Rattle.cool_words.specs.{declared.plan.RunLimits.{RunLimits}, Plans.{IsBounded}}
use Rattle.mips_isa.specs.{ImageBounds.{ImageParts}, Calls.{Outcome, Running, Exited, Trapped}}
use Rattle.mips_isa.proofs.{InputShrinks.{input_of}, OutputGrows.{output_of}}
use Rattle.spim_machine.proofs.StoppedRuns.{written_before, left_before, left_by_reading, written_by_printing}
use Rattle.cool_driver.specs.{Execution.{run_of, status_of, exit_status}, Calls.{Got, GotPart, Call}}
use Rattle.cool_driver.specs.{Headline.{limits_of, EndsAsImage, StopsReading, StopsWriting, AccordsWith, IsPartOfSource, Headline}, Runs.{DueToRun, PiecesOfRun}}
use Rattle.cool_driver.specs.{Runs.DueToRun.{ended, unread}, Runs.PiecesOfRun.{of_call}}
use Rattle.cool_driver.proofs.ComesOfRuns.{fails_alone}
use Rattle.lists.specs.{Bytes.{AreBytes}, Prefixes.{IsPrefix, IsSuffix}}
use Rattle.spim_debug.specs.Notes.{state_in}

-- The run of an image that means a program

-- the code of an exit that accords is its status
code_is_status : (code : ℕ) → code < 6 → (code ≡ 0) ⊎ ((code ≡ 3) ⊎ ((code ≡ 4) ⊎ ((code ≡ 5) ⊎ (code ≡ 6)))) → exit_status code ≡ code
code_is_status code small (inl e) = subst (λ (c : ℕ). exit_status c ≡ c) (sym e) refl
code_is_status code small (inr (inl e)) = subst (λ (c : ℕ). exit_status c ≡ c) (sym e) refl
code_is_status code small (inr (inr (inl e))) = subst (λ (c : ℕ). exit_status c ≡ c) (sym e) refl
code_is_status code small (inr (inr (inr (inl e)))) = subst (λ (c : ℕ). exit_status c ≡ c) (sym e) refl
code_is_status code small (inr (inr (inr (inr e)))) = absurd (omega arith)

-- so a run that accords does so with its status
accord_of : (runs : ℕ → source.Run) (limits : Limits) (o : Outcome) → Accords runs limits o → Accord runs limits (status_of o) (state_in o).output (state_in o).input
accord_of runs limits (Running s) h = h
accord_of runs limits (Exited code s) h = subst (λ (c : ℕ). Accord runs limits c s.output s.input) (sym (code_is_status code h.0 h.1.known)) h.1
accord_of runs limits (Trapped trap s) h = absurd h

-- limits in their bounds are limits of the machine
are_limits : (limits : RunLimits) → IsBounded limits → AreLimits (limits_of limits)
are_limits limits bounded = omega (arith, bounded.heap, bounded.stack)

pub image_accords : (limits : RunLimits) (image : ImageParts) (p : List Class) (names : List (List ℕ)) (input : List ℕ) → Means image p names → AreBytes input → IsBounded limits
    → Accord (source.run p names input) (limits_of limits) (status_of (run_of limits image input)) (state_in (run_of limits image input)).output (state_in (run_of limits image input)).input
unfolding run_of
image_accords limits image p names input means bytes bounded = accord_of _ _ _ (means input (limits_of limits) bytes (are_limits limits bounded))

-- Parts of runs

written_is : (o : Outcome) → output_of o ≡ (state_in o).output
written_is (Running s) = refl
written_is (Exited code s) = refl
written_is (Trapped trap s) = refl

left_is : (o : Outcome) → input_of o ≡ (state_in o).input
left_is (Running s) = refl
left_is (Exited code s) = refl
left_is (Trapped trap s) = refl

-- a part of what a run writes and takes, which is within the run of the source
part_of : (run : source.Run) (o : Outcome) (output left : List ℕ) → IsPrefix (state_in o).output run.output → IsSuffix run.left (state_in o).input
    → IsPrefix output (output_of o) → IsSuffix (input_of o) left → IsPartOf run output left
part_of run o output left h k f g = record {
  more = f.0 ++ h.0;
  output_is = h.1 ∙ (ap (λ (xs : List ℕ). xs ++ h.0) (sym (written_is o) ∙ f.1) ∙ append_assoc output f.0 h.0);
  kept = g.0 ++ k.0;
  left_is = g.1 ∙ (ap (λ (xs : List ℕ). g.0 ++ xs) (left_is o ∙ k.1) ∙ sym (append_assoc g.0 k.0 run.left));
}

-- a list that begins with bytes behind others also begins with a front of these bytes there
front_behind : (xs ys front rest more whole : List ℕ) → ys ≡ front ++ rest → whole ≡ (xs ++ ys) ++ more → whole ≡ (xs ++ front) ++ (rest ++ more)
front_behind xs ys front rest more whole cut e = e ∙ rw cut (simp append_assoc)

-- a sink that held nothing holds just what it got
held_alone : (held bytes : List ℕ) → Some held ≡ appended (Some []) bytes → held ≡ bytes
unfolding appended
held_alone held bytes e = cc

-- Calls

module _ (limits : RunLimits) (image : ImageParts) (names : List (List ℕ)) (p : List Class) (c : Call) (means : Means image p names) (bounded : IsBounded limits)
    (are : AreBytes c.request.input) where
  abbrev whole : Outcome
  whole = run_of limits image c.request.input

  -- the output and the input taken are parts of those of the run, and so of those of the run of the source
  pub part_of_source : (output : List ℕ) → c.out.held_after ≡ appended c.out.held_before output → IsPrefix output (output_of whole) → IsSuffix (input_of whole) c.left
      → IsPartOfSource c limits names p
  part_of_source output came front rest =
      let a = image_accords limits image p names c.request.input means are bounded in
      (output, came, part_of (source.run p names c.request.input (limits.steps + 1)) whole output c.left a.written a.taken front rest)

  -- the call ended as the run
  ended_so : (status : ℕ) → EndsAsImage c status limits image → AccordsWith (source.run p names c.request.input) c status limits × IsPartOfSource c limits names p
  ended_so status e = (
    ((state_in whole).output, e.wrote, rw (e.status_is, e.leaves) (image_accords limits image p names c.request.input means are bounded)),
    part_of_source (state_in whole).output e.wrote.0 ([], written_is whole ∙ sym (append-nil _)) ([], e.leaves ∙ sym (left_is whole)),
  )

  -- it stopped at a call whose read or write failed
  part_read : StopsReading c limits image → IsPartOfSource c limits names p
  unfolding run_of
  part_read h = part_of_source h.at.output h.wrote.0 (written_before _ _ _ _ h.at h.comes) (left_by_reading _ _ _ _ h.at _ _ c.left h.comes h.fails)

  part_written : StopsWriting c limits image → IsPartOfSource c limits names p
  unfolding run_of
  part_written h =
      let piece = h.wrote.0.1 in
      let printed = written_by_printing _ _ _ _ h.at h.bytes h.comes h.prints in
      part_of_source (h.at.output ++ piece.front) (piece.got ∙ appended-appended c.out.held_before h.at.output piece.front)
      (h.wrote.0.0 ++ printed.0, front_behind h.at.output h.bytes piece.front h.wrote.0.0 printed.0 (output_of whole) piece.cut printed.1) (rw h.leaves (left_before _ _ _ _ h.at h.comes))

  pub headline_ended : (status : ℕ) → EndsAsImage c status limits image → Headline c status limits names p
  headline_ended status e =
      let so = ended_so status e in
      let known = so.0.2.known in
      record {
        image = image;
        means = means;
        ended = λ _ _. e;
        accords = λ _ _. so.0;
        unread = λ seven. absurd (omega (arith, known, seven));
        unwritten = λ eight. absurd (omega (arith, known, eight));
        part = so.1;
      }

  pub headline_unread : StopsReading c limits image → Headline c 7 limits names p
  headline_unread h = record {
    image = image;
    means = means;
    ended = λ other _. absurd (other refl);
    accords = λ other _. absurd (other refl);
    unread = λ _. h;
    unwritten = λ eight. absurd (omega (arith, eight));
    part = part_read h;
  }

  -- a write failed, perhaps that of the note
  write_failed : StopsWriting c limits image ⊎ (StopsReading c limits image
      ⊎ ((due : ℕ) × EndsAsImage c due limits image × AccordsWith (source.run p names c.request.input) c due limits))
      → IsPartOfSource c limits names p → Headline c 8 limits names p
  write_failed why part = record {
    image = image;
    means = means;
    ended = λ _ other. absurd (other refl);
    accords = λ _ other. absurd (other refl);
    unread = λ seven. absurd (omega (arith, seven));
    unwritten = λ _. why;
    part = part;
  }

  pub headline_unwritten : StopsWriting c limits image → Headline c 8 limits names p
  headline_unwritten h = write_failed (inl h) (part_written h)

  pub noteless_unread : StopsReading c limits image → Headline c 8 limits names p
  noteless_unread h = write_failed (inr (inl h)) (part_read h)

  pub noteless_ended : (due : ℕ) → EndsAsImage c due limits image → Headline c 8 limits names p
  noteless_ended due e = let so = ended_so due e in write_failed (inr (inr (due, e, so.0))) so.1

  -- the result that is due to the run was written, or all of it except the note
  pub headline_due : (status : ℕ) (output note left : List ℕ) → DueToRun limits image c.request.input status output note left → c.left ≡ left → Got c.out output
      → Headline c status limits names p × Headline c 8 limits names p
  headline_due _ _ _ _ ended leaves got =
      let e : EndsAsImage c (status_of whole) limits image = record { status_is = refl; wrote = got; leaves = leaves } in
      (headline_ended _ e, noteless_ended _ e)
  headline_due _ _ _ _ (unread at output left comes fails) leaves got =
      let h : StopsReading c limits image =
      record { at = at; comes = comes; fails = rw leaves (fails_alone fails); wrote = subst (Got c.out) (held_alone output at.output fails.held_is) got } in
      (headline_unread h, noteless_unread h)

  -- the write of a piece of it failed
  pub headline_cut : (before piece left : List ℕ) → PiecesOfRun limits image c.request.input before piece left → c.left ≡ left → GotPart c.out before piece
      → Headline c 8 limits names p
  headline_cut _ _ _ (of_call at printed comes prints) leaves part =
      headline_unwritten (record { at = at; bytes = printed; comes = comes; prints = prints; wrote = part; leaves = leaves })
