-- If a run of the machine is stopped early, the output so far is a prefix of the whole run's output, and the input left at the end is a suffix of the input
-- left so far.
use Rattle.std.proofs.Common.{◌≡◌, ℕ, ◌+◌, ◌-◌, ◌≤◌, List, [], refl, ap, sym, ◌∙◌, subst, arith, append-nil}
use Rattle.mips_isa.specs.Bytes.{Segments}
use Rattle.mips_isa.specs.Calls.{State, Outcome, Running, Exited, Trapped}
use Rattle.mips_isa.specs.Run.{and_then, run}
use Rattle.mips_isa.proofs.InputShrinks.{Shrank, run_shrank}
use Rattle.mips_isa.proofs.OutputGrows.{Grew, run_grew}
use Rattle.mips_isa.proofs.RunsInParts.{run_sum}
use Rattle.spim_debug.specs.Notes.{state_in}

grown_from : (o : Outcome) (go : State → Outcome) → ((t : State) → Grew t (go t)) → Grew (state_in o) (and_then o go)
grown_from (Running t) go k = k t
grown_from (Exited code t) go k = ([], sym (append-nil t.output))
grown_from (Trapped trap t) go k = ([], sym (append-nil t.output))

taken_from : (o : Outcome) (go : State → Outcome) → ((t : State) → Shrank t (go t)) → Shrank (state_in o) (and_then o go)
taken_from (Running t) go k = k t
taken_from (Exited code t) go k = ([], refl)
taken_from (Trapped trap t) go k = ([], refl)

-- the run in two parts
in_parts : (text : List ℕ) (b : Segments) (m n : ℕ) (s : State) → m ≤ n → run text b n s ≡ and_then (run text b m s) (run text b (n - m))
in_parts text b m n s less =
    let split : n ≡ m + (n - m) = omega arith in
    ap (λ (k : ℕ). run text b k s) split ∙ run_sum text b m (n - m) s

-- the output up to there is a prefix of the output of the run
pub written_between : (text : List ℕ) (b : Segments) (m n : ℕ) (s : State) → m ≤ n → Grew (state_in (run text b m s)) (run text b n s)
written_between text b m n s less =
    subst (Grew (state_in (run text b m s))) (sym (in_parts text b m n s less)) (grown_from (run text b m s) (run text b (n - m)) (run_grew text b (n - m)))

-- the input left at the end of the run is a suffix of the input left there
pub left_between : (text : List ℕ) (b : Segments) (m n : ℕ) (s : State) → m ≤ n → Shrank (state_in (run text b m s)) (run text b n s)
left_between text b m n s less =
    subst (Shrank (state_in (run text b m s))) (sym (in_parts text b m n s less)) (taken_from (run text b m s) (run text b (n - m)) (run_shrank text b (n - m)))
