-- A run of m + n instructions is a run of m instructions, continued by a run of n instructions.
use Rattle.std.specs.Prelude.{◌≡◌, ℕ, zero, suc, ◌+◌, List, refl}
use Rattle.std.proofs.Common.{ap, arith, ◌∙◌}
use Rattle.mips_isa.specs.Bytes.{Segments}
use Rattle.mips_isa.specs.Calls.{State, Outcome, Running, Exited, Trapped}
use Rattle.mips_isa.specs.Run.{cycle, and_then, run}

-- what comes after an end is passed over, in two steps as in one
in_two : (o : Outcome) (go whole : State → Outcome) (then : State → Outcome) → ((s : State) → whole s ≡ and_then (go s) then)
    → and_then o whole ≡ and_then (and_then o go) then
in_two (Running s) go whole then same = same s
in_two (Exited code s) go whole then same = refl
in_two (Trapped trap s) go whole then same = refl

pub run_sum : (text : List ℕ) (b : Segments) (m n : ℕ) (s : State) → run text b (m + n) s ≡ and_then (run text b m s) (run text b n)
run_sum text b zero n s = let none : 0 + n ≡ n = omega arith in ap (λ k. run text b k s) none
run_sum text b (suc m) n s =
    let one_more : suc m + n ≡ suc (m + n) = omega arith in
    ap (λ k. run text b k s) one_more ∙ in_two (cycle text b s) (run text b m) (run text b (m + n)) (run text b n) (run_sum text b m n)
