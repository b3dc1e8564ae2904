-- If a machine reaches the same ends and output as the runs of the source, the outcome of its run agrees with the source (`Accord`).
use Rattle.std.proofs.Common.{◌≡◌, ℕ, ◌+◌, ◌-◌, ◌*◌, ◌<◌, ◌≤◌, ◌⊎◌, inl, inr, List, [], ◌++◌, sym, ap, ◌∙◌, subst, arith, append_assoc, append-nil}
use Rattle.mips_isa.specs.Bytes.{Segments}
use Rattle.mips_isa.specs.Calls.{State, Outcome, Running, Exited, Trapped}
use Rattle.mips_isa.specs.Run as machine
use Rattle.mips_isa.specs.Run.{and_then}
use Rattle.mips_isa.proofs.RunsInParts.{run_sum}
use Rattle.mips_isa.proofs.OutputGrows.{output_of, run_grew}
use Rattle.cool_meaning.specs.SourceRun.{Done, Run}
use Rattle.cool_meaning.specs.Laws.{IsOver}
use Rattle.cool_simulation.specs.MainRun.{Leaves}
use Rattle.cool_simulation.specs.Accord.{Limits, IsFailed}
use Rattle.mips_isa.proofs.InputShrinks.{input_of, run_shrank}
use Rattle.lists.specs.Prefixes.{IsPrefix, IsSuffix}

-- Prefixes and suffixes

same_prefix : (xs ys : List ℕ) → xs ≡ ys → IsPrefix xs ys
same_prefix xs ys e = ([], sym e ∙ sym (append-nil xs))

same_suffix : (xs ys : List ℕ) → xs ≡ ys → IsSuffix ys xs
same_suffix xs ys e = ([], e)

then_prefix : (xs ys zs : List ℕ) → IsPrefix xs ys → IsPrefix ys zs → IsPrefix xs zs
then_prefix xs ys zs h k = (h.0 ++ k.0, k.1 ∙ (ap (λ (l : List ℕ). l ++ k.0) h.1 ∙ append_assoc xs h.0 k.0))

then_suffix : (xs ys zs : List ℕ) → IsSuffix ys xs → IsSuffix zs ys → IsSuffix zs xs
then_suffix xs ys zs h k = (h.0 ++ k.0, h.1 ∙ (ap (λ (l : List ℕ). h.0 ++ l) k.1 ∙ sym (append_assoc h.0 k.0 zs)))

-- the output and the input left, against a run

pub record Under (r : Run) (o : Outcome) : Type 0 where
  pub written : IsPrefix (output_of o) r.output
  pub taken : IsSuffix r.left (input_of o)

pub record Over (r : Run) (o : Outcome) : Type 0 where
  pub written : IsPrefix r.output (output_of o)
  pub taken : IsSuffix (input_of o) r.left

-- why a machine ended
pub data Ended (r : Run) (limits : Limits) (code : ℕ) (s : State) : Type 0 where
  Well : code ≡ 0 → r.end ≡ Done → s.output ≡ r.output → s.input ≡ r.left → Ended r limits code s
  Badly : code ≡ 3 → IsFailed r.end → s.output ≡ r.output → s.input ≡ r.left → Ended r limits code s
  OfHeap : code ≡ 4 → limits.heap < 4 * r.words + 64 → IsPrefix s.output r.output → IsSuffix r.left s.input → Ended r limits code s
  OfStack : code ≡ 5 → limits.stack < 16 * r.peak + 256 → IsPrefix s.output r.output → IsSuffix r.left s.input → Ended r limits code s

pub ended_under : (r : Run) (limits : Limits) (code : ℕ) (s : State) → Ended r limits code s → Under r (Exited code s)
ended_under r limits code s (Well c e o i) = record { written = same_prefix s.output r.output o; taken = same_suffix s.input r.left i }
ended_under r limits code s (Badly c e o i) = record { written = same_prefix s.output r.output o; taken = same_suffix s.input r.left i }
ended_under r limits code s (OfHeap c e o i) = record { written = o; taken = i }
ended_under r limits code s (OfStack c e o i) = record { written = o; taken = i }

-- The machine after m instructions: at an end, or beyond its budget where the source's run goes on.
abbrev pub Came : Run → Limits → ℕ → Outcome → Type 0
Came r limits m (Running s) = (limits.budget < m) × Leaves r.output r.left s
Came r limits m (Exited code s) = Ended r limits code s
Came r limits m (Trapped trap s) = ⊥

came_under : (r : Run) (limits : Limits) (m : ℕ) (o : Outcome) → Came r limits m o → Under r o
came_under r limits m (Running s) h = record { written = same_prefix s.output r.output h.1.wrote; taken = same_suffix s.input r.left h.1.leaves }
came_under r limits m (Exited code s) h = ended_under r limits code s h
came_under r limits m (Trapped trap s) h = absurd h

-- the machine after its budget
abbrev pub Told : Run → Limits → Outcome → Type 0
Told r limits (Running s) = (limits.budget < 64 * r.work) × Under r (Running s)
Told r limits (Exited code s) = Ended r limits code s
Told r limits (Trapped trap s) = ⊥

module _ (text : List ℕ) (b : Segments) where
  -- a fact known after more instructions than the budget is known after the budget
  told_before : (r : Run) (limits : Limits) (m : ℕ) (o : Outcome) → limits.budget < m → m ≤ 64 * r.work → Came r limits m (and_then o (machine.run text b (m - limits.budget))) → Told r limits o
  told_before r limits m (Running s) less most h =
      let k = m - limits.budget in
      let o' = machine.run text b k s in
      let under = came_under r limits m o' h in
      let grew = run_grew text b k s in
      let shrank = run_shrank text b k s in (
        omega arith,
        record { written = then_prefix s.output (output_of o') r.output grew under.written; taken = then_suffix s.input (input_of o') r.left shrank under.taken },
      )
  told_before r limits m (Exited code s) less most h = h
  told_before r limits m (Trapped trap s) less most h = absurd h

  told_after : (r : Run) (limits : Limits) (m : ℕ) (o : Outcome) (go : State → Outcome) → m ≤ limits.budget → Came r limits m o → Told r limits (and_then o go)
  told_after r limits m (Running s) go less h = absurd (let k = h.0 in omega arith)
  told_after r limits m (Exited code s) go less h = h
  told_after r limits m (Trapped trap s) go less h = absurd h

  pub told : (r : Run) (limits : Limits) (m : ℕ) (s : State) → m ≤ 64 * r.work → Came r limits m (machine.run text b m s) → Told r limits (machine.run text b limits.budget s)
  told r limits m s most h = by order
    where
      order : (m ≤ limits.budget) ⊎ (limits.budget < m)
      order = grind arith

      by : (m ≤ limits.budget) ⊎ (limits.budget < m) → Told r limits (machine.run text b limits.budget s)
      by (inl less) =
          let split : limits.budget ≡ m + (limits.budget - m) = omega arith in
          subst (Told r limits) (sym (ap (λ k. machine.run text b k s) split ∙ run_sum text b m (limits.budget - m) s))
          (told_after r limits m (machine.run text b m s) (machine.run text b (limits.budget - m)) less h)
      by (inr less) =
          let split : m ≡ limits.budget + (m - limits.budget) = omega arith in
          told_before r limits m (machine.run text b limits.budget s) less most
          (subst (Came r limits m) (ap (λ k. machine.run text b k s) split ∙ run_sum text b limits.budget (m - limits.budget) s) h)

  -- a run inside the limits

  abbrev pub Met : Run → Outcome → Type 0
  Met r (Running s) = (IsOver r.end → ⊥) × Leaves r.output r.left s
  Met r (Exited code s) = ((code ≡ 0) ⊎ (code ≡ 3)) × Leaves r.output r.left s
  Met r (Trapped trap s) = ⊥

  abbrev pub IsEnd : Outcome → Type 0
  IsEnd (Running s) = ⊥
  IsEnd (Exited code s) = (code ≡ 0) ⊎ (code ≡ 3)
  IsEnd (Trapped trap s) = ⊥

  covered : (r : Run) (k : ℕ) (o : Outcome) → Met r o → Over r (and_then o (machine.run text b k)) × (IsOver r.end → IsEnd (and_then o (machine.run text b k)))
  covered r k (Running s) h =
      let grew = run_grew text b k s in
      let shrank = run_shrank text b k s in
      let o' = machine.run text b k s in (
        record {
          written = then_prefix r.output s.output (output_of o') (same_prefix r.output s.output (sym h.1.wrote)) grew;
          taken = then_suffix r.left s.input (input_of o') (same_suffix r.left s.input (sym h.1.leaves)) shrank;
        },
        λ over. absurd (h.0 over),
      )
  covered r k (Exited code s) h = (record { written = same_prefix r.output s.output (sym h.1.wrote); taken = same_suffix r.left s.input (sym h.1.leaves) }, λ over. h.0)
  covered r k (Trapped trap s) h = absurd h

  pub met : (r : Run) (limits : Limits) (m : ℕ) (s : State) → m ≤ limits.budget → Met r (machine.run text b m s)
      → Over r (machine.run text b limits.budget s) × (IsOver r.end → IsEnd (machine.run text b limits.budget s))
  met r limits m s less h =
      let split : limits.budget ≡ m + (limits.budget - m) = omega arith in
      subst (λ o. Over r o × (IsOver r.end → IsEnd o)) (sym (ap (λ k. machine.run text b k s) split ∙ run_sum text b m (limits.budget - m) s))
      (covered r (limits.budget - m) (machine.run text b m s) h)
