-- If a program's machine simulates each run of the source for all sizes of heap and stack, its outcome agrees with these runs (`Accord`) for each limit.
use Rattle.std.proofs.Common.{◌≡◌, ◌≢◌, ℕ, ◌+◌, ◌-◌, ◌*◌, ◌<◌, ◌≤◌, ◌⊎◌, inl, inr, List, [], refl, sym, subst, arith, append-nil}
use Rattle.mips_isa.specs.declared.address_map.TheConstants.{HEAP_START, STACK_END}
use Rattle.mips_isa.specs.Bytes.{Segments}
use Rattle.mips_isa.specs.Lines.{Name}
use Rattle.mips_isa.specs.Calls.{State, Outcome, Running, Exited, Trapped}
use Rattle.mips_isa.specs.Run as machine
use Rattle.cool_runtime.specs.Reaches.{World, AreLaid, Tags, Ends, Limited, OnTheWay, stands, exits}
use Rattle.cool_meaning.specs.SourceRun.{End, Done, Failed, GoesOn, IsStuck, Run}
use Rattle.cool_meaning.specs.Laws.{IsOver}
use Rattle.cool_simulation.specs.MainRun.{Leaves, ComesTo, RunRoom}
use Rattle.cool_simulation.specs.Accord.{Limits, Inside, IsFailed, Accords}
use Rattle.cool_simulation.proofs.theorem.EndsAccord.{Ended, Well, Badly, OfHeap, OfStack, ended_under, Over, Came, Told, Met, IsEnd, told, met}

module _ (text : List ℕ) (place : Name → ℕ) (b : Segments) (laid : AreLaid b) (tags : Tags) (limits : Limits) (heap_is : b.heap_end ≡ HEAP_START + limits.heap) (stack_is : b.stack_low + limits.stack ≡ STACK_END) where
  -- the world of a machine that is to reach so far
  abbrev pub reaching : ℕ → ℕ → List ℕ → List ℕ → World
  reaching top low output left = record { text = text; place = place; segments = b; laid = laid; tags = tags; top = top; low = low; output = output; left = left }

  -- as far as the meters of a run say
  abbrev pub world_of : Run → World
  world_of r = reaching (HEAP_START + (4 * r.words + 64)) (STACK_END - (16 * r.peak + 256)) r.output r.left

  -- as far as the limits
  abbrev pub world_within : Run → World
  world_within r = reaching b.heap_end b.stack_low r.output r.left

  way_to_end : (top low : ℕ) (output left : List ℕ) → OnTheWay (reaching top low output left) output left
  way_to_end top low output left = record { written = ([], sym (append-nil output)); taken = ([], refl) }

  -- the world of the run with a step more

  limited : (r : Run) (code : ℕ) (s : State) → Limited (world_of r) code s → Ended r limits code s
  limited r code s h = by h.why
    where
      by : ((code ≡ 4) × (b.heap_end < HEAP_START + (4 * r.words + 64))) ⊎ ((code ≡ 5) × (STACK_END - (16 * r.peak + 256) < b.stack_low)) → Ended r limits code s
      by (inl (is, less)) = OfHeap is (omega arith) h.console.written h.console.taken
      by (inr (is, less)) = OfStack is (omega arith) h.console.written h.console.taken

  came_well : (r : Run) (m : ℕ) (o : Outcome) → r.end ≡ Done → Ends (world_of r) 0 (exits 0 (Leaves r.output r.left)) m o → Came r limits m o
  came_well r m (Running s) e h = absurd h.1
  came_well r m (Exited code s) e (inl h) = Well h.0 e h.1.wrote h.1.leaves
  came_well r m (Exited code s) e (inr h) = limited r code s h
  came_well r m (Trapped trap s) e h = absurd h

  came_badly : (r : Run) (m : ℕ) (o : Outcome) → IsFailed r.end → Ends (world_of r) 0 (exits 3 (Leaves r.output r.left)) m o → Came r limits m o
  came_badly r m (Running s) e h = absurd h.1
  came_badly r m (Exited code s) e (inl h) = Badly h.0 e h.1.wrote h.1.leaves
  came_badly r m (Exited code s) e (inr h) = limited r code s h
  came_badly r m (Trapped trap s) e h = absurd h

  came_on : (r : Run) (m : ℕ) (o : Outcome) → Ends (world_of r) (limits.budget + 1) (stands (Leaves r.output r.left)) m o → Came r limits m o
  came_on r m (Running s) h = let k = h.0 in (omega arith, h.1)
  came_on r m (Exited code s) (inl h) = absurd h
  came_on r m (Exited code s) (inr h) = limited r code s h
  came_on r m (Trapped trap s) h = absurd h

  told_by : (r : Run) (s : State) (e : End) → r.end ≡ e → r.end ≢ IsStuck → ComesTo (world_of r) s (limits.budget + 1) (64 * r.work) r.output r.left e → Told r limits (machine.run text b limits.budget s)
  told_by r s Done is never h = told text b r limits h.count s h.within (came_well r h.count (machine.run text b h.count s) is h.ends)
  told_by r s (Failed x) is never h = told text b r limits h.count s h.within (came_badly r h.count (machine.run text b h.count s) (subst IsFailed (sym is) tt) h.ends)
  told_by r s GoesOn is never h = told text b r limits h.count s h.within (came_on r h.count (machine.run text b h.count s) h.ends)
  told_by r s IsStuck is never h = absurd (never is)

  -- the world of a run inside the limits

  unlimited : (r : Run) (code : ℕ) (s : State) → Limited (world_within r) code s → ⊥
  unlimited r code s h = by h.why
    where
      by : ((code ≡ 4) × (b.heap_end < b.heap_end)) ⊎ ((code ≡ 5) × (b.stack_low < b.stack_low)) → ⊥
      by (inl (is, less)) = absurd (omega arith)
      by (inr (is, less)) = absurd (omega arith)

  met_end : (r : Run) (n m : ℕ) (o : Outcome) → (n ≡ 0) ⊎ (n ≡ 3) → Ends (world_within r) 0 (exits n (Leaves r.output r.left)) m o → Met text b r o
  met_end r n m (Running s) code_is h = absurd h.1
  met_end r n m (Exited code s) code_is (inl h) = (subst (λ c. (c ≡ 0) ⊎ (c ≡ 3)) (sym h.0) code_is, h.1)
  met_end r n m (Exited code s) code_is (inr h) = absurd (unlimited r code s h)
  met_end r n m (Trapped trap s) code_is h = absurd h

  met_on : (r : Run) (n m : ℕ) (o : Outcome) → r.end ≡ GoesOn → Ends (world_within r) n (stands (Leaves r.output r.left)) m o → Met text b r o
  met_on r n m (Running s) is h = (λ over. subst IsOver is over, h.1)
  met_on r n m (Exited code s) is (inl h) = absurd h
  met_on r n m (Exited code s) is (inr h) = absurd (unlimited r code s h)
  met_on r n m (Trapped trap s) is h = absurd h

  met_by : (r : Run) (s : State) (n : ℕ) (e : End) → r.end ≡ e → r.end ≢ IsStuck → 64 * r.work ≤ limits.budget → ComesTo (world_within r) s n (64 * r.work) r.output r.left e
      → Over r (machine.run text b limits.budget s) × (IsOver r.end → IsEnd text b (machine.run text b limits.budget s))
  met_by r s n Done is never inside h = met text b r limits h.count s (let k = h.within in omega arith) (met_end r 0 h.count (machine.run text b h.count s) (inl refl) h.ends)
  met_by r s n (Failed x) is never inside h = met text b r limits h.count s (let k = h.within in omega arith) (met_end r 3 h.count (machine.run text b h.count s) (inr refl) h.ends)
  met_by r s n GoesOn is never inside h = met text b r limits h.count s (let k = h.within in omega arith) (met_on r n h.count (machine.run text b h.count s) is h.ends)
  met_by r s n IsStuck is never inside h = absurd (never is)

  module _ (runs : ℕ → Run) (never : (n : ℕ) → (runs n).end ≢ IsStuck) (s : State)
      (comes : (n top low : ℕ) (output left : List ℕ) → RunRoom (reaching top low output left) (runs n)
      → ComesTo (reaching top low output left) s n (64 * (runs n).work) (runs n).output (runs n).left (runs n).end) where
    abbrev last : Run
    last = runs (limits.budget + 1)

    all_told : Told last limits (machine.run text b limits.budget s)
    all_told =
        told_by last s last.end refl (never (limits.budget + 1))
        (comes (limits.budget + 1) _ _ last.output last.left (record { heap = omega arith; stack = omega arith; way = way_to_end _ _ _ _ }))

    all_met : (n : ℕ) → Inside limits (runs n) → Over (runs n) (machine.run text b limits.budget s) × (IsOver (runs n).end → IsEnd text b (machine.run text b limits.budget s))
    all_met n inside =
        met_by (runs n) s n (runs n).end refl (never n) inside.work
        (comes n b.heap_end b.stack_low (runs n).output (runs n).left (record { heap = (let k = inside.words in omega arith); stack = (let k = inside.peak in omega arith); way = way_to_end _ _ _ _ }))

    -- an outcome that is told accords
    accords_of : (o : Outcome) → Told last limits o → ((n : ℕ) → Inside limits (runs n) → Over (runs n) o × (IsOver (runs n).end → IsEnd text b o)) → Accords runs limits o
    accords_of (Running t) h k = record {
      written = h.1.written;
      taken = h.1.taken;
      covers = λ n inside. let over = k n inside in (over.0.written, over.0.taken);
      ends = λ n inside is. absurd ((k n inside).1 is);
      done = λ e. absurd (omega arith);
      failed = λ e. absurd (omega arith);
      heap = λ e. absurd (omega arith);
      stack = λ e. absurd (omega arith);
      budget = λ e. h.0;
      known = inr (inr (inr (inr refl)));
    }
    accords_of (Exited code t) h k =
        let under = ended_under last limits code t h in (
          known_code h,
          record {
            written = under.written;
            taken = under.taken;
            covers = λ n inside. let over = k n inside in (over.0.written, over.0.taken);
            ends = λ n inside is. (k n inside).1 is;
            done = λ e. done_by h e;
            failed = λ e. failed_by h e;
            heap = λ e. heap_by h e;
            stack = λ e. stack_by h e;
            budget = λ e. absurd (let c = known_code h in omega arith);
            known = known_by h;
          },
        )
      where
        known_code : Ended last limits code t → code < 6
        known_code (Well c e o i) = omega arith
        known_code (Badly c e o i) = omega arith
        known_code (OfHeap c e o i) = omega arith
        known_code (OfStack c e o i) = omega arith

        done_by : Ended last limits code t → code ≡ 0 → (last.end ≡ Done) × ((t.output ≡ last.output) × (t.input ≡ last.left))
        done_by (Well c e o i) is = (e, (o, i))
        done_by (Badly c e o i) is = absurd (omega arith)
        done_by (OfHeap c e o i) is = absurd (omega arith)
        done_by (OfStack c e o i) is = absurd (omega arith)

        failed_by : Ended last limits code t → code ≡ 3 → IsFailed last.end × ((t.output ≡ last.output) × (t.input ≡ last.left))
        failed_by (Well c e o i) is = absurd (omega arith)
        failed_by (Badly c e o i) is = (e, (o, i))
        failed_by (OfHeap c e o i) is = absurd (omega arith)
        failed_by (OfStack c e o i) is = absurd (omega arith)

        heap_by : Ended last limits code t → code ≡ 4 → limits.heap < 4 * last.words + 64
        heap_by (Well c e o i) is = absurd (omega arith)
        heap_by (Badly c e o i) is = absurd (omega arith)
        heap_by (OfHeap c e o i) is = e
        heap_by (OfStack c e o i) is = absurd (omega arith)

        stack_by : Ended last limits code t → code ≡ 5 → limits.stack < 16 * last.peak + 256
        stack_by (Well c e o i) is = absurd (omega arith)
        stack_by (Badly c e o i) is = absurd (omega arith)
        stack_by (OfHeap c e o i) is = absurd (omega arith)
        stack_by (OfStack c e o i) is = e

        known_by : Ended last limits code t → (code ≡ 0) ⊎ ((code ≡ 3) ⊎ ((code ≡ 4) ⊎ ((code ≡ 5) ⊎ (code ≡ 6))))
        known_by (Well c e o i) = inl c
        known_by (Badly c e o i) = inr (inl c)
        known_by (OfHeap c e o i) = inr (inr (inl c))
        known_by (OfStack c e o i) = inr (inr (inr (inl c)))
    accords_of (Trapped trap t) h k = absurd h

    -- the machine accords with the runs
    pub accords : Accords runs limits (machine.run text b limits.budget s)
    accords = accords_of (machine.run text b limits.budget s) all_told all_met
