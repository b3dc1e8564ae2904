-- The push of a value takes four instructions, or leads to the exit for a full stack.
use Rattle.std.proofs.Common.{◌≡◌, ℕ, ◌+◌, ◌-◌, ◌<◌, ◌≤◌, ◌⊎◌, inl, inr, List, [], ◌∷◌, sym, subst, arith}
use Rattle.std.specs.Prelude.{pos, negsuc}
use Rattle.mips_isa.specs.Bytes.{Bytes, set_word}
use Rattle.mips_isa.specs.Calls.{State}
use Rattle.cool_runtime.specs.Reaches.{World, Reaches, Goal, stands, OnTheWay}
use Rattle.cool_runtime.specs.Standing.{HasLines}
use Rattle.cool_runtime.specs.Walk.{beside, ExitWith}
use Rattle.cool_runtime.specs.Labels.{stack_limit}
use Rattle.cool_runtime.specs.Instructions.{addiu, sltu, sw, j}
use Rattle.cool_runtime.specs.Premises.{Limits}
use Rattle.cool_runtime.specs.Machines.{At, Pointers, Console}
use Rattle.cool_runtime.specs.Routines.{push_lines, stack_limit_lines}
use Rattle.cool_runtime.specs.RoutineLines.{routine_lines}
use Rattle.cool_runtime.proofs.Runs.{wider, here, then}
use Rattle.cool_runtime.proofs.Walking.{walk, single}
use Rattle.cool_runtime.proofs.Words.{store_eq}
use Rattle.cool_runtime.proofs.Allocating.{not_less, less}
use Rattle.cool_runtime.proofs.Pieces.{has_at}
use Rattle.cool_simulation.specs.Loadings.{Loading}
use Rattle.cool_simulation.specs.Simulation.{Passes}
use Rattle.cool_simulation.proofs.ground.Passages.{passes, passes_then, passes_wider}

module _ (w : World) where
  -- the stack does not hold another word
  pub record IsFull (pc : ℕ) (c : Console) (s : State) : Type 0 where
    pub pc_is : s.core.pc ≡ pc
    pub zero_is : s.core.registers 0 ≡ 0
    pub why : w.low < w.segments.stack_low
    pub input_is : s.input ≡ c.input
    pub output_is : s.output ≡ c.output

  abbrev pub Tested : Pointers → Bytes → Console → State → Type 0
  Tested p m c t = At w (record p { pc = p.pc + 16; sp = p.sp - 4 }) m c t ⊎ IsFull (p.pc + 12) c t

  same_way : (output output' input input' : List ℕ) → output' ≡ output → input' ≡ input → OnTheWay w output input → OnTheWay w output' input'
  same_way output output' input input' e f way = subst (λ o. OnTheWay w o input') (sym e) (subst (λ i. OnTheWay w output i) (sym f) way)

  pub push_tested : (p : Pointers) (m : Bytes) (c : Console) (s : State) → HasLines w p.pc push_lines → At w p m c s → w.low + 4 ≤ p.sp → Reaches w s 0 3 (stands (Tested p m c))
  push_tested p m c s has at room =
      let laid = w.laid in
      let there = has_at w push_lines p.pc s.core.pc (omega arith) has in
      walk w (addiu 29 29 (negsuc 3) ∷ sltu 8 29 22 ∷ []) 0 s.core.registers s.core.pc s.core.memory (beside s) s.core.pc 0 1 _ (there.0, (there.1.0, tt)) (omega arith)
      (single w _ _ _ _ _ 0 _ there.1.1.0.words.0 (
        (λ t. let le = not_less _ _ _ at.numbers.zero_is t in
            here w _ _ (inl (record { numbers = omega arith; memory_is = at.memory_is; input_is = at.input_is; ended_is = at.ended_is; output_is = at.output_is }))),
        (λ f. let lt = less _ _ _ at.numbers.zero_is f in
            here w _ _ (inr (record { pc_is = omega arith; zero_is = at.numbers.zero_is; why = omega arith; input_is = at.input_is; output_is = at.output_is }))),
      ))

  pub full_ends : (pc : ℕ) (c : Console) (s : State) (lo hi : ℕ) (goal : Goal) → Limits w → HasLines w pc (j stack_limit ∷ []) → IsFull pc c s → OnTheWay w c.output c.input → 4 ≤ hi → Reaches w s lo hi goal
  unfolding routine_lines
  full_ends pc c s lo hi goal limits has full way enough =
      let why = full.why in
      wider w s lo lo 4 hi goal (omega arith) enough
      (walk w (j stack_limit ∷ []) 0 s.core.registers s.core.pc s.core.memory (beside s) pc lo 3 goal has (let e = full.pc_is in omega arith)
      (walk w stack_limit_lines 0 _ _ _ _ (w.place stack_limit) lo 0 goal limits.stack (omega arith)
      (ExitWith, (let z = full.zero_is in omega arith, inr (record { why = inr (let z = full.zero_is in omega arith, why); console = same_way _ _ _ _ full.output_is full.input_is way })))))

  -- the run after it takes at least as long as the exit
  pub pushes : (p : Pointers) (m : Bytes) (c : Console) (s : State) (lo hi : ℕ) (goal : Goal) → Limits w → HasLines w p.pc push_lines → At w p m c s → w.low + 4 ≤ p.sp → OnTheWay w c.output c.input → 3 ≤ hi
      → ((t : State) → At w (record p { pc = p.pc + 20; sp = p.sp - 4 }) (set_word m (p.sp - 4) p.acc) c t → Reaches w t lo hi goal) → Reaches w s lo (4 + hi) goal
  pushes p m c s lo hi goal limits has at room way enough more =
      let laid = w.laid in
      let there = has_at w (j stack_limit ∷ []) (p.pc + 4 + 4 + 4) (p.pc + 12) (omega arith) (has.1.1.1.0, tt) in
      let last = has_at w (sw 4 (pos 0) 29 ∷ []) (p.pc + 4 + 4 + 4 + 4) (p.pc + 16) (omega arith) has.1.1.1.1 in
      wider w s (0 + lo) lo (3 + (1 + hi)) (4 + hi) goal (omega arith) (omega arith)
      (then w s 0 3 lo (1 + hi) (Tested p m c) goal (push_tested p m c s has at room) (λ t h. by t h there last))
    where
      by : (t : State) → Tested p m c t → HasLines w (p.pc + 12) (j stack_limit ∷ []) → HasLines w (p.pc + 16) (sw 4 (pos 0) 29 ∷ []) → Reaches w t lo (1 + hi) goal
      by t (inl at') there last =
          let laid = w.laid in
          let low = at.numbers in
          walk w (sw 4 (pos 0) 29 ∷ []) 0 t.core.registers t.core.pc t.core.memory (beside t) (p.pc + 16) lo hi goal last (omega arith)
          (omega arith, more _ (record { numbers = omega arith; memory_is = store_eq _ _ _ _ _ _ (omega arith) (omega arith) at'.memory_is; input_is = at'.input_is; ended_is = at'.ended_is; output_is = at'.output_is }))
      by t (inr full) there last = full_ends (p.pc + 12) c t lo (1 + hi) goal limits there full way (omega arith)

module _ (l : Loading) where
  -- the same where what goes on may pass marks
  pub pushes_past : (p : Pointers) (m : Bytes) (c : Console) (s : State) (lo hi : ℕ) (goal : Goal) → Limits l.world → HasLines l.world p.pc push_lines → At l.world p m c s → l.world.low + 4 ≤ p.sp
      → OnTheWay l.world c.output c.input → 3 ≤ hi → ((t : State) → At l.world (record p { pc = p.pc + 20; sp = p.sp - 4 }) (set_word m (p.sp - 4) p.acc) c t → Passes l t lo hi goal) → Passes l s lo (4 + hi) goal
  pushes_past p m c s lo hi goal limits has at room way enough more =
      let w = l.world in
      let there = has_at w (j stack_limit ∷ []) (p.pc + 4 + 4 + 4) (p.pc + 12) (omega arith) (has.1.1.1.0, tt) in
      let last = has_at w (sw 4 (pos 0) 29 ∷ []) (p.pc + 4 + 4 + 4 + 4) (p.pc + 16) (omega arith) has.1.1.1.1 in
      passes_wider l s (0 + lo) lo (3 + (1 + hi)) (4 + hi) goal (omega arith) (omega arith)
      (passes_then l s 0 3 lo (1 + hi) (Tested w p m c) goal (passes l s 0 3 _ (push_tested w p m c s has at room)) (λ t h. by t h there last))
    where
      by : (t : State) → Tested l.world p m c t → HasLines l.world (p.pc + 12) (j stack_limit ∷ []) → HasLines l.world (p.pc + 16) (sw 4 (pos 0) 29 ∷ []) → Passes l t lo (1 + hi) goal
      by t (inl at') there last =
          let w = l.world in
          let laid = w.laid in
          let low = at.numbers in
          passes_wider l t (0 + lo) lo (1 + hi) (1 + hi) goal (omega arith) (omega arith)
          (passes_then l t 0 1 lo hi (At w (record p { pc = p.pc + 20; sp = p.sp - 4 }) (set_word m (p.sp - 4) p.acc) c) goal
          (passes l t 0 1 _ (walk w (sw 4 (pos 0) 29 ∷ []) 0 t.core.registers t.core.pc t.core.memory (beside t) (p.pc + 16) 0 0 _ last (omega arith)
          (omega arith, here w _ _ (record { numbers = omega arith; memory_is = store_eq _ _ _ _ _ _ (omega arith) (omega arith) at'.memory_is; input_is = at'.input_is; ended_is = at'.ended_is; output_is = at'.output_is })))) more)
      by t (inr full) there last = passes l t lo (1 + hi) goal (full_ends l.world (p.pc + 12) c t lo (1 + hi) goal limits there full way (omega arith))
