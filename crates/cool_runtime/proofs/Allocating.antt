-- The code that pushes a word stores it on top of the stack, and the code that allocates an Int returns its address, or the run exits by the limit of stack or
-- heap.
use Rattle.std.proofs.Common.{◌≡◌, ℕ, ◌+◌, ◌-◌, ◌<◌, ◌≤◌, inl, inr, List, refl, sym, ◌∙◌, subst, arith, true, false}
use Rattle.std.specs.Prelude.{◌==◌, nat_lt}
use Rattle.mips_isa.specs.declared.register.TheConstants.{ZERO, T2}
use Rattle.mips_isa.specs.Bytes.{Bytes, word, set_word}
use Rattle.mips_isa.specs.Machine.{wrap, flag}
use Rattle.mips_isa.specs.Calls.{State}
use Rattle.mips_isa.specs.Lines.{Name}
use Rattle.cool_runtime.specs.Reaches.{World, Reaches, Goal, stands, exits, OnTheWay}
use Rattle.cool_runtime.specs.Standing.{HasLines}
use Rattle.cool_runtime.specs.Walk.{beside, ExitWith}
use Rattle.cool_runtime.specs.Labels.{heap_limit, stack_limit, int_prototype, int_table}
use Rattle.cool_runtime.specs.Contents.{IntAt}
use Rattle.cool_runtime.specs.Premises.{Limits}
use Rattle.cool_runtime.specs.Machines.{At, Pointers, Console, with_head, with_int}
use Rattle.cool_runtime.specs.Routines.{limit_lines, heap_limit_lines, stack_limit_lines, push_lines, new_int_lines}
use Rattle.cool_runtime.specs.RoutineLines.{routine_lines}
use Rattle.cool_runtime.proofs.Runs.{wider, here}
use Rattle.cool_runtime.proofs.Walking.{walk}
use Rattle.cool_runtime.proofs.Words.{load_eq, store_eq}

-- the result of `sltu` and `beq`
pub not_less : (x y z : ℕ) → z ≡ 0 → (flag (nat_lt x y) == z) ≡ true → y ≤ x
not_less x y z h e = grind arith

pub less : (x y z : ℕ) → z ≡ 0 → (flag (nat_lt x y) == z) ≡ false → x < y
less x y z h e = grind arith

module _ (w : World) where
  -- the console on the way, by equal parts
  same_way : (output output' input input' : List ℕ) → output' ≡ output → input' ≡ input → OnTheWay w output input → OnTheWay w output' input'
  same_way output output' input input' e f way = subst (λ o. OnTheWay w o input') (sym e) (subst (λ i. OnTheWay w output i) (sym f) way)

  pub heap_exit : (goal : Goal) (s : State) (c : Console) → Limits w → s.core.pc ≡ w.place heap_limit → s.core.registers ZERO ≡ 0 → w.segments.heap_end < w.top
      → s.input ≡ c.input → s.output ≡ c.output → OnTheWay w c.output c.input → Reaches w s 0 3 goal
  unfolding routine_lines
  heap_exit goal s c limits at z why input output way =
      walk w heap_limit_lines 0 s.core.registers s.core.pc s.core.memory (beside s) (w.place heap_limit) 0 0 goal limits.heap (omega arith)
      (ExitWith, (omega arith, inr (record { why = inl (omega arith, why); console = same_way _ _ _ _ output input way })))

  pub stack_exit : (goal : Goal) (s : State) (c : Console) → Limits w → s.core.pc ≡ w.place stack_limit → s.core.registers ZERO ≡ 0 → w.low < w.segments.stack_low
      → s.input ≡ c.input → s.output ≡ c.output → OnTheWay w c.output c.input → Reaches w s 0 3 goal
  unfolding routine_lines
  stack_exit goal s c limits at z why input output way =
      walk w stack_limit_lines 0 s.core.registers s.core.pc s.core.memory (beside s) (w.place stack_limit) 0 0 goal limits.stack (omega arith)
      (ExitWith, (omega arith, inr (record { why = inr (omega arith, why); console = same_way _ _ _ _ output input way })))

  -- the exit by a limit, wherever the machine stands
  pub limit_ends : (name : Name) (code : ℕ) (p : Pointers) (m : Bytes) (c : Console) (s : State) → HasLines w (w.place name) (limit_lines name code) → code < 32768 → At w p m c s → p.pc ≡ w.place name
      → Reaches w s 0 3 (exits code (λ t. (t.output ≡ c.output) × (t.input ≡ c.input)))
  limit_ends name code p m c s has small at begins =
      walk w (limit_lines name code) 0 s.core.registers s.core.pc s.core.memory (beside s) (w.place name) 0 0 _ has (omega arith)
      (ExitWith, (omega arith, inl (omega arith, (at.output_is, at.input_is))))

  pub push : (p : Pointers) (m : Bytes) (c : Console) (s : State) → Limits w → HasLines w p.pc push_lines → At w p m c s → w.low + 4 ≤ p.sp → OnTheWay w c.output c.input
      → Reaches w s 0 8 (stands (At w (record p { pc = p.pc + 20; sp = p.sp - 4 }) (set_word m (p.sp - 4) p.acc) c))
  push p m c s limits has at room way =
      let laid = w.laid in
      walk w push_lines 0 s.core.registers s.core.pc s.core.memory (beside s) p.pc 0 3 _ has (omega arith) (
        (λ t. let le = not_less _ _ _ at.numbers.zero_is t in
            (omega arith, wider w _ 0 0 0 3 _ (omega arith) (omega arith) (here w _ _ (record { numbers = omega arith; memory_is = search (arith, store_eq, at.memory_is); input_is = at.input_is; ended_is = at.ended_is; output_is = at.output_is })))),
        (λ f. let lt = less _ _ _ at.numbers.zero_is f in
            stack_exit _ _ c limits refl at.numbers.zero_is (omega arith) at.input_is at.output_is way),
      )

  pub new_int : (p : Pointers) (m : Bytes) (c : Console) (s : State) (v : ℕ) → Limits w → HasLines w p.pc new_int_lines → At w p m c s → s.core.registers T2 ≡ v
      → IntAt w m p.gp (w.place int_prototype) 0 → p.gp + 20 ≤ w.top → OnTheWay w c.output c.input
      → Reaches w s 0 20 (stands (At w (record p { pc = p.pc + 68; gp = p.gp + 20; acc = p.gp + 4 }) (with_int m p.gp w.tags.int (w.place int_table) v) c))
  unfolding with_head
  new_int p m c s v limits has at is proto room way =
      let laid = w.laid in
      let m0 = s.core.memory in
      let a = w.place int_prototype in
      let tag : word m0 (wrap (a + 0)) ≡ w.tags.int = load_eq _ _ _ _ at.memory_is (omega arith) ∙ proto.head.tag_is in
      let size : word m0 (wrap (a + 4)) ≡ 4 = load_eq _ _ _ _ at.memory_is (omega arith) ∙ proto.head.size_is in
      let table : word m0 (wrap (a + 8)) ≡ w.place int_table = load_eq _ _ _ _ at.memory_is (omega arith) ∙ proto.head.table_is in
      walk w new_int_lines 0 s.core.registers s.core.pc s.core.memory (beside s) p.pc 0 3 _ has (omega arith) (
        (λ t. let le = not_less _ _ _ at.numbers.zero_is t in (
          omega arith,
          (
            omega arith,
            (
              omega arith,
              (
                omega arith,
                (
                  omega arith,
                  (
                    omega arith,
                    (
                      omega arith,
                      (
                        omega arith,
                        (
                          omega arith,
                          wider w _ 0 0 0 3 _ (omega arith) (omega arith) (here w _ _ (record { numbers = omega arith; memory_is = search (arith, store_eq, at.memory_is, tag, size, table) depth 14; input_is = at.input_is; ended_is = at.ended_is; output_is = at.output_is })),
                        ),
                      ),
                    ),
                  ),
                ),
              ),
            ),
          ),
        )),
        (λ f. let lt = less _ _ _ at.numbers.zero_is f in
            heap_exit _ _ c limits refl at.numbers.zero_is (omega arith) at.input_is at.output_is way),
      )
