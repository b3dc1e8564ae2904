-- Runs over short instruction sequences: they load a constant or a variable, test a value, or jump.
use Rattle.std.proofs.Common.{◌≡◌, ℕ, ◌+◌, ◌<◌, ◌≤◌, ℤ, pos, true, false, [], ◌∷◌, ◌∙◌, arith}
use Rattle.std.specs.Prelude.{◌==◌, not}
use Rattle.mips_isa.specs.declared.address_map.TheConstants.{STACK_END}
use Rattle.mips_isa.specs.Bytes.{Bytes, word, set_word}
use Rattle.mips_isa.specs.Words.{bits_of}
use Rattle.mips_isa.specs.Machine.{wrap}
use Rattle.mips_isa.specs.Calls.{State}
use Rattle.mips_isa.specs.Lines.{Name}
use Rattle.cool_runtime.specs.Reaches.{World, Reaches, stands}
use Rattle.cool_runtime.specs.Standing.{HasLines}
use Rattle.cool_runtime.specs.Walk.{beside, OkWord}
use Rattle.cool_runtime.specs.Contents.{BoolAt}
use Rattle.cool_runtime.specs.Instructions.{lw, bne, j}
use Rattle.cool_runtime.specs.Machines.{At, Pointers, Console}
use Rattle.cool_runtime.proofs.Runs.{here}
use Rattle.cool_runtime.proofs.Walking.{walk, walk_more}
use Rattle.cool_runtime.proofs.Words.{load_eq, store_eq}
use Rattle.cool_codegen.specs.Pieces.{pop_lines, load_lines, store_lines, take_self_lines, take_void_lines, take_lines, test_lines, turn_lines, repeat_lines}

-- the result of `bne`
pub is_none : (x z : ℕ) → z ≡ 0 → not (x == z) ≡ false → x ≡ 0
is_none x z e h = grind arith

pub is_some : (x z : ℕ) → z ≡ 0 → not (x == z) ≡ true → 0 < x
is_some x z e h = grind arith

module _ (w : World) where
  -- the address of a label
  pub takes : (name : Name) (p : Pointers) (m : Bytes) (c : Console) (s : State) → HasLines w p.pc (take_lines name) → At w p m c s
      → Reaches w s 0 2 (stands (At w (record p { pc = p.pc + 8; acc = w.place name }) m c))
  unfolding take_lines
  takes name p m c s has at =
      let laid = w.laid in
      let fits = has.0.names in
      walk w (take_lines name) 0 s.core.registers s.core.pc s.core.memory (beside s) p.pc 0 0 _ has (omega arith)
      (omega arith, here w _ _ (record { numbers = omega arith; memory_is = at.memory_is; input_is = at.input_is; ended_is = at.ended_is; output_is = at.output_is }))

  pub takes_self : (p : Pointers) (m : Bytes) (c : Console) (s : State) → HasLines w p.pc take_self_lines → At w p m c s → p.self < 4294967296
      → Reaches w s 0 1 (stands (At w (record p { pc = p.pc + 4; acc = p.self }) m c))
  unfolding take_self_lines
  takes_self p m c s has at fits =
      let laid = w.laid in
      walk w take_self_lines 0 s.core.registers s.core.pc s.core.memory (beside s) p.pc 0 0 _ has (omega arith)
      (here w _ _ (record { numbers = omega arith; memory_is = at.memory_is; input_is = at.input_is; ended_is = at.ended_is; output_is = at.output_is }))

  pub takes_void : (p : Pointers) (m : Bytes) (c : Console) (s : State) → HasLines w p.pc take_void_lines → At w p m c s
      → Reaches w s 0 1 (stands (At w (record p { pc = p.pc + 4; acc = 0 }) m c))
  unfolding take_void_lines
  takes_void p m c s has at =
      let laid = w.laid in
      walk w take_void_lines 0 s.core.registers s.core.pc s.core.memory (beside s) p.pc 0 0 _ has (omega arith)
      (here w _ _ (record { numbers = omega arith; memory_is = at.memory_is; input_is = at.input_is; ended_is = at.ended_is; output_is = at.output_is }))

  pub pops : (p : Pointers) (m : Bytes) (c : Console) (s : State) → HasLines w p.pc pop_lines → At w p m c s → p.sp + 4 ≤ STACK_END
      → Reaches w s 0 1 (stands (At w (record p { pc = p.pc + 4; sp = p.sp + 4 }) m c))
  unfolding pop_lines
  pops p m c s has at room =
      let laid = w.laid in
      walk w pop_lines 0 s.core.registers s.core.pc s.core.memory (beside s) p.pc 0 0 _ has (omega arith)
      (here w _ _ (record { numbers = omega arith; memory_is = at.memory_is; input_is = at.input_is; ended_is = at.ended_is; output_is = at.output_is }))

  -- a word at an offset from a base
  pub loads : (base : ℕ) (offset : ℤ) (a : ℕ) (p : Pointers) (m : Bytes) (c : Console) (s : State) → HasLines w p.pc (load_lines offset base) → At w p m c s → wrap (s.core.registers base + bits_of offset) ≡ a
      → OkWord w.segments a → word m a < 4294967296 → Reaches w s 0 1 (stands (At w (record p { pc = p.pc + 4; acc = word m a }) m c))
  unfolding load_lines
  loads base offset a p m c s has at is ok fits =
      let laid = w.laid in
      let v : word s.core.memory (wrap (s.core.registers base + bits_of offset)) ≡ word m a = load_eq _ _ _ _ at.memory_is is in
      walk w (load_lines offset base) 0 s.core.registers s.core.pc s.core.memory (beside s) p.pc 0 0 _ has (omega arith)
      (omega arith, here w _ _ (record { numbers = omega arith; memory_is = at.memory_is; input_is = at.input_is; ended_is = at.ended_is; output_is = at.output_is }))

  pub stores : (base : ℕ) (offset : ℤ) (a : ℕ) (p : Pointers) (m : Bytes) (c : Console) (s : State) → HasLines w p.pc (store_lines offset base) → At w p m c s → wrap (s.core.registers base + bits_of offset) ≡ a
      → OkWord w.segments a → Reaches w s 0 1 (stands (At w (record p { pc = p.pc + 4 }) (set_word m a p.acc) c))
  unfolding store_lines
  stores base offset a p m c s has at is ok =
      let laid = w.laid in
      walk w (store_lines offset base) 0 s.core.registers s.core.pc s.core.memory (beside s) p.pc 0 0 _ has (omega arith)
      (omega arith, here w _ _ (record { numbers = omega arith; memory_is = store_eq _ _ _ _ _ _ is at.numbers.acc_is at.memory_is; input_is = at.input_is; ended_is = at.ended_is; output_is = at.output_is }))

  -- a test of a Bool
  pub tests_true : (other : Name) (p : Pointers) (m : Bytes) (c : Console) (s : State) → HasLines w p.pc (test_lines other) → At w p m c s → BoolAt w m p.gp p.acc 1
      → Reaches w s 1 3 (stands (At w (record p { pc = p.pc + 12 }) m c))
  unfolding test_lines
  tests_true other p m c s has at bool =
      let laid = w.laid in
      let lies = bool.lies in
      let v : word s.core.memory (wrap (s.core.registers 4 + 12)) ≡ 1 = load_eq _ _ _ _ at.memory_is (omega arith) ∙ bool.value in
      walk_more w (lw 8 (pos 12) 4) (bne 8 0 ∷ j other ∷ []) s.core.registers s.core.pc s.core.memory (beside s) p.pc 0 0 _ (omega arith) has (omega arith) (
        omega arith,
        (
          (λ t. here w _ _ (record { numbers = omega arith; memory_is = at.memory_is; input_is = at.input_is; ended_is = at.ended_is; output_is = at.output_is })),
          (λ f. let x = is_none _ _ at.numbers.zero_is f in absurd (omega arith)),
        ),
      )

  pub tests_false : (other : Name) (p : Pointers) (m : Bytes) (c : Console) (s : State) → HasLines w p.pc (test_lines other) → At w p m c s → BoolAt w m p.gp p.acc 0
      → Reaches w s 0 3 (stands (At w (record p { pc = w.place other }) m c))
  unfolding test_lines
  tests_false other p m c s has at bool =
      let laid = w.laid in
      let lies = bool.lies in
      let v : word s.core.memory (wrap (s.core.registers 4 + 12)) ≡ 0 = load_eq _ _ _ _ at.memory_is (omega arith) ∙ bool.value in
      walk w (test_lines other) 0 s.core.registers s.core.pc s.core.memory (beside s) p.pc 0 0 _ has (omega arith) (
        omega arith,
        (
          (λ t. let x = is_some _ _ at.numbers.zero_is t in absurd (omega arith)),
          (λ f. here w _ _ (record { numbers = omega arith; memory_is = at.memory_is; input_is = at.input_is; ended_is = at.ended_is; output_is = at.output_is })),
        ),
      )

  -- a jump to the end of a form
  pub turns_to : (end other : Name) (p : Pointers) (m : Bytes) (c : Console) (s : State) → HasLines w p.pc (turn_lines end other) → At w p m c s
      → Reaches w s 0 1 (stands (At w (record p { pc = w.place end }) m c))
  unfolding turn_lines
  turns_to end other p m c s has at =
      let laid = w.laid in
      walk w (turn_lines end other) 0 s.core.registers s.core.pc s.core.memory (beside s) p.pc 0 0 _ has (omega arith)
      (here w _ _ (record { numbers = omega arith; memory_is = at.memory_is; input_is = at.input_is; ended_is = at.ended_is; output_is = at.output_is }))

  -- the jump back of a loop
  pub repeats : (begin end : Name) (p : Pointers) (m : Bytes) (c : Console) (s : State) → HasLines w p.pc (repeat_lines begin end) → At w p m c s
      → Reaches w s 0 2 (stands (At w (record p { pc = w.place begin }) m c))
  unfolding repeat_lines
  repeats begin end p m c s has at =
      let laid = w.laid in
      walk w (repeat_lines begin end) 0 s.core.registers s.core.pc s.core.memory (beside s) p.pc 0 0 _ has (omega arith)
      (here w _ _ (record { numbers = omega arith; memory_is = at.memory_is; input_is = at.input_is; ended_is = at.ended_is; output_is = at.output_is }))
