-- The code on entry to a method makes a stack frame, the code of the return removes it, and a dispatch jumps to the method in the receiver's dispatch table.
use Rattle.std.proofs.Common.{◌≡◌, ℕ, ◌+◌, ◌-◌, ◌*◌, ◌%◌, ◌<◌, ◌≤◌, List, [], ◌∷◌, refl, ◌∙◌, arith}
use Rattle.std.specs.Prelude.{pos}
use Rattle.mips_isa.specs.declared.register.TheConstants.{A0, T8, T9, FP}
use Rattle.mips_isa.specs.Bytes.{Bytes, word, set_word}
use Rattle.mips_isa.specs.Machine.{wrap}
use Rattle.mips_isa.specs.Calls.{State}
use Rattle.mips_isa.specs.Lines.{Line, Name, Li}
use Rattle.mips_isa.specs.Assembly.{instruction_line}
use Rattle.cool_runtime.specs.Instructions.{la, bne, j, lw, jalr}
use Rattle.cool_runtime.specs.Reaches.{World, Reaches, stands, OnTheWay}
use Rattle.cool_runtime.specs.Standing.{HasLines}
use Rattle.cool_runtime.specs.Walk.{beside}
use Rattle.cool_runtime.specs.Labels.{dispatch_abort}
use Rattle.cool_runtime.specs.Contents.{Lies}
use Rattle.cool_runtime.specs.Premises.{Limits}
use Rattle.cool_runtime.specs.Machines.{At, Pointers, Console}
use Rattle.cool_runtime.specs.CodeOfCalls.{enter_lines, leave_lines, dispatch_lines}
use Rattle.cool_runtime.proofs.Runs.{here}
use Rattle.cool_runtime.proofs.Walking.{walk, walk_more}
use Rattle.cool_runtime.proofs.Words.{load_eq, store_eq}
use Rattle.cool_runtime.proofs.Allocating.{stack_exit, not_less, less}
use Rattle.cool_runtime.proofs.Copying.{same_numbers}
use Rattle.cool_runtime.proofs.Pieces.{done}

-- a dispatch after its first line
abbrev dispatch_rest : ℕ → ℕ → List Line
dispatch_rest line slot = instruction_line (Li 25 (pos line)) ∷ bne 4 0 ∷ j dispatch_abort ∷ lw 8 (pos 8) 4 ∷ lw 8 (pos (4 * slot)) 8 ∷ jalr 8 ∷ []

-- the stack with the frame's first three words
unfoldable pub with_frame : Bytes → Pointers → Bytes
with_frame m p = set_word (set_word (set_word m (p.sp - 4) p.ra) (p.sp - 8) p.fp) (p.sp - 12) p.self

module _ (w : World) where
  pub enters : (p : Pointers) (m : Bytes) (c : Console) (s : State) → Limits w → HasLines w p.pc enter_lines → At w p m c s → w.low + 12 ≤ p.sp → OnTheWay w c.output c.input
      → Reaches w s 0 12 (stands (At w (record p { pc = p.pc + 36; sp = p.sp - 12; fp = p.sp - 12; self = p.acc }) (with_frame m p) c))
  unfolding with_frame
  enters p m c s limits has at room way =
      let laid = w.laid in
      walk w enter_lines 0 s.core.registers s.core.pc s.core.memory (beside s) p.pc 0 3 _ has (omega arith) (
        (λ t. let le = not_less _ _ _ at.numbers.zero_is t in (
          omega arith,
          (
            omega arith,
            (
              omega arith,
              done w 3 _ _ (record { numbers = omega arith; memory_is = search (arith, store_eq, at.memory_is) depth 9; input_is = at.input_is; ended_is = at.ended_is; output_is = at.output_is }),
            ),
          ),
        )),
        (λ f. let lt = less _ _ _ at.numbers.zero_is f in
            stack_exit w _ _ c limits refl at.numbers.zero_is (omega arith) at.input_is at.output_is way),
      )

  -- the contents of a frame
  pub record FrameAt (m : Bytes) (fp : ℕ) (ra old self : ℕ) : Type 0 where
    pub ra_is : word m (fp + 8) ≡ ra
    pub fp_is : word m (fp + 4) ≡ old
    pub self_is : word m fp ≡ self

  pub leaves : (arguments : ℕ) (p : Pointers) (m : Bytes) (c : Console) (s : State) (ra old self : ℕ) → HasLines w p.pc (leave_lines arguments) → At w p m c s → FrameAt m p.fp ra old self
      → w.segments.stack_low ≤ p.fp → p.fp % 4 ≡ 0 → p.fp + 12 + 4 * arguments ≤ 2147483648
      → Reaches w s 0 5 (stands (At w (record p { pc = ra; sp = p.fp + 12 + 4 * arguments; fp = old; self = self; ra = ra }) m c))
  leaves arguments p m c s ra old self has at frame low even high =
      let laid = w.laid in
      let m0 = s.core.memory in
      let v1 : word m0 (wrap (s.core.registers FP + 8)) ≡ ra = load_eq _ _ _ _ at.memory_is (omega arith) ∙ frame.ra_is in
      let v2 : word m0 (wrap (s.core.registers FP + 4)) ≡ old = load_eq _ _ _ _ at.memory_is (omega arith) ∙ frame.fp_is in
      let v3 : word m0 (wrap (s.core.registers FP + 0)) ≡ self = load_eq _ _ _ _ at.memory_is (omega arith) ∙ frame.self_is in
      walk w (leave_lines arguments) 0 s.core.registers s.core.pc m0 (beside s) p.pc 0 0 _ has (omega arith) (
        omega arith,
        (
          omega arith,
          (
            omega arith,
            here w _ _ (record { numbers = omega arith; memory_is = at.memory_is; input_is = at.input_is; ended_is = at.ended_is; output_is = at.output_is }),
          ),
        ),
      )

  -- a slot of a dispatch table holds the address of a method
  pub record SlotAt (m : Bytes) (table slot method : ℕ) : Type 0 where
    pub even : table % 4 ≡ 0
    pub from : 268435456 ≤ table
    pub to : table + 4 * slot + 4 ≤ w.segments.data_end
    pub holds : word m (table + 4 * slot) ≡ method

  -- a dispatch takes at least one instruction
  pub dispatches : (file : Name) (line slot : ℕ) (p : Pointers) (m : Bytes) (c : Console) (s : State) (table method : ℕ) → HasLines w p.pc (dispatch_lines file line slot) → At w p m c s
      → line < 4294967296 → Lies w p.gp p.acc 12 → word m (p.acc + 8) ≡ table → SlotAt m table slot method
      → Reaches w s 1 9 (stands (λ t. At w (record p { pc = method; ra = p.pc + 36 }) m c t × (t.core.registers T8 ≡ w.place file) × (t.core.registers T9 ≡ line)))
  dispatches file line slot p m c s table method has at fits lies is entry =
      let laid = w.laid in
      let m0 = s.core.memory in
      let v1 : word m0 (wrap (s.core.registers A0 + 8)) ≡ table = load_eq _ _ _ _ at.memory_is (omega arith) ∙ is in
      let v2 : word m0 (wrap (word m0 (wrap (s.core.registers A0 + 8)) + 4 * slot)) ≡ method = load_eq _ _ _ _ at.memory_is (omega arith) ∙ entry.holds in
      walk_more w (la 24 file) (dispatch_rest line slot) s.core.registers s.core.pc m0 (beside s) p.pc 0 0 _ (omega arith) has (omega arith) (
        omega arith,
        (
          omega arith,
          fits,
          (
            (λ t. (
              omega arith,
              (
                omega arith,
                here w _ _ (record { numbers = omega arith; memory_is = at.memory_is; input_is = at.input_is; ended_is = at.ended_is; output_is = at.output_is }, refl, refl),
              ),
            )),
            (λ f. absurd (let same = same_numbers _ _ f in omega arith)),
          ),
        ),
      )
