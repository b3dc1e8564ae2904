-- Runs over short instruction sequences: they make a Bool object of a flag (0 or 1), end the run with an error if a test fails, or pass operands to the
-- comparison routine.
use Rattle.std.proofs.Common.{◌≡◌, ℕ, ◌+◌, ◌<◌, ◌≤◌, Bool, true, false, refl, arith}
use Rattle.mips_isa.specs.declared.address_map.TheConstants.{STACK_END}
use Rattle.mips_isa.specs.Bytes.{Bytes, word}
use Rattle.mips_isa.specs.Machine.{wrap, flag}
use Rattle.mips_isa.specs.Calls.{State}
use Rattle.mips_isa.specs.Lines.{Name}
use Rattle.cool_runtime.specs.Reaches.{World, Reaches, stands}
use Rattle.cool_runtime.specs.Standing.{HasLines}
use Rattle.cool_runtime.specs.Walk.{beside}
use Rattle.cool_runtime.specs.Labels.{equality}
use Rattle.cool_runtime.specs.Comparison.{Operands}
use Rattle.cool_runtime.specs.Machines.{At, Pointers, Console}
use Rattle.cool_runtime.proofs.Runs.{here}
use Rattle.cool_runtime.proofs.Walking.{walk}
use Rattle.cool_runtime.proofs.Words.{load_eq}
use Rattle.cool_codegen.specs.Pieces.{compare_equal_lines, flag_lines, ends_where_lines}
use Rattle.cool_codegen.specs.Code.{truth_label}
use Rattle.cool_simulation.proofs.ground.OperatorWalks.{Both, Result, Tested, Flagged, AtError, some_not, none_not, one_not, zero_is}

module _ (w : World) where
  -- the Bool of a flag
  pub flags : (end : Name) (t : Bool) (p : Pointers) (m : Bytes) (c : Console) (s : State) → HasLines w p.pc (flag_lines end) → Flagged w p m c (flag t) s
      → Reaches w s 0 6 (stands (At w (record p { pc = p.pc + 24; acc = w.place (truth_label t) }) m c))
  unfolding flag_lines
  flags end true p m c s has flagged =
      let laid = w.laid in
      let at = flagged.at in
      let fits = has.0.names in
      let end_is = has.1.1.1.1.0.labels.0 in
      walk w (flag_lines end) 0 s.core.registers s.core.pc s.core.memory (beside s) p.pc 0 0 _ has (omega arith) (
        omega arith,
        (
          (λ t. absurd (one_not _ _ at.numbers.zero_is flagged.t0_is t)),
          (λ f. here w _ _ (record { numbers = omega arith; memory_is = at.memory_is; input_is = at.input_is; ended_is = at.ended_is; output_is = at.output_is })),
        ),
      )
  flags end false p m c s has flagged =
      let laid = w.laid in
      let at = flagged.at in
      let fits = has.1.1.1.0.names in
      let end_is = has.1.1.1.1.0.labels.0 in
      walk w (flag_lines end) 0 s.core.registers s.core.pc s.core.memory (beside s) p.pc 0 0 _ has (omega arith) (
        omega arith,
        (
          (λ t. (omega arith, here w _ _ (record { numbers = omega arith; memory_is = at.memory_is; input_is = at.input_is; ended_is = at.ended_is; output_is = at.output_is }))),
          (λ f. absurd (zero_is _ _ at.numbers.zero_is flagged.t0_is f)),
        ),
      )

  -- goes on where $t0 is 0, and else to the end by an error
  pub passes : (fits file : Name) (line : ℕ) (abort : Name) (p : Pointers) (m : Bytes) (c : Console) (s : State) (r : ℕ) → HasLines w p.pc (ends_where_lines fits file line abort) → Result w p m c r 0 s
      → Reaches w s 0 7 (stands (Result w (record p { pc = p.pc + 28 }) m c r 0))
  unfolding ends_where_lines
  passes fits file line abort p m c s r has result =
      let laid = w.laid in
      let at = result.at in
      let end_is = has.1.1.1.1.1.0.labels.0 in
      walk w (ends_where_lines fits file line abort) 0 s.core.registers s.core.pc s.core.memory (beside s) p.pc 0 0 _ has (omega arith) (
        (λ t. absurd (none_not _ _ at.numbers.zero_is result.t0_is t)),
        (λ f. here w _ _ (record {
          at = record { numbers = omega arith; memory_is = at.memory_is; input_is = at.input_is; ended_is = at.ended_is; output_is = at.output_is };
          t2_is = result.t2_is;
          t0_is = result.t0_is;
        })),
      )

  pub passes_on : (fits file : Name) (line : ℕ) (abort : Name) (p : Pointers) (m : Bytes) (c : Console) (s : State) (x y : ℕ) → HasLines w p.pc (ends_where_lines fits file line abort) → Tested w p m c x y 0 s
      → Reaches w s 0 7 (stands (Both w (record p { pc = p.pc + 28 }) m c x y))
  unfolding ends_where_lines
  passes_on fits file line abort p m c s x y has tested =
      let laid = w.laid in
      let both = tested.both in
      let at = both.at in
      let end_is = has.1.1.1.1.1.0.labels.0 in
      walk w (ends_where_lines fits file line abort) 0 s.core.registers s.core.pc s.core.memory (beside s) p.pc 0 0 _ has (omega arith) (
        (λ t. absurd (none_not _ _ at.numbers.zero_is tested.t0_is t)),
        (λ f. here w _ _ (record {
          at = record { numbers = omega arith; memory_is = at.memory_is; input_is = at.input_is; ended_is = at.ended_is; output_is = at.output_is };
          t3_is = both.t3_is;
          t4_is = both.t4_is;
        })),
      )

  pub refuses : (fits file : Name) (line : ℕ) (abort : Name) (p : Pointers) (m : Bytes) (c : Console) (s : State) (f : ℕ) → HasLines w p.pc (ends_where_lines fits file line abort) → Flagged w p m c f s → 0 < f → line < 4294967296
      → Reaches w s 0 7 (stands (AtError w (record p { pc = w.place abort }) m c file line))
  unfolding ends_where_lines
  refuses fits file line abort p m c s f has flagged some small =
      let laid = w.laid in
      let at = flagged.at in
      walk w (ends_where_lines fits file line abort) 0 s.core.registers s.core.pc s.core.memory (beside s) p.pc 0 0 _ has (omega arith) (
        (λ t. (
          omega arith,
          (
            omega arith,
            small,
            here w _ _ (record {
              at = record { numbers = omega arith; memory_is = at.memory_is; input_is = at.input_is; ended_is = at.ended_is; output_is = at.output_is };
              t8_is = refl;
              t9_is = refl;
            }),
          ),
        )),
        (λ z. absurd (some_not _ _ at.numbers.zero_is (omega (arith, flagged.t0_is)) z)),
      )

  -- the operands of a comparison by the routine
  pub operands : (p : Pointers) (m : Bytes) (c : Console) (s : State) → HasLines w p.pc compare_equal_lines → At w p m c s → p.sp + 4 ≤ STACK_END
      → Reaches w s 0 4 (stands (Operands w (record p { pc = w.place equality; sp = p.sp + 4; ra = p.pc + 16 }) m c (word m p.sp) p.acc))
  unfolding compare_equal_lines
  operands p m c s has at room =
      let laid = w.laid in
      let m0 = s.core.memory in
      let r = s.core.registers in
      let first : word m0 (wrap (r 29 + 0)) ≡ word m p.sp = load_eq _ _ _ _ at.memory_is (omega arith) in
      walk w compare_equal_lines 0 s.core.registers s.core.pc s.core.memory (beside s) p.pc 0 0 _ has (omega arith) (
        omega arith,
        here w _ _ (record {
          at = record { numbers = omega arith; memory_is = at.memory_is; input_is = at.input_is; ended_is = at.ended_is; output_is = at.output_is };
          t1_is = first;
          t2_is = omega arith;
        }),
      )
