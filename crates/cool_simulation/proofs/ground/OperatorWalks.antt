-- Runs over the instructions of operators: they load the operands, compute the result, and set a flag for an error or a truth value.
use Rattle.std.proofs.Common.{◌≡◌, ℕ, ◌+◌, ◌-◌, ◌*◌, ◌/◌, ◌%◌, ◌<◌, ◌≤◌, true, false, refl, ◌∙◌, arith}
use Rattle.std.specs.Prelude.{nat_lt, ◌==◌, not}
use Rattle.mips_isa.specs.declared.address_map.TheConstants.{STACK_END}
use Rattle.mips_isa.specs.Bytes.{Bytes, word}
use Rattle.mips_isa.specs.Machine.{wrap, flag, lifted, long, signed_quotient}
use Rattle.mips_isa.specs.Calls.{State}
use Rattle.mips_isa.specs.Lines.{Name}
use Rattle.cool_runtime.specs.Reaches.{World, Reaches, stands}
use Rattle.cool_runtime.specs.Standing.{HasLines}
use Rattle.cool_runtime.specs.Walk.{beside}
use Rattle.cool_runtime.specs.Contents.{IntAt, BoolAt}
use Rattle.cool_runtime.specs.Machines.{At, Pointers, Console}
use Rattle.cool_runtime.proofs.Runs.{here}
use Rattle.cool_runtime.proofs.Walking.{walk}
use Rattle.cool_runtime.proofs.Words.{load_eq}
use Rattle.cool_codegen.specs.Pieces.{values_lines, less_lines, less_equal_lines, is_void_lines, complement_lines, add_lines, subtract_lines, multiply_lines, divide_lines, negate_lines, is_zero_lines}
use Rattle.cool_simulation.proofs.ground.Sums.{sum_flag, difference_flag}
use Rattle.cool_simulation.proofs.ground.Products.{product_flag}
use Rattle.cool_simulation.proofs.ground.Quotients.{quotient_flag}

-- the values of the operands are in $t3 and $t4
pub record Both (w : World) (p : Pointers) (m : Bytes) (c : Console) (x y : ℕ) (s : State) : Type 0 where
  pub at : At w p m c s
  pub t3_is : s.core.registers 11 ≡ x
  pub t4_is : s.core.registers 12 ≡ y

-- a result is in $t2, and in $t0 whether it is none
pub record Result (w : World) (p : Pointers) (m : Bytes) (c : Console) (r f : ℕ) (s : State) : Type 0 where
  pub at : At w p m c s
  pub t2_is : s.core.registers 10 ≡ r
  pub t0_is : s.core.registers 8 ≡ f

-- the values of the operands are there still, and a test is in $t0
pub record Tested (w : World) (p : Pointers) (m : Bytes) (c : Console) (x y f : ℕ) (s : State) : Type 0 where
  pub both : Both w p m c x y s
  pub t0_is : s.core.registers 8 ≡ f

-- a flag is in $t0
pub record Flagged (w : World) (p : Pointers) (m : Bytes) (c : Console) (f : ℕ) (s : State) : Type 0 where
  pub at : At w p m c s
  pub t0_is : s.core.registers 8 ≡ f

-- an error's place is in $t8 and $t9
pub record AtError (w : World) (p : Pointers) (m : Bytes) (c : Console) (file : Name) (line : ℕ) (s : State) : Type 0 where
  pub at : At w p m c s
  pub t8_is : s.core.registers 24 ≡ w.place file
  pub t9_is : s.core.registers 25 ≡ line

no_number : (y z : ℕ) → z ≡ 0 → 0 < y → (y == z) ≡ false
no_number y z e h = grind arith

pub some_not : (x z : ℕ) → z ≡ 0 → 0 < x → not (x == z) ≡ false → ⊥
some_not x z e h f = grind arith

pub none_not : (x z : ℕ) → z ≡ 0 → x ≡ 0 → not (x == z) ≡ true → ⊥
none_not x z e h f = grind arith

pub one_not : (x z : ℕ) → z ≡ 0 → x ≡ 1 → (x == z) ≡ true → ⊥
one_not x z e h f = grind arith

pub zero_is : (x z : ℕ) → z ≡ 0 → x ≡ 0 → (x == z) ≡ false → ⊥
zero_is x z e h f = grind arith

module _ (w : World) where
  pub values : (p : Pointers) (m : Bytes) (c : Console) (s : State) (x y : ℕ) → HasLines w p.pc values_lines → At w p m c s → p.sp + 4 ≤ STACK_END → IntAt w m p.gp (word m p.sp) x → IntAt w m p.gp p.acc y
      → Reaches w s 0 4 (stands (Both w (record p { pc = p.pc + 16; sp = p.sp + 4 }) m c x y))
  unfolding values_lines
  values p m c s x y has at room left right =
      let laid = w.laid in
      let m0 = s.core.memory in
      let r = s.core.registers in
      let lies = left.lies in
      let lies' = right.lies in
      let first : word m0 (wrap (r 29 + 0)) ≡ word m p.sp = load_eq _ _ _ _ at.memory_is (omega arith) in
      let value : word m0 (wrap (word m0 (wrap (r 29 + 0)) + 12)) ≡ x = load_eq _ _ _ _ at.memory_is (omega arith) ∙ left.value in
      let other : word m0 (wrap (r 4 + 12)) ≡ y = load_eq _ _ _ _ at.memory_is (omega arith) ∙ right.value in
      walk w values_lines 0 s.core.registers s.core.pc s.core.memory (beside s) p.pc 0 0 _ has (omega arith) (
        omega arith,
        (
          omega arith,
          (
            omega arith,
            here w _ _ (record {
              at = record { numbers = omega arith; memory_is = at.memory_is; input_is = at.input_is; ended_is = at.ended_is; output_is = at.output_is };
              t3_is = value;
              t4_is = other;
            }),
          ),
        ),
      )

  pub adds : (p : Pointers) (m : Bytes) (c : Console) (s : State) (x y : ℕ) → HasLines w p.pc add_lines → Both w p m c x y s → Reaches w s 0 4 (stands (Result w (record p { pc = p.pc + 16 }) m c (wrap (x + y)) (sum_flag x y)))
  unfolding add_lines
  adds p m c s x y has both =
      let laid = w.laid in
      let at = both.at in
      walk w add_lines 0 s.core.registers s.core.pc s.core.memory (beside s) p.pc 0 0 _ has (omega arith)
      (here w _ _ (record {
        at = record { numbers = omega arith; memory_is = at.memory_is; input_is = at.input_is; ended_is = at.ended_is; output_is = at.output_is };
        t2_is = λ i. wrap (both.t3_is i + both.t4_is i);
        t0_is = λ i. wrap (flag (nat_lt (lifted (wrap (both.t3_is i + both.t4_is i))) (lifted (both.t3_is i))) + 4294967296 - flag (nat_lt (lifted (both.t4_is i)) (lifted (at.numbers.zero_is i))));
      }))

  pub subtracts : (p : Pointers) (m : Bytes) (c : Console) (s : State) (x y : ℕ) → HasLines w p.pc subtract_lines → Both w p m c x y s
      → Reaches w s 0 4 (stands (Result w (record p { pc = p.pc + 16 }) m c (wrap (x + 4294967296 - y)) (difference_flag x y)))
  unfolding subtract_lines
  subtracts p m c s x y has both =
      let laid = w.laid in
      let at = both.at in
      walk w subtract_lines 0 s.core.registers s.core.pc s.core.memory (beside s) p.pc 0 0 _ has (omega arith)
      (here w _ _ (record {
        at = record { numbers = omega arith; memory_is = at.memory_is; input_is = at.input_is; ended_is = at.ended_is; output_is = at.output_is };
        t2_is = λ i. wrap (both.t3_is i + 4294967296 - both.t4_is i);
        t0_is = λ i. wrap (flag (nat_lt (lifted (both.t3_is i)) (lifted (both.t4_is i))) + 4294967296 - flag (nat_lt (lifted (wrap (both.t3_is i + 4294967296 - both.t4_is i))) (lifted (at.numbers.zero_is i))));
      }))

  pub multiplies : (p : Pointers) (m : Bytes) (c : Console) (s : State) (x y : ℕ) → HasLines w p.pc multiply_lines → Both w p m c x y s
      → Reaches w s 0 5 (stands (Result w (record p { pc = p.pc + 20 }) m c (wrap (long x * long y)) (product_flag x y)))
  unfolding multiply_lines
  multiplies p m c s x y has both =
      let laid = w.laid in
      let at = both.at in
      walk w multiply_lines 0 s.core.registers s.core.pc s.core.memory (beside s) p.pc 0 0 _ has (omega arith)
      (here w _ _ (record {
        at = record { numbers = omega arith; memory_is = at.memory_is; input_is = at.input_is; ended_is = at.ended_is; output_is = at.output_is };
        t2_is = λ i. wrap (long (both.t3_is i) * long (both.t4_is i));
        t0_is = λ i. wrap (long (both.t3_is i) * long (both.t4_is i) % 18446744073709551616 / 4294967296 + flag (nat_lt (lifted (wrap (long (both.t3_is i) * long (both.t4_is i)))) (lifted (at.numbers.zero_is i))));
      }))

  pub divides : (p : Pointers) (m : Bytes) (c : Console) (s : State) (x y : ℕ) → HasLines w p.pc divide_lines → Both w p m c x y s → 0 < y
      → Reaches w s 0 8 (stands (Result w (record p { pc = p.pc + 32 }) m c (signed_quotient x y) (quotient_flag x y)))
  unfolding divide_lines
  divides p m c s x y has both some =
      let laid = w.laid in
      let at = both.at in
      walk w divide_lines 0 s.core.registers s.core.pc s.core.memory (beside s) p.pc 0 0 _ has (omega arith) (
        no_number _ 0 refl (omega (arith, both.t4_is)),
        here w _ _ (record {
          at = record { numbers = omega arith; memory_is = at.memory_is; input_is = at.input_is; ended_is = at.ended_is; output_is = at.output_is };
          t2_is = λ i. signed_quotient (both.t3_is i) (both.t4_is i);
          t0_is = λ i. flag (nat_lt (flag (nat_lt (at.numbers.zero_is i) (wrap (both.t4_is i + 1)))) (flag (nat_lt (wrap (both.t3_is i + 2147483648)) 1)));
        }),
      )

  pub negates : (p : Pointers) (m : Bytes) (c : Console) (s : State) (y : ℕ) → HasLines w p.pc negate_lines → At w p m c s → IntAt w m p.gp p.acc y
      → Reaches w s 0 5 (stands (Result w (record p { pc = p.pc + 20 }) m c (wrap (0 + 4294967296 - y)) (difference_flag 0 y)))
  unfolding negate_lines
  negates p m c s y has at right =
      let laid = w.laid in
      let m0 = s.core.memory in
      let r = s.core.registers in
      let lies' = right.lies in
      let other : word m0 (wrap (r 4 + 12)) ≡ y = load_eq _ _ _ _ at.memory_is (omega arith) ∙ right.value in
      let zero = at.numbers.zero_is in
      walk w negate_lines 0 s.core.registers s.core.pc s.core.memory (beside s) p.pc 0 0 _ has (omega arith) (
        omega arith,
        here w _ _ (record {
          at = record { numbers = omega arith; memory_is = at.memory_is; input_is = at.input_is; ended_is = at.ended_is; output_is = at.output_is };
          t2_is = λ i. wrap (zero i + 4294967296 - other i);
          t0_is = λ i. wrap (flag (nat_lt (lifted (zero i)) (lifted (other i))) + 4294967296 - flag (nat_lt (lifted (wrap (zero i + 4294967296 - other i))) (lifted (zero i))));
        }),
      )

  pub tests_zero : (p : Pointers) (m : Bytes) (c : Console) (s : State) (x y : ℕ) → HasLines w p.pc is_zero_lines → Both w p m c x y s
      → Reaches w s 0 1 (stands (Tested w (record p { pc = p.pc + 4 }) m c x y (flag (nat_lt y 1))))
  unfolding is_zero_lines
  tests_zero p m c s x y has both =
      let laid = w.laid in
      let at = both.at in
      walk w is_zero_lines 0 s.core.registers s.core.pc s.core.memory (beside s) p.pc 0 0 _ has (omega arith)
      (here w _ _ (record {
        both = record {
          at = record { numbers = omega arith; memory_is = at.memory_is; input_is = at.input_is; ended_is = at.ended_is; output_is = at.output_is };
          t3_is = both.t3_is;
          t4_is = both.t4_is;
        };
        t0_is = λ i. flag (nat_lt (both.t4_is i) 1);
      }))

  -- orders
  pub less : (p : Pointers) (m : Bytes) (c : Console) (s : State) (x y : ℕ) → HasLines w p.pc less_lines → Both w p m c x y s
      → Reaches w s 0 1 (stands (Flagged w (record p { pc = p.pc + 4 }) m c (flag (nat_lt (lifted x) (lifted y)))))
  unfolding less_lines
  less p m c s x y has both =
      let laid = w.laid in
      let at = both.at in
      walk w less_lines 0 s.core.registers s.core.pc s.core.memory (beside s) p.pc 0 0 _ has (omega arith)
      (here w _ _ (record {
        at = record { numbers = omega arith; memory_is = at.memory_is; input_is = at.input_is; ended_is = at.ended_is; output_is = at.output_is };
        t0_is = λ i. flag (nat_lt (lifted (both.t3_is i)) (lifted (both.t4_is i)));
      }))

  pub less_equal : (p : Pointers) (m : Bytes) (c : Console) (s : State) (x y : ℕ) → HasLines w p.pc less_equal_lines → Both w p m c x y s
      → Reaches w s 0 2 (stands (Flagged w (record p { pc = p.pc + 8 }) m c (flag (nat_lt (flag (nat_lt (lifted y) (lifted x))) 1))))
  unfolding less_equal_lines
  less_equal p m c s x y has both =
      let laid = w.laid in
      let at = both.at in
      walk w less_equal_lines 0 s.core.registers s.core.pc s.core.memory (beside s) p.pc 0 0 _ has (omega arith)
      (here w _ _ (record {
        at = record { numbers = omega arith; memory_is = at.memory_is; input_is = at.input_is; ended_is = at.ended_is; output_is = at.output_is };
        t0_is = λ i. flag (nat_lt (flag (nat_lt (lifted (both.t4_is i)) (lifted (both.t3_is i)))) 1);
      }))

  pub tests_void : (p : Pointers) (m : Bytes) (c : Console) (s : State) → HasLines w p.pc is_void_lines → At w p m c s
      → Reaches w s 0 1 (stands (Flagged w (record p { pc = p.pc + 4 }) m c (flag (nat_lt p.acc 1))))
  unfolding is_void_lines
  tests_void p m c s has at =
      let laid = w.laid in
      walk w is_void_lines 0 s.core.registers s.core.pc s.core.memory (beside s) p.pc 0 0 _ has (omega arith)
      (here w _ _ (record {
        at = record { numbers = omega arith; memory_is = at.memory_is; input_is = at.input_is; ended_is = at.ended_is; output_is = at.output_is };
        t0_is = λ i. flag (nat_lt (at.numbers.acc_is i) 1);
      }))

  pub complements : (p : Pointers) (m : Bytes) (c : Console) (s : State) (v : ℕ) → HasLines w p.pc complement_lines → At w p m c s → BoolAt w m p.gp p.acc v
      → Reaches w s 0 2 (stands (Flagged w (record p { pc = p.pc + 8 }) m c (flag (nat_lt v 1))))
  unfolding complement_lines
  complements p m c s v has at bool =
      let laid = w.laid in
      let lies = bool.lies in
      let value : word s.core.memory (wrap (s.core.registers 4 + 12)) ≡ v = load_eq _ _ _ _ at.memory_is (omega arith) ∙ bool.value in
      walk w complement_lines 0 s.core.registers s.core.pc s.core.memory (beside s) p.pc 0 0 _ has (omega arith) (
        omega arith,
        here w _ _ (record {
          at = record { numbers = omega arith; memory_is = at.memory_is; input_is = at.input_is; ended_is = at.ended_is; output_is = at.output_is };
          t0_is = λ i. flag (nat_lt (value i) 1);
        }),
      )
