-- After the code of a case's value, the instructions test whether the value is void, load its class tag, and test this against the tags of each branch.
use Rattle.std.proofs.Common.{◌≡◌, ℕ, zero, suc, ◌+◌, ◌-◌, ◌<◌, ◌≤◌, ◌⊎◌, inl, inr, [], ◌∷◌, refl, ◌∙◌, arith, true, false}
use Rattle.std.specs.Prelude.{ℤ, pos, not, ◌==◌, nat_lt}
use Rattle.mips_isa.specs.Words.{bits_of}
use Rattle.mips_isa.specs.Bytes.{Bytes, word, set_word}
use Rattle.mips_isa.specs.Machine.{wrap, flag}
use Rattle.mips_isa.specs.Calls.{State}
use Rattle.mips_isa.specs.Lines.{Name, Li}
use Rattle.mips_isa.specs.Assembly.{instruction_line}
use Rattle.cool_runtime.specs.Reaches.{World, Reaches, stands, OnTheWay}
use Rattle.cool_runtime.specs.Standing.{HasLines}
use Rattle.cool_runtime.specs.Walk.{beside}
use Rattle.cool_runtime.specs.Labels.{case_abort}
use Rattle.cool_runtime.specs.RoutineLabels.{case_void}
use Rattle.cool_runtime.specs.Instructions.{addiu, bne, j, la}
use Rattle.cool_runtime.specs.Contents.{Lies}
use Rattle.cool_runtime.specs.Premises.{Limits}
use Rattle.cool_runtime.specs.Machines.{At, Pointers, Console}
use Rattle.cool_runtime.specs.Routines.{push_lines}
use Rattle.cool_runtime.proofs.Runs.{wider, here}
use Rattle.cool_runtime.proofs.Walking.{walk}
use Rattle.cool_runtime.proofs.Words.{load_eq, store_eq}
use Rattle.cool_runtime.proofs.Allocating.{stack_exit, not_less, less}
use Rattle.cool_runtime.proofs.Copying.{differ, same_numbers}
use Rattle.cool_runtime.proofs.Pieces.{has_at}
use Rattle.cool_codegen.specs.Pieces.{case_begin_lines, try_tags_lines, case_end_lines, turn_lines}
use Rattle.cool_codegen.specs.Code.{minus}
use Rattle.cool_simulation.proofs.forms.CallLines.{AtPlace}

-- the machine stands so, with the place of the case, and the tag of its value
pub record AtTag (w : World) (p : Pointers) (m : Bytes) (c : Console) (file : Name) (line tag : ℕ) (s : State) : Type 0 where
  pub at : At w p m c s
  pub file_is : s.core.registers 24 ≡ w.place file
  pub line_is : s.core.registers 25 ≡ line
  pub tag_is : s.core.registers 9 ≡ tag

-- the result of `sltiu` and `bne`
below : (x y z : ℕ) → z ≡ 0 → not (flag (nat_lt x y) == z) ≡ true → x < y
below x y z h e = grind arith

not_below : (x y z : ℕ) → z ≡ 0 → not (flag (nat_lt x y) == z) ≡ false → y ≤ x
not_below x y z h e = grind arith

-- a tag less the first of a range, as the machine subtracts it
pub range_fits : (t first last : ℕ) → t < 65536 → first ≤ t → t ≤ last → last < 65536 → wrap (t + bits_of (minus first)) < last - first + 1
range_fits t zero last small low high top = omega arith
range_fits t (suc n) last small low high top = omega arith

pub range_misses : (t first last : ℕ) → t < 65536 → first ≤ last → last < 65536 → (first ≤ t → t ≤ last → ⊥) → last - first + 1 ≤ wrap (t + bits_of (minus first))
range_misses t first last small some top miss = by order
  where
    order : (t < first) ⊎ ((first ≤ t) × (last < t))
    order = grind (arith, miss)

    lower : (n : ℕ) → t < n → n ≤ last → last - n + 1 ≤ wrap (t + bits_of (minus n))
    lower zero less le = absurd (omega arith)
    lower (suc n) less le = omega arith

    upper : (n : ℕ) → n ≤ t → last < t → n ≤ last → last - n + 1 ≤ wrap (t + bits_of (minus n))
    upper zero less le some = omega arith
    upper (suc n) less le some = omega arith

    by : (t < first) ⊎ ((first ≤ t) × (last < t)) → last - first + 1 ≤ wrap (t + bits_of (minus first))
    by (inl less) = lower first less some
    by (inr h) = upper first h.0 h.1 some

module _ (w : World) where
  pub case_finds_void : (file : Name) (line : ℕ) (p : Pointers) (m : Bytes) (c : Console) (s : State) → HasLines w p.pc (case_begin_lines file line) → At w p m c s
      → line < 4294967296 → p.acc ≡ 0 → Reaches w s 0 7 (stands (AtPlace w (record p { pc = w.place case_void }) m c file line))
  unfolding case_begin_lines
  case_finds_void file line p m c s has at fits void =
      let laid = w.laid in
      walk w (la 24 file ∷ instruction_line (Li 25 (pos line)) ∷ bne 4 0 ∷ j case_void ∷ []) 0 s.core.registers s.core.pc s.core.memory (beside s) p.pc 0 1 _ (has.0, (has.1.0, (has.1.1.0, (has.1.1.1.0, tt)))) (omega arith) (
        omega arith,
        (
          omega arith,
          fits,
          (
            (λ t. absurd (differ _ _ t (omega arith))),
            (λ f. wider w _ 0 0 0 1 _ (omega arith) (omega arith) (here w _ _ (record {
              at = record { numbers = omega arith; memory_is = at.memory_is; input_is = at.input_is; ended_is = at.ended_is; output_is = at.output_is };
              file_is = refl;
              line_is = refl;
            }))),
          ),
        ),
      )

  pub case_takes_tag : (file : Name) (line tag : ℕ) (p : Pointers) (m : Bytes) (c : Console) (s : State) → HasLines w p.pc (case_begin_lines file line) → At w p m c s
      → line < 4294967296 → Lies w p.gp p.acc 12 → word m p.acc ≡ tag → Reaches w s 0 7 (stands (AtTag w (record p { pc = p.pc + 28 }) m c file line tag))
  unfolding case_begin_lines
  case_takes_tag file line tag p m c s has at fits lies is =
      let laid = w.laid in
      let m0 = s.core.memory in
      let v : word m0 (wrap (s.core.registers 4 + 0)) ≡ tag = load_eq _ _ _ _ at.memory_is (omega arith) ∙ is in
      walk w (case_begin_lines file line) 0 s.core.registers s.core.pc m0 (beside s) p.pc 0 0 _ has (omega arith) (
        omega arith,
        (
          omega arith,
          fits,
          (
            (λ t. (
              omega arith,
              here w _ _ (record {
                at = record { numbers = omega arith; memory_is = at.memory_is; input_is = at.input_is; ended_is = at.ended_is; output_is = at.output_is };
                file_is = refl;
                line_is = refl;
                tag_is = v;
              }),
            )),
            (λ f. absurd (let same = same_numbers _ _ f in omega arith)),
          ),
        ),
      )

  -- the push of the value, with the registers of the tests
  pub case_pushes : (file : Name) (line tag : ℕ) (p : Pointers) (m : Bytes) (c : Console) (s : State) → Limits w → HasLines w p.pc push_lines → AtTag w p m c file line tag s → w.low + 4 ≤ p.sp → OnTheWay w c.output c.input
      → Reaches w s 0 8 (stands (AtTag w (record p { pc = p.pc + 20; sp = p.sp - 4 }) (set_word m (p.sp - 4) p.acc) c file line tag))
  case_pushes file line tag p m c s limits has there room way =
      let laid = w.laid in
      let at = there.at in
      walk w push_lines 0 s.core.registers s.core.pc s.core.memory (beside s) p.pc 0 3 _ has (omega arith) (
        (λ t. let le = not_less _ _ _ at.numbers.zero_is t in (
          omega arith,
          wider w _ 0 0 0 3 _ (omega arith) (omega arith) (here w _ _ (record {
            at = record { numbers = omega arith; memory_is = search (arith, store_eq, at.memory_is); input_is = at.input_is; ended_is = at.ended_is; output_is = at.output_is };
            file_is = there.file_is;
            line_is = there.line_is;
            tag_is = there.tag_is;
          })),
        )),
        (λ f. let lt = less _ _ _ at.numbers.zero_is f in
            stack_exit w _ _ c limits refl at.numbers.zero_is (omega arith) at.input_is at.output_is way),
      )

  -- a test whose range has the tag
  pub test_fits : (file : Name) (line tag first count : ℕ) (low : ℤ) (next : Name) (p : Pointers) (m : Bytes) (c : Console) (s : State) → HasLines w p.pc (try_tags_lines low (pos count) next)
      → AtTag w p m c file line tag s → wrap (tag + bits_of low) < count → Reaches w s 0 4 (stands (AtTag w (record p { pc = p.pc + 16 }) m c file line tag))
  unfolding try_tags_lines
  test_fits file line tag first count low next p m c s has there fit =
      let laid = w.laid in
      let at = there.at in
      walk w (try_tags_lines low (pos count) next) 0 s.core.registers s.core.pc s.core.memory (beside s) p.pc 0 0 _ has (omega arith) (
        (λ t. here w _ _ (record {
          at = record { numbers = omega arith; memory_is = at.memory_is; input_is = at.input_is; ended_is = at.ended_is; output_is = at.output_is };
          file_is = there.file_is;
          line_is = there.line_is;
          tag_is = there.tag_is;
        })),
        (λ f. absurd (let over = not_below _ _ _ at.numbers.zero_is f in let is = there.tag_is in omega arith)),
      )

  -- one whose range has it not
  pub test_misses : (file : Name) (line tag first count : ℕ) (low : ℤ) (next : Name) (p : Pointers) (m : Bytes) (c : Console) (s : State) → HasLines w p.pc (try_tags_lines low (pos count) next)
      → AtTag w p m c file line tag s → count ≤ wrap (tag + bits_of low) → Reaches w s 0 4 (stands (AtTag w (record p { pc = w.place next }) m c file line tag))
  unfolding try_tags_lines
  test_misses file line tag first count low next p m c s has there miss =
      let laid = w.laid in
      let at = there.at in
      walk w (try_tags_lines low (pos count) next) 0 s.core.registers s.core.pc s.core.memory (beside s) p.pc 0 0 _ has (omega arith) (
        (λ t. absurd (let under = below _ _ _ at.numbers.zero_is t in let is = there.tag_is in omega arith)),
        (λ f. here w _ _ (record {
          at = record { numbers = omega arith; memory_is = at.memory_is; input_is = at.input_is; ended_is = at.ended_is; output_is = at.output_is };
          file_is = there.file_is;
          line_is = there.line_is;
          tag_is = there.tag_is;
        })),
      )

  -- the code after the last branch
  pub goes_to_no_branch : (file : Name) (line tag : ℕ) (end : Name) (p : Pointers) (m : Bytes) (c : Console) (s : State) → HasLines w p.pc (case_end_lines end) → AtTag w p m c file line tag s
      → Reaches w s 0 1 (stands (AtTag w (record p { pc = w.place case_abort }) m c file line tag))
  unfolding case_end_lines
  goes_to_no_branch file line tag end p m c s has there =
      let laid = w.laid in
      let at = there.at in
      walk w (j case_abort ∷ []) 0 s.core.registers s.core.pc s.core.memory (beside s) p.pc 0 0 _ (has.0, tt) (omega arith)
      (here w _ _ (record {
        at = record { numbers = omega arith; memory_is = at.memory_is; input_is = at.input_is; ended_is = at.ended_is; output_is = at.output_is };
        file_is = there.file_is;
        line_is = there.line_is;
        tag_is = there.tag_is;
      }))

  -- the code after a branch: to the end of the case, where its variable is popped
  pub branch_ends : (end next : Name) (pc' : ℕ) (p : Pointers) (m : Bytes) (c : Console) (s : State) → HasLines w p.pc (turn_lines end next) → HasLines w pc' (case_end_lines end) → At w p m c s → p.sp + 4 ≤ 2147483648
      → Reaches w s 0 2 (stands (At w (record p { pc = pc' + 8; sp = p.sp + 4 }) m c))
  unfolding turn_lines case_end_lines
  branch_ends end next pc' p m c s has ends at room =
      let laid = w.laid in
      let place : w.place end ≡ pc' + 4 = ends.1.0.labels.0 in
      walk w (j end ∷ []) 0 s.core.registers s.core.pc s.core.memory (beside s) p.pc 0 1 _ (has.0, tt) (omega arith)
      (walk w (addiu 29 29 (pos 4) ∷ []) 0 _ _ _ _ (w.place end) 0 0 _ (has_at w (addiu 29 29 (pos 4) ∷ []) (pc' + 4 + 0) (w.place end) (omega arith) (ends.1.1.0, tt)) (omega arith)
      (here w _ _ (record { numbers = omega arith; memory_is = at.memory_is; input_is = at.input_is; ended_is = at.ended_is; output_is = at.output_is })))
