-- The routine that copies an object copies one word after another in a loop and returns the address of the copy, or the run exits by the limit of the heap.
use Rattle.std.proofs.Common.{◌≡◌, ℕ, zero, suc, ◌+◌, ◌*◌, ◌%◌, ◌<◌, ◌≤◌, List, [], ◌∷◌, ◌++◌, refl, ◌∙◌, arith, true, false}
use Rattle.std.specs.Prelude.{◌==◌, not}
use Rattle.mips_isa.specs.declared.register.TheConstants.{A0, T1, T2, T3}
use Rattle.mips_isa.specs.Bytes.{Bytes, word, set_word}
use Rattle.mips_isa.specs.Machine.{wrap}
use Rattle.mips_isa.specs.Calls.{State}
use Rattle.mips_isa.specs.Lines.{Line}
use Rattle.cool_runtime.specs.Reaches.{World, Reaches, stands, OnTheWay}
use Rattle.cool_runtime.specs.Standing.{HasLines}
use Rattle.cool_runtime.specs.Walk.{beside}
use Rattle.cool_runtime.specs.Labels.{copy, copy_words, copy_end}
use Rattle.cool_runtime.specs.Instructions.{bne, j}
use Rattle.cool_runtime.specs.Contents.{Lies}
use Rattle.cool_runtime.specs.Premises.{Limits}
use Rattle.cool_runtime.specs.Machines.{At, Pointers, Console, copied, with_copy}
use Rattle.cool_runtime.specs.Routines.{copy_lines, copy_first_lines, copy_words_lines, copy_word_lines, copy_end_lines}
use Rattle.cool_runtime.proofs.Runs.{wider, here}
use Rattle.cool_runtime.proofs.Walking.{walk, single}
use Rattle.cool_runtime.proofs.Words.{load_eq, store_eq}
use Rattle.cool_runtime.proofs.Allocating.{heap_exit, not_less, less}
use Rattle.cool_runtime.proofs.Pieces.{has_front, has_back, has_at, done, next}

-- the result of `bne`
pub differ : (x y : ℕ) → not (x == y) ≡ true → x ≡ y → ⊥
differ x y t e = grind arith

pub same_numbers : (x y : ℕ) → not (x == y) ≡ false → x ≡ y
same_numbers x y f = grind arith

-- $t1, $t2 and $t3 in the loop
pub record Counting (w : World) (p : Pointers) (m : Bytes) (c : Console) (end goal to : ℕ) (s : State) : Type 0 where
  pub at : At w p m c s
  pub t1_is : s.core.registers T1 ≡ end
  pub t2_is : s.core.registers T2 ≡ goal
  pub t3_is : s.core.registers T3 ≡ to

-- so many words may be copied
pub record MayCopy (w : World) (gp from to n : ℕ) : Type 0 where
  pub from_even : from % 4 ≡ 0
  pub to_even : to % 4 ≡ 0
  pub from_low : 268435456 ≤ from
  pub from_data : from < 536870912 → from + 4 * n ≤ w.segments.data_end
  pub from_heap : from + 4 * n ≤ w.segments.heap_end
  pub to_low : 536870912 ≤ to
  pub to_heap : to + 4 * n ≤ w.segments.heap_end

module _ (w : World) where
  -- the words are copied, six instructions each
  copy_loop : (n : ℕ) (p : Pointers) (m : Bytes) (c : Console) (s : State) (end goal to last : ℕ) → HasLines w p.pc copy_words_lines → Counting w p m c end goal to s
      → end ≡ p.acc + 4 * n → last ≡ to + 4 * n → MayCopy w p.gp p.acc to n
      → Reaches w s 0 (6 * n + 2) (stands (Counting w (record p { pc = w.place copy_end; acc = end }) (copied m p.acc to n) c end goal last))
  copy_loop zero p m c s end goal to last has count ends lasts may =
      let laid = w.laid in
      let here' = has_at w (bne 4 9 ∷ j copy_end ∷ copy_word_lines) (p.pc + 0) s.core.pc (omega (arith, count.at.numbers.pc_is)) has.1 in
      single w _ s.core.registers s.core.pc s.core.memory (beside s) 1 _ here'.0.words.0 (
        (λ t. absurd (differ _ _ t (omega arith))),
        (λ f. walk w (j copy_end ∷ []) 0 s.core.registers (s.core.pc + 4) s.core.memory (beside s) (s.core.pc + 4) 0 0 _ (has_front w (j copy_end ∷ []) copy_word_lines (s.core.pc + 4) here'.1) (omega arith)
            (here w _ _ (record {
              at = record { numbers = omega arith; memory_is = count.at.memory_is; input_is = count.at.input_is; ended_is = count.at.ended_is; output_is = count.at.output_is };
              t1_is = count.t1_is;
              t2_is = count.t2_is;
              t3_is = omega arith;
            }))),
      )
  copy_loop (suc n) p m c s end goal to last has count ends lasts may =
      let laid = w.laid in
      let at = count.at in
      let v : word s.core.memory (wrap (s.core.registers A0 + 0)) ≡ word m p.acc = load_eq _ _ _ _ at.memory_is (omega arith) in
      let q : Pointers = record p { acc = p.acc + 4 } in
      let begins : w.place copy_words ≡ p.pc = has.0.labels.0 in
      let here' = has_at w (bne 4 9 ∷ j copy_end ∷ copy_word_lines) (p.pc + 0) s.core.pc (omega arith) has.1 in
      let there = has_at w copy_word_lines (s.core.pc + 4 + 4) (s.core.pc + 8) (omega arith) here'.1.1 in
      wider w s 0 0 (suc (5 + (6 * n + 2))) (6 * suc n + 2) _ (omega arith) (omega arith)
      (single w _ s.core.registers s.core.pc s.core.memory (beside s) (5 + (6 * n + 2)) _ here'.0.words.0 (
        (λ t. walk w copy_word_lines 0 s.core.registers (s.core.pc + 8) s.core.memory (beside s) (s.core.pc + 8) 0 (6 * n + 2) _ there (omega arith) (
          omega arith,
          (
            omega arith,
            copy_loop n q (set_word m to (word m p.acc)) c _ end goal (to + 4) last has
                (record {
                  at = record { numbers = omega arith; memory_is = search (arith, store_eq, at.memory_is, v) depth 6; input_is = at.input_is; ended_is = at.ended_is; output_is = at.output_is };
                  t1_is = count.t1_is;
                  t2_is = count.t2_is;
                  t3_is = omega arith;
                })
                (omega arith) (omega arith) (omega arith),
          ),
        )),
        (λ f. let same = same_numbers _ _ f in absurd (omega arith)),
      ))

  -- the room for the copy is asked for, and its mark is stored
  copy_first : (p : Pointers) (m : Bytes) (c : Console) (s : State) (size : ℕ) → Limits w → HasLines w p.pc copy_first_lines → At w p m c s
      → Lies w p.gp p.acc (4 * size) → 3 ≤ size → word m (p.acc + 4) ≡ size → p.gp + 4 * size + 4 ≤ w.top → OnTheWay w c.output c.input
      → Reaches w s 0 14 (stands (λ t. (p.gp + 4 * size + 4 ≤ w.segments.heap_end)
      × Counting w (record p { pc = p.pc + 44 }) (set_word m p.gp 4294967295) c (p.acc + 4 * size) (p.gp + 4 * size + 4) (p.gp + 4) t))
  copy_first p m c s size limits has at lies some sized room way =
      let laid = w.laid in
      let v : word s.core.memory (wrap (s.core.registers A0 + 4)) ≡ size = load_eq _ _ _ _ at.memory_is (omega arith) ∙ sized in
      walk w copy_first_lines 0 s.core.registers s.core.pc s.core.memory (beside s) p.pc 0 3 _ has (omega arith) (
        omega arith,
        (
          (λ t. let le = not_less _ _ _ at.numbers.zero_is t in (
            omega arith,
            done w 3 _ _ (
              omega arith,
              record {
                at = record { numbers = omega arith; memory_is = search (arith, store_eq, at.memory_is) depth 6; input_is = at.input_is; ended_is = at.ended_is; output_is = at.output_is };
                t1_is = omega arith;
                t2_is = omega arith;
                t3_is = omega arith;
              },
            ),
          )),
          (λ f. let lt = less _ _ _ at.numbers.zero_is f in
              heap_exit w _ _ c limits refl at.numbers.zero_is (omega arith) at.input_is at.output_is way),
        ),
      )

  -- the copy is the result
  copy_last : (p : Pointers) (m : Bytes) (c : Console) (s : State) (end goal to : ℕ) → HasLines w p.pc copy_end_lines → Counting w p m c end goal to s
      → p.gp ≤ goal → goal ≤ w.segments.heap_end → goal % 4 ≡ 0
      → Reaches w s 0 3 (stands (At w (record p { pc = p.ra; gp = goal; acc = p.gp + 4 }) m c))
  copy_last p m c s end goal to has count up below even =
      let laid = w.laid in
      let at = count.at in
      walk w copy_end_lines 0 s.core.registers s.core.pc s.core.memory (beside s) p.pc 0 0 _ has (omega arith)
      (here w _ _ (record { numbers = omega arith; memory_is = at.memory_is; input_is = at.input_is; ended_is = at.ended_is; output_is = at.output_is }))

  -- the object in $a0 is copied
  pub copies : (p : Pointers) (m : Bytes) (c : Console) (s : State) (size : ℕ) → Limits w → HasLines w (w.place copy) copy_lines → At w p m c s → p.pc ≡ w.place copy
      → Lies w p.gp p.acc (4 * size) → 3 ≤ size → word m (p.acc + 4) ≡ size → p.gp + 4 * size + 4 ≤ w.top → OnTheWay w c.output c.input
      → Reaches w s 0 (7 * size + 16) (stands (At w (record p { pc = p.ra; gp = p.gp + 4 * size + 4; acc = p.gp + 4 }) (with_copy m p.gp p.acc size) c))
  copies p m c s size limits has at begins lies some sized room way =
      let behind : List Line = copy_words_lines ++ copy_end_lines in
      let here' : HasLines w p.pc (copy_first_lines ++ behind) = has_at w copy_lines (w.place copy) p.pc (omega arith) has in
      let there : HasLines w (p.pc + 44) behind = has_back w copy_first_lines behind p.pc (p.pc + 44) (omega arith) here' in
      let loop : HasLines w (p.pc + 44) copy_words_lines = has_front w copy_words_lines copy_end_lines (p.pc + 44) there in
      let end : HasLines w (p.pc + 72) copy_end_lines = has_back w copy_words_lines copy_end_lines (p.pc + 44) (p.pc + 72) (omega arith) there in
      let last : HasLines w (w.place copy_end) copy_end_lines = has_at w copy_end_lines (p.pc + 72) (w.place copy_end) (omega (arith, end.0.labels.0)) end in
      next w s 14 (6 * size + 5) (7 * size + 16) _ _ (copy_first p m c s size limits (has_front w copy_first_lines behind p.pc here') at lies some sized room way) (omega arith)
      (λ s1 h1. next w s1 (6 * size + 2) 3 (6 * size + 5) _ _
      (copy_loop size (record p { pc = p.pc + 44 }) (set_word m p.gp 4294967295) c s1 (p.acc + 4 * size) (p.gp + 4 * size + 4) (p.gp + 4) (p.gp + 4 + 4 * size) loop h1.1 refl refl
      (let laid = w.laid in let numbers = at.numbers in let room' = h1.0 in omega arith)) (omega arith)
      (λ s2 h2. copy_last (record p { pc = w.place copy_end; acc = p.acc + 4 * size }) _ c s2 _ (p.gp + 4 * size + 4) _ last h2 (omega arith) h1.0 (let numbers = at.numbers in omega arith)))
