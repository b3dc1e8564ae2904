-- The routine `in_string` reads a line and returns a String with its bytes, or the run exits by the limit of the heap.
use Rattle.std.proofs.Common.{◌≡◌, ◌≢◌, ℕ, zero, suc, ◌+◌, ◌-◌, ◌*◌, ◌/◌, ◌%◌, ◌<◌, ◌≤◌, ◌⊎◌, inl, inr, List, [], ◌∷◌, ◌++◌, length, refl, sym, ap, ◌∙◌, subst, arith, Bool, true, false}
use Rattle.std.specs.Prelude.{nat_le, not, ◌==◌}
use Rattle.mips_isa.specs.declared.register.TheConstants.{T1, T2, T3, T4, T5, T6, T7, S7}
use Rattle.mips_isa.specs.Bytes.{Bytes, set_byte, set_word}
use Rattle.mips_isa.specs.Calls.{State, Taken, asked, char_of}
use Rattle.cool_runtime.specs.Reaches.{World, Reaches, stands, OnTheWay}
use Rattle.cool_runtime.specs.Standing.{HasLines}
use Rattle.cool_runtime.specs.Walk.{beside, ReadChar}
use Rattle.cool_runtime.specs.Labels.{heap_limit, int_prototype, int_table, string_prototype, in_string, in_string_bytes, in_string_end}
use Rattle.cool_runtime.specs.Instructions.{j}
use Rattle.cool_runtime.specs.Contents.{IntAt, StringAt, IsText, Same}
use Rattle.cool_runtime.specs.Premises.{Limits}
use Rattle.cool_runtime.specs.Machines.{At, Numbers, Pointers, Console, Temporaries, Holding, got, with_int, with_string_head, line_of, line_asked, filled, with_text}
use Rattle.cool_runtime.specs.Routines.{int_head_lines, string_head_lines, in_string_begin_lines, in_string_byte_lines, in_string_zeros_lines, in_string_room_lines, in_string_word_lines, in_string_bytes_lines, in_string_end_lines, string_return_lines, in_string_lines}
use Rattle.cool_runtime.proofs.Runs.{here}
use Rattle.cool_runtime.proofs.Walking.{walk, single}
use Rattle.cool_runtime.proofs.Words.{byte_other, store_byte_eq, store_eq}
use Rattle.cool_runtime.proofs.Allocating.{heap_exit, not_less, less}
use Rattle.cool_runtime.proofs.Objects.{int_kept, string_kept, same_then, made_int_same, head_other}
use Rattle.cool_runtime.proofs.Building.{int_head, string_head}
use Rattle.cool_runtime.proofs.MadeStrings.{filled_other, filled_at, filled_zeros, zeros, made_string, string_words_same}
use Rattle.cool_runtime.proofs.Pieces.{done, next, has_front, has_back, has_at}
use Rattle.cool_runtime.proofs.Copying.{differ, same_numbers}
use Rattle.cool_runtime.proofs.LinesOfInput.{taking, Front, AtEnd, AtNewline, AtByte, front, suffix_asked, on_the_way}
use Rattle.lists.specs.Prefixes.{IsSuffix}
use Rattle.lists.specs.Bytes.{AreBytes}
use Rattle.std.proofs.lemmas.Bool.{eqb-true, eqb-false}

-- the result of `bgez`
not_negative : (v : ℕ) → not (nat_le 2147483648 v) ≡ true → v < 2147483648
not_negative v t = grind arith

negative : (v : ℕ) → not (nat_le 2147483648 v) ≡ false → 2147483648 ≤ v
negative v t = grind arith

-- The state of the room for a line: k bytes are there, and so many bytes of the last word are after the next one.
pub record Filling (w : World) (p : Pointers) (t : Temporaries) (k left : ℕ) : Type 0 where
  pub next_is : t.t4 ≡ p.gp + 40 + k
  pub end_is : t.t1 ≡ t.t4 + (left + 1)
  pub whole : (k + left + 1) % 4 ≡ 0
  pub some : left ≤ 3
  pub newline : t.t3 ≡ 10
  pub held : t.t1 ≤ w.segments.heap_end

module _ (w : World) where
  -- the console after a byte was taken
  taken_so : (c : Console) (t : Taken) (s : State) (p : Pointers) (m : Bytes) → At w p m c s → asked c.ended 1 c.input ≡ t → asked s.ended 1 s.input ≡ t
  taken_so c t s p m at is = ap (λ e. asked e 1 s.input) at.ended_is ∙ ap (asked c.ended 1) at.input_is ∙ is

  -- the input is at its end, or at a newline
  stops : (p : Pointers) (m : Bytes) (c : Console) (t : Temporaries) (s : State) (u : Taken) (v : ℕ) → HasLines w p.pc in_string_byte_lines → Holding w p m c t s → t.t3 ≡ 10
      → asked c.ended 1 c.input ≡ u → char_of u.got ≡ v → (v ≡ 4294967295) ⊎ (v ≡ 10)
      → Reaches w s 0 8 (stands (Holding w (record p { pc = w.place in_string_end }) m (got c u) t))
  stops p m c t s u v has hold ten asks is which =
      let laid = w.laid in
      let at = hold.at in
      let same : asked s.ended 1 s.input ≡ u = taken_so c u s p m at asks in
      let value : char_of (asked s.ended 1 s.input).got ≡ v = ap (λ (x : Taken). char_of x.got) same ∙ is in
      let newline : s.core.registers T3 ≡ 10 = hold.t3_is ∙ ten in
      let end : (n : ℕ) (r : State) → r.core.pc ≡ w.place in_string_end → r.core.memory ≡ m → r.input ≡ u.rest → r.ended ≡ u.ended → r.output ≡ c.output → Numbers w (record p { pc = w.place in_string_end }) r
      → r.core.registers T1 ≡ t.t1 → r.core.registers T2 ≡ t.t2 → r.core.registers T3 ≡ t.t3 → r.core.registers T4 ≡ t.t4 → r.core.registers T5 ≡ t.t5 → r.core.registers T6 ≡ t.t6 → r.core.registers T7 ≡ t.t7
      → Reaches w r 0 n (stands (Holding w (record p { pc = w.place in_string_end }) m (got c u) t)) =
      λ n r a b d e f g r1 r2 r3 r4 r5 r6 r7. done w n r _ (record { at = record { numbers = g; memory_is = b; input_is = d; ended_is = e; output_is = f }; t1_is = r1; t2_is = r2; t3_is = r3; t4_is = r4; t5_is = r5; t6_is = r6; t7_is = r7 }) in
      walk w in_string_byte_lines 0 s.core.registers s.core.pc s.core.memory (beside s) p.pc 0 0 _ has (omega arith) (
        ReadChar,
        (
          omega arith,
          (
            (λ z. let small = not_negative _ z in (
              (λ y. absurd (differ _ _ y (grind (arith, value, which, small, newline)))),
              (λ y. end 0 _ refl at.memory_is (ap (λ (x : Taken). x.rest) same) (ap (λ (x : Taken). x.ended) same) at.output_is (omega arith) hold.t1_is hold.t2_is hold.t3_is hold.t4_is hold.t5_is hold.t6_is hold.t7_is),
            )),
            (λ z. end 0 _ refl at.memory_is (ap (λ (x : Taken). x.rest) same) (ap (λ (x : Taken). x.ended) same) at.output_is (omega arith) hold.t1_is hold.t2_is hold.t3_is hold.t4_is hold.t5_is hold.t6_is hold.t7_is),
          ),
        ),
      )

  -- a byte is stored
  stores : (p : Pointers) (m : Bytes) (c : Console) (t : Temporaries) (s : State) (k left b : ℕ) (rest : List ℕ) → HasLines w p.pc in_string_byte_lines → Holding w p m c t s
      → asked c.ended 1 c.input ≡ taking (b ∷ []) rest false → b ≢ 10 → b < 256 → Filling w p t k left
      → Reaches w s 0 8 (stands (Holding w (record p { pc = p.pc + 32 }) (set_byte m t.t4 b) (got c (taking (b ∷ []) rest false)) (record t { t4 = t.t4 + 1 })))
  stores p m c t s k left b rest has hold asks other small room =
      let laid = w.laid in
      let at = hold.at in
      let u : Taken = taking (b ∷ []) rest false in
      let same : asked s.ended 1 s.input ≡ u = taken_so c u s p m at asks in
      let value : char_of (asked s.ended 1 s.input).got ≡ b = ap (λ (x : Taken). char_of x.got) same in
      walk w in_string_byte_lines 0 s.core.registers s.core.pc s.core.memory (beside s) p.pc 0 0 _ has (omega arith) (
        ReadChar,
        (
          omega arith,
          (
            (λ z. (
              (λ y. (
                omega arith,
                here w _ _ (record {
                  at = record {
                    numbers = omega arith;
                    memory_is = store_byte_eq _ _ _ _ _ _ (omega arith) (let fits : char_of (asked s.ended 1 s.input).got % 256 ≡ b = omega arith in fits) at.memory_is;
                    input_is = ap (λ (x : Taken). x.rest) same;
                    ended_is = ap (λ (x : Taken). x.ended) same;
                    output_is = at.output_is;
                  };
                  t1_is = hold.t1_is;
                  t2_is = hold.t2_is;
                  t3_is = hold.t3_is;
                  t4_is = omega arith;
                  t5_is = hold.t5_is;
                  t6_is = hold.t6_is;
                  t7_is = hold.t7_is;
                }),
              )),
              (λ y. let is = same_numbers _ _ y in absurd (other (omega arith))),
            )),
            (λ z. let big = negative _ z in absurd (let no : ⊥ = omega arith in no)),
          ),
        ),
      )

  -- the word is not full: the next byte is asked for
  stays : (p : Pointers) (m : Bytes) (c : Console) (t : Temporaries) (s : State) → HasLines w (p.pc + 32) in_string_word_lines → w.place in_string_bytes ≡ p.pc → Holding w (record p { pc = p.pc + 32 }) m c t s → t.t4 < t.t1
      → Reaches w s 0 2 (stands (Holding w p m c t))
  stays p m c t s has begins hold fewer =
      let at = hold.at in
      let here' = has_at w in_string_word_lines (p.pc + 32) s.core.pc (omega arith) has in
      single w _ s.core.registers s.core.pc s.core.memory (beside s) 1 _ here'.0.words.0 (
        (λ z. let same = eqb-true _ _ z in absurd (omega arith)),
        (λ z. walk w (j in_string_bytes ∷ []) 0 s.core.registers (s.core.pc + 4) s.core.memory (beside s) (s.core.pc + 4) 0 0 _ (has_front w (j in_string_bytes ∷ []) in_string_room_lines (s.core.pc + 4) here'.1) (omega arith)
            (here w _ _ (record {
              at = record { numbers = omega arith; memory_is = at.memory_is; input_is = at.input_is; ended_is = at.ended_is; output_is = at.output_is };
              t1_is = hold.t1_is;
              t2_is = hold.t2_is;
              t3_is = hold.t3_is;
              t4_is = hold.t4_is;
              t5_is = hold.t5_is;
              t6_is = hold.t6_is;
              t7_is = hold.t7_is;
            }))),
      )

  -- the word is full: another one is asked for
  grows : (p : Pointers) (m : Bytes) (c : Console) (t : Temporaries) (s : State) → Limits w → HasLines w (p.pc + 32) in_string_word_lines → w.place in_string_bytes ≡ p.pc → Holding w (record p { pc = p.pc + 32 }) m c t s
      → t.t4 ≡ t.t1 → t.t1 % 4 ≡ 0 → 536870912 ≤ t.t1 → t.t1 ≤ w.segments.heap_end → t.t1 + 4 ≤ w.top → OnTheWay w c.output c.input
      → Reaches w s 0 6 (stands (λ r. (t.t1 + 4 ≤ w.segments.heap_end) × Holding w p (set_word m t.t1 0) c (record t { t1 = t.t1 + 4 }) r))
  grows p m c t s limits has begins hold full even low held room way =
      let laid = w.laid in
      let at = hold.at in
      let here' = has_at w in_string_word_lines (p.pc + 32) s.core.pc (omega arith) has in
      let there = has_at w in_string_room_lines (s.core.pc + 4 + 4) (s.core.pc + 8) (omega arith) here'.1.1 in
      single w _ s.core.registers s.core.pc s.core.memory (beside s) 5 _ here'.0.words.0 (
        (λ z. single w _ s.core.registers (s.core.pc + 8) s.core.memory (beside s) 4 _ there.0.words.0 (
          (λ y. let other : s.core.registers T1 ≡ s.core.registers S7 → ⊥ = differ _ _ y in
              let more : t.t1 + 4 ≤ w.segments.heap_end = grind (arith, other, hold.t1_is, at.numbers.end_is, even, held, laid.heap_even) in
              walk w in_string_zeros_lines 0 s.core.registers (s.core.pc + 8 + 8) s.core.memory (beside s) (s.core.pc + 8 + 8) 0 1 _
              (has_at w in_string_zeros_lines (s.core.pc + 8 + 4 + 4) (s.core.pc + 8 + 8) (omega arith) there.1.1) (omega arith) (
                omega arith,
                done w 1 _ _ (
                  more,
                  record {
                    at = record { numbers = omega arith; memory_is = store_eq _ _ _ _ _ _ (omega arith) (omega arith) at.memory_is; input_is = at.input_is; ended_is = at.ended_is; output_is = at.output_is };
                    t1_is = omega arith;
                    t2_is = hold.t2_is;
                    t3_is = hold.t3_is;
                    t4_is = hold.t4_is;
                    t5_is = hold.t5_is;
                    t6_is = hold.t6_is;
                    t7_is = hold.t7_is;
                  },
                ),
              )),
          (λ y. let same = same_numbers _ _ y in
              walk w (j heap_limit ∷ []) 0 s.core.registers (s.core.pc + 8 + 4) s.core.memory (beside s) (s.core.pc + 8 + 4) 0 3 _ (has_front w (j heap_limit ∷ []) in_string_zeros_lines (s.core.pc + 8 + 4) there.1) (omega arith)
              (heap_exit w _ _ c limits refl at.numbers.zero_is (omega arith) at.input_is at.output_is way)),
        )),
        (λ z. absurd (eqb-false _ _ z (omega arith))),
      )

  -- the state at the end of the loop, with the bytes of a line
  abbrev Ended : Pointers → Bytes → Console → Temporaries → ℕ → ℕ → ℕ → Taken → State → Type 0
  Ended p m c t left last end line = λ r. (end ≤ w.segments.heap_end)
      × Holding w (record p { pc = w.place in_string_end }) (filled m t.t4 left line.got) (got c line) (record t { t1 = end; t4 = last }) r

  -- the loop, for an input of fewer bytes than n
  abbrev Reads : ℕ → Type 0
  Reads n = (p : Pointers) (m : Bytes) (c : Console) (t : Temporaries) (s : State) (k left last end : ℕ) → length c.input < n → Limits w → HasLines w p.pc in_string_bytes_lines → Holding w p m c t s
      → AreBytes c.input → Filling w p t k left
      → (line : Taken) → line_asked c.ended c.input ≡ line → last ≡ t.t4 + length line.got → end ≡ p.gp + 44 + 4 * ((k + length line.got) / 4) → end ≤ w.top → OnTheWay w c.output line.rest
      → Reaches w s 0 (11 * length line.got + (11 - left)) (stands (Ended p m c t left last end line))

  -- no byte more
  none_more : (p : Pointers) (m : Bytes) (c : Console) (t : Temporaries) (s : State) (k left last end : ℕ) (rest taken : List ℕ) (ended : Bool) (v : ℕ) → HasLines w p.pc in_string_bytes_lines → Holding w p m c t s
      → Filling w p t k left → last ≡ t.t4 + 0 → end ≡ p.gp + 44 + 4 * ((k + 0) / 4) → asked c.ended 1 c.input ≡ taking taken rest ended → char_of taken ≡ v → (v ≡ 4294967295) ⊎ (v ≡ 10)
      → Reaches w s 0 (11 * 0 + (11 - left)) (stands (Ended p m c t left last end (taking [] rest ended)))
  none_more p m c t s k left last end rest taken ended v has hold room lasts ends asks is which =
      next w s 8 0 (11 * 0 + (11 - left)) _ _ (stops p m c t s (taking taken rest ended) v (has_front w in_string_byte_lines in_string_word_lines p.pc has) hold room.newline asks is which) (omega arith)
      (λ r h. done w 0 r _ (omega arith, record { at = h.at; t1_is = omega arith; t2_is = h.t2_is; t3_is = h.t3_is; t4_is = omega arith; t5_is = h.t5_is; t6_is = h.t6_is; t7_is = h.t7_is }))

  -- a byte, and then the rest of the line
  one_more : (n : ℕ) → Reads n → (p : Pointers) (m : Bytes) (c : Console) (t : Temporaries) (s : State) (k left last end b : ℕ) (rest : List ℕ) → length rest < n → Limits w → HasLines w p.pc in_string_bytes_lines → Holding w p m c t s
      → asked c.ended 1 c.input ≡ taking (b ∷ []) rest false → b ≢ 10 → b < 256 → AreBytes rest → Filling w p t k left
      → (l : Taken) → line_of rest ≡ l → last ≡ t.t4 + suc (length l.got) → end ≡ p.gp + 44 + 4 * ((k + suc (length l.got)) / 4) → end ≤ w.top → OnTheWay w c.output rest → OnTheWay w c.output l.rest
      → Reaches w s 0 (11 * suc (length l.got) + (11 - left)) (stands (Ended p m c t left last end (taking (b ∷ l.got) l.rest l.ended)))
  one_more n rec p m c t s k zero last end b rest less limits has hold asks other small bytes room l is lasts ends enough way way' =
      let laid = w.laid in
      let numbers = hold.at.numbers in
      let begins : w.place in_string_bytes ≡ p.pc = has.0.labels.0 in
      let t1 : Temporaries = record t { t4 = t.t4 + 1 } in
      let u : Taken = taking (b ∷ []) rest false in
      next w s 8 (11 * length l.got + 14) (11 * suc (length l.got) + (11 - zero)) _ _ (stores p m c t s k zero b rest (has_front w in_string_byte_lines in_string_word_lines p.pc has) hold asks other small room) (omega arith)
      (λ r h. next w r 6 (11 * length l.got + 8) (11 * length l.got + 14) _ _
      (grows p (set_byte m t.t4 b) (got c u) t1 r limits (has_back w in_string_byte_lines in_string_word_lines p.pc (p.pc + 32) (omega arith) has) begins h
      (omega arith) (omega arith) (omega arith) (omega arith) (omega arith) way) (omega arith)
      (λ q g. let held = g.0 in
      subst (λ a. Reaches w q 0 (11 * length l.got + 8) (stands (λ z. (end ≤ w.segments.heap_end)
      × Holding w (record p { pc = w.place in_string_end }) (filled (set_word (set_byte m t.t4 b) a 0) (t.t4 + 1) 3 l.got) (got c (taking (b ∷ l.got) l.rest l.ended)) (record t { t1 = end; t4 = last }) z)))
      (let same : t.t1 ≡ t.t4 + 1 = omega arith in same)
      (rec p (set_word (set_byte m t.t4 b) t.t1 0) (got c u) (record t { t1 = t.t1 + 4; t4 = t.t4 + 1 }) q (k + 1) 3 last end less limits has g.1 bytes (omega arith) l is (omega arith) (omega arith) enough way')))
  one_more n rec p m c t s k (suc left) last end b rest less limits has hold asks other small bytes room l is lasts ends enough way way' =
      let begins : w.place in_string_bytes ≡ p.pc = has.0.labels.0 in
      let t1 : Temporaries = record t { t4 = t.t4 + 1 } in
      let u : Taken = taking (b ∷ []) rest false in
      next w s 8 (11 * length l.got + (13 - left)) (11 * suc (length l.got) + (11 - suc left)) _ _ (stores p m c t s k (suc left) b rest (has_front w in_string_byte_lines in_string_word_lines p.pc has) hold asks other small room) (omega arith)
      (λ r h. next w r 2 (11 * length l.got + (11 - left)) (11 * length l.got + (13 - left)) _ _
      (stays p (set_byte m t.t4 b) (got c u) t1 r (has_back w in_string_byte_lines in_string_word_lines p.pc (p.pc + 32) (omega arith) has) begins h (omega arith)) (omega arith)
      (λ q g. rec p (set_byte m t.t4 b) (got c u) t1 q (k + 1) left last end less limits has g bytes (omega arith) l is (omega arith) (omega arith) enough way'))

  -- one turn, where the end of the input was not answered: by what comes next
  turn_at : (n : ℕ) → Reads n → (p : Pointers) (m : Bytes) (c : Console) (t : Temporaries) (s : State) (k left last end : ℕ) → length c.input < suc n → Limits w → HasLines w p.pc in_string_bytes_lines → Holding w p m c t s
      → c.ended ≡ false → Front c.input → Filling w p t k left
      → (line : Taken) → line_of c.input ≡ line → last ≡ t.t4 + length line.got → end ≡ p.gp + 44 + 4 * ((k + length line.got) / 4) → end ≤ w.top → OnTheWay w c.output line.rest
      → Reaches w s 0 (11 * length line.got + (11 - left)) (stands (Ended p m c t left last end line))
  turn_at n rec p m c t s k left last end less limits has hold more (AtEnd first whole) room line is lasts ends enough way =
      let same : taking [] [] true ≡ line = sym whole ∙ is in
      let none : length line.got ≡ 0 = ap (λ (x : Taken). length x.got) (sym same) in
      subst (λ x. Reaches w s 0 (11 * length x.got + (11 - left)) (stands (Ended p m c t left last end x))) same
      (none_more p m c t s k left last end [] [] true 4294967295 has hold room (omega arith) (omega arith) (ap (λ e. asked e 1 c.input) more ∙ first) refl (inl refl))
  turn_at n rec p m c t s k left last end less limits has hold more (AtNewline rest first whole) room line is lasts ends enough way =
      let same : taking [] rest false ≡ line = sym whole ∙ is in
      let none : length line.got ≡ 0 = ap (λ (x : Taken). length x.got) (sym same) in
      subst (λ x. Reaches w s 0 (11 * length x.got + (11 - left)) (stands (Ended p m c t left last end x))) same
      (none_more p m c t s k left last end rest (10 ∷ []) false 10 has hold room (omega arith) (omega arith) (ap (λ e. asked e 1 c.input) more ∙ first) refl (inr refl))
  turn_at n rec p m c t s k left last end less limits has hold more (AtByte b rest some other small bytes shorter first whole) room line is lasts ends enough way =
      let l : Taken = line_of rest in
      let same : taking (b ∷ l.got) l.rest l.ended ≡ line = sym whole ∙ is in
      let long : length line.got ≡ suc (length l.got) = ap (λ (x : Taken). length x.got) (sym same) in
      let left_is : l.rest ≡ line.rest = ap (λ (x : Taken). x.rest) same in
      let way' : OnTheWay w c.output l.rest = subst (λ i. OnTheWay w c.output i) (sym left_is) way in
      subst (λ x. Reaches w s 0 (11 * length x.got + (11 - left)) (stands (Ended p m c t left last end x))) same
      (one_more n rec p m c t s k left last end b rest (omega arith) limits has hold (ap (λ e. asked e 1 c.input) more ∙ first) other small bytes room l refl (omega arith) (omega arith) enough
      (on_the_way w c.output l.rest rest (suffix_asked false rest) way') way')

  -- one turn, by whether the end of the input was answered
  turn : (n : ℕ) → Reads n → (e : Bool) → (p : Pointers) (m : Bytes) (c : Console) (t : Temporaries) (s : State) (k left last end : ℕ) → length c.input < suc n → Limits w → HasLines w p.pc in_string_bytes_lines → Holding w p m c t s
      → AreBytes c.input → c.ended ≡ e → Filling w p t k left
      → (line : Taken) → line_asked e c.input ≡ line → last ≡ t.t4 + length line.got → end ≡ p.gp + 44 + 4 * ((k + length line.got) / 4) → end ≤ w.top → OnTheWay w c.output line.rest
      → Reaches w s 0 (11 * length line.got + (11 - left)) (stands (Ended p m c t left last end line))
  turn n rec true p m c t s k left last end short limits has hold bytes e room line is lasts ends enough way =
      let none : length line.got ≡ 0 = ap (λ (x : Taken). length x.got) (sym is) in
      subst (λ x. Reaches w s 0 (11 * length x.got + (11 - left)) (stands (Ended p m c t left last end x))) is
      (none_more p m c t s k left last end c.input [] true 4294967295 has hold room (omega arith) (omega arith) (ap (λ e. asked e 1 c.input) e) refl (inl refl))
  turn n rec false p m c t s k left last end short limits has hold bytes e room line is lasts ends enough way =
      turn_at n rec p m c t s k left last end short limits has hold e (front c.input bytes) room line is lasts ends enough way

  -- the loop, for every input
  in_bytes : (n : ℕ) → Reads n
  in_bytes zero p m c t s k left last end short limits has hold bytes room line is lasts ends enough way = absurd (omega arith)
  in_bytes (suc n) p m c t s k left last end short limits has hold bytes room line is lasts ends enough way =
      turn n (in_bytes n) c.ended p m c t s k left last end short limits has hold bytes refl room line is lasts ends enough way

  -- the room for no bytes is asked for, and holds zeros
  in_begin : (p : Pointers) (m : Bytes) (c : Console) (s : State) → Limits w → HasLines w p.pc in_string_begin_lines → At w p m c s → p.gp + 44 ≤ w.top → OnTheWay w c.output c.input
      → Reaches w s 0 10 (stands (λ r. (p.gp + 44 ≤ w.segments.heap_end) × Holding w (record p { pc = p.pc + 28 }) (set_word m (p.gp + 40) 0) c
      (record { t1 = p.gp + 44; t2 = s.core.registers T2; t3 = 10; t4 = p.gp + 40; t5 = s.core.registers T5; t6 = s.core.registers T6; t7 = s.core.registers T7 }) r))
  in_begin p m c s limits has at room way =
      let laid = w.laid in
      walk w in_string_begin_lines 0 s.core.registers s.core.pc s.core.memory (beside s) p.pc 0 3 _ has (omega arith) (
        (λ x. let le = not_less _ _ _ at.numbers.zero_is x in (
          omega arith,
          done w 3 _ _ (
            omega arith,
            record {
              at = record { numbers = omega arith; memory_is = store_eq _ _ _ _ _ _ (omega arith) (omega arith) at.memory_is; input_is = at.input_is; ended_is = at.ended_is; output_is = at.output_is };
              t1_is = omega arith;
              t2_is = refl;
              t3_is = omega arith;
              t4_is = omega arith;
              t5_is = refl;
              t6_is = refl;
              t7_is = refl;
            },
          ),
        )),
        (λ x. let lt = less _ _ _ at.numbers.zero_is x in
            heap_exit w _ _ c limits refl at.numbers.zero_is (omega arith) at.input_is at.output_is way),
      )

  -- the length of the line
  in_end : (p : Pointers) (m : Bytes) (c : Console) (t : Temporaries) (s : State) (n : ℕ) → HasLines w p.pc in_string_end_lines → Holding w p m c t s → t.t4 ≡ p.gp + 40 + n → t.t4 ≤ w.segments.heap_end
      → Reaches w s 0 2 (stands (Holding w (record p { pc = p.pc + 8 }) m c (record t { t5 = n })))
  in_end p m c t s n has hold there held =
      let laid = w.laid in
      let at = hold.at in
      walk w in_string_end_lines 0 s.core.registers s.core.pc s.core.memory (beside s) p.pc 0 0 _ has (omega arith)
      (here w _ _ (record {
        at = record { numbers = omega arith; memory_is = at.memory_is; input_is = at.input_is; ended_is = at.ended_is; output_is = at.output_is };
        t1_is = hold.t1_is;
        t2_is = hold.t2_is;
        t3_is = hold.t3_is;
        t4_is = hold.t4_is;
        t5_is = omega arith;
        t6_is = hold.t6_is;
        t7_is = hold.t7_is;
      }))

  -- the new String is the result
  in_return : (p : Pointers) (m : Bytes) (c : Console) (t : Temporaries) (s : State) → HasLines w p.pc string_return_lines → Holding w p m c t s → p.gp + 24 ≤ t.t1 → t.t1 ≤ w.segments.heap_end → t.t1 % 4 ≡ 0
      → Reaches w s 0 3 (stands (At w (record p { pc = p.ra; gp = t.t1; acc = p.gp + 24 }) m c))
  in_return p m c t s has hold up below even =
      let laid = w.laid in
      let at = hold.at in
      walk w string_return_lines 0 s.core.registers s.core.pc s.core.memory (beside s) p.pc 0 0 _ has (omega arith)
      (here w _ _ (record { numbers = omega arith; memory_is = at.memory_is; input_is = at.input_is; ended_is = at.ended_is; output_is = at.output_is }))

  -- memory below gp and on the stack is the same after a text and its zeros are stored
  text_same : (m : Bytes) (gp sp : ℕ) (bytes : List ℕ) → gp + 44 + 4 * (length bytes / 4) ≤ sp → Same m (with_text m gp bytes) gp sp
  text_same m gp sp bytes room = record {
    below = λ q h. filled_other (set_word m (gp + 40) 0) (gp + 40) 3 bytes q (omega arith) (inl (omega arith)) ∙ byte_other m (gp + 40) 0 q (inl (omega arith));
    over = λ q h. filled_other (set_word m (gp + 40) 0) (gp + 40) 3 bytes q (omega arith) (inr (omega arith)) ∙ byte_other m (gp + 40) 0 q (inr (omega arith));
  }

  -- the line that is next is read
  pub in_string_reads : (p : Pointers) (m : Bytes) (c : Console) (s : State) (other : List ℕ) (line : Taken) → Limits w → HasLines w (w.place in_string) in_string_lines → At w p m c s
      → p.pc ≡ w.place in_string → AreBytes c.input → line_asked c.ended c.input ≡ line → IntAt w m p.gp (w.place int_prototype) 0 → StringAt w m p.gp (w.place string_prototype) other
      → let n = length line.got in p.gp + 44 + 4 * (n / 4) ≤ w.top → OnTheWay w c.output line.rest
      → Reaches w s 0 (11 * n + 48) (stands (At w (record p { pc = p.ra; gp = p.gp + 44 + 4 * (n / 4); acc = p.gp + 24 }) (with_string_head w (with_text m p.gp line.got) p.gp n) (got c line)))
  in_string_reads p m c s other line limits has at begins bytes is int string room way =
      let laid = w.laid in
      let numbers = at.numbers in
      let n = length line.got in
      let l4 = string_head_lines ++ string_return_lines in
      let l3 = int_head_lines ++ l4 in
      let l2 = in_string_end_lines ++ l3 in
      let l1 = in_string_bytes_lines ++ l2 in
      let pc1 = p.pc + 28 in
      let pc2 = pc1 + 60 in
      let pc3 = pc2 + 8 in
      let pc4 = pc3 + 44 in
      let pc5 = pc4 + 52 in
      let h0 : HasLines w p.pc (in_string_begin_lines ++ l1) = has_at w in_string_lines (w.place in_string) p.pc (omega arith) has in
      let h1 : HasLines w pc1 l1 = has_back w in_string_begin_lines l1 p.pc pc1 (omega arith) h0 in
      let h2 : HasLines w pc2 l2 = has_back w in_string_bytes_lines l2 pc1 pc2 (omega arith) h1 in
      let h3 : HasLines w pc3 l3 = has_back w in_string_end_lines l3 pc2 pc3 (omega arith) h2 in
      let h4 : HasLines w pc4 l4 = has_back w int_head_lines l4 pc3 pc4 (omega arith) h3 in
      let h5 : HasLines w pc5 string_return_lines = has_back w string_head_lines string_return_lines pc4 pc5 (omega arith) h4 in
      let end : w.place in_string_end ≡ pc2 = h2.0.labels.0 in
      let way0 : OnTheWay w c.output c.input = on_the_way w c.output line.rest c.input (subst (λ (x : Taken). IsSuffix x.rest c.input) is (suffix_asked c.ended c.input)) way in
      let mt = with_text m p.gp line.got in
      next w s 10 (11 * n + 37) (11 * n + 48) _ _ (in_begin p m c s limits (has_front w in_string_begin_lines l1 p.pc h0) at (omega arith) way0) (omega arith)
      (λ s1 g1. let first = g1.0 in
      next w s1 (11 * n + 8) 29 (11 * n + 37) _ _
      (in_bytes (suc (length c.input)) (record p { pc = pc1 }) (set_word m (p.gp + 40) 0) c _ s1 0 3 (p.gp + 40 + n) (p.gp + 44 + 4 * (n / 4)) (omega arith) limits (has_front w in_string_bytes_lines l2 pc1 h1) g1.1 bytes (omega arith) line is refl (omega arith) room way) (omega arith)
      (λ s2 g2. let enough = g2.0 in
      let same = text_same m p.gp p.sp line.got (omega arith) in
      let kept_int = int_kept w m mt p.gp p.gp p.sp (w.place int_prototype) 0 (omega arith) same int in
      let kept_string = string_kept w m (with_int mt p.gp w.tags.int (w.place int_table) n) p.gp p.gp p.sp (w.place string_prototype) other (omega arith)
      (same_then w m mt _ p.gp p.gp p.sp p.sp (omega arith) (omega arith) same (made_int_same w mt p.gp p.sp _ _ _ (omega arith))) string in
      next w s2 2 27 29 _ _ (in_end (record p { pc = w.place in_string_end }) mt (got c line) _ s2 n (has_at w in_string_end_lines pc2 (w.place in_string_end) (omega arith) (has_front w in_string_end_lines l3 pc2 h2)) g2.1 refl (omega arith)) (omega arith)
      (λ s3 g3. next w s3 11 16 27 _ _
      (int_head w (record p { pc = w.place in_string_end + 8 }) mt (got c line) _ s3 (has_at w int_head_lines pc3 (w.place in_string_end + 8) (omega arith) (has_front w int_head_lines l4 pc3 h3)) g3 kept_int (omega arith)) (omega arith)
      (λ s4 g4. next w s4 13 3 16 _ _
      (string_head w (record p { pc = w.place in_string_end + 8 + 44 }) _ (got c line) _ s4 other (has_at w string_head_lines pc4 (w.place in_string_end + 8 + 44) (omega arith) (has_front w string_head_lines string_return_lines pc4 h4)) g4 kept_string (omega arith) (omega arith)) (omega arith)
      (λ s5 g5. in_return (record p { pc = w.place in_string_end + 8 + 44 + 52 }) _ (got c line) _ s5 (has_at w string_return_lines pc5 (w.place in_string_end + 8 + 44 + 52) (omega arith) h5) g5 (omega arith) enough (omega arith))))))

  -- the String that was read stands there, and all else is the same
  pub read_string : (m : Bytes) (gp sp : ℕ) (bytes other : List ℕ) → 536870912 ≤ gp → gp < 2147483648 → gp % 4 ≡ 0 → IntAt w m gp (w.place int_prototype) 0 → StringAt w m gp (w.place string_prototype) other
      → IsText bytes → let n = length bytes in gp + 44 + 4 * (n / 4) ≤ sp → n < 1073741824
      → StringAt w (with_string_head w (with_text m gp bytes) gp n) (gp + 44 + 4 * (n / 4)) (gp + 24) bytes × Same m (with_string_head w (with_text m gp bytes) gp n) gp sp
  read_string m gp sp bytes other from under even int string text room small =
      let n = length bytes in
      let m0 = set_word m (gp + 40) 0 in
      let mt = with_text m gp bytes in
      let m' = with_string_head w mt gp n in
      let same : Same m mt gp sp = text_same m gp sp bytes room in
      let far : (q : ℕ) → gp + 40 ≤ q → m' q ≡ mt q = λ q h. head_other _ (gp + 20) _ _ _ _ q (inr (omega arith)) ∙ head_other mt gp _ _ _ _ q (inr (omega arith)) in
      let clear : (q : ℕ) → gp + 40 ≤ q → q < gp + 40 + (3 + 1) → m0 q ≡ 0 =
      λ q h k. let j = q - (gp + 40) in let at : q ≡ gp + 40 + j = omega arith in ap m0 at ∙ zeros m (gp + 40) j (omega arith) in
      let int' = int_kept w m mt gp gp sp (w.place int_prototype) 0 (omega arith) same int in
      let string' = string_kept w m mt gp gp sp (w.place string_prototype) other (omega arith) same string in (
        made_string w mt m' gp (w.place int_prototype) (w.place string_prototype) bytes other from under even small int' string' text (λ q h. refl)
            (λ i h. far (gp + 40 + i) (omega arith) ∙ filled_at m0 (gp + 40) 3 bytes i (omega arith) h)
            (λ i more h. far (gp + 40 + i) (omega arith) ∙ filled_zeros m0 (gp + 40) 3 bytes (omega arith) clear (gp + 40 + i) (omega arith) (omega arith)),
        same_then w m mt m' gp gp sp sp (omega arith) (omega arith) same (string_words_same w mt gp sp n (omega arith)),
      )
