-- The routine for `String.substr` returns a new String with the given part of a String. If the part does not lie within the String, the run ends by an error.
use Rattle.std.proofs.Common.{◌≡◌, ℕ, zero, suc, ◌+◌, ◌-◌, ◌*◌, ◌/◌, ◌%◌, ◌<◌, ◌≤◌, inl, inr, List, [], ◌∷◌, ◌++◌, length, drop, refl, sym, ap, ◌∙◌, subst, arith}
use Rattle.std.specs.Prelude.{take}
use Rattle.std.proofs.lemmas.List.{get_or-take, get_or-drop, length-take-le, length-drop}
use Rattle.mips_isa.specs.declared.register.TheConstants.{T1, T4, T6, T7, T8, T9}
use Rattle.mips_isa.specs.Bytes.{Bytes, word}
use Rattle.mips_isa.specs.Machine.{wrap}
use Rattle.mips_isa.specs.Calls.{State}
use Rattle.mips_isa.specs.Lines.{Line}
use Rattle.cool_runtime.specs.Reaches.{World, Reaches, stands, OnTheWay}
use Rattle.cool_runtime.specs.Standing.{HasLines}
use Rattle.cool_runtime.specs.Walk.{beside}
use Rattle.cool_runtime.specs.Labels.{int_prototype, int_table, string_prototype, string_substr, substr_bytes, substr_end, substr_abort}
use Rattle.cool_runtime.specs.Contents.{IntAt, StringAt, IsText, words_of_bytes, Same}
use Rattle.cool_runtime.specs.Premises.{Limits}
use Rattle.cool_runtime.specs.Machines.{At, Pointers, Console, Temporaries, Holding, with_int, with_string_head, with_string, with_cut}
use Rattle.cool_runtime.specs.Routines.{int_head_lines, string_head_lines, string_zeros_lines, bytes_lines, string_end_lines, substr_begin_lines, substr_size_lines, substr_lines}
use Rattle.cool_runtime.proofs.Runs.{here}
use Rattle.cool_runtime.proofs.Walking.{walk}
use Rattle.cool_runtime.proofs.Words.{load_eq, byte_other}
use Rattle.cool_runtime.proofs.Allocating.{heap_exit, not_less, less}
use Rattle.cool_runtime.proofs.Pieces.{done, next, has_front, has_back, has_at}
use Rattle.cool_runtime.proofs.Objects.{made_int_same, string_kept}
use Rattle.cool_runtime.proofs.Building.{int_head, string_head, string_zeros, bytes_loop, string_end, MayCopyBytes}
use Rattle.cool_runtime.proofs.MadeStrings.{bytes_other, bytes_are, made_string, string_head_same, rest_of_word}
use Rattle.cool_runtime.proofs.JoinedStrings.{string_byte}

module _ (w : World) where
  substr_begin : (p : Pointers) (m : Bytes) (c : Console) (s : State) (xs : List ℕ) (i l : ℕ) → HasLines w p.pc substr_begin_lines → At w p m c s → p.sp + 8 ≤ 2147483648
      → StringAt w m p.gp p.acc xs → IntAt w m p.gp (word m (p.sp + 4)) i → IntAt w m p.gp (word m p.sp) l → i + l ≤ length xs
      → Reaches w s 0 13 (stands (Holding w (record p { pc = p.pc + 52 }) m c
      (record { t1 = s.core.registers T1; t2 = i; t3 = length xs - i; t4 = s.core.registers T4; t5 = l; t6 = s.core.registers T6; t7 = s.core.registers T7 })))
  substr_begin p m c s xs i l has at arguments a first second within =
      let laid = w.laid in
      let m0 = s.core.memory in
      let r = s.core.registers in
      let pl : word m0 (wrap (r 29 + 0)) ≡ word m p.sp = load_eq _ _ _ _ at.memory_is (omega arith) in
      let l_is : word m0 (wrap (word m0 (wrap (r 29 + 0)) + 12)) ≡ l = load_eq _ _ _ _ at.memory_is (omega arith) ∙ second.value in
      let pi : word m0 (wrap (r 29 + 4)) ≡ word m (p.sp + 4) = load_eq _ _ _ _ at.memory_is (omega arith) in
      let i_is : word m0 (wrap (word m0 (wrap (r 29 + 4)) + 12)) ≡ i = load_eq _ _ _ _ at.memory_is (omega arith) ∙ first.value in
      let pa : word m0 (wrap (r 4 + 12)) ≡ word m (p.acc + 12) = load_eq _ _ _ _ at.memory_is (omega arith) in
      let n_is : word m0 (wrap (word m0 (wrap (r 4 + 12)) + 12)) ≡ length xs = load_eq _ _ _ _ at.memory_is (omega arith) ∙ a.length_is.value in
      walk w substr_begin_lines 0 r s.core.pc m0 (beside s) p.pc 0 0 _ has (omega arith) (
        omega arith,
        (
          omega arith,
          (
            omega arith,
            (
              omega arith,
              (
                omega arith,
                (
                  omega arith,
                  (
                    (λ z. (
                      (λ y. here w _ _
                          (record {
                            at = record { numbers = omega arith; memory_is = at.memory_is; input_is = at.input_is; ended_is = at.ended_is; output_is = at.output_is };
                            t1_is = refl;
                            t2_is = i_is;
                            t3_is = omega arith;
                            t4_is = refl;
                            t5_is = l_is;
                            t6_is = refl;
                            t7_is = refl;
                          })),
                      (λ y. let lt = less _ _ _ at.numbers.zero_is y in absurd (omega arith)),
                    )),
                    (λ z. let lt = less _ _ _ at.numbers.zero_is z in absurd (omega arith)),
                  ),
                ),
              ),
            ),
          ),
        ),
      )

  substr_size : (p : Pointers) (m : Bytes) (c : Console) (t : Temporaries) (s : State) (i l : ℕ) → Limits w → HasLines w p.pc substr_size_lines → Holding w p m c t s
      → t.t2 ≡ i → t.t5 ≡ l → l < 1073741824 → p.acc + i < 1073741824 → p.gp + 44 + 4 * (l / 4) ≤ w.top → OnTheWay w c.output c.input
      → Reaches w s 0 13 (stands (λ r. (p.gp + 44 + 4 * (l / 4) ≤ w.segments.heap_end) × Holding w (record p { pc = p.pc + 40 }) m c
      (record t { t1 = p.gp + 44 + 4 * (l / 4); t2 = p.acc + 16 + i; t3 = l; t5 = l }) r))
  substr_size p m c t s i l limits has hold i_is l_is small low room way =
      let laid = w.laid in
      let at = hold.at in
      walk w substr_size_lines 0 s.core.registers s.core.pc s.core.memory (beside s) p.pc 0 3 _ has (omega arith) (
        (λ x. let le = not_less _ _ _ at.numbers.zero_is x in
            done w 3 _ _ (
              omega arith,
              record {
                at = record { numbers = omega arith; memory_is = at.memory_is; input_is = at.input_is; ended_is = at.ended_is; output_is = at.output_is };
                t1_is = omega arith;
                t2_is = omega arith;
                t3_is = omega arith;
                t4_is = hold.t4_is;
                t5_is = omega arith;
                t6_is = hold.t6_is;
                t7_is = hold.t7_is;
              },
            )),
        (λ x. let lt = less _ _ _ at.numbers.zero_is x in
            heap_exit w _ _ c limits refl at.numbers.zero_is (omega arith) at.input_is at.output_is way),
      )

  may_cut : (m : Bytes) (gp a : ℕ) (xs : List ℕ) (i l : ℕ) → StringAt w m gp a xs → i + l ≤ length xs → 536870912 ≤ gp → gp + 40 + l ≤ w.segments.heap_end → MayCopyBytes w (a + 16 + i) (gp + 40) l
  may_cut m gp a xs i l at within from room = let lies = at.lies in omega (arith, lies)

  -- a range that does not lie within the String is refused
  refuses : (p : Pointers) (m : Bytes) (c : Console) (s : State) (xs : List ℕ) (i l : ℕ) → HasLines w p.pc substr_begin_lines → At w p m c s → p.sp + 8 ≤ 2147483648
      → StringAt w m p.gp p.acc xs → IntAt w m p.gp (word m (p.sp + 4)) i → IntAt w m p.gp (word m p.sp) l → length xs < i + l
      → Reaches w s 0 13 (stands (λ t. At w (record p { pc = w.place substr_abort }) m c t × (t.core.registers T8 ≡ s.core.registers T8) × (t.core.registers T9 ≡ s.core.registers T9)))
  refuses p m c s xs i l has at arguments a first second beyond =
      let laid = w.laid in
      let m0 = s.core.memory in
      let r = s.core.registers in
      let pl : word m0 (wrap (r 29 + 0)) ≡ word m p.sp = load_eq _ _ _ _ at.memory_is (omega arith) in
      let l_is : word m0 (wrap (word m0 (wrap (r 29 + 0)) + 12)) ≡ l = load_eq _ _ _ _ at.memory_is (omega arith) ∙ second.value in
      let pi : word m0 (wrap (r 29 + 4)) ≡ word m (p.sp + 4) = load_eq _ _ _ _ at.memory_is (omega arith) in
      let i_is : word m0 (wrap (word m0 (wrap (r 29 + 4)) + 12)) ≡ i = load_eq _ _ _ _ at.memory_is (omega arith) ∙ first.value in
      let pa : word m0 (wrap (r 4 + 12)) ≡ word m (p.acc + 12) = load_eq _ _ _ _ at.memory_is (omega arith) in
      let n_is : word m0 (wrap (word m0 (wrap (r 4 + 12)) + 12)) ≡ length xs = load_eq _ _ _ _ at.memory_is (omega arith) ∙ a.length_is.value in
      walk w substr_begin_lines 0 r s.core.pc m0 (beside s) p.pc 0 0 _ has (omega arith) (
        omega arith,
        (
          omega arith,
          (
            omega arith,
            (
              omega arith,
              (
                omega arith,
                (
                  omega arith,
                  (
                    (λ z. let le = not_less _ _ _ at.numbers.zero_is z in (
                      (λ y. let le' = not_less _ _ _ at.numbers.zero_is y in absurd (omega arith)),
                      (λ y. here w _ _ (record { numbers = omega arith; memory_is = at.memory_is; input_is = at.input_is; ended_is = at.ended_is; output_is = at.output_is }, refl, refl)),
                    )),
                    (λ z. here w _ _ (record { numbers = omega arith; memory_is = at.memory_is; input_is = at.input_is; ended_is = at.ended_is; output_is = at.output_is }, refl, refl)),
                  ),
                ),
              ),
            ),
          ),
        ),
      )

  pub substr_refuses : (p : Pointers) (m : Bytes) (c : Console) (s : State) (xs : List ℕ) (i l : ℕ) → HasLines w (w.place string_substr) substr_lines → At w p m c s → p.pc ≡ w.place string_substr → p.sp + 8 ≤ 2147483648
      → StringAt w m p.gp p.acc xs → IntAt w m p.gp (word m (p.sp + 4)) i → IntAt w m p.gp (word m p.sp) l → length xs < i + l
      → Reaches w s 0 13 (stands (λ t. At w (record p { pc = w.place substr_abort }) m c t × (t.core.registers T8 ≡ s.core.registers T8) × (t.core.registers T9 ≡ s.core.registers T9)))
  substr_refuses p m c s xs i l has at begins arguments a first second beyond =
      let behind : List Line = substr_size_lines ++ (int_head_lines ++ (string_head_lines ++ (string_zeros_lines ++ (bytes_lines substr_bytes substr_end ++ string_end_lines substr_end 8)))) in
      refuses p m c s xs i l (has_front w substr_begin_lines behind p.pc (has_at w substr_lines (w.place string_substr) p.pc (omega arith) has)) at arguments a first second beyond

  pub substr_cuts : (p : Pointers) (m : Bytes) (c : Console) (s : State) (xs other : List ℕ) (i l : ℕ) → Limits w → HasLines w (w.place string_substr) substr_lines → At w p m c s
      → p.pc ≡ w.place string_substr → p.sp + 8 ≤ 2147483648 → StringAt w m p.gp p.acc xs → IntAt w m p.gp (word m (p.sp + 4)) i → IntAt w m p.gp (word m p.sp) l → i + l ≤ length xs
      → IntAt w m p.gp (w.place int_prototype) 0 → StringAt w m p.gp (w.place string_prototype) other → p.gp + 44 + 4 * (l / 4) ≤ w.top → OnTheWay w c.output c.input
      → Reaches w s 0 (8 * l + 64) (stands (At w (record p { pc = p.ra; gp = p.gp + 44 + 4 * (l / 4); sp = p.sp + 8; acc = p.gp + 24 }) (with_cut w m p.gp p.acc i l) c))
  substr_cuts p m c s xs other i l limits has at begins arguments a first second within int string room way =
      let laid = w.laid in
      let numbers = at.numbers in
      let l5 = string_end_lines substr_end 8 in
      let l4 = bytes_lines substr_bytes substr_end ++ l5 in
      let l3 = string_zeros_lines ++ l4 in
      let l2 = string_head_lines ++ l3 in
      let l1 = int_head_lines ++ l2 in
      let l0 = substr_size_lines ++ l1 in
      let pc0 = p.pc + 52 in
      let pc1 = pc0 + 40 in
      let pc2 = pc1 + 44 in
      let pc3 = pc2 + 52 in
      let pc4 = pc3 + 8 in
      let h : HasLines w p.pc (substr_begin_lines ++ l0) = has_at w substr_lines (w.place string_substr) p.pc (omega arith) has in
      let h0 : HasLines w pc0 l0 = has_back w substr_begin_lines l0 p.pc pc0 (omega arith) h in
      let h1 : HasLines w pc1 l1 = has_back w substr_size_lines l1 pc0 pc1 (omega arith) h0 in
      let h2 : HasLines w pc2 l2 = has_back w int_head_lines l2 pc1 pc2 (omega arith) h1 in
      let h3 : HasLines w pc3 l3 = has_back w string_head_lines l3 pc2 pc3 (omega arith) h2 in
      let h4 : HasLines w pc4 l4 = has_back w string_zeros_lines l4 pc3 pc4 (omega arith) h3 in
      let h5 : HasLines w (pc4 + 32) l5 = has_back w (bytes_lines substr_bytes substr_end) l5 pc4 (pc4 + 32) (omega arith) h4 in
      let end : w.place substr_end ≡ pc4 + 32 = h5.0.labels.0 in
      let m1 = with_int m p.gp w.tags.int (w.place int_table) l in
      let mh = with_string_head w m p.gp l in
      let m2 = with_string w m p.gp l in
      let low : p.acc + i < 1073741824 = (let lies = a.lies in omega arith) in
      let few : l < 1073741824 = (let lies = a.lies in omega arith) in
      next w s 13 (8 * l + 51) (8 * l + 64) _ _ (substr_begin p m c s xs i l (has_front w substr_begin_lines l0 p.pc h) at arguments a first second within) (omega arith)
      (λ s0 g0. next w s0 13 (8 * l + 38) (8 * l + 51) _ _ (substr_size (record p { pc = pc0 }) m c _ s0 i l limits (has_front w substr_size_lines l1 pc0 h0) g0 refl refl few low room way) (omega arith)
      (λ s1 g1. let enough = g1.0 in
      let may = may_cut m p.gp p.acc xs i l a within numbers.gp_from (omega arith) in
      let kept = string_kept w m m1 p.gp p.gp p.sp (w.place string_prototype) other (omega arith) (made_int_same w m p.gp p.sp _ _ _ (omega arith)) string in
      next w s1 11 (8 * l + 27) (8 * l + 38) _ _ (int_head w (record p { pc = pc1 }) m c _ s1 (has_front w int_head_lines l2 pc1 h1) g1.1 int (omega arith)) (omega arith)
      (λ s2 g2. next w s2 13 (8 * l + 14) (8 * l + 27) _ _ (string_head w (record p { pc = pc2 }) m1 c _ s2 other (has_front w string_head_lines l3 pc2 h2) g2 kept (omega arith) (omega arith)) (omega arith)
      (λ s3 g3. next w s3 2 (8 * l + 12) (8 * l + 14) _ _ (string_zeros w (record p { pc = pc3 }) mh c _ s3 (p.gp + 40 + 4 * (l / 4)) (has_front w string_zeros_lines l4 pc3 h3) g3 (omega arith) (omega arith) (omega arith) enough) (omega arith)
      (λ s4 g4. next w s4 (8 * l + 8) 4 (8 * l + 12) _ _
      (bytes_loop w l substr_bytes substr_end (record p { pc = pc4 }) m2 c _ s4 (p.acc + 16 + i + l) (p.gp + 40 + l) (has_front w (bytes_lines substr_bytes substr_end) l5 pc4 h4) g4 refl
      may refl refl) (omega arith)
      (λ s5 g5. string_end w substr_end 8 (record p { pc = w.place substr_end }) _ c _ s5 (has_at w l5 (pc4 + 32) (w.place substr_end) (omega arith) h5) g5 (omega arith) enough (omega arith) (omega arith) arguments))))))

  text_drop : (n : ℕ) (xs : List ℕ) → IsText xs → IsText (drop n xs)
  text_drop zero xs text = text
  text_drop (suc n) [] text = tt
  text_drop (suc n) (x ∷ xs) text = text_drop n xs text.1

  text_take : (n : ℕ) (xs : List ℕ) → IsText xs → IsText (take n xs)
  text_take zero xs text = tt
  text_take (suc n) [] text = tt
  text_take (suc n) (x ∷ xs) text = (text.0, text_take n xs text.1)

  pub cut_string : (m : Bytes) (gp sp a : ℕ) (xs other : List ℕ) (i l : ℕ) → 536870912 ≤ gp → gp < 2147483648 → gp % 4 ≡ 0 → StringAt w m gp a xs
      → IntAt w m gp (w.place int_prototype) 0 → StringAt w m gp (w.place string_prototype) other → i + l ≤ length xs → gp + 44 + 4 * (l / 4) ≤ sp → l < 1073741824
      → StringAt w (with_cut w m gp a i l) (gp + 44 + 4 * (l / 4)) (gp + 24) (take l (drop i xs)) × Same m (with_cut w m gp a i l) gp sp
  cut_string m gp sp a xs other i l from under even at int string within room small =
      let bytes = take l (drop i xs) in
      let m2 = with_string w m gp l in
      let m' = with_cut w m gp a i l in
      let rest : length (drop i xs) ≡ length xs - i = length-drop i xs in
      let long : length bytes ≡ l = length-take-le l (drop i xs) (omega arith) in
      let head : Same m m2 gp sp = string_head_same w m gp sp l room in
      let made = made_string w m m' gp (w.place int_prototype) (w.place string_prototype) bytes other from under even (omega arith) int string (text_take l (drop i xs) (text_drop i xs at.text))
      (λ q h. bytes_other m2 (a + 16 + i) (gp + 40) l q (inl h) ∙ byte_other _ (gp + 40 + 4 * (l / 4)) 0 q (inl (omega arith)) ∙ ap (λ k. with_string_head w m gp k q) (sym long))
      (λ k h. let on : a + 16 + i + k ≡ a + 16 + (i + k) = omega arith in
      bytes_are m2 (a + 16 + i) (gp + 40) l k (omega arith) (omega (arith, at.lies)) ∙ ap (λ q. m2 q % 256) on ∙ string_byte w m m2 gp sp a xs head at (i + k) (omega arith)
      ∙ sym (get_or-take l (drop i xs) k 0 (omega arith) ∙ get_or-drop i xs k 0))
      (λ k h less. bytes_other m2 (a + 16 + i) (gp + 40) l (gp + 40 + k) (inr (omega arith)) ∙ rest_of_word w m gp l k (omega arith) (subst (λ n. k < 4 * words_of_bytes n) long less)) in (
        subst (λ k. StringAt w m' (gp + 44 + 4 * (k / 4)) (gp + 24) bytes) long made,
        record {
          below = λ q h. bytes_other m2 (a + 16 + i) (gp + 40) l q (inl (omega arith)) ∙ head.below q h;
          over = λ q h. bytes_other m2 (a + 16 + i) (gp + 40) l q (inr (omega arith)) ∙ head.over q h;
        },
      )
