-- The routine for `String.concat` returns the concatenation of two Strings, or the run exits by the limit of the heap.
use Rattle.std.proofs.Common.{◌≡◌, ℕ, ◌+◌, ◌*◌, ◌/◌, ◌<◌, ◌≤◌, List, ◌++◌, length, refl, ◌∙◌, arith}
use Rattle.mips_isa.specs.declared.register.TheConstants.{T4}
use Rattle.mips_isa.specs.Bytes.{Bytes, word}
use Rattle.mips_isa.specs.Machine.{wrap}
use Rattle.mips_isa.specs.Calls.{State}
use Rattle.cool_runtime.specs.Reaches.{World, Reaches, stands, OnTheWay}
use Rattle.cool_runtime.specs.Standing.{HasLines}
use Rattle.cool_runtime.specs.Walk.{beside}
use Rattle.cool_runtime.specs.Labels.{int_prototype, int_table, string_prototype, string_concat, concat_first, concat_second, concat_third, concat_end}
use Rattle.cool_runtime.specs.Contents.{IntAt, StringAt}
use Rattle.cool_runtime.specs.Premises.{Limits}
use Rattle.cool_runtime.specs.Machines.{At, Pointers, Console, Temporaries, Holding, with_int, with_string_head, with_string, copied_bytes, with_joined}
use Rattle.cool_runtime.specs.Routines.{int_head_lines, string_head_lines, string_zeros_lines, bytes_lines, string_end_lines, concat_begin_lines, concat_turn_lines, concat_lines}
use Rattle.cool_runtime.proofs.Runs.{here}
use Rattle.cool_runtime.proofs.Walking.{walk}
use Rattle.cool_runtime.proofs.Words.{load_eq}
use Rattle.cool_runtime.proofs.Allocating.{heap_exit, not_less, less}
use Rattle.cool_runtime.proofs.Pieces.{done, next, has_front, has_back, has_at}
use Rattle.cool_runtime.proofs.Objects.{made_int_same, string_kept}
use Rattle.cool_runtime.proofs.Building.{int_head, string_head, string_zeros, bytes_loop, string_end}

module _ (w : World) where
  concat_begin : (p : Pointers) (m : Bytes) (c : Console) (s : State) (xs ys : List ℕ) → Limits w → HasLines w p.pc concat_begin_lines → At w p m c s → p.sp + 4 ≤ 2147483648
      → StringAt w m p.gp p.acc xs → StringAt w m p.gp (word m p.sp) ys → let n = length xs + length ys in p.gp + 44 + 4 * (n / 4) ≤ w.top → OnTheWay w c.output c.input
      → Reaches w s 0 17 (stands (λ t. (p.gp + 44 + 4 * (n / 4) ≤ w.segments.heap_end) × Holding w (record p { pc = p.pc + 56 }) m c
      (record { t1 = p.gp + 44 + 4 * (n / 4); t2 = p.acc + 16; t3 = length xs; t4 = s.core.registers T4; t5 = n; t6 = word m p.sp; t7 = length ys }) t))
  concat_begin p m c s xs ys limits has at argument a b room way =
      let laid = w.laid in
      let m0 = s.core.memory in
      let r = s.core.registers in
      let b_is : word m0 (wrap (r 29 + 0)) ≡ word m p.sp = load_eq _ _ _ _ at.memory_is (omega arith) in
      let pa : word m0 (wrap (r 4 + 12)) ≡ word m (p.acc + 12) = load_eq _ _ _ _ at.memory_is (omega arith) in
      let la : word m0 (wrap (word m0 (wrap (r 4 + 12)) + 12)) ≡ length xs = load_eq _ _ _ _ at.memory_is (omega arith) ∙ a.length_is.value in
      let pb : word m0 (wrap (word m0 (wrap (r 29 + 0)) + 12)) ≡ word m (word m p.sp + 12) = load_eq _ _ _ _ at.memory_is (omega arith) in
      let lb : word m0 (wrap (word m0 (wrap (word m0 (wrap (r 29 + 0)) + 12)) + 12)) ≡ length ys = load_eq _ _ _ _ at.memory_is (omega arith) ∙ b.length_is.value in
      walk w concat_begin_lines 0 r s.core.pc m0 (beside s) p.pc 0 3 _ has (omega arith) (
        omega arith,
        (
          omega arith,
          (
            omega arith,
            (
              omega arith,
              (
                omega arith,
                (
                  (λ t. let le = not_less _ _ _ at.numbers.zero_is t in
                      done w 3 _ _ (
                        omega arith,
                        record {
                          at = record { numbers = omega arith; memory_is = at.memory_is; input_is = at.input_is; ended_is = at.ended_is; output_is = at.output_is };
                          t1_is = omega arith;
                          t2_is = omega arith;
                          t3_is = la;
                          t4_is = refl;
                          t5_is = omega arith;
                          t6_is = b_is;
                          t7_is = lb;
                        },
                      )),
                  (λ f. let lt = less _ _ _ at.numbers.zero_is f in
                      heap_exit w _ _ c limits refl at.numbers.zero_is (omega arith) at.input_is at.output_is way),
                ),
              ),
            ),
          ),
        ),
      )

  concat_turn : (p : Pointers) (m : Bytes) (c : Console) (t : Temporaries) (s : State) → HasLines w p.pc concat_turn_lines → Holding w p m c t s → t.t6 + 16 < 4294967296 → t.t7 < 4294967296
      → Reaches w s 0 2 (stands (Holding w (record p { pc = p.pc + 8 }) m c (record t { t2 = t.t6 + 16; t3 = t.t7 })))
  concat_turn p m c t s has hold fits fits' =
      let laid = w.laid in
      let at = hold.at in
      walk w concat_turn_lines 0 s.core.registers s.core.pc s.core.memory (beside s) p.pc 0 0 _ has (omega arith)
      (here w _ _ (record {
        at = record { numbers = omega arith; memory_is = at.memory_is; input_is = at.input_is; ended_is = at.ended_is; output_is = at.output_is };
        t1_is = hold.t1_is;
        t2_is = omega arith;
        t3_is = omega arith;
        t4_is = hold.t4_is;
        t5_is = hold.t5_is;
        t6_is = hold.t6_is;
        t7_is = hold.t7_is;
      }))

  -- the String in $a0 and the one at $sp are joined
  pub concats : (p : Pointers) (m : Bytes) (c : Console) (s : State) (xs ys other : List ℕ) → Limits w → HasLines w (w.place string_concat) concat_lines → At w p m c s
      → p.pc ≡ w.place string_concat → p.sp + 4 ≤ 2147483648 → StringAt w m p.gp p.acc xs → StringAt w m p.gp (word m p.sp) ys
      → IntAt w m p.gp (w.place int_prototype) 0 → StringAt w m p.gp (w.place string_prototype) other
      → let n = length xs + length ys in p.gp + 44 + 4 * (n / 4) ≤ w.top → OnTheWay w c.output c.input
      → Reaches w s 0 (8 * n + 65) (stands (At w (record p { pc = p.ra; gp = p.gp + 44 + 4 * (n / 4); sp = p.sp + 4; acc = p.gp + 24 })
      (with_joined w m p.gp p.acc (word m p.sp) (length xs) (length ys)) c))
  concats p m c s xs ys other limits has at begins argument a b int string room way =
      let laid = w.laid in
      let numbers = at.numbers in
      let la = length xs in
      let lb = length ys in
      let n = la + lb in
      let l6 = string_end_lines concat_end 4 in
      let l5 = bytes_lines concat_third concat_end ++ l6 in
      let l4 = concat_turn_lines ++ l5 in
      let l3 = bytes_lines concat_first concat_second ++ l4 in
      let l2z = string_zeros_lines ++ l3 in
      let l2 = string_head_lines ++ l2z in
      let l1 = int_head_lines ++ l2 in
      let pc1 = p.pc + 56 in
      let pc2 = pc1 + 44 in
      let pcz = pc2 + 52 in
      let pc3 = pcz + 8 in
      let h0 : HasLines w p.pc (concat_begin_lines ++ l1) = has_at w concat_lines (w.place string_concat) p.pc (omega arith) has in
      let h1 : HasLines w pc1 l1 = has_back w concat_begin_lines l1 p.pc pc1 (omega arith) h0 in
      let h2 : HasLines w pc2 l2 = has_back w int_head_lines l2 pc1 pc2 (omega arith) h1 in
      let hz : HasLines w pcz l2z = has_back w string_head_lines l2z pc2 pcz (omega arith) h2 in
      let h3 : HasLines w pc3 l3 = has_back w string_zeros_lines l3 pcz pc3 (omega arith) hz in
      let h4 : HasLines w (pc3 + 32) l4 = has_back w (bytes_lines concat_first concat_second) l4 pc3 (pc3 + 32) (omega arith) h3 in
      let h5 : HasLines w (pc3 + 40) l5 = has_back w concat_turn_lines l5 (pc3 + 32) (pc3 + 40) (omega arith) h4 in
      let h6 : HasLines w (pc3 + 72) l6 = has_back w (bytes_lines concat_third concat_end) l6 (pc3 + 40) (pc3 + 72) (omega arith) h5 in
      let second : w.place concat_second ≡ pc3 + 32 = h4.0.labels.0 in
      let end : w.place concat_end ≡ pc3 + 72 = h6.0.labels.0 in
      let m1 = with_int m p.gp w.tags.int (w.place int_table) n in
      let mh = with_string_head w m p.gp n in
      let m2 = with_string w m p.gp n in
      let m3 = copied_bytes m2 (p.acc + 16) (p.gp + 40) la in
      next w s 17 (8 * n + 48) (8 * n + 65) _ _ (concat_begin p m c s xs ys limits (has_front w concat_begin_lines l1 p.pc h0) at argument a b room way) (omega arith)
      (λ s1 g1. let enough = g1.0 in
      let kept = string_kept w m m1 p.gp p.gp p.sp (w.place string_prototype) other (omega arith) (made_int_same w m p.gp p.sp _ _ _ (omega arith)) string in
      next w s1 11 (8 * n + 37) (8 * n + 48) _ _ (int_head w (record p { pc = pc1 }) m c _ s1 (has_front w int_head_lines l2 pc1 h1) g1.1 int (omega arith)) (omega arith)
      (λ s2 g2. next w s2 13 (8 * n + 24) (8 * n + 37) _ _ (string_head w (record p { pc = pc2 }) m1 c _ s2 other (has_front w string_head_lines l2z pc2 h2) g2 kept (omega arith) (omega arith)) (omega arith)
      (λ sz gz. next w sz 2 (8 * n + 22) (8 * n + 24) _ _ (string_zeros w (record p { pc = pcz }) mh c _ sz (p.gp + 40 + 4 * (n / 4)) (has_front w string_zeros_lines l3 pcz hz) gz (omega arith) (omega arith) (omega arith) enough) (omega arith)
      (λ s3 g3. next w s3 (8 * la + 8) (8 * lb + 14) (8 * n + 22) _ _
      (bytes_loop w la concat_first concat_second (record p { pc = pc3 }) m2 c _ s3 (p.acc + 16 + la) (p.gp + 40 + la) (has_front w (bytes_lines concat_first concat_second) l4 pc3 h3) g3 refl
      (omega (arith, a.lies)) refl refl) (omega arith)
      (λ s4 g4. next w s4 2 (8 * lb + 12) (8 * lb + 14) _ _
      (concat_turn (record p { pc = w.place concat_second }) m3 c _ s4 (has_at w concat_turn_lines (pc3 + 32) (w.place concat_second) (omega arith) (has_front w concat_turn_lines l5 (pc3 + 32) h4)) g4
      (omega (arith, b.lies)) (omega arith)) (omega arith)
      (λ s5 g5. next w s5 (8 * lb + 8) 4 (8 * lb + 12) _ _
      (bytes_loop w lb concat_third concat_end (record p { pc = w.place concat_second + 8 }) m3 c _ s5 (word m p.sp + 16 + lb) (p.gp + 40 + la + lb)
      (has_at w (bytes_lines concat_third concat_end) (pc3 + 40) (w.place concat_second + 8) (omega arith) (has_front w (bytes_lines concat_third concat_end) l6 (pc3 + 40) h5)) g5 refl
      (omega (arith, b.lies)) refl refl) (omega arith)
      (λ s6 g6. string_end w concat_end 4 (record p { pc = w.place concat_end }) _ c _ s6 (has_at w l6 (pc3 + 72) (w.place concat_end) (omega arith) h6) g6 (omega arith) enough (omega arith) (omega arith) argument)))))))
