-- The code that several routines share to make a String stores the Int of its length, its head and its last word, copies its bytes, and returns its address.
use Rattle.std.proofs.Common.{◌≡◌, ℕ, zero, suc, ◌+◌, ◌*◌, ◌%◌, ◌<◌, ◌≤◌, List, refl, ap, ◌∙◌, arith}
use Rattle.mips_isa.specs.declared.register.TheConstants.{T2}
use Rattle.mips_isa.specs.Bytes.{Bytes, word, set_word, set_byte}
use Rattle.mips_isa.specs.Machine.{wrap}
use Rattle.mips_isa.specs.Calls.{State}
use Rattle.mips_isa.specs.Lines.{Name}
use Rattle.cool_runtime.specs.Reaches.{World, Reaches, stands}
use Rattle.cool_runtime.specs.Standing.{HasLines}
use Rattle.cool_runtime.specs.Walk.{beside}
use Rattle.cool_runtime.specs.Labels.{int_prototype, int_table, string_prototype, string_table}
use Rattle.cool_runtime.specs.Contents.{IntAt, StringAt, words_of_bytes}
use Rattle.cool_runtime.specs.Machines.{At, Pointers, Console, Temporaries, Holding, with_head, with_int, copied_bytes}
use Rattle.cool_runtime.specs.Routines.{int_head_lines, string_head_lines, string_zeros_lines, bytes_lines, string_end_lines}
use Rattle.cool_runtime.proofs.Runs.{wider, here}
use Rattle.cool_runtime.proofs.Walking.{walk}
use Rattle.cool_runtime.proofs.Words.{load_eq, store_eq, store_byte_eq}
use Rattle.cool_runtime.proofs.Copying.{differ, same_numbers}

-- so many bytes may be copied
pub record MayCopyBytes (w : World) (from to n : ℕ) : Type 0 where
  pub from_low : 268435456 ≤ from
  pub from_data : from < 536870912 → from + n ≤ w.segments.data_end
  pub from_heap : from + n ≤ w.segments.heap_end
  pub to_low : 536870912 ≤ to
  pub to_heap : to + n ≤ w.segments.heap_end

module _ (w : World) where
  pub int_head : (p : Pointers) (m : Bytes) (c : Console) (t : Temporaries) (s : State) → HasLines w p.pc int_head_lines → Holding w p m c t s
      → IntAt w m p.gp (w.place int_prototype) 0 → p.gp + 20 ≤ w.segments.heap_end
      → Reaches w s 0 11 (stands (Holding w (record p { pc = p.pc + 44 }) (with_int m p.gp w.tags.int (w.place int_table) t.t5) c t))
  unfolding with_head
  int_head p m c t s has hold proto room =
      let laid = w.laid in
      let at = hold.at in
      let a = w.place int_prototype in
      let tag : word s.core.memory (wrap (a + 0)) ≡ w.tags.int = load_eq _ _ _ _ at.memory_is (omega arith) ∙ proto.head.tag_is in
      let table : word s.core.memory (wrap (a + 8)) ≡ w.place int_table = load_eq _ _ _ _ at.memory_is (omega arith) ∙ proto.head.table_is in
      walk w int_head_lines 0 s.core.registers s.core.pc s.core.memory (beside s) p.pc 0 0 _ has (omega arith) (
        omega arith,
        (
          omega arith,
          (
            omega arith,
            (
              omega arith,
              (
                omega arith,
                (
                  omega arith,
                  (
                    omega arith,
                    (
                      omega arith,
                      here w _ _ (record {
                        at = record { numbers = omega arith; memory_is = search (arith, store_eq, at.memory_is, hold.t5_is, tag, table) depth 14; input_is = at.input_is; ended_is = at.ended_is; output_is = at.output_is };
                        t1_is = hold.t1_is;
                        t2_is = hold.t2_is;
                        t3_is = hold.t3_is;
                        t4_is = hold.t4_is;
                        t5_is = hold.t5_is;
                        t6_is = hold.t6_is;
                        t7_is = hold.t7_is;
                      }),
                    ),
                  ),
                ),
              ),
            ),
          ),
        ),
      )

  pub string_head : (p : Pointers) (m : Bytes) (c : Console) (t : Temporaries) (s : State) (bytes : List ℕ) → HasLines w p.pc string_head_lines → Holding w p m c t s
      → StringAt w m p.gp (w.place string_prototype) bytes → p.gp + 40 ≤ w.segments.heap_end → t.t5 < 4294967296
      → Reaches w s 0 13 (stands (Holding w (record p { pc = p.pc + 52 }) (with_head m (p.gp + 20) w.tags.string (4 + words_of_bytes t.t5) (w.place string_table) (p.gp + 4)) c t))
  unfolding with_head
  string_head p m c t s bytes has hold proto room small =
      let laid = w.laid in
      let at = hold.at in
      let a = w.place string_prototype in
      let lies = proto.lies in
      let tag : word s.core.memory (wrap (a + 0)) ≡ w.tags.string = load_eq _ _ _ _ at.memory_is (omega arith) ∙ proto.head.tag_is in
      let table : word s.core.memory (wrap (a + 8)) ≡ w.place string_table = load_eq _ _ _ _ at.memory_is (omega arith) ∙ proto.head.table_is in
      walk w string_head_lines 0 s.core.registers s.core.pc s.core.memory (beside s) p.pc 0 0 _ has (omega arith) (
        omega arith,
        (
          omega arith,
          (
            omega arith,
            (
              omega arith,
              (
                omega arith,
                (
                  omega arith,
                  (
                    omega arith,
                    (
                      omega arith,
                      here w _ _ (record {
                        at = record { numbers = omega arith; memory_is = search (arith, store_eq, at.memory_is, tag, table) depth 16; input_is = at.input_is; ended_is = at.ended_is; output_is = at.output_is };
                        t1_is = hold.t1_is;
                        t2_is = hold.t2_is;
                        t3_is = hold.t3_is;
                        t4_is = hold.t4_is;
                        t5_is = hold.t5_is;
                        t6_is = hold.t6_is;
                        t7_is = hold.t7_is;
                      }),
                    ),
                  ),
                ),
              ),
            ),
          ),
        ),
      )

  pub string_zeros : (p : Pointers) (m : Bytes) (c : Console) (t : Temporaries) (s : State) (last : ℕ) → HasLines w p.pc string_zeros_lines → Holding w p m c t s
      → t.t1 ≡ last + 4 → last % 4 ≡ 0 → 536870912 ≤ last → t.t1 ≤ w.segments.heap_end
      → Reaches w s 0 2 (stands (Holding w (record p { pc = p.pc + 8 }) (set_word m last 0) c (record t { t4 = p.gp + 40 })))
  string_zeros p m c t s last has hold ends even low room =
      let laid = w.laid in
      let at = hold.at in
      walk w string_zeros_lines 0 s.core.registers s.core.pc s.core.memory (beside s) p.pc 0 0 _ has (omega arith) (
        omega arith,
        here w _ _ (record {
          at = record { numbers = omega arith; memory_is = search (arith, store_eq, at.memory_is) depth 6; input_is = at.input_is; ended_is = at.ended_is; output_is = at.output_is };
          t1_is = hold.t1_is;
          t2_is = hold.t2_is;
          t3_is = hold.t3_is;
          t4_is = omega arith;
          t5_is = hold.t5_is;
          t6_is = hold.t6_is;
          t7_is = hold.t7_is;
        }),
      )

  pub bytes_loop : (n : ℕ) (begin end : Name) (p : Pointers) (m : Bytes) (c : Console) (t : Temporaries) (s : State) (from' to' : ℕ) → HasLines w p.pc (bytes_lines begin end)
      → Holding w p m c t s → t.t3 ≡ n → MayCopyBytes w t.t2 t.t4 n → from' ≡ t.t2 + n → to' ≡ t.t4 + n
      → Reaches w s 0 (8 * n + 8) (stands (Holding w (record p { pc = w.place end }) (copied_bytes m t.t2 t.t4 n) c (record t { t2 = from'; t3 = 0; t4 = to' })))
  bytes_loop zero begin end p m c t s from' to' has hold count may e f =
      let laid = w.laid in
      let at = hold.at in
      walk w (bytes_lines begin end) 0 s.core.registers s.core.pc s.core.memory (beside s) p.pc 0 0 _ has (omega arith) (
        (λ z. absurd {A = _} (differ _ _ z (omega arith))),
        (λ z. here w _ _ (record {
          at = record { numbers = omega arith; memory_is = at.memory_is; input_is = at.input_is; ended_is = at.ended_is; output_is = at.output_is };
          t1_is = hold.t1_is;
          t2_is = omega arith;
          t3_is = omega arith;
          t4_is = omega arith;
          t5_is = hold.t5_is;
          t6_is = hold.t6_is;
          t7_is = hold.t7_is;
        })),
      )
  bytes_loop (suc n) begin end p m c t s from' to' has hold count may e f =
      let laid = w.laid in
      let at = hold.at in
      let begins : w.place begin ≡ p.pc = has.0.labels.0 in
      let u : Temporaries = record t { t2 = t.t2 + 1; t3 = n; t4 = t.t4 + 1 } in
      let from_is : wrap (s.core.registers T2 + 0) ≡ t.t2 = omega arith in
      let v : s.core.memory (wrap (s.core.registers T2 + 0)) ≡ m t.t2 = ap s.core.memory from_is ∙ ap (λ f. f t.t2) at.memory_is in
      wider w s 0 0 (8 + (8 * n + 8)) (8 * suc n + 8) _ (omega arith) (omega arith)
      (walk w (bytes_lines begin end) 0 s.core.registers s.core.pc s.core.memory (beside s) p.pc 0 (8 * n + 8) _ has (omega arith) (
        (λ z. (
          omega arith,
          (
            omega arith,
            bytes_loop n begin end p (set_byte m t.t4 (m t.t2 % 256)) c u _ from' to' has
                (record {
                  at = record { numbers = omega arith; memory_is = store_byte_eq _ _ _ _ _ _ (omega arith) (ap (λ b. b % 256) v) at.memory_is; input_is = at.input_is; ended_is = at.ended_is; output_is = at.output_is };
                  t1_is = hold.t1_is;
                  t2_is = omega arith;
                  t3_is = omega arith;
                  t4_is = omega arith;
                  t5_is = hold.t5_is;
                  t6_is = hold.t6_is;
                  t7_is = hold.t7_is;
                })
                refl (omega arith) (omega arith) (omega arith),
          ),
        )),
        (λ z. let same = same_numbers _ _ z in absurd (omega arith)),
      ))

  pub string_end : (name : Name) (arguments : ℕ) (p : Pointers) (m : Bytes) (c : Console) (t : Temporaries) (s : State) → HasLines w p.pc (string_end_lines name arguments)
      → Holding w p m c t s → p.gp + 24 ≤ t.t1 → t.t1 ≤ w.segments.heap_end → t.t1 % 4 ≡ 0 → arguments % 4 ≡ 0 → p.sp + arguments ≤ 2147483648
      → Reaches w s 0 4 (stands (At w (record p { pc = p.ra; gp = t.t1; sp = p.sp + arguments; acc = p.gp + 24 }) m c))
  string_end name arguments p m c t s has hold up below even even' room =
      let laid = w.laid in
      let at = hold.at in
      walk w (string_end_lines name arguments) 0 s.core.registers s.core.pc s.core.memory (beside s) p.pc 0 0 _ has (omega arith)
      (here w _ _ (record { numbers = omega arith; memory_is = at.memory_is; input_is = at.input_is; ended_is = at.ended_is; output_is = at.output_is }))
