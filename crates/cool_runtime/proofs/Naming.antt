-- The routines that look up the name of a class return or print it: `type_name` returns it, and `abort` and a `case` without a matching branch print it and
-- exit with status 3.
use Rattle.std.proofs.Common.{◌≡◌, ℕ, ◌+◌, ◌*◌, ◌<◌, inl, List, [], ◌∷◌, ◌++◌, refl, ap, ◌∙◌, arith, append_assoc}
use Rattle.std.specs.Prelude.{Some}
use Rattle.std.specs.Fmt.{signed_decimal}
use Rattle.mips_isa.specs.declared.register.TheConstants.{T0, T8, T9}
use Rattle.mips_isa.specs.Bytes.{Bytes, word}
use Rattle.mips_isa.specs.Machine.{wrap}
use Rattle.mips_isa.specs.Calls.{State, signed, string_at}
use Rattle.mips_isa.specs.Lines.{Name}
use Rattle.cool_runtime.specs.Reaches.{World, Reaches, stands, exits}
use Rattle.cool_runtime.specs.Standing.{HasLines}
use Rattle.cool_runtime.specs.Walk.{beside, PrintInt, PrintString, ExitWith}
use Rattle.cool_runtime.specs.Labels.{name_table, type_name, abort, case_abort, abort_text, newline_text, no_branch_text, stop_text, colon_text}
use Rattle.cool_runtime.specs.Contents.{StringAt, TextAt, NameAt, Tagged}
use Rattle.cool_runtime.specs.Machines.{At, Pointers, Console, wrote, EndsWith}
use Rattle.cool_runtime.specs.Instructions.{move, jr}
use Rattle.cool_runtime.specs.Routines.{name_lines, type_name_lines, named_end_lines, abort_lines, place_lines, no_branch_lines}
use Rattle.cool_runtime.proofs.Runs.{here, exits_as}
use Rattle.cool_runtime.proofs.Walking.{walk}
use Rattle.cool_runtime.proofs.Words.{load_eq}
use Rattle.cool_runtime.proofs.Strings.{printable, text_printable}
use Rattle.cool_runtime.proofs.Pieces.{next, has_front, has_back, has_at}

-- the machine stands so, with an address in $t0, and $t8 and $t9
pub record WithName (w : World) (p : Pointers) (m : Bytes) (c : Console) (a file line : ℕ) (s : State) : Type 0 where
  pub at : At w p m c s
  pub t0_is : s.core.registers T0 ≡ a
  pub t8_is : s.core.registers T8 ≡ file
  pub t9_is : s.core.registers T9 ≡ line

module _ (w : World) where
  name_found : (p : Pointers) (m : Bytes) (c : Console) (s : State) (tag : ℕ) (name : List ℕ) → HasLines w p.pc name_lines → At w p m c s → Tagged w m p.gp p.acc tag → NameAt w m p.gp tag name
      → Reaches w s 0 6 (stands (WithName w (record p { pc = p.pc + 24 }) m c (word m (w.place name_table + 4 * tag)) (s.core.registers T8) (s.core.registers T9)))
  name_found p m c s tag name has at object entry =
      let laid = w.laid in
      let m0 = s.core.memory in
      let r = s.core.registers in
      let vt : word m0 (wrap (r 4 + 0)) ≡ tag = load_eq _ _ _ _ at.memory_is (let l = object.lies in omega arith) ∙ object.tag_is in
      let va : word m0 (wrap (wrap (w.place name_table + wrap (word m0 (wrap (r 4 + 0)) * 4)) + 0)) ≡ word m (w.place name_table + 4 * tag) = load_eq _ _ _ _ at.memory_is (omega arith) in
      walk w name_lines 0 r s.core.pc m0 (beside s) p.pc 0 0 _ has (omega arith) (
        (let l = object.lies in omega arith),
        (
          omega arith,
          (
            omega arith,
            here w _ _ (record { at = record { numbers = omega arith; memory_is = at.memory_is; input_is = at.input_is; ended_is = at.ended_is; output_is = at.output_is }; t0_is = va; t8_is = refl; t9_is = refl }),
          ),
        ),
      )

  pub type_name_gives : (p : Pointers) (m : Bytes) (c : Console) (s : State) (tag : ℕ) (name : List ℕ) → HasLines w (w.place type_name) type_name_lines → At w p m c s → p.pc ≡ w.place type_name
      → Tagged w m p.gp p.acc tag → NameAt w m p.gp tag name
      → Reaches w s 0 8 (stands (At w (record p { pc = p.ra; acc = word m (w.place name_table + 4 * tag) }) m c))
  type_name_gives p m c s tag name has at begins object entry =
      let laid = w.laid in
      let numbers = at.numbers in
      let behind = move 4 8 ∷ jr 31 ∷ [] in
      let h : HasLines w p.pc (name_lines ++ behind) = has_at w (name_lines ++ behind) (w.place type_name + 0) p.pc (omega arith) has.1 in
      let low : word m (w.place name_table + 4 * tag) < 4294967296 = (let l = entry.string.lies in omega arith) in
      next w s 6 2 8 _ _ (name_found p m c s tag name (has_front w name_lines behind p.pc h) at object entry) (omega arith)
      (λ t g. let at' = g.at in
      walk w behind 0 t.core.registers t.core.pc t.core.memory (beside t) (p.pc + 24) 0 0 _ (has_back w name_lines behind p.pc (p.pc + 24) (omega arith) h) (omega arith)
      (here w _ _ (record { numbers = (let z = g.t0_is in omega arith); memory_is = at'.memory_is; input_is = at'.input_is; ended_is = at'.ended_is; output_is = at'.output_is })))

  named_end : (before behind : Name) (p : Pointers) (m : Bytes) (c : Console) (s : State) (a file line : ℕ) (name first last : List ℕ) → HasLines w p.pc (named_end_lines before behind) → WithName w p m c a file line s
      → StringAt w m p.gp a name → TextAt w m (w.place before) first → TextAt w m (w.place behind) last
      → Reaches w s 0 12 (exits 3 (EndsWith c (first ++ (name ++ last))))
  named_end before behind p m c s a file line name first last has hold string one two =
      let laid = w.laid in
      let at = hold.at in
      let m0 = s.core.memory in
      let r = s.core.registers in
      let place : wrap (r 8 + 16) ≡ a + 16 = (let l = string.lies in omega (arith, hold.t0_is)) in
      let found : string_at w.segments m0 (wrap (r 8 + 16)) ≡ Some name =
      ap (λ f. string_at w.segments f (wrap (r 8 + 16))) at.memory_is ∙ ap (string_at w.segments m) place ∙ printable w m p.gp a name at.numbers.gp_to string in
      let found1 : string_at w.segments m0 (w.place before) ≡ Some first = ap (λ f. string_at w.segments f (w.place before)) at.memory_is ∙ text_printable w m (w.place before) first one in
      let found2 : string_at w.segments m0 (w.place behind) ≡ Some last = ap (λ f. string_at w.segments f (w.place behind)) at.memory_is ∙ text_printable w m (w.place behind) last two in
      let o = c.output in
      let joined : ((o ++ first) ++ name) ++ last ≡ o ++ (first ++ (name ++ last)) = append_assoc (o ++ first) name last ∙ append_assoc o first (name ++ last) in
      walk w (named_end_lines before behind) 0 r s.core.pc m0 (beside s) p.pc 0 0 _ has (let numbers = at.numbers in omega arith) (
        omega arith,
        (
          PrintString first,
          (
            omega arith,
            found1,
            (
              PrintString name,
              (
                omega arith,
                found,
                (
                  omega arith,
                  (
                    PrintString last,
                    (
                      omega arith,
                      found2,
                      (ExitWith, (omega arith, inl (omega arith, record { output_is = ap (λ x. ((x ++ first) ++ name) ++ last) at.output_is ∙ joined; input_is = at.input_is }))),
                    ),
                  ),
                ),
              ),
            ),
          ),
        ),
      )

  pub abort_ends : (p : Pointers) (m : Bytes) (c : Console) (s : State) (tag : ℕ) (name first last : List ℕ) → HasLines w (w.place abort) abort_lines → At w p m c s → p.pc ≡ w.place abort
      → Tagged w m p.gp p.acc tag → NameAt w m p.gp tag name → TextAt w m (w.place abort_text) first → TextAt w m (w.place newline_text) last
      → Reaches w s 0 18 (exits 3 (EndsWith c (first ++ (name ++ last))))
  abort_ends p m c s tag name first last has at begins object entry one two =
      let behind = named_end_lines abort_text newline_text in
      let h : HasLines w p.pc (name_lines ++ behind) = has_at w (name_lines ++ behind) (w.place abort + 0) p.pc (omega arith) has.1 in
      next w s 6 12 18 _ _ (name_found p m c s tag name (has_front w name_lines behind p.pc h) at object entry) (omega arith)
      (λ t g. named_end abort_text newline_text _ m c t _ _ _ name first last (has_back w name_lines behind p.pc (p.pc + 24) (omega arith) h) g entry.string one two)

  place_written : (p : Pointers) (m : Bytes) (c : Console) (s : State) (a f line : ℕ) (file colon : List ℕ) → HasLines w p.pc place_lines → WithName w p m c a f line s
      → StringAt w m p.gp f file → line < 4294967296 → TextAt w m (w.place colon_text) colon
      → Reaches w s 0 9 (stands (WithName w (record p { pc = p.pc + 36; acc = line }) m (wrote c (file ++ (colon ++ signed_decimal (signed line)))) a f line))
  place_written p m c s a f line file colon has hold string fits one =
      let laid = w.laid in
      let at = hold.at in
      let m0 = s.core.memory in
      let r = s.core.registers in
      let place : wrap (r 24 + 16) ≡ f + 16 = (let l = string.lies in omega (arith, hold.t8_is)) in
      let number : wrap (r 25 + r 0) ≡ line = omega (arith, hold.t9_is) in
      let found : string_at w.segments m0 (wrap (r 24 + 16)) ≡ Some file =
      ap (λ g. string_at w.segments g (wrap (r 24 + 16))) at.memory_is ∙ ap (string_at w.segments m) place ∙ printable w m p.gp f file at.numbers.gp_to string in
      let found1 : string_at w.segments m0 (w.place colon_text) ≡ Some colon = ap (λ g. string_at w.segments g (w.place colon_text)) at.memory_is ∙ text_printable w m (w.place colon_text) colon one in
      let o = c.output in
      let d = signed_decimal (signed line) in
      let joined : ((o ++ file) ++ colon) ++ d ≡ o ++ (file ++ (colon ++ d)) = append_assoc (o ++ file) colon d ∙ append_assoc o file (colon ++ d) in
      walk w place_lines 0 r s.core.pc m0 (beside s) p.pc 0 0 _ has (omega arith) (
        PrintString file,
        (
          omega arith,
          found,
          (
            omega arith,
            (
              PrintString colon,
              (
                omega arith,
                found1,
                (
                  PrintInt,
                  (
                    omega arith,
                    here w _ _ (record {
                      at = record {
                        numbers = omega arith;
                        memory_is = at.memory_is;
                        input_is = at.input_is;
                        ended_is = at.ended_is;
                        output_is = ap (λ x. ((x ++ file) ++ colon) ++ signed_decimal (signed (wrap (r 25 + r 0)))) at.output_is ∙ ap (λ n. ((o ++ file) ++ colon) ++ signed_decimal (signed n)) number ∙ joined;
                      };
                      t0_is = hold.t0_is;
                      t8_is = hold.t8_is;
                      t9_is = hold.t9_is;
                    }),
                  ),
                ),
              ),
            ),
          ),
        ),
      )

  pub no_branch_ends : (p : Pointers) (m : Bytes) (c : Console) (s : State) (tag line : ℕ) (name file colon first last : List ℕ) → HasLines w (w.place case_abort) no_branch_lines → At w p m c s → p.pc ≡ w.place case_abort
      → Tagged w m p.gp p.acc tag → NameAt w m p.gp tag name → StringAt w m p.gp (s.core.registers T8) file → s.core.registers T9 ≡ line → line < 4294967296
      → TextAt w m (w.place colon_text) colon → TextAt w m (w.place no_branch_text) first → TextAt w m (w.place stop_text) last
      → Reaches w s 0 27 (exits 3 (EndsWith c ((file ++ (colon ++ signed_decimal (signed line))) ++ (first ++ (name ++ last)))))
  no_branch_ends p m c s tag line name file colon first last has at begins object entry string line_is fits one two three =
      let behind = named_end_lines no_branch_text stop_text in
      let middle = place_lines ++ behind in
      let h : HasLines w p.pc (name_lines ++ middle) = has_at w (name_lines ++ middle) (w.place case_abort + 0) p.pc (omega arith) has.1 in
      let h1 : HasLines w (p.pc + 24) middle = has_back w name_lines middle p.pc (p.pc + 24) (omega arith) h in
      let text = file ++ (colon ++ signed_decimal (signed line)) in
      next w s 6 21 27 _ _ (name_found p m c s tag name (has_front w name_lines middle p.pc h) at object entry) (omega arith)
      (λ t g. next w t 9 12 21 _ _
      (place_written _ m c t _ _ line file colon (has_front w place_lines behind (p.pc + 24) h1)
      (record { at = g.at; t0_is = g.t0_is; t8_is = g.t8_is; t9_is = g.t9_is ∙ line_is }) string fits one) (omega arith)
      (λ u k. exits_as w u 0 12 3 _ _ (λ v e. record { output_is = e.output_is ∙ append_assoc c.output text (first ++ (name ++ last)); input_is = e.input_is })
      (named_end no_branch_text stop_text _ m (wrote c text) u _ _ _ name first last (has_back w place_lines behind (p.pc + 24) (p.pc + 24 + 36) (omega arith) h1) k entry.string two three)))
