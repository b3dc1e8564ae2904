-- The routine that compares two values with `=` returns the Bool that `Verdict` of `Comparison.antt` defines as the result.
use Rattle.std.proofs.Common.{◌≡◌, ℕ, zero, suc, ◌+◌, ◌*◌, ◌<◌, ◌≤◌, ◌⊎◌, inl, inr, List, [], ◌∷◌, ◌++◌, length, get_or, refl, sym, ap, ◌∙◌, subst, arith, Bool, true, false}
use Rattle.std.specs.Prelude.{◌==◌, if◌then◌else◌, ◌&&◌, bytes_eq}
use Rattle.std.proofs.lemmas.Slice.Eq.{bytes_eq-Decides}
use Rattle.mips_isa.specs.declared.register.TheConstants.{T1, T2, T3}
use Rattle.mips_isa.specs.Bytes.{Bytes, word}
use Rattle.mips_isa.specs.Machine.{wrap}
use Rattle.mips_isa.specs.Calls.{State}
use Rattle.cool_runtime.specs.Reaches.{World, Reaches, stands}
use Rattle.cool_runtime.specs.Standing.{HasLines}
use Rattle.cool_runtime.specs.Walk.{beside}
use Rattle.cool_runtime.specs.Labels.{int_prototype, bool_prototype, string_prototype, equality, equal_values, equal_strings, equal_bytes, equal_true, equal_false, true_constant, false_constant}
use Rattle.cool_runtime.specs.Contents.{StringAt, Tagged, Prototypes}
use Rattle.cool_runtime.specs.Comparison.{Operands, ValueAt, Verdict, Identical, WithVoid, OtherTags, ByValue, ByBytes, ByIdentity, constant_place}
use Rattle.cool_runtime.specs.Machines.{At, Pointers, Console}
use Rattle.cool_runtime.specs.Routines.{equal_lines, equal_begin_lines, equal_values_lines, equal_strings_lines, equal_bytes_lines, equal_true_lines, equal_false_lines}
use Rattle.cool_runtime.proofs.Runs.{wider, here}
use Rattle.cool_runtime.proofs.Walking.{walk}
use Rattle.cool_runtime.proofs.Words.{load_eq}
use Rattle.cool_runtime.proofs.Pieces.{done, next, never, has_front, has_back, has_at}
use Rattle.cool_runtime.proofs.Copying.{differ, same_numbers}
use Rattle.std.proofs.lemmas.Bool.{eqb-true, eqb-false}

-- the possible ends of the tests on addresses and tags
pub data Way (w : World) (p : Pointers) (m : Bytes) (c : Console) (a b ta tb : ℕ) (s : State) : Type 0 where
  Same : a ≡ b → At w (record p { pc = w.place equal_true }) m c s → Way w p m c a b ta tb s
  Void : (a ≡ b → ⊥) → (a ≡ 0) ⊎ (b ≡ 0) → At w (record p { pc = w.place equal_false }) m c s → Way w p m c a b ta tb s
  Others : (a ≡ b → ⊥) → (ta ≡ tb → ⊥) → At w (record p { pc = w.place equal_false }) m c s → Way w p m c a b ta tb s
  Values : ta ≡ tb → (ta ≡ w.tags.int) ⊎ (ta ≡ w.tags.bool) → Operands w (record p { pc = w.place equal_values }) m c a b s → Way w p m c a b ta tb s
  Strings : ta ≡ tb → ta ≡ w.tags.string → Operands w (record p { pc = w.place equal_strings }) m c a b s → Way w p m c a b ta tb s
  Objects : (a ≡ b → ⊥) → (ta ≡ w.tags.int → ⊥) → (ta ≡ w.tags.bool → ⊥) → (ta ≡ w.tags.string → ⊥) → At w (record p { pc = w.place equal_false }) m c s → Way w p m c a b ta tb s

module _ (w : World) where
  equal_begin : (p : Pointers) (m : Bytes) (c : Console) (a b ta tb : ℕ) (s : State) → HasLines w p.pc equal_begin_lines → Operands w p m c a b s
      → ((a ≡ 0 → ⊥) → Tagged w m p.gp a ta) → ((b ≡ 0 → ⊥) → Tagged w m p.gp b tb) → Prototypes w m p.gp
      → Reaches w s 0 26 (stands (Way w p m c a b ta tb))
  equal_begin p m c a b ta tb s has ops first second protos =
      let laid = w.laid in
      let at = ops.at in
      let m0 = s.core.memory in
      let r = s.core.registers in
      let zero_is = at.numbers.zero_is in
      let int = protos.int in
      let bool = protos.bool in
      let string = protos.string in
      let ti : word m0 (wrap (w.place int_prototype + 0)) ≡ w.tags.int = load_eq _ _ _ _ at.memory_is (omega arith) ∙ int.tag_is in
      let tbool : word m0 (wrap (w.place bool_prototype + 0)) ≡ w.tags.bool = load_eq _ _ _ _ at.memory_is (omega arith) ∙ bool.tag_is in
      let tstring : word m0 (wrap (w.place string_prototype + 0)) ≡ w.tags.string = load_eq _ _ _ _ at.memory_is (omega arith) ∙ string.tag_is in
      walk w equal_begin_lines 0 r s.core.pc m0 (beside s) p.pc 0 0 _ has (omega arith) (
        (λ z. let ne : a ≡ b → ⊥ = λ e. differ _ _ z (ops.t1_is ∙ e ∙ sym ops.t2_is) in (
          (λ y. let some : a ≡ 0 → ⊥ = λ e. differ _ _ y (ops.t1_is ∙ e ∙ sym zero_is) in
              let x1 = first some in (
                (λ x. let some' : b ≡ 0 → ⊥ = λ e. differ _ _ x (ops.t2_is ∙ e ∙ sym zero_is) in
                    let x2 = second some' in
                    let va : word m0 (wrap (r 9 + 0)) ≡ ta = load_eq _ _ _ _ at.memory_is (let l = x1.lies in omega arith) ∙ x1.tag_is in
                    let vb : word m0 (wrap (r 10 + 0)) ≡ tb = load_eq _ _ _ _ at.memory_is (let l = x2.lies in omega arith) ∙ x2.tag_is in (
                      (let l = x1.lies in omega arith),
                      (
                        (let l = x2.lies in omega arith),
                        (
                          (λ v. let et : ta ≡ tb = sym va ∙ eqb-true _ _ v ∙ vb in (
                            omega arith,
                            (
                              omega arith,
                              (
                                (λ u. let n1 : ta ≡ w.tags.int → ⊥ = λ e. differ _ _ u (va ∙ e ∙ sym ti) in (
                                  omega arith,
                                  (
                                    omega arith,
                                    (
                                      (λ q. let n2 : ta ≡ w.tags.bool → ⊥ = λ e. differ _ _ q (va ∙ e ∙ sym tbool) in (
                                        omega arith,
                                        (
                                          omega arith,
                                          (
                                            (λ n. here w _ _ (Objects ne n1 n2 (λ e. differ _ _ n (va ∙ e ∙ sym tstring))
                                                (record { numbers = omega arith; memory_is = at.memory_is; input_is = at.input_is; ended_is = at.ended_is; output_is = at.output_is }))),
                                            (λ n. here w _ _ (Strings et (sym va ∙ same_numbers _ _ n ∙ tstring)
                                                (record { at = record { numbers = omega arith; memory_is = at.memory_is; input_is = at.input_is; ended_is = at.ended_is; output_is = at.output_is }; t1_is = ops.t1_is; t2_is = ops.t2_is }))),
                                          ),
                                        ),
                                      )),
                                      (λ q. here w _ _ (Values et (inr (sym va ∙ same_numbers _ _ q ∙ tbool))
                                          (record { at = record { numbers = omega arith; memory_is = at.memory_is; input_is = at.input_is; ended_is = at.ended_is; output_is = at.output_is }; t1_is = ops.t1_is; t2_is = ops.t2_is }))),
                                    ),
                                  ),
                                )),
                                (λ u. here w _ _ (Values et (inl (sym va ∙ same_numbers _ _ u ∙ ti))
                                    (record { at = record { numbers = omega arith; memory_is = at.memory_is; input_is = at.input_is; ended_is = at.ended_is; output_is = at.output_is }; t1_is = ops.t1_is; t2_is = ops.t2_is }))),
                              ),
                            ),
                          )),
                          (λ v. here w _ _ (Others ne (λ e. eqb-false _ _ v (va ∙ e ∙ sym vb))
                              (record { numbers = omega arith; memory_is = at.memory_is; input_is = at.input_is; ended_is = at.ended_is; output_is = at.output_is }))),
                        ),
                      ),
                    )),
                (λ x. here w _ _ (Void ne (inr (sym ops.t2_is ∙ same_numbers _ _ x ∙ zero_is))
                    (record { numbers = omega arith; memory_is = at.memory_is; input_is = at.input_is; ended_is = at.ended_is; output_is = at.output_is }))),
              )),
          (λ y. here w _ _ (Void ne (inl (sym ops.t1_is ∙ same_numbers _ _ y ∙ zero_is))
              (record { numbers = omega arith; memory_is = at.memory_is; input_is = at.input_is; ended_is = at.ended_is; output_is = at.output_is }))),
        )),
        (λ z. here w _ _ (Same (sym ops.t1_is ∙ same_numbers _ _ z ∙ ops.t2_is)
            (record { numbers = omega arith; memory_is = at.memory_is; input_is = at.input_is; ended_is = at.ended_is; output_is = at.output_is }))),
      )

  -- the address to which a verdict leads
  abbrev verdict_place : Bool → ℕ
  verdict_place t = if t then w.place equal_true else w.place equal_false

  -- a verdict by an equal test
  chosen : (t u : Bool) → t ≡ u → (n : ℕ) (p : Pointers) (m : Bytes) (c : Console) (s : State) → Reaches w s 0 n (stands (At w (record p { pc = verdict_place u }) m c))
      → Reaches w s 0 n (stands (At w (record p { pc = verdict_place t }) m c))
  chosen t u e n p m c s r = subst (λ x. Reaches w s 0 n (stands (At w (record p { pc = verdict_place x }) m c))) (sym e) r

  values_compared : (p : Pointers) (m : Bytes) (c : Console) (a b v u : ℕ) (s : State) → HasLines w p.pc equal_values_lines → Operands w p m c a b s → ValueAt w m p.gp a v → ValueAt w m p.gp b u
      → Reaches w s 0 5 (stands (At w (record p { pc = verdict_place (v == u) }) m c))
  values_compared p m c a b v u s has ops first second =
      let laid = w.laid in
      let at = ops.at in
      let va : word s.core.memory (wrap (s.core.registers T1 + 12)) ≡ v = load_eq _ _ _ _ at.memory_is (let l = first.lies in omega arith) ∙ first.value in
      let vb : word s.core.memory (wrap (s.core.registers T2 + 12)) ≡ u = load_eq _ _ _ _ at.memory_is (let l = second.lies in omega arith) ∙ second.value in
      let tests : (word s.core.memory (wrap (s.core.registers T1 + 12)) == word s.core.memory (wrap (s.core.registers T2 + 12))) ≡ (v == u) = ap (λ x. x == word s.core.memory (wrap (s.core.registers T2 + 12))) va ∙ ap (λ x. v == x) vb in
      walk w equal_values_lines 0 s.core.registers s.core.pc s.core.memory (beside s) p.pc 0 0 _ has (omega arith) (
        (let l = first.lies in omega arith),
        (
          (let l = second.lies in omega arith),
          (
            (λ z. let t : (v == u) ≡ true = sym tests ∙ z in
                chosen (v == u) true t 0 p m c _
                (here w _ _ (record { numbers = omega arith; memory_is = at.memory_is; input_is = at.input_is; ended_is = at.ended_is; output_is = at.output_is }))),
            (λ z. let t : (v == u) ≡ false = sym tests ∙ z in
                chosen (v == u) false t 0 p m c _
                (here w _ _ (record { numbers = omega arith; memory_is = at.memory_is; input_is = at.input_is; ended_is = at.ended_is; output_is = at.output_is }))),
          ),
        ),
      )

  -- the bytes from two addresses on are the same
  abbrev pub eq_bytes : Bytes → ℕ → ℕ → ℕ → Bool
  eq_bytes m a b zero = true
  eq_bytes m a b (suc n) = if m a == m b then eq_bytes m (a + 1) (b + 1) n else false

  -- so many bytes may be loaded
  pub record MayRead (gp a n : ℕ) : Type 0 where
    pub from : 268435456 ≤ a
    pub in_data : a < 536870912 → a + n ≤ w.segments.data_end
    pub to : a + n ≤ gp

  bytes_compared : (n : ℕ) (p : Pointers) (m : Bytes) (c : Console) (a b : ℕ) (s : State) → HasLines w p.pc equal_bytes_lines → Operands w p m c a b s → s.core.registers T3 ≡ n
      → MayRead p.gp a n → MayRead p.gp b n → n < 4294967296
      → Reaches w s 0 (10 * n + 10) (stands (At w (record p { pc = verdict_place (eq_bytes m a b n) }) m c))
  bytes_compared zero p m c a b s has ops count first second fits =
      let laid = w.laid in
      let at = ops.at in
      walk w equal_bytes_lines 0 s.core.registers s.core.pc s.core.memory (beside s) p.pc 0 0 _ has (omega arith) (
        (λ z. absurd (differ _ _ z (omega arith))),
        (λ z. here w _ _ (record { numbers = omega arith; memory_is = at.memory_is; input_is = at.input_is; ended_is = at.ended_is; output_is = at.output_is })),
      )
  bytes_compared (suc n) p m c a b s has ops count first second fits =
      let laid = w.laid in
      let at = ops.at in
      let m0 = s.core.memory in
      let begins : w.place equal_bytes ≡ p.pc = has.0.labels.0 in
      let pa : wrap (s.core.registers T1 + 0) ≡ a = omega arith in
      let pb : wrap (s.core.registers T2 + 0) ≡ b = omega arith in
      let va : m0 (wrap (s.core.registers T1 + 0)) ≡ m a = ap m0 pa ∙ ap (λ f. f a) at.memory_is in
      let vb : m0 (wrap (s.core.registers T2 + 0)) ≡ m b = ap m0 pb ∙ ap (λ f. f b) at.memory_is in
      let tests : (m0 (wrap (s.core.registers T1 + 0)) == m0 (wrap (s.core.registers T2 + 0))) ≡ (m a == m b) = ap (λ x. x == m0 (wrap (s.core.registers T2 + 0))) va ∙ ap (λ x. m a == x) vb in
      wider w s 0 0 (10 + (10 * n + 10)) (10 * suc n + 10) _ (omega arith) (omega arith)
      (walk w equal_bytes_lines 0 s.core.registers s.core.pc m0 (beside s) p.pc 0 (10 * n + 10) _ has (omega arith) (
        (λ z. (
          omega arith,
          (
            omega arith,
            (
              (λ y. let t : (m a == m b) ≡ true = sym tests ∙ y in
                  chosen (if m a == m b then eq_bytes m (a + 1) (b + 1) n else false) (eq_bytes m (a + 1) (b + 1) n) (ap (λ x. if x then eq_bytes m (a + 1) (b + 1) n else false) t) (10 * n + 10) p m c _
                  (bytes_compared n p m c (a + 1) (b + 1) _ has
                  (record { at = record { numbers = omega arith; memory_is = at.memory_is; input_is = at.input_is; ended_is = at.ended_is; output_is = at.output_is }; t1_is = omega arith; t2_is = omega arith })
                  (omega arith) (omega arith) (omega arith) (omega arith))),
              (λ y. let t : (m a == m b) ≡ false = sym tests ∙ y in
                  chosen (if m a == m b then eq_bytes m (a + 1) (b + 1) n else false) false (ap (λ x. if x then eq_bytes m (a + 1) (b + 1) n else false) t) (10 * n + 10) p m c _
                  (done w (10 * n + 10) _ _ (record { numbers = omega arith; memory_is = at.memory_is; input_is = at.input_is; ended_is = at.ended_is; output_is = at.output_is }))),
            ),
          ),
        )),
        (λ z. never w _ _ _ (let same = same_numbers _ _ z in omega arith)),
      ))

  -- the lengths of two Strings
  lengths_compared : (p : Pointers) (m : Bytes) (c : Console) (a b : ℕ) (xs ys : List ℕ) (s : State) → HasLines w p.pc equal_strings_lines → Operands w p m c a b s → StringAt w m p.gp a xs → StringAt w m p.gp b ys
      → Reaches w s 0 8 (stands (λ r. ((length xs ≡ length ys → ⊥) × At w (record p { pc = w.place equal_false }) m c r)
      ⊎ ((length xs ≡ length ys) × Operands w (record p { pc = p.pc + 32 }) m c (a + 16) (b + 16) r × (r.core.registers T3 ≡ length xs))))
  lengths_compared p m c a b xs ys s has ops first second =
      let laid = w.laid in
      let at = ops.at in
      let m0 = s.core.memory in
      let r = s.core.registers in
      let pa : word m0 (wrap (r 9 + 12)) ≡ word m (a + 12) = load_eq _ _ _ _ at.memory_is (let l = first.lies in omega arith) in
      let la : word m0 (wrap (word m0 (wrap (r 9 + 12)) + 12)) ≡ length xs = load_eq _ _ _ _ at.memory_is (let l = first.length_is.lies in omega arith) ∙ first.length_is.value in
      let pb : word m0 (wrap (r 10 + 12)) ≡ word m (b + 12) = load_eq _ _ _ _ at.memory_is (let l = second.lies in omega arith) in
      let lb : word m0 (wrap (word m0 (wrap (r 10 + 12)) + 12)) ≡ length ys = load_eq _ _ _ _ at.memory_is (let l = second.length_is.lies in omega arith) ∙ second.length_is.value in
      walk w equal_strings_lines 0 r s.core.pc m0 (beside s) p.pc 0 0 _ has (omega arith) (
        omega arith,
        (
          omega arith,
          (
            omega arith,
            (
              omega arith,
              (
                (λ z. here w _ _ (inr (
                  sym la ∙ eqb-true _ _ z ∙ lb,
                  record { at = record { numbers = omega arith; memory_is = at.memory_is; input_is = at.input_is; ended_is = at.ended_is; output_is = at.output_is }; t1_is = omega arith; t2_is = omega arith },
                  la,
                ))),
                (λ z. here w _ _ (inl (
                  (λ e. eqb-false _ _ z (la ∙ e ∙ sym lb)),
                  record { numbers = omega arith; memory_is = at.memory_is; input_is = at.input_is; ended_is = at.ended_is; output_is = at.output_is },
                ))),
              ),
            ),
          ),
        ),
      )

  -- a Bool is the result
  given : (t : Bool) (p : Pointers) (m : Bytes) (c : Console) (s : State) → HasLines w (w.place equal_true) equal_true_lines → HasLines w (w.place equal_false) equal_false_lines
      → At w (record p { pc = verdict_place t }) m c s → Reaches w s 0 3 (stands (At w (record p { pc = p.ra; acc = constant_place w t }) m c))
  given true p m c s yes' no' at =
      let low : w.place true_constant < 4294967296 = yes'.1.0.names in
      walk w equal_true_lines 0 s.core.registers s.core.pc s.core.memory (beside s) (w.place equal_true) 0 0 _ yes' (omega arith)
      (omega arith, here w _ _ (record { numbers = omega arith; memory_is = at.memory_is; input_is = at.input_is; ended_is = at.ended_is; output_is = at.output_is }))
  given false p m c s yes' no' at =
      let low : w.place false_constant < 4294967296 = no'.1.0.names in
      walk w equal_false_lines 0 s.core.registers s.core.pc s.core.memory (beside s) (w.place equal_false) 0 0 _ no' (omega arith)
      (omega arith, here w _ _ (record { numbers = omega arith; memory_is = at.memory_is; input_is = at.input_is; ended_is = at.ended_is; output_is = at.output_is }))

  -- the bytes of two Strings of one length
  bytes_same : (m : Bytes) (a b : ℕ) (xs ys : List ℕ) → length xs ≡ length ys → ((i : ℕ) → i < length xs → m (a + i) ≡ get_or xs i 0) → ((i : ℕ) → i < length ys → m (b + i) ≡ get_or ys i 0)
      → eq_bytes m a b (length xs) ≡ bytes_eq xs ys
  bytes_same m a b [] [] long first second = refl
  bytes_same m a b [] (y ∷ ys) long first second = absurd (omega arith)
  bytes_same m a b (x ∷ xs) [] long first second = absurd (omega arith)
  bytes_same m a b (x ∷ xs) (y ∷ ys) long first second =
      let za : a + 0 ≡ a = omega arith in
      let zb : b + 0 ≡ b = omega arith in
      let va : m a ≡ x = ap m (sym za) ∙ first 0 (omega arith) in
      let vb : m b ≡ y = ap m (sym zb) ∙ second 0 (omega arith) in
      let rest : eq_bytes m (a + 1) (b + 1) (length xs) ≡ bytes_eq xs ys = bytes_same m (a + 1) (b + 1) xs ys (omega arith)
      (λ i h. let on : a + 1 + i ≡ a + suc i = omega arith in ap m on ∙ first (suc i) (omega arith))
      (λ i h. let on : b + 1 + i ≡ b + suc i = omega arith in ap m on ∙ second (suc i) (omega arith)) in
      ap (λ n. if n == m b then eq_bytes m (a + 1) (b + 1) (length xs) else false) va ∙ ap (λ n. if x == n then eq_bytes m (a + 1) (b + 1) (length xs) else false) vb
      ∙ ap (λ t. if x == y then t else false) rest ∙ both (x == y) (bytes_eq xs ys)
    where
      both : (s t : Bool) → (if s then t else false) ≡ (s && t)
      both true t = refl
      both false t = refl

  -- Strings of other lengths differ
  lengths_differ : (xs ys : List ℕ) → (length xs ≡ length ys → ⊥) → bytes_eq xs ys ≡ false
  lengths_differ xs ys other = by (bytes_eq xs ys) refl
    where
      by : (t : Bool) → bytes_eq xs ys ≡ t → t ≡ false
      by true e = absurd (other (ap length ((bytes_eq-Decides xs ys).0 e)))
      by false e = refl

  -- the values in $t1 and $t2 are compared, and a Bool is the result
  pub compares : (p : Pointers) (m : Bytes) (c : Console) (s : State) (a b ta tb v u : ℕ) (xs ys : List ℕ) → HasLines w (w.place equality) equal_lines → Operands w p m c a b s → p.pc ≡ w.place equality
      → ((a ≡ 0 → ⊥) → Tagged w m p.gp a ta) → ((b ≡ 0 → ⊥) → Tagged w m p.gp b tb) → Prototypes w m p.gp
      → (ta ≡ tb → (ta ≡ w.tags.int) ⊎ (ta ≡ w.tags.bool) → ValueAt w m p.gp a v × ValueAt w m p.gp b u) → (ta ≡ tb → ta ≡ w.tags.string → StringAt w m p.gp a xs × StringAt w m p.gp b ys)
      → Reaches w s 0 (10 * length xs + 47) (stands (λ r. (t : Bool) × (Verdict w a b ta tb v u xs ys t × At w (record p { pc = p.ra; acc = constant_place w t }) m c r)))
  compares p m c s a b ta tb v u xs ys has ops begins first second protos values strings =
      let laid = w.laid in
      let numbers = ops.at.numbers in
      let l5 = equal_true_lines ++ equal_false_lines in
      let l4 = equal_bytes_lines ++ l5 in
      let l3 = equal_strings_lines ++ l4 in
      let l2 = equal_values_lines ++ l3 in
      let pc1 = p.pc + 104 in
      let pc2 = pc1 + 20 in
      let pc3 = pc2 + 32 in
      let pc4 = pc3 + 40 in
      let pc5 = pc4 + 12 in
      let h1 : HasLines w p.pc (equal_begin_lines ++ l2) = has_at w equal_lines (w.place equality) p.pc (omega arith) has in
      let h2 : HasLines w pc1 l2 = has_back w equal_begin_lines l2 p.pc pc1 (omega arith) h1 in
      let h3 : HasLines w pc2 l3 = has_back w equal_values_lines l3 pc1 pc2 (omega arith) h2 in
      let h4 : HasLines w pc3 l4 = has_back w equal_strings_lines l4 pc2 pc3 (omega arith) h3 in
      let h5 : HasLines w pc4 l5 = has_back w equal_bytes_lines l5 pc3 pc4 (omega arith) h4 in
      let h6 : HasLines w pc5 equal_false_lines = has_back w equal_true_lines equal_false_lines pc4 pc5 (omega arith) h5 in
      let values_at : w.place equal_values ≡ pc1 = h2.0.labels.0 in
      let strings_at : w.place equal_strings ≡ pc2 = h3.0.labels.0 in
      let true_at : w.place equal_true ≡ pc4 = h5.0.labels.0 in
      let false_at : w.place equal_false ≡ pc5 = h6.0.labels.0 in
      let k2 : HasLines w (w.place equal_values) equal_values_lines = has_at w equal_values_lines pc1 _ (omega arith) (has_front w equal_values_lines l3 pc1 h2) in
      let k3 : HasLines w (w.place equal_strings) equal_strings_lines = has_at w equal_strings_lines pc2 _ (omega arith) (has_front w equal_strings_lines l4 pc2 h3) in
      let k4 : HasLines w (w.place equal_strings + 32) equal_bytes_lines = has_at w equal_bytes_lines pc3 _ (omega arith) (has_front w equal_bytes_lines l5 pc3 h4) in
      let k5 : HasLines w (w.place equal_true) equal_true_lines = has_at w equal_true_lines pc4 _ (omega arith) (has_front w equal_true_lines equal_false_lines pc4 h5) in
      let k6 : HasLines w (w.place equal_false) equal_false_lines = has_at w equal_false_lines pc5 _ (omega arith) h6 in
      next w s 26 (10 * length xs + 21) (10 * length xs + 47) _ _ (equal_begin p m c a b ta tb s (has_front w equal_begin_lines l2 p.pc h1) ops first second protos) (omega arith)
      (λ r way. go p m c a b ta tb v u xs ys r k2 k3 k4 k5 k6 values strings numbers.gp_to way)
    where
      ending : (n : ℕ) (p : Pointers) (m : Bytes) (c : Console) (a b ta tb v u : ℕ) (xs ys : List ℕ) (s : State) (t : Bool) → 3 ≤ n → HasLines w (w.place equal_true) equal_true_lines → HasLines w (w.place equal_false) equal_false_lines
          → Verdict w a b ta tb v u xs ys t → At w (record p { pc = verdict_place t }) m c s
          → Reaches w s 0 n (stands (λ r. (t : Bool) × (Verdict w a b ta tb v u xs ys t × At w (record p { pc = p.ra; acc = constant_place w t }) m c r)))
      ending n p m c a b ta tb v u xs ys s t enough k5 k6 why at = next w s 3 0 n _ _ (given t p m c s k5 k6 at) (omega arith) (λ r h. done w 0 r _ (t, (why, h)))

      go : (p : Pointers) (m : Bytes) (c : Console) (a b ta tb v u : ℕ) (xs ys : List ℕ) (s : State) → HasLines w (w.place equal_values) equal_values_lines → HasLines w (w.place equal_strings) equal_strings_lines
          → HasLines w (w.place equal_strings + 32) equal_bytes_lines → HasLines w (w.place equal_true) equal_true_lines → HasLines w (w.place equal_false) equal_false_lines
          → (ta ≡ tb → (ta ≡ w.tags.int) ⊎ (ta ≡ w.tags.bool) → ValueAt w m p.gp a v × ValueAt w m p.gp b u) → (ta ≡ tb → ta ≡ w.tags.string → StringAt w m p.gp a xs × StringAt w m p.gp b ys)
          → p.gp ≤ w.segments.heap_end → Way w p m c a b ta tb s
          → Reaches w s 0 (10 * length xs + 21) (stands (λ r. (t : Bool) × (Verdict w a b ta tb v u xs ys t × At w (record p { pc = p.ra; acc = constant_place w t }) m c r)))
      go p m c a b ta tb v u xs ys s k2 k3 k4 k5 k6 values strings below (Same e at) = ending _ p m c a b ta tb v u xs ys s true (omega arith) k5 k6 (Identical e refl) at
      go p m c a b ta tb v u xs ys s k2 k3 k4 k5 k6 values strings below (Void ne z at) = ending _ p m c a b ta tb v u xs ys s false (omega arith) k5 k6 (WithVoid ne z refl) at
      go p m c a b ta tb v u xs ys s k2 k3 k4 k5 k6 values strings below (Others ne d at) = ending _ p m c a b ta tb v u xs ys s false (omega arith) k5 k6 (OtherTags ne d refl) at
      go p m c a b ta tb v u xs ys s k2 k3 k4 k5 k6 values strings below (Objects ne d1 d2 d3 at) = ending _ p m c a b ta tb v u xs ys s false (omega arith) k5 k6 (ByIdentity ne d1 d2 d3 refl) at
      go p m c a b ta tb v u xs ys s k2 k3 k4 k5 k6 values strings below (Values e k ops) =
          let both = values e k in
          next w s 5 3 (10 * length xs + 21) _ _ (values_compared (record p { pc = w.place equal_values }) m c a b v u s k2 ops both.0 both.1) (omega arith)
          (λ r h. ending 3 p m c a b ta tb v u xs ys r (v == u) (omega arith) k5 k6 (ByValue e k refl) h)
      go p m c a b ta tb v u xs ys s k2 k3 k4 k5 k6 values strings below (Strings e k ops) =
          let both = strings e k in
          next w s 8 (10 * length xs + 13) (10 * length xs + 21) _ _ (lengths_compared (record p { pc = w.place equal_strings }) m c a b xs ys s k3 ops both.0 both.1) (omega arith)
          (λ r h. by_length p m c a b ta tb v u xs ys r e k k4 k5 k6 both.0 both.1 below h)
        where
          by_length : (p : Pointers) (m : Bytes) (c : Console) (a b ta tb v u : ℕ) (xs ys : List ℕ) (s : State) → ta ≡ tb → ta ≡ w.tags.string
              → HasLines w (w.place equal_strings + 32) equal_bytes_lines → HasLines w (w.place equal_true) equal_true_lines → HasLines w (w.place equal_false) equal_false_lines
              → StringAt w m p.gp a xs → StringAt w m p.gp b ys → p.gp ≤ w.segments.heap_end
              → ((length xs ≡ length ys → ⊥) × At w (record p { pc = w.place equal_false }) m c s)
              ⊎ ((length xs ≡ length ys) × Operands w (record p { pc = w.place equal_strings + 32 }) m c (a + 16) (b + 16) s × (s.core.registers T3 ≡ length xs))
              → Reaches w s 0 (10 * length xs + 13) (stands (λ r. (t : Bool) × (Verdict w a b ta tb v u xs ys t × At w (record p { pc = p.ra; acc = constant_place w t }) m c r)))
          by_length p m c a b ta tb v u xs ys s e k k4 k5 k6 first second below (inl other) =
              ending _ p m c a b ta tb v u xs ys s false (omega arith) k5 k6 (ByBytes e k (sym (lengths_differ xs ys other.0))) other.1
          by_length p m c a b ta tb v u xs ys s e k k4 k5 k6 first second below (inr same) =
              let laid = w.laid in
              let long = same.0 in
              next w s (10 * length xs + 10) 3 (10 * length xs + 13) _ _
              (bytes_compared (length xs) (record p { pc = w.place equal_strings + 32 }) m c (a + 16) (b + 16) s k4 same.1 same.2 (let l = first.lies in omega arith) (let l = second.lies in omega arith) (let l = first.lies in omega arith)) (omega arith)
              (λ r h. ending 3 p m c a b ta tb v u xs ys r (eq_bytes m (a + 16) (b + 16) (length xs)) (omega arith) k5 k6
              (ByBytes e k (bytes_same m (a + 16) (b + 16) xs ys long (λ i h. first.holds i (omega arith)) (λ i h. second.holds i (omega arith)))) h)
