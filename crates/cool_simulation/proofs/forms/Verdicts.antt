-- The run-time comparison of two words gives the same result as `=` of the two values that they represent.
use Rattle.std.proofs.Common.{◌≡◌, ◌≢◌, ℕ, zero, suc, ◌+◌, ◌-◌, ◌<◌, ◌≤◌, ◌⊎◌, inl, inr, ℤ, pos, negsuc, List, length, refl, sym, ap, ◌∙◌, arith, not}
use Rattle.std.specs.Prelude.{Bool as Truth, true, false, ◌==◌, nat_eq, bytes_eq, if◌then◌else◌}
use Rattle.std.proofs.lemmas.Slice.Eq.{bytes_eq-Decides}
use Rattle.mips_isa.specs.declared.address_map.TheConstants.{HEAP_START}
use Rattle.mips_isa.specs.Bytes.{Bytes, word}
use Rattle.cool_runtime.specs.Reaches.{World}
use Rattle.cool_runtime.specs.Contents.{StringAt}
use Rattle.cool_runtime.specs.Comparison.{Verdict, Identical, WithVoid, OtherTags, ByValue, ByBytes, ByIdentity, ValueAt}
use Rattle.cool_meaning.specs.Values.{Value, Void, Int, Bool, Str, Obj, State}
use Rattle.cool_meaning.specs.Numbers.{fits, word_of}
use Rattle.cool_meaning.specs.Evaluation.{same, same_number}
use Rattle.cool_simulation.specs.Loadings.{Loading, IsLoaded}
use Rattle.cool_simulation.specs.Pictures.{Map, Pic, Pictures, bit}
use Rattle.cool_simulation.proofs.ground.KindsOfValues.{kind, tag_of, number_of, first_bytes, second_bytes, other_kinds, int_kind, bool_kind, string_kind, tagged, value_at, some_address}
use Rattle.std.proofs.lemmas.Bool.{eq-eqb, ne_eqb}
use Rattle.cool_simulation.proofs.ground.Sums.{small_of}
use Rattle.std.proofs.lemmas.Grind.{same_number_lists}

-- Numbers by their words

turned : (a b : ℕ) → a < 2147483648 → b < 2147483648 → nat_eq a b ≡ ((4294967295 - a) == (4294967295 - b))
turned a b h k = by (nat_eq a b) refl
  where
    by : (t : Truth) → nat_eq a b ≡ t → nat_eq a b ≡ ((4294967295 - a) == (4294967295 - b))
    by true e = let is : a ≡ b = grind arith in e ∙ sym (eq-eqb (4294967295 - a) (4294967295 - b) (omega arith))
    by false e = let is : a ≢ b = grind arith in e ∙ sym (ne_eqb (4294967295 - a) (4294967295 - b) (λ f. is (omega arith)))

number_same : (x y : ℤ) → fits x ≡ true → fits y ≡ true → same_number x y ≡ (word_of x == word_of y)
number_same (pos a) (pos b) h k = refl
number_same (pos a) (negsuc b) h k = let x = small_of a h in let y = small_of b k in sym (ne_eqb a (4294967295 - b) (λ e. omega arith))
number_same (negsuc a) (pos b) h k = let x = small_of a h in let y = small_of b k in sym (ne_eqb (4294967295 - a) b (λ e. omega arith))
number_same (negsuc a) (negsuc b) h k = turned a b (small_of a h) (small_of b k)

truth_same : (a b : Truth) → (if a then b else not b) ≡ (bit a == bit b)
truth_same true true = refl
truth_same true false = refl
truth_same false true = refl
truth_same false false = refl

-- Texts that stand at one address are equal

module _ (w : World) (m : Bytes) (gp : ℕ) where
  string_one : (a b : ℕ) (xs ys : List ℕ) → a ≡ b → StringAt w m gp a xs → StringAt w m gp b ys → xs ≡ ys
  string_one a b xs ys e s t =
      let long : length xs ≡ length ys = sym s.length_is.value ∙ (ap (λ x. word m (word m (x + 12) + 12)) e ∙ t.length_is.value) in
      same_number_lists xs ys long (λ i less. sym (s.holds i (omega arith)) ∙ (ap (λ x. m (x + 16 + i)) e ∙ t.holds i (omega arith)))

module _ (l : Loading) (loaded : IsLoaded l) (m : Bytes) (map : Map) (st : State) (gp sp : ℕ) (from : HEAP_START ≤ gp) (pictures : Pictures l.table l.world l.memory m map st gp sp) where
  -- tags of equal addresses are equal
  tags_at : (v u : Value) (a b : ℕ) → Pic l.world m map st.drawn gp v a → Pic l.world m map st.drawn gp u b → a ≡ b → (a ≡ 0 → ⊥) → tag_of l.world l.table v ≡ tag_of l.world l.table u
  tags_at v u a b pv pu e some =
      sym (tagged l loaded m map st gp sp from pictures v a pv some).tag_is ∙ (ap (word m) e ∙ (tagged l loaded m map st gp sp from pictures u b pu (λ z. some (e ∙ z))).tag_is)

  -- values of different kinds: the verdict says no
  mixed : (v u : Value) (a b n n' : ℕ) (xs ys : List ℕ) (t : Truth) → Pic l.world m map st.drawn gp v a → Pic l.world m map st.drawn gp u b → kind v ≢ kind u
      → Verdict l.world a b (tag_of l.world l.table v) (tag_of l.world l.table u) n n' xs ys t → t ≡ false
  mixed v u a b n n' xs ys t pv pu other (Identical e is) = absurd (apart (kind_cases (kind v)))
    where
      kind_cases : (n : ℕ) → (n ≡ 0) ⊎ (n ≢ 0)
      kind_cases zero = inl refl
      kind_cases (suc n) = inr (λ e. omega arith)

      same_tags : (a ≡ 0 → ⊥) → ⊥
      same_tags some = by v pv refl
        where
          tags : tag_of l.world l.table v ≡ tag_of l.world l.table u
          tags = tags_at v u a b pv pu e some

          by : (x : Value) → Pic l.world m map st.drawn gp x a → x ≡ v → ⊥
          by Void px f = some px
          by (Int n) px f = let k = int_kind l loaded m map st gp sp from pictures u b pu (sym tags ∙ ap (tag_of l.world l.table) (sym f)) in let k' = ap kind f in other (omega arith)
          by (Bool n) px f = let k = bool_kind l loaded m map st gp sp from pictures u b pu (sym tags ∙ ap (tag_of l.world l.table) (sym f)) in let k' = ap kind f in other (omega arith)
          by (Str n) px f = let k = string_kind l loaded m map st gp sp from pictures u b pu (sym tags ∙ ap (tag_of l.world l.table) (sym f)) in let k' = ap kind f in other (omega arith)
          by (Obj c i ls) px f = object u pu refl (ap kind f)
            where
              object : (y : Value) → Pic l.world m map st.drawn gp y b → y ≡ u → 4 ≡ kind v → ⊥
              object Void py g k = some (e ∙ py)
              object (Int n) py g k = let k' = int_kind l loaded m map st gp sp from pictures v a pv (tags ∙ ap (tag_of l.world l.table) (sym g)) in omega arith
              object (Bool n) py g k = let k' = bool_kind l loaded m map st gp sp from pictures v a pv (tags ∙ ap (tag_of l.world l.table) (sym g)) in omega arith
              object (Str n) py g k = let k' = string_kind l loaded m map st gp sp from pictures v a pv (tags ∙ ap (tag_of l.world l.table) (sym g)) in omega arith
              object (Obj d j ks) py g k = let k' = ap kind g in other (omega arith)

      apart : (kind v ≡ 0) ⊎ (kind v ≢ 0) → ⊥
      apart (inr some) = same_tags (some_address l loaded m map st gp sp from pictures v a pv some)
      apart (inl none) = some_address l loaded m map st gp sp from pictures u b pu (λ z. other (none ∙ sym z)) (sym e ∙ void_at v pv none)
        where
          void_at : (x : Value) → Pic l.world m map st.drawn gp x a → kind x ≡ 0 → a ≡ 0
          void_at Void px k = px
          void_at (Int n) px k = absurd (omega arith)
          void_at (Bool n) px k = absurd (omega arith)
          void_at (Str n) px k = absurd (omega arith)
          void_at (Obj c i ls) px k = absurd (omega arith)
  mixed v u a b n n' xs ys t pv pu other (WithVoid ne z is) = is
  mixed v u a b n n' xs ys t pv pu other (OtherTags ne tags is) = is
  mixed v u a b n n' xs ys t pv pu other (ByValue tags (inl int) is) =
      let k = int_kind l loaded m map st gp sp from pictures v a pv int in let k' = int_kind l loaded m map st gp sp from pictures u b pu (sym tags ∙ int) in absurd (other (omega arith))
  mixed v u a b n n' xs ys t pv pu other (ByValue tags (inr bool) is) =
      let k = bool_kind l loaded m map st gp sp from pictures v a pv bool in let k' = bool_kind l loaded m map st gp sp from pictures u b pu (sym tags ∙ bool) in absurd (other (omega arith))
  mixed v u a b n n' xs ys t pv pu other (ByBytes tags string is) =
      let k = string_kind l loaded m map st gp sp from pictures v a pv string in let k' = string_kind l loaded m map st gp sp from pictures u b pu (sym tags ∙ string) in absurd (other (omega arith))
  mixed v u a b n n' xs ys t pv pu other (ByIdentity ne i j s is) = is

  -- Values of one kind

  void_verdict : (a b n n' : ℕ) (xs ys : List ℕ) (t : Truth) → a ≡ 0 → b ≡ 0 → Verdict l.world a b (tag_of l.world l.table Void) (tag_of l.world l.table Void) n n' xs ys t → t ≡ true
  void_verdict a b n n' xs ys t e f (Identical same is) = is
  void_verdict a b n n' xs ys t e f (WithVoid ne z is) = absurd (ne (e ∙ sym f))
  void_verdict a b n n' xs ys t e f (OtherTags ne tags is) = absurd (ne (e ∙ sym f))
  void_verdict a b n n' xs ys t e f (ByValue tags (inl int) is) = absurd (omega arith)
  void_verdict a b n n' xs ys t e f (ByValue tags (inr bool) is) = absurd (omega arith)
  void_verdict a b n n' xs ys t e f (ByBytes tags string is) = absurd (omega arith)
  void_verdict a b n n' xs ys t e f (ByIdentity ne i j s is) = absurd (ne (e ∙ sym f))

  number_verdict : (v u : Value) (a b n n' : ℕ) (xs ys : List ℕ) (t : Truth) → Pic l.world m map st.drawn gp v a → tag_of l.world l.table v ≡ tag_of l.world l.table u → a ≢ 0 → b ≢ 0
      → (tag_of l.world l.table v ≡ l.world.tags.int) ⊎ (tag_of l.world l.table v ≡ l.world.tags.bool) → ValueAt l.world m gp a n → ValueAt l.world m gp b n'
      → Verdict l.world a b (tag_of l.world l.table v) (tag_of l.world l.table u) n n' xs ys t → t ≡ (n == n')
  number_verdict v u a b n n' xs ys t pv one some some' which x y (Identical e is) = is ∙ sym (eq-eqb n n' (sym x.value ∙ (ap (λ z. word m (z + 12)) e ∙ y.value)))
  number_verdict v u a b n n' xs ys t pv one some some' which x y (WithVoid ne (inl z) is) = absurd (some z)
  number_verdict v u a b n n' xs ys t pv one some some' which x y (WithVoid ne (inr z) is) = absurd (some' z)
  number_verdict v u a b n n' xs ys t pv one some some' which x y (OtherTags ne tags is) = absurd (tags one)
  number_verdict v u a b n n' xs ys t pv one some some' which x y (ByValue tags w is) = is
  number_verdict v u a b n n' xs ys t pv one some some' (inl int) x y (ByBytes tags string is) =
      let k = int_kind l loaded m map st gp sp from pictures v a pv int in let k' = string_kind l loaded m map st gp sp from pictures v a pv string in absurd (omega arith)
  number_verdict v u a b n n' xs ys t pv one some some' (inr bool) x y (ByBytes tags string is) =
      let k = bool_kind l loaded m map st gp sp from pictures v a pv bool in let k' = string_kind l loaded m map st gp sp from pictures v a pv string in absurd (omega arith)
  number_verdict v u a b n n' xs ys t pv one some some' (inl int) x y (ByIdentity ne i j s is) = absurd (i int)
  number_verdict v u a b n n' xs ys t pv one some some' (inr bool) x y (ByIdentity ne i j s is) = absurd (j bool)

  string_verdict : (a b n n' : ℕ) (xs ys : List ℕ) (t : Truth) → Pic l.world m map st.drawn gp (Str xs) a → Pic l.world m map st.drawn gp (Str ys) b → a ≢ 0 → b ≢ 0
      → Verdict l.world a b l.world.tags.string l.world.tags.string n n' xs ys t → t ≡ bytes_eq xs ys
  string_verdict a b n n' xs ys t pv pu some some' (Identical e is) = is ∙ sym ((bytes_eq-Decides xs ys).1 (string_one l.world m gp a b xs ys e pv.0 pu.0))
  string_verdict a b n n' xs ys t pv pu some some' (WithVoid ne (inl z) is) = absurd (some z)
  string_verdict a b n n' xs ys t pv pu some some' (WithVoid ne (inr z) is) = absurd (some' z)
  string_verdict a b n n' xs ys t pv pu some some' (OtherTags ne tags is) = absurd (tags refl)
  string_verdict a b n n' xs ys t pv pu some some' (ByValue tags (inl int) is) = let k = int_kind l loaded m map st gp sp from pictures (Str xs) a pv int in absurd (omega arith)
  string_verdict a b n n' xs ys t pv pu some some' (ByValue tags (inr bool) is) = let k = bool_kind l loaded m map st gp sp from pictures (Str xs) a pv bool in absurd (omega arith)
  string_verdict a b n n' xs ys t pv pu some some' (ByBytes tags string is) = is
  string_verdict a b n n' xs ys t pv pu some some' (ByIdentity ne i j s is) = absurd (s refl)

  object_verdict : (c d : _) (i j : ℕ) (ls ks : List ℕ) (a b n n' : ℕ) (xs ys : List ℕ) (t : Truth) → Pic l.world m map st.drawn gp (Obj c i ls) a → Pic l.world m map st.drawn gp (Obj d j ks) b
      → Verdict l.world a b (tag_of l.world l.table (Obj c i ls)) (tag_of l.world l.table (Obj d j ks)) n n' xs ys t → t ≡ nat_eq i j
  object_verdict c d i j ls ks a b n n' xs ys t pv pu verdict = by verdict
    where
      apart : (a ≡ b → ⊥) → nat_eq i j ≡ false
      apart ne = ne_eqb i j (λ e. ne (pv.0 ∙ (ap map.address e ∙ sym pu.0)))

      by : Verdict l.world a b (tag_of l.world l.table (Obj c i ls)) (tag_of l.world l.table (Obj d j ks)) n n' xs ys t → t ≡ nat_eq i j
      by (Identical e is) = is ∙ sym (eq-eqb i j (pictures.injective i j pv.1 pu.1 (sym pv.0 ∙ (e ∙ pu.0))))
      by (WithVoid ne z is) = is ∙ sym (apart ne)
      by (OtherTags ne tags is) = is ∙ sym (apart ne)
      by (ByValue tags (inl int) is) = let k = int_kind l loaded m map st gp sp from pictures (Obj c i ls) a pv int in absurd (omega arith)
      by (ByValue tags (inr bool) is) = let k = bool_kind l loaded m map st gp sp from pictures (Obj c i ls) a pv bool in absurd (omega arith)
      by (ByBytes tags string is) = let k = string_kind l loaded m map st gp sp from pictures (Obj c i ls) a pv string in absurd (omega arith)
      by (ByIdentity ne x y z is) = is ∙ sym (apart ne)

  -- The verdict on two words is that on their values.
  pub verdict_same : (v u : Value) (a b : ℕ) (t : Truth) → Pic l.world m map st.drawn gp v a → Pic l.world m map st.drawn gp u b
      → Verdict l.world a b (tag_of l.world l.table v) (tag_of l.world l.table u) (number_of v) (number_of u) (first_bytes v u) (second_bytes v u) t → t ≡ same v u
  verdict_same v u a b t pv pu verdict = by order
    where
      order : (kind v ≡ kind u) ⊎ (kind v ≢ kind u)
      order = grind arith

      alike : (x y : Value) → Pic l.world m map st.drawn gp x a → Pic l.world m map st.drawn gp y b → kind x ≡ kind y
          → Verdict l.world a b (tag_of l.world l.table x) (tag_of l.world l.table y) (number_of x) (number_of y) (first_bytes x y) (second_bytes x y) t → t ≡ same x y
      alike Void Void px py k h = void_verdict a b _ _ _ _ t px py h
      alike (Int n) (Int o) px py k h =
          number_verdict (Int n) (Int o) a b (word_of n) (word_of o) _ _ t px refl (some_address l loaded m map st gp sp from pictures (Int n) a px (λ e. omega arith))
          (some_address l loaded m map st gp sp from pictures (Int o) b py (λ e. omega arith)) (inl refl) (value_at l loaded m map st gp sp from pictures (Int n) a px (inl refl))
          (value_at l loaded m map st gp sp from pictures (Int o) b py (inl refl)) h ∙ sym (number_same n o px.1 py.1)
      alike (Bool n) (Bool o) px py k h =
          number_verdict (Bool n) (Bool o) a b (bit n) (bit o) _ _ t px refl (some_address l loaded m map st gp sp from pictures (Bool n) a px (λ e. omega arith))
          (some_address l loaded m map st gp sp from pictures (Bool o) b py (λ e. omega arith)) (inr refl) (value_at l loaded m map st gp sp from pictures (Bool n) a px (inr refl))
          (value_at l loaded m map st gp sp from pictures (Bool o) b py (inr refl)) h ∙ sym (truth_same n o)
      alike (Str xs) (Str ys) px py k h =
          string_verdict a b _ _ xs ys t px py (some_address l loaded m map st gp sp from pictures (Str xs) a px (λ e. omega arith)) (some_address l loaded m map st gp sp from pictures (Str ys) b py (λ e. omega arith)) h
      alike (Obj c i ls) (Obj d j ks) px py k h = object_verdict c d i j ls ks a b _ _ _ _ t px py h
      alike Void (Int o) px py k h = absurd (omega arith)
      alike Void (Bool o) px py k h = absurd (omega arith)
      alike Void (Str o) px py k h = absurd (omega arith)
      alike Void (Obj c i ls) px py k h = absurd (omega arith)
      alike (Int n) Void px py k h = absurd (omega arith)
      alike (Int n) (Bool o) px py k h = absurd (omega arith)
      alike (Int n) (Str o) px py k h = absurd (omega arith)
      alike (Int n) (Obj c i ls) px py k h = absurd (omega arith)
      alike (Bool n) Void px py k h = absurd (omega arith)
      alike (Bool n) (Int o) px py k h = absurd (omega arith)
      alike (Bool n) (Str o) px py k h = absurd (omega arith)
      alike (Bool n) (Obj c i ls) px py k h = absurd (omega arith)
      alike (Str n) Void px py k h = absurd (omega arith)
      alike (Str n) (Int o) px py k h = absurd (omega arith)
      alike (Str n) (Bool o) px py k h = absurd (omega arith)
      alike (Str n) (Obj c i ls) px py k h = absurd (omega arith)
      alike (Obj c i ls) Void px py k h = absurd (omega arith)
      alike (Obj c i ls) (Int o) px py k h = absurd (omega arith)
      alike (Obj c i ls) (Bool o) px py k h = absurd (omega arith)
      alike (Obj c i ls) (Str o) px py k h = absurd (omega arith)

      by : (kind v ≡ kind u) ⊎ (kind v ≢ kind u) → t ≡ same v u
      by (inl k) = alike v u pv pu k verdict
      by (inr other) = mixed v u a b _ _ _ _ t pv pu other verdict ∙ sym (other_kinds v u other)

  -- strings of that tag
  pub strings_at : (v u : Value) (a b : ℕ) → Pic l.world m map st.drawn gp v a → Pic l.world m map st.drawn gp u b → kind v ≡ 3 → kind u ≡ 3
      → StringAt l.world m gp a (first_bytes v u) × StringAt l.world m gp b (second_bytes v u)
  strings_at (Str xs) (Str ys) a b pv pu k k' = (pv.0, pu.0)
  strings_at (Str xs) Void a b pv pu k k' = absurd (omega arith)
  strings_at (Str xs) (Int n) a b pv pu k k' = absurd (omega arith)
  strings_at (Str xs) (Bool n) a b pv pu k k' = absurd (omega arith)
  strings_at (Str xs) (Obj c i ls) a b pv pu k k' = absurd (omega arith)
  strings_at Void u a b pv pu k k' = absurd (omega arith)
  strings_at (Int n) u a b pv pu k k' = absurd (omega arith)
  strings_at (Bool n) u a b pv pu k k' = absurd (omega arith)
  strings_at (Obj c i ls) u a b pv pu k k' = absurd (omega arith)
