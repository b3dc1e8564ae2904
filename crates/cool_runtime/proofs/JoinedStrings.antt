-- After the stores of the routine for `String.concat`, memory has a String whose bytes are those of the first String followed by those of the second.
use Rattle.std.proofs.Common.{◌≡◌, ℕ, ◌+◌, ◌-◌, ◌*◌, ◌/◌, ◌%◌, ◌<◌, ◌≤◌, ◌⊎◌, inl, inr, List, [], ◌∷◌, ◌++◌, length, get_or, refl, sym, ap, ◌∙◌, subst, arith, length-append}
use Rattle.std.proofs.lemmas.List.{get_or_append_left, get_or-append_right}
use Rattle.mips_isa.specs.Bytes.{Bytes}
use Rattle.cool_runtime.specs.Reaches.{World}
use Rattle.cool_runtime.specs.Labels.{int_prototype, string_prototype}
use Rattle.cool_runtime.specs.Contents.{IntAt, StringAt, IsText, Same, words_of_bytes}
use Rattle.cool_runtime.specs.Machines.{with_string_head, with_string, copied_bytes, with_joined}
use Rattle.cool_runtime.proofs.Words.{byte_other}
use Rattle.cool_runtime.proofs.CopiedObjects.{text_byte}
use Rattle.cool_runtime.proofs.MadeStrings.{bytes_other, bytes_are, made_string, string_head_same, rest_of_word}

pub text_append : (xs ys : List ℕ) → IsText xs → IsText ys → IsText (xs ++ ys)
text_append [] ys a b = b
text_append (x ∷ xs) ys a b = (a.0, text_append xs ys a.1 b)

module _ (w : World) where
  -- a byte of a String, loaded and stored
  pub string_byte : (m m' : Bytes) (gp sp a : ℕ) (bytes : List ℕ) → Same m m' gp sp → StringAt w m gp a bytes → (i : ℕ) → i < length bytes → m' (a + 16 + i) % 256 ≡ get_or bytes i 0
  string_byte m m' gp sp a bytes same at i less =
      let b = text_byte bytes i at.text in
      let is : m' (a + 16 + i) ≡ get_or bytes i 0 = same.below (a + 16 + i) (omega (arith, at.lies)) ∙ at.holds i (omega arith) in
      omega arith

  pub joined_string : (m : Bytes) (gp sp a b : ℕ) (xs ys other : List ℕ) → 536870912 ≤ gp → gp < 2147483648 → gp % 4 ≡ 0 → StringAt w m gp a xs → StringAt w m gp b ys
      → IntAt w m gp (w.place int_prototype) 0 → StringAt w m gp (w.place string_prototype) other → let n = length xs + length ys in gp + 44 + 4 * (n / 4) ≤ sp → n < 1073741824
      → StringAt w (with_joined w m gp a b (length xs) (length ys)) (gp + 44 + 4 * (n / 4)) (gp + 24) (xs ++ ys) × Same m (with_joined w m gp a b (length xs) (length ys)) gp sp
  joined_string m gp sp a b xs ys other from under even first second int string room small =
      let la = length xs in
      let lb = length ys in
      let n = la + lb in
      let m2 = with_string w m gp n in
      let m3 = copied_bytes m2 (a + 16) (gp + 40) la in
      let m4 = copied_bytes m3 (b + 16) (gp + 40 + la) lb in
      let long : length (xs ++ ys) ≡ n = length-append xs ys in
      let head : Same m m2 gp sp = string_head_same w m gp sp n room in
      let outside : (q : ℕ) → (q < gp + 40) ⊎ (gp + 40 + n ≤ q) → m4 q ≡ m2 q =
      λ q h. bytes_other m3 (b + 16) (gp + 40 + la) lb q (grind arith) ∙ bytes_other m2 (a + 16) (gp + 40) la q (grind arith) in
      let below : Same m m3 gp sp = record {
        below = λ q h. bytes_other m2 (a + 16) (gp + 40) la q (inl (omega arith)) ∙ head.below q h;
        over = λ q h. bytes_other m2 (a + 16) (gp + 40) la q (inr (omega arith)) ∙ head.over q h;
      } in
      let whole : Same m m4 gp sp = record {
        below = λ q h. outside q (inl (omega arith)) ∙ head.below q h;
        over = λ q h. outside q (inr (omega arith)) ∙ head.over q h;
      } in
      let byte : (i : ℕ) → i < n → m4 (gp + 40 + i) ≡ get_or (xs ++ ys) i 0 = λ i h. by m gp sp a b xs ys first second head below i h (order i la) in
      let made = made_string w m m4 gp (w.place int_prototype) (w.place string_prototype) (xs ++ ys) other from under even (omega arith) int string (text_append xs ys first.text second.text)
      (λ q h. outside q (inl h) ∙ byte_other _ (gp + 40 + 4 * (n / 4)) 0 q (inl (omega arith)) ∙ ap (λ k. with_string_head w m gp k q) (sym long))
      (λ i h. byte i (omega arith))
      (λ i h k. outside (gp + 40 + i) (inr (omega arith)) ∙ rest_of_word w m gp n i (omega arith) (subst (λ l. i < 4 * words_of_bytes l) long k)) in
      (subst (λ k. StringAt w m4 (gp + 44 + 4 * (k / 4)) (gp + 24) (xs ++ ys)) long made, whole)
    where
      order : (i k : ℕ) → (i < k) ⊎ (k ≤ i)
      order i k = grind arith

      by : (m : Bytes) (gp sp a b : ℕ) (xs ys : List ℕ) → StringAt w m gp a xs → StringAt w m gp b ys
          → Same m (with_string w m gp (length xs + length ys)) gp sp
          → Same m (copied_bytes (with_string w m gp (length xs + length ys)) (a + 16) (gp + 40) (length xs)) gp sp
          → (i : ℕ) → i < length xs + length ys → (i < length xs) ⊎ (length xs ≤ i)
          → with_joined w m gp a b (length xs) (length ys) (gp + 40 + i) ≡ get_or (xs ++ ys) i 0
      by m gp sp a b xs ys first second head below i less (inl near) =
          let m2 = with_string w m gp (length xs + length ys) in
          let m3 = copied_bytes m2 (a + 16) (gp + 40) (length xs) in
          bytes_other m3 (b + 16) (gp + 40 + length xs) (length ys) (gp + 40 + i) (inl (omega arith))
          ∙ bytes_are m2 (a + 16) (gp + 40) (length xs) i near (omega (arith, first.lies))
          ∙ string_byte m m2 gp sp a xs head first i near ∙ sym (get_or_append_left xs ys 0 i near)
      by m gp sp a b xs ys first second head below i less (inr far) =
          let m2 = with_string w m gp (length xs + length ys) in
          let m3 = copied_bytes m2 (a + 16) (gp + 40) (length xs) in
          let j = i - length xs in
          let at : gp + 40 + i ≡ gp + 40 + length xs + j = omega arith in
          ap (copied_bytes m3 (b + 16) (gp + 40 + length xs) (length ys)) at
          ∙ bytes_are m3 (b + 16) (gp + 40 + length xs) (length ys) j (omega arith) (omega (arith, second.lies))
          ∙ string_byte m m3 gp sp b ys below second j (omega arith) ∙ sym (get_or-append_right xs ys (length xs) i 0 refl far)
