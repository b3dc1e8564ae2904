-- After an object is copied, memory has the copy at the next free heap address, and the memory below that address and on the stack is unchanged.
use Rattle.std.proofs.Common.{◌≡◌, ℕ, zero, suc, ◌+◌, ◌-◌, ◌*◌, ◌/◌, ◌%◌, ◌<◌, ◌≤◌, ◌⊎◌, inl, inr, List, [], ◌∷◌, length, get_or, refl, sym, ap, ◌∙◌, subst, arith}
use Rattle.mips_isa.specs.Bytes.{Bytes, word, set_word}
use Rattle.cool_runtime.specs.Reaches.{World}
use Rattle.cool_runtime.specs.Contents.{IntAt, HeadAt, HeadFits, Same, ObjectAt, StringAt, IsText, words_of_bytes}
use Rattle.cool_runtime.specs.Machines.{copied, with_copy}
use Rattle.cool_runtime.proofs.Words.{byte_other, byte_0, byte_1, byte_2, byte_3, word_same, word_other, word_equal}
use Rattle.cool_runtime.proofs.Objects.{int_kept}

pub copied_other : (m : Bytes) (from to n q : ℕ) → (q < to) ⊎ (to + 4 * n ≤ q) → copied m from to n q ≡ m q
copied_other m from to zero q h = refl
copied_other m from to (suc n) q h =
    let on : (q < to + 4) ⊎ (to + 4 + 4 * n ≤ q) = grind arith in
    let off : (q < to) ⊎ (to + 4 ≤ q) = grind arith in
    copied_other (set_word m to (word m from)) (from + 4) (to + 4) n q on ∙ byte_other m to (word m from) q off

-- a byte of a text, or a zero after it, is a byte
pub text_byte : (bytes : List ℕ) (i : ℕ) → IsText bytes → get_or bytes i 0 < 256
text_byte [] i text = omega arith
text_byte (b ∷ rest) zero text = text.0.1
text_byte (b ∷ rest) (suc i) text = text_byte rest i text.1

-- the words are those of the source
pub copied_word : (m : Bytes) (from to n k : ℕ) → k < n → from + 4 * n ≤ to → word m (from + 4 * k) < 4294967296
    → word (copied m from to n) (to + 4 * k) ≡ word m (from + 4 * k)
copied_word m from to zero k less apart fits = absurd (omega arith)
copied_word m from to (suc n) zero less apart fits =
    let m1 = set_word m to (word m from) in
    let zero_to : to + 4 * zero ≡ to = omega arith in
    let zero_from : from + 4 * zero ≡ from = omega arith in
    let small : word m from < 4294967296 = subst (λ a. word m a < 4294967296) zero_from fits in
    ap (word (copied m1 (from + 4) (to + 4) n)) zero_to
    ∙ word_equal m1 (copied m1 (from + 4) (to + 4) n) to (λ q a b. copied_other m1 (from + 4) (to + 4) n q (inl (omega arith)))
    ∙ word_same m to (word m from) small ∙ ap (word m) (sym zero_from)
copied_word m from to (suc n) (suc k) less apart fits =
    let m1 = set_word m to (word m from) in
    let on_to : to + 4 * suc k ≡ to + 4 + 4 * k = omega arith in
    let on_from : from + 4 + 4 * k ≡ from + 4 * suc k = omega arith in
    let same : word m1 (from + 4 + 4 * k) ≡ word m (from + 4 * suc k) = word_other m to (from + 4 + 4 * k) (word m from) (inl (omega arith)) ∙ ap (word m) on_from in
    ap (word (copied m1 (from + 4) (to + 4) n)) on_to
    ∙ copied_word m1 (from + 4) (to + 4) n k (omega arith) (omega arith) (subst (λ v. v < 4294967296) (sym same) fits) ∙ same

-- a stored word's bytes are those of the word that was loaded
four_bytes : (m : Bytes) (from to j : ℕ) → j < 4 → ((i : ℕ) → i < 4 → m (from + i) < 256) → set_word m to (word m from) (to + j) ≡ m (from + j)
unfolding word
four_bytes m from to zero less bytes =
    let z : to + zero ≡ to = omega arith in
    let y : from + zero ≡ from = omega arith in
    let b0 : m from < 256 = subst (λ a. m a < 256) y (bytes 0 (omega arith)) in
    ap (set_word m to (word m from)) z ∙ byte_0 m to (word m from) ∙ (let v : (m from + 256 * m (from + 1) + 65536 * m (from + 2) + 16777216 * m (from + 3)) % 256 ≡ m from = omega arith in v) ∙ ap m (sym y)
four_bytes m from to (suc zero) less bytes =
    let b0 : m from < 256 = subst (λ a. m a < 256) (let y : from + 0 ≡ from = omega arith in y) (bytes 0 (omega arith)) in
    let b1 : m (from + 1) < 256 = bytes 1 (omega arith) in
    byte_1 m to (word m from) ∙ (let v : (m from + 256 * m (from + 1) + 65536 * m (from + 2) + 16777216 * m (from + 3)) / 256 % 256 ≡ m (from + 1) = omega arith in v)
four_bytes m from to (suc (suc zero)) less bytes =
    let b0 : m from < 256 = subst (λ a. m a < 256) (let y : from + 0 ≡ from = omega arith in y) (bytes 0 (omega arith)) in
    let b1 : m (from + 1) < 256 = bytes 1 (omega arith) in
    let b2 : m (from + 2) < 256 = bytes 2 (omega arith) in
    byte_2 m to (word m from) ∙ (let v : (m from + 256 * m (from + 1) + 65536 * m (from + 2) + 16777216 * m (from + 3)) / 65536 % 256 ≡ m (from + 2) = omega arith in v)
four_bytes m from to (suc (suc (suc zero))) less bytes =
    let b0 : m from < 256 = subst (λ a. m a < 256) (let y : from + 0 ≡ from = omega arith in y) (bytes 0 (omega arith)) in
    let b1 : m (from + 1) < 256 = bytes 1 (omega arith) in
    let b2 : m (from + 2) < 256 = bytes 2 (omega arith) in
    let b3 : m (from + 3) < 256 = bytes 3 (omega arith) in
    byte_3 m to (word m from) ∙ (let v : (m from + 256 * m (from + 1) + 65536 * m (from + 2) + 16777216 * m (from + 3)) / 16777216 % 256 ≡ m (from + 3) = omega arith in v)
four_bytes m from to (suc (suc (suc (suc j)))) less bytes = absurd (omega arith)

-- the bytes of a word are those of the source, where they are bytes
pub copied_byte : (m : Bytes) (from to n k j : ℕ) → k < n → j < 4 → from + 4 * n ≤ to → ((i : ℕ) → i < 4 → m (from + 4 * k + i) < 256)
    → copied m from to n (to + 4 * k + j) ≡ m (from + 4 * k + j)
copied_byte m from to zero k j less small apart bytes = absurd (omega arith)
copied_byte m from to (suc n) zero j less small apart bytes =
    let m1 = set_word m to (word m from) in
    let zero_to : to + 4 * zero + j ≡ to + j = omega arith in
    let zero_from : from + j ≡ from + 4 * zero + j = omega arith in
    ap (copied m1 (from + 4) (to + 4) n) zero_to
    ∙ copied_other m1 (from + 4) (to + 4) n (to + j) (inl (omega arith))
    ∙ four_bytes m from to j small (λ i h. let y : from + 4 * zero + i ≡ from + i = omega arith in subst (λ a. m a < 256) y (bytes i h)) ∙ ap m zero_from
copied_byte m from to (suc n) (suc k) j less small apart bytes =
    let m1 = set_word m to (word m from) in
    let on_to : to + 4 * suc k + j ≡ to + 4 + 4 * k + j = omega arith in
    let same : (i : ℕ) → i < 4 → m1 (from + 4 + 4 * k + i) ≡ m (from + 4 * suc k + i) =
    λ i h. let on_from : from + 4 + 4 * k + i ≡ from + 4 * suc k + i = omega arith in byte_other m to (word m from) (from + 4 + 4 * k + i) (inl (omega arith)) ∙ ap m on_from in
    ap (copied m1 (from + 4) (to + 4) n) on_to
    ∙ copied_byte m1 (from + 4) (to + 4) n k j (omega arith) small (omega arith) (λ i h. subst (λ b. b < 256) (sym (same i h)) (bytes i h)) ∙ same j small

module _ (w : World) where
  -- memory below gp and on the stack is the same
  pub copy_same : (m : Bytes) (gp sp a size : ℕ) → gp + 4 * size + 4 ≤ sp → Same m (with_copy m gp a size) gp sp
  copy_same m gp sp a size room = record {
    below = λ q h. copied_other (set_word m gp 4294967295) a (gp + 4) size q (inl (omega arith)) ∙ byte_other m gp 4294967295 q (inl h);
    over = λ q h. copied_other (set_word m gp 4294967295) a (gp + 4) size q (inr (omega arith)) ∙ byte_other m gp 4294967295 q (inr (omega arith));
  }

  -- a word of the copy
  copy_word : (m : Bytes) (gp a size k : ℕ) → k < size → a + 4 * size ≤ gp → word m (a + 4 * k) < 4294967296 → word (with_copy m gp a size) (gp + 4 + 4 * k) ≡ word m (a + 4 * k)
  copy_word m gp a size k less apart fits =
      let m1 = set_word m gp 4294967295 in
      let same : word m1 (a + 4 * k) ≡ word m (a + 4 * k) = word_other m gp (a + 4 * k) 4294967295 (inl (omega arith)) in
      copied_word m1 a (gp + 4) size k less (omega arith) (subst (λ v. v < 4294967296) (sym same) fits) ∙ same

  copy_head : (m : Bytes) (gp a tag size table : ℕ) → 3 ≤ size → a + 4 * size ≤ gp → HeadAt m a tag size table → HeadFits tag size table
      → HeadAt (with_copy m gp a size) (gp + 4) tag size table
  copy_head m gp a tag size table some apart head fits =
      let m1 = set_word m gp 4294967295 in
      let at : gp + 4 - 4 ≡ gp = omega arith in
      let a0 : a + 4 * 0 ≡ a = omega arith in
      let g0 : gp + 4 + 4 * 0 ≡ gp + 4 = omega arith in
      let first : word m (a + 4 * 0) ≡ tag = ap (word m) a0 ∙ head.tag_is in
      record {
        mark = ap (word (with_copy m gp a size)) at ∙ word_equal m1 (with_copy m gp a size) gp (λ q b c. copied_other m1 a (gp + 4) size q (inl (omega arith))) ∙ word_same m gp 4294967295 (omega arith);
        tag_is = ap (word (with_copy m gp a size)) (sym g0) ∙ copy_word m gp a size 0 (omega arith) apart (subst (λ v. v < 4294967296) (sym first) fits.tag_fits) ∙ first;
        size_is = copy_word m gp a size 1 (omega arith) apart (subst (λ v. v < 4294967296) (sym head.size_is) (omega (arith, fits.size_fits))) ∙ head.size_is;
        table_is = copy_word m gp a size 2 (omega arith) apart (subst (λ v. v < 4294967296) (sym head.table_is) fits.table_fits) ∙ head.table_is;
      }

  pub copied_object : (m : Bytes) (gp a tag size table : ℕ) (words : List ℕ) → 536870912 ≤ gp → gp % 4 ≡ 0 → ObjectAt w m gp a tag size table words
      → ObjectAt w (with_copy m gp a size) (gp + 4 * size + 4) (gp + 4) tag size table words
  copied_object m gp a tag size table words from even at =
      let some : 3 ≤ size = omega (arith, at.long) in
      record {
        lies = omega arith;
        head = copy_head m gp a tag size table some at.lies.to at.head at.fits;
        fits = at.fits;
        long = at.long;
        attributes = λ k h.
            let on : a + 12 + 4 * k ≡ a + 4 * (3 + k) = omega arith in
            let at_g : gp + 4 + 12 + 4 * k ≡ gp + 4 + 4 * (3 + k) = omega arith in
            let held : word m (a + 4 * (3 + k)) ≡ get_or words k 0 = ap (word m) (sym on) ∙ at.attributes k h in
            ap (word (with_copy m gp a size)) at_g ∙ copy_word m gp a size (3 + k) (omega (arith, at.long)) at.lies.to (subst (λ v. v < 4294967296) (sym held) (at.words_fit k h)) ∙ held;
        words_fit = at.words_fit;
      }

  pub copied_int : (m : Bytes) (gp a v : ℕ) → 536870912 ≤ gp → gp % 4 ≡ 0 → IntAt w m gp a v → IntAt w (with_copy m gp a 4) (gp + 20) (gp + 4) v
  copied_int m gp a v from even at =
      let at_g : gp + 4 + 12 ≡ gp + 4 + 4 * 3 = omega arith in
      record {
        lies = omega arith;
        head = copy_head m gp a _ 4 _ (omega arith) at.lies.to at.head at.head_fits;
        head_fits = at.head_fits;
        value = copy_word m gp a 4 3 (omega arith) at.lies.to (subst (λ v. v < 4294967296) (sym at.value) at.fits) ∙ at.value;
        fits = at.fits;
      }

  -- a byte of the copy
  copy_byte : (m : Bytes) (gp a size i : ℕ) → i < 4 * size → a + 4 * size ≤ gp → ((q : ℕ) → a + 4 * (i / 4) ≤ q → q < a + 4 * (i / 4) + 4 → m q < 256)
      → with_copy m gp a size (gp + 4 + i) ≡ m (a + i)
  copy_byte m gp a size i less apart bytes =
      let m1 = set_word m gp 4294967295 in
      let k = i / 4 in
      let j = i % 4 in
      let same : (q : ℕ) → q < gp → m1 q ≡ m q = λ q h. byte_other m gp 4294967295 q (inl h) in
      let at_g : gp + 4 + i ≡ gp + 4 + 4 * k + j = omega arith in
      let at_a : a + 4 * k + j ≡ a + i = omega arith in
      ap (with_copy m gp a size) at_g
      ∙ copied_byte m1 a (gp + 4) size k j (omega arith) (omega arith) (omega arith) (λ l h. subst (λ b. b < 256) (sym (same (a + 4 * k + l) (omega arith))) (bytes (a + 4 * k + l) (omega arith) (omega arith)))
      ∙ same (a + 4 * k + j) (omega arith) ∙ ap m at_a

  pub copied_string : (m : Bytes) (gp sp a : ℕ) (bytes : List ℕ) → 536870912 ≤ gp → gp % 4 ≡ 0 → gp < 4294967296 → StringAt w m gp a bytes
      → gp + 4 * (4 + words_of_bytes (length bytes)) + 4 ≤ sp
      → StringAt w (with_copy m gp a (4 + words_of_bytes (length bytes))) (gp + 4 * (4 + words_of_bytes (length bytes)) + 4) (gp + 4) bytes
  copied_string m gp sp a bytes from even small at room =
      let n = words_of_bytes (length bytes) in
      let size = 4 + n in
      let m' = with_copy m gp a size in
      let at_g : gp + 4 + 12 ≡ gp + 4 + 4 * 3 = omega arith in
      let fits : word m (a + 12) < 4294967296 = omega (arith, at.length_is.lies.to) in
      let third : word m' (gp + 4 + 12) ≡ word m (a + 12) = copy_word m gp a size 3 (omega arith) at.lies.to fits in
      record {
        lies = omega arith;
        head = copy_head m gp a _ size _ (omega arith) at.lies.to at.head at.head_fits;
        head_fits = at.head_fits;
        length_is = subst (λ b. IntAt w m' (gp + 4 * size + 4) b (length bytes)) (sym third)
            (int_kept w m m' gp (gp + 4 * size + 4) sp (word m (a + 12)) (length bytes) (omega arith) (copy_same m gp sp a size room) at.length_is);
        holds = λ i h.
            let at_i : gp + 4 + 16 + i ≡ gp + 4 + (16 + i) = omega arith in
            let on_i : a + (16 + i) ≡ a + 16 + i = omega arith in
            ap m' at_i
            ∙ copy_byte m gp a size (16 + i) (omega arith) at.lies.to
            (λ q low high. let place : a + 16 + (q - (a + 16)) ≡ q = omega arith in
            let is : m q ≡ get_or bytes (q - (a + 16)) 0 = ap m (sym place) ∙ at.holds (q - (a + 16)) (omega arith) in
            subst (λ b. b < 256) (sym is) (text_byte bytes (q - (a + 16)) at.text))
            ∙ ap m on_i ∙ at.holds i h;
        text = at.text;
      }
