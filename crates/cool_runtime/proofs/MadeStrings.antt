-- After the stores of a String's head and bytes, memory has this String, and the memory below it and on the stack is unchanged.
use Rattle.std.proofs.Common.{◌≡◌, ℕ, zero, suc, ◌+◌, ◌-◌, ◌*◌, ◌/◌, ◌%◌, ◌<◌, ◌≤◌, ◌⊎◌, inl, inr, List, [], ◌∷◌, length, get_or, refl, sym, ap, ◌∙◌, subst, arith}
use Rattle.mips_isa.specs.Bytes.{Bytes, word, set_word, set_byte}
use Rattle.cool_runtime.specs.Reaches.{World}
use Rattle.cool_runtime.specs.Labels.{int_table, string_table}
use Rattle.cool_runtime.specs.Contents.{IntAt, HeadAt, HeadFits, Same, StringAt, IsText, words_of_bytes}
use Rattle.cool_runtime.specs.Machines.{with_int, with_string_head, with_string, copied_bytes, filled}
use Rattle.cool_runtime.proofs.Words.{byte_other, byte_0, byte_1, byte_2, byte_3, word_equal, byte_set, byte_kept}
use Rattle.cool_runtime.proofs.Objects.{head_other, head_words}

-- bytes that were copied

pub bytes_other : (m : Bytes) (from to n q : ℕ) → (q < to) ⊎ (to + n ≤ q) → copied_bytes m from to n q ≡ m q
bytes_other m from to zero q h = refl
bytes_other m from to (suc n) q h =
    let on : (q < to + 1) ⊎ (to + 1 + n ≤ q) = grind arith in
    let off : q ≡ to → ⊥ = λ e. grind arith in
    bytes_other (set_byte m to (m from % 256)) (from + 1) (to + 1) n q on ∙ byte_kept m to (m from % 256) q off

pub bytes_are : (m : Bytes) (from to n i : ℕ) → i < n → from + n ≤ to → copied_bytes m from to n (to + i) ≡ m (from + i) % 256
bytes_are m from to zero i less apart = absurd (omega arith)
bytes_are m from to (suc n) zero less apart =
    let m1 = set_byte m to (m from % 256) in
    let z : to + zero ≡ to = omega arith in
    let y : from ≡ from + zero = omega arith in
    ap (copied_bytes m1 (from + 1) (to + 1) n) z ∙ bytes_other m1 (from + 1) (to + 1) n to (inl (omega arith)) ∙ byte_set m to (m from % 256) ∙ ap (λ q. m q % 256) y
bytes_are m from to (suc n) (suc i) less apart =
    let m1 = set_byte m to (m from % 256) in
    let on : to + suc i ≡ to + 1 + i = omega arith in
    let back : from + 1 + i ≡ from + suc i = omega arith in
    let off : from + 1 + i ≡ to → ⊥ = λ e. absurd (omega arith) in
    ap (copied_bytes m1 (from + 1) (to + 1) n) on ∙ bytes_are m1 (from + 1) (to + 1) n i (omega arith) (omega arith)
    ∙ ap (λ b. b % 256) (byte_kept m to (m from % 256) (from + 1 + i) off ∙ ap m back)

-- a word of zeros
pub zeros : (m : Bytes) (a j : ℕ) → j < 4 → set_word m a 0 (a + j) ≡ 0
zeros m a zero less = let z : a + zero ≡ a = omega arith in ap (set_word m a 0) z ∙ byte_0 m a 0
zeros m a (suc zero) less = byte_1 m a 0
zeros m a (suc (suc zero)) less = byte_2 m a 0
zeros m a (suc (suc (suc zero))) less = byte_3 m a 0
zeros m a (suc (suc (suc (suc j)))) less = absurd (omega arith)

-- bytes that were stored one after another, word by word

-- memory before them and after their room is the same
pub filled_other : (m : Bytes) (a left : ℕ) (bytes : List ℕ) (q : ℕ) → left ≤ 3 → (q < a) ⊎ (a + (left + 1) + 4 * ((length bytes + (3 - left)) / 4) ≤ q) → filled m a left bytes q ≡ m q
filled_other m a left [] q some h = refl
filled_other m a zero (b ∷ rest) q some h =
    let on : (q < a + 1) ⊎ (a + 1 + (3 + 1) + 4 * ((length rest + (3 - 3)) / 4) ≤ q) = grind arith in
    let word : (q < a + 1) ⊎ (a + 1 + 4 ≤ q) = grind arith in
    let off : q ≡ a → ⊥ = λ e. grind arith in
    filled_other (set_word (set_byte m a b) (a + 1) 0) (a + 1) 3 rest q (omega arith) on ∙ byte_other (set_byte m a b) (a + 1) 0 q word ∙ byte_kept m a b q off
filled_other m a (suc left) (b ∷ rest) q some h =
    let on : (q < a + 1) ⊎ (a + 1 + (left + 1) + 4 * ((length rest + (3 - left)) / 4) ≤ q) = grind arith in
    let off : q ≡ a → ⊥ = λ e. grind arith in
    filled_other (set_byte m a b) (a + 1) left rest q (omega arith) on ∙ byte_kept m a b q off

-- they stand one after another
pub filled_at : (m : Bytes) (a left : ℕ) (bytes : List ℕ) (i : ℕ) → left ≤ 3 → i < length bytes → filled m a left bytes (a + i) ≡ get_or bytes i 0
filled_at m a left [] i some h = absurd (omega arith)
filled_at m a zero (b ∷ rest) zero some h =
    let z : a + zero ≡ a = omega arith in
    ap (filled m a zero (b ∷ rest)) z ∙ filled_other (set_word (set_byte m a b) (a + 1) 0) (a + 1) 3 rest a (omega arith) (inl (omega arith))
    ∙ byte_other (set_byte m a b) (a + 1) 0 a (inl (omega arith)) ∙ byte_set m a b
filled_at m a (suc left) (b ∷ rest) zero some h =
    let z : a + zero ≡ a = omega arith in
    ap (filled m a (suc left) (b ∷ rest)) z ∙ filled_other (set_byte m a b) (a + 1) left rest a (omega arith) (inl (omega arith)) ∙ byte_set m a b
filled_at m a zero (b ∷ rest) (suc i) some h =
    let on : a + suc i ≡ a + 1 + i = omega arith in
    ap (filled m a zero (b ∷ rest)) on ∙ filled_at (set_word (set_byte m a b) (a + 1) 0) (a + 1) 3 rest i (omega arith) (omega arith)
filled_at m a (suc left) (b ∷ rest) (suc i) some h =
    let on : a + suc i ≡ a + 1 + i = omega arith in
    ap (filled m a (suc left) (b ∷ rest)) on ∙ filled_at (set_byte m a b) (a + 1) left rest i (omega arith) (omega arith)

-- if zeros were in the room, they are after the bytes
pub filled_zeros : (m : Bytes) (a left : ℕ) (bytes : List ℕ) → left ≤ 3 → ((q : ℕ) → a ≤ q → q < a + (left + 1) → m q ≡ 0)
    → (q : ℕ) → a + length bytes ≤ q → q < a + (left + 1) + 4 * ((length bytes + (3 - left)) / 4) → filled m a left bytes q ≡ 0
filled_zeros m a left [] some before q from to = before q (omega arith) (omega arith)
filled_zeros m a zero (b ∷ rest) some before q from to =
    filled_zeros (set_word (set_byte m a b) (a + 1) 0) (a + 1) 3 rest (omega arith)
    (λ p f t. let j = p - (a + 1) in let at : p ≡ a + 1 + j = omega arith in ap (set_word (set_byte m a b) (a + 1) 0) at ∙ zeros (set_byte m a b) (a + 1) j (omega arith))
    q (omega arith) (omega arith)
filled_zeros m a (suc left) (b ∷ rest) some before q from to =
    filled_zeros (set_byte m a b) (a + 1) left rest (omega arith)
    (λ p f t. let off : p ≡ a → ⊥ = λ e. absurd (omega arith) in byte_kept m a b p off ∙ before p (omega arith) (omega arith))
    q (omega arith) (omega arith)

-- a head whose bytes are the same
pub head_moved : (m m' : Bytes) (a tag size table : ℕ) → 4 ≤ a → ((q : ℕ) → a ≤ q + 4 → q < a + 12 → m' q ≡ m q) → HeadAt m a tag size table → HeadAt m' a tag size table
head_moved m m' a tag size table from same at = record {
  mark = word_equal m m' (a - 4) (λ q b c. same q (omega arith) (omega arith)) ∙ at.mark;
  tag_is = word_equal m m' a (λ q b c. same q (omega arith) (omega arith)) ∙ at.tag_is;
  size_is = word_equal m m' (a + 4) (λ q b c. same q (omega arith) (omega arith)) ∙ at.size_is;
  table_is = word_equal m m' (a + 8) (λ q b c. same q (omega arith) (omega arith)) ∙ at.table_is;
}

past : (xs : List ℕ) (i : ℕ) → length xs ≤ i → get_or xs i 0 ≡ 0
past [] i h = refl
past (x ∷ xs) zero h = absurd (omega arith)
past (x ∷ xs) (suc i) h = past xs i (omega arith)

module _ (w : World) where
  -- memory below gp and on the stack is the same after the head of a String is stored
  pub string_head_same : (m : Bytes) (gp sp n : ℕ) → gp + 44 + 4 * (n / 4) ≤ sp → Same m (with_string w m gp n) gp sp
  string_head_same m gp sp n room = record {
    below = λ q h. byte_other _ (gp + 40 + 4 * (n / 4)) 0 q (inl (omega arith)) ∙ head_other _ (gp + 20) _ _ _ _ q (inl (omega arith)) ∙ head_other m gp _ _ _ _ q (inl h);
    over = λ q h. byte_other _ (gp + 40 + 4 * (n / 4)) 0 q (inr (omega arith)) ∙ head_other _ (gp + 20) _ _ _ _ q (inr (omega arith)) ∙ head_other m gp _ _ _ _ q (inr (omega arith));
  }

  -- memory below gp and on the stack is the same after the head and the length of a String are stored
  pub string_words_same : (m : Bytes) (gp sp n : ℕ) → gp + 40 ≤ sp → Same m (with_string_head w m gp n) gp sp
  string_words_same m gp sp n room = record {
    below = λ q h. head_other _ (gp + 20) _ _ _ _ q (inl (omega arith)) ∙ head_other m gp _ _ _ _ q (inl h);
    over = λ q h. head_other _ (gp + 20) _ _ _ _ q (inr (omega arith)) ∙ head_other m gp _ _ _ _ q (inr (omega arith));
  }

  -- the bytes after a text, in its last word
  pub rest_of_word : (m : Bytes) (gp n : ℕ) (i : ℕ) → n ≤ i → i < 4 * words_of_bytes n → with_string w m gp n (gp + 40 + i) ≡ 0
  rest_of_word m gp n i more less =
      let j = i - 4 * (n / 4) in
      let last : gp + 40 + i ≡ gp + 40 + 4 * (n / 4) + j = omega arith in
      ap (with_string w m gp n) last ∙ zeros _ (gp + 40 + 4 * (n / 4)) j (omega arith)

  -- the head is there, the bytes are these, and after them are zeros
  pub made_string : (m m' : Bytes) (gp a b : ℕ) (bytes other : List ℕ) → 536870912 ≤ gp → gp < 2147483648 → gp % 4 ≡ 0 → length bytes < 1073741824
      → IntAt w m gp a 0 → StringAt w m gp b other → IsText bytes
      → ((q : ℕ) → q < gp + 40 → m' q ≡ with_string_head w m gp (length bytes) q)
      → ((i : ℕ) → i < length bytes → m' (gp + 40 + i) ≡ get_or bytes i 0)
      → ((i : ℕ) → length bytes ≤ i → i < 4 * words_of_bytes (length bytes) → m' (gp + 40 + i) ≡ 0)
      → StringAt w m' (gp + 44 + 4 * (length bytes / 4)) (gp + 24) bytes
  made_string m m' gp a b bytes other from under even small int string text near put rest =
      let n = length bytes in
      let size = 4 + words_of_bytes n in
      let m1 = with_int m gp w.tags.int (w.place int_table) n in
      let m2 = with_string_head w m gp n in
      let fits : HeadFits w.tags.string size (w.place string_table) = record { tag_fits = string.head_fits.tag_fits; size_fits = omega arith; table_fits = string.head_fits.table_fits } in
      let first = head_words m gp w.tags.int 4 (w.place int_table) n int.head_fits (omega arith) in
      let second = head_words m1 (gp + 20) w.tags.string size (w.place string_table) (gp + 4) fits (omega (arith, int.lies.to, string.lies.to)) in
      let nearer : (q : ℕ) → q < gp + 20 → m' q ≡ m1 q = λ q h. near q (omega arith) ∙ head_other m1 (gp + 20) _ _ _ _ q (inl h) in
      let at24 : gp + 20 + 4 ≡ gp + 24 = omega arith in
      let at36 : gp + 20 + 16 ≡ gp + 24 + 12 = omega arith in
      let at16 : gp + 4 + 12 ≡ gp + 16 = omega arith in
      let pointer : word m' (gp + 24 + 12) ≡ gp + 4 = word_equal m2 m' (gp + 24 + 12) (λ q c d. near q (omega arith)) ∙ ap (word m2) (sym at36) ∙ second.1 in
      let length_is : IntAt w m' (gp + 44 + 4 * (n / 4)) (gp + 4) n = record {
        lies = omega arith;
        head = head_moved m1 m' (gp + 4) w.tags.int 4 (w.place int_table) (omega arith) (λ q c d. nearer q (omega arith)) first.0;
        head_fits = int.head_fits;
        value = word_equal m1 m' (gp + 4 + 12) (λ q c d. nearer q (omega arith)) ∙ ap (word m1) at16 ∙ first.1;
        fits = omega arith;
      } in
      record {
        lies = omega arith;
        head = head_moved m2 m' (gp + 24) w.tags.string size (w.place string_table) (omega arith) (λ q c d. near q (omega arith)) (subst (λ q. HeadAt m2 q w.tags.string size (w.place string_table)) at24 second.0);
        head_fits = fits;
        length_is = subst (λ q. IntAt w m' (gp + 44 + 4 * (n / 4)) q n) (sym pointer) length_is;
        holds = λ i h. by_place m' gp bytes put rest i h (grind arith);
        text = text;
      }
    where
      by_place : (m' : Bytes) (gp : ℕ) (bytes : List ℕ)
          → ((i : ℕ) → i < length bytes → m' (gp + 40 + i) ≡ get_or bytes i 0)
          → ((i : ℕ) → length bytes ≤ i → i < 4 * words_of_bytes (length bytes) → m' (gp + 40 + i) ≡ 0)
          → (i : ℕ) → i < 4 * words_of_bytes (length bytes) → (i < length bytes) ⊎ (length bytes ≤ i) → m' (gp + 24 + 16 + i) ≡ get_or bytes i 0
      by_place m' gp bytes put rest i h (inl less) = let at : gp + 24 + 16 + i ≡ gp + 40 + i = omega arith in ap m' at ∙ put i less
      by_place m' gp bytes put rest i h (inr more) = let at : gp + 24 + 16 + i ≡ gp + 40 + i = omega arith in ap m' at ∙ rest i more h ∙ sym (past bytes i more)
