-- After an Int is made, memory has the new Int, and the memory of earlier objects and of the stack is unchanged.
use Rattle.std.proofs.Common.{◌≡◌, ℕ, ◌+◌, ◌-◌, ◌*◌, ◌%◌, ◌<◌, ◌≤◌, ◌⊎◌, inl, inr, List, length, sym, ap, ◌∙◌, subst, arith}
use Rattle.mips_isa.specs.Bytes.{Bytes, word, set_word}
use Rattle.cool_runtime.specs.Reaches.{World}
use Rattle.cool_runtime.specs.Labels.{int_table}
use Rattle.cool_runtime.specs.Contents.{IntAt, HeadAt, HeadFits, Lies, Same, ObjectAt, StringAt, words_of_bytes}
use Rattle.cool_runtime.specs.Machines.{with_head, with_int}
use Rattle.cool_runtime.proofs.Words.{byte_other, word_same, word_other, word_equal}

pub head_other : (m : Bytes) (a tag size table v q : ℕ) → (q < a) ⊎ (a + 20 ≤ q) → with_head m a tag size table v q ≡ m q
unfolding with_head
head_other m a tag size table v q h = grind (arith, byte_other)

-- the words of a head, and the one after it
pub head_words : (m : Bytes) (a tag size table v : ℕ) → HeadFits tag size table → v < 4294967296
    → HeadAt (with_head m a tag size table v) (a + 4) tag size table × (word (with_head m a tag size table v) (a + 16) ≡ v)
unfolding with_head
head_words m a tag size table v fits small =
    let m1 = set_word m a 4294967295 in
    let m2 = set_word m1 (a + 4) tag in
    let m3 = set_word m2 (a + 8) size in
    let m4 = set_word m3 (a + 12) table in
    let m5 = set_word m4 (a + 16) v in
    let mark : word m5 a ≡ 4294967295 = word_other m4 (a + 16) a v (inl (omega arith)) ∙ word_other m3 (a + 12) a table (inl (omega arith)) ∙ word_other m2 (a + 8) a size (inl (omega arith))
    ∙ word_other m1 (a + 4) a tag (inl (omega arith)) ∙ word_same m a 4294967295 (omega arith) in
    let at : a + 4 - 4 ≡ a = omega arith in
    let at4 : a + 4 + 4 ≡ a + 8 = omega arith in
    let at8 : a + 4 + 8 ≡ a + 12 = omega arith in (
      record {
        mark = ap (word m5) at ∙ mark;
        tag_is = word_other m4 (a + 16) (a + 4) v (inl (omega arith)) ∙ word_other m3 (a + 12) (a + 4) table (inl (omega arith)) ∙ word_other m2 (a + 8) (a + 4) size (inl (omega arith)) ∙ word_same m1 (a + 4) tag fits.tag_fits;
        size_is = ap (word m5) at4 ∙ word_other m4 (a + 16) (a + 8) v (inl (omega arith)) ∙ word_other m3 (a + 12) (a + 8) table (inl (omega arith)) ∙ word_same m2 (a + 8) size (omega (arith, fits.size_fits));
        table_is = ap (word m5) at8 ∙ word_other m4 (a + 16) (a + 12) v (inl (omega arith)) ∙ word_same m3 (a + 12) table fits.table_fits;
      },
      word_same m4 (a + 16) v small,
    )

module _ (w : World) where
  -- the new Int
  pub made_int : (m : Bytes) (gp a v : ℕ) → 536870912 ≤ gp → gp % 4 ≡ 0 → v < 4294967296 → IntAt w m gp a 0
      → IntAt w (with_int m gp w.tags.int (w.place int_table) v) (gp + 20) (gp + 4) v
  made_int m gp a v from even fits proto =
      let words = head_words m gp w.tags.int 4 (w.place int_table) v proto.head_fits fits in
      let at : gp + 4 + 12 ≡ gp + 16 = omega arith in
      record { lies = omega arith; head = words.0; head_fits = proto.head_fits; value = ap (word (with_int m gp w.tags.int (w.place int_table) v)) at ∙ words.1; fits = fits }

  -- memory below the heap's next address and on the stack is the same
  pub made_int_same : (m : Bytes) (gp sp tag table v : ℕ) → gp + 20 ≤ sp → Same m (with_int m gp tag table v) gp sp
  made_int_same m gp sp tag table v room = record {
    below = λ q h. head_other m gp tag 4 table v q (inl h);
    over = λ q h. head_other m gp tag 4 table v q (inr (omega arith));
  }

  pub same_word : (m m' : Bytes) (gp sp a : ℕ) → Same m m' gp sp → a + 4 ≤ gp → word m' a ≡ word m a
  same_word m m' gp sp a same room = word_equal m m' a (λ q from to. same.below q (omega arith))

  pub same_then : (m m1 m2 : Bytes) (gp gp1 sp sp1 : ℕ) → gp ≤ gp1 → sp1 ≤ sp → Same m m1 gp sp → Same m1 m2 gp1 sp1 → Same m m2 gp sp
  same_then m m1 m2 gp gp1 sp sp1 le ge a b = record {
    below = λ q h. b.below q (omega arith) ∙ a.below q h;
    over = λ q h. b.over q (omega arith) ∙ a.over q h;
  }

  -- objects stay

  lies_on : (gp gp' a size : ℕ) → gp ≤ gp' → Lies w gp a size → Lies w gp' a size
  lies_on gp gp' a size le at = omega arith

  head_kept : (m m' : Bytes) (gp sp a tag size table n : ℕ) → 4 ≤ a → Same m m' gp sp → a + n ≤ gp → 12 ≤ n → HeadAt m a tag size table → HeadAt m' a tag size table
  head_kept m m' gp sp a tag size table n from same room many at = record {
    mark = same_word m m' gp sp (a - 4) same (omega arith) ∙ at.mark;
    tag_is = same_word m m' gp sp a same (omega arith) ∙ at.tag_is;
    size_is = same_word m m' gp sp (a + 4) same (omega arith) ∙ at.size_is;
    table_is = same_word m m' gp sp (a + 8) same (omega arith) ∙ at.table_is;
  }

  pub int_kept : (m m' : Bytes) (gp gp' sp a v : ℕ) → gp ≤ gp' → Same m m' gp sp → IntAt w m gp a v → IntAt w m' gp' a v
  int_kept m m' gp gp' sp a v le same at = record {
    lies = lies_on gp gp' a 16 le at.lies;
    head = head_kept m m' gp sp a _ _ _ 16 (omega (arith, at.lies)) same at.lies.to (omega arith) at.head;
    head_fits = at.head_fits;
    value = same_word m m' gp sp (a + 12) same (omega (arith, at.lies)) ∙ at.value;
    fits = at.fits;
  }

  pub object_kept : (m m' : Bytes) (gp gp' sp a tag size table : ℕ) (words : List ℕ) → gp ≤ gp' → Same m m' gp sp → ObjectAt w m gp a tag size table words → ObjectAt w m' gp' a tag size table words
  object_kept m m' gp gp' sp a tag size table words le same at = record {
    lies = lies_on gp gp' a (4 * size) le at.lies;
    head = head_kept m m' gp sp a _ _ _ (4 * size) (omega (arith, at.lies)) same at.lies.to (omega (arith, at.long)) at.head;
    fits = at.fits;
    long = at.long;
    attributes = λ k h. same_word m m' gp sp (a + 12 + 4 * k) same (omega (arith, at.lies, at.long)) ∙ at.attributes k h;
    words_fit = at.words_fit;
  }

  pub string_kept : (m m' : Bytes) (gp gp' sp a : ℕ) (bytes : List ℕ) → gp ≤ gp' → Same m m' gp sp → StringAt w m gp a bytes → StringAt w m' gp' a bytes
  string_kept m m' gp gp' sp a bytes le same at =
      let n = words_of_bytes (length bytes) in
      let at12 : word m' (a + 12) ≡ word m (a + 12) = same_word m m' gp sp (a + 12) same (omega (arith, at.lies)) in
      record {
        lies = lies_on gp gp' a (4 * (4 + n)) le at.lies;
        head = head_kept m m' gp sp a _ _ _ (4 * (4 + n)) (omega (arith, at.lies)) same at.lies.to (omega arith) at.head;
        head_fits = at.head_fits;
        length_is = subst (λ b. IntAt w m' gp' b (length bytes)) (sym at12) (int_kept m m' gp gp' sp (word m (a + 12)) (length bytes) le same at.length_is);
        holds = λ i h. same.below (a + 16 + i) (omega (arith, at.lies)) ∙ at.holds i h;
        text = at.text;
      }
