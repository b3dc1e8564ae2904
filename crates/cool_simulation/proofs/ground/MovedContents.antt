-- The constants and other objects in the data of a program are present in each memory whose data bytes are those that were loaded.
use Rattle.std.proofs.Common.{◌≡◌, ℕ, zero, suc, ◌+◌, ◌*◌, ◌<◌, ◌≤◌, List, length, sym, ap, ◌∙◌, subst, arith}
use Rattle.mips_isa.specs.declared.address_map.TheConstants.{HEAP_START}
use Rattle.mips_isa.specs.Bytes.{Bytes, word}
use Rattle.cool_runtime.specs.Reaches.{World}
use Rattle.cool_runtime.specs.Contents.{Lies, IntAt, BoolAt, StringAt, ObjectAt}
use Rattle.cool_runtime.proofs.Words.{word_equal}
use Rattle.cool_runtime.proofs.MadeStrings.{head_moved}
use Rattle.cool_layout.specs.Preorder.{tag}

pub lies_less : (w : World) (gp a size less : ℕ) → less ≤ size → Lies w gp a size → Lies w gp a less
lies_less w gp a size less le lies = record {
  even = lies.even;
  from = lies.from;
  to = let to = lies.to in omega arith;
  in_data = λ h. let to = lies.in_data h in omega arith;
  in_heap = lies.in_heap;
}

-- Contents that stand where bytes are the same

module _ (w : World) (loaded m : Bytes) (gp : ℕ) (from : HEAP_START ≤ gp) (same : (q : ℕ) → q < HEAP_START → m q ≡ loaded q) where
  pub data_word : (a : ℕ) → a + 4 ≤ HEAP_START → word m a ≡ word loaded a
  data_word a to = word_equal loaded m a (λ q low high. same q (omega arith))

  pub int_moved : (a v : ℕ) → IntAt w loaded HEAP_START a v → IntAt w m gp a v
  int_moved a v at =
      let lies = at.lies in
      record {
        lies = omega arith;
        head = head_moved loaded m a _ _ _ (omega arith) (λ q low high. same q (omega arith)) at.head;
        head_fits = at.head_fits;
        value = data_word (a + 12) (omega arith) ∙ at.value;
        fits = at.fits;
      }

  pub bool_moved : (a v : ℕ) → BoolAt w loaded HEAP_START a v → BoolAt w m gp a v
  bool_moved a v at =
      let lies = at.lies in
      record {
        lies = omega arith;
        head = head_moved loaded m a _ _ _ (omega arith) (λ q low high. same q (omega arith)) at.head;
        head_fits = at.head_fits;
        value = data_word (a + 12) (omega arith) ∙ at.value;
        bit = at.bit;
      }

  pub string_moved : (a : ℕ) (bytes : List ℕ) → StringAt w loaded HEAP_START a bytes → StringAt w m gp a bytes
  string_moved a bytes at =
      let lies = at.lies in
      let third : word m (a + 12) ≡ word loaded (a + 12) = data_word (a + 12) (omega arith) in
      record {
        lies = omega arith;
        head = head_moved loaded m a _ _ _ (omega arith) (λ q low high. same q (omega arith)) at.head;
        head_fits = at.head_fits;
        length_is = subst (λ b. IntAt w m gp b (length bytes)) (sym third) (int_moved (word loaded (a + 12)) (length bytes) at.length_is);
        holds = λ i h. same (a + 16 + i) (omega arith) ∙ at.holds i h;
        text = at.text;
      }

  pub object_moved : (a tag size table : ℕ) (words : List ℕ) → ObjectAt w loaded HEAP_START a tag size table words → ObjectAt w m gp a tag size table words
  object_moved a tag size table words at =
      let lies = at.lies in
      let long = at.long in
      record {
        lies = omega arith;
        head = head_moved loaded m a _ _ _ (omega arith) (λ q low high. same q (omega arith)) at.head;
        fits = at.fits;
        long = at.long;
        attributes = λ k h. data_word (a + 12 + 4 * k) (omega arith) ∙ at.attributes k h;
        words_fit = at.words_fit;
      }

-- a word of zeros has bytes of zeros
pub zero_byte : (m : Bytes) (a i : ℕ) → word m a ≡ 0 → i < 4 → m (a + i) ≡ 0
unfolding word
zero_byte m a i e less = by i less (sum_zero (m a) (m (a + 1)) (m (a + 2)) (m (a + 3)) e)
  where
    sum_zero : (b c d e : ℕ) → b + 256 * c + 65536 * d + 16777216 * e ≡ 0 → (b ≡ 0) × (c ≡ 0) × (d ≡ 0) × (e ≡ 0)
    sum_zero b c d e h = (omega arith, omega arith, omega arith, omega arith)

    by : (i : ℕ) → i < 4 → (m a ≡ 0) × (m (a + 1) ≡ 0) × (m (a + 2) ≡ 0) × (m (a + 3) ≡ 0) → m (a + i) ≡ 0
    by zero less h = let here : a + 0 ≡ a = omega arith in ap m here ∙ h.0
    by (suc zero) less h = h.1
    by (suc (suc zero)) less h = h.2
    by (suc (suc (suc zero))) less h = h.3
    by (suc (suc (suc (suc i)))) less h = absurd (omega arith)
