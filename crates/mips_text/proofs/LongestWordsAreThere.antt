-- The token that the definition finds at a position of a line is the longest one there: longer pieces of the line are not tokens.
use Rattle.std.proofs.Common.{◌≡◌, ◌∙◌, sym, ap, refl, arith, ℕ, zero, suc, ◌≤◌, ◌⊎◌, ⊎_elim, List, [], length, take}
use Rattle.std.specs.Prelude.{Option, Some, None}
use Rattle.mips_text.specs.declared.class.Start.{Start}
use Rattle.mips_text.specs.Words.{Word, Front, IsWordThere, form_of, found, front, longest}
use Rattle.lists.proofs.Numbers.{next_or_less}

-- the same, with at most so many bytes after the first
record Within (s : Start) (b : ℕ) (bs : List ℕ) (k : ℕ) (f : Front) : Type 0 where
  within : f.after ≤ k
  is_word : form_of s b (take f.after bs) ≡ Some f.word
  most : (m : ℕ) (other : Word) → m ≤ k → form_of s b (take m bs) ≡ Some other → m ≤ f.after

abbrev ThereWithin : Start → ℕ → List ℕ → ℕ → Option Front → Type 0
ThereWithin s b bs k (Some f) = Within s b bs k f
ThereWithin s b bs k None = (m : ℕ) → m ≤ k → form_of s b (take m bs) ≡ None

one_less : (m k : ℕ) → m ≤ suc k → (m ≡ suc k → ⊥) → m ≤ k
one_less m k h n = grind arith

none_upto : (s : Start) (b : ℕ) (bs : List ℕ) (k m : ℕ) → m ≤ suc k → form_of s b (take (suc k) bs) ≡ None → ((j : ℕ) → j ≤ k → form_of s b (take j bs) ≡ None) → form_of s b (take m bs) ≡ None
none_upto s b bs k m l e h = ⊎_elim (λ q. ap (λ j. form_of s b (take j bs)) q ∙ e) (λ g. h m g) (next_or_less m k l)

-- no word of all these bytes: the shorter ones decide
not_last : (s : Start) (b : ℕ) (bs : List ℕ) (k : ℕ) (o : Option Front) → form_of s b (take (suc k) bs) ≡ None → ThereWithin s b bs k o → ThereWithin s b bs (suc k) o
not_last s b bs k (Some f) e h = record {
  within = omega (arith, h.within);
  is_word = h.is_word;
  most = λ m other l w. h.most m other (one_less m k l (λ q. let w2 : form_of s b (take (suc k) bs) ≡ Some other = ap (λ j. form_of s b (take j bs)) (sym q) ∙ w in cc)) w;
}
not_last s b bs k None e h = λ m l. none_upto s b bs k m l e h

there_by : (s : Start) (b : ℕ) (bs : List ℕ) (k : ℕ) (o : Option Word) (rest : Option Front) → form_of s b (take (suc k) bs) ≡ o → ThereWithin s b bs k rest → ThereWithin s b bs (suc k) (found o (suc k) rest)
there_by s b bs k (Some w) rest e h = record { within = omega arith; is_word = e; most = λ m other l w2. l }
there_by s b bs k None rest e h = not_last s b bs k rest e h

first_by : (s : Start) (b : ℕ) (bs : List ℕ) (o : Option Word) → form_of s b [] ≡ o → ThereWithin s b bs 0 (found o 0 None)
first_by s b bs (Some w) e = record { within = omega arith; is_word = e; most = λ m other l w2. l }
first_by s b bs None e = λ m l. let q : 0 ≡ m = omega arith in ap (λ j. form_of s b (take j bs)) (sym q) ∙ e

there_within : (s : Start) (b : ℕ) (bs : List ℕ) (k : ℕ) → ThereWithin s b bs k (longest s b bs k)
there_within s b bs zero = first_by s b bs (form_of s b []) refl
there_within s b bs (suc k) = there_by s b bs k (form_of s b (take (suc k) bs)) (longest s b bs k) refl (there_within s b bs k)

there_by_front : (s : Start) (b : ℕ) (bs : List ℕ) (o : Option Front) → ThereWithin s b bs (length bs) o → IsWordThere s b bs o
there_by_front s b bs (Some f) h = record { within = h.within; is_word = h.is_word; longest = h.most }
there_by_front s b bs None h = h

pub word_there : (s : Start) (b : ℕ) (bs : List ℕ) → IsWordThere s b bs (front s b bs)
word_there s b bs = there_by_front s b bs (front s b bs) (there_within s b bs (length bs))
