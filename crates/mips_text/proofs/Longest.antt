-- Lemmas on the longest prefix of a list of bytes that is a token of some form: it is the token that the definition of the scanner finds.
use Rattle.std.proofs.Common.{◌≡◌, ◌∙◌, sym, ap, arith, ℕ, zero, suc, ◌≤◌, ◌<◌, ◌⊎◌, ⊎_elim, List, [], ◌∷◌, length, take}
use Rattle.std.specs.Prelude.{Option, Some, None, option_map}
use Rattle.mips_text.specs.declared.class.Start.{Start}
use Rattle.mips_text.specs.Words.{Word, form_of, found, front, longest}
use Rattle.lists.proofs.Numbers.{next_or_less}

-- so many bytes are of this form, and no more bytes are of one
pub record IsLongest {A : Type 0} (form : List ℕ → Option A) (bs : List ℕ) (x : A) (n : ℕ) : Type 0 where
  pub within : n ≤ length bs
  pub is_form : form (take n bs) ≡ Some x
  pub longer : (m : ℕ) → n < m → m ≤ length bs → form (take m bs) ≡ None

-- no front of these bytes is of a form
abbrev pub HasNone : {A : Type 0} → (List ℕ → Option A) → List ℕ → Type 0
HasNone form bs = (m : ℕ) → m ≤ length bs → form (take m bs) ≡ None

-- a form that is seen as another
pub seen_longest : {A B : Type 0} (see : A → B) (form : List ℕ → Option A) (bs : List ℕ) (x : A) (n : ℕ) → IsLongest form bs x n → IsLongest (λ xs. option_map see (form xs)) bs (see x) n
seen_longest see form bs x n h = record {
  within = h.within;
  is_form = ap (option_map see) h.is_form;
  longer = λ m l w. ap (option_map see) (h.longer m l w);
}

pub seen_none : {A B : Type 0} (see : A → B) (form : List ℕ → Option A) (bs : List ℕ) → HasNone form bs → HasNone (λ xs. option_map see (form xs)) bs
seen_none see form bs h = λ m l. ap (option_map see) (h m l)

-- the longest form of at least one byte, behind its first byte
pub behind_longest : {A : Type 0} (form : List ℕ → Option A) (b : ℕ) (bs : List ℕ) (x : A) (n : ℕ) → IsLongest form (b ∷ bs) x (suc n) → IsLongest (λ xs. form (b ∷ xs)) bs x n
behind_longest form b bs x n h = record {
  within = omega (arith, h.within);
  is_form = h.is_form;
  longer = λ m l w. h.longer (suc m) (omega arith) (omega arith);
}

pub behind_none : {A : Type 0} (form : List ℕ → Option A) (b : ℕ) (bs : List ℕ) → HasNone form (b ∷ bs) → HasNone (λ xs. form (b ∷ xs)) bs
behind_none form b bs h = λ m l. h (suc m) (omega arith)

-- the search for the longest word finds it
search_finds : (s : Start) (b : ℕ) (bs : List ℕ) (w : Word) (n k : ℕ) → n ≤ k → form_of s b (take n bs) ≡ Some w → ((m : ℕ) → n < m → m ≤ k → form_of s b (take m bs) ≡ None) → longest s b bs k ≡ Some (record { word = w; after = n })
search_finds s b bs w n zero l f none =
    let e : n ≡ 0 = omega arith in
    let here : form_of s b [] ≡ Some w = ap (λ m. form_of s b (take m bs)) (sym e) ∙ f in
    ap (λ o. found o 0 None) here ∙ ap (λ m. Some (record { word = w; after = m })) (sym e)
search_finds s b bs w n (suc k) l f none =
    ⊎_elim (λ e.
    let here : form_of s b (take (suc k) bs) ≡ Some w = ap (λ m. form_of s b (take m bs)) (sym e) ∙ f in
    ap (λ o. found o (suc k) (longest s b bs k)) here ∙ ap (λ m. Some (record { word = w; after = m })) (sym e))
    (λ g.
    let above : form_of s b (take (suc k) bs) ≡ None = none (suc k) (omega arith) (omega arith) in
    ap (λ o. found o (suc k) (longest s b bs k)) above ∙ search_finds s b bs w n k g f (λ m a c. none m a (omega arith)))
    (next_or_less n k l)

search_fails : (s : Start) (b : ℕ) (bs : List ℕ) (k : ℕ) → ((m : ℕ) → m ≤ k → form_of s b (take m bs) ≡ None) → longest s b bs k ≡ None
search_fails s b bs zero none = ap (λ o. found o 0 None) (none 0 (omega arith))
search_fails s b bs (suc k) none =
    ap (λ o. found o (suc k) (longest s b bs k)) (none (suc k) (omega arith)) ∙ search_fails s b bs k (λ m l. none m (omega arith))

-- the longest word is the definition's
pub front_finds : (s : Start) (b : ℕ) (bs : List ℕ) (w : Word) (n : ℕ) → IsLongest (form_of s b) bs w n → front s b bs ≡ Some (record { word = w; after = n })
front_finds s b bs w n h = search_finds s b bs w n (length bs) h.within h.is_form h.longer

pub front_fails : (s : Start) (b : ℕ) (bs : List ℕ) → HasNone (form_of s b) bs → front s b bs ≡ None
front_fails s b bs h = search_fails s b bs (length bs) h
