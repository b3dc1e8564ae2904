-- Lemmas on a program text in which the words at marked addresses (the beginnings of expressions) are replaced by a word that is not an instruction.
use Rattle.std.proofs.Common.{◌≡◌, ℕ, zero, suc, ◌+◌, ◌-◌, ◌*◌, ◌/◌, ◌%◌, ◌<◌, ◌≤◌, ◌⊎◌, inl, inr, List, [], ◌∷◌, length, None, Bool as Truth, true, false, refl, sym, ap, ◌∙◌, subst, arith, eqb-true}
use Rattle.std.specs.Prelude.{Contains, get_or, nat_eq, if◌then◌else◌}
use Rattle.std.proofs.Math.ListN.{get_or-eq_default}
use Rattle.mips_isa.specs.declared.address_map.TheConstants.{TEXT_START}
use Rattle.mips_isa.specs.Decoding.{decoded}
use Rattle.mips_isa.specs.Machine.{word_of_text}
use Rattle.cool_simulation.proofs.ground.CodeOfParts.{in_rest}

-- whether a number is among others
abbrev pub is_among : List ℕ → ℕ → Truth
is_among [] a = false
is_among (x ∷ xs) a = if nat_eq a x then true else is_among xs a

pub among_of : (xs : List ℕ) (a : ℕ) → is_among xs a ≡ true → Contains xs a
among_of [] a e = absurd cc
among_of (x ∷ xs) a e = by (nat_eq a x) refl e (among_of xs a)
  where
    by : (t : Truth) → nat_eq a x ≡ t → (if t then true else is_among xs a) ≡ true → (is_among xs a ≡ true → Contains xs a) → Contains (x ∷ xs) a
    by true is e more = (0, omega arith, sym (eqb-true a x is))
    by false is e more = in_rest x xs a (more e)

same_number : (a : ℕ) → nat_eq a a ≡ true
same_number a = grind arith

pub is_among_of : (xs : List ℕ) (a : ℕ) → Contains xs a → is_among xs a ≡ true
is_among_of [] a (k, less, e) = absurd (omega arith)
is_among_of (x ∷ xs) a (zero, less, e) =
    let same : nat_eq a x ≡ true = subst (λ (y : ℕ). nat_eq a y ≡ true) (sym e) (same_number a) in
    ap (λ (t : Truth). if t then true else is_among xs a) same
is_among_of (x ∷ xs) a (suc k, less, e) = by (nat_eq a x) (is_among_of xs a (k, omega arith, e))
  where
    by : (t : Truth) → is_among xs a ≡ true → (if t then true else is_among xs a) ≡ true
    by true h = refl
    by false h = h

-- a number above all of them
abbrev pub above : List ℕ → ℕ
above [] = 0
above (x ∷ xs) = suc x + above xs

is_below : (xs : List ℕ) (a : ℕ) → Contains xs a → a < above xs
is_below [] a (k, less, e) = absurd (omega arith)
is_below (x ∷ xs) a (zero, less, e) = let same : x ≡ a = e in omega arith
is_below (x ∷ xs) a (suc k, less, e) = let h = is_below xs a (k, omega arith, e) in omega arith

-- a word that is no instruction
abbrev pub no_instruction : ℕ
no_instruction = 4294967295

decodes_none : decoded no_instruction ≡ None
unfolding decoded
decodes_none = refl

module _ (text froms : List ℕ) where
  abbrev pick : ℕ → ℕ
  pick a = if is_among froms a then no_instruction else word_of_text text a

  abbrev words : ℕ → ℕ → List ℕ
  words a zero = []
  words a (suc n) = pick a ∷ words (a + 4) n

  abbrev many : ℕ
  many = length text + above froms

  -- the text with no instruction at these addresses
  abbrev pub without : List ℕ
  without = words TEXT_START many

  word_at : (n k a : ℕ) → k < n → get_or (words a n) k 0 ≡ pick (a + 4 * k)
  word_at zero k a less = absurd (omega arith)
  word_at (suc n) zero a less = let e : a ≡ a + 4 * 0 = omega arith in ap pick e
  word_at (suc n) (suc k) a less = let e : a + 4 + 4 * k ≡ a + 4 * suc k = omega arith in word_at n k (a + 4) (omega arith) ∙ ap pick e

  word_past : (n k a : ℕ) → n ≤ k → get_or (words a n) k 0 ≡ 0
  word_past zero k a le = refl
  word_past (suc n) zero a le = absurd (omega arith)
  word_past (suc n) (suc k) a le = word_past n k (a + 4) (omega arith)

  order : (k : ℕ) → (k < many) ⊎ (many ≤ k)
  order k = grind arith

  index : (a : ℕ) → a % 4 ≡ 0 → TEXT_START ≤ a → TEXT_START + 4 * ((a - TEXT_START) / 4) ≡ a
  index a even from = omega arith

  picked : (a : ℕ) → a % 4 ≡ 0 → TEXT_START ≤ a → (a - TEXT_START) / 4 < many → word_of_text without a ≡ pick a
  picked a even from less = word_at many ((a - TEXT_START) / 4) TEXT_START less ∙ ap pick (index a even from)

  -- elsewhere the words are the same
  pub without_same : (a : ℕ) → a % 4 ≡ 0 → TEXT_START ≤ a → is_among froms a ≡ false → word_of_text without a ≡ word_of_text text a
  without_same a even from free = by (order ((a - TEXT_START) / 4))
    where
      past : length text ≤ (a - TEXT_START) / 4 → get_or text ((a - TEXT_START) / 4) 0 ≡ 0
      past le = get_or-eq_default text 0 le

      by : ((a - TEXT_START) / 4 < many) ⊎ (many ≤ (a - TEXT_START) / 4) → word_of_text without a ≡ word_of_text text a
      by (inl less) = picked a even from less ∙ ap (λ (t : Truth). if t then no_instruction else word_of_text text a) free
      by (inr more) = word_past many ((a - TEXT_START) / 4) TEXT_START more ∙ sym (past (omega arith))

  -- there the machine traps
  pub without_traps : (a : ℕ) → a % 4 ≡ 0 → TEXT_START ≤ a → is_among froms a ≡ true → decoded (word_of_text without a) ≡ None
  without_traps a even from mark =
      let below = is_below froms a (among_of froms a mark) in
      ap decoded (picked a even from (omega arith) ∙ ap (λ (t : Truth). if t then no_instruction else word_of_text text a) mark) ∙ decodes_none
