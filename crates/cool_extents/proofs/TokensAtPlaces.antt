-- If tokens stand at increasing places, the number of tokens before the place of a token is the index of this token.
use Rattle.std.proofs.Common.{◌≡◌, ℕ, zero, suc, ◌+◌, ◌≤◌, nat_lt, Bool, true, false, cond, List, [], ◌∷◌, ◌++◌, length, drop, slice_get, Option, Some, refl, ap, sym, ◌∙◌, subst, append_assoc, length-append, drop_at, arith, lt-ltb, le-ltb}
use Rattle.std.specs.List.{fold}
use Rattle.cool_syntax.specs.declared.token.Token.{Token}
use Rattle.cool_syntax.specs.TokenFacts.{AreRising}
use Rattle.lists.proofs.ItemsAt.{seam_get}
use Rattle.cool_extents.specs.Extents.{first_place, last_place}
use Rattle.cool_extents.specs.FoundExtents.{number_of, place_or, token_place, is_kind_lparen, is_kind_rparen, is_token, opens_before, closes}

-- Numbers

-- each token has as its number how many stand before it
pub record Numbered (ts : List Token) : Type 0 where
  pub number : (before : List Token) (t : Token) (after : List Token) → ts ≡ before ++ t ∷ after → number_of ts t.at ≡ length before

-- the step of the count of the tokens before a byte
abbrev counted : ℕ → ℕ → Token → ℕ
counted b n t = n + cond (nat_lt t.at.byte b) 1 0

-- each rising token stands at the first byte or later
later : (file low : ℕ) (before : List Token) (t : Token) (after : List Token) → AreRising file low (before ++ t ∷ after) → low ≤ t.at.byte
later file low [] t after h = h.1
later file low (x ∷ before) t after h = omega (arith, h.1, later file (x.at.byte + 1) before t after h.2)

-- none of the tokens from a byte on stand before it
none_counted : (file low b n : ℕ) (ts : List Token) → b ≤ low → AreRising file low ts → fold (counted b) n ts ≡ n
none_counted file low b n [] less h = refl
none_counted file low b n (t ∷ ts) less h =
    ap (λ (c : Bool). fold (counted b) (n + cond c 1 0) ts) (le-ltb t.at.byte b (omega (arith, h.1)))
    ∙ (none_counted file (t.at.byte + 1) b (n + 0) ts (omega (arith, h.1)) h.2 ∙ omega arith)

-- before a token's byte stand the tokens before it
before_counted : (file low n : ℕ) (before : List Token) (t : Token) (after : List Token) → AreRising file low (before ++ t ∷ after)
    → fold (counted t.at.byte) n (before ++ t ∷ after) ≡ n + length before
before_counted file low n [] t after h = none_counted file t.at.byte t.at.byte n (t ∷ after) (omega arith) (h.0, omega arith, h.2) ∙ omega arith
before_counted file low n (x ∷ before) t after h =
    let less = later file (x.at.byte + 1) before t after h.2 in
    ap (λ (c : Bool). fold (counted t.at.byte) (n + cond c 1 0) (before ++ t ∷ after)) (lt-ltb x.at.byte t.at.byte (omega (arith, less)))
    ∙ (before_counted file (x.at.byte + 1) (n + 1) before t after h.2 ∙ omega arith)

-- tokens in rising places are numbered
pub numbered : (file low : ℕ) (ts : List Token) → AreRising file low ts → Numbered ts
numbered file low ts h = record {
  number = λ before t after e.
      ap (λ (us : List Token). number_of us t.at) e ∙ (before_counted file low 0 before t after (subst (AreRising file low) e h) ∙ omega arith);
}

-- Parts of the tokens

-- some of the tokens: from the one of the first number, up to before the one of the second
pub record Stand (ts : List Token) (a : ℕ) (xs : List Token) (z : ℕ) : Type 0 where
  pub before : List Token
  pub after : List Token
  pub whole : ts ≡ before ++ (xs ++ after)
  pub begin : length before ≡ a
  pub end : a + length xs ≡ z

-- the first of them
abbrev pub first_part : {ts : List Token} {a z : ℕ} (xs ys : List Token) → Stand ts a (xs ++ ys) z → Stand ts a xs (a + length xs)
first_part xs ys s = record {
  before = s.before;
  after = ys ++ s.after;
  whole = s.whole ∙ ap (λ l. s.before ++ l) (append_assoc xs ys s.after);
  begin = s.begin;
  end = refl;
}

-- and the others
abbrev pub last_part : {ts : List Token} {a z : ℕ} (xs ys : List Token) → Stand ts a (xs ++ ys) z → Stand ts (a + length xs) ys z
last_part {ts} {a} {z} xs ys s = record {
  before = s.before ++ xs;
  after = s.after;
  whole = s.whole ∙ (ap (λ l. s.before ++ l) (append_assoc xs ys s.after) ∙ sym (append_assoc s.before xs (ys ++ s.after)));
  begin = omega (arith, length-append s.before xs, s.begin);
  end = omega (arith, length-append xs ys, s.end);
}

-- those behind the first
abbrev pub rest : {ts : List Token} {a z : ℕ} (t : Token) (xs : List Token) → Stand ts a (t ∷ xs) z → Stand ts (a + 1) xs z
rest t xs s = last_part (t ∷ []) xs s

-- the same of equal tokens
pub stand_as : {ts : List Token} {a z : ℕ} {xs ys : List Token} → xs ≡ ys → Stand ts a xs z → Stand ts a ys z
stand_as {ts} {a} {z} e s = subst (λ (l : List Token). Stand ts a l z) e s

-- Places

-- the token of a number
abbrev pub token_at : {ts : List Token} {a z : ℕ} (t : Token) (xs : List Token) → Stand ts a (t ∷ xs) z → slice_get ts a ≡ Some t
token_at {ts} t xs s =
    subst (λ (n : ℕ). slice_get ts n ≡ Some t) s.begin (ap (λ (l : List Token). slice_get l (length s.before)) s.whole ∙ seam_get s.before t (xs ++ s.after))

-- the place of the token of a number
pub place_at : {ts : List Token} {a z : ℕ} (t : Token) (xs : List Token) → Stand ts a (t ∷ xs) z → token_place ts a ≡ t.at
place_at t xs s = ap place_or (token_at t xs s)

-- the number of the token at a place
pub number_at : {ts : List Token} {a z : ℕ} (t : Token) (xs : List Token) → Numbered ts → Stand ts a (t ∷ xs) z → number_of ts t.at ≡ a
number_at t xs n s = n.number s.before t (xs ++ s.after) s.whole ∙ s.begin

-- the first and the last place of tokens: their numbers, and the places of these numbers
pub first_number : {ts : List Token} {a z : ℕ} (xs : List Token) → 1 ≤ length xs → Numbered ts → Stand ts a xs z → number_of ts (first_place xs) ≡ a
first_number [] some n s = absurd (omega arith)
first_number (t ∷ xs) some n s = number_at t xs n s

pub first_token_place : {ts : List Token} {a z : ℕ} (xs : List Token) → 1 ≤ length xs → Stand ts a xs z → token_place ts a ≡ first_place xs
first_token_place [] some s = absurd (omega arith)
first_token_place (t ∷ xs) some s = place_at t xs s

-- the last token, after the others
last_alone : {ts : List Token} {z : ℕ} (xs : List Token) (a : ℕ) → 1 ≤ length xs → Stand ts a xs z
    → (t : Token) × (k : ℕ) × (last_place xs ≡ t.at) × (k + 1 ≡ z) × Stand ts k (t ∷ []) z
last_alone [] a some s = absurd (omega arith)
last_alone (t ∷ []) a some s = (t, a, refl, s.end, s)
last_alone (t ∷ u ∷ xs) a some s = last_alone (u ∷ xs) (a + 1) (omega arith) (rest t (u ∷ xs) s)

pub last_number : {ts : List Token} {a z : ℕ} (xs : List Token) → 1 ≤ length xs → Numbered ts → Stand ts a xs z → number_of ts (last_place xs) + 1 ≡ z
last_number {ts} {a} xs some n s =
    let (t, k, last, next, alone) = last_alone xs a some s in
    ap (λ at. number_of ts at + 1) last ∙ (ap (λ m. m + 1) (number_at t [] n alone) ∙ next)

pub last_token_place : {ts : List Token} {a z : ℕ} (xs : List Token) (k : ℕ) → 1 ≤ length xs → Stand ts a xs z → k + 1 ≡ z → token_place ts k ≡ last_place xs
last_token_place {ts} {a} {z} xs k some s e =
    let (t, m, last, next, alone) = last_alone xs a some s in
    let same : k ≡ m = omega (arith, e, next) in
    ap (token_place ts) same ∙ (place_at t [] alone ∙ sym last)

-- Parentheses

opens_at : (ts : List Token) (a b : ℕ) (t : Token) → slice_get ts a ≡ Some t → is_kind_lparen t.kind ≡ false → b ≡ a + 1 → opens_before ts b ≡ 0
opens_at ts a zero t here other e = refl
opens_at ts a (suc k) t here other e =
    let same : k ≡ a = omega (arith, e) in
    ap (λ (o : Option Token). cond (is_token is_kind_lparen o) (suc (opens_before ts k)) 0) (ap (slice_get ts) same ∙ here)
    ∙ ap (λ (c : Bool). cond c (suc (opens_before ts k)) 0) other

-- behind a token that is no opening parenthesis none stand
pub opens_none : {ts : List Token} {a z : ℕ} (b : ℕ) (t : Token) (xs : List Token) → Stand ts a (t ∷ xs) z → is_kind_lparen t.kind ≡ false → b ≡ a + 1 → opens_before ts b ≡ 0
opens_none {ts} {a} b t xs s other e = opens_at ts a b t (token_at t xs s) other e

opens_more_at : (ts : List Token) (a b : ℕ) (t : Token) → slice_get ts a ≡ Some t → is_kind_lparen t.kind ≡ true → b ≡ a + 1
    → opens_before ts b ≡ opens_before ts a + 1
opens_more_at ts a zero t here other e = absurd (omega (arith, e))
opens_more_at ts a (suc k) t here other e =
    let same : k ≡ a = omega (arith, e) in
    ap (λ (o : Option Token). cond (is_token is_kind_lparen o) (suc (opens_before ts k)) 0) (ap (slice_get ts) same ∙ here)
    ∙ (ap (λ (c : Bool). cond c (suc (opens_before ts k)) 0) other ∙ (ap (λ (n : ℕ). suc (opens_before ts n)) same ∙ omega arith))

-- behind an opening parenthesis stands one more
pub opens_more : {ts : List Token} {a z : ℕ} (b : ℕ) (t : Token) (xs : List Token) → Stand ts a (t ∷ xs) z → is_kind_lparen t.kind ≡ true → b ≡ a + 1
    → opens_before ts b ≡ opens_before ts a + 1
opens_more {ts} {a} b t xs s is e = opens_more_at ts a b t (token_at t xs s) is e

dropped : {ts : List Token} {a z : ℕ} (xs : List Token) (s : Stand ts a xs z) → drop a ts ≡ xs ++ s.after
dropped {ts} {a} xs s = ap (drop a) s.whole ∙ drop_at s.before (xs ++ s.after) a s.begin

-- before a token that is no closing parenthesis none stand
pub closes_none : {ts : List Token} {a z : ℕ} (t : Token) (xs : List Token) → Stand ts a (t ∷ xs) z → is_kind_rparen t.kind ≡ false → closes (drop a ts) ≡ 0
closes_none t xs s other = ap closes (dropped (t ∷ xs) s) ∙ ap (λ (c : Bool). cond c (suc (closes (xs ++ s.after))) 0) other

-- from a closing parenthesis on stands one more
pub closes_more : {ts : List Token} {a z : ℕ} (b : ℕ) (t : Token) (xs : List Token) → Stand ts a (t ∷ xs) z → is_kind_rparen t.kind ≡ true → b ≡ a + 1
    → closes (drop a ts) ≡ closes (drop b ts) + 1
closes_more {ts} {a} b t xs s is e =
    let behind : drop b ts ≡ xs ++ s.after = ap (λ n. drop n ts) e ∙ dropped xs (rest t xs s) in
    ap closes (dropped (t ∷ xs) s) ∙ (ap (λ (c : Bool). cond c (suc (closes (xs ++ s.after))) 0) is ∙ (ap (λ l. suc (closes l)) (sym behind) ∙ omega arith))
