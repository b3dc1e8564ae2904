-- Lemmas on reading lines and files from a session's input byte after byte: at most 300 bytes followed by a newline are a line, and longer or unfinished ones
-- are not.
use Rattle.std.proofs.Common.{◌≡◌, ◌⊎◌, inl, inr, ◌^◌, ℕ, zero, suc, ◌+◌, ◌<◌, ◌≤◌, Bool, true, false, not, List, [], ◌∷◌, ◌++◌, length, refl, sym, ◌∙◌, ap, append_assoc, append-nil, arith}
use Rattle.std.specs.Prelude.{◌==◌, ◌≢◌, ◌&&◌}
use Rattle.std.specs.List.{list_all}
use Rattle.std.proofs.lemmas.Bool.{and_parts}
use Rattle.std.proofs.lemmas.List.Folds.{list_all-append}
use Rattle.cool_session.specs.Exchanges.{Line, NoLine, with_first, head_within, head}
use Rattle.cool_session.specs.Obeying.{IsPartOfLine}
use Rattle.std.proofs.lemmas.List.{length_push}

-- a byte was taken after a part
pub part_and_byte : (input part left : List ℕ) (byte : ℕ) → input ≡ part ++ byte ∷ left → input ≡ (part ++ byte ∷ []) ++ left
part_and_byte input part left byte e = e ∙ sym (append_assoc part (byte ∷ []) left)

pub still_no_newline : (part : List ℕ) (byte : ℕ) → list_all (λ b. not (b == 10)) part ≡ true → (byte == 10) ≡ false
    → list_all (λ b. not (b == 10)) (part ++ byte ∷ []) ≡ true
still_no_newline part byte before other = list_all-append (λ b. not (b == 10)) part (byte ∷ []) ∙ rw (before, other) refl

other_byte : (b : ℕ) (rest : Bool) → (not (b == 10) && rest) ≡ true → ((b == 10) ≡ false) × (rest ≡ true)
other_byte b rest e = let parts = and_parts (not (b == 10)) rest e in (by (b == 10) parts.0, parts.1)
  where
    by : (newline : Bool) → not newline ≡ true → newline ≡ false
    by true h = cc
    by false h = refl

-- a part and a newline are a line
line_within : (most : ℕ) (part left : List ℕ) → length part ≤ most → list_all (λ b. not (b == 10)) part ≡ true
    → head_within most (part ++ 10 ∷ left) ≡ Line part left
line_within zero [] left short whole = refl
line_within (suc most) [] left short whole = refl
line_within zero (b ∷ bs) left short whole = absurd (omega (arith, short))
line_within (suc most) (b ∷ bs) left short whole =
    let other = other_byte b (list_all (λ b. not (b == 10)) bs) whole in
    let less : length bs ≤ most = omega (arith, short) in
    rw other.0 (ap (with_first b) (line_within most bs left less other.1))

-- a part that is as long as it may be, and another byte, are no line
long_within : (most : ℕ) (part : List ℕ) (byte : ℕ) (left : List ℕ) → length part ≡ most → list_all (λ b. not (b == 10)) part ≡ true
    → (byte == 10) ≡ false
    → head_within most (part ++ byte ∷ left) ≡ NoLine left
long_within zero [] byte left long whole other = rw other refl
long_within (suc most) [] byte left long whole other = absurd (omega (arith, long))
long_within zero (b ∷ bs) byte left long whole other = absurd (omega (arith, long))
long_within (suc most) (b ∷ bs) byte left long whole other =
    let first = other_byte b (list_all (λ b. not (b == 10)) bs) whole in
    let less : length bs ≡ most = omega (arith, long) in
    rw first.0 (ap (with_first b) (long_within most bs byte left less first.1 other))

-- a single part is no line
alone_within : (most : ℕ) (part : List ℕ) → length part ≤ most → list_all (λ b. not (b == 10)) part ≡ true → head_within most part ≡ NoLine []
alone_within zero [] short whole = refl
alone_within (suc most) [] short whole = refl
alone_within zero (b ∷ bs) short whole = absurd (omega (arith, short))
alone_within (suc most) (b ∷ bs) short whole =
    let other = other_byte b (list_all (λ b. not (b == 10)) bs) whole in
    let less : length bs ≤ most = omega (arith, short) in
    rw other.0 (ap (with_first b) (alone_within most bs less other.1))

pub line_taken : (input part left : List ℕ) → input ≡ part ++ 10 ∷ left → length part ≤ 300 → list_all (λ b. not (b == 10)) part ≡ true
    → head input ≡ Line part left
unfolding head
line_taken input part left is short whole = ap (head_within 300) is ∙ line_within 300 part left short whole

some_taken : (part : List ℕ) (byte : ℕ) (left : List ℕ) → part ++ byte ∷ left ≡ [] → ⊥
some_taken [] byte left e = absurd cc
some_taken (b ∷ part) byte left e = absurd cc

pub long_taken : (input part left : List ℕ) (byte : ℕ) → input ≡ part ++ byte ∷ left → length part ≡ 300 → list_all (λ b. not (b == 10)) part ≡ true
    → (byte == 10) ≡ false → (input ≢ []) × (head input ≡ NoLine left)
unfolding head
long_taken input part left byte is long whole other =
    (λ e. some_taken part byte left (sym is ∙ e), ap (head_within 300) is ∙ long_within 300 part byte left long whole other)

pub unended_taken : (input part left : List ℕ) → input ≡ part ++ left → left ≡ [] → part ≢ [] → length part ≤ 300
    → list_all (λ b. not (b == 10)) part ≡ true
    → (input ≢ []) × (head input ≡ NoLine left)
unfolding head
unended_taken input part left is none some short whole =
    let same : input ≡ part = is ∙ ap (λ xs. part ++ xs) none ∙ append-nil part in
    (λ e. some (sym same ∙ e), ap (head_within 300) same ∙ alone_within 300 part short whole ∙ ap NoLine (sym none))

-- a part that is not too long and another byte are a part of a line
pub longer_part : (input part left : List ℕ) (byte : ℕ) → input ≡ part ++ byte ∷ left → length part < 300 → list_all (λ b. not (b == 10)) part ≡ true
    → (byte == 10) ≡ false → (longer : List ℕ) × IsPartOfLine longer input left
longer_part input part left byte is short whole other = (
  part ++ byte ∷ [],
  record {
    is = part_and_byte input part left byte is;
    short = omega (arith, length_push part byte, short);
    no_newline = still_no_newline part byte whole other;
  },
)

-- if the input ended, so much of a file was there
pub short_input : (input part left : List ℕ) (n : ℕ) → input ≡ part ++ left → left ≡ [] → length part < n → length input < n
short_input input part left n is none short =
    let same : input ≡ part = is ∙ ap (λ xs. part ++ xs) none ∙ append-nil part in
    omega (arith, ap length same, short)

-- the bound of the room at first
pub bound_first : (now first : ℕ) → (now ≡ first) ⊎ (first < 2 ^ 64) → now < 2 ^ 64 → first < 2 ^ 64
bound_first now first (inl same) h = omega (arith, same, h)
bound_first now first (inr less) h = less

-- whether a part is empty, as its number of bytes tells
pub is_empty_part : (part : List ℕ) (n : ℕ) → n ≡ length part → true ≡ (n == 0) → part ≡ []
is_empty_part [] n e h = refl
is_empty_part (b ∷ part) n e h = absurd (grind (arith, e, h))

pub is_some_part : (part : List ℕ) (n : ℕ) → n ≡ length part → false ≡ (n == 0) → part ≢ []
is_some_part [] n e h none = let zero_is : n ≡ 0 = e in absurd (grind (arith, zero_is, h))
is_some_part (b ∷ part) n e h none = absurd cc
