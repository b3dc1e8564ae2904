-- Bytes that a loop has passed up to the first newline are the first line of the text.
use Rattle.std.proofs.Common.{◌≡◌, ◌≢◌, ℕ, ◌+◌, ◌<◌, List, [], ◌∷◌, ◌++◌, length, get_or, take, drop, ap, sym, ◌∙◌, append-nil, append_assoc, arith}
use Rattle.std.specs.Prelude.{nat_eq, Bool, false, if◌then◌else◌}
use Rattle.std.proofs.lemmas.List.{at_drop_more, take_more}
use Rattle.cool_explanations.specs.SourceLines.{first_line}

-- the line of bytes that begin with a newline is empty
empty_at : (b : ℕ) (bs : List ℕ) → b ≡ 10 → first_line (b ∷ bs) ≡ []
empty_at b bs e = ap (λ (x : ℕ). first_line (x ∷ bs)) e

-- and with another byte it has that one
longer_at : (b : ℕ) (bs : List ℕ) → b ≢ 10 → first_line (b ∷ bs) ≡ b ∷ first_line bs
longer_at b bs other =
    let e : nat_eq b 10 ≡ false = grind arith in
    ap (λ (t : Bool). if t then [] else b ∷ first_line bs) e

-- at a newline it ends
pub first_stop : (bytes : List ℕ) (i : ℕ) → i < length bytes → get_or bytes i 0 ≡ 10 → take i bytes ++ first_line (drop i bytes) ≡ first_line bytes → take i bytes ≡ first_line bytes
first_stop bytes i within newline so_far =
    sym (append-nil (take i bytes)) ∙ ap (λ (l : List ℕ). take i bytes ++ l) (sym (at_drop_more first_line bytes i 0 within ∙ empty_at (get_or bytes i 0) (drop (i + 1) bytes) newline)) ∙ so_far

-- and goes on at another byte
pub first_more : (bytes : List ℕ) (i : ℕ) → i < length bytes → get_or bytes i 0 ≢ 10 → take i bytes ++ first_line (drop i bytes) ≡ first_line bytes
    → take (i + 1) bytes ++ first_line (drop (i + 1) bytes) ≡ first_line bytes
first_more bytes i within other so_far =
    let b = get_or bytes i 0 in
    let rest = first_line (drop (i + 1) bytes) in
    ap (λ (l : List ℕ). l ++ rest) (take_more bytes i 0 within) ∙ append_assoc (take i bytes) (b ∷ []) rest
    ∙ ap (λ (l : List ℕ). take i bytes ++ l) (sym (at_drop_more first_line bytes i 0 within ∙ longer_at b (drop (i + 1) bytes) other)) ∙ so_far
