-- If the value of a number's digits is capped at a bound after each digit, the result is the same as capping the value of all digits at the end.
use Rattle.std.proofs.Common.{◌≡◌, ap, sym, ◌∙◌, arith, ℕ, suc, ◌+◌, ◌*◌, ◌<◌, ◌≤◌, ◌⊎◌, inl, inr, List, [], ◌∷◌, length, drop, get_or, drop-cons, min, add-one}
use Rattle.std.specs.List.{fold}
use Rattle.mips_text.specs.Words.{digit_value}
use Rattle.lists.proofs.Numbers.{le_or_ge}

abbrev pub step : ℕ → ℕ → ℕ → ℕ
step base n byte = n * base + digit_value byte

-- one more digit makes no number smaller
step_grows : (base n d : ℕ) → 1 ≤ base → n ≤ n * base + d
step_grows base n d h = let more : n * 1 ≤ n * base = Rattle.std.proofs.Math.Nat.mul-le-mul_left n h in omega arith

-- nor do more
fold_grows : (base n : ℕ) (ds : List ℕ) → 1 ≤ base → n ≤ fold (step base) n ds
fold_grows base n [] h = omega arith
fold_grows base n (d ∷ ds) h = omega (arith, step_grows base n (digit_value d) h, fold_grows base (step base n d) ds h)

-- past the bound all stay past it
past : (base n bound : ℕ) (ds : List ℕ) → 1 ≤ base → bound ≤ n → min (fold (step base) n ds) bound ≡ bound
past base n bound ds h p = omega (arith, fold_grows base n ds h)

-- cutting off a number on the way changes nothing
capped_fold : (base n bound : ℕ) (ds : List ℕ) → 1 ≤ base → (n ≤ bound) ⊎ (bound ≤ n) → min (fold (step base) (min n bound) ds) bound ≡ min (fold (step base) n ds) bound
capped_fold base n bound ds h (inl below) =
    let same : min n bound ≡ n = omega arith in
    ap (λ k. min (fold (step base) k ds) bound) same
capped_fold base n bound ds h (inr above) =
    let reached : bound ≤ min n bound = omega arith in
    past base (min n bound) bound ds h reached ∙ sym (past base n bound ds h above)

-- one more digit was read
pub capped_more : (base bound n next i total : ℕ) (ds : List ℕ) → 1 ≤ base → i < length ds → next ≡ min (n * base + digit_value (get_or ds i 0)) bound → min (fold (λ k byte. k * base + digit_value byte) n (drop i ds)) bound ≡ total → min (fold (λ k byte. k * base + digit_value byte) next (drop (i + 1) ds)) bound ≡ total
capped_more base bound n next i total ds h l e inv =
    let cut : drop i ds ≡ get_or ds i 0 ∷ drop (suc i) ds = drop-cons ds i 0 l in
    let split : min (fold (step base) n (drop i ds)) bound ≡ min (fold (step base) (step base n (get_or ds i 0)) (drop (suc i) ds)) bound =
    ap (λ l. min (fold (step base) n l) bound) cut in
    let whole : min (fold (step base) next (drop (suc i) ds)) bound ≡ total =
    ap (λ k. min (fold (step base) k (drop (suc i) ds)) bound) e
    ∙ (capped_fold base (step base n (get_or ds i 0)) bound (drop (suc i) ds) h (le_or_ge _ bound) ∙ (sym split ∙ inv)) in
    rw add-one whole
