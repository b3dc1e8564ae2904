-- If the first digits of an integer constant already exceed the limit, so does the whole constant, because more digits never make a number smaller.
use Rattle.std.proofs.Common.{◌≡◌, ap, arith, ℕ, suc, ◌+◌, ◌-◌, ◌*◌, ◌<◌, ◌≤◌, List, [], ◌∷◌, length, drop, get_or, drop-cons}
use Rattle.std.specs.Prelude.{None}
use Rattle.std.specs.List.{fold}
use Rattle.std.proofs.lemmas.Bool.Decides.{nat_tests}
use Rattle.cool_lexer.specs.Fronts.{within_limit}

-- one more digit
abbrev pub step : ℕ → ℕ → ℕ
step n b = 10 * n + (b - 48)

-- the number that more digits make is no smaller
fold_grows : (n : ℕ) (bs : List ℕ) → n ≤ fold step n bs
fold_grows n [] = omega arith
fold_grows n (b ∷ bs) = omega (arith, fold_grows (step n b) bs)

-- a number above the limit is none
above : (n : ℕ) → 2147483647 < n → None ≡ within_limit n
above n h = grind (arith, nat_tests)

-- if the digits up to one are above the limit, so are all
pub too_large : (bs : List ℕ) (i high before : ℕ) → i < length bs → fold step before (drop i bs) ≡ fold step high bs → 2147483647 < step before (get_or bs i 0) → None ≡ within_limit (fold step high bs)
too_large bs i high before h e large =
    let split : fold step before (drop i bs) ≡ fold step (step before (get_or bs i 0)) (drop (suc i) bs) = ap (fold step before) (drop-cons bs i 0 h) in
    above (fold step high bs) (omega (arith, fold_grows (step before (get_or bs i 0)) (drop (suc i) bs)))
