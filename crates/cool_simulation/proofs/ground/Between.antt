-- Lemmas on the function `is_between`, which tests whether a number is between two others.
use Rattle.std.proofs.Common.{◌≡◌, ℕ, ◌<◌, ◌≤◌, Bool as Truth, true, false, arith}
use Rattle.std.specs.Prelude.{nat_le, nat_lt, ◌&&◌}

abbrev pub is_between : ℕ → ℕ → ℕ → Truth
is_between a b x = nat_le a x && nat_lt x b

pub between : (a b x : ℕ) → a ≤ x → x < b → is_between a b x ≡ true
between a b x h k = grind arith

pub below_it : (a b x : ℕ) → x < a → is_between a b x ≡ false
below_it a b x h = grind arith

pub behind_it : (a b x : ℕ) → b ≤ x → is_between a b x ≡ false
behind_it a b x h = grind arith

pub is_in : (a b x : ℕ) → is_between a b x ≡ true → (a ≤ x) × (x < b)
is_in a b x h = (grind arith, grind arith)
