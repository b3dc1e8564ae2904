-- `number_in` is the number that a text denotes, if it has 1 to 19 decimal digits and the number is within bounds.
use Rattle.std.specs.Prelude.{◌&&◌, ◌≡◌, ◌≤◌, ℕ, Bool, List, length, nat_le, nat_lt, if◌then◌else◌, Option, Some, None, codes, refl}
use Rattle.std.specs.List.{list_all}
use Rattle.std.specs.Char.{is_ascii_digit}
use Rattle.std.specs.Str.Parse.{digits_value}

-- 1 to 19 decimal digits
abbrev pub is_number : List ℕ → Bool
is_number text = nat_lt 0 (length text) && (nat_le (length text) 19 && list_all is_ascii_digit text)

abbrev pub is_within : ℕ → ℕ → ℕ → Bool
is_within low high n = nat_le low n && nat_le n high

-- `is_within` as a proposition
abbrev pub IsWithin : ℕ → ℕ → ℕ → Type 0
IsWithin low high n = (low ≤ n) × (n ≤ high)

-- the number that the text denotes, if it is from low to high
abbrev pub number_in : ℕ → ℕ → List ℕ → Option ℕ
number_in low high text =
    if is_number text && is_within low high (digits_value 10 text) then Some (digits_value 10 text) else None

-- worked examples
leading_zeros : number_in 4 262144 (codes "0064") ≡ Some 64
leading_zeros = refl

least_is_in : number_in 4 262144 (codes "4") ≡ Some 4
least_is_in = refl

below_least : number_in 4 262144 (codes "3") ≡ None
below_least = refl

letter_in_it : number_in 1 4611686018427387904 (codes "1x") ≡ None
letter_in_it = refl

twenty_digits : number_in 1 300 (codes "00000000000000000001") ≡ None
twenty_digits = refl
