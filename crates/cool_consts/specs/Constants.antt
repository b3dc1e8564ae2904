-- `Constants` are the integer and string constants of a program, each numbered in the order of their first use.
use Rattle.std.specs.Prelude.{◌≡◌, ℕ, List, [], ◌∷◌, ◌++◌, nat_eq, bytes_eq, codes, if◌then◌else◌, refl}
use Rattle.std.specs.List.{position_or_len, list_any}

-- the integers and the strings, apart: each once, the first one used first
pub record Constants : Type 0 where
  pub integers : List ℕ
  pub strings : List (List ℕ)

-- the integers after one more is used, and the number that it has
abbrev pub with_integer : List ℕ → ℕ → List ℕ
with_integer integers value = if list_any (nat_eq value) integers then integers else integers ++ value ∷ []

abbrev pub integer_number : List ℕ → ℕ → ℕ
integer_number integers value = position_or_len (nat_eq value) integers

-- the strings after one more is used, and the number that it has
abbrev pub with_string : List (List ℕ) → List ℕ → List (List ℕ)
with_string strings bytes = if list_any (bytes_eq bytes) strings then strings else strings ++ bytes ∷ []

abbrev pub string_number : List (List ℕ) → List ℕ → ℕ
string_number strings bytes = position_or_len (bytes_eq bytes) strings

-- Worked examples: 5, 7 and 5 have the numbers 0, 1 and 0.
number_of_five : integer_number (with_integer (with_integer [] 5) 7) 5 ≡ 0
number_of_five = refl

number_of_seven : integer_number (with_integer [] 5) 7 ≡ 1
number_of_seven = refl

no_bytes_after_ab : string_number (with_string [] (codes "ab")) [] ≡ 1
no_bytes_after_ab = refl
