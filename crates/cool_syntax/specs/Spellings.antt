-- `spelled` is the list of the bytes of a name, which the code stores in a fixed array if the name is short, and else in a vector.
use Rattle.std.specs.Prelude.{◌≡◌, ℕ, ◌-◌, ◌≤◌, List, length, take, drop, replicate}
use Rattle.cool_syntax.specs.declared.text.Spelling as declared
use Rattle.cool_syntax.specs.declared.text.Spelling.TheVariants.{Short, Long}
use Rattle.cool_syntax.specs.declared.text.TheConstants.{MOST_SHORT_NAME}

-- the bytes of a name
abbrev pub spelled : declared.Spelling → List ℕ
spelled (Short count bytes) = take count bytes
spelled (Long bytes) = bytes.value.items

-- The array of a short name is zero after the name, so two short names are equal exactly if their counts and arrays are equal.
abbrev pub IsSpelled : declared.Spelling → Type 0
IsSpelled (Short count bytes) = (count ≤ MOST_SHORT_NAME) × (length bytes ≡ MOST_SHORT_NAME) × (drop count bytes ≡ replicate (MOST_SHORT_NAME - count) 0)
IsSpelled (Long bytes) = Unit {0}
