-- `spelled` gives the bytes of a label's name, from its representation in the code: a short name in an array, or a long one in a vector.
use Rattle.std.specs.Prelude.{ℕ, ◌≤◌, List, take}
use Rattle.mips_isa.specs.declared.label.Spelling as declared
use Rattle.mips_isa.specs.declared.label.Spelling.TheVariants.{Short, Long}
use Rattle.mips_isa.specs.declared.label.TheConstants.{MOST_SHORT_NAME}

-- the bytes of a name
abbrev pub spelled : declared.Spelling → List ℕ
spelled (Short count bytes) = take count bytes
spelled (Long bytes) = bytes.value.items

-- a short name is no longer than its array
abbrev pub IsSpelled : declared.Spelling → Type 0
IsSpelled (Short count bytes) = count ≤ MOST_SHORT_NAME
IsSpelled (Long bytes) = Unit {0}
