-- The labels of integer and string constants in assembly code, by the run-time conventions.
use Rattle.std.specs.Prelude.{ℕ, ◌++◌, codes, decimal}
use Rattle.mips_isa.specs.Lines.{Name}

abbrev pub int_constant : ℕ → Name
int_constant k = codes "int_const" ++ decimal k

abbrev pub string_constant : ℕ → Name
string_constant k = codes "str_const" ++ decimal k

-- the Int of the length of a string
abbrev pub string_length : ℕ → Name
string_length k = codes "__length" ++ decimal k
