-- `number_from` gives the number in a line of input, from the part that was read and the rest of the line.
use Rattle.std.specs.Prelude.{ℕ, ◌-◌, ◌^◌, true, false, List}
use Rattle.mips_isa.specs.Machine.{wrap}
use Rattle.mips_isa.specs.Calls.{digits_from, number_of}
use Rattle.spim_machine.specs.declared.number.Number.{Number}
use Rattle.spim_machine.specs.declared.number.Number.TheVariants.{Blanks, Digits, Whole}

-- the number of the whole line
abbrev pub number_from : Number → List ℕ → ℕ
number_from Blanks line = number_of line
number_from (Digits false value) line = digits_from value line
number_from (Digits true value) line = wrap (2 ^ 32 - digits_from value line)
number_from (Whole value) line = value
