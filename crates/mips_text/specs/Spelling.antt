-- The text of an instruction or a directive as it is printed: its name, then its operands with the separators between them (`row_text`).
use Rattle.std.specs.Prelude.{ℕ, List, [], ◌∷◌, ◌++◌, codes, suc, ◌==◌, if◌then◌else◌}
use Rattle.mips_text.specs.Names.{register_text}

-- the text between the operand of an index, from 0, and the word before
abbrev pub gap_text : ℕ → List ℕ
gap_text index = if index == 0 then codes " " else codes ", "

-- a register, with its `$`
abbrev pub register_operand : ℕ → List ℕ
register_operand register = 36 ∷ register_text register

-- a byte of a string: newline, tab, quote and backslash are escaped
abbrev pub letter_text : ℕ → List ℕ
letter_text byte = if byte == 10 then codes "\\n" else if byte == 9 then codes "\\t" else if byte == 34 then 92 ∷ 34 ∷ [] else if byte == 92 then 92 ∷ 92 ∷ [] else byte ∷ []

-- the operands from an index on, each after its separator
abbrev pub operands_text : ℕ → List (List ℕ) → List ℕ
operands_text index [] = []
operands_text index (operand ∷ operands) = gap_text index ++ (operand ++ operands_text (suc index) operands)

-- a mnemonic and its operands
abbrev pub row_text : List ℕ → List (List ℕ) → List ℕ
row_text name operands = name ++ operands_text 0 operands
