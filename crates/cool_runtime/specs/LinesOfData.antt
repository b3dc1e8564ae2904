-- The assembly lines of objects in the data segment (Int, Bool, String): the word -1, and the words of the object under its label.
use Rattle.std.specs.Prelude.{◌≡◌, ℕ, pos, negsuc, ◌+◌, List, [], ◌∷◌, ◌++◌, length, codes, refl}
use Rattle.mips_isa.specs.Lines.{Name, Line, WordItem, Number, Address, Word, Asciiz, Align}
use Rattle.mips_isa.specs.Assembly.{data_line, directive_line}
use Rattle.cool_runtime.specs.Labels.{int_table, bool_table, string_table}
use Rattle.cool_runtime.specs.Instructions.{label}
use Rattle.cool_runtime.specs.Contents.{words_of_bytes}

abbrev pub words : List WordItem → Line
words items = data_line (Word items)

abbrev pub number : ℕ → WordItem
number value = Number (pos value)

abbrev pub address : Name → WordItem
address name = Address name

-- the words of an object: its tag, its size in words, its dispatch table, and what stands after that head
abbrev pub object_words : ℕ → ℕ → Name → List WordItem → List WordItem
object_words tag size table fields = Number (pos tag) ∷ Number (pos size) ∷ Address table ∷ fields

abbrev pub object_lines : Name → ℕ → ℕ → Name → List WordItem → List Line
object_lines name tag size table fields = words (Number (negsuc 0) ∷ []) ∷ label name ∷ words (object_words tag size table fields) ∷ []

-- an object that holds one number: an Int or a Bool
abbrev pub number_lines : Name → ℕ → Name → ℕ → List Line
number_lines name tag table value = object_lines name tag 4 table (Number (pos value) ∷ [])

abbrev pub int_lines : Name → ℕ → ℕ → List Line
int_lines name tag value = number_lines name tag int_table value

abbrev pub bool_lines : Name → ℕ → ℕ → List Line
bool_lines name tag value = number_lines name tag bool_table value

-- a String without its bytes
abbrev pub string_head_lines : Name → Name → ℕ → ℕ → List Line
string_head_lines name length_name tag size = object_lines name tag size string_table (Address length_name ∷ [])

-- a String, after the Int of its length
abbrev pub string_lines : Name → Name → ℕ → ℕ → List ℕ → List Line
string_lines name length_name int_tag string_tag bytes =
    int_lines length_name int_tag (length bytes)
    ++ (string_head_lines name length_name string_tag (4 + words_of_bytes (length bytes))
    ++ data_line (Asciiz bytes) ∷ directive_line (Align 2) ∷ [])

-- bytes up to a zero, under a label
abbrev pub text_lines : Name → List ℕ → List Line
text_lines name bytes = label name ∷ data_line (Asciiz bytes) ∷ []

-- Worked example: a String of two bytes takes five words.
size_of_ab : words_of_bytes (length (codes "ab")) ≡ 1
size_of_ab = refl
