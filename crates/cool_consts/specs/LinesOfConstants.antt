-- `constants_lines` lists the lines of assembly of a program's constants: the two Bools, the integers, and the strings, each string after the Int of its
-- length.
use Rattle.std.specs.Prelude.{ℕ, ◌+◌, List, [], ◌∷◌, ◌++◌}
use Rattle.mips_isa.specs.Lines.{Line}
use Rattle.cool_runtime.specs.Labels.{true_constant, false_constant}
use Rattle.cool_runtime.specs.LinesOfData.{int_lines, bool_lines, string_lines}
use Rattle.cool_consts.specs.Constants.{Constants}
use Rattle.cool_consts.specs.Labels.{int_constant, string_constant, string_length}

abbrev pub integers_lines : ℕ → ℕ → List ℕ → List Line
integers_lines tag k [] = []
integers_lines tag k (n ∷ ns) = int_lines (int_constant k) tag n ++ integers_lines tag (k + 1) ns

abbrev pub strings_lines : ℕ → ℕ → ℕ → List (List ℕ) → List Line
strings_lines int_tag string_tag k [] = []
strings_lines int_tag string_tag k (bytes ∷ rest) =
    string_lines (string_constant k) (string_length k) int_tag string_tag bytes ++ strings_lines int_tag string_tag (k + 1) rest

abbrev pub constants_lines : ℕ → ℕ → ℕ → Constants → List Line
constants_lines int_tag bool_tag string_tag constants =
    bool_lines false_constant bool_tag 0
    ++ (bool_lines true_constant bool_tag 1
    ++ (integers_lines int_tag 0 constants.integers
    ++ strings_lines int_tag string_tag 0 constants.strings))
