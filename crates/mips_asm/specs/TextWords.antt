-- `words_in` is the number of machine words in the text segment that lines are assembled to, and `words_before` that of the lines before a label.
use Rattle.std.specs.Prelude.{ℕ, ◌+◌, if◌then◌else◌, List, [], ◌∷◌}
use Rattle.mips_isa.specs.Lines.{Name, Line}
use Rattle.mips_isa.specs.Assembly.{Need, Nothing, Words, Item, Switch, Padding, need, has}

-- the words of a need
abbrev pub words_needed : Need → ℕ
words_needed Nothing = 0
words_needed (Words n) = n
words_needed (Item unit size) = 0
words_needed (Switch segment) = 0
words_needed (Padding unit) = 0

-- the words of lines
abbrev pub words_in : List Line → ℕ
words_in [] = 0
words_in (line ∷ rest) = words_needed (need line.statement) + words_in rest

-- the words before the first label of this name; without one, those of all lines
abbrev pub words_before : List Line → Name → ℕ
words_before [] name = 0
words_before (line ∷ rest) name = if has line.labels name then 0 else words_needed (need line.statement) + words_before rest name
