-- `reason_words` describes a suggested fix in words: by the sentence of its hint (advice about a common mistake), or else by the bytes that it adds and
-- removes.
use Rattle.std.specs.Prelude.{ℕ, ◌-◌, List, [], ◌∷◌, ◌++◌, length, take, drop, codes, nat_eq, nat_lt, if◌then◌else◌}
use Rattle.std.specs.List.{prefix_len, suffix_len}
use Rattle.std.specs.Char.{is_ascii_whitespace}
use Rattle.cool_guess.specs.declared.candidate.Reason.{Reason}
use Rattle.cool_guess.specs.declared.candidate.Reason.TheVariants.{Edit, Hinted}
use Rattle.cool_guess.specs.Hints.{hint_words}

-- a text without the white space at its end
abbrev pub trimmed_end : List ℕ → List ℕ
trimmed_end text = take (length text - suffix_len is_ascii_whitespace text) text

-- a text without the white space around it
abbrev pub trimmed : List ℕ → List ℕ
trimmed text = trimmed_end (drop (prefix_len is_ascii_whitespace text) text)

-- the bytes in front of the first newline
abbrev pub first_line : List ℕ → List ℕ
first_line [] = []
first_line (b ∷ bs) = if nat_eq b 10 then [] else b ∷ first_line bs

-- the first line of a text in quotes, with two dots if the text has more lines
abbrev pub quoted : List ℕ → List ℕ
quoted text = codes "`" ++ (first_line text ++ (if nat_lt (length (first_line text)) (length text) then codes " ..`" else codes "`"))

-- the words on bytes that are taken away and bytes that are put in, both without the white space around them
abbrev pub edit_words : List ℕ → List ℕ → List ℕ
edit_words [] [] = codes "change the white space"
edit_words [] (n ∷ new) = codes "add " ++ quoted (n ∷ new)
edit_words (o ∷ old) [] = codes "remove " ++ quoted (o ∷ old)
edit_words (o ∷ old) (n ∷ new) = (codes "write " ++ quoted (n ∷ new)) ++ (codes " instead of " ++ quoted (o ∷ old))

-- the words on an edit for a reason, from the bytes that the edit takes away and those that it puts in
abbrev pub reason_words : Reason → List ℕ → List ℕ → List ℕ
reason_words Edit old new = edit_words (trimmed old) (trimmed new)
reason_words (Hinted hint) old new = hint_words hint
