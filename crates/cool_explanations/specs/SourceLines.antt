-- `source_line` is the source line of a compile-time error, and below it carets (`^`) that mark its range. A tab stands below a tab, and nothing below a
-- byte that continues a character of UTF-8.
use Rattle.std.specs.Prelude.{◌≡◌, refl, ℕ, ◌+◌, ◌-◌, List, [], ◌∷◌, ◌++◌, length, take, drop, codes, decimal, replicate, Bool, ◌&&◌, nat_eq, nat_le, nat_lt, if◌then◌else◌}
use Rattle.std.specs.List.{flat_map}
use Rattle.std.specs.Fmt as decimals
use Rattle.cool_faults.specs.Shown.{shown}
use Rattle.cool_explanations.specs.Shown.{cut_back, cut_front}

-- the number of a line, with blanks in front to five letters
abbrev pub number : ℕ → List ℕ
number line = replicate (5 - length (decimal line)) 32 ++ decimal line

-- where the line begins that is the last of some bytes; so many bytes stand before these, and the line that they go on with began there
abbrev pub last_start : ℕ → ℕ → List ℕ → ℕ
last_start start before [] = start
last_start start before (b ∷ bs) = last_start (if nat_eq b 10 then before + 1 else start) (before + 1) bs

-- the bytes behind the last newline
abbrev pub last_line : List ℕ → List ℕ
last_line bytes = drop (last_start 0 0 bytes) bytes

-- the bytes in front of the first newline
abbrev pub first_line : List ℕ → List ℕ
first_line [] = []
first_line (b ∷ bs) = if nat_eq b 10 then [] else b ∷ first_line bs

-- a byte that continues a letter of UTF-8
abbrev pub is_inner : ℕ → Bool
is_inner b = nat_le 128 b && nat_lt b 192

abbrev pub blank_of : ℕ → List ℕ
blank_of b = if nat_eq b 9 then 9 ∷ [] else if is_inner b then [] else codes " "

-- the line below bytes that are not marked
abbrev pub blanks : List ℕ → List ℕ
blanks = flat_map blank_of

abbrev pub mark_of : ℕ → List ℕ
mark_of b = if is_inner b then [] else codes "^"

-- the line below marked bytes, with ^ below none
abbrev pub marks : List ℕ → List ℕ
marks bytes = codes "^" ++ flat_map mark_of (drop 1 bytes)

-- a line of this number, of three parts, the second of which is marked
abbrev pub source_text : ℕ → List ℕ → List ℕ → List ℕ → List ℕ
source_text line front range back =
    number line ++ (codes " | " ++ (front ++ (range ++ (back ++ (codes "\n      | " ++ (blanks front ++ (marks range ++ codes "\n")))))))

-- how much of each part of a line of so many bytes is shown
abbrev pub most_of : ℕ → ℕ
most_of size = if nat_le size 160 then 160 else 50

-- The line of this number in which the range from start to end stands, as far as it goes on that line. `shown` gets the whole line, so that no cut and no
-- end of the range hides the first byte of a character from it.
abbrev pub source_line : List ℕ → ℕ → ℕ → ℕ → List ℕ
source_line file line start end =
    let front = last_line (take start file) in
    let all = shown (front ++ first_line (drop start file)) in
    let rest = drop (length front) all in
    let most = most_of (length all) in
    source_text line (cut_front most (take (length front) all)) (cut_back most (take (end - start) rest)) (cut_back most (drop (end - start) rest))

-- Worked example: the second line of a file.
example : source_line (codes "a\n b <- cd;\ne") 2 8 10 ≡ codes "    2 |  b <- cd;\n      |       ^^\n"
unfolding decimals.digits shown
example = refl
