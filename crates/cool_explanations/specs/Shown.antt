-- These functions cut a text to the part that is shown: a range of it, or its front or its end if it is too long.
use Rattle.std.specs.Prelude.{◌≡◌, refl, ℕ, ◌-◌, List, ◌++◌, length, take, drop, codes, nat_le, if◌then◌else◌}

-- the bytes of a range, as far as they are there
abbrev pub part : ℕ → ℕ → List ℕ → List ℕ
part start end bytes = drop start (take end bytes)

-- the last bytes, at most so many, behind `..` where others stand in front of them
abbrev pub cut_front : ℕ → List ℕ → List ℕ
cut_front most bytes = if nat_le (length bytes) most then bytes else codes ".." ++ drop (length bytes - most) bytes

-- the first bytes, at most so many, and `..` where others follow them
abbrev pub cut_back : ℕ → List ℕ → List ℕ
cut_back most bytes = if nat_le (length bytes) most then bytes else take most bytes ++ codes ".."

-- the first 60 bytes between backquotes
abbrev pub quoted : List ℕ → List ℕ
quoted bytes = codes "`" ++ (cut_back 60 bytes ++ codes "`")

-- Worked examples: a name, and the front and the end of a long text.
quoted_name : quoted (codes "count") ≡ codes "`count`"
quoted_name = refl

cut_short : cut_back 3 (codes "class") ≡ codes "cla.."
cut_short = refl

cut_long : cut_front 3 (codes "class") ≡ codes "..ass"
cut_long = refl
