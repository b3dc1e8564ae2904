-- The files of a session, in order: their names, each once, and their bytes. `set_room` says whether the limits on files and bytes allow a file to be set.
use Rattle.std.specs.Prelude.{String, string_bytes, map, Result, Ok, Err, IfErr, nat_lt, ℕ, ◌+◌, List, [], ◌∷◌, ◌++◌, length, slice_set, remove, bytes_eq, get_or, if◌then◌else◌, Option, Some, None, codes, refl, ◌≡◌}
use Rattle.std.specs.Global.{Global}
use Rattle.cool_syntax.specs.declared.TheConstants.{MOST_FILES, MOST_SOURCE_BYTES}
use Rattle.cool_faults.specs.Files.{total}
use Rattle.cool_session.specs.declared.error.SetError.{SetError}
use Rattle.cool_session.specs.declared.error.SetError.TheVariants.{TooMany, TooLarge}
use Rattle.cool_session.specs.declared.error.SetError.TheVariants as error

-- names as bytes
abbrev pub names_of : List (String Global) → List (List ℕ)
names_of = map string_bytes

-- the first position of a name among names, of which the first has this number
abbrev pub position_from : ℕ → List (List ℕ) → List ℕ → Option ℕ
position_from k [] name = None
position_from k (n ∷ ns) name = if bytes_eq n name then Some k else position_from (k + 1) ns name

abbrev pub position : List (List ℕ) → List ℕ → Option ℕ
position = position_from 0

-- a list with one more item at the end, or with the item at a position replaced
abbrev pub placed : {X : Type 0} → Option ℕ → List X → X → List X
placed None xs x = xs ++ x ∷ []
placed (Some k) xs x = slice_set xs k x

-- a list without the item at a position, where there is one
abbrev pub without : {X : Type 0} → Option ℕ → List X → List X
without None xs = xs
without (Some k) xs = remove xs k

-- The names after a file is set: a name that is held keeps its position, and another goes last.
abbrev pub names_set : List (List ℕ) → List ℕ → List (List ℕ)
names_set names name = placed (position names name) names name

-- the bytes of the files after a file is set
abbrev pub files_set : List (List ℕ) → List (List ℕ) → List ℕ → List ℕ → List (List ℕ)
files_set names files name bytes = placed (position names name) files bytes

-- whether so many files of so many bytes may be held
abbrev pub room : List (List ℕ) → List (List ℕ) → Result (Unit {0}) SetError
room names files =
    if nat_lt MOST_FILES (length names) then Err TooMany
    else if nat_lt MOST_SOURCE_BYTES (total files) then Err TooLarge else Ok tt

-- whether there is room for the files after a file is set
unfoldable pub set_room : List (List ℕ) → List (List ℕ) → List ℕ → List ℕ → Result (Unit {0}) SetError
set_room names files name bytes = room (names_set names name) (files_set names files name bytes)

-- The answer where a file is set: the refusal where there is no room, and else that it is set, or that memory is wanting.
abbrev pub IsSetAnswer : Result (Unit {0}) SetError → Result (Unit {0}) SetError → Type 0
IsSetAnswer (Err e) result = result ≡ Err e
IsSetAnswer (Ok u) result = IfErr result (λ e. e ≡ error.Memory)

-- the number of bytes in the file at a position
abbrev pub length_at : List (List ℕ) → Option ℕ → Option ℕ
length_at files None = None
length_at files (Some k) = Some (length (get_or files k []))

-- Worked examples
held_name : position (codes "a" ∷ codes "b" ∷ []) (codes "b") ≡ Some 1
held_name = refl

other_name : position (codes "a" ∷ codes "b" ∷ []) (codes "c") ≡ None
other_name = refl

set_again : files_set (codes "a" ∷ codes "b" ∷ []) ((1 ∷ []) ∷ (2 ∷ []) ∷ []) (codes "a") (3 ∷ []) ≡ (3 ∷ []) ∷ (2 ∷ []) ∷ []
set_again = refl

set_last : names_set (codes "a" ∷ codes "b" ∷ []) (codes "c") ≡ codes "a" ∷ codes "b" ∷ codes "c" ∷ []
set_last = refl

taken_away : without (Some 0) (codes "a" ∷ codes "b" ∷ []) ≡ codes "b" ∷ []
taken_away = refl
