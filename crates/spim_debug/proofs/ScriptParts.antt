-- The pieces between the newlines of a debugger script are its lines, except that the last piece may be empty. An empty line is no command, so both give the
-- same commands.
use Rattle.std.proofs.Common.{◌≡◌, refl, ap, sym, ◌∙◌, arith, ℕ, suc, ◌+◌, ◌≤◌, length, map, Bool, true, false, List, [], ◌∷◌, ◌++◌}
use Rattle.std.specs.Prelude.{◌==◌, if◌then◌else◌, Option, Result, Ok, Err, IfOk, Vec}
use Rattle.std.specs.Global.{Global}
use Rattle.std.specs.List.{count_by, slice_split, onto_first}
use Rattle.std.proofs.lemmas.List.{length-map}
use Rattle.std.proofs.lemmas.List.Splits.{length-slice_split}
use Rattle.std.proofs.lemmas.List.Sums.{count_by-le-length}
use denote.Ref.{Bor}
use Rattle.mips_text.specs.Reading.{lines_in, with_byte}
use Rattle.spim_debug.specs.Scripts.{said, then_commands, commands_from, commands_in}

-- a byte is put before the first part
same_first : (b : ℕ) (parts : List (List ℕ)) → onto_first b parts ≡ with_byte b parts
same_first b [] = refl
same_first b (part ∷ parts) = refl

-- The parts of a text at its newlines are its lines, or these and an empty one.
data AreLines (parts : List (List ℕ)) (rows : List (List ℕ)) : Type 0 where
  lines_alone : parts ≡ rows → AreLines parts rows
  with_empty : parts ≡ rows ++ [] ∷ [] → AreLines parts rows

-- a text that is not empty has a line
first_line : (b : ℕ) (bs : List ℕ) → (line : List ℕ) × (rest : List (List ℕ)) × (lines_in (b ∷ bs) ≡ line ∷ rest)
first_line b bs = by (b == 10) (lines_in bs)
  where
    by : (newline : Bool) (rows : List (List ℕ)) → (line : List ℕ) × (rest : List (List ℕ)) × ((if newline then [] ∷ rows else with_byte b rows) ≡ line ∷ rest)
    by true rows = ([], rows, refl)
    by false [] = (b ∷ [], [], refl)
    by false (row ∷ rows) = (b ∷ row, rows, refl)

-- a newline before a text
newline_before : (parts rows : List (List ℕ)) → AreLines parts rows → AreLines ([] ∷ parts) ([] ∷ rows)
newline_before parts rows (lines_alone e) = lines_alone (ap (λ l. [] ∷ l) e)
newline_before parts rows (with_empty e) = with_empty (ap (λ l. [] ∷ l) e)

-- another byte before a text with a first line
byte_before : (b : ℕ) (parts rows : List (List ℕ)) (line : List ℕ) (rest : List (List ℕ)) → rows ≡ line ∷ rest → AreLines parts rows → AreLines (onto_first b parts) (with_byte b rows)
byte_before b parts rows line rest first (lines_alone e) = lines_alone (same_first b parts ∙ ap (with_byte b) e)
byte_before b parts rows line rest first (with_empty e) =
    with_empty (same_first b parts ∙ ap (with_byte b) (e ∙ ap (λ l. l ++ [] ∷ []) first) ∙ ap (λ l. with_byte b l ++ [] ∷ []) (sym first))

parts_are_lines : (bytes : List ℕ) → AreLines (slice_split (λ b. b == 10) bytes) (lines_in bytes)
parts_are_lines [] = with_empty refl
parts_are_lines (b ∷ []) = by (b == 10)
  where
    by : (newline : Bool) → AreLines (if newline then [] ∷ [] ∷ [] else (b ∷ []) ∷ []) (if newline then [] ∷ [] else (b ∷ []) ∷ [])
    by true = with_empty refl
    by false = lines_alone refl
parts_are_lines (b ∷ c ∷ bs) =
    let first = first_line c bs in
    by (b == 10) (slice_split (λ x. x == 10) (c ∷ bs)) (lines_in (c ∷ bs)) first.0 first.1 first.2 (parts_are_lines (c ∷ bs))
  where
    by : (newline : Bool) (parts rows : List (List ℕ)) (line : List ℕ) (rest : List (List ℕ)) → rows ≡ line ∷ rest → AreLines parts rows
        → AreLines (if newline then [] ∷ parts else onto_first b parts) (if newline then [] ∷ rows else with_byte b rows)
    by true parts rows line rest first are = newline_before parts rows are
    by false parts rows line rest first are = byte_before b parts rows line rest first are

-- an empty line after others says nothing
empty_last : (place : List ℕ → Option ℕ) (number : ℕ) (rows : List (List ℕ)) → commands_from place number (rows ++ [] ∷ []) ≡ commands_from place number rows
empty_last place number [] = refl
empty_last place number (row ∷ rows) = ap (then_commands number (said place row)) (empty_last place (suc number) rows)

-- the commands of the parts of a script at its newlines are those of the script
pub parts_say : (place : List ℕ → Option ℕ) (bytes : List ℕ) → commands_from place 1 (slice_split (λ b. b == 10) bytes) ≡ commands_in place bytes
parts_say place bytes = by (slice_split (λ b. b == 10) bytes) (parts_are_lines bytes)
  where
    by : (parts : List (List ℕ)) → AreLines parts (lines_in bytes) → commands_from place 1 parts ≡ commands_in place bytes
    by parts (lines_alone e) = ap (commands_from place 1) e
    by parts (with_empty e) = ap (commands_from place 1) e ∙ empty_last place 1 (lines_in bytes)

-- there are at most as many parts as bytes, and one more
pub parts_few : {E : Type 0} (mark : ℕ) (text : List ℕ) (answer : Result (Vec (Bor (List ℕ)) Global) E) → IfOk answer (λ parts. map (λ part. part.now) parts.items ≡ slice_split (λ b. b == mark) text)
    → IfOk answer (λ parts. length parts.items ≤ length text + 1)
parts_few mark text (Ok parts) e =
    let p = λ (b : ℕ). b == mark in
    let count : length (slice_split p text) ≡ count_by p text + 1 = length-slice_split p text in
    let few : count_by p text ≤ length text = count_by-le-length p text in
    let same : length (map (λ (part : Bor (List ℕ)). part.now) parts.items) ≡ length (slice_split p text) = ap length e in
    let seen : length (map (λ (part : Bor (List ℕ)). part.now) parts.items) ≡ length parts.items = length-map parts.items (λ (part : Bor (List ℕ)). part.now) in
    omega arith
parts_few mark text (Err error) e = tt
