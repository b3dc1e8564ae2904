-- The statements of theorems on parsing assembly: `HasReading` says that a text has lines or a first error, `IsReadingKind` lists the errors of parsing, and
-- `AreLinesOf` says that lines are a text, cut at its newlines.
use Rattle.std.specs.Prelude.{◌≡◌, ◌⊎◌, ◌<◌, ◌==◌, not, true, ℕ, List, [], ◌∷◌, ◌++◌, length, flat_map}
use Rattle.std.specs.List.{AllByRecursion, list_all}
use Rattle.mips_isa.specs.declared.asm_fault.AsmKind.{AsmKind}
use Rattle.mips_isa.specs.declared.asm_fault.AsmKind.TheVariants.{A1, A2, A3, A4, A5, A6, A7, A8, A9}
use Rattle.mips_isa.specs.declared.asm_fault.AsmFault.{AsmFault}
use Rattle.mips_isa.specs.Lines.{Line}
use Rattle.mips_text.specs.Reading.{Reads, FirstFault}

-- A text is lines, or has a first fault.
abbrev pub HasReading : List ℕ → Type 0
HasReading bytes = ((lines : List Line) × Reads bytes lines) ⊎ ((fault : AsmFault) × FirstFault bytes fault)

-- the faults of reading
abbrev pub IsReadingKind : AsmKind → Type 0
IsReadingKind A1 = Unit {0}
IsReadingKind A2 = Unit {0}
IsReadingKind A3 = Unit {0}
IsReadingKind A4 = Unit {0}
IsReadingKind A5 = ⊥
IsReadingKind A6 = ⊥
IsReadingKind A7 = ⊥
IsReadingKind A8 = ⊥
IsReadingKind A9 = ⊥

-- lines, each with its newline
abbrev pub ended : List (List ℕ) → List ℕ
ended = flat_map (λ line. line ++ 10 ∷ [])

-- A text is cut in lines that hold no newline: each is ended by one, but that a last one of at least one byte need not be.
pub data IsCutIn (bytes : List ℕ) (lines : List (List ℕ)) : Type 0 where
  all_ended : bytes ≡ ended lines → IsCutIn bytes lines
  with_rest : (front : List (List ℕ)) (last : List ℕ) → lines ≡ front ++ last ∷ [] → 0 < length last → bytes ≡ ended front ++ last → IsCutIn bytes lines

abbrev pub HasNoNewline : List ℕ → Type 0
HasNoNewline line = list_all (λ b. not (b == 10)) line ≡ true

abbrev pub AreLinesOf : List ℕ → List (List ℕ) → Type 0
AreLinesOf bytes lines = AllByRecursion HasNoNewline lines × IsCutIn bytes lines
