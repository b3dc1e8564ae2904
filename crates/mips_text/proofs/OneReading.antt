-- Each assembly text has one list of parsed lines or one first error, and never both.
use Rattle.std.proofs.Common.{◌≡◌, ◌∙◌, sym, ap, refl, arith, ℕ, ◌+◌, ◌⊎◌, inl, inr, List, [], ◌∷◌, ◌++◌, length, map, Result, Ok, Err}
use Rattle.mips_isa.specs.declared.asm_fault.AsmKind.{AsmKind}
use Rattle.mips_isa.specs.declared.asm_fault.AsmFault.{AsmFault}
use Rattle.mips_isa.specs.Lines.{Line}
use Rattle.mips_text.specs.Laws.{HasReading}
use Rattle.mips_text.specs.Reading.{FirstFault, Reads, readings}

abbrev Readings : Type 0
Readings = List (Result Line AsmKind)

abbrev good : Line → Result Line AsmKind
good line = Ok line

abbrev bad : AsmKind → Result Line AsmKind
bad kind = Err kind

-- lines that are read alike are the same
same_lines : (ls ms : List Line) → map good ls ≡ map good ms → ls ≡ ms
same_lines [] [] e = refl
same_lines [] (m ∷ ms) e = absurd (cc)
same_lines (l ∷ ls) [] e = absurd (cc)
same_lines (l ∷ ls) (m ∷ ms) e =
    let first : good l ≡ good m = cc in
    let rest : map good ls ≡ map good ms = cc in
    let one : l ≡ m = cc in
    let others : ls ≡ ms = same_lines ls ms rest in
    cc

pub one_reading : (bytes : List ℕ) (first second : List Line) → Reads bytes first → Reads bytes second → first ≡ second
one_reading bytes first second h g = same_lines first second (sym h ∙ g)

-- two first faults
pub record Same (m n : ℕ) (k l : AsmKind) : Type 0 where
  pub places : m ≡ n
  pub kinds : k ≡ l

same_faults : (ls ms : List Line) (k l : AsmKind) (rest others : Readings) → map Ok ls ++ Err k ∷ rest ≡ map Ok ms ++ Err l ∷ others → Same (length ls) (length ms) k l
same_faults [] [] k l rest others e = let h : bad k ≡ bad l = cc in record { places = refl; kinds = cc }
same_faults [] (m ∷ ms) k l rest others e = absurd (cc)
same_faults (x ∷ xs) [] k l rest others e = absurd (cc)
same_faults (x ∷ xs) (m ∷ ms) k l rest others e =
    let behind : map Ok xs ++ Err k ∷ rest ≡ map Ok ms ++ Err l ∷ others = cc in
    let h : Same (length xs) (length ms) k l = same_faults xs ms k l rest others behind in
    record { places = omega (arith, h.places); kinds = h.kinds }

pub one_first_fault : (bytes : List ℕ) (first second : AsmFault) → FirstFault bytes first → FirstFault bytes second → first ≡ second
one_first_fault bytes first second h g =
    let same : Same (length h.good) (length g.good) first.kind second.kind = same_faults h.good g.good first.kind second.kind h.rest g.rest (sym h.readings_are ∙ g.readings_are) in
    let line : first.line ≡ second.line = omega (arith, h.line, g.line, same.places) in
    λ i. record { kind = same.kinds i; line = line i }

-- no list of lines has a fault in it
no_fault : (ls ms : List Line) (k : AsmKind) (rest : Readings) → map Ok ls ≡ map Ok ms ++ Err k ∷ rest → ⊥
no_fault [] [] k rest e = absurd (cc)
no_fault [] (m ∷ ms) k rest e = absurd (cc)
no_fault (l ∷ ls) [] k rest e = absurd (cc)
no_fault (l ∷ ls) (m ∷ ms) k rest e = let behind : map Ok ls ≡ map Ok ms ++ Err k ∷ rest = cc in no_fault ls ms k rest behind

pub never_both : (bytes : List ℕ) (lines : List Line) (fault : AsmFault) → Reads bytes lines → FirstFault bytes fault → ⊥
never_both bytes lines fault h g = no_fault lines g.good fault.kind g.rest (sym h ∙ g.readings_are)

-- a list of readings is all lines, or has a first fault
abbrev pub Split : Readings → Type 0
Split rs = ((ls : List Line) × (rs ≡ map Ok ls)) ⊎ ((ls : List Line) × (k : AsmKind) × (rest : Readings) × (rs ≡ map Ok ls ++ Err k ∷ rest))

split_more : (l : Line) (rs : Readings) → Split rs → Split (Ok l ∷ rs)
split_more l rs (inl h) = inl (l ∷ h.0, ap (λ x. Ok l ∷ x) h.1)
split_more l rs (inr h) = inr (l ∷ h.0, h.1, h.2, ap (λ x. Ok l ∷ x) h.3)

split : (rs : Readings) → Split rs
split [] = inl ([], refl)
split (Ok l ∷ rs) = split_more l rs (split rs)
split (Err k ∷ rs) = inr ([], k, rs, refl)

reading_of : (bytes : List ℕ) → Split (readings bytes) → HasReading bytes
reading_of bytes (inl h) = inl (h.0, h.1)
reading_of bytes (inr h) = inr (record { kind = h.1; line = length h.0 + 1 }, record { good = h.0; rest = h.2; readings_are = h.3; line = refl })

pub always_one : (bytes : List ℕ) → HasReading bytes
always_one bytes = reading_of bytes (split (readings bytes))
