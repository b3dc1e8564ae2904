-- If the first pass of the assembler finds no error in lines, the words of text and bytes of data fit into their segments after each line.
use Rattle.std.specs.Prelude.{◌≡◌, ℕ, zero, suc, nat_lt, ◌||◌, Bool, true, false, if◌then◌else◌, List, [], ◌∷◌, ◌++◌, Option, Some, None, refl}
use Rattle.std.proofs.Common.{true≢false}
use Rattle.std.proofs.lemmas.Bool.{ltb-false}
use Rattle.mips_isa.specs.declared.asm_fault.AsmKind.{AsmKind}
use Rattle.mips_isa.specs.declared.asm_fault.AsmKind.TheVariants.{A5, A8, A9}
use Rattle.mips_isa.specs.declared.asm_fault.AsmFault.{AsmFault}
use Rattle.mips_isa.specs.Lines.{Name, Line}
use Rattle.mips_isa.specs.Assembly.{Position, after_line, need, first_pass, fault_or, defining_fault, is_wrong, any_twice, is_too_large}
use Rattle.mips_asm.specs.Passes.{Fits, position_at, after_lines}

-- the first of several faults is none
pub fine_here : (number : ℕ) (o : Option AsmKind) (other : Option AsmFault) → fault_or number o other ≡ None → (o ≡ None) × (other ≡ None)
fine_here number None other h = (refl, h)
fine_here number (Some kind) other h = cc

or_fits : (words bytes : ℕ) → (nat_lt 66060288 words || nat_lt 268435456 bytes) ≡ false → Fits words bytes
or_fits words bytes h = by (nat_lt 66060288 words) (nat_lt 268435456 bytes) refl refl h
  where
    by : (a b : Bool) → nat_lt 66060288 words ≡ a → nat_lt 268435456 bytes ≡ b → (a || b) ≡ false → Fits words bytes
    by true b e f k = absurd (true≢false k)
    by false true e f k = absurd (true≢false k)
    by false false e f k = record { words_fit = ltb-false 66060288 words e; bytes_fit = ltb-false 268435456 bytes f }

pub fine_fits : (seen : List Name) (p : Position) (line : Line) → defining_fault seen p line ≡ None → Fits (after_line line p).words (after_line line p).bytes
fine_fits seen p line h =
    let q : Position = after_line line p in
    or_fits q.words q.bytes (by (is_wrong (need line.statement) p.segment) (any_twice seen line.labels) (is_too_large q) h)
  where
    by : (a b d : Bool) → (if a then Some A8 else (if b then Some A5 else (if d then Some A9 else None))) ≡ None → d ≡ false
    by true b d k = cc
    by false true d k = cc
    by false false true k = cc
    by false false false k = refl

pub position_fits : (seen : List Name) (p : Position) (number : ℕ) (lines : List Line) (k : ℕ)
    → Fits p.words p.bytes → first_pass seen p number lines ≡ None → let q = position_at p k lines in Fits q.words q.bytes
position_fits seen p number lines zero fits fine = fits
position_fits seen p number [] (suc k) fits fine = fits
position_fits seen p number (line ∷ rest) (suc k) fits fine =
    let both = fine_here number (defining_fault seen p line) (first_pass (seen ++ line.labels) (after_line line p) (suc number) rest) fine in
    position_fits (seen ++ line.labels) (after_line line p) (suc number) rest k (fine_fits seen p line both.0) both.1

-- and so after all lines
pub fits_after : (seen : List Name) (p : Position) (number : ℕ) (lines : List Line)
    → Fits p.words p.bytes → first_pass seen p number lines ≡ None → let q = after_lines p lines in Fits q.words q.bytes
fits_after seen p number [] fits fine = fits
fits_after seen p number (line ∷ rest) fits fine =
    let both = fine_here number (defining_fault seen p line) (first_pass (seen ++ line.labels) (after_line line p) (suc number) rest) fine in
    fits_after (seen ++ line.labels) (after_line line p) (suc number) rest (fine_fits seen p line both.0) both.1
