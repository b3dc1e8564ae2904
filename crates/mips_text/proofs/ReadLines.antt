-- Parsing an assembly text line by line gives the result that the definition has for the whole text.
use Rattle.std.proofs.Common.{◌≡◌, ◌∙◌, sym, ap, arith, ℕ, ◌≤◌, List, [], ◌∷◌, ◌++◌, append_assoc, length, map, Result, Ok}
use Rattle.std.proofs.lemmas.List.{append-nil, map-append}
use Rattle.mips_isa.specs.declared.asm_fault.AsmKind.{AsmKind}
use Rattle.mips_isa.specs.declared.line.Line as declared_line
use Rattle.mips_isa.specs.Lines.{Line, line_of, lines_of}
use Rattle.mips_text.specs.Reading.{Reads, line_read, lines_in, readings}
use Rattle.mips_text.specs.Words.{words_of}

abbrev read : List ℕ → Result Line AsmKind
read line = line_read (words_of line)

-- the readings of a text, by its first line and the bytes behind it
pub readings_cut : (rest line behind : List ℕ) → lines_in rest ≡ line ∷ lines_in behind → readings rest ≡ line_read (words_of line) ∷ readings behind
readings_cut rest line behind e = ap (map read) e

-- one more line was read
pub line_more : (lines : List declared_line.Line) (next : declared_line.Line) (rest line behind : List ℕ) (total : List (Result Line AsmKind)) → lines_in rest ≡ line ∷ lines_in behind → line_read (words_of line) ≡ Ok (line_of next) → map Ok (lines_of lines) ++ readings rest ≡ total → map Ok (lines_of (lines ++ next ∷ [])) ++ readings behind ≡ total
line_more lines next rest line behind total e f inv =
    let split : map Ok (lines_of (lines ++ next ∷ [])) ≡ map Ok (lines_of lines) ++ Ok (line_of next) ∷ [] =
    ap (map Ok) (map-append line_of lines (next ∷ [])) ∙ map-append Ok (lines_of lines) (line_of next ∷ []) in
    let one : readings rest ≡ Ok (line_of next) ∷ readings behind = readings_cut rest line behind e ∙ ap (λ r. r ∷ readings behind) f in
    ap (λ l. l ++ readings behind) split ∙ (append_assoc (map Ok (lines_of lines)) (Ok (line_of next) ∷ []) (readings behind) ∙ (ap (λ l. map Ok (lines_of lines) ++ l) (sym one) ∙ inv))

-- all lines were read
pub lines_read : (lines : List declared_line.Line) (bytes rest : List ℕ) → length rest ≤ 0 → map Ok (lines_of lines) ++ readings rest ≡ readings bytes → Reads bytes (lines_of lines)
lines_read lines bytes [] h inv = sym inv ∙ append-nil (map Ok (lines_of lines))
lines_read lines bytes (b ∷ bs) h inv = absurd (omega arith)
