-- If a statement of assembly lacks an operand, the error is A2 (wrong operand).
use Rattle.std.proofs.Common.{◌≡◌, refl, arith, List, [], ◌∷◌, length, map, ◌<◌}
use Rattle.std.specs.Prelude.{Some}
use Rattle.mips_isa.specs.declared.asm_fault.AsmKind.TheVariants.{A2}
use Rattle.mips_text.specs.declared.wanted.Wanted.{Wanted}
use Rattle.mips_text.specs.declared.words.Word as declared_word
use Rattle.mips_text.specs.Operands.{row_fault}
use Rattle.mips_text.specs.Views.{word_seen}

-- no word stands where one is wanted
pub one_missing : (wanted : List Wanted) (words : List declared_word.Word) → length words < 1 → 0 < length wanted → Some A2 ≡ row_fault wanted (map word_seen words)
one_missing [] words h l = absurd (omega arith)
one_missing (w ∷ ws) [] h l = refl
one_missing (w ∷ ws) (x ∷ xs) h l = absurd (omega arith)
