-- If a machine word is disassembled and the resulting line is assembled, the result is the same word.
use Rattle.std.proofs.Common.{◌≡◌, ℕ, ◌<◌, [], ◌∷◌, Option, Some, None, refl, ap, ◌∙◌, subst}
use Rattle.mips_isa.specs.declared.instr.Instr.{Instr}
use Rattle.mips_isa.specs.Lines.{Line, Plain}
use Rattle.mips_isa.specs.Words.{word_of}
use Rattle.mips_isa.specs.Assembly.{image_of, instruction_line}
use Rattle.mips_isa.specs.Decoding.{decoded}
use Rattle.mips_isa.proofs.DecodedIsItsWord.{word_of-decoded}
use Rattle.spim_debug.specs.Disassembly.{disassembled, line_of_instruction, start_line}

text_of : (i : Instr) → (image_of (start_line ∷ instruction_line (Plain i) ∷ [])).text ≡ word_of i ∷ []
text_of i = refl

pub text_again : (word : ℕ) (line : Line) → word < 4294967296 → disassembled word ≡ Some line → (image_of (start_line ∷ line ∷ [])).text ≡ word ∷ []
text_again word line small e = by (decoded word) refl e
  where
    by : (o : Option Instr) → decoded word ≡ o → line_of_instruction o ≡ Some line → (image_of (start_line ∷ line ∷ [])).text ≡ word ∷ []
    by None d e = absurd (cc)
    by (Some i) d e =
        let same : instruction_line (Plain i) ≡ line = cc in
        subst (λ (x : Line). (image_of (start_line ∷ x ∷ [])).text ≡ word ∷ []) same (text_of i ∙ ap (λ (n : ℕ). n ∷ []) (word_of-decoded word i small d).1)
