-- `decode` returns an instruction if and only if the word is the encoding of this instruction, with its fields in range. This states the result as the
-- function's contract does.
use Rattle.std.proofs.Common.{◌≡◌, ℕ, ◌<◌, Some, None, sym, ◌∙◌, ap}
use Rattle.std.specs.Prelude.{Option, IfSome, IfNone}
use Rattle.mips_isa.specs.declared.instr.Instr.{Instr}
use Rattle.mips_isa.specs.Words.{word_of, InRange}
use Rattle.mips_isa.specs.Decoding.{decoded}
use Rattle.mips_isa.proofs.WordsAreDecoded.{decoded-word_of, not_a_word}
use Rattle.mips_isa.proofs.DecodedIsItsWord.{word_of-decoded}

-- the instruction that is found is in range, and this is its word
pub found_by_word : (word : ℕ) (found : Option Instr) → word < 4294967296 → found ≡ decoded word → IfSome found (λ i. InRange i × (word_of i ≡ word))
found_by_word word None h e = tt
found_by_word word (Some i) h e = word_of-decoded word i h (sym e)

-- nothing is found only where the word is that of no instruction
pub none_by_word : (word : ℕ) (found : Option Instr) → found ≡ decoded word → IfNone found ((i : Instr) → InRange i → word_of i ≡ word → ⊥)
none_by_word word None e = λ i. not_a_word word i (sym e)
none_by_word word (Some i) e = tt

-- the instruction whose word it is is found
pub only_by_word : (word : ℕ) (found : Option Instr) → found ≡ decoded word → (i : Instr) → InRange i → word_of i ≡ word → found ≡ Some i
only_by_word word found e i h w = e ∙ ap decoded (sym w) ∙ decoded-word_of i h
