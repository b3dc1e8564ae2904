use Rattle.std.proofs.Common.{sym, ap, ◌∙◌, ◌++◌, ◌∷◌, []}
use Rattle.mips_isa.specs.Decoding.{decoded}
use Rattle.spim_debug.specs.Disassembly.{line_of_option}
use Rattle.spim_debug.proofs.LinesOfWords.{statement_says, items_as}
use Rattle.spim_debug.proofs.notes.instruction_line.Goals as goal

-- the statement that is written is that of the word
pub returns-in-Some : goal.returns-in-Some
returns-in-Some c =
    let is = ap line_of_option (sym c.in-Some.is) ∙ c.disassemble.ensures in
    items_as c.statement_line.result _ _ (ap (λ text. text ++ 10 ∷ []) (statement_says (decoded c.args.word) c.in-Some.line is)) c.statement_line.ensures
