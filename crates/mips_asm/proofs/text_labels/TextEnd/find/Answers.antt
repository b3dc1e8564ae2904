-- `TextEnd::find` returns the end of the text segment: the address after the words of all lines, or 12 bytes later if the assembler adds `__start`.
use Rattle.std.proofs.Common.{sym, ◌∙◌, ap, ℕ, ◌+◌, ◌*◌, refl, arith}
use Rattle.mips_isa.specs.declared.address_map.TheConstants.{TEXT_START}
use Rattle.mips_isa.specs.Lines.{lines_of}
use Rattle.mips_asm.proofs.WordsOfText.{lines_fit}
use Rattle.mips_asm.proofs.LabelsOfText.{end_completed, end_alone, label_completed, label_alone}
use Rattle.mips_asm.proofs.text_labels.TextEnd.find.Goals as goal

pub words_in-requires : goal.words_in-requires
words_in-requires c = lines_fit (lines_of c.args.lines.now) c.requires.image

pub overflow_mul-end : goal.overflow_mul-end
overflow_mul-end c = let fits = lines_fit (lines_of c.args.lines.now) c.requires.image in omega arith

pub overflow_add-end : goal.overflow_add-end
overflow_add-end c = let fits = lines_fit (lines_of c.args.lines.now) c.requires.image in omega arith

pub overflow_add-result : goal.overflow_add-result
overflow_add-result c = let fits = lines_fit (lines_of c.args.lines.now) c.requires.image in omega arith

pub returns-then-lacks_start-clause-labels : goal.returns-then-lacks_start-clause-labels
returns-then-lacks_start-clause-labels c = λ name.
    let lines = lines_of c.args.lines.now in
    let end : ℕ = TEXT_START + 4 * c.words_in.result in
    label_completed lines name end (end + 12) (sym c.lacks_start.ensures ∙ c.if-lacks_start.true)
    (ap (λ (n : ℕ). TEXT_START + 4 * n) c.words_in.ensures) refl

pub returns-then-lacks_start-clause-end : goal.returns-then-lacks_start-clause-end
returns-then-lacks_start-clause-end c =
    let end : ℕ = TEXT_START + 4 * c.words_in.result in
    end_completed (lines_of c.args.lines.now) end (end + 12) (sym c.lacks_start.ensures ∙ c.if-lacks_start.true)
    (ap (λ (n : ℕ). TEXT_START + 4 * n) c.words_in.ensures) refl

pub returns-else-lacks_start-clause-labels : goal.returns-else-lacks_start-clause-labels
returns-else-lacks_start-clause-labels c = λ name.
    label_alone (lines_of c.args.lines.now) name (TEXT_START + 4 * c.words_in.result) (sym c.lacks_start.ensures ∙ c.if-lacks_start.false)
    (ap (λ (n : ℕ). TEXT_START + 4 * n) c.words_in.ensures)

pub returns-else-lacks_start-clause-end : goal.returns-else-lacks_start-clause-end
returns-else-lacks_start-clause-end c =
    end_alone (lines_of c.args.lines.now) (TEXT_START + 4 * c.words_in.result) (sym c.lacks_start.ensures ∙ c.if-lacks_start.false)
    (ap (λ (n : ℕ). TEXT_START + 4 * n) c.words_in.ensures)
