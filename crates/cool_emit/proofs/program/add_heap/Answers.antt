-- `add_heap` appends the lines that mark the beginning of the heap (`heap_lines`): the label `heap_start`, and a word.
use Rattle.std.proofs.Common.{[], ◌∷◌, map, ap, ◌∙◌}
use Rattle.mips_isa.specs.Lines.{WordItem, item_of}
use Rattle.cool_runtime.specs.LinesOfData.{words}
use Rattle.cool_runtime.proofs.AddedLines.{with_line, in_turn}
use Rattle.cool_emit.proofs.program.add_heap.Goals as goal

pub returns : goal.returns
returns c =
    in_turn _ _ _ _ _ (with_line _ _ _ _ c.in_ok-push.ensures.items c.in_ok-label_line.ensures)
    (with_line _ _ _ _ c.in_ok-push-2.ensures.items
    (c.in_ok-word_line.ensures ∙ ap (λ items. words (map item_of items)) c.in_ok-vec.ensures.items ∙ ap (λ (item : WordItem). words (item ∷ [])) c.number.ensures))
