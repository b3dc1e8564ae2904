-- `is_mended` compares the errors after an edit with those before it, after moving the lines of these by the line ends that the edit adds and removes.
use Rattle.std.proofs.Common.{◌-◌, ℕ, List, inl, inr, ap, arith, drop, sym, take, ◌∙◌}
use Rattle.std.proofs.lemmas.List.{length-map}
use Rattle.std.specs.Global.{Vec}
use Rattle.cool_faults.specs.Files.{bytes_of}
use Rattle.cool_mend.specs.Mends.{line_ends}
use Rattle.cool_mend.proofs.FilesEdited.{bytes_at}
use Rattle.cool_mend.proofs.FaultsPassed.{are_others}
use Rattle.cool_mend.proofs.mended.is_mended.Goals as goal

pub returns-then-are_others : goal.returns-then-are_others
returns-then-are_others c =
    λ _. inr (inl
    (are_others (bytes_of c.args.files.now) c.args.edit.now c.args.number c.args.before.now c.args.after.now c.line_ends.result c.line_ends-2.result (c.line_ends.ensures ∙ ap line_ends c.deref.ensures.value)
    (c.line_ends-2.ensures ∙ ap (λ (l : List ℕ). line_ends (take (c.args.edit.now.end - c.args.edit.now.start) (drop c.args.edit.now.start l)))
    (c.as_slice.ensures.value ∙ sym (bytes_at c.args.files.now c.args.edit.now.file c.index-files-edit.result (omega (arith, c.requires.edit.file, length-map c.args.files.now (λ (f : Vec ℕ). f.items))) c.index-files-edit.is))) (c.are_others.ensures c.if-are_others.true)))

pub returns-else-are_others : goal.returns-else-are_others
returns-else-are_others c = λ yes. inr (inr (c.advances.ensures yes))

pub advances-requires-clause-more : goal.advances-requires-clause-more
advances-requires-clause-more c = c.line_ends.ensures ∙ ap line_ends c.deref.ensures.value

pub advances-requires-clause-less : goal.advances-requires-clause-less
advances-requires-clause-less c =
    c.line_ends-2.ensures ∙ ap (λ (l : List ℕ). line_ends (take (c.args.edit.now.end - c.args.edit.now.start) (drop c.args.edit.now.start l)))
    (c.as_slice.ensures.value ∙ sym (bytes_at c.args.files.now c.args.edit.now.file c.index-files-edit.result (omega (arith, c.requires.edit.file, length-map c.args.files.now (λ (f : Vec ℕ). f.items))) c.index-files-edit.is))
