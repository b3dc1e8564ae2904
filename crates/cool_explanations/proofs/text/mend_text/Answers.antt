-- `mend_text` returns the line that describes a suggested fix, followed by the lines that the fix changes.
use Rattle.std.proofs.Common.{◌∙◌, ℕ, List, ◌++◌, ap, map}
use Rattle.std.specs.Prelude.{string_bytes}
use Rattle.cool_explanations.specs.Changes.{changed_text}
use Rattle.cool_explanations.specs.Texts.{mend_line}
use Rattle.cool_explanations.proofs.text.mend_text.Goals as goal

pub returns : goal.returns
returns c =
    let lines = c.deref.ensures.value ∙ c.in_ok-changed_text.ensures ∙ ap (λ (bytes : List ℕ). changed_text bytes c.args.mend.now.edit) c.file_of.ensures in
    c.in_ok-extend_from_slice.ensures.items ∙ ap (λ (text : List ℕ). text ++ c.deref.result.now) c.in_ok-text.ensures
    ∙ ap (λ (more : List ℕ). mend_line (map string_bytes c.args.names.now) c.args.file c.args.mend.now ++ more) lines
