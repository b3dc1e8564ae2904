-- Each step of the loop of `warnings_text` adds the text of the next warning.
use Rattle.std.proofs.Common.{◌∙◌, ℕ, ◌+◌, List, ◌++◌, ap, sym, append_assoc, drop, map}
use Rattle.std.specs.Prelude.{string_bytes}
use Rattle.std.specs.List.{flat_map}
use Rattle.lists.proofs.ItemsLeft.{drop_one}
use Rattle.cool_faults.specs.Files.{bytes_of}
use Rattle.cool_mend.specs.declared.explanation.Notice.{Notice}
use Rattle.cool_explanations.specs.Texts.{warning_text}
use Rattle.cool_explanations.proofs.warnings.warnings_text.Goals as goal

pub loop-notice-preserved : goal.loop-notice-preserved
loop-notice-preserved c =
    let shown : Notice → List ℕ = warning_text (map string_bytes c.args.names.now) (bytes_of c.args.files.now) in
    let rest : List ℕ = flat_map shown (drop (c.loop-notice.notice-index + 1) c.args.all.now) in
    ap (λ (text : List ℕ). text ++ rest) (c.in_ok-extend_from_slice.ensures.items ∙ ap (λ (more : List ℕ). c.loop-notice.text.items ++ more) (c.deref.ensures.value ∙ c.in_ok-warning_text.ensures))
    ∙ append_assoc c.loop-notice.text.items (shown c.notice-item.result) rest
    ∙ ap (λ (left : List Notice). c.loop-notice.text.items ++ flat_map shown left) (sym (drop_one c.args.all.now c.loop-notice.notice-index c.notice-item.result c.loop-notice-test.true c.notice-item.is))
    ∙ c.loop-notice.invariant
