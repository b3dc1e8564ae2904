-- `classes_text` returns the rows of debug information for the classes and their attributes; each step of its loop appends those of one class.
use Rattle.std.proofs.Common.{◌≡◌, ◌∙◌, ◌+◌, ◌++◌, ◌∷◌, ℕ, List, [], length, flat_map, ap, ap₂, sym, arith, append-nil}
use Rattle.std.proofs.lemmas.Grind.{flat_map-append}
use Rattle.cool_classes.specs.Chains.{class_number}
use Rattle.cool_layout.specs.Preorder.{numbers_from}
use Rattle.cool_emit.specs.CodeTables.{Row, class_rows}
use Rattle.cool_emit.specs.TableLines.{row_line}
use Rattle.cool_emit.proofs.PartsAreLight.{numbers_parts}
use Rattle.cool_emit.proofs.code_table.classes_text.Goals as goal

pub loop-number-preserved : goal.loop-number-preserved
loop-number-preserved c =
    let p = c.args.emission.now.program.now in
    let n = c.loop-number.number in
    let rows = class_rows p (class_number n) in
    let before = flat_map (class_rows p) (numbers_from 0 n) in
    let next : numbers_from 0 (n + 1) ≡ numbers_from 0 n ++ class_number n ∷ [] = numbers_parts 0 n 1 (n + 1) n (omega arith) (omega arith) in
    let all : flat_map (class_rows p) (numbers_from 0 (n + 1)) ≡ before ++ rows =
    ap (flat_map (class_rows p)) next ∙ flat_map-append (class_rows p) (numbers_from 0 n) (class_number n ∷ []) ∙ ap (λ (rs : List Row). before ++ rs) (append-nil rows) in
    c.in_ok-extend_from_slice.ensures.items
    ∙ ap₂ (λ (t u : List ℕ). t ++ u) c.loop-number.invariant (c.deref.ensures.value ∙ c.in_ok-class_text.ensures)
    ∙ sym (flat_map-append (row_line p) before rows)
    ∙ ap (flat_map (row_line p)) (sym all)

pub returns : goal.returns
returns c =
    let p = c.args.emission.now.program.now in
    let count = c.count-number-end.ensures.count ∙ ap length c.table.ensures in
    let most = c.loop-number.auto.number-end in
    let least = c.loop-number-test.false in
    let all : c.loop-number.number ≡ length p = omega arith in
    c.loop-number.invariant ∙ ap (λ (n : ℕ). flat_map (row_line p) (flat_map (class_rows p) (numbers_from 0 n))) all
