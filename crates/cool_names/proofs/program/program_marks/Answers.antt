-- `program_marks` returns the marks (records of the occurrences of names) of all classes in the order of their definitions: each step of its loop adds those of
-- the next class.
use Rattle.std.proofs.Common.{◌≡◌, ℕ, ◌+◌, ◌++◌, ◌∙◌, List, drop, ap, arith}
use Rattle.cool_names.specs.declared.mark.Mark.{Mark}
use Rattle.cool_names.specs.Programs.{class_marks, marks_from}
use Rattle.cool_names.proofs.PartsLeft.{classes_later}
use Rattle.cool_names.proofs.program.program_marks.Goals as goal

pub loop-index-preserved : goal.loop-index-preserved
loop-index-preserved c =
    let p = c.args.table.now in
    let ds = c.args.definitions.now in
    let i = c.loop-index.index in
    let d = c.index-definitions-index.result in
    let before = c.loop-index.marks.items in
    let rest = drop (i + 1) ds in
    let n : (i + 1) + 5 ≡ (i + 5) + 1 = omega arith in
    ap (λ (ms : List Mark). ms ++ marks_from p ds ((i + 1) + 5) rest) c.in_ok-add_class.ensures
    ∙ ap (λ (k : ℕ). (before ++ class_marks p ds (i + 5) d) ++ marks_from p ds k rest) n
    ∙ classes_later p ds before ds (i + 5) i d c.loop-index-test.true c.index-definitions-index.is
    ∙ c.loop-index.invariant
