-- `add_class_objects` appends the label of the table of class objects, and then a line of assembly for each class, with the addresses of its prototype and of
-- its initializer.
use Rattle.std.proofs.Common.{◌≤◌, List, [], ◌∷◌, ◌++◌, length, map, take_all, ap, ◌∙◌, arith, append_assoc}
use Rattle.mips_isa.specs.Lines.{Line, lines_of, Address}
use Rattle.cool_runtime.specs.Instructions.{label}
use Rattle.cool_runtime.specs.LinesOfData.{words}
use Rattle.cool_runtime.specs.RoutineLabels.{class_objects}
use Rattle.cool_runtime.proofs.AddedLines.{with_line}
use Rattle.cool_classes.specs.declared.class_id.ClassId.{ClassId}
use Rattle.cool_layout.specs.Labels.{prototype, initializer}
use Rattle.cool_layout.proofs.tables.add_class_objects.Goals as goal

pub returns : goal.returns
unfolding class_objects
returns c =
    let p = c.args.t.now in
    let order : List ClassId = c.args.order.now in
    let old : List Line = lines_of c.args.lines.now.items in
    let one : ClassId → Line = λ d. words (Address (prototype p d) ∷ Address (initializer p d) ∷ []) in
    let end : length order ≤ c.loop-class.class-index = (let e = c.loop-class-test.false in omega arith) in
    c.loop-class.invariant ∙ ap (λ (ds : List ClassId). lines_of c.push.new.self.items ++ map one ds) (take_all c.loop-class.class-index order end)
    ∙ ap (λ (l : List Line). l ++ map one order) (with_line _ _ _ _ c.in_ok-push.ensures.items c.in_ok-label_line.ensures) ∙ append_assoc old (label class_objects ∷ []) (map one order)
