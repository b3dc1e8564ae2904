-- `children_of` returns for each class the list of the classes that inherit from it directly: each step of its loop adds one class to the list of its
-- parent.
use Rattle.std.proofs.Common.{◌+◌, sym, subst, arith}
use Rattle.std.specs.Global.{Vec}
use Rattle.cool_classes.specs.declared.class_id.ClassId.{ClassId}
use Rattle.cool_layout.specs.Walks.{AreChildren}
use Rattle.cool_layout.proofs.Children.{some_rooted, none_more, no_parent, one_parent}
use Rattle.cool_layout.proofs.order.children_of.Goals as goal
use Rattle.cool_layout.proofs.order.children_of.Goals.{in-Some+in_ok-push, in_default}

pub loop-number-preserved : goal.loop-number-preserved
loop-number-preserved c = elim c.match-parent.branch [
  | in-Some+in_ok-push w ↦
      let p = c.args.t.now in
      let n = c.loop-number.number in
      let q = w.in-Some.above in
      let up = sym w.in-Some.ensures.parent in
      let within = w.in-Some.ensures.above in
      let next = one_parent p n c.loop-number.all.items q w.index_mut.result.now w.push.new.self c.loop-number.invariant.0 up within w.index_mut.ensures.value w.in_ok-push.ensures.items in
      (subst (λ (all : Vec (Vec ClassId)). AreChildren p (n + 1) all.items) (sym w.all-is) next, some_rooted p n q up within c.loop-number.invariant.1)
  | in_default w ↦
      let p = c.args.t.now in
      let n = c.loop-number.number in
      let up = sym w.in_default.ensures.parent in
      let next = no_parent p n c.loop-number.all.items c.loop-number.invariant.0 up in
      (subst (λ (all : Vec (Vec ClassId)). AreChildren p (n + 1) all.items) (sym w.all-is) next, none_more p n up w.in_default.ensures.top c.loop-number.invariant.1)
]

pub returns-clause-rooted : goal.returns-clause-rooted
returns-clause-rooted c =
    let r = c.loop-number.invariant.1 in
    let count = c.count-number-end.ensures.count in
    let end = c.loop-number-test.false in
    record {
      table = c.count-number-end.ensures.table;
      above = λ d q l e. r.above d q (omega arith) e;
      top = λ d l e. r.top d (omega arith) e;
    }
