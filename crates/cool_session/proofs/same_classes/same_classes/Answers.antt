-- `same_classes` may return false at the first class that differs: tables with the same classes have the same class at each number.
use Rattle.cool_session.proofs.TablesOfSignatures.{class_same}
use Rattle.cool_session.proofs.same_classes.same_classes.Goals as goal

pub returns-then-not-same_class : goal.returns-then-not-same_class
returns-then-not-same_class c = record {
  same = (
    λ e. absurd (cc),
    λ h. c.if-not-same_class.ensures.same.1 (class_same c.args.b.now c.args.a.now h (record { 0 = c.loop-number.number })),
  );
}
