-- `climb` follows parents from a class definition to a class of known depth or to a visited definition. Each step of its loop marks a definition as visited,
-- adds it to the path and goes on to its parent.
use Rattle.std.proofs.Common.{◌≡◌, ◌-◌, ℕ, List, set, get_or, Some, None, sym, subst}
use Rattle.cool_classes.specs.declared.depths.Above.TheVariants.{Known}
use Rattle.cool_classes.specs.Walks.{IsClimb}
use Rattle.cool_classes.proofs.PassingDefinitions.{Climbing, climb_on, climb_done}
use Rattle.cool_classes.proofs.depths.climb.Goals as goal

pub returns-then-parent-lt-BASIC_CLASSES : goal.returns-then-parent-lt-BASIC_CLASSES
returns-then-parent-lt-BASIC_CLASSES c =
    let ps = c.args.parents.now in
    let none : get_or c.loop-class.passed c.loop-class.class None ≡ None = c.in_default-passed.is in
    subst (λ (path : List ℕ). IsClimb ps c.args.known.now c.args.passed.now c.args.start (set c.loop-class.passed c.loop-class.class (Some c.args.start)) path (Known c.basic_depth.result)) (sym c.in_ok-push.ensures)
    (climb_done ps c.args.known.now c.args.passed.now c.args.start c.loop-class.passed c.loop-class.path c.loop-class.class c.basic_depth.result (record { 0 = 0 }) c.loop-class.invariant none (c.basic_depth.ensures.depth ps) c.basic_depth.ensures.low)

pub loop-class-preserved : goal.loop-class-preserved
loop-class-preserved c =
    let ps = c.args.parents.now in
    let next = (get_or ps c.loop-class.class (record { 0 = 0 })).0 - 5 in
    let none : get_or c.loop-class.passed c.loop-class.class None ≡ None = c.in_default-passed.is in
    subst (λ (path : List ℕ). Climbing ps c.args.passed.now c.args.start (set c.loop-class.passed c.loop-class.class (Some c.args.start)) path next) (sym c.in_ok-push.ensures)
    (climb_on ps c.args.passed.now c.args.start c.loop-class.passed c.loop-class.path c.loop-class.class (record { 0 = 0 }) c.loop-class.invariant none c.requires.parents c.if-parent-lt-BASIC_CLASSES.false)
