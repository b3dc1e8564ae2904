-- `walk` follows parents from one more class definition, and stores the depths (numbers of ancestors) of the definitions that it visits, or finds a cycle. It
-- keeps the invariant of all walks, `AreWalked` of `Walks.antt`.
use Rattle.std.proofs.Common.{◌≡◌, ◌+◌, List, ℕ, Option, length, sym, ap, ◌∙◌, subst}
use Rattle.cool_classes.specs.declared.depths.Above.{Above}
use Rattle.cool_classes.specs.Walks.{AreWalked, IsClimb, settled}
use Rattle.cool_classes.proofs.WalksFind.{walked_known, walked_cycle, walked_lost, written_back, settled_length}
use Rattle.cool_classes.proofs.depths.walk.Goals as goal

pub returns-in-Known : goal.returns-in-Known
returns-in-Known c =
    let ps = c.args.parents.now in
    let known = c.args.found.now.known in
    let climbed : IsClimb ps known.items c.args.passed.now c.args.start c.climb.new.passed c.climb.new.path c.in_ok-depth.field-0 =
    subst (λ (xs : List (Option ℕ)). IsClimb ps xs c.args.passed.now c.args.start c.climb.new.passed c.climb.new.path c.in_ok-depth.field-0) c.deref.ensures.value c.in_ok-depth.ensures in
    let climb = subst (λ (above : Above). IsClimb ps known.items c.args.passed.now c.args.start c.climb.new.passed c.climb.new.path above) c.in-Known.is climbed in
    let all = walked_known ps c.args.start known.items c.args.found.now.cyclic.items c.args.passed.now c.climb.new.passed c.climb.new.path c.in-Known.depth c.requires.walked (c.climb.auto.passed ∙ c.requires.walked.same_passed) climb in
    let after : c.settle.new.known ≡ settled c.climb.new.path c.in-Known.depth known.items = c.settle.ensures ∙ ap (settled c.climb.new.path c.in-Known.depth) c.deref_mut.ensures.value in
    let long : length c.settle.new.known ≡ known.len = ap length after ∙ settled_length c.climb.new.path c.in-Known.depth known.items ∙ sym (ap length c.deref_mut.ensures.value) ∙ c.deref_mut.ensures.len in
    subst (λ (xs : List (Option ℕ)). AreWalked ps (c.args.start + 1) xs c.args.found.now.cyclic.items c.climb.new.passed)
    (sym (written_back known.len c.settle.new.known known.items long ∙ after)) all

pub returns-in_ok-note_cycle-in-Cycle : goal.returns-in_ok-note_cycle-in-Cycle
returns-in_ok-note_cycle-in-Cycle c =
    let ps = c.args.parents.now in
    let known = c.args.found.now.known.items in
    let climbed : IsClimb ps known c.args.passed.now c.args.start c.climb.new.passed c.climb.new.path c.in_ok-depth.field-0 =
    subst (λ (xs : List (Option ℕ)). IsClimb ps xs c.args.passed.now c.args.start c.climb.new.passed c.climb.new.path c.in_ok-depth.field-0) c.deref.ensures.value c.in_ok-depth.ensures in
    let climb = subst (λ (above : Above). IsClimb ps known c.args.passed.now c.args.start c.climb.new.passed c.climb.new.path above) c.in-Cycle.is climbed in
    subst (λ (xs : List ℕ). AreWalked ps (c.args.start + 1) known xs c.climb.new.passed) (sym c.in_ok-note_cycle-in-Cycle.ensures)
    (walked_cycle ps c.args.start known c.args.found.now.cyclic.items c.args.passed.now c.climb.new.passed c.climb.new.path c.in-Cycle.first c.requires.walked (c.climb.auto.passed ∙ c.requires.walked.same_passed) climb)

pub returns-in-Lost : goal.returns-in-Lost
returns-in-Lost c =
    let ps = c.args.parents.now in
    let known = c.args.found.now.known.items in
    let climbed : IsClimb ps known c.args.passed.now c.args.start c.climb.new.passed c.climb.new.path c.in_ok-depth.field-0 =
    subst (λ (xs : List (Option ℕ)). IsClimb ps xs c.args.passed.now c.args.start c.climb.new.passed c.climb.new.path c.in_ok-depth.field-0) c.deref.ensures.value c.in_ok-depth.ensures in
    let climb = subst (λ (above : Above). IsClimb ps known c.args.passed.now c.args.start c.climb.new.passed c.climb.new.path above) c.in-Lost.is climbed in
    walked_lost ps c.args.start known c.args.found.now.cyclic.items c.args.passed.now c.climb.new.passed c.climb.new.path c.requires.walked (c.climb.auto.passed ∙ c.requires.walked.same_passed) climb
