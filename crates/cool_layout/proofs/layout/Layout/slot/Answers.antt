-- `Layout::slot` returns the slot of a method name in the dispatch table of a class, or none if the class has no method of the name. Classes below it have the
-- name in the same slot.
use Rattle.std.proofs.Common.{◌≡◌, ℕ, List, length, Some, is_some, sym, ap, ◌∙◌, subst, arith}
use Rattle.cool_classes.specs.declared.class_id.ClassId.{ClassId}
use Rattle.cool_classes.specs.Chains.{Class}
use Rattle.cool_layout.specs.Members.{slot}
use Rattle.cool_layout.specs.SlotTables.{AreLow, AreTables}
use Rattle.cool_layout.proofs.FindingSlots.{are_low}
use Rattle.cool_layout.proofs.KeptSlots.{slot_low, table_kept, class_kept, implemented_same, slot_below}
use Rattle.cool_layout.proofs.layout.Layout.slot.Goals as goal

pub find_slot-requires-clause-within : goal.find_slot-requires-clause-within
find_slot-requires-clause-within c =
    let r = c.requires in
    let low = table_kept c.args.self.now r.0 r.1 c.args.c r.2 c.index-tag.result.now c.index-tag.ensures in
    let long : length c.as_slice.result.now ≡ length c.args.self.now.tables.items = ap length c.as_slice.ensures.value in
    omega arith

pub find_slot-requires-clause-low : goal.find_slot-requires-clause-low
find_slot-requires-clause-low c =
    let r = c.requires in
    subst AreLow (sym c.as_slice.ensures.value) (are_low r.0 (length r.0) c.args.self.now.tables.items r.1.tables)

pub returns-in-Some-clause-slot : goal.returns-in-Some-clause-slot
returns-in-Some-clause-slot c p l within =
    c.in-Some.ensures p (length p) l.rooted (subst (AreTables p (length p)) (sym c.as_slice.ensures.value) l.tables)
    ∙ ap2 p (class_kept c.args.self.now p l c.args.c within c.index-tag.result.now c.index-tag.ensures) c.as_slice-2.ensures
  where
    ap2 : (p : List Class) {d e : ClassId} {f g : List ℕ} → d ≡ e → f ≡ g → slot p d f ≡ slot p e g
    ap2 p {d} {e} {f} {g} h k = ap (λ (x : ClassId). slot p x f) h ∙ ap (slot p e) k

pub returns-in-None-clause-slot : goal.returns-in-None-clause-slot
returns-in-None-clause-slot c p l within =
    c.in-None.ensures p (length p) l.rooted (subst (AreTables p (length p)) (sym c.as_slice.ensures.value) l.tables)
    ∙ ap2 p (class_kept c.args.self.now p l c.args.c within c.index-tag.result.now c.index-tag.ensures) c.as_slice-2.ensures
  where
    ap2 : (p : List Class) {d e : ClassId} {f g : List ℕ} → d ≡ e → f ≡ g → slot p d f ≡ slot p e g
    ap2 p {d} {e} {f} {g} h k = ap (λ (x : ClassId). slot p x f) h ∙ ap (slot p e) k

pub overflow_cast-result : goal.overflow_cast-result
overflow_cast-result c =
    let r = c.requires in
    let is = c.in-Some.ensures r.0 (length r.0) r.1.rooted (subst (AreTables r.0 (length r.0)) (sym c.as_slice.ensures.value) r.1.tables) in
    let kept = class_kept c.args.self.now r.0 r.1 c.args.c r.2 c.index-tag.result.now c.index-tag.ensures in
    let here : slot r.0 c.args.c c.args.f.now ≡ Some c.in-Some.slot = sym (is ∙ ap (λ (x : ClassId). slot r.0 x c.as_slice-2.result.now) kept ∙ ap (slot r.0 c.args.c) c.as_slice-2.ensures) in
    let low = slot_low c.args.self.now r.0 r.1 c.args.c r.2 c.args.f.now c.in-Some.slot here in
    omega arith

pub returns-in-Some-clause-none : goal.returns-in-Some-clause-none
returns-in-Some-clause-none c p ds l within h = ap is_some (returns-in-Some-clause-slot c p l within) ∙ implemented_same c.args.self.now p l c.args.c within c.args.f.now ds h

pub returns-in-None-clause-none : goal.returns-in-None-clause-none
returns-in-None-clause-none c p ds l within h = ap is_some (returns-in-None-clause-slot c p l within) ∙ implemented_same c.args.self.now p l c.args.c within c.args.f.now ds h

pub returns-in-Some-clause-same : goal.returns-in-Some-clause-same
returns-in-Some-clause-same c p d k l within d_in below is = slot_below c.args.self.now p l c.args.c within c.args.f.now d d_in below k (sym (returns-in-Some-clause-slot c p l within) ∙ is)
