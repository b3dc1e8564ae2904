-- `next_attributes` returns the attributes of a class: those of its parent, which are stored at the tag of the parent, followed by its own.
use Rattle.std.proofs.Common.{◌≡◌, ℕ, List, ◌++◌, length, Some, None, sym, ap, ◌∙◌, subst}
use Rattle.std.specs.Prelude.{IfOk}
use Rattle.std.specs.Global.{Vec}
use Rattle.cool_classes.specs.declared.class_id.ClassId.{ClassId}
use Rattle.cool_classes.specs.declared.method.AttributeRef.{AttributeRef}
use Rattle.cool_classes.specs.Chains.{features_of}
use Rattle.cool_classes.specs.Features.{own_attributes}
use Rattle.cool_layout.specs.SlotTables.{IsAbove}
use Rattle.cool_layout.proofs.AttributesThere.{next_is, first_is}
use Rattle.cool_layout.proofs.attributes.next_attributes.Goals as goal

pub returns-in-Some : goal.returns-in-Some
returns-in-Some c =
    let p = c.args.t.now in
    let class : ClassId = c.args.class in
    let j : ℕ = c.in-Some.tag in
    let n : ℕ = length c.args.known.now in
    let up : IsAbove p n (Some j) = subst (IsAbove p n) c.in-Some.is c.requires.above in
    let own : List AttributeRef = own_attributes class 0 (features_of p class) in
    subst (λ (l : List AttributeRef). IfOk c.with_own.result (λ all. all.items ≡ l))
    (ap (λ (l : List AttributeRef). l ++ own) (c.as_slice.ensures.value ∙ ap (λ (v : Vec AttributeRef). v.items) c.index-known-tag.is ∙ c.requires.known j c.index-known-tag.result up.0) ∙ sym (next_is p c.requires.rooted class c.requires.within n j c.requires.class up)) c.with_own.ensures

pub returns-in-None : goal.returns-in-None
returns-in-None c =
    let p = c.args.t.now in
    let n : ℕ = length c.args.known.now in
    let top : IsAbove p n None = subst (IsAbove p n) c.in-None.is c.requires.above in
    subst (λ (l : List AttributeRef). IfOk c.with_own-in-None.result (λ all. all.items ≡ l)) (sym (first_is p c.requires.rooted c.args.class c.requires.within n c.requires.class top)) c.with_own-in-None.ensures
