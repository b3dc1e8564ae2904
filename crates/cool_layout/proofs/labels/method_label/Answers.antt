-- `method_label` returns the label of a method that the program defines: the name of its class, a dot and its own name.
use Rattle.std.proofs.Common.{◌≡◌, ℕ, List, ◌++◌, sym, ap, ◌∙◌, subst, append_assoc}
use Rattle.std.specs.Prelude.{IfOk, codes}
use Rattle.cool_syntax.specs.declared.file_tree.Feature.{Feature}
use Rattle.cool_syntax.specs.declared.file_tree.Feature.TheVariants.{Method}
use Rattle.cool_classes.specs.Chains.{name_of, features_of}
use Rattle.cool_classes.specs.Features.{HasMethod, name_in}
use Rattle.cool_classes.proofs.Signatures.{method_within, feature_there}
use Rattle.cool_layout.specs.Labels.{method_label}
use Rattle.cool_layout.proofs.labels.method_label.Goals as goal

pub returns-in-Method : goal.returns-in-Method
returns-in-Method c =
    let p = c.args.t.now in
    let owner = c.in-User.owner in
    let k : ℕ = c.in-User.index in
    let m = c.in-Method.definition in
    let has = subst (HasMethod p) c.in-User.is c.requires.has in
    let fs : List Feature = features_of p owner in
    let same : fs ≡ c.features.result.now = sym c.features.ensures.features in
    let there = feature_there fs c.features.result.now k c.index-features-index.result (Method m) same (method_within fs c.features.result.now k same has.1) c.index-features-index.is c.in-Method.is in
    let class : c.as_slice-in-Method.result.now ≡ name_of p owner ++ codes "." =
    c.as_slice-in-Method.ensures.value ∙ c.in_ok-class-in-User.ensures ∙ ap (λ (n : List ℕ). n ++ codes ".") (c.as_slice.ensures ∙ c.name.ensures) in
    let all : c.as_slice-in-Method.result.now ++ c.as_slice-in-Method-2.result.now ≡ method_label p c.args.method =
    ap (λ (n : List ℕ). n ++ c.as_slice-in-Method-2.result.now) class ∙ ap (λ (n : List ℕ). (name_of p owner ++ codes ".") ++ n) c.as_slice-in-Method-2.ensures
    ∙ append_assoc (name_of p owner) (codes ".") m.name ∙ ap (λ f. name_of p owner ++ (codes "." ++ name_in f)) (sym there) ∙ ap (method_label p) (sym c.in-User.is) in
    subst (λ (l : List ℕ). IfOk c.joined-in-Method.result (λ name. name.items ≡ l)) all c.joined-in-Method.ensures
