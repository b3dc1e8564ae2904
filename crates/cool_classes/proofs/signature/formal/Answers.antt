-- `formal` returns the type that the declared name of a formal parameter denotes. This name is in the table of the basic methods, or in the definition of the
-- method.
use Rattle.std.proofs.Common.{◌≡◌, List, [], get_or, ap, sym, ◌∙◌, subst, ℕ}
use Rattle.cool_syntax.specs.declared.file_tree.Feature.TheVariants.{Method}
use Rattle.cool_classes.specs.declared.class_id.Ty.TheVariants.{Class as IsClass}
use Rattle.cool_classes.specs.declared.method.MethodRef.{MethodRef}
use Rattle.cool_classes.specs.declared.method.MethodRef.TheVariants.{User}
use Rattle.cool_classes.specs.Chains.{Class, features_of}
use Rattle.cool_classes.specs.Features.{Denotes, HasMethod, basic_formals, formals_of}
use Rattle.cool_classes.specs.Entries.{classes}
use Rattle.cool_classes.proofs.Seen.{class_read, within_entries}
use Rattle.cool_classes.proofs.Signatures.{denotes_there, method_within, feature_there, method_typed, formal_typed, formal_named, formal_within}
use Rattle.cool_classes.proofs.signature.formal.Goals as goal

pub returns-in-Basic : goal.returns-in-Basic
returns-in-Basic c =
    let p = classes c.args.entries.now in
    let there = denotes_there p (get_or (basic_formals c.in-Basic.basic) c.args.i []) (IsClass c.basic_formal.result) c.requires.whole.table.basic c.basic_formal.ensures in
    subst (λ (m : MethodRef). Denotes p (get_or (formals_of p m) c.args.i []) (IsClass c.basic_formal.result)) (sym c.in-Basic.is) there

pub type_named-requires : goal.type_named-requires
type_named-requires c =
    let es = c.args.entries.now in
    let p = classes es in
    let owner = c.in-User.owner in
    let has : HasMethod p (User owner c.in-User.index) = subst (HasMethod p) c.in-User.is c.requires.has in
    let same : features_of p owner ≡ c.as_slice.result.now = ap (λ (x : Class). x.features) (class_read es owner c.index-entries-owner.result (within_entries es owner has.0)) ∙ sym c.as_slice.ensures in
    let within = method_within (features_of p owner) c.as_slice.result.now c.in-User.index same has.1 in
    let typed = method_typed p owner c.as_slice.result.now c.in-User.index c.index-as_slice-index.result c.in-Method.found c.requires.whole.table has.0 same within c.index-as_slice-index.is c.in-Method.is in
    let there = feature_there (features_of p owner) c.as_slice.result.now c.in-User.index c.index-as_slice-index.result (Method c.in-Method.found) same within c.index-as_slice-index.is c.in-Method.is in
    let i_within = formal_within p c.args.method owner c.in-User.index c.in-Method.found c.as_slice-in-Method.result.now c.args.i c.in-User.is there c.as_slice-in-Method.ensures c.requires.within in
    let known = formal_typed p c.in-Method.found c.as_slice-in-Method.result.now c.args.i c.index-as_slice-i.result c.as_slice-in-Method-2.result.now typed c.as_slice-in-Method.ensures i_within c.as_slice-in-Method-2.ensures in
    record { known = (es, c.requires.names, known) }

pub returns-in-Method : goal.returns-in-Method
returns-in-Method c =
    let es = c.args.entries.now in
    let p = classes es in
    let owner = c.in-User.owner in
    let has : HasMethod p (User owner c.in-User.index) = subst (HasMethod p) c.in-User.is c.requires.has in
    let same : features_of p owner ≡ c.as_slice.result.now = ap (λ (x : Class). x.features) (class_read es owner c.index-entries-owner.result (within_entries es owner has.0)) ∙ sym c.as_slice.ensures in
    let within = method_within (features_of p owner) c.as_slice.result.now c.in-User.index same has.1 in
    let there = feature_there (features_of p owner) c.as_slice.result.now c.in-User.index c.index-as_slice-index.result (Method c.in-Method.found) same within c.index-as_slice-index.is c.in-Method.is in
    let i_within = formal_within p c.args.method owner c.in-User.index c.in-Method.found c.as_slice-in-Method.result.now c.args.i c.in-User.is there c.as_slice-in-Method.ensures c.requires.within in
    subst (λ (name : List ℕ). Denotes p name c.type_named.result)
    (formal_named p c.args.method owner c.in-User.index c.in-Method.found c.as_slice-in-Method.result.now c.args.i c.index-as_slice-i.result c.as_slice-in-Method-2.result.now c.in-User.is there
    c.as_slice-in-Method.ensures i_within c.as_slice-in-Method-2.ensures)
    (c.type_named.ensures es c.requires.names)
