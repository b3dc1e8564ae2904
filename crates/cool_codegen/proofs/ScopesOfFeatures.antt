-- The variables with which code generation begins a feature have the names and types that the typing rules have in scope there, so the types of the nodes of
-- its expression are the same with both.
use Rattle.std.proofs.Common.{◌≡◌, ℕ, ◌<◌, List, [], ◌∷◌, length, Some, refl, ap, sym, ◌∙◌}
use Rattle.std.specs.Prelude.{slice_get}
use Rattle.cool_syntax.specs.declared.file_tree.Feature.TheVariants.{Method}
use Rattle.cool_syntax.specs.declared.file_tree.Formal.{Formal}
use Rattle.cool_syntax.specs.declared.file_tree.MethodDef.{MethodDef}
use Rattle.cool_syntax.specs.Tree.{Tree}
use Rattle.cool_classes.specs.declared.class_id.ClassId.{ClassId}
use Rattle.cool_classes.specs.declared.method.AttributeRef.{AttributeRef}
use Rattle.cool_classes.specs.Chains.{Class, features_of}
use Rattle.cool_classes.specs.ClimbedChains.{chain}
use Rattle.cool_classes.specs.Features.{attributes_of}
use Rattle.cool_classes.specs.LawfulTables.{HasDifferentFormals}
use Rattle.cool_rules.specs.NodeTypes.{feature_types, initial_types, node_types, own_scope}
use Rattle.cool_rules.specs.Scopes.{entered}
use Rattle.cool_rules.specs.TypedTables.{IsTypedTable}
use Rattle.cool_rules.specs.Typing.{attributes_in_scope, formals_in_scope}
use Rattle.cool_rules.proofs.EnteredScopes.{entered_alone, entered_same, formals_differ, own_differ}
use Rattle.cool_rules.proofs.SameScopes.{types_same}
use Rattle.cool_codegen.specs.Features.{attributes_in, with_attributes, with_formals}
use Rattle.cool_codegen.specs.Variables.{Named, scope_of}
use Rattle.lists.proofs.AllItems.{all_get}

-- variables that are entered one after the other have their names entered so
attributes_entered : (p : List Class) (c : ClassId) (own : List AttributeRef) (vs : List Named) → scope_of (with_attributes p c own vs) ≡ entered (attributes_in_scope p own) (scope_of vs)
attributes_entered p c [] vs = refl
attributes_entered p c (a ∷ own) vs = attributes_entered p c own _

formals_entered : (p : List Class) (fs : List Formal) (vs : List Named) → scope_of (with_formals p fs vs) ≡ entered (formals_in_scope p fs) (scope_of vs)
formals_entered p [] vs = refl
formals_entered p (f ∷ fs) vs = formals_entered p fs _

-- the types of the nodes of a method's body, and of an initial value
pub method_types : (p : List Class) → IsTypedTable p → (c : ClassId) → c.0 < length p → (k : ℕ) (m : MethodDef) → slice_get (features_of p c) k ≡ Some (Method m)
    → feature_types p c (Method m) ≡ node_types p c (scope_of (with_formals p m.formals (attributes_in p c))) m.body
method_types p typed c within k m is =
    let different = all_get HasDifferentFormals (features_of p c) k (Method m) (typed.lawful.formals c within) is in
    let same = entered_same (formals_in_scope p m.formals) (own_scope p c) (formals_differ p m.formals different) (own_differ p typed.whole.table typed.lawful c within) in
    let entries = formals_entered p m.formals (attributes_in p c) ∙ ap (entered (formals_in_scope p m.formals)) (attributes_entered p c (attributes_of p (chain p c)) []) in
    sym (ap (λ scope. node_types p c scope m.body) entries ∙ types_same p c m.body _ _ same)

pub value_types : (p : List Class) → IsTypedTable p → (c : ClassId) → c.0 < length p → (t : Tree) → initial_types p c (Some t) ≡ node_types p c (scope_of (attributes_in p c)) t
value_types p typed c within t =
    let same = entered_alone (own_scope p c) (own_differ p typed.whole.table typed.lawful c within) in
    sym (ap (λ scope. node_types p c scope t) (attributes_entered p c (attributes_of p (chain p c)) []) ∙ types_same p c t _ _ same)
