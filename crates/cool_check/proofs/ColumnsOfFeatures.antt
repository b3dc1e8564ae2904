-- The types of the nodes of a feature's expression are the same in the scope that the type checker builds and in the scope of the typing rules.
use Rattle.std.proofs.Common.{◌≡◌, ◌<◌, ℕ, List, ◌++◌, length, Some}
use Rattle.std.specs.Prelude.{slice_get}
use Rattle.cool_syntax.specs.declared.file_tree.Feature.TheVariants.{Method}
use Rattle.cool_syntax.specs.declared.file_tree.MethodDef.{MethodDef}
use Rattle.cool_syntax.specs.Tree.{Tree}
use Rattle.cool_classes.specs.declared.class_id.ClassId.{ClassId}
use Rattle.cool_classes.specs.Chains.{Class, features_of}
use Rattle.cool_classes.specs.LawfulTables.{IsLawful, HasDifferentFormals}
use Rattle.cool_classes.specs.Tables.{IsTable}
use Rattle.cool_rules.specs.NodeTypes.{node_types, own_scope}
use Rattle.cool_rules.specs.Typing.{formals_in_scope}
use Rattle.cool_rules.proofs.EnteredScopes.{own_differ, formals_differ, entered_alone, entered_beside}
use Rattle.cool_rules.proofs.SameScopes.{types_same}
use Rattle.cool_check.specs.Contexts.{attribute_bindings, formal_bindings}
use Rattle.lists.proofs.AllItems.{all_get}

module _ (p : List Class) (table : IsTable p) (lawful : IsLawful p) (c : ClassId) (within : c.0 < length p) where
  -- the column of the body of a method
  pub body_types : (k : ℕ) (m : MethodDef) → slice_get (features_of p c) k ≡ Some (Method m)
      → node_types p c (formal_bindings p m.formals ++ attribute_bindings p c) m.body ≡ node_types p c (formals_in_scope p m.formals ++ own_scope p c) m.body
  body_types k m at =
      let different = all_get HasDifferentFormals (features_of p c) k (Method m) (lawful.formals c within) at in
      types_same p c m.body (formal_bindings p m.formals ++ attribute_bindings p c) (formals_in_scope p m.formals ++ own_scope p c)
      (entered_beside (formals_in_scope p m.formals) (own_scope p c) (formals_differ p m.formals different) (own_differ p table lawful c within))

  -- the column of an initial value
  pub first_types : (e : Tree) → node_types p c (attribute_bindings p c) e ≡ node_types p c (own_scope p c) e
  first_types e = types_same p c e (attribute_bindings p c) (own_scope p c) (entered_alone (own_scope p c) (own_differ p table lawful c within))
