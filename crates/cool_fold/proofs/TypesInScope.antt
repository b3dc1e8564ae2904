-- Each variable that is in scope in the body of a method, or in the initial value of an attribute, has a type that the class table of the program has.
use Rattle.std.proofs.Common.{◌++◌, List}
use Rattle.cool_classes.specs.declared.class_id.ClassId.{ClassId}
use Rattle.cool_classes.specs.Chains.{Class}
use Rattle.cool_classes.specs.ClimbedChains.{chain}
use Rattle.cool_classes.specs.Features.{attributes_of}
use Rattle.cool_classes.specs.Tables.{IsWholeTable}
use Rattle.cool_rules.specs.Conformance.{IsType}
use Rattle.cool_rules.specs.NodeTypes.{own_scope}
use Rattle.cool_rules.specs.Scopes.{AreTypes, Binding}
use Rattle.cool_rules.proofs.TypesAreTypes.{attributes_are_types}
use Rattle.lists.proofs.AllItems.{all_append}

module _ (p : List Class) (whole : IsWholeTable p) (c : ClassId) where
  pub own_typed : AreTypes p (own_scope p c)
  own_typed = attributes_are_types p whole (attributes_of p (chain p c))

  -- with names inside of the class
  pub scope_typed : (inner : List Binding) → AreTypes p inner
      → AreTypes p (inner ++ own_scope p c)
  scope_typed inner types = all_append (λ (b : Binding). IsType p b.value) inner (own_scope p c) types own_typed
