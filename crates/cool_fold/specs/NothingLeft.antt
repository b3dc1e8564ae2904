-- `IsDoneTable` says that nothing is left to fold in a class table: no node of a body or of an initial value is foldable.
use Rattle.std.specs.Prelude.{◌≡◌, ◌<◌, ℕ, List, ◌++◌, length, slice_get, Some, IfSome}
use Rattle.cool_syntax.specs.declared.file_tree.Feature.{Feature}
use Rattle.cool_syntax.specs.declared.file_tree.Feature.TheVariants.{Method, Attribute}
use Rattle.cool_classes.specs.declared.class_id.ClassId.{ClassId}
use Rattle.cool_classes.specs.Chains.{Class, features_of}
use Rattle.cool_rules.specs.Typing.{formals_in_scope}
use Rattle.cool_rules.specs.NodeTypes.{own_scope}
use Rattle.cool_fold.specs.Foldable.{IsDone}

-- nothing is left to fold in the expression of a feature: in a body, with the formals and attributes in scope, or in an initial value, with the attributes
abbrev pub IsDoneFeature : List Class → ClassId → Feature → Type 0
IsDoneFeature p c (Method m) = IsDone p c (formals_in_scope p m.formals ++ own_scope p c) m.body
IsDoneFeature p c (Attribute a) = IfSome a.init (IsDone p c (own_scope p c))

-- nothing is left to fold in any feature of any class
abbrev pub IsDoneTable : List Class → Type 0
IsDoneTable p = (c : ClassId) (k : ℕ) (x : Feature) → c.0 < length p → slice_get (features_of p c) k ≡ Some x → IsDoneFeature p c x
