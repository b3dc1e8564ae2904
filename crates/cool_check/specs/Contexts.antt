-- `Context` is the context in which an expression is checked: a class of a class table, with its attributes. `attribute_bindings` and `formal_bindings` give
-- the names in scope at the root of a feature's expression.
use Rattle.std.specs.Prelude.{List, [], map}
use Rattle.cool_syntax.specs.declared.file_tree.Formal.{Formal}
use Rattle.cool_classes.specs.declared.class_id.ClassId.{ClassId}
use Rattle.cool_classes.specs.Chains.{Class}
use Rattle.cool_classes.specs.ClimbedChains.{chain}
use Rattle.cool_classes.specs.Features.{attributes_of}
use Rattle.cool_rules.specs.Rules.{attribute_binding, formal_binding}
use Rattle.cool_rules.specs.Scopes.{Binding, entered}
use Rattle.cool_check.specs.declared.typing_setting.TypingSetting.{TypingSetting}

-- the attributes of a class with those that it inherits, the latest first
abbrev pub attribute_bindings : List Class → ClassId → List Binding
attribute_bindings p c = entered (map (attribute_binding p) (attributes_of p (chain p c))) []

-- the formal parameters of a method, the latest first
abbrev pub formal_bindings : List Class → List Formal → List Binding
formal_bindings p fs = entered (map (formal_binding p) fs) []

-- a class of a table with its attributes
pub record Context : Type 0 where
  pub table : List Class
  pub class : ClassId
  pub attributes : List Binding

abbrev pub context : TypingSetting → Context
context s = record { table = s.table.now; class = s.class; attributes = s.attributes.now }
