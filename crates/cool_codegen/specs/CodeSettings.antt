-- `IsSound` is the precondition for generating the code of an expression: it is in a class of a complete class table, and the layout is that of this table.
use Rattle.std.specs.Prelude.{◌≡◌, ◌<◌, List, length, map, string_bytes}
use Rattle.std.specs.List.{AllByRecursion}
use Rattle.cool_classes.specs.Chains.{Class}
use Rattle.cool_classes.specs.declared.method.AttributeRef.{AttributeRef}
use Rattle.cool_classes.specs.Tables.{IsWholeTable}
use Rattle.cool_rules.specs.Conformance.{IsType}
use Rattle.cool_rules.specs.NodeTypes.{node_types}
use Rattle.cool_rules.specs.Scopes.{Binding}
use Rattle.cool_rules.specs.TypedParts.{TypedBody}
use Rattle.cool_layout.specs.Layouts.{IsLayoutOf}
use Rattle.cool_codegen.specs.declared.code_setting.CodeSetting.{CodeSetting}
use Rattle.cool_codegen.specs.Variables.{Named}
use Rattle.cool_codegen.specs.Code.{Context}

-- all variables in scope have types of the table
abbrev pub HaveTypes : List Class → List Named → Type 0
HaveTypes p vs = AllByRecursion (λ v. IsType p v.value.ty) vs

abbrev pub context : CodeSetting → Context
context s = record { table = s.table.now; class = s.class; feature = s.feature; files = map string_bytes s.names.now }

-- the expression of the feature, with the types of its nodes
abbrev pub typed_body : CodeSetting → TypedBody
typed_body s = record { table = s.table.now; class = s.class; body = s.body.now; types = s.types.now }

-- the types are those with these names in scope
abbrev pub HasTypesIn : CodeSetting → List Binding → Type 0
HasTypesIn s scope = s.types.now ≡ node_types s.table.now s.class scope s.body.now

-- the feature as an attribute, if it is one
abbrev pub attribute_of : CodeSetting → AttributeRef
attribute_of s = record { owner = s.class; index = s.feature }

pub record IsSound (s : CodeSetting) : Type 0 where
  pub whole : IsWholeTable s.table.now
  pub class : s.class.0 < length s.table.now
  pub layout : IsLayoutOf s.layout.now s.table.now
