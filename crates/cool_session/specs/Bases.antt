-- `seen` gives the data (`Base`) by which a session compares the files of two checks: the signatures of their classes, and the tokens of their features.
use Rattle.std.specs.Prelude.{ℕ, List, map, drop, codes, Option, Some, None}
use Rattle.cool_syntax.specs.declared.token.Token.{Token}
use Rattle.cool_lexer.specs.declared.lexer.Lexed.{Lexed}
use Rattle.cool_classes.specs.declared.class_id.ClassId.{ClassId}
use Rattle.cool_classes.specs.Chains.{Class, name_of}
use Rattle.cool_faults.specs.declared.fault.Untyped.{Untyped}
use Rattle.cool_session.specs.FeatureTokens.{kinds, runs_of}
use Rattle.cool_session.specs.Fresh.{Base}
use Rattle.cool_session.specs.Signatures.{ClassSignature, FeatureSignature, feature_signature}

-- a class with the signatures of its features
pub record View : Type 0 where
  pub name : List ℕ
  pub parent : Option ClassId
  pub features : List FeatureSignature

abbrev pub view : Class → View
view d = record { name = d.name; parent = d.parent; features = map feature_signature d.features }

abbrev pub views : List Class → List View
views = map view

-- the name of a parent: Object where a definition names none
abbrev pub parent_in : List Class → Option ClassId → List ℕ
parent_in p None = codes "Object"
parent_in p (Some q) = name_of p q

abbrev pub table_signature : List Class → Class → ClassSignature
table_signature p d = record { name = d.name; parent = parent_in p d.parent; features = map feature_signature d.features }

-- the signatures of the classes of a table after the basic ones
abbrev pub table_signatures : List Class → List ClassSignature
table_signatures p = map (table_signature p) (drop 5 p)

-- the tokens of files
abbrev pub tokens_of : List Lexed → List (List Token)
tokens_of = map (λ (lexed : Lexed). lexed.tokens.items)

abbrev pub seen : Untyped → Base
seen u = record { signatures = table_signatures u.classes; features = map kinds (runs_of (tokens_of u.lexed.items)) }
