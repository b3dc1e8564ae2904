-- `class_signature` is the part of a class on which other classes depend: the names and types in it, without its expressions. `features_in` gives the tokens of
-- each feature of a file, without their source locations.
use Rattle.std.specs.Prelude.{◌≡◌, refl, ℕ, List, [], ◌∷◌, ◌++◌, map, codes, Option, Some, None, if◌then◌else◌}
use Rattle.cool_syntax.specs.declared.token.TokenKind.{TokenKind}
use Rattle.cool_syntax.specs.declared.token.TokenKind.TheVariants as kind
use Rattle.cool_syntax.specs.declared.token.Key.TheVariants as key
use Rattle.cool_syntax.specs.declared.token.Sign.TheVariants as sign
use Rattle.cool_syntax.specs.declared.type_ref.TypeRef.{TypeRef}
use Rattle.cool_syntax.specs.declared.file_tree.ClassDef.{ClassDef}
use Rattle.cool_syntax.specs.declared.file_tree.Feature.{Feature}
use Rattle.cool_syntax.specs.declared.file_tree.Feature.TheVariants.{Method, Attribute}
use Rattle.cool_syntax.specs.LexicalStructure.{depth_after, ends_run}
use Rattle.cool_classes.specs.Declarations.{formal_types}

-- The signature of a feature: of a method its name, the types of its formals and its result, of an attribute its name and its type.
pub data FeatureSignature : Type 0 where
  OfMethod : List ℕ → List (List ℕ) → List ℕ → FeatureSignature
  OfAttribute : List ℕ → List ℕ → FeatureSignature

-- The signature of a class: its name, the name of its parent, and the signatures of its features.
pub record ClassSignature : Type 0 where
  pub name : List ℕ
  pub parent : List ℕ
  pub features : List FeatureSignature

abbrev pub feature_signature : Feature → FeatureSignature
feature_signature (Method m) = OfMethod m.name (formal_types m.formals) m.result.name
feature_signature (Attribute a) = OfAttribute a.name a.declared.name

-- a class that names no parent inherits from Object
abbrev pub parent_name : Option TypeRef → List ℕ
parent_name None = codes "Object"
parent_name (Some r) = r.name

abbrev pub class_signature : ClassDef → ClassSignature
class_signature d = record { name = d.name; parent = parent_name d.parent; features = map feature_signature d.features }

-- the signatures of definitions: no file, no place and no name of a formal is in them
abbrev pub signatures : List ClassDef → List ClassSignature
signatures = map class_signature

-- the result of a run that ends with this token: a feature if that is a semicolon, and else the head of a class
abbrev pub feature_ended : TokenKind → List TokenKind → List (List TokenKind)
feature_ended (kind.Sign sign.Semi) run = run ∷ []
feature_ended _ run = []

-- the features among tokens, by how deep the tokens so far stand and those of them in the run that goes on
abbrev pub features_from : ℕ → List TokenKind → List TokenKind → List (List TokenKind)
features_from depth run [] = []
features_from depth run (k ∷ ks) =
    if ends_run k depth then feature_ended k (run ++ k ∷ []) ++ features_from (depth_after k depth) [] ks
    else features_from (depth_after k depth) (run ++ k ∷ []) ks

-- The tokens of each feature of a file, by the tokens of the file. A feature begins after the brace that opens its class, or after the
-- feature before it, and ends with the next semicolon of its class's own level.
abbrev pub features_in : List TokenKind → List (List TokenKind)
features_in = features_from 0 []

-- Worked example: `class A { a : B; };`
abbrev attribute : List TokenKind
attribute = kind.ObjectId (97 ∷ []) ∷ kind.Sign sign.Colon ∷ kind.TypeId (66 ∷ []) ∷ kind.Sign sign.Semi ∷ []

abbrev one_class : List TokenKind
one_class = kind.Key key.Class ∷ kind.TypeId (65 ∷ []) ∷ kind.Sign sign.LBrace ∷ attribute ++ kind.Sign sign.RBrace ∷ kind.Sign sign.Semi ∷ []

one_feature : features_in one_class ≡ attribute ∷ []
one_feature = refl

two_classes : features_in (one_class ++ one_class) ≡ attribute ∷ attribute ∷ []
two_classes = refl
