-- `runs_of` gives the tokens of each feature (attribute or method) of files, with their source locations, and `AreFeatures` says that these tokens parse as
-- given features.
use Rattle.std.specs.Prelude.{◌≡◌, refl, ℕ, List, [], ◌∷◌, ◌++◌, map, codes, if◌then◌else◌}
use Rattle.cool_syntax.specs.declared.place.Place.{Place}
use Rattle.cool_syntax.specs.declared.token.Token.{Token}
use Rattle.cool_syntax.specs.declared.token.TokenKind.{TokenKind}
use Rattle.cool_syntax.specs.declared.token.TokenKind.TheVariants as kind
use Rattle.cool_syntax.specs.declared.token.Key.TheVariants as key
use Rattle.cool_syntax.specs.declared.token.Sign.TheVariants as sign
use Rattle.cool_syntax.specs.declared.file_tree.ClassDef.{ClassDef}
use Rattle.cool_syntax.specs.declared.file_tree.Feature.{Feature}
use Rattle.cool_syntax.specs.ConcreteTrees.{ConcreteFeature}
use Rattle.cool_syntax.specs.LexicalStructure.{depth_after, ends_run}
use Rattle.cool_syntax.specs.PlainTrees.{plain_feature}
use Rattle.cool_syntax.specs.Readings.{feature_reading, word, symbol, object, type}
use Rattle.cool_syntax.specs.Shapes.{IsShapedFeature}
use Rattle.cool_syntax.specs.TokenFacts.{AreRising}

-- The tokens are this feature.
pub record ParsesFeature (tokens : List Token) (x : Feature) : Type 0 where
  pub feature : ConcreteFeature
  pub shaped : IsShapedFeature feature
  pub reads : feature_reading feature ≡ tokens
  pub plain : plain_feature feature ≡ x

-- The tokens are this feature, and their places rise in a file.
pub record IsFeature (tokens : List Token) (x : Feature) : Type 0 where
  pub parses : ParsesFeature tokens x
  pub file : ℕ
  pub rising : AreRising file 0 tokens

abbrev pub AreFeatures : List (List Token) → List Feature → Type 0
AreFeatures [] [] = Unit {0}
AreFeatures [] (x ∷ xs) = ⊥
AreFeatures (run ∷ runs) [] = ⊥
AreFeatures (run ∷ runs) (x ∷ xs) = IsFeature run x × AreFeatures runs xs

-- tokens without their places
abbrev pub kinds : List Token → List TokenKind
kinds = map (λ (t : Token). t.kind)

-- a run that ends with a semicolon is a feature, and another the head of a class
abbrev pub run_ended : TokenKind → List Token → List (List Token)
run_ended (kind.Sign sign.Semi) run = run ∷ []
run_ended _ run = []

-- the features among tokens, by how deep the tokens so far stand and those of them in the run that goes on
abbrev pub runs_from : ℕ → List Token → List Token → List (List Token)
runs_from depth run [] = []
runs_from depth run (t ∷ ts) =
    if ends_run t.kind depth then run_ended t.kind (run ++ t ∷ []) ++ runs_from (depth_after t.kind depth) [] ts
    else runs_from (depth_after t.kind depth) (run ++ t ∷ []) ts

-- the tokens of each feature of a file, in order
abbrev pub runs_in : List Token → List (List Token)
runs_in = runs_from 0 []

-- the features of files, by the tokens of each
abbrev pub runs_of : List (List Token) → List (List Token)
runs_of [] = []
runs_of (tokens ∷ files) = runs_in tokens ++ runs_of files

-- the features of definitions, in order
abbrev pub features_of_all : List ClassDef → List Feature
features_of_all [] = []
features_of_all (d ∷ ds) = d.features ++ features_of_all ds

-- Worked example: `class A { a : B; };`
abbrev attribute : Place → List Token
attribute p = object (codes "a") p ∷ symbol sign.Colon p ∷ type (record { name = codes "B"; at = p }) ∷ symbol sign.Semi p ∷ []

one_feature : (p : Place)
    → runs_in (word key.Class p ∷ type (record { name = codes "A"; at = p }) ∷ symbol sign.LBrace p ∷ attribute p ++ symbol sign.RBrace p ∷
    symbol sign.Semi p ∷ [])
    ≡ attribute p ∷ []
one_feature p = refl
