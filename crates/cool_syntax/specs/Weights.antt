-- `classes_weight` is a measure of the size of a program's classes: it counts the classes with the bytes of their names, and the features with their formal
-- parameters, nodes, case branches and bytes of string constants.
use Rattle.std.specs.Prelude.{◌≡◌, ℕ, ◌+◌, List, [], ◌∷◌, length, codes, Option, Some, None, refl}
use Rattle.cool_syntax.specs.declared.place.Place.{Place}
use Rattle.cool_syntax.specs.declared.type_ref.TypeRef.{TypeRef}
use Rattle.cool_syntax.specs.declared.file_tree.ClassDef.{ClassDef}
use Rattle.cool_syntax.specs.declared.file_tree.Feature.{Feature}
use Rattle.cool_syntax.specs.declared.file_tree.Feature.TheVariants.{Method, Attribute}
use Rattle.cool_syntax.specs.Tree.{Tree, Trees, MaybeTree, Cases, string_or}
use Rattle.cool_syntax.specs.Tree as trees
use Rattle.cool_syntax.specs.Gatherings.{Gathering, gathered, gathered_all, gathered_maybe, gathered_cases}
use Rattle.cool_syntax.specs.FeatureSizes.{feature_size}

-- the number of bytes of the string constants of a tree
abbrev texts : Gathering ℕ
texts = record { none = 0; both = ◌+◌; form = string_or 0 (λ bytes. length bytes); branch = λ body. body }

abbrev pub text_in : Tree → ℕ
text_in = gathered texts

abbrev pub text_in_all : Trees → ℕ
text_in_all = gathered_all texts

abbrev pub text_in_maybe : MaybeTree → ℕ
text_in_maybe = gathered_maybe texts

abbrev pub text_in_cases : Cases → ℕ
text_in_cases = gathered_cases texts

abbrev pub text_of_value : Option Tree → ℕ
text_of_value None = 0
text_of_value (Some t) = text_in t

abbrev pub text_of_feature : Feature → ℕ
text_of_feature (Method m) = text_in m.body
text_of_feature (Attribute a) = text_of_value a.init

-- the weight of a feature: one for the feature, its formals, its nodes and branches, and the bytes of its strings
abbrev pub feature_weight : Feature → ℕ
feature_weight f = 1 + feature_size f + text_of_feature f

abbrev pub features_weight : List Feature → ℕ
features_weight [] = 0
features_weight (f ∷ fs) = feature_weight f + features_weight fs

-- the weight of classes: one for each class, the bytes of its name, and the weight of its features
abbrev pub classes_weight : List ClassDef → ℕ
classes_weight [] = 0
classes_weight (c ∷ cs) = 1 + length c.name + features_weight c.features + classes_weight cs

-- Worked example: `f(x : T) : T { "ab" }` is one feature with one formal, one node and two bytes.
weight_of_method : (p : Place) (c : TypeRef)
    → feature_weight (Method (record { name = codes "f"; at = p; formals = record { name = codes "x"; at = p; declared = c } ∷ []; result = c; body = trees.Str p (codes "ab") })) ≡ 5
weight_of_method p c = refl
