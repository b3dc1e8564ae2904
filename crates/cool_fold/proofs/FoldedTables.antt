-- The folded class table has the same classes, chains, methods and attributes as the original table, and each feature is folded.
use Rattle.std.proofs.Common.{◌≡◌, ℕ, zero, suc, ◌+◌, List, [], ◌∷◌, map, get_or, refl, sym, ap, ◌∙◌, arith}
use Rattle.std.specs.Prelude.{slice_get, option_map}
use Rattle.cool_syntax.specs.declared.file_tree.Feature.{Feature}
use Rattle.cool_syntax.specs.declared.file_tree.Feature.TheVariants.{Method, Attribute}
use Rattle.cool_classes.specs.declared.class_id.ClassId.{ClassId}
use Rattle.cool_classes.specs.declared.method.MethodRef.TheVariants.{User}
use Rattle.cool_classes.specs.Chains.{Class, class_number, class_at, nothing, features_of}
use Rattle.cool_classes.specs.ClimbedChains.{chain}
use Rattle.cool_classes.specs.Features.{attributes_of}
use Rattle.cool_classes.specs.Declarations.{AllDeclareSame, AreAllAlike}
use Rattle.cool_classes.proofs.AlikeTables.{FindSame, find_same}
use Rattle.cool_fold.specs.Folding.{fold_feature, fold_from, fold_table}
use Rattle.cool_fold.proofs.FoldedCalls.{SameTables}
use Rattle.cool_classes.proofs.AlikeTablesKept.{implementation_same, attributes_same}
use Rattle.cool_fold.proofs.SameShapes.{chain_same, classes_same}

-- Folding changes only bodies and initial values

features_alike : (p : List Class) (c : ClassId) (fs : List Feature) → AllDeclareSame fs (map (fold_feature p c) fs)
features_alike p c [] = tt
features_alike p c (Method m ∷ fs) = ((refl, refl, refl, refl), features_alike p c fs)
features_alike p c (Attribute a ∷ fs) = ((refl, refl), features_alike p c fs)

classes_alike : (p : List Class) (k : ℕ) (ds : List Class) → AreAllAlike ds (fold_from p k ds)
classes_alike p k [] = tt
classes_alike p k (d ∷ ds) = ((refl, refl, features_alike p (class_number k) d.features), classes_alike p (k + 1) ds)

pub folded_alike : (p : List Class) → AreAllAlike p (fold_table p)
folded_alike p = classes_alike p 0 p

pub folded_shape : (p : List Class) → FindSame p (fold_table p)
folded_shape p = find_same p (fold_table p) (folded_alike p)

-- evaluation looks up the same in tables of one shape
pub tables_same : (p : List Class) → SameTables p (fold_table p)
tables_same p =
    let s = folded_shape p in
    record {
      names = s.names;
      chains = chain_same p (fold_table p) s;
      implementations = implementation_same p (fold_table p) s;
      attributes = λ c. ap (attributes_of (fold_table p)) (chain_same p (fold_table p) s c) ∙ attributes_same p (fold_table p) s (chain p c);
      types = λ r. s.results (User r.owner r.index);
      attribute_names = s.attribute_names;
      classes = classes_same p (fold_table p) s;
    }

-- The position of each folded feature

-- a class with its features folded
abbrev folded_class : List Class → ClassId → Class → Class
folded_class p c d = record d { features = map (fold_feature p c) d.features }

from_at : (p ds : List Class) (k i : ℕ) → get_or (fold_from p k ds) i nothing ≡ folded_class p (class_number (k + i)) (get_or ds i nothing)
from_at p [] k i = refl
from_at p (d ∷ ds) k zero = let same : k + 0 ≡ k = omega arith in ap (λ (x : ℕ). folded_class p (class_number x) d) (sym same)
from_at p (d ∷ ds) k (suc i) =
    let same : k + 1 + i ≡ k + suc i = omega arith in
    from_at p ds (k + 1) i ∙ ap (λ (x : ℕ). folded_class p (class_number x) (get_or ds i nothing)) same

pub got_folded : (p : List Class) (c : ClassId) (fs : List Feature) (i : ℕ)
    → slice_get (map (fold_feature p c) fs) i ≡ option_map (fold_feature p c) (slice_get fs i)
got_folded p c [] i = refl
got_folded p c (x ∷ fs) zero = refl
got_folded p c (x ∷ fs) (suc i) = got_folded p c fs i

module _ (p : List Class) where
  class_folded : (c : ClassId) → class_at (fold_table p) c ≡ folded_class p c (class_at p c)
  class_folded c =
      from_at p p 0 c.0 ∙ (let same : 0 + c.0 ≡ c.0 = omega arith in ap (λ (x : ℕ). folded_class p (class_number x) (class_at p c)) same)

  pub features_folded : (c : ClassId) → features_of (fold_table p) c ≡ map (fold_feature p c) (features_of p c)
  features_folded c = ap (λ (d : Class). d.features) (class_folded c)

  pub feature_at : (c : ClassId) (i : ℕ) → slice_get (features_of (fold_table p) c) i ≡ option_map (fold_feature p c) (slice_get (features_of p c) i)
  feature_at c i = ap (λ (fs : List Feature). slice_get fs i) (features_folded c) ∙ got_folded p c (features_of p c) i
