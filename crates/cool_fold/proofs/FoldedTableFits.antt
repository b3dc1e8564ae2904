-- If a class table without type errors is within the compiler's limits of size, the folded table is within them, too.
use Rattle.std.proofs.Common.{◌≡◌, ℕ, zero, suc, ◌+◌, ◌≤◌, ◌<◌, List, [], ◌∷◌, ◌++◌, map, length, drop, Option, Some, None, refl, sym, ap, ◌∙◌, subst, arith}
use Rattle.std.specs.Prelude.{slice_get, IfSome}
use Rattle.std.specs.List.{AllByRecursion}
use Rattle.cool_syntax.specs.declared.file_tree.Feature.{Feature}
use Rattle.cool_syntax.specs.declared.file_tree.Feature.TheVariants.{Method, Attribute}
use Rattle.cool_syntax.specs.FeatureSizes.{value_size, feature_size, IsBoundedFeature}
use Rattle.cool_syntax.specs.Tree.{Tree}
use Rattle.cool_syntax.specs.TreesWithinLimits.{IsTypeName, IsTreeWithin, IsFeatureWithin}
use Rattle.cool_syntax.specs.Weights.{text_of_value, text_of_feature, features_weight}
use Rattle.cool_classes.specs.declared.class_id.ClassId.{ClassId}
use Rattle.cool_classes.specs.Chains.{Class, features_of}
use Rattle.cool_classes.specs.ClimbedChains.{chain}
use Rattle.cool_classes.specs.Features.{attributes_of}
use Rattle.cool_classes.specs.Limits.{IsImplemented, KeepsLimits}
use Rattle.cool_classes.proofs.AlikeTables.{FindSame, flipped}
use Rattle.cool_classes.proofs.ChainsOfTables.{chain_of}
use Rattle.cool_rules.specs.Fits.{weight_of, Fits}
use Rattle.cool_rules.specs.Scopes.{AreTypes, Binding}
use Rattle.cool_rules.specs.TypedTables.{IsTypedTable}
use Rattle.cool_rules.specs.Typing.{FitsDeclared, IsTypedInit, formals_in_scope, attributes_in_scope, HasType}
use Rattle.cool_rules.specs.NodeTypes.{own_scope}
use Rattle.cool_fold.specs.Folding.{fold, fold_option, fold_feature, fold_from, fold_table}
use Rattle.cool_fold.proofs.TypesInScope.{scope_typed}
use Rattle.cool_rules.proofs.TypesAreTypes.{formals_are_types}
use Rattle.cool_fold.proofs.FoldedSizes.{folded_most}
use Rattle.cool_fold.proofs.FoldedTableIsTyped.{each_folded}
use Rattle.cool_fold.proofs.FoldedTables.{folded_shape, features_folded}
use Rattle.cool_fold.proofs.FoldedWithin.{folded_within}
use Rattle.cool_classes.proofs.AlikeTablesKept.{within_back, implementation_same, attributes_same, chain_kept}
use Rattle.lists.proofs.AllItems.{all_get}

-- Counts of classes, attributes and methods

module _ (p p' : List Class) (s : FindSame p p') where
  all_implemented : (ds : List ClassId) (names : List (List ℕ)) → AllByRecursion (IsImplemented p' ds) names
      → AllByRecursion (IsImplemented p ds) names
  all_implemented ds [] h = tt
  all_implemented ds (name ∷ names) (h, hs) = ((λ none. h (implementation_same p p' s ds name ∙ none)), all_implemented ds names hs)

  limits_kept : KeepsLimits p → KeepsLimits p'
  limits_kept l =
      let back = flipped p p' s in
      record {
        classes = let same = s.count in let few = l.classes in omega arith;
        attributes = λ c ds within is.
            let same : length (attributes_of p' ds) ≡ length (attributes_of p ds) = ap length (attributes_same p p' s ds) in
            let few = l.attributes c ds (within_back p p' s c within) (chain_kept p' p back ds (Some c) is) in
            omega arith;
        methods = λ c ds names within is different implemented.
            l.methods c ds names (within_back p p' s c within) (chain_kept p' p back ds (Some c) is) different (all_implemented ds names implemented);
      }

-- Sizes of features and weights of classes

module _ (p : List Class) (c : ClassId) where
  value_smaller : (o : Option Tree) → (value_size (fold_option p c o) ≤ value_size o) × (text_of_value (fold_option p c o) ≤ text_of_value o)
  value_smaller None = (omega arith, omega arith)
  value_smaller (Some e) = let most = folded_most p c e (own_scope p c) in let n = most.nodes in let b = most.branches in (omega arith, most.text)

  feature_smaller : (x : Feature) → (feature_size (fold_feature p c x) ≤ feature_size x) × (text_of_feature (fold_feature p c x) ≤ text_of_feature x)
  feature_smaller (Method m) =
      let most = folded_most p c m.body (formals_in_scope p m.formals ++ own_scope p c) in let n = most.nodes in let b = most.branches in
      (omega arith, most.text)
  feature_smaller (Attribute a) = value_smaller a.init

  still_bounded : (x : Feature) → IsBoundedFeature x → IsBoundedFeature (fold_feature p c x)
  still_bounded x h = let smaller = (feature_smaller x).0 in omega arith

  features_lighter : (fs : List Feature) → features_weight (map (fold_feature p c) fs) ≤ features_weight fs
  features_lighter [] = omega arith
  features_lighter (x ∷ fs) = let h = feature_smaller x in let a = h.0 in let b = h.1 in let rest = features_lighter fs in omega arith

classes_lighter : (p ds : List Class) (k : ℕ) → weight_of (fold_from p k ds) ≤ weight_of ds
classes_lighter p [] k = omega arith
classes_lighter p (d ∷ ds) k = let a = features_lighter p (record { 0 = k }) d.features in let b = classes_lighter p ds (k + 1) in omega arith

rest_lighter : (p : List Class) (n k : ℕ) (ds : List Class) → weight_of (drop n (fold_from p k ds)) ≤ weight_of (drop n ds)
rest_lighter p zero k ds = classes_lighter p ds k
rest_lighter p (suc n) k [] = omega arith
rest_lighter p (suc n) k (d ∷ ds) = rest_lighter p n (k + 1) ds

-- Names, constants and places

module _ (p : List Class) (typed : IsTypedTable p) (count : ℕ) (fits : Fits p count) where
  declared_within : (c : ClassId) → c.0 < length p → (inner : List Binding) → AreTypes p inner
      → (e : Tree) (declared : List ℕ) → FitsDeclared p c inner e declared → IsTreeWithin count e
      → IsTreeWithin count (fold p c (inner ++ own_scope p c) e)
  declared_within c within inner inner_types e declared f h =
      let same : chain p c ≡ f.chain = chain_of p c f.chain f.is_chain in
      let types = scope_typed p typed.whole c inner inner_types in
      let has = subst (λ (ds : List ClassId). HasType p c (inner ++ attributes_in_scope p (attributes_of p ds)) e f.type) (sym same) f.has in
      folded_within count p typed.whole fits.names c within e (inner ++ own_scope p c) f.type types has h

  feature_within : (c : ClassId) (k : ℕ) (x : Feature) → c.0 < length p → slice_get (features_of p c) k ≡ Some x
      → IsFeatureWithin count (fold_feature p c x)
  feature_within c k (Method m) within there =
      let (placed, named, formals, result, h) = all_get (IsFeatureWithin count) (features_of p c) k (Method m) (fits.within c within) there in (
        placed,
        named,
        formals,
        result,
        declared_within c within (formals_in_scope p m.formals) (formals_are_types p typed.whole m.formals) m.body m.result.name
            (typed.features c k (Method m) within there) h,
      )
  feature_within c k (Attribute a) within there =
      let (placed, named, declared, h) = all_get (IsFeatureWithin count) (features_of p c) k (Attribute a) (fits.within c within) there in
      (placed, named, declared, by a.init (typed.features c k (Attribute a) within there) h)
    where
      by : (o : Option Tree) → IsTypedInit p c a.declared.name o → IfSome o (IsTreeWithin count) → IfSome (fold_option p c o) (IsTreeWithin count)
      by None f h = tt
      by (Some e) f h = declared_within c within [] tt e a.declared.name f h

  features_within : (c : ClassId) (fs : List Feature)
      → ((k : ℕ) (x : Feature) → slice_get fs k ≡ Some x → IsFeatureWithin count (fold_feature p c x))
      → AllByRecursion (IsFeatureWithin count) (map (fold_feature p c) fs)
  features_within c [] each = tt
  features_within c (x ∷ fs) each = (each zero x refl, features_within c fs (λ k y there. each (suc k) y there))

  pub folded_fits : Fits (fold_table p) count
  folded_fits =
      let s = folded_shape p in
      let back = within_back p (fold_table p) s in
      record {
        table = limits_kept p (fold_table p) s fits.table;
        bounded = λ c within. each_folded p c IsBoundedFeature IsBoundedFeature (still_bounded p c) (fits.bounded c (back c within));
        within =
            λ c within. subst (AllByRecursion (IsFeatureWithin count)) (sym (features_folded p c))
            (features_within c (features_of p c) (λ k x there. feature_within c k x (back c within) there));
        names = λ c within. subst IsTypeName (sym (s.names c)) (fits.names c (back c within));
        weight = let lighter = rest_lighter p 5 0 p in let weight = fits.weight in omega arith;
        files = fits.files;
      }
