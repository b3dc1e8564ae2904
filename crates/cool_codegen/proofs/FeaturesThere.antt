-- In an accepted program, each feature of a class is found by its number, it is within the compiler's limits, and its expression has few enough nodes.
use Rattle.std.proofs.Common.{◌≡◌, ℕ, ◌≤◌, ◌<◌, List, length, get_or, Option, Some, ap, sym, subst, ◌∙◌, arith}
use Rattle.std.specs.Prelude.{slice_get}
use Rattle.std.proofs.lemmas.Option.{slice_get-get_or}
use Rattle.cool_syntax.specs.declared.file_tree.Feature.{Feature}
use Rattle.cool_syntax.specs.declared.file_tree.Feature.TheVariants.{Attribute}
use Rattle.cool_syntax.specs.declared.TheConstants.{MOST_TOKENS}
use Rattle.cool_syntax.specs.declared.file_tree.AttributeDef.{AttributeDef}
use Rattle.cool_syntax.specs.Tree.{Tree, tree_size}
use Rattle.cool_syntax.specs.FeatureSizes.{IsBoundedFeature, value_size}
use Rattle.cool_syntax.specs.TreesWithinLimits.{IsFeatureWithin}
use Rattle.cool_classes.specs.declared.class_id.ClassId.{ClassId}
use Rattle.cool_classes.specs.Chains.{Class, features_of}
use Rattle.cool_rules.specs.Fits.{Fits}
use Rattle.lists.proofs.AllItems.{all_get}

-- the element at a place
pub stands : {X : Type 0} (xs ys : List X) (k : ℕ) (x : X) → ys ≡ xs → k < length xs → x ≡ get_or ys k x → slice_get xs k ≡ Some x
stands {X = X} xs ys k x same less is =
    let there : x ≡ get_or xs k x = subst (λ (zs : List X). x ≡ get_or zs k x) same is in
    slice_get-get_or xs k x less ∙ ap Some (sym there)

-- no two stand at one place
pub one_there : {X : Type 0} (xs : List X) (k : ℕ) (x y : X) → slice_get xs k ≡ Some x → slice_get xs k ≡ Some y → y ≡ x
one_there xs k x y e f = let same = sym f ∙ e in cc

-- a feature of a program within the limits is bounded, and stands in the files
pub bounded_there : (p : List Class) (count : ℕ) (c : ClassId) (k : ℕ) (x : Feature) → Fits p count → c.0 < length p → slice_get (features_of p c) k ≡ Some x → IsBoundedFeature x
bounded_there p count c k x fits within is = all_get IsBoundedFeature (features_of p c) k x (fits.bounded c within) is

pub within_there : (p : List Class) (count : ℕ) (c : ClassId) (k : ℕ) (x : Feature) → Fits p count → c.0 < length p → slice_get (features_of p c) k ≡ Some x → IsFeatureWithin count x
within_there p count c k x fits within is = all_get (IsFeatureWithin count) (features_of p c) k x (fits.within c within) is

-- and its expression has few nodes
pub small_value : (p : List Class) (count : ℕ) (c : ClassId) (k : ℕ) (a : AttributeDef) (t : Tree) → Fits p count → c.0 < length p → slice_get (features_of p c) k ≡ Some (Attribute a) → a.init ≡ Some t → tree_size t ≤ MOST_TOKENS
small_value p count c k a t fits within is has =
    let bounded : value_size a.init ≤ MOST_TOKENS = bounded_there p count c k (Attribute a) fits within is in
    let small : value_size (Some t) ≤ MOST_TOKENS = subst (λ (o : Option Tree). value_size o ≤ MOST_TOKENS) has bounded in
    omega arith
