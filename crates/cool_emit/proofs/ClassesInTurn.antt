-- The weight of a class table (a bound from its names, parameters, nodes and string bytes) is the sum of the weights of its classes, and at least that of its
-- features.
use Rattle.std.proofs.Common.{◌≡◌, ℕ, ◌+◌, ◌≤◌, List, [], ◌∷◌, ◌++◌, length, take, drop}
use Rattle.std.proofs.Common.{refl, ap, ◌∙◌, subst, arith, length-append, append_assoc}
use Rattle.std.proofs.Math.Seq.{get_or-append_seam}
use Rattle.std.proofs.lemmas.List.{take-append-drop}
use Rattle.cool_syntax.specs.declared.file_tree.Feature.{Feature}
use Rattle.cool_syntax.specs.declared.file_tree.Feature.TheVariants.{Method, Attribute}
use Rattle.cool_syntax.specs.declared.TheConstants.{MOST_SOURCE_BYTES}
use Rattle.cool_syntax.specs.Weights.{feature_weight, features_weight}
use Rattle.cool_classes.specs.declared.class_id.ClassId.{ClassId}
use Rattle.cool_classes.specs.Chains.{Class, class_at, class_number, nothing, features_of}
use Rattle.cool_classes.specs.Tables.{basic_classes}
use Rattle.cool_rules.specs.Fits.{weight_of}
use Rattle.cool_layout.specs.Preorder.{numbers_from}
use Rattle.cool_emit.specs.Programs.{Placed, attributes_from, methods_from, class_features, all_features, IsBuildable}
use Rattle.cool_emit.proofs.Totals.{total, total-append, total-flat_map, total-le}

-- a sum over the classes, by their numbers
numbers_after : (g : Class → ℕ) (front p : List Class)
    → total (λ c. g (class_at (front ++ p) c)) (numbers_from (length front) (length p)) ≡ total g p
numbers_after g front [] = refl
numbers_after g front (c ∷ p) =
    let here : g (class_at (front ++ c ∷ p) (class_number (length front))) ≡ g c = ap g (get_or-append_seam front c p nothing) in
    let next : total (λ d. g (class_at ((front ++ c ∷ []) ++ p) d)) (numbers_from (length (front ++ c ∷ [])) (length p)) ≡ total g p =
    numbers_after g (front ++ c ∷ []) p in
    let long : length (front ++ c ∷ []) ≡ length front + 1 = length-append front (c ∷ []) in
    let same : total (λ d. g (class_at (front ++ c ∷ p) d)) (numbers_from (length front + 1) (length p)) ≡ total g p =
    subst (λ (n : ℕ). total (λ d. g (class_at (front ++ c ∷ p) d)) (numbers_from n (length p)) ≡ total g p) long
    (subst (λ (all : List Class). total (λ d. g (class_at all d)) (numbers_from (length (front ++ c ∷ [])) (length p))
    ≡ total g p) (append_assoc front (c ∷ []) p) next) in
    omega arith

-- the same from the first class on
pub by_number : (g : Class → ℕ) (p : List Class) → total (λ c. g (class_at p c)) (numbers_from 0 (length p)) ≡ total g p
by_number g p = numbers_after g [] p

-- the weight of a class
abbrev pub class_weight : Class → ℕ
class_weight c = 1 + length c.name + features_weight c.features

-- a table weighs what its classes weigh together
pub weight_is_total : (p : List Class) → weight_of p ≡ total class_weight p
weight_is_total [] = refl
weight_is_total (c ∷ p) = omega (arith, weight_is_total p)

-- the weight of a feature
abbrev pub placed_weight : Placed → ℕ
placed_weight f = feature_weight f.feature

-- the attributes and the methods among features weigh what the features weigh
pub parts_weigh : (k : ℕ) (fs : List Feature)
    → total placed_weight (attributes_from k fs) + total placed_weight (methods_from k fs) ≡ features_weight fs
parts_weigh k [] = refl
parts_weigh k (Method m ∷ fs) = omega (arith, parts_weigh (k + 1) fs)
parts_weigh k (Attribute a ∷ fs) = omega (arith, parts_weigh (k + 1) fs)

-- the features of all classes weigh no more than the table
pub features_weigh : (p : List Class) → total placed_weight (all_features p) ≤ weight_of p
features_weigh p =
    let all : total placed_weight (all_features p) ≡ total (λ c. total placed_weight (class_features p c)) (numbers_from 0 (length p)) =
    total-flat_map placed_weight (class_features p) (numbers_from 0 (length p)) in
    let each : total (λ c. total placed_weight (class_features p c)) (numbers_from 0 (length p))
    ≤ total (λ c. class_weight (class_at p c)) (numbers_from 0 (length p)) =
    total-le (λ c. total placed_weight (class_features p c)) (λ c. class_weight (class_at p c)) (numbers_from 0 (length p)) (λ c. one c) in
    let weight : total (λ c. class_weight (class_at p c)) (numbers_from 0 (length p)) ≡ total class_weight p = by_number class_weight p in
    let is : weight_of p ≡ total class_weight p = weight_is_total p in
    omega arith
  where
    one : (c : ClassId) → total placed_weight (class_features p c) ≤ class_weight (class_at p c)
    one c =
        omega (
          arith,
          total-append placed_weight (attributes_from 0 (features_of p c)) (methods_from 0 (features_of p c)),
          parts_weigh 0 (features_of p c),
        )

-- A table weighs little more than its classes after the basic ones, which weigh no more than a text may have bytes.

-- the weight of joined tables is the sum of their weights
weight-append : (p q : List Class) → weight_of (p ++ q) ≡ weight_of p + weight_of q
weight-append [] q = omega arith
weight-append (c ∷ p) q = omega (arith, weight-append p q)

-- the basic classes weigh no more than their names
basic_weight : weight_of basic_classes ≡ 26
basic_weight = refl

-- a program that can be built
pub table_weight : (p : List Class) (files : List (List ℕ)) → IsBuildable p files → weight_of p ≤ 1048602
table_weight p files b =
    let basic : weight_of (take 5 p) ≡ 26 = ap weight_of b.typed.whole.table.basic ∙ basic_weight in
    let parts : weight_of (take 5 p ++ drop 5 p) ≡ weight_of (take 5 p) + weight_of (drop 5 p) = weight-append (take 5 p) (drop 5 p) in
    let whole : weight_of (take 5 p ++ drop 5 p) ≡ weight_of p = ap weight_of (take-append-drop 5 p) in
    let rest : weight_of (drop 5 p) ≤ MOST_SOURCE_BYTES = b.fits.weight in
    omega arith
