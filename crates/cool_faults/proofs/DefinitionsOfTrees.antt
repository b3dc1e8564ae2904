-- The class definitions of parsed files satisfy the limits on sizes and source locations, and there are fewer than 2^32 of them.
use Rattle.std.proofs.Common.{◌≡◌, ℕ, ◌+◌, ◌-◌, ◌<◌, ◌≤◌, ◌^◌, List, [], ◌∷◌, ◌++◌, length, arith}
use Rattle.std.specs.List.{AllByRecursion}
use Rattle.cool_syntax.specs.declared.TheConstants.{MOST_SOURCE_BYTES}
use Rattle.cool_syntax.specs.declared.file_tree.ClassDef.{ClassDef}
use Rattle.cool_syntax.specs.declared.file_tree.Feature.{Feature}
use Rattle.cool_syntax.specs.declared.file_tree.Feature.TheVariants.{Method, Attribute}
use Rattle.cool_syntax.specs.declared.file_tree.FileTree.{FileTree}
use Rattle.cool_syntax.specs.FeatureSizes.{IsBoundedClass}
use Rattle.cool_syntax.specs.TreesWithinLimits.{AreClassesWithin, IsClassWithin}
use Rattle.cool_syntax.specs.Weights.{classes_weight, features_weight}
use Rattle.cool_classes.specs.Definitions.{definitions, AreFew, HasFewFeatures, HasFewFormals}
use Rattle.cool_faults.specs.Files.{total}
use Rattle.cool_faults.proofs.FindingsInARow.{AllFound}
use Rattle.cool_faults.proofs.SyntaxFaults.{IsWhole}
use Rattle.lists.proofs.AllItems.{all_append}

-- the weight of two lists of classes
weight_append : (cs ds : List ClassDef) → classes_weight (cs ++ ds) ≡ classes_weight cs + classes_weight ds
weight_append [] ds = omega arith
weight_append (c ∷ cs) ds = omega (arith, weight_append cs ds)

-- the definitions stand in the files, and their names and constants keep the limits
pub definitions_within : (count i : ℕ) (files : List (List ℕ)) (ts : List FileTree) → i + length files ≤ count → AllFound IsWhole i files ts → AreClassesWithin count (definitions ts)
definitions_within count i [] [] few h = tt
definitions_within count i [] (t ∷ ts) few h = absurd h
definitions_within count i (bytes ∷ files) [] few h = absurd h
definitions_within count i (bytes ∷ files) (t ∷ ts) few h =
    let inside : i < count = omega arith in
    let less : (i + 1) + length files ≤ count = omega arith in
    all_append (IsClassWithin count) t.classes (definitions ts) (h.0.limits count inside) (definitions_within count (i + 1) files ts less h.1)

-- no feature of theirs is larger than a run
pub definitions_bounded : (i : ℕ) (files : List (List ℕ)) (ts : List FileTree) → AllFound IsWhole i files ts → AllByRecursion IsBoundedClass (definitions ts)
definitions_bounded i [] [] h = tt
definitions_bounded i [] (t ∷ ts) h = absurd h
definitions_bounded i (bytes ∷ files) [] h = absurd h
definitions_bounded i (bytes ∷ files) (t ∷ ts) h = all_append IsBoundedClass t.classes (definitions ts) h.0.bounded (definitions_bounded (i + 1) files ts h.1)

-- they hold no more than the files have bytes
pub definitions_light : (i : ℕ) (files : List (List ℕ)) (ts : List FileTree) → AllFound IsWhole i files ts → classes_weight (definitions ts) ≤ total files
definitions_light i [] [] h = omega arith
definitions_light i [] (t ∷ ts) h = absurd h
definitions_light i (bytes ∷ files) [] h = absurd h
definitions_light i (bytes ∷ files) (t ∷ ts) h = omega (arith, weight_append t.classes (definitions ts), h.0.weight, definitions_light (i + 1) files ts h.1)

-- features are no more than they weigh
few_features : (fs : List Feature) → length fs ≤ features_weight fs
few_features [] = omega arith
few_features (f ∷ fs) = omega (arith, few_features fs)

-- features that weigh little have few formals
few_formals : (fs : List Feature) → features_weight fs < 2 ^ 32 → AllByRecursion HasFewFormals fs
few_formals [] h = tt
few_formals (Method m ∷ fs) h =
    let few : length m.formals < 2 ^ 32 = omega arith in
    let rest : features_weight fs < 2 ^ 32 = omega arith in
    (few, few_formals fs rest)
few_formals (Attribute a ∷ fs) h =
    let rest : features_weight fs < 2 ^ 32 = omega arith in
    (tt, few_formals fs rest)

-- classes are no more than they weigh
few_classes : (cs : List ClassDef) → length cs ≤ classes_weight cs
few_classes [] = omega arith
few_classes (c ∷ cs) = omega (arith, few_classes cs)

-- classes that weigh little have few features, with few formals
few_in_each : (cs : List ClassDef) → classes_weight cs < 2 ^ 32 → AllByRecursion HasFewFeatures cs
few_in_each [] h = tt
few_in_each (c ∷ cs) h =
    let light : features_weight c.features < 2 ^ 32 = omega arith in
    let few : length c.features < 2 ^ 32 = omega (arith, few_features c.features) in
    let rest : classes_weight cs < 2 ^ 32 = omega arith in
    ((few, few_formals c.features light), few_in_each cs rest)

-- definitions of a source text are few
pub definitions_few : (cs : List ClassDef) → classes_weight cs ≤ MOST_SOURCE_BYTES → AreFew cs
definitions_few cs h =
    let few : length cs < 2 ^ 32 - 5 = omega (arith, few_classes cs) in
    let light : classes_weight cs < 2 ^ 32 = omega arith in
    (few, few_in_each cs light)
