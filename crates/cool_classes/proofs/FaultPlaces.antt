-- Each fault (compile-time error) in the features of a class is of one of the kinds F1 to F9, and its location is in one of the source files.
use Rattle.std.proofs.Common.{ℕ, ◌+◌, ◌<◌, List, [], ◌∷◌, ◌++◌, Option, Some, is_some, Bool, true, false, not, ◌||◌, arith}
use Rattle.std.specs.Prelude.{bytes_eq, codes}
use Rattle.std.specs.List.{AllByRecursion}
use Rattle.cool_syntax.specs.declared.place.Place.{Place}
use Rattle.cool_syntax.specs.declared.type_ref.TypeRef.{TypeRef}
use Rattle.cool_syntax.specs.declared.file_tree.Feature.{Feature}
use Rattle.cool_syntax.specs.declared.file_tree.Feature.TheVariants.{Method, Attribute}
use Rattle.cool_syntax.specs.declared.file_tree.Formal.{Formal}
use Rattle.cool_syntax.specs.TokenFacts.{IsPlaced}
use Rattle.cool_syntax.specs.TreesWithinLimits.{IsFormalWithin, IsFeatureWithin}
use Rattle.cool_classes.specs.declared.class_id.ClassId.{ClassId}
use Rattle.cool_classes.specs.declared.fault.ClassFault.{ClassFault}
use Rattle.cool_classes.specs.declared.fault.ClassKind.{ClassKind}
use Rattle.cool_classes.specs.declared.fault.ClassKind.TheVariants.{F1, F2, F3, F4, F5, F6, F7, F8, F9}
use Rattle.cool_classes.specs.Chains.{Class, features_of}
use Rattle.cool_classes.specs.FaultLists.{rank, IsOfFeatures}
use Rattle.cool_classes.specs.Features.{first_method, implementation}
use Rattle.cool_classes.specs.FirstNames.{first_index, is_index}
use Rattle.cool_classes.specs.FeatureFaults.{noted, is_class, is_doubled, redefines_otherwise, lacks_main, is_over_limit, type_faults, formal_faults, formals_faults, one_feature_faults, features_faults, class_faults}
use Rattle.cool_classes.specs.Names.{self_type}
use Rattle.lists.proofs.AllItems.{all_append}

-- a fault of features at a good place is a good fault
abbrev Makes : (Place → Type 0) → (ClassFault → Type 0) → Type 0
Makes Q P = (kind : ClassKind) → 6 < rank kind → (at : Place) → Q at → P (record { kind = kind; at = at })

-- the places of a feature are good
abbrev IsGoodFormal : (Place → Type 0) → Formal → Type 0
IsGoodFormal Q f = Q f.at × Q f.declared.at

abbrev IsGoodFeature : (Place → Type 0) → Feature → Type 0
IsGoodFeature Q (Method m) = Q m.at × AllByRecursion (IsGoodFormal Q) m.formals × Q m.result.at
IsGoodFeature Q (Attribute a) = Q a.at × Q a.declared.at

noted_good : (Q : Place → Type 0) (P : ClassFault → Type 0) → Makes Q P → (b : Bool) (kind : ClassKind) → 6 < rank kind → (at : Place) → Q at → AllByRecursion P (noted b kind at)
noted_good Q P make true kind r at q = (make kind r at q, tt)
noted_good Q P make false kind r at q = tt

-- one more test
and_noted : (Q : Place → Type 0) (P : ClassFault → Type 0) → Makes Q P → (b : Bool) (kind : ClassKind) → 6 < rank kind → (at : Place) → Q at → (rest : List ClassFault) → AllByRecursion P rest
    → AllByRecursion P (noted b kind at ++ rest)
and_noted Q P make b kind r at q rest h = all_append P (noted b kind at) rest (noted_good Q P make b kind r at q) h

type_good : (Q : Place → Type 0) (P : ClassFault → Type 0) → Makes Q P → (p : List Class) (r : TypeRef) → Q r.at → AllByRecursion P (type_faults p r)
type_good Q P make p r q = noted_good Q P make (not (bytes_eq r.name self_type || is_class p r.name)) F6 (omega arith) r.at q

formal_good : (Q : Place → Type 0) (P : ClassFault → Type 0) → Makes Q P → (p : List Class) (before : List (Option (List ℕ))) (f : Formal) → IsGoodFormal Q f → AllByRecursion P (formal_faults p before f)
formal_good Q P make p before f q =
    let self = bytes_eq f.name (codes "self") in
    let double = is_some (first_index 0 before f.name) in
    let self_typed = bytes_eq f.declared.name self_type in
    let last = and_noted Q P make self_typed F5 (omega arith) f.declared.at q.1 (type_faults p f.declared) (type_good Q P make p f.declared q.1) in
    let two = and_noted Q P make double F4 (omega arith) f.at q.0 (noted self_typed F5 f.declared.at ++ type_faults p f.declared) last in
    and_noted Q P make self F3 (omega arith) f.at q.0 (noted double F4 f.at ++ (noted self_typed F5 f.declared.at ++ type_faults p f.declared)) two

formals_good : (Q : Place → Type 0) (P : ClassFault → Type 0) → Makes Q P → (p : List Class) (before : List (Option (List ℕ))) (fs : List Formal) → AllByRecursion (IsGoodFormal Q) fs
    → AllByRecursion P (formals_faults p before fs)
formals_good Q P make p before [] q = tt
formals_good Q P make p before (f ∷ fs) q =
    all_append P (formal_faults p before f) (formals_faults p (before ++ Some f.name ∷ []) fs) (formal_good Q P make p before f q.0) (formals_good Q P make p (before ++ Some f.name ∷ []) fs q.1)

feature_good : (Q : Place → Type 0) (P : ClassFault → Type 0) → Makes Q P → (p : List Class) (c : ClassId) (above : List ClassId) (k : ℕ) (x : Feature) → IsGoodFeature Q x
    → AllByRecursion P (one_feature_faults p c above k x)
feature_good Q P make p c above k (Method m) q =
    let double = not (is_index k (first_method 0 (features_of p c) m.name)) in
    let otherwise = redefines_otherwise p m (implementation p above m.name) in
    let declared = formals_faults p [] m.formals ++ type_faults p m.result in
    let last = all_append P (formals_faults p [] m.formals) (type_faults p m.result) (formals_good Q P make p [] m.formals q.1) (type_good Q P make p m.result q.2) in
    let two = and_noted Q P make otherwise F7 (omega arith) m.at q.0 declared last in
    and_noted Q P make double F1 (omega arith) m.at q.0 (noted otherwise F7 m.at ++ declared) two
feature_good Q P make p c above k (Attribute a) q =
    let self = bytes_eq a.name (codes "self") in
    let double = is_doubled p c above k a.name in
    let two = and_noted Q P make double F2 (omega arith) a.at q.0 (type_faults p a.declared) (type_good Q P make p a.declared q.1) in
    and_noted Q P make self F3 (omega arith) a.at q.0 (noted double F2 a.at ++ type_faults p a.declared) two

features_good : (Q : Place → Type 0) (P : ClassFault → Type 0) → Makes Q P → (p : List Class) (c : ClassId) (above : List ClassId) (k : ℕ) (fs : List Feature) → AllByRecursion (IsGoodFeature Q) fs
    → AllByRecursion P (features_faults p c above k fs)
features_good Q P make p c above k [] q = tt
features_good Q P make p c above k (x ∷ fs) q =
    all_append P (one_feature_faults p c above k x) (features_faults p c above (k + 1) fs) (feature_good Q P make p c above k x q.0) (features_good Q P make p c above (k + 1) fs q.1)

class_good : (Q : Place → Type 0) (P : ClassFault → Type 0) → Makes Q P → (p : List Class) (c : ClassId) (above : List ClassId) (at : Place) → AllByRecursion (IsGoodFeature Q) (features_of p c) → Q at
    → AllByRecursion P (class_faults p c above at)
class_good Q P make p c above at q here =
    let main = lacks_main p c in
    let over = is_over_limit p (c ∷ above) in
    let last = and_noted Q P make main F8 (omega arith) at here (noted over F9 at) (noted_good Q P make over F9 (omega arith) at here) in
    all_append P (features_faults p c above 0 (features_of p c)) (noted main F8 at ++ noted over F9 at) (features_good Q P make p c above 0 (features_of p c) q) last

-- all places are good for a test that asks nothing
any_formals : (fs : List Formal) → AllByRecursion (IsGoodFormal (λ _. Unit {0})) fs
any_formals [] = tt
any_formals (f ∷ fs) = ((tt, tt), any_formals fs)

any_features : (fs : List Feature) → AllByRecursion (IsGoodFeature (λ _. Unit {0})) fs
any_features [] = tt
any_features (Method m ∷ fs) = ((tt, any_formals m.formals, tt), any_features fs)
any_features (Attribute a ∷ fs) = ((tt, tt), any_features fs)

-- the faults of a class are faults of features
pub class_kinds : (p : List Class) (c : ClassId) (above : List ClassId) (at : Place) → AllByRecursion IsOfFeatures (class_faults p c above at)
class_kinds p c above at = class_good (λ _. Unit {0}) IsOfFeatures (λ kind r place q. r) p c above at (any_features (features_of p c)) tt

placed_formals : (n : ℕ) (fs : List Formal) → AllByRecursion (IsFormalWithin n) fs → AllByRecursion (IsGoodFormal (IsPlaced n)) fs
placed_formals n [] h = tt
placed_formals n (f ∷ fs) h = ((h.0.0, h.0.2.1), placed_formals n fs h.1)

placed_features : (n : ℕ) (fs : List Feature) → AllByRecursion (IsFeatureWithin n) fs → AllByRecursion (IsGoodFeature (IsPlaced n)) fs
placed_features n [] h = tt
placed_features n (Method m ∷ fs) h = ((h.0.0, placed_formals n m.formals h.0.2, h.0.3.1), placed_features n fs h.1)
placed_features n (Attribute a ∷ fs) h = ((h.0.0, h.0.2.1), placed_features n fs h.1)

-- they stand in the files of the features and of the class's name
pub class_places : (n : ℕ) (p : List Class) (c : ClassId) (above : List ClassId) (at : Place) → AllByRecursion (IsFeatureWithin n) (features_of p c) → IsPlaced n at
    → AllByRecursion (λ (f : ClassFault). IsPlaced n f.at) (class_faults p c above at)
class_places n p c above at h here = class_good (IsPlaced n) (λ (f : ClassFault). IsPlaced n f.at) (λ kind r place q. q) p c above at (placed_features n (features_of p c) h) here
