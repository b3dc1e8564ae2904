-- If class definitions have no errors in names, parents and number of classes, their entries make a complete class table, except that the types that their
-- features name may not exist (`AreResolved` of `Resolved.antt`).
use Rattle.std.proofs.Common.{◌≡◌, ◌≢◌, ℕ, zero, suc, ◌+◌, ◌<◌, ◌≤◌, ◌^◌, List, [], ◌∷◌, ◌++◌, length, take, map, get_or, Option, Some, None, sym, ap, ◌∙◌, refl, subst, arith, true≢false}
use Rattle.std.specs.Prelude.{IsSome}
use Rattle.std.specs.List.{AllByRecursion}
use Rattle.std.proofs.lemmas.List.{length-map}
use Rattle.std.proofs.Math.ListN.{get_or-map as get_or-map_same}
use Rattle.std.proofs.lemmas.Option.{get_or_from_slice_get}
use Rattle.cool_syntax.specs.declared.type_ref.TypeRef.{TypeRef}
use Rattle.cool_syntax.specs.declared.file_tree.ClassDef.{ClassDef}
use Rattle.cool_syntax.specs.TokenFacts.{IsPlaced}
use Rattle.cool_syntax.specs.TreesWithinLimits.{IsFeatureWithin, IsClassWithin, AreClassesWithin}
use Rattle.cool_classes.specs.declared.TheConstants.{MOST_CLASSES}
use Rattle.cool_classes.specs.declared.class_id.ClassId.{ClassId}
use Rattle.cool_classes.specs.declared.entry.Entry.{Entry}
use Rattle.cool_classes.specs.Chains.{Class, class_number, class_at, name_of, parent_of, features_of, nothing}
use Rattle.cool_classes.specs.Definitions.{AreFew, HasFewFeatures, HasFewFormals, InheritsAs, AreDefinedBy, IsTableOf}
use Rattle.cool_classes.specs.Tables.{basic_classes, IsGrounded}
use Rattle.cool_classes.specs.Entries.{as_class, classes, no_entry, depth_at, AreWhole}
use Rattle.cool_classes.specs.Names.{first_named, self_type}
use Rattle.cool_classes.specs.Depths.{parents_with_basic, HasDepth, AreDepths}
use Rattle.cool_classes.specs.Resolved.{AreResolved, AreGood, ArePlaced}
use Rattle.cool_classes.specs.Settled.{basic_names, names_with_basic, parent_meant, parents_meant, entries_meant, entries_of, or_zero, or_object, IsParentKnown, AreSettled}
use Rattle.cool_classes.proofs.AllOfLists.{all_map}
use Rattle.cool_classes.proofs.BasicDepths.{basic_top, basic_below}
use Rattle.cool_classes.proofs.GroundedByDepths.{grounded_by}
use Rattle.cool_classes.proofs.Climbs.{chain_there}
use Rattle.cool_classes.proofs.DistinctNames.{same_place, all_new, no_self_types}
use Rattle.cool_classes.proofs.FirstIndexes.{named_sound}
use Rattle.cool_classes.proofs.ParentsOfDefinitions.{parents_long, parents_within, all_names_long, found_within}
use Rattle.lists.proofs.AllItems.{all_at, all_append, all_then}
use Rattle.cool_classes.specs.ClassFaults.{class_meant, classes_meant}
use Rattle.cool_classes.proofs.ExactFaults.{meant_in}
use Rattle.cool_classes.proofs.LawfulByFaults.{names_of_meant}

-- the entries are seen as these classes
pub all_seen : (ds : List ClassDef) (os : List (Option ℕ)) → length os ≡ length ds → classes (entries_of ds os) ≡ classes_meant ds
all_seen ds os long = ap (λ (cs : List Class). basic_classes ++ cs) (meant_in (names_with_basic ds) ds os long)

-- a property of the basic classes and of those of definitions holds of all
each_class : (P : Class → Type 0) (ds : List ClassDef) → AllByRecursion P basic_classes → AllByRecursion (λ (d : ClassDef). P (class_meant (names_with_basic ds) d)) ds
    → (c : ClassId) → c.0 < length (classes_meant ds) → P (class_at (classes_meant ds) c)
each_class P ds basic all c within =
    all_at P (classes_meant ds) c.0 nothing (all_append P basic_classes (map (class_meant (names_with_basic ds)) ds) basic (all_map P (class_meant (names_with_basic ds)) ds all)) within

-- there is a class for each definition
pub classes_long : (ds : List ClassDef) → length (classes_meant ds) ≡ length ds + 5
classes_long ds = let long = length-map ds (class_meant (names_with_basic ds)) in omega arith

-- the name of a class
name_seen : (ds : List ClassDef) (c : ClassId) → name_of (classes_meant ds) c ≡ get_or (names_with_basic ds) c.0 []
name_seen ds c =
    sym (get_or-map_same (λ (x : Class). x.name) (classes_meant ds) c.0 nothing)
    ∙ ap (λ (ns : List (List ℕ)). get_or (basic_names ++ ns) c.0 []) (names_of_meant (names_with_basic ds) ds)

-- the parents of the classes of definitions
parents_seen : (names : List (List ℕ)) (ds : List ClassDef) → map (λ (c : Class). c.parent) (map (class_meant names) ds) ≡ map Some (parents_meant names ds)
parents_seen names [] = refl
parents_seen names (d ∷ ds) = ap (λ (ps : List (Option ClassId)). Some (parent_meant names d.parent) ∷ ps) (parents_seen names ds)

-- the parents of the basic classes before others
basic_parents_then : List (Option ClassId) → List (Option ClassId)
basic_parents_then ps = None ∷ Some (class_number 0) ∷ Some (class_number 0) ∷ Some (class_number 0) ∷ Some (class_number 0) ∷ ps

-- the parent of a class
parent_seen : (ds : List ClassDef) (c : ClassId) → parent_of (classes_meant ds) c ≡ get_or (parents_with_basic (parents_meant (names_with_basic ds) ds)) c.0 None
unfolding basic_parents_then
parent_seen ds c =
    sym (get_or-map_same (λ (x : Class). x.parent) (classes_meant ds) c.0 nothing)
    ∙ ap (λ (ps : List (Option ClassId)). get_or (basic_parents_then ps) c.0 None) (parents_seen (names_with_basic ds) ds)

-- the depths of the entries
depth_there : (names : List (List ℕ)) (ds : List ClassDef) (os : List (Option ℕ)) (k : ℕ) → length os ≡ length ds → (get_or (entries_meant names ds os) k no_entry).depth ≡ or_zero (get_or os k None)
depth_there names [] [] k long = refl
depth_there names [] (o ∷ os) k long = absurd (omega arith)
depth_there names (d ∷ ds) [] k long = absurd (omega arith)
depth_there names (d ∷ ds) (o ∷ os) zero long = refl
depth_there names (d ∷ ds) (o ∷ os) (suc k) long = depth_there names ds os k (omega arith)

-- the depth of the class of a definition is right
has_by : (ps : List ClassId) (os : List (Option ℕ)) (k : ℕ) → AreDepths ps os → k < length ps → HasDepth (parents_with_basic ps) (suc (suc (suc (suc (suc k))))) (or_zero (get_or os k None))
has_by ps os k depths within =
    let r = depths.right k within in
    let up : k + 5 ≡ suc (suc (suc (suc (suc k)))) = omega arith in
    let deep : r.0 ≡ or_zero (get_or os k None) = ap or_zero (sym r.1) in
    subst (λ (n : ℕ). HasDepth (parents_with_basic ps) n (or_zero (get_or os k None))) up (subst (HasDepth (parents_with_basic ps) (k + 5)) deep r.2)

-- the depth of each class is right
has_depth : (ds : List ClassDef) (os : List (Option ℕ)) → length os ≡ length ds → AreDepths (parents_meant (names_with_basic ds) ds) os → (n : ℕ) → n < length ds + 5
    → HasDepth (parents_with_basic (parents_meant (names_with_basic ds) ds)) n (get_or (entries_of ds os) n no_entry).depth
has_depth ds os long depths zero within = basic_top (parents_meant (names_with_basic ds) ds) 0 refl
has_depth ds os long depths (suc zero) within = basic_below (parents_meant (names_with_basic ds) ds) 1 (omega arith) (λ e. omega arith)
has_depth ds os long depths (suc (suc zero)) within = basic_below (parents_meant (names_with_basic ds) ds) 2 (omega arith) (λ e. omega arith)
has_depth ds os long depths (suc (suc (suc zero))) within = basic_below (parents_meant (names_with_basic ds) ds) 3 (omega arith) (λ e. omega arith)
has_depth ds os long depths (suc (suc (suc (suc zero)))) within = basic_below (parents_meant (names_with_basic ds) ds) 4 (omega arith) (λ e. omega arith)
has_depth ds os long depths (suc (suc (suc (suc (suc k))))) within =
    let all = parents_long (names_with_basic ds) ds in
    subst (HasDepth (parents_with_basic (parents_meant (names_with_basic ds) ds)) (suc (suc (suc (suc (suc k)))))) (sym (depth_there (names_with_basic ds) ds os k long))
    (has_by (parents_meant (names_with_basic ds) ds) os k depths (omega arith))

-- there is a depth for each definition
depths_long : (ds : List ClassDef) (os : List (Option ℕ)) → AreSettled ds os → length os ≡ length ds
depths_long ds os settled = settled.grounded.same ∙ parents_long (names_with_basic ds) ds

-- the classes stand above one another by their depths
grounded_meant : (ds : List ClassDef) (os : List (Option ℕ)) → AreSettled ds os → IsGrounded (classes_meant ds) (depth_at (entries_of ds os))
grounded_meant ds os settled =
    let all = parents_long (names_with_basic ds) ds in
    let long = classes_long ds in
    grounded_by (classes_meant ds) (parents_meant (names_with_basic ds) ds) (depth_at (entries_of ds os)) (omega arith) (parent_seen ds) (parents_within ds)
    (λ c within. has_depth ds os (depths_long ds os settled) settled.grounded c.0 (omega arith))

-- one name, one class
names_meant : (ds : List ClassDef) (os : List (Option ℕ)) → AreSettled ds os → (c d : ClassId) → c.0 < length (classes_meant ds) → d.0 < length (classes_meant ds)
    → name_of (classes_meant ds) c ≡ name_of (classes_meant ds) d → c ≡ d
names_meant ds os settled c d c_within d_within same =
    let long = classes_long ds in
    let all = all_names_long ds in
    let e : c.0 ≡ d.0 =
    same_place (names_with_basic ds) (all_new ds settled.names) c.0 d.0 (omega arith) (omega arith) (sym (name_seen ds c) ∙ same ∙ name_seen ds d) in
    λ i. record { 0 = e i }

-- definitions without faults of classes make resolved entries
pub resolved_by : (ds : List ClassDef) (os : List (Option ℕ)) → AreFew ds → AreSettled ds os → AreResolved (entries_of ds os)
resolved_by ds os few settled =
    let seen : classes_meant ds ≡ classes (entries_of ds os) = sym (all_seen ds os (depths_long ds os settled)) in
    let long = classes_long ds in
    record {
      basic = subst (λ (p : List Class). take 5 p ≡ basic_classes) seen refl;
      grounded = subst (λ (p : List Class). IsGrounded p (depth_at (entries_of ds os))) seen (grounded_meant ds os settled);
      names = subst (λ (p : List Class). (c d : ClassId) → c.0 < length p → d.0 < length p → name_of p c ≡ name_of p d → c ≡ d) seen (names_meant ds os settled);
      no_self_type =
          subst (λ (p : List Class). (c : ClassId) → c.0 < length p → name_of p c ≢ self_type) seen
          (λ c within e. no_self_types ds settled.names c.0 (omega arith) (sym (name_seen ds c) ∙ e));
      few = subst (λ (p : List Class). length p ≤ 5 + MOST_CLASSES) seen (let most = settled.few in omega arith);
      few_features =
          subst (λ (p : List Class). (c : ClassId) → c.0 < length p → length (features_of p c) < 2 ^ 32) seen
          (each_class (λ (c : Class). length c.features < 2 ^ 32) ds (omega arith, (omega arith, (omega arith, (omega arith, (omega arith, tt)))))
          (all_then HasFewFeatures (λ (d : ClassDef). length d.features < 2 ^ 32) ds (λ d h. h.0) few.1));
      few_formals =
          subst (λ (p : List Class). (c : ClassId) → c.0 < length p → AllByRecursion HasFewFormals (features_of p c)) seen
          (each_class (λ (c : Class). AllByRecursion HasFewFormals c.features) ds (tt, (tt, (tt, (tt, (tt, tt)))))
          (all_then HasFewFeatures (λ (d : ClassDef). AllByRecursion HasFewFormals d.features) ds (λ d h. h.1) few.1));
    }

-- a class that is found is the one that the parent names
inherits_by : (ds : List ClassDef) (r : TypeRef) (o : Option ClassId) → first_named 0 (names_with_basic ds) r.name ≡ o → IsSome o
    → ((or_object o).0 < length (classes_meant ds)) × (name_of (classes_meant ds) (or_object o) ≡ r.name)
inherits_by ds r None is some = absurd (true≢false (sym some))
inherits_by ds r (Some q) is some =
    let n = named_sound 0 (names_with_basic ds) r.name q is in
    let number : q.0 ≡ n.0 = let e : q.0 ≡ 0 + n.0 = ap (λ (c : ClassId). c.0) n.1 in omega arith in
    let low : q.0 < 0 + length (names_with_basic ds) = found_within 0 (names_with_basic ds) r.name q is in
    let all = all_names_long ds in
    let long = classes_long ds in
    (omega arith, name_seen ds q ∙ ap (λ (k : ℕ). get_or (names_with_basic ds) k []) number ∙ get_or_from_slice_get (names_with_basic ds) n.0 r.name [] n.2)

-- a class inherits from the class that its definition names
inherits : (ds : List ClassDef) (r : Option TypeRef) → IsParentKnown (names_with_basic ds) r → InheritsAs (classes_meant ds) r (Some (parent_meant (names_with_basic ds) r))
inherits ds None known = refl
inherits ds (Some r) known = inherits_by ds r (first_named 0 (names_with_basic ds) r.name) refl known

-- each class is defined by its definition
defined_by : (all ds : List ClassDef) → AllByRecursion (λ (d : ClassDef). IsParentKnown (names_with_basic all) d.parent) ds
    → AreDefinedBy (classes_meant all) ds (map (class_meant (names_with_basic all)) ds)
defined_by all [] known = tt
defined_by all (d ∷ ds) known = ((refl, refl, inherits all d.parent known.0), defined_by all ds known.1)

-- the entries are the table of their definitions
pub table_by : (ds : List ClassDef) (os : List (Option ℕ)) → AreSettled ds os → IsTableOf ds (classes (entries_of ds os))
table_by ds os settled =
    let seen : classes_meant ds ≡ classes (entries_of ds os) = sym (all_seen ds os (depths_long ds os settled)) in
    subst (IsTableOf ds) seen (defined_by ds ds settled.parents)

-- features and names stand in the files of the definitions
pub placed_by : (n : ℕ) (ds : List ClassDef) (os : List (Option ℕ)) → AreSettled ds os → AreClassesWithin n ds → ArePlaced n (entries_of ds os) (map (λ (d : ClassDef). d.at) ds)
placed_by n ds os settled all =
    let seen : classes_meant ds ≡ classes (entries_of ds os) = sym (all_seen ds os (depths_long ds os settled)) in (
      subst (λ (p : List Class). (c : ClassId) → c.0 < length p → AllByRecursion (IsFeatureWithin n) (features_of p c)) seen
          (each_class (λ (c : Class). AllByRecursion (IsFeatureWithin n) c.features) ds (tt, (tt, (tt, (tt, (tt, tt)))))
          (all_then (IsClassWithin n) (λ (d : ClassDef). AllByRecursion (IsFeatureWithin n) d.features) ds (λ d h. h.3) all)),
      all_map (IsPlaced n) (λ (d : ClassDef). d.at) ds (all_then (IsClassWithin n) (λ (d : ClassDef). IsPlaced n d.at) ds (λ d h. h.0) all),
    )

-- there is an entry for each definition
pub entries_long : (ds : List ClassDef) (os : List (Option ℕ)) → AreSettled ds os → length ds + 5 ≡ length (entries_of ds os)
entries_long ds os settled =
    let seen = ap (λ (p : List Class). length p) (all_seen ds os (depths_long ds os settled)) in
    let many : length (classes (entries_of ds os)) ≡ length (entries_of ds os) = length-map (entries_of ds os) as_class in
    let long = classes_long ds in
    omega arith

-- classes that are settled and whose features are good are a whole table
pub whole_by : (es : List Entry) → AreResolved es → AreGood (classes es) → AreWhole es
whole_by es resolved good = record {
  table = record {
    basic = resolved.basic;
    chains = chain_there (classes es) (depth_at es) resolved.grounded;
    names = resolved.names;
    no_self_type = resolved.no_self_type;
    types = good.types;
    few = let most = resolved.few in omega arith;
    few_features = resolved.few_features;
  };
  grounded = resolved.grounded;
}
