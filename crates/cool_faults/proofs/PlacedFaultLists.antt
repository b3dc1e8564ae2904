-- The errors of classes, features and typing have valid source locations (a file among those given, and a line within the limit) if the class definitions
-- have only such locations.
use Rattle.std.proofs.Common.{◌≡◌, ℕ, zero, suc, ◌<◌, List, [], ◌∷◌, ◌++◌, map, length, get_or, Option, Some, subst, arith}
use Rattle.std.specs.Prelude.{Ok, Err, IfErr, IfSome, slice_get}
use Rattle.std.specs.List.{AllByRecursion}
use Rattle.cool_syntax.specs.declared.file_tree.ClassDef.{ClassDef}
use Rattle.cool_syntax.specs.declared.file_tree.Feature.{Feature}
use Rattle.cool_syntax.specs.declared.place.Place.{Place}
use Rattle.cool_syntax.specs.declared.type_ref.TypeRef.{TypeRef}
use Rattle.cool_syntax.specs.TokenFacts.{IsPlaced}
use Rattle.cool_syntax.specs.TreesWithinLimits.{AreClassesWithin, IsClassWithin, IsFeatureWithin, IsTypeWithin}
use Rattle.cool_classes.specs.declared.class_id.ClassId.{ClassId}
use Rattle.cool_classes.specs.declared.fault.ClassFault.{ClassFault}
use Rattle.cool_classes.specs.declared.fault.ClassKind.{ClassKind}
use Rattle.cool_classes.specs.Chains.{Class, class_number, features_of, nothing}
use Rattle.cool_classes.specs.ClassFaults.{class_meant, classes_meant, feature_phase, features_from, places, HasClassPhase}
use Rattle.cool_classes.specs.ClassRows.{IsClassFault, twice, named_self_type, parent_self_type, no_parent, barred_parent, cycle, no_main, too_many}
use Rattle.cool_classes.specs.ClimbedChains.{above}
use Rattle.cool_classes.specs.FeatureFaults as faults
use Rattle.cool_classes.specs.Settled.{names_with_basic}
use Rattle.cool_classes.proofs.FaultPlaces.{class_places}
use Rattle.cool_classes.proofs.RowsExact.{phase_rows}
use Rattle.cool_check.specs.declared.fault.TypeFault.{TypeFault}
use Rattle.cool_check.specs.Faults.{AreWithin}
use Rattle.cool_check.specs.FirstFaults.{Checked}
use Rattle.cool_check.specs.TypingFaults.{classes_faults, fault_of, feature_checked, features_faults, typing_faults}
use Rattle.cool_faults.proofs.FaultsInPlace.{feature_placed}
use Rattle.cool_faults.proofs.PlacesOfTrees.{feature_within_at}
use Rattle.lists.proofs.AllItems.{all_append, all_get}

-- Classes and features

module _ (n : ℕ) where
  Stands : ClassFault → Type 0
  Stands f = IsPlaced n f.at

  class_placed : (ds : List ClassDef) → 0 < n → AreClassesWithin n ds → (kind : ClassKind) (at : Place) → IsClassFault ds kind at → IsPlaced n at
  class_placed ds some within kind at row = by kind at row
    where
      name : (k : ℕ) (d : ClassDef) → slice_get ds k ≡ Some d → IsPlaced n d.at
      name k d at = (all_get (IsClassWithin n) ds k d within at).0

      parent : (k : ℕ) (d : ClassDef) (r : TypeRef) → slice_get ds k ≡ Some d → d.parent ≡ Some r → IsPlaced n r.at
      parent k d r at is = (subst (λ (o : Option TypeRef). IfSome o (IsTypeWithin n)) is (all_get (IsClassWithin n) ds k d within at).2).1

      by : (kind : ClassKind) (at : Place) → IsClassFault ds kind at → IsPlaced n at
      by kind at (twice k d there other before) = name k d there
      by kind at (named_self_type k d there same) = name k d there
      by kind at (parent_self_type k r (d, there, is) same) = parent k d r there is
      by kind at (no_parent k r (d, there, is) other unnamed) = parent k d r there is
      by kind at (barred_parent k r (d, there, is) barred) = parent k d r there is
      by kind at (cycle k d there on) = name k d there
      by kind at (no_main unnamed) = (some, omega arith)
      by kind at (too_many d there) = name _ d there

  all_rows : (P : ClassKind → Place → Type 0) → ((kind : ClassKind) (at : Place) → P kind at → IsPlaced n at) → (fs : List ClassFault) → AllByRecursion (λ (f : ClassFault). P f.kind f.at) fs
      → AllByRecursion (λ (f : ClassFault). IsPlaced n f.at) fs
  all_rows P more [] h = tt
  all_rows P more (f ∷ fs) h = (more f.kind f.at h.0, all_rows P more fs h.1)

  -- the faults of classes
  pub phase_placed : (ds : List ClassDef) → 0 < n → AreClassesWithin n ds → (fs : List ClassFault) → HasClassPhase ds fs → AllByRecursion (λ (f : ClassFault). IsPlaced n f.at) fs
  phase_placed ds some within fs phase = all_rows (IsClassFault ds) (class_placed ds some within) fs (phase_rows ds fs phase).only

  features_within : (p : List Class) → AllByRecursion (λ (c : Class). AllByRecursion (IsFeatureWithin n) c.features) p → (k : ℕ) → AllByRecursion (IsFeatureWithin n) (get_or p k nothing).features
  features_within [] h k = tt
  features_within (c ∷ p) h zero = h.0
  features_within (c ∷ p) h (suc k) = features_within p h.1 k

  meant_within : (names : List (List ℕ)) (ds : List ClassDef) → AreClassesWithin n ds → AllByRecursion (λ (c : Class). AllByRecursion (IsFeatureWithin n) c.features) (map (class_meant names) ds)
  meant_within names [] h = tt
  meant_within names (d ∷ ds) h = (h.0.3, meant_within names ds h.1)

  classes_within : (ds : List ClassDef) → AreClassesWithin n ds → AllByRecursion (λ (c : Class). AllByRecursion (IsFeatureWithin n) c.features) (classes_meant ds)
  classes_within ds h = (tt, (tt, (tt, (tt, (tt, meant_within (names_with_basic ds) ds h)))))

  names_placed : (ds : List ClassDef) → AreClassesWithin n ds → AllByRecursion (IsPlaced n) (places ds)
  names_placed [] h = tt
  names_placed (d ∷ ds) h = (h.0.0, names_placed ds h.1)

  from_placed : (p : List Class) → ((k : ℕ) → AllByRecursion (IsFeatureWithin n) (features_of p (class_number k))) → (k : ℕ) (stand : List Place) → AllByRecursion (IsPlaced n) stand
      → AllByRecursion (λ (f : ClassFault). IsPlaced n f.at) (features_from p k stand)
  from_placed p within k [] h = tt
  from_placed p within k (at ∷ stand) h =
      all_append (λ (f : ClassFault). IsPlaced n f.at) (faults.class_faults p (class_number k) (above p (class_number k)) at) (features_from p (suc k) stand)
      (class_places n p (class_number k) (above p (class_number k)) at (within k) h.0) (from_placed p within (suc k) stand h.1)

  -- the faults of features
  pub features_placed : (ds : List ClassDef) → AreClassesWithin n ds → AllByRecursion (λ (f : ClassFault). IsPlaced n f.at) (feature_phase ds)
  features_placed ds h = from_placed (classes_meant ds) (features_within (classes_meant ds) (classes_within ds h)) 5 (places ds) (names_placed ds h)

  -- Typing: each fault stands at a place of its feature

  fault_placed : (r : Checked (Unit {0})) → IfErr r (λ (f : TypeFault). IsPlaced n f.at) → AllByRecursion (λ (f : TypeFault). IsPlaced n f.at) (fault_of r)
  fault_placed (Ok u) h = tt
  fault_placed (Err f) h = (h, tt)

  checks_placed : (p : List Class) (c : ClassId) (fs : List Feature) → AllByRecursion (IsFeatureWithin n) fs → AllByRecursion (λ (f : TypeFault). IsPlaced n f.at) (features_faults p c fs)
  checks_placed p c [] h = tt
  checks_placed p c (x ∷ fs) h =
      all_append (λ (f : TypeFault). IsPlaced n f.at) (fault_of (feature_checked p c x)) (features_faults p c fs) (fault_placed (feature_checked p c x) (feature_placed (IsPlaced n) p c x (feature_within_at n x h.0))) (checks_placed p c fs h.1)

  tables_placed : (p : List Class) (k : ℕ) (cs : List Class) → ((i : ℕ) → i < length cs → AllByRecursion (IsFeatureWithin n) (get_or cs i nothing).features)
      → AllByRecursion (λ (f : TypeFault). IsPlaced n f.at) (classes_faults p k cs)
  tables_placed p k [] h = tt
  tables_placed p k (x ∷ cs) h =
      all_append (λ (f : TypeFault). IsPlaced n f.at) (features_faults p (class_number k) x.features) (classes_faults p (suc k) cs) (checks_placed p (class_number k) x.features (h zero (omega arith)))
      (tables_placed p (suc k) cs (λ i less. h (suc i) (omega arith)))

  -- the faults of typing
  pub typing_placed : (p : List Class) → AreWithin n p → AllByRecursion (λ (f : TypeFault). IsPlaced n f.at) (typing_faults p)
  typing_placed p h = tables_placed p 0 p (λ i less. h (class_number i) less)
