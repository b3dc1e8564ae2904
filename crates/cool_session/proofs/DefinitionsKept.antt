-- If two lists of class definitions have the same class names, parents and declarations of features, and neither the class phase nor the feature phase finds an
-- error in one list, neither finds one in the other. The classes of both lists have the same signatures.
use Rattle.std.proofs.Common.{◌≡◌, ℕ, zero, suc, List, [], ◌∷◌, ◌++◌, map, length, drop, Option, Some, None, refl, sym, ap, ◌∙◌, subst}
use Rattle.std.specs.Prelude.{codes, is_some, option_map}
use Rattle.std.proofs.lemmas.List.{length-map}
use Rattle.cool_syntax.specs.declared.place.Place.{Place}
use Rattle.cool_syntax.specs.declared.type_ref.TypeRef.{TypeRef}
use Rattle.cool_syntax.specs.declared.file_tree.ClassDef.{ClassDef}
use Rattle.cool_syntax.specs.declared.file_tree.Feature.{Feature}
use Rattle.cool_syntax.specs.declared.file_tree.Feature.TheVariants.{Method, Attribute}
use Rattle.cool_classes.specs.declared.TheConstants.{MOST_CLASSES}
use Rattle.cool_classes.specs.declared.class_id.ClassId.{ClassId}
use Rattle.cool_classes.specs.declared.fault.ClassKind.{ClassKind}
use Rattle.cool_classes.specs.ClassFaults.{of_kind, name_kind, names_faults, parent_kind, parent_faults, parents_faults, main_faults, first_fault, places, cycle_faults, class_meant, classes_meant, class_phase, feature_phase, HasClassPhase}
use Rattle.cool_classes.specs.Cycles.{AreCycles}
use Rattle.cool_classes.specs.Declarations.{DeclareSame, AllDeclareSame, AreAllAlike}
use Rattle.cool_classes.specs.Names.{first_named}
use Rattle.cool_classes.specs.Settled.{basic_names, names_in, names_with_basic, parent_meant, parents_meant, or_object}
use Rattle.cool_session.specs.Signatures.{OfMethod, OfAttribute, feature_signature, parent_name, class_signature, signatures}
use Rattle.cool_session.proofs.AlikeFaults.{Keeps, keeps_both, keeps_from}
use Rattle.cool_classes.proofs.LawfulByFaults.{no_kind}

-- the name of the parent, where one is named
abbrev parent_names : Option TypeRef → Option (List ℕ)
parent_names = option_map (λ (r : TypeRef). r.name)

-- definitions of one name that name the same parent and whose features declare the same
abbrev pub DefineSame : ClassDef → ClassDef → Type 0
DefineSame d d' =
    (d'.name ≡ d.name) × (option_map (λ (r : TypeRef). r.name) d'.parent ≡ option_map (λ (r : TypeRef). r.name) d.parent)
    × AllDeclareSame d.features d'.features

abbrev pub AllDefineSame : List ClassDef → List ClassDef → Type 0
AllDefineSame [] [] = Unit {0}
AllDefineSame [] (d' ∷ ds') = ⊥
AllDefineSame (d ∷ ds) [] = ⊥
AllDefineSame (d ∷ ds) (d' ∷ ds') = DefineSame d d' × AllDefineSame ds ds'

-- Names and parents

names_same : (ds ds' : List ClassDef) → AllDefineSame ds ds' → names_in ds' ≡ names_in ds
names_same [] [] h = refl
names_same [] (d' ∷ ds') h = absurd h
names_same (d ∷ ds) [] h = absurd h
names_same (d ∷ ds) (d' ∷ ds') (h, hs) = λ i. h.0 i ∷ names_same ds ds' hs i

-- the class that the name of a parent means
class_named : List (List ℕ) → Option (List ℕ) → ClassId
class_named names None = record { 0 = 0 }
class_named names (Some name) = or_object (first_named 0 names name)

meant_named : (names : List (List ℕ)) (o : Option TypeRef) → parent_meant names o ≡ class_named names (parent_names o)
unfolding class_named
meant_named names None = refl
meant_named names (Some r) = refl

meant_same : (names names' : List (List ℕ)) (o o' : Option TypeRef) → names' ≡ names → parent_names o' ≡ parent_names o
    → parent_meant names' o' ≡ parent_meant names o
meant_same names names' o o' named same =
    meant_named names' o' ∙ ((λ i. class_named (named i) (same i)) ∙ sym (meant_named names o))

parents_same : (names names' : List (List ℕ)) (ds ds' : List ClassDef) → names' ≡ names → AllDefineSame ds ds'
    → parents_meant names' ds' ≡ parents_meant names ds
parents_same names names' [] [] named h = refl
parents_same names names' [] (d' ∷ ds') named h = absurd h
parents_same names names' (d ∷ ds) [] named h = absurd h
parents_same names names' (d ∷ ds) (d' ∷ ds') named (h, hs) =
    λ i. meant_same names names' d.parent d'.parent named h.1 i ∷ parents_same names names' ds ds' named hs i

as_many : (ds ds' : List ClassDef) → AllDefineSame ds ds' → length ds' ≡ length ds
as_many [] [] h = refl
as_many [] (d' ∷ ds') h = absurd h
as_many (d ∷ ds) [] h = absurd h
as_many (d ∷ ds) (d' ∷ ds') h = ap suc (as_many ds ds' h.1)

-- Classes

meant_alike : (names names' : List (List ℕ)) (ds ds' : List ClassDef) → names' ≡ names → AllDefineSame ds ds'
    → AreAllAlike (map (class_meant names) ds) (map (class_meant names') ds')
meant_alike names names' [] [] named h = tt
meant_alike names names' [] (d' ∷ ds') named h = absurd h
meant_alike names names' (d ∷ ds) [] named h = absurd h
meant_alike names names' (d ∷ ds) (d' ∷ ds') named (h, hs) =
    ((h.0, (λ i. Some (meant_same names names' d.parent d'.parent named h.1 i)), h.2), meant_alike names names' ds ds' named hs)

-- Signatures

pub feature_same : (x x' : Feature) → DeclareSame x x' → feature_signature x' ≡ feature_signature x
feature_same (Method m) (Method m') h = λ i. OfMethod (h.0 i) (h.1 i) (h.2 i)
feature_same (Method m) (Attribute a) h = absurd h
feature_same (Attribute a) (Method m) h = absurd h
feature_same (Attribute a) (Attribute a') h = λ i. OfAttribute (h.0 i) (h.1 i)

pub features_same : (xs xs' : List Feature) → AllDeclareSame xs xs' → map feature_signature xs' ≡ map feature_signature xs
features_same [] [] h = refl
features_same [] (x' ∷ xs') h = absurd h
features_same (x ∷ xs) [] h = absurd h
features_same (x ∷ xs) (x' ∷ xs') (h, hs) = λ i. feature_same x x' h i ∷ features_same xs xs' hs i

-- a name, or that of Object
or_object_name : Option (List ℕ) → List ℕ
or_object_name None = codes "Object"
or_object_name (Some name) = name

parent_named : (o : Option TypeRef) → parent_name o ≡ or_object_name (parent_names o)
unfolding or_object_name
parent_named None = refl
parent_named (Some r) = refl

class_same : (d d' : ClassDef) → DefineSame d d' → class_signature d' ≡ class_signature d
class_same d d' h =
    let parent : parent_name d'.parent ≡ parent_name d.parent =
    parent_named d'.parent ∙ (ap or_object_name h.1 ∙ sym (parent_named d.parent)) in
    λ i. record { name = h.0 i; parent = parent i; features = features_same d.features d'.features h.2 i }

all_same : (ds ds' : List ClassDef) → AllDefineSame ds ds' → signatures ds' ≡ signatures ds
all_same [] [] h = refl
all_same [] (d' ∷ ds') h = absurd h
all_same (d ∷ ds) [] h = absurd h
all_same (d ∷ ds) (d' ∷ ds') (h, hs) = λ i. class_same d d' h i ∷ all_same ds ds' hs i

-- Faults of classes

-- a kind that is the same is none at the one place where it is none at the other
keeps_kind : (o o' : Option ClassKind) (at at' : Place) → o' ≡ o → Keeps (of_kind o at) (of_kind o' at')
keeps_kind o o' at at' same none = ap (λ (k : Option ClassKind). of_kind k at') (same ∙ no_kind o at none)

keeps_names : (before before' : List (List ℕ)) (ds ds' : List ClassDef) → before' ≡ before → AllDefineSame ds ds'
    → Keeps (names_faults before ds) (names_faults before' ds')
keeps_names before before' [] [] row h = λ none. refl
keeps_names before before' [] (d' ∷ ds') row h = absurd h
keeps_names before before' (d ∷ ds) [] row h = absurd h
keeps_names before before' (d ∷ ds) (d' ∷ ds') row (h, hs) =
    keeps_both _ (names_faults (before ++ d.name ∷ []) ds) _ (names_faults (before' ++ d'.name ∷ []) ds')
    (keeps_kind (name_kind d.name (is_some (first_named 0 before d.name))) _ d.at d'.at
    (λ i. name_kind (h.0 i) (is_some (first_named 0 (row i) (h.0 i)))))
    (keeps_names (before ++ d.name ∷ []) (before' ++ d'.name ∷ []) ds ds' (λ i. row i ++ h.0 i ∷ []) hs)

keeps_parent : (names names' : List (List ℕ)) (o o' : Option TypeRef) → names' ≡ names → parent_names o' ≡ parent_names o
    → Keeps (parent_faults names o) (parent_faults names' o')
keeps_parent names names' o None named same = λ none. refl
keeps_parent names names' None (Some r') named same = absurd cc
keeps_parent names names' (Some r) (Some r') named same =
    let name : r'.name ≡ r.name = cc in
    keeps_kind (parent_kind r.name (first_named 0 names r.name)) (parent_kind r'.name (first_named 0 names' r'.name)) r.at r'.at
    (λ i. parent_kind (name i) (first_named 0 (named i) (name i)))

keeps_parents : (names names' : List (List ℕ)) (ds ds' : List ClassDef) → names' ≡ names → AllDefineSame ds ds'
    → Keeps (parents_faults names ds) (parents_faults names' ds')
keeps_parents names names' [] [] named h = λ none. refl
keeps_parents names names' [] (d' ∷ ds') named h = absurd h
keeps_parents names names' (d ∷ ds) [] named h = absurd h
keeps_parents names names' (d ∷ ds) (d' ∷ ds') named (h, hs) =
    keeps_both (parent_faults names d.parent) (parents_faults names ds) (parent_faults names' d'.parent) (parents_faults names' ds')
    (keeps_parent names names' d.parent d'.parent named h.1) (keeps_parents names names' ds ds' named hs)

keeps_cycles : (ds ds' : List ClassDef) (cyclic : List ℕ) → Keeps (cycle_faults ds cyclic) (cycle_faults ds' cyclic)
keeps_cycles ds ds' [] none = refl
keeps_cycles ds ds' (k ∷ ks) none = absurd cc

keeps_number : (n : ℕ) (ds ds' : List ClassDef) → AllDefineSame ds ds' → Keeps (first_fault (drop n ds)) (first_fault (drop n ds'))
keeps_number zero [] [] h none = refl
keeps_number zero [] (d' ∷ ds') h none = absurd h
keeps_number zero (d ∷ ds) ds' h none = absurd cc
keeps_number (suc n) [] [] h none = refl
keeps_number (suc n) [] (d' ∷ ds') h none = absurd h
keeps_number (suc n) (d ∷ ds) [] h none = absurd h
keeps_number (suc n) (d ∷ ds) (d' ∷ ds') h none = keeps_number n ds ds' h.1 none

module _ (ds ds' : List ClassDef) (same : AllDefineSame ds ds') where
  named : names_with_basic ds' ≡ names_with_basic ds
  named = λ i. basic_names ++ names_same ds ds' same i

  main_same : main_faults (names_with_basic ds') ≡ main_faults (names_with_basic ds)
  main_same = λ i. main_faults (named i)

  keeps_phase : (cyclic : List ℕ) → Keeps (class_phase ds cyclic) (class_phase ds' cyclic)
  keeps_phase cyclic =
      keeps_both (names_faults basic_names ds) _ (names_faults basic_names ds') _ (keeps_names basic_names basic_names ds ds' refl same)
      (keeps_both (parents_faults (names_with_basic ds) ds) _ (parents_faults (names_with_basic ds') ds') _
      (keeps_parents (names_with_basic ds) (names_with_basic ds') ds ds' named same)
      (keeps_both (cycle_faults ds cyclic) _ (cycle_faults ds' cyclic) _ (keeps_cycles ds ds' cyclic)
      (keeps_both (main_faults (names_with_basic ds)) _ (main_faults (names_with_basic ds')) _ (λ none. main_same ∙ none)
      (keeps_number MOST_CLASSES ds ds' same))))

  pub classes_kept : HasClassPhase ds [] → HasClassPhase ds' []
  classes_kept (cyclic, on, is) = (
    cyclic,
    subst (λ (parents : List ClassId). AreCycles parents cyclic)
        (sym (parents_same (names_with_basic ds) (names_with_basic ds') ds ds' named same)) on,
    sym (keeps_phase cyclic (sym is)),
  )

  pub alike_kept : AreAllAlike (classes_meant ds) (classes_meant ds')
  alike_kept =
      let rest = meant_alike (names_with_basic ds) (names_with_basic ds') ds ds' named same in
      ((refl, refl, tt), ((refl, refl, tt), ((refl, refl, tt), ((refl, refl, tt), ((refl, refl, tt), rest)))))

  pub features_kept : feature_phase ds ≡ [] → feature_phase ds' ≡ []
  features_kept =
      let long : length (places ds') ≡ length (places ds) =
      length-map ds' (λ (d : ClassDef). d.at) ∙ (as_many ds ds' same ∙ sym (length-map ds (λ (d : ClassDef). d.at))) in
      keeps_from (classes_meant ds) (classes_meant ds') alike_kept 5 (places ds) (places ds') long

  pub signatures_kept : signatures ds' ≡ signatures ds
  signatures_kept = all_same ds ds' same
