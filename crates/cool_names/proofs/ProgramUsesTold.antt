-- The marks of a program (records of the occurrences of names) record the uses of names in its typed features, because the features of a class definition are
-- those of its class in the class table.
use Rattle.std.proofs.Common.{◌≡◌, ℕ, zero, suc, ◌+◌, ◌<◌, List, [], ◌∷◌, ◌++◌, length, drop, get_or, slice_get, Option, Some, None, sym, refl, subst, arith}
use native.Mathlib.Numerals.{add-one}
use Rattle.std.specs.List.{AllByRecursion}
use Rattle.cool_syntax.specs.declared.type_ref.TypeRef.{TypeRef}
use Rattle.cool_syntax.specs.declared.file_tree.ClassDef.{ClassDef}
use Rattle.cool_syntax.specs.declared.file_tree.Feature.{Feature}
use Rattle.cool_classes.specs.declared.class_id.ClassId.{ClassId}
use Rattle.cool_classes.specs.Chains.{Class, class_at, class_number, nothing}
use Rattle.cool_classes.specs.Definitions.{AreDefinedBy}
use Rattle.cool_classes.specs.LawfulTables.{HasDifferentFormals, IsLawful}
use Rattle.cool_classes.specs.Tables.{IsTyped, IsWholeTable}
use Rattle.cool_rules.specs.TypedTables.{IsTypedTable}
use Rattle.cool_rules.specs.Typing.{IsTypedFeature}
use Rattle.cool_names.specs.declared.mark.Mark.{Mark}
use Rattle.cool_names.specs.Programs.{class_context, class_marks, feature_marks, features_marks, marks_from, parent_marks}
use Rattle.cool_names.specs.ProgramUses.{AreProgramUsesTold, AreTypedClasses, AreTypedFeatures, IsTypedProgram, uses_of_classes, uses_of_features}
use Rattle.cool_names.specs.Uses.{AreTold, Use, uses_among, uses_of}
use Rattle.cool_names.proofs.UsesTold.{feature_told, join}

-- the class at a number of a table, and those after it
record StandsAt (p : List Class) (k : ℕ) (c : Class) (cs : List Class) : Type 0 where
  less : k < length p
  is : get_or p k nothing ≡ c
  after : drop (suc k) p ≡ cs

stands_at : (p : List Class) (k : ℕ) (c : Class) (cs : List Class) → drop k p ≡ c ∷ cs → StandsAt p k c cs
stands_at [] zero c cs e = absurd (cc)
stands_at [] (suc k) c cs e = absurd (cc)
stands_at (d ∷ p) zero c cs e = record { less = omega arith; is = cc; after = cc }
stands_at (d ∷ p) (suc k) c cs e = let more = stands_at p k c cs e in let less : k < length p = more.less in record { less = omega (arith, less); is = more.is; after = more.after }

after_it : (p : List Class) (k : ℕ) (c : Class) (cs : List Class) → drop k p ≡ c ∷ cs → drop (k + 1) p ≡ cs
after_it p k c cs e = subst (λ (j : ℕ). drop j p ≡ cs) (sym (add-one k)) (stands_at p k c cs e).after

-- Typed tables

all_there : {X : Type 0} (P : X → Type 0) (xs : List X) → ((k : ℕ) (x : X) → slice_get xs k ≡ Some x → P x) → AllByRecursion P xs
all_there P [] f = tt
all_there P (x ∷ xs) f = (f 0 x refl, all_there P xs (λ k y is. f (suc k) y is))

classes_typed : (p : List Class) → IsTypedTable p → (k : ℕ) (cs : List Class) → drop k p ≡ cs → AreTypedClasses p k cs
classes_typed p typed k [] e = tt
classes_typed p typed k (c ∷ cs) e =
    let it = stands_at p k c cs e in (
      subst (λ (d : Class). AreTypedFeatures p (class_number k) d.features) it.is
          (all_there (IsTypedFeature p (class_number k)) (class_at p (class_number k)).features (λ j x there. typed.features (class_number k) j x it.less there)),
      classes_typed p typed (k + 1) cs (after_it p k c cs e),
    )

pub program_typed : (p : List Class) → IsTypedTable p → IsTypedProgram p
program_typed p typed = classes_typed p typed 5 (drop 5 p) refl

-- Uses

module _ (p : List Class) (whole : IsWholeTable p) (lawful : IsLawful p) (ds : List ClassDef) where
  features_told : (c : ClassId) → c.0 < length p → (xs : List Feature) → AllByRecursion (IsTyped p) xs → AllByRecursion HasDifferentFormals xs → (typed : AreTypedFeatures p c xs)
      → AreTold p (uses_among (features_marks (class_context p ds c) xs)) (uses_of_features p c xs typed)
  features_told c less [] types different typed = tt
  features_told c less (x ∷ xs) types different (first, more) =
      join p (feature_marks (class_context p ds c) x) (features_marks (class_context p ds c) xs) (uses_of p c x first) (uses_of_features p c xs more)
      (feature_told p whole lawful ds c less x types.0 different.0 first) (features_told c less xs types.1 different.1 more)

  -- the name of a parent is no use
  parent_told : (o : Option TypeRef) (ms : List Mark) → uses_among (parent_marks p ds o ++ ms) ≡ uses_among ms
  parent_told None ms = refl
  parent_told (Some r) ms = refl

  class_told : (k : ℕ) (d : ClassDef) (c : Class) → k < length p → get_or p k nothing ≡ c → c.features ≡ d.features → (typed : AreTypedFeatures p (class_number k) c.features)
      → AreTold p (uses_among (class_marks p ds k d)) (uses_of_features p (class_number k) c.features typed)
  class_told k d c less is same typed =
      subst (λ (ms : List Mark). AreTold p ms us) (sym (parent_told d.parent (features_marks (class_context p ds (class_number k)) d.features)))
      (subst (λ (xs : List Feature). AreTold p (uses_among (features_marks (class_context p ds (class_number k)) xs)) us) same
      (features_told (class_number k) less c.features (subst (λ (e : Class). AllByRecursion (IsTyped p) e.features) is (whole.table.types (class_number k) less))
      (subst (λ (e : Class). AllByRecursion HasDifferentFormals e.features) is (lawful.formals (class_number k) less)) typed))
    where
      us : List Use
      us = uses_of_features p (class_number k) c.features typed

  classes_told : (k : ℕ) (es : List ClassDef) (cs : List Class) → drop k p ≡ cs → AreDefinedBy p es cs → (typed : AreTypedClasses p k cs)
      → AreTold p (uses_among (marks_from p ds k es)) (uses_of_classes p k cs typed)
  classes_told k [] [] e defined typed = tt
  classes_told k [] (c ∷ cs) e defined typed = absurd defined
  classes_told k (d ∷ es) [] e defined typed = absurd defined
  classes_told k (d ∷ es) (c ∷ cs) e defined (first, more) =
      let it = stands_at p k c cs e in
      join p (class_marks p ds k d) (marks_from p ds (k + 1) es) (uses_of_features p (class_number k) c.features first) (uses_of_classes p (k + 1) cs more)
      (class_told k d c it.less it.is defined.0.1 first) (classes_told (k + 1) es cs (after_it p k c cs e) defined.1 more)

pub program_told : (p : List Class) → IsWholeTable p → IsLawful p → AreProgramUsesTold p
program_told p whole lawful ds of typed = classes_told p whole lawful ds 5 ds (drop 5 p) refl of typed
