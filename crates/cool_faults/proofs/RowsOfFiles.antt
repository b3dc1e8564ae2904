-- The errors of classes and features in the error list of files are exactly those that the rules of `cool_classes` define, which have one case for each
-- kind of error.
use Rattle.std.proofs.Common.{◌≡◌, ◌≢◌, inl, inr, ℕ, suc, List, [], ◌∷◌, map, Contains, ap, refl, subst, arith}
use Rattle.std.specs.List.{AllByRecursion}
use Rattle.std.specs.List.Sorted.{IsPermutation}
use Rattle.std.proofs.lemmas.List.Sorted.{Contains-permutation, IsPermutation-sym, length_permutation}
use Rattle.cool_syntax.specs.declared.file_tree.ClassDef.{ClassDef}
use Rattle.cool_syntax.specs.declared.file_tree.FileTree.{FileTree}
use Rattle.cool_syntax.specs.declared.place.Place.{Place}
use Rattle.cool_classes.specs.declared.fault.ClassFault.{ClassFault}
use Rattle.cool_classes.specs.declared.fault.ClassKind.{ClassKind}
use Rattle.cool_classes.specs.ClassFaults.{classes_meant, feature_phase, HasClassPhase}
use Rattle.cool_classes.specs.ClassRows.{IsClassFault, IsTableFault}
use Rattle.cool_classes.specs.Definitions.{definitions}
use Rattle.cool_classes.proofs.RowsExact.{phase_rows, table_rows}
use Rattle.cool_check.specs.declared.fault.TypeFault.{TypeFault}
use Rattle.cool_check.specs.TypingFaults.{typing_faults}
use Rattle.cool_faults.specs.declared.fault.Fault.{Fault}
use Rattle.cool_faults.specs.declared.fault.Fault.TheVariants.{Lex, Syntax, Class as OfClasses, Typing}
use Rattle.cool_faults.specs.Laws.{AreOfRows}
use Rattle.cool_faults.specs.Verdicts.{AreTrees, IsPhase, of_lexer, of_parser, of_classes, of_features, of_typing, IsFaultList, faultless, faulty}
use Rattle.cool_faults.proofs.AcceptedFiles.{no_rows}
use Rattle.cool_faults.proofs.OneVerdict.{one_trees, no_lexical, no_syntactic}
use Rattle.lists.proofs.Membership.{first_there, contains_cases}
use Rattle.cool_faults.proofs.FaultlessTables.{NoRow}

-- a list has what its rest has
has_rest : {X : Type 0} (x y : X) (xs : List X) → Contains xs y → Contains (x ∷ xs) y
has_rest x y xs (i, less, e) = (suc i, omega arith, e)

pub has_nothing : {X : Type 0} (x : X) → Contains [] x → ⊥
has_nothing x (i, less, e) = omega arith

-- the fault of classes or features that a fault of files is, where it is one
as_class : ClassFault → Fault → ClassFault
as_class other (Lex f) = other
as_class other (Syntax f) = other
as_class other (OfClasses f) = f
as_class other (Typing f) = other

same_class : (f g : ClassFault) → OfClasses f ≡ OfClasses g → f ≡ g
unfolding as_class
same_class f g e = ap (as_class f) e

-- a fault of a list, as a fault of files
has_mapped : (fs : List ClassFault) (f : ClassFault) → Contains fs f → Contains (map OfClasses fs) (OfClasses f)
has_mapped [] f there = absurd (has_nothing f there)
has_mapped (g ∷ fs) f there =
    elim (contains_cases g f fs there) [
      | inl e ↦ subst (λ (h : ClassFault). Contains (map OfClasses (g ∷ fs)) (OfClasses h)) e (first_there (OfClasses g) (map OfClasses fs))
      | inr rest ↦ has_rest (OfClasses g) (OfClasses f) (map OfClasses fs) (has_mapped fs f rest)
    ]

-- a property of all faults of a list holds of each of them as a fault of files
holds_mapped : (P : ClassFault → Type 0) (fs : List ClassFault) (f : ClassFault) → AllByRecursion P fs → Contains (map OfClasses fs) (OfClasses f) → P f
holds_mapped P [] f all there = absurd (has_nothing (OfClasses f) there)
holds_mapped P (g ∷ fs) f all there =
    elim (contains_cases (OfClasses g) (OfClasses f) (map OfClasses fs) there) [
      | inl e ↦ subst P (same_class g f e) all.0
      | inr rest ↦ holds_mapped P fs f all.1 rest
    ]

-- a fault of typing is none of classes
is_typing : Fault → ℕ
is_typing (Lex f) = 0
is_typing (Syntax f) = 0
is_typing (OfClasses f) = 0
is_typing (Typing f) = 1

no_class_fault : (f : TypeFault) (g : ClassFault) → Typing f ≡ OfClasses g → ⊥
unfolding is_typing
no_class_fault f g e =
    let one : 1 ≡ 0 = ap is_typing e in
    omega (arith, one)

no_class_among : (fs : List TypeFault) (g : ClassFault) → Contains (map Typing fs) (OfClasses g) → ⊥
no_class_among [] g there = has_nothing (OfClasses g) there
no_class_among (f ∷ fs) g there =
    elim (contains_cases (Typing f) (OfClasses g) (map Typing fs) there) [
      | inl e ↦ no_class_fault f g e
      | inr rest ↦ no_class_among fs g rest
    ]

-- a fault of classes and features
fault : ClassKind → Place → ClassFault
fault kind at = record { kind = kind; at = at }

-- if no definition and no feature has a fault, no row holds
no_class_row : (ds : List ClassDef) → HasClassPhase ds [] → NoRow ds
unfolding fault
no_class_row ds phase kind at row = has_nothing (fault kind at) ((phase_rows ds [] phase).all kind at row)

no_table_row : (ds : List ClassDef) → feature_phase ds ≡ [] → (kind : ClassKind) (at : Place) → IsTableFault ds kind at → ⊥
unfolding fault
no_table_row ds none kind at row =
    has_nothing (fault kind at) (subst (λ (fs : List ClassFault). Contains fs (fault kind at)) none ((table_rows ds).all kind at row))

-- a list in another order than one without a fault is none
nothing_moved : (fs : List ClassFault) (faults : List Fault) → fs ≡ [] → IsPermutation (map OfClasses fs) faults → faults ≡ []
nothing_moved fs [] none moved = refl
nothing_moved fs (x ∷ xs) none moved =
    let long = length_permutation [] (x ∷ xs) (subst (λ (gs : List ClassFault). IsPermutation (map OfClasses gs) (x ∷ xs)) none moved) in
    absurd (omega arith)

-- the members of a permutation
moved_in : (fs : List ClassFault) (faults : List Fault) (f : ClassFault) → IsPermutation (map OfClasses fs) faults → Contains fs f → Contains faults (OfClasses f)
moved_in fs faults f moved there = Contains-permutation (map OfClasses fs) faults (OfClasses f) moved (has_mapped fs f there)

moved_out : (P : ClassFault → Type 0) (fs : List ClassFault) (faults : List Fault) (f : ClassFault) → IsPermutation (map OfClasses fs) faults → AllByRecursion P fs → Contains faults (OfClasses f) → P f
moved_out P fs faults f moved all there =
    holds_mapped P fs f all (Contains-permutation faults (map OfClasses fs) (OfClasses f) (IsPermutation-sym (map OfClasses fs) faults moved) there)

-- the rows of definitions without a fault, in a list without a fault of theirs
without_rows : (ds : List ClassDef) (faults : List Fault) → HasClassPhase ds [] → feature_phase ds ≡ [] → ((f : ClassFault) → Contains faults (OfClasses f) → ⊥) → AreOfRows ds faults
without_rows ds faults phase none nothing = record {
  only = λ f there. absurd (nothing f there);
  classes = λ kind at row. absurd (no_class_row ds phase kind at row);
  features = λ clear kind at row. absurd (no_table_row ds none kind at row);
}

-- the faults of definitions with a fault
with_class_rows : (ds : List ClassDef) (fs : List ClassFault) (faults : List Fault) → faults ≢ [] → HasClassPhase ds fs → IsPermutation (map OfClasses fs) faults → AreOfRows ds faults
with_class_rows ds fs faults some phase moved =
    let rows = phase_rows ds fs phase in
    record {
      only = λ f there. inl (moved_out (λ (g : ClassFault). IsClassFault ds g.kind g.at) fs faults f moved rows.only there);
      classes = λ kind at row. moved_in fs faults (record { kind = kind; at = at }) moved (rows.all kind at row);
      features = λ clear kind at row. absurd (some (nothing_moved fs faults (no_rows (IsClassFault ds) fs rows clear) moved));
    }

-- and those of definitions whose features have a fault
with_table_rows : (ds : List ClassDef) (faults : List Fault) → HasClassPhase ds [] → IsPermutation (map OfClasses (feature_phase ds)) faults → AreOfRows ds faults
with_table_rows ds faults phase moved = record {
  only = λ f there. inr (moved_out (λ (g : ClassFault). IsTableFault ds g.kind g.at) (feature_phase ds) faults f moved (table_rows ds).only there);
  classes = λ kind at row. absurd (no_class_row ds phase kind at row);
  features = λ clear kind at row. moved_in (feature_phase ds) faults (record { kind = kind; at = at }) moved ((table_rows ds).all kind at row);
}

-- the rows of other trees that are these
of_same : (ts us : List FileTree) (faults : List Fault) → us ≡ ts → AreOfRows (definitions us) faults → AreOfRows (definitions ts) faults
of_same ts us faults same rows = subst (λ (vs : List FileTree). AreOfRows (definitions vs) faults) same rows

-- the faults of a phase
phase_has_rows : (files : List (List ℕ)) (ts : List FileTree) (faults : List Fault) → AreTrees 0 files ts → faults ≢ [] → IsPhase files faults → AreOfRows (definitions ts) faults
phase_has_rows files ts faults trees some (of_lexer h) = absurd (some (no_lexical 0 files ts faults trees h))
phase_has_rows files ts faults trees some (of_parser h) = absurd (some (no_syntactic 0 files ts faults trees h))
phase_has_rows files ts faults trees some (of_classes us fs others phase moved) =
    of_same ts us faults (one_trees 0 files us ts others trees) (with_class_rows (definitions us) fs faults some phase moved)
phase_has_rows files ts faults trees some (of_features us others phase moved) =
    of_same ts us faults (one_trees 0 files us ts others trees) (with_table_rows (definitions us) faults phase moved)
phase_has_rows files ts faults trees some (of_typing us others phase features moved) =
    let typed : List TypeFault = typing_faults (classes_meant (definitions us)) in
    of_same ts us faults (one_trees 0 files us ts others trees)
    (without_rows (definitions us) faults phase features
    (λ f there. no_class_among typed f (Contains-permutation faults (map Typing typed) (OfClasses f) (IsPermutation-sym (map Typing typed) faults moved) there)))

-- and so of the fault list
pub list_has_rows : (files : List (List ℕ)) (ts : List FileTree) (faults : List Fault) → AreTrees 0 files ts → IsFaultList files faults → AreOfRows (definitions ts) faults
list_has_rows files ts faults trees (faultless a) =
    of_same ts a.trees [] (one_trees 0 files a.trees ts a.are_trees trees) (without_rows (definitions a.trees) [] a.classes a.features (λ f there. has_nothing (OfClasses f) there))
list_has_rows files ts faults trees (faulty fs some phase order) = phase_has_rows files ts fs trees some phase
