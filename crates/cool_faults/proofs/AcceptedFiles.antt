-- Accepted source files have no compile-time errors: no phase of the front end finds one in them.
use Rattle.std.proofs.Common.{◌≡◌, ℕ, List, [], ◌∷◌, sym, refl, subst, arith}
use Rattle.cool_syntax.specs.declared.file_tree.ClassDef.{ClassDef}
use Rattle.cool_syntax.specs.declared.place.Place.{Place}
use Rattle.cool_classes.specs.declared.fault.ClassFault.{ClassFault}
use Rattle.cool_classes.specs.declared.fault.ClassKind.{ClassKind}
use Rattle.cool_classes.specs.declared.fault.ClassKind.TheVariants.{C5}
use Rattle.cool_classes.specs.Chains.{Class}
use Rattle.cool_classes.specs.ClassFaults.{AreOnCycles, class_phase, classes_meant, feature_phase, HasClassPhase}
use Rattle.cool_classes.specs.ClassRows.{IsClassFault, IsTableFault, cycle}
use Rattle.cool_classes.specs.Definitions.{definitions}
use Rattle.cool_classes.specs.FeatureRows.{AreRows}
use Rattle.cool_classes.specs.Settled.{names_with_basic}
use Rattle.cool_classes.proofs.ParentsOfDefinitions.{parents_long}
use Rattle.cool_classes.proofs.RowsExact.{phase_rows, table_rows}
use Rattle.cool_check.specs.TypingFaults.{typing_faults}
use Rattle.cool_check.proofs.AcceptedTables.{typed_exactly}
use Rattle.cool_faults.specs.Verdicts.{AreFaultless, IsAccepted, IsFaultList, faultless}
use Rattle.cool_faults.proofs.MeantTables.{table_meant}
use Rattle.lists.proofs.ItemsAt.{there_is}

-- rows that are none leave no fault
pub no_rows : (IsRow : ClassKind → Place → Type 0) (fs : List ClassFault) → AreRows IsRow fs → ((kind : ClassKind) (at : Place) → IsRow kind at → ⊥) → fs ≡ []
no_rows IsRow [] rows none = refl
no_rows IsRow (f ∷ fs) rows none = absurd (none f.kind f.at rows.only.0)

-- if no row of classes holds, there is no cycle, and no fault of classes
no_cycles : (ds : List ClassDef) → ((kind : ClassKind) (at : Place) → IsClassFault ds kind at → ⊥) → AreOnCycles ds []
no_cycles ds none = record {
  only = tt;
  all = λ k less on.
      let long = parents_long (names_with_basic ds) ds in
      let (d, at) = there_is ds k (omega arith) in
      absurd (none C5 d.at (cycle k d at on));
  once = tt;
}

no_class_faults : (ds : List ClassDef) → ((kind : ClassKind) (at : Place) → IsClassFault ds kind at → ⊥) → HasClassPhase ds []
no_class_faults ds none =
    let cycles = no_cycles ds none in
    ([], cycles, sym (no_rows (IsClassFault ds) (class_phase ds []) (phase_rows ds (class_phase ds []) ([], cycles, refl)) none))

-- the program is the table that its definitions mean
pub accepted_meant : (files : List (List ℕ)) (p : List Class) → (a : IsAccepted files p) → p ≡ classes_meant (definitions a.trees)
accepted_meant files p a = table_meant (definitions a.trees) p a.typed.whole.table a.table

pub accepted_faultless : (files : List (List ℕ)) (p : List Class) → IsAccepted files p → AreFaultless files
accepted_faultless files p a = record {
  trees = a.trees;
  are_trees = a.are_trees;
  classes = no_class_faults (definitions a.trees) a.rows.0;
  features = no_rows (IsTableFault (definitions a.trees)) (feature_phase (definitions a.trees)) (table_rows (definitions a.trees)) a.rows.1;
  typing = subst (λ (q : List Class). typing_faults q ≡ []) (accepted_meant files p a) ((typed_exactly p a.typed.whole a.typed.lawful).0 a.typed);
}

pub accepted_list : (files : List (List ℕ)) (p : List Class) → IsAccepted files p → IsFaultList files []
accepted_list files p a = faultless (accepted_faultless files p a)
