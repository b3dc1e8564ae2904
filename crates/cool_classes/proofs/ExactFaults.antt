-- `table`, which builds the class table, returns exactly the faults (compile-time errors) of the classes, or those of the features if the classes have none.
use Rattle.std.proofs.Common.{◌≡◌, ℕ, List, [], ◌∷◌, ◌++◌, length, map, inl, inr, ap, sym, ◌∙◌, Some, refl, subst, arith, Option}
use Rattle.std.specs.List.Sorted.{IsPermutation}
use Rattle.std.specs.Global.{Vec}
use Rattle.cool_syntax.specs.declared.file_tree.ClassDef.{ClassDef}
use Rattle.cool_classes.specs.declared.fault.ClassFault.{ClassFault}
use Rattle.cool_classes.specs.declared.fault.TableError.{TableError}
use Rattle.cool_classes.specs.declared.fault.TableError.TheVariants as error
use Rattle.cool_classes.specs.Chains.{Class}
use Rattle.cool_classes.specs.ClassFaults.{class_meant, classes_meant, feature_phase, HasClassPhase, HasClassFaults, HasTableFaults}
use Rattle.cool_classes.specs.Entries.{classes, as_class}
use Rattle.cool_classes.specs.FaultLists.{HasExactly}
use Rattle.cool_classes.specs.FirstNames.{shown_names, FindsFirst, FindsNames}
use Rattle.cool_classes.specs.OwnNames.{AreNamed}
use Rattle.cool_classes.specs.Settled.{names_with_basic, entries_meant, entries_of, AreSettled}
use Rattle.cool_classes.specs.Tables.{basic_classes}
use Rattle.cool_classes.proofs.LawfulByFaults.{names_meant}
use Rattle.cool_classes.proofs.ParentsOfDefinitions.{parents_long}

-- the faults of classes are refused
pub refused_classes : (ds : List ClassDef) (fs : List ClassFault) (e : TableError) → HasClassPhase ds fs → HasExactly fs e → HasClassFaults ds e
refused_classes ds fs error.Memory phase h = tt
refused_classes ds fs (error.Faults faults) phase h = (h.0, h.2, (fs, phase, h.1))

-- and so they are those of the table
pub refused_table : (ds : List ClassDef) (e : TableError) → HasClassFaults ds e → HasTableFaults ds e
refused_table ds error.Memory h = tt
refused_table ds (error.Faults faults) h = (h.0, h.1, inl h.2)

-- if classes have none, the faults of features are refused
pub refused_features : (ds : List ClassDef) (fs : List ClassFault) (e : TableError) → HasClassPhase ds [] → fs ≡ feature_phase ds → HasExactly fs e → HasTableFaults ds e
refused_features ds fs error.Memory none is h = tt
refused_features ds fs (error.Faults faults) none is h = (h.0, h.2, inr (none, subst (λ (xs : List ClassFault). IsPermutation xs faults) is h.1))

-- the classes of entries that definitions make
pub meant_in : (names : List (List ℕ)) (ds : List ClassDef) (os : List (Option ℕ)) → length os ≡ length ds → map as_class (entries_meant names ds os) ≡ map (class_meant names) ds
meant_in names [] os long = refl
meant_in names (d ∷ ds) [] long = absurd (omega arith)
meant_in names (d ∷ ds) (o ∷ os) long = ap (λ (cs : List Class). class_meant names d ∷ cs) (meant_in names ds os (omega arith))

pub entries_are_meant : (ds : List ClassDef) (os : List (Option ℕ)) → AreSettled ds os → classes (entries_of ds os) ≡ classes_meant ds
entries_are_meant ds os settled =
    let long = settled.grounded.same in
    let all = parents_long (names_with_basic ds) ds in
    ap (λ (cs : List Class). basic_classes ++ cs) (meant_in (names_with_basic ds) ds os (omega arith))

-- the names of all classes are those of the entries
names_in_row : (p : List Class) → map Some (map (λ (c : Class). c.name) p) ≡ map (λ (c : Class). Some c.name) p
names_in_row [] = refl
names_in_row (c ∷ p) = ap (λ (row : List (Option (List ℕ))). Some c.name ∷ row) (names_in_row p)

pub entries_named : (ds : List ClassDef) (os : List (Option ℕ)) (names : List (Vec ℕ × ℕ)) → AreSettled ds os → FindsNames names (names_with_basic ds) → AreNamed names (entries_of ds os)
entries_named ds os names settled first =
    let row : map Some (names_with_basic ds) ≡ map (λ (c : Class). Some c.name) (classes (entries_of ds os)) =
    ap (map Some) (sym (names_meant ds)) ∙ names_in_row (classes_meant ds) ∙ ap (map (λ (c : Class). Some c.name)) (sym (entries_are_meant ds os settled)) in
    subst (FindsFirst (shown_names names)) row first
