-- `table` returns the class table that the class definitions make if they have no fault (compile-time error). Otherwise it returns the faults of the classes,
-- or those of the features if the classes have none.
use Rattle.std.proofs.Common.{rules, ◌≡◌, ◌+◌, ℕ, List, [], length, map, sym, ap, ◌∙◌, subst}
use Rattle.std.proofs.lemmas.List.{length-map}
use Rattle.cool_syntax.specs.declared.place.Place.{Place}
use Rattle.cool_syntax.specs.declared.file_tree.ClassDef.{ClassDef}
use Rattle.cool_syntax.specs.TreesWithinLimits.{AreClassesWithin}
use Rattle.cool_classes.specs.declared.entry.Entry.{Entry}
use Rattle.cool_classes.specs.ClassFaults.{classes_meant, feature_phase, features_from, places, HasClassPhase, HasClassFaults, HasTableFaults}
use Rattle.cool_classes.specs.ClassRows.{HasRows}
use Rattle.cool_classes.specs.Definitions.{definitions, AreFew, IsTableOf}
use Rattle.cool_classes.specs.Entries.{classes, depth_at}
use Rattle.cool_classes.specs.FaultLists.{IsPlacedRefusal}
use Rattle.cool_classes.specs.FirstNames.{FindsNames}
use Rattle.cool_classes.specs.LawfulTables.{IsLawful}
use Rattle.cool_classes.specs.OwnNames.{AreNamed, AreAllOwn}
use Rattle.cool_classes.specs.Resolved.{AreResolved, AreGood, ArePlaced}
use Rattle.cool_classes.specs.Settled.{AreSettled, entries_of, names_with_basic}
use Rattle.cool_classes.specs.Tables.{IsWholeTable}
use Rattle.cool_classes.proofs.ExactFaults.{entries_are_meant, entries_named, refused_features, refused_table}
use Rattle.cool_classes.proofs.LawfulByFaults.{lawful_meant}
use Rattle.cool_classes.proofs.RowsExact.{refused_rows, accepted_rows}
use Rattle.cool_classes.proofs.Resolving.{resolved_by, table_by, placed_by, entries_long, whole_by}
use Rattle.cool_classes.proofs.building.table.Goals as goal

pub returns-in_err-ancestry-clause-places : goal.returns-in_err-ancestry-clause-places
returns-in_err-ancestry-clause-places c n some all =
    let here = subst (AreClassesWithin n) (sym (c.deref.ensures.value ∙ c.in_ok-definitions.ensures)) all in
    let placed : IsPlacedRefusal n c.in_err-ancestry.field-0.0 = c.in_err-ancestry.ensures.places n some here in
    search rules

pub names_of-requires-clause-resolved : goal.names_of-requires-clause-resolved
names_of-requires-clause-resolved c =
    let ds = c.in_ok-definitions.definitions.items in
    let os = c.in_ok-ancestry.ancestry.depths.items in
    let settled = subst (λ (xs : List ClassDef). AreSettled xs os) c.deref.ensures.value c.in_ok-ancestry.ensures.settled in
    let few = subst AreFew (sym c.in_ok-definitions.ensures) c.requires.few in
    subst AreResolved (sym (c.deref-3.ensures.value ∙ c.in_ok-entries.ensures)) (resolved_by ds os few settled)

pub names_of-requires-clause-named : goal.names_of-requires-clause-named
names_of-requires-clause-named c =
    let ds = c.in_ok-definitions.definitions.items in
    let os = c.in_ok-ancestry.ancestry.depths.items in
    let names = c.in_ok-ancestry.ancestry.names.entries in
    let settled = subst (λ (xs : List ClassDef). AreSettled xs os) c.deref.ensures.value c.in_ok-ancestry.ensures.settled in
    let first = subst (λ (xs : List ClassDef). FindsNames names (names_with_basic xs)) c.deref.ensures.value c.in_ok-ancestry.ensures.names in
    subst (AreNamed names) (sym (c.deref-3.ensures.value ∙ c.in_ok-entries.ensures)) (entries_named ds os names settled first)

pub feature_faults-requires-clause-places : goal.feature_faults-requires-clause-places
feature_faults-requires-clause-places c =
    let ds = c.in_ok-definitions.definitions.items in
    let os = c.in_ok-ancestry.ancestry.depths.items in
    let settled = subst (λ (xs : List ClassDef). AreSettled xs os) c.deref.ensures.value c.in_ok-ancestry.ensures.settled in
    let places : length c.deref-4.result.now ≡ length ds =
    ap length (c.deref-4.ensures.value ∙ c.in_ok-places.ensures) ∙ length-map c.deref-2.result.now (λ (d : ClassDef). d.at) ∙ ap length c.deref-2.ensures.value in
    let entries : length c.in_ok-names.names.entries.now ≡ length (entries_of ds os) = ap length (c.in_ok-names.ensures.entries ∙ c.deref-3.ensures.value ∙ c.in_ok-entries.ensures) in
    ap (λ (n : ℕ). n + 5) places ∙ entries_long ds os settled ∙ sym entries

pub returns-in_err-refuse_faults-clause-places : goal.returns-in_err-refuse_faults-clause-places
returns-in_err-refuse_faults-clause-places c n some all =
    let ds = c.in_ok-definitions.definitions.items in
    let os = c.in_ok-ancestry.ancestry.depths.items in
    let settled = subst (λ (xs : List ClassDef). AreSettled xs os) c.deref.ensures.value c.in_ok-ancestry.ensures.settled in
    let here = subst (AreClassesWithin n) (sym c.in_ok-definitions.ensures) all in
    let entries = sym (c.in_ok-names.ensures.entries ∙ c.deref-3.ensures.value ∙ c.in_ok-entries.ensures) in
    let places = sym (c.deref-4.ensures.value ∙ c.in_ok-places.ensures ∙ ap (map (λ (d : ClassDef). d.at)) c.deref-2.ensures.value) in
    let there = subst (λ (es : List Entry). ArePlaced n es c.deref-4.result.now) entries (subst (λ (ps : List Place). ArePlaced n (entries_of ds os) ps) places (placed_by n ds os settled here)) in
    let placed : IsPlacedRefusal n c.in_err-refuse_faults.field-0.0 = c.in_err-refuse_faults.ensures.places n (c.in_ok-faults.ensures.places n there) in
    search rules

pub from_entries-requires : goal.from_entries-requires
from_entries-requires c =
    let ds = c.in_ok-definitions.definitions.items in
    let os = c.in_ok-ancestry.ancestry.depths.items in
    let settled = subst (λ (xs : List ClassDef). AreSettled xs os) c.deref.ensures.value c.in_ok-ancestry.ensures.settled in
    let few = subst AreFew (sym c.in_ok-definitions.ensures) c.requires.few in
    let resolved = subst AreResolved (sym c.in_ok-entries.ensures) (resolved_by ds os few settled) in
    let good = subst (λ (es : List Entry). AreGood (classes es)) (c.in_ok-names.ensures.entries ∙ c.deref-3.ensures.value) (c.in_ok-faults.ensures.good c.in_ok-refuse_faults.ensures.none) in
    let none = subst (λ (xs : List ClassDef). HasClassPhase xs []) c.deref.ensures.value c.in_ok-ancestry.ensures.faultless in
    let meant : classes c.in_ok-names.names.entries.now ≡ classes_meant ds = ap classes (c.in_ok-names.ensures.entries ∙ c.deref-3.ensures.value ∙ c.in_ok-entries.ensures) ∙ entries_are_meant ds os settled in
    let stand : c.deref-4.result.now ≡ places ds = c.deref-4.ensures.value ∙ c.in_ok-places.ensures ∙ ap places c.deref-2.ensures.value in
    let free : feature_phase ds ≡ [] = sym (c.in_ok-faults.ensures.exact ∙ (λ i. features_from (meant i) 5 (stand i))) ∙ c.in_ok-refuse_faults.ensures.none in
    let seen : classes c.in_ok-entries.entries.items ≡ classes_meant ds = ap classes c.in_ok-entries.ensures ∙ entries_are_meant ds os settled in
    let whole = whole_by c.in_ok-entries.entries.items resolved good in
    let table : IsWholeTable (classes c.in_ok-entries.entries.items) = record { table = whole.table; depth = depth_at c.in_ok-entries.entries.items; grounded = whole.grounded } in
    let lawful = subst IsLawful (sym seen) (lawful_meant ds (subst IsWholeTable seen table) none free) in
    let there = c.in_ok-names.ensures.entries ∙ c.deref-3.ensures.value in
    let named = c.in_ok-names.names in
    record {
      indexed = record {
        whole = whole;
        lawful = lawful;
        names = subst (AreNamed named.classes.entries) there c.in_ok-names.ensures.table.names;
        own = subst (λ (es : List Entry). AreAllOwn (length es) named.own.items (classes es)) there c.in_ok-names.ensures.table.own;
      };
    }

pub returns-clause-table : goal.returns-clause-table
returns-clause-table c =
    let ds = c.in_ok-definitions.definitions.items in
    let os = c.in_ok-ancestry.ancestry.depths.items in
    let settled = subst (λ (xs : List ClassDef). AreSettled xs os) c.deref.ensures.value c.in_ok-ancestry.ensures.settled in
    subst (IsTableOf (definitions c.args.files.items)) (sym (c.from_entries.ensures ∙ ap classes c.in_ok-entries.ensures))
    (subst (λ (xs : List ClassDef). IsTableOf xs (classes (entries_of ds os))) c.in_ok-definitions.ensures (table_by ds os settled))

pub returns-clause-classes : goal.returns-clause-classes
returns-clause-classes c =
    let ds = c.in_ok-definitions.definitions.items in
    let os = c.in_ok-ancestry.ancestry.depths.items in
    let settled = subst (λ (xs : List ClassDef). AreSettled xs os) c.deref.ensures.value c.in_ok-ancestry.ensures.settled in
    c.from_entries.ensures ∙ ap classes c.in_ok-entries.ensures ∙ entries_are_meant ds os settled ∙ ap classes_meant c.in_ok-definitions.ensures

pub returns-clause-faultless : goal.returns-clause-faultless
returns-clause-faultless c =
    let ds = c.in_ok-definitions.definitions.items in
    let os = c.in_ok-ancestry.ancestry.depths.items in
    let settled = subst (λ (xs : List ClassDef). AreSettled xs os) c.deref.ensures.value c.in_ok-ancestry.ensures.settled in
    let none = subst (λ (xs : List ClassDef). HasClassPhase xs []) (c.deref.ensures.value ∙ c.in_ok-definitions.ensures) c.in_ok-ancestry.ensures.faultless in
    let meant : classes c.in_ok-names.names.entries.now ≡ classes_meant ds = ap classes (c.in_ok-names.ensures.entries ∙ c.deref-3.ensures.value ∙ c.in_ok-entries.ensures) ∙ entries_are_meant ds os settled in
    let stand : c.deref-4.result.now ≡ places ds = c.deref-4.ensures.value ∙ c.in_ok-places.ensures ∙ ap places c.deref-2.ensures.value in
    let is : c.in_ok-faults.faults.items ≡ feature_phase (definitions c.args.files.items) =
    c.in_ok-faults.ensures.exact ∙ (λ i. features_from (meant i) 5 (stand i)) ∙ ap feature_phase c.in_ok-definitions.ensures in
    (none, sym is ∙ c.in_ok-refuse_faults.ensures.none)

pub returns-in_err-refuse_faults-clause-exact : goal.returns-in_err-refuse_faults-clause-exact
returns-in_err-refuse_faults-clause-exact c =
    let ds = c.in_ok-definitions.definitions.items in
    let os = c.in_ok-ancestry.ancestry.depths.items in
    let settled = subst (λ (xs : List ClassDef). AreSettled xs os) c.deref.ensures.value c.in_ok-ancestry.ensures.settled in
    let none = subst (λ (xs : List ClassDef). HasClassPhase xs []) (c.deref.ensures.value ∙ c.in_ok-definitions.ensures) c.in_ok-ancestry.ensures.faultless in
    let meant : classes c.in_ok-names.names.entries.now ≡ classes_meant ds = ap classes (c.in_ok-names.ensures.entries ∙ c.deref-3.ensures.value ∙ c.in_ok-entries.ensures) ∙ entries_are_meant ds os settled in
    let stand : c.deref-4.result.now ≡ places ds = c.deref-4.ensures.value ∙ c.in_ok-places.ensures ∙ ap places c.deref-2.ensures.value in
    let is : c.in_ok-faults.faults.items ≡ feature_phase (definitions c.args.files.items) =
    c.in_ok-faults.ensures.exact ∙ (λ i. features_from (meant i) 5 (stand i)) ∙ ap feature_phase c.in_ok-definitions.ensures in
    let exact : HasTableFaults (definitions c.args.files.items) c.in_err-refuse_faults.field-0.0 =
    refused_features (definitions c.args.files.items) c.in_ok-faults.faults.items c.in_err-refuse_faults.field-0.0 none is c.in_err-refuse_faults.ensures.exact in
    search rules

pub returns-in_err-refuse_faults-clause-rows : goal.returns-in_err-refuse_faults-clause-rows
returns-in_err-refuse_faults-clause-rows c =
    let ds = c.in_ok-definitions.definitions.items in
    let os = c.in_ok-ancestry.ancestry.depths.items in
    let settled = subst (λ (xs : List ClassDef). AreSettled xs os) c.deref.ensures.value c.in_ok-ancestry.ensures.settled in
    let none = subst (λ (xs : List ClassDef). HasClassPhase xs []) (c.deref.ensures.value ∙ c.in_ok-definitions.ensures) c.in_ok-ancestry.ensures.faultless in
    let meant : classes c.in_ok-names.names.entries.now ≡ classes_meant ds = ap classes (c.in_ok-names.ensures.entries ∙ c.deref-3.ensures.value ∙ c.in_ok-entries.ensures) ∙ entries_are_meant ds os settled in
    let stand : c.deref-4.result.now ≡ places ds = c.deref-4.ensures.value ∙ c.in_ok-places.ensures ∙ ap places c.deref-2.ensures.value in
    let is : c.in_ok-faults.faults.items ≡ feature_phase (definitions c.args.files.items) =
    c.in_ok-faults.ensures.exact ∙ (λ i. features_from (meant i) 5 (stand i)) ∙ ap feature_phase c.in_ok-definitions.ensures in
    let exact : HasRows (definitions c.args.files.items) c.in_err-refuse_faults.field-0.0 =
    refused_rows (definitions c.args.files.items) c.in_err-refuse_faults.field-0.0
    (refused_features (definitions c.args.files.items) c.in_ok-faults.faults.items c.in_err-refuse_faults.field-0.0 none is c.in_err-refuse_faults.ensures.exact) in
    search rules

pub returns-clause-no_rows : goal.returns-clause-no_rows
returns-clause-no_rows c =
    let ds = c.in_ok-definitions.definitions.items in
    let os = c.in_ok-ancestry.ancestry.depths.items in
    let settled = subst (λ (xs : List ClassDef). AreSettled xs os) c.deref.ensures.value c.in_ok-ancestry.ensures.settled in
    let none = subst (λ (xs : List ClassDef). HasClassPhase xs []) (c.deref.ensures.value ∙ c.in_ok-definitions.ensures) c.in_ok-ancestry.ensures.faultless in
    let meant : classes c.in_ok-names.names.entries.now ≡ classes_meant ds = ap classes (c.in_ok-names.ensures.entries ∙ c.deref-3.ensures.value ∙ c.in_ok-entries.ensures) ∙ entries_are_meant ds os settled in
    let stand : c.deref-4.result.now ≡ places ds = c.deref-4.ensures.value ∙ c.in_ok-places.ensures ∙ ap places c.deref-2.ensures.value in
    let is : c.in_ok-faults.faults.items ≡ feature_phase (definitions c.args.files.items) =
    c.in_ok-faults.ensures.exact ∙ (λ i. features_from (meant i) 5 (stand i)) ∙ ap feature_phase c.in_ok-definitions.ensures in
    accepted_rows (definitions c.args.files.items) none (sym is ∙ c.in_ok-refuse_faults.ensures.none)

pub returns-in_err-ancestry-clause-exact : goal.returns-in_err-ancestry-clause-exact
returns-in_err-ancestry-clause-exact c =
    let here = subst (λ (xs : List ClassDef). HasClassFaults xs c.in_err-ancestry.field-0.0) (c.deref.ensures.value ∙ c.in_ok-definitions.ensures) c.in_err-ancestry.ensures.exact in
    let exact : HasTableFaults (definitions c.args.files.items) c.in_err-ancestry.field-0.0 = refused_table (definitions c.args.files.items) c.in_err-ancestry.field-0.0 here in
    search rules

pub returns-in_err-ancestry-clause-rows : goal.returns-in_err-ancestry-clause-rows
returns-in_err-ancestry-clause-rows c =
    let here = subst (λ (xs : List ClassDef). HasClassFaults xs c.in_err-ancestry.field-0.0) (c.deref.ensures.value ∙ c.in_ok-definitions.ensures) c.in_err-ancestry.ensures.exact in
    let exact : HasRows (definitions c.args.files.items) c.in_err-ancestry.field-0.0 =
    refused_rows (definitions c.args.files.items) c.in_err-ancestry.field-0.0 (refused_table (definitions c.args.files.items) c.in_err-ancestry.field-0.0 here) in
    search rules
