-- `find_names` returns a map from each name to its first class, and adds the compile-time errors for class names that are taken (C1) or `SELF_TYPE` (C2). Each
-- step of its loop adds the name and the error of one definition.
use Rattle.std.proofs.Common.{◌≡◌, ◌≢◌, ◌++◌, ◌<◌, ℕ, List, [], Option, Some, None, false, map, take, length, get_or, sym, ap, ◌∙◌, ◌∷◌, ◌+◌, is_some, subst, arith}
use Rattle.std.specs.Prelude.{IfNone}
use Rattle.cool_syntax.specs.TreesWithinLimits.{AreClassesWithin}
use Rattle.cool_classes.specs.declared.fault.ClassFault.{ClassFault}
use Rattle.cool_classes.specs.declared.fault.ClassKind.{ClassKind}
use Rattle.cool_classes.specs.ClassFaults.{name_kind}
use Rattle.cool_classes.specs.Names.{first_named, self_type}
use Rattle.cool_classes.specs.FirstNames.{FindsNames}
use Rattle.cool_classes.specs.Settled.{basic_names, names_in, AddsFaults}
use Rattle.cool_classes.proofs.AllOfLists.{class_within}
use Rattle.cool_classes.proofs.FaultsLeft.{names_next}
use Rattle.cool_classes.proofs.FaultsAdded.{adds_both, adds_one, no_fault}
use Rattle.cool_classes.proofs.NamesOfDefinitions.{name_there, names_more, number_next, all_names, anew_more, finds_more, known_there}
use Rattle.cool_classes.proofs.class_phase.find_names.Goals as goal

pub loop-index-preserved : goal.loop-index-preserved
loop-index-preserved c =
    let ds = c.args.definitions.now in
    let i = c.loop-index.index in
    let d = c.index-definitions-index.result in
    let name = c.as_slice-name.result.now in
    let faults = c.loop-index.faults.items in
    let kind = c.name_fault.result in
    let within : i < length ds = let t = c.loop-index-test.true in omega arith in
    let at_name : get_or (names_in ds) i [] ≡ name = name_there ds i d within c.index-definitions-index.is ∙ sym c.as_slice-name.ensures in
    let one : AddsFaults (λ (n : ℕ). AreClassesWithin n ds) faults c.add_fault.new.faults.items =
    subst (λ (fs : List ClassFault). AddsFaults (λ (n : ℕ). AreClassesWithin n ds) faults fs) (sym c.in_ok-add_fault.ensures)
    (adds_one (λ (n : ℕ). AreClassesWithin n ds) kind d.at faults c.name_fault.ensures.kind (λ n all. (class_within n ds i d within c.index-definitions-index.is all).0)) in
    let before = basic_names ++ take i (names_in ds) in
    let slice = c.as_slice-name.ensures in
    let more = ap (λ (n : List ℕ). before ++ n ∷ []) (sym slice) ∙ names_more ds i name within at_name in
    let known = known_there before name c.is_some-known.result c.first_index.result c.is_some-known.ensures (c.first_index.ensures (map Some before) c.loop-index.invariant.finds) in
    let kind_is = c.name_fault.ensures.exact ∙ ap (name_kind name) known ∙ ap (λ (n : List ℕ). name_kind n (is_some (first_named 0 before n))) slice in
    record {
      finds = finds_more c.add_name.new.names.entries before (basic_names ++ take (i + 1) (names_in ds)) name (names_more ds i name within at_name) (c.in_ok-add_name.ensures (map Some before) (number_next ds i within) c.loop-index.invariant.finds);
      adds = adds_both (λ (n : ℕ). AreClassesWithin n ds) c.args.faults.now.items faults c.add_fault.new.faults.items c.loop-index.invariant.adds one;
      exact = names_next ds i d before (basic_names ++ take (i + 1) (names_in ds)) faults c.add_fault.new.faults.items kind within c.index-definitions-index.is more kind_is c.in_ok-add_fault.ensures
          ∙ c.loop-index.invariant.exact;
      anew = λ none.
          let no_kind : kind ≡ None = no_fault kind d.at faults (sym c.in_ok-add_fault.ensures ∙ none) in
          anew_more ds i name c.is_some-known.result at_name known
          (subst (λ (o : Option ClassKind). IfNone o (c.is_some-known.result ≡ false)) no_kind c.name_fault.ensures.anew)
          (subst (λ (o : Option ClassKind). IfNone o (name ≢ self_type)) no_kind c.name_fault.ensures.no_self_type)
          (c.loop-index.invariant.anew (one.kept none));
    }

pub returns-clause-finds : goal.returns-clause-finds
returns-clause-finds c =
    let ds = c.args.definitions.now in
    let all : length ds ≡ c.loop-index.index = let t = c.loop-index-test.false in let e = c.loop-index.auto.index-end in omega arith in
    subst (FindsNames c.loop-index.names.entries) (all_names ds c.loop-index.index all) c.loop-index.invariant.finds
