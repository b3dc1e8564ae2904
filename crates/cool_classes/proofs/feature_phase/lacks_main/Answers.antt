-- `lacks_main` returns true exactly for a class named Main whose first method main is missing or has formal parameters; `first_index` looks this method up.
use Rattle.std.proofs.Common.{◌≡◌, ℕ, List, map, length, Option, Some, None, true, not, ap, sym, ◌∙◌}
use Rattle.std.specs.Prelude.{codes, bytes_eq, ◌==◌}
use Rattle.std.proofs.lemmas.Bool.{not-false}
use Rattle.cool_syntax.specs.declared.file_tree.Feature.{Feature}
use Rattle.cool_syntax.specs.declared.file_tree.Formal.{Formal}
use Rattle.cool_classes.specs.Chains.{Class, name_of, features_of}
use Rattle.cool_classes.specs.Entries.{classes}
use Rattle.cool_classes.specs.Features.{formals_in}
use Rattle.cool_classes.specs.FirstNames.{method_name}
use Rattle.cool_classes.specs.FeatureFaults.{has_formals}
use Rattle.cool_classes.proofs.Methods.{user_has}
use Rattle.cool_classes.proofs.MainMethods.{main_named}
use Rattle.cool_classes.proofs.OwnNamesGrow.{own_there, first_method_index}
use Rattle.cool_classes.proofs.SameTypes.{some_declared}
use Rattle.cool_classes.proofs.Seen.{class_read, within_classes}
use Rattle.cool_classes.proofs.feature_phase.lacks_main.Goals as goal

pub method_at-requires-clause-has : goal.method_at-requires-clause-has
method_at-requires-clause-has c =
    let es = c.args.table.now.entries.now in
    let p = classes es in
    let d = c.args.class in
    let own = own_there c.args.table.now d c.index.result.now c.requires.table c.requires.within c.index.ensures in
    let first = c.first_index.ensures (map method_name (features_of p d)) own.methods ∙ first_method_index 0 (features_of p d) (codes "main") in
    user_has p d (codes "main") (Some c.in-Some.main) (sym first ∙ c.in-Some.is) (within_classes es d c.requires.within)

pub returns-in-Some : goal.returns-in-Some
returns-in-Some c =
    let es = c.args.table.now.entries.now in
    let p = classes es in
    let d = c.args.class in
    let own = own_there c.args.table.now d c.index.result.now c.requires.table c.requires.within c.index.ensures in
    let first = c.first_index.ensures (map method_name (features_of p d)) own.methods ∙ first_method_index 0 (features_of p d) (codes "main") in
    let named : bytes_eq (name_of p d) (codes "Main") ≡ true =
    ap (λ (n : List ℕ). bytes_eq n (codes "Main")) (ap (λ (x : Class). x.name) (class_read es d c.index-table-index.result c.requires.within) ∙ sym c.as_slice.ensures)
    ∙ ap (bytes_eq c.as_slice.result.now) (sym c.as_slice-2.ensures)
    ∙ not-false (bytes_eq c.as_slice.result.now c.as_slice-2.result.now) (sym c.ne.ensures ∙ c.if-ne.false) in
    ap not (c.is_empty.ensures ∙ ap (λ (fs : List Formal). length fs == 0) c.as_slice-in-Some.ensures)
    ∙ some_declared c.method_at.result.now.formals
    ∙ sym (ap (λ (o : Option Feature). has_formals (formals_in o)) c.method_at.ensures)
    ∙ main_named p d (Some c.in-Some.main) named (sym c.in-Some.is ∙ first)

pub returns-in-None : goal.returns-in-None
returns-in-None c =
    let es = c.args.table.now.entries.now in
    let p = classes es in
    let d = c.args.class in
    let own = own_there c.args.table.now d c.index.result.now c.requires.table c.requires.within c.index.ensures in
    let first = c.first_index.ensures (map method_name (features_of p d)) own.methods ∙ first_method_index 0 (features_of p d) (codes "main") in
    let named : bytes_eq (name_of p d) (codes "Main") ≡ true =
    ap (λ (n : List ℕ). bytes_eq n (codes "Main")) (ap (λ (x : Class). x.name) (class_read es d c.index-table-index.result c.requires.within) ∙ sym c.as_slice.ensures)
    ∙ ap (bytes_eq c.as_slice.result.now) (sym c.as_slice-2.ensures)
    ∙ not-false (bytes_eq c.as_slice.result.now c.as_slice-2.result.now) (sym c.ne.ensures ∙ c.if-ne.false) in
    main_named p d None named (sym c.in-None.is ∙ first)
