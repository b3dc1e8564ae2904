-- `note_method` adds the compile-time errors of a method: F1 for the name of an earlier method, F7 for a signature unlike the inherited one, and those of its
-- formal parameters and of its result type.
use Rattle.std.proofs.Common.{◌≡◌, ◌++◌, ℕ, [], List, map, Bool, not, ap, ◌∙◌}
use Rattle.std.proofs.lemmas.Result.{on_ok_weaker}
use Rattle.cool_syntax.specs.declared.file_tree.Formal.{Formal}
use Rattle.cool_classes.specs.declared.fault.ClassKind.TheVariants.{F1, F7}
use Rattle.cool_classes.specs.Chains.{features_of}
use Rattle.cool_classes.specs.Entries.{classes}
use Rattle.cool_classes.specs.Features.{first_method, implementation}
use Rattle.cool_classes.specs.FirstNames.{is_index, method_name}
use Rattle.cool_classes.specs.FeatureFaults.{noted, redefines_otherwise, formals_faults, type_faults}
use Rattle.cool_classes.proofs.FaultsJoined.{joined}
use Rattle.cool_classes.proofs.OwnNamesGrow.{own_there, first_method_index}
use Rattle.cool_classes.proofs.feature_phase.note_method.Goals as goal

pub returns : goal.returns
returns c =
    let p = classes c.args.table.now.entries.now in
    let d = c.args.lineage.now.class in
    let m = c.args.method.now in
    let own = own_there c.args.table.now d c.index-own.result.now c.requires.table c.requires.lineage.within c.index-own.ensures in
    let here : c.is_first_at-first.result ≡ is_index c.args.index (first_method 0 (features_of p d) m.name) =
    c.is_first_at-first.ensures (map method_name (features_of p d)) own.methods
    ∙ ap (is_index c.args.index) (first_method_index 0 (features_of p d) c.as_slice.result.now)
    ∙ ap (λ (n : List ℕ). is_index c.args.index (first_method 0 (features_of p d) n)) c.as_slice.ensures in
    let old = c.args.faults.now.items in
    on_ok_weaker c.note_type.result (λ e.
    joined old
    (noted (not (is_index c.args.index (first_method 0 (features_of p d) m.name))) F1 m.at)
    (noted (redefines_otherwise p m (implementation p c.args.lineage.now.above.items m.name)) F7 m.at)
    (formals_faults p [] m.formals) (type_faults p m.result)
    c.note.new.faults.items c.note-2.new.faults.items c.note_formals.new.faults.items c.note_type.new.faults.items
    (c.in_ok-note.ensures ∙ ap (λ (b : Bool). old ++ noted (not b) F1 m.at) here)
    (c.in_ok-note-2.ensures ∙ ap (λ (b : Bool). c.note.new.faults.items ++ noted b F7 m.at) c.redefines_otherwise-otherwise.ensures)
    (c.in_ok-note_formals.ensures ∙ ap (λ (fs : List Formal). c.note-2.new.faults.items ++ formals_faults p [] fs) c.as_slice-2.ensures)
    e)
    c.note_type.ensures
