-- `note_formal` adds the compile-time errors of a formal parameter: F3 for the name self, F4 for the name of an earlier one, F5 for the type `SELF_TYPE`, and
-- F6 for an unknown type.
use Rattle.std.proofs.Common.{◌≡◌, ◌++◌, ℕ, List, Bool, is_some, ap, ◌∙◌}
use Rattle.std.specs.Prelude.{bytes_eq, codes}
use Rattle.std.proofs.lemmas.Result.{on_ok_weaker}
use Rattle.cool_classes.specs.declared.fault.ClassKind.TheVariants.{F3, F4, F5}
use Rattle.cool_classes.specs.Entries.{classes}
use Rattle.cool_classes.specs.FirstNames.{first_index}
use Rattle.cool_classes.specs.FeatureFaults.{noted, type_faults}
use Rattle.cool_classes.specs.Names.{self_type}
use Rattle.cool_classes.proofs.FaultsJoined.{joined}
use Rattle.cool_classes.proofs.signature_faults.note_formal.Goals as goal

pub returns : goal.returns
returns c =
    let p = classes c.args.table.now.entries.now in
    let f = c.args.formal.now in
    let old = c.args.faults.now.items in
    let self : c.eq.result ≡ bytes_eq f.name (codes "self") =
    c.eq.ensures ∙ ap (bytes_eq c.as_slice-name.result.now) c.as_slice.ensures ∙ ap (λ (n : List ℕ). bytes_eq n (codes "self")) c.as_slice-name.ensures in
    let self_typed : c.is_self_type-self_typed.result ≡ bytes_eq f.declared.name self_type =
    c.is_self_type-self_typed.ensures ∙ ap (λ (n : List ℕ). bytes_eq n self_type) c.as_slice-2.ensures in
    on_ok_weaker c.note_type.result (λ e row finds.
    let doubled : c.is_some-doubled.result ≡ is_some (first_index 0 row f.name) =
    c.is_some-doubled.ensures ∙ ap is_some (c.first_index.ensures row finds ∙ ap (first_index 0 row) c.as_slice-name.ensures) in
    joined old
    (noted (bytes_eq f.name (codes "self")) F3 f.at)
    (noted (is_some (first_index 0 row f.name)) F4 f.at)
    (noted (bytes_eq f.declared.name self_type) F5 f.declared.at) (type_faults p f.declared)
    c.note.new.faults.items c.note-2.new.faults.items c.note-3.new.faults.items c.note_type.new.faults.items
    (c.in_ok-note.ensures ∙ ap (λ (b : Bool). old ++ noted b F3 f.at) self)
    (c.in_ok-note-2.ensures ∙ ap (λ (b : Bool). c.note.new.faults.items ++ noted b F4 f.at) doubled)
    (c.in_ok-note-3.ensures ∙ ap (λ (b : Bool). c.note-2.new.faults.items ++ noted b F5 f.declared.at) self_typed)
    e)
    c.note_type.ensures
