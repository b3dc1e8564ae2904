-- `note_attribute` adds the compile-time errors of an attribute: F3 for the name self, F2 for the name of another attribute, and F6 for an unknown type.
use Rattle.std.proofs.Common.{◌≡◌, ◌++◌, ℕ, List, Bool, ap, ◌∙◌, append_assoc}
use Rattle.std.specs.Prelude.{bytes_eq, codes}
use Rattle.std.proofs.lemmas.Result.{on_ok_weaker}
use Rattle.cool_classes.specs.declared.fault.ClassFault.{ClassFault}
use Rattle.cool_classes.specs.declared.fault.ClassKind.TheVariants.{F2, F3}
use Rattle.cool_classes.specs.Entries.{classes}
use Rattle.cool_classes.specs.FeatureFaults.{noted, is_doubled, type_faults}
use Rattle.cool_classes.proofs.feature_phase.note_attribute.Goals as goal

three : {X : Type 0} (old a b t : List X) → ((old ++ a) ++ b) ++ t ≡ old ++ (a ++ (b ++ t))
three old a b t = simp append_assoc

pub returns : goal.returns
returns c =
    let p = classes c.args.table.now.entries.now in
    let d = c.args.lineage.now.class in
    let ds = c.args.lineage.now.above.items in
    let a = c.args.attribute.now in
    let old = c.args.faults.now.items in
    let first = noted (bytes_eq a.name (codes "self")) F3 a.at in
    let second = noted (is_doubled p d ds c.args.index a.name) F2 a.at in
    let self : c.eq.result ≡ bytes_eq a.name (codes "self") =
    c.eq.ensures ∙ ap (bytes_eq c.as_slice-name.result.now) c.as_slice.ensures ∙ ap (λ (n : List ℕ). bytes_eq n (codes "self")) c.as_slice-name.ensures in
    let doubled : c.is_doubled-doubled.result ≡ is_doubled p d ds c.args.index a.name =
    c.is_doubled-doubled.ensures ∙ ap (is_doubled p d ds c.args.index) c.as_slice-name.ensures in
    let one : c.note.new.faults.items ≡ old ++ first = c.in_ok-note.ensures ∙ ap (λ (b : Bool). old ++ noted b F3 a.at) self in
    let two : c.note-2.new.faults.items ≡ (old ++ first) ++ second =
    c.in_ok-note-2.ensures ∙ ap (λ (b : Bool). c.note.new.faults.items ++ noted b F2 a.at) doubled ∙ ap (λ (fs : List ClassFault). fs ++ second) one in
    on_ok_weaker c.note_type.result (λ e. e ∙ ap (λ (fs : List ClassFault). fs ++ type_faults p a.declared) two ∙ three old first second (type_faults p a.declared)) c.note_type.ensures
