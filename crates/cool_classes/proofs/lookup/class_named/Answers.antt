-- `class_named` returns the class at the first index of a name, or none if no class has the name; `first_index` finds this index.
use Rattle.std.proofs.Common.{map, Some, None, sym, ap, ◌∙◌, subst}
use Rattle.std.specs.Prelude.{option_map}
use Rattle.cool_classes.specs.Chains.{Class, class_number}
use Rattle.cool_classes.specs.Entries.{classes}
use Rattle.cool_classes.specs.Tables.{IsNamed}
use Rattle.cool_classes.proofs.ClassesNamed.{named_by}
use Rattle.cool_classes.proofs.NameIndexes.{class_at_index}
use Rattle.cool_classes.proofs.lookup.class_named.Goals as goal

pub returns-in_err-place-clause-named : goal.returns-in_err-place-clause-named
returns-in_err-place-clause-named c es named =
    let p = classes es in
    let first = c.first_index.ensures (map (λ (d : Class). Some d.name) p) named in
    subst (IsNamed p c.args.name.now) (sym c.from_residual.ensures) (named_by p c.args.name.now None (sym c.in_err-place.was ∙ first))

pub returns-in_err-place-clause-first : goal.returns-in_err-place-clause-first
returns-in_err-place-clause-first c all finds =
    let first = c.first_index.ensures (map Some all) finds in
    c.from_residual.ensures ∙ ap (option_map class_number) (sym c.in_err-place.was ∙ first) ∙ class_at_index 0 all c.args.name.now

pub returns-clause-named : goal.returns-clause-named
returns-clause-named c es named =
    let p = classes es in
    let first = c.first_index.ensures (map (λ (d : Class). Some d.name) p) named in
    named_by p c.args.name.now (Some c.in_ok-place.place) (sym c.in_ok-place.was ∙ first)

pub returns-clause-first : goal.returns-clause-first
returns-clause-first c all finds =
    let first = c.first_index.ensures (map Some all) finds in
    ap (option_map class_number) (sym c.in_ok-place.was ∙ first) ∙ class_at_index 0 all c.args.name.now
