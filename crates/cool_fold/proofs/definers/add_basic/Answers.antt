-- `add_basic` adds a basic class to the classes that define each of its methods: each step of its loop adds it for one name, and at the end no method is left.
use Rattle.std.proofs.Common.{◌≡◌, ◌∙◌, [], drop, ap, sym}
use Rattle.std.proofs.lemmas.List.{drop_all}
use Rattle.std.specs.Prelude.{◌&&◌, ◌||◌}
use Rattle.std.specs.List.{list_any}
use Rattle.cool_classes.specs.BasicMethods.{named_methods}
use Rattle.cool_fold.specs.Definers.{definers_in, is_basic_named}
use Rattle.cool_fold.proofs.DefinersGrow.{none_left}
use Rattle.cool_fold.proofs.definers.add_basic.Goals as goal

pub returns : goal.returns
returns c f name =
    let l = c.loop-name in
    let items = c.basic_class_methods-name-items.result.now in
    let there = list_any f (definers_in l.by_name.entries name) in
    let all : drop l.name-index items ≡ [] = drop_all l.name-index items c.loop-name-test.false in
    sym (none_left there (f c.args.class))
    ∙ sym (ap (λ ms. there || (f c.args.class && list_any (is_basic_named name) (named_methods ms))) all)
    ∙ l.invariant f name
