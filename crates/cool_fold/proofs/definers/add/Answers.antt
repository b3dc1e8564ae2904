-- `add` appends a class to the classes that define a method of one name, and leaves those of every other name as they are.
use Rattle.std.proofs.Common.{◌++◌, ◌∷◌, [], ap, ◌∙◌, refl, subst, cond, Some}
use Rattle.std.specs.Prelude.{IsSome, bytes_eq}
use Rattle.std.specs.Map.{lookup}
use Rattle.cool_fold.specs.Definers.{classes_in}
use Rattle.cool_fold.proofs.DefinersGrow.{definers_later}
use Rattle.cool_fold.proofs.definers.add.Goals as goal

pub returns-in_ok-push-in-Some : goal.returns-in_ok-push-in-Some
returns-in_ok-push-in-Some c f name =
    let es = c.args.by_name.now.entries in
    let classes = c.push.new.self in
    let there = c.in-Some.ensures.value in
    let written = c.get_mut.follows.holds classes in
    let updates = written.3 (subst IsSome there refl) in
    let items = c.in_ok-push-in-Some.ensures.items ∙ ap (λ o. classes_in o ++ c.args.class ∷ []) there in
    let updated = updates.0 (record c.args.name { now = name }) in
    definers_later es (c.get_mut.follows.lender classes).entries c.args.name.now classes c.args.class f name updated items

pub returns-in_ok-insert-in-None : goal.returns-in_ok-insert-in-None
returns-in_ok-insert-in-None c f name =
    let es = c.args.by_name.now.entries in
    let same = c.get_mut.follows.holds-at-none in
    let classes = c.push-in-None.new.self in
    let there = c.in-None.ensures.value in
    let updated = c.in_ok-insert-in-None.ensures.updates.0 (record c.args.name { now = name })
    ∙ ap (λ m. cond (bytes_eq c.args.name.now name) (Some classes) (lookup (λ k. bytes_eq name k.now) m.entries)) same in
    let pushed = c.in_ok-push-in-None.ensures.items ∙ ap (λ xs. xs ++ c.args.class ∷ []) c.new-classes.ensures.items in
    let items = pushed ∙ ap (λ o. classes_in o ++ c.args.class ∷ []) there in
    definers_later es c.insert.new.self.entries c.args.name.now classes c.args.class f name updated items
