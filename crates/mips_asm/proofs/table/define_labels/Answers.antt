-- `define_labels` adds the labels of a line to the symbol table one by one; a label that the table already has is an error.
use Rattle.std.proofs.Common.{◌≡◌, ◌+◌, ◌∷◌, [], ◌++◌, drop, ap, sym, ◌∙◌, refl, subst, is_some, None, true, false, List}
use Rattle.std.proofs.lemmas.List.{drop_all}
use Rattle.mips_isa.specs.Lines.{Name}
use Rattle.mips_isa.specs.Assembly.{has}
use Rattle.mips_asm.specs.declared.mark.Mark.{Mark}
use Rattle.mips_asm.specs.Passes.{shown, names_of}
use Rattle.mips_asm.proofs.LabelTables.{Defining, defining_start, defining_step, defining_twice, defining_end, found_as_has, shown_after}
use Rattle.mips_asm.proofs.table.define_labels.Goals as goal
use Rattle.lists.proofs.ItemsLeft.{drop_one}
use Rattle.lists.proofs.Options.{none_is}

pub loop-label-init : goal.loop-label-init
loop-label-init c = defining_start _ _ _

pub returns-then-is_some : goal.returns-then-is_some
returns-then-is_some c =
    let es = c.loop-label.table.entries in
    let labels = c.args.labels.now in
    let name = c.in_ok-name.name.items in
    let left : drop c.loop-label.label-index labels ≡ name ∷ drop (c.loop-label.label-index + 1) labels =
    drop_one labels c.loop-label.label-index c.label-item.result c.loop-label-test.true c.label-item.is
    ∙ ap (λ (n : Name). n ∷ drop (c.loop-label.label-index + 1) labels) (sym (c.in_ok-name.ensures.items ∙ c.as_slice.ensures)) in
    let there : has (names_of (shown es)) name ≡ true = sym (found_as_has name es) ∙ ap is_some (sym c.in_ok-before.ensures.old) ∙ sym c.is_some.ensures ∙ c.if-is_some.true in
    (defining_twice _ _ _ name _ _ (subst (λ (rest : List Name). Defining (shown c.args.table.now.entries) (shown es) labels rest c.args.mark) left c.loop-label.invariant) there, refl)

pub loop-label-preserved : goal.loop-label-preserved
loop-label-preserved c =
    let es = c.loop-label.table.entries in
    let labels = c.args.labels.now in
    let name = c.in_ok-name.name.items in
    let left : drop c.loop-label.label-index labels ≡ name ∷ drop (c.loop-label.label-index + 1) labels =
    drop_one labels c.loop-label.label-index c.label-item.result c.loop-label-test.true c.label-item.is
    ∙ ap (λ (n : Name). n ∷ drop (c.loop-label.label-index + 1) labels) (sym (c.in_ok-name.ensures.items ∙ c.as_slice.ensures)) in
    let none : c.in_ok-before.before ≡ None = none_is c.in_ok-before.before (sym c.is_some.ensures ∙ c.if-is_some.false) in
    let new : has (names_of (shown es)) name ≡ false = sym (found_as_has name es) ∙ ap is_some (sym c.in_ok-before.ensures.old) ∙ ap is_some none in
    let after : shown c.insert.new.self.entries ≡ shown es ++ (name, c.args.mark) ∷ [] =
    ap shown c.in_ok-before.ensures.entries ∙ shown_after c.loop-label.table c.in_ok-name.name c.args.mark (sym c.in_ok-before.ensures.old ∙ none) in
    subst (λ (now : List (Name × Mark)). Defining (shown c.args.table.now.entries) now labels (drop (c.loop-label.label-index + 1) labels) c.args.mark) (sym after)
    (defining_step _ _ _ name _ _ (subst (λ (rest : List Name). Defining (shown c.args.table.now.entries) (shown es) labels rest c.args.mark) left c.loop-label.invariant) new)

pub returns : goal.returns
returns c =
    let all : drop c.loop-label.label-index c.args.labels.now ≡ [] = drop_all c.loop-label.label-index c.args.labels.now c.loop-label-test.false in
    defining_end _ _ _ _ (subst (λ (rest : List Name). Defining (shown c.args.table.now.entries) (shown c.loop-label.table.entries) c.args.labels.now rest c.args.mark) all c.loop-label.invariant)
