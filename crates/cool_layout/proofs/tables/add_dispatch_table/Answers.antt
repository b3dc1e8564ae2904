-- `add_dispatch_table` appends the label of the dispatch table of a class and then a line with the addresses of the methods of the class.
use Rattle.std.proofs.Common.{List, map, sym, ap, ◌∙◌, subst}
use Rattle.std.specs.List.{AllByRecursion}
use Rattle.mips_isa.specs.Lines.{WordItem, Address}
use Rattle.cool_classes.specs.declared.method.MethodRef.{MethodRef}
use Rattle.cool_classes.specs.Features.{HasMethod}
use Rattle.cool_runtime.specs.Instructions.{label}
use Rattle.cool_runtime.specs.LinesOfData.{words}
use Rattle.cool_runtime.proofs.AddedLines.{with_line, in_turn}
use Rattle.cool_layout.specs.Labels.{method_label}
use Rattle.cool_layout.proofs.MethodsThere.{methods_have}
use Rattle.cool_layout.proofs.tables.add_dispatch_table.Goals as goal

pub method_addresses-requires : goal.method_addresses-requires
method_addresses-requires c = let p = c.args.t.now in record { has = subst (AllByRecursion (HasMethod p)) (sym c.requires.methods) (methods_have p c.requires.rooted c.args.class c.requires.within) }

pub returns : goal.returns
returns c =
    let p = c.args.t.now in
    let items : List MethodRef → List WordItem = map (λ m. Address (method_label p m)) in
    let name = c.as_slice.ensures.value ∙ c.in_ok-name.ensures in
    in_turn _ _ _ _ _ (with_line _ _ _ _ c.in_ok-push.ensures.items (c.in_ok-label_line.ensures ∙ ap label name))
    (with_line _ _ _ _ c.in_ok-push-2.ensures.items (c.in_ok-word_line.ensures ∙ ap words (c.in_ok-method_addresses.ensures ∙ ap items c.requires.methods)))
