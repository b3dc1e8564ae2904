-- `Told::add_tree` adds the lines of the classes that `parse` returns, or the line of its syntax error. No tokens have both classes and a syntax error.
use Rattle.std.proofs.Common.{◌≡◌, ◌∙◌, ◌+◌, ℕ, List, ◌++◌, codes, length, ap, sym, subst, arith}
use Rattle.std.specs.Option.{option_map}
use Rattle.cool_syntax.specs.declared.file_tree.ClassDef.{ClassDef}
use Rattle.cool_syntax.specs.declared.place.Place.{Place}
use Rattle.cool_syntax.specs.declared.token.Token.{Token}
use Rattle.cool_syntax.specs.Grammar.{Parses, IsUnexpected}
use Rattle.cool_syntax.specs.LexicalStructure.{place_at}
use Rattle.cool_syntax.specs.TokenFacts.{weights}
use Rattle.cool_extents.specs.FoundExtents.{found_extents}
use Rattle.cool_parser.proofs.ParsingIsTheGrammar.{one_tree, file_or_fault}
use Rattle.cool_listings.specs.TokenLines.{fault_line}
use Rattle.cool_listings.specs.TreeLines.{classes_text}
use Rattle.cool_listings.proofs.TreesOfFiles.{fault_added, few_classes, on_ok, on_ok_both, tree_added}
use Rattle.cool_listings.proofs.trees.Told.add_tree.Goals as goal

pub add_classes-requires-clause-few : goal.add_classes-requires-clause-few
add_classes-requires-clause-few c =
    omega (arith, few_classes c.in-Ok.tree.classes, c.in-Ok.ensures.weight, ap length c.as_slice.ensures, ap weights c.as_slice-tokens.ensures.value, c.requires.few)

pub returns-in-Ok-clause-added : goal.returns-in-Ok-clause-added
returns-in-Ok-clause-added c =
    λ bytes lexes end.
    let classes = c.in-Ok.tree.classes in
    let tokens = c.args.lexed.now.tokens.items in
    let n = c.args.self.now.number in
    let old = c.args.self.now.text.items in
    let same = c.as_slice.ensures in
    let parses = subst (λ (ts : List Token). Parses ts classes) c.as_slice-tokens.ensures.value c.in-Ok.ensures.whole in
    on_ok_both c.add_classes.result
    (λ text number.
    tree_added (option_map (λ p. p.now) c.args.program) c.args.file n c.add_classes.new.self.number bytes tokens classes (found_extents tokens) old c.add_classes.new.self.text.items lexes parses
    (c.law_extents_found.ensures c.args.file tokens c.requires.rising)
    (number ∙ ap (λ (l : List ClassDef). n + length l) same)
    (text ∙ (λ i. old ++ classes_text (option_map (λ p. p.now) c.args.program) (found_extents (c.as_slice-tokens.ensures.value i)) n (same i))))
    c.add_classes.ensures.text c.add_classes.ensures.number

pub returns-in-Ok-clause-number : goal.returns-in-Ok-clause-number
returns-in-Ok-clause-number c =
    λ classes other.
    let parses = subst (λ (ts : List Token). Parses ts c.in-Ok.tree.classes) c.as_slice-tokens.ensures.value c.in-Ok.ensures.whole in
    let one = one_tree c.args.lexed.now.tokens.items c.in-Ok.tree.classes classes parses other in
    on_ok c.add_classes.result (λ number. number ∙ ap (λ (l : List ClassDef). c.args.self.now.number + length l) (c.as_slice.ensures ∙ one)) c.add_classes.ensures.number

pub returns-in-Ok-clause-few : goal.returns-in-Ok-clause-few
returns-in-Ok-clause-few c =
    on_ok c.add_classes.result
    (λ number. omega (arith, number, few_classes c.in-Ok.tree.classes, c.in-Ok.ensures.weight, ap length c.as_slice.ensures, ap weights c.as_slice-tokens.ensures.value))
    c.add_classes.ensures.number

pub returns-in_ok-fault_line-in-Err-Fault-clause-added : goal.returns-in_ok-fault_line-in-Err-Fault-clause-added
returns-in_ok-fault_line-in-Err-Fault-clause-added c =
    λ bytes lexes end.
    let at = c.in-Err-Fault.fault.at in
    let old = c.args.self.now.text.items in
    let raw : IsUnexpected c.as_slice-tokens.result.now c.args.lexed.now.end at = rw c.in-Err-Fault.field-0-is at c.in-Err-Fault.ensures.fault in
    let placed = subst (λ (q : Place). IsUnexpected c.as_slice-tokens.result.now q at) end raw in
    let stops = subst (λ (ts : List Token). IsUnexpected ts (place_at c.args.file bytes (length bytes)) at) c.as_slice-tokens.ensures.value placed in
    let line : c.deref.result.now ≡ fault_line at (codes "S1") = rw c.in-Err-Fault.field-0-is at (c.deref.ensures.value ∙ c.in_ok-fault_line-in-Err-Fault.ensures) in
    on_ok c.add.result
    (λ text.
    fault_added (option_map (λ p. p.now) c.args.program) c.args.file c.args.self.now.number c.add.new.self.number bytes c.args.lexed.now.tokens.items at old c.add.new.self.text.items lexes stops c.add.ensures.number
    (text ∙ ap (λ (l : List ℕ). old ++ l) line))
    c.add.ensures.text

pub returns-in_ok-fault_line-in-Err-Fault-clause-number : goal.returns-in_ok-fault_line-in-Err-Fault-clause-number
returns-in_ok-fault_line-in-Err-Fault-clause-number c =
    λ classes parses.
    let at = c.in-Err-Fault.fault.at in
    let raw : IsUnexpected c.as_slice-tokens.result.now c.args.lexed.now.end at = rw c.in-Err-Fault.field-0-is at c.in-Err-Fault.ensures.fault in
    absurd (file_or_fault c.as_slice-tokens.result.now c.args.lexed.now.end at classes (subst (λ (ts : List Token). Parses ts classes) (sym c.as_slice-tokens.ensures.value) parses) raw)
