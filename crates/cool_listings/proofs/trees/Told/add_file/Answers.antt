-- `Told::add_file` adds the lines of the syntax tree of a file, or the line of its lexical error. No file has both tokens and a lexical error.
use Rattle.std.proofs.Common.{◌≡◌, ◌∙◌, ℕ, List, ◌++◌, ap, subst}
use Rattle.std.specs.Option.{option_map}
use Rattle.cool_syntax.specs.declared.token.Token.{Token}
use Rattle.cool_syntax.specs.Grammar.{Parses}
use Rattle.cool_syntax.specs.LexicalStructure.{LexFault as IsLexFault}
use Rattle.cool_lexer.proofs.OneReading.{never_both, one_cutting}
use Rattle.cool_listings.specs.TokenLines.{fault_line}
use Rattle.cool_listings.proofs.TreesOfFiles.{lexical_added, on_ok}
use Rattle.cool_listings.proofs.trees.Told.add_file.Goals as goal

pub returns-in-Ok-clause-number : goal.returns-in-Ok-clause-number
returns-in-Ok-clause-number c =
    λ tokens classes lexes parses.
    c.add_tree.ensures.number classes (subst (λ (ts : List Token). Parses ts classes) (one_cutting c.args.file c.args.bytes.now tokens c.in-Ok.lexed.tokens.items lexes c.in-Ok.ensures.lexes) parses)

pub returns-in_ok-fault_line-in-Err-Fault-clause-added : goal.returns-in_ok-fault_line-in-Err-Fault-clause-added
returns-in_ok-fault_line-in-Err-Fault-clause-added c =
    let fault = c.in-Err-Fault.fault in
    let old = c.args.self.now.text.items in
    let faulty : IsLexFault c.args.file c.args.bytes.now fault.kind fault.at = rw c.in-Err-Fault.field-0-is at c.in-Err-Fault.ensures.fault in
    on_ok c.add.result
    (λ text.
    lexical_added (option_map (λ p. p.now) c.args.program) c.args.file c.args.self.now.number c.add.new.self.number c.args.bytes.now fault old c.add.new.self.text.items faulty c.add.ensures.number
    (text ∙ ap (λ (l : List ℕ). old ++ l) (c.deref.ensures.value ∙ c.in_ok-fault_line-in-Err-Fault.ensures ∙ ap (fault_line fault.at) c.lex_word.ensures)))
    c.add.ensures.text

pub returns-in_ok-fault_line-in-Err-Fault-clause-number : goal.returns-in_ok-fault_line-in-Err-Fault-clause-number
returns-in_ok-fault_line-in-Err-Fault-clause-number c =
    λ tokens classes lexes parses.
    let fault = c.in-Err-Fault.fault in
    let faulty : IsLexFault c.args.file c.args.bytes.now fault.kind fault.at = rw c.in-Err-Fault.field-0-is at c.in-Err-Fault.ensures.fault in
    absurd (never_both c.args.file c.args.bytes.now tokens fault.kind fault.at lexes faulty)
