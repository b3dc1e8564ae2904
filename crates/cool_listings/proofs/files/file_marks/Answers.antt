-- `file_marks` returns the marks (occurrences of names) of the files, because the trees that `definitions_of` parses are those of the class table.
use Rattle.std.proofs.Common.{◌≡◌, ◌+◌, ◌≤◌, ◌∙◌, List, length, map, ap, sym, subst}
use Rattle.std.specs.List.{AllByRecursion}
use Rattle.cool_syntax.specs.declared.TheConstants.{MOST_SOURCE_BYTES}
use Rattle.cool_syntax.specs.declared.file_tree.ClassDef.{ClassDef}
use Rattle.cool_lexer.specs.declared.lexer.Lexed.{Lexed}
use Rattle.cool_classes.specs.Definitions.{definitions}
use Rattle.cool_faults.specs.Files.{bytes_of}
use Rattle.cool_faults.specs.Untyped.{IsClassVerdict, IsUntyped}
use Rattle.cool_faults.proofs.VerdictsOfPhases.{lexed_few}
use Rattle.cool_names.specs.declared.mark.Mark.{Mark}
use Rattle.cool_names.specs.Programs.{program_marks}
use Rattle.cool_names.specs.WrittenNames.{spot_of}
use Rattle.cool_listings.specs.Ends.{AreTrees}
use Rattle.cool_listings.proofs.TreesOfTokens.{are_names, are_trees, each_class}
use Rattle.cool_listings.proofs.files.file_marks.Goals as goal

pub definitions_of-requires : goal.definitions_of-requires
definitions_of-requires c =
    let files = bytes_of c.args.files.now in
    let u : IsUntyped files c.in-Untyped.untyped = subst (IsClassVerdict files) c.in-Untyped.is c.in_ok-untyped.ensures.verdict in
    subst (AllByRecursion (λ (l : Lexed). length l.tokens.items ≤ MOST_SOURCE_BYTES)) (sym c.as_slice.ensures.value) (lexed_few files c.in-Untyped.untyped.lexed.items c.requires.small u.lexed)

pub program_marks-requires : goal.program_marks-requires
program_marks-requires c =
    let files = bytes_of c.args.files.now in
    let u : IsUntyped files c.in-Untyped.untyped = subst (IsClassVerdict files) c.in-Untyped.is c.in_ok-untyped.ensures.verdict in
    let trees = subst (λ (ls : List Lexed). AreTrees ls u.trees) (sym c.as_slice.ensures.value) (are_trees c.in-Untyped.untyped.lexed.items u.trees u.parsed) in
    let same : c.as_slice-in-Untyped.result.now ≡ definitions u.trees = c.as_slice-in-Untyped.ensures.value ∙ c.in_ok-all-in-Untyped.ensures u.trees trees in
    record { each = each_class c.in-Untyped.untyped.classes (definitions u.trees) u.table u.of ∙ ap (λ (ds : List ClassDef). length ds + 5) (sym same) }

pub returns-in-Untyped : goal.returns-in-Untyped
returns-in-Untyped c =
    let files = bytes_of c.args.files.now in
    let u : IsUntyped files c.in-Untyped.untyped = subst (IsClassVerdict files) c.in-Untyped.is c.in_ok-untyped.ensures.verdict in
    let trees = subst (λ (ls : List Lexed). AreTrees ls u.trees) (sym c.as_slice.ensures.value) (are_trees c.in-Untyped.untyped.lexed.items u.trees u.parsed) in
    let same : c.as_slice-in-Untyped.result.now ≡ definitions u.trees = c.as_slice-in-Untyped.ensures.value ∙ c.in_ok-all-in-Untyped.ensures u.trees trees in
    let are = c.in_ok-program_marks-in-Untyped.ensures.marks ∙ ap (program_marks c.in-Untyped.untyped.classes) same in
    record { untyped = c.in-Untyped.untyped; is = u; are = are; named = ap (λ (ms : List Mark). map spot_of ms) are ∙ are_names files c.in-Untyped.untyped u }
