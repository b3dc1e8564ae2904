-- `tokens_of` returns the tokens that `write_classes` writes for the classes of a syntax tree. The grammar parses these tokens as the same classes.
use Rattle.std.proofs.Common.{◌≡◌, rules, subst, sym}
use Rattle.cool_syntax.specs.Grammar.{Parses}
use Rattle.cool_syntax.specs.WrittenTrees.{written_classes}
use Rattle.cool_expr.proofs.WrittenTreesAreParsed.{classes_parse}
use Rattle.cool_expr.proofs.written_file.tokens_of.Goals as goal

pub returns : goal.returns
returns c =
    let classes = c.args.tree.now.classes in
    let same : c.into_vec.result.items ≡ written_classes classes = search rules in
    record { parses = subst (λ ts. Parses ts classes) (sym same) (classes_parse classes c.requires.writable) }
