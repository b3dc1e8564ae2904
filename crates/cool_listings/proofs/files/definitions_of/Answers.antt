-- Each step of the loop of `definitions_of` parses the next file and adds the classes of its tree.
use Rattle.std.proofs.Common.{◌≤◌, ◌∙◌, List, length, sym, subst}
use Rattle.std.specs.List.{AllByRecursion}
use Rattle.cool_syntax.specs.declared.TheConstants.{MOST_SOURCE_BYTES}
use Rattle.cool_syntax.specs.declared.token.Token.{Token}
use Rattle.cool_syntax.specs.Grammar.{Parses}
use Rattle.cool_lexer.specs.declared.lexer.Lexed.{Lexed}
use Rattle.cool_classes.specs.Definitions.{definitions}
use Rattle.cool_listings.proofs.TreesOfTokens.{one_more}
use Rattle.cool_listings.proofs.files.definitions_of.Goals as goal
use Rattle.lists.proofs.ItemsLeft.{drop_one}

pub loop-file-preserved : goal.loop-file-preserved
loop-file-preserved c =
    let files = c.args.files.now in
    let i = c.loop-file.file-index in
    let file = c.file-item.result in
    record {
      few = (subst (AllByRecursion (λ (l : Lexed). length l.tokens.items ≤ MOST_SOURCE_BYTES)) (drop_one files i file c.loop-file-test.true c.file-item.is) c.loop-file.invariant.few).1;
      goes_on = λ trees h.
          one_more files i file c.loop-file.all.items c.append.new.self.items c.into_vec.result.items (definitions trees) c.loop-file-test.true c.file-item.is c.in_ok-append-in-Ok.ensures.items
          (λ classes p. c.into_vec.ensures ∙ c.in-Ok.ensures.only classes (subst (λ (ts : List Token). Parses ts classes) (sym c.as_slice.ensures.value) p))
          (c.loop-file.invariant.goes_on trees h);
    }
