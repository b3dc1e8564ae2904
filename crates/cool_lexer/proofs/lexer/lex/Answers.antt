-- If `lex` finds no lexical error, it returns the tokens of all lexemes of the file, and these keep the limits on integers, strings and source locations.
use Rattle.std.proofs.Common.{ℕ, ◌≤◌, sym, ap, subst, arith, length}
use Rattle.cool_syntax.specs.LexicalStructure.{Lexes}
use Rattle.cool_syntax.specs.TokenFacts.{AreWithinLimits, AreRising, weights}
use Rattle.cool_lexer.specs.Beginnings.{AreUpTo}
use Rattle.cool_lexer.proofs.ItemsInARow.{few}
use Rattle.cool_lexer.proofs.LexemesKeepLimits.{limits, rising}
use Rattle.cool_lexer.proofs.WeightsOfTokens.{tokens_weigh}
use Rattle.cool_lexer.proofs.lexer.lex.Goals as goal

pub returns-in-None-clause-limits : goal.returns-in-None-clause-limits
returns-in-None-clause-limits c =
    let l : Lexes c.args.file c.args.bytes.now c.in_ok-tokens.field-0.tokens.items = subst (AreUpTo c.args.file c.args.bytes.now c.in_ok-tokens.field-0.tokens.items) c.in-None.is c.in_ok-tokens.ensures.tokens in
    λ files m. subst (AreWithinLimits files) (sym l.lexemes) (limits files c.args.file c.args.bytes.now 0 c.args.bytes.now l.items _ _ m c.requires l.leads)

pub returns-in-None-clause-rising : goal.returns-in-None-clause-rising
returns-in-None-clause-rising c =
    let l : Lexes c.args.file c.args.bytes.now c.in_ok-tokens.field-0.tokens.items = subst (AreUpTo c.args.file c.args.bytes.now c.in_ok-tokens.field-0.tokens.items) c.in-None.is c.in_ok-tokens.ensures.tokens in
    subst (AreRising c.args.file 0) (sym l.lexemes) (rising c.args.file c.args.bytes.now 0 0 c.args.bytes.now l.items _ _ (omega arith) l.leads)

pub returns-in-None-clause-few : goal.returns-in-None-clause-few
returns-in-None-clause-few c =
    let l : Lexes c.args.file c.args.bytes.now c.in_ok-tokens.field-0.tokens.items = subst (AreUpTo c.args.file c.args.bytes.now c.in_ok-tokens.field-0.tokens.items) c.in-None.is c.in_ok-tokens.ensures.tokens in
    omega (arith, ap length l.lexemes, few c.args.file c.args.bytes.now 0 c.args.bytes.now l.items _ _ l.leads)

pub returns-in-None-clause-weight : goal.returns-in-None-clause-weight
returns-in-None-clause-weight c =
    let l : Lexes c.args.file c.args.bytes.now c.in_ok-tokens.field-0.tokens.items = subst (AreUpTo c.args.file c.args.bytes.now c.in_ok-tokens.field-0.tokens.items) c.in-None.is c.in_ok-tokens.ensures.tokens in
    omega (arith, ap weights l.lexemes, tokens_weigh c.args.file c.args.bytes.now 0 c.args.bytes.now l.items _ _ l.leads)
