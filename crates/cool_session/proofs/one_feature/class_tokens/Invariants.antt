-- In the loop of `class_tokens`, the tokens so far are the head of a class and the first i tokens of the feature.
use Rattle.std.proofs.Common.{◌≡◌, [], ◌∷◌, take}
use Rattle.cool_syntax.specs.declared.token.Key.TheVariants as key
use Rattle.cool_syntax.specs.declared.token.Sign.TheVariants as sign
use Rattle.cool_syntax.specs.Readings.{symbol, type, word}
use Rattle.cool_session.proofs.one_feature.class_tokens.Given as goal
use Rattle.cool_syntax.specs.Bare.{nowhere}

abbrev pub invariant-loop-i : goal.invariant-loop-i
invariant-loop-i l = record {
  copied : l.all.items
      ≡ word key.Class nowhere ∷ type (record { name = []; at = nowhere }) ∷ symbol sign.LBrace nowhere ∷ take l.i l.tokens;
}
