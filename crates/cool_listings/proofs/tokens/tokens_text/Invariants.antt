-- In the loop of `tokens_text`, the text so far, followed by the lines of the tokens that are left, is the text of all tokens.
use Rattle.std.proofs.Common.{◌≡◌, ◌++◌, drop, flat_map}
use Rattle.cool_listings.specs.TokenLines.{token_line}
use Rattle.cool_listings.proofs.tokens.tokens_text.Given as goal

abbrev pub invariant-loop-token : goal.invariant-loop-token
invariant-loop-token l = l.text.items ++ flat_map token_line (drop l.token-index l.tokens) ≡ flat_map token_line l.tokens
