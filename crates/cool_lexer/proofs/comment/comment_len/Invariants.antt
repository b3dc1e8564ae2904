use Rattle.std.proofs.Common.{length, ◌-◌, ◌≡◌, ◌+◌, ◌≤◌, drop}
use Rattle.std.specs.Prelude.{option_map}
use Rattle.cool_syntax.specs.Lexemes as lexemes
use Rattle.cool_lexer.proofs.comment.comment_len.Given as goal

abbrev pub invariant-loop-at : goal.invariant-loop-at
invariant-loop-at l = record {
  within : l.at ≤ length l.inside;
  open_still : 1 ≤ l.depth;
  few : l.depth ≤ l.at + 1;
  rest : option_map (λ n. n + l.at) (lexemes.comment_size l.depth 0 (drop l.at l.inside)) ≡ lexemes.comment_size 1 0 l.inside;
}

abbrev pub decreases-loop-at : goal.decreases-loop-at
decreases-loop-at l = length l.inside - l.at
