use Rattle.std.proofs.Common.{◌≡◌, ◌+◌, ℕ, List, [], ◌∷◌, length, drop, refl, arith, suc, zero}
use Rattle.cool_syntax.specs.Lexemes.{mark, Plain}
use Rattle.cool_lexer.proofs.comment.mark_at.Goals as goal

-- the last byte is no mark
last_plain : (bs : List ℕ) (k : ℕ) → k + 1 ≡ length bs → Plain ≡ mark (drop k bs)
last_plain [] k h = absurd (omega arith)
last_plain (b ∷ []) zero h = refl
last_plain (b ∷ c ∷ bs) zero h = absurd (omega arith)
last_plain (b ∷ bs) (suc k) h = last_plain bs k (omega arith)

pub returns-then-at-text : goal.returns-then-at-text
returns-then-at-text c = last_plain c.args.text.now c.args.at c.if-at-text.true
