-- The generated lines for the numbers 1 to k + 1 are those for 1 to k, and then the line for k + 1.
use Rattle.std.proofs.Common.{◌≡◌, ℕ, suc, ◌+◌, ◌++◌, ap, ◌∙◌, arith}
use Rattle.cool_big.specs.declared.line.Line.{Line}
use Rattle.cool_big.specs.BigPrograms.{line_text, line_texts}
use Rattle.lists.proofs.JoinedLists.{flat_more}

-- the lines up to a number, and that of the next
pub one_more : (line : Line) (k : ℕ) → line_texts line (suc k) ≡ line_texts line k ++ line_text line (suc k)
one_more line k =
    let next : 1 + k ≡ suc k = omega arith in
    flat_more (line_text line) 1 k ∙ ap (λ (i : ℕ). line_texts line k ++ line_text line i) next
