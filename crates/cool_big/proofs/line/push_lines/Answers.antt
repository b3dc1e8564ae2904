-- `push_lines` appends one generated line for each number from 1 to n, because each iteration of its loop appends the line of the next number.
use Rattle.std.proofs.Common.{◌≡◌, ℕ, suc, ◌+◌, ◌-◌, List, ◌++◌, ap, ◌∙◌, sym, append_assoc, arith}
use Rattle.cool_big.specs.BigPrograms.{line_text, line_texts}
use Rattle.cool_big.proofs.LinesInOrder.{one_more}
use Rattle.cool_big.proofs.line.push_lines.Goals as goal

pub loop-number-preserved : goal.loop-number-preserved
loop-number-preserved c =
    let before : ℕ = c.loop-number.number - 1 in
    let low = c.loop-number.invariant.0 in
    let number : c.loop-number.number ≡ suc before = omega arith in
    let after : suc before ≡ c.loop-number.number + 1 - 1 = omega arith in
    let old : List ℕ = c.args.text.now.items in
    let lines : ℕ → List ℕ = line_texts c.args.line in
    let line : ℕ → List ℕ = line_text c.args.line in (
      omega arith,
      c.in_ok-push_line.ensures ∙ ap (λ (l : List ℕ). l ++ line c.loop-number.number) c.loop-number.invariant.1
          ∙ ap (λ (i : ℕ). (old ++ lines before) ++ line i) number
          ∙ append_assoc old (lines before) (line (suc before))
          ∙ ap (λ (l : List ℕ). old ++ l) (sym (one_more c.args.line before))
          ∙ ap (λ (i : ℕ). old ++ lines i) after,
    )
