-- The debugger's count of output bytes stays right with each further write, up to the greatest value of the count.
use Rattle.std.proofs.Common.{◌≡◌, ◌∙◌, ap, arith, ℕ, ◌+◌, List, [], ◌∷◌, ◌++◌, append-nil, length}
use Rattle.std.specs.Prelude.{min}
use Rattle.std.specs.List.{concat}
use Rattle.std.proofs.lemmas.List.{length-append}
use Rattle.std.proofs.lemmas.List.Folds.{concat-append}
use Rattle.spim_debug.specs.ByteCounts.{counted}

-- one more put
pub length_more : (puts : List (List ℕ)) (bytes : List ℕ) → length (concat (puts ++ bytes ∷ [])) ≡ length (concat puts) + length bytes
length_more puts bytes =
    ap length (concat-append puts (bytes ∷ []) ∙ ap (λ (more : List ℕ). concat puts ++ more) (append-nil bytes)) ∙ length-append (concat puts) bytes

pub counted_more : (before : ℕ) (puts after : List (List ℕ)) (bytes : List ℕ) (size count : ℕ) → before ≡ counted (length (concat puts)) → after ≡ puts ++ bytes ∷ [] → size ≡ length bytes
    → count ≡ min (before + size) 18446744073709551615 → count ≡ counted (length (concat after))
counted_more before puts after bytes size count was is same sum =
    let more : length (concat after) ≡ length (concat puts) + length bytes = ap (λ (ps : List (List ℕ)). length (concat ps)) is ∙ length_more puts bytes in
    grind (arith, was, more, same, sum)
