-- `names_text` returns the rows of debug information for the latest `count` names in scope; each step of its loop appends the row of one name and removes the
-- name.
use Rattle.std.proofs.Common.{◌≡◌, ◌∙◌, ◌+◌, ◌-◌, ◌≤◌, ◌<◌, ◌++◌, ◌∷◌, ℕ, suc, List, [], flat_map, length, take, ap, ap₂, sym, refl, append_assoc, arith}
use Rattle.std.specs.Prelude.{codes}
use Rattle.cool_codegen.specs.Variables.{Named}
use Rattle.cool_emit.specs.TableLines.{named_text}
use Rattle.cool_emit.proofs.code_table.names_text.Goals as goal

-- the line of the first of some names, and those of the others
one_less : (line : Named → List ℕ) (k n : ℕ) (vs rest : List Named) (text more : List ℕ) (all : List ℕ) → n < k → k - n ≤ length vs
    → ((v : Named) (ws : List Named) → vs ≡ v ∷ ws → (rest ≡ ws) × (more ≡ text ++ line v))
    → text ++ flat_map line (take (k - n) vs) ≡ all → (k - (n + 1) ≤ length rest) × (more ++ flat_map line (take (k - (n + 1)) rest) ≡ all)
one_less line k n [] rest text more all less few step is = absurd (omega arith)
one_less line k n (v ∷ ws) rest text more all less few step is =
    let (left, told) = step v ws refl in
    let m : k - n ≡ suc (k - (n + 1)) = omega arith in
    let long : length rest ≡ length ws = ap length left in (
      omega arith,
      ap₂ (λ (t : List ℕ) (us : List Named). t ++ flat_map line (take (k - (n + 1)) us)) told left
          ∙ append_assoc text (line v) _
          ∙ ap (λ (j : ℕ). text ++ flat_map line (take j (v ∷ ws))) (sym m)
          ∙ is,
    )

pub loop-number-preserved : goal.loop-number-preserved
loop-number-preserved c =
    let (few, text) =
    one_less (λ v. c.args.words.now ++ (named_text c.args.emission.now.program.now v ++ codes "\n")) c.args.count c.loop-number.number c.loop-number.names c.add_name.new.names
    c.loop-number.text.items c.add_name.new.text.items _ c.loop-number-test.true c.loop-number.invariant.few c.in_ok-add_name.ensures c.loop-number.invariant.text in
    record { few = few; text = text }
