-- The pieces that a run writes to its sink (output stream), one after another, are its whole output.
use Rattle.std.proofs.Common.{◌≡◌, ◌<◌, ℕ, zero, suc, ◌+◌, List, [], ◌++◌, ap, sym, ◌∙◌, refl, append-nil, arith}
use Rattle.std.specs.List.{concat}
use Rattle.std.proofs.lemmas.List.Folds.{concat-append}
use Rattle.cool_ports.specs.SinkPuts.{pieces_of}
use Rattle.cool_ports.proofs.PuttingPieces.{pieces_whole}
use Rattle.cool_classes.specs.Chains.{Class}
use Rattle.cool_rules.specs.TypedTables.{IsTypedTable}
use Rattle.cool_meaning.specs.Values.{Value, Void, State, start}
use Rattle.cool_meaning.specs.Meters.{Outcome, Val, Stop, On, Stuck, Metered}
use Rattle.cool_meaning.specs.Evaluation.{eval, calls_within}
use Rattle.cool_meaning.specs.SourceRun.{main_call, run}
use Rattle.cool_meaning.proofs.Later.{After}
use Rattle.cool_meaning.proofs.MoreSteps.{Longer}
use Rattle.cool_meaning.proofs.LongerEvaluation.{eval_alike}
use Rattle.cool_eval.specs.Ends.{last_line}
use Rattle.cool_eval.specs.Puts.{written_since, steps_puts, written, run_puts}
use Rattle.cool_eval.specs.Running.{outcome_of, output_of, IsNeverStuck}
use Rattle.cool_eval.proofs.PutsOfSteps.{text_since}
use Rattle.cool_eval.proofs.RunSoFar.{reached_output, main_focus, main_frames, main_reached}
use Rattle.cool_eval.proofs.RunEnds.{never_no_rule, written_is, written_whole}

-- an output has more behind one before it
abbrev Grows : List ℕ → List ℕ → Type 0
Grows before now = (more : List ℕ) × (now ≡ before ++ more)

grows_same : (before now : List ℕ) → now ≡ before → Grows before now
grows_same before now is = ([], is ∙ sym (append-nil before))

later_grows : (s : State) (o : Outcome Value) → (o ≡ Stuck → ⊥) → After s o → Grows s.output (output_of o)
later_grows s (Val v t n) some h = (h.printed, h.output)
later_grows s (Stop e t) some h = (h.printed, h.output)
later_grows s (On t) some h = (h.printed, h.output)
later_grows s Stuck some h = absurd (some refl)

longer_grows : (k : ℕ) (o : Outcome Value) (w g q : ℕ) (m : Metered Value) → (o ≡ Stuck → ⊥) → (m.outcome ≡ Stuck → ⊥)
    → Longer k o w g q m → Grows (output_of o) (output_of m.outcome)
longer_grows k (Val v t n) w g q m some later (n', e, is) =
    grows_same t.output (output_of m.outcome) (ap (λ (x : Metered Value). output_of x.outcome) is)
longer_grows k (Stop e t) w g q m some later is =
    grows_same t.output (output_of m.outcome) (ap (λ (x : Metered Value). output_of x.outcome) is)
longer_grows k (On t) w g q m some later on = later_grows t m.outcome later on.after
longer_grows k Stuck w g q m some later h = absurd (some refl)

-- with a step more a program prints the same and more
step_grows : (p : List Class) (input : List ℕ) → IsNeverStuck (outcome_of p input) → (n : ℕ)
    → Grows (output_of (outcome_of p input n)) (output_of (outcome_of p input (suc n)))
unfolding outcome_of
step_grows p input never n =
    let d = eval p (calls_within p n) Void [] main_call (start input) n in
    let d' = eval p (calls_within p (suc n)) Void [] main_call (start input) (suc n) in
    let more : suc n ≡ n + 1 = omega arith in
    longer_grows 1 d.outcome d.work d.words d.peak d' (never n) (never (suc n))
    ((eval_alike p n (suc n) 1 more Void [] main_call).alike (start input) n (suc n) 1 more).longer

-- if each output extends the one before it, the puts are the outputs
steps_whole : (output : ℕ → List ℕ) → output 0 ≡ [] → ((n : ℕ) → Grows (output n) (output (suc n))) → (n : ℕ)
    → concat (steps_puts output n) ≡ output n
steps_whole output none grows zero = sym none
steps_whole output none grows (suc n) =
    let (more, is) = grows n in
    let text : written_since (output n) (output (suc n)) ≡ more =
    ap (written_since (output n)) is ∙ text_since (output n) more in
    let some : 0 < 64 = omega arith in
    concat-append (steps_puts output n) (pieces_of 64 (written_since (output n) (output (suc n))))
    ∙ (ap (λ (xs : List ℕ). xs ++ concat (pieces_of 64 (written_since (output n) (output (suc n))))) (steps_whole output none grows n)
    ∙ (ap (λ (xs : List ℕ). output n ++ xs) (pieces_whole 64 (written_since (output n) (output (suc n))) some ∙ text) ∙ sym is))

-- all puts are all that is written
pub puts_whole : (p : List Class) → IsTypedTable p → (names : List (List ℕ)) (input : List ℕ) (steps : ℕ)
    → concat (run_puts p names input steps) ≡ (run p names input steps).output
puts_whole p typed names input steps =
    let never = never_no_rule p typed input in
    let output : ℕ → List ℕ = written p names input in
    let line : List ℕ = last_line p names (run p names input steps).end in
    let some : 0 < 64 = omega arith in
    let none : written p names input 0 ≡ [] =
    written_is p names input 0
    ∙ reached_output p input 0 main_focus main_frames (start input) (main_reached p input) never in
    let grows : (n : ℕ) → Grows (written p names input n) (written p names input (suc n)) =
    λ n.
    let (more, is) = step_grows p input never n in (
      more,
      written_is p names input (suc n) ∙ (is ∙ ap (λ (xs : List ℕ). xs ++ more) (sym (written_is p names input n))),
    ) in
    concat-append (steps_puts (written p names input) steps) (pieces_of 64 line)
    ∙ (ap (λ (xs : List ℕ). xs ++ concat (pieces_of 64 line)) (steps_whole (written p names input) none grows steps)
    ∙ (ap (λ (xs : List ℕ). written p names input steps ++ xs) (pieces_whole 64 line some) ∙ sym (written_whole p names input never steps)))
