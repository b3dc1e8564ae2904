-- A folded program runs as the original program does: with the same end, output and remaining input, and with no cost counter (meter) greater.
use Rattle.std.proofs.Common.{◌≡◌, ◌++◌, ℕ, ◌≤◌, List, [], ◌∷◌, map, length, Option, Some, ap, sym, ◌∙◌, refl, subst, arith}
use Rattle.std.specs.Prelude.{codes}
use Rattle.cool_classes.specs.declared.class_id.ClassId.{ClassId}
use Rattle.cool_classes.specs.declared.method.MethodRef.{MethodRef}
use Rattle.cool_classes.specs.Chains.{Class}
use Rattle.cool_classes.specs.Features.{implementation, formals_of}
use Rattle.cool_rules.specs.TypedTables.{IsTypedTable}
use Rattle.cool_meaning.specs.Values.{Value, Void, class_of}
use Rattle.cool_meaning.specs.Meters.{Error, NoBranch, Aborted, give, DispatchVoid}
use Rattle.cool_classes.specs.ClimbedChains.{chain as chain_of}
use Rattle.cool_meaning.specs.Evaluation.{class_or, same, make, eval}
use Rattle.cool_rules.proofs.ChainsOfTables.{below_itself, implementation_below}
use Rattle.cool_classes.proofs.ChainsOfTables.{chain_is}
use Rattle.cool_rules.proofs.NamesOfTables.{class_by_name}
use Rattle.cool_meaning.specs.FittingValues.{Fits, AllFit, meant}
use Rattle.cool_meaning.proofs.FittingValues.{still_fits, class_fits}
use Rattle.cool_meaning.proofs.SoundComputations.{Sound, give_sound}
use Rattle.cool_rules.specs.Rules.{class_named}
use Rattle.cool_meaning.proofs.SoundParts.{class_or_sound, make_sound}
use Rattle.cool_meaning.specs.Meters.{Metered, Outcome, Val, Stop, On, Stuck}
use Rattle.cool_fold.proofs.NoMoreMeters.{NoMore, Keeps, keeps_same, bind_keeps, holding_keeps, rule_keeps}
use Rattle.cool_syntax.specs.Bare.{nowhere}
use Rattle.cool_classes.specs.Chains.{IsChain}
use Rattle.cool_classes.specs.Features.{first_of, own_method}
use Rattle.cool_meaning.specs.Values.{start}
use Rattle.cool_meaning.specs.Evaluation.{calls_within}
use Rattle.cool_meaning.specs.SourceRun.{error_text, main_call, run_of, run}
use Rattle.cool_meaning.proofs.SoundRuns.{within_sound}
use Rattle.cool_fold.specs.Folding.{fold_table}
use Rattle.cool_fold.proofs.FoldedCalls.{AllCallsKeep, make_keeps, dispatch_keeps}
use Rattle.cool_fold.proofs.FoldedTables.{tables_same}
use Rattle.cool_fold.specs.Laws.{NoMoreRun}
use Rattle.cool_fold.proofs.FoldedRuns.{within_keeps}
use Rattle.cool_meaning.specs.SourceRun.{line, place_text}

module _ (p : List Class) (typed : IsTypedTable p) where
  -- the call of a program keeps the meaning
  main_keeps : (n : ℕ) → Keeps p n [] (eval p (calls_within p n) Void [] main_call) (eval (fold_table p) (calls_within (fold_table p) n) Void [] main_call)
  main_keeps n =
      let main = typed.lawful.main in
      let calls = calls_within p n in
      let calls' = calls_within (fold_table p) n in
      let sound = within_sound p typed n in
      let keep : AllCallsKeep p calls calls' n = λ m less. within_keeps p typed n m less in
      rule_keeps (bind_keeps {Q = λ w vs. vs ≡ []} (give_sound {Q = λ w vs. vs ≡ []} [] refl) (keeps_same (give [])) (λ w1 vs g1 none. holding_keeps (length vs) (
      bind_keeps {Q = λ w v. Fits p w v main.class} (subst (λ (o : Option ClassId). Sound p n w1 (λ w v. Fits p w v main.class) (make p calls o)) (sym (class_by_name p typed.whole.table main.class (codes "Main") main.within main.name))
      (make_sound p typed calls n sound w1 main.class main.within))
      (subst (λ (o : Option ClassId). Keeps p n w1 (make p calls (class_named p (codes "Main"))) (make (fold_table p) calls' o)) (sym ((tables_same p).classes (codes "Main")))
      (subst (λ (o : Option ClassId). Keeps p n w1 (make p calls o) (make (fold_table p) calls' o)) (sym (class_by_name p typed.whole.table main.class (codes "Main") main.within main.name))
      (make_keeps p (fold_table p) typed (tables_same p) calls calls' n sound keep w1 main.class main.within))) (λ w2 v g2 fit.
      bind_keeps {Q = λ w' k. class_of v ≡ Some k} (class_or_sound (DispatchVoid nowhere) v) (keeps_same (class_or (DispatchVoid nowhere) v)) (λ w3 j g3 is.
      let (below, j_within, fine) = class_fits p typed w3 v main.class j (still_fits p w2 w3 g3 v main.class fit) is in
      let (m, here, same) = implementation_below p typed j main.class (chain_of p j) (chain_of p main.class) (codes "main") main.method j_within below (chain_is p j typed.whole.table j_within) (chain_is p main.class typed.whole.table main.within)
      (first_own main.class (chain_of p main.class) (chain_is p main.class typed.whole.table main.within) main.method main.own) in
      dispatch_keeps p (fold_table p) typed (tables_same p) calls calls' n sound keep w3 nowhere j j j (codes "main") v vs m is j_within fine (below_itself p typed.whole j j_within) j_within here here
      (subst (λ (xs : List Value). AllFit p w3 xs (map (meant p j) (formals_of p m))) (sym none) (subst (λ (ys : List (List ℕ)). AllFit p w3 [] (map (meant p j) ys)) (sym (same.formals ∙ main.formals)) tt)))))))
    where
      first_own : (c : ClassId) (ds : List ClassId) → IsChain p (Some c) ds → (x : MethodRef) → own_method p c (codes "main") ≡ Some x → implementation p ds (codes "main") ≡ Some x
      first_own c [] chain x e = absurd chain
      first_own c (d ∷ ds) chain x e = ap (λ (o : Option MethodRef). first_of o (implementation p ds (codes "main"))) (ap (λ (y : ClassId). own_method p y (codes "main")) chain.0 ∙ e)

error_same : (p : List Class) (names : List (List ℕ)) (x : Error) → error_text (fold_table p) names x ≡ error_text p names x
error_same p names (NoBranch at c) = ap (λ (n : List ℕ). line (place_text names at ++ (codes "No matching branch for class " ++ (n ++ codes ".")))) ((tables_same p).names c)
error_same p names (Aborted c) = ap (λ (n : List ℕ). line (codes "Abort called from class " ++ n)) ((tables_same p).names c)
error_same p names _ = refl

ends_same : (p : List Class) (names : List (List ℕ)) (o : Outcome Value) (a b c a' b' c' : ℕ) → a' ≤ a → b' ≤ b → c' ≤ c → NoMoreRun (run_of p names o a b c) (run_of (fold_table p) names o a' b' c')
ends_same p names (Val v s n) a b c a' b' c' la lb lc = record { end = refl; output = refl; left = refl; work = omega arith; words = lb; peak = lc }
ends_same p names (Stop e s) a b c a' b' c' la lb lc = record { end = refl; output = ap (λ (t : List ℕ). s.output ++ t) (error_same p names e); left = refl; work = omega arith; words = lb; peak = lc }
ends_same p names (On s) a b c a' b' c' la lb lc = record { end = refl; output = refl; left = refl; work = omega arith; words = lb; peak = lc }
ends_same p names Stuck a b c a' b' c' la lb lc = record { end = refl; output = refl; left = refl; work = omega arith; words = lb; peak = lc }

-- the run of the folded program
pub folded_run : (p : List Class) → IsTypedTable p → (names : List (List ℕ)) (input : List ℕ) (n : ℕ) → NoMoreRun (run p names input n) (run (fold_table p) names input n)
unfolding run
folded_run p typed names input n =
    let m : Metered Value = eval p (calls_within p n) Void [] main_call (start input) n in
    let m' : Metered Value = eval (fold_table p) (calls_within (fold_table p) n) Void [] main_call (start input) n in
    let h : NoMore m m' = (main_keeps p typed n).keeps (start input) n (omega arith) tt in
    subst (λ (o : Outcome Value). NoMoreRun (run_of p names m.outcome m.work m.words m.peak) (run_of (fold_table p) names o m'.work m'.words m'.peak)) (sym h.outcome)
    (ends_same p names m.outcome m.work m.words m.peak m'.work m'.words m'.peak h.work h.words h.peak)
