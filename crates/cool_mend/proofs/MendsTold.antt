-- If the edits of the explanations so far fix their compile-time errors, and the edit of the next explanation fixes the next error, then all of them do.
use Rattle.std.proofs.Common.{◌≡◌, ℕ, ◌+◌, ◌<◌, suc, List, [], ◌∷◌, ◌++◌, length, get_or, map, take, arith, subst, sym, ap, ◌∙◌}
use Rattle.std.proofs.lemmas.List.{length-map, length-take, map_push, take_more}
use Rattle.std.specs.List.{AllByRecursion}
use Rattle.cool_faults.specs.declared.fault.Fault.{Fault}
use Rattle.cool_mend.specs.declared.explanation.Explanation.{Explanation}
use Rattle.cool_mend.specs.Explanations.{AreMends, IsMend}

-- the next one's mend is of the fault of the next number
pub mends_pushed : (files : List (List ℕ)) (faults : List Fault) (from next : ℕ) (xs : List Explanation) (x : Explanation) → from + length xs ≡ next
    → AreMends files faults from xs → AllByRecursion (IsMend files faults next) x.mends.items → AreMends files faults from (xs ++ x ∷ [])
mends_pushed files faults from next [] x e are is = (subst (λ (n : ℕ). AllByRecursion (IsMend files faults n) x.mends.items) (sym (omega (arith, e))) is, tt)
mends_pushed files faults from next (y ∷ xs) x e are is =
    (are.0, mends_pushed files faults (suc from) next xs x (omega (arith, e)) are.1 is)

-- the next one is that of the next fault, where those so far are of those in front of it
pub mends_next : (files : List (List ℕ)) (faults : List Fault) (next : ℕ) (xs : List Explanation) (x : Explanation) → next < length faults → map (λ (x : Explanation). x.fault) xs ≡ take next faults
    → AreMends files faults 0 xs → AllByRecursion (IsMend files faults next) x.mends.items → AreMends files faults 0 (xs ++ x ∷ [])
mends_next files faults next xs x within each are is =
    mends_pushed files faults 0 next xs x (omega (arith, length-map xs (λ (x : Explanation). x.fault), ap length each, length-take next faults)) are is

-- a property of each fault holds of each explanation's fault
pub of_faults : (P : Fault → Type 0) (xs : List Explanation) (faults : List Fault) → map (λ (x : Explanation). x.fault) xs ≡ faults → AllByRecursion P faults → AllByRecursion (λ (x : Explanation). P x.fault) xs
of_faults P xs faults is all = by xs (subst (AllByRecursion P) (sym is) all) where
  by : (ys : List Explanation) → AllByRecursion P (map (λ (x : Explanation). x.fault) ys) → AllByRecursion (λ (x : Explanation). P x.fault) ys
  by [] h = tt
  by (y ∷ ys) h = (h.0, by ys h.1)

-- the faults of the explanations so far and of the next one
pub faults_next : (faults : List Fault) (next : ℕ) (f d : Fault) (xs : List Explanation) (x : Explanation) → next < length faults → f ≡ get_or faults next d → map (λ (x : Explanation). x.fault) xs ≡ take next faults → x.fault ≡ f
    → map (λ (x : Explanation). x.fault) (xs ++ x ∷ []) ≡ take (next + 1) faults
faults_next faults next f d xs x within is each same =
    map_push (λ (x : Explanation). x.fault) xs x ∙ ap (λ (l : List Fault). l ++ x.fault ∷ []) each ∙ ap (λ (g : Fault). take next faults ++ g ∷ []) (same ∙ is) ∙ sym (take_more faults next d within)
