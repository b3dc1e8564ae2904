-- The results and errors of a phase for the inputs so far, followed by those for the inputs that are left, are its results and errors for all inputs.
use Rattle.std.proofs.Common.{◌≡◌, inl, inr, ℕ, ◌+◌, List, [], ◌∷◌, ◌++◌, ap, sym, ◌∙◌, refl, subst, append_assoc}
use Rattle.std.proofs.lemmas.List.{append-nil}
use Rattle.std.specs.Prelude.{Result, Ok, Err, MatchResult}
use Rattle.std.specs.Global.{Vec}
use Rattle.cool_faults.specs.declared.fault.Fault.{Fault}
use Rattle.cool_faults.specs.declared.fault.Refusal.{Refusal}
use Rattle.cool_faults.specs.declared.fault.Refusal.TheVariants as refusal
use Rattle.cool_faults.specs.declared.findings.Findings.{Findings}
use Rattle.cool_faults.specs.Phases.{AreFound, none, good, bad, Adds, AreFaultsFound, AreFaultsOf}

-- the findings so far, followed by whatever is found in the rest, are the findings
abbrev pub GoesOn : {I T : Type 0} → (ℕ → I → T → Type 0) → (ℕ → I → Fault → Type 0) → List I → ℕ → List I → Findings T → Type 0
GoesOn {I} {T} IsGood IsBad all i left found =
    (ts : List T) (fs : List Fault) → AreFound IsGood IsBad i left ts fs → AreFound IsGood IsBad 0 all (found.results ++ ts) (found.faults ++ fs)

-- equal lists are found where equal ones are
found_same : {I T : Type 0} (IsGood : ℕ → I → T → Type 0) (IsBad : ℕ → I → Fault → Type 0) (all : List I) (ts us : List T) (fs gs : List Fault)
    → ts ≡ us → fs ≡ gs → AreFound IsGood IsBad 0 all ts fs → AreFound IsGood IsBad 0 all us gs
found_same {I} {T} IsGood IsBad all ts us fs gs e f h =
    subst (λ (vs : List T). AreFound IsGood IsBad 0 all vs gs) e (subst (λ (hs : List Fault). AreFound IsGood IsBad 0 all ts hs) f h)

-- one more item at the end of a list stands before what follows
one_more : {X : Type 0} (old new : List X) (x : X) (xs : List X) → new ≡ old ++ x ∷ [] → old ++ (x ∷ xs) ≡ new ++ xs
one_more {X} old new x xs e = sym (ap (λ (l : List X). l ++ xs) e ∙ append_assoc old (x ∷ []) xs)

-- one finding more goes on after its input
pub found_more : {I T : Type 0} (IsGood : ℕ → I → T → Type 0) (IsBad : ℕ → I → Fault → Type 0) (all : List I) (i : ℕ) (here left : List I) (x : I) (old new : Findings T)
    → here ≡ x ∷ left → GoesOn IsGood IsBad all i here old → Adds (IsGood i x) (IsBad i x) old new → GoesOn IsGood IsBad all (i + 1) left new
found_more {I} {T} IsGood IsBad all i here left x old new e h (inl (t, g, r, f)) =
    λ ts fs rest.
    let long : AreFound IsGood IsBad i (x ∷ left) (t ∷ ts) fs = good i x left t ts fs g rest in
    let before : AreFound IsGood IsBad i here (t ∷ ts) fs = subst (λ (l : List I). AreFound IsGood IsBad i l (t ∷ ts) fs) (sym e) long in
    found_same IsGood IsBad all (old.results ++ (t ∷ ts)) (new.results ++ ts) (old.faults ++ fs) (new.faults ++ fs) (one_more old.results new.results t ts r)
    (ap (λ (l : List Fault). l ++ fs) (sym f)) (h (t ∷ ts) fs before)
found_more {I} {T} IsGood IsBad all i here left x old new e h (inr (f, b, r, s)) =
    λ ts fs rest.
    let long : AreFound IsGood IsBad i (x ∷ left) ts (f ∷ fs) = bad i x left f ts fs b rest in
    let before : AreFound IsGood IsBad i here ts (f ∷ fs) = subst (λ (l : List I). AreFound IsGood IsBad i l ts (f ∷ fs)) (sym e) long in
    found_same IsGood IsBad all (old.results ++ ts) (new.results ++ ts) (old.faults ++ (f ∷ fs)) (new.faults ++ fs) (ap (λ (l : List T). l ++ ts) (sym r))
    (one_more old.faults new.faults f fs s) (h ts (f ∷ fs) before)

-- with no input left, this is what is found
pub found_end : {I T : Type 0} (IsGood : ℕ → I → T → Type 0) (IsBad : ℕ → I → Fault → Type 0) (all : List I) (i : ℕ) (left : List I) (found : Findings T)
    → left ≡ [] → GoesOn IsGood IsBad all i left found → AreFound IsGood IsBad 0 all found.results found.faults
found_end {I} {T} IsGood IsBad all i left found e h =
    let last : AreFound IsGood IsBad i left [] [] = subst (λ (l : List I). AreFound IsGood IsBad i l [] []) (sym e) (none i) in
    found_same IsGood IsBad all (found.results ++ []) found.results (found.faults ++ []) found.faults (append-nil found.results) (append-nil found.faults) (h [] [] last)

-- with no faults, all results are found
pub results_found : {I T : Type 0} (IsGood : ℕ → I → T → Type 0) (IsBad : ℕ → I → Fault → Type 0) (all : List I) (ts us : List T) (fs : List Fault)
    → AreFound IsGood IsBad 0 all ts fs → (fs ≡ []) × (us ≡ ts) → AreFound IsGood IsBad 0 all us []
results_found IsGood IsBad all ts us fs h e = found_same IsGood IsBad all ts us fs [] (sym e.1) e.0 h

-- the faults of a refusal are those that are found
pub faults_found : {I T : Type 0} (IsGood : ℕ → I → T → Type 0) (IsBad : ℕ → I → Fault → Type 0) (all : List I) (ts : List T) (fs : List Fault) (e : Refusal)
    → AreFound IsGood IsBad 0 all ts fs → AreFaultsOf fs e → AreFaultsFound IsGood IsBad all e
faults_found IsGood IsBad all ts fs refusal.Memory h e = tt
faults_found IsGood IsBad all ts fs (refusal.Faults faults) h e = (e.0, (ts, found_same IsGood IsBad all ts ts fs faults refl (sym e.1) h))

-- the outcome of findings is all of their results, or their faults
pub outcome_found : {I T : Type 0} (IsGood : ℕ → I → T → Type 0) (IsBad : ℕ → I → Fault → Type 0) (all : List I) (ts : List T) (fs : List Fault) (r : Result (Vec T) Refusal)
    → AreFound IsGood IsBad 0 all ts fs → MatchResult r (λ us. (fs ≡ []) × (us.items ≡ ts)) (AreFaultsOf fs)
    → MatchResult r (λ us. AreFound IsGood IsBad 0 all us.items []) (AreFaultsFound IsGood IsBad all)
outcome_found IsGood IsBad all ts fs (Ok us) h e = results_found IsGood IsBad all ts us.items fs h e
outcome_found IsGood IsBad all ts fs (Err error) h e = faults_found IsGood IsBad all ts fs error h e

-- each input has its result
abbrev pub AllFound : {I T : Type 0} → (ℕ → I → T → Type 0) → ℕ → List I → List T → Type 0
AllFound IsGood i [] [] = Unit {0}
AllFound IsGood i [] (t ∷ ts) = ⊥
AllFound IsGood i (x ∷ xs) [] = ⊥
AllFound IsGood i (x ∷ xs) (t ∷ ts) = IsGood i x t × AllFound IsGood (i + 1) xs ts

-- with no faults each input has its result
pub all_found : {I T : Type 0} (IsGood : ℕ → I → T → Type 0) (IsBad : ℕ → I → Fault → Type 0) {i : ℕ} {xs : List I} {ts : List T} {fs : List Fault}
    → AreFound IsGood IsBad i xs ts fs → fs ≡ [] → AllFound IsGood i xs ts
all_found IsGood IsBad (none i) e = tt
all_found IsGood IsBad (good i x xs t ts fs g rest) e = (g, all_found IsGood IsBad rest e)
all_found IsGood IsBad (bad i x xs f ts fs b rest) e = absurd (cc)
