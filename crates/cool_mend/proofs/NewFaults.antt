-- Lemmas on the compile-time errors of files that are told after fixes: one more error is passed, and one more step is made.
use Rattle.std.proofs.Common.{◌≡◌, ℕ, ◌+◌, ◌<◌, List, [], ◌∷◌, ◌++◌, length, get_or, take, Bool, true, false, cond, not, refl, subst, sym, ap, ◌∙◌}
use Rattle.std.specs.Prelude.{IfSome, Option, Some}
use Rattle.std.specs.List.{AllByRecursion, list_any}
use Rattle.std.proofs.lemmas.List.{take_more}
use Rattle.std.proofs.lemmas.List.Elements.{filter-append}
use Rattle.cool_faults.specs.Files.{bytes_of}
use Rattle.cool_faults.specs.declared.fault.Fault.{Fault}
use Rattle.cool_mend.specs.declared.explanation.AfterFixes.{AfterFixes}
use Rattle.cool_mend.specs.declared.explanation.Explanation.{Explanation}
use Rattle.cool_mend.specs.declared.explanation.Origin.{Origin}
use Rattle.cool_mend.specs.declared.shift.Shift.{Shift}
use Rattle.cool_mend.specs.AfterFixes.{AreAfterFixes, AreExplainedNew, IsAfterFixes, Progress, after, is_new, is_same, new_faults, origin_of}
use Rattle.cool_mend.specs.declared.after_fixes.New.{New}
use Rattle.cool_mend.proofs.EditsMade.{many_made}
use Rattle.cool_mend.proofs.MendsTold.{of_faults}

-- a fault that comes from a place where none was told is the last one of the new faults among those up to it
pub new_taken : (told : List Origin) (shifts : List Shift) (faults : List Fault) (n : ℕ) (f : Fault) → n < length faults → f ≡ get_or faults n f → list_any (is_same (origin_of shifts f)) told ≡ false
    → new_faults told shifts (take (n + 1) faults) ≡ new_faults told shifts (take n faults) ++ f ∷ []
new_taken told shifts faults n f within is known =
    ap (new_faults told shifts) (take_more faults n f within ∙ ap (λ (g : Fault). take n faults ++ g ∷ []) (sym is)) ∙ filter-append (is_new told shifts) (take n faults) (f ∷ [])
    ∙ ap (λ (b : Bool). new_faults told shifts (take n faults) ++ cond (not b) (f ∷ []) []) known

-- where the same fault comes from, by the same shifts
pub origin_here : (o : Origin) (s t : List Shift) (f g : Fault) → o ≡ origin_of s f → s ≡ t → g ≡ f → o ≡ origin_of t g
origin_here o s t f g is same alike = is ∙ ap (λ (l : List Shift). origin_of l f) same ∙ ap (origin_of t) (sym alike)

-- progress after several steps
abbrev pub after_all : Progress → List AfterFixes → Progress
after_all p [] = p
after_all p (a ∷ rest) = after_all (after p a) rest

pub after_more : (steps : List AfterFixes) (a : AfterFixes) (p : Progress) → after_all p (steps ++ a ∷ []) ≡ after (after_all p steps) a
after_more [] a p = refl
after_more (x ∷ xs) a p = after_more xs a (after p x)

-- one more step
pub steps_more : (steps : List AfterFixes) (a : AfterFixes) (p : Progress) → AreAfterFixes p steps → IsAfterFixes (after_all p steps) a → AreAfterFixes p (steps ++ a ∷ [])
steps_more [] a p are is = (is, tt)
steps_more (x ∷ xs) a p are is = (are.0, steps_more xs a (after p x) are.1 is)

-- a property of all faults is one of the new faults
pub all_new : (P : Fault → Type 0) (told : List Origin) (shifts : List Shift) (faults : List Fault) → AllByRecursion P faults → AllByRecursion P (new_faults told shifts faults)
all_new P told shifts [] h = tt
all_new P told shifts (f ∷ fs) h = by (is_new told shifts f) (all_new P told shifts fs h.1) where
  by : (b : Bool) → AllByRecursion P (new_faults told shifts fs) → AllByRecursion P (cond b (f ∷ new_faults told shifts fs) (new_faults told shifts fs))
  by true rest = (h.0, rest)
  by false rest = rest

-- a property of all faults is one of the faults that are explained
pub all_explained : (P : Fault → Type 0) (answer : Option New) (new : New) (files : List (List ℕ)) (faults : List Fault) (shifts : List Shift) (told : List Origin) → answer ≡ Some new
    → IfSome answer (λ (n : New). AreExplainedNew files faults shifts told n.explanations.items n.origins.items) → AllByRecursion P faults → AllByRecursion (λ (x : Explanation). P x.fault) new.explanations.items
all_explained P answer new files faults shifts told is are all =
    of_faults P new.explanations.items (new_faults told shifts faults) (subst (λ (o : Option New). IfSome o (λ (n : New). AreExplainedNew files faults shifts told n.explanations.items n.origins.items)) is are).new
    (all_new P told shifts faults all)

-- the number of files stays the same
pub many_after : (steps : List AfterFixes) (p : Progress) → AreAfterFixes p steps → length (after_all p steps).files ≡ length p.files
many_after [] p are = refl
many_after (a ∷ rest) p are = many_after rest (after p a) are.1 ∙ many_made p.files p.explained a.edits.items (bytes_of a.files.items) are.0.made
