-- No source files are both free of errors before type checking and rejected by a phase before type checking.
use Rattle.std.proofs.Common.{◌≡◌, inl, inr, ℕ, List, [], ◌∷◌, map, Contains, sym, refl, subst}
use Rattle.std.specs.List.{AllByRecursion}
use Rattle.std.specs.List.Sorted.{IsPermutation}
use Rattle.std.proofs.lemmas.List.Sorted.{Contains-permutation, IsPermutation-sym}
use Rattle.cool_classes.specs.ClassFaults.{classes_meant}
use Rattle.cool_classes.specs.Definitions.{definitions}
use Rattle.cool_check.specs.declared.fault.TypeFault.{TypeFault}
use Rattle.cool_check.specs.TypingFaults.{typing_faults}
use Rattle.cool_faults.specs.declared.fault.Fault.{Fault}
use Rattle.cool_faults.specs.declared.fault.Fault.TheVariants.{Typing}
use Rattle.cool_faults.specs.declared.fault.Untyped.{Untyped}
use Rattle.cool_faults.specs.Untyped.{IsEarly, IsRefusedEarly, IsUntyped}
use Rattle.cool_faults.specs.Verdicts.{IsFaultList, faultless, faulty}
use Rattle.cool_faults.proofs.OneVerdict.{nothing_but_typing}
use Rattle.cool_faults.proofs.RowsOfFiles.{has_nothing}
use Rattle.cool_faults.proofs.SyntaxFaults.{are_trees}
use Rattle.cool_faults.proofs.VerdictsOfPhases.{files_whole}
use Rattle.lists.proofs.Membership.{first_there, contains_cases}

-- no fault of a phase before typing is among those of typing
early_among : (fs : List TypeFault) (f : Fault) → IsEarly f → Contains (map Typing fs) f → ⊥
early_among [] f early there = has_nothing f there
early_among (g ∷ fs) f early there =
    elim (contains_cases (Typing g) f (map Typing fs) there) [
      | inl e ↦ subst IsEarly (sym e) early
      | inr rest ↦ early_among fs f early rest
    ]

no_typing : (fs : List TypeFault) (faults : List Fault) → AllByRecursion IsEarly faults → IsPermutation (map Typing fs) faults → faults ≡ []
no_typing fs [] early moved = refl
no_typing fs (f ∷ faults) early moved =
    let back = IsPermutation-sym (map Typing fs) (f ∷ faults) moved in
    absurd (early_among fs f early.0 (Contains-permutation (f ∷ faults) (map Typing fs) f back (first_there f faults)))

-- files without a fault before typing have no fault list of phases before it, but an empty one
none_early : (files : List (List ℕ)) (u : Untyped) (faults : List Fault) → IsUntyped files u → AllByRecursion IsEarly faults → IsFaultList files faults
    → faults ≡ []
none_early files u faults is early (faultless a) = refl
none_early files u faults is early (faulty fs some phase order) =
    nothing_but_typing files faults is.trees (are_trees 0 files is.trees (files_whole files u.lexed.items is.trees is.lexed is.parsed)) is.classes
    is.features
    (λ ts trees moved. no_typing (typing_faults (classes_meant (definitions ts))) faults early moved)
    phase

pub never_both_untyped : (files : List (List ℕ)) (u : Untyped) (faults : List Fault) → IsUntyped files u → IsRefusedEarly files faults → ⊥
never_both_untyped files u faults is r = r.refused.some (none_early files u faults is r.early r.refused.list)
