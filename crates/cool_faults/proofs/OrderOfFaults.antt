-- Errors in files of increasing number are sorted, and sorted errors of classes or of typing stay sorted as errors of files.
use Rattle.std.proofs.Common.{◌≡◌, ◌≢◌, inl, inr, ℕ, ◌+◌, ◌<◌, ◌≤◌, List, [], ◌∷◌, map, ap, refl, sym, subst, arith}
use Rattle.std.specs.List.{AllByRecursion}
use Rattle.std.proofs.lemmas.List.Sorted.{IsPermutation-map}
use Rattle.cool_syntax.specs.declared.file_tree.ClassDef.{ClassDef}
use Rattle.cool_syntax.specs.FaultOrder.{Standing, IsNoLater, AreInOrder}
use Rattle.cool_syntax.specs.TokenFacts.{IsPlaced}
use Rattle.cool_classes.specs.declared.fault.ClassFault.{ClassFault}
use Rattle.cool_classes.specs.declared.fault.TableError.TheVariants as error
use Rattle.cool_classes.specs.ClassFaults.{feature_phase, HasTableFaults}
use Rattle.cool_classes.specs.FaultLists as classes
use Rattle.cool_check.specs.declared.fault.TypeFault.{TypeFault}
use Rattle.cool_check.specs.Faults as typing
use Rattle.cool_faults.specs.declared.fault.Fault.{Fault}
use Rattle.cool_faults.specs.declared.fault.Fault.TheVariants.{Class as OfClasses, Typing}
use Rattle.cool_faults.specs.declared.fault.Refusal.TheVariants as refusal
use Rattle.cool_faults.specs.Phases.{AreTableFaults}
use Rattle.cool_faults.specs.Verdicts.{IsOfClasses, IsOfTyping, place_of, standing_of}

-- each fault stands in a file of a higher number than the one before, the first in this file or a later one; there are so many files
abbrev pub InRisingFiles : ℕ → ℕ → List Fault → Type 0
InRisingFiles count low [] = Unit {0}
InRisingFiles count low (f ∷ fs) = (low ≤ (place_of f).file) × IsPlaced count (place_of f) × InRisingFiles count ((place_of f).file + 1) fs

-- faults that rise from one file on do so from an earlier one
pub rising_lower : (count low high : ℕ) (fs : List Fault) → low ≤ high → InRisingFiles count high fs → InRisingFiles count low fs
rising_lower count low high [] le h = tt
rising_lower count low high (f ∷ fs) le h = (omega (arith, h.0), h.1, h.2)

-- faults of rising files stand in order
pub rising_in_order : (count low : ℕ) (fs : List Fault) → InRisingFiles count low fs → AreInOrder standing_of fs
rising_in_order count low [] h = tt
rising_in_order count low (f ∷ []) h = tt
rising_in_order count low (f ∷ g ∷ gs) h =
    let less : (place_of f).file < (place_of g).file = omega (arith, h.2.0) in
    (inl less, rising_in_order count ((place_of f).file + 1) (g ∷ gs) h.2)

-- each of them stands in one of the files
pub rising_placed : (count low : ℕ) (fs : List Fault) → InRisingFiles count low fs → AllByRecursion (λ f. IsPlaced count (place_of f)) fs
rising_placed count low [] h = tt
rising_placed count low (f ∷ fs) h = (h.1, rising_placed count ((place_of f).file + 1) fs h.2)

-- some faults, each as a fault of files, are some
pub some_mapped : {X : Type 0} (F : X → Fault) (xs : List X) → xs ≢ [] → map F xs ≢ []
some_mapped F [] h = λ e. h refl
some_mapped F (x ∷ xs) h = λ e. absurd (cc)

-- the same where the ranks of both are higher by one number
no_later_shifted : (a b : Standing) (n : ℕ) → IsNoLater a b → IsNoLater (record { at = a.at; rank = n + a.rank }) (record { at = b.at; rank = n + b.rank })
no_later_shifted a b n (inl h) = inl h
no_later_shifted a b n (inr (f, inl h)) = inr (f, inl h)
no_later_shifted a b n (inr (f, inr (e, inl h))) = inr (f, inr (e, inl (omega (arith, h))))
no_later_shifted a b n (inr (f, inr (e, inr (r, h)))) = inr (f, inr (e, inr (ap (λ (m : ℕ). n + m) r, h)))

-- the faults of classes and features keep their order
pub classes_in_order : (fs : List ClassFault) → AreInOrder classes.standing_of fs → AreInOrder standing_of (map OfClasses fs)
classes_in_order [] h = tt
classes_in_order (f ∷ []) h = tt
classes_in_order (f ∷ g ∷ gs) h = (no_later_shifted (classes.standing_of f) (classes.standing_of g) 9 h.0, classes_in_order (g ∷ gs) h.1)

-- the faults of typing keep their order
pub typing_in_order : (fs : List TypeFault) → AreInOrder typing.standing_of fs → AreInOrder standing_of (map Typing fs)
typing_in_order [] h = tt
typing_in_order (f ∷ []) h = tt
typing_in_order (f ∷ g ∷ gs) h = (no_later_shifted (typing.standing_of f) (typing.standing_of g) 25 h.0, typing_in_order (g ∷ gs) h.1)

-- faults of classes and features are of their phase
pub classes_of_phase : (fs : List ClassFault) → AllByRecursion IsOfClasses (map OfClasses fs)
classes_of_phase [] = tt
classes_of_phase (f ∷ fs) = (tt, classes_of_phase fs)

-- faults of typing are of theirs
pub typing_of_phase : (fs : List TypeFault) → AllByRecursion IsOfTyping (map Typing fs)
typing_of_phase [] = tt
typing_of_phase (f ∷ fs) = (tt, typing_of_phase fs)

-- faults of classes and features stand where they stood
pub classes_placed : (n : ℕ) (fs : List ClassFault) → AllByRecursion (λ f. IsPlaced n f.at) fs → AllByRecursion (λ f. IsPlaced n (place_of f)) (map OfClasses fs)
classes_placed n [] h = tt
classes_placed n (f ∷ fs) h = (h.0, classes_placed n fs h.1)

-- faults of typing stand where they stood
pub typing_placed : (n : ℕ) (fs : List TypeFault) → AllByRecursion (λ f. IsPlaced n f.at) fs → AllByRecursion (λ f. IsPlaced n (place_of f)) (map Typing fs)
typing_placed n [] h = tt
typing_placed n (f ∷ fs) h = (h.0, typing_placed n fs h.1)

-- a list of faults of classes and features is a refusal
pub classes_refusal : (fs : List ClassFault) (gs : List Fault) → gs ≡ map OfClasses fs → classes.IsFaultList fs → (gs ≢ []) × AllByRecursion IsOfClasses gs × AreInOrder standing_of gs
classes_refusal fs gs e h =
    subst (λ (l : List Fault). (l ≢ []) × AllByRecursion IsOfClasses l × AreInOrder standing_of l) (sym e)
    (some_mapped OfClasses fs h.some, classes_of_phase fs, classes_in_order fs h.order)

-- a list of faults of typing is a refusal
pub typing_refusal : (fs : List TypeFault) (gs : List Fault) → gs ≡ map Typing fs → (fs ≢ []) × AreInOrder typing.standing_of fs → (gs ≢ []) × AllByRecursion IsOfTyping gs × AreInOrder standing_of gs
typing_refusal fs gs e h =
    subst (λ (l : List Fault). (l ≢ []) × AllByRecursion IsOfTyping l × AreInOrder standing_of l) (sym e)
    (some_mapped Typing fs h.0, typing_of_phase fs, typing_in_order fs h.1)

-- the faults of a table, each as a fault of files
pub table_refusal : (ds : List ClassDef) (fs : List ClassFault) (gs : List Fault) → gs ≡ map OfClasses fs → HasTableFaults ds (error.Faults fs) → AreTableFaults ds (refusal.Faults gs)
table_refusal ds fs gs e h =
    subst (λ (l : List Fault). AreTableFaults ds (refusal.Faults l)) (sym e)
    (elim h.2 [
      | inl classes ↦ inl (classes.0, classes.1, IsPermutation-map OfClasses classes.0 fs classes.2)
      | inr features ↦ inr (features.0, IsPermutation-map OfClasses (feature_phase ds) fs features.1)
    ])
