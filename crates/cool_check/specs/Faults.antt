-- The order of faults (type errors), and the condition that their source locations are in the files.
use Rattle.std.specs.Prelude.{◌≡◌, ◌≢◌, ℕ, ◌<◌, List, [], length}
use Rattle.std.specs.List.{AllByRecursion}
use Rattle.cool_syntax.specs.declared.place.Place.{Place}
use Rattle.cool_syntax.specs.FaultOrder.{Standing, AreInOrder}
use Rattle.cool_syntax.specs.TreesWithinLimits.{IsFeatureWithin}
use Rattle.cool_classes.specs.declared.class_id.ClassId.{ClassId}
use Rattle.cool_classes.specs.Chains.{Class, features_of}
use Rattle.cool_syntax.specs.TokenFacts.{IsPlaced}
use Rattle.cool_check.specs.declared.fault.TypeFault.{TypeFault}
use Rattle.cool_check.specs.declared.fault.TypeKind.{TypeKind}
use Rattle.cool_check.specs.declared.fault.TypeKind.TheVariants.{E1, E2, E3, E4, E5, E6, E7, E8, E9, E10, E11, E12, E13, E14, E15, E16, E17, E18}
use Rattle.cool_check.specs.declared.fault.CheckError.{CheckError}
use Rattle.cool_check.specs.declared.fault.CheckError.TheVariants as error
use Rattle.cool_check.specs.declared.fault.CheckAllError.{CheckAllError}
use Rattle.cool_check.specs.declared.fault.CheckAllError.TheVariants as all

-- the kinds in their order
abbrev pub rank : TypeKind → ℕ
rank E1 = 0
rank E2 = 1
rank E3 = 2
rank E4 = 3
rank E5 = 4
rank E6 = 5
rank E7 = 6
rank E8 = 7
rank E9 = 8
rank E10 = 9
rank E11 = 10
rank E12 = 11
rank E13 = 12
rank E14 = 13
rank E15 = 14
rank E16 = 15
rank E17 = 16
rank E18 = 17

abbrev pub standing_of : TypeFault → Standing
standing_of f = record { at = f.at; rank = rank f.kind }

-- the fault stands in one of so many files; out of memory has no place
abbrev pub IsPlacedError : ℕ → CheckError → Type 0
IsPlacedError files error.Memory = Unit {0}
IsPlacedError files (error.Fault f) = IsPlaced files f.at

-- the fault stands at this place
abbrev pub StandsAt : Place → CheckError → Type 0
StandsAt at error.Memory = ⊥
StandsAt at (error.Fault f) = f.at ≡ at

-- An error is out of memory, or some faults in order.
abbrev pub IsRefusal : CheckAllError → Type 0
IsRefusal all.Memory = Unit {0}
IsRefusal (all.Faults faults) = (faults ≢ []) × AreInOrder standing_of faults

-- the faults stand in one of so many files
abbrev pub IsPlacedRefusal : ℕ → CheckAllError → Type 0
IsPlacedRefusal files all.Memory = Unit {0}
IsPlacedRefusal files (all.Faults faults) = AllByRecursion (λ f. IsPlaced files f.at) faults

-- the features of all classes stand in so many files
abbrev pub AreWithin : ℕ → List Class → Type 0
AreWithin files p = (c : ClassId) → c.0 < length p → AllByRecursion (IsFeatureWithin files) (features_of p c)
