-- `IsFaultList` says that a list of faults (compile-time errors) is not empty, is in order, and has only faults of classes or only faults of features. `rank`
-- is the order of the kinds of faults.
use Rattle.std.specs.Prelude.{◌≢◌, ◌⊎◌, ℕ, ◌<◌, List, []}
use Rattle.std.specs.List.{AllByRecursion}
use Rattle.std.specs.List.Sorted.{IsPermutation}
use Rattle.cool_syntax.specs.FaultOrder.{Standing, AreInOrder}
use Rattle.cool_syntax.specs.TokenFacts.{IsPlaced}
use Rattle.cool_classes.specs.declared.fault.ClassFault.{ClassFault}
use Rattle.cool_classes.specs.declared.fault.ClassKind.{ClassKind}
use Rattle.cool_classes.specs.declared.fault.ClassKind.TheVariants.{C1, C2, C3, C4, C5, C6, C7, F1, F2, F3, F4, F5, F6, F7, F8, F9}
use Rattle.cool_classes.specs.declared.fault.TableError.{TableError}
use Rattle.cool_classes.specs.declared.fault.TableError.TheVariants.{Memory, Faults}

-- the kinds in their order
abbrev pub rank : ClassKind → ℕ
rank C1 = 0
rank C2 = 1
rank C3 = 2
rank C4 = 3
rank C5 = 4
rank C6 = 5
rank C7 = 6
rank F1 = 7
rank F2 = 8
rank F3 = 9
rank F4 = 10
rank F5 = 11
rank F6 = 12
rank F7 = 13
rank F8 = 14
rank F9 = 15

abbrev pub IsOfClasses : ClassFault → Type 0
IsOfClasses f = rank f.kind < 7

abbrev pub IsOfFeatures : ClassFault → Type 0
IsOfFeatures f = 6 < rank f.kind

abbrev pub standing_of : ClassFault → Standing
standing_of f = record { at = f.at; rank = rank f.kind }

-- The faults of a phase: there is at least one, they are of that phase only, and they stand in order.
pub record IsFaultList (faults : List ClassFault) : Type 0 where
  pub some : faults ≢ []
  pub phase : AllByRecursion IsOfClasses faults ⊎ AllByRecursion IsOfFeatures faults
  pub order : AreInOrder standing_of faults

-- an error is out of memory or has a list of faults
abbrev pub IsRefusal : TableError → Type 0
IsRefusal Memory = Unit {0}
IsRefusal (Faults faults) = IsFaultList faults

-- each fault is in one of so many files
abbrev pub IsPlacedRefusal : ℕ → TableError → Type 0
IsPlacedRefusal files Memory = Unit {0}
IsPlacedRefusal files (Faults faults) = AllByRecursion (λ f. IsPlaced files f.at) faults

-- an error is out of memory, or has exactly these faults, at least one, in order
abbrev pub HasExactly : List ClassFault → TableError → Type 0
HasExactly fs Memory = Unit {0}
HasExactly fs (Faults faults) = (faults ≢ []) × IsPermutation fs faults × AreInOrder standing_of faults
