-- `AreExplained` says that explanations of compile-time errors are correct: there is one for each fault of the files, in order. It tells exactly the types
-- and methods that `Told.antt` defines, and the suggested edit mends the fault.
use Rattle.std.specs.Prelude.{◌≡◌, ℕ, suc, List, [], ◌∷◌, map, Option, Some, None, option_map}
use Rattle.std.specs.List.{AllByRecursion}
use Rattle.cool_classes.specs.Chains.{Class}
use Rattle.cool_faults.specs.declared.fault.Fault.{Fault}
use Rattle.cool_faults.specs.declared.fault.Untyped.{Untyped}
use Rattle.cool_faults.specs.Untyped.{IsRefusedEarly, IsUntyped}
use Rattle.cool_faults.specs.Verdicts.{IsFaultList, place_of}
use Rattle.cool_mend.specs.declared.explanation.Explanation.{Explanation}
use Rattle.cool_mend.specs.declared.explanation.Mend.{Mend}
use Rattle.cool_mend.specs.Edits.{IsEdit}
use Rattle.cool_mend.specs.Mends.{Mends}
use Rattle.cool_mend.specs.Ranges.{IsRangeAt}
use Rattle.cool_mend.specs.Told.{method_texts, methods_told, type_texts, types_told, word_at}
use Rattle.cool_mend.specs.Values.{values_told}
use Rattle.cool_mend.specs.Words.{HasWords}

-- the files are this class table
abbrev pub IsTableOf : List (List ℕ) → List Class → Type 0
IsTableOf files p = (u : Untyped) × IsUntyped files u × (u.classes ≡ p)

-- the files are this class table, or they have none: a phase before typing finds their faults
abbrev pub HaveTable : List (List ℕ) → Option (List Class) → Type 0
HaveTable files None = (faults : List Fault) × IsRefusedEarly files faults
HaveTable files (Some p) = IsTableOf files p

-- An explanation tells the range of the item at its fault, and the types, the methods and the places of values that are due by the class table of the files,
-- the methods also by the word at the fault.
pub record IsTold (files : List (List ℕ)) (x : Explanation) : Type 0 where
  pub table : Option (List Class)
  pub of : HaveTable files table
  pub here : IsRangeAt files (place_of x.fault) x.here
  pub types : option_map type_texts x.types ≡ types_told table x.fault
  pub methods : option_map method_texts x.methods ≡ methods_told table x.fault (word_at files x.fault x.here.start x.here.end)
  pub values : x.values.items ≡ values_told table x.fault

-- a suggested mend is an edit of the files, mends the fault of this number, and has the words on this edit
pub record IsMend (files : List (List ℕ)) (faults : List Fault) (number : ℕ) (m : Mend) : Type 0 where
  pub edit : IsEdit files m.edit
  pub mends : Mends files faults number m.edit
  pub words : HasWords files m

-- each suggested mend in these explanations is correct; the first explanation is that of the fault of this number
abbrev pub AreMends : List (List ℕ) → List Fault → ℕ → List Explanation → Type 0
AreMends files faults number [] = Unit {0}
AreMends files faults number (x ∷ xs) = AllByRecursion (IsMend files faults number) x.mends.items × AreMends files faults (suc number) xs

-- There is an explanation for each fault of the fault list of the files, in order. Each tells its types and methods, and each suggested mend mends its
-- fault.
pub record AreExplained (files : List (List ℕ)) (all : List Explanation) : Type 0 where
  pub list : IsFaultList files (map (λ x. x.fault) all)
  pub told : AllByRecursion (IsTold files) all
  pub mends : AreMends files (map (λ x. x.fault) all) 0 all
