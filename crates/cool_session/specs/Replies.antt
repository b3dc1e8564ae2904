-- The reply of a session to a check: the number of compile-time errors (faults) and the number of features that were typed, and then one line for each error.
use Rattle.std.specs.Prelude.{◌≡◌, refl, ℕ, List, ◌∷◌, ◌++◌, map, length, codes, decimal}
use Rattle.std.specs.Fmt as decimals
use Rattle.cool_faults.specs.declared.fault.Fault.{Fault}
use Rattle.cool_faults.specs.Texts.{fault_line}

-- the first line, by the numbers of faults and of features that were typed
abbrev pub first_line : ℕ → ℕ → List ℕ
first_line faults typed = codes "faults " ++ (decimal faults ++ (codes ", typed " ++ (decimal typed ++ codes "\n")))

-- the lines of a reply, each with its newline, by the names of the files
abbrev pub reply_lines : List (List ℕ) → List Fault → ℕ → List (List ℕ)
reply_lines names faults typed = first_line (length faults) typed ∷ map (fault_line names) faults

-- Worked example
three_faults : first_line 3 5 ≡ codes "faults 3, typed 5\n"
unfolding decimals.digits
three_faults = refl
