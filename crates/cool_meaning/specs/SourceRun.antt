-- `run` is the run of a program with a limited number of steps: the evaluation of `(new Main).main()` from an empty store (the Cool manual, section 13; the
-- texts of the errors are this compiler's).
use Rattle.std.specs.Prelude.{ℕ, ◌+◌, List, [], ◌∷◌, ◌++◌, get_or, codes}
use Rattle.std.specs.Fmt.{decimal}
use Rattle.cool_syntax.specs.declared.place.Place.{Place}
use Rattle.cool_syntax.specs.Bare.{nowhere}
use Rattle.cool_syntax.specs.Tree.{Tree, Dispatch, New, Last}
use Rattle.cool_classes.specs.Chains.{Class, name_of}
use Rattle.cool_meaning.specs.Values.{Value, Void, State, start}
use Rattle.cool_meaning.specs.Meters.{Error, DispatchVoid, CaseVoid, NoBranch, DivisionByZero, Overflow, Substring, Aborted, Outcome, Val, Stop, On, Stuck, Metered}
use Rattle.cool_meaning.specs.Evaluation.{eval, calls_within}

-- A run ended well, with an error, or goes on; or no rule applied.
pub data End : Type 0 where
  Done : End
  Failed : (error : Error) → End
  GoesOn : End
  IsStuck : End

-- The end of a run, its output, the input that it left, and its meters.
pub record Run : Type 0 where
  pub end : End
  pub output : List ℕ
  pub left : List ℕ
  pub work : ℕ
  pub words : ℕ
  pub peak : ℕ

-- `F:L: `, by the names of the files
abbrev pub place_text : List (List ℕ) → Place → List ℕ
place_text names at = get_or names at.file [] ++ (codes ":" ++ (decimal at.line ++ codes ": "))

abbrev pub line : List ℕ → List ℕ
line text = text ++ 10 ∷ []

-- the text of an error, the last that a run writes
abbrev pub error_text : List Class → List (List ℕ) → Error → List ℕ
error_text p names (DispatchVoid at) = line (place_text names at ++ codes "Dispatch to void.")
error_text p names (CaseVoid at) = line (place_text names at ++ codes "Case on void.")
error_text p names (NoBranch at c) = line (place_text names at ++ (codes "No matching branch for class " ++ (name_of p c ++ codes ".")))
error_text p names (DivisionByZero at) = line (place_text names at ++ codes "Division by zero.")
error_text p names (Overflow at) = line (place_text names at ++ codes "Arithmetic overflow.")
error_text p names (Substring at) = line (place_text names at ++ codes "Substring out of range.")
error_text p names (Aborted c) = line (codes "Abort called from class " ++ name_of p c)

abbrev pub done_text : List ℕ
done_text = line (codes "COOL program successfully executed")

-- the expression `(new Main).main()`
abbrev pub main_call : Tree
main_call = Dispatch nowhere (New nowhere (record { name = codes "Main"; at = nowhere })) (codes "main") Last

-- the run that an evaluation makes up; the start of the program adds 1 to its work
abbrev pub ended : State → End → List ℕ → ℕ → ℕ → ℕ → Run
ended s end text work words peak = record { end = end; output = s.output ++ text; left = s.input; work = 1 + work; words = words; peak = peak }

abbrev pub run_of : List Class → List (List ℕ) → Outcome Value → ℕ → ℕ → ℕ → Run
run_of p names (Val v s n) work words peak = ended s Done done_text work words peak
run_of p names (Stop e s) work words peak = ended s (Failed e) (error_text p names e) work words peak
run_of p names (On s) work words peak = ended s GoesOn [] work words peak
run_of p names Stuck work words peak = ended (start []) IsStuck [] work words peak

abbrev pub run_from : List Class → List (List ℕ) → Metered Value → Run
run_from p names m = run_of p names m.outcome m.work m.words m.peak

-- the run of a program, whose files have these names, on an input, with n steps
unfoldable pub run : List Class → List (List ℕ) → List ℕ → ℕ → Run
run p names input n = run_from p names (eval p (calls_within p n) Void [] main_call (start input) n)
