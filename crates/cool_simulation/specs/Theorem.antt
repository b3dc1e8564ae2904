-- The theorems on compiled programs: the image of a typed program within the limits is a correct compilation (`TypedImagesMean`), and accepted files are such
-- a program (`AcceptedCompile`). If heap and stack suffice, the machine reaches the output of each source run that goes on (`RunsAreMet`).
use Rattle.std.specs.Prelude.{◌≡◌, ℕ, ◌+◌, ◌*◌, ◌≤◌, List, length}
use Rattle.std.specs.List.{AllByRecursion}
use Rattle.mips_isa.specs.Assembly.{image_of}
use Rattle.mips_isa.specs.Calls.{Outcome, Running, Exited, Trapped}
use Rattle.mips_isa.specs.ImageBounds.{ImageParts}
use Rattle.mips_isa.specs.Run.{run_image}
use Rattle.cool_classes.specs.Chains.{Class}
use Rattle.cool_faults.specs.Verdicts.{IsAccepted}
use Rattle.cool_meaning.specs.Evaluation.{calls_within}
use Rattle.cool_meaning.specs.SourceRun.{GoesOn, Run, run}
use Rattle.cool_fold.specs.Folding.{fold_table}
use Rattle.cool_rules.specs.Fits.{Fits}
use Rattle.cool_runtime.specs.Contents.{IsText}
use Rattle.cool_emit.specs.FileNames.{AreShortNames}
use Rattle.cool_emit.specs.Programs.{IsBuildable, program_constants, program_lines}
use Rattle.cool_simulation.specs.Accord.{AreLimits, Limits, Means}
use Rattle.cool_simulation.specs.Loadings.{IsLoaded, Loading}
use Rattle.cool_simulation.specs.MainRun.{AlwaysRuns}
use Rattle.cool_simulation.specs.Simulation.{AllCallsCorrect}
use Rattle.cool_simulation.specs.WrittenPrograms.{IsWritten}
use Rattle.lists.specs.Bytes.{AreBytes}
use Rattle.cool_simulation.specs.Visits.{begun_within}

-- names of files: short texts
abbrev pub AreFileNames : List (List ℕ) → Type 0
AreFileNames names = AllByRecursion IsText names × AreShortNames names

-- The image of the program in files of bytes, under these names, is a correct compilation of it (`Means`).
abbrev pub ImagesMean : Type 0
ImagesMean =
    (files names : List (List ℕ)) (p : List Class) → AllByRecursion AreBytes files → AreFileNames names → length names ≡ length files → IsAccepted files p
    → Means (image_of (program_lines p names)) p names

-- The image of the program after constant folding, if that is within the limits, is a correct compilation of it and of the program itself.
abbrev pub FoldedImagesMean : Type 0
FoldedImagesMean =
    (files names : List (List ℕ)) (p : List Class) → AllByRecursion AreBytes files → AreFileNames names → IsAccepted files p → Fits (fold_table p) (length names)
    → Means (image_of (program_lines (fold_table p) names)) (fold_table p) names × Means (image_of (program_lines (fold_table p) names)) p names

-- A program that can be compiled under these names of files: it is typed and within the limits, has no empty block and no empty case, and its
-- strings are texts.
pub record IsCompilable (p : List Class) (names : List (List ℕ)) : Type 0 where
  pub buildable : IsBuildable p names
  pub written : IsWritten p
  pub texts : AllByRecursion IsText (program_constants p names).strings

-- Files of bytes that are accepted are a program that can be compiled.
abbrev pub AcceptedCompile : Type 0
AcceptedCompile =
    (files names : List (List ℕ)) (p : List Class) → AllByRecursion AreBytes files → AreFileNames names → length names ≡ length files → IsAccepted files p → IsCompilable p names

-- The image of each program that can be compiled is a correct compilation of it.
abbrev pub TypedImagesMean : Type 0
TypedImagesMean = (p : List Class) (names : List (List ℕ)) → IsCompilable p names → Means (image_of (program_lines p names)) p names

-- the machine goes on, with this output and this input left
abbrev pub GoesOnWith : List ℕ → List ℕ → Outcome → Type 0
GoesOnWith output left (Running s) = (s.output ≡ output) × (s.input ≡ left)
GoesOnWith output left (Exited code s) = ⊥
GoesOnWith output left (Trapped trap s) = ⊥

-- The machine meets a run of the source with n steps: after some number of instructions, n at least and 64 a unit of work at most, it goes on,
-- and has written what that run writes, and left what it leaves.
pub record Meets (image : ImageParts) (limits : Limits) (input : List ℕ) (n : ℕ) (r : Run) : Type 0 where
  pub count : ℕ
  pub least : n ≤ count
  pub most : count ≤ 64 * r.work
  pub goes_on : GoesOnWith r.output r.left (run_image image limits.heap limits.stack input count)

-- The machine meets each run of the source that goes on, where heap and stack hold its words and its nesting.
abbrev pub RunsAreMet : Type 0
RunsAreMet =
    (p : List Class) (names : List (List ℕ)) (input : List ℕ) (limits : Limits) (n : ℕ) → IsCompilable p names → AreBytes input → AreLimits limits → (run p names input n).end ≡ GoesOn
    → 4 * (run p names input n).words + 64 ≤ limits.heap → 16 * (run p names input n).peak + 256 ≤ limits.stack
    → Meets (image_of (program_lines p names)) limits input n (run p names input n)

-- A program runs as it means wherever it is loaded (`MainRun.antt`).
abbrev pub ProgramsRun : Type 0
ProgramsRun = (p : List Class) (names : List (List ℕ)) → IsWritten p → AlwaysRuns p names

-- The code of each method and of each initializer of a program that is loaded does what its call means (`Simulation.antt`), for any number of
-- steps.
abbrev pub CallsMean : Type 0
CallsMean = (l : Loading) → IsLoaded l → IsWritten l.table → (n : ℕ) → AllCallsCorrect l (calls_within l.table n) (begun_within l.table n) n
