-- Compiler correctness: `Means` says that an image behaves as a program, for all inputs and limits. `Accord` relates the end of a machine's run to the runs
-- of the source, within limits of heap, stack and instructions.
use Rattle.std.specs.Prelude.{◌≡◌, ℕ, ◌+◌, ◌*◌, ◌%◌, ◌^◌, ◌<◌, ◌≤◌, ◌⊎◌, List}
use Rattle.mips_isa.specs.ImageBounds.{ImageParts}
use Rattle.mips_isa.specs.Calls.{Outcome, Running, Exited, Trapped}
use Rattle.mips_isa.specs.Run.{run_image}
use Rattle.cool_classes.specs.Chains.{Class}
use Rattle.cool_meaning.specs.SourceRun.{End, Done, Failed, GoesOn, IsStuck, Run, run}
use Rattle.cool_meaning.specs.Laws.{IsOver}
use Rattle.lists.specs.Prefixes.{IsPrefix, IsSuffix}
use Rattle.lists.specs.Bytes.{AreBytes}

-- the bytes of heap and stack, and the number of instructions
pub record Limits : Type 0 where
  pub heap : ℕ
  pub stack : ℕ
  pub budget : ℕ

-- multiples of 1,024 from 4,096 on: up to 256 MiB of heap, and up to 64 MiB of stack; any number of instructions
pub record AreLimits (limits : Limits) : Type 0 where
  pub heap_unit : limits.heap % 1024 ≡ 0
  pub heap_least : 4096 ≤ limits.heap
  pub heap_most : limits.heap ≤ 2 ^ 28
  pub stack_unit : limits.stack % 1024 ≡ 0
  pub stack_least : 4096 ≤ limits.stack
  pub stack_most : limits.stack ≤ 2 ^ 26

-- the meters of a run are within the limits
pub record Inside (limits : Limits) (r : Run) : Type 0 where
  pub work : 64 * r.work ≤ limits.budget
  pub words : 4 * r.words + 64 ≤ limits.heap
  pub peak : 16 * r.peak + 256 ≤ limits.stack

-- the run ended with an error
abbrev pub IsFailed : End → Type 0
IsFailed Done = ⊥
IsFailed (Failed e) = Unit {0}
IsFailed GoesOn = ⊥
IsFailed IsStuck = ⊥

-- A machine ended with a code, or goes on with status 6. Its output and the input that it left accord with the runs of the source, one for each number of
-- steps.
pub record Accord (runs : ℕ → Run) (limits : Limits) (status : ℕ) (output left : List ℕ) : Type 0 where
  -- it wrote no more than the run with a step more than instructions, and took no more
  pub written : IsPrefix output (runs (limits.budget + 1)).output
  pub taken : IsSuffix (runs (limits.budget + 1)).left left
  -- it wrote and took as much as each run inside the limits, and ended where that one did
  pub covers : (n : ℕ) → Inside limits (runs n) → IsPrefix (runs n).output output × IsSuffix left (runs n).left
  pub ends : (n : ℕ) → Inside limits (runs n) → IsOver (runs n).end → (status ≡ 0) ⊎ (status ≡ 3)
  -- an end is the source's
  pub done : status ≡ 0 → ((runs (limits.budget + 1)).end ≡ Done) × ((output ≡ (runs (limits.budget + 1)).output) × (left ≡ (runs (limits.budget + 1)).left))
  pub failed : status ≡ 3 → IsFailed (runs (limits.budget + 1)).end × ((output ≡ (runs (limits.budget + 1)).output) × (left ≡ (runs (limits.budget + 1)).left))
  -- a limit is the program's
  pub heap : status ≡ 4 → limits.heap < 4 * (runs (limits.budget + 1)).words + 64
  pub stack : status ≡ 5 → limits.stack < 16 * (runs (limits.budget + 1)).peak + 256
  pub budget : status ≡ 6 → limits.budget < 64 * (runs (limits.budget + 1)).work
  pub known : (status ≡ 0) ⊎ ((status ≡ 3) ⊎ ((status ≡ 4) ⊎ ((status ≡ 5) ⊎ (status ≡ 6))))

-- a machine after its instructions: it never traps, exits only with 0, 3, 4 or 5, and accords
abbrev pub Accords : (ℕ → Run) → Limits → Outcome → Type 0
Accords runs limits (Running s) = Accord runs limits 6 s.output s.input
Accords runs limits (Exited code s) = (code < 6) × Accord runs limits code s.output s.input
Accords runs limits (Trapped trap s) = ⊥

-- the image does what the program means, whatever the input and the limits
abbrev pub Means : ImageParts → List Class → List (List ℕ) → Type 0
Means image p files = (input : List ℕ) (limits : Limits) → AreBytes input → AreLimits limits → Accords (run p files input) limits (run_image image limits.heap limits.stack input limits.budget)
