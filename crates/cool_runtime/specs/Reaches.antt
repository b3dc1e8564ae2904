-- `Reaches` says that a run of the machine leads from a state to a goal, within a stated number of instructions, or to an exit by a limit of heap or stack.
-- `World` holds the fixed data of a run.
use Rattle.std.specs.Prelude.{ℕ, ◌+◌, ◌-◌, ◌%◌, ◌^◌, ◌<◌, ◌≤◌, ◌≡◌, ◌⊎◌, List, ◌++◌}
use Rattle.mips_isa.specs.declared.address_map.TheConstants.{DATA_START, HEAP_START, STACK_END}
use Rattle.mips_isa.specs.Bytes.{Segments}
use Rattle.mips_isa.specs.Calls.{State, Outcome, Running, Exited, Trapped}
use Rattle.mips_isa.specs.Run.{run}
use Rattle.mips_isa.specs.Lines.{Name}
use Rattle.lists.specs.Prefixes.{IsPrefix, IsSuffix}

-- The limits of the segments: data ends at 0x20000000 or before, the heap has at most 256 MiB, and the stack 4 KiB to 64 MiB.
pub record AreLaid (b : Segments) : Type 0 where
  pub text : b.text_end ≤ DATA_START
  pub data_to : b.data_end ≤ HEAP_START
  pub heap_from : HEAP_START ≤ b.heap_end
  pub heap_to : b.heap_end ≤ HEAP_START + 2 ^ 28
  pub stack_from : STACK_END - 2 ^ 26 ≤ b.stack_low
  pub stack_to : b.stack_low + 4096 ≤ STACK_END
  pub heap_even : b.heap_end % 4 ≡ 0
  pub stack_even : b.stack_low % 4 ≡ 0

-- The tags of the classes of the values without an identity.
pub record Tags : Type 0 where
  pub int : ℕ
  pub bool : ℕ
  pub string : ℕ

-- The fixed data of a run: the words of the text, the addresses of labels, the segments, the limits that heap and stack are to keep, and the output and
-- the input left when it is at its end.
pub record World : Type 0 where
  pub text : List ℕ
  pub place : Name → ℕ
  pub segments : Segments
  pub laid : AreLaid segments
  pub tags : Tags
  pub top : ℕ
  pub low : ℕ
  pub output : List ℕ
  pub left : List ℕ

-- bytes before others, and bytes after others

-- no more was written than is at the end, and no more taken
pub record OnTheWay (w : World) (output input : List ℕ) : Type 0 where
  pub written : IsPrefix output w.output
  pub taken : IsSuffix w.left input

-- an exit by a limit: heap or stack does not hold what the run is to reach
pub record Limited (w : World) (code : ℕ) (s : State) : Type 0 where
  pub why : ((code ≡ 4) × (w.segments.heap_end < w.top)) ⊎ ((code ≡ 5) × (w.low < w.segments.stack_low))
  pub console : OnTheWay w s.output s.input

-- the goal of a run: a state, or an exit
abbrev pub Goal : Type 1
Goal = Outcome → Type 0

-- a state from which the run goes on
abbrev pub stands : (State → Type 0) → Goal
stands Q (Running s) = Q s
stands Q (Exited code s) = ⊥
stands Q (Trapped trap s) = ⊥

-- an exit with this code
abbrev pub exits : ℕ → (State → Type 0) → Goal
exits n Q (Running s) = ⊥
exits n Q (Exited code s) = (code ≡ n) × Q s
exits n Q (Trapped trap s) = ⊥

-- the possible outcomes of a run after m instructions: at the goal after at least lo, at an exit of the goal, or at an exit by a limit
abbrev pub Ends : World → ℕ → Goal → ℕ → Outcome → Type 0
Ends w lo goal m (Running s) = (lo ≤ m) × goal (Running s)
Ends w lo goal m (Exited code s) = goal (Exited code s) ⊎ Limited w code s
Ends w lo goal m (Trapped trap s) = ⊥

-- the machine comes from s to the goal in lo to hi instructions, or within hi to an exit by a limit
pub record Reaches (w : World) (s : State) (lo hi : ℕ) (goal : Goal) : Type 0 where
  pub count : ℕ
  pub within : count ≤ hi
  pub ends : Ends w lo goal count (run w.text w.segments count s)
