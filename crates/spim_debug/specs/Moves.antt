-- `moves` defines the effect of a debugger command on a run: the number of instructions executed after it, and the breakpoints. It is defined only over runs of
-- the machine.
use Rattle.std.specs.Prelude.{ℕ, ◌+◌, ◌-◌, ◌==◌, min, not, Bool, false, List, [], ◌∷◌}
use Rattle.std.specs.List.{filter, list_any}
use Rattle.mips_isa.specs.Bytes.{Segments}
use Rattle.mips_isa.specs.Calls.{State, Outcome, Running, Exited, Trapped}
use Rattle.mips_isa.specs.Run.{run}
use Rattle.spim_machine.specs.Counting.{moved}
use Rattle.spim_debug.specs.declared.script.DebugCommand.{DebugCommand}
use Rattle.spim_debug.specs.declared.script.DebugCommand.TheVariants.{Break, Delete, Step, Run, Regs, Out, Show, Words, List as ListWords}

-- The program that is debugged: a text within segments, the state in which its run begins, and the number of instructions that may be executed in all.
pub record Debuggee : Type 0 where
  pub text : List ℕ
  pub segments : Segments
  pub start : State
  pub budget : ℕ

-- The progress of a run: the number of instructions executed since the start, and the break addresses.
pub record Progress : Type 0 where
  pub executed : ℕ
  pub breaks : List ℕ

abbrev pub beginning : Progress
beginning = record { executed = 0; breaks = [] }

-- the outcome of the run after so many instructions
abbrev pub outcome : Debuggee → ℕ → Outcome
outcome d n = run d.text d.segments n d.start

-- the number of further instructions, at most so many, up to a break address; after an end there are none
abbrev pub further : Debuggee → (ℕ → Bool) → ℕ → Outcome → ℕ
further d breaks most (Running s) = moved breaks d.text d.segments most s
further d breaks most (Exited code s) = 0
further d breaks most (Trapped trap s) = 0

abbrev pub go_on : Debuggee → (ℕ → Bool) → ℕ → Progress → Progress
go_on d breaks most p =
    record p { executed = p.executed + further d breaks (min most (d.budget - p.executed)) (outcome d p.executed) }

abbrev pub no_break : ℕ → Bool
no_break a = false

abbrev pub is_break : List ℕ → ℕ → Bool
is_break breaks a = list_any (λ other. other == a) breaks

-- the progress after a command
abbrev pub moves : Debuggee → DebugCommand → Progress → Progress
moves d (Break a) p = record p { breaks = a ∷ p.breaks }
moves d (Delete a) p = record p { breaks = filter (λ other. not (other == a)) p.breaks }
moves d (Step n) p = go_on d no_break n p
moves d Run p = go_on d (is_break p.breaks) d.budget p
moves d Regs p = p
moves d Out p = p
moves d (Show a) p = p
moves d (Words a n) p = p
moves d (ListWords a n) p = p

-- the progress after commands
abbrev pub all_moves : Debuggee → List DebugCommand → Progress → Progress
all_moves d [] p = p
all_moves d (command ∷ rest) p = all_moves d rest (moves d command p)

-- the number of instructions executed next: by the first of these commands, or up to the budget if there is none
abbrev pub next_span : Debuggee → List DebugCommand → Progress → ℕ
next_span d [] p = d.budget - p.executed
next_span d (command ∷ rest) p = (moves d command p).executed - p.executed
