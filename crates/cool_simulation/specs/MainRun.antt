-- `RunsMain` relates the machine's run of a whole program to each run of the source with a number of steps. The machine comes to the same end and output
-- within a number of instructions, or to an exit by a limit.
use Rattle.std.specs.Prelude.{◌≡◌, ℕ, ◌+◌, ◌-◌, ◌*◌, ◌^◌, ◌<◌, ◌≤◌, false, List, None}
use Rattle.mips_isa.specs.declared.address_map.TheConstants.{HEAP_START, STACK_END}
use Rattle.mips_isa.specs.Assembly.{start_name}
use Rattle.mips_isa.specs.Calls.{State as Machine}
use Rattle.mips_isa.specs.Bytes.{Bytes}
use Rattle.cool_classes.specs.Chains.{Class}
use Rattle.cool_runtime.specs.Reaches.{World, Reaches, OnTheWay, stands, exits}
use Rattle.cool_runtime.specs.Machines.{At, Pointers, Console}
use Rattle.cool_meaning.specs.Values.{start}
use Rattle.cool_meaning.specs.SourceRun.{End, Done, Failed, GoesOn, IsStuck, Run, run}
use Rattle.cool_simulation.specs.Loadings.{Loading, IsLoaded, Watched}
use Rattle.cool_simulation.specs.Pictures.{Map, Pictures, Shows}
use Rattle.cool_simulation.specs.Simulation.{Passes}
use Rattle.cool_simulation.specs.Visits.{Visit, program_begun}

-- The machine stands at the first line of a program: memory is as loaded, nothing of heap and stack is taken, and the source's state is empty.
pub record Starts (l : Loading) (input : List ℕ) (q : Pointers) (map : Map) (console : Console) (s : Machine) : Type 0 where
  pub at : At l.world q l.memory console s
  pub pc : q.pc ≡ l.world.place start_name
  pub gp : q.gp ≡ HEAP_START
  pub sp : q.sp ≡ STACK_END
  pub fp_fits : q.fp < 2 ^ 32
  pub own_fits : q.self < 2 ^ 32
  pub shows : Shows (start input) console
  pub pictures : Pictures l.table l.world l.memory l.memory map (start input) q.gp q.sp
  pub homeless : (k : ℕ) → map.home k ≡ 0
  pub unmarked : (k : ℕ) → map.marked k ≡ false

-- this output was written, and this input is left
pub record Leaves (output left : List ℕ) (s : Machine) : Type 0 where
  pub wrote : s.output ≡ output
  pub leaves : s.input ≡ left

-- From s the machine comes to the end of a run with n steps. If that run goes on, the machine goes on, too, after at least n instructions. Nothing is
-- stated if no rule applies.
abbrev pub ComesTo : World → Machine → ℕ → ℕ → List ℕ → List ℕ → End → Type 0
ComesTo w s n most output left Done = Reaches w s 0 most (exits 0 (Leaves output left))
ComesTo w s n most output left (Failed e) = Reaches w s 0 most (exits 3 (Leaves output left))
ComesTo w s n most output left GoesOn = Reaches w s n most (stands (Leaves output left))
ComesTo w s n most output left IsStuck = Unit {0}

-- the same for a machine whose run is watched, which means that it is compared with the visits (evaluations) of a source run
abbrev pub PassesTo : Loading → Machine → ℕ → ℕ → List ℕ → List ℕ → End → Type 0
PassesTo l s n most output left Done = Passes l s 0 most (exits 0 (Leaves output left))
PassesTo l s n most output left (Failed e) = Passes l s 0 most (exits 3 (Leaves output left))
PassesTo l s n most output left GoesOn = Passes l s n most (stands (Leaves output left))
PassesTo l s n most output left IsStuck = Unit {0}

-- heap and stack are to reach as far as the meters of a run say, and what the run writes and takes is on the way
pub record RunRoom (w : World) (r : Run) : Type 0 where
  pub heap : HEAP_START + (4 * r.words + 64) ≤ w.top
  pub stack : w.low ≤ STACK_END - (16 * r.peak + 256)
  pub way : OnTheWay w r.output r.left

-- the whole run of a loaded program, for any number of steps
abbrev pub RunsMain : Loading → Type 0
RunsMain l = (input : List ℕ) (q : Pointers) (map : Map) (console : Console) (s : Machine) (n : ℕ) → Starts l input q map console s → RunRoom l.world (run l.table l.files input n)
    → ComesTo l.world s n (64 * (run l.table l.files input n).work) (run l.table l.files input n).output (run l.table l.files input n).left (run l.table l.files input n).end

-- the same where a run is watched: on the way it pictures visits of the run, wherever it stands at a marked word
abbrev pub PassesMain : Loading → Type 0
PassesMain l = (input : List ℕ) (q : Pointers) (map : Map) (console : Console) (s : Machine) (n : ℕ) → Starts l input q map console s → RunRoom l.world (run l.table l.files input n)
    → ((x : Visit) → program_begun l.table input n x → Watched l.watch x)
    → PassesTo l s n (64 * (run l.table l.files input n).work) (run l.table l.files input n).output (run l.table l.files input n).left (run l.table l.files input n).end

-- `RunsMain` holds for a program wherever it is loaded
abbrev pub AlwaysRuns : List Class → List (List ℕ) → Type 0
AlwaysRuns p files = (w : World) (m : Bytes) → IsLoaded (record { table = p; files = files; world = w; memory = m; watch = None }) → RunsMain (record { table = p; files = files; world = w; memory = m; watch = None })
