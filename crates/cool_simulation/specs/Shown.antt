-- Theorems on the debugger, named `Shown`: the machine reaches the first word of the code of each expression that evaluation begins. There each name in scope
-- has its value in the word that the debug information gives.
use Rattle.std.specs.Prelude.{◌≡◌, ℕ, ◌+◌, ◌*◌, ◌<◌, ◌≤◌, ◌⊎◌, List, [], length, map as each, Contains, None}
use Rattle.mips_isa.specs.declared.address_map.TheConstants.{TEXT_START}
use Rattle.mips_isa.specs.Assembly.{image_of}
use Rattle.mips_isa.specs.Bytes.{Bytes}
use Rattle.mips_isa.specs.Calls.{State as Machine, Running, Exited}
use Rattle.mips_isa.specs.ImageBounds.{ImageParts}
use Rattle.mips_isa.specs.Run.{run_image}
use Rattle.cool_classes.specs.declared.class_id.ClassId.{ClassId}
use Rattle.cool_classes.specs.declared.method.MethodRef.TheVariants.{User}
use Rattle.cool_classes.specs.Chains.{Below, Class}
use Rattle.cool_classes.specs.ClimbedChains.{chain}
use Rattle.cool_classes.specs.Features.{HasMethod, formals_of}
use Rattle.cool_rules.specs.Scopes.{Binding}
use Rattle.cool_rules.specs.Typing.{HasType}
use Rattle.cool_runtime.specs.Reaches.{World, Reaches, stands}
use Rattle.cool_runtime.specs.Standing.{sizes}
use Rattle.cool_runtime.specs.Machines.{Pointers, Console}
use Rattle.cool_layout.specs.Labels.{initializer, method_label}
use Rattle.cool_codegen.specs.Spans.{Span, spans}
use Rattle.cool_emit.specs.Programs.{program_lines}
use Rattle.cool_codegen.specs.Shown as rows
use Rattle.cool_emit.specs.RowsOfSpans.{told_of, told_rows}
use Rattle.cool_emit.specs.SpansOfPrograms.{program_spans}
use Rattle.cool_codegen.specs.Variables.{Named}
use Rattle.cool_classes.specs.declared.class_id.Ty.{Ty}
use Rattle.cool_syntax.specs.Tree.{Tree}
use Rattle.cool_meaning.specs.Values.{Value, State, Environment}
use Rattle.cool_meaning.specs.Meters.{Stuck}
use Rattle.cool_meaning.specs.Evaluation.{Call, Calls, Body, Initials, eval}
use Rattle.cool_meaning.specs.SourceRun.{Run, run}
use Rattle.cool_meaning.specs.FittingValues.{AllFit, meant}
use Rattle.cool_meaning.specs.FittingValues as fitting
use Rattle.cool_simulation.specs.Accord.{AreLimits, Limits}
use Rattle.cool_simulation.specs.Loadings.{IsLoaded, Loading, constants, context}
use Rattle.cool_simulation.specs.MainRun.{RunRoom, Starts}
use Rattle.cool_simulation.specs.Pictures.{Map}
use Rattle.cool_simulation.specs.Simulation.{Begins, Called, CodeAt, IsSpan, Room, Shown}
use Rattle.cool_simulation.specs.Theorem.{IsCompilable}
use Rattle.cool_simulation.specs.Visits.{Visit, Visits, begun, program_begun}
use Rattle.cool_simulation.specs.WrittenPrograms.{IsWritten}
use Rattle.lists.specs.Bytes.{AreBytes}

-- the machine comes from s to a state with this property after some number of instructions, if heap and stack suffice for the run
abbrev pub Comes : World → Machine → (Machine → Type 0) → Type 0
Comes w s P = (most : ℕ) × Reaches w s 0 most (stands P)

-- The expressions that evaluation begins are shown, where those are that calls with at most b steps begin.
pub record AllShown (l : Loading) (calls : Calls) (begun_in : Call → Visits) (b : ℕ) (t : Tree) : Type 0 where
  pub shown : (c : ClassId) (f : ℕ) (k : ClassId) (self : Value) (scope : List Binding) (vs : List Named) (env : Environment) (made : fitting.World) (d first : ℕ) (q : Pointers) (m : Bytes) (map : Map) (console : Console)
      (st : State) (s : Machine) (n : ℕ) (type : Ty) (x : Visit) → n ≤ b → Begins l c k self scope vs env made d q m map console st s → HasType l.table c scope t type → CodeAt l c f vs d first q.pc t
      → Room l q 0 (eval l.table calls self env t st n)
      → ((span : Span) → Contains (spans sizes (context l c f) (constants l) vs d first q.pc t) span → IsSpan l c f span)
      → begun l.table calls begun_in c f self env first t st n x → Comes l.world s (Shown l x)

-- `Shown` for calls with at most b steps.
pub record CallsShown (l : Loading) (calls : Calls) (begun_in : Call → Visits) (b : ℕ) : Type 0 where
  pub body : (owner : ClassId) (i : ℕ) (self : Value) (k : ClassId) (vs : List Value) (made : fitting.World) (q : Pointers) (m : Bytes) (map : Map) (console : Console) (st : State) (s : Machine) (n : ℕ) (x : Visit) → n ≤ b
      → HasMethod l.table (User owner i) → Below l.table k owner → Called l k self vs made q m map console st s → q.pc ≡ l.world.place (method_label l.table (User owner i))
      → AllFit l.table made vs (each (meant l.table k) (formals_of l.table (User owner i))) → Room l q 12 (calls (Body owner i self vs) st n) → ((calls (Body owner i self vs) st n).outcome ≡ Stuck → ⊥)
      → begun_in (Body owner i self vs) st n x → Comes l.world s (Shown l x)
  pub initials : (c : ClassId) (self : Value) (k : ClassId) (made : fitting.World) (q : Pointers) (m : Bytes) (map : Map) (console : Console) (st : State) (s : Machine) (n : ℕ) (x : Visit) → n ≤ b
      → c.0 < length l.table → Below l.table k c → Called l k self [] made q m map console st s → q.pc ≡ l.world.place (initializer l.table c)
      → Room l q (12 * length (chain l.table c)) (calls (Initials c self) st n) → ((calls (Initials c self) st n).outcome ≡ Stuck → ⊥) → begun_in (Initials c self) st n x
      → Comes l.world s (Shown l x)

-- the assumption for expressions: calls with fewer steps
abbrev pub AllCallsShown : Loading → Calls → (Call → Visits) → ℕ → Type 0
AllCallsShown l calls begun_in b = (m : ℕ) → m < b → CallsShown l calls begun_in m

-- `Shown` for the run of a loaded program, for any number of steps, as long as heap and stack suffice for the run.
abbrev pub ProgramShown : Loading → Type 0
ProgramShown l =
    (input : List ℕ) (q : Pointers) (map : Map) (console : Console) (s : Machine) (n : ℕ) (x : Visit) → Starts l input q map console s → RunRoom l.world (run l.table l.files input n) → program_begun l.table input n x
    → Comes l.world s (Shown l x)

-- `ProgramShown` holds wherever a program is loaded.
abbrev pub ProgramsShown : Type 0
ProgramsShown =
    (p : List Class) (names : List (List ℕ)) → IsWritten p → (w : World) (m : Bytes) → IsLoaded (record { table = p; files = names; world = w; memory = m; watch = None })
    → ProgramShown (record { table = p; files = names; world = w; memory = m; watch = None })

-- The machine of an image comes to a visit: after some number of instructions it stands, with the program loaded, at the first word of a span
-- of the visited expression, of which a row of the table of code tells, and pictures the visit.
pub record ComesTo (p : List Class) (names : List (List ℕ)) (image : ImageParts) (limits : Limits) (input : List ℕ) (x : Visit) : Type 0 where
  pub loading : Loading
  pub table_is : loading.table ≡ p
  pub files_are : loading.files ≡ names
  pub text_is : loading.world.text ≡ image.text
  pub unwatched : loading.watch ≡ None
  pub loaded : IsLoaded loading
  pub count : ℕ
  pub machine : Machine
  pub reached : run_image image limits.heap limits.stack input count ≡ Running machine
  pub shown : Shown loading x machine
  pub told : Contains (program_spans sizes p names TEXT_START) (record { class = x.class; feature = x.feature; span = shown.span })
  pub row : Contains (told_rows p names) (told_of p names (record { class = x.class; feature = x.feature; span = shown.span }))

-- The machine of an image ends by a limit that a run of the source passes: with 4 by that of the heap, or with 5 by that of the stack.
pub record EndsByLimit (image : ImageParts) (limits : Limits) (input : List ℕ) (r : Run) : Type 0 where
  pub count : ℕ
  pub code : ℕ
  pub machine : Machine
  pub ended : run_image image limits.heap limits.stack input count ≡ Exited code machine
  pub why : ((code ≡ 4) × (limits.heap < 4 * r.words + 64)) ⊎ ((code ≡ 5) × (limits.stack < 16 * r.peak + 256))

-- The machine of a program's image reaches each expression that a run of the source begins, unless it ends by a limit that the run exceeds.
abbrev pub VisitsShown : Type 0
VisitsShown =
    (p : List Class) (names : List (List ℕ)) (input : List ℕ) (limits : Limits) (n : ℕ) (x : Visit) → IsCompilable p names → AreBytes input → AreLimits limits → program_begun p input n x
    → ComesTo p names (image_of (program_lines p names)) limits input x ⊎ EndsByLimit (image_of (program_lines p names)) limits input (run p names input n)

-- A machine pictures a visit of the run with so many steps: an expression that the run begins, where it stands, with the program loaded, at the first
-- word of a span of the expression, of which a row of the table of code tells.
pub record Visited (p : List Class) (names : List (List ℕ)) (image : ImageParts) (input : List ℕ) (steps : ℕ) (machine : Machine) : Type 0 where
  pub visit : Visit
  pub begun : program_begun p input steps visit
  pub loading : Loading
  pub table_is : loading.table ≡ p
  pub files_are : loading.files ≡ names
  pub text_is : loading.world.text ≡ image.text
  pub unwatched : loading.watch ≡ None
  pub loaded : IsLoaded loading
  pub shown : Shown loading visit machine
  pub told : Contains (program_spans sizes p names TEXT_START) (record { class = visit.class; feature = visit.feature; span = shown.span })
  pub row : Contains (told_rows p names) (told_of p names (record { class = visit.class; feature = visit.feature; span = shown.span }))

-- The other way round, and with no premise on limits: wherever the run of the image comes to the first word of a row of the table of code, it
-- pictures a visit of each run of the source with more steps than these instructions. (The code of `while` begins with that of its test, so the row
-- of the visit need not be this one, but begins at the same word.)
abbrev pub RowsAreVisits : Type 0
RowsAreVisits =
    (p : List Class) (names : List (List ℕ)) (input : List ℕ) (limits : Limits) (n count : ℕ) (machine : Machine) (row : rows.Shown) → IsCompilable p names → AreBytes input → AreLimits limits → count < n
    → run_image (image_of (program_lines p names)) limits.heap limits.stack input count ≡ Running machine → Contains (told_rows p names) row → machine.core.pc ≡ row.from
    → Visited p names (image_of (program_lines p names)) input n machine
