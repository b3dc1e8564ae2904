-- The statements of the simulation lemmas for the code of an expression, of a call and of a run. From a machine state that represents the source's state, the
-- code leads to one that represents the outcome of evaluation. The costs of the evaluation bound the instructions, heap and stack.
use Rattle.std.specs.Prelude.{◌≡◌, ℕ, ◌+◌, ◌-◌, ◌*◌, ◌^◌, ◌<◌, ◌≤◌, ◌⊎◌, ℤ, pos, negsuc, suc, true, false, List, [], ◌++◌, length, map as each, slice_get, Some, Contains}
use Rattle.mips_isa.specs.declared.address_map.TheConstants.{STACK_END}
use Rattle.mips_isa.specs.Bytes.{Bytes, word}
use Rattle.mips_isa.specs.Calls.{State as Machine, Running}
use Rattle.mips_isa.specs.Run.{run}
use Rattle.cool_syntax.specs.declared.file_tree.Feature.TheVariants.{Method}
use Rattle.cool_syntax.specs.declared.file_tree.MethodDef.{MethodDef}
use Rattle.cool_syntax.specs.Tree.{Tree, Trees, tree_size, trees_size}
use Rattle.cool_syntax.specs.TreesWithinLimits.{IsTreeWithin, AreTreesWithin}
use Rattle.cool_classes.specs.declared.class_id.ClassId.{ClassId}
use Rattle.cool_classes.specs.declared.class_id.Ty.{Ty}
use Rattle.cool_classes.specs.declared.method.MethodRef.TheVariants.{User}
use Rattle.cool_classes.specs.Chains.{Below, features_of}
use Rattle.cool_classes.specs.Features.{HasMethod, formals_of}
use Rattle.cool_classes.specs.ClimbedChains.{chain}
use Rattle.cool_classes.specs.LawfulTables.{MayInherit}
use Rattle.cool_rules.specs.Scopes.{Binding}
use Rattle.cool_rules.specs.Scopes as scopes
use Rattle.cool_rules.specs.Typing.{HasType, HaveTypes}
use Rattle.cool_runtime.specs.Reaches.{Goal, OnTheWay, Reaches, stands, exits}
use Rattle.cool_runtime.specs.Standing.{HasLines, sizes}
use Rattle.cool_runtime.specs.Machines.{At, Pointers, Console}
use Rattle.cool_layout.specs.Labels.{method_label, initializer}
use Rattle.cool_codegen.specs.declared.variables.Base.TheVariants.{Frame, Object}
use Rattle.cool_codegen.specs.declared.variables.Variable.{Variable}
use Rattle.cool_codegen.specs.Variables.{Named}
use Rattle.cool_codegen.specs.Code.{code, arguments_code}
use Rattle.cool_codegen.specs.Spans.{Span, arguments_spans, method_spans, spans}
use Rattle.cool_emit.specs.SpansOfPrograms.{initializer_spans}
use Rattle.cool_codegen.specs.Asked.{integers_in, integers_in_all, strings_in, strings_in_all}
use Rattle.cool_meaning.specs.Values.{Value, State, Environment, class_of, location_of}
use Rattle.cool_meaning.specs.Meters.{Error, Outcome, Val, Stop, On, Stuck, Metered}
use Rattle.cool_meaning.specs.SourceRun.{error_text}
use Rattle.cool_meaning.specs.Evaluation.{Call, Calls, Body, Initials, eval, eval_all}
use Rattle.cool_meaning.specs.FittingValues.{AllFit, Fits, meant, Scene}
use Rattle.cool_meaning.specs.FittingValues as fitting
use Rattle.cool_simulation.specs.Loadings.{Loading, Watched, constants, context, marks, whole, whole_text}
use Rattle.cool_simulation.specs.Pictures.{Map, Pic, Pictures, Kept, Grown, Shows}
use Rattle.cool_simulation.specs.Quiet.{ArePushesFree, IsQuiet}
use Rattle.cool_simulation.specs.Visits.{Visit, Visits, all_begun, begun}

-- The state of a run

-- a word at an offset from a base, which an instruction can hold
abbrev pub IsWordAt : ℤ → ℕ → ℕ → Type 0
IsWordAt (pos k) base a = (a ≡ base + k) × (k < 32768)
IsWordAt (negsuc k) base a = (a + suc k ≡ base) × (k < 32768)

-- the word of a variable: from the frame, or from self
abbrev pub IsVariableAt : Pointers → Variable → ℕ → Type 0
IsVariableAt q v a = ((v.base ≡ Frame) × IsWordAt v.offset q.fp a) ⊎ ((v.base ≡ Object) × IsWordAt v.offset q.self a)

-- The names in scope have the types that the rules give them, and each is at home in the word that the code finds for it.
pub record Variables (map : Map) (q : Pointers) (scope : List Binding) (vs : List Named) (env : Environment) : Type 0 where
  pub typed : (name : List ℕ) (t : Ty) → scopes.found scope name ≡ Some t → (v : Variable) × (scopes.found vs name ≡ Some v) × (v.ty ≡ t)
  pub homes : (name : List ℕ) (v : Variable) → scopes.found vs name ≡ Some v
      → (l : ℕ) × (location_of env name ≡ Some l) × (0 < map.home l) × IsVariableAt q v (map.home l)

-- The machine stands at the code of an expression of class c with so many words pushed, evaluated by self, an object of class k, in a store
-- whose locations were made for classes.
pub record Begins (l : Loading) (c k : ClassId) (self : Value) (scope : List Binding) (vs : List Named) (env : Environment) (made : fitting.World) (d : ℕ) (q : Pointers) (m : Bytes) (map : Map) (console : Console)
    (st : State) (s : Machine) : Type 0 where
  pub at : At l.world q m console s
  pub shows : Shows st console
  pub pictures : Pictures l.table l.world l.memory m map st q.gp q.sp
  pub variables : Variables map q scope vs env
  pub self_is : Pic l.world m map st.drawn q.gp self q.self
  pub depth : q.sp + 4 * d ≡ q.fp
  pub frame : q.fp + 12 ≤ STACK_END
  pub scene : Scene l.table made c k self scope env
  pub fits : AllFit l.table made st.store made

-- a span of a feature of the program, where the program is loaded
abbrev pub IsSpan : Loading → ClassId → ℕ → Span → Type 0
IsSpan l c f span =
    ((m : MethodDef) × (slice_get (features_of l.table c) f ≡ Some (Method m)) × Contains (method_spans sizes (context l c f) (constants l) m.formals (l.world.place (method_label l.table (User c f))) m.body) span)
    ⊎ Contains (initializer_spans sizes l.table l.files (constants l) (l.world.place (initializer l.table c)) c) (record { class = c; feature = f; span = span })

-- The machine stands at the first word of the span of a visited expression, and pictures the visit: the names in the span's scope are those
-- of its environment, each at home in its word, and the words picture the values in its state.
pub record Shown (l : Loading) (x : Visit) (s : Machine) : Type 0 where
  pub span : Span
  pub there : IsSpan l x.class x.feature span
  pub tree_is : span.tree ≡ x.tree
  pub first_is : span.first ≡ x.first
  pub own : ClassId
  pub scope : List Binding
  pub made : fitting.World
  pub pointers : Pointers
  pub memory : Bytes
  pub map : Map
  pub console : Console
  pub from : pointers.pc ≡ span.from
  pub begins : Begins l x.class own x.self scope span.scope x.environment made span.depth pointers memory map console x.state s

-- Runs

-- From s the machine comes to the goal in lo to hi instructions, or within hi to an exit by a limit. Wherever it stands on the way at a word that is
-- watched, it pictures a visit of the watched run. If nothing is watched, this is Reaches.
pub record Passes (l : Loading) (s : Machine) (lo hi : ℕ) (goal : Goal) : Type 0 where
  pub reaches : Reaches (whole l) s lo hi goal
  pub visits : (m : ℕ) (t : Machine) → m < reaches.count → run (whole_text l) l.world.segments m s ≡ Running t → marks l.watch t.core.pc ≡ true → (x : Visit) × Watched l.watch x × Shown l x t

-- The outcome of evaluation

-- The machine stands behind code or a call: with these pointers except for the heap's next address, the value in $a0, and $ra.
pub record Done (l : Loading) (q : Pointers) (m : Bytes) (map : Map) (st : State) (words : ℕ) (v : Value) (t : State) (s : Machine) : Type 0 where
  pub gp : ℕ
  pub acc : ℕ
  pub ra : ℕ
  pub memory : Bytes
  pub map' : Map
  pub console : Console
  pub at : At l.world (record q { gp = gp; acc = acc; ra = ra }) memory console s
  pub shows : Shows t console
  pub pictures : Pictures l.table l.world l.memory memory map' t gp q.sp
  pub value : Pic l.world memory map' t.drawn gp v acc
  pub kept : Kept m memory map.marked q.gp q.sp
  pub grown : Grown map map' st.drawn (length st.store) q.gp q.sp
  pub drawn : st.drawn ≤ t.drawn
  pub located : length st.store ≤ length t.store
  pub gp_from : q.gp ≤ gp
  pub gp_to : gp ≤ q.gp + 4 * words

-- the same behind the code of arguments: each value is in its word, the first one uppermost
pub record AllDone (l : Loading) (q : Pointers) (m : Bytes) (map : Map) (st : State) (words : ℕ) (vs : List Value) (t : State) (s : Machine) : Type 0 where
  pub gp : ℕ
  pub acc : ℕ
  pub ra : ℕ
  pub memory : Bytes
  pub map' : Map
  pub console : Console
  pub at : At l.world (record q { gp = gp; sp = q.sp - 4 * length vs; acc = acc; ra = ra }) memory console s
  pub room : 4 * length vs ≤ q.sp
  pub shows : Shows t console
  pub pictures : Pictures l.table l.world l.memory memory map' t gp (q.sp - 4 * length vs)
  pub values : (j : ℕ) (v : Value) → slice_get vs j ≡ Some v → Pic l.world memory map' t.drawn gp v (word memory (q.sp - 4 * (j + 1)))
  pub unmarked : (k : ℕ) → q.sp ≤ 4 * k + 4 * length vs → 4 * k < q.sp → map'.marked k ≡ false
  pub kept : Kept m memory map.marked q.gp q.sp
  pub grown : Grown map map' st.drawn (length st.store) q.gp q.sp
  pub drawn : st.drawn ≤ t.drawn
  pub located : length st.store ≤ length t.store
  pub gp_from : q.gp ≤ gp
  pub gp_to : gp ≤ q.gp + 4 * words

-- the run ended by an error, with its text
pub record Stopped (l : Loading) (e : Error) (t : State) (s : Machine) : Type 0 where
  pub output : s.output ≡ t.output ++ error_text l.table l.files e
  pub input : s.input ≡ t.input

-- no step is left: the console is that of the source
pub record Paused (t : State) (s : Machine) : Type 0 where
  pub output : s.output ≡ t.output
  pub input : s.input ≡ t.input

-- From s, with n steps, the machine comes to the outcome of an evaluation, within so many instructions; each step takes at least one. Nothing is stated if
-- no rule applies.
abbrev pub Runs : {A : Type 0} → Loading → Machine → ℕ → ℕ → (A → State → Machine → Type 0) → Outcome A → Type 0
Runs l s n most K (Val v t left) = Passes l s (n - left) most (stands (K v t))
Runs l s n most K (Stop e t) = Passes l s 0 most (exits 3 (Stopped l e t))
Runs l s n most K (On t) = Passes l s n most (stands (Paused t))
Runs l s n most K Stuck = Unit {0}

-- the output and the input up to there are on the way of the whole run
abbrev pub Way : {A : Type 0} → Loading → Outcome A → Type 0
Way l (Val v t left) = OnTheWay l.world t.output t.input
Way l (Stop e t) = OnTheWay l.world (t.output ++ error_text l.table l.files e) t.input
Way l (On t) = OnTheWay l.world t.output t.input
Way l Stuck = Unit {0}

-- heap and stack are to reach as far as the meters say, besides so many bytes of the stack; a stack that would pass 0 is to reach 0, where
-- every limit explains its end
pub record Room {A : Type 0} (l : Loading) (q : Pointers) (besides : ℕ) (r : Metered A) : Type 0 where
  pub heap : q.gp + 4 * r.words ≤ l.world.top
  pub stack : l.world.low ≤ q.sp - (besides + 16 * r.peak)
  pub way : Way l r.outcome

-- Expressions

-- a span of a feature, with no mark in the pieces of its code
pub record Placed (l : Loading) (c : ClassId) (f : ℕ) (x : Span) : Type 0 where
  pub there : IsSpan l c f x
  pub quiet : IsQuiet (marks l.watch) (context l c f) (constants l) x

-- the code of an expression stands at pc, its constants, places and depth are within the limits, and its spans are those of the feature
pub record CodeAt (l : Loading) (c : ClassId) (f : ℕ) (vs : List Named) (d first pc : ℕ) (t : Tree) : Type 0 where
  pub lines : HasLines (whole l) pc (code (context l c f) (constants l) vs d first t)
  pub integers : (n : ℕ) → Contains (integers_in t) n → Contains (constants l).integers n
  pub strings : (bytes : List ℕ) → Contains (strings_in l.files t) bytes → Contains (constants l).strings bytes
  pub within : IsTreeWithin (length l.files) t
  pub small : d + tree_size t ≤ 8000
  pub spans : (x : Span) → Contains (spans sizes (context l c f) (constants l) vs d first pc t) x → Placed l c f x

pub record AllCodeAt (l : Loading) (c : ClassId) (f : ℕ) (vs : List Named) (d first pc : ℕ) (ts : Trees) : Type 0 where
  pub lines : HasLines (whole l) pc (arguments_code (context l c f) (constants l) vs d first ts)
  pub integers : (n : ℕ) → Contains (integers_in_all ts) n → Contains (constants l).integers n
  pub strings : (bytes : List ℕ) → Contains (strings_in_all l.files ts) bytes → Contains (constants l).strings bytes
  pub within : AreTreesWithin (length l.files) ts
  pub small : d + trees_size ts ≤ 8000
  pub spans : (x : Span) → Contains (arguments_spans sizes (context l c f) (constants l) vs d first pc ts) x → Placed l c f x
  pub pushes : ArePushesFree (marks l.watch) (context l c f) (constants l) vs d first pc ts

-- The code of an expression does what the expression means, where calls with at most b steps do, and what it begins is among what the watched run
-- begins. Four instructions are left over for the push of its value.
pub record Correct (l : Loading) (calls : Calls) (begun_in : Call → Visits) (b : ℕ) (t : Tree) : Type 0 where
  pub runs : (c : ClassId) (f : ℕ) (k : ClassId) (self : Value) (scope : List Binding) (vs : List Named) (env : Environment) (made : fitting.World) (d first : ℕ) (q : Pointers) (m : Bytes) (map : Map) (console : Console)
      (st : State) (s : Machine) (n : ℕ) (type : Ty) → n ≤ b → Begins l c k self scope vs env made d q m map console st s → HasType l.table c scope t type → CodeAt l c f vs d first q.pc t
      → Room l q 0 (eval l.table calls self env t st n)
      → ((x : Visit) → begun l.table calls begun_in c f self env first t st n x → Watched l.watch x)
      → Runs l s n (64 * (eval l.table calls self env t st n).work - 4)
      (Done l (record q { pc = q.pc + sizes (code (context l c f) (constants l) vs d first t) }) m map st (eval l.table calls self env t st n).words)
      (eval l.table calls self env t st n).outcome

-- the same of arguments, each pushed; three instructions more are for a last push that ends at the limit
pub record AllCorrect (l : Loading) (calls : Calls) (begun_in : Call → Visits) (b : ℕ) (ts : Trees) : Type 0 where
  pub runs : (c : ClassId) (f : ℕ) (k : ClassId) (self : Value) (scope : List Binding) (vs : List Named) (env : Environment) (made : fitting.World) (d first : ℕ) (q : Pointers) (m : Bytes) (map : Map) (console : Console)
      (st : State) (s : Machine) (n : ℕ) (types : List Ty) → n ≤ b → Begins l c k self scope vs env made d q m map console st s → HaveTypes l.table c scope ts types → AllCodeAt l c f vs d first q.pc ts
      → Room l q 0 (eval_all l.table calls self env ts st n)
      → ((x : Visit) → all_begun l.table calls begun_in c f self env first ts st n x → Watched l.watch x)
      → Runs l s n (64 * (eval_all l.table calls self env ts st n).work + 3)
      (AllDone l (record q { pc = q.pc + sizes (arguments_code (context l c f) (constants l) vs d first ts) }) m map st (eval_all l.table calls self env ts st n).words)
      (eval_all l.table calls self env ts st n).outcome

-- Calls

-- the machine stands at the entry of a method or of an initializer: the object is in $a0, the arguments are on the stack, the last one lowest
pub record Called (l : Loading) (k : ClassId) (self : Value) (vs : List Value) (made : fitting.World) (q : Pointers) (m : Bytes) (map : Map) (console : Console) (st : State) (s : Machine) : Type 0 where
  pub at : At l.world q m console s
  pub shows : Shows st console
  pub pictures : Pictures l.table l.world l.memory m map st q.gp q.sp
  pub self_is : Pic l.world m map st.drawn q.gp self q.acc
  pub room : q.sp + 4 * length vs ≤ STACK_END
  pub saved : (q.ra < 2 ^ 32) × (q.fp < 2 ^ 32) × (q.self < 2 ^ 32)
  pub values : (j : ℕ) (v : Value) → slice_get vs j ≡ Some v → Pic l.world m map st.drawn q.gp v (word m (q.sp + 4 * (length vs - (j + 1))))
  pub unmarked : (i : ℕ) → q.sp ≤ 4 * i → 4 * i < q.sp + 4 * length vs → map.marked i ≡ false
  pub class : class_of self ≡ Some k
  pub within : k.0 < length l.table
  pub plain : MayInherit k
  pub self_fits : Fits l.table made self k
  pub fits : AllFit l.table made st.store made

-- Calls with at most b steps do what they mean. A method's frame has three words; an initializer has a frame for each class of the chain
-- of its class, and gives its object, whatever its call gives.
pub record CallsCorrect (l : Loading) (calls : Calls) (begun_in : Call → Visits) (b : ℕ) : Type 0 where
  pub body : (owner : ClassId) (i : ℕ) (self : Value) (k : ClassId) (vs : List Value) (made : fitting.World) (q : Pointers) (m : Bytes) (map : Map) (console : Console) (st : State) (s : Machine) (n : ℕ) → n ≤ b
      → HasMethod l.table (User owner i) → Below l.table k owner → Called l k self vs made q m map console st s → q.pc ≡ l.world.place (method_label l.table (User owner i))
      → AllFit l.table made vs (each (meant l.table k) (formals_of l.table (User owner i))) → Room l q 12 (calls (Body owner i self vs) st n)
      → ((x : Visit) → begun_in (Body owner i self vs) st n x → Watched l.watch x)
      → Runs l s n (64 * (calls (Body owner i self vs) st n).work + 17)
      (Done l (record q { pc = q.ra; sp = q.sp + 4 * length vs }) m map st (calls (Body owner i self vs) st n).words) (calls (Body owner i self vs) st n).outcome
  pub initials : (c : ClassId) (self : Value) (k : ClassId) (made : fitting.World) (q : Pointers) (m : Bytes) (map : Map) (console : Console) (st : State) (s : Machine) (n : ℕ) → n ≤ b
      → c.0 < length l.table → Below l.table k c → Called l k self [] made q m map console st s → q.pc ≡ l.world.place (initializer l.table c)
      → Room l q (12 * length (chain l.table c)) (calls (Initials c self) st n)
      → ((x : Visit) → begun_in (Initials c self) st n x → Watched l.watch x)
      → Runs l s n (64 * (calls (Initials c self) st n).work + 20 * length (chain l.table c))
      (λ v. Done l (record q { pc = q.ra }) m map st (calls (Initials c self) st n).words self) (calls (Initials c self) st n).outcome

-- the assumption for expressions: calls with fewer steps
abbrev pub AllCallsCorrect : Loading → Calls → (Call → Visits) → ℕ → Type 0
AllCallsCorrect l calls begun_in b = (m : ℕ) → m < b → CallsCorrect l calls begun_in m
