-- `IsQuietAt` says that, in the code of an expression, no instruction between its subexpressions' codes or after them has a marked address (one at which the
-- proof watches the machine). If no subexpression comes first, only the first word of the code may be marked.
use Rattle.std.specs.Prelude.{◌≡◌, ℕ, ◌+◌, ◌-◌, ◌%◌, ◌<◌, ◌≤◌, List, [], ◌∷◌, codes, Bool as Truth, false, Some, IfSome, flat_map, Contains}
use Rattle.cool_syntax.specs.Tree.{Tree, Trees, Last, More, Without, With, tree_size}
use Rattle.cool_syntax.specs.Tree as trees
use Rattle.cool_syntax.specs.NodeLists.{root}
use Rattle.cool_rules.specs.Rules.{type_meant}
use Rattle.cool_runtime.specs.Routines.{push_lines}
use Rattle.cool_runtime.specs.Standing.{sizes}
use Rattle.cool_consts.specs.Constants.{Constants}
use Rattle.cool_codegen.specs.Arms.{Arm, arms_lines}
use Rattle.cool_codegen.specs.Code.{Context, code, arguments_code, arms_code, default_code, file_label, label_at}
use Rattle.cool_codegen.specs.Pieces.{case_begin_lines, mark_lines, test_lines, turn_lines, begin_init_lines}
use Rattle.cool_codegen.specs.Spans.{Span, method_spans}
use Rattle.cool_codegen.specs.Types.{trees_count}
use Rattle.cool_codegen.specs.Variables.{Named, bind}
use Rattle.cool_syntax.specs.declared.file_tree.Feature.{Feature}
use Rattle.cool_syntax.specs.declared.file_tree.Feature.TheVariants.{Method, Attribute}
use Rattle.cool_syntax.specs.declared.file_tree.Formal.{Formal}
use Rattle.cool_classes.specs.declared.class_id.ClassId.{ClassId}
use Rattle.cool_classes.specs.declared.method.MethodRef.TheVariants.{User}
use Rattle.cool_classes.specs.Chains.{Class, parent_of}
use Rattle.cool_runtime.specs.CodeOfCalls.{enter_lines}
use Rattle.cool_layout.specs.Labels.{initializer, method_label}
use Rattle.cool_codegen.specs.Features.{attributes_in, initial_value_code, method_code, with_formals}
use Rattle.cool_emit.specs.Programs.{Placed, initializer_code, parent_code, placed_code}
use Rattle.cool_emit.specs.SpansOfPrograms.{SpanOf, context_of, initializer_spans}
use Rattle.cool_emit.specs.Programs as placed

module _ (marked : ℕ → Truth) where
  -- no word from an address up to another one has a mark
  abbrev pub IsFree : ℕ → ℕ → Type 0
  IsFree from to = (i : ℕ) → i % 4 ≡ 0 → from ≤ i → i < to → marked i ≡ false

  -- the pushes behind arguments
  abbrev pub ArePushesFree : Context → Constants → List Named → ℕ → ℕ → ℕ → Trees → Type 0
  ArePushesFree s g vs d k pc Last = Unit {0}
  ArePushesFree s g vs d k pc (More t ts) =
      let push = pc + sizes (code s g vs d k t) in IsFree push (push + sizes push_lines) × ArePushesFree s g vs (d + 1) (k + tree_size t) (push + sizes push_lines) ts

  -- the tests of branches, and the jumps behind them
  abbrev pub AreArmsFree : ℕ → List Arm → Type 0
  AreArmsFree pc [] = Unit {0}
  AreArmsFree pc (a ∷ rest) = IsFree pc (pc + 16) × IsFree (pc + sizes a.lines - 4) (pc + sizes a.lines) × AreArmsFree (pc + sizes a.lines) rest

  -- the code of an expression that begins at pc
  abbrev pub IsQuietAt : Context → Constants → List Named → ℕ → ℕ → ℕ → Tree → Type 0
  IsQuietAt s g vs d k pc (trees.Id at name) = IsFree (pc + 4) (pc + sizes (code s g vs d k (trees.Id at name)))
  IsQuietAt s g vs d k pc (trees.Int at value) = IsFree (pc + 4) (pc + sizes (code s g vs d k (trees.Int at value)))
  IsQuietAt s g vs d k pc (trees.Str at bytes) = IsFree (pc + 4) (pc + sizes (code s g vs d k (trees.Str at bytes)))
  IsQuietAt s g vs d k pc (trees.Bool at value) = IsFree (pc + 4) (pc + sizes (code s g vs d k (trees.Bool at value)))
  IsQuietAt s g vs d k pc (trees.New at class) = IsFree (pc + 4) (pc + sizes (code s g vs d k (trees.New at class)))
  IsQuietAt s g vs d k pc (trees.Assign at name t) = IsFree (pc + sizes (code s g vs d k t)) (pc + sizes (code s g vs d k (trees.Assign at name t)))
  IsQuietAt s g vs d k pc (trees.IsVoid at t) = IsFree (pc + sizes (code s g vs d k t)) (pc + sizes (code s g vs d k (trees.IsVoid at t)))
  IsQuietAt s g vs d k pc (trees.Not at t) = IsFree (pc + sizes (code s g vs d k t)) (pc + sizes (code s g vs d k (trees.Not at t)))
  IsQuietAt s g vs d k pc (trees.Neg at t) = IsFree (pc + sizes (code s g vs d k t)) (pc + sizes (code s g vs d k (trees.Neg at t)))
  IsQuietAt s g vs d k pc (trees.Arith at op a b) =
      let push = pc + sizes (code s g vs d k a) in
      let second = push + sizes push_lines in
      IsFree push second × IsFree (second + sizes (code s g vs (d + 1) (k + tree_size a) b)) (pc + sizes (code s g vs d k (trees.Arith at op a b)))
  IsQuietAt s g vs d k pc (trees.Compare at op a b) =
      let push = pc + sizes (code s g vs d k a) in
      let second = push + sizes push_lines in
      IsFree push second × IsFree (second + sizes (code s g vs (d + 1) (k + tree_size a) b)) (pc + sizes (code s g vs d k (trees.Compare at op a b)))
  IsQuietAt s g vs d k pc (trees.If at t y n) =
      let test = pc + sizes (code s g vs d k t) in
      let yes = test + sizes (test_lines (label_at s (codes "else") (root k (trees.If at t y n)))) in
      let turn = yes + sizes (code s g vs d (k + tree_size t) y) in
      IsFree test yes × IsFree turn (turn + sizes (turn_lines (label_at s (codes "end") (root k (trees.If at t y n))) (label_at s (codes "else") (root k (trees.If at t y n)))))
  IsQuietAt s g vs d k pc (trees.While at t b) =
      let test = pc + sizes (mark_lines (label_at s (codes "loop") (root k (trees.While at t b)))) + sizes (code s g vs d k t) in
      let body = test + sizes (test_lines (label_at s (codes "end") (root k (trees.While at t b)))) in
      IsFree test body × IsFree (body + sizes (code s g vs d (k + tree_size t) b)) (pc + sizes (code s g vs d k (trees.While at t b)))
  IsQuietAt s g vs d k pc (trees.Block at ts) = Unit {0}
  IsQuietAt s g vs d k pc (trees.Let at name declared Without t) =
      let body = pc + sizes (default_code (type_meant s.table declared.name)) + sizes push_lines in
      IsFree (pc + 4) body
      × IsFree (body + sizes (code s g (bind d name (type_meant s.table declared.name) vs) (d + 1) (k + 0) t)) (pc + sizes (code s g vs d k (trees.Let at name declared Without t)))
  IsQuietAt s g vs d k pc (trees.Let at name declared (With u) t) =
      let push = pc + sizes (code s g vs d k u) in
      let body = push + sizes push_lines in
      IsFree push body
      × IsFree (body + sizes (code s g (bind d name (type_meant s.table declared.name) vs) (d + 1) (k + tree_size u) t)) (pc + sizes (code s g vs d k (trees.Let at name declared (With u) t)))
  IsQuietAt s g vs d k pc (trees.Case at t cs) =
      let begin = pc + sizes (code s g vs d k t) in
      let arms = begin + sizes (case_begin_lines (file_label s g at) at.line) + sizes push_lines in
      let written = arms_code s g vs d (k + tree_size t) (label_at s (codes "end") (root k (trees.Case at t cs))) [] cs in
      IsFree begin arms × AreArmsFree arms written × IsFree (arms + sizes (arms_lines written)) (pc + sizes (code s g vs d k (trees.Case at t cs)))
  IsQuietAt s g vs d k pc (trees.Dispatch at t name ts) =
      let receiver = pc + sizes (arguments_code s g vs d (k + tree_size t) ts) in
      ArePushesFree s g vs d (k + tree_size t) pc ts
      × IsFree (receiver + sizes (code s g vs (d + trees_count ts) k t)) (pc + sizes (code s g vs d k (trees.Dispatch at t name ts)))
  IsQuietAt s g vs d k pc (trees.StaticDispatch at t class name ts) =
      let receiver = pc + sizes (arguments_code s g vs d (k + tree_size t) ts) in
      ArePushesFree s g vs d (k + tree_size t) pc ts
      × IsFree (receiver + sizes (code s g vs (d + trees_count ts) k t)) (pc + sizes (code s g vs d k (trees.StaticDispatch at t class name ts)))

  abbrev pub IsQuiet : Context → Constants → Span → Type 0
  IsQuiet s g x = IsQuietAt s g x.scope x.depth x.first x.from x.tree

  -- Features

  -- the store behind an initial value, and those behind the initial values of attributes in order
  abbrev pub IsStoreFree : Context → Constants → ℕ → Feature → Type 0
  IsStoreFree s g pc (Method m) = Unit {0}
  IsStoreFree s g pc (Attribute a) = IfSome a.init (λ t. IsFree (pc + sizes (code s g (attributes_in s.table s.class) 0 0 t)) (pc + sizes (initial_value_code s g (Some t))))

  abbrev pub AreStoresFree : List Class → List (List ℕ) → Constants → ClassId → ℕ → List Placed → Type 0
  AreStoresFree p files g c pc [] = Unit {0}
  AreStoresFree p files g c pc (f ∷ fs) = IsStoreFree (context_of p files c f.place) g pc f.feature × AreStoresFree p files g c (pc + sizes (placed_code p files g c f)) fs

-- A method whose code begins at pc: what enters and leaves its frame has no mark, and its spans are quiet.
pub record IsQuietMethod (marked : ℕ → Truth) (s : Context) (g : Constants) (formals : List Formal) (pc : ℕ) (body : Tree) : Type 0 where
  pub enter : IsFree marked pc (pc + sizes (mark_lines (method_label s.table (User s.class s.feature))) + sizes enter_lines)
  pub leave : IsFree marked
      (pc + sizes (mark_lines (method_label s.table (User s.class s.feature))) + sizes enter_lines + sizes (code s g (with_formals s.table formals (attributes_in s.table s.class)) 0 0 body))
      (pc + sizes (method_code s g formals body))
  pub spans : (x : Span) → Contains (method_spans sizes s g formals pc body) x → IsQuiet marked s g x

-- An initializer: what enters its frame and calls that of the class above, the stores, and what leaves the frame.
pub record IsQuietInitializer (marked : ℕ → Truth) (p : List Class) (files : List (List ℕ)) (g : Constants) (c : ClassId) (pc : ℕ) : Type 0 where
  pub basic : c.0 < 5 → IsFree marked pc (pc + sizes (initializer_code p files g c))
  pub begin : 5 ≤ c.0 → IsFree marked pc (pc + sizes (begin_init_lines (initializer p c)) + sizes enter_lines + sizes (parent_code p (parent_of p c)))
  pub stores : 5 ≤ c.0 → AreStoresFree marked p files g c (pc + sizes (begin_init_lines (initializer p c)) + sizes enter_lines + sizes (parent_code p (parent_of p c))) (placed.attributes_in p c)
  pub end : 5 ≤ c.0
      → IsFree marked (pc + sizes (begin_init_lines (initializer p c)) + sizes enter_lines + sizes (parent_code p (parent_of p c)) + sizes (flat_map (placed_code p files g c) (placed.attributes_in p c)))
      (pc + sizes (initializer_code p files g c))
  pub spans : (x : SpanOf) → Contains (initializer_spans sizes p files g pc c) x → IsQuiet marked (context_of p files x.class x.feature) g x.span
