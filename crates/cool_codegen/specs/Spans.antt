-- The spans of code: for each subexpression of a tree, the position where its code begins, the names in scope there, the stack depth, and the number of nodes
-- before it. They are computed by the same recursion as the code. A position is a line if it is counted by `length`, and an address if it is counted by
-- `sizes`.
use Rattle.std.specs.Prelude.{◌≡◌, refl, ℕ, ◌+◌, List, [], ◌∷◌, ◌++◌, length, codes, nat_lt, if◌then◌else◌, Option, Some, None}
use Rattle.cool_syntax.specs.declared.place.Place.{Place}
use Rattle.cool_syntax.specs.declared.operator.ArithOp.TheVariants.{Add}
use Rattle.cool_syntax.specs.declared.file_tree.Feature.{Feature}
use Rattle.cool_syntax.specs.declared.file_tree.Feature.TheVariants.{Method, Attribute}
use Rattle.cool_syntax.specs.declared.file_tree.Formal.{Formal}
use Rattle.cool_syntax.specs.Tree.{Tree, Trees, MaybeTree, Cases, Last, More, Without, With, NoCase, CaseOf, tree_size, maybe_size}
use Rattle.cool_syntax.specs.Tree as trees
use Rattle.cool_syntax.specs.NodeLists.{root}
use Rattle.mips_isa.specs.Lines.{Name, Line}
use Rattle.cool_classes.specs.declared.method.MethodRef.TheVariants.{User}
use Rattle.cool_classes.specs.ClimbedChains.{above}
use Rattle.cool_rules.specs.Rules.{type_meant}
use Rattle.cool_runtime.specs.CodeOfCalls.{enter_lines}
use Rattle.cool_runtime.specs.Routines.{push_lines}
use Rattle.cool_runtime.specs.Standing.{sizes}
use Rattle.cool_layout.specs.Labels.{method_label}
use Rattle.cool_consts.specs.Constants.{Constants}
use Rattle.cool_codegen.specs.declared.arm.Arm as declared_arm
use Rattle.cool_codegen.specs.Arms.{Arm, arm_of}
use Rattle.cool_codegen.specs.Code.{Context, code, arguments_code, initial_code, file_label, label_at, range_code}
use Rattle.cool_codegen.specs.Features.{attributes_in, with_formals}
use Rattle.cool_codegen.specs.Pieces.{case_begin_lines, mark_lines, take_lines, test_lines, turn_lines}
use Rattle.cool_codegen.specs.Types.{class_meant, trees_count}
use Rattle.cool_codegen.specs.Variables.{Named, bind}

-- the code of a tree: where it begins, and what it is made by
pub record Span : Type 0 where
  pub from : ℕ
  pub tree : Tree
  pub scope : List Named
  pub depth : ℕ
  pub first : ℕ

abbrev pub code_of : Context → Constants → Span → List Line
code_of s g span = code s g span.scope span.depth span.first span.tree

-- a branch of a case with what is inside it
pub record Branch (Inside : Type 0) : Type 0 where
  pub arm : Arm
  pub inside : Inside

-- in the order in which branches are tried
abbrev pub with_branch : {I : Type 0} → List (Branch I) → Branch I → List (Branch I)
with_branch [] b = b ∷ []
with_branch (a ∷ as') b = if nat_lt a.arm.depth b.arm.depth then b ∷ a ∷ as' else a ∷ with_branch as' b

abbrev pub branch_of : {S : Type 0} → declared_arm.Arm S → Branch S
branch_of a = record { arm = arm_of a; inside = a.spans }

-- a branch with its spans, by where it begins
abbrev pub Spanned : Type 0
Spanned = Branch (ℕ → List Span)

-- the span of a whole tree
abbrev pub span : List Named → ℕ → ℕ → ℕ → Tree → Span
span vs d k pc t = record { from = pc; tree = t; scope = vs; depth = d; first = k }

module _ (size : List Line → ℕ) where
  -- the contents of parts whose code stands one behind the other, by where each begins
  abbrev pub along : {X Y : Type 0} → (X → List Line) → (ℕ → X → List Y) → ℕ → List X → List Y
  along code_of inside pc [] = []
  along code_of inside pc (x ∷ xs) = inside pc x ++ along code_of inside (pc + size (code_of x)) xs

  -- The spans of an expression whose code begins at an address: its own, then those of its parts, in the order of their code.
  abbrev mutual
    pub spans : Context → Constants → List Named → ℕ → ℕ → ℕ → Tree → List Span
    spans s g vs d k pc (trees.Id at name) = span vs d k pc (trees.Id at name) ∷ []
    spans s g vs d k pc (trees.Assign at name t) = span vs d k pc (trees.Assign at name t) ∷ spans s g vs d k pc t
    spans s g vs d k pc (trees.Dispatch at t name ts) =
        span vs d k pc (trees.Dispatch at t name ts)
        ∷ arguments_spans s g vs d (k + tree_size t) pc ts
        ++ spans s g vs (d + trees_count ts) k (pc + size (arguments_code s g vs d (k + tree_size t) ts)) t
    spans s g vs d k pc (trees.StaticDispatch at t class name ts) =
        span vs d k pc (trees.StaticDispatch at t class name ts)
        ∷ arguments_spans s g vs d (k + tree_size t) pc ts
        ++ spans s g vs (d + trees_count ts) k (pc + size (arguments_code s g vs d (k + tree_size t) ts)) t
    spans s g vs d k pc (trees.If at t y n) =
        let test = pc + size (code s g vs d k t) in
        let yes = test + size (test_lines (label_at s (codes "else") (root k (trees.If at t y n)))) in
        let turn = yes + size (code s g vs d (k + tree_size t) y) in
        let no = turn + size (turn_lines (label_at s (codes "end") (root k (trees.If at t y n))) (label_at s (codes "else") (root k (trees.If at t y n)))) in
        span vs d k pc (trees.If at t y n)
        ∷ spans s g vs d k pc t ++ (spans s g vs d (k + tree_size t) yes y ++ spans s g vs d (k + tree_size t + tree_size y) no n)
    spans s g vs d k pc (trees.While at t b) =
        let predicate = pc + size (mark_lines (label_at s (codes "loop") (root k (trees.While at t b)))) in
        let test = predicate + size (code s g vs d k t) in
        let body = test + size (test_lines (label_at s (codes "end") (root k (trees.While at t b)))) in
        span vs d k pc (trees.While at t b) ∷ spans s g vs d k predicate t ++ spans s g vs d (k + tree_size t) body b
    spans s g vs d k pc (trees.Block at ts) = span vs d k pc (trees.Block at ts) ∷ items_spans s g vs d k pc ts
    spans s g vs d k pc (trees.Let at name declared o t) =
        let push = pc + size (initial_code s g vs d k (type_meant s.table declared.name) o) in
        span vs d k pc (trees.Let at name declared o t)
        ∷ initial_spans s g vs d k pc o
        ++ spans s g (bind d name (type_meant s.table declared.name) vs) (d + 1) (k + maybe_size o) (push + size push_lines) t
    spans s g vs d k pc (trees.Case at t cs) =
        let begin = pc + size (code s g vs d k t) in
        let push = begin + size (case_begin_lines (file_label s g at) at.line) in
        span vs d k pc (trees.Case at t cs)
        ∷ spans s g vs d k pc t
        ++ along (λ b. b.arm.lines) (λ pc b. b.inside pc) (push + size push_lines) (branches s g vs d (k + tree_size t) (label_at s (codes "end") (root k (trees.Case at t cs))) [] cs)
    spans s g vs d k pc (trees.New at class) = span vs d k pc (trees.New at class) ∷ []
    spans s g vs d k pc (trees.IsVoid at t) = span vs d k pc (trees.IsVoid at t) ∷ spans s g vs d k pc t
    spans s g vs d k pc (trees.Arith at op a b) =
        span vs d k pc (trees.Arith at op a b)
        ∷ spans s g vs d k pc a ++ spans s g vs (d + 1) (k + tree_size a) (pc + size (code s g vs d k a) + size push_lines) b
    spans s g vs d k pc (trees.Neg at t) = span vs d k pc (trees.Neg at t) ∷ spans s g vs d k pc t
    spans s g vs d k pc (trees.Compare at op a b) =
        span vs d k pc (trees.Compare at op a b)
        ∷ spans s g vs d k pc a ++ spans s g vs (d + 1) (k + tree_size a) (pc + size (code s g vs d k a) + size push_lines) b
    spans s g vs d k pc (trees.Not at t) = span vs d k pc (trees.Not at t) ∷ spans s g vs d k pc t
    spans s g vs d k pc (trees.Int at value) = span vs d k pc (trees.Int at value) ∷ []
    spans s g vs d k pc (trees.Str at bytes) = span vs d k pc (trees.Str at bytes) ∷ []
    spans s g vs d k pc (trees.Bool at value) = span vs d k pc (trees.Bool at value) ∷ []

    pub arguments_spans : Context → Constants → List Named → ℕ → ℕ → ℕ → Trees → List Span
    arguments_spans s g vs d k pc Last = []
    arguments_spans s g vs d k pc (More t ts) =
        spans s g vs d k pc t ++ arguments_spans s g vs (d + 1) (k + tree_size t) (pc + size (code s g vs d k t) + size push_lines) ts

    pub items_spans : Context → Constants → List Named → ℕ → ℕ → ℕ → Trees → List Span
    items_spans s g vs d k pc Last = []
    items_spans s g vs d k pc (More t ts) = spans s g vs d k pc t ++ items_spans s g vs d (k + tree_size t) (pc + size (code s g vs d k t)) ts

    pub initial_spans : Context → Constants → List Named → ℕ → ℕ → ℕ → MaybeTree → List Span
    initial_spans s g vs d k pc Without = []
    initial_spans s g vs d k pc (With t) = spans s g vs d k pc t

    -- the branches of a case, put among those before them
    pub branches : Context → Constants → List Named → ℕ → ℕ → Name → List Spanned → Cases → List Spanned
    branches s g vs d k end before NoCase = before
    branches s g vs d k end before (CaseOf at name declared t cs) =
        branches s g vs d (k + tree_size t) end
        (with_branch before (record {
          arm = record {
            depth = length (above s.table (class_meant s.table s.class declared.name));
            lines =
                range_code s (class_meant s.table s.class declared.name) (label_at s (codes "next") (root k t))
                ++ (code s g (bind d name (type_meant s.table declared.name) vs) (d + 1) k t
                ++ turn_lines end (label_at s (codes "next") (root k t)));
          };
          inside = λ pc.
              spans s g (bind d name (type_meant s.table declared.name) vs) (d + 1) k
              (pc + size (range_code s (class_meant s.table s.class declared.name) (label_at s (codes "next") (root k t)))) t;
        })) cs

  -- The spans of a feature whose code begins at an address.

  abbrev pub method_spans : Context → Constants → List Formal → ℕ → Tree → List Span
  method_spans s g formals pc body =
      spans s g (with_formals s.table formals (attributes_in s.table s.class)) 0 0
      (pc + size (mark_lines (method_label s.table (User s.class s.feature))) + size enter_lines) body

  abbrev pub initial_value_spans : Context → Constants → ℕ → Option Tree → List Span
  initial_value_spans s g pc None = []
  initial_value_spans s g pc (Some t) = spans s g (attributes_in s.table s.class) 0 0 pc t

  abbrev pub feature_spans : Context → Constants → ℕ → Feature → List Span
  feature_spans s g pc (Method m) = method_spans s g m.formals pc m.body
  feature_spans s g pc (Attribute a) = initial_value_spans s g pc a.init

-- lines stand in a text behind so many of its lines
pub record StandsBehind (text : List Line) (n : ℕ) (part : List Line) : Type 0 where
  pub front : List Line
  pub rest : List Line
  pub whole : text ≡ front ++ (part ++ rest)
  pub many : length front ≡ n

-- Worked examples: `1 + 2`, whose second operand stands at depth 1, behind the code of the first and its push: six lines, or 28 bytes.
abbrev sum : Place → Tree
sum p = trees.Arith p Add (trees.Int p 1) (trees.Int p 2)

sum_by_lines : (s : Context) (g : Constants) (vs : List Named) (p : Place)
    → spans length s g vs 0 0 0 (sum p) ≡ span vs 0 0 0 (sum p) ∷ span vs 0 0 0 (trees.Int p 1) ∷ span vs 1 1 6 (trees.Int p 2) ∷ []
unfolding take_lines
sum_by_lines s g vs p = refl

sum_by_bytes : (s : Context) (g : Constants) (vs : List Named) (p : Place)
    → spans sizes s g vs 0 0 4194304 (sum p) ≡ span vs 0 0 4194304 (sum p) ∷ span vs 0 0 4194304 (trees.Int p 1) ∷ span vs 1 1 4194332 (trees.Int p 2) ∷ []
unfolding take_lines
sum_by_bytes s g vs p = refl
