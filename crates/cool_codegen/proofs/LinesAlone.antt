-- If only lines of assembly are wanted, code generation records no spans (address ranges of expressions), and the lines are the same as if spans are wanted.
use Rattle.std.proofs.Common.{◌≡◌, ℕ, ◌+◌, List, [], ◌∷◌, ◌++◌, Option, None, Some, length, map, ap, sym, refl, ◌∙◌}
use Rattle.std.specs.Prelude.{codes, slice_get}
use Rattle.std.specs.List.{AllByRecursion}
use Rattle.cool_syntax.specs.declared.node.Node.{Node}
use Rattle.cool_syntax.specs.declared.node.Node.TheVariants as node
use Rattle.cool_syntax.specs.declared.node.NodeBranch.{NodeBranch}
use Rattle.cool_syntax.specs.declared.node.NodeId.{NodeId}
use Rattle.cool_syntax.specs.Tree.{Tree}
use Rattle.cool_syntax.specs.NodeLists.{all_trees, made, nodes, tree_at}
use Rattle.mips_isa.specs.Lines.{Line, Name}
use Rattle.cool_classes.specs.ClimbedChains.{above}
use Rattle.cool_rules.specs.Scopes.{Binding}
use Rattle.cool_rules.specs.TypedParts.{IsPart, TypedBody}
use Rattle.cool_runtime.specs.Routines.{push_lines}
use Rattle.cool_consts.specs.Constants.{Constants}
use Rattle.cool_codegen.specs.declared.code_setting.Wanted.{Wanted}
use Rattle.cool_codegen.specs.declared.code_setting.Wanted.TheVariants.{Lines, Spans}
use Rattle.cool_codegen.specs.Arms.{Arm, arms_lines, with_arm}
use Rattle.cool_codegen.specs.Code.{Context, label_at}
use Rattle.cool_codegen.specs.Variables.{Named}
use Rattle.cool_codegen.specs.Spans.{Branch, with_branch}
use Rattle.cool_codegen.specs.Shown.{Shown, arms_spans, later, noted}
use Rattle.cool_codegen.specs.Numbered.{arguments_spans, asked_at, branch_lines, branch_spans, branches_made, class_of_branch, initial_spans, items_spans, lines_at, made_lines, node_spans, own_span, spans_at, with_file}
use Rattle.cool_codegen.proofs.ArmsInOrder.{all_put, arm_put}
use Rattle.cool_codegen.proofs.SpansByNumbers.{spans_of_node}

abbrev ShowsNothing : Branch (List Shown) → Type 0
ShowsNothing x = x.inside ≡ []

nothing_in_arms : (before : List Line) (bs : List (Branch (List Shown))) → AllByRecursion ShowsNothing bs → arms_spans before bs ≡ []
nothing_in_arms before [] h = refl
nothing_in_arms before (x ∷ bs) h = λ i. map (later (length before)) (h.0 i) ++ nothing_in_arms (before ++ x.arm.lines) bs h.1 i

module _ (s : Context) (b : Tree) where
  nothing_in_items : (t : Constants) (vs : List Named) (d : ℕ) (before : List Line) (ids : List NodeId) → items_spans Lines s b t vs d before ids ≡ []
  unfolding spans_at
  nothing_in_items t vs d before [] = refl
  nothing_in_items t vs d before (id ∷ ids) = nothing_in_items (asked_at s.files b t id) vs d (before ++ lines_at s b t vs d id) ids

  nothing_in_arguments : (t : Constants) (vs : List Named) (d : ℕ) (before : List Line) (ids : List NodeId) → arguments_spans Lines s b t vs d before ids ≡ []
  unfolding spans_at
  nothing_in_arguments t vs d before [] = refl
  nothing_in_arguments t vs d before (id ∷ ids) = nothing_in_arguments (asked_at s.files b t id) vs (d + 1) ((before ++ lines_at s b t vs d id) ++ push_lines) ids

  nothing_at_first : (vs : List Named) (d : ℕ) (before : List Line) (o : Option NodeId) → initial_spans Lines s b vs d before o ≡ []
  unfolding spans_at
  nothing_at_first vs d before None = refl
  nothing_at_first vs d before (Some id) = refl

  nothing_at : (vs : List Named) (d from : ℕ) (id : NodeId) → spans_at Lines s b vs d from id ≡ []
  unfolding spans_at
  nothing_at vs d from id = refl

  nothing_in_branches : (t : Constants) (vs : List Named) (d : ℕ) (end : Name) (before : List (Branch (List Shown))) (ws : List NodeBranch)
      → AllByRecursion ShowsNothing before → AllByRecursion ShowsNothing (branches_made Lines s b t vs d end before ws)
  nothing_in_branches t vs d end before [] h = h
  nothing_in_branches t vs d end before (w ∷ ws) h =
      nothing_in_branches (asked_at s.files b t w.body) vs d end (with_branch before _) ws (all_put ShowsNothing before _ h (nothing_at _ _ _ _))

  -- nothing is noted of the parts of a node
  nothing_in_node : (t : Constants) (vs : List Named) (d : ℕ) (before : List Line) (id : NodeId) (n : Node) → node_spans Lines s b t vs d before id n ≡ []
  unfolding spans_at
  nothing_in_node t vs d before id (node.Assign at name a) = refl
  nothing_in_node t vs d before id (node.Dispatch at a name ids) = ap (λ xs. xs ++ []) (nothing_in_arguments t vs d before ids)
  nothing_in_node t vs d before id (node.StaticDispatch at a class name ids) = ap (λ xs. xs ++ []) (nothing_in_arguments t vs d before ids)
  nothing_in_node t vs d before id (node.If at c y n) = refl
  nothing_in_node t vs d before id (node.While at c a) = refl
  nothing_in_node t vs d before id (node.Block at ids) = nothing_in_items t vs d before ids
  nothing_in_node t vs d before id (node.Let at name declared o a) = ap (λ xs. xs ++ []) (nothing_at_first vs d before o)
  nothing_in_node t vs d before id (node.Case at a ws) =
      nothing_in_arms _ _ (nothing_in_branches (with_file s.files (asked_at s.files b t a) at) vs d (label_at s (codes "end") id) [] ws tt)
  nothing_in_node t vs d before id (node.New at class) = refl
  nothing_in_node t vs d before id (node.IsVoid at a) = refl
  nothing_in_node t vs d before id (node.Arith at op l r) = refl
  nothing_in_node t vs d before id (node.Neg at a) = refl
  nothing_in_node t vs d before id (node.Compare at op l r) = refl
  nothing_in_node t vs d before id (node.Not at a) = refl
  nothing_in_node t vs d before id (node.Id at name) = refl
  nothing_in_node t vs d before id (node.Int at value) = refl
  nothing_in_node t vs d before id (node.Str at bytes) = refl
  nothing_in_node t vs d before id (node.Bool at value) = refl

  -- the lines of branches, whatever is wanted
  same_arms : (want : Wanted) (t : Constants) (vs : List Named) (d : ℕ) (end : Name) (xs ys : List (Branch (List Shown))) (ws : List NodeBranch)
      → map (λ (x : Branch (List Shown)). x.arm) xs ≡ map (λ (x : Branch (List Shown)). x.arm) ys
      → map (λ (x : Branch (List Shown)). x.arm) (branches_made want s b t vs d end xs ws) ≡ map (λ (x : Branch (List Shown)). x.arm) (branches_made Lines s b t vs d end ys ws)
  same_arms want t vs d end xs ys [] h = h
  same_arms want t vs d end xs ys (w ∷ ws) h =
      let arm : Arm = record { depth = length (above s.table (class_of_branch s w)); lines = branch_lines s b t vs d end w } in
      let x : Branch (List Shown) = record { arm = arm; inside = branch_spans want s b vs d [] w } in
      let y : Branch (List Shown) = record { arm = arm; inside = branch_spans Lines s b vs d [] w } in
      same_arms want (asked_at s.files b t w.body) vs d end (with_branch xs x) (with_branch ys y) ws (sym (arm_put xs x) ∙ ap (λ (as' : List Arm). with_arm as' arm) h ∙ arm_put ys y)

pub same_lines : (want : Wanted) (s : Context) (b : Tree) (t : Constants) (vs : List Named) (d : ℕ) (end : Name) (ws : List NodeBranch)
    → made_lines (branches_made want s b t vs d end [] ws) ≡ made_lines (branches_made Lines s b t vs d end [] ws)
same_lines want s b t vs d end ws = ap arms_lines (same_arms s b want t vs d end [] [] ws refl)

-- at the number of a part: what is noted of it
pub noted_of_node : (want : Wanted) (s : Context) (b : TypedBody) (scope : List Binding) (t : Constants) (vs : List Named) (d : ℕ) (id : NodeId) (n : Node) (before : List Line)
    → IsPart b scope id → slice_get (nodes 0 b.body) id.0 ≡ Some n → tree_at b.body id ≡ made (all_trees b.body) n
    → spans_at want s b.body vs d (length before) id ≡ noted want (own_span s b.body t vs d before id n ∷ []) ++ node_spans want s b.body t vs d before id n
noted_of_node Lines s b scope t vs d id n before h e tree = nothing_at s b.body vs d (length before) id ∙ sym (nothing_in_node s b.body t vs d before id n)
noted_of_node Spans s b scope t vs d id n before h e tree = spans_of_node s b scope t vs d id n before h e tree
