-- The spans (ranges of lines) of the expression at a node number are the span of its own code and those of its subexpressions. All of them lie within the lines
-- of the expression.
use Rattle.std.proofs.Common.{◌≡◌, ℕ, ◌+◌, ◌≤◌, List, [], ◌∷◌, ◌++◌, Some, length, map, Bool as Truth, true, false, refl, sym, ◌∙◌, ap, arith}
use Rattle.std.specs.Prelude.{if◌then◌else◌, nat_lt, slice_get, codes}
use Rattle.std.specs.List.{AllByRecursion}
use Rattle.std.proofs.lemmas.List.{length-append, map-append}
use Rattle.cool_syntax.specs.declared.node.Node.{Node}
use Rattle.cool_syntax.specs.declared.node.NodeBranch.{NodeBranch}
use Rattle.cool_syntax.specs.declared.node.NodeId.{NodeId}
use Rattle.cool_syntax.specs.Tree.{Tree, Trees, MaybeTree, Cases, Last, More, Without, With, NoCase, CaseOf, tree_size, maybe_size}
use Rattle.cool_syntax.specs.Tree as trees
use Rattle.cool_syntax.proofs.TreesHaveNodes.{one_le_size}
use Rattle.cool_syntax.specs.NodeLists.{root, root_of_maybe, roots, branch_roots, nodes, nodes_of_all, nodes_of_maybe, nodes_of_cases, all_trees, made, tree_at}
use Rattle.mips_isa.specs.Lines.{Line, Name}
use Rattle.cool_classes.specs.declared.class_id.Ty.{Ty}
use Rattle.cool_rules.specs.Rules.{type_meant}
use Rattle.cool_rules.specs.Scopes.{Binding}
use Rattle.cool_rules.specs.TypedParts.{IsPart, Lies, TypedBody}
use Rattle.cool_runtime.specs.Routines.{push_lines}
use Rattle.cool_consts.specs.Constants.{Constants}
use Rattle.cool_codegen.specs.Variables.{Named, bind}
use Rattle.cool_codegen.specs.Types.{class_meant, trees_count}
use Rattle.cool_codegen.specs.Code.{Context, code, arguments_code, initial_code, file_label, label_at, range_code}
use Rattle.cool_codegen.specs.Pieces.{case_begin_lines, mark_lines, test_lines, turn_lines}
use Rattle.cool_codegen.specs.Spans.{Branch, Span, Spanned, along, branches, spans, with_branch}
use Rattle.cool_codegen.specs.Spans as of_trees
use Rattle.cool_codegen.specs.declared.code_setting.Wanted.{Wanted}
use Rattle.cool_codegen.specs.declared.code_setting.Wanted.TheVariants.{Lines, Spans}
use Rattle.cool_codegen.specs.Shown.{IsWithin, Shown, arms_spans, later, shown, whole}
use Rattle.cool_codegen.specs.Numbered.{arguments_lines, arguments_spans, asked_at, branches_made, initial_lines, initial_spans, items_spans, lines_at, no_constants, node_asked, node_lines, node_spans, nodes_before, own_span, spans_at, with_file, within_branch}
use Rattle.cool_rules.proofs.PartsStand.{Stands, tree_there, top, first_stands, others_stand, first_branch_stands, other_branches_stand, one_stands, two_stand, maybe_stands, three_stand, all_stand}
use Rattle.cool_codegen.proofs.ArmsInOrder.{all_put}
use Rattle.cool_codegen.proofs.CodeByNumbers.{at_part, count_is, node_coded}
use Rattle.cool_codegen.proofs.LinesInAll.{as_many_lines, same_begin}
use Rattle.cool_codegen.proofs.MovedSpans.{moved, moved_spans}
use Rattle.cool_codegen.proofs.SpansOfCode.{law_spans}

-- lists of what spans show, joined
both : (s : Context) (xs ys : List Span) (xs' ys' : List Shown) → map (shown s no_constants) xs ≡ xs' → map (shown s no_constants) ys ≡ ys' → map (shown s no_constants) (xs ++ ys) ≡ xs' ++ ys'
both s xs ys xs' ys' h k = map-append (shown s no_constants) xs ys ∙ (λ i. h i ++ k i)

module _ (s : Context) (b : Tree) where
  -- the expression at a number has as many lines as its tree by each table
  many_at : (t g : Constants) (vs : List Named) (d k : ℕ) (e : Tree) → Stands (nodes 0 b) k e → length (lines_at s b t vs d (root k e)) ≡ length (code s g vs d k e)
  unfolding lines_at asked_at
  many_at t g vs d k e there =
      let is = tree_there b k e there in
      let size : tree_size e ≡ tree_size (tree_at b (root k e)) = ap tree_size (sym is) in
      let before : nodes_before b (root k e) ≡ k = omega (arith, one_le_size e) in
      as_many_lines s (asked_at s.files b t (root k e)) g vs d (nodes_before b (root k e)) (tree_at b (root k e)) ∙ (λ i. length (code s g vs d (before i) (is i)))

  pub spans_are : (vs : List Named) (d k from pc : ℕ) (e : Tree) → Stands (nodes 0 b) k e → from ≡ pc → map (shown s no_constants) (spans length s no_constants vs d k pc e) ≡ spans_at Spans s b vs d from (root k e)
  unfolding spans_at
  spans_are vs d k from pc e there same =
      let is = sym (tree_there b k e there) in
      let size : tree_size e ≡ tree_size (tree_at b (root k e)) = ap tree_size is in
      let before : k ≡ nodes_before b (root k e) = omega (arith, one_le_size e) in
      λ i. map (shown s no_constants) (spans length s no_constants vs d (before i) (sym same i) (is i))

  items_are : (t : Constants) (vs : List Named) (d k pc : ℕ) (before : List Line) (ts : Trees) → Lies (nodes 0 b) k (nodes_of_all k ts) → length before ≡ pc
      → map (shown s no_constants) (of_trees.items_spans length s no_constants vs d k pc ts) ≡ items_spans Spans s b t vs d before (roots k ts)
  items_are t vs d k pc before Last there same = refl
  items_are t vs d k pc before (More e ts) there same =
      let lines = lines_at s b t vs d (root k e) in
      let here = first_stands e ts there in
      let many = many_at t no_constants vs d k e here in
      both s (spans length s no_constants vs d k pc e) _ _ _ (spans_are vs d k (length before) pc e here same)
      (items_are (asked_at s.files b t (root k e)) vs d (k + tree_size e) _ (before ++ lines) ts (others_stand e ts there) (omega (arith, length-append before lines)))

  arguments_are : (t : Constants) (vs : List Named) (d k pc : ℕ) (before : List Line) (ts : Trees) → Lies (nodes 0 b) k (nodes_of_all k ts) → length before ≡ pc
      → map (shown s no_constants) (of_trees.arguments_spans length s no_constants vs d k pc ts) ≡ arguments_spans Spans s b t vs d before (roots k ts)
  arguments_are t vs d k pc before Last there same = refl
  arguments_are t vs d k pc before (More e ts) there same =
      let lines = lines_at s b t vs d (root k e) in
      let here = first_stands e ts there in
      let many = many_at t no_constants vs d k e here in
      both s (spans length s no_constants vs d k pc e) _ _ _ (spans_are vs d k (length before) pc e here same)
      (arguments_are (asked_at s.files b t (root k e)) vs (d + 1) (k + tree_size e) _ ((before ++ lines) ++ push_lines) ts (others_stand e ts there)
      (omega (arith, length-append before lines, length-append (before ++ lines) push_lines)))

  -- arguments have as many lines as their trees
  many_arguments : (t : Constants) (vs : List Named) (d k : ℕ) (ts : Trees) → Lies (nodes 0 b) k (nodes_of_all k ts) → length (arguments_lines s b t vs d (roots k ts)) ≡ length (arguments_code s no_constants vs d k ts)
  many_arguments t vs d k Last there = refl
  many_arguments t vs d k (More e ts) there =
      let lines = lines_at s b t vs d (root k e) in
      let rest = arguments_lines s b (asked_at s.files b t (root k e)) vs (d + 1) (roots (k + tree_size e) ts) in
      let one = code s no_constants vs d k e in
      let more = arguments_code s no_constants vs (d + 1) (k + tree_size e) ts in
      omega (
        arith,
        many_at t no_constants vs d k e (first_stands e ts there),
        many_arguments (asked_at s.files b t (root k e)) vs (d + 1) (k + tree_size e) ts (others_stand e ts there),
        length-append lines (push_lines ++ rest),
        length-append push_lines rest,
        length-append one (push_lines ++ more),
        length-append push_lines more,
      )

  initial_are : (vs : List Named) (d k pc : ℕ) (before : List Line) (o : MaybeTree) → Lies (nodes 0 b) k (nodes_of_maybe k o) → length before ≡ pc
      → map (shown s no_constants) (of_trees.initial_spans length s no_constants vs d k pc o) ≡ initial_spans Spans s b vs d before (root_of_maybe k o)
  initial_are vs d k pc before Without there same = refl
  initial_are vs d k pc before (With e) there same = spans_are vs d k (length before) pc e there same

  many_initial : (t : Constants) (vs : List Named) (d k : ℕ) (type : Ty) (o : MaybeTree) → Lies (nodes 0 b) k (nodes_of_maybe k o)
      → length (initial_lines s b t vs d type (root_of_maybe k o)) ≡ length (initial_code s no_constants vs d k type o)
  many_initial t vs d k type Without there = refl
  many_initial t vs d k type (With e) there = many_at t no_constants vs d k e there

  -- a moved span, as it is shown
  later_shown : (n : ℕ) (xs : List Span) → map (later n) (map (shown s no_constants) xs) ≡ map (shown s no_constants) (map (moved n) xs)
  later_shown n [] = refl
  later_shown n (x ∷ xs) =
      let to : n + (x.from + length (code s no_constants x.scope x.depth x.first x.tree)) ≡ n + x.from + length (code s no_constants x.scope x.depth x.first x.tree) = omega arith in
      λ i. whole x.scope x.depth (n + x.from) (to i) x.tree ∷ later_shown n xs i

  -- a branch by numbers has the depth of the branch, as many lines, and shows its spans, wherever it begins
  record IsBranch (x : Spanned) (y : Branch (List Shown)) : Type 0 where
    depth : x.arm.depth ≡ y.arm.depth
    lines : length x.arm.lines ≡ length y.arm.lines
    inside : (pc : ℕ) → map (shown s no_constants) (x.inside pc) ≡ map (later pc) y.inside

  abbrev AreBranches : List Spanned → List (Branch (List Shown)) → Type 0
  AreBranches [] [] = Unit {0}
  AreBranches [] (y ∷ ys) = ⊥
  AreBranches (x ∷ xs) [] = ⊥
  AreBranches (x ∷ xs) (y ∷ ys) = IsBranch x y × AreBranches xs ys

  both_put : (xs : List Spanned) (ys : List (Branch (List Shown))) (x : Spanned) (y : Branch (List Shown)) → AreBranches xs ys → IsBranch x y → AreBranches (with_branch xs x) (with_branch ys y)
  both_put [] [] x y h is = (is, tt)
  both_put [] (w ∷ ys) x y h is = absurd h
  both_put (v ∷ xs) [] x y h is = absurd h
  both_put (v ∷ xs) (w ∷ ys) x y h is = by (nat_lt v.arm.depth x.arm.depth) (nat_lt w.arm.depth y.arm.depth) (λ i. nat_lt (h.0.depth i) (is.depth i)) (both_put xs ys x y h.1 is)
    where
      by : (t u : Truth) → t ≡ u → AreBranches (with_branch xs x) (with_branch ys y) → AreBranches (if t then x ∷ v ∷ xs else v ∷ with_branch xs x) (if u then y ∷ w ∷ ys else w ∷ with_branch ys y)
      by true true e more = (is, h)
      by false false e more = (h.0, more)
      by true false e more = absurd (cc)
      by false true e more = absurd (cc)

  along_is : (xs : List Spanned) (ys : List (Branch (List Shown))) (pc : ℕ) (before : List Line) → AreBranches xs ys → length before ≡ pc
      → map (shown s no_constants) (along length (λ (x : Spanned). x.arm.lines) (λ pc x. x.inside pc) pc xs) ≡ arms_spans before ys
  along_is [] [] pc before h same = refl
  along_is [] (y ∷ ys) pc before h same = absurd h
  along_is (x ∷ xs) [] pc before h same = absurd h
  along_is (x ∷ xs) (y ∷ ys) pc before h same =
      let lines = h.0.lines in
      both s (x.inside pc) _ _ _ (h.0.inside pc ∙ ap (λ (n : ℕ). map (later n) y.inside) (sym same))
      (along_is xs ys (pc + length x.arm.lines) (before ++ y.arm.lines) h.1 (omega (arith, length-append before y.arm.lines)))

  branches_are : (t : Constants) (vs : List Named) (d k : ℕ) (end : Name) (xs : List Spanned) (ys : List (Branch (List Shown))) (cs : Cases) → Lies (nodes 0 b) k (nodes_of_cases k cs) → AreBranches xs ys
      → AreBranches (branches length s no_constants vs d k end xs cs) (branches_made Spans s b t vs d end ys (branch_roots k cs))
  branches_are t vs d k end xs ys NoCase there h = h
  branches_are t vs d k end xs ys (CaseOf at name declared e cs) there h =
      let here = first_branch_stands e cs there in
      let scope = bind d name (type_meant s.table declared.name) vs in
      let range = range_code s (class_meant s.table s.class declared.name) (label_at s (codes "next") (root k e)) in
      let turn = turn_lines end (label_at s (codes "next") (root k e)) in
      let one = code s no_constants scope (d + 1) k e in
      let lines = lines_at s b t scope (d + 1) (root k e) in
      let w : NodeBranch = record { at = at; name = name; declared = declared; body = root k e } in
      branches_are (asked_at s.files b t (root k e)) vs d (k + tree_size e) end (with_branch xs _) (with_branch ys _) cs (other_branches_stand e cs there)
      (both_put xs ys _ _ h (record {
        depth = refl;
        lines = omega (arith, many_at t no_constants scope (d + 1) k e here, length-append range (one ++ turn), length-append one turn, length-append range (lines ++ turn), length-append lines turn);
        inside = λ pc.
            ap (map (shown s no_constants)) (sym (moved_spans pc length s no_constants scope (d + 1) k (length range) (pc + length range) e refl))
            ∙ sym (later_shown pc (spans length s no_constants scope (d + 1) k (length range) e))
            ∙ ap (map (later pc)) (spans_are scope (d + 1) k (length range) (length range) e here refl);
      }))

  module _ (t : Constants) (vs : List Named) (d k : ℕ) (before : List Line) where
    -- the end of the code of a tree, by the lines of its node
    ends : (e : Tree) → Stands (nodes 0 b) k e → length before + length (code s no_constants vs d k e) ≡ length (before ++ node_lines s b t vs d (root k e) (top k e))
    ends e there =
        omega (
          arith,
          length-append before (node_lines s b t vs d (root k e) (top k e)),
          ap length (node_coded s b t vs d k e there),
          as_many_lines s no_constants (node_asked s.files b t (top k e)) vs d k e,
        )

    -- the span of a tree, and those inside it
    own : (e : Tree) → Stands (nodes 0 b) k e → (xs : List Span) (ys : List Shown) → map (shown s no_constants) xs ≡ ys
        → whole vs d (length before) (length before + length (code s no_constants vs d k e)) e ∷ map (shown s no_constants) xs
        ≡ whole vs d (length before) (length (before ++ node_lines s b t vs d (root k e) (top k e))) e ∷ ys
    own e there xs ys h = λ i. whole vs d (length before) (ends e there i) e ∷ h i

    -- the spans of the arguments of a call, and of its receiver
    call_spanned : (e : Tree) (ts : Trees) → Stands (nodes 0 b) k e → Lies (nodes 0 b) (k + tree_size e) (nodes_of_all (k + tree_size e) ts)
        → map (shown s no_constants) (of_trees.arguments_spans length s no_constants vs d (k + tree_size e) (length before) ts ++ spans length s no_constants vs (d + trees_count ts) k (length before + length (arguments_code s no_constants vs d (k + tree_size e) ts)) e)
        ≡ arguments_spans Spans s b t vs d before (roots (k + tree_size e) ts)
        ++ spans_at Spans s b vs (d + length (roots (k + tree_size e) ts)) (length (before ++ arguments_lines s b t vs d (roots (k + tree_size e) ts))) (root k e)
    call_spanned e ts here others =
        let args = arguments_lines s b t vs d (roots (k + tree_size e) ts) in
        let many = many_arguments t vs d (k + tree_size e) ts others in
        both s (of_trees.arguments_spans length s no_constants vs d (k + tree_size e) (length before) ts) _ _ _ (arguments_are t vs d (k + tree_size e) (length before) before ts others refl)
        (spans_are vs (d + trees_count ts) k (length (before ++ args)) (length before + length (arguments_code s no_constants vs d (k + tree_size e) ts)) e here (omega (arith, length-append before args)) ∙ ap (λ (n : ℕ). spans_at Spans s b vs (d + n) (length (before ++ args)) (root k e)) (count_is (k + tree_size e) ts))

    pub node_spanned : (e : Tree) → Stands (nodes 0 b) k e
        → map (shown s no_constants) (spans length s no_constants vs d k (length before) e)
        ≡ whole vs d (length before) (length (before ++ node_lines s b t vs d (root k e) (top k e))) e ∷ node_spans Spans s b t vs d before (root k e) (top k e)
    node_spanned (trees.Id at name) there = own (trees.Id at name) there [] [] refl
    node_spanned (trees.leaf at form) there = own (trees.leaf at form) there [] [] refl
    node_spanned (trees.Not at e) there =
        own (trees.Not at e) there (spans length s no_constants vs d k (length before) e) _ (spans_are vs d k _ _ e (one_stands e _ there) refl)
    node_spanned (trees.unary at form e) there =
        own (trees.unary at form e) there (spans length s no_constants vs d k (length before) e) _ (spans_are vs d k _ _ e (one_stands e _ there) refl)
    node_spanned (trees.Dispatch at e name ts) there =
        let parts = two_stand e (nodes_of_all (k + tree_size e) ts) _ there in
        own (trees.Dispatch at e name ts) there _ _ (call_spanned e ts parts.0 parts.1)
    node_spanned (trees.call at form e ts) there =
        let parts = two_stand e (nodes_of_all (k + tree_size e) ts) _ there in
        own (trees.call at form e ts) there _ _ (call_spanned e ts parts.0 parts.1)
    node_spanned (trees.If at c y n) there =
        let parts = three_stand c y n _ there in
        let lines_c = lines_at s b t vs d (root k c) in
        let lines_y = lines_at s b (asked_at s.files b t (root k c)) vs d (root (k + tree_size c) y) in
        let other = label_at s (codes "else") (root k (trees.If at c y n)) in
        let end = label_at s (codes "end") (root k (trees.If at c y n)) in
        let yes = (before ++ lines_c) ++ test_lines other in
        let many_c = many_at t no_constants vs d k c parts.0 in
        let many_y = many_at (asked_at s.files b t (root k c)) no_constants vs d (k + tree_size c) y parts.1 in
        let l1 = length-append before lines_c in
        let l2 = length-append (before ++ lines_c) (test_lines other) in
        let l3 = length-append yes lines_y in
        let l4 = length-append (yes ++ lines_y) (turn_lines end other) in
        let at_y = length before + length (code s no_constants vs d k c) + length (test_lines other) in
        let at_n = at_y + length (code s no_constants vs d (k + tree_size c) y) + length (turn_lines end other) in
        own (trees.If at c y n) there _ _
        (both s (spans length s no_constants vs d k (length before) c) _ _ _ (spans_are vs d k _ _ c parts.0 refl)
        (both s (spans length s no_constants vs d (k + tree_size c) at_y y) _ _ _ (spans_are vs d (k + tree_size c) (length yes) at_y y parts.1 (omega arith))
        (spans_are vs d (k + tree_size c + tree_size y) (length ((yes ++ lines_y) ++ turn_lines end other)) at_n n parts.2 (omega arith))))
    node_spanned (trees.While at c a) there =
        let parts = two_stand c (nodes (k + tree_size c) a) _ there in
        let lines_c = lines_at s b t vs d (root k c) in
        let begin = label_at s (codes "loop") (root k (trees.While at c a)) in
        let end = label_at s (codes "end") (root k (trees.While at c a)) in
        let predicate = before ++ mark_lines begin in
        let many_c = many_at t no_constants vs d k c parts.0 in
        let l1 = length-append before (mark_lines begin) in
        let l2 = length-append predicate lines_c in
        let l3 = length-append (predicate ++ lines_c) (test_lines end) in
        let at_c = length before + length (mark_lines begin) in
        let at_a = at_c + length (code s no_constants vs d k c) + length (test_lines end) in
        own (trees.While at c a) there _ _
        (both s (spans length s no_constants vs d k at_c c) _ _ _ (spans_are vs d k (length predicate) at_c c parts.0 (omega arith))
        (spans_are vs d (k + tree_size c) (length ((predicate ++ lines_c) ++ test_lines end)) at_a a parts.1 (omega arith)))
    node_spanned (trees.binary at form l r) there =
        let parts = two_stand l (nodes (k + tree_size l) r) _ there in
        let lines_l = lines_at s b t vs d (root k l) in
        let many_l = many_at t no_constants vs d k l parts.0 in
        let l1 = length-append before lines_l in
        let l2 = length-append (before ++ lines_l) push_lines in
        own (trees.binary at form l r) there _ _
        (both s (spans length s no_constants vs d k (length before) l) _ _ _ (spans_are vs d k _ _ l parts.0 refl)
        (spans_are vs (d + 1) (k + tree_size l) (length ((before ++ lines_l) ++ push_lines)) (length before + length (code s no_constants vs d k l) + length push_lines) r parts.1 (omega arith)))
    node_spanned (trees.Block at ts) there = own (trees.Block at ts) there _ _ (items_are t vs d k (length before) before ts (all_stand ts _ there) refl)
    node_spanned (trees.Let at name declared o a) there =
        let parts = maybe_stands o a _ there in
        let type = type_meant s.table declared.name in
        let lines_o = initial_lines s b t vs d type (root_of_maybe k o) in
        let many_o = many_initial t vs d k type o parts.0 in
        let l1 = length-append before lines_o in
        let l2 = length-append (before ++ lines_o) push_lines in
        own (trees.Let at name declared o a) there _ _
        (both s (of_trees.initial_spans length s no_constants vs d k (length before) o) _ _ _ (initial_are vs d k (length before) before o parts.0 refl)
        (spans_are (bind d name type vs) (d + 1) (k + maybe_size o) (length ((before ++ lines_o) ++ push_lines)) (length before + length (initial_code s no_constants vs d k type o) + length push_lines) a parts.1 (omega arith)))
    node_spanned (trees.Case at a cs) there =
        let parts = two_stand a (nodes_of_cases (k + tree_size a) cs) _ there in
        let asked = with_file s.files (asked_at s.files b t (root k a)) at in
        let end = label_at s (codes "end") (root k (trees.Case at a cs)) in
        let lines_a = lines_at s b t vs d (root k a) in
        let begin = case_begin_lines (file_label s asked at) at.line in
        let many_a = many_at t no_constants vs d k a parts.0 in
        let many_begin = same_begin s no_constants asked at in
        let l1 = length-append before lines_a in
        let l2 = length-append (before ++ lines_a) begin in
        let l3 = length-append ((before ++ lines_a) ++ begin) push_lines in
        own (trees.Case at a cs) there _ _
        (both s (spans length s no_constants vs d k (length before) a) _ _ _ (spans_are vs d k _ _ a parts.0 refl)
        (along_is (branches length s no_constants vs d (k + tree_size a) end [] cs) (branches_made Spans s b asked vs d end [] (branch_roots (k + tree_size a) cs))
        (length before + length (code s no_constants vs d k a) + length (case_begin_lines (file_label s no_constants at) at.line) + length push_lines) (((before ++ lines_a) ++ begin) ++ push_lines)
        (branches_are asked vs d (k + tree_size a) end [] [] cs parts.1 tt) (omega arith)))

-- at the number of a part, where spans are wanted: what they show
pub spans_of_node : (s : Context) (b : TypedBody) (scope : List Binding) (t : Constants) (vs : List Named) (d : ℕ) (id : NodeId) (n : Node) (before : List Line)
    → IsPart b scope id → slice_get (nodes 0 b.body) id.0 ≡ Some n → tree_at b.body id ≡ made (all_trees b.body) n
    → spans_at Spans s b.body vs d (length before) id ≡ own_span s b.body t vs d before id n ∷ node_spans Spans s b.body t vs d before id n
spans_of_node s b scope t vs d id n before h e tree =
    let is = sym (at_part b scope id n h e) in
    let there = sym (tree_there b.body h.before h.tree h.stands) ∙ ap (tree_at b.body) (sym h.number) ∙ tree in
    ap (spans_at Spans s b.body vs d (length before)) h.number
    ∙ sym (spans_are s b.body vs d h.before _ _ h.tree h.stands refl)
    ∙ node_spanned s b.body t vs d h.before before h.tree h.stands
    ∙ (λ i. whole vs d (length before) (length (before ++ node_lines s b.body t vs d (sym h.number i) (is i))) (there i) ∷ node_spans Spans s b.body t vs d before (sym h.number i) (is i))

-- the spans of an expression lie within its lines
within_at : (s : Context) (b : Tree) (t : Constants) (vs : List Named) (d from most : ℕ) (id : NodeId) → from + length (lines_at s b t vs d id) ≤ most
    → AllByRecursion (λ x. (x.from ≤ most) × (x.to ≤ most)) (spans_at Spans s b vs d from id)
unfolding lines_at spans_at
within_at s b t vs d from most id fits =
    let e = tree_at b id in
    let k = nodes_before b id in
    let many = as_many_lines s (asked_at s.files b t id) no_constants vs d k e in
    let all = law_spans length (λ pc xs. pc + length xs ≤ most)
    (λ xs ys pc h. (let l = length-append xs ys in omega arith)) (λ xs ys pc h. (let l = length-append xs ys in omega arith)) s no_constants vs d k from e (omega arith) in
    each (spans length s no_constants vs d k from e) all
  where
    each : (xs : List Span) → AllByRecursion (λ (x : Span). x.from + length (code s no_constants x.scope x.depth x.first x.tree) ≤ most) xs
        → AllByRecursion (λ x. (x.from ≤ most) × (x.to ≤ most)) (map (shown s no_constants) xs)
    each [] h = tt
    each (x ∷ xs) h = (((let f = h.0 in omega arith), h.0), each xs h.1)

-- the spans that are noted lie within the lines; so it is if none is noted
noted_within : (want : Wanted) (s : Context) (b : Tree) (t : Constants) (vs : List Named) (d from most : ℕ) (id : NodeId) → from + length (lines_at s b t vs d id) ≤ most
    → AllByRecursion (λ x. (x.from ≤ most) × (x.to ≤ most)) (spans_at want s b vs d from id)
unfolding spans_at
noted_within Lines s b t vs d from most id fits = tt
noted_within Spans s b t vs d from most id fits = within_at s b t vs d from most id fits

-- the spans of a branch lie within the lines of the branch, and so in all branches
pub branches_within : (want : Wanted) (s : Context) (b : Tree) (t : Constants) (vs : List Named) (d : ℕ) (end : Name) (before : List (Branch (List Shown))) (ws : List NodeBranch)
    → AllByRecursion IsWithin before → AllByRecursion IsWithin (branches_made want s b t vs d end before ws)
branches_within want s b t vs d end before [] h = h
branches_within want s b t vs d end before (w ∷ ws) h =
    let scope = within_branch s vs d w in
    let range = range_code s (class_meant s.table s.class w.declared.name) (label_at s (codes "next") w.body) in
    let turn = turn_lines end (label_at s (codes "next") w.body) in
    let lines = lines_at s b t scope (d + 1) w.body in
    branches_within want s b (asked_at s.files b t w.body) vs d end (with_branch before _) ws
    (all_put IsWithin before _ h (noted_within want s b t scope (d + 1) (length range) _ w.body (omega (arith, length-append range (lines ++ turn), length-append lines turn))))
