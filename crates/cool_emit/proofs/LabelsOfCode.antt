-- In the code of an expression, a name is a label at most as often as it is one of the kinds of labels (end, else, loop, ..) at one of the expression's nodes.
use Rattle.std.proofs.Common.{◌≡◌, ℕ, ◌+◌, ◌-◌, ◌≤◌, List, [], ◌∷◌, ◌++◌, Option, Some}
use Rattle.std.proofs.Common.{None, Bool, true, false, refl, ap, ◌∙◌, arith, get_or}
use Rattle.std.specs.Prelude.{ℤ, pos, ◌*◌, length, unwrap_or, bytes_eq, codes, nat_eq, nat_lt, if◌then◌else◌}
use Rattle.std.proofs.lemmas.Grind.{flat_map-append}
use Rattle.cool_syntax.specs.declared.place.Place.{Place}
use Rattle.cool_syntax.specs.declared.node.NodeId.{NodeId}
use Rattle.cool_syntax.specs.declared.operator.ArithOp.{ArithOp}
use Rattle.cool_syntax.specs.declared.operator.ArithOp.TheVariants as arith_op
use Rattle.cool_syntax.specs.declared.operator.CompareOp.{CompareOp}
use Rattle.cool_syntax.specs.declared.operator.CompareOp.TheVariants as compare_op
use Rattle.cool_syntax.specs.Tree.{Tree, Trees, MaybeTree, Cases, Last, More, Without, With}
use Rattle.cool_syntax.specs.Tree.{NoCase, CaseOf, tree_size, trees_size, maybe_size, cases_size}
use Rattle.cool_syntax.specs.Tree as trees
use Rattle.cool_syntax.specs.NodeLists.{root}
use Rattle.mips_isa.specs.Lines.{Name, Line}
use Rattle.cool_classes.specs.declared.class_id.ClassId.{ClassId}
use Rattle.cool_classes.specs.declared.class_id.Ty.{Ty}
use Rattle.cool_classes.specs.declared.class_id.Ty.TheVariants.{Class as IsClass, SelfType}
use Rattle.cool_classes.specs.Chains.{Class}
use Rattle.cool_classes.specs.ClimbedChains.{above}
use Rattle.cool_rules.specs.Conformance.{class_of}
use Rattle.cool_rules.specs.Rules.{type_meant}
use Rattle.cool_rules.specs.StaticTypes.{type_of}
use Rattle.cool_runtime.specs.Labels.{false_constant}
use Rattle.cool_runtime.specs.RoutineLabels.{default_int, default_string}
use Rattle.cool_runtime.specs.Routines.{push_lines}
use Rattle.cool_layout.specs.Preorder.{tag, last_tag}
use Rattle.cool_layout.specs.Members.{slot}
use Rattle.cool_layout.specs.Labels.{method_label}
use Rattle.cool_layout.proofs.Counting.{one}
use Rattle.cool_consts.specs.Constants.{Constants}
use Rattle.cool_codegen.specs.declared.variables.Variable.{Variable}
use Rattle.cool_codegen.specs.Arms.{Arm, with_arm, arms_lines}
use Rattle.cool_codegen.specs.Code.{Context, label_at, load_of, store_of, name_code, assign_code}
use Rattle.cool_codegen.specs.Code.{new_code, default_code, int_code, bool_code, operation_code}
use Rattle.cool_codegen.specs.Code.{arith_code, compare_code, slot_code, static_code, range_code}
use Rattle.cool_codegen.specs.Code.{minus, truth_label, integer_label, string_label, file_label}
use Rattle.cool_codegen.specs.Code.{code, arguments_code, items_code, initial_code, arms_code}
use Rattle.cool_codegen.specs.Labels.{inner}
use Rattle.cool_codegen.specs.Pieces.{pop_lines, load_lines, store_lines, take_self_lines, take_void_lines}
use Rattle.cool_codegen.specs.Pieces.{take_lines, test_lines, mark_lines, turn_lines, repeat_lines}
use Rattle.cool_codegen.specs.Pieces.{values_lines, compare_equal_lines, less_lines, less_equal_lines}
use Rattle.cool_codegen.specs.Pieces.{is_void_lines, complement_lines, flag_lines, add_lines, subtract_lines}
use Rattle.cool_codegen.specs.Pieces.{multiply_lines, divide_lines, negate_lines, is_zero_lines}
use Rattle.cool_codegen.specs.Pieces.{ends_where_lines, create_lines, create_self_lines, call_lines}
use Rattle.cool_codegen.specs.Pieces.{call_static_lines, case_begin_lines, try_tags_lines, case_end_lines}
use Rattle.cool_rules.specs.Meant.{method_in}
use Rattle.cool_codegen.specs.Types.{is_self, class_meant, trees_count}
use Rattle.cool_rules.specs.Scopes.{found}
use Rattle.cool_codegen.specs.Variables.{Named, bind, scope_of}
use Rattle.cool_emit.specs.SoundLines.{labels_of}
use Rattle.cool_emit.proofs.CountedNames.{times, times-append, total_from, total_from-append, total_from_more}
use Rattle.cool_emit.proofs.NamesApart.{kinds}

-- the number of times that a name is a label of lines
abbrev pub marks : Name → List Line → ℕ
marks x ls = times x (labels_of ls)

-- among lines and those after them
pub marks-append : (x : Name) (xs ys : List Line) → marks x (xs ++ ys) ≡ marks x xs + marks x ys
marks-append x xs ys = ap (times x) (flat_map-append (λ line. line.labels) xs ys) ∙ times-append x (labels_of xs) (labels_of ys)

module _ (x : Name) where
  -- pieces with labels

  test_marks : (other : Name) → marks x (test_lines other) ≡ 0
  unfolding test_lines
  test_marks other = refl

  pub mark_marks : (name : Name) → marks x (mark_lines name) ≡ one (bytes_eq x name)
  unfolding mark_lines
  mark_marks name = omega arith

  turn_marks : (end other : Name) → marks x (turn_lines end other) ≡ one (bytes_eq x other)
  unfolding turn_lines
  turn_marks end other = omega arith

  repeat_marks : (begin end : Name) → marks x (repeat_lines begin end) ≡ one (bytes_eq x end)
  unfolding repeat_lines
  repeat_marks begin end = omega arith

  flag_marks : (end : Name) → marks x (flag_lines end) ≡ one (bytes_eq x end)
  unfolding flag_lines
  flag_marks end = omega arith

  case_end_marks : (end : Name) → marks x (case_end_lines end) ≡ one (bytes_eq x end)
  unfolding case_end_lines
  case_end_marks end = omega arith

  -- parts of code with no label

  no_name : (vs : List Named) (name : List ℕ) → marks x (name_code vs name) ≡ 0
  unfolding take_self_lines load_lines
  no_name vs name = by (is_self name) (found vs name)
    where
      by : (self : Bool) (v : Option Variable) → marks x (if self then take_self_lines else load_of v) ≡ 0
      by true v = refl
      by false None = refl
      by false (Some v) = refl

  no_assign : (vs : List Named) (name : List ℕ) → marks x (assign_code vs name) ≡ 0
  unfolding store_lines
  no_assign vs name = by (is_self name) (found vs name)
    where
      by : (self : Bool) (v : Option Variable) → marks x (if self then [] else store_of v) ≡ 0
      by true v = refl
      by false None = refl
      by false (Some v) = refl

  no_new : (p : List Class) (t : Ty) → marks x (new_code p t) ≡ 0
  unfolding create_self_lines create_lines
  no_new p SelfType = refl
  no_new p (IsClass c) = refl

  no_default : (t : Ty) → marks x (default_code t) ≡ 0
  unfolding take_lines take_void_lines
  no_default SelfType = refl
  no_default (IsClass c) = by (nat_eq c.0 2) (nat_eq c.0 3) (nat_eq c.0 4)
    where
      by : (i b s : Bool) → marks x (if i then take_lines default_int else if b then take_lines false_constant
          else if s then take_lines default_string else take_void_lines) ≡ 0
      by true b s = refl
      by false true s = refl
      by false false true = refl
      by false false false = refl

  no_push : marks x push_lines ≡ 0
  no_push = refl

  no_pop : marks x pop_lines ≡ 0
  unfolding pop_lines
  no_pop = refl

  no_take : (name : Name) → marks x (take_lines name) ≡ 0
  unfolding take_lines
  no_take name = refl

  no_call : (file : Name) (at : ℕ) (offset : ℤ) → marks x (call_lines file at offset) ≡ 0
  unfolding call_lines
  no_call file at offset = refl

  no_static_call : (file : Name) (at : ℕ) (method : Name) → marks x (call_static_lines file at method) ≡ 0
  unfolding call_static_lines
  no_static_call file at method = refl

  no_range : (low count : ℤ) (next : Name) → marks x (try_tags_lines low count next) ≡ 0
  unfolding try_tags_lines
  no_range low count next = refl

  no_begin : (file : Name) (at : ℕ) → marks x (case_begin_lines file at) ≡ 0
  unfolding case_begin_lines
  no_begin file at = refl

  -- sums of parts

  two_parts : (a b : List Line) → marks x (a ++ b) ≡ marks x a + marks x b
  two_parts a b = marks-append x a b

  three_parts : (a b c : List Line) → marks x (a ++ (b ++ c)) ≡ marks x a + (marks x b + marks x c)
  three_parts a b c = marks-append x a (b ++ c) ∙ ap (λ n. marks x a + n) (two_parts b c)

  four_parts : (a b c d : List Line) → marks x (a ++ (b ++ (c ++ d))) ≡ marks x a + (marks x b + (marks x c + marks x d))
  four_parts a b c d = marks-append x a (b ++ (c ++ d)) ∙ ap (λ n. marks x a + n) (three_parts b c d)

  five_parts : (a b c d e : List Line)
      → marks x (a ++ (b ++ (c ++ (d ++ e)))) ≡ marks x a + (marks x b + (marks x c + (marks x d + marks x e)))
  five_parts a b c d e = marks-append x a (b ++ (c ++ (d ++ e))) ∙ ap (λ n. marks x a + n) (four_parts b c d e)

  six_parts : (a b c d e f : List Line) → marks x (a ++ (b ++ (c ++ (d ++ (e ++ f)))))
      ≡ marks x a + (marks x b + (marks x c + (marks x d + (marks x e + marks x f))))
  six_parts a b c d e f = marks-append x a (b ++ (c ++ (d ++ (e ++ f)))) ∙ ap (λ n. marks x a + n) (five_parts b c d e f)

  -- whether a name is the label of a kind at a node, as a number
  abbrev pub kind_hit : ℕ → ℕ → ℕ → List ℕ → ℕ
  kind_hit c f n kind = one (bytes_eq x (inner kind c f n))

  -- the same for all kinds at a node
  abbrev pub node_hits : ℕ → ℕ → ℕ → ℕ
  node_hits c f n = total_from (λ i. kind_hit c f n (get_or kinds i [])) 0 6

  hits_are : (c f n : ℕ) → node_hits c f n
      ≡ kind_hit c f n (codes "else") + kind_hit c f n (codes "end") + kind_hit c f n (codes "loop")
      + kind_hit c f n (codes "some") + kind_hit c f n (codes "fits") + kind_hit c f n (codes "next")
  hits_are c f n = omega arith

  -- the same for so many nodes, from one on
  abbrev pub hits : ℕ → ℕ → ℕ → ℕ → ℕ
  hits c f k n = total_from (node_hits c f) k n

  -- the code of a feature, by its class and its number
  module _ (s : Context) (g : Constants) where
    abbrev own_hit : ℕ → List ℕ → ℕ
    own_hit n kind = kind_hit s.class.0 s.feature n kind

    abbrev own_hits : ℕ → ℕ
    own_hits n = node_hits s.class.0 s.feature n

    abbrev within : ℕ → ℕ → ℕ
    within k n = hits s.class.0 s.feature k n

    -- the labels of two and of three runs of nodes, one after the other, and of the node after a run

    hits_two : (k a b : ℕ) → within k (a + b) ≡ within k a + within (k + a) b
    hits_two k a b = total_from-append own_hits k a b

    hits_three : (k a b n : ℕ) → within k (a + b + n) ≡ within k a + (within (k + a) b + within (k + a + b) n)
    hits_three k a b n =
        let e : within k (a + b + n) ≡ within k (a + b) + within (k + (a + b)) n = hits_two k (a + b) n in
        let g : within k (a + b) ≡ within k a + within (k + a) b = hits_two k a b in
        let l : k + (a + b) ≡ k + a + b = omega arith in
        let h : within (k + (a + b)) n ≡ within (k + a + b) n = ap (λ j. within j n) l in
        omega arith

    hits_last : (k n : ℕ) → within k (n + 1) ≡ within k n + own_hits (k + (n + 1) - 1)
    hits_last k n =
        let e : within k (n + 1) ≡ within k n + own_hits (k + n) = total_from_more own_hits k n in
        let l : k + n ≡ k + (n + 1) - 1 = omega arith in
        let h : own_hits (k + n) ≡ own_hits (k + (n + 1) - 1) = ap own_hits l in
        omega arith

    -- The labels of an expression's parts and of its own node are no more than the labels of all its nodes. The label `next` of that node is left for the
    -- branch whose body the expression is.
    with_own : (k n m q : ℕ) → m ≤ within k n → q + own_hit (k + (n + 1) - 1) (codes "next") ≤ own_hits (k + (n + 1) - 1)
        → m + q + own_hit (k + (n + 1) - 1) (codes "next") ≤ within k (n + 1)
    with_own k n m q le own =
        let e : within k (n + 1) ≡ within k n + own_hits (k + (n + 1) - 1) = hits_last k n in
        omega arith

    -- the label `next` of a node is among those of all kinds
    no_label : (r : ℕ) → 0 + own_hit r (codes "next") ≤ own_hits r
    no_label r = omega (arith, hits_are s.class.0 s.feature r)

    -- lines behind those of one part, of two operands, and of the arguments and the receiver of a call

    with_part : (k n r q : ℕ) (part more : List Line) → marks x part + r ≤ within k n → marks x more ≤ q
        → q + own_hit (k + (n + 1) - 1) (codes "next") ≤ own_hits (k + (n + 1) - 1)
        → marks x (part ++ more) + own_hit (k + (n + 1) - 1) (codes "next") ≤ within k (n + 1)
    with_part k n r q part more h few own =
        let first : marks x part ≤ within k n = omega (arith, h) in
        omega (arith, with_own k n (marks x part) q first own, two_parts part more, few)

    with_operands : (k a b r u q : ℕ) (left right more : List Line) → marks x left + r ≤ within k a → marks x right + u ≤ within (k + a) b → marks x more ≤ q
        → q + own_hit (k + (a + b + 1) - 1) (codes "next") ≤ own_hits (k + (a + b + 1) - 1)
        → marks x (left ++ (push_lines ++ (right ++ more))) + own_hit (k + (a + b + 1) - 1) (codes "next") ≤ within k (a + b + 1)
    with_operands k a b r u q left right more h h' few own =
        let first : marks x left ≤ within k a = omega (arith, h) in
        let second : marks x right ≤ within (k + a) b = omega (arith, h') in
        let parts : marks x left + marks x right ≤ within k (a + b) = omega (arith, first, second, hits_two k a b) in
        let all = with_own k (a + b) (marks x left + marks x right) q parts own in
        omega (arith, all, four_parts left push_lines right more, no_push, few)

    with_call : (k a b r : ℕ) (object arguments more : List Line) → marks x object + r ≤ within k a → marks x arguments ≤ within (k + a) b → marks x more ≡ 0
        → marks x (arguments ++ (object ++ more)) + own_hit (k + (a + b + 1) - 1) (codes "next") ≤ within k (a + b + 1)
    with_call k a b r object arguments more h h' none =
        let first : marks x object ≤ within k a = omega (arith, h) in
        let parts : marks x object + marks x arguments ≤ within k (a + b) = omega (arith, first, h', hits_two k a b) in
        let all = with_own k (a + b) (marks x object + marks x arguments) 0 parts (no_label (k + (a + b + 1) - 1)) in
        omega (arith, all, three_parts arguments object more, none)

    -- an expression with no parts
    leaf : (k m : ℕ) → m ≡ 0 → m + own_hit (k + 1 - 1) (codes "next") ≤ within k 1
    leaf k m e =
        let l : k + 1 - 1 ≡ k = omega arith in
        let g : own_hit (k + 1 - 1) (codes "next") ≡ own_hit k (codes "next") = ap (λ n. own_hit n (codes "next")) l in
        omega (arith, hits_are s.class.0 s.feature k)

    -- and so are those of the kinds that a node has

    else_end : (r : ℕ) → own_hit r (codes "else") + own_hit r (codes "end") + own_hit r (codes "next") ≤ own_hits r
    else_end r = omega (arith, hits_are s.class.0 s.feature r)

    loop_end : (r : ℕ) → own_hit r (codes "loop") + own_hit r (codes "end") + own_hit r (codes "next") ≤ own_hits r
    loop_end r = omega (arith, hits_are s.class.0 s.feature r)

    end_alone : (r : ℕ) → own_hit r (codes "end") + own_hit r (codes "next") ≤ own_hits r
    end_alone r = omega (arith, hits_are s.class.0 s.feature r)

    fits_alone : (r : ℕ) → own_hit r (codes "fits") + own_hit r (codes "next") ≤ own_hits r
    fits_alone r = omega (arith, hits_are s.class.0 s.feature r)

    some_fits : (r : ℕ) → own_hit r (codes "some") + own_hit r (codes "fits") + own_hit r (codes "next") ≤ own_hits r
    some_fits r = omega (arith, hits_are s.class.0 s.feature r)

    -- the labels after the code of operands

    int_marks : (at : Place) (id : NodeId) → marks x (int_code s g at id) ≡ own_hit id.0 (codes "fits")
    unfolding ends_where_lines
    int_marks at id = omega arith

    bool_marks : (id : NodeId) → marks x (bool_code s id) ≡ own_hit id.0 (codes "end")
    bool_marks id = flag_marks (label_at s (codes "end") id)

    no_values : marks x values_lines ≡ 0
    unfolding values_lines
    no_values = refl

    -- at most those of a division
    operation_marks : (op : ArithOp) (at : Place) (id : NodeId) → marks x (operation_code s g op at id) ≤ own_hit id.0 (codes "some")
    unfolding add_lines subtract_lines multiply_lines divide_lines is_zero_lines ends_where_lines
    operation_marks arith_op.Add at id = omega arith
    operation_marks arith_op.Sub at id = omega arith
    operation_marks arith_op.Mul at id = omega arith
    operation_marks arith_op.Div at id = omega arith

    arith_marks : (op : ArithOp) (at : Place) (id : NodeId)
        → marks x (arith_code s g op at id) ≤ own_hit id.0 (codes "some") + own_hit id.0 (codes "fits")
    arith_marks op at id =
        omega (
          arith,
          three_parts values_lines (operation_code s g op at id) (int_code s g at id),
          no_values,
          operation_marks op at id,
          int_marks at id,
        )

    compare_marks : (op : CompareOp) (id : NodeId) → marks x (compare_code s op id) ≤ own_hit id.0 (codes "end")
    unfolding values_lines less_lines less_equal_lines compare_equal_lines flag_lines
    compare_marks compare_op.Less id = omega arith
    compare_marks compare_op.LessEqual id = omega arith
    compare_marks compare_op.Equal id = omega arith

    -- a branch among others
    arm_marks : (arms : List Arm) (arm : Arm) → marks x (arms_lines (with_arm arms arm)) ≡ marks x (arms_lines arms) + marks x arm.lines
    arm_marks [] arm = omega (arith, two_parts arm.lines [])
    arm_marks (a ∷ rest) arm = by (nat_lt a.depth arm.depth) (arm_marks rest arm)
      where
        by : (b : Bool) → marks x (arms_lines (with_arm rest arm)) ≡ marks x (arms_lines rest) + marks x arm.lines
            → marks x (arms_lines (if b then arm ∷ a ∷ rest else a ∷ with_arm rest arm))
            ≡ marks x (arms_lines (a ∷ rest)) + marks x arm.lines
        by true e = omega (arith, two_parts arm.lines (arms_lines (a ∷ rest)))
        by false e = omega (arith, e, two_parts a.lines (arms_lines (with_arm rest arm)), two_parts a.lines (arms_lines rest))

    -- calls, and other parts with no label

    slot_marks : (at : Place) (c : ClassId) (name : List ℕ) → marks x (slot_code s g at c name) ≡ 0
    slot_marks at c name = no_call (file_label s g at) at.line (pos (4 * unwrap_or (slot s.table c name) 0))

    static_marks : (at : Place) (c : ClassId) (name : List ℕ) → marks x (static_code s g at c name) ≡ 0
    static_marks at c name = no_static_call (file_label s g at) at.line (method_label s.table (method_in s.table c name))

    range_marks : (c : ClassId) (next : Name) → marks x (range_code s c next) ≡ 0
    range_marks c next = no_range (minus (tag s.table c)) (pos (last_tag s.table c - tag s.table c + 1)) next

    no_void_test : marks x is_void_lines ≡ 0
    unfolding is_void_lines
    no_void_test = refl

    no_negation : marks x negate_lines ≡ 0
    unfolding negate_lines
    no_negation = refl

    no_complement : marks x complement_lines ≡ 0
    unfolding complement_lines
    no_complement = refl

    -- an expression, those of a list, a value or none, and the branches of a case
    mutual
      pub code_marks : (vs : List Named) (d k : ℕ) (t : Tree)
          → marks x (code s g vs d k t) + own_hit (root k t).0 (codes "next") ≤ within k (tree_size t)
      code_marks vs d k (trees.Id at name) = leaf k (marks x (name_code vs name)) (no_name vs name)
      code_marks vs d k (trees.New at class) =
          let type = type_meant s.table class.name in
          leaf k (marks x (new_code s.table type)) (no_new s.table type)
      code_marks vs d k (trees.leaf at form) = leaf k _ (no_take _)
      code_marks vs d k (trees.Assign at name t) =
          with_part k (tree_size t) _ 0 (code s g vs d k t) (assign_code vs name) (code_marks vs d k t)
          (omega (arith, no_assign vs name)) (no_label (k + (tree_size t + 1) - 1))
      code_marks vs d k (trees.IsVoid at t) =
          let own = root k (trees.IsVoid at t) in
          with_part k (tree_size t) _ (own_hit own.0 (codes "end")) (code s g vs d k t) (is_void_lines ++ bool_code s own) (code_marks vs d k t)
          (omega (arith, two_parts is_void_lines (bool_code s own), no_void_test, bool_marks own)) (end_alone own.0)
      code_marks vs d k (trees.Neg at t) =
          let own = root k (trees.Neg at t) in
          with_part k (tree_size t) _ (own_hit own.0 (codes "fits")) (code s g vs d k t) (negate_lines ++ int_code s g at own) (code_marks vs d k t)
          (omega (arith, two_parts negate_lines (int_code s g at own), no_negation, int_marks at own)) (fits_alone own.0)
      code_marks vs d k (trees.Not at t) =
          let own = root k (trees.Not at t) in
          with_part k (tree_size t) _ (own_hit own.0 (codes "end")) (code s g vs d k t) (complement_lines ++ bool_code s own) (code_marks vs d k t)
          (omega (arith, two_parts complement_lines (bool_code s own), no_complement, bool_marks own)) (end_alone own.0)
      code_marks vs d k (trees.Arith at op l r) =
          let own = root k (trees.Arith at op l r) in
          let a = tree_size l in
          with_operands k a (tree_size r) _ _ (own_hit own.0 (codes "some") + own_hit own.0 (codes "fits")) (code s g vs d k l) (code s g vs (d + 1) (k + a) r) (arith_code s g op at own) (code_marks vs d k l)
          (code_marks vs (d + 1) (k + a) r) (arith_marks op at own) (some_fits own.0)
      code_marks vs d k (trees.Compare at op l r) =
          let own = root k (trees.Compare at op l r) in
          let a = tree_size l in
          with_operands k a (tree_size r) _ _ (own_hit own.0 (codes "end")) (code s g vs d k l) (code s g vs (d + 1) (k + a) r) (compare_code s op own) (code_marks vs d k l)
          (code_marks vs (d + 1) (k + a) r) (compare_marks op own) (end_alone own.0)
      code_marks vs d k (trees.While at t b) =
          let own = root k (trees.While at t b) in
          let a = tree_size t in
          let begin = label_at s (codes "loop") own in
          let end = label_at s (codes "end") own in
          let first : marks x (code s g vs d k t) ≤ within k a = omega (arith, code_marks vs d k t) in
          let second : marks x (code s g vs d (k + a) b) ≤ within (k + a) (tree_size b) = omega (arith, code_marks vs d (k + a) b) in
          let m = marks x (code s g vs d k t) + marks x (code s g vs d (k + a) b) in
          let parts : m ≤ within k (a + tree_size b) = omega (arith, first, second, hits_two k a (tree_size b)) in
          let all = with_own k (a + tree_size b) m (own_hit own.0 (codes "loop") + own_hit own.0 (codes "end")) parts (loop_end own.0) in
          let sum = five_parts (mark_lines begin) (code s g vs d k t) (test_lines end) (code s g vs d (k + a) b) (repeat_lines begin end) in
          omega (arith, all, sum, mark_marks begin, test_marks end, repeat_marks begin end)
      code_marks vs d k (trees.Dispatch at t name ts) =
          let e = d + trees_count ts in
          let a = tree_size t in
          let class = class_of s.class (type_of s.table s.class (scope_of vs) t) in
          with_call k a (trees_size ts) _ (code s g vs e k t) (arguments_code s g vs d (k + a) ts) (slot_code s g at class name) (code_marks vs e k t)
          (arguments_marks vs d (k + a) ts) (slot_marks at class name)
      code_marks vs d k (trees.StaticDispatch at t class name ts) =
          let e = d + trees_count ts in
          let a = tree_size t in
          let meant = class_meant s.table s.class class.name in
          with_call k a (trees_size ts) _ (code s g vs e k t) (arguments_code s g vs d (k + a) ts) (static_code s g at meant name) (code_marks vs e k t)
          (arguments_marks vs d (k + a) ts) (static_marks at meant name)
      code_marks vs d k (trees.If at t y n) =
          let a = tree_size t in
          let b = tree_size y in
          let c = tree_size n in
          let own = root k (trees.If at t y n) in
          let first : marks x (code s g vs d k t) ≤ within k a = omega (arith, code_marks vs d k t) in
          let second : marks x (code s g vs d (k + a) y) ≤ within (k + a) b = omega (arith, code_marks vs d (k + a) y) in
          let third : marks x (code s g vs d (k + a + b) n) ≤ within (k + a + b) c = omega (arith, code_marks vs d (k + a + b) n) in
          let sum = six_parts (code s g vs d k t) (test_lines (label_at s (codes "else") own))
          (code s g vs d (k + a) y) (turn_lines (label_at s (codes "end") own) (label_at s (codes "else") own))
          (code s g vs d (k + a + b) n) (mark_lines (label_at s (codes "end") own)) in
          let m = marks x (code s g vs d k t) + (marks x (code s g vs d (k + a) y) + marks x (code s g vs d (k + a + b) n)) in
          let parts : m ≤ within k (a + b + c) = omega (arith, first, second, third, hits_three k a b c) in
          let all = with_own k (a + b + c) m (own_hit own.0 (codes "else") + own_hit own.0 (codes "end")) parts (else_end own.0) in
          omega (
            arith,
            all,
            sum,
            test_marks (label_at s (codes "else") own),
            turn_marks (label_at s (codes "end") own) (label_at s (codes "else") own),
            mark_marks (label_at s (codes "end") own),
          )
      code_marks vs d k (trees.Block at ts) =
          let all = with_own k (trees_size ts) (marks x (items_code s g vs d k ts)) 0 (items_marks vs d k ts)
          (no_label (root k (trees.Block at ts)).0) in
          omega (arith, all)
      code_marks vs d k (trees.Let at name declared o t) =
          let type = type_meant s.table declared.name in
          let n = maybe_size o in
          let inside = bind d name type vs in
          let second : marks x (code s g inside (d + 1) (k + n) t) ≤ within (k + n) (tree_size t) =
          omega (arith, code_marks inside (d + 1) (k + n) t) in
          let m = marks x (initial_code s g vs d k type o) + marks x (code s g inside (d + 1) (k + n) t) in
          let parts : m ≤ within k (n + tree_size t) = omega (arith, initial_marks vs d k type o, second, hits_two k n (tree_size t)) in
          let all = with_own k (n + tree_size t) m 0 parts (no_label (root k (trees.Let at name declared o t)).0) in
          omega (
            arith,
            all,
            four_parts (initial_code s g vs d k type o) push_lines (code s g inside (d + 1) (k + n) t) pop_lines,
            no_push,
            no_pop,
          )
      code_marks vs d k (trees.Case at t cs) =
          let own = root k (trees.Case at t cs) in
          let a = tree_size t in
          let end = label_at s (codes "end") own in
          let first : marks x (code s g vs d k t) ≤ within k a = omega (arith, code_marks vs d k t) in
          let arms = arms_code s g vs d (k + a) end [] cs in
          let second : marks x (arms_lines arms) ≤ 0 + within (k + a) (cases_size cs) = arms_marks vs d (k + a) end [] cs in
          let m = marks x (code s g vs d k t) + marks x (arms_lines arms) in
          let parts : m ≤ within k (a + cases_size cs) = omega (arith, first, second, hits_two k a (cases_size cs)) in
          let all = with_own k (a + cases_size cs) m (own_hit own.0 (codes "end")) parts (end_alone own.0) in
          let begin = case_begin_lines (file_label s g at) at.line in
          omega (
            arith,
            all,
            five_parts (code s g vs d k t) begin push_lines (arms_lines arms) (case_end_lines end),
            no_begin (file_label s g at) at.line,
            no_push,
            case_end_marks end,
          )

      pub arguments_marks : (vs : List Named) (d k : ℕ) (ts : Trees) → marks x (arguments_code s g vs d k ts) ≤ within k (trees_size ts)
      arguments_marks vs d k Last = omega arith
      arguments_marks vs d k (More t ts) =
          let a = tree_size t in
          omega (
            arith,
            code_marks vs d k t,
            arguments_marks vs (d + 1) (k + a) ts,
            hits_two k a (trees_size ts),
            three_parts (code s g vs d k t) push_lines (arguments_code s g vs (d + 1) (k + a) ts),
            no_push,
          )

      pub items_marks : (vs : List Named) (d k : ℕ) (ts : Trees) → marks x (items_code s g vs d k ts) ≤ within k (trees_size ts)
      items_marks vs d k Last = omega arith
      items_marks vs d k (More t ts) =
          let a = tree_size t in
          omega (
            arith,
            code_marks vs d k t,
            items_marks vs d (k + a) ts,
            hits_two k a (trees_size ts),
            two_parts (code s g vs d k t) (items_code s g vs d (k + a) ts),
          )

      pub initial_marks : (vs : List Named) (d k : ℕ) (type : Ty) (o : MaybeTree)
          → marks x (initial_code s g vs d k type o) ≤ within k (maybe_size o)
      initial_marks vs d k type Without = omega (arith, no_default type)
      initial_marks vs d k type (With t) = omega (arith, code_marks vs d k t)

      pub arms_marks : (vs : List Named) (d k : ℕ) (end : Name) (arms : List Arm) (cs : Cases)
          → marks x (arms_lines (arms_code s g vs d k end arms cs)) ≤ marks x (arms_lines arms) + within k (cases_size cs)
      arms_marks vs d k end arms NoCase = omega arith
      arms_marks vs d k end arms (CaseOf at name declared t cs) =
          let a = tree_size t in
          let class = class_meant s.table s.class declared.name in
          let next = label_at s (codes "next") (root k t) in
          let inside = bind d name (type_meant s.table declared.name) vs in
          let body = code s g inside (d + 1) k t in
          let lines = range_code s class next ++ (body ++ turn_lines end next) in
          let arm : Arm = record { depth = length (above s.table class); lines = lines } in
          omega (
            arith,
            arms_marks vs d (k + a) end (with_arm arms arm) cs,
            arm_marks arms arm,
            code_marks inside (d + 1) k t,
            hits_two k a (cases_size cs),
            three_parts (range_code s class next) body (turn_lines end next),
            range_marks class next,
            turn_marks end next,
          )
