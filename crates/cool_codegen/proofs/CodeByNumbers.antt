-- The code of the expression at a node number follows from its node and the numbers of the nodes of its subexpressions: the lines of assembly, the constant
-- table after them, and the size.
use Rattle.std.proofs.Common.{◌≡◌, ℕ, ◌+◌, List, [], ◌∷◌, ◌++◌, Some, length, map, refl, sym, ◌∙◌, ap, subst, arith}
use Rattle.std.specs.Prelude.{slice_get, codes}
use Rattle.std.proofs.lemmas.Option.{same_Some}
use Rattle.cool_syntax.specs.declared.place.Place.{Place}
use Rattle.cool_syntax.specs.declared.operator.ArithOp.{ArithOp}
use Rattle.cool_syntax.specs.declared.operator.ArithOp.TheVariants as arith_op
use Rattle.cool_syntax.specs.declared.node.Node.{Node}
use Rattle.cool_syntax.specs.declared.node.NodeBranch.{NodeBranch}
use Rattle.cool_syntax.specs.declared.node.NodeId.{NodeId}
use Rattle.cool_syntax.specs.Tree.{Tree, Trees, MaybeTree, Cases, Last, More, Without, With, NoCase, CaseOf, tree_size, trees_size, maybe_size, cases_size}
use Rattle.cool_syntax.specs.Tree as trees
use Rattle.cool_syntax.proofs.TreesHaveNodes.{one_le_size}
use Rattle.cool_syntax.specs.NodeLists.{root, root_of_maybe, roots, branch_roots, nodes, nodes_of_all, nodes_of_maybe, nodes_of_cases, tree_at}
use Rattle.mips_isa.specs.Lines.{Name}
use Rattle.cool_classes.specs.declared.class_id.Ty.{Ty}
use Rattle.cool_classes.specs.ClimbedChains.{above}
use Rattle.cool_rules.specs.Conformance.{class_of}
use Rattle.cool_rules.specs.Rules.{type_meant}
use Rattle.cool_rules.specs.Scopes.{Binding}
use Rattle.cool_rules.specs.StaticTypes.{type_of}
use Rattle.cool_rules.specs.TypedParts.{IsPart, Lies, TypedBody}
use Rattle.cool_consts.specs.Constants.{Constants}
use Rattle.cool_consts.specs.Labels.{int_constant, string_constant}
use Rattle.cool_codegen.specs.Variables.{Named, bind, scope_of}
use Rattle.cool_codegen.specs.Types.{class_meant, trees_count}
use Rattle.cool_codegen.specs.Arms.{Arm, with_arm}
use Rattle.cool_codegen.specs.Pieces.{turn_lines}
use Rattle.cool_codegen.specs.Spans.{Branch, with_branch}
use Rattle.cool_codegen.specs.Shown.{Shown}
use Rattle.cool_codegen.proofs.ArmsInOrder.{arm_put}
use Rattle.cool_codegen.specs.Asked.{Extends, integers_in, integers_in_all, integers_in_maybe, integers_in_cases, strings_in, strings_in_all, strings_in_maybe, strings_in_cases, files_of, file_of}
use Rattle.cool_codegen.specs.Code.{Context, code, arguments_code, items_code, initial_code, arms_code, string_label, label_at, range_code}
use Rattle.cool_codegen.specs.declared.code_setting.Wanted.TheVariants.{Lines}
use Rattle.cool_codegen.specs.Numbered.{size_at, sizes_at, maybe_size_at, branch_sizes_at, node_size, after, with_value, with_bytes, with_file, operation_asked, asked_at, all_asked, maybe_asked, branches_asked, node_asked, receiver_class, nodes_before, lines_at, items_lines, arguments_lines, initial_lines, branch_lines, branch_spans, branches_made, node_lines}
use Rattle.cool_rules.proofs.PartsStand.{Stands, tree_there, top, first_stands, others_stand, first_branch_stands, other_branches_stand, one_stands, two_stand, maybe_stands, three_stand, all_stand, part_node}
use Rattle.cool_codegen.proofs.NumbersAgree.{SameIntegers, SameStrings, agrees, after_both, after_strings, extends_same, extends_before, integer_stays, string_stays}

-- a table that extends another one numbers alike what that one was asked for
same_integers : (t g : Constants) (ns : List ℕ) (bs : List (List ℕ)) → Extends (after t ns bs) g → SameIntegers g (after t ns bs) ns
same_integers t g [] bs e = tt
same_integers t g (n ∷ ns) bs e = (
  ap int_constant (integer_stays t g n (extends_before (with_value t n) g ns bs e) ∙ sym (integer_stays t (after (with_value t n) ns bs) n (extends_before (with_value t n) (after (with_value t n) ns bs) ns bs (extends_same (after (with_value t n) ns bs))))),
  same_integers (with_value t n) g ns bs e,
)

same_strings : (t g : Constants) (ns : List ℕ) (bs : List (List ℕ)) → Extends (after t ns bs) g → SameStrings g (after t ns bs) bs
same_strings t g ns [] e = tt
same_strings t g ns (b ∷ bs) e = (
  ap string_constant (string_stays t g b (extends_before (with_bytes t b) g ns bs e) ∙ sym (string_stays t (after (with_bytes t b) ns bs) b (extends_before (with_bytes t b) (after (with_bytes t b) ns bs) ns bs (extends_same (after (with_bytes t b) ns bs))))),
  same_strings (with_bytes t b) g ns bs e,
)

-- the code of an expression is the same by each table with more constants than its own
pub stable : (s : Context) (t g : Constants) (vs : List Named) (d k : ℕ) (e : Tree) → Extends (after t (integers_in e) (strings_in s.files e)) g → code s g vs d k e ≡ code s (after t (integers_in e) (strings_in s.files e)) vs d k e
stable s t g vs d k e x = agrees s g (after t (integers_in e) (strings_in s.files e)) e vs d k (same_integers t g (integers_in e) (strings_in s.files e) x) (same_strings t g (integers_in e) (strings_in s.files e) x)

-- a tree that stands in a body is the expression at the number of its root
pub asked_is : (files : List (List ℕ)) (b : Tree) (t : Constants) (k : ℕ) (e : Tree) → Stands (nodes 0 b) k e → after t (integers_in e) (strings_in files e) ≡ asked_at files b t (root k e)
unfolding asked_at
asked_is files b t k e s = λ i. after t (integers_in (sym (tree_there b k e s) i)) (strings_in files (sym (tree_there b k e s) i))

pub lines_is : (s : Context) (b : Tree) (t g : Constants) (vs : List Named) (d k : ℕ) (e : Tree) → Stands (nodes 0 b) k e → Extends (after t (integers_in e) (strings_in s.files e)) g → code s g vs d k e ≡ lines_at s b t vs d (root k e)
unfolding lines_at asked_at
lines_is s b t g vs d k e there x =
    let is = sym (tree_there b k e there) in
    let size : tree_size e ≡ tree_size (tree_at b (root k e)) = ap tree_size is in
    let before : k ≡ nodes_before b (root k e) = omega (arith, one_le_size e) in
    stable s t g vs d k e x ∙ (λ i. code s (after t (integers_in (is i)) (strings_in s.files (is i))) vs d (before i) (is i))

receiver_is : (s : Context) (b : Tree) (scope : List Binding) (k : ℕ) (e : Tree) → Stands (nodes 0 b) k e → class_of s.class (type_of s.table s.class scope e) ≡ receiver_class s b scope (root k e)
unfolding receiver_class
receiver_is s b scope k e there = ap (λ (t : Tree). class_of s.class (type_of s.table s.class scope t)) (sym (tree_there b k e there))

pub size_is : (b : Tree) (k : ℕ) (e : Tree) → Stands (nodes 0 b) k e → tree_size e ≡ size_at b (root k e)
unfolding size_at
size_is b k e there = ap tree_size (sym (tree_there b k e there))

-- constants that an expression asks for, before others
ask_first : (files : List (List ℕ)) (b : Tree) (t : Constants) (k : ℕ) (e : Tree) (ns : List ℕ) (bs : List (List ℕ)) → Stands (nodes 0 b) k e
    → after t (integers_in e ++ ns) (strings_in files e ++ bs) ≡ after (asked_at files b t (root k e)) ns bs
ask_first files b t k e ns bs s = after_both t (integers_in e) ns (strings_in files e) bs ∙ ap (λ u. after u ns bs) (asked_is files b t k e s)

ask_strings : (files : List (List ℕ)) (b : Tree) (t : Constants) (k : ℕ) (e : Tree) (bs : List (List ℕ)) → Stands (nodes 0 b) k e
    → after t (integers_in e) (strings_in files e ++ bs) ≡ after (asked_at files b t (root k e)) [] bs
ask_strings files b t k e bs s = after_strings t (integers_in e) (strings_in files e) bs ∙ ap (λ u. after u [] bs) (asked_is files b t k e s)

all_is : (files : List (List ℕ)) (b : Tree) (t : Constants) (k : ℕ) (ts : Trees) → Lies (nodes 0 b) k (nodes_of_all k ts) → after t (integers_in_all ts) (strings_in_all files ts) ≡ all_asked files b t (roots k ts)
all_is files b t k Last s = refl
all_is files b t k (More e ts) s =
    ask_first files b t k e (integers_in_all ts) (strings_in_all files ts) (first_stands e ts s) ∙ all_is files b (asked_at files b t (root k e)) (k + tree_size e) ts (others_stand e ts s)

all_first : (files : List (List ℕ)) (b : Tree) (t : Constants) (k : ℕ) (ts : Trees) (ns : List ℕ) (bs : List (List ℕ)) → Lies (nodes 0 b) k (nodes_of_all k ts)
    → after t (integers_in_all ts ++ ns) (strings_in_all files ts ++ bs) ≡ after (all_asked files b t (roots k ts)) ns bs
all_first files b t k ts ns bs s = after_both t (integers_in_all ts) ns (strings_in_all files ts) bs ∙ ap (λ u. after u ns bs) (all_is files b t k ts s)

maybe_is : (files : List (List ℕ)) (b : Tree) (t : Constants) (k : ℕ) (o : MaybeTree) → Lies (nodes 0 b) k (nodes_of_maybe k o) → after t (integers_in_maybe o) (strings_in_maybe files o) ≡ maybe_asked files b t (root_of_maybe k o)
maybe_is files b t k Without s = refl
maybe_is files b t k (With e) s = asked_is files b t k e s

maybe_first : (files : List (List ℕ)) (b : Tree) (t : Constants) (k : ℕ) (o : MaybeTree) (ns : List ℕ) (bs : List (List ℕ)) → Lies (nodes 0 b) k (nodes_of_maybe k o)
    → after t (integers_in_maybe o ++ ns) (strings_in_maybe files o ++ bs) ≡ after (maybe_asked files b t (root_of_maybe k o)) ns bs
maybe_first files b t k o ns bs s = after_both t (integers_in_maybe o) ns (strings_in_maybe files o) bs ∙ ap (λ u. after u ns bs) (maybe_is files b t k o s)

cases_is : (files : List (List ℕ)) (b : Tree) (t : Constants) (k : ℕ) (cs : Cases) → Lies (nodes 0 b) k (nodes_of_cases k cs) → after t (integers_in_cases cs) (strings_in_cases files cs) ≡ branches_asked files b t (branch_roots k cs)
cases_is files b t k NoCase s = refl
cases_is files b t k (CaseOf at name declared e cs) s =
    ask_first files b t k e (integers_in_cases cs) (strings_in_cases files cs) (first_branch_stands e cs s) ∙ cases_is files b (asked_at files b t (root k e)) (k + tree_size e) cs (other_branches_stand e cs s)

operation_is : (files : List (List ℕ)) (t : Constants) (op : ArithOp) (at : Place) → after t [] (files_of files op at) ≡ operation_asked files op at t
operation_is files t arith_op.Add at = refl
operation_is files t arith_op.Sub at = refl
operation_is files t arith_op.Mul at = refl
operation_is files t arith_op.Div at = refl

-- the constants after an expression are those after its node
pub node_asks : (files : List (List ℕ)) (b : Tree) (t : Constants) (k : ℕ) (e : Tree) → Stands (nodes 0 b) k e → after t (integers_in e) (strings_in files e) ≡ node_asked files b t (top k e)
node_asks files b t k (trees.Assign at name e) s = asked_is files b t k e (one_stands e _ s)
node_asks files b t k (trees.Dispatch at e name ts) s =
    let two = two_stand e (nodes_of_all (k + tree_size e) ts) _ s in
    all_first files b t (k + tree_size e) ts (integers_in e) (strings_in files e ++ file_of files at) two.1
    ∙ ask_strings files b (all_asked files b t (roots (k + tree_size e) ts)) k e (file_of files at) two.0
node_asks files b t k (trees.StaticDispatch at e class name ts) s =
    let two = two_stand e (nodes_of_all (k + tree_size e) ts) _ s in
    all_first files b t (k + tree_size e) ts (integers_in e) (strings_in files e ++ file_of files at) two.1
    ∙ ask_strings files b (all_asked files b t (roots (k + tree_size e) ts)) k e (file_of files at) two.0
node_asks files b t k (trees.If at c y n) s =
    let all = three_stand c y n _ s in
    ask_first files b t k c (integers_in y ++ integers_in n) (strings_in files y ++ strings_in files n) all.0
    ∙ ask_first files b (asked_at files b t (root k c)) (k + tree_size c) y (integers_in n) (strings_in files n) all.1
    ∙ asked_is files b (asked_at files b (asked_at files b t (root k c)) (root (k + tree_size c) y)) (k + tree_size c + tree_size y) n all.2
node_asks files b t k (trees.While at c a) s =
    let two = two_stand c (nodes (k + tree_size c) a) _ s in
    ask_first files b t k c (integers_in a) (strings_in files a) two.0 ∙ asked_is files b (asked_at files b t (root k c)) (k + tree_size c) a two.1
node_asks files b t k (trees.Block at ts) s = all_is files b t k ts (all_stand ts _ s)
node_asks files b t k (trees.Let at name declared o a) s =
    let two = maybe_stands o a _ s in
    maybe_first files b t k o (integers_in a) (strings_in files a) two.0 ∙ asked_is files b (maybe_asked files b t (root_of_maybe k o)) (k + maybe_size o) a two.1
node_asks files b t k (trees.Case at a cs) s =
    let two = two_stand a (nodes_of_cases (k + tree_size a) cs) _ s in
    ask_first files b t k a (integers_in_cases cs) (file_of files at ++ strings_in_cases files cs) two.0
    ∙ cases_is files b (with_file files (asked_at files b t (root k a)) at) (k + tree_size a) cs two.1
node_asks files b t k (trees.New at class) s = refl
node_asks files b t k (trees.IsVoid at e) s = asked_is files b t k e (one_stands e _ s)
node_asks files b t k (trees.Arith at op l r) s =
    let two = two_stand l (nodes (k + tree_size l) r) _ s in
    ask_first files b t k l (integers_in r) (strings_in files r ++ files_of files op at) two.0
    ∙ ask_strings files b (asked_at files b t (root k l)) (k + tree_size l) r (files_of files op at) two.1
    ∙ operation_is files (asked_at files b (asked_at files b t (root k l)) (root (k + tree_size l) r)) op at
node_asks files b t k (trees.Neg at e) s = ask_strings files b t k e (file_of files at) (one_stands e _ s)
node_asks files b t k (trees.Compare at op l r) s =
    let two = two_stand l (nodes (k + tree_size l) r) _ s in
    ask_first files b t k l (integers_in r) (strings_in files r) two.0 ∙ asked_is files b (asked_at files b t (root k l)) (k + tree_size l) r two.1
node_asks files b t k (trees.Not at e) s = asked_is files b t k e (one_stands e _ s)
node_asks files b t k (trees.Id at name) s = refl
node_asks files b t k (trees.Int at value) s = refl
node_asks files b t k (trees.Str at bytes) s = refl
node_asks files b t k (trees.Bool at value) s = refl

-- the first of some expressions, and the others, where a table extends the one after all
split : (files : List (List ℕ)) (b : Tree) (t g : Constants) (k : ℕ) (e : Tree) (ns : List ℕ) (bs : List (List ℕ)) → Stands (nodes 0 b) k e
    → Extends (after t (integers_in e ++ ns) (strings_in files e ++ bs)) g → Extends (after t (integers_in e) (strings_in files e)) g × Extends (after (asked_at files b t (root k e)) ns bs) g
split files b t g k e ns bs s x = (
  extends_before (after t (integers_in e) (strings_in files e)) g ns bs (subst (λ (u : Constants). Extends u g) (after_both t (integers_in e) ns (strings_in files e) bs) x),
  subst (λ (u : Constants). Extends u g) (ask_first files b t k e ns bs s) x,
)

split_strings : (files : List (List ℕ)) (b : Tree) (t g : Constants) (k : ℕ) (e : Tree) (bs : List (List ℕ)) → Stands (nodes 0 b) k e
    → Extends (after t (integers_in e) (strings_in files e ++ bs)) g → Extends (after t (integers_in e) (strings_in files e)) g × Extends (after (asked_at files b t (root k e)) [] bs) g
split_strings files b t g k e bs s x = (
  extends_before (after t (integers_in e) (strings_in files e)) g [] bs (subst (λ (u : Constants). Extends u g) (after_strings t (integers_in e) (strings_in files e) bs) x),
  subst (λ (u : Constants). Extends u g) (ask_strings files b t k e bs s) x,
)

split_all : (files : List (List ℕ)) (b : Tree) (t g : Constants) (k : ℕ) (ts : Trees) (ns : List ℕ) (bs : List (List ℕ)) → Lies (nodes 0 b) k (nodes_of_all k ts)
    → Extends (after t (integers_in_all ts ++ ns) (strings_in_all files ts ++ bs)) g → Extends (after t (integers_in_all ts) (strings_in_all files ts)) g × Extends (after (all_asked files b t (roots k ts)) ns bs) g
split_all files b t g k ts ns bs s x = (
  extends_before (after t (integers_in_all ts) (strings_in_all files ts)) g ns bs (subst (λ (u : Constants). Extends u g) (after_both t (integers_in_all ts) ns (strings_in_all files ts) bs) x),
  subst (λ (u : Constants). Extends u g) (all_first files b t k ts ns bs s) x,
)

split_maybe : (files : List (List ℕ)) (b : Tree) (t g : Constants) (k : ℕ) (o : MaybeTree) (ns : List ℕ) (bs : List (List ℕ)) → Lies (nodes 0 b) k (nodes_of_maybe k o)
    → Extends (after t (integers_in_maybe o ++ ns) (strings_in_maybe files o ++ bs)) g → Extends (after t (integers_in_maybe o) (strings_in_maybe files o)) g × Extends (after (maybe_asked files b t (root_of_maybe k o)) ns bs) g
split_maybe files b t g k o ns bs s x = (
  extends_before (after t (integers_in_maybe o) (strings_in_maybe files o)) g ns bs (subst (λ (u : Constants). Extends u g) (after_both t (integers_in_maybe o) ns (strings_in_maybe files o) bs) x),
  subst (λ (u : Constants). Extends u g) (maybe_first files b t k o ns bs s) x,
)

-- there are as many roots as trees
pub count_is : (k : ℕ) (ts : Trees) → trees_count ts ≡ length (roots k ts)
count_is k Last = refl
count_is k (More e ts) = omega (arith, count_is (k + tree_size e) ts)

-- the lines of trees in order, of a tree or none, and of branches
arguments_are : (s : Context) (b : Tree) (t g : Constants) (vs : List Named) (d k : ℕ) (ts : Trees) → Lies (nodes 0 b) k (nodes_of_all k ts) → Extends (after t (integers_in_all ts) (strings_in_all s.files ts)) g
    → arguments_code s g vs d k ts ≡ arguments_lines s b t vs d (roots k ts)
arguments_are s b t g vs d k Last there x = refl
arguments_are s b t g vs d k (More e ts) there x =
    let two = split s.files b t g k e (integers_in_all ts) (strings_in_all s.files ts) (first_stands e ts there) x in
    simp (lines_is s b t g vs d k e (first_stands e ts there) two.0, arguments_are s b (asked_at s.files b t (root k e)) g vs (d + 1) (k + tree_size e) ts (others_stand e ts there) two.1) refl

items_are : (s : Context) (b : Tree) (t g : Constants) (vs : List Named) (d k : ℕ) (ts : Trees) → Lies (nodes 0 b) k (nodes_of_all k ts) → Extends (after t (integers_in_all ts) (strings_in_all s.files ts)) g
    → items_code s g vs d k ts ≡ items_lines s b t vs d (roots k ts)
items_are s b t g vs d k Last there x = refl
items_are s b t g vs d k (More e ts) there x =
    let two = split s.files b t g k e (integers_in_all ts) (strings_in_all s.files ts) (first_stands e ts there) x in
    simp (lines_is s b t g vs d k e (first_stands e ts there) two.0, items_are s b (asked_at s.files b t (root k e)) g vs d (k + tree_size e) ts (others_stand e ts there) two.1) refl

initial_is : (s : Context) (b : Tree) (t g : Constants) (vs : List Named) (d k : ℕ) (type : Ty) (o : MaybeTree) → Lies (nodes 0 b) k (nodes_of_maybe k o) → Extends (after t (integers_in_maybe o) (strings_in_maybe s.files o)) g
    → initial_code s g vs d k type o ≡ initial_lines s b t vs d type (root_of_maybe k o)
initial_is s b t g vs d k type Without there x = refl
initial_is s b t g vs d k type (With e) there x = lines_is s b t g vs d k e there x

arms_are : (s : Context) (b : Tree) (t g : Constants) (vs : List Named) (d k : ℕ) (end : Name) (before : List (Branch (List Shown))) (cs : Cases) → Lies (nodes 0 b) k (nodes_of_cases k cs) → Extends (after t (integers_in_cases cs) (strings_in_cases s.files cs)) g
    → arms_code s g vs d k end (map (λ (x : Branch (List Shown)). x.arm) before) cs ≡ map (λ (x : Branch (List Shown)). x.arm) (branches_made Lines s b t vs d end before (branch_roots k cs))
arms_are s b t g vs d k end before NoCase there x = refl
arms_are s b t g vs d k end before (CaseOf at name declared e cs) there x =
    let here = first_branch_stands e cs there in
    let two = split s.files b t g k e (integers_in_cases cs) (strings_in_cases s.files cs) here x in
    let class = class_meant s.table s.class declared.name in
    let next = label_at s (codes "next") (root k e) in
    let w : NodeBranch = record { at = at; name = name; declared = declared; body = root k e } in
    let made : Branch (List Shown) = record { arm = record { depth = length (above s.table class); lines = branch_lines s b t vs d end w }; inside = branch_spans Lines s b vs d [] w } in
    let lines = lines_is s b t g (bind d name (type_meant s.table declared.name) vs) (d + 1) k e here two.0 in
    (λ i. arms_code s g vs d (k + tree_size e) end
    (with_arm (map (λ (y : Branch (List Shown)). y.arm) before) (record { depth = length (above s.table class); lines = range_code s class next ++ (lines i ++ turn_lines end next) })) cs)
    ∙ ap (λ (xs : List Arm). arms_code s g vs d (k + tree_size e) end xs cs) (arm_put before made)
    ∙ arms_are s b (asked_at s.files b t (root k e)) g vs d (k + tree_size e) end (with_branch before made) cs (other_branches_stand e cs there) two.1

-- the file of a place has its number in the table after it was asked for
file_is : (t g : Constants) (bytes : List ℕ) → Extends (with_bytes t bytes) g → string_label g bytes ≡ string_label (with_bytes t bytes) bytes
file_is t g bytes x = ap string_constant (string_stays t g bytes x ∙ sym (string_stays t (with_bytes t bytes) bytes (extends_same (with_bytes t bytes))))

-- the table after an expression extends itself
whole : (files : List (List ℕ)) (b : Tree) (t : Constants) (k : ℕ) (e : Tree) → Stands (nodes 0 b) k e → Extends (after t (integers_in e) (strings_in files e)) (node_asked files b t (top k e))
whole files b t k e s = subst (λ (u : Constants). Extends (after t (integers_in e) (strings_in files e)) u) (node_asks files b t k e s) (extends_same (after t (integers_in e) (strings_in files e)))

-- the lines of an expression are those of its node
pub node_coded : (s : Context) (b : Tree) (t : Constants) (vs : List Named) (d k : ℕ) (e : Tree) → Stands (nodes 0 b) k e
    → code s (node_asked s.files b t (top k e)) vs d k e ≡ node_lines s b t vs d (root k e) (top k e)
node_coded s b t vs d k (trees.Assign at name e) there =
    simp (lines_is s b t (node_asked s.files b t (top k (trees.Assign at name e))) vs d k e (one_stands e _ there) (whole s.files b t k (trees.Assign at name e) there)) refl
node_coded s b t vs d k (trees.Dispatch at e name ts) there =
    let g = node_asked s.files b t (top k (trees.Dispatch at e name ts)) in
    let parts = two_stand e (nodes_of_all (k + tree_size e) ts) _ there in
    let args = split_all s.files b t g (k + tree_size e) ts (integers_in e) (strings_in s.files e ++ file_of s.files at) parts.1 (whole s.files b t k (trees.Dispatch at e name ts) there) in
    let object = split_strings s.files b (all_asked s.files b t (roots (k + tree_size e) ts)) g k e (file_of s.files at) parts.0 args.1 in
    simp (
      count_is (k + tree_size e) ts,
      arguments_are s b t g vs d (k + tree_size e) ts parts.1 args.0,
      lines_is s b (all_asked s.files b t (roots (k + tree_size e) ts)) g vs (d + length (roots (k + tree_size e) ts)) k e parts.0 object.0,
      receiver_is s b (scope_of vs) k e parts.0,
    ) refl
node_coded s b t vs d k (trees.StaticDispatch at e class name ts) there =
    let g = node_asked s.files b t (top k (trees.StaticDispatch at e class name ts)) in
    let parts = two_stand e (nodes_of_all (k + tree_size e) ts) _ there in
    let args = split_all s.files b t g (k + tree_size e) ts (integers_in e) (strings_in s.files e ++ file_of s.files at) parts.1 (whole s.files b t k (trees.StaticDispatch at e class name ts) there) in
    let object = split_strings s.files b (all_asked s.files b t (roots (k + tree_size e) ts)) g k e (file_of s.files at) parts.0 args.1 in
    simp (
      count_is (k + tree_size e) ts,
      arguments_are s b t g vs d (k + tree_size e) ts parts.1 args.0,
      lines_is s b (all_asked s.files b t (roots (k + tree_size e) ts)) g vs (d + length (roots (k + tree_size e) ts)) k e parts.0 object.0,
    ) refl
node_coded s b t vs d k (trees.If at c y n) there =
    let g = node_asked s.files b t (top k (trees.If at c y n)) in
    let parts = three_stand c y n _ there in
    let one = split s.files b t g k c (integers_in y ++ integers_in n) (strings_in s.files y ++ strings_in s.files n) parts.0 (whole s.files b t k (trees.If at c y n) there) in
    let two = split s.files b (asked_at s.files b t (root k c)) g (k + tree_size c) y (integers_in n) (strings_in s.files n) parts.1 one.1 in
    simp (
      lines_is s b t g vs d k c parts.0 one.0,
      lines_is s b (asked_at s.files b t (root k c)) g vs d (k + tree_size c) y parts.1 two.0,
      lines_is s b (asked_at s.files b (asked_at s.files b t (root k c)) (root (k + tree_size c) y)) g vs d (k + tree_size c + tree_size y) n parts.2 two.1,
    ) refl
node_coded s b t vs d k (trees.While at c a) there =
    let g = node_asked s.files b t (top k (trees.While at c a)) in
    let parts = two_stand c (nodes (k + tree_size c) a) _ there in
    let one = split s.files b t g k c (integers_in a) (strings_in s.files a) parts.0 (whole s.files b t k (trees.While at c a) there) in
    simp (lines_is s b t g vs d k c parts.0 one.0, lines_is s b (asked_at s.files b t (root k c)) g vs d (k + tree_size c) a parts.1 one.1) refl
node_coded s b t vs d k (trees.Block at ts) there =
    items_are s b t (node_asked s.files b t (top k (trees.Block at ts))) vs d k ts (all_stand ts _ there) (whole s.files b t k (trees.Block at ts) there)
node_coded s b t vs d k (trees.Let at name declared o a) there =
    let g = node_asked s.files b t (top k (trees.Let at name declared o a)) in
    let parts = maybe_stands o a _ there in
    let one = split_maybe s.files b t g k o (integers_in a) (strings_in s.files a) parts.0 (whole s.files b t k (trees.Let at name declared o a) there) in
    simp (
      initial_is s b t g vs d k (type_meant s.table declared.name) o parts.0 one.0,
      lines_is s b (maybe_asked s.files b t (root_of_maybe k o)) g (bind d name (type_meant s.table declared.name) vs) (d + 1) (k + maybe_size o) a parts.1 one.1,
    ) refl
node_coded s b t vs d k (trees.Case at a cs) there =
    let g = node_asked s.files b t (top k (trees.Case at a cs)) in
    let parts = two_stand a (nodes_of_cases (k + tree_size a) cs) _ there in
    let one = split s.files b t g k a (integers_in_cases cs) (file_of s.files at ++ strings_in_cases s.files cs) parts.0 (whole s.files b t k (trees.Case at a cs) there) in
    let file = with_file s.files (asked_at s.files b t (root k a)) at in
    simp (
      lines_is s b t g vs d k a parts.0 one.0,
      file_is (asked_at s.files b t (root k a)) g _ (extends_before file g (integers_in_cases cs) (strings_in_cases s.files cs) one.1),
      arms_are s b file g vs d (k + tree_size a) (label_at s (codes "end") (root k (trees.Case at a cs))) [] cs parts.1 one.1,
    ) refl
node_coded s b t vs d k (trees.New at class) there = refl
node_coded s b t vs d k (trees.IsVoid at e) there =
    simp (lines_is s b t (node_asked s.files b t (top k (trees.IsVoid at e))) vs d k e (one_stands e _ there) (whole s.files b t k (trees.IsVoid at e) there)) refl
node_coded s b t vs d k (trees.Arith at op l r) there =
    let g = node_asked s.files b t (top k (trees.Arith at op l r)) in
    let parts = two_stand l (nodes (k + tree_size l) r) _ there in
    let one = split s.files b t g k l (integers_in r) (strings_in s.files r ++ files_of s.files op at) parts.0 (whole s.files b t k (trees.Arith at op l r) there) in
    let two = split_strings s.files b (asked_at s.files b t (root k l)) g (k + tree_size l) r (files_of s.files op at) parts.1 one.1 in
    simp (lines_is s b t g vs d k l parts.0 one.0, lines_is s b (asked_at s.files b t (root k l)) g vs (d + 1) (k + tree_size l) r parts.1 two.0) refl
node_coded s b t vs d k (trees.Neg at e) there =
    let g = node_asked s.files b t (top k (trees.Neg at e)) in
    let one = split_strings s.files b t g k e (file_of s.files at) (one_stands e _ there) (whole s.files b t k (trees.Neg at e) there) in
    simp (lines_is s b t g vs d k e (one_stands e _ there) one.0) refl
node_coded s b t vs d k (trees.Compare at op l r) there =
    let g = node_asked s.files b t (top k (trees.Compare at op l r)) in
    let parts = two_stand l (nodes (k + tree_size l) r) _ there in
    let one = split s.files b t g k l (integers_in r) (strings_in s.files r) parts.0 (whole s.files b t k (trees.Compare at op l r) there) in
    simp (lines_is s b t g vs d k l parts.0 one.0, lines_is s b (asked_at s.files b t (root k l)) g vs (d + 1) (k + tree_size l) r parts.1 one.1) refl
node_coded s b t vs d k (trees.Not at e) there =
    simp (lines_is s b t (node_asked s.files b t (top k (trees.Not at e))) vs d k e (one_stands e _ there) (whole s.files b t k (trees.Not at e) there)) refl
node_coded s b t vs d k (trees.Id at name) there = refl
node_coded s b t vs d k (trees.Int at value) there = refl
node_coded s b t vs d k (trees.Str at bytes) there = refl
node_coded s b t vs d k (trees.Bool at value) there = refl

-- the sizes of trees in order, of a tree or none, and of branches
sizes_are : (b : Tree) (k : ℕ) (ts : Trees) → Lies (nodes 0 b) k (nodes_of_all k ts) → trees_size ts ≡ sizes_at b (roots k ts)
sizes_are b k Last there = refl
sizes_are b k (More e ts) there = omega (arith, size_is b k e (first_stands e ts there), sizes_are b (k + tree_size e) ts (others_stand e ts there))

maybe_size_is : (b : Tree) (k : ℕ) (o : MaybeTree) → Lies (nodes 0 b) k (nodes_of_maybe k o) → maybe_size o ≡ maybe_size_at b (root_of_maybe k o)
maybe_size_is b k Without there = refl
maybe_size_is b k (With e) there = size_is b k e there

branch_sizes_are : (b : Tree) (k : ℕ) (cs : Cases) → Lies (nodes 0 b) k (nodes_of_cases k cs) → cases_size cs ≡ branch_sizes_at b (branch_roots k cs)
branch_sizes_are b k NoCase there = refl
branch_sizes_are b k (CaseOf at name declared e cs) there = omega (arith, size_is b k e (first_branch_stands e cs there), branch_sizes_are b (k + tree_size e) cs (other_branches_stand e cs there))

-- the size of an expression is that of its node
pub node_sized : (b : Tree) (k : ℕ) (e : Tree) → Stands (nodes 0 b) k e → tree_size e ≡ node_size b (top k e)
node_sized b k (trees.Assign at name e) there = omega (arith, size_is b k e (one_stands e _ there))
node_sized b k (trees.Dispatch at e name ts) there =
    let parts = two_stand e (nodes_of_all (k + tree_size e) ts) _ there in
    omega (arith, size_is b k e parts.0, sizes_are b (k + tree_size e) ts parts.1)
node_sized b k (trees.StaticDispatch at e class name ts) there =
    let parts = two_stand e (nodes_of_all (k + tree_size e) ts) _ there in
    omega (arith, size_is b k e parts.0, sizes_are b (k + tree_size e) ts parts.1)
node_sized b k (trees.If at c y n) there =
    let parts = three_stand c y n _ there in
    omega (arith, size_is b k c parts.0, size_is b (k + tree_size c) y parts.1, size_is b (k + tree_size c + tree_size y) n parts.2)
node_sized b k (trees.While at c a) there =
    let parts = two_stand c (nodes (k + tree_size c) a) _ there in
    omega (arith, size_is b k c parts.0, size_is b (k + tree_size c) a parts.1)
node_sized b k (trees.Block at ts) there = omega (arith, sizes_are b k ts (all_stand ts _ there))
node_sized b k (trees.Let at name declared o a) there =
    let parts = maybe_stands o a _ there in
    omega (arith, maybe_size_is b k o parts.0, size_is b (k + maybe_size o) a parts.1)
node_sized b k (trees.Case at a cs) there =
    let parts = two_stand a (nodes_of_cases (k + tree_size a) cs) _ there in
    omega (arith, size_is b k a parts.0, branch_sizes_are b (k + tree_size a) cs parts.1)
node_sized b k (trees.New at class) there = refl
node_sized b k (trees.IsVoid at e) there = omega (arith, size_is b k e (one_stands e _ there))
node_sized b k (trees.Arith at op l r) there =
    let parts = two_stand l (nodes (k + tree_size l) r) _ there in
    omega (arith, size_is b k l parts.0, size_is b (k + tree_size l) r parts.1)
node_sized b k (trees.Neg at e) there = omega (arith, size_is b k e (one_stands e _ there))
node_sized b k (trees.Compare at op l r) there =
    let parts = two_stand l (nodes (k + tree_size l) r) _ there in
    omega (arith, size_is b k l parts.0, size_is b (k + tree_size l) r parts.1)
node_sized b k (trees.Not at e) there = omega (arith, size_is b k e (one_stands e _ there))
node_sized b k (trees.Id at name) there = refl
node_sized b k (trees.Int at value) there = refl
node_sized b k (trees.Str at bytes) there = refl
node_sized b k (trees.Bool at value) there = refl

-- the node at the number of a part, as the last node of its tree
pub at_part : (b : TypedBody) (scope : List Binding) (id : NodeId) (n : Node) (h : IsPart b scope id) → slice_get (nodes 0 b.body) id.0 ≡ Some n → n ≡ top h.before h.tree
at_part b scope id n h e = same_Some n (top h.before h.tree) (sym e ∙ part_node b scope id h)

-- at the number of a part: the lines, the constants and the size
pub lines_of_node : (s : Context) (b : TypedBody) (scope : List Binding) (t : Constants) (vs : List Named) (d : ℕ) (id : NodeId) (n : Node) → IsPart b scope id → slice_get (nodes 0 b.body) id.0 ≡ Some n
    → lines_at s b.body t vs d id ≡ node_lines s b.body t vs d id n
lines_of_node s b scope t vs d id n h e =
    ap (lines_at s b.body t vs d) h.number
    ∙ sym (lines_is s b.body t (node_asked s.files b.body t (top h.before h.tree)) vs d h.before h.tree h.stands (whole s.files b.body t h.before h.tree h.stands))
    ∙ node_coded s b.body t vs d h.before h.tree h.stands
    ∙ (λ i. node_lines s b.body t vs d (sym h.number i) (sym (at_part b scope id n h e) i))

pub asked_of_node : (files : List (List ℕ)) (b : TypedBody) (scope : List Binding) (t : Constants) (id : NodeId) (n : Node) → IsPart b scope id → slice_get (nodes 0 b.body) id.0 ≡ Some n
    → asked_at files b.body t id ≡ node_asked files b.body t n
asked_of_node files b scope t id n h e =
    ap (asked_at files b.body t) h.number
    ∙ sym (asked_is files b.body t h.before h.tree h.stands)
    ∙ node_asks files b.body t h.before h.tree h.stands
    ∙ ap (node_asked files b.body t) (sym (at_part b scope id n h e))

pub size_of_node : (b : TypedBody) (scope : List Binding) (id : NodeId) (n : Node) → IsPart b scope id → slice_get (nodes 0 b.body) id.0 ≡ Some n → size_at b.body id ≡ node_size b.body n
size_of_node b scope id n h e =
    ap (size_at b.body) h.number ∙ sym (size_is b.body h.before h.tree h.stands) ∙ node_sized b.body h.before h.tree h.stands ∙ ap (node_size b.body) (sym (at_part b scope id n h e))
