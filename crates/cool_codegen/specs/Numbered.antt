-- Functions from the number of a node in a feature's expression to the size, the constants, the lines and the spans (ranges of lines) of its code. Other
-- functions give the same for a node, from the numbers of its parts. Lines name constants by the constant table after the expression.
use Rattle.std.specs.Prelude.{ℕ, ◌+◌, ◌-◌, List, [], ◌∷◌, ◌++◌, length, map, codes, Option, Some, None, get_or}
use Rattle.cool_syntax.specs.declared.place.Place.{Place}
use Rattle.cool_syntax.specs.declared.operator.ArithOp.{ArithOp}
use Rattle.cool_syntax.specs.declared.operator.ArithOp.TheVariants as arith
use Rattle.cool_syntax.specs.declared.node.Node.{Node}
use Rattle.cool_syntax.specs.declared.node.Node.TheVariants as node
use Rattle.cool_syntax.specs.declared.node.NodeId.{NodeId}
use Rattle.cool_syntax.specs.declared.node.NodeBranch.{NodeBranch}
use Rattle.cool_syntax.specs.Tree.{Tree, tree_size}
use Rattle.cool_syntax.specs.NodeLists.{all_trees, made, tree_at}
use Rattle.mips_isa.specs.Lines.{Name, Line}
use Rattle.cool_classes.specs.declared.class_id.ClassId.{ClassId}
use Rattle.cool_classes.specs.declared.class_id.Ty.{Ty}
use Rattle.cool_classes.specs.ClimbedChains.{above}
use Rattle.cool_rules.specs.Conformance.{class_of}
use Rattle.cool_rules.specs.Rules.{type_meant}
use Rattle.cool_rules.specs.Scopes.{Binding}
use Rattle.cool_rules.specs.StaticTypes.{type_of}
use Rattle.cool_runtime.specs.Routines.{push_lines}
use Rattle.cool_consts.specs.Constants.{Constants, with_integer, with_string}
use Rattle.cool_codegen.specs.Pieces.{pop_lines, take_lines, test_lines, mark_lines, turn_lines, repeat_lines, values_lines, is_void_lines, complement_lines, negate_lines, case_begin_lines, case_end_lines}
use Rattle.cool_codegen.specs.Variables.{Named, bind, scope_of}
use Rattle.cool_codegen.specs.Types.{class_meant}
use Rattle.cool_codegen.specs.Arms.{arms_lines}
use Rattle.cool_codegen.specs.Spans.{Branch, spans, with_branch}
use Rattle.cool_codegen.specs.Shown.{Shown, arms_spans, noted, shown, whole}
use Rattle.cool_codegen.specs.declared.code_setting.Wanted.{Wanted}
use Rattle.cool_codegen.specs.declared.code_setting.Wanted.TheVariants.{Lines}
use Rattle.cool_codegen.specs.Asked.{integers_in, strings_in, with_integers, with_strings}
use Rattle.cool_codegen.specs.Code.{Context, code, name_code, assign_code, new_code, default_code, truth_label, integer_label, string_label, file_label, label_at, bool_code, int_code, operation_code, compare_code, slot_code, static_code, range_code}

-- sizes: how many nodes the expression at a number has

unfoldable pub size_at : Tree → NodeId → ℕ
size_at b id = tree_size (tree_at b id)

abbrev pub sizes_at : Tree → List NodeId → ℕ
sizes_at b [] = 0
sizes_at b (id ∷ ids) = size_at b id + sizes_at b ids

abbrev pub maybe_size_at : Tree → Option NodeId → ℕ
maybe_size_at b None = 0
maybe_size_at b (Some id) = size_at b id

abbrev pub branch_sizes_at : Tree → List NodeBranch → ℕ
branch_sizes_at b [] = 0
branch_sizes_at b (w ∷ ws) = size_at b w.body + branch_sizes_at b ws

abbrev pub node_size : Tree → Node → ℕ
node_size b (node.Assign at name a) = size_at b a + 1
node_size b (node.Dispatch at a name ids) = size_at b a + sizes_at b ids + 1
node_size b (node.StaticDispatch at a class name ids) = size_at b a + sizes_at b ids + 1
node_size b (node.If at t y n) = size_at b t + size_at b y + size_at b n + 1
node_size b (node.While at t a) = size_at b t + size_at b a + 1
node_size b (node.Block at ids) = sizes_at b ids + 1
node_size b (node.Let at name declared o a) = maybe_size_at b o + size_at b a + 1
node_size b (node.Case at a ws) = size_at b a + branch_sizes_at b ws + 1
node_size b (node.New at class) = 1
node_size b (node.IsVoid at a) = size_at b a + 1
node_size b (node.Arith at op l r) = size_at b l + size_at b r + 1
node_size b (node.Neg at a) = size_at b a + 1
node_size b (node.Compare at op l r) = size_at b l + size_at b r + 1
node_size b (node.Not at a) = size_at b a + 1
node_size b (node.Id at name) = 1
node_size b (node.Int at value) = 1
node_size b (node.Str at bytes) = 1
node_size b (node.Bool at value) = 1

-- constants: a table after the expression at a number

abbrev pub after : Constants → List ℕ → List (List ℕ) → Constants
after t ns bs = record { integers = with_integers t.integers ns; strings = with_strings t.strings bs }

abbrev pub with_value : Constants → ℕ → Constants
with_value t n = record { integers = with_integer t.integers n; strings = t.strings }

abbrev pub with_bytes : Constants → List ℕ → Constants
with_bytes t bs = record { integers = t.integers; strings = with_string t.strings bs }

-- the table with the name of the file of a place
abbrev pub with_file : List (List ℕ) → Constants → Place → Constants
with_file files t at = with_bytes t (get_or files at.file [])

-- the strings after the test of a divisor, which names its file
abbrev pub tested_strings : List (List ℕ) → ArithOp → Place → List (List ℕ) → List (List ℕ)
tested_strings files arith.Add at strings = strings
tested_strings files arith.Sub at strings = strings
tested_strings files arith.Mul at strings = strings
tested_strings files arith.Div at strings = with_string strings (get_or files at.file [])

-- the table after an operation, which names its file where its result does not fit
abbrev pub operation_asked : List (List ℕ) → ArithOp → Place → Constants → Constants
operation_asked files arith.Add at t = with_file files t at
operation_asked files arith.Sub at t = with_file files t at
operation_asked files arith.Mul at t = with_file files t at
operation_asked files arith.Div at t = with_file files (with_file files t at) at

unfoldable pub asked_at : List (List ℕ) → Tree → Constants → NodeId → Constants
asked_at files b t id = after t (integers_in (tree_at b id)) (strings_in files (tree_at b id))

abbrev pub all_asked : List (List ℕ) → Tree → Constants → List NodeId → Constants
all_asked files b t [] = t
all_asked files b t (id ∷ ids) = all_asked files b (asked_at files b t id) ids

abbrev pub maybe_asked : List (List ℕ) → Tree → Constants → Option NodeId → Constants
maybe_asked files b t None = t
maybe_asked files b t (Some id) = asked_at files b t id

abbrev pub branches_asked : List (List ℕ) → Tree → Constants → List NodeBranch → Constants
branches_asked files b t [] = t
branches_asked files b t (w ∷ ws) = branches_asked files b (asked_at files b t w.body) ws

abbrev pub node_asked : List (List ℕ) → Tree → Constants → Node → Constants
node_asked files b t (node.Assign at name a) = asked_at files b t a
node_asked files b t (node.Dispatch at a name ids) = with_file files (asked_at files b (all_asked files b t ids) a) at
node_asked files b t (node.StaticDispatch at a class name ids) = with_file files (asked_at files b (all_asked files b t ids) a) at
node_asked files b t (node.If at c y n) = asked_at files b (asked_at files b (asked_at files b t c) y) n
node_asked files b t (node.While at c a) = asked_at files b (asked_at files b t c) a
node_asked files b t (node.Block at ids) = all_asked files b t ids
node_asked files b t (node.Let at name declared o a) = asked_at files b (maybe_asked files b t o) a
node_asked files b t (node.Case at a ws) = branches_asked files b (with_file files (asked_at files b t a) at) ws
node_asked files b t (node.New at class) = t
node_asked files b t (node.IsVoid at a) = asked_at files b t a
node_asked files b t (node.Arith at op l r) = operation_asked files op at (asked_at files b (asked_at files b t l) r)
node_asked files b t (node.Neg at a) = with_file files (asked_at files b t a) at
node_asked files b t (node.Compare at op l r) = asked_at files b (asked_at files b t l) r
node_asked files b t (node.Not at a) = asked_at files b t a
node_asked files b t (node.Id at name) = t
node_asked files b t (node.Int at value) = with_value t value
node_asked files b t (node.Str at bytes) = with_bytes t bytes
node_asked files b t (node.Bool at value) = t

-- the class of the receiver at a number, with these names in scope
unfoldable pub receiver_class : Context → Tree → List Binding → NodeId → ClassId
receiver_class s b scope id = class_of s.class (type_of s.table s.class scope (tree_at b id))

-- the class that a branch declares
abbrev pub class_of_branch : Context → NodeBranch → ClassId
class_of_branch s w = class_meant s.table s.class w.declared.name

-- the names in scope in a branch
abbrev pub within_branch : Context → List Named → ℕ → NodeBranch → List Named
within_branch s vs d w = bind d w.name (type_meant s.table w.declared.name) vs

-- no constants
abbrev pub no_constants : Constants
no_constants = record { integers = []; strings = [] }

-- lines: the first table is that before the expression, and constants are named by the table after it

-- the number of nodes before the expression at a number
abbrev pub nodes_before : Tree → NodeId → ℕ
nodes_before b id = id.0 + 1 - tree_size (tree_at b id)

unfoldable pub lines_at : Context → Tree → Constants → List Named → ℕ → NodeId → List Line
lines_at s b t vs d id = code s (asked_at s.files b t id) vs d (nodes_before b id) (tree_at b id)

-- the lines of expressions in order
abbrev pub items_lines : Context → Tree → Constants → List Named → ℕ → List NodeId → List Line
items_lines s b t vs d [] = []
items_lines s b t vs d (id ∷ ids) = lines_at s b t vs d id ++ items_lines s b (asked_at s.files b t id) vs d ids

-- the lines of arguments, each of which goes to the stack
abbrev pub arguments_lines : Context → Tree → Constants → List Named → ℕ → List NodeId → List Line
arguments_lines s b t vs d [] = []
arguments_lines s b t vs d (id ∷ ids) = lines_at s b t vs d id ++ (push_lines ++ arguments_lines s b (asked_at s.files b t id) vs (d + 1) ids)

abbrev pub initial_lines : Context → Tree → Constants → List Named → ℕ → Ty → Option NodeId → List Line
initial_lines s b t vs d type None = default_code type
initial_lines s b t vs d type (Some id) = lines_at s b t vs d id

-- the lines of a branch
abbrev pub branch_lines : Context → Tree → Constants → List Named → ℕ → Name → NodeBranch → List Line
branch_lines s b t vs d end w =
    range_code s (class_of_branch s w) (label_at s (codes "next") w.body)
    ++ (lines_at s b t (within_branch s vs d w) (d + 1) w.body ++ turn_lines end (label_at s (codes "next") w.body))

-- the noted spans of an expression whose code begins behind so many lines: the same by each table of constants, and so by none
unfoldable pub spans_at : Wanted → Context → Tree → List Named → ℕ → ℕ → NodeId → List Shown
spans_at want s b vs d from id = noted want (map (shown s no_constants) (spans length s no_constants vs d (nodes_before b id) from (tree_at b id)))

-- the spans in a branch that stands behind lines
abbrev pub branch_spans : Wanted → Context → Tree → List Named → ℕ → List Line → NodeBranch → List Shown
branch_spans want s b vs d before w =
    spans_at want s b (within_branch s vs d w) (d + 1) (length (before ++ range_code s (class_of_branch s w) (label_at s (codes "next") w.body))) w.body

-- the branches put among those before them
abbrev pub branches_made : Wanted → Context → Tree → Constants → List Named → ℕ → Name → List (Branch (List Shown)) → List NodeBranch → List (Branch (List Shown))
branches_made want s b t vs d end before [] = before
branches_made want s b t vs d end before (w ∷ ws) =
    branches_made want s b (asked_at s.files b t w.body) vs d end
    (with_branch before (record {
      arm = record { depth = length (above s.table (class_of_branch s w)); lines = branch_lines s b t vs d end w };
      inside = branch_spans want s b vs d [] w;
    }))
    ws

-- the lines of branches, one behind the other
abbrev pub made_lines : List (Branch (List Shown)) → List Line
made_lines bs = arms_lines (map (λ b. b.arm) bs)

-- an operation, after a table
abbrev pub operation_lines : Context → Constants → ArithOp → Place → NodeId → List Line
operation_lines s t op at id =
    values_lines ++ (operation_code s (operation_asked s.files op at t) op at id ++ int_code s (operation_asked s.files op at t) at id)

abbrev pub node_lines : Context → Tree → Constants → List Named → ℕ → NodeId → Node → List Line
node_lines s b t vs d id (node.Assign at name a) = lines_at s b t vs d a ++ assign_code vs name
node_lines s b t vs d id (node.Dispatch at a name ids) =
    arguments_lines s b t vs d ids
    ++ (lines_at s b (all_asked s.files b t ids) vs (d + length ids) a
    ++ slot_code s (node_asked s.files b t (node.Dispatch at a name ids)) at (receiver_class s b (scope_of vs) a) name)
node_lines s b t vs d id (node.StaticDispatch at a class name ids) =
    arguments_lines s b t vs d ids
    ++ (lines_at s b (all_asked s.files b t ids) vs (d + length ids) a
    ++ static_code s (node_asked s.files b t (node.StaticDispatch at a class name ids)) at (class_meant s.table s.class class.name) name)
node_lines s b t vs d id (node.If at c y n) =
    lines_at s b t vs d c
    ++ (test_lines (label_at s (codes "else") id)
    ++ (lines_at s b (asked_at s.files b t c) vs d y
    ++ (turn_lines (label_at s (codes "end") id) (label_at s (codes "else") id)
    ++ (lines_at s b (asked_at s.files b (asked_at s.files b t c) y) vs d n ++ mark_lines (label_at s (codes "end") id)))))
node_lines s b t vs d id (node.While at c a) =
    mark_lines (label_at s (codes "loop") id)
    ++ (lines_at s b t vs d c
    ++ (test_lines (label_at s (codes "end") id)
    ++ (lines_at s b (asked_at s.files b t c) vs d a ++ repeat_lines (label_at s (codes "loop") id) (label_at s (codes "end") id))))
node_lines s b t vs d id (node.Block at ids) = items_lines s b t vs d ids
node_lines s b t vs d id (node.Let at name declared o a) =
    initial_lines s b t vs d (type_meant s.table declared.name) o
    ++ (push_lines
    ++ (lines_at s b (maybe_asked s.files b t o) (bind d name (type_meant s.table declared.name) vs) (d + 1) a ++ pop_lines))
node_lines s b t vs d id (node.Case at a ws) =
    lines_at s b t vs d a
    ++ (case_begin_lines (file_label s (with_file s.files (asked_at s.files b t a) at) at) at.line
    ++ (push_lines
    ++ (made_lines (branches_made Lines s b (with_file s.files (asked_at s.files b t a) at) vs d (label_at s (codes "end") id) [] ws)
    ++ case_end_lines (label_at s (codes "end") id))))
node_lines s b t vs d id (node.New at class) = new_code s.table (type_meant s.table class.name)
node_lines s b t vs d id (node.IsVoid at a) = lines_at s b t vs d a ++ (is_void_lines ++ bool_code s id)
node_lines s b t vs d id (node.Arith at op l r) =
    lines_at s b t vs d l
    ++ (push_lines
    ++ (lines_at s b (asked_at s.files b t l) vs (d + 1) r ++ operation_lines s (asked_at s.files b (asked_at s.files b t l) r) op at id))
node_lines s b t vs d id (node.Neg at a) =
    lines_at s b t vs d a ++ (negate_lines ++ int_code s (with_file s.files (asked_at s.files b t a) at) at id)
node_lines s b t vs d id (node.Compare at op l r) =
    lines_at s b t vs d l ++ (push_lines ++ (lines_at s b (asked_at s.files b t l) vs (d + 1) r ++ compare_code s op id))
node_lines s b t vs d id (node.Not at a) = lines_at s b t vs d a ++ (complement_lines ++ bool_code s id)
node_lines s b t vs d id (node.Id at name) = name_code vs name
node_lines s b t vs d id (node.Int at value) = take_lines (integer_label (with_value t value) value)
node_lines s b t vs d id (node.Str at bytes) = take_lines (string_label (with_bytes t bytes) bytes)
node_lines s b t vs d id (node.Bool at value) = take_lines (truth_label value)

-- spans: of parts whose code stands behind lines, after a table

abbrev pub items_spans : Wanted → Context → Tree → Constants → List Named → ℕ → List Line → List NodeId → List Shown
items_spans want s b t vs d before [] = []
items_spans want s b t vs d before (id ∷ ids) =
    spans_at want s b vs d (length before) id ++ items_spans want s b (asked_at s.files b t id) vs d (before ++ lines_at s b t vs d id) ids

abbrev pub arguments_spans : Wanted → Context → Tree → Constants → List Named → ℕ → List Line → List NodeId → List Shown
arguments_spans want s b t vs d before [] = []
arguments_spans want s b t vs d before (id ∷ ids) =
    spans_at want s b vs d (length before) id ++ arguments_spans want s b (asked_at s.files b t id) vs (d + 1) ((before ++ lines_at s b t vs d id) ++ push_lines) ids

abbrev pub initial_spans : Wanted → Context → Tree → List Named → ℕ → List Line → Option NodeId → List Shown
initial_spans want s b vs d before None = []
initial_spans want s b vs d before (Some id) = spans_at want s b vs d (length before) id

-- the spans of two operands, the left one of which goes to the stack
abbrev pub operands_spans : Wanted → Context → Tree → Constants → List Named → ℕ → List Line → NodeId → NodeId → List Shown
operands_spans want s b t vs d before l r = spans_at want s b vs d (length before) l ++ spans_at want s b vs (d + 1) (length ((before ++ lines_at s b t vs d l) ++ push_lines)) r

-- the spans of the parts of a node
abbrev pub node_spans : Wanted → Context → Tree → Constants → List Named → ℕ → List Line → NodeId → Node → List Shown
node_spans want s b t vs d before id (node.Assign at name a) = spans_at want s b vs d (length before) a
node_spans want s b t vs d before id (node.Dispatch at a name ids) =
    arguments_spans want s b t vs d before ids ++ spans_at want s b vs (d + length ids) (length (before ++ arguments_lines s b t vs d ids)) a
node_spans want s b t vs d before id (node.StaticDispatch at a class name ids) =
    arguments_spans want s b t vs d before ids ++ spans_at want s b vs (d + length ids) (length (before ++ arguments_lines s b t vs d ids)) a
node_spans want s b t vs d before id (node.If at c y n) =
    let yes = (before ++ lines_at s b t vs d c) ++ test_lines (label_at s (codes "else") id) in
    let no = (yes ++ lines_at s b (asked_at s.files b t c) vs d y) ++ turn_lines (label_at s (codes "end") id) (label_at s (codes "else") id) in
    spans_at want s b vs d (length before) c ++ (spans_at want s b vs d (length yes) y ++ spans_at want s b vs d (length no) n)
node_spans want s b t vs d before id (node.While at c a) =
    let predicate = before ++ mark_lines (label_at s (codes "loop") id) in
    let body = (predicate ++ lines_at s b t vs d c) ++ test_lines (label_at s (codes "end") id) in
    spans_at want s b vs d (length predicate) c ++ spans_at want s b vs d (length body) a
node_spans want s b t vs d before id (node.Block at ids) = items_spans want s b t vs d before ids
node_spans want s b t vs d before id (node.Let at name declared o a) =
    initial_spans want s b vs d before o
    ++ spans_at want s b (bind d name (type_meant s.table declared.name) vs) (d + 1) (length ((before ++ initial_lines s b t vs d (type_meant s.table declared.name) o) ++ push_lines)) a
node_spans want s b t vs d before id (node.Case at a ws) =
    let begun = (before ++ lines_at s b t vs d a) ++ case_begin_lines (file_label s (with_file s.files (asked_at s.files b t a) at) at) at.line in
    spans_at want s b vs d (length before) a
    ++ arms_spans (begun ++ push_lines) (branches_made want s b (with_file s.files (asked_at s.files b t a) at) vs d (label_at s (codes "end") id) [] ws)
node_spans want s b t vs d before id (node.New at class) = []
node_spans want s b t vs d before id (node.IsVoid at a) = spans_at want s b vs d (length before) a
node_spans want s b t vs d before id (node.Arith at op l r) = operands_spans want s b t vs d before l r
node_spans want s b t vs d before id (node.Neg at a) = spans_at want s b vs d (length before) a
node_spans want s b t vs d before id (node.Compare at op l r) = operands_spans want s b t vs d before l r
node_spans want s b t vs d before id (node.Not at a) = spans_at want s b vs d (length before) a
node_spans want s b t vs d before id (node.Id at name) = []
node_spans want s b t vs d before id (node.Int at value) = []
node_spans want s b t vs d before id (node.Str at bytes) = []
node_spans want s b t vs d before id (node.Bool at value) = []

-- the span of a node itself
abbrev pub own_span : Context → Tree → Constants → List Named → ℕ → List Line → NodeId → Node → Shown
own_span s b t vs d before id n = whole vs d (length before) (length (before ++ node_lines s b t vs d id n)) (made (all_trees b) n)
