-- `code` lists the lines of assembly of an expression, as a function of its tree. The code leaves the address of the value in $a0, and the stack as it was: as
-- many words after the frame as its depth says. A node is named by its number in the list of the feature's nodes, and a constant by its number in the constant
-- table.
use Rattle.std.specs.Prelude.{ℕ, zero, suc, ℤ, pos, negsuc, ◌+◌, ◌-◌, ◌*◌, List, [], ◌++◌, length, codes, get_or, if◌then◌else◌, Option, Some, None, unwrap_or, nat_eq, Bool as Truth, true, false}
use Rattle.cool_syntax.specs.declared.place.Place.{Place}
use Rattle.cool_syntax.specs.declared.node.NodeId.{NodeId}
use Rattle.cool_syntax.specs.declared.operator.ArithOp.{ArithOp}
use Rattle.cool_syntax.specs.declared.operator.ArithOp.TheVariants as arith
use Rattle.cool_syntax.specs.declared.operator.CompareOp.{CompareOp}
use Rattle.cool_syntax.specs.declared.operator.CompareOp.TheVariants as compare
use Rattle.cool_syntax.specs.Tree.{Tree, Trees, MaybeTree, Cases, Last, More, Without, With, NoCase, CaseOf, tree_size, maybe_size}
use Rattle.cool_syntax.specs.Tree as trees
use Rattle.cool_syntax.specs.NodeLists.{root}
use Rattle.mips_isa.specs.Lines.{Name, Line}
use Rattle.cool_classes.specs.declared.class_id.ClassId.{ClassId}
use Rattle.cool_classes.specs.declared.class_id.Ty.{Ty}
use Rattle.cool_classes.specs.declared.class_id.Ty.TheVariants.{Class as IsClass, SelfType}
use Rattle.cool_classes.specs.Chains.{Class}
use Rattle.cool_classes.specs.ClimbedChains.{above}
use Rattle.cool_rules.specs.Conformance.{class_of}
use Rattle.cool_rules.specs.Rules.{type_meant}
use Rattle.cool_rules.specs.StaticTypes.{type_of}
use Rattle.cool_runtime.specs.Labels.{true_constant, false_constant, div_abort}
use Rattle.cool_runtime.specs.RoutineLabels.{overflow_abort, default_int, default_string}
use Rattle.cool_runtime.specs.Routines.{push_lines, new_int_lines}
use Rattle.cool_layout.specs.Preorder.{tag, last_tag}
use Rattle.cool_layout.specs.Members.{slot}
use Rattle.cool_layout.specs.Labels.{prototype, initializer, method_label}
use Rattle.cool_consts.specs.Constants.{Constants, integer_number, string_number}
use Rattle.cool_consts.specs.Labels.{int_constant, string_constant}
use Rattle.cool_codegen.specs.declared.variables.Variable.{Variable}
use Rattle.cool_codegen.specs.Pieces.{pop_lines, load_lines, store_lines, take_self_lines, take_void_lines, take_lines, test_lines, mark_lines, turn_lines, repeat_lines, values_lines, compare_equal_lines, less_lines, less_equal_lines, is_void_lines, complement_lines, flag_lines, add_lines, subtract_lines, multiply_lines, divide_lines, negate_lines, is_zero_lines, ends_where_lines, create_lines, create_self_lines, call_lines, call_static_lines, case_begin_lines, try_tags_lines, case_end_lines}
use Rattle.cool_codegen.specs.Labels.{inner}
use Rattle.cool_rules.specs.Scopes.{found}
use Rattle.cool_codegen.specs.Variables.{Named, bind, scope_of, register}
use Rattle.cool_rules.specs.Meant.{method_in}
use Rattle.cool_codegen.specs.Types.{is_self, class_meant, trees_count}
use Rattle.cool_codegen.specs.Arms.{Arm, with_arm, arms_lines}

-- the context of an expression: its feature and class, and the names of the files
pub record Context : Type 0 where
  pub table : List Class
  pub class : ClassId
  pub feature : ℕ
  pub files : List (List ℕ)

abbrev pub label_at : Context → List ℕ → NodeId → Name
label_at s kind id = inner kind s.class.0 s.feature id.0

abbrev pub integer_label : Constants → ℕ → Name
integer_label t value = int_constant (integer_number t.integers value)

abbrev pub string_label : Constants → List ℕ → Name
string_label t bytes = string_constant (string_number t.strings bytes)

abbrev pub file_name : Context → Place → List ℕ
file_name s at = get_or s.files at.file []

-- the String with the name of the file of a place
abbrev pub file_label : Context → Constants → Place → Name
file_label s t at = string_label t (file_name s at)

-- names

abbrev pub load_of : Option Variable → List Line
load_of None = []
load_of (Some v) = load_lines v.offset (register v.base)

abbrev pub name_code : List Named → List ℕ → List Line
name_code vs name = if is_self name then take_self_lines else load_of (found vs name)

abbrev pub store_of : Option Variable → List Line
store_of None = []
store_of (Some v) = store_lines v.offset (register v.base)

abbrev pub assign_code : List Named → List ℕ → List Line
assign_code vs name = if is_self name then [] else store_of (found vs name)

-- constants and new objects

abbrev pub truth_label : Truth → Name
truth_label true = true_constant
truth_label false = false_constant

abbrev pub new_code : List Class → Ty → List Line
new_code p SelfType = create_self_lines
new_code p (IsClass c) = create_lines (prototype p c) (initializer p c)

-- the default value of a variable of a type
abbrev pub default_of_class : ℕ → List Line
default_of_class c =
    if nat_eq c 2 then take_lines default_int else if nat_eq c 3 then take_lines false_constant
    else if nat_eq c 4 then take_lines default_string else take_void_lines

abbrev pub default_code : Ty → List Line
default_code SelfType = take_void_lines
default_code (IsClass c) = default_of_class c.0

-- operators, after the code of their operands

abbrev pub bool_code : Context → NodeId → List Line
bool_code s id = flag_lines (label_at s (codes "end") id)

abbrev pub int_code : Context → Constants → Place → NodeId → List Line
int_code s t at id = ends_where_lines (label_at s (codes "fits") id) (file_label s t at) at.line overflow_abort ++ new_int_lines

abbrev pub divisor_code : Context → Constants → Place → NodeId → List Line
divisor_code s t at id = is_zero_lines ++ ends_where_lines (label_at s (codes "some") id) (file_label s t at) at.line div_abort

abbrev pub operation_code : Context → Constants → ArithOp → Place → NodeId → List Line
operation_code s t arith.Add at id = add_lines
operation_code s t arith.Sub at id = subtract_lines
operation_code s t arith.Mul at id = multiply_lines
operation_code s t arith.Div at id = divisor_code s t at id ++ divide_lines

abbrev pub arith_code : Context → Constants → ArithOp → Place → NodeId → List Line
arith_code s t op at id = values_lines ++ (operation_code s t op at id ++ int_code s t at id)

abbrev pub compare_code : Context → CompareOp → NodeId → List Line
compare_code s compare.Less id = values_lines ++ (less_lines ++ bool_code s id)
compare_code s compare.LessEqual id = values_lines ++ (less_equal_lines ++ bool_code s id)
compare_code s compare.Equal id = compare_equal_lines

-- calls, after the code of their arguments and their receivers

abbrev pub slot_code : Context → Constants → Place → ClassId → List ℕ → List Line
slot_code s t at c name = call_lines (file_label s t at) at.line (pos (4 * unwrap_or (slot s.table c name) 0))

abbrev pub static_code : Context → Constants → Place → ClassId → List ℕ → List Line
static_code s t at c name = call_static_lines (file_label s t at) at.line (method_label s.table (method_in s.table c name))

-- branches

abbrev pub minus : ℕ → ℤ
minus zero = pos 0
minus (suc n) = negsuc n

abbrev pub range_code : Context → ClassId → Name → List Line
range_code s c next = try_tags_lines (minus (tag s.table c)) (pos (last_tag s.table c - tag s.table c + 1)) next

-- The code of an expression: by a table of constants, the names in scope, the depth, and the number of nodes before it.
abbrev mutual
  pub code : Context → Constants → List Named → ℕ → ℕ → Tree → List Line
  code s g vs d k (trees.Id at name) = name_code vs name
  code s g vs d k (trees.Assign at name t) = code s g vs d k t ++ assign_code vs name
  code s g vs d k (trees.Dispatch at t name ts) =
      arguments_code s g vs d (k + tree_size t) ts
      ++ (code s g vs (d + trees_count ts) k t
      ++ slot_code s g at (class_of s.class (type_of s.table s.class (scope_of vs) t)) name)
  code s g vs d k (trees.StaticDispatch at t class name ts) =
      arguments_code s g vs d (k + tree_size t) ts
      ++ (code s g vs (d + trees_count ts) k t ++ static_code s g at (class_meant s.table s.class class.name) name)
  code s g vs d k (trees.If at t y n) =
      code s g vs d k t
      ++ (test_lines (label_at s (codes "else") (root k (trees.If at t y n)))
      ++ (code s g vs d (k + tree_size t) y
      ++ (turn_lines (label_at s (codes "end") (root k (trees.If at t y n))) (label_at s (codes "else") (root k (trees.If at t y n)))
      ++ (code s g vs d (k + tree_size t + tree_size y) n
      ++ mark_lines (label_at s (codes "end") (root k (trees.If at t y n)))))))
  code s g vs d k (trees.While at t b) =
      mark_lines (label_at s (codes "loop") (root k (trees.While at t b)))
      ++ (code s g vs d k t
      ++ (test_lines (label_at s (codes "end") (root k (trees.While at t b)))
      ++ (code s g vs d (k + tree_size t) b
      ++ repeat_lines (label_at s (codes "loop") (root k (trees.While at t b))) (label_at s (codes "end") (root k (trees.While at t b))))))
  code s g vs d k (trees.Block at ts) = items_code s g vs d k ts
  code s g vs d k (trees.Let at name declared o t) =
      initial_code s g vs d k (type_meant s.table declared.name) o
      ++ (push_lines
      ++ (code s g (bind d name (type_meant s.table declared.name) vs) (d + 1) (k + maybe_size o) t
      ++ pop_lines))
  code s g vs d k (trees.Case at t cs) =
      code s g vs d k t
      ++ (case_begin_lines (file_label s g at) at.line
      ++ (push_lines
      ++ (arms_lines (arms_code s g vs d (k + tree_size t) (label_at s (codes "end") (root k (trees.Case at t cs))) [] cs)
      ++ case_end_lines (label_at s (codes "end") (root k (trees.Case at t cs))))))
  code s g vs d k (trees.New at class) = new_code s.table (type_meant s.table class.name)
  code s g vs d k (trees.IsVoid at t) = code s g vs d k t ++ (is_void_lines ++ bool_code s (root k (trees.IsVoid at t)))
  code s g vs d k (trees.Arith at op a b) =
      code s g vs d k a
      ++ (push_lines ++ (code s g vs (d + 1) (k + tree_size a) b ++ arith_code s g op at (root k (trees.Arith at op a b))))
  code s g vs d k (trees.Neg at t) = code s g vs d k t ++ (negate_lines ++ int_code s g at (root k (trees.Neg at t)))
  code s g vs d k (trees.Compare at op a b) =
      code s g vs d k a
      ++ (push_lines ++ (code s g vs (d + 1) (k + tree_size a) b ++ compare_code s op (root k (trees.Compare at op a b))))
  code s g vs d k (trees.Not at t) = code s g vs d k t ++ (complement_lines ++ bool_code s (root k (trees.Not at t)))
  code s g vs d k (trees.Int at value) = take_lines (integer_label g value)
  code s g vs d k (trees.Str at bytes) = take_lines (string_label g bytes)
  code s g vs d k (trees.Bool at value) = take_lines (truth_label value)

  -- each argument goes to the stack
  pub arguments_code : Context → Constants → List Named → ℕ → ℕ → Trees → List Line
  arguments_code s g vs d k Last = []
  arguments_code s g vs d k (More t ts) = code s g vs d k t ++ (push_lines ++ arguments_code s g vs (d + 1) (k + tree_size t) ts)

  -- the items of a block
  pub items_code : Context → Constants → List Named → ℕ → ℕ → Trees → List Line
  items_code s g vs d k Last = []
  items_code s g vs d k (More t ts) = code s g vs d k t ++ items_code s g vs d (k + tree_size t) ts

  -- an initial value, or the default value of a variable of this type
  pub initial_code : Context → Constants → List Named → ℕ → ℕ → Ty → MaybeTree → List Line
  initial_code s g vs d k type Without = default_code type
  initial_code s g vs d k type (With t) = code s g vs d k t

  -- the branches of a case, put among those before them
  pub arms_code : Context → Constants → List Named → ℕ → ℕ → Name → List Arm → Cases → List Arm
  arms_code s g vs d k end before NoCase = before
  arms_code s g vs d k end before (CaseOf at name declared t cs) =
      arms_code s g vs d (k + tree_size t) end
      (with_arm before (record {
        depth = length (above s.table (class_meant s.table s.class declared.name));
        lines =
            range_code s (class_meant s.table s.class declared.name) (label_at s (codes "next") (root k t))
            ++ (code s g (bind d name (type_meant s.table declared.name) vs) (d + 1) k t
            ++ turn_lines end (label_at s (codes "next") (root k t)));
      })) cs
