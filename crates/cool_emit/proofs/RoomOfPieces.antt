-- The space of pieces of code is bounded: one word for each instruction, two for loading an address or a number, and one for a label.
use Rattle.std.proofs.Common.{◌≡◌, ℕ, ℤ, ◌+◌, ◌≤◌, List, [], ◌∷◌, ◌++◌, Option}
use Rattle.std.proofs.Common.{Some, None, Bool as Truth, true, false, refl, arith}
use Rattle.std.specs.Prelude.{if◌then◌else◌, nat_eq, nat_lt, codes}
use Rattle.cool_syntax.specs.declared.place.Place.{Place}
use Rattle.cool_syntax.specs.declared.node.NodeId.{NodeId}
use Rattle.cool_syntax.specs.declared.operator.ArithOp.{ArithOp}
use Rattle.cool_syntax.specs.declared.operator.ArithOp.TheVariants as arith_op
use Rattle.cool_syntax.specs.declared.operator.CompareOp.{CompareOp}
use Rattle.cool_syntax.specs.declared.operator.CompareOp.TheVariants as compare
use Rattle.mips_isa.specs.Lines.{Name, Line}
use Rattle.cool_classes.specs.declared.class_id.Ty.{Ty}
use Rattle.cool_classes.specs.declared.class_id.Ty.TheVariants.{Class as IsClass, SelfType}
use Rattle.cool_classes.specs.Chains.{Class}
use Rattle.cool_runtime.specs.Labels.{false_constant, div_abort}
use Rattle.cool_runtime.specs.RoutineLabels.{overflow_abort, default_int, default_string}
use Rattle.cool_runtime.specs.Routines.{new_int_lines}
use Rattle.cool_layout.specs.Labels.{prototype, initializer}
use Rattle.cool_consts.specs.Constants.{Constants}
use Rattle.cool_codegen.specs.declared.variables.Variable.{Variable}
use Rattle.cool_codegen.specs.Pieces.{pop_lines, load_lines, store_lines, take_self_lines, take_void_lines}
use Rattle.cool_codegen.specs.Pieces.{take_lines, test_lines, mark_lines, turn_lines, repeat_lines}
use Rattle.cool_codegen.specs.Pieces.{values_lines, compare_equal_lines, less_lines, less_equal_lines}
use Rattle.cool_codegen.specs.Pieces.{is_void_lines, complement_lines, flag_lines, add_lines, subtract_lines}
use Rattle.cool_codegen.specs.Pieces.{multiply_lines, divide_lines, negate_lines, is_zero_lines}
use Rattle.cool_codegen.specs.Pieces.{ends_where_lines, create_lines, create_self_lines, call_lines}
use Rattle.cool_codegen.specs.Pieces.{call_static_lines, case_begin_lines, try_tags_lines, case_end_lines}
use Rattle.cool_codegen.specs.Pieces.{leave_lines, begin_init_lines, call_init_lines, return_basic_lines}
use Rattle.cool_rules.specs.Scopes.{found}
use Rattle.cool_codegen.specs.Variables.{Named, register}
use Rattle.cool_codegen.specs.Types.{is_self}
use Rattle.cool_codegen.specs.Arms.{Arm, with_arm, arms_lines}
use Rattle.cool_codegen.specs.Code.{Context, label_at, file_label, divisor_code, load_of}
use Rattle.cool_codegen.specs.Code.{name_code, store_of, assign_code, new_code, default_code}
use Rattle.cool_codegen.specs.Code.{bool_code, int_code, operation_code, arith_code, compare_code}
use Rattle.cool_emit.specs.SoundLines.{text_room}

-- the room of lines, one after the other, and of lines that are joined
pub text_room-append : (xs ys : List Line) → text_room (xs ++ ys) ≡ text_room xs + text_room ys
text_room-append [] ys = omega arith
text_room-append (x ∷ xs) ys = omega (arith, text_room-append xs ys)

-- pieces

pub room_pop : text_room pop_lines ≡ 1
unfolding pop_lines
room_pop = refl

pub room_load : (offset : ℤ) (base : ℕ) → text_room (load_lines offset base) ≡ 1
unfolding load_lines
room_load offset base = refl

pub room_store : (offset : ℤ) (base : ℕ) → text_room (store_lines offset base) ≡ 1
unfolding store_lines
room_store offset base = refl

pub room_take_self : text_room take_self_lines ≡ 1
unfolding take_self_lines
room_take_self = refl

pub room_take_void : text_room take_void_lines ≡ 1
unfolding take_void_lines
room_take_void = refl

pub room_take : (name : Name) → text_room (take_lines name) ≡ 2
unfolding take_lines
room_take name = refl

pub room_test : (other : Name) → text_room (test_lines other) ≡ 3
unfolding test_lines
room_test other = refl

pub room_mark : (name : Name) → text_room (mark_lines name) ≡ 1
unfolding mark_lines
room_mark name = refl

pub room_turn : (end other : Name) → text_room (turn_lines end other) ≡ 2
unfolding turn_lines
room_turn end other = refl

pub room_repeat : (begin end : Name) → text_room (repeat_lines begin end) ≡ 3
unfolding repeat_lines
room_repeat begin end = refl

room_values : text_room values_lines ≡ 4
unfolding values_lines
room_values = refl

room_compare_equal : text_room compare_equal_lines ≡ 4
unfolding compare_equal_lines
room_compare_equal = refl

room_less : text_room less_lines ≡ 1
unfolding less_lines
room_less = refl

room_less_equal : text_room less_equal_lines ≡ 2
unfolding less_equal_lines
room_less_equal = refl

pub room_is_void : text_room is_void_lines ≡ 1
unfolding is_void_lines
room_is_void = refl

pub room_complement : text_room complement_lines ≡ 2
unfolding complement_lines
room_complement = refl

room_flag : (end : Name) → text_room (flag_lines end) ≡ 7
unfolding flag_lines
room_flag end = refl

room_add : text_room add_lines ≡ 4
unfolding add_lines
room_add = refl

room_subtract : text_room subtract_lines ≡ 4
unfolding subtract_lines
room_subtract = refl

room_multiply : text_room multiply_lines ≡ 5
unfolding multiply_lines
room_multiply = refl

room_divide : text_room divide_lines ≡ 8
unfolding divide_lines
room_divide = refl

pub room_negate : text_room negate_lines ≡ 5
unfolding negate_lines
room_negate = refl

room_is_zero : text_room is_zero_lines ≡ 1
unfolding is_zero_lines
room_is_zero = refl

room_ends_where : (fits file : Name) (at : ℕ) (abort : Name) → text_room (ends_where_lines fits file at abort) ≡ 8
unfolding ends_where_lines
room_ends_where fits file at abort = refl

room_create : (prototype initializer : Name) → text_room (create_lines prototype initializer) ≡ 4
unfolding create_lines
room_create prototype initializer = refl

room_create_self : text_room create_self_lines ≡ 14
unfolding create_self_lines
room_create_self = refl

pub room_call : (file : Name) (at : ℕ) (offset : ℤ) → text_room (call_lines file at offset) ≡ 9
unfolding call_lines
room_call file at offset = refl

pub room_call_static : (file : Name) (at : ℕ) (method : Name) → text_room (call_static_lines file at method) ≡ 7
unfolding call_static_lines
room_call_static file at method = refl

pub room_case_begin : (file : Name) (at : ℕ) → text_room (case_begin_lines file at) ≡ 7
unfolding case_begin_lines
room_case_begin file at = refl

pub room_try_tags : (low count : ℤ) (next : Name) → text_room (try_tags_lines low count next) ≡ 4
unfolding try_tags_lines
room_try_tags low count next = refl

pub room_case_end : (end : Name) → text_room (case_end_lines end) ≡ 3
unfolding case_end_lines
room_case_end end = refl

pub room_leave : (taken : ℤ) → text_room (leave_lines taken) ≡ 5
unfolding leave_lines
room_leave taken = refl

pub room_begin_init : (name : Name) → text_room (begin_init_lines name) ≡ 1
unfolding begin_init_lines
room_begin_init name = refl

pub room_call_init : (parent : Name) → text_room (call_init_lines parent) ≡ 1
unfolding call_init_lines
room_call_init parent = refl

pub room_return_basic : (name : Name) → text_room (return_basic_lines name) ≡ 2
unfolding return_basic_lines
room_return_basic name = refl

-- pieces that depend on the kind of a name, of a type or of an operator

pub room_name : (vs : List Named) (name : List ℕ) → text_room (name_code vs name) ≤ 1
room_name vs name = by (is_self name)
  where
    loaded : (o : Option Variable) → text_room (load_of o) ≤ 1
    loaded None = omega arith
    loaded (Some v) = omega (arith, room_load v.offset (register v.base))

    by : (b : Truth) → text_room (if b then take_self_lines else load_of (found vs name)) ≤ 1
    by true = omega (arith, room_take_self)
    by false = loaded (found vs name)

pub room_assign : (vs : List Named) (name : List ℕ) → text_room (assign_code vs name) ≤ 1
room_assign vs name = by (is_self name)
  where
    stored : (o : Option Variable) → text_room (store_of o) ≤ 1
    stored None = omega arith
    stored (Some v) = omega (arith, room_store v.offset (register v.base))

    by : (b : Truth) → text_room (if b then [] else store_of (found vs name)) ≤ 1
    by true = omega arith
    by false = stored (found vs name)

pub room_new : (p : List Class) (t : Ty) → text_room (new_code p t) ≤ 14
room_new p SelfType = omega (arith, room_create_self)
room_new p (IsClass c) = omega (arith, room_create (prototype p c) (initializer p c))

pub room_default : (t : Ty) → text_room (default_code t) ≤ 2
room_default SelfType = omega (arith, room_take_void)
room_default (IsClass c) = one (nat_eq c.0 2) (nat_eq c.0 3) (nat_eq c.0 4)
  where
    one : (a b d : Truth)
        → text_room (if a then take_lines default_int else if b then take_lines false_constant
        else if d then take_lines default_string else take_void_lines)
        ≤ 2
    one true b d = omega (arith, room_take default_int)
    one false true d = omega (arith, room_take false_constant)
    one false false true = omega (arith, room_take default_string)
    one false false false = omega (arith, room_take_void)

pub room_bool : (s : Context) (id : NodeId) → text_room (bool_code s id) ≡ 7
room_bool s id = room_flag (label_at s (codes "end") id)

pub room_int : (s : Context) (t : Constants) (at : Place) (id : NodeId) → text_room (int_code s t at id) ≡ 25
room_int s t at id =
    omega (
      arith,
      text_room-append (ends_where_lines (label_at s (codes "fits") id) (file_label s t at) at.line overflow_abort) new_int_lines,
      room_ends_where (label_at s (codes "fits") id) (file_label s t at) at.line overflow_abort,
    )

room_operation : (s : Context) (t : Constants) (op : ArithOp) (at : Place) (id : NodeId) → text_room (operation_code s t op at id) ≤ 17
room_operation s t arith_op.Add at id = omega (arith, room_add)
room_operation s t arith_op.Sub at id = omega (arith, room_subtract)
room_operation s t arith_op.Mul at id = omega (arith, room_multiply)
room_operation s t arith_op.Div at id =
    omega (
      arith,
      text_room-append (divisor_code s t at id) divide_lines,
      text_room-append is_zero_lines (ends_where_lines (label_at s (codes "some") id) (file_label s t at) at.line div_abort),
      room_is_zero,
      room_ends_where (label_at s (codes "some") id) (file_label s t at) at.line div_abort,
      room_divide,
    )

pub room_arith : (s : Context) (t : Constants) (op : ArithOp) (at : Place) (id : NodeId) → text_room (arith_code s t op at id) ≤ 46
room_arith s t op at id =
    omega (
      arith,
      text_room-append values_lines (operation_code s t op at id ++ int_code s t at id),
      text_room-append (operation_code s t op at id) (int_code s t at id),
      room_values,
      room_operation s t op at id,
      room_int s t at id,
    )

pub room_compare : (s : Context) (op : CompareOp) (id : NodeId) → text_room (compare_code s op id) ≤ 13
room_compare s compare.Less id =
    omega (
      arith,
      text_room-append values_lines (less_lines ++ bool_code s id),
      text_room-append less_lines (bool_code s id),
      room_values,
      room_less,
      room_bool s id,
    )
room_compare s compare.LessEqual id =
    omega (
      arith,
      text_room-append values_lines (less_equal_lines ++ bool_code s id),
      text_room-append less_equal_lines (bool_code s id),
      room_values,
      room_less_equal,
      room_bool s id,
    )
room_compare s compare.Equal id = omega (arith, room_compare_equal)

-- branches, in whatever order they are put
pub room_with_arm : (before : List Arm) (a : Arm)
    → text_room (arms_lines (with_arm before a)) ≡ text_room (arms_lines before) + text_room a.lines
room_with_arm [] a = omega (arith, text_room-append a.lines [])
room_with_arm (b ∷ bs) a = by (nat_lt b.depth a.depth) (room_with_arm bs a)
  where
    by : (c : Truth) → text_room (arms_lines (with_arm bs a)) ≡ text_room (arms_lines bs) + text_room a.lines
        → text_room (arms_lines (if c then a ∷ b ∷ bs else b ∷ with_arm bs a)) ≡ text_room (arms_lines (b ∷ bs)) + text_room a.lines
    by true more = omega (arith, text_room-append a.lines (arms_lines (b ∷ bs)))
    by false more = omega (arith, text_room-append b.lines (arms_lines (with_arm bs a)), text_room-append b.lines (arms_lines bs))
