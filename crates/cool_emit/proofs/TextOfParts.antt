-- The pieces of code without subexpressions (names, constants, new objects, operations and calls) are valid lines of text, if each name that they use is a
-- label.
use Rattle.std.proofs.Common.{ℕ, zero, suc, ◌+◌, ◌-◌, ◌*◌, ◌<◌, List, [], ◌∷◌, ◌++◌, length, Some, None, Bool, true, false, arith}
use Rattle.std.specs.Prelude.{bytes_eq, nat_eq, if◌then◌else◌, unwrap_or, Option, IfSome}
use Rattle.std.specs.List.{AllByRecursion}
use Rattle.cool_syntax.specs.declared.TheConstants.{MOST_TOKENS}
use Rattle.cool_syntax.specs.declared.place.Place.{Place}
use Rattle.cool_syntax.specs.declared.node.NodeId.{NodeId}
use Rattle.cool_syntax.specs.declared.operator.ArithOp.{ArithOp}
use Rattle.cool_syntax.specs.declared.operator.ArithOp.TheVariants as operators
use Rattle.cool_syntax.specs.declared.operator.CompareOp.{CompareOp}
use Rattle.cool_syntax.specs.declared.operator.CompareOp.TheVariants as compare
use Rattle.cool_syntax.specs.TokenFacts.{IsPlaced}
use Rattle.mips_isa.specs.Lines.{Name, Line}
use Rattle.mips_isa.specs.Words.{IsSigned}
use Rattle.cool_classes.specs.declared.class_id.ClassId.{ClassId}
use Rattle.cool_classes.specs.declared.class_id.Ty.{Ty}
use Rattle.cool_classes.specs.declared.class_id.Ty.TheVariants.{Class as IsClass, SelfType}
use Rattle.cool_classes.specs.Chains.{Class}
use Rattle.cool_rules.specs.Conformance.{IsType, class_of}
use Rattle.cool_rules.specs.Rules.{type_meant}
use Rattle.cool_runtime.specs.Labels.{stack_limit, heap_limit, int_prototype, case_abort, copy}
use Rattle.cool_runtime.specs.Labels.{dispatch_abort, div_abort, equality, false_constant, true_constant}
use Rattle.cool_runtime.specs.RoutineLabels.{case_void, class_objects, default_int, default_string, overflow_abort}
use Rattle.cool_runtime.specs.Routines.{new_int_lines}
use Rattle.cool_layout.specs.Preorder.{tag, last_tag}
use Rattle.cool_layout.specs.Members.{slot}
use Rattle.cool_layout.specs.Labels.{prototype, initializer, method_label}
use Rattle.cool_consts.specs.Constants.{Constants}
use Rattle.cool_codegen.specs.declared.variables.Variable.{Variable}
use Rattle.cool_rules.specs.Scopes.{found}
use Rattle.cool_codegen.specs.Variables.{Named, bind, register}
use Rattle.cool_rules.specs.Meant.{method_in}
use Rattle.cool_codegen.specs.Types.{is_self, class_meant}
use Rattle.cool_codegen.specs.Asked.{files_of}
use Rattle.cool_codegen.specs.Pieces.{mark_lines, turn_lines, repeat_lines, flag_lines, ends_where_lines}
use Rattle.cool_codegen.specs.Pieces.{case_end_lines, values_lines, less_lines, less_equal_lines, is_zero_lines}
use Rattle.cool_codegen.specs.Pieces.{divide_lines, take_self_lines, take_lines, take_void_lines}
use Rattle.cool_codegen.specs.Code.{Context, integer_label, string_label, file_label, load_of}
use Rattle.cool_codegen.specs.Code.{name_code, store_of, assign_code, truth_label, new_code}
use Rattle.cool_codegen.specs.Code.{default_code, bool_code, int_code, divisor_code, operation_code}
use Rattle.cool_codegen.specs.Code.{arith_code, compare_code, slot_code, static_code, minus, range_code}
use Rattle.cool_emit.specs.SoundLines.{AreText}
use Rattle.cool_emit.proofs.TextOfPieces.{AreTargets, text_of_load, text_of_store}
use Rattle.cool_emit.proofs.TextOfPieces.{text_of_take_self, text_of_take_void, text_of_take, text_of_values}
use Rattle.cool_emit.proofs.TextOfPieces.{text_of_compare_equal, text_of_less, text_of_less_equal, text_of_flag}
use Rattle.cool_emit.proofs.TextOfPieces.{text_of_add, text_of_subtract, text_of_multiply, text_of_divide}
use Rattle.cool_emit.proofs.TextOfPieces.{text_of_is_zero, text_of_ends_where, text_of_new_int, text_of_create}
use Rattle.cool_emit.proofs.TextOfPieces.{text_of_create_self, text_of_call, text_of_call_static, text_of_try_tags}
use Rattle.lists.proofs.AllItems.{all_append, all_left, all_right}

-- The names that code may use, as targets of jumps and as known names, and the bounds of its numbers: the routines and constants of the run-time system,
-- and the methods, initializers, prototypes, slots and tags of the classes of a table.
pub record Serves (target known : Name → Type 0) (p : List Class) : Type 0 where
  pub ends_stack : target stack_limit
  pub ends_heap : target heap_limit
  pub ends_dispatch : target dispatch_abort
  pub ends_void : target case_void
  pub ends_case : target case_abort
  pub ends_overflow : target overflow_abort
  pub ends_division : target div_abort
  pub copies : target copy
  pub compares : target equality
  pub truth : known true_constant
  pub falsity : known false_constant
  pub integer : known int_prototype
  pub integer_default : known default_int
  pub string_default : known default_string
  pub objects : known class_objects
  pub types : (name : List ℕ) → IsType p (type_meant p name)
  pub methods : (c : ClassId) (f : List ℕ) → c.0 < length p → target (method_label p (method_in p c f))
  pub initializers : (c : ClassId) → c.0 < length p → target (initializer p c)
  pub prototypes : (c : ClassId) → c.0 < length p → known (prototype p c)
  pub slots : (c : ClassId) (f : List ℕ) → 4 * unwrap_or (slot p c f) 0 < 32768
  pub tags : (c : ClassId) → c.0 < length p → tag p c < 32768
  pub families : (c : ClassId) → c.0 < length p → last_tag p c - tag p c + 1 < 32768

-- variables that an instruction can address
abbrev pub CanBeReached : Variable → Type 0
CanBeReached v = (register v.base < 32) × IsSigned v.offset

abbrev pub AreReached : List Named → Type 0
AreReached vs = AllByRecursion (λ v. CanBeReached v.value) vs

-- the constants of a table that have known labels
abbrev pub AreNumbers : (Name → Type 0) → Constants → List ℕ → Type 0
AreNumbers known g ns = AllByRecursion (λ n. known (integer_label g n)) ns

abbrev pub AreStrings : (Name → Type 0) → Constants → List (List ℕ) → Type 0
AreStrings known g bs = AllByRecursion (λ b. known (string_label g b)) bs

-- a variable that is found is one of those in scope
found_here : (b : Bool) (v : Variable) (o : Option Variable) → CanBeReached v → IfSome o CanBeReached
    → IfSome (if b then Some v else o) CanBeReached
found_here true v o h k = h
found_here false v o h k = k

found_reached : (vs : List Named) (name : List ℕ) → AreReached vs → IfSome (found vs name) CanBeReached
found_reached [] name h = tt
found_reached (v ∷ vs) name h = found_here (bytes_eq v.name name) v.value (found vs name) h.0 (found_reached vs name h.1)

-- a variable on the stack is reached while few words are pushed
pub bound_reached : (d : ℕ) (name : List ℕ) (type : Ty) (vs : List Named) → d < MOST_TOKENS → AreReached vs
    → AreReached (bind d name type vs)
bound_reached d name type vs low h = ((omega arith, omega arith), h)

-- a line's number is a word
pub line_low : (files : ℕ) (at : Place) → IsPlaced files at → at.line < 4294967296
line_low files at h = let l = h.1 in omega arith

-- the targets that pieces define

pub target_of_mark : (target : Name → Type 0) (name : Name) → AreTargets target (mark_lines name) → target name
unfolding mark_lines
target_of_mark target name m = m.0.0

pub target_of_turn : (target : Name → Type 0) (end other : Name) → AreTargets target (turn_lines end other) → target other
unfolding turn_lines
target_of_turn target end other m = m.1.0.0

pub target_of_repeat : (target : Name → Type 0) (begin end : Name) → AreTargets target (repeat_lines begin end) → target end
unfolding repeat_lines
target_of_repeat target begin end m = m.1.0.0

target_of_flag : (target : Name → Type 0) (end : Name) → AreTargets target (flag_lines end) → target end
unfolding flag_lines
target_of_flag target end m = m.1.1.1.1.0.0

target_of_ends_where : (target : Name → Type 0) (fits file : Name) (at : ℕ) (abort : Name)
    → AreTargets target (ends_where_lines fits file at abort) → target fits
unfolding ends_where_lines
target_of_ends_where target fits file at abort m = m.1.1.1.1.1.0.0

pub target_of_case_end : (target : Name → Type 0) (end : Name) → AreTargets target (case_end_lines end) → target end
unfolding case_end_lines
target_of_case_end target end m = m.1.0.0

module _ (target known : Name → Type 0) (s : Context) (u : Serves target known s.table) (within : s.class.0 < length s.table) where
  -- two parts: their text, and the targets of each

  pub both : (xs ys : List Line) → AreText target known xs → AreText target known ys → AreText target known (xs ++ ys)
  both xs ys h k = all_append _ xs ys h k

  pub targets_left : (xs ys : List Line) → AreTargets target (xs ++ ys) → AreTargets target xs
  targets_left xs ys m = all_left _ xs ys m

  pub targets_right : (xs ys : List Line) → AreTargets target (xs ++ ys) → AreTargets target ys
  targets_right xs ys m = all_right _ xs ys m

  -- names

  pub text_of_name : (vs : List Named) (name : List ℕ) → AreReached vs → AreText target known (name_code vs name)
  text_of_name vs name h = by (is_self name) (found vs name) (found_reached vs name h)
    where
      by : (b : Bool) (o : Option Variable) → IfSome o CanBeReached → AreText target known (if b then take_self_lines else load_of o)
      by true o r = text_of_take_self target known
      by false None r = tt
      by false (Some v) r = text_of_load target known v.offset (register v.base) r.1 r.0

  pub text_of_assign : (vs : List Named) (name : List ℕ) → AreReached vs → AreText target known (assign_code vs name)
  text_of_assign vs name h = by (is_self name) (found vs name) (found_reached vs name h)
    where
      by : (b : Bool) (o : Option Variable) → IfSome o CanBeReached → AreText target known (if b then [] else store_of o)
      by true o r = tt
      by false None r = tt
      by false (Some v) r = text_of_store target known v.offset (register v.base) r.1 r.0

  -- new objects, and what a variable holds without a value

  pub text_of_new : (name : List ℕ) → AreText target known (new_code s.table (type_meant s.table name))
  text_of_new name = by (type_meant s.table name) (u.types name)
    where
      by : (t : Ty) → IsType s.table t → AreText target known (new_code s.table t)
      by SelfType h = text_of_create_self target known u.objects u.copies
      by (IsClass c) h =
          text_of_create target known (prototype s.table c) (initializer s.table c) (u.prototypes c h) u.copies
          (u.initializers c h)

  pub text_of_default : (t : Ty) → AreText target known (default_code t)
  text_of_default SelfType = text_of_take_void target known
  text_of_default (IsClass c) = by (nat_eq c.0 2) (nat_eq c.0 3) (nat_eq c.0 4)
    where
      by : (x y z : Bool)
          → AreText target known (if x then take_lines default_int else if y then take_lines false_constant
          else if z then take_lines default_string else take_void_lines)
      by true y z = text_of_take target known default_int u.integer_default
      by false true z = text_of_take target known false_constant u.falsity
      by false false true = text_of_take target known default_string u.string_default
      by false false false = text_of_take_void target known

  pub text_of_truth : (b : Bool) → AreText target known (take_lines (truth_label b))
  text_of_truth true = text_of_take target known true_constant u.truth
  text_of_truth false = text_of_take target known false_constant u.falsity

  -- operators

  pub text_of_bool : (id : NodeId) → AreTargets target (bool_code s id) → AreText target known (bool_code s id)
  text_of_bool id m = text_of_flag target known _ (target_of_flag target _ m) u.truth u.falsity

  pub text_of_int : (g : Constants) (files : ℕ) (at : Place) (id : NodeId) → IsPlaced files at → known (file_label s g at)
      → AreTargets target (int_code s g at id) → AreText target known (int_code s g at id)
  text_of_int g files at id placed named m =
      both _ new_int_lines
      (text_of_ends_where target known _ _ at.line overflow_abort (target_of_ends_where target _ _ at.line overflow_abort
      (targets_left _ new_int_lines m)) u.ends_overflow named (line_low files at placed))
      (text_of_new_int target known u.ends_heap u.integer)

  -- the test of a divisor
  text_of_divisor : (g : Constants) (files : ℕ) (at : Place) (id : NodeId) → IsPlaced files at → known (file_label s g at)
      → AreTargets target (divisor_code s g at id) → AreText target known (divisor_code s g at id)
  text_of_divisor g files at id placed named m =
      both is_zero_lines _ (text_of_is_zero target known)
      (text_of_ends_where target known _ _ at.line div_abort (target_of_ends_where target _ _ at.line div_abort
      (targets_right is_zero_lines _ m)) u.ends_division named (line_low files at placed))

  text_of_operation : (g : Constants) (files : ℕ) (op : ArithOp) (at : Place) (id : NodeId) → IsPlaced files at → known (file_label s g at)
      → AreTargets target (operation_code s g op at id) → AreText target known (operation_code s g op at id)
  text_of_operation g files operators.Add at id placed named m = text_of_add target known
  text_of_operation g files operators.Sub at id placed named m = text_of_subtract target known
  text_of_operation g files operators.Mul at id placed named m = text_of_multiply target known
  text_of_operation g files operators.Div at id placed named m =
      both (divisor_code s g at id) divide_lines (text_of_divisor g files at id placed named
      (targets_left (divisor_code s g at id) divide_lines m)) (text_of_divide target known)

  -- an operation asks for the name of its file
  file_named : (g : Constants) (op : ArithOp) (at : Place) → AreStrings known g (files_of s.files op at) → known (file_label s g at)
  file_named g operators.Add at h = h.0
  file_named g operators.Sub at h = h.0
  file_named g operators.Mul at h = h.0
  file_named g operators.Div at h = h.0

  pub text_of_arith : (g : Constants) (files : ℕ) (op : ArithOp) (at : Place) (id : NodeId) → IsPlaced files at
      → AreStrings known g (files_of s.files op at) → AreTargets target (arith_code s g op at id)
      → AreText target known (arith_code s g op at id)
  text_of_arith g files op at id placed strings m =
      let named = file_named g op at strings in
      let rest = targets_right values_lines _ m in
      both values_lines _ (text_of_values target known)
      (both (operation_code s g op at id) _
      (text_of_operation g files op at id placed named (targets_left (operation_code s g op at id) _ rest))
      (text_of_int g files at id placed named (targets_right (operation_code s g op at id) _ rest)))

  pub text_of_compare : (op : CompareOp) (id : NodeId) → AreTargets target (compare_code s op id)
      → AreText target known (compare_code s op id)
  text_of_compare compare.Less id m =
      both values_lines _ (text_of_values target known) (both less_lines _ (text_of_less target known)
      (text_of_bool id (targets_right less_lines _ (targets_right values_lines _ m))))
  text_of_compare compare.LessEqual id m =
      both values_lines _ (text_of_values target known) (both less_equal_lines _ (text_of_less_equal target known)
      (text_of_bool id (targets_right less_equal_lines _ (targets_right values_lines _ m))))
  text_of_compare compare.Equal id m = text_of_compare_equal target known u.compares

  -- calls and branches

  pub text_of_slot : (g : Constants) (files : ℕ) (at : Place) (c : ClassId) (name : List ℕ) → IsPlaced files at → known (file_label s g at)
      → AreText target known (slot_code s g at c name)
  text_of_slot g files at c name placed named =
      text_of_call target known _ at.line _ named (line_low files at placed) u.ends_dispatch (u.slots c name)

  -- the class that a name means is one of the table
  meant_within : (name : List ℕ) → (class_meant s.table s.class name).0 < length s.table
  meant_within name = by (type_meant s.table name) (u.types name)
    where
      by : (t : Ty) → IsType s.table t → (class_of s.class t).0 < length s.table
      by SelfType h = within
      by (IsClass c) h = h

  pub text_of_static : (g : Constants) (files : ℕ) (at : Place) (class name : List ℕ) → IsPlaced files at → known (file_label s g at)
      → AreText target known (static_code s g at (class_meant s.table s.class class) name)
  text_of_static g files at class name placed named =
      text_of_call_static target known _ at.line _ named (line_low files at placed) u.ends_dispatch
      (u.methods (class_meant s.table s.class class) name (meant_within class))

  pub text_of_range : (name : List ℕ) (next : Name) → target next
      → AreText target known (range_code s (class_meant s.table s.class name) next)
  text_of_range name next there =
      let c = class_meant s.table s.class name in
      text_of_try_tags target known _ _ next (signed (tag s.table c) (u.tags c (meant_within name)))
      (u.families c (meant_within name)) there
    where
      signed : (n : ℕ) → n < 32768 → IsSigned (minus n)
      signed zero h = omega arith
      signed (suc n) h = omega arith
