-- The pieces of code are valid lines of text: each register is one of 32, each immediate has 16 bits, and each jump and each address names a permitted label.
use Rattle.std.proofs.Common.{ℕ, ◌<◌, List, arith}
use Rattle.std.specs.Prelude.{ℤ}
use Rattle.std.specs.List.{AllByRecursion}
use Rattle.mips_isa.specs.Lines.{Name, Line}
use Rattle.mips_isa.specs.Words.{IsSigned}
use Rattle.cool_runtime.specs.Labels.{stack_limit, heap_limit, int_prototype, case_abort, copy}
use Rattle.cool_runtime.specs.Labels.{dispatch_abort, equality, false_constant, true_constant}
use Rattle.cool_runtime.specs.RoutineLabels.{case_void, class_objects}
use Rattle.cool_runtime.specs.Routines.{push_lines, new_int_lines}
use Rattle.cool_runtime.specs.CodeOfCalls.{enter_lines}
use Rattle.cool_codegen.specs.Pieces.{pop_lines, load_lines, store_lines, take_self_lines, take_void_lines}
use Rattle.cool_codegen.specs.Pieces.{take_lines, test_lines, mark_lines, turn_lines, repeat_lines}
use Rattle.cool_codegen.specs.Pieces.{values_lines, compare_equal_lines, less_lines, less_equal_lines}
use Rattle.cool_codegen.specs.Pieces.{is_void_lines, complement_lines, flag_lines, add_lines, subtract_lines}
use Rattle.cool_codegen.specs.Pieces.{multiply_lines, divide_lines, negate_lines, is_zero_lines}
use Rattle.cool_codegen.specs.Pieces.{ends_where_lines, create_lines, create_self_lines, call_lines}
use Rattle.cool_codegen.specs.Pieces.{call_static_lines, case_begin_lines, try_tags_lines, case_end_lines}
use Rattle.cool_codegen.specs.Pieces.{leave_lines, begin_init_lines, call_init_lines, return_basic_lines}
use Rattle.cool_emit.specs.SoundLines.{AreText}

-- the labels of lines are targets
abbrev pub AreTargets : (Name → Type 0) → List Line → Type 0
AreTargets target = AllByRecursion (λ line. AllByRecursion target line.labels)

-- values and names

pub text_of_pop : (target known : Name → Type 0) → AreText target known pop_lines
unfolding pop_lines
text_of_pop target known = search (arith) depth 30

pub text_of_load : (target known : Name → Type 0) (offset : ℤ) (base : ℕ) → IsSigned offset → base < 32
    → AreText target known (load_lines offset base)
unfolding load_lines
text_of_load target known offset base signed low = search (arith, signed, low) depth 30

pub text_of_store : (target known : Name → Type 0) (offset : ℤ) (base : ℕ) → IsSigned offset → base < 32
    → AreText target known (store_lines offset base)
unfolding store_lines
text_of_store target known offset base signed low = search (arith, signed, low) depth 30

pub text_of_take_self : (target known : Name → Type 0) → AreText target known take_self_lines
unfolding take_self_lines
text_of_take_self target known = search (arith) depth 30

pub text_of_take_void : (target known : Name → Type 0) → AreText target known take_void_lines
unfolding take_void_lines
text_of_take_void target known = search (arith) depth 30

pub text_of_take : (target known : Name → Type 0) (name : Name) → known name → AreText target known (take_lines name)
unfolding take_lines
text_of_take target known name there = search (arith, there) depth 30

-- tests, marks and loops

pub text_of_test : (target known : Name → Type 0) (other : Name) → target other → AreText target known (test_lines other)
unfolding test_lines
text_of_test target known other there = search (arith, there) depth 30

pub text_of_mark : (target known : Name → Type 0) (name : Name) → AreText target known (mark_lines name)
unfolding mark_lines
text_of_mark target known name = search (arith) depth 30

pub text_of_turn : (target known : Name → Type 0) (end : Name) (other : Name) → target end → AreText target known (turn_lines end other)
unfolding turn_lines
text_of_turn target known end other there = search (arith, there) depth 30

pub text_of_repeat : (target known : Name → Type 0) (begin : Name) (end : Name) → target begin
    → AreText target known (repeat_lines begin end)
unfolding repeat_lines
text_of_repeat target known begin end there = search (arith, there) depth 30

-- operations

pub text_of_values : (target known : Name → Type 0) → AreText target known values_lines
unfolding values_lines
text_of_values target known = search (arith) depth 30

pub text_of_compare_equal : (target known : Name → Type 0) → target equality → AreText target known compare_equal_lines
unfolding compare_equal_lines
text_of_compare_equal target known there = search (arith, there) depth 30

pub text_of_less : (target known : Name → Type 0) → AreText target known less_lines
unfolding less_lines
text_of_less target known = search (arith) depth 30

pub text_of_less_equal : (target known : Name → Type 0) → AreText target known less_equal_lines
unfolding less_equal_lines
text_of_less_equal target known = search (arith) depth 30

pub text_of_is_void : (target known : Name → Type 0) → AreText target known is_void_lines
unfolding is_void_lines
text_of_is_void target known = search (arith) depth 30

pub text_of_complement : (target known : Name → Type 0) → AreText target known complement_lines
unfolding complement_lines
text_of_complement target known = search (arith) depth 30

pub text_of_flag : (target known : Name → Type 0) (end : Name) → target end → known true_constant → known false_constant
    → AreText target known (flag_lines end)
unfolding flag_lines
text_of_flag target known end there truth falsity = search (arith, there, truth, falsity) depth 30

pub text_of_add : (target known : Name → Type 0) → AreText target known add_lines
unfolding add_lines
text_of_add target known = search (arith) depth 30

pub text_of_subtract : (target known : Name → Type 0) → AreText target known subtract_lines
unfolding subtract_lines
text_of_subtract target known = search (arith) depth 30

pub text_of_multiply : (target known : Name → Type 0) → AreText target known multiply_lines
unfolding multiply_lines
text_of_multiply target known = search (arith) depth 30

pub text_of_divide : (target known : Name → Type 0) → AreText target known divide_lines
unfolding divide_lines
text_of_divide target known = search (arith) depth 30

pub text_of_negate : (target known : Name → Type 0) → AreText target known negate_lines
unfolding negate_lines
text_of_negate target known = search (arith) depth 30

pub text_of_is_zero : (target known : Name → Type 0) → AreText target known is_zero_lines
unfolding is_zero_lines
text_of_is_zero target known = search (arith) depth 30

pub text_of_ends_where : (target known : Name → Type 0) (fits : Name) (file : Name) (at : ℕ) (abort : Name) → target fits → target abort
    → known file → at < 4294967296 → AreText target known (ends_where_lines fits file at abort)
unfolding ends_where_lines
text_of_ends_where target known fits file at abort there ends named low = search (arith, there, ends, named, low) depth 30

-- objects and calls

pub text_of_push : (target known : Name → Type 0) → target stack_limit → AreText target known push_lines
text_of_push target known limit = search (arith, limit) depth 30

pub text_of_new_int : (target known : Name → Type 0) → target heap_limit → known int_prototype → AreText target known new_int_lines
text_of_new_int target known limit there = search (arith, limit, there) depth 40

pub text_of_create : (target known : Name → Type 0) (prototype : Name) (initializer : Name) → known prototype
    → target copy → target initializer
    → AreText target known (create_lines prototype initializer)
unfolding create_lines
text_of_create target known prototype initializer there copies fills = search (arith, there, copies, fills) depth 30

pub text_of_create_self : (target known : Name → Type 0) → known class_objects → target copy → AreText target known create_self_lines
unfolding create_self_lines
text_of_create_self target known there copies = search (arith, there, copies) depth 30

pub text_of_call : (target known : Name → Type 0) (file : Name) (at : ℕ) (offset : ℤ) → known file → at < 4294967296 → target dispatch_abort
    → IsSigned offset → AreText target known (call_lines file at offset)
unfolding call_lines
text_of_call target known file at offset named low ends signed = search (arith, named, low, ends, signed) depth 30

pub text_of_call_static : (target known : Name → Type 0) (file : Name) (at : ℕ) (method : Name) → known file → at < 4294967296
    → target dispatch_abort → target method → AreText target known (call_static_lines file at method)
unfolding call_static_lines
text_of_call_static target known file at method named low ends there = search (arith, named, low, ends, there) depth 30

-- branches

pub text_of_case_begin : (target known : Name → Type 0) (file : Name) (at : ℕ) → known file → at < 4294967296 → target case_void
    → AreText target known (case_begin_lines file at)
unfolding case_begin_lines
text_of_case_begin target known file at named low ends = search (arith, named, low, ends) depth 30

pub text_of_try_tags : (target known : Name → Type 0) (low : ℤ) (count : ℤ) (next : Name) → IsSigned low → IsSigned count → target next
    → AreText target known (try_tags_lines low count next)
unfolding try_tags_lines
text_of_try_tags target known low count next signed_low signed_count there = search (arith, signed_low, signed_count, there) depth 30

pub text_of_case_end : (target known : Name → Type 0) (end : Name) → target case_abort → AreText target known (case_end_lines end)
unfolding case_end_lines
text_of_case_end target known end ends = search (arith, ends) depth 30

-- methods and initializers

pub text_of_enter : (target known : Name → Type 0) → target stack_limit → AreText target known enter_lines
text_of_enter target known limit = search (arith, limit) depth 30

pub text_of_leave : (target known : Name → Type 0) (taken : ℤ) → IsSigned taken → AreText target known (leave_lines taken)
unfolding leave_lines
text_of_leave target known taken signed = search (arith, signed) depth 30

pub text_of_begin_init : (target known : Name → Type 0) (name : Name) → AreText target known (begin_init_lines name)
unfolding begin_init_lines
text_of_begin_init target known name = search (arith) depth 30

pub text_of_call_init : (target known : Name → Type 0) (parent : Name) → target parent → AreText target known (call_init_lines parent)
unfolding call_init_lines
text_of_call_init target known parent there = search (arith, there) depth 30

pub text_of_return_basic : (target known : Name → Type 0) (name : Name) → AreText target known (return_basic_lines name)
unfolding return_basic_lines
text_of_return_basic target known name = search (arith) depth 30
