-- The run-time routines are valid lines of text, if the labels to which they jump and the data that they use exist.
use Rattle.std.proofs.Common.{arith}
use Rattle.mips_isa.specs.Lines.{Name}
use Rattle.cool_runtime.specs.Labels.{abort_text, bool_prototype, colon_text, concat_end, concat_first}
use Rattle.cool_runtime.specs.Labels.{concat_second, concat_third, copy, copy_end, copy_words, dispatch_abort}
use Rattle.cool_runtime.specs.Labels.{div_abort, end_text, equal_bytes, equal_false, equal_strings}
use Rattle.cool_runtime.specs.Labels.{equal_true, equal_values, false_constant, heap_limit, in_string_bytes}
use Rattle.cool_runtime.specs.Labels.{in_string_end, int_prototype, main_init, main_main, main_prototype}
use Rattle.cool_runtime.specs.Labels.{name_table, newline_text, no_branch_text, stop_text, string_prototype}
use Rattle.cool_runtime.specs.Labels.{substr_abort, substr_bytes, substr_end, true_constant}
use Rattle.cool_runtime.specs.RoutineLabels.{case_void, overflow_abort, dispatch_text, case_text}
use Rattle.cool_runtime.specs.RoutineLabels.{division_text, substring_text, overflow_text}
use Rattle.cool_runtime.specs.Routines.{error_lines}
use Rattle.cool_runtime.specs.RoutineLines.{routine_lines, object_routines_lines, io_routines_lines}
use Rattle.cool_runtime.specs.RoutineLines.{value_routines_lines, error_routines_lines}
use Rattle.cool_runtime.specs.RoutineLines.{limit_routines_lines, all_routine_lines}
use Rattle.cool_runtime.specs.declared.catalogue.Routine.TheVariants as routines
use Rattle.cool_emit.specs.SoundLines.{AreText}
use Rattle.lists.proofs.AllItems.{all_append}

-- the names that routines use: the labels to which they jump, and the data whose addresses they take
pub record ServesRoutines (target known : Name → Type 0) : Type 0 where
  pub to_heap_limit : target heap_limit
  pub to_copy : target copy
  pub to_copy_words : target copy_words
  pub to_copy_end : target copy_end
  pub to_concat_first : target concat_first
  pub to_concat_second : target concat_second
  pub to_concat_third : target concat_third
  pub to_concat_end : target concat_end
  pub to_substr_abort : target substr_abort
  pub to_substr_bytes : target substr_bytes
  pub to_substr_end : target substr_end
  pub to_in_string_bytes : target in_string_bytes
  pub to_in_string_end : target in_string_end
  pub to_equal_true : target equal_true
  pub to_equal_false : target equal_false
  pub to_equal_values : target equal_values
  pub to_equal_strings : target equal_strings
  pub to_equal_bytes : target equal_bytes
  pub to_main_init : target main_init
  pub to_main_main : target main_main
  pub at_int_prototype : known int_prototype
  pub at_string_prototype : known string_prototype
  pub at_bool_prototype : known bool_prototype
  pub at_main_prototype : known main_prototype
  pub at_true_constant : known true_constant
  pub at_false_constant : known false_constant
  pub at_name_table : known name_table
  pub at_colon_text : known colon_text
  pub at_end_text : known end_text
  pub at_abort_text : known abort_text
  pub at_newline_text : known newline_text
  pub at_no_branch_text : known no_branch_text
  pub at_stop_text : known stop_text
  pub at_dispatch_text : known dispatch_text
  pub at_case_text : known case_text
  pub at_division_text : known division_text
  pub at_substring_text : known substring_text
  pub at_overflow_text : known overflow_text

module _ (target known : Name → Type 0) (r : ServesRoutines target known) where
  -- objects

  text_of_start : AreText target known (routine_lines routines.Start)
  unfolding routine_lines
  text_of_start = search (arith, r.at_main_prototype, r.to_copy, r.to_main_init, r.to_main_main, r.at_end_text) depth 80

  text_of_copy : AreText target known (routine_lines routines.Copy)
  unfolding routine_lines
  text_of_copy = search (arith, r.to_heap_limit, r.to_copy_words, r.to_copy_end) depth 80

  text_of_abort : AreText target known (routine_lines routines.Abort)
  unfolding routine_lines
  text_of_abort = search (arith, r.at_name_table, r.at_abort_text, r.at_newline_text) depth 80

  text_of_type_name : AreText target known (routine_lines routines.TypeName)
  unfolding routine_lines
  text_of_type_name = search (arith, r.at_name_table) depth 80

  -- input and output

  text_of_out_string : AreText target known (routine_lines routines.OutString)
  unfolding routine_lines
  text_of_out_string = search (arith) depth 80

  text_of_out_int : AreText target known (routine_lines routines.OutInt)
  unfolding routine_lines
  text_of_out_int = search (arith) depth 80

  text_of_in_string : AreText target known (routine_lines routines.InString)
  unfolding routine_lines
  text_of_in_string =
      search (
        arith,
        r.to_heap_limit,
        r.to_in_string_bytes,
        r.to_in_string_end,
        r.at_int_prototype,
        r.at_string_prototype,
      ) depth 120

  text_of_in_int : AreText target known (routine_lines routines.InInt)
  unfolding routine_lines
  text_of_in_int = search (arith, r.to_heap_limit, r.at_int_prototype) depth 80

  -- values

  text_of_length : AreText target known (routine_lines routines.Length)
  unfolding routine_lines
  text_of_length = search (arith) depth 80

  text_of_concat : AreText target known (routine_lines routines.Concat)
  unfolding routine_lines
  text_of_concat =
      search (
        arith,
        r.to_heap_limit,
        r.to_concat_first,
        r.to_concat_second,
        r.to_concat_third,
        r.to_concat_end,
        r.at_int_prototype,
        r.at_string_prototype,
      ) depth 150

  text_of_substr : AreText target known (routine_lines routines.Substr)
  unfolding routine_lines
  text_of_substr =
      search (
        arith,
        r.to_heap_limit,
        r.to_substr_abort,
        r.to_substr_bytes,
        r.to_substr_end,
        r.at_int_prototype,
        r.at_string_prototype,
      ) depth 150

  text_of_equal : AreText target known (routine_lines routines.Equal)
  unfolding routine_lines
  text_of_equal =
      search (
        arith,
        r.to_equal_true,
        r.to_equal_false,
        r.to_equal_values,
        r.to_equal_strings,
        r.to_equal_bytes,
        r.at_int_prototype,
        r.at_bool_prototype,
        r.at_string_prototype,
        r.at_true_constant,
        r.at_false_constant,
      ) depth 150

  -- errors and limits

  text_of_error : (name text : Name) → known text → AreText target known (error_lines name text)
  text_of_error name text there = search (arith, r.at_colon_text, there) depth 60

  text_of_dispatch_void : AreText target known (routine_lines routines.DispatchVoid)
  unfolding routine_lines
  text_of_dispatch_void = text_of_error dispatch_abort dispatch_text r.at_dispatch_text

  text_of_case_void : AreText target known (routine_lines routines.CaseVoid)
  unfolding routine_lines
  text_of_case_void = text_of_error case_void case_text r.at_case_text

  text_of_div_zero : AreText target known (routine_lines routines.DivZero)
  unfolding routine_lines
  text_of_div_zero = text_of_error div_abort division_text r.at_division_text

  text_of_substr_range : AreText target known (routine_lines routines.SubstrRange)
  unfolding routine_lines
  text_of_substr_range = text_of_error substr_abort substring_text r.at_substring_text

  text_of_overflow : AreText target known (routine_lines routines.Overflow)
  unfolding routine_lines
  text_of_overflow = text_of_error overflow_abort overflow_text r.at_overflow_text

  text_of_no_branch : AreText target known (routine_lines routines.NoBranch)
  unfolding routine_lines
  text_of_no_branch = search (arith, r.at_name_table, r.at_colon_text, r.at_no_branch_text, r.at_stop_text) depth 100

  text_of_heap_limit : AreText target known (routine_lines routines.HeapLimit)
  unfolding routine_lines
  text_of_heap_limit = search (arith) depth 80

  text_of_stack_limit : AreText target known (routine_lines routines.StackLimit)
  unfolding routine_lines
  text_of_stack_limit = search (arith) depth 80

  -- all of them

  text_of_object_routines : AreText target known object_routines_lines
  text_of_object_routines =
      all_append _ (routine_lines routines.Start) _ text_of_start
      (all_append _ (routine_lines routines.Copy) _ text_of_copy
      (all_append _ (routine_lines routines.Abort) _ text_of_abort text_of_type_name))

  text_of_io_routines : AreText target known io_routines_lines
  text_of_io_routines =
      all_append _ (routine_lines routines.OutString) _ text_of_out_string
      (all_append _ (routine_lines routines.OutInt) _ text_of_out_int
      (all_append _ (routine_lines routines.InString) _ text_of_in_string text_of_in_int))

  text_of_value_routines : AreText target known value_routines_lines
  text_of_value_routines =
      all_append _ (routine_lines routines.Length) _ text_of_length
      (all_append _ (routine_lines routines.Concat) _ text_of_concat
      (all_append _ (routine_lines routines.Substr) _ text_of_substr text_of_equal))

  text_of_error_routines : AreText target known error_routines_lines
  text_of_error_routines =
      all_append _ (routine_lines routines.DispatchVoid) _ text_of_dispatch_void
      (all_append _ (routine_lines routines.CaseVoid) _ text_of_case_void
      (all_append _ (routine_lines routines.NoBranch) _ text_of_no_branch text_of_div_zero))

  text_of_limit_routines : AreText target known limit_routines_lines
  text_of_limit_routines =
      all_append _ (routine_lines routines.SubstrRange) _ text_of_substr_range
      (all_append _ (routine_lines routines.Overflow) _ text_of_overflow
      (all_append _ (routine_lines routines.HeapLimit) _ text_of_heap_limit text_of_stack_limit))

  pub text_of_routines : AreText target known all_routine_lines
  text_of_routines =
      all_append _ object_routines_lines _ text_of_object_routines
      (all_append _ io_routines_lines _ text_of_io_routines
      (all_append _ value_routines_lines _ text_of_value_routines
      (all_append _ error_routines_lines _ text_of_error_routines text_of_limit_routines)))
