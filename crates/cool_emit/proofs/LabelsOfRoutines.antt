-- The labels of the run-time routines, in their order, are `routine_names`, and each of them labels a line of the routines.
use Rattle.std.proofs.Common.{◌≡◌, List, [], ◌∷◌, Contains, refl, sym, subst}
use Rattle.mips_isa.specs.Lines.{Name}
use Rattle.mips_isa.specs.Assembly.{start_name}
use Rattle.cool_classes.specs.declared.method.BasicMethod.{BasicMethod}
use Rattle.cool_classes.specs.declared.method.BasicMethod.TheVariants.{Abort, TypeName, Copy, OutString, OutInt}
use Rattle.cool_classes.specs.declared.method.BasicMethod.TheVariants.{InString, InInt, Length, Concat, Substr}
use Rattle.cool_runtime.specs.Labels.{heap_limit, stack_limit, out_string, out_int, in_int, string_length}
use Rattle.cool_runtime.specs.Labels.{copy, copy_words, copy_end, string_concat, concat_first, concat_second}
use Rattle.cool_runtime.specs.Labels.{concat_third, concat_end, in_string, in_string_bytes, in_string_end}
use Rattle.cool_runtime.specs.Labels.{string_substr, substr_bytes, substr_end, substr_abort, equality}
use Rattle.cool_runtime.specs.Labels.{equal_values, equal_strings, equal_bytes, equal_true, equal_false}
use Rattle.cool_runtime.specs.Labels.{type_name, abort, case_abort, dispatch_abort, div_abort}
use Rattle.cool_runtime.specs.RoutineLabels.{case_void, overflow_abort}
use Rattle.cool_runtime.specs.RoutineLines.{routine_lines, all_routine_lines}
use Rattle.cool_layout.specs.Labels.{basic_label}
use Rattle.cool_emit.specs.SoundLines.{labels_of}
use Rattle.cool_emit.proofs.LabelsOfParts.{Has, place_there}

-- the labels of all routines
abbrev pub routine_names : List Name
routine_names =
    start_name ∷ copy ∷ copy_words ∷ copy_end ∷ abort ∷ type_name
    ∷ out_string ∷ out_int ∷ in_string ∷ in_string_bytes ∷ in_string_end ∷ in_int
    ∷ string_length ∷ string_concat ∷ concat_first ∷ concat_second ∷ concat_third ∷ concat_end ∷ string_substr ∷ substr_bytes ∷ substr_end
    ∷ equality ∷ equal_values ∷ equal_strings ∷ equal_bytes ∷ equal_true ∷ equal_false
    ∷ dispatch_abort ∷ case_void ∷ case_abort ∷ div_abort ∷ substr_abort ∷ overflow_abort ∷ heap_limit ∷ stack_limit ∷ []

pub routines_are_named : labels_of all_routine_lines ≡ routine_names
unfolding routine_lines
routines_are_named = refl

-- a name of the list is a label of the routines
pub routine_named : (n : Name) → Contains routine_names n → Has all_routine_lines n
routine_named n h = subst (λ ns. Contains ns n) (sym routines_are_named) h

pub copy_there : Has all_routine_lines copy
copy_there = routine_named copy (place_there routine_names 1 copy refl refl)

pub copy_words_there : Has all_routine_lines copy_words
copy_words_there = routine_named copy_words (place_there routine_names 2 copy_words refl refl)

pub copy_end_there : Has all_routine_lines copy_end
copy_end_there = routine_named copy_end (place_there routine_names 3 copy_end refl refl)

pub abort_there : Has all_routine_lines abort
abort_there = routine_named abort (place_there routine_names 4 abort refl refl)

pub type_name_there : Has all_routine_lines type_name
type_name_there = routine_named type_name (place_there routine_names 5 type_name refl refl)

pub out_string_there : Has all_routine_lines out_string
out_string_there = routine_named out_string (place_there routine_names 6 out_string refl refl)

pub out_int_there : Has all_routine_lines out_int
out_int_there = routine_named out_int (place_there routine_names 7 out_int refl refl)

pub in_string_there : Has all_routine_lines in_string
in_string_there = routine_named in_string (place_there routine_names 8 in_string refl refl)

pub in_string_bytes_there : Has all_routine_lines in_string_bytes
in_string_bytes_there = routine_named in_string_bytes (place_there routine_names 9 in_string_bytes refl refl)

pub in_string_end_there : Has all_routine_lines in_string_end
in_string_end_there = routine_named in_string_end (place_there routine_names 10 in_string_end refl refl)

pub in_int_there : Has all_routine_lines in_int
in_int_there = routine_named in_int (place_there routine_names 11 in_int refl refl)

pub string_length_there : Has all_routine_lines string_length
string_length_there = routine_named string_length (place_there routine_names 12 string_length refl refl)

pub string_concat_there : Has all_routine_lines string_concat
string_concat_there = routine_named string_concat (place_there routine_names 13 string_concat refl refl)

pub concat_first_there : Has all_routine_lines concat_first
concat_first_there = routine_named concat_first (place_there routine_names 14 concat_first refl refl)

pub concat_second_there : Has all_routine_lines concat_second
concat_second_there = routine_named concat_second (place_there routine_names 15 concat_second refl refl)

pub concat_third_there : Has all_routine_lines concat_third
concat_third_there = routine_named concat_third (place_there routine_names 16 concat_third refl refl)

pub concat_end_there : Has all_routine_lines concat_end
concat_end_there = routine_named concat_end (place_there routine_names 17 concat_end refl refl)

pub string_substr_there : Has all_routine_lines string_substr
string_substr_there = routine_named string_substr (place_there routine_names 18 string_substr refl refl)

pub substr_bytes_there : Has all_routine_lines substr_bytes
substr_bytes_there = routine_named substr_bytes (place_there routine_names 19 substr_bytes refl refl)

pub substr_end_there : Has all_routine_lines substr_end
substr_end_there = routine_named substr_end (place_there routine_names 20 substr_end refl refl)

pub equality_there : Has all_routine_lines equality
equality_there = routine_named equality (place_there routine_names 21 equality refl refl)

pub equal_values_there : Has all_routine_lines equal_values
equal_values_there = routine_named equal_values (place_there routine_names 22 equal_values refl refl)

pub equal_strings_there : Has all_routine_lines equal_strings
equal_strings_there = routine_named equal_strings (place_there routine_names 23 equal_strings refl refl)

pub equal_bytes_there : Has all_routine_lines equal_bytes
equal_bytes_there = routine_named equal_bytes (place_there routine_names 24 equal_bytes refl refl)

pub equal_true_there : Has all_routine_lines equal_true
equal_true_there = routine_named equal_true (place_there routine_names 25 equal_true refl refl)

pub equal_false_there : Has all_routine_lines equal_false
equal_false_there = routine_named equal_false (place_there routine_names 26 equal_false refl refl)

pub dispatch_abort_there : Has all_routine_lines dispatch_abort
dispatch_abort_there = routine_named dispatch_abort (place_there routine_names 27 dispatch_abort refl refl)

pub case_void_there : Has all_routine_lines case_void
case_void_there = routine_named case_void (place_there routine_names 28 case_void refl refl)

pub case_abort_there : Has all_routine_lines case_abort
case_abort_there = routine_named case_abort (place_there routine_names 29 case_abort refl refl)

pub div_abort_there : Has all_routine_lines div_abort
div_abort_there = routine_named div_abort (place_there routine_names 30 div_abort refl refl)

pub substr_abort_there : Has all_routine_lines substr_abort
substr_abort_there = routine_named substr_abort (place_there routine_names 31 substr_abort refl refl)

pub overflow_abort_there : Has all_routine_lines overflow_abort
overflow_abort_there = routine_named overflow_abort (place_there routine_names 32 overflow_abort refl refl)

pub heap_limit_there : Has all_routine_lines heap_limit
heap_limit_there = routine_named heap_limit (place_there routine_names 33 heap_limit refl refl)

pub stack_limit_there : Has all_routine_lines stack_limit
stack_limit_there = routine_named stack_limit (place_there routine_names 34 stack_limit refl refl)

-- the labels of the methods of the basic classes
pub basic_there : (b : BasicMethod) → Has all_routine_lines (basic_label b)
unfolding abort type_name copy out_string out_int in_string in_int string_length string_concat string_substr
basic_there Abort = abort_there
basic_there TypeName = type_name_there
basic_there Copy = copy_there
basic_there OutString = out_string_there
basic_there OutInt = out_int_there
basic_there InString = in_string_there
basic_there InInt = in_int_there
basic_there Length = string_length_there
basic_there Concat = string_concat_there
basic_there Substr = string_substr_there
