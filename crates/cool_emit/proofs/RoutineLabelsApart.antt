-- The labels of the run-time routines are all different, and differ from all later labels of the program.
use Rattle.std.proofs.Common.{◌≡◌, ◌≤◌, List, true, refl}
use Rattle.std.specs.List.{list_all}
use Rattle.mips_isa.specs.Lines.{Name}
use Rattle.cool_runtime.specs.Labels.{heap_limit, stack_limit, out_string, out_int, in_int, string_length}
use Rattle.cool_runtime.specs.Labels.{copy, copy_words, copy_end, string_concat, concat_first, concat_second}
use Rattle.cool_runtime.specs.Labels.{concat_third, concat_end, in_string, in_string_bytes, in_string_end}
use Rattle.cool_runtime.specs.Labels.{string_substr, substr_bytes, substr_end, substr_abort, equality}
use Rattle.cool_runtime.specs.Labels.{equal_values, equal_strings, equal_bytes, equal_true, equal_false}
use Rattle.cool_runtime.specs.Labels.{type_name, abort, case_abort, dispatch_abort, div_abort}
use Rattle.cool_runtime.specs.RoutineLabels.{case_void, overflow_abort}
use Rattle.cool_runtime.specs.RoutineLines.{routine_lines, all_routine_lines}
use Rattle.cool_layout.proofs.Counting.{one}
use Rattle.cool_emit.specs.SoundLines.{labels_of}
use Rattle.cool_emit.proofs.CountedNames.{between, all_apart, listed}
use Rattle.cool_emit.proofs.NamesApart.{sort}
use Rattle.cool_emit.proofs.LabelsOfCode.{marks}

-- the labels of the routines, and all that they compute with
routine_labels : List Name
unfolding routine_lines heap_limit stack_limit out_string out_int in_int string_length copy copy_words copy_end
    string_concat concat_first concat_second concat_third concat_end in_string in_string_bytes in_string_end
    string_substr substr_bytes substr_end substr_abort equality equal_values equal_strings equal_bytes equal_true
    equal_false type_name abort case_abort dispatch_abort div_abort case_void overflow_abort
routine_labels = labels_of all_routine_lines

-- no label of a routine stands twice
routines_apart : all_apart routine_labels ≡ true
unfolding routine_labels
routines_apart = refl

-- each is of the first sort
routines_sorted : list_all (λ x. between 0 1 (sort x)) routine_labels ≡ true
unfolding routine_labels
routines_sorted = refl

-- so a name counts once at most among them
pub routines_once : (x : Name) → marks x all_routine_lines ≤ one (between 0 1 (sort x))
unfolding routine_labels
routines_once x = listed (λ y. between 0 1 (sort y)) x (labels_of all_routine_lines) routines_apart routines_sorted
