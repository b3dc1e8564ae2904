-- The text of a program consists of valid lines: each jump goes to a label of the text, and each address is that of a label of the program.
use Rattle.std.proofs.Common.{◌≡◌, ℕ, List, [], ◌∷◌, ◌++◌}
use Rattle.std.proofs.Common.{length, flat_map, Bool, true, false, refl, arith, Contains}
use Rattle.std.specs.Prelude.{nat_eq, bytes_eq, if◌then◌else◌}
use Rattle.std.specs.List.{AllByRecursion, list_any}
use Rattle.std.proofs.lemmas.Map.Views.{Contains-from_any}
use Rattle.std.proofs.lemmas.Slice.Eq.{bytes_eq-Decides}
use Rattle.mips_isa.specs.Lines.{Name, Line}
use Rattle.cool_classes.specs.Chains.{Class}
use Rattle.cool_runtime.specs.Labels.{case_abort, concat_end, concat_first, concat_second, concat_third, copy}
use Rattle.cool_runtime.specs.Labels.{copy_end, copy_words, dispatch_abort, div_abort, equal_bytes, equal_false}
use Rattle.cool_runtime.specs.Labels.{equal_strings, equal_true, equal_values, equality, heap_limit, in_string_bytes}
use Rattle.cool_runtime.specs.Labels.{in_string_end, stack_limit, substr_abort, substr_bytes, substr_end}
use Rattle.cool_runtime.specs.RoutineLabels.{case_void, overflow_abort}
use Rattle.cool_runtime.specs.RoutineLines.{all_routine_lines}
use Rattle.cool_layout.specs.Preorder.{numbers_from}
use Rattle.cool_layout.proofs.BasicNames.{five}
use Rattle.cool_consts.specs.Constants.{with_integer, with_string}
use Rattle.cool_codegen.specs.Asked.{with_integers, with_strings}
use Rattle.cool_codegen.specs.Code.{integer_label, string_label}
use Rattle.cool_codegen.specs.Features.{feature_integers, feature_strings}
use Rattle.cool_rules.specs.Meant.{method_in}
use Rattle.cool_codegen.proofs.AttributesOfClasses.{all_there}
use Rattle.cool_emit.specs.SoundLines.{AreText, labels_of}
use Rattle.cool_emit.specs.Programs.{Placed, all_features, classes_code, program_constants, program_text, program_lines, IsBuildable}
use Rattle.cool_emit.proofs.LabelsOfRoutines as routines
use Rattle.cool_emit.proofs.RootedTables.{rooted}
use Rattle.cool_emit.proofs.LabelsThere.{routine_there, initializer_there, method_there}
use Rattle.cool_emit.proofs.LabelsThere.{name_table_there, class_objects_there, default_int_there}
use Rattle.cool_emit.proofs.LabelsThere.{default_string_there, prototype_there}
use Rattle.cool_emit.proofs.ConstantsThere.{true_constant_there, false_constant_there, integer_there, string_there}
use Rattle.cool_emit.proofs.FixedNamesThere.{abort_text_there, bool_prototype_there, case_text_there}
use Rattle.cool_emit.proofs.FixedNamesThere.{colon_text_there, dispatch_text_there, division_text_there}
use Rattle.cool_emit.proofs.FixedNamesThere.{end_text_there, int_prototype_there, main_init_there}
use Rattle.cool_emit.proofs.FixedNamesThere.{main_main_there, main_prototype_there, newline_text_there}
use Rattle.cool_emit.proofs.FixedNamesThere.{no_branch_text_there, overflow_text_there, stop_text_there}
use Rattle.cool_emit.proofs.FixedNamesThere.{string_prototype_there, substring_text_there}
use Rattle.cool_emit.proofs.SlotsInLimits.{few_attributes}
use Rattle.cool_emit.proofs.NamesMeant.{type_there, method_in_there}
use Rattle.cool_emit.proofs.LowNumbers.{slot_low, tag_low, family_low}
use Rattle.cool_emit.proofs.TextOfPieces.{AreTargets}
use Rattle.cool_emit.proofs.TextOfParts.{Serves, AreNumbers, AreStrings}
use Rattle.cool_emit.proofs.TextOfFeatures.{AsksKnown, text_of_classes}
use Rattle.cool_emit.proofs.TextOfRoutines.{ServesRoutines, text_of_routines}
use Rattle.lists.proofs.AllItems.{all_append, all_left, all_right, all_then}
use Rattle.cool_emit.proofs.ConstantsInRange.{numbers_low}
use Rattle.std.proofs.lemmas.List.Elements.{Contains-append_left, Contains-push}
use Rattle.std.proofs.lemmas.Bool.{eqb-true}

-- all of lists that are joined, looked at one list after the other
each_list : {X Y : Type 0} (P : Y → Type 0) (f : X → List Y) (xs : List X) → AllByRecursion P (flat_map f xs)
    → AllByRecursion (λ x. AllByRecursion P (f x)) xs
each_list P f [] h = tt
each_list P f (x ∷ xs) h = (all_left P (f x) (flat_map f xs) h, each_list P f xs (all_right P (f x) (flat_map f xs) h))

-- two properties of each item, together
all_pairs : {X : Type 0} (P Q : X → Type 0) (xs : List X) → AllByRecursion P xs → AllByRecursion Q xs → AllByRecursion (λ x. P x × Q x) xs
all_pairs P Q [] h k = tt
all_pairs P Q (x ∷ xs) h k = ((h.0, k.0), all_pairs P Q xs h.1 k.1)

-- each label of lines is one of them
labels_are_targets : (lines : List Line) → AreTargets (Contains (labels_of lines)) lines
labels_are_targets lines =
    each_list (Contains (labels_of lines)) (λ line. line.labels) lines (all_there (labels_of lines) (labels_of lines) (λ x h. h))

-- A constant that was asked for is in the table, whatever is asked for later.

stays : {X : Type 0} (b : Bool) (xs : List X) (y x : X) → Contains xs x → Contains (if b then xs else xs ++ y ∷ []) x
stays true xs y x h = h
stays false xs y x h = Contains-append_left xs (y ∷ []) x h

added : {X : Type 0} (same : X → X → Bool) → ((x y : X) → same x y ≡ true → x ≡ y) → (xs : List X) (x : X)
    → Contains (if list_any (same x) xs then xs else xs ++ x ∷ []) x
added same decides xs x = by (list_any (same x) xs) refl
  where
    by : (b : Bool) → list_any (same x) xs ≡ b → Contains (if b then xs else xs ++ x ∷ []) x
    by true e = Contains-from_any decides x xs e
    by false e = Contains-push xs x

pub integer_stays : (xs ns : List ℕ) (n : ℕ) → Contains xs n → Contains (with_integers xs ns) n
integer_stays xs [] n h = h
integer_stays xs (m ∷ ns) n h = integer_stays (with_integer xs m) ns n (stays (list_any (nat_eq m) xs) xs m n h)

pub string_stays : (xs bs : List (List ℕ)) (b : List ℕ) → Contains xs b → Contains (with_strings xs bs) b
string_stays xs [] b h = h
string_stays xs (c ∷ bs) b h = string_stays (with_string xs c) bs b (stays (list_any (bytes_eq c) xs) xs c b h)

integers_there : (xs ns : List ℕ) → AllByRecursion (Contains (with_integers xs ns)) ns
integers_there xs [] = tt
integers_there xs (n ∷ ns) =
    (integer_stays (with_integer xs n) ns n (added nat_eq eqb-true xs n), integers_there (with_integer xs n) ns)

strings_there : (xs bs : List (List ℕ)) → AllByRecursion (Contains (with_strings xs bs)) bs
strings_there xs [] = tt
strings_there xs (b ∷ bs) =
    (string_stays (with_string xs b) bs b (added bytes_eq (λ x y e. (bytes_eq-Decides x y).0 e) xs b), strings_there (with_string xs b) bs)

module _ (p : List Class) (files : List (List ℕ)) (b : IsBuildable p files) where
  -- the labels of the text, and those of the program

  abbrev target : Name → Type 0
  target = Contains (labels_of (program_text p files))

  abbrev known : Name → Type 0
  known = Contains (labels_of (program_lines p files))

  -- the features ask for constants of the program
  all_known : AllByRecursion (λ x. AsksKnown known files (program_constants p files) x.feature) (all_features p)
  all_known =
      let g = program_constants p files in
      all_pairs (λ (x : Placed). AreNumbers known g (feature_integers x.feature))
      (λ (x : Placed). AreStrings known g (feature_strings files x.feature)) (all_features p)
      (each_list (λ n. known (integer_label g n)) (λ (x : Placed). feature_integers x.feature) (all_features p)
      (all_then (Contains g.integers) (λ n. known (integer_label g n))
      (flat_map (λ (x : Placed). feature_integers x.feature) (all_features p))
      (integer_there p files)
      (integers_there [] (flat_map (λ (x : Placed). feature_integers x.feature) (all_features p)))))
      (each_list (λ bytes. known (string_label g bytes)) (λ (x : Placed). feature_strings files x.feature) (all_features p)
      (all_then (Contains g.strings) (λ bytes. known (string_label g bytes))
      (flat_map (λ (x : Placed). feature_strings files x.feature) (all_features p)) (string_there p files)
      (strings_there [] (flat_map (λ (x : Placed). feature_strings files x.feature) (all_features p)))))

  -- the names that routines use exist
  routines_served : ServesRoutines target known
  routines_served = record {
    to_heap_limit = routine_there p files heap_limit routines.heap_limit_there;
    to_copy = routine_there p files copy routines.copy_there;
    to_copy_words = routine_there p files copy_words routines.copy_words_there;
    to_copy_end = routine_there p files copy_end routines.copy_end_there;
    to_concat_first = routine_there p files concat_first routines.concat_first_there;
    to_concat_second = routine_there p files concat_second routines.concat_second_there;
    to_concat_third = routine_there p files concat_third routines.concat_third_there;
    to_concat_end = routine_there p files concat_end routines.concat_end_there;
    to_substr_abort = routine_there p files substr_abort routines.substr_abort_there;
    to_substr_bytes = routine_there p files substr_bytes routines.substr_bytes_there;
    to_substr_end = routine_there p files substr_end routines.substr_end_there;
    to_in_string_bytes = routine_there p files in_string_bytes routines.in_string_bytes_there;
    to_in_string_end = routine_there p files in_string_end routines.in_string_end_there;
    to_equal_true = routine_there p files equal_true routines.equal_true_there;
    to_equal_false = routine_there p files equal_false routines.equal_false_there;
    to_equal_values = routine_there p files equal_values routines.equal_values_there;
    to_equal_strings = routine_there p files equal_strings routines.equal_strings_there;
    to_equal_bytes = routine_there p files equal_bytes routines.equal_bytes_there;
    to_main_init = main_init_there p files b;
    to_main_main = main_main_there p files b;
    at_int_prototype = int_prototype_there p files b;
    at_string_prototype = string_prototype_there p files b;
    at_bool_prototype = bool_prototype_there p files b;
    at_main_prototype = main_prototype_there p files b;
    at_true_constant = true_constant_there p files;
    at_false_constant = false_constant_there p files;
    at_name_table = name_table_there p files;
    at_colon_text = colon_text_there p files;
    at_end_text = end_text_there p files;
    at_abort_text = abort_text_there p files;
    at_newline_text = newline_text_there p files;
    at_no_branch_text = no_branch_text_there p files;
    at_stop_text = stop_text_there p files;
    at_dispatch_text = dispatch_text_there p files;
    at_case_text = case_text_there p files;
    at_division_text = division_text_there p files;
    at_substring_text = substring_text_there p files;
    at_overflow_text = overflow_text_there p files;
  }

  -- the names that the code of the classes uses exist
  code_served : Serves target known p
  code_served =
      let r = rooted p b.typed.whole in
      let some = five p r.table.basic in
      record {
        ends_stack = routine_there p files stack_limit routines.stack_limit_there;
        ends_heap = routine_there p files heap_limit routines.heap_limit_there;
        ends_dispatch = routine_there p files dispatch_abort routines.dispatch_abort_there;
        ends_void = routine_there p files case_void routines.case_void_there;
        ends_case = routine_there p files case_abort routines.case_abort_there;
        ends_overflow = routine_there p files overflow_abort routines.overflow_abort_there;
        ends_division = routine_there p files div_abort routines.div_abort_there;
        copies = routine_there p files copy routines.copy_there;
        compares = routine_there p files equality routines.equality_there;
        truth = true_constant_there p files;
        falsity = false_constant_there p files;
        integer = int_prototype_there p files b;
        integer_default = default_int_there p files;
        string_default = default_string_there p files;
        objects = class_objects_there p files;
        types = λ name. type_there p (omega arith) name;
        methods = λ c f within. method_there p files b (method_in p c f) (method_in_there p r c f within);
        initializers = λ c within. initializer_there p files b c within;
        prototypes = λ c within. prototype_there p files b c within;
        slots = slot_low p r b.fits.table;
        tags = tag_low p r b.fits.table;
        families = family_low p r b.fits.table;
      }

-- the text of a program
pub text_sound : (p : List Class) (files : List (List ℕ)) → IsBuildable p files
    → AreText (Contains (labels_of (program_text p files))) (Contains (labels_of (program_lines p files))) (program_text p files)
text_sound p files b =
    let r = rooted p b.typed.whole in
    all_append _ all_routine_lines _ (text_of_routines (target p files b) (known p files b) (routines_served p files b))
    (text_of_classes (target p files b) (known p files b) p files (program_constants p files) (code_served p files b) r
    (few_attributes p r b.fits.table) b.fits.bounded b.fits.within (numbers_from 0 (length p))
    (numbers_low 0 (length p) (length p) (omega arith)) (all_known p files b)
    (all_right _ all_routine_lines (classes_code p files (program_constants p files)) (labels_are_targets (program_text p files))))
