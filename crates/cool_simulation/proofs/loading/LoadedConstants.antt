-- The loaded data of a program holds its constants, the default values, and the texts that its run-time routines write.
use Rattle.std.proofs.Common.{◌≡◌, ℕ, zero, suc, ◌+◌, ◌*◌, ◌<◌, List, [], ◌++◌, flat_map, true, false, Contains, refl, sym, ap, ◌∙◌, subst, arith}
use Rattle.std.specs.Prelude.{codes, Bool as Truth}
use Rattle.std.specs.List.{AllByRecursion}
use Rattle.mips_isa.specs.declared.address_map.TheConstants.{HEAP_START}
use Rattle.mips_isa.specs.Bytes.{Bytes, word}
use Rattle.mips_isa.specs.Lines.{Name, Line}
use Rattle.cool_classes.specs.Chains.{Class, class_number}
use Rattle.cool_runtime.specs.Reaches.{World, Tags}
use Rattle.cool_runtime.specs.Contents.{HeadAt, HeadFits, IntAt, BoolAt, StringAt, TextAt, IsText}
use Rattle.cool_runtime.specs.Labels.{true_constant, false_constant, string_table, end_text, abort_text, newline_text, colon_text, no_branch_text, stop_text}
use Rattle.cool_runtime.specs.RoutineLabels.{default_int, default_string, dispatch_text, case_text, division_text, substring_text, overflow_text}
use Rattle.cool_runtime.specs.LinesOfData.{object_words, object_lines, int_lines, bool_lines, text_lines}
use Rattle.cool_layout.specs.Preorder.{preorder, tag}
use Rattle.cool_layout.specs.LinesOfLayout.{int_tag, string_tag, class_names_lines, class_objects_lines, dispatch_table_lines, prototype_lines, default_lines, empty_string_fields, name_lines, texts_lines, layout_lines}
use Rattle.cool_consts.specs.Constants.{Constants, integer_number, string_number}
use Rattle.cool_consts.specs.Labels.{int_constant, string_constant, string_length}
use Rattle.cool_consts.specs.LinesOfConstants.{integers_lines, strings_lines, constants_lines}
use Rattle.cool_codegen.specs.Code.{truth_label}
use Rattle.cool_emit.specs.Programs.{program_constants, program_text, program_data, heap_lines}
use Rattle.cool_emit.proofs.LabelsThere.{from_defaults, from_prototypes, from_tables, from_objects}
use Rattle.cool_simulation.specs.Pictures.{bit}
use Rattle.cool_simulation.proofs.loading.PartsOfLines.{Among, among_whole, among_left, among_right}
use Rattle.cool_simulation.proofs.loading.LoadedImages.{HasImage}
use Rattle.cool_simulation.proofs.loading.LoadedItems.{memory, HasObject, object_there}
use Rattle.cool_simulation.proofs.loading.LoadedStrings.{text_there, int_at, bool_at, string_at, lies_there, head_there, head_fits, fields_there}
use Rattle.cool_simulation.proofs.loading.ConstantsAmong.{is_text, are_text, among_integer, among_string}
use Rattle.lists.proofs.AllItems.{all_at}

module _ (p : List Class) (files : List (List ℕ)) (w : World) (g : HasImage (program_text p files) (program_data p files) w)
    (tags : w.tags ≡ record { int = tag p (class_number 2); bool = tag p (class_number 3); string = tag p (class_number 4) }) where
  abbrev data' : List Line
  data' = program_data p files

  abbrev table : Constants
  table = program_constants p files

  abbrev stored : Bytes
  stored = memory (program_text p files) (program_data p files) w g

  pub int_tag_is : w.tags.int ≡ tag p (class_number 2)
  int_tag_is = ap (λ (t : Tags). t.int) tags

  pub bool_tag_is : w.tags.bool ≡ tag p (class_number 3)
  bool_tag_is = ap (λ (t : Tags). t.bool) tags

  pub string_tag_is : w.tags.string ≡ tag p (class_number 4)
  string_tag_is = ap (λ (t : Tags). t.string) tags

  -- the parts of the data

  abbrev after_layout : List Line
  after_layout = constants_lines (tag p (class_number 2)) (tag p (class_number 3)) (tag p (class_number 4)) table ++ heap_lines

  pub among_layout : Among (program_data p files) (layout_lines p)
  among_layout = among_left data' (layout_lines p) after_layout (among_whole data')

  among_constants : Among (program_data p files) (constants_lines (tag p (class_number 2)) (tag p (class_number 3)) (tag p (class_number 4)) table)
  among_constants =
      among_left data' (constants_lines (tag p (class_number 2)) (tag p (class_number 3)) (tag p (class_number 4)) table) heap_lines
      (among_right data' (layout_lines p) after_layout (among_whole data'))

  abbrev false_lines : List Line
  false_lines = bool_lines false_constant (tag p (class_number 3)) 0

  abbrev true_lines : List Line
  true_lines = bool_lines true_constant (tag p (class_number 3)) 1

  abbrev integers : List Line
  integers = integers_lines (tag p (class_number 2)) 0 table.integers

  abbrev strings : List Line
  strings = strings_lines (tag p (class_number 2)) (tag p (class_number 4)) 0 table.strings

  after_false : Among (program_data p files) (true_lines ++ (integers ++ strings))
  after_false = among_right data' false_lines (true_lines ++ (integers ++ strings)) among_constants

  after_true : Among (program_data p files) (integers ++ strings)
  after_true = among_right data' true_lines (integers ++ strings) after_false

  -- the constants

  pub integer_there : (n : ℕ) → Contains (program_constants p files).integers n → IntAt w stored HEAP_START (w.place (int_constant (integer_number (program_constants p files).integers n))) n
  integer_there n h =
      let e : 0 + integer_number table.integers n ≡ integer_number table.integers n = omega arith in
      subst (λ i. IntAt w stored HEAP_START (w.place (int_constant i)) n) e
      (int_at (program_text p files) data' w g (int_constant (0 + integer_number table.integers n)) (tag p (class_number 2)) n int_tag_is
      (among_integer data' (tag p (class_number 2)) 0 table.integers n h (among_left data' integers strings after_true)))

  pub string_there : (bytes : List ℕ) → AllByRecursion IsText (program_constants p files).strings → Contains (program_constants p files).strings bytes
      → StringAt w stored HEAP_START (w.place (string_constant (string_number (program_constants p files).strings bytes))) bytes
  string_there bytes texts h =
      let k : ℕ = string_number table.strings bytes in
      let e : 0 + k ≡ k = omega arith in
      let is : IsText bytes = subst IsText h.2 (all_at IsText table.strings h.0 bytes texts h.1) in
      subst (λ i. StringAt w stored HEAP_START (w.place (string_constant i)) bytes) e
      (string_at (program_text p files) data' w g (string_constant (0 + k)) (string_length (0 + k)) (tag p (class_number 2)) (tag p (class_number 4)) bytes int_tag_is string_tag_is is
      (among_string data' (tag p (class_number 2)) (tag p (class_number 4)) 0 table.strings bytes h (among_right data' integers strings after_true)))

  pub truth_there : (b : Truth) → BoolAt w stored HEAP_START (w.place (truth_label b)) (bit b)
  truth_there true = bool_at (program_text p files) data' w g true_constant (tag p (class_number 3)) 1 bool_tag_is (omega arith) (among_left data' true_lines (integers ++ strings) after_false)
  truth_there false = bool_at (program_text p files) data' w g false_constant (tag p (class_number 3)) 0 bool_tag_is (omega arith) (among_left data' false_lines (true_lines ++ (integers ++ strings)) among_constants)

  -- the parts of the layout

  pub among_objects : Among (program_data p files) (from_objects p)
  among_objects = among_right data' (class_names_lines (preorder p)) (from_objects p) among_layout

  pub among_tables : Among (program_data p files) (from_tables p)
  among_tables = among_right data' (class_objects_lines p (preorder p)) (from_tables p) among_objects

  pub among_prototypes : Among (program_data p files) (from_prototypes p)
  among_prototypes = among_right data' (flat_map (dispatch_table_lines p) (preorder p)) (from_prototypes p) among_tables

  pub among_defaults : Among (program_data p files) (from_defaults p)
  among_defaults = among_right data' (flat_map (prototype_lines p) (preorder p)) (from_defaults p) among_prototypes

  pub among_names : Among (program_data p files) (flat_map (name_lines p) (preorder p) ++ texts_lines)
  among_names = among_right data' (default_lines p) (flat_map (name_lines p) (preorder p) ++ texts_lines) among_defaults

  among_texts : Among (program_data p files) texts_lines
  among_texts = among_right data' (flat_map (name_lines p) (preorder p)) texts_lines among_names

  -- the default values

  among_default_lines : Among (program_data p files) (default_lines p)
  among_default_lines = among_left data' (default_lines p) (flat_map (name_lines p) (preorder p) ++ texts_lines) among_defaults

  pub default_int_there : IntAt w stored HEAP_START (w.place default_int) 0
  default_int_there =
      int_at (program_text p files) data' w g default_int (int_tag p) 0 int_tag_is
      (among_left data' (int_lines default_int (int_tag p) 0) (object_lines default_string (string_tag p) 5 string_table empty_string_fields) among_default_lines)

  zero_bytes : (m : Bytes) (a i : ℕ) → word m a ≡ 0 → i < 4 → m (a + i) ≡ 0
  unfolding word
  zero_bytes m a zero is less = let e : a + 0 ≡ a = omega arith in ap m e ∙ omega arith
  zero_bytes m a (suc zero) is less = omega arith
  zero_bytes m a (suc (suc zero)) is less = omega arith
  zero_bytes m a (suc (suc (suc zero))) is less = omega arith
  zero_bytes m a (suc (suc (suc (suc i)))) is less = absurd (omega arith)

  pub default_string_there : StringAt w stored HEAP_START (w.place default_string) []
  default_string_there =
      let of_string : ℕ = string_tag p in
      let o : HasObject (program_text p files) data' w g default_string (object_words of_string 5 string_table empty_string_fields) =
      object_there (program_text p files) data' w g default_string of_string 5 string_table empty_string_fields
      (among_right data' (int_lines default_int (int_tag p) 0) (object_lines default_string (string_tag p) 5 string_table empty_string_fields) among_default_lines) in
      let head = head_there (program_text p files) data' w g default_string of_string 5 string_table empty_string_fields o in
      let fits = head_fits (program_text p files) data' w g default_string of_string 5 string_table empty_string_fields refl o in
      let e12 : w.place default_string + 12 ≡ w.place default_string + 12 + 4 * 0 = omega arith in
      let e16 : w.place default_string + 16 ≡ w.place default_string + 12 + 4 * 1 = omega arith in
      let length_at : word stored (w.place default_string + 12) ≡ w.place default_int = ap (word stored) e12 ∙ fields_there (program_text p files) data' w g default_string of_string 5 string_table empty_string_fields 0 (omega arith) o in
      let zeros : word stored (w.place default_string + 16) ≡ 0 = ap (word stored) e16 ∙ fields_there (program_text p files) data' w g default_string of_string 5 string_table empty_string_fields 1 (omega arith) o in
      record {
        lies = lies_there (program_text p files) data' w g default_string of_string 5 string_table empty_string_fields refl o;
        head = subst (λ t. HeadAt stored (w.place default_string) t 5 (w.place string_table)) (sym string_tag_is) head;
        head_fits = subst (λ t. HeadFits t 5 (w.place string_table)) (sym string_tag_is) fits;
        length_is = subst (λ a. IntAt w stored HEAP_START a 0) (sym length_at) default_int_there;
        holds = λ i less. zero_bytes stored (w.place default_string + 16) i zeros (omega arith);
        text = tt;
      }

  -- the texts that routines write

  -- the first text of some, and those after it
  text_first : (n : Name) (bytes : List ℕ) (rest : List Line) → is_text bytes ≡ true → Among (program_data p files) (text_lines n bytes ++ rest) → TextAt w stored (w.place n) bytes
  text_first n bytes rest is h = text_there (program_text p files) data' w g n bytes rest (are_text bytes is) h

  text_after : (n : Name) (bytes : List ℕ) (rest : List Line) → Among (program_data p files) (text_lines n bytes ++ rest) → Among (program_data p files) rest
  text_after n bytes rest h = among_right data' (text_lines n bytes) rest h

  abbrev rest10 : List Line
  rest10 = text_lines overflow_text (codes ": Arithmetic overflow.\n")

  abbrev rest9 : List Line
  rest9 = text_lines substring_text (codes ": Substring out of range.\n") ++ rest10

  abbrev rest8 : List Line
  rest8 = text_lines division_text (codes ": Division by zero.\n") ++ rest9

  abbrev rest7 : List Line
  rest7 = text_lines case_text (codes ": Case on void.\n") ++ rest8

  abbrev rest6 : List Line
  rest6 = text_lines dispatch_text (codes ": Dispatch to void.\n") ++ rest7

  abbrev rest5 : List Line
  rest5 = text_lines stop_text (codes ".\n") ++ rest6

  abbrev rest4 : List Line
  rest4 = text_lines no_branch_text (codes ": No matching branch for class ") ++ rest5

  abbrev rest3 : List Line
  rest3 = text_lines colon_text (codes ":") ++ rest4

  abbrev rest2 : List Line
  rest2 = text_lines newline_text (codes "\n") ++ rest3

  abbrev rest1 : List Line
  rest1 = text_lines abort_text (codes "Abort called from class ") ++ rest2

  at1 : Among (program_data p files) rest1
  at1 = text_after end_text (codes "COOL program successfully executed\n") rest1 among_texts

  at2 : Among (program_data p files) rest2
  at2 = text_after abort_text (codes "Abort called from class ") rest2 at1

  at3 : Among (program_data p files) rest3
  at3 = text_after newline_text (codes "\n") rest3 at2

  at4 : Among (program_data p files) rest4
  at4 = text_after colon_text (codes ":") rest4 at3

  at5 : Among (program_data p files) rest5
  at5 = text_after no_branch_text (codes ": No matching branch for class ") rest5 at4

  at6 : Among (program_data p files) rest6
  at6 = text_after stop_text (codes ".\n") rest6 at5

  at7 : Among (program_data p files) rest7
  at7 = text_after dispatch_text (codes ": Dispatch to void.\n") rest7 at6

  at8 : Among (program_data p files) rest8
  at8 = text_after case_text (codes ": Case on void.\n") rest8 at7

  at9 : Among (program_data p files) rest9
  at9 = text_after division_text (codes ": Division by zero.\n") rest9 at8

  at10 : Among (program_data p files) rest10
  at10 = text_after substring_text (codes ": Substring out of range.\n") rest10 at9

  pub end_text_there : TextAt w stored (w.place end_text) (codes "COOL program successfully executed\n")
  end_text_there = text_first end_text (codes "COOL program successfully executed\n") rest1 refl among_texts

  pub abort_text_there : TextAt w stored (w.place abort_text) (codes "Abort called from class ")
  abort_text_there = text_first abort_text (codes "Abort called from class ") rest2 refl at1

  pub newline_text_there : TextAt w stored (w.place newline_text) (codes "\n")
  newline_text_there = text_first newline_text (codes "\n") rest3 refl at2

  pub colon_text_there : TextAt w stored (w.place colon_text) (codes ":")
  colon_text_there = text_first colon_text (codes ":") rest4 refl at3

  pub no_branch_text_there : TextAt w stored (w.place no_branch_text) (codes ": No matching branch for class ")
  no_branch_text_there = text_first no_branch_text (codes ": No matching branch for class ") rest5 refl at4

  pub stop_text_there : TextAt w stored (w.place stop_text) (codes ".\n")
  stop_text_there = text_first stop_text (codes ".\n") rest6 refl at5

  pub dispatch_text_there : TextAt w stored (w.place dispatch_text) (codes ": Dispatch to void.\n")
  dispatch_text_there = text_first dispatch_text (codes ": Dispatch to void.\n") rest7 refl at6

  pub case_text_there : TextAt w stored (w.place case_text) (codes ": Case on void.\n")
  case_text_there = text_first case_text (codes ": Case on void.\n") rest8 refl at7

  pub division_text_there : TextAt w stored (w.place division_text) (codes ": Division by zero.\n")
  division_text_there = text_first division_text (codes ": Division by zero.\n") rest9 refl at8

  pub substring_text_there : TextAt w stored (w.place substring_text) (codes ": Substring out of range.\n")
  substring_text_there = text_first substring_text (codes ": Substring out of range.\n") rest10 refl at9

  pub overflow_text_there : TextAt w stored (w.place overflow_text) (codes ": Arithmetic overflow.\n")
  overflow_text_there = text_there (program_text p files) data' w g overflow_text (codes ": Arithmetic overflow.\n") [] (are_text (codes ": Arithmetic overflow.\n") refl) at10
