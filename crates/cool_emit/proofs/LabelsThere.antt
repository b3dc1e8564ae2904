-- Each label that the code may use is in the program: the text has those of routines, initializers and methods, the data those of the layout and the constants.
use Rattle.std.proofs.Common.{◌≡◌, ℕ, zero, suc, ◌+◌, ◌<◌, List, [], ◌∷◌, ◌++◌, length, flat_map, Contains, Bool, true, false, subst, arith}
use Rattle.std.specs.Prelude.{pos, negsuc, map, ◌*◌, slice_get, nat_lt, if◌then◌else◌}
use Rattle.cool_syntax.specs.declared.file_tree.Feature.{Feature}
use Rattle.cool_syntax.specs.declared.file_tree.Feature.TheVariants.{Method, Attribute}
use Rattle.cool_syntax.specs.declared.file_tree.MethodDef.{MethodDef}
use Rattle.mips_isa.specs.Lines.{Name, Line, WordItem, Number, Address, Asciiz, Align, ToData}
use Rattle.mips_isa.specs.Assembly.{data_line, directive_line}
use Rattle.cool_classes.specs.declared.class_id.ClassId.{ClassId}
use Rattle.cool_classes.specs.declared.method.MethodRef.{MethodRef}
use Rattle.cool_classes.specs.declared.method.MethodRef.TheVariants.{Basic, User}
use Rattle.cool_classes.specs.Chains.{Class, class_number, name_of, features_of}
use Rattle.cool_classes.specs.Features.{IsMethod, HasMethod}
use Rattle.cool_runtime.specs.CodeOfCalls.{enter_lines}
use Rattle.cool_runtime.specs.Contents.{words_of_bytes}
use Rattle.cool_runtime.specs.Instructions.{label}
use Rattle.cool_runtime.specs.Labels.{int_table, string_table, name_table}
use Rattle.cool_runtime.specs.LinesOfData.{words, object_words, object_lines, int_lines, string_head_lines, string_lines}
use Rattle.cool_runtime.specs.RoutineLabels.{class_objects, default_int, default_string}
use Rattle.cool_runtime.specs.RoutineLines.{all_routine_lines}
use Rattle.cool_layout.specs.Preorder.{numbers_from, preorder, tag}
use Rattle.cool_layout.specs.Roots.{IsRooted}
use Rattle.cool_layout.specs.Labels.{prototype, initializer, dispatch_table, method_label, class_name, class_name_length}
use Rattle.cool_layout.specs.LinesOfLayout.{int_tag, string_tag, class_names_lines, class_objects_lines}
use Rattle.cool_layout.specs.LinesOfLayout.{dispatch_table_lines, empty_string_fields, new_fields}
use Rattle.cool_layout.specs.LinesOfLayout.{prototype_lines, default_lines, name_lines, texts_lines, layout_lines}
use Rattle.cool_layout.specs.Members.{methods}
use Rattle.cool_layout.proofs.TagRanges.{once, there_times}
use Rattle.cool_consts.specs.Constants.{Constants}
use Rattle.cool_consts.specs.LinesOfConstants.{constants_lines}
use Rattle.cool_codegen.specs.Pieces.{begin_init_lines, return_basic_lines, mark_lines, leave_lines}
use Rattle.cool_codegen.specs.Code.{Context, code}
use Rattle.cool_codegen.specs.Features.{with_formals, attributes_in}
use Rattle.cool_emit.specs.Programs.{methods_from, methods_in, placed_code, initializer_code}
use Rattle.cool_emit.specs.Programs.{class_code, classes_code, program_constants, program_text}
use Rattle.cool_emit.specs.Programs.{heap_lines, program_data, program_lines, IsBuildable}
use Rattle.cool_emit.proofs.RootedTables.{rooted}
use Rattle.cool_emit.proofs.LabelsOfParts.{Has, number_there, has_left}
use Rattle.cool_emit.proofs.LabelsOfParts.{has_right, has_label, has_later, has_among}
use Rattle.cool_emit.proofs.LabelsOfRoutines.{basic_there}
use Rattle.lists.proofs.Membership.{first_there, later_there}

-- each class stands in preorder
pub in_preorder : (p : List Class) → IsRooted p → (c : ClassId) → c.0 < length p → Contains (preorder p) c
in_preorder p r c within = there_times c (preorder p) (let is = once p r c within in omega arith)

module _ (p : List Class) (files : List (List ℕ)) where
  -- a label of the text is one of the program, and so is one of the data
  pub text_there : (n : Name) → Has (program_text p files) n → Has (program_lines p files) n
  text_there n h = has_left (program_text p files) (directive_line ToData ∷ program_data p files) n h

  pub data_there : (n : Name) → Has (program_data p files) n → Has (program_lines p files) n
  data_there n h =
      has_right (program_text p files) (directive_line ToData ∷ program_data p files) n
      (has_later (directive_line ToData) (program_data p files) n h)

  -- a label of a routine is one of the text
  pub routine_there : (n : Name) → Has all_routine_lines n → Has (program_text p files) n
  routine_there n h = has_left all_routine_lines (classes_code p files (program_constants p files)) n h

  -- so is a label of the code of a class
  class_there : (c : ClassId) → c.0 < length p → (n : Name) → Has (class_code p files (program_constants p files) c) n
      → Has (program_text p files) n
  class_there c within n h =
      let g : Constants = program_constants p files in
      has_right all_routine_lines (classes_code p files g) n
      (has_among (class_code p files g) (numbers_from 0 (length p)) c n (number_there 0 (length p) c (omega arith) (omega arith)) h)

  -- the label of an initializer
  pub initializer_there : IsBuildable p files → (c : ClassId) → c.0 < length p → Has (program_text p files) (initializer p c)
  unfolding begin_init_lines return_basic_lines
  initializer_there b c within =
      let g : Constants = program_constants p files in
      class_there c within (initializer p c)
      (has_left (initializer_code p files g c) (flat_map (placed_code p files g c) (methods_in p c)) (initializer p c)
      (by (initializer p c) _ _ (nat_lt c.0 5)))
    where
      by : (n : Name) (xs ys : List Line) (t : Bool) → Has (if t then label n ∷ xs else label n ∷ ys) n
      by n xs ys true = has_label n xs
      by n xs ys false = has_label n ys

-- a method among features is among those that are placed
method_placed : (j : ℕ) (fs : List Feature) (k : ℕ) → IsMethod (slice_get fs k)
    → (m : MethodDef) × Contains (methods_from j fs) (record { place = j + k; feature = Method m })
method_placed j [] zero h = absurd h
method_placed j [] (suc k) h = absurd h
method_placed j (Method m ∷ fs) zero h =
    let e : j ≡ j + 0 = omega arith in
    (m, subst (λ i. Contains (methods_from j (Method m ∷ fs)) (record { place = i; feature = Method m })) e (first_there _ _))
method_placed j (Attribute a ∷ fs) zero h = absurd h
method_placed j (Method m ∷ fs) (suc k) h =
    let rest = method_placed (j + 1) fs k h in
    let e : j + 1 + k ≡ j + suc k = omega arith in (
      rest.0,
      subst (λ i. Contains (methods_from j (Method m ∷ fs)) (record { place = i; feature = Method rest.0 })) e
          (later_there _ _ _ rest.1),
    )
method_placed j (Attribute a ∷ fs) (suc k) h =
    let rest = method_placed (j + 1) fs k h in
    let e : j + 1 + k ≡ j + suc k = omega arith in
    (rest.0, subst (λ i. Contains (methods_from (j + 1) fs) (record { place = i; feature = Method rest.0 })) e rest.1)

-- a method that is placed begins with its label
placed_label : (p : List Class) (files : List (List ℕ)) (g : Constants) (c : ClassId) (k : ℕ) (m : MethodDef)
    → Has (placed_code p files g c (record { place = k; feature = Method m })) (method_label p (User c k))
unfolding mark_lines
placed_label p files g c k m =
    let s : Context = record { table = p; class = c; feature = k; files = files } in
    has_label (method_label p (User c k))
    (enter_lines ++ (code s g (with_formals p m.formals (attributes_in p c)) 0 0 m.body ++ leave_lines (pos (12 + 4 * length m.formals))))

module _ (p : List Class) (files : List (List ℕ)) where
  -- the label of a method
  pub method_there : IsBuildable p files → (m : MethodRef) → HasMethod p m → Has (program_text p files) (method_label p m)
  method_there b (Basic m) h = routine_there p files (method_label p (Basic m)) (basic_there m)
  method_there b (User c k) h =
      let g : Constants = program_constants p files in
      let placed = method_placed 0 (features_of p c) k h.1 in
      let e : 0 + k ≡ k = omega arith in
      let there : Contains (methods_in p c) (record { place = k; feature = Method placed.0 }) =
      subst (λ i. Contains (methods_in p c) (record { place = i; feature = Method placed.0 })) e placed.1 in
      class_there p files c h.0 (method_label p (User c k))
      (has_right (initializer_code p files g c) (flat_map (placed_code p files g c) (methods_in p c)) (method_label p (User c k))
      (has_among (placed_code p files g c) (methods_in p c) (record { place = k; feature = Method placed.0 })
      (method_label p (User c k)) there
      (placed_label p files g c k placed.0)))

-- The data

-- the parts of the layout, each with those after it
abbrev pub from_defaults : List Class → List Line
from_defaults p = default_lines p ++ (flat_map (name_lines p) (preorder p) ++ texts_lines)

abbrev pub from_prototypes : List Class → List Line
from_prototypes p = flat_map (prototype_lines p) (preorder p) ++ from_defaults p

abbrev pub from_tables : List Class → List Line
from_tables p = flat_map (dispatch_table_lines p) (preorder p) ++ from_prototypes p

abbrev pub from_objects : List Class → List Line
from_objects p = class_objects_lines p (preorder p) ++ from_tables p

-- the lines of the String of no bytes
abbrev pub lines_of_default_string : List Class → List Line
lines_of_default_string p = object_lines default_string (string_tag p) 5 string_table empty_string_fields

-- the lines of the constants of a program
abbrev pub lines_of_constants : List Class → List (List ℕ) → List Line
lines_of_constants p files =
    constants_lines (tag p (class_number 2)) (tag p (class_number 3)) (tag p (class_number 4)) (program_constants p files)

-- the label of an object in the data
pub has_object : (n : Name) (tag size : ℕ) (table : Name) (fields : List WordItem) → Has (object_lines n tag size table fields) n
has_object n tag size table fields =
    has_later (words (Number (negsuc 0) ∷ [])) (label n ∷ words (object_words tag size table fields) ∷ []) n
    (has_label n (words (object_words tag size table fields) ∷ []))

-- the bytes of a String, and its lines after the Int of its length
abbrev pub bytes_after : List ℕ → List Line
bytes_after bytes = data_line (Asciiz bytes) ∷ directive_line (Align 2) ∷ []

abbrev pub string_after : Name → Name → ℕ → List ℕ → List Line
string_after name length_name tag bytes = string_head_lines name length_name tag (4 + words_of_bytes (length bytes)) ++ bytes_after bytes

-- the label of a String, and that of its length
pub has_string : (name length_name : Name) (int_tag string_tag : ℕ) (bytes : List ℕ)
    → Has (string_lines name length_name int_tag string_tag bytes) name
has_string name length_name int_tag string_tag bytes =
    has_right (int_lines length_name int_tag (length bytes)) (string_after name length_name string_tag bytes) name
    (has_left (string_head_lines name length_name string_tag (4 + words_of_bytes (length bytes))) (bytes_after bytes) name
    (has_object name string_tag (4 + words_of_bytes (length bytes)) string_table (Address length_name ∷ [])))

pub has_string_length : (name length_name : Name) (int_tag string_tag : ℕ) (bytes : List ℕ)
    → Has (string_lines name length_name int_tag string_tag bytes) length_name
has_string_length name length_name int_tag string_tag bytes =
    has_left (int_lines length_name int_tag (length bytes)) (string_after name length_name string_tag bytes) length_name
    (has_object length_name int_tag 4 int_table (Number (pos (length bytes)) ∷ []))

module _ (p : List Class) (files : List (List ℕ)) where
  -- a label of the layout is one of the program
  pub layout_there : (n : Name) → Has (layout_lines p) n → Has (program_lines p files) n
  layout_there n h = data_there p files n (has_left (layout_lines p) (lines_of_constants p files ++ heap_lines) n h)

  objects_there : (n : Name) → Has (from_objects p) n → Has (program_lines p files) n
  objects_there n h = layout_there n (has_right (class_names_lines (preorder p)) (from_objects p) n h)

  tables_there : (n : Name) → Has (from_tables p) n → Has (program_lines p files) n
  tables_there n h = objects_there n (has_right (class_objects_lines p (preorder p)) (from_tables p) n h)

  prototypes_there : (n : Name) → Has (from_prototypes p) n → Has (program_lines p files) n
  prototypes_there n h = tables_there n (has_right (flat_map (dispatch_table_lines p) (preorder p)) (from_prototypes p) n h)

  defaults_there : (n : Name) → Has (from_defaults p) n → Has (program_lines p files) n
  defaults_there n h = prototypes_there n (has_right (flat_map (prototype_lines p) (preorder p)) (from_defaults p) n h)

  -- a label of the texts that routines write
  pub texts_there : (n : Name) → Has texts_lines n → Has (program_lines p files) n
  texts_there n h =
      defaults_there n (has_right (default_lines p) (flat_map (name_lines p) (preorder p) ++ texts_lines) n
      (has_right (flat_map (name_lines p) (preorder p)) texts_lines n h))

  -- the tables by tag, and the default values
  pub name_table_there : Has (program_lines p files) name_table
  name_table_there =
      layout_there name_table (has_label name_table (words (map (λ c. Address (class_name c)) (preorder p)) ∷ from_objects p))

  pub class_objects_there : Has (program_lines p files) class_objects
  class_objects_there =
      objects_there class_objects
      (has_label class_objects (map (λ c. words (Address (prototype p c) ∷ Address (initializer p c) ∷ [])) (preorder p) ++ from_tables p))

  pub default_int_there : Has (program_lines p files) default_int
  default_int_there =
      defaults_there default_int (has_left (default_lines p) (flat_map (name_lines p) (preorder p) ++ texts_lines) default_int
      (has_left (int_lines default_int (int_tag p) 0) (lines_of_default_string p) default_int
      (has_object default_int (int_tag p) 4 int_table (Number (pos 0) ∷ []))))

  pub default_string_there : Has (program_lines p files) default_string
  default_string_there =
      defaults_there default_string (has_left (default_lines p) (flat_map (name_lines p) (preorder p) ++ texts_lines) default_string
      (has_right (int_lines default_int (int_tag p) 0) (lines_of_default_string p) default_string
      (has_object default_string (string_tag p) 5 string_table empty_string_fields)))

  -- the labels of each class
  module _ (b : IsBuildable p files) (c : ClassId) (within : c.0 < length p) where
    in_order : Contains (preorder p) c
    in_order = in_preorder p (rooted p b.typed.whole) c within

    pub dispatch_table_there : Has (program_lines p files) (dispatch_table p c)
    dispatch_table_there =
        let n : Name = dispatch_table p c in
        tables_there n (has_left (flat_map (dispatch_table_lines p) (preorder p)) (from_prototypes p) n
        (has_among (dispatch_table_lines p) (preorder p) c n in_order
        (has_label n (words (map (λ m. Address (method_label p m)) (methods p c)) ∷ []))))

    pub prototype_there : Has (program_lines p files) (prototype p c)
    prototype_there =
        let n : Name = prototype p c in
        prototypes_there n (has_left (flat_map (prototype_lines p) (preorder p)) (from_defaults p) n
        (has_among (prototype_lines p) (preorder p) c n in_order
        (has_object n (tag p c) (3 + length (new_fields p c)) (dispatch_table p c) (new_fields p c))))

    -- a label of the String of its name
    of_name : (n : Name) → Has (name_lines p c) n → Has (program_lines p files) n
    of_name n h =
        defaults_there n (has_right (default_lines p) (flat_map (name_lines p) (preorder p) ++ texts_lines) n
        (has_left (flat_map (name_lines p) (preorder p)) texts_lines n (has_among (name_lines p) (preorder p) c n in_order h)))

    pub class_name_there : Has (program_lines p files) (class_name c)
    class_name_there = of_name (class_name c) (has_string (class_name c) (class_name_length c) (int_tag p) (string_tag p) (name_of p c))

    pub class_name_length_there : Has (program_lines p files) (class_name_length c)
    class_name_length_there =
        of_name (class_name_length c) (has_string_length (class_name c) (class_name_length c) (int_tag p) (string_tag p) (name_of p c))
