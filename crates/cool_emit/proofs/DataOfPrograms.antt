-- Each line in the data of a program is a label, a `.word` whose numbers are in range and whose names are labels of the program, a zero-terminated text, or an
-- alignment to four bytes.
use Rattle.std.proofs.Common.{◌≡◌, ℕ, zero, suc, ◌+◌, ◌-◌, ◌≤◌, ◌<◌, List, [], ◌∷◌, ◌++◌, length, get_or, drop}
use Rattle.std.proofs.Common.{flat_map, map, Bool, true, false, refl, ap, ◌∙◌, subst, arith, Contains, inl, inr}
use Rattle.std.specs.Prelude.{pos, codes, bytes_eq, nat_eq, ◌||◌, if◌then◌else◌}
use Rattle.std.specs.List.{AllByRecursion}
use Rattle.std.proofs.lemmas.Bool.{cases_lt}
use Rattle.std.proofs.lemmas.List.{length-map, get_or-drop}
use Rattle.mips_isa.specs.Lines.{Name, Line, WordItem, Number, Address}
use Rattle.cool_classes.specs.declared.class_id.ClassId.{ClassId}
use Rattle.cool_classes.specs.declared.method.AttributeRef.{AttributeRef}
use Rattle.cool_classes.specs.Chains.{Class, class_number, name_of, nothing}
use Rattle.cool_classes.specs.ClimbedChains.{chain}
use Rattle.cool_classes.specs.Features.{attribute_type, HasMethod}
use Rattle.cool_classes.specs.Tables.{basic_classes}
use Rattle.cool_classes.proofs.AllOfLists.{all_map}
use Rattle.cool_rules.specs.Fits.{weight_of}
use Rattle.cool_runtime.specs.Contents.{words_of_bytes}
use Rattle.cool_runtime.specs.Labels.{int_table, bool_table, string_table, true_constant, false_constant}
use Rattle.cool_runtime.specs.RoutineLabels.{default_int, default_string}
use Rattle.cool_runtime.specs.LinesOfData.{words, object_lines, int_lines, bool_lines, string_head_lines, string_lines}
use Rattle.cool_layout.specs.Preorder.{preorder, tag}
use Rattle.cool_layout.specs.Members.{attributes, methods}
use Rattle.cool_layout.specs.Labels.{prototype, initializer, dispatch_table, method_label, class_name, class_name_length}
use Rattle.cool_layout.specs.LinesOfLayout.{int_tag, string_tag, class_names_lines, class_objects_lines}
use Rattle.cool_layout.specs.LinesOfLayout.{dispatch_table_lines, default_value, empty_string_fields, new_fields}
use Rattle.cool_layout.specs.LinesOfLayout.{prototype_lines, default_lines, name_lines, texts_lines, layout_lines}
use Rattle.cool_layout.proofs.MethodsThere.{methods_have}
use Rattle.cool_layout.proofs.ShortChains.{chain_is}
use Rattle.cool_layout.proofs.TagRanges.{at_tag, preorder_in}
use Rattle.cool_consts.specs.Labels.{int_constant, string_constant, string_length}
use Rattle.cool_consts.specs.LinesOfConstants.{integers_lines, strings_lines}
use Rattle.cool_emit.specs.SoundLines.{IsData, IsDataWord, AreData, labels_of}
use Rattle.cool_emit.specs.Programs.{program_constants, heap_lines, program_data, program_lines, IsBuildable}
use Rattle.cool_emit.proofs.RootedTables.{rooted}
use Rattle.cool_emit.proofs.LabelsThere.{bytes_after, string_after, lines_of_default_string, text_there}
use Rattle.cool_emit.proofs.LabelsThere.{initializer_there, method_there, from_defaults, from_prototypes}
use Rattle.cool_emit.proofs.LabelsThere.{from_tables, from_objects, lines_of_constants, default_int_there}
use Rattle.cool_emit.proofs.LabelsThere.{default_string_there, dispatch_table_there, prototype_there}
use Rattle.cool_emit.proofs.LabelsThere.{class_name_there, class_name_length_there}
use Rattle.cool_emit.proofs.ConstantsThere.{false_constant_there, string_length_there}
use Rattle.cool_emit.proofs.FixedNamesThere.{basic_within, basic_named, int_table_there, bool_table_there, string_table_there}
use Rattle.cool_emit.proofs.ConstantsInRange.{all_flat, IsInt, IsShort, integers_in_range, strings_in_range}
use Rattle.lists.proofs.AllItems.{all_append, all_then}

-- The parts of data, where names may be used

module _ (known : Name → Type 0) where
  -- a line
  abbrev IsPart : Line → Type 0
  IsPart line = IsData known line.statement

  -- an object
  object_data : (name : Name) (tag size : ℕ) (table : Name) (fields : List WordItem) → tag < 4294967296 → size < 4294967296 → known table
      → AllByRecursion (IsDataWord known) fields
      → AreData known (object_lines name tag size table fields)
  object_data name tag size table fields low small there all = (((omega arith, tt), (tt, ((low, (small, (there, all))), tt))))

  -- an Int, and a Bool
  int_data : (name : Name) (tag value : ℕ) → tag < 4294967296 → value < 4294967296 → known int_table
      → AreData known (int_lines name tag value)
  int_data name tag value low small there = object_data name tag 4 int_table (Number (pos value) ∷ []) low (omega arith) there (small, tt)

  bool_data : (name : Name) (tag value : ℕ) → tag < 4294967296 → value < 4294967296 → known bool_table
      → AreData known (bool_lines name tag value)
  bool_data name tag value low small there = object_data name tag 4 bool_table (Number (pos value) ∷ []) low (omega arith) there (small, tt)

  -- a String
  string_data : (name length_name : Name) (of_int of_string : ℕ) (bytes : List ℕ) → of_int < 4294967296 → of_string < 4294967296
      → length bytes ≤ 1048576 → known length_name → known int_table → known string_table
      → AreData known (string_lines name length_name of_int of_string bytes)
  string_data name length_name of_int of_string bytes int_low string_low short there int_there string_there =
      let size : ℕ = 4 + words_of_bytes (length bytes) in
      all_append IsPart (int_lines length_name of_int (length bytes)) (string_after name length_name of_string bytes)
      (int_data length_name of_int (length bytes) int_low (omega arith) int_there)
      (all_append IsPart (string_head_lines name length_name of_string size) (bytes_after bytes)
      (object_data name of_string size string_table (Address length_name ∷ []) string_low (omega arith) string_there (there, tt))
      (tt, (refl, tt)))

  -- integers in range, and short strings
  integers_data : (tag k : ℕ) (ns : List ℕ) → tag < 4294967296 → known int_table → AllByRecursion IsInt ns
      → AreData known (integers_lines tag k ns)
  integers_data tag k [] low there all = tt
  integers_data tag k (n ∷ ns) low there all =
      all_append IsPart (int_lines (int_constant k) tag n) (integers_lines tag (k + 1) ns)
      (int_data (int_constant k) tag n low (let few = all.0 in omega arith) there) (integers_data tag (k + 1) ns low there all.1)

  strings_data : (of_int of_string k : ℕ) (bs : List (List ℕ)) → of_int < 4294967296 → of_string < 4294967296 → known int_table
      → known string_table
      → ((j : ℕ) → j < length bs → known (string_length (k + j))) → AllByRecursion IsShort bs
      → AreData known (strings_lines of_int of_string k bs)
  strings_data of_int of_string k [] int_low string_low int_there string_there there all = tt
  strings_data of_int of_string k (bytes ∷ bs) int_low string_low int_there string_there there all =
      all_append IsPart (string_lines (string_constant k) (string_length k) of_int of_string bytes)
      (strings_lines of_int of_string (k + 1) bs)
      (string_data (string_constant k) (string_length k) of_int of_string bytes int_low string_low (let few = all.0 in omega arith)
      (let e : k + 0 ≡ k = omega arith in subst (λ i. known (string_length i)) e (there 0 (omega arith))) int_there string_there)
      (strings_data of_int of_string (k + 1) bs int_low string_low int_there string_there
      (λ j less. let e : k + suc j ≡ k + 1 + j = omega arith in subst (λ i. known (string_length i)) e (there (suc j) (omega arith))) all.1)

  -- the texts that routines write
  texts_data : AreData known texts_lines
  texts_data =
      (tt, (tt, (tt, (tt, (tt, (tt, (tt, (tt, (tt, (tt, (tt, (tt, (tt, (tt, (tt, (tt, (tt, (tt, (tt, (tt, (tt, (tt, tt))))))))))))))))))))))

-- The names of classes are short

-- a name takes no more than the classes weigh
name_weighs : (ps : List Class) (k : ℕ) → length (get_or ps k nothing).name ≤ weight_of ps
name_weighs [] k = omega arith
name_weighs (c ∷ cs) zero = omega arith
name_weighs (c ∷ cs) (suc k) = let rest : length (get_or cs k nothing).name ≤ weight_of cs = name_weighs cs k in omega arith

-- the names of the basic classes
basic_short : (k : ℕ) → length (name_of basic_classes (class_number k)) ≤ 6
basic_short zero = omega arith
basic_short (suc zero) = omega arith
basic_short (suc (suc zero)) = omega arith
basic_short (suc (suc (suc zero))) = omega arith
basic_short (suc (suc (suc (suc zero)))) = omega arith
basic_short (suc (suc (suc (suc (suc k))))) = omega arith

module _ (p : List Class) (files : List (List ℕ)) (b : IsBuildable p files) where
  -- the name of a class is short
  name_short : (c : ClassId) → length (name_of p c) ≤ 1048576
  name_short c = elim (cases_lt c.0 5) [
    | inl low ↦
        let few : length (name_of basic_classes (class_number c.0)) ≤ 6 = basic_short c.0 in
        let same : length (name_of p (class_number c.0)) ≡ length (name_of basic_classes (class_number c.0)) =
        ap length (basic_named p files b c.0 low) in
        omega arith
    | inr high ↦
        let at : get_or (drop 5 p) (c.0 - 5) nothing ≡ get_or p (5 + (c.0 - 5)) nothing = get_or-drop 5 p (c.0 - 5) nothing in
        let e : 5 + (c.0 - 5) ≡ c.0 = omega arith in
        let few : length (get_or (drop 5 p) (c.0 - 5) nothing).name ≤ weight_of (drop 5 p) = name_weighs (drop 5 p) (c.0 - 5) in
        let most : weight_of (drop 5 p) ≤ 1048576 = b.fits.weight in
        let same : length (get_or (drop 5 p) (c.0 - 5) nothing).name ≡ length (name_of p c) =
        ap (λ (x : Class). length x.name) (at ∙ ap (λ i. get_or p i nothing) e) in
        omega arith
  ]

  -- tags are small
  few_classes : length p ≤ 1005
  few_classes = b.fits.table.classes

  tag_low : (c : ClassId) → c.0 < length p → tag p c < 4294967296
  tag_low c within =
      let low : tag p c < length p = (at_tag p (rooted p b.typed.whole) c within).0 in
      let few : length p ≤ 1005 = few_classes in
      omega arith

  basic_tag : (k : ℕ) → k < 5 → tag p (class_number k) < 4294967296
  basic_tag k low = tag_low (class_number k) (basic_within p files b k low)

  -- a name that may be used, and a line that is one of data
  abbrev Known : Name → Type 0
  Known = Contains (labels_of (program_lines p files))

  abbrev IsLine : Line → Type 0
  IsLine line = IsData Known line.statement

  -- a property of each class of the table holds for all in preorder
  in_order : (P : ClassId → Type 0) → ((c : ClassId) → c.0 < length p → P c) → AllByRecursion P (preorder p)
  in_order P each = all_then (λ (c : ClassId). c.0 < length p) P (preorder p) each (preorder_in p (rooted p b.typed.whole))

  -- the lines made for each class
  of_classes : (f : ClassId → List Line) → ((c : ClassId) → c.0 < length p → AreData Known (f c)) → AreData Known (flat_map f (preorder p))
  of_classes f each = all_flat (λ (c : ClassId). c.0 < length p) IsLine f (preorder p) each (preorder_in p (rooted p b.typed.whole))

  -- the tables by tag
  names_data : AreData Known (class_names_lines (preorder p))
  names_data = (
    tt,
    (
      all_map (IsDataWord Known) (λ c. Address (class_name c)) (preorder p)
          (in_order (λ c. IsDataWord Known (Address (class_name c))) (λ c within. class_name_there p files b c within)),
      tt,
    ),
  )

  objects_data : AreData Known (class_objects_lines p (preorder p))
  objects_data = (
    tt,
    all_map IsLine (λ c. words (Address (prototype p c) ∷ Address (initializer p c) ∷ [])) (preorder p)
        (in_order (λ c. IsLine (words (Address (prototype p c) ∷ Address (initializer p c) ∷ [])))
        (λ c within. (
          prototype_there p files b c within,
          (
            text_there p files (initializer p c)
                (initializer_there p files b c within),
            tt,
          ),
        ))),
  )

  -- a dispatch table
  table_data : (c : ClassId) → c.0 < length p → AreData Known (dispatch_table_lines p c)
  table_data c within = (
    tt,
    (
      all_map (IsDataWord Known) (λ m. Address (method_label p m)) (methods p c)
          (all_then (HasMethod p) (λ m. IsDataWord Known (Address (method_label p m))) (methods p c)
          (λ m has. text_there p files (method_label p m) (method_there p files b m has))
          (methods_have p (rooted p b.typed.whole) c within)),
      tt,
    ),
  )

  -- the value of an attribute before it is given one
  default_data : (name : List ℕ) → IsDataWord Known (default_value name)
  default_data name = by (bytes_eq name (codes "Int")) (bytes_eq name (codes "Bool")) (bytes_eq name (codes "String"))
    where
      by : (i t s : Bool)
          → IsDataWord Known (if i then Address default_int else if t then Address false_constant
          else if s then Address default_string else Number (pos 0))
      by true t s = default_int_there p files
      by false true s = false_constant_there p files
      by false false true = default_string_there p files
      by false false false = omega arith

  empty_data : AllByRecursion (IsDataWord Known) empty_string_fields
  empty_data = (default_int_there p files, (omega arith, tt))

  -- the words after the head of a new object
  fields_data : (c : ClassId) → AllByRecursion (IsDataWord Known) (new_fields p c)
  fields_data c = by (nat_eq c.0 2 || nat_eq c.0 3) (nat_eq c.0 4)
    where
      each : (as' : List AttributeRef) → AllByRecursion (λ a. IsDataWord Known (default_value (attribute_type p a))) as'
      each [] = tt
      each (a ∷ as') = (default_data (attribute_type p a), each as')

      by : (t s : Bool)
          → AllByRecursion (IsDataWord Known)
          (if t then Number (pos 0) ∷ [] else if s then empty_string_fields
          else map (λ a. default_value (attribute_type p a)) (attributes p c))
      by true s = (omega arith, tt)
      by false true = empty_data
      by false false = all_map (IsDataWord Known) (λ a. default_value (attribute_type p a)) (attributes p c) (each (attributes p c))

  few_fields : (c : ClassId) → c.0 < length p → length (new_fields p c) ≤ 2000
  few_fields c within = by (nat_eq c.0 2 || nat_eq c.0 3) (nat_eq c.0 4)
    where
      by : (t s : Bool)
          → length (if t then Number (pos 0) ∷ [] else if s then empty_string_fields
          else map (λ a. default_value (attribute_type p a)) (attributes p c))
          ≤ 2000
      by true s = omega arith
      by false true = omega arith
      by false false =
          let most : length (attributes p c) ≤ 2000 =
          b.fits.table.attributes c (chain p c) within (chain_is p (rooted p b.typed.whole) c within) in
          let same : length (map (λ a. default_value (attribute_type p a)) (attributes p c)) ≡ length (attributes p c) =
          length-map (attributes p c) (λ a. default_value (attribute_type p a)) in
          omega arith

  prototype_data : (c : ClassId) → c.0 < length p → AreData Known (prototype_lines p c)
  prototype_data c within =
      let few : length (new_fields p c) ≤ 2000 = few_fields c within in
      object_data Known (prototype p c) (tag p c) (3 + length (new_fields p c)) (dispatch_table p c) (new_fields p c) (tag_low c within)
      (omega arith) (dispatch_table_there p files b c within) (fields_data c)

  -- the default values, and the Strings of the names
  defaults_data : AreData Known (default_lines p)
  defaults_data =
      all_append IsLine (int_lines default_int (int_tag p) 0) (lines_of_default_string p)
      (int_data Known default_int (int_tag p) 0 (basic_tag 2 (omega arith)) (omega arith) (int_table_there p files b))
      (object_data Known default_string (string_tag p) 5 string_table empty_string_fields (basic_tag 4 (omega arith)) (omega arith)
      (string_table_there p files b) empty_data)

  name_data : (c : ClassId) → c.0 < length p → AreData Known (name_lines p c)
  name_data c within =
      string_data Known (class_name c) (class_name_length c) (int_tag p) (string_tag p) (name_of p c) (basic_tag 2 (omega arith))
      (basic_tag 4 (omega arith)) (name_short c)
      (class_name_length_there p files b c within) (int_table_there p files b) (string_table_there p files b)

  -- the layout
  layout_data : AreData Known (layout_lines p)
  layout_data =
      all_append IsLine (class_names_lines (preorder p)) (from_objects p) names_data
      (all_append IsLine (class_objects_lines p (preorder p)) (from_tables p) objects_data
      (all_append IsLine (flat_map (dispatch_table_lines p) (preorder p)) (from_prototypes p)
      (of_classes (dispatch_table_lines p) table_data)
      (all_append IsLine (flat_map (prototype_lines p) (preorder p)) (from_defaults p) (of_classes (prototype_lines p) prototype_data)
      (all_append IsLine (default_lines p) (flat_map (name_lines p) (preorder p) ++ texts_lines) defaults_data
      (all_append IsLine (flat_map (name_lines p) (preorder p)) texts_lines (of_classes (name_lines p) name_data) (texts_data Known))))))

  -- the constants
  constants_data : AreData Known (lines_of_constants p files)
  constants_data =
      let ints : List Line = integers_lines (tag p (class_number 2)) 0 (program_constants p files).integers in
      let strings : List Line = strings_lines (tag p (class_number 2)) (tag p (class_number 4)) 0 (program_constants p files).strings in
      all_append IsLine (bool_lines false_constant (tag p (class_number 3)) 0)
      (bool_lines true_constant (tag p (class_number 3)) 1 ++ (ints ++ strings))
      (bool_data Known false_constant (tag p (class_number 3)) 0 (basic_tag 3 (omega arith)) (omega arith) (bool_table_there p files b))
      (all_append IsLine (bool_lines true_constant (tag p (class_number 3)) 1) (ints ++ strings)
      (bool_data Known true_constant (tag p (class_number 3)) 1 (basic_tag 3 (omega arith)) (omega arith) (bool_table_there p files b))
      (all_append IsLine ints strings
      (integers_data Known (tag p (class_number 2)) 0 (program_constants p files).integers (basic_tag 2 (omega arith))
      (int_table_there p files b) (integers_in_range p files b))
      (strings_data Known (tag p (class_number 2)) (tag p (class_number 4)) 0 (program_constants p files).strings
      (basic_tag 2 (omega arith))
      (basic_tag 4 (omega arith)) (int_table_there p files b) (string_table_there p files b)
      (λ j less. let e : j ≡ 0 + j = omega arith in subst (λ i. Known (string_length i)) e (string_length_there p files j less))
      (strings_in_range p files b))))

-- the data of a program
pub data_sound : (p : List Class) (files : List (List ℕ)) → IsBuildable p files
    → AreData (Contains (labels_of (program_lines p files))) (program_data p files)
data_sound p files b =
    all_append (IsLine p files b) (layout_lines p) (lines_of_constants p files ++ heap_lines) (layout_data p files b)
    (all_append (IsLine p files b) (lines_of_constants p files) heap_lines (constants_data p files b) (tt, ((omega arith, tt), tt)))
