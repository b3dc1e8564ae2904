-- The lines of assembly for the data of classes: the tables of their names and prototypes by tag, the dispatch tables, the prototypes, the default values, the
-- String objects of the names, and the messages of run-time routines.
use Rattle.std.specs.Prelude.{ℕ, pos, ◌+◌, List, [], ◌∷◌, ◌++◌, length, map, flat_map, codes, bytes_eq, nat_eq, ◌||◌, if◌then◌else◌}
use Rattle.mips_isa.specs.Lines.{Line, WordItem, Number, Address}
use Rattle.cool_classes.specs.declared.class_id.ClassId.{ClassId}
use Rattle.cool_classes.specs.Chains.{Class, class_number, name_of}
use Rattle.cool_classes.specs.Features.{attribute_type}
use Rattle.cool_runtime.specs.Labels.{false_constant, string_table, name_table, end_text, abort_text, newline_text, colon_text, no_branch_text, stop_text}
use Rattle.cool_runtime.specs.RoutineLabels.{class_objects, default_int, default_string, dispatch_text, case_text, division_text, substring_text, overflow_text}
use Rattle.cool_runtime.specs.Instructions.{label}
use Rattle.cool_runtime.specs.LinesOfData.{words, object_lines, int_lines, string_lines, text_lines}
use Rattle.cool_layout.specs.Preorder.{preorder, tag}
use Rattle.cool_layout.specs.Members.{attributes, methods}
use Rattle.cool_layout.specs.Labels.{prototype, initializer, dispatch_table, method_label, class_name, class_name_length}

abbrev pub int_tag : List Class → ℕ
int_tag p = tag p (class_number 2)

abbrev pub string_tag : List Class → ℕ
string_tag p = tag p (class_number 4)

-- the Strings of the names of the classes by tag
abbrev pub class_names_lines : List ClassId → List Line
class_names_lines order = label name_table ∷ words (map (λ c. Address (class_name c)) order) ∷ []

-- the prototype and the initializer of each class by tag
abbrev pub class_objects_lines : List Class → List ClassId → List Line
class_objects_lines p order = label class_objects ∷ map (λ c. words (Address (prototype p c) ∷ Address (initializer p c) ∷ [])) order

-- the methods of a class by slot
abbrev pub dispatch_table_lines : List Class → ClassId → List Line
dispatch_table_lines p c = label (dispatch_table p c) ∷ words (map (λ m. Address (method_label p m)) (methods p c)) ∷ []

-- the value of an attribute of a declared type before one is assigned (the Cool manual, section 5.1)
abbrev pub default_value : List ℕ → WordItem
default_value name =
    if bytes_eq name (codes "Int") then Address default_int
    else if bytes_eq name (codes "Bool") then Address false_constant
    else if bytes_eq name (codes "String") then Address default_string
    else Number (pos 0)

-- the fields after the head of the empty String: its length, and a zero
abbrev pub empty_string_fields : List WordItem
empty_string_fields = Address default_int ∷ Number (pos 0) ∷ []

-- the words after the head of a new object: Int and Bool have a value, and String a length and the zero of no bytes
abbrev pub new_fields : List Class → ClassId → List WordItem
new_fields p c =
    if nat_eq c.0 2 || nat_eq c.0 3 then Number (pos 0) ∷ []
    else if nat_eq c.0 4 then empty_string_fields
    else map (λ a. default_value (attribute_type p a)) (attributes p c)

abbrev pub prototype_lines : List Class → ClassId → List Line
prototype_lines p c = object_lines (prototype p c) (tag p c) (3 + length (new_fields p c)) (dispatch_table p c) (new_fields p c)

-- the Int 0 and the String of no bytes
abbrev pub default_lines : List Class → List Line
default_lines p =
    int_lines default_int (int_tag p) 0
    ++ object_lines default_string (string_tag p) 5 string_table empty_string_fields

abbrev pub name_lines : List Class → ClassId → List Line
name_lines p c = string_lines (class_name c) (class_name_length c) (int_tag p) (string_tag p) (name_of p c)

-- the texts that routines write
abbrev pub texts_lines : List Line
texts_lines =
    text_lines end_text (codes "COOL program successfully executed\n")
    ++ (text_lines abort_text (codes "Abort called from class ")
    ++ (text_lines newline_text (codes "\n")
    ++ (text_lines colon_text (codes ":")
    ++ (text_lines no_branch_text (codes ": No matching branch for class ")
    ++ (text_lines stop_text (codes ".\n")
    ++ (text_lines dispatch_text (codes ": Dispatch to void.\n")
    ++ (text_lines case_text (codes ": Case on void.\n")
    ++ (text_lines division_text (codes ": Division by zero.\n")
    ++ (text_lines substring_text (codes ": Substring out of range.\n")
    ++ text_lines overflow_text (codes ": Arithmetic overflow.\n"))))))))))

abbrev pub layout_lines : List Class → List Line
layout_lines p =
    class_names_lines (preorder p)
    ++ (class_objects_lines p (preorder p)
    ++ (flat_map (dispatch_table_lines p) (preorder p)
    ++ (flat_map (prototype_lines p) (preorder p)
    ++ (default_lines p
    ++ (flat_map (name_lines p) (preorder p)
    ++ texts_lines)))))
