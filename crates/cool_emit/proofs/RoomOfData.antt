-- The data of a program fits into its segment: the class limits bound tables and prototypes, and the size of the source bounds constants.
use Rattle.std.proofs.Common.{◌≡◌, ℕ, pos, ◌+◌, ◌*◌, ◌≤◌, ◌<◌, List, [], ◌∷◌, ◌++◌, length}
use Rattle.std.proofs.Common.{map, flat_map, Bool as Truth, true, false, ◌||◌, refl, arith}
use Rattle.std.proofs.lemmas.List.{length-map}
use Rattle.std.specs.Prelude.{if◌then◌else◌, nat_eq}
use Rattle.std.specs.List.{AllByRecursion}
use Rattle.mips_isa.specs.declared.address_map.TheConstants.{MOST_DATA_BYTES}
use Rattle.mips_isa.specs.Lines.{Name, Line, WordItem, Number, Address}
use Rattle.cool_syntax.specs.declared.TheConstants.{MOST_FILES}
use Rattle.cool_classes.specs.declared.TheConstants.{MOST_CLASSES}
use Rattle.cool_classes.specs.declared.class_id.ClassId.{ClassId}
use Rattle.cool_classes.specs.Chains.{Class, class_number, name_of}
use Rattle.cool_classes.specs.Limits.{KeepsLimits}
use Rattle.cool_classes.specs.Features.{attribute_type}
use Rattle.cool_rules.specs.Fits.{weight_of}
use Rattle.cool_runtime.specs.Labels.{true_constant, false_constant}
use Rattle.cool_runtime.specs.LinesOfData.{words, object_lines, int_lines, bool_lines, string_lines}
use Rattle.cool_layout.specs.Preorder.{preorder, tag}
use Rattle.cool_layout.specs.Members.{attributes}
use Rattle.cool_layout.specs.Labels.{prototype, initializer, dispatch_table, class_name, class_name_length}
use Rattle.cool_layout.specs.LinesOfLayout.{class_names_lines, dispatch_table_lines, default_value}
use Rattle.cool_layout.specs.LinesOfLayout.{empty_string_fields, new_fields, prototype_lines, default_lines}
use Rattle.cool_layout.specs.LinesOfLayout.{name_lines, texts_lines, layout_lines, int_tag, string_tag}
use Rattle.cool_layout.specs.Roots.{IsRooted}
use Rattle.cool_layout.proofs.TagRanges.{preorder_in, preorder_long}
use Rattle.cool_consts.specs.Constants.{Constants}
use Rattle.cool_consts.specs.Labels.{int_constant, string_constant, string_length}
use Rattle.cool_consts.specs.LinesOfConstants.{integers_lines, strings_lines, constants_lines}
use Rattle.cool_codegen.specs.Features.{feature_strings}
use Rattle.cool_emit.specs.SoundLines.{data_room}
use Rattle.cool_emit.specs.Programs.{all_features, program_constants, program_data, heap_lines, IsBuildable}
use Rattle.cool_emit.proofs.Totals.{total, total-le, total-sum, total-const}
use Rattle.cool_emit.proofs.ClassesInTurn.{class_weight, features_weigh, table_weight, weight_is_total}
use Rattle.cool_emit.proofs.ConstantsAsked.{program_integers, program_strings}
use Rattle.cool_emit.proofs.StringsOnce.{bytes_of, bytes_used, features_cost, files_bytes}
use Rattle.cool_emit.proofs.SlotsInLimits.{few_slots, few_attributes}
use Rattle.cool_emit.proofs.RootedTables.{rooted}
use Rattle.cool_emit.proofs.TotalsByTag.{by_tag}

-- the room of lines, one after the other
data_room-append : (xs ys : List Line) → data_room (xs ++ ys) ≡ data_room xs + data_room ys
data_room-append [] ys = omega arith
data_room-append (x ∷ xs) ys = omega (arith, data_room-append xs ys)

-- lines of each of some things, each within a bound
data_room-flat_map : {X : Type 0} (P : X → Type 0) (f : X → List Line) (g : X → ℕ) → ((x : X) → P x → data_room (f x) ≤ g x) → (xs : List X)
    → AllByRecursion P xs → data_room (flat_map f xs) ≤ total g xs
data_room-flat_map P f g le [] all = omega arith
data_room-flat_map P f g le (x ∷ xs) all =
    omega (arith, data_room-append (f x) (flat_map f xs), le x all.0, data_room-flat_map P f g le xs all.1)

-- objects

-- an object: the word before it, its label, its head and its fields
room_of_object : (name : Name) (t size : ℕ) (table : Name) (fields : List WordItem)
    → data_room (object_lines name t size table fields) ≡ 28 + 4 * length fields
room_of_object name t size table fields = omega arith

-- an Int, and a Bool
room_of_int : (name : Name) (t value : ℕ) → data_room (int_lines name t value) ≡ 32
room_of_int name t value = refl

room_of_bool : (name : Name) (t value : ℕ) → data_room (bool_lines name t value) ≡ 32
room_of_bool name t value = refl

-- a String, after the Int of its length
room_of_string : (name length_name : Name) (i t : ℕ) (bytes : List ℕ)
    → data_room (string_lines name length_name i t bytes) ≡ 73 + length bytes
room_of_string name length_name i t bytes = omega arith

-- constants: the integers, the strings, and these with the two Bools

room_of_integers : (t k : ℕ) (ns : List ℕ) → data_room (integers_lines t k ns) ≡ 32 * length ns
room_of_integers t k [] = refl
room_of_integers t k (n ∷ ns) = simp data_room-append (omega (arith, room_of_int (int_constant k) t n, room_of_integers t (k + 1) ns))

room_of_strings : (i t k : ℕ) (bs : List (List ℕ)) → data_room (strings_lines i t k bs) ≡ 73 * length bs + bytes_of bs
room_of_strings i t k [] = refl
room_of_strings i t k (b ∷ bs) =
    simp data_room-append (omega (arith, room_of_string (string_constant k) (string_length k) i t b, room_of_strings i t (k + 1) bs))

room_of_constants : (i b t : ℕ) (g : Constants)
    → data_room (constants_lines i b t g) ≡ 64 + 32 * length g.integers + 73 * length g.strings + bytes_of g.strings
room_of_constants i b t g =
    simp data_room-append (omega (
      arith,
      room_of_bool false_constant b 0,
      room_of_bool true_constant b 1,
      room_of_integers i 0 g.integers,
      room_of_strings i t 0 g.strings,
    ))

-- the layout, class by class

module _ (p : List Class) (r : IsRooted p) (limits : KeepsLimits p) where
  -- a dispatch table
  room_of_table : (c : ClassId) → c.0 < length p → data_room (dispatch_table_lines p c) ≤ 8008
  room_of_table c within =
      simp length-map (omega (arith, few_slots p r limits c within))

  -- a prototype has a field for each attribute, and those of the basic classes have no more than two
  few_fields : (c : ClassId) → c.0 < length p → length (new_fields p c) ≤ 2000
  few_fields c within = by (nat_eq c.0 2 || nat_eq c.0 3) (nat_eq c.0 4)
    where
      by : (a b : Truth)
          → length (if a then Number (pos 0) ∷ [] else if b then empty_string_fields
          else map (λ a. default_value (attribute_type p a)) (attributes p c))
          ≤ 2000
      by true b = omega arith
      by false true = omega arith
      by false false = simp length-map (omega (arith, few_attributes p r limits c within))

  room_of_prototype : (c : ClassId) → c.0 < length p → data_room (prototype_lines p c) ≤ 8028
  room_of_prototype c within =
      omega (
        arith,
        room_of_object (prototype p c) (tag p c) (3 + length (new_fields p c)) (dispatch_table p c) (new_fields p c),
        few_fields c within,
      )

  -- the String of the name of a class
  room_of_name : (c : ClassId) → c.0 < length p → data_room (name_lines p c) ≤ 73 + length (name_of p c)
  room_of_name c within = omega (arith, room_of_string (class_name c) (class_name_length c) (int_tag p) (string_tag p) (name_of p c))

-- the tables of all classes: two words for each, and one
room_of_pairs : (p : List Class) (order : List ClassId)
    → data_room (map (λ c. words (Address (prototype p c) ∷ Address (initializer p c) ∷ [])) order) ≡ 12 * length order
room_of_pairs p [] = refl
room_of_pairs p (c ∷ order) = omega (arith, room_of_pairs p order)

room_of_names : (order : List ClassId) → data_room (class_names_lines order) ≡ 8 + 4 * length order
room_of_names order = omega (arith, length-map order (λ c. Address (class_name c)))

-- the Int 0, the String of no bytes, and the texts that routines write
room_of_defaults : (p : List Class) → data_room (default_lines p) ≡ 68
room_of_defaults p = refl

room_of_texts : data_room texts_lines ≤ 500
room_of_texts = omega arith

-- the whole layout, by the number of the classes and their names
module _ (p : List Class) (r : IsRooted p) (limits : KeepsLimits p) where
  -- the dispatch tables, the prototypes and the names of all classes
  all_tables : data_room (flat_map (dispatch_table_lines p) (preorder p)) ≤ 8008 * length (preorder p)
  all_tables =
      omega (
        arith,
        data_room-flat_map (λ (c : ClassId). c.0 < length p) (dispatch_table_lines p) (λ c. 8008)
            (room_of_table p r limits) (preorder p) (preorder_in p r),
        total-const 8008 (preorder p),
      )

  all_prototypes : data_room (flat_map (prototype_lines p) (preorder p)) ≤ 8028 * length (preorder p)
  all_prototypes =
      omega (
        arith,
        data_room-flat_map (λ (c : ClassId). c.0 < length p) (prototype_lines p) (λ c. 8028)
            (room_of_prototype p r limits) (preorder p) (preorder_in p r),
        total-const 8028 (preorder p),
      )

  all_names : data_room (flat_map (name_lines p) (preorder p)) ≤ 73 * length (preorder p) + weight_of p
  all_names =
      omega (
        arith,
        data_room-flat_map (λ (c : ClassId). c.0 < length p) (name_lines p) (λ c. 73 + length (name_of p c))
            (room_of_name p r limits) (preorder p) (preorder_in p r),
        total-sum (λ (c : ClassId). 73) (λ c. length (name_of p c)) (preorder p),
        total-const 73 (preorder p),
        by_tag (λ c. length c.name) p r,
        total-le (λ (c : Class). length c.name) class_weight p (λ c. omega arith),
        weight_is_total p,
      )

  -- all of these
  room_of_layout : data_room (layout_lines p) ≤ 16125 * length p + weight_of p + 580
  room_of_layout =
      simp data_room-append (omega (
        arith,
        room_of_names (preorder p),
        room_of_pairs p (preorder p),
        room_of_defaults p,
        room_of_texts,
        all_tables,
        all_prototypes,
        all_names,
        preorder_long p r,
      ))

-- the bytes of all strings: those of the source, and the names of the files
program_bytes : (p : List Class) (files : List (List ℕ)) → IsBuildable p files → bytes_of (program_constants p files).strings ≤ 1310746
program_bytes p files b =
    let few : length files ≤ MOST_FILES = b.fits.files in
    omega (
      arith,
      bytes_used files (flat_map (λ f. feature_strings files f.feature) (all_features p)),
      features_cost files (all_features p),
      features_weigh p,
      table_weight p files b,
      files_bytes files b.names,
    )

-- the whole data
pub data_fits : (p : List Class) (files : List (List ℕ)) → IsBuildable p files → data_room (program_data p files) ≤ MOST_DATA_BYTES
data_fits p files b =
    let g : Constants = program_constants p files in
    let constants : List Line = constants_lines (tag p (class_number 2)) (tag p (class_number 3)) (tag p (class_number 4)) g in
    let few : length p ≤ 5 + MOST_CLASSES = b.fits.table.classes in
    omega (
      arith,
      data_room-append (layout_lines p) (constants ++ heap_lines),
      data_room-append constants heap_lines,
      room_of_layout p (rooted p b.typed.whole) b.fits.table,
      room_of_constants (tag p (class_number 2)) (tag p (class_number 3)) (tag p (class_number 4)) g,
      program_integers p files b,
      program_strings p files b,
      program_bytes p files b,
      table_weight p files b,
    )
