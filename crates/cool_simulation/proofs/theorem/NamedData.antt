-- Each label in the data of a program is a valid name of assembly, and so are all labels of the program.
use Rattle.std.proofs.Common.{ℕ, ◌+◌, ◌<◌, List, [], ◌∷◌, ◌++◌, length, map, flat_map, refl}
use Rattle.std.specs.Prelude.{codes}
use Rattle.mips_isa.specs.Lines.{Line, WordItem, Address, ToData}
use Rattle.mips_isa.specs.Assembly.{directive_line}
use Rattle.cool_classes.specs.declared.class_id.ClassId.{ClassId}
use Rattle.cool_classes.specs.Chains.{Class, class_number}
use Rattle.cool_runtime.specs.Labels.{false_constant, true_constant, name_table, end_text, abort_text, newline_text, colon_text, no_branch_text, stop_text}
use Rattle.cool_runtime.specs.RoutineLabels.{class_objects, default_int, default_string, dispatch_text, case_text, division_text, substring_text, overflow_text}
use Rattle.cool_runtime.specs.LinesOfData.{words, bool_lines}
use Rattle.cool_layout.specs.Labels.{prototype, initializer}
use Rattle.cool_layout.specs.LinesOfLayout.{class_names_lines, class_objects_lines, dispatch_table_lines, prototype_lines, default_lines, name_lines, texts_lines, layout_lines}
use Rattle.cool_layout.specs.Preorder.{preorder, tag}
use Rattle.cool_layout.proofs.TagRanges.{preorder_in}
use Rattle.cool_consts.specs.LinesOfConstants.{integers_lines, strings_lines}
use Rattle.cool_emit.specs.SoundLines.{labels_of}
use Rattle.cool_emit.specs.Programs.{program_constants, program_text, program_data, program_lines, heap_lines, IsBuildable}
use Rattle.cool_emit.proofs.LabelsThere.{from_defaults, from_prototypes, from_tables, from_objects, lines_of_constants}
use Rattle.cool_emit.proofs.RootedTables.{rooted}
use Rattle.cool_simulation.proofs.theorem.NamesOfLabels.{numbered_is_name}
use Rattle.cool_simulation.proofs.theorem.NamedCode.{AreNamed, named-append, named_each, listed_named, class_label_is_name, text_named}

-- words have no labels
words_named : {X : Type 0} (f : X → List WordItem) (xs : List X) → AreNamed (map (λ x. words (f x)) xs)
words_named f [] = tt
words_named f (x ∷ xs) = words_named f xs

-- labels that are written out

names_table_named : (order : List ClassId) → AreNamed (class_names_lines order)
unfolding name_table
names_table_named order = (refl, tt)

objects_named : (p : List Class) (order : List ClassId) → AreNamed (class_objects_lines p order)
unfolding class_objects
objects_named p order = (refl, words_named (λ c. Address (prototype p c) ∷ Address (initializer p c) ∷ []) order)

defaults_named : (p : List Class) → AreNamed (default_lines p)
unfolding default_int default_string
defaults_named p = (refl, (refl, tt))

texts_named : AreNamed texts_lines
unfolding end_text abort_text newline_text colon_text no_branch_text stop_text dispatch_text case_text division_text substring_text overflow_text
texts_named = listed_named (labels_of texts_lines) refl

false_named : (tag : ℕ) → AreNamed (bool_lines false_constant tag 0)
unfolding false_constant
false_named tag = (refl, tt)

true_named : (tag : ℕ) → AreNamed (bool_lines true_constant tag 1)
unfolding true_constant
true_named tag = (refl, tt)

-- the name of a class
name_named : (p : List Class) (c : ClassId) → AreNamed (name_lines p c)
name_named p c = (numbered_is_name (codes "__name_length") c.0 refl, (numbered_is_name (codes "__name") c.0 refl, tt))

-- constants
integers_named : (tag k : ℕ) (ns : List ℕ) → AreNamed (integers_lines tag k ns)
integers_named tag k [] = tt
integers_named tag k (n ∷ ns) = (numbered_is_name (codes "int_const") k refl, integers_named tag (k + 1) ns)

strings_named : (of_int of_string k : ℕ) (bs : List (List ℕ)) → AreNamed (strings_lines of_int of_string k bs)
strings_named of_int of_string k [] = tt
strings_named of_int of_string k (bytes ∷ bs) =
    (numbered_is_name (codes "__length") k refl, (numbered_is_name (codes "str_const") k refl, strings_named of_int of_string (k + 1) bs))

module _ (p : List Class) (files : List (List ℕ)) (b : IsBuildable p files) where
  -- the lines made for each class by tag
  by_tag_named : (f : ClassId → List Line) → ((c : ClassId) → c.0 < length p → AreNamed (f c)) → AreNamed (flat_map f (preorder p))
  by_tag_named f each = named_each (λ (c : ClassId). c.0 < length p) f (preorder p) each (preorder_in p (rooted p b.typed.whole))

  -- the layout
  layout_named : AreNamed (layout_lines p)
  layout_named =
      named-append (class_names_lines (preorder p)) (from_objects p) (names_table_named (preorder p))
      (named-append (class_objects_lines p (preorder p)) (from_tables p) (objects_named p (preorder p))
      (named-append (flat_map (dispatch_table_lines p) (preorder p)) (from_prototypes p)
      (by_tag_named (dispatch_table_lines p) (λ c within. (class_label_is_name p files b c (codes "_dispTab") within refl, tt)))
      (named-append (flat_map (prototype_lines p) (preorder p)) (from_defaults p)
      (by_tag_named (prototype_lines p) (λ c within. (class_label_is_name p files b c (codes "_protObj") within refl, tt)))
      (named-append (default_lines p) (flat_map (name_lines p) (preorder p) ++ texts_lines) (defaults_named p)
      (named-append (flat_map (name_lines p) (preorder p)) texts_lines (by_tag_named (name_lines p) (λ c within. name_named p c)) texts_named)))))

  -- the constants
  constants_named : AreNamed (lines_of_constants p files)
  constants_named =
      let g = program_constants p files in
      let int = tag p (class_number 2) in
      let bool = tag p (class_number 3) in
      let string = tag p (class_number 4) in
      let ints : List Line = integers_lines int 0 g.integers in
      let strings : List Line = strings_lines int string 0 g.strings in
      named-append (bool_lines false_constant bool 0) (bool_lines true_constant bool 1 ++ (ints ++ strings)) (false_named bool)
      (named-append (bool_lines true_constant bool 1) (ints ++ strings) (true_named bool)
      (named-append ints strings (integers_named int 0 g.integers) (strings_named int string 0 g.strings)))

  -- the labels of the data are names
  pub data_named : AreNamed (program_data p files)
  data_named =
      named-append (layout_lines p) (lines_of_constants p files ++ heap_lines) layout_named
      (named-append (lines_of_constants p files) heap_lines constants_named (refl, tt))

  -- all labels of a program are names
  pub program_named : AreNamed (program_lines p files)
  program_named = named-append (program_text p files) (directive_line ToData ∷ program_data p files) (text_named p files b) data_named
