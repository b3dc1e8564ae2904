-- No `.word` directive in the data of a program is without operands: there is at least one class, and each class has the methods of Object.
use Rattle.std.proofs.Common.{◌≡◌, ℕ, ◌+◌, ◌<◌, List, [], ◌∷◌, ◌++◌, length, map, flat_map, Option, Some, None, is_some, true, refl, sym, ap, ◌∙◌, subst, arith, true≢false}
use Rattle.std.specs.Prelude.{codes}
use Rattle.std.specs.List.{AllByRecursion}
use Rattle.std.proofs.lemmas.List.{length-map}
use Rattle.mips_isa.specs.Lines.{Line, Address, DataItem, Word, Byte, Ascii, Asciiz, Space, Statement, Empty, Instruction, Data, Directive}
use Rattle.cool_classes.specs.declared.class_id.ClassId.{ClassId}
use Rattle.cool_classes.specs.declared.method.MethodRef.{MethodRef}
use Rattle.cool_classes.specs.Chains.{Class, class_number, parent_of, IsChain}
use Rattle.cool_classes.specs.ClimbedChains.{chain}
use Rattle.cool_classes.specs.Features.{own_method, first_of, implementation}
use Rattle.cool_runtime.specs.Labels.{false_constant, true_constant}
use Rattle.cool_runtime.specs.LinesOfData.{words, bool_lines}
use Rattle.cool_layout.specs.Labels.{prototype, initializer, class_name, method_label}
use Rattle.cool_layout.specs.LinesOfLayout.{class_names_lines, class_objects_lines, dispatch_table_lines, prototype_lines, default_lines, name_lines, texts_lines, layout_lines}
use Rattle.cool_layout.specs.Members.{slots, method, methods}
use Rattle.cool_layout.specs.Preorder.{preorder, tag}
use Rattle.cool_layout.specs.Roots.{IsRooted}
use Rattle.cool_layout.proofs.ShortChains.{chain_is}
use Rattle.cool_layout.proofs.SlotNames.{has, slots_any}
use Rattle.cool_layout.proofs.TagRanges.{preorder_in}
use Rattle.cool_consts.specs.LinesOfConstants.{integers_lines, strings_lines}
use Rattle.cool_emit.specs.Programs.{program_constants, program_data, heap_lines, IsBuildable}
use Rattle.cool_emit.proofs.ConstantsInRange.{all_flat}
use Rattle.cool_emit.proofs.FixedNamesThere.{basic_within}
use Rattle.cool_emit.proofs.LabelsThere.{from_defaults, from_prototypes, from_tables, from_objects, lines_of_constants, in_preorder}
use Rattle.cool_emit.proofs.RootedTables.{rooted}
use Rattle.lists.proofs.AllItems.{all_append}

-- a `.word` has an operand, as an item and as a statement
abbrev pub IsFilledItem : DataItem → Type 0
IsFilledItem (Word items) = 0 < length items
IsFilledItem (Byte items) = Unit {0}
IsFilledItem (Ascii bytes) = Unit {0}
IsFilledItem (Asciiz bytes) = Unit {0}
IsFilledItem (Space n) = Unit {0}

abbrev pub IsFilled : Statement → Type 0
IsFilled Empty = Unit {0}
IsFilled (Instruction i) = Unit {0}
IsFilled (Data item) = IsFilledItem item
IsFilled (Directive directive) = Unit {0}

abbrev IsFilledLine : Line → Type 0
IsFilledLine line = IsFilled line.statement

-- each `.word` of lines has one
abbrev pub AreFilled : List Line → Type 0
AreFilled = AllByRecursion (λ line. IsFilled line.statement)

-- Methods

-- each class on a chain that ends at Object has the method `abort`
chain_aborts : (p : List Class) → IsRooted p → (c : ClassId) (ds : List ClassId) → c.0 < length p → IsChain p (Some c) ds → is_some (implementation p ds (codes "abort")) ≡ true
chain_aborts p r c [] within h = absurd h
chain_aborts p r c (d ∷ ds) within h = by (parent_of p c) refl h.1 (own_method p d (codes "abort")) refl (λ q low rest. chain_aborts p r q ds low rest)
  where
    top : c ≡ class_number 0 → is_some (own_method p d (codes "abort")) ≡ true
    top e = ap (λ (x : ClassId). is_some (own_method p x (codes "abort"))) (h.0 ∙ e)

    by : (q : Option ClassId) → parent_of p c ≡ q → IsChain p (parent_of p c) ds → (o : Option MethodRef) → own_method p d (codes "abort") ≡ o
        → ((q : ClassId) → q.0 < length p → IsChain p (Some q) ds → is_some (implementation p ds (codes "abort")) ≡ true) → is_some (first_of o (implementation p ds (codes "abort"))) ≡ true
    by q e rest (Some m) k more = refl
    by None e rest None k more = absurd (true≢false (sym (top (r.top c within e)) ∙ ap is_some k))
    by (Some q) e rest None k more = more q (r.above c q within e) (subst (λ (o : Option ClassId). IsChain p o ds) e rest)

-- so a class has a method
some_slot : (names : List (List ℕ)) → has (codes "abort") names ≡ true → 0 < length names
some_slot [] h = absurd (true≢false (sym h))
some_slot (name ∷ names) h = omega arith

some_method : (p : List Class) → IsRooted p → (c : ClassId) → c.0 < length p → 0 < length (methods p c)
some_method p r c within =
    let some : 0 < length (slots p c) = some_slot (slots p c) (slots_any p (chain p c) (codes "abort") ∙ chain_aborts p r c (chain p c) within (chain_is p r c within)) in
    omega (arith, length-map (slots p c) (method p c))

-- Parts of data

objects_filled : (p : List Class) (order : List ClassId) → AllByRecursion IsFilledLine (map (λ (c : ClassId). words (Address (prototype p c) ∷ Address (initializer p c) ∷ [])) order)
objects_filled p [] = tt
objects_filled p (c ∷ order) = (omega arith, objects_filled p order)

integers_filled : (tag k : ℕ) (ns : List ℕ) → AreFilled (integers_lines tag k ns)
integers_filled tag k [] = tt
integers_filled tag k (n ∷ ns) = (omega arith, (tt, (omega arith, integers_filled tag (k + 1) ns)))

strings_filled : (of_int of_string k : ℕ) (bs : List (List ℕ)) → AreFilled (strings_lines of_int of_string k bs)
strings_filled of_int of_string k [] = tt
strings_filled of_int of_string k (bytes ∷ bs) =
    (omega arith, (tt, (omega arith, (omega arith, (tt, (omega arith, (tt, (tt, strings_filled of_int of_string (k + 1) bs))))))))

module _ (p : List Class) (files : List (List ℕ)) (b : IsBuildable p files) where
  -- there is a class
  some_class : 0 < length (preorder p)
  some_class =
      let there = in_preorder p (rooted p b.typed.whole) (class_number 0) (basic_within p files b 0 (omega arith)) in
      let within = there.1 in
      omega arith

  -- the lines made for each class by tag
  by_tag_filled : (f : ClassId → List Line) → ((c : ClassId) → c.0 < length p → AreFilled (f c)) → AreFilled (flat_map f (preorder p))
  by_tag_filled f each = all_flat (λ (c : ClassId). c.0 < length p) IsFilledLine f (preorder p) each (preorder_in p (rooted p b.typed.whole))

  table_filled : (c : ClassId) → c.0 < length p → AreFilled (dispatch_table_lines p c)
  table_filled c within =
      let some : 0 < length (methods p c) = some_method p (rooted p b.typed.whole) c within in
      (tt, (omega (arith, length-map (methods p c) (λ m. Address (method_label p m))), tt))

  -- the layout
  layout_filled : AreFilled (layout_lines p)
  layout_filled =
      all_append IsFilledLine (class_names_lines (preorder p)) (from_objects p) (tt, (omega (arith, some_class, length-map (preorder p) (λ c. Address (class_name c))), tt))
      (all_append IsFilledLine (class_objects_lines p (preorder p)) (from_tables p) (tt, objects_filled p (preorder p))
      (all_append IsFilledLine (flat_map (dispatch_table_lines p) (preorder p)) (from_prototypes p) (by_tag_filled (dispatch_table_lines p) table_filled)
      (all_append IsFilledLine (flat_map (prototype_lines p) (preorder p)) (from_defaults p) (by_tag_filled (prototype_lines p) (λ c within. (omega arith, (tt, (omega arith, tt)))))
      (all_append IsFilledLine (default_lines p) (flat_map (name_lines p) (preorder p) ++ texts_lines) (omega arith, (tt, (omega arith, (omega arith, (tt, (omega arith, tt))))))
      (all_append IsFilledLine (flat_map (name_lines p) (preorder p)) texts_lines
      (by_tag_filled (name_lines p) (λ c within. (omega arith, (tt, (omega arith, (omega arith, (tt, (omega arith, (tt, (tt, tt))))))))))
      texts_filled)))))
    where
      texts_filled : AreFilled texts_lines
      texts_filled =
          (tt, (tt, (tt, (tt, (tt, (tt, (tt, (tt, (tt, (tt, (tt, (tt, (tt, (tt, (tt, (tt, (tt, (tt, (tt, (tt, (tt, (tt, tt))))))))))))))))))))))

  -- the constants
  constants_filled : AreFilled (lines_of_constants p files)
  constants_filled =
      let g = program_constants p files in
      let int = tag p (class_number 2) in
      let bool = tag p (class_number 3) in
      let string = tag p (class_number 4) in
      let ints : List Line = integers_lines int 0 g.integers in
      let strings : List Line = strings_lines int string 0 g.strings in
      all_append IsFilledLine (bool_lines false_constant bool 0) (bool_lines true_constant bool 1 ++ (ints ++ strings)) (omega arith, (tt, (omega arith, tt)))
      (all_append IsFilledLine (bool_lines true_constant bool 1) (ints ++ strings) (omega arith, (tt, (omega arith, tt)))
      (all_append IsFilledLine ints strings (integers_filled int 0 g.integers) (strings_filled int string 0 g.strings)))

  -- no `.word` of the data is empty
  pub data_filled : AreFilled (program_data p files)
  data_filled =
      all_append IsFilledLine (layout_lines p) (lines_of_constants p files ++ heap_lines) layout_filled
      (all_append IsFilledLine (lines_of_constants p files) heap_lines constants_filled (tt, (omega arith, tt)))
