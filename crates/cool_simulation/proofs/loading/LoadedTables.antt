-- The loaded data of a program holds its tables: prototypes and dispatch tables for each class, and class names and initializers by class tag.
use Rattle.std.proofs.Common.{◌≡◌, ℕ, zero, suc, ◌+◌, ◌*◌, ◌%◌, ◌<◌, List, [], ◌∷◌, ◌++◌, length, map, get_or, flat_map, Bool, true, false, Some, refl, sym, ap, ◌∙◌, subst, arith}
use Rattle.std.specs.Prelude.{bytes_eq, ◌&&◌}
use Rattle.std.specs.List.{list_all}
use Rattle.std.proofs.lemmas.List.{length-map, map-append, get_or-map}
use Rattle.std.proofs.lemmas.List.Quantifiers.{position-Some}
use Rattle.mips_isa.specs.declared.address_map.TheConstants.{DATA_START, HEAP_START}
use Rattle.mips_isa.specs.Bytes.{Bytes, word}
use Rattle.mips_isa.specs.Lines.{Line, WordItem, Address}
use Rattle.mips_isa.specs.Assembly.{Position, up, after_line}
use Rattle.cool_syntax.specs.Lexemes.{is_in_word}
use Rattle.cool_classes.specs.declared.class_id.ClassId.{ClassId}
use Rattle.cool_classes.specs.Chains.{Class, class_number, name_of}
use Rattle.cool_runtime.specs.Reaches.{World}
use Rattle.cool_runtime.specs.Contents.{ObjectAt, StringAt, NameAt, IsText}
use Rattle.cool_runtime.specs.Instructions.{label}
use Rattle.cool_runtime.specs.Labels.{name_table}
use Rattle.cool_runtime.specs.RoutineLabels.{class_objects}
use Rattle.cool_runtime.specs.LinesOfData.{words}
use Rattle.cool_layout.specs.Preorder.{preorder, tag}
use Rattle.cool_layout.specs.Members.{slots, slot, method, methods}
use Rattle.cool_layout.specs.Labels.{prototype, initializer, dispatch_table, method_label, class_name, class_name_length}
use Rattle.cool_layout.specs.LinesOfLayout.{int_tag, string_tag, class_names_lines, class_objects_lines, dispatch_table_lines, new_fields, prototype_lines, name_lines, texts_lines}
use Rattle.cool_layout.proofs.TagRanges.{at_tag, preorder_long}
use Rattle.cool_emit.specs.Programs.{program_text, program_data, IsBuildable}
use Rattle.cool_emit.proofs.RootedTables.{rooted}
use Rattle.cool_emit.proofs.LabelsThere.{from_defaults, from_prototypes, from_tables, from_objects, in_preorder}
use Rattle.cool_emit.proofs.NamesApart.{IsWord}
use Rattle.cool_emit.proofs.NamesOfClasses.{is_word}
use Rattle.cool_simulation.specs.Loadings.{item_word, InData}
use Rattle.cool_simulation.proofs.loading.PartsOfLines.{Among, among_left, among_right, among_flat}
use Rattle.cool_simulation.proofs.loading.LoadedImages.{HasImage}
use Rattle.cool_simulation.proofs.loading.LoadedItems.{memory, nth_word, at_part, at_right, label_there, place_fits, HasWords, words_there, labelled_words}
use Rattle.cool_simulation.proofs.loading.LoadedStrings.{object_at, string_at}
use Rattle.cool_simulation.proofs.loading.LoadedConstants.{int_tag_is, string_tag_is, among_layout, among_objects, among_tables, among_prototypes, among_names}
use Rattle.mips_asm.specs.Passes.{after_lines}
use Rattle.lists.proofs.EqualBytes.{bytes_equal}

-- Names are texts

word_byte : (b : ℕ) → is_in_word b ≡ true → (0 < b) × (b < 256)
word_byte b h = (grind arith, grind arith)

word_text : (bs : List ℕ) → list_all is_in_word bs ≡ true → IsText bs
word_text [] h = tt
word_text (b ∷ bs) h = by (is_in_word b) refl h (word_text bs)
  where
    by : (t : Bool) → is_in_word b ≡ t → (t && list_all is_in_word bs) ≡ true → (list_all is_in_word bs ≡ true → IsText bs) → IsText (b ∷ bs)
    by true e h rest = (word_byte b e, rest h)
    by false e h rest = absurd (cc)

name_text : (name : List ℕ) → IsWord name → IsText name
name_text name w = subst IsText (sym w.is) ((grind (arith, w.capital), grind (arith, w.capital)), word_text w.rest w.word)

-- a list in two parts, by a place

cut_at : (order : List ClassId) (k : ℕ) (d : ClassId) → k < length order → (front : List ClassId) × (back : List ClassId) × (order ≡ front ++ get_or order k d ∷ back) × (length front ≡ k)
cut_at [] k d less = absurd (omega arith)
cut_at (c ∷ order) zero d less = ([], order, refl, refl)
cut_at (c ∷ order) (suc k) d less = let (front, back, e, l) = cut_at order k d (omega arith) in (c ∷ front, back, ap (λ (xs : List ClassId). c ∷ xs) e, omega arith)

module _ (p : List Class) (files : List (List ℕ)) (b : IsBuildable p files) (w : World) (g : HasImage (program_text p files) (program_data p files) w)
    (tags : w.tags ≡ record { int = tag p (class_number 2); bool = tag p (class_number 3); string = tag p (class_number 4) }) where
  abbrev data' : List Line
  data' = program_data p files

  abbrev stored : Bytes
  stored = memory (program_text p files) (program_data p files) w g

  -- prototypes

  pub prototype_there : (c : ClassId) → c.0 < length p
      → ObjectAt w stored HEAP_START (w.place (prototype p c)) (tag p c) (3 + length (new_fields p c)) (w.place (dispatch_table p c)) (map (item_word w) (new_fields p c))
  prototype_there c within =
      object_at (program_text p files) data' w g (prototype p c) (tag p c) (dispatch_table p c) (new_fields p c)
      (among_flat data' (prototype_lines p) (preorder p) c (in_preorder p (rooted p b.typed.whole) c within)
      (among_left data' (flat_map (prototype_lines p) (preorder p)) (from_defaults p) (among_prototypes p files w g tags)))

  -- dispatch tables

  table_words : (c : ClassId) → c.0 < length p → HasWords (program_text p files) data' w g (w.place (dispatch_table p c)) (map (λ m. Address (method_label p m)) (methods p c))
  table_words c within =
      labelled_words (program_text p files) data' w g (dispatch_table p c) (map (λ m. Address (method_label p m)) (methods p c)) []
      (among_flat data' (dispatch_table_lines p) (preorder p) c (in_preorder p (rooted p b.typed.whole) c within)
      (among_left data' (flat_map (dispatch_table_lines p) (preorder p)) (from_prototypes p) (among_tables p files w g tags)))

  pub table_fits : (c : ClassId) → c.0 < length p → (w.place (dispatch_table p c) % 4 ≡ 0) × (w.place (dispatch_table p c) < 4294967296)
  table_fits c within = ((table_words c within).even, place_fits (program_text p files) data' w g (dispatch_table p c))

  many_methods : (c : ClassId) → length (map (λ m. Address (method_label p m)) (methods p c)) ≡ length (slots p c)
  many_methods c = length-map (methods p c) (λ m. Address (method_label p m)) ∙ length-map (slots p c) (method p c)

  pub slot_in : (c : ClassId) (name : List ℕ) (k : ℕ) → c.0 < length p → slot p c name ≡ Some k → InData w (w.place (dispatch_table p c) + 4 * k) 1
  slot_in c name k within is =
      let own = table_words c within in
      let found = position-Some (bytes_eq name) (slots p c) k [] is in
      let many = many_methods c in
      let less : k < length (slots p c) = found.0 in
      let even = own.even in
      let from = own.from in
      let to = own.to in
      record { even = omega arith; from = omega arith; to = omega arith }

  pub slot_there : (c : ClassId) (name : List ℕ) (k : ℕ) → c.0 < length p → slot p c name ≡ Some k → word stored (w.place (dispatch_table p c) + 4 * k) ≡ w.place (method_label p (method p c name))
  slot_there c name k within is =
      let own = table_words c within in
      let found = position-Some (bytes_eq name) (slots p c) k [] is in
      let many = many_methods c in
      let less : k < length (slots p c) = found.0 in
      let list : List WordItem = map (λ m. Address (method_label p m)) (methods p c) in
      let same : get_or (slots p c) k [] ≡ name = sym (bytes_equal name (get_or (slots p c) k []) found.1) in
      let long : length (methods p c) ≡ length (slots p c) = length-map (slots p c) (method p c) in
      nth_word w stored (w.place (dispatch_table p c)) k list (omega arith) own.at
      ∙ get_or-map (item_word w) list k (Address []) 0 (omega arith)
      ∙ ap (item_word w) (get_or-map (λ m. Address (method_label p m)) (methods p c) k (method p c []) (Address []) (omega arith))
      ∙ ap (λ m. w.place (method_label p m)) (get_or-map (method p c) (slots p c) k [] (method p c []) less)
      ∙ ap (λ f. w.place (method_label p (method p c f))) same

  -- names by tag

  name_words : HasWords (program_text p files) data' w g (w.place name_table) (map (λ c. Address (class_name c)) (preorder p))
  name_words =
      labelled_words (program_text p files) data' w g name_table (map (λ c. Address (class_name c)) (preorder p)) []
      (among_left data' (class_names_lines (preorder p)) (from_objects p) (among_layout p files w g tags))

  name_string : (c : ClassId) → c.0 < length p → StringAt w stored HEAP_START (w.place (class_name c)) (name_of p c)
  name_string c within =
      string_at (program_text p files) data' w g (class_name c) (class_name_length c) (int_tag p) (string_tag p) (name_of p c) (int_tag_is p files w g tags) (string_tag_is p files w g tags)
      (name_text (name_of p c) (is_word (name_of p c) (b.fits.names c within)))
      (among_flat data' (name_lines p) (preorder p) c (in_preorder p (rooted p b.typed.whole) c within)
      (among_left data' (flat_map (name_lines p) (preorder p)) texts_lines (among_names p files w g tags)))

  pub name_there : (c : ClassId) → c.0 < length p → NameAt w stored HEAP_START (tag p c) (name_of p c)
  name_there c within =
      let r = rooted p b.typed.whole in
      let (low, at) = at_tag p r c within in
      let list : List WordItem = map (λ c. Address (class_name c)) (preorder p) in
      let long : length list ≡ length (preorder p) = length-map (preorder p) (λ c. Address (class_name c)) in
      let all : length (preorder p) ≡ length p = preorder_long p r in
      let to = name_words.to in
      let there : word stored (w.place name_table + 4 * tag p c) ≡ w.place (class_name c) =
      nth_word w stored (w.place name_table) (tag p c) list (omega arith) name_words.at
      ∙ get_or-map (item_word w) list (tag p c) (Address []) 0 (omega arith)
      ∙ ap (item_word w) (get_or-map (λ c. Address (class_name c)) (preorder p) (tag p c) (class_number 0) (Address []) (omega arith))
      ∙ ap (λ d. w.place (class_name d)) at in
      record {
        even = name_words.even;
        from = name_words.from;
        to = omega arith;
        string = subst (λ a. StringAt w stored HEAP_START a (name_of p c)) (sym there) (name_string c within);
      }

  -- prototypes and initializers by tag

  abbrev pair_line : ClassId → Line
  pair_line c = words (Address (prototype p c) ∷ Address (initializer p c) ∷ [])

  pairs_end : (q : Position) (front : List ClassId) → up 4 (after_lines q (map pair_line front)).bytes ≡ up 4 q.bytes + 8 * length front
  pairs_end q [] = omega arith
  pairs_end q (c ∷ front) =
      let h = pairs_end (after_line (pair_line c) q) front in
      let e : (after_line (pair_line c) q).bytes ≡ up 4 q.bytes + 8 = refl in
      omega arith

  pair_words : (c : ClassId) (front back : List ClassId) → Among data' ((label class_objects ∷ map pair_line front) ++ (pair_line c ∷ map pair_line back))
      → HasWords (program_text p files) data' w g (w.place class_objects + 8 * length front) (Address (prototype p c) ∷ Address (initializer p c) ∷ [])
  pair_words c front back h =
      let list : List WordItem = Address (prototype p c) ∷ Address (initializer p c) ∷ [] in
      let first : List Line = label class_objects ∷ map pair_line front in
      let rest : List Line = pair_line c ∷ map pair_line back in
      let k : Among data' rest = among_right data' first rest h in
      let q : Position = at_part (program_text p files) data' w g (first ++ rest) h in
      let same : (at_part (program_text p files) data' w g rest k).bytes ≡ (after_lines q (map pair_line front)).bytes = ap (λ (x : Position). x.bytes) (at_right (program_text p files) data' w g first rest h) in
      let end = pairs_end q front in
      let place : w.place class_objects ≡ DATA_START + up 4 q.bytes = place_of front h in
      let at : DATA_START + up 4 (at_part (program_text p files) data' w g rest k).bytes ≡ w.place class_objects + 8 * length front = omega arith in
      subst (λ a. HasWords (program_text p files) data' w g a list) at (words_there (program_text p files) data' w g list (map pair_line back) k)
    where
      place_of : (front : List ClassId) (h : Among data' ((label class_objects ∷ map pair_line front) ++ (pair_line c ∷ map pair_line back)))
          → w.place class_objects ≡ DATA_START + up 4 (at_part (program_text p files) data' w g ((label class_objects ∷ map pair_line front) ++ (pair_line c ∷ map pair_line back)) h).bytes
      place_of [] h = label_there (program_text p files) data' w g class_objects (pair_line c) (map pair_line back) 4 8 h refl
      place_of (d ∷ front) h = label_there (program_text p files) data' w g class_objects (pair_line d) (map pair_line front ++ (pair_line c ∷ map pair_line back)) 4 8 h refl

  objects_words : (c : ClassId) → c.0 < length p → HasWords (program_text p files) data' w g (w.place class_objects + 8 * tag p c) (Address (prototype p c) ∷ Address (initializer p c) ∷ [])
  objects_words c within =
      let r = rooted p b.typed.whole in
      let (low, at) = at_tag p r c within in
      let all : length (preorder p) ≡ length p = preorder_long p r in
      let (front, back, e, long) = cut_at (preorder p) (tag p c) (class_number 0) (omega arith) in
      let split : preorder p ≡ front ++ c ∷ back = e ∙ ap (λ d. front ++ d ∷ back) at in
      let lines : class_objects_lines p (preorder p) ≡ (label class_objects ∷ map pair_line front) ++ (pair_line c ∷ map pair_line back) =
      ap (class_objects_lines p) split ∙ ap (λ (l : List Line). label class_objects ∷ l) (map-append pair_line front (c ∷ back)) in
      subst (λ n. HasWords (program_text p files) data' w g (w.place class_objects + 8 * n) (Address (prototype p c) ∷ Address (initializer p c) ∷ [])) long
      (pair_words c front back (subst (Among data') lines (among_left data' (class_objects_lines p (preorder p)) (from_tables p) (among_objects p files w g tags))))

  pub class_objects_in : (c : ClassId) → c.0 < length p → InData w (w.place class_objects + 8 * tag p c) 2
  class_objects_in c within = let own = objects_words c within in record { even = own.even; from = own.from; to = own.to }

  pub class_objects_there : (c : ClassId) → c.0 < length p
      → (word stored (w.place class_objects + 8 * tag p c) ≡ w.place (prototype p c)) × (word stored (w.place class_objects + 8 * tag p c + 4) ≡ w.place (initializer p c))
  class_objects_there c within = let own = objects_words c within in (own.at.0, own.at.1.0)
