-- No label occurs twice in the data of a program: class tables and prototypes, default values, texts and constants have different labels.
use Rattle.std.proofs.Common.{◌≡◌, ℕ, ◌+◌, ◌^◌, ◌<◌, ◌≤◌, List, [], ◌∷◌, ◌++◌, length, map}
use Rattle.std.proofs.Common.{flat_map, Bool, true, false, ◌&&◌, refl, ap, ◌∙◌, arith}
use Rattle.std.specs.Prelude.{nat_eq, nat_lt, bytes_eq, codes}
use Rattle.std.specs.List.{AllByRecursion}
use Rattle.mips_isa.specs.Lines.{Name, Line, WordItem, Address}
use Rattle.cool_classes.specs.declared.class_id.ClassId.{ClassId}
use Rattle.cool_classes.specs.Chains.{Class, class_number, name_of}
use Rattle.cool_classes.specs.Tables.{IsTable}
use Rattle.cool_runtime.specs.Labels.{false_constant, true_constant, name_table, end_text, abort_text}
use Rattle.cool_runtime.specs.Labels.{newline_text, colon_text, no_branch_text, stop_text}
use Rattle.cool_runtime.specs.RoutineLabels.{class_objects, default_int, default_string, dispatch_text}
use Rattle.cool_runtime.specs.RoutineLabels.{case_text, division_text, substring_text, overflow_text}
use Rattle.cool_runtime.specs.LinesOfData.{words, bool_lines}
use Rattle.cool_layout.specs.Labels.{prototype, initializer, dispatch_table, class_name, class_name_length}
use Rattle.cool_layout.specs.LinesOfLayout.{class_names_lines, class_objects_lines, dispatch_table_lines}
use Rattle.cool_layout.specs.LinesOfLayout.{prototype_lines, default_lines, name_lines, texts_lines, layout_lines}
use Rattle.cool_layout.specs.Preorder.{preorder, tag}
use Rattle.cool_layout.specs.Roots.{IsRooted}
use Rattle.cool_layout.proofs.Counting.{one}
use Rattle.cool_layout.proofs.Counting as classes
use Rattle.cool_layout.proofs.TagRanges.{once, preorder_in}
use Rattle.cool_consts.specs.Constants.{Constants}
use Rattle.cool_consts.specs.Labels.{int_constant, string_constant, string_length}
use Rattle.cool_consts.specs.LinesOfConstants.{integers_lines, strings_lines, constants_lines}
use Rattle.cool_emit.specs.SoundLines.{labels_of}
use Rattle.cool_emit.specs.Programs.{program_constants, program_data, heap_lines, heap_start, IsBuildable}
use Rattle.cool_emit.proofs.CountedNames.{between, times, total_from, hit, listed, total_one, under, beside}
use Rattle.cool_emit.proofs.ConstantsAsked.{program_integers, program_strings}
use Rattle.cool_emit.proofs.NamesApart.{IsWord, word_starts, sort, table_sort, table_class, prototype_sort}
use Rattle.cool_emit.proofs.NamesApart.{prototype_class, end_number, name_length_sort, name_sort}
use Rattle.cool_emit.proofs.NamesApart.{integer_sort, length_sort, string_sort, name_length_number}
use Rattle.cool_emit.proofs.NamesApart.{name_number, integer_number, length_number, string_number}
use Rattle.cool_emit.proofs.NamesOfClasses.{is_word, own_place}
use Rattle.cool_emit.proofs.LabelsOfCode.{marks, marks-append}
use Rattle.cool_emit.proofs.LabelsOfFeatures.{class_by_name, label_class, of_class}
use Rattle.cool_emit.proofs.RootedTables.{rooted}
use Rattle.lists.proofs.Numbers.{nat_eq-same}
use Rattle.std.proofs.lemmas.Bool.{ltb-true, ltb-false}
use Rattle.lists.proofs.AllItems.{all_then}

module _ (x : Name) where
  -- words have no labels
  no_words : {X : Type 0} (f : X → List WordItem) (xs : List X) → marks x (map (λ y. words (f y)) xs) ≡ 0
  no_words f [] = refl
  no_words f (y ∷ ys) = no_words f ys

  -- labels that are written out

  names_table_once : (order : List ClassId) → marks x (class_names_lines order) ≤ one (between 4 5 (sort x))
  unfolding name_table
  names_table_once order = listed (λ y. between 4 5 (sort y)) x (name_table ∷ []) refl refl

  objects_once : (p : List Class) (order : List ClassId) → marks x (class_objects_lines p order) ≤ one (between 5 6 (sort x))
  unfolding class_objects
  objects_once p order =
      let none = no_words (λ c. Address (prototype p c) ∷ Address (initializer p c) ∷ []) order in
      let all : times x (class_objects ∷ []) ≤ one (between 5 6 (sort x)) =
      listed (λ y. between 5 6 (sort y)) x (class_objects ∷ []) refl refl in
      omega (arith, none, all)

  defaults_once : (p : List Class) → marks x (default_lines p) ≤ one (between 8 10 (sort x))
  unfolding default_int default_string
  defaults_once p = listed (λ y. between 8 10 (sort y)) x (default_int ∷ default_string ∷ []) refl refl

  texts_once : marks x texts_lines ≤ one (between 12 13 (sort x))
  unfolding end_text abort_text newline_text colon_text no_branch_text stop_text dispatch_text case_text division_text
      substring_text overflow_text
  texts_once = listed (λ y. between 12 13 (sort y)) x (labels_of texts_lines) refl refl

  bools_once : (tag : ℕ) → marks x (bool_lines false_constant tag 0 ++ bool_lines true_constant tag 1) ≤ one (between 13 14 (sort x))
  unfolding false_constant true_constant
  bools_once tag = listed (λ y. between 13 14 (sort y)) x (false_constant ∷ true_constant ∷ []) refl refl

  heap_once : marks x heap_lines ≤ one (between 17 18 (sort x))
  heap_once = listed (λ y. between 17 18 (sort y)) x (heap_start ∷ []) refl refl

  -- A sum over the classes, by tag: a name that only the class of one number holds is counted once if that class is in the list, and else not at all.

  each_once : (F : ClassId → List Line) (o : ℕ) (cs : List ClassId)
      → AllByRecursion (λ c. marks x (F c) ≤ one (nat_eq c.0 o && true)) cs
      → marks x (flat_map F cs) ≤ classes.times (class_number o) cs
  each_once F o [] h = omega arith
  each_once F o (c ∷ cs) h = by (nat_eq c.0 o) h.0 (each_once F o cs h.1)
    where
      by : (b : Bool) → marks x (F c) ≤ one (b && true) → marks x (flat_map F cs) ≤ classes.times (class_number o) cs
          → marks x (F c ++ flat_map F cs) ≤ one b + classes.times (class_number o) cs
      by true a rest = omega (arith, a, rest, marks-append x (F c) (flat_map F cs))
      by false a rest = omega (arith, a, rest, marks-append x (F c) (flat_map F cs))

  none_of : (F : ClassId → List Line) (o : ℕ) (cs : List ClassId)
      → AllByRecursion (λ c. marks x (F c) ≤ one (nat_eq c.0 o && false)) cs → marks x (flat_map F cs) ≤ 0
  none_of F o [] h = omega arith
  none_of F o (c ∷ cs) h = by (nat_eq c.0 o) h.0 (none_of F o cs h.1)
    where
      by : (b : Bool) → marks x (F c) ≤ one (b && false) → marks x (flat_map F cs) ≤ 0 → marks x (F c ++ flat_map F cs) ≤ 0
      by true a rest = omega (arith, a, rest, marks-append x (F c) (flat_map F cs))
      by false a rest = omega (arith, a, rest, marks-append x (F c) (flat_map F cs))

-- a number stands once at most among the classes by tag
outside : (n o : ℕ) (cs : List ClassId) → n ≤ o → AllByRecursion (λ c. c.0 < n) cs → classes.times (class_number o) cs ≡ 0
outside n o [] l h = refl
outside n o (c ∷ cs) l h =
    let e : nat_eq c.0 o ≡ false = apart c.0 h.0 in
    let z : one (nat_eq c.0 o) ≡ 0 = ap one e in
    let r : classes.times (class_number o) cs ≡ 0 = outside n o cs l h.1 in
    omega arith
  where
    apart : (m : ℕ) → m < n → nat_eq m o ≡ false
    apart m k = grind arith

once_by_tag : (p : List Class) → IsRooted p → (o : ℕ) → classes.times (class_number o) (preorder p) ≤ 1
once_by_tag p r o = by (nat_lt o (length p)) refl
  where
    by : (b : Bool) → nat_lt o (length p) ≡ b → classes.times (class_number o) (preorder p) ≤ 1
    by true e = omega (arith, once p r (class_number o) (ltb-true o (length p) e))
    by false e = omega (arith, outside (length p) o (preorder p) (ltb-false o (length p) e) (preorder_in p r))

-- lines for each class by tag hold a name once at most where it tells the number of the class
pub by_tag : (p : List Class) → IsRooted p → (x : Name) (F : ClassId → List Line) (o : ℕ) (b : Bool)
    → ((c : ClassId) → c.0 < length p → marks x (F c) ≤ one (nat_eq c.0 o && b)) → marks x (flat_map F (preorder p)) ≤ one b
by_tag p r x F o true h =
    omega (
      arith,
      each_once x F o (preorder p)
          (all_then (λ c. c.0 < length p) (λ c. marks x (F c) ≤ one (nat_eq c.0 o && true)) (preorder p) h (preorder_in p r)),
      once_by_tag p r o,
    )
by_tag p r x F o false h =
    none_of x F o (preorder p)
    (all_then (λ c. c.0 < length p) (λ c. marks x (F c) ≤ one (nat_eq c.0 o && false)) (preorder p) h (preorder_in p r))

module _ (p : List Class) (table : IsTable p) (r : IsRooted p)
    (words : (c : ClassId) → c.0 < length p → IsWord (name_of p c)) (x : Name) where
  -- the tables, the prototypes and the names of the classes

  dispatch_once : marks x (flat_map (dispatch_table_lines p) (preorder p)) ≤ one (between 6 7 (sort x))
  dispatch_once = by_tag p r x (dispatch_table_lines p) (label_class p x) (between 6 7 (sort x)) each
    where
      each : (c : ClassId) → c.0 < length p
          → marks x (dispatch_table_lines p c) ≤ one (nat_eq c.0 (label_class p x) && between 6 7 (sort x))
      each c within =
          let y = dispatch_table p c in
          let word = words c within in
          let class : label_class p y ≡ c.0 =
          class_by_name p y (name_of p c) (word_starts (name_of p c) (codes "_dispTab") word) (table_class (name_of p c) word)
          ∙ own_place p table c within in
          let all : one (bytes_eq x y) ≤ one (of_class p c.0 6 7 x) =
          hit (of_class p c.0 6 7) x y (rw (class, nat_eq-same c.0) (ap (between 6 7) (table_sort (name_of p c) word))) in
          omega (arith, all)

  prototypes_once : marks x (flat_map (prototype_lines p) (preorder p)) ≤ one (between 7 8 (sort x))
  prototypes_once = by_tag p r x (prototype_lines p) (label_class p x) (between 7 8 (sort x)) each
    where
      each : (c : ClassId) → c.0 < length p → marks x (prototype_lines p c) ≤ one (nat_eq c.0 (label_class p x) && between 7 8 (sort x))
      each c within =
          let y = prototype p c in
          let word = words c within in
          let class : label_class p y ≡ c.0 =
          class_by_name p y (name_of p c) (word_starts (name_of p c) (codes "_protObj") word)
          (prototype_class (name_of p c) word) ∙ own_place p table c within in
          let all : one (bytes_eq x y) ≤ one (of_class p c.0 7 8 x) =
          hit (of_class p c.0 7 8) x y (rw (class, nat_eq-same c.0) (ap (between 7 8) (prototype_sort (name_of p c) word))) in
          omega (arith, all)

  names_once : marks x (flat_map (name_lines p) (preorder p)) ≤ one (between 10 12 (sort x))
  names_once = by_tag p r x (name_lines p) (end_number x) (between 10 12 (sort x)) each
    where
      each : (c : ClassId) → c.0 < length p → marks x (name_lines p c) ≤ one (nat_eq c.0 (end_number x) && between 10 12 (sort x))
      each c within =
          let few : length p < 2 ^ 32 = table.few in
          let a : one (bytes_eq x (class_name_length c)) ≤ one (nat_eq c.0 (end_number x) && between 10 11 (sort x)) =
          first c.0 (omega arith) in
          let b : one (bytes_eq x (class_name c)) ≤ one (nat_eq c.0 (end_number x) && between 11 12 (sort x)) = second c.0 (omega arith) in
          let apart = under (nat_eq c.0 (end_number x)) (between 10 11 (sort x)) (between 11 12 (sort x))
          (between 10 12 (sort x)) (beside 10 11 12 (sort x) (omega arith) (omega arith)) in
          omega (arith, a, b, apart)
        where
          first : (n : ℕ) → n < 2 ^ 64
              → one (bytes_eq x (class_name_length (class_number n))) ≤ one (nat_eq n (end_number x) && between 10 11 (sort x))
          first n fits =
              hit (λ z. nat_eq n (end_number z) && between 10 11 (sort z)) x (class_name_length (class_number n))
              (rw (name_length_number n fits, nat_eq-same n) (ap (between 10 11) (name_length_sort n fits)))

          second : (n : ℕ) → n < 2 ^ 64
              → one (bytes_eq x (class_name (class_number n))) ≤ one (nat_eq n (end_number x) && between 11 12 (sort x))
          second n fits =
              hit (λ z. nat_eq n (end_number z) && between 11 12 (sort z)) x (class_name (class_number n))
              (rw (name_number n fits, nat_eq-same n) (ap (between 11 12) (name_sort n fits)))

  -- the whole layout
  layout_once : marks x (layout_lines p) ≤ one (between 4 13 (sort x))
  layout_once =
      let order = preorder p in
      let n = class_names_lines order in
      let o = class_objects_lines p order in
      let d = flat_map (dispatch_table_lines p) order in
      let q = flat_map (prototype_lines p) order in
      let e = default_lines p in
      let m = flat_map (name_lines p) order in
      let s = sort x in
      let sum : marks x (layout_lines p)
      ≡ marks x n + (marks x o + (marks x d + (marks x q + (marks x e + (marks x m + marks x texts_lines))))) =
      marks-append x n (o ++ (d ++ (q ++ (e ++ (m ++ texts_lines)))))
      ∙ ap (λ i. marks x n + i) (marks-append x o (d ++ (q ++ (e ++ (m ++ texts_lines))))
      ∙ ap (λ i. marks x o + i) (marks-append x d (q ++ (e ++ (m ++ texts_lines)))
      ∙ ap (λ i. marks x d + i) (marks-append x q (e ++ (m ++ texts_lines))
      ∙ ap (λ i. marks x q + i) (marks-append x e (m ++ texts_lines) ∙ ap (λ i. marks x e + i) (marks-append x m texts_lines))))) in
      omega (
        arith,
        sum,
        names_table_once x order,
        objects_once x p order,
        dispatch_once,
        prototypes_once,
        defaults_once x p,
        names_once,
        texts_once x,
        beside 4 5 13 s (omega arith) (omega arith),
        beside 5 6 13 s (omega arith) (omega arith),
        beside 6 7 13 s (omega arith) (omega arith),
        beside 7 8 13 s (omega arith) (omega arith),
        beside 8 10 13 s (omega arith) (omega arith),
        beside 10 12 13 s (omega arith) (omega arith),
      )

-- constants

module _ (x : Name) where
  integers_marks : (tag k : ℕ) (ns : List ℕ)
      → marks x (integers_lines tag k ns) ≡ total_from (λ i. one (bytes_eq x (int_constant i))) k (length ns)
  integers_marks tag k [] = refl
  integers_marks tag k (n ∷ ns) =
      let e : marks x (integers_lines tag (k + 1) ns)
      ≡ total_from (λ i. one (bytes_eq x (int_constant i))) (k + 1) (length ns) = integers_marks tag (k + 1) ns in
      omega (arith, e)

  strings_marks : (int_tag string_tag k : ℕ) (bs : List (List ℕ))
      → marks x (strings_lines int_tag string_tag k bs)
      ≡ total_from (λ i. one (bytes_eq x (string_length i)) + one (bytes_eq x (string_constant i))) k (length bs)
  strings_marks int_tag string_tag k [] = refl
  strings_marks int_tag string_tag k (b ∷ bs) =
      let e : marks x (strings_lines int_tag string_tag (k + 1) bs)
      ≡ total_from (λ i. one (bytes_eq x (string_length i)) + one (bytes_eq x (string_constant i))) (k + 1) (length bs) =
      strings_marks int_tag string_tag (k + 1) bs in
      omega (arith, e)

  integer_once : (n : ℕ) → n < 2 ^ 64 → one (bytes_eq x (int_constant n)) ≤ one (nat_eq n (end_number x) && between 14 15 (sort x))
  integer_once n fits =
      hit (λ z. nat_eq n (end_number z) && between 14 15 (sort z)) x (int_constant n)
      (rw (integer_number n fits, nat_eq-same n) (ap (between 14 15) (integer_sort n fits)))

  string_once : (n : ℕ) → n < 2 ^ 64 → one (bytes_eq x (string_length n)) + one (bytes_eq x (string_constant n))
      ≤ one (nat_eq n (end_number x) && between 15 17 (sort x))
  string_once n fits =
      let a : one (bytes_eq x (string_length n)) ≤ one (nat_eq n (end_number x) && between 15 16 (sort x)) =
      hit (λ z. nat_eq n (end_number z) && between 15 16 (sort z)) x (string_length n)
      (rw (length_number n fits, nat_eq-same n) (ap (between 15 16) (length_sort n fits))) in
      let b : one (bytes_eq x (string_constant n)) ≤ one (nat_eq n (end_number x) && between 16 17 (sort x)) =
      hit (λ z. nat_eq n (end_number z) && between 16 17 (sort z)) x (string_constant n)
      (rw (string_number n fits, nat_eq-same n) (ap (between 16 17) (string_sort n fits))) in
      let apart = under (nat_eq n (end_number x)) (between 15 16 (sort x)) (between 16 17 (sort x))
      (between 15 17 (sort x)) (beside 15 16 17 (sort x) (omega arith) (omega arith)) in
      omega (arith, a, b, apart)

  integers_once : (tag : ℕ) (ns : List ℕ) → length ns ≤ 2 ^ 64 → marks x (integers_lines tag 0 ns) ≤ one (between 14 15 (sort x))
  integers_once tag ns few =
      omega (
        arith,
        integers_marks tag 0 ns,
        total_one (λ i. one (bytes_eq x (int_constant i))) 0 (length ns) (end_number x) (between 14 15 (sort x))
            (λ i l u. integer_once i (omega arith)),
      )

  strings_once : (int_tag string_tag : ℕ) (bs : List (List ℕ)) → length bs ≤ 2 ^ 64
      → marks x (strings_lines int_tag string_tag 0 bs) ≤ one (between 15 17 (sort x))
  strings_once int_tag string_tag bs few =
      omega (
        arith,
        strings_marks int_tag string_tag 0 bs,
        total_one (λ i. one (bytes_eq x (string_length i)) + one (bytes_eq x (string_constant i))) 0 (length bs)
            (end_number x) (between 15 17 (sort x)) (λ i l u. string_once i (omega arith)),
      )

  constants_once : (int_tag bool_tag string_tag : ℕ) (g : Constants) → length g.integers ≤ 2 ^ 64
      → length g.strings ≤ 2 ^ 64 → marks x (constants_lines int_tag bool_tag string_tag g) ≤ one (between 13 17 (sort x))
  constants_once int_tag bool_tag string_tag g few few_strings =
      let f = bool_lines false_constant bool_tag 0 in
      let t = bool_lines true_constant bool_tag 1 in
      let n = integers_lines int_tag 0 g.integers in
      let b = strings_lines int_tag string_tag 0 g.strings in
      let s = sort x in
      let sum : marks x (f ++ (t ++ (n ++ b))) ≡ marks x f + (marks x t + (marks x n + marks x b)) =
      marks-append x f (t ++ (n ++ b))
      ∙ ap (λ i. marks x f + i) (marks-append x t (n ++ b) ∙ ap (λ i. marks x t + i) (marks-append x n b)) in
      omega (
        arith,
        sum,
        marks-append x f t,
        bools_once x bool_tag,
        integers_once int_tag g.integers few,
        strings_once int_tag string_tag g.strings few_strings,
        beside 13 14 17 s (omega arith) (omega arith),
        beside 14 15 17 s (omega arith) (omega arith),
      )

-- all of the data
pub data_once : (p : List Class) (files : List (List ℕ)) → IsBuildable p files → (x : Name)
    → marks x (program_data p files) ≤ one (between 4 18 (sort x))
data_once p files b x =
    let g = program_constants p files in
    let int = tag p (class_number 2) in
    let bool = tag p (class_number 3) in
    let string = tag p (class_number 4) in
    let constants = constants_lines int bool string g in
    let s = sort x in
    let few = program_integers p files b in
    let few_strings = program_strings p files b in
    omega (
      arith,
      marks-append x (layout_lines p) (constants ++ heap_lines),
      marks-append x constants heap_lines,
      layout_once p b.typed.whole.table (rooted p b.typed.whole) (λ c within. is_word (name_of p c) (b.fits.names c within)) x,
      constants_once x int bool string g (omega (arith, few)) (omega (arith, few_strings)),
      heap_once x,
      beside 4 13 18 s (omega arith) (omega arith),
      beside 13 17 18 s (omega arith) (omega arith),
    )
