-- No label occurs twice in the code of the classes of a program.
use Rattle.std.proofs.Common.{◌≡◌, ℕ, zero, suc, ◌+◌, ◌^◌, ◌<◌, ◌≤◌, List, [], ◌∷◌, ◌++◌, length, flat_map}
use Rattle.std.proofs.Common.{Option, Some, None, Bool, true, false, ◌&&◌, refl, sym, ap, ◌∙◌, subst, arith}
use Rattle.std.specs.Prelude.{pos, nat_eq, nat_lt, bytes_eq, codes, IfSome, if◌then◌else◌}
use Rattle.std.specs.List.{AllByRecursion}
use Rattle.std.proofs.lemmas.Bool.{ltb-false, ltb-true}
use Rattle.cool_syntax.specs.declared.TheConstants.{MOST_TOKENS}
use Rattle.cool_syntax.specs.declared.file_tree.Feature.{Feature}
use Rattle.cool_syntax.specs.declared.file_tree.Feature.TheVariants.{Method, Attribute}
use Rattle.cool_syntax.specs.Tree.{Tree, tree_size}
use Rattle.cool_syntax.specs.FeatureSizes.{IsBoundedFeature, value_size}
use Rattle.mips_isa.specs.Lines.{Name, Line}
use Rattle.cool_classes.specs.declared.class_id.ClassId.{ClassId}
use Rattle.cool_classes.specs.Chains.{Class, class_number, name_of, features_of, parent_of}
use Rattle.cool_classes.specs.Tables.{IsTable}
use Rattle.cool_runtime.specs.CodeOfCalls.{enter_lines}
use Rattle.cool_layout.specs.Labels.{initializer}
use Rattle.cool_layout.specs.Preorder.{numbers_from}
use Rattle.cool_layout.proofs.Counting.{one}
use Rattle.cool_consts.specs.Constants.{Constants}
use Rattle.cool_codegen.specs.Pieces.{begin_init_lines, call_init_lines, leave_lines, return_basic_lines, take_self_lines}
use Rattle.cool_emit.specs.Programs.{Placed, attributes_from, methods_from, attributes_in, methods_in, placed_code}
use Rattle.cool_emit.specs.Programs.{parent_code, initializer_code, class_code, classes_code, IsBuildable}
use Rattle.cool_emit.proofs.CountedNames.{between, total_from, hit, total_one, under, beside}
use Rattle.cool_emit.proofs.NamesApart.{word_starts, sort, initializer_sort, initializer_class}
use Rattle.cool_emit.proofs.NamesOfClasses.{is_word, own_place, not_basic, no_features}
use Rattle.cool_emit.proofs.MethodsInPlace.{EachInPlace, each-weaker, IsFound, all_found}
use Rattle.cool_emit.proofs.LabelsOfCode.{marks, marks-append}
use Rattle.cool_emit.proofs.LabelsOfFeatures.{class_by_name, label_class, label_feature, of_class, IsSmallFeature, feature_once}
use Rattle.lists.proofs.Numbers.{nat_eq-same}

-- features, each with two properties
each_both : (P Q : ℕ → Feature → Type 0) (k : ℕ) (fs : List Feature) → EachInPlace P k fs → EachInPlace Q k fs
    → EachInPlace (λ j f. P j f × Q j f) k fs
each_both P Q k [] a b = tt
each_both P Q k (f ∷ fs) a b = ((a.0, b.0), each_both P Q (k + 1) fs a.1 b.1)

-- features within the limits are small, and have small places
small : (f : Feature) → IsBoundedFeature f → IsSmallFeature f
small (Method m) h = omega arith
small (Attribute a) h = by a.init h
  where
    by : (o : Option Tree) → value_size o ≤ MOST_TOKENS → IfSome o (λ t. tree_size t ≤ 2 ^ 64)
    by None h = tt
    by (Some t) h = omega arith

each_small : (k : ℕ) (fs : List Feature) → k + length fs ≤ 2 ^ 64 → AllByRecursion IsBoundedFeature fs
    → EachInPlace (λ j f. (j < 2 ^ 64) × IsSmallFeature f) k fs
each_small k [] l h = tt
each_small k (f ∷ fs) l h = ((omega arith, small f h.0), each_small (k + 1) fs (omega arith) h.1)

-- attributes and methods are all the features
both_parts : (x : Name) (F : Placed → List Line) (o : ℕ) (b : Bool) (k : ℕ) (fs : List Feature)
    → EachInPlace (λ j f. marks x (F (record { place = j; feature = f })) ≤ one (nat_eq j o && b)) k fs
    → marks x (flat_map F (attributes_from k fs)) + marks x (flat_map F (methods_from k fs))
    ≤ total_from (λ i. one (nat_eq i o && b)) k (length fs)
both_parts x F o b k [] h = omega arith
both_parts x F o b k (Method m ∷ fs) h =
    let f : Placed = record { place = k; feature = Method m } in
    omega (arith, h.0, both_parts x F o b (k + 1) fs h.1, marks-append x (F f) (flat_map F (methods_from (k + 1) fs)))
both_parts x F o b k (Attribute a ∷ fs) h =
    let f : Placed = record { place = k; feature = Attribute a } in
    omega (arith, h.0, both_parts x F o b (k + 1) fs h.1, marks-append x (F f) (flat_map F (attributes_from (k + 1) fs)))

-- a name is at most one of the labels of all features
pub parts_once : (x : Name) (F : Placed → List Line) (o : ℕ) (b : Bool) (fs : List Feature)
    → EachInPlace (λ j f. marks x (F (record { place = j; feature = f })) ≤ one (nat_eq j o && b)) 0 fs
    → marks x (flat_map F (attributes_from 0 fs)) + marks x (flat_map F (methods_from 0 fs)) ≤ one b
parts_once x F o b fs h =
    omega (arith, both_parts x F o b 0 fs h, total_one (λ i. one (nat_eq i o && b)) 0 (length fs) o b (λ i l u. omega arith))

-- classes by number
pub by_number : (x : Name) (F : ClassId → List Line) (k n : ℕ)
    → marks x (flat_map F (numbers_from k n)) ≡ total_from (λ i. marks x (F (class_number i))) k n
by_number x F k zero = refl
by_number x F k (suc n) = omega (arith, marks-append x (F (class_number k)) (flat_map F (numbers_from (k + 1) n)), by_number x F (k + 1) n)

module _ (x : Name) where
  -- the parts of an initializer

  begin_marks : (name : Name) → marks x (begin_init_lines name) ≡ one (bytes_eq x name)
  unfolding begin_init_lines
  begin_marks name = omega arith

  basic_marks : (name : Name) → marks x (return_basic_lines name) ≡ one (bytes_eq x name)
  unfolding return_basic_lines
  basic_marks name = omega arith

  no_parent : (p : List Class) (o : Option ClassId) → marks x (parent_code p o) ≡ 0
  unfolding call_init_lines
  no_parent p None = refl
  no_parent p (Some q) = refl

  no_end : marks x (take_self_lines ++ leave_lines (pos 12)) ≡ 0
  unfolding take_self_lines leave_lines
  no_end = refl

  -- an initializer holds its own label and those of the attributes
  initializer_marks : (p : List Class) (files : List (List ℕ)) (g : Constants) (c : ClassId)
      → marks x (initializer_code p files g c)
      ≤ one (bytes_eq x (initializer p c)) + marks x (flat_map (placed_code p files g c) (attributes_in p c))
  initializer_marks p files g c = by (nat_lt c.0 5)
    where
      by : (b : Bool)
          → marks x (if b then return_basic_lines (initializer p c)
          else begin_init_lines (initializer p c) ++ (enter_lines ++ (parent_code p (parent_of p c)
          ++ (flat_map (placed_code p files g c) (attributes_in p c) ++ (take_self_lines ++ leave_lines (pos 12))))))
          ≤ one (bytes_eq x (initializer p c)) + marks x (flat_map (placed_code p files g c) (attributes_in p c))
      by true = omega (arith, basic_marks (initializer p c))
      by false =
          let attributes = flat_map (placed_code p files g c) (attributes_in p c) in
          let end = take_self_lines ++ leave_lines (pos 12) in
          let parent = parent_code p (parent_of p c) in
          let enter : marks x enter_lines ≡ 0 = refl in
          omega (
            arith,
            begin_marks (initializer p c),
            marks-append x (begin_init_lines (initializer p c)) (enter_lines ++ (parent ++ (attributes ++ end))),
            marks-append x enter_lines (parent ++ (attributes ++ end)),
            enter,
            marks-append x parent (attributes ++ end),
            no_parent p (parent_of p c),
            marks-append x attributes end,
            no_end,
          )

  module _ (p : List Class) (files : List (List ℕ)) (b : IsBuildable p files) where
    table : IsTable p
    table = b.typed.whole.table

    -- the label of an initializer
    initializer_once : (c : ClassId) → c.0 < length p → one (bytes_eq x (initializer p c)) ≤ one (of_class p c.0 1 2 x)
    initializer_once c within =
        let y = initializer p c in
        let word = is_word (name_of p c) (b.fits.names c within) in
        let class : label_class p y ≡ c.0 =
        class_by_name p y (name_of p c) (word_starts (name_of p c) (codes "_init") word) (initializer_class (name_of p c) word)
        ∙ own_place p table c within in
        hit (of_class p c.0 1 2) x y (rw (class, nat_eq-same c.0) (ap (between 1 2) (initializer_sort (name_of p c) word)))

    -- the code of a feature in its place holds the name once at most, and only where the name is of this feature
    abbrev IsOnce : Constants → ClassId → ℕ → Feature → Type 0
    IsOnce g c j f =
        marks x (placed_code p files g c (record { place = j; feature = f }))
        ≤ one (nat_eq j (label_feature p x) && of_class p c.0 2 4 x)

    -- the labels of a class's code
    features_once : (g : Constants) (c : ClassId) → c.0 < length p → EachInPlace (IsOnce g c) 0 (features_of p c)
    features_once g c within = by (nat_lt c.0 5) refl
      where
        by : (t : Bool) → nat_lt c.0 5 ≡ t → EachInPlace (IsOnce g c) 0 (features_of p c)
        by true e =
            let low : c.0 < 5 = ltb-true c.0 5 e in
            subst (EachInPlace (IsOnce g c) 0) (sym (no_features p table c within low)) tt
        by false e =
            let high : 5 ≤ c.0 = ltb-false c.0 5 e in
            let few : length p < 2 ^ 32 = table.few in
            let few_features : length (features_of p c) < 2 ^ 32 = table.few_features c within in
            let found = all_found (features_of p c) (b.typed.lawful.methods c within) in
            let little = each_small 0 (features_of p c) (omega arith) (b.fits.bounded c within) in
            let word = is_word (name_of p c) (b.fits.names c within) in
            let other = not_basic p table c within high in
            each-weaker (λ j f. IsFound (features_of p c) j f × ((j < 2 ^ 64) × IsSmallFeature f)) (IsOnce g c) 0 (features_of p c)
            (λ j f h. feature_once p x table c within word files g j f (omega arith) h.1.0 other h.0 h.1.1)
            (each_both (IsFound (features_of p c)) (λ j f. (j < 2 ^ 64) × IsSmallFeature f) 0 (features_of p c) found little)

    -- the code of a class, and that of all
    class_once : (g : Constants) (c : ClassId) → c.0 < length p → marks x (class_code p files g c) ≤ one (of_class p c.0 1 4 x)
    class_once g c within =
        let F = placed_code p files g c in
        let a = nat_eq c.0 (label_class p x) in
        let r = sort x in
        let apart = under a (between 1 2 r) (between 2 4 r) (between 1 4 r) (beside 1 2 4 r (omega arith) (omega arith)) in
        omega (
          arith,
          marks-append x (initializer_code p files g c) (flat_map F (methods_in p c)),
          initializer_marks p files g c,
          initializer_once c within,
          parts_once x F (label_feature p x) (of_class p c.0 2 4 x) (features_of p c) (features_once g c within),
          apart,
        )

    pub classes_once : (g : Constants) → marks x (classes_code p files g) ≤ one (between 1 4 (sort x))
    classes_once g =
        let F = class_code p files g in
        omega (
          arith,
          by_number x F 0 (length p),
          total_one (λ i. marks x (F (class_number i))) 0 (length p) (label_class p x) (between 1 4 (sort x))
              (λ i l u. class_once g (class_number i) (omega arith)),
        )
