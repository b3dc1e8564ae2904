-- In the text of a program, the address range of each expression contains exactly the expression's code, in the class and the feature that the range names.
use Rattle.std.proofs.Common.{◌≡◌, ℕ, suc, ◌+◌, List, [], ◌∷◌, ◌++◌, length, flat_map, map, slice_get, Some, Bool as Truth, true, false, refl, sym, subst, append-nil, arith}
use Rattle.std.specs.Prelude.{nat_lt, if◌then◌else◌, Contains}
use Rattle.std.specs.List.{AllByRecursion}
use Rattle.std.proofs.lemmas.List.Elements.{All-contains, All-from_recursion}
use Rattle.cool_syntax.specs.declared.file_tree.Feature.{Feature}
use Rattle.cool_syntax.specs.declared.file_tree.Feature.TheVariants.{Method, Attribute}
use Rattle.mips_isa.specs.Lines.{Line}
use Rattle.cool_classes.specs.declared.class_id.ClassId.{ClassId}
use Rattle.cool_classes.specs.Chains.{Class, features_of, parent_of}
use Rattle.cool_runtime.specs.CodeOfCalls.{enter_lines}
use Rattle.cool_runtime.specs.Reaches.{World}
use Rattle.cool_runtime.specs.RoutineLines.{all_routine_lines}
use Rattle.cool_runtime.specs.Standing.{sizes, HasLines}
use Rattle.cool_runtime.proofs.Pieces.{has_front, has_back}
use Rattle.cool_layout.specs.Preorder.{numbers_from}
use Rattle.cool_layout.specs.Labels.{initializer}
use Rattle.cool_consts.specs.Constants.{Constants}
use Rattle.cool_codegen.specs.Pieces.{begin_init_lines, return_basic_lines}
use Rattle.cool_emit.specs.Programs.{Placed, attributes_from, methods_from, attributes_in, methods_in, placed_code, parent_code, initializer_code, class_code, classes_code, end_code, program_constants, program_text}
use Rattle.cool_emit.specs.StandingRows.{IsFeatureOf}
use Rattle.lists.proofs.AllItems.{all_append, all_then}
use Rattle.cool_codegen.specs.Spans.{Span, StandsBehind, along, feature_spans}
use Rattle.cool_emit.specs.SpansOfPrograms.{SpanOf, context_of, lines_of_span, placed_spans, initializer_spans, text_spans, told_in_class, told_in_initializer, told_in_text, program_spans}
use Rattle.cool_codegen.proofs.SpansStand.{behind_front, behind_back}
use Rattle.cool_codegen.proofs.SpansOfCode.{Stands, law_along, law_feature}

pub all_mapped : {X Y : Type 0} (P : X → Type 0) (Q : Y → Type 0) (f : X → Y) (xs : List X) → ((x : X) → P x → Q (f x)) → AllByRecursion P xs → AllByRecursion Q (map f xs)
all_mapped P Q f [] h all = tt
all_mapped P Q f (x ∷ xs) h all = (h x all.0, all_mapped P Q f xs h all.1)

-- The attributes and the methods of a class are features of it, each at its place

abbrev at_place : ℕ → List Feature → Placed → Type 0
at_place k fs f = (j : ℕ) × (f.place ≡ k + j) × (slice_get fs j ≡ Some f.feature)

one_on : (k : ℕ) (x : Feature) (fs : List Feature) (f : Placed) → at_place (k + 1) fs f → at_place k (x ∷ fs) f
one_on k x fs f (j, e, is) = (suc j, omega arith, is)

attributes_at : (k : ℕ) (fs : List Feature) → AllByRecursion (at_place k fs) (attributes_from k fs)
attributes_at k [] = tt
attributes_at k (Method m ∷ fs) = all_then (at_place (k + 1) fs) (at_place k (Method m ∷ fs)) (attributes_from (k + 1) fs) (one_on k (Method m) fs) (attributes_at (k + 1) fs)
attributes_at k (Attribute a ∷ fs) = ((0, omega arith, refl), all_then (at_place (k + 1) fs) (at_place k (Attribute a ∷ fs)) (attributes_from (k + 1) fs) (one_on k (Attribute a) fs) (attributes_at (k + 1) fs))

methods_at : (k : ℕ) (fs : List Feature) → AllByRecursion (at_place k fs) (methods_from k fs)
methods_at k [] = tt
methods_at k (Attribute a ∷ fs) = all_then (at_place (k + 1) fs) (at_place k (Attribute a ∷ fs)) (methods_from (k + 1) fs) (one_on k (Attribute a) fs) (methods_at (k + 1) fs)
methods_at k (Method m ∷ fs) = ((0, omega arith, refl), all_then (at_place (k + 1) fs) (at_place k (Method m ∷ fs)) (methods_from (k + 1) fs) (one_on k (Method m) fs) (methods_at (k + 1) fs))

module _ (p : List Class) (c : ClassId) where
  there : (f : Placed) → at_place 0 (features_of p c) f → IsFeatureOf p c f
  there f (j, e, is) = let same : j ≡ f.place = omega arith in subst (λ i. slice_get (features_of p c) i ≡ Some f.feature) same is

  pub attributes_are_features : AllByRecursion (IsFeatureOf p c) (attributes_in p c)
  attributes_are_features = all_then (at_place 0 (features_of p c)) (IsFeatureOf p c) (attributes_in p c) there (attributes_at 0 (features_of p c))

  pub methods_are_features : AllByRecursion (IsFeatureOf p c) (methods_in p c)
  methods_are_features = all_then (at_place 0 (features_of p c)) (IsFeatureOf p c) (methods_in p c) there (methods_at 0 (features_of p c))

-- a property of each item of a feature's output, if its code fits the item, holds for each item of a program's output
module _ (size : List Line → ℕ) (P : ℕ → List Line → Type 0)
    (front : (xs ys : List Line) (pc : ℕ) → P pc (xs ++ ys) → P pc xs)
    (back : (xs ys : List Line) (pc : ℕ) → P pc (xs ++ ys) → P (pc + size xs) ys)
    (p : List Class) (files : List (List ℕ)) (g : Constants) {X : Type 0} (told : ClassId → ℕ → Placed → List X) (Q : X → Type 0)
    (each : (c : ClassId) (pc : ℕ) (f : Placed) → IsFeatureOf p c f → P pc (placed_code p files g c f) → AllByRecursion Q (told c pc f))
  where
    in_features : (c : ClassId) (pc : ℕ) (fs : List Placed) → AllByRecursion (IsFeatureOf p c) fs → P pc (flat_map (placed_code p files g c) fs)
        → AllByRecursion Q (along size (placed_code p files g c) (told c) pc fs)
    in_features c pc [] all has = tt
    in_features c pc (f ∷ fs) all has =
        let own = placed_code p files g c f in
        let rest = flat_map (placed_code p files g c) fs in
        all_append Q (told c pc f) _ (each c pc f all.0 (front own rest pc has)) (in_features c (pc + size own) fs all.1 (back own rest pc has))

    pub in_initializer : (pc : ℕ) (c : ClassId) → P pc (initializer_code p files g c) → AllByRecursion Q (told_in_initializer size p files g told pc c)
    in_initializer pc c has =
        by (begin_init_lines (initializer p c)) (parent_code p (parent_of p c)) (flat_map (placed_code p files g c) (attributes_in p c)) (λ q. in_features c q (attributes_in p c) (attributes_are_features p c)) (nat_lt c.0 5) has
      where
        by : (begin parent own : List Line) → ((q : ℕ) → P q own → AllByRecursion Q (along size (placed_code p files g c) (told c) q (attributes_in p c)))
            → (b : Truth) → P pc (if b then return_basic_lines (initializer p c) else begin ++ (enter_lines ++ (parent ++ (own ++ end_code))))
            → AllByRecursion Q (if b then [] else along size (placed_code p files g c) (told c) (pc + size begin + size enter_lines + size parent) (attributes_in p c))
        by begin parent own inside true h = tt
        by begin parent own inside false h = inside _ (front own _ _ (back parent _ _ (back enter_lines _ _ (back begin _ pc h))))

    in_class : (pc : ℕ) (c : ClassId) → P pc (class_code p files g c) → AllByRecursion Q (told_in_class size p files g told pc c)
    in_class pc c has =
        let first = initializer_code p files g c in
        all_append Q (told_in_initializer size p files g told pc c) _ (in_initializer pc c (front first _ pc has)) (in_features c _ (methods_in p c) (methods_are_features p c) (back first _ pc has))

    pub in_text : (pc : ℕ) → P pc (all_routine_lines ++ classes_code p files g) → AllByRecursion Q (told_in_text size p files g told pc)
    in_text pc has =
        law_along size P front back (context_of p files (record { 0 = 0 }) 0) g Q (class_code p files g) (told_in_class size p files g told) in_class
        (pc + size all_routine_lines) (numbers_from 0 (length p)) (back all_routine_lines _ pc has)

module _ (size : List Line → ℕ) (P : ℕ → List Line → Type 0)
    (front : (xs ys : List Line) (pc : ℕ) → P pc (xs ++ ys) → P pc xs)
    (back : (xs ys : List Line) (pc : ℕ) → P pc (xs ++ ys) → P (pc + size xs) ys)
    (p : List Class) (files : List (List ℕ)) (g : Constants)
  where
    abbrev pub StandsIn : SpanOf → Type 0
    StandsIn x = P x.span.from (lines_of_span p files g x)

    placed_stand : (c : ClassId) (pc : ℕ) (f : Placed) → IsFeatureOf p c f → P pc (placed_code p files g c f) → AllByRecursion StandsIn (placed_spans size p files g c pc f)
    placed_stand c pc f of_class has =
        all_mapped (Stands size P front back (context_of p files c f.place) g) StandsIn (λ (x : Span). record { class = c; feature = f.place; span = x })
        (feature_spans size (context_of p files c f.place) g pc f.feature) (λ x h. h) (law_feature size P front back (context_of p files c f.place) g pc f.feature has)

    pub initializer_stands : (pc : ℕ) (c : ClassId) → P pc (initializer_code p files g c) → AllByRecursion StandsIn (initializer_spans size p files g pc c)
    initializer_stands = in_initializer size P front back p files g (placed_spans size p files g) StandsIn placed_stand

    pub text_stands : (pc : ℕ) → P pc (all_routine_lines ++ classes_code p files g) → AllByRecursion StandsIn (text_spans size p files g pc)
    text_stands = in_text size P front back p files g (placed_spans size p files g) StandsIn placed_stand

-- in the text of a machine
pub program_stands : (w : World) (p : List Class) (files : List (List ℕ)) (pc : ℕ) (x : SpanOf) → HasLines w pc (program_text p files) → Contains (program_spans sizes p files pc) x
    → HasLines w x.span.from (lines_of_span p files (program_constants p files) x)
program_stands w p files pc x has there =
    let g = program_constants p files in
    let front : (xs ys : List Line) (pc : ℕ) → HasLines w pc (xs ++ ys) → HasLines w pc xs = has_front w in
    let back : (xs ys : List Line) (pc : ℕ) → HasLines w pc (xs ++ ys) → HasLines w (pc + sizes xs) ys = λ xs ys pc h. has_back w xs ys pc (pc + sizes xs) refl h in
    let all = text_stands sizes (HasLines w) front back p files g pc has in
    All-contains (StandsIn sizes (HasLines w) front back p files g) (program_spans sizes p files pc) x (All-from_recursion _ (program_spans sizes p files pc) all) there

-- in the text of a program, by its lines
pub program_behind : (p : List Class) (files : List (List ℕ)) (x : SpanOf) → Contains (program_spans length p files 0) x
    → StandsBehind (program_text p files) x.span.from (lines_of_span p files (program_constants p files) x)
program_behind p files x there =
    let g = program_constants p files in
    let text = program_text p files in
    let whole : StandsBehind text 0 text = record { front = []; rest = []; whole = sym (append-nil text); many = refl } in
    let all = text_stands length (StandsBehind text) (behind_front text) (behind_back text) p files g 0 whole in
    All-contains (StandsIn length (StandsBehind text) (behind_front text) (behind_back text) p files g) (program_spans length p files 0) x (All-from_recursion _ (program_spans length p files 0) all) there
