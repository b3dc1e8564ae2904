-- The sections of a program (the routines, and the code of each initializer and method) have, in order, exactly its features and lines, and few constants
-- precede each section.
use Rattle.std.proofs.Common.{◌≡◌, ◌∙◌, ℕ, zero, suc, ◌+◌, ◌<◌, ◌≤◌, List, [], ◌∷◌, ◌++◌, length, flat_map, map, take, drop, get_or, slice_get, Some, ap, refl, sym, subst, arith, append_assoc, append-nil, length-append, inl, inr}
use Rattle.std.specs.List.{AllByRecursion}
use Rattle.std.proofs.lemmas.Grind.{flat_map-append}
use Rattle.std.proofs.lemmas.Bool.{cases_eq}
use Rattle.std.proofs.lemmas.List.{take-append-drop}
use Rattle.std.proofs.lemmas.Option.{get_or_from_slice_get, slice_get_read, slice_get_within}
use Rattle.mips_isa.specs.Lines.{Line, AreInRange}
use Rattle.cool_syntax.specs.declared.file_tree.Feature.{Feature}
use Rattle.cool_syntax.specs.declared.file_tree.Feature.TheVariants as features
use Rattle.cool_classes.specs.declared.class_id.ClassId.{ClassId}
use Rattle.cool_classes.specs.Chains.{Class, class_number, features_of}
use Rattle.cool_classes.proofs.FirstIndexes.{take_get}
use Rattle.cool_runtime.specs.RoutineLines.{all_routine_lines}
use Rattle.cool_layout.specs.Preorder.{numbers_from}
use Rattle.cool_consts.specs.Constants.{Constants}
use Rattle.cool_codegen.specs.Asked.{Extends, with_integers, with_strings}
use Rattle.cool_codegen.specs.Features.{feature_integers, feature_strings}
use Rattle.cool_codegen.specs.Numbered.{after}
use Rattle.cool_codegen.proofs.NumbersAgree.{after_both, extends_before, extends_same}
use Rattle.cool_emit.specs.Additions.{Adds, integers_asked, strings_asked}
use Rattle.cool_emit.specs.Batches.{asked_by, AreAsked}
use Rattle.cool_emit.specs.Programs.{Placed, attributes_in, methods_from, methods_in, placed_code, class_code, class_features, classes_code, all_features, initializer_code, program_constants, program_data, program_lines, IsBuildable}
use Rattle.cool_emit.specs.SoundLines.{joined_lines}
use Rattle.cool_emit.specs.declared.section.Section.{Section}
use Rattle.cool_emit.specs.declared.section.Section.TheVariants.{Method}
use Rattle.cool_emit.specs.Sections.{class_sections, sections_in, placed_at, features_in, section_code, IsSection}
use Rattle.cool_emit.proofs.AddingParts.{take_more}
use Rattle.cool_emit.proofs.ConstantsAgain.{integers_again, strings_again}
use Rattle.cool_emit.proofs.ClassesInTurn.{features_weigh, placed_weight, table_weight}
use Rattle.cool_emit.proofs.ConstantsAsked.{few_integers, few_strings}
use Rattle.cool_emit.proofs.ProgramsAreSound.{programs_sound}
use Rattle.cool_emit.proofs.SoundLinesAssemble.{in_range}
use Rattle.cool_emit.proofs.Totals.{total, total-append}
use Rattle.lists.proofs.ItemsLeft.{drop_one}
use Rattle.lists.proofs.AllItems.{all_append}
use Rattle.std.proofs.lemmas.List.Folds.{flat_map-map}

-- lists of lists

lists_then : {X Y Z : Type 0} (f : Y → List Z) (g : X → List Y) (xs : List X) → flat_map f (flat_map g xs) ≡ flat_map (λ x. flat_map f (g x)) xs
lists_then f g [] = refl
lists_then f g (x ∷ xs) = flat_map-append f (g x) (flat_map g xs) ∙ ap (λ zs. flat_map f (g x) ++ zs) (lists_then f g xs)

each_same : {X Y : Type 0} (f g : X → List Y) (xs : List X) → ((x : X) → f x ≡ g x) → flat_map f xs ≡ flat_map g xs
each_same f g [] same = refl
each_same f g (x ∷ xs) same = ap (λ ys. ys ++ flat_map f xs) (same x) ∙ ap (λ ys. g x ++ ys) (each_same f g xs same)

get_after : {X : Type 0} (xs : List X) (x : X) (more : List X) (k : ℕ) → k ≡ length xs → slice_get (xs ++ x ∷ more) k ≡ Some x
get_after [] x more k e = ap (slice_get (x ∷ more)) e
get_after (y ∷ xs) x more zero e = absurd (omega arith)
get_after (y ∷ xs) x more (suc k) e = get_after xs x more k (omega arith)

-- The methods are the features at their places.
methods_there : (front fs : List Feature) (k : ℕ) → k ≡ length front
    → flat_map (λ f. placed_at f.place (slice_get (front ++ fs) f.place)) (methods_from k fs) ≡ methods_from k fs
methods_there front [] k e = refl
methods_there front (features.Attribute a ∷ fs) k e =
    let x = features.Attribute a in
    let H : List Feature → List Placed = λ all. flat_map (λ f. placed_at f.place (slice_get all f.place)) (methods_from (k + 1) fs) in
    ap H (sym (append_assoc front (x ∷ []) fs))
    ∙ methods_there (front ++ x ∷ []) fs (k + 1) (omega (arith, length-append front (x ∷ [])))
methods_there front (features.Method m ∷ fs) k e =
    let x = features.Method m in
    let H : List Feature → List Placed = λ all. flat_map (λ f. placed_at f.place (slice_get all f.place)) (methods_from (k + 1) fs) in
    ap (λ o. placed_at k o ++ H (front ++ x ∷ fs)) (get_after front x fs k e)
    ∙ ap (λ ps. record { place = k; feature = x } ∷ ps) (ap H (sym (append_assoc front (x ∷ []) fs))
    ∙ methods_there (front ++ x ∷ []) fs (k + 1) (omega (arith, length-append front (x ∷ []))))

methods_of_sections : (p : List Class) (c : ClassId) → flat_map (features_in p) (map (λ f. Method c f.place) (methods_in p c)) ≡ methods_in p c
methods_of_sections p c = flat_map-map (features_in p) (λ f. Method c f.place) (methods_in p c) ∙ methods_there [] (features_of p c) 0 refl

-- the features of the sections of a class, and their code
features_of_class : (p : List Class) (c : ClassId) → flat_map (features_in p) (class_sections p c) ≡ class_features p c
features_of_class p c = ap (λ ps. attributes_in p c ++ ps) (methods_of_sections p c)

code_of_class : (p : List Class) (files : List (List ℕ)) (g : Constants) (c : ClassId) → flat_map (section_code p files g) (class_sections p c) ≡ class_code p files g c
code_of_class p files g c =
    ap (λ (ls : List Line). initializer_code p files g c ++ ls)
    (flat_map-map (section_code p files g) (λ f. Method c f.place) (methods_in p c)
    ∙ sym (lists_then (placed_code p files g c) (λ f. features_in p (Method c f.place)) (methods_in p c))
    ∙ ap (flat_map (placed_code p files g c)) (methods_there [] (features_of p c) 0 refl))

-- The features of all sections are those of the program, and their lines are the routines and the code of the classes.
pub features_of_sections : (p : List Class) → flat_map (features_in p) (sections_in p) ≡ all_features p
features_of_sections p =
    lists_then (features_in p) (class_sections p) (numbers_from 0 (length p))
    ∙ each_same (λ c. flat_map (features_in p) (class_sections p c)) (class_features p) (numbers_from 0 (length p)) (features_of_class p)

pub code_of_sections : (p : List Class) (files : List (List ℕ)) (g : Constants)
    → flat_map (section_code p files g) (sections_in p) ≡ all_routine_lines ++ classes_code p files g
code_of_sections p files g =
    ap (λ (ls : List Line). all_routine_lines ++ ls)
    (lists_then (section_code p files g) (class_sections p) (numbers_from 0 (length p))
    ∙ each_same (λ c. flat_map (section_code p files g) (class_sections p c)) (class_code p files g) (numbers_from 0 (length p)) (code_of_class p files g))

-- Each section is one of the program.

methods_within : (p : List Class) (c : ClassId) (k : ℕ) (fs : List Feature) → c.0 < length p → k + length fs ≤ length (features_of p c)
    → AllByRecursion (IsSection p) (map (λ f. Method c f.place) (methods_from k fs))
methods_within p c k [] within most = tt
methods_within p c k (features.Attribute a ∷ fs) within most = methods_within p c (k + 1) fs within (omega arith)
methods_within p c k (features.Method m ∷ fs) within most = ((within, omega arith), methods_within p c (k + 1) fs within (omega arith))

classes_within : (p : List Class) (k n : ℕ) → k + n ≤ length p → AllByRecursion (IsSection p) (flat_map (class_sections p) (numbers_from k n))
classes_within p k zero most = tt
classes_within p k (suc n) most =
    let c = class_number k in
    all_append (IsSection p) (class_sections p c) (flat_map (class_sections p) (numbers_from (k + 1) n))
    (omega arith, methods_within p c 0 (features_of p c) (omega arith) (omega arith)) (classes_within p (k + 1) n (omega arith))

all_within : (p : List Class) → AllByRecursion (IsSection p) (sections_in p)
all_within p = (tt, classes_within p 0 (length p) (omega arith))

-- a property of all items of a list holds for an item between others
all_at : {X : Type 0} (P : X → Type 0) (xs : List X) (x : X) (ys : List X) → AllByRecursion P (xs ++ x ∷ ys) → P x
all_at P [] x ys h = h.0
all_at P (z ∷ xs) x ys h = all_at P xs x ys h.1

parts_at : {X : Type 0} (xs : List X) (i : ℕ) (x : X) → i < length xs → x ≡ get_or xs i x → xs ≡ take i xs ++ x ∷ drop (i + 1) xs
parts_at xs i x less is = sym (take-append-drop i xs) ∙ ap (λ ys. take i xs ++ ys) (drop_one xs i x less is)

abbrev none : Constants
none = record { integers = []; strings = [] }

asked_both : (p : List Class) (files : List (List ℕ)) (xs ys : List Section)
    → asked_by p files (xs ++ ys) ≡ after (asked_by p files xs) (integers_asked (flat_map (features_in p) ys)) (strings_asked files (flat_map (features_in p) ys))
asked_both p files xs ys =
    let fs = flat_map (features_in p) xs in
    let gs = flat_map (features_in p) ys in
    ap (λ (hs : List Placed). after none (integers_asked hs) (strings_asked files hs)) (flat_map-append (features_in p) xs ys)
    ∙ (λ i. after none (flat_map-append (λ (f : Placed). feature_integers f.feature) fs gs i) (flat_map-append (λ (f : Placed). feature_strings files f.feature) fs gs i))
    ∙ after_both none (integers_asked fs) (integers_asked gs) (strings_asked files fs) (strings_asked files gs)

-- the constants of a section between others
asked_between : (p : List Class) (files : List (List ℕ)) (xs : List Section) (s : Section) (ys : List Section)
    → asked_by p files (xs ++ s ∷ ys) ≡ record {
      integers = with_integers [] (integers_asked (flat_map (features_in p) xs) ++ (integers_asked (features_in p s) ++ integers_asked (flat_map (features_in p) ys)));
      strings = with_strings [] (strings_asked files (flat_map (features_in p) xs) ++ (strings_asked files (features_in p s) ++ strings_asked files (flat_map (features_in p) ys)));
    }
asked_between p files xs s ys =
    let fs = flat_map (features_in p) xs in
    let gs = features_in p s in
    let hs = flat_map (features_in p) ys in
    ap (λ (all : List Placed). after none (integers_asked all) (strings_asked files all)) (flat_map-append (features_in p) xs (s ∷ ys))
    ∙ (λ i. after none (three (λ (f : Placed). feature_integers f.feature) fs gs hs i) (three (λ (f : Placed). feature_strings files f.feature) fs gs hs i))
  where
    three : {X Y : Type 0} (f : X → List Y) (xs bs cs : List X) → flat_map f (xs ++ (bs ++ cs)) ≡ flat_map f xs ++ (flat_map f bs ++ flat_map f cs)
    three f xs bs cs = flat_map-append f xs (bs ++ cs) ∙ ap (λ ls. flat_map f xs ++ ls) (flat_map-append f bs cs)

module _ (p : List Class) (files : List (List ℕ)) (b : IsBuildable p files) where
  abbrev g : Constants
  g = program_constants p files

  -- the constants of all sections are those of the program
  pub all_asked : asked_by p files (sections_in p) ≡ g
  all_asked =
      ap (λ (fs : List Placed). let t : Constants = record { integers = with_integers [] (integers_asked fs); strings = with_strings [] (strings_asked files fs) } in t)
      (features_of_sections p)

  -- the first sections ask for few constants
  light : (xs ys : List Section) → sections_in p ≡ xs ++ ys → total placed_weight (flat_map (features_in p) xs) ≤ 1048602
  light xs ys e =
      let fs = flat_map (features_in p) xs in
      let gs = flat_map (features_in p) ys in
      let all : all_features p ≡ fs ++ gs = sym (features_of_sections p) ∙ (ap (flat_map (features_in p)) e ∙ flat_map-append (features_in p) xs ys) in
      let weight : total placed_weight (all_features p) ≡ total placed_weight (fs ++ gs) = ap (total placed_weight) all in
      omega (arith, weight, total-append placed_weight fs gs, features_weigh p, table_weight p files b)

  pub few_integers_before : (i : ℕ) (t : Constants) → t ≡ asked_by p files (take i (sections_in p)) → length t.integers < 536870912
  few_integers_before i t e =
      let xs = take i (sections_in p) in
      let most = few_integers (flat_map (features_in p) xs) in
      let weight = light xs (drop i (sections_in p)) (sym (take-append-drop i (sections_in p))) in
      let same = ap (λ (u : Constants). length u.integers) e in
      omega arith

  pub few_strings_before : (i : ℕ) (t : Constants) → t ≡ asked_by p files (take i (sections_in p)) → length t.strings < 536870912
  few_strings_before i t e =
      let xs = take i (sections_in p) in
      let most = few_strings files (flat_map (features_in p) xs) in
      let weight = light xs (drop i (sections_in p)) (sym (take-append-drop i (sections_in p))) in
      let same = ap (λ (u : Constants). length u.strings) e in
      omega arith

  -- the lines of the program
  pub lines_in_parts : program_lines p files ≡ joined_lines (flat_map (section_code p files g) (sections_in p)) (program_data p files)
  lines_in_parts = ap (λ (ls : List Line). joined_lines ls (program_data p files)) (sym (code_of_sections p files g))

  pub all_in_range : AreInRange (joined_lines (flat_map (section_code p files g) (sections_in p)) (program_data p files))
  all_in_range = subst AreInRange lines_in_parts (in_range _ _ (programs_sound p files b))

  -- Facts about the section at an index, which is made after all sections before it.
  module _ (i : ℕ) (s : Section) (less : i < length (sections_in p)) (is : s ≡ get_or (sections_in p) i s) where
    parts : sections_in p ≡ take i (sections_in p) ++ s ∷ drop (i + 1) (sections_in p)
    parts = parts_at (sections_in p) i s less is

    -- it is one of the program
    pub within_here : IsSection p s
    within_here = all_at (IsSection p) (take i (sections_in p)) s (drop (i + 1) (sections_in p)) (subst (AllByRecursion (IsSection p)) parts (all_within p))

    -- if it is among the first sections, it asks for no more constants than these
    asked_again : (n : ℕ) → i < n
        → after (asked_by p files (take n (sections_in p))) (integers_asked (features_in p s)) (strings_asked files (features_in p s))
        ≡ asked_by p files (take n (sections_in p))
    asked_again n before =
        let xs = take n (sections_in p) in
        let there : slice_get xs i ≡ Some s = take_get (sections_in p) n i s before (slice_get_read (sections_in p) (length (sections_in p)) i s refl less is) in
        let split : xs ≡ take i xs ++ s ∷ drop (i + 1) xs = parts_at xs i s (slice_get_within xs i s there) (sym (get_or_from_slice_get xs i s s there)) in
        subst (λ (t : Constants). after t (integers_asked (features_in p s)) (strings_asked files (features_in p s)) ≡ t)
        (sym (ap (asked_by p files) split ∙ asked_between p files (take i xs) s (drop (i + 1) xs)))
        (λ j. record {
          integers = integers_again [] (integers_asked (flat_map (features_in p) (take i xs))) (integers_asked (features_in p s)) (integers_asked (flat_map (features_in p) (drop (i + 1) xs))) j;
          strings = strings_again [] (strings_asked files (flat_map (features_in p) (take i xs))) (strings_asked files (features_in p s)) (strings_asked files (flat_map (features_in p) (drop (i + 1) xs))) j;
        })

    -- the constants after it, where those before it or more were asked for
    pub constants_here : (old new : Constants) (made : List Line) → AreAsked p files i old
        → Adds files (features_in p s) (λ t. section_code p files t s) old new [] made → AreAsked p files (i + 1) new
    constants_here old new made (n, (least, before)) adds =
        elim (cases_eq i n) [
          | inl same ↦ (i + 1, (omega arith, first_time (before ∙ ap (λ (k : ℕ). asked_by p files (take k (sections_in p))) (sym same))))
          | inr other ↦ (n, (omega arith, adds.constants ∙ (ap (λ (t : Constants). after t (integers_asked fs) (strings_asked files fs)) before ∙ asked_again n (omega arith))))
        ]
      where
        fs : List Placed
        fs = features_in p s

        first_time : old ≡ asked_by p files (take i (sections_in p)) → new ≡ asked_by p files (take (i + 1) (sections_in p))
        first_time here =
            let xs = take i (sections_in p) in
            adds.constants
            ∙ (ap (λ (t : Constants). after t (integers_asked fs) (strings_asked files fs)) here
            ∙ (ap (λ (hs : List Placed). after (asked_by p files xs) (integers_asked hs) (strings_asked files hs)) (sym (append-nil fs))
            ∙ (sym (asked_both p files xs (s ∷ [])) ∙ ap (asked_by p files) (sym (take_more (sections_in p) i s less is)))))

    -- its lines, by the constants of the program, where those for which it asks are among the first
    pub lines_here : (n : ℕ) (new : Constants) (made : List Line) → new ≡ asked_by p files (take n (sections_in p))
        → ((t : Constants) → Extends new t → made ≡ section_code p files t s) → made ≡ section_code p files g s
    lines_here n new made is_first by =
        let xs = take n (sections_in p) in
        let ys = drop n (sections_in p) in
        let fs = flat_map (features_in p) ys in
        let whole : after (asked_by p files xs) (integers_asked fs) (strings_asked files fs) ≡ g =
        sym (asked_both p files xs ys) ∙ (ap (asked_by p files) (take-append-drop n (sections_in p)) ∙ all_asked) in
        let more : Extends (asked_by p files xs) g =
        subst (Extends (asked_by p files xs)) whole
        (extends_before (asked_by p files xs) (after (asked_by p files xs) (integers_asked fs) (strings_asked files fs)) (integers_asked fs) (strings_asked files fs)
        (extends_same (after (asked_by p files xs) (integers_asked fs) (strings_asked files fs)))) in
        by g (subst (λ (t : Constants). Extends t g) (sym is_first) more)

-- the constants after sections that were added to none
pub constants_of : (p : List Class) (files : List (List ℕ)) (sections : List Section) (i : ℕ) (old new : Constants) (code : Constants → List Line) (x y : List Line)
    → sections ≡ sections_in p → old.integers ≡ [] → old.strings ≡ []
    → Adds files (flat_map (features_in p) (take i sections)) code old new x y → new ≡ asked_by p files (take i (sections_in p))
constants_of p files sections i old new code x y same integers strings h =
    let fs = flat_map (features_in p) (take i sections) in
    h.constants
    ∙ ((λ j. record { integers = with_integers (integers j) (integers_asked fs); strings = with_strings (strings j) (strings_asked files fs) })
    ∙ ap (λ (xs : List Section). asked_by p files (take i xs)) same)
