-- A program has each label with a fixed name: those of the basic classes, those of Main, and those of the texts that run-time routines write.
use Rattle.std.proofs.Common.{◌≡◌, ℕ, zero, suc, ◌+◌, ◌<◌, List, [], ◌∷◌, ◌++◌, length, Contains, Option}
use Rattle.std.proofs.Common.{Some, None, Bool, true, false, cond, refl, sym, ap, ◌∙◌, subst, arith}
use Rattle.std.specs.Prelude.{codes, slice_get, nat_lt, bytes_eq, option_map}
use Rattle.cool_syntax.specs.declared.file_tree.Feature.{Feature}
use Rattle.cool_syntax.specs.declared.file_tree.Feature.TheVariants.{Method, Attribute}
use Rattle.mips_isa.specs.Lines.{Name}
use Rattle.cool_classes.specs.declared.class_id.ClassId.{ClassId}
use Rattle.cool_classes.specs.declared.method.BasicMethod.{BasicMethod}
use Rattle.cool_classes.specs.declared.method.MethodRef.{MethodRef}
use Rattle.cool_classes.specs.declared.method.MethodRef.TheVariants.{Basic, User}
use Rattle.cool_classes.specs.Chains.{Class, class_number, name_of, features_of}
use Rattle.cool_classes.specs.Features.{basic_methods, method_among, first_method, user_method, own_method, name_in}
use Rattle.cool_classes.specs.Tables.{basic_classes}
use Rattle.cool_classes.proofs.Methods.{found_has}
use Rattle.cool_runtime.specs.Labels.{int_prototype, bool_prototype, string_prototype, int_table, bool_table}
use Rattle.cool_runtime.specs.Labels.{string_table, main_prototype, main_init, main_main, end_text}
use Rattle.cool_runtime.specs.Labels.{abort_text, newline_text, colon_text, no_branch_text, stop_text}
use Rattle.cool_runtime.specs.RoutineLabels.{dispatch_text, case_text, division_text, substring_text, overflow_text}
use Rattle.cool_layout.specs.Labels.{method_label}
use Rattle.cool_layout.proofs.BasicNames.{five, basic_name}
use Rattle.cool_emit.specs.Programs.{program_text, program_lines, IsBuildable}
use Rattle.cool_emit.proofs.LabelsOfParts.{Has, place_there}
use Rattle.cool_emit.proofs.LabelsThere.{texts_there, dispatch_table_there, prototype_there, initializer_there, method_there}
use Rattle.lists.proofs.EqualBytes.{bytes_equal}

-- the first method of a name has that name
abbrev pub Named : ℕ → List Feature → List ℕ → ℕ → Type 0
Named j fs f k = (i : ℕ) × (k ≡ j + i) × (name_in (slice_get fs i) ≡ f)

pub first_is_named : (j : ℕ) (fs : List Feature) (f : List ℕ) (k : ℕ) → first_method j fs f ≡ Some k → Named j fs f k
first_is_named j [] f k h = absurd (cc)
first_is_named j (Method m ∷ fs) f k h = by (bytes_eq m.name f) refl h (λ g. first_is_named (j + 1) fs f k g)
  where
    by : (t : Bool) → bytes_eq m.name f ≡ t → cond t (Some j) (first_method (j + 1) fs f) ≡ Some k
        → (first_method (j + 1) fs f ≡ Some k → Named (j + 1) fs f k) → Named j (Method m ∷ fs) f k
    by true e g more = (0, (let s : j ≡ k = cc in omega arith), bytes_equal m.name f e)
    by false e g more = let rest = more g in (suc rest.0, (let s = rest.1 in omega arith), rest.2)
first_is_named j (Attribute a ∷ fs) f k h =
    let rest = first_is_named (j + 1) fs f k h in (suc rest.0, (let s = rest.1 in omega arith), rest.2)

-- no basic class has a method main
pub no_basic_main : (n : ℕ) → method_among (basic_methods n) (codes "main") ≡ None
no_basic_main zero = refl
no_basic_main (suc zero) = refl
no_basic_main (suc (suc zero)) = refl
no_basic_main (suc (suc (suc zero))) = refl
no_basic_main (suc (suc (suc (suc zero)))) = refl
no_basic_main (suc (suc (suc (suc (suc n))))) = refl

-- a method main of a class's own has the label of that name
main_label : (p : List Class) (c : ClassId) (m : MethodRef) → own_method p c (codes "main") ≡ Some m
    → method_label p m ≡ name_of p c ++ (codes "." ++ codes "main")
main_label p c m e = by (nat_lt c.0 5) e
  where
    user : (o : Option ℕ) → first_method 0 (features_of p c) (codes "main") ≡ o → user_method c o ≡ Some m
        → method_label p m ≡ name_of p c ++ (codes "." ++ codes "main")
    user None f g = absurd (cc)
    user (Some k) f g =
        let is : User c k ≡ m = cc in
        let first = first_is_named 0 (features_of p c) (codes "main") k f in
        let place : first.0 ≡ k = let s = first.1 in omega arith in
        let named : name_in (slice_get (features_of p c) k) ≡ codes "main" =
        subst (λ i. name_in (slice_get (features_of p c) i) ≡ codes "main") place first.2 in
        ap (method_label p) (sym is) ∙ ap (λ n. name_of p c ++ (codes "." ++ n)) named

    by : (t : Bool)
        → cond t (option_map Basic (method_among (basic_methods c.0) (codes "main")))
        (user_method c (first_method 0 (features_of p c) (codes "main"))) ≡ Some m
        → method_label p m ≡ name_of p c ++ (codes "." ++ codes "main")
    by true g =
        let none : None ≡ Some m = ap (λ (o : Option BasicMethod). option_map Basic o) (sym (no_basic_main c.0)) ∙ g in
        absurd (cc)
    by false g = user (first_method 0 (features_of p c) (codes "main")) refl g

module _ (p : List Class) (files : List (List ℕ)) (b : IsBuildable p files) where
  -- a basic class is there, with its name
  pub basic_within : (k : ℕ) → k < 5 → k < length p
  basic_within k low = let l = five p b.typed.whole.table.basic in omega arith

  pub basic_named : (k : ℕ) → k < 5 → name_of p (class_number k) ≡ name_of basic_classes (class_number k)
  basic_named k low = basic_name p b.typed.whole.table.basic k low

  -- the prototype and the dispatch table of Int, Bool and String
  pub int_prototype_there : Has (program_lines p files) int_prototype
  unfolding int_prototype
  int_prototype_there =
      subst (Has (program_lines p files)) (ap (λ n. n ++ codes "_protObj") (basic_named 2 (omega arith)))
      (prototype_there p files b (class_number 2) (basic_within 2 (omega arith)))

  pub bool_prototype_there : Has (program_lines p files) bool_prototype
  unfolding bool_prototype
  bool_prototype_there =
      subst (Has (program_lines p files)) (ap (λ n. n ++ codes "_protObj") (basic_named 3 (omega arith)))
      (prototype_there p files b (class_number 3) (basic_within 3 (omega arith)))

  pub string_prototype_there : Has (program_lines p files) string_prototype
  unfolding string_prototype
  string_prototype_there =
      subst (Has (program_lines p files)) (ap (λ n. n ++ codes "_protObj") (basic_named 4 (omega arith)))
      (prototype_there p files b (class_number 4) (basic_within 4 (omega arith)))

  pub int_table_there : Has (program_lines p files) int_table
  unfolding int_table
  int_table_there =
      subst (Has (program_lines p files)) (ap (λ n. n ++ codes "_dispTab") (basic_named 2 (omega arith)))
      (dispatch_table_there p files b (class_number 2) (basic_within 2 (omega arith)))

  pub bool_table_there : Has (program_lines p files) bool_table
  unfolding bool_table
  bool_table_there =
      subst (Has (program_lines p files)) (ap (λ n. n ++ codes "_dispTab") (basic_named 3 (omega arith)))
      (dispatch_table_there p files b (class_number 3) (basic_within 3 (omega arith)))

  pub string_table_there : Has (program_lines p files) string_table
  unfolding string_table
  string_table_there =
      subst (Has (program_lines p files)) (ap (λ n. n ++ codes "_dispTab") (basic_named 4 (omega arith)))
      (dispatch_table_there p files b (class_number 4) (basic_within 4 (omega arith)))

  -- the prototype, the initializer and the method main of Main
  pub main_prototype_there : Has (program_lines p files) main_prototype
  unfolding main_prototype
  main_prototype_there =
      let m = b.typed.lawful.main in
      subst (Has (program_lines p files)) (ap (λ n. n ++ codes "_protObj") m.name) (prototype_there p files b m.class m.within)

  pub main_init_there : Has (program_text p files) main_init
  unfolding main_init
  main_init_there =
      let m = b.typed.lawful.main in
      subst (Has (program_text p files)) (ap (λ n. n ++ codes "_init") m.name) (initializer_there p files b m.class m.within)

  pub main_main_there : Has (program_text p files) main_main
  unfolding main_main
  main_main_there =
      let m = b.typed.lawful.main in
      subst (Has (program_text p files)) (main_label p m.class m.method m.own ∙ ap (λ n. n ++ (codes "." ++ codes "main")) m.name)
      (method_there p files b m.method (found_has p m.class (codes "main") m.method m.within m.own))

module _ (p : List Class) (files : List (List ℕ)) where
  -- the labels of the texts
  abbrev text_names : List Name
  text_names =
      end_text ∷ abort_text ∷ newline_text ∷ colon_text ∷ no_branch_text ∷ stop_text
      ∷ dispatch_text ∷ case_text ∷ division_text ∷ substring_text ∷ overflow_text ∷ []

  text_named : (n : Name) → Contains text_names n → Has (program_lines p files) n
  text_named n h = texts_there p files n h

  pub end_text_there : Has (program_lines p files) end_text
  end_text_there = text_named end_text (place_there text_names 0 end_text refl refl)

  pub abort_text_there : Has (program_lines p files) abort_text
  abort_text_there = text_named abort_text (place_there text_names 1 abort_text refl refl)

  pub newline_text_there : Has (program_lines p files) newline_text
  newline_text_there = text_named newline_text (place_there text_names 2 newline_text refl refl)

  pub colon_text_there : Has (program_lines p files) colon_text
  colon_text_there = text_named colon_text (place_there text_names 3 colon_text refl refl)

  pub no_branch_text_there : Has (program_lines p files) no_branch_text
  no_branch_text_there = text_named no_branch_text (place_there text_names 4 no_branch_text refl refl)

  pub stop_text_there : Has (program_lines p files) stop_text
  stop_text_there = text_named stop_text (place_there text_names 5 stop_text refl refl)

  pub dispatch_text_there : Has (program_lines p files) dispatch_text
  dispatch_text_there = text_named dispatch_text (place_there text_names 6 dispatch_text refl refl)

  pub case_text_there : Has (program_lines p files) case_text
  case_text_there = text_named case_text (place_there text_names 7 case_text refl refl)

  pub division_text_there : Has (program_lines p files) division_text
  division_text_there = text_named division_text (place_there text_names 8 division_text refl refl)

  pub substring_text_there : Has (program_lines p files) substring_text
  substring_text_there = text_named substring_text (place_there text_names 9 substring_text refl refl)

  pub overflow_text_there : Has (program_lines p files) overflow_text
  overflow_text_there = text_named overflow_text (place_there text_names 10 overflow_text refl refl)
