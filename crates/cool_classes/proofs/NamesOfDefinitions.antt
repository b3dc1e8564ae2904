-- Each step of the loop of `find_names` adds the name of the next class definition, with the number of its class, to the map of class names.
use Rattle.std.proofs.Common.{◌≡◌, ◌≢◌, ℕ, ◌+◌, ◌<◌, List, [], ◌∷◌, ◌++◌, length, map, take, get_or, Option, Some, None, is_some, Bool, false, sym, ap, ◌∙◌, refl, subst, arith, below_more, true≢false}
use Rattle.std.specs.Prelude.{option_map}
use Rattle.std.specs.Global.{Vec}
use Rattle.std.proofs.lemmas.List.{length-append, length-take-le, length-map, map-append, get_or-map, take_more}
use Rattle.std.proofs.Math.Seq.{take-length}
use Rattle.cool_syntax.specs.declared.file_tree.ClassDef.{ClassDef}
use Rattle.cool_classes.specs.declared.class_id.ClassId.{ClassId}
use Rattle.cool_classes.specs.Chains.{class_number}
use Rattle.cool_classes.specs.FirstNames.{first_index, shown_names, FindsFirst, FindsNames}
use Rattle.cool_classes.specs.Names.{first_named, self_type}
use Rattle.cool_classes.specs.Settled.{basic_names, names_in, names_with_basic, IsNamedAnew, AreNamedAnew}
use Rattle.cool_classes.proofs.NameIndexes.{class_at_index}

-- the name of a definition at a position
pub name_there : (ds : List ClassDef) (k : ℕ) (d : ClassDef) → k < length ds → d ≡ get_or ds k d → get_or (names_in ds) k [] ≡ d.name
name_there ds k d within is = get_or-map (λ (x : ClassDef). x.name) ds k d [] within ∙ ap (λ (x : ClassDef). x.name) (sym is)

-- each definition has a name
pub names_long : (ds : List ClassDef) → length (names_in ds) ≡ length ds
names_long ds = length-map ds (λ (x : ClassDef). x.name)

-- one name more
pub names_more : (ds : List ClassDef) (k : ℕ) (name : List ℕ) → k < length ds → get_or (names_in ds) k [] ≡ name
    → (basic_names ++ take k (names_in ds)) ++ name ∷ [] ≡ basic_names ++ take (k + 1) (names_in ds)
names_more ds k name within is =
    let less : k < length (names_in ds) = let e = names_long ds in omega arith in
    ap (λ (xs : List (List ℕ)). basic_names ++ xs) (ap (λ (n : List ℕ). take k (names_in ds) ++ n ∷ []) (sym is) ∙ sym (take_more (names_in ds) k [] less))

-- the number of the next class
pub number_next : (ds : List ClassDef) (k : ℕ) → k < length ds → k + 5 ≡ length (map Some (basic_names ++ take k (names_in ds)))
number_next ds k within =
    let less : k < length (names_in ds) = let e = names_long ds in omega arith in
    let long : length (take k (names_in ds)) ≡ k = length-take-le k (names_in ds) (omega arith) in
    let both = length-append basic_names (take k (names_in ds)) in
    let row = length-map (basic_names ++ take k (names_in ds)) Some in
    omega (arith, long, both, row)

-- a map finds one name more
pub finds_more : (entries : List (Vec ℕ × ℕ)) (before next : List (List ℕ)) (name : List ℕ) → before ++ name ∷ [] ≡ next → FindsFirst (shown_names entries) (map Some before ++ Some name ∷ [])
    → FindsNames entries next
finds_more entries before next name is finds = subst (FindsFirst (shown_names entries)) (sym (map-append Some before (name ∷ [])) ∙ ap (map Some) is) finds

-- whether a class has a name
pub known_there : (names : List (List ℕ)) (f : List ℕ) (known : Bool) (o : Option ℕ) → known ≡ is_some o → o ≡ first_index 0 (map Some names) f → known ≡ is_some (first_named 0 names f)
known_there names f known o is first = is ∙ ap is_some first ∙ sym (some_number (first_index 0 (map Some names) f)) ∙ ap is_some (class_at_index 0 names f)
  where
    some_number : (p : Option ℕ) → is_some (option_map class_number p) ≡ is_some p
    some_number None = refl
    some_number (Some k) = refl

-- after the last definition all names are there
pub all_names : (ds : List ClassDef) (k : ℕ) → length ds ≡ k → basic_names ++ take k (names_in ds) ≡ names_with_basic ds
all_names ds k e =
    ap (λ (n : ℕ). basic_names ++ take n (names_in ds)) (sym (names_long ds ∙ e)) ∙ ap (λ (xs : List (List ℕ)). basic_names ++ xs) (take-length (names_in ds))

-- if the answer is that no class has a name, none is found
none_named : (o : Option ClassId) (known : Bool) → known ≡ is_some o → known ≡ false → o ≡ None
none_named None known is no_class = refl
none_named (Some c) known is no_class = absurd (true≢false (sym is ∙ no_class))

-- one definition more has a name of its own
pub anew_more : (ds : List ClassDef) (k : ℕ) (name : List ℕ) (known : Bool) → get_or (names_in ds) k [] ≡ name → known ≡ is_some (first_named 0 (basic_names ++ take k (names_in ds)) name)
    → known ≡ false → name ≢ self_type → AreNamedAnew ds k → AreNamedAnew ds (k + 1)
anew_more ds k name known is found no_class no_self_type before =
    below_more (IsNamedAnew ds) k before (record {
      anew = ap (first_named 0 (basic_names ++ take k (names_in ds))) is ∙ none_named (first_named 0 (basic_names ++ take k (names_in ds)) name) known found no_class;
      no_self_type = λ e. no_self_type (sym is ∙ e);
    })
