-- There is one parent for each class definition, and each of these parents is a class of the class table.
use Rattle.std.proofs.Common.{◌≡◌, ℕ, ◌+◌, ◌<◌, ◌≤◌, List, [], ◌∷◌, ◌++◌, length, take, get_or, Option, Some, None, sym, ap, ◌∙◌, refl, subst, arith}
use Rattle.std.specs.List.{AllByRecursion}
use Rattle.std.proofs.lemmas.List.{length-append, length-map, map-append, take_more}
use Rattle.std.proofs.lemmas.Option.{slice_get_within}
use Rattle.cool_syntax.specs.declared.type_ref.TypeRef.{TypeRef}
use Rattle.cool_syntax.specs.declared.file_tree.ClassDef.{ClassDef}
use Rattle.cool_classes.specs.declared.class_id.ClassId.{ClassId}
use Rattle.cool_classes.specs.Names.{first_named}
use Rattle.cool_classes.specs.Settled.{basic_names, names_in, names_with_basic, parent_meant, parents_meant, or_object, IsParentKnown}
use Rattle.cool_classes.proofs.AllOfLists.{all_with}
use Rattle.cool_classes.proofs.FirstIndexes.{named_sound}

-- a class that is found is one of the classes
pub found_within : (j : ℕ) (names : List (List ℕ)) (f : List ℕ) (c : ClassId) → first_named j names f ≡ Some c → c.0 < j + length names
found_within j names f c e =
    let w = named_sound j names f c e in
    let number : c.0 ≡ j + w.0 = ap (λ (x : ClassId). x.0) w.1 in
    let less = slice_get_within names w.0 f w.2 in
    omega arith

-- a class that is found, or Object, is one of the classes
found_low : (m : ℕ) (o : Option ClassId) → 0 < m → ((c : ClassId) → o ≡ Some c → c.0 < m) → (or_object o).0 < m
found_low m None some low = some
found_low m (Some c) some low = low c refl

-- the parent of a definition is one of the classes
parent_low : (m : ℕ) (names : List (List ℕ)) → 0 < m → length names ≤ m → (r : Option TypeRef) → (parent_meant names r).0 < m
parent_low m names some most None = some
parent_low m names some most (Some r) = found_low m (first_named 0 names r.name) some (λ c e. let less : c.0 < 0 + length names = found_within 0 names r.name c e in omega arith)

-- the parents of definitions are among the classes
pub parents_low : (m : ℕ) (names : List (List ℕ)) → 0 < m → length names ≤ m → (ds : List ClassDef) → AllByRecursion (λ (q : ClassId). q.0 < m) (parents_meant names ds)
parents_low m names some most [] = tt
parents_low m names some most (d ∷ ds) = (parent_low m names some most d.parent, parents_low m names some most ds)

-- each class has a name
pub all_names_long : (ds : List ClassDef) → length (names_with_basic ds) ≡ length ds + 5
all_names_long ds = let one = length-append basic_names (names_in ds) in let two = length-map ds (λ (d : ClassDef). d.name) in omega arith

-- each definition has a parent
pub parents_long : (names : List (List ℕ)) (ds : List ClassDef) → length (parents_meant names ds) ≡ length ds
parents_long names ds = length-map ds (λ (d : ClassDef). parent_meant names d.parent)

-- the parents of definitions are classes
pub parents_within : (ds : List ClassDef) → AllByRecursion (λ (q : ClassId). q.0 < length (parents_meant (names_with_basic ds) ds) + 5) (parents_meant (names_with_basic ds) ds)
parents_within ds =
    let long = parents_long (names_with_basic ds) ds in
    let names = all_names_long ds in
    parents_low (length (parents_meant (names_with_basic ds) ds) + 5) (names_with_basic ds) (omega arith) (omega arith) ds

-- one definition more
pub parents_more : (names : List (List ℕ)) (ds : List ClassDef) (k : ℕ) (d : ClassDef) → k < length ds → d ≡ get_or ds k d
    → parents_meant names (take k ds) ++ parent_meant names d.parent ∷ [] ≡ parents_meant names (take (k + 1) ds)
parents_more names ds k d within is =
    ap (λ (x : ClassDef). parents_meant names (take k ds) ++ parent_meant names x.parent ∷ []) is
    ∙ sym (map-append (λ (x : ClassDef). parent_meant names x.parent) (take k ds) (get_or ds k d ∷ []))
    ∙ ap (parents_meant names) (sym (take_more ds k d within))

-- the parent of one definition more is known
pub known_more : (names : List (List ℕ)) (ds : List ClassDef) (k : ℕ) (d : ClassDef) → k < length ds → d ≡ get_or ds k d → IsParentKnown names d.parent
    → AllByRecursion (λ (x : ClassDef). IsParentKnown names x.parent) (take k ds) → AllByRecursion (λ (x : ClassDef). IsParentKnown names x.parent) (take (k + 1) ds)
known_more names ds k d within is known all =
    subst (AllByRecursion (λ (x : ClassDef). IsParentKnown names x.parent)) (sym (take_more ds k d within))
    (all_with (λ (x : ClassDef). IsParentKnown names x.parent) (take k ds) (get_or ds k d) all (subst (λ (x : ClassDef). IsParentKnown names x.parent) is known))
