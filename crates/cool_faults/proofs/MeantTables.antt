-- The class table of a list of class definitions is unique: it is the one that `classes_meant` computes from the definitions.
use Rattle.std.proofs.Common.{◌≡◌, ℕ, zero, suc, ◌<◌, List, [], ◌∷◌, ◌++◌, map, length, drop, get_or, Option, Some, None, ap, sym, ◌∙◌, refl, arith}
use Rattle.std.specs.Prelude.{slice_get}
use Rattle.std.proofs.lemmas.List.{take-append-drop}
use Rattle.std.proofs.lemmas.Option.{none-some}
use Rattle.cool_syntax.specs.declared.file_tree.ClassDef.{ClassDef}
use Rattle.cool_syntax.specs.declared.type_ref.TypeRef.{TypeRef}
use Rattle.cool_classes.specs.declared.class_id.ClassId.{ClassId}
use Rattle.cool_classes.specs.Chains.{Class, nothing}
use Rattle.cool_classes.specs.ClassFaults.{class_meant, classes_meant}
use Rattle.cool_classes.specs.Definitions.{InheritsAs, AreDefinedBy, IsTableOf}
use Rattle.cool_classes.specs.Names.{first_named}
use Rattle.cool_classes.specs.Settled.{basic_names, names_in, names_with_basic, or_object, parent_meant}
use Rattle.cool_classes.specs.Tables.{IsTable, basic_classes}
use Rattle.cool_classes.proofs.ClassesNamed.{named_back}
use Rattle.cool_classes.proofs.FirstIndexes.{named_found}

-- the names of classes
abbrev names_of : List Class → List (List ℕ)
names_of = map (λ (c : Class). c.name)

name_there : (p : List Class) (k : ℕ) → k < length p → slice_get (names_of p) k ≡ Some (get_or p k nothing).name
name_there [] k less = absurd (omega arith)
name_there (c ∷ p) zero less = refl
name_there (c ∷ p) (suc k) less = name_there p k (omega arith)

-- a class inherits from the class that its name means
parent_is : (p : List Class) → IsTable p → (r : Option TypeRef) (q : Option ClassId) → InheritsAs p r q → q ≡ Some (parent_meant (names_of p) r)
parent_is p t None q h = h
parent_is p t (Some r) None h = absurd h
parent_is p t (Some r) (Some q) h = by (first_named 0 (names_of p) r.name) refl
  where
    by : (o : Option ClassId) → first_named 0 (names_of p) r.name ≡ o → Some q ≡ Some (or_object o)
    by None e =
        let w = named_found 0 (names_of p) q.0 r.name (name_there p q.0 h.0 ∙ ap Some h.1) in
        absurd (none-some w.0 (sym e ∙ w.1))
    by (Some c) e =
        let w = named_back p r.name c e in
        ap Some (t.names q c h.0 w.0 (h.1 ∙ sym w.1))

-- the classes that definitions make
defined_meant : (p : List Class) → IsTable p → (ds : List ClassDef) (cs : List Class) → AreDefinedBy p ds cs → cs ≡ map (class_meant (names_of p)) ds
defined_meant p t [] [] h = refl
defined_meant p t [] (c ∷ cs) h = absurd h
defined_meant p t (d ∷ ds) [] h = absurd h
defined_meant p t (d ∷ ds) (c ∷ cs) h =
    let parent = parent_is p t d.parent c.parent h.0.2 in
    let rest = defined_meant p t ds cs h.1 in
    λ i. record { name = h.0.0 i; parent = parent i; features = h.0.1 i } ∷ rest i

names_defined : (p : List Class) (ds : List ClassDef) (cs : List Class) → AreDefinedBy p ds cs → names_of cs ≡ names_in ds
names_defined p [] [] h = refl
names_defined p [] (c ∷ cs) h = absurd h
names_defined p (d ∷ ds) [] h = absurd h
names_defined p (d ∷ ds) (c ∷ cs) h = let rest = names_defined p ds cs h.1 in λ i. h.0.0 i ∷ rest i

-- the names of the table of definitions
names_are : (ds : List ClassDef) (p : List Class) → IsTable p → IsTableOf ds p → names_of p ≡ names_with_basic ds
names_are ds p t of =
    ap names_of (sym (take-append-drop 5 p)) ∙ ap (λ (cs : List Class). names_of (cs ++ drop 5 p)) t.basic ∙ ap (λ (ns : List (List ℕ)). basic_names ++ ns) (names_defined p ds (drop 5 p) of)

pub table_meant : (ds : List ClassDef) (p : List Class) → IsTable p → IsTableOf ds p → p ≡ classes_meant ds
table_meant ds p t of =
    sym (take-append-drop 5 p) ∙ ap (λ (cs : List Class). cs ++ drop 5 p) t.basic ∙ ap (λ (cs : List Class). basic_classes ++ cs) (defined_meant p t ds (drop 5 p) of)
    ∙ ap (λ (ns : List (List ℕ)). basic_classes ++ map (class_meant ns) ds) (names_are ds p t of)
