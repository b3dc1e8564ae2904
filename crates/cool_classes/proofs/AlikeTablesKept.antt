-- If two class tables differ only in method bodies, initial values and source locations, and one is complete and keeps the rules of classes, the other does,
-- too.
use Rattle.std.proofs.Common.{◌≡◌, ℕ, suc, ◌<◌, List, [], ◌∷◌, ◌++◌, map, length, take, Option, Some, None, refl, sym, ap, ◌∙◌, subst}
use Rattle.std.specs.Prelude.{codes}
use Rattle.std.specs.List.{AllByRecursion}
use Rattle.std.proofs.lemmas.List.{length-map}
use Rattle.cool_syntax.specs.declared.file_tree.Feature.{Feature}
use Rattle.cool_syntax.specs.declared.file_tree.Feature.TheVariants.{Method, Attribute}
use Rattle.cool_syntax.specs.declared.file_tree.Formal.{Formal}
use Rattle.cool_classes.specs.declared.class_id.ClassId.{ClassId}
use Rattle.cool_classes.specs.declared.class_id.Ty.{Ty}
use Rattle.cool_classes.specs.declared.class_id.Ty.TheVariants.{Class as IsClass, SelfType}
use Rattle.cool_classes.specs.declared.method.AttributeRef.{AttributeRef}
use Rattle.cool_classes.specs.declared.method.MethodRef.{MethodRef}
use Rattle.cool_classes.specs.Declarations.{DeclareSame, AllDeclareSame, AreAllAlike, formal_types}
use Rattle.cool_classes.specs.Chains.{Class, parent_of, features_of, IsChain}
use Rattle.cool_classes.specs.Features.{own_method, first_of, implementation, attributes_of, attribute_name, Denotes}
use Rattle.cool_classes.specs.LawfulTables.{HasDifferentFormals, method_names, HasMain, IsLawful}
use Rattle.cool_classes.specs.Tables.{IsClassName, IsTypeName, IsTyped, IsTable, IsGrounded, basic_classes}
use Rattle.cool_classes.proofs.AlikeTables.{FindSame, flipped, features_alike, find_same, first_alike_classes, bare_same}
use Rattle.lists.specs.Different.{AreDifferent}

-- formals of the same types are as many
as_many_formals : (fs fs' : List Formal) → formal_types fs' ≡ formal_types fs → length fs ≡ length fs'
as_many_formals fs fs' same =
    sym (length-map fs (λ (f : Formal). f.declared.name)) ∙ (ap length (sym same) ∙ length-map fs' (λ (f : Formal). f.declared.name))

-- Chains and what stands on them

module _ (p p' : List Class) (s : FindSame p p') where
  pub within_same : (c : ClassId) → c.0 < length p → c.0 < length p'
  within_same c h = subst (λ (n : ℕ). c.0 < n) (sym s.count) h

  pub within_back : (c : ClassId) → c.0 < length p' → c.0 < length p
  within_back c h = subst (λ (n : ℕ). c.0 < n) s.count h

  pub chain_kept : (ds : List ClassId) (o : Option ClassId) → IsChain p o ds → IsChain p' o ds
  chain_kept [] None h = tt
  chain_kept [] (Some c) h = absurd h
  chain_kept (d ∷ ds) None h = absurd h
  chain_kept (d ∷ ds) (Some c) (is, rest) =
      (is, subst (λ (o : Option ClassId). IsChain p' o ds) (sym (s.parents c)) (chain_kept ds (parent_of p c) rest))

  pub implementation_same : (ds : List ClassId) (f : List ℕ) → implementation p' ds f ≡ implementation p ds f
  implementation_same [] f = refl
  implementation_same (d ∷ ds) f =
      ap (λ (o : Option MethodRef). first_of o (implementation p' ds f)) (s.methods d f) ∙ ap (first_of (own_method p d f)) (implementation_same ds f)

  pub attributes_same : (ds : List ClassId) → attributes_of p' ds ≡ attributes_of p ds
  attributes_same [] = refl
  attributes_same (d ∷ ds) = λ i. attributes_same ds i ++ s.attributes d i

  names_same : (rs : List AttributeRef) → map (attribute_name p') rs ≡ map (attribute_name p) rs
  names_same [] = refl
  names_same (r ∷ rs) = λ i. s.attribute_names r i ∷ names_same rs i

  -- Types that names mean

  pub denotes_kept : (name : List ℕ) (t : Ty) → Denotes p name t → Denotes p' name t
  denotes_kept name (IsClass c) (within, is) = (within_same c within, s.names c ∙ is)
  denotes_kept name SelfType h = h

  class_name_kept : (name : List ℕ) → IsClassName p name → IsClassName p' name
  class_name_kept name (c, within, is) = (c, within_same c within, s.names c ∙ is)

  class_names_kept : (fs fs' : List Formal) → formal_types fs' ≡ formal_types fs
      → AllByRecursion (λ (f : Formal). IsClassName p f.declared.name) fs → AllByRecursion (λ (f : Formal). IsClassName p' f.declared.name) fs'
  class_names_kept fs [] same h = tt
  class_names_kept [] (f' ∷ fs') same h = absurd cc
  class_names_kept (f ∷ fs) (f' ∷ fs') same (h, hs) =
      let named : f'.declared.name ≡ f.declared.name = cc in
      let rest : formal_types fs' ≡ formal_types fs = cc in
      (subst (IsClassName p') (sym named) (class_name_kept f.declared.name h), class_names_kept fs fs' rest hs)

  type_name_kept : (name : List ℕ) → IsTypeName p name → IsTypeName p' name
  type_name_kept name (t, denotes) = (t, denotes_kept name t denotes)

  -- The features of a class

  typed_kept : (x x' : Feature) → DeclareSame x x' → IsTyped p x → IsTyped p' x'
  typed_kept (Method m) (Method m') (named, formals, result, names) (few, types, type) = (
    subst (λ (n : ℕ). n < 4294967296) (as_many_formals m.formals m'.formals formals) few,
    class_names_kept m.formals m'.formals formals types,
    subst (IsTypeName p') (sym result) (type_name_kept m.result.name type),
  )
  typed_kept (Method m) (Attribute a) h typed = absurd h
  typed_kept (Attribute a) (Method m) h typed = absurd h
  typed_kept (Attribute a) (Attribute a') (named, declared) type =
      subst (IsTypeName p') (sym declared) (type_name_kept a.declared.name type)

  all_typed_kept : (xs xs' : List Feature) → AllDeclareSame xs xs' → AllByRecursion (IsTyped p) xs → AllByRecursion (IsTyped p') xs'
  all_typed_kept [] [] h typed = tt
  all_typed_kept [] (x' ∷ xs') h typed = absurd h
  all_typed_kept (x ∷ xs) [] h typed = absurd h
  all_typed_kept (x ∷ xs) (x' ∷ xs') (h, hs) (typed, all) = (typed_kept x x' h typed, all_typed_kept xs xs' hs all)

different_kept : (x x' : Feature) → DeclareSame x x' → HasDifferentFormals x → HasDifferentFormals x'
different_kept (Method m) (Method m') (named, formals, result, names) different = subst AreDifferent (sym names) different
different_kept (Method m) (Attribute a) h different = absurd h
different_kept (Attribute a) (Method m) h different = absurd h
different_kept (Attribute a) (Attribute a') h different = tt

all_different_kept : (xs xs' : List Feature) → AllDeclareSame xs xs' → AllByRecursion HasDifferentFormals xs → AllByRecursion HasDifferentFormals xs'
all_different_kept [] [] h different = tt
all_different_kept [] (x' ∷ xs') h different = absurd h
all_different_kept (x ∷ xs) [] h different = absurd h
all_different_kept (x ∷ xs) (x' ∷ xs') (h, hs) (different, all) = (different_kept x x' h different, all_different_kept xs xs' hs all)

method_names_same : (xs xs' : List Feature) → AllDeclareSame xs xs' → method_names xs' ≡ method_names xs
method_names_same [] [] h = refl
method_names_same [] (x' ∷ xs') h = absurd h
method_names_same (x ∷ xs) [] h = absurd h
method_names_same (Method m ∷ xs) (Method m' ∷ xs') (h, hs) = λ i. h.0 i ∷ method_names_same xs xs' hs i
method_names_same (Method m ∷ xs) (Attribute a ∷ xs') (h, hs) = absurd h
method_names_same (Attribute a ∷ xs) (Method m ∷ xs') (h, hs) = absurd h
method_names_same (Attribute a ∷ xs) (Attribute a' ∷ xs') (h, hs) = method_names_same xs xs' hs

as_many_features : (xs xs' : List Feature) → AllDeclareSame xs xs' → length xs' ≡ length xs
as_many_features [] [] h = refl
as_many_features [] (x' ∷ xs') h = absurd h
as_many_features (x ∷ xs) [] h = absurd h
as_many_features (x ∷ xs) (x' ∷ xs') h = ap suc (as_many_features xs xs' h.1)

basic_same : (p p' : List Class) → AreAllAlike p p' → take 5 p ≡ basic_classes → take 5 p' ≡ basic_classes
basic_same p p' alike is =
    let first = subst (λ (ds : List Class). AreAllAlike ds (take 5 p')) is (first_alike_classes 5 p p' alike) in
    bare_same basic_classes (take 5 p') (refl, (refl, (refl, (refl, (refl, tt))))) first

-- Tables

module _ (p p' : List Class) (alike : AreAllAlike p p') where
  abbrev same : FindSame p p'
  same = find_same p p' alike

  abbrev back : (c : ClassId) → c.0 < length p' → c.0 < length p
  back = within_back p p' same

  -- a chain of the other table is one of this
  chain_back : (ds : List ClassId) (o : Option ClassId) → IsChain p' o ds → IsChain p o ds
  chain_back = chain_kept p' p (flipped p p' same)

  pub table_kept : IsTable p → IsTable p'
  table_kept t = record {
    basic = basic_same p p' alike t.basic;
    chains = λ c within. let (ds, is) = t.chains c (back c within) in (ds, chain_kept p p' same ds (Some c) is);
    names = λ c d within within1 is. t.names c d (back c within) (back d within1) (sym (same.names c) ∙ (is ∙ same.names d));
    no_self_type = λ c within is. t.no_self_type c (back c within) (sym (same.names c) ∙ is);
    types =
        λ c within. all_typed_kept p p' same (features_of p c) (features_of p' c) (features_alike p p' c alike) (t.types c (back c within));
    few = subst (λ (n : ℕ). n < 4294967296) (sym same.count) t.few;
    few_features =
        λ c within. subst (λ (n : ℕ). n < 4294967296) (sym (as_many_features (features_of p c) (features_of p' c) (features_alike p p' c alike)))
        (t.few_features c (back c within));
  }

  pub grounded_kept : (depth : ClassId → ℕ) → IsGrounded p depth → IsGrounded p' depth
  grounded_kept depth g = record {
    above = λ c q within is. let h = g.above c q (back c within) (sym (same.parents c) ∙ is) in (within_same p p' same q h.0, h.1);
    top = λ c within none. g.top c (back c within) (sym (same.parents c) ∙ none);
  }

  main_kept : HasMain p → HasMain p'
  main_kept m = record {
    class = m.class;
    within = within_same p p' same m.class m.within;
    name = same.names m.class ∙ m.name;
    method = m.method;
    own = same.methods m.class (codes "main") ∙ m.own;
    formals = same.formals m.method ∙ m.formals;
  }

  pub lawful_kept : IsLawful p → IsLawful p'
  lawful_kept l = record {
    parents = λ c q within is. l.parents c q (back c within) (sym (same.parents c) ∙ is);
    redefined = λ c above f m n within is own there.
        let chain = chain_back above (parent_of p c) (subst (λ (o : Option ClassId). IsChain p' o above) (same.parents c) is) in
        let h =
        l.redefined c above f m n (back c within) chain (sym (same.methods c f) ∙ own) (sym (implementation_same p p' same above f) ∙ there) in
        record { formals = same.formals m ∙ (h.formals ∙ sym (same.formals n)); result = same.results m ∙ (h.result ∙ sym (same.results n)) };
    formals = λ c within. all_different_kept (features_of p c) (features_of p' c) (features_alike p p' c alike) (l.formals c (back c within));
    methods = λ c within.
        subst AreDifferent (sym (method_names_same (features_of p c) (features_of p' c) (features_alike p p' c alike)))
        (l.methods c (back c within));
    attributes = λ c ds within is.
        subst AreDifferent (sym (ap (map (attribute_name p')) (attributes_same p p' same ds) ∙ names_same p p' same (attributes_of p ds)))
        (l.attributes c ds (back c within) (chain_back ds (Some c) is));
    main = main_kept l.main;
  }
