-- The attributes of a chain (a class with all its ancestors) are those of the ancestors and then those of the class itself, and all of them exist in the class
-- table.
use Rattle.std.proofs.Common.{◌≡◌, ℕ, suc, ◌-◌, ◌+◌, ◌<◌, List, [], ◌∷◌, ◌++◌, length, drop, get_or, slice_get, Some, ap, sym, ◌∙◌, refl, subst, arith}
use Rattle.std.specs.List.{AllByRecursion}
use Rattle.std.proofs.lemmas.List.{append_assoc, length_push}
use Rattle.std.proofs.Math.Seq.{drop-cons}
use Rattle.cool_syntax.specs.declared.file_tree.Feature.{Feature}
use Rattle.cool_syntax.specs.declared.file_tree.Feature.TheVariants.{Method, Attribute}
use Rattle.cool_classes.specs.declared.class_id.ClassId.{ClassId}
use Rattle.cool_classes.specs.declared.method.AttributeRef.{AttributeRef}
use Rattle.cool_classes.specs.Chains.{Class, features_of}
use Rattle.cool_classes.specs.Features.{own_attributes, attributes_of, HasAttribute, IsAttribute}

-- the class before the classes of a rest, and that rest
before : (ids : List ClassId) (k : ℕ) (d : ClassId) → 0 < k → k - 1 < length ids → drop (k - 1) ids ≡ get_or ids (k - 1) d ∷ drop k ids
before ids k d above within =
    let next : suc (k - 1) ≡ k = omega arith in
    drop-cons ids (k - 1) d within ∙ ap (λ (j : ℕ). get_or ids (k - 1) d ∷ drop j ids) next

pub one_more : (p : List Class) (ids : List ClassId) (k : ℕ) (d : ClassId) (all : List AttributeRef) → 0 < k → k - 1 < length ids → all ≡ attributes_of p (drop k ids)
    → all ++ own_attributes (get_or ids (k - 1) d) 0 (features_of p (get_or ids (k - 1) d)) ≡ attributes_of p (drop (k - 1) ids)
one_more p ids k d all above within is =
    ap (λ (xs : List AttributeRef). xs ++ own_attributes (get_or ids (k - 1) d) 0 (features_of p (get_or ids (k - 1) d))) is ∙ ap (attributes_of p) (sym (before ids k d above within))

-- the item after a front stands at the front's length
after : (front fs : List Feature) (x : Feature) → slice_get (front ++ x ∷ fs) (length front) ≡ Some x
after [] fs x = refl
after (y ∷ front) fs x = after front fs x

-- the attributes that a class has of its own are there
own_has : (p : List Class) (c : ClassId) → c.0 < length p → (front fs : List Feature) → features_of p c ≡ front ++ fs → AllByRecursion (HasAttribute p) (own_attributes c (length front) fs)
own_has p c within front [] e = tt
own_has p c within front (x ∷ fs) e =
    by x e (subst (λ (k : ℕ). AllByRecursion (HasAttribute p) (own_attributes c k fs)) (length_push front x)
    (own_has p c within (front ++ x ∷ []) fs (e ∙ sym (append_assoc front (x ∷ []) fs))))
  where
    by : (x : Feature) → features_of p c ≡ front ++ x ∷ fs → AllByRecursion (HasAttribute p) (own_attributes c (length front + 1) fs) → AllByRecursion (HasAttribute p) (own_attributes c (length front) (x ∷ fs))
    by (Method m) e rest = rest
    by (Attribute a) e rest =
        let there : slice_get (features_of p c) (length front) ≡ Some (Attribute a) = ap (λ (gs : List Feature). slice_get gs (length front)) e ∙ after front fs (Attribute a) in
        ((within, subst IsAttribute (sym there) tt), rest)

all_of_both : (p : List Class) (xs ys : List AttributeRef) → AllByRecursion (HasAttribute p) xs → AllByRecursion (HasAttribute p) ys → AllByRecursion (HasAttribute p) (xs ++ ys)
all_of_both p [] ys h k = k
all_of_both p (x ∷ xs) ys h k = (h.0, all_of_both p xs ys h.1 k)

-- the attributes of classes that are there are there
pub attributes_have : (p : List Class) (ds : List ClassId) → ((k : ℕ) (d : ClassId) → k < length ds → (get_or ds k d).0 < length p) → AllByRecursion (HasAttribute p) (attributes_of p ds)
attributes_have p [] within = tt
attributes_have p (d ∷ ds) within =
    all_of_both p (attributes_of p ds) (own_attributes d 0 (features_of p d))
    (attributes_have p ds (λ k e less. within (suc k) e (omega arith)))
    (own_has p d (within 0 d (omega arith)) [] (features_of p d) refl)
