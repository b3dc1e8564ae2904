-- An attribute has the same offset in the objects of all classes below the one that declares it.
use Rattle.std.proofs.Common.{◌≡◌, ℕ, zero, suc, ◌+◌, ◌*◌, ◌<◌, ◌≤◌, List, [], ◌∷◌, ◌++◌, length, get_or, take, Option, Some, None, Bool, true, false, ◌&&◌, ◌||◌, cond, not, refl, sym, ap, ◌∙◌, subst, arith, true≢false, inl, inr, ◌⊎◌, length-append, Contains}
use Rattle.std.specs.Prelude.{nat_eq}
use Rattle.std.proofs.lemmas.List.{take_more}
use Rattle.std.specs.List.{AllByRecursion, position_or_len, list_any}
use Rattle.cool_syntax.specs.declared.file_tree.Feature.{Feature}
use Rattle.cool_syntax.specs.declared.file_tree.Feature.TheVariants.{Method, Attribute}
use Rattle.cool_syntax.specs.declared.file_tree.AttributeDef.{AttributeDef}
use Rattle.cool_syntax.specs.declared.file_tree.MethodDef.{MethodDef}
use Rattle.cool_classes.specs.declared.class_id.ClassId.{ClassId}
use Rattle.cool_classes.specs.declared.method.AttributeRef.{AttributeRef}
use Rattle.cool_classes.specs.Chains.{Class, parent_of, features_of, IsChain}
use Rattle.cool_classes.specs.Features.{own_attributes, attributes_of}
use Rattle.cool_classes.specs.ClimbedChains.{chain}
use Rattle.cool_layout.specs.Members.{attributes, is_attribute, offset}
use Rattle.cool_layout.specs.Roots.{IsRooted}
use Rattle.cool_layout.specs.Offsets.{attributes_above, above_count, attribute_count, offsets_among}
use Rattle.cool_layout.proofs.ShortChains.{same_number, chain_is, chain_step, chain_end, chain_in, Within, new_above}

abbrev pub place_of : AttributeRef → List AttributeRef → ℕ
place_of a xs = position_or_len (is_attribute a) xs

-- counting

own_count : (c : ClassId) (k : ℕ) (fs : List Feature) → length (own_attributes c k fs) ≡ attribute_count fs
own_count c k [] = refl
own_count c k (Method m ∷ fs) = own_count c (k + 1) fs
own_count c k (Attribute a ∷ fs) = let h : length (own_attributes c (k + 1) fs) ≡ attribute_count fs = own_count c (k + 1) fs in omega arith

pub attributes_step : (p : List Class) → IsRooted p → (c q : ClassId) → c.0 < length p → parent_of p c ≡ Some q → attributes p c ≡ attributes p q ++ own_attributes c 0 (features_of p c)
attributes_step p r c q within e = ap (attributes_of p) (chain_step p r c q within e)

pub attributes_top : (p : List Class) → IsRooted p → (c : ClassId) → c.0 < length p → parent_of p c ≡ None → attributes p c ≡ own_attributes c 0 (features_of p c)
attributes_top p r c within e = ap (attributes_of p) (chain_end p r c within e)

pub counted : (p : List Class) → IsRooted p → (c : ClassId) → c.0 < length p → length (attributes p c) ≡ above_count p c + attribute_count (features_of p c)
counted p r c within = by (parent_of p c) refl
  where
    own : length (own_attributes c 0 (features_of p c)) ≡ attribute_count (features_of p c)
    own = own_count c 0 (features_of p c)

    by : (o : Option ClassId) → parent_of p c ≡ o → length (attributes p c) ≡ attributes_above p o + attribute_count (features_of p c)
    by None e = let h : length (attributes p c) ≡ attribute_count (features_of p c) = ap length (attributes_top p r c within e) ∙ own in omega arith
    by (Some q) e = ap length (attributes_step p r c q within e) ∙ length-append (attributes p q) (own_attributes c 0 (features_of p c)) ∙ ap (λ n. length (attributes p q) + n) own

-- the offsets of one feature more
pub offsets_more : (above : ℕ) (fs : List Feature) (f : Feature) → offsets_among above (fs ++ f ∷ []) ≡ offsets_among above fs ++ offsets_among (above + attribute_count fs) (f ∷ [])
offsets_more above [] f = let e : above ≡ above + 0 = omega arith in ap (λ n. offsets_among n (f ∷ [])) e
offsets_more above (Method m ∷ fs) f = ap (λ (xs : List ℕ). 0 ∷ xs) (offsets_more above fs f)
offsets_more above (Attribute a ∷ fs) f =
    let e : above + 1 + attribute_count fs ≡ above + (attribute_count fs + 1) = omega arith in
    ap (λ (xs : List ℕ). (12 + 4 * above) ∷ xs) (offsets_more (above + 1) fs f ∙ ap (λ n. offsets_among (above + 1) fs ++ offsets_among n (f ∷ [])) e)

pub count_more : (fs : List Feature) (f : Feature) → attribute_count (fs ++ f ∷ []) ≡ attribute_count fs + attribute_count (f ∷ [])
count_more [] f = omega arith
count_more (Method m ∷ fs) f = count_more fs f
count_more (Attribute a ∷ fs) f = let h : attribute_count (fs ++ f ∷ []) ≡ attribute_count fs + attribute_count (f ∷ []) = count_more fs f in omega arith

pub count_take : (fs : List Feature) (i : ℕ) → attribute_count (take i fs) ≤ attribute_count fs
count_take fs zero = omega arith
count_take [] (suc i) = omega arith
count_take (Method m ∷ fs) (suc i) = count_take fs i
count_take (Attribute a ∷ fs) (suc i) = let h : attribute_count (take i fs) ≤ attribute_count fs = count_take fs i in omega arith

-- one feature more

next_taken : (fs : List Feature) (i : ℕ) (f : Feature) → i < length fs → f ≡ get_or fs i f → take (i + 1) fs ≡ take i fs ++ f ∷ []
next_taken fs i f low read = take_more fs i f low ∙ ap (λ (x : Feature). take i fs ++ x ∷ []) (sym read)

pub attribute_pushed : (above i : ℕ) (fs : List Feature) (f : Feature) (a : AttributeDef) → i < length fs → f ≡ get_or fs i f → f ≡ Attribute a → (xs : List ℕ) (count : ℕ) → xs ≡ offsets_among above (take i fs) → count ≡ above + attribute_count (take i fs)
    → (xs ++ (12 + 4 * count) ∷ [] ≡ offsets_among above (take (i + 1) fs)) × (count + 1 ≡ above + attribute_count (take (i + 1) fs)) × (count + 1 ≤ above + attribute_count fs)
attribute_pushed above i fs f a low read is xs count old number =
    let next : take (i + 1) fs ≡ take i fs ++ Attribute a ∷ [] = next_taken fs i f low read ∙ ap (λ (x : Feature). take i fs ++ x ∷ []) is in
    let all : attribute_count (take (i + 1) fs) ≡ attribute_count (take i fs) + 1 = ap attribute_count next ∙ count_more (take i fs) (Attribute a) in
    let most : attribute_count (take (i + 1) fs) ≤ attribute_count fs = count_take fs (i + 1) in (
      ap (λ (ys : List ℕ). ys ++ (12 + 4 * count) ∷ []) old ∙ ap (λ n. offsets_among above (take i fs) ++ (12 + 4 * n) ∷ []) number ∙ sym (ap (offsets_among above) next ∙ offsets_more above (take i fs) (Attribute a)),
      omega arith,
      omega arith,
    )

pub method_pushed : (above i : ℕ) (fs : List Feature) (f : Feature) (m : MethodDef) → i < length fs → f ≡ get_or fs i f → f ≡ Method m → (xs : List ℕ) (count : ℕ) → xs ≡ offsets_among above (take i fs) → count ≡ above + attribute_count (take i fs)
    → (xs ++ 0 ∷ [] ≡ offsets_among above (take (i + 1) fs)) × (count ≡ above + attribute_count (take (i + 1) fs))
method_pushed above i fs f m low read is xs count old number =
    let next : take (i + 1) fs ≡ take i fs ++ Method m ∷ [] = next_taken fs i f low read ∙ ap (λ (x : Feature). take i fs ++ x ∷ []) is in
    let all : attribute_count (take (i + 1) fs) ≡ attribute_count (take i fs) + 0 = ap attribute_count next ∙ count_more (take i fs) (Method m) in
    (ap (λ (ys : List ℕ). ys ++ 0 ∷ []) old ∙ sym (ap (offsets_among above) next ∙ offsets_more above (take i fs) (Method m)), omega arith)

-- places

place_after : (a : AttributeRef) (xs ys : List AttributeRef) → list_any (is_attribute a) xs ≡ false → place_of a (xs ++ ys) ≡ length xs + place_of a ys
place_after a [] ys none = omega arith
place_after a (x ∷ xs) ys none = by (is_attribute a x) none (λ h. place_after a xs ys h)
  where
    by : (b : Bool) → (b || list_any (is_attribute a) xs) ≡ false → (list_any (is_attribute a) xs ≡ false → place_of a (xs ++ ys) ≡ length xs + place_of a ys) → cond (not b) (1 + place_of a (xs ++ ys)) 0 ≡ suc (length xs) + place_of a ys
    by true h more = absurd (true≢false h)
    by false h more = let l : place_of a (xs ++ ys) ≡ length xs + place_of a ys = more h in omega arith

place_here : (a : AttributeRef) (xs ys : List AttributeRef) → list_any (is_attribute a) xs ≡ true → place_of a (xs ++ ys) ≡ place_of a xs
place_here a [] ys some = absurd (true≢false (sym some))
place_here a (x ∷ xs) ys some = by (is_attribute a x) some (λ h. place_here a xs ys h)
  where
    by : (b : Bool) → (b || list_any (is_attribute a) xs) ≡ true → (list_any (is_attribute a) xs ≡ true → place_of a (xs ++ ys) ≡ place_of a xs) → cond (not b) (1 + place_of a (xs ++ ys)) 0 ≡ cond (not b) (1 + place_of a xs) 0
    by true h more = refl
    by false h more = ap (λ n. 1 + n) (more h)

any_after : (a : AttributeRef) (xs ys : List AttributeRef) → list_any (is_attribute a) ys ≡ true → list_any (is_attribute a) (xs ++ ys) ≡ true
any_after a [] ys h = h
any_after a (x ∷ xs) ys h = by (is_attribute a x) (any_after a xs ys h)
  where
    by : (b : Bool) → list_any (is_attribute a) (xs ++ ys) ≡ true → (b || list_any (is_attribute a) (xs ++ ys)) ≡ true
    by true t = refl
    by false t = t

any_before : (a : AttributeRef) (xs ys : List AttributeRef) → list_any (is_attribute a) xs ≡ true → list_any (is_attribute a) (xs ++ ys) ≡ true
any_before a [] ys h = absurd (true≢false (sym h))
any_before a (x ∷ xs) ys h = by (is_attribute a x) h (λ k. any_before a xs ys k)
  where
    by : (b : Bool) → (b || list_any (is_attribute a) xs) ≡ true → (list_any (is_attribute a) xs ≡ true → list_any (is_attribute a) (xs ++ ys) ≡ true) → (b || list_any (is_attribute a) (xs ++ ys)) ≡ true
    by true t more = refl
    by false t more = more t

any_cases : (a : AttributeRef) (xs ys : List AttributeRef) → list_any (is_attribute a) (xs ++ ys) ≡ true → (list_any (is_attribute a) xs ≡ true) ⊎ (list_any (is_attribute a) ys ≡ true)
any_cases a [] ys h = inr h
any_cases a (x ∷ xs) ys h = by (is_attribute a x) h (λ k. any_cases a xs ys k)
  where
    by : (b : Bool) → (b || list_any (is_attribute a) (xs ++ ys)) ≡ true → (list_any (is_attribute a) (xs ++ ys) ≡ true → (list_any (is_attribute a) xs ≡ true) ⊎ (list_any (is_attribute a) ys ≡ true))
        → ((b || list_any (is_attribute a) xs) ≡ true) ⊎ (list_any (is_attribute a) ys ≡ true)
    by true t more = inl refl
    by false t more = more t

pub same_attribute : (a : AttributeRef) → is_attribute a a ≡ true
same_attribute a = let e : nat_eq a.owner.0 a.owner.0 ≡ true = grind arith in let f : nat_eq a.index a.index ≡ true = grind arith in rw (e, f) refl

pub any_contains : (a : AttributeRef) (xs : List AttributeRef) → Contains xs a → list_any (is_attribute a) xs ≡ true
any_contains a [] (k, l, e) = absurd (omega arith)
any_contains a (x ∷ xs) (zero, l, e) = ap (λ y. is_attribute a y || list_any (is_attribute a) xs) e ∙ ap (λ b. b || list_any (is_attribute a) xs) (same_attribute a)
any_contains a (x ∷ xs) (suc k, l, e) = by (is_attribute a x) (any_contains a xs (k, omega arith, e))
  where
    by : (b : Bool) → list_any (is_attribute a) xs ≡ true → (b || list_any (is_attribute a) xs) ≡ true
    by true t = refl
    by false t = t

-- the owner of an attribute of a class's own is the class
own_owner : (a : AttributeRef) (c : ClassId) (k : ℕ) (fs : List Feature) → list_any (is_attribute a) (own_attributes c k fs) ≡ true → a.owner ≡ c
own_owner a c k [] h = absurd (true≢false (sym h))
own_owner a c k (Method m ∷ fs) h = own_owner a c (k + 1) fs h
own_owner a c k (Attribute x ∷ fs) h = by (nat_eq c.0 a.owner.0) refl (nat_eq k a.index) h (λ j. own_owner a c (k + 1) fs j)
  where
    by : (b : Bool) → nat_eq c.0 a.owner.0 ≡ b → (d : Bool) → ((b && d) || list_any (is_attribute a) (own_attributes c (k + 1) fs)) ≡ true → (list_any (is_attribute a) (own_attributes c (k + 1) fs) ≡ true → a.owner ≡ c) → a.owner ≡ c
    by true e d t more = let n : a.owner.0 ≡ c.0 = grind arith in same_number a.owner c n
    by false e d t more = more t

-- an attribute of a chain is one of its owner's own, and the owner stands on the chain
owner_on : (p : List Class) (a : AttributeRef) (ds : List ClassId) → list_any (is_attribute a) (attributes_of p ds) ≡ true → Contains ds a.owner × (list_any (is_attribute a) (own_attributes a.owner 0 (features_of p a.owner)) ≡ true)
owner_on p a [] h = absurd (true≢false (sym h))
owner_on p a (d ∷ ds) h = elim (any_cases a (attributes_of p ds) (own_attributes d 0 (features_of p d)) h) [
  | inl t ↦ let above = owner_on p a ds t in ((suc above.0.0, (let l = above.0.1 in omega arith), above.0.2), above.1)
  | inr t ↦
      let is : a.owner ≡ d = own_owner a d 0 (features_of p d) t in
      ((0, omega arith, sym is), subst (λ (x : ClassId). list_any (is_attribute a) (own_attributes x 0 (features_of p x)) ≡ true) (sym is) t)
]

-- the place in a class is that in each class above it that has the attribute
pub same_place : (p : List Class) → IsRooted p → (a : AttributeRef) (c : ClassId) → c.0 < length p → (ds : List ClassId) → IsChain p (Some c) ds → (d : ClassId) → Contains ds d → list_any (is_attribute a) (attributes p d) ≡ true
    → (place_of a (attributes p c) ≡ place_of a (attributes p d)) × (list_any (is_attribute a) (attributes p c) ≡ true)
same_place p r a c within [] h d there some = absurd h
same_place p r a c within (e ∷ ds) h d (zero, l, is) some =
    let same : c ≡ d = sym h.0 ∙ is in
    (ap (λ x. place_of a (attributes p x)) same, ap (λ x. list_any (is_attribute a) (attributes p x)) same ∙ some)
same_place p r a c within (e ∷ ds) h d (suc k, l, is) some = by (parent_of p c) refl h.1 (λ q w j. same_place p r a q w ds j d (k, omega arith, is) some)
  where
    by : (o : Option ClassId) → parent_of p c ≡ o → IsChain p o ds
        → ((q : ClassId) → q.0 < length p → IsChain p (Some q) ds → (place_of a (attributes p q) ≡ place_of a (attributes p d)) × (list_any (is_attribute a) (attributes p q) ≡ true))
        → (place_of a (attributes p c) ≡ place_of a (attributes p d)) × (list_any (is_attribute a) (attributes p c) ≡ true)
    by None e j more = absurd (none ds j l)
      where
        none : (es : List ClassId) → IsChain p None es → suc k < suc (length es) → ⊥
        none [] j l = absurd (omega arith)
        none (x ∷ es) j l = j
    by (Some q) e j more =
        let above = more q (r.above c q within e) j in
        let own : List AttributeRef = own_attributes c 0 (features_of p c) in (
          ap (place_of a) (attributes_step p r c q within e) ∙ place_here a (attributes p q) own above.1 ∙ above.0,
          ap (list_any (is_attribute a)) (attributes_step p r c q within e) ∙ any_before a (attributes p q) own above.1,
        )

-- an attribute of a class: its owner stands on the chain, and its place is that in the owner's objects
pub of_owner : (p : List Class) → IsRooted p → (a : AttributeRef) (c : ClassId) → c.0 < length p → Contains (attributes p c) a
    → Contains (chain p c) a.owner × (list_any (is_attribute a) (own_attributes a.owner 0 (features_of p a.owner)) ≡ true)
of_owner p r a c within there = owner_on p a (chain p c) (any_contains a (attributes p c) there)

on_chain_in : (p : List Class) → IsRooted p → (o : Option ClassId) (ds : List ClassId) → IsChain p o ds → Within p o → (d : ClassId) → Contains ds d → d.0 < length p
on_chain_in p r o ds h w d there = at ds (chain_in p r o w ds h) d there
  where
    at : (es : List ClassId) → AllByRecursion (λ x. x.0 < length p) es → (d : ClassId) → Contains es d → d.0 < length p
    at [] all d (k, l, e) = absurd (omega arith)
    at (x ∷ es) all d (zero, l, e) = subst (λ (y : ClassId). y.0 < length p) e all.0
    at (x ∷ es) all d (suc k, l, e) = at es all.1 d (k, omega arith, e)

pub owner_in : (p : List Class) → IsRooted p → (a : AttributeRef) (c : ClassId) → c.0 < length p → Contains (attributes p c) a → a.owner.0 < length p
owner_in p r a c within there = on_chain_in p r (Some c) (chain p c) (chain_is p r c within) within a.owner (of_owner p r a c within there).0

-- the place among a class's own attributes, and what the features say of it
own_place : (a : AttributeRef) (k : ℕ) (fs : List Feature) (above : ℕ) → list_any (is_attribute a) (own_attributes a.owner k fs) ≡ true
    → (j : ℕ) × (a.index ≡ k + j) × (j < length fs) × (get_or (offsets_among above fs) j 0 ≡ 12 + 4 * (above + place_of a (own_attributes a.owner k fs)))
own_place a k [] above h = absurd (true≢false (sym h))
own_place a k (Method m ∷ fs) above h =
    let rest = own_place a (k + 1) fs above h in
    (suc rest.0, (let e = rest.1 in omega arith), (let l = rest.2 in omega arith), rest.3)
own_place a k (Attribute x ∷ fs) above h = by (nat_eq k a.index) refl (λ t. own_place a (k + 1) fs (above + 1) t)
  where
    self : nat_eq a.owner.0 a.owner.0 ≡ true
    self = grind arith

    rest : List AttributeRef
    rest = own_attributes a.owner (k + 1) fs

    by : (b : Bool) → nat_eq k a.index ≡ b
        → (list_any (is_attribute a) (own_attributes a.owner (k + 1) fs) ≡ true → (j : ℕ) × (a.index ≡ k + 1 + j) × (j < length fs) × (get_or (offsets_among (above + 1) fs) j 0 ≡ 12 + 4 * (above + 1 + place_of a (own_attributes a.owner (k + 1) fs))))
        → (j : ℕ) × (a.index ≡ k + j) × (j < suc (length fs)) × (get_or ((12 + 4 * above) ∷ offsets_among (above + 1) fs) j 0 ≡ 12 + 4 * (above + place_of a (own_attributes a.owner k (Attribute x ∷ fs))))
    by true e more =
        let here : place_of a (own_attributes a.owner k (Attribute x ∷ fs)) ≡ 0 = ap (λ b. cond (not (b && nat_eq k a.index)) (1 + place_of a rest) 0) self ∙ ap (λ b. cond (not b) (1 + place_of a rest) 0) e in
        (0, (let n : k ≡ a.index = grind arith in omega arith), omega arith, (let f : 12 + 4 * above ≡ 12 + 4 * (above + place_of a (own_attributes a.owner k (Attribute x ∷ fs))) = omega arith in f))
    by false e more =
        let there : place_of a (own_attributes a.owner k (Attribute x ∷ fs)) ≡ 1 + place_of a rest = ap (λ b. cond (not (b && nat_eq k a.index)) (1 + place_of a rest) 0) self ∙ ap (λ b. cond (not b) (1 + place_of a rest) 0) e in
        let some : list_any (is_attribute a) rest ≡ true = sym (ap (λ b. (b && nat_eq k a.index) || list_any (is_attribute a) rest) self ∙ ap (λ b. b || list_any (is_attribute a) rest) e) ∙ h in
        let found = more some in
        (suc found.0, (let i = found.1 in omega arith), (let l = found.2 in omega arith), (let g = found.3 in found.3 ∙ (let f : 12 + 4 * (above + 1 + place_of a rest) ≡ 12 + 4 * (above + place_of a (own_attributes a.owner k (Attribute x ∷ fs))) = omega arith in f)))

-- an attribute does not stand among those of the classes above its owner
not_above : (p : List Class) → IsRooted p → (a : AttributeRef) (q : ClassId) → a.owner.0 < length p → parent_of p a.owner ≡ Some q → (b : Bool) → list_any (is_attribute a) (attributes p q) ≡ b → b ≡ false
not_above p r a q within e false none = refl
not_above p r a q within e true some =
    let on = (owner_on p a (chain p q) some).0 in
    let c = chain_is p r q (r.above a.owner q within e) in
    absurd (new_above p a.owner (chain p q) (subst (λ (o : Option ClassId). IsChain p o (chain p q)) (sym e) c) on)

-- the offset of an attribute in its owner's objects
pub owner_offset : (p : List Class) → IsRooted p → (a : AttributeRef) → a.owner.0 < length p → list_any (is_attribute a) (own_attributes a.owner 0 (features_of p a.owner)) ≡ true
    → (a.index < length (features_of p a.owner)) × (get_or (offsets_among (above_count p a.owner) (features_of p a.owner)) a.index 0 ≡ offset p a.owner a)
owner_offset p r a within some =
    let fs : List Feature = features_of p a.owner in
    let own : List AttributeRef = own_attributes a.owner 0 fs in
    let found = own_place a 0 fs (above_count p a.owner) some in
    let index : a.index ≡ found.0 = (let e = found.1 in omega arith) in
    let place : above_count p a.owner + place_of a own ≡ place_of a (attributes p a.owner) = by (parent_of p a.owner) refl in
    ((let l = found.2 in omega arith), ap (λ n. get_or (offsets_among (above_count p a.owner) fs) n 0) index ∙ found.3 ∙ ap (λ n. 12 + 4 * n) place)
  where
    own : List AttributeRef
    own = own_attributes a.owner 0 (features_of p a.owner)

    by : (o : Option ClassId) → parent_of p a.owner ≡ o → attributes_above p o + place_of a (own_attributes a.owner 0 (features_of p a.owner)) ≡ place_of a (attributes p a.owner)
    by None e = (let z : 0 + place_of a (own_attributes a.owner 0 (features_of p a.owner)) ≡ place_of a (own_attributes a.owner 0 (features_of p a.owner)) = omega arith in z) ∙ ap (place_of a) (sym (attributes_top p r a.owner within e))
    by (Some q) e =
        let none : list_any (is_attribute a) (attributes p q) ≡ false = not_above_is q e in
        sym (ap (place_of a) (attributes_step p r a.owner q within e) ∙ place_after a (attributes p q) (own_attributes a.owner 0 (features_of p a.owner)) none)
      where
        not_above_is : (q : ClassId) → parent_of p a.owner ≡ Some q → list_any (is_attribute a) (attributes p q) ≡ false
        not_above_is q e = not_above p r a q within e (list_any (is_attribute a) (attributes p q)) refl

-- a class has its own attributes
pub own_among : (p : List Class) → IsRooted p → (a : AttributeRef) → a.owner.0 < length p → list_any (is_attribute a) (own_attributes a.owner 0 (features_of p a.owner)) ≡ true → list_any (is_attribute a) (attributes p a.owner) ≡ true
own_among p r a within some = by (parent_of p a.owner) refl
  where
    by : (o : Option ClassId) → parent_of p a.owner ≡ o → list_any (is_attribute a) (attributes p a.owner) ≡ true
    by None e = ap (list_any (is_attribute a)) (attributes_top p r a.owner within e) ∙ some
    by (Some q) e = ap (list_any (is_attribute a)) (attributes_step p r a.owner q within e) ∙ any_after a (attributes p q) (own_attributes a.owner 0 (features_of p a.owner)) some
