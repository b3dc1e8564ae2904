-- The relation "inherits from or equals" between classes is transitive. The chain of an ancestor (the ancestor with its own ancestors) is the end of the chain
-- of a class, and its attributes are the first attributes of the class.
use Rattle.std.proofs.Common.{◌≡◌, inl, inr, ℕ, ◌<◌, List, [], ◌∷◌, ◌++◌, length, Option, Some, None, ap, sym, ◌∙◌, refl, subst, arith, append_assoc, append-nil}
use Rattle.std.specs.Prelude.{Contains}
use Rattle.cool_classes.specs.declared.class_id.ClassId.{ClassId}
use Rattle.cool_classes.specs.declared.method.MethodRef.{MethodRef}
use Rattle.cool_classes.specs.declared.method.AttributeRef.{AttributeRef}
use Rattle.cool_classes.specs.Chains.{Class, parent_of, features_of, IsChain, Below}
use Rattle.cool_classes.specs.Features.{own_method, first_of, implementation, own_attributes, attributes_of}
use Rattle.cool_classes.proofs.Climbs.{chain_unique, all_within, below_self}
use Rattle.cool_classes.specs.LawfulTables.{MayInherit, SameSignature}
use Rattle.cool_classes.specs.Tables.{IsWholeTable}
use Rattle.cool_rules.specs.TypedTables.{IsTypedTable}
use Rattle.lists.proofs.Membership.{contains_cases}
use Rattle.std.proofs.lemmas.List.Elements.{Contains-append_right}

pub nothing_in : {X : Type 0} {Y : Type 0} (b : X) → Contains [] b → Y
nothing_in b (k, within, is) = absurd (omega arith)

-- a chain from a class that stands on it is the end of the chain
pub split_by : (p : List Class) (d b : ClassId) (ds : List ClassId) (o : Option ClassId) → IsChain p o (d ∷ ds) → d ≡ b → IsChain p (Some b) (d ∷ ds)
split_by p d b ds None h e = absurd h
split_by p d b ds (Some c) h e = (e, subst (λ (x : ClassId). IsChain p (parent_of p x) ds) (sym h.0 ∙ e) h.1)

pub rest_chain : (p : List Class) (d : ClassId) (ds : List ClassId) (o : Option ClassId) → IsChain p o (d ∷ ds) → IsChain p (parent_of p d) ds
rest_chain p d ds None h = absurd h
rest_chain p d ds (Some c) h = subst (λ (x : ClassId). IsChain p (parent_of p x) ds) (sym h.0) h.1

pub split_chain : (p : List Class) (o : Option ClassId) (ds : List ClassId) → IsChain p o ds → (b : ClassId) → Contains ds b
    → (front : List ClassId) × (es : List ClassId) × (ds ≡ front ++ es) × IsChain p (Some b) es
split_chain p o [] h b there = nothing_in b there
split_chain p o (d ∷ ds) h b there = elim (contains_cases d b ds there) [
  | inl e ↦ ([], d ∷ ds, refl, split_by p d b ds o h e)
  | inr t ↦ let (front, es, is, chain) = split_chain p (parent_of p d) ds (rest_chain p d ds o h) b t in (d ∷ front, es, ap (λ (xs : List ClassId). d ∷ xs) is, chain)
]

pub below_trans : (p : List Class) (a b c : ClassId) → Below p a b → Below p b c → Below p a c
below_trans p a b c (ds, chain, there) (es, chain', there') =
    let (front, fs, is, end) = split_chain p (Some a) ds chain b there in
    let same : es ≡ fs = chain_unique p (Some b) es fs chain' end in
    (ds, chain, subst (λ (xs : List ClassId). Contains xs c) (sym is) (Contains-append_right front fs c (subst (λ (xs : List ClassId). Contains xs c) same there')))

-- the attributes of a class after others on a chain are the first of the chain's
attributes_first : (p : List Class) (front es : List ClassId) → (more : List AttributeRef) × (attributes_of p (front ++ es) ≡ attributes_of p es ++ more)
attributes_first p [] es = ([], sym (append-nil (attributes_of p es)))
attributes_first p (d ∷ front) es =
    let (more, is) = attributes_first p front es in
    let own : List AttributeRef = own_attributes d 0 (features_of p d) in
    (more ++ own, ap (λ (xs : List AttributeRef). xs ++ own) is ∙ append_assoc (attributes_of p es) more own)

pub attributes_above : (p : List Class) (k c : ClassId) (ds es : List ClassId) → Below p k c → IsChain p (Some k) ds → IsChain p (Some c) es
    → (more : List AttributeRef) × (attributes_of p ds ≡ attributes_of p es ++ more)
attributes_above p k c ds es (fs, chain, there) chain_k chain_c =
    let (front, gs, is, end) = split_chain p (Some k) fs chain c there in
    let (more, first) = attributes_first p front gs in
    let same : es ≡ gs = chain_unique p (Some c) es gs chain_c end in
    let all : ds ≡ front ++ gs = chain_unique p (Some k) ds fs chain_k chain ∙ is in
    (more, ap (attributes_of p) all ∙ (first ∙ ap (λ (xs : List ClassId). attributes_of p xs ++ more) (sym same)))

module _ (p : List Class) (whole : IsWholeTable p) where
  -- classes on a chain are classes of the table
  pub chain_within : (c : ClassId) → c.0 < length p → (ds : List ClassId) → IsChain p (Some c) ds → (b : ClassId) → Contains ds b → b.0 < length p
  chain_within c within ds chain b (k, less, is) = subst (λ (x : ClassId). x.0 < length p) is (all_within p whole.depth whole.grounded c within ds chain k b less)

  pub below_within : (a b : ClassId) → a.0 < length p → Below p a b → b.0 < length p
  below_within a b within (ds, chain, there) = chain_within a within ds chain b there

  pub below_itself : (c : ClassId) → c.0 < length p → Below p c c
  below_itself c within = below_self p whole.depth whole.grounded c within

  -- a parent is a class of the table
  pub parent_within : (c : ClassId) → c.0 < length p → (o : Option ClassId) → parent_of p c ≡ o → (d : ClassId) (ds : List ClassId) → IsChain p o (d ∷ ds) → (d.0 < length p) × (parent_of p c ≡ Some d)
  parent_within c within None e d ds h = absurd h
  parent_within c within (Some q) e d ds h = (subst (λ (x : ClassId). x.0 < length p) (sym h.0) (whole.grounded.above c q within e).0, e ∙ ap Some (sym h.0))

module _ (p : List Class) (typed : IsTypedTable p) where
  -- only itself is below a class that no class may inherit from
  alone_by : (b : ClassId) → (MayInherit b → ⊥) → (c : ClassId) → c.0 < length p → (ds : List ClassId) → IsChain p (Some c) ds → Contains ds b → c ≡ b
  alone_by b shut c within [] h there = absurd h
  alone_by b shut c within (d ∷ []) h there = elim (contains_cases d b [] there) [ inl e ↦ sym h.0 ∙ e | inr t ↦ nothing_in b t ]
  alone_by b shut c within (d ∷ e ∷ ds) h there = elim (contains_cases d b (e ∷ ds) there) [
    | inl same ↦ sym h.0 ∙ same
    | inr t ↦
        let up = parent_within p typed.whole c within (parent_of p c) refl e ds h.1 in
        let is : e ≡ b = alone_by b shut e up.0 (e ∷ ds) (subst (λ (o : Option ClassId). IsChain p o (e ∷ ds)) up.1 h.1) t in
        absurd (shut (typed.lawful.parents c b within (up.1 ∙ ap Some is)))
  ]

  pub below_alone : (a b : ClassId) → (MayInherit b → ⊥) → a.0 < length p → Below p a b → a ≡ b
  below_alone a b shut within (ds, chain, there) = alone_by b shut a within ds chain there

  -- a class has a method of each name that one above it has, with the same types
  same_by : (d : ClassId) (ds : List ClassId) (f : List ℕ) (n : MethodRef) → d.0 < length p → IsChain p (parent_of p d) ds → implementation p ds f ≡ Some n
      → (o : Option MethodRef) → own_method p d f ≡ o → (m : MethodRef) × (first_of o (implementation p ds f) ≡ Some m) × SameSignature p m n
  same_by d ds f n within chain is None e = (n, is, record { formals = refl; result = refl })
  same_by d ds f n within chain is (Some m) e = (m, refl, typed.lawful.redefined d ds f m n within chain e is)

  implementation_by : (c : ClassId) → c.0 < length p → (front es : List ClassId) → IsChain p (Some c) (front ++ es) → (f : List ℕ) (n : MethodRef) → implementation p es f ≡ Some n
      → (m : MethodRef) × (implementation p (front ++ es) f ≡ Some m) × SameSignature p m n
  implementation_by c within [] es chain f n is = (n, is, record { formals = refl; result = refl })
  implementation_by c within (d ∷ []) es chain f n is =
      same_by d es f n (subst (λ (x : ClassId). x.0 < length p) (sym chain.0) within) (rest_chain p d es (Some c) chain) is (own_method p d f) refl
  implementation_by c within (d ∷ e ∷ front) es chain f n is =
      let up = parent_within p typed.whole c within (parent_of p c) refl e (front ++ es) chain.1 in
      let (m, found, same) = implementation_by e up.0 (e ∷ front) es (subst (λ (o : Option ClassId). IsChain p o (e ∷ (front ++ es))) up.1 chain.1) f n is in
      let (k, here, more) = same_by d (e ∷ (front ++ es)) f m (subst (λ (x : ClassId). x.0 < length p) (sym chain.0) within) (rest_chain p d (e ∷ (front ++ es)) (Some c) chain) found (own_method p d f) refl in
      (k, here, record { formals = more.formals ∙ same.formals; result = more.result ∙ same.result })

  pub implementation_below : (k c : ClassId) (ds es : List ClassId) (f : List ℕ) (n : MethodRef) → k.0 < length p → Below p k c → IsChain p (Some k) ds → IsChain p (Some c) es
      → implementation p es f ≡ Some n → (m : MethodRef) × (implementation p ds f ≡ Some m) × SameSignature p m n
  implementation_below k c ds es f n within (fs, chain, there) chain_k chain_c is =
      let (front, gs, split, end) = split_chain p (Some k) fs chain c there in
      let same : es ≡ gs = chain_unique p (Some c) es gs chain_c end in
      let all : front ++ gs ≡ ds = sym split ∙ chain_unique p (Some k) fs ds chain chain_k in
      let (m, found, signature) = implementation_by k within front gs (subst (λ (xs : List ClassId). IsChain p (Some k) xs) split chain) f n (subst (λ (xs : List ClassId). implementation p xs f ≡ Some n) same is) in
      (m, subst (λ (xs : List ClassId). implementation p xs f ≡ Some m) all found, signature)
