-- In a complete class table, the functions for the types of names and for joins (least common supertypes) return exactly what the typing rules allow. Two types
-- that conform to each other are the same.
use Rattle.std.proofs.Common.{◌≡◌, inl, inr, ◌<◌, ℕ, List, [], ◌∷◌, length, Option, Some, None, Bool, true, false, ap, sym, ◌∙◌, refl, subst, arith, true≢false}
use Rattle.std.specs.Prelude.{Contains, if◌then◌else◌, bytes_eq, option_map}
use Rattle.std.proofs.lemmas.Bool.{eqb-true, eq-eqb}
use Rattle.std.proofs.lemmas.Slice.Eq.{bytes_eq-Decides}
use Rattle.cool_classes.specs.declared.class_id.ClassId.{ClassId}
use Rattle.cool_classes.specs.declared.class_id.Ty.{Ty}
use Rattle.cool_classes.specs.declared.class_id.Ty.TheVariants.{Class as IsClass, SelfType}
use Rattle.cool_classes.specs.Chains.{Class, class_number, parent_of, IsChain, Below}
use Rattle.cool_classes.specs.ClimbedChains.{chain}
use Rattle.cool_classes.specs.Features.{Denotes}
use Rattle.cool_classes.specs.Names.{self_type}
use Rattle.cool_classes.specs.Tables.{IsWholeTable}
use Rattle.cool_classes.proofs.ChainsOfTables.{chain_is}
use Rattle.cool_classes.proofs.ClassesNamed.{named_back}
use Rattle.cool_classes.proofs.Climbs.{below_depth}
use Rattle.cool_rules.specs.Conformance.{IsType, Conforms, IsJoinOfTypes}
use Rattle.cool_rules.specs.Rules.{is_among, first_among, same_type, join_in, class_named, type_of_name}
use Rattle.cool_rules.proofs.ChainsOfTables.{nothing_in, below_within, parent_within, split_by, rest_chain}
use Rattle.cool_rules.proofs.ClassesAmong.{below_among, among_below, among_there, there_among}
use Rattle.cool_rules.proofs.RulesOfTables.{type_of_name_is}
use Rattle.lists.proofs.Membership.{contains_cases}
use Rattle.std.proofs.lemmas.List.Elements.{Contains-append_right}

-- two types are one exactly where the function says so
pub same_types : (t u : Ty) → same_type t u ≡ true → t ≡ u
same_types (IsClass a) (IsClass b) e = ap (λ (n : ℕ). IsClass (class_number n)) (eqb-true a.0 b.0 e)
same_types (IsClass a) SelfType e = absurd (cc)
same_types SelfType (IsClass b) e = absurd (cc)
same_types SelfType SelfType e = refl

pub types_same : (t u : Ty) → t ≡ u → same_type t u ≡ true
types_same t u e = subst (λ (x : Ty). same_type t x ≡ true) e (itself t)
  where
    itself : (t : Ty) → same_type t t ≡ true
    itself (IsClass a) = eq-eqb a.0 a.0 refl
    itself SelfType = refl

module _ (p : List Class) (whole : IsWholeTable p) where
  -- names
  pub named_denotes : (name : List ℕ) (t : Ty) → type_of_name p name ≡ Some t → Denotes p name t
  unfolding type_of_name
  named_denotes name t e = by (bytes_eq name self_type) refl e
    where
      some : (o : Option ClassId) → class_named p name ≡ o → option_map IsClass o ≡ Some t → Denotes p name t
      some None is e = absurd (cc)
      some (Some c) is e = let same : IsClass c ≡ t = cc in subst (λ (u : Ty). Denotes p name u) same (named_back p name c is)

      by : (b : Bool) → bytes_eq name self_type ≡ b → (if b then Some SelfType else option_map IsClass (class_named p name)) ≡ Some t → Denotes p name t
      by true is e = let same : SelfType ≡ t = cc in subst (λ (u : Ty). Denotes p name u) same ((bytes_eq-Decides name self_type).0 is)
      by false is e = some (class_named p name) refl e

  pub denoted : (name : List ℕ) (t : Ty) → Denotes p name t → type_of_name p name ≡ Some t
  denoted name t h = sym (type_of_name_is p name (Some t) whole.table h)

  pub denotes_type : (name : List ℕ) (t : Ty) → Denotes p name t → IsType p t
  denotes_type name SelfType h = tt
  denotes_type name (IsClass c) h = h.0

  -- joins

  -- Object stands on each chain
  object_on : (c : ClassId) → c.0 < length p → (ds : List ClassId) → IsChain p (Some c) ds → Contains ds (class_number 0)
  object_on c within [] h = absurd h
  object_on c within (d ∷ []) h = by (parent_of p c) refl h.1
    where
      by : (o : Option ClassId) → parent_of p c ≡ o → IsChain p o [] → Contains (d ∷ []) (class_number 0)
      by None e h1 = (0, omega arith, h.0 ∙ (whole.grounded.top c within e).0)
      by (Some q) e h1 = absurd h1
  object_on c within (d ∷ e ∷ ds) h =
      let up = parent_within p whole c within (parent_of p c) refl e ds h.1 in
      Contains-append_right (d ∷ []) (e ∷ ds) (class_number 0) (object_on e up.0 (e ∷ ds) (subst (λ (o : Option ClassId). IsChain p o (e ∷ ds)) up.1 h.1))

  -- the first class of a list that is among others
  first_found : (es ds : List ClassId) (x : ClassId) → Contains ds x → is_among es x ≡ true → Contains ds (first_among ds es) × (is_among es (first_among ds es) ≡ true)
  unfolding first_among
  first_found es [] x h e = nothing_in x h
  first_found es (d ∷ ds) x h e = by (is_among es d) refl (λ there. first_found es ds x there e)
    where
      by : (b : Bool) → is_among es d ≡ b → (Contains ds x → Contains ds (first_among ds es) × (is_among es (first_among ds es) ≡ true))
          → Contains (d ∷ ds) (if b then d else first_among ds es) × (is_among es (if b then d else first_among ds es) ≡ true)
      by true is more = ((0, omega arith, refl), is)
      by false is more =
          let there : Contains ds x = elim (contains_cases d x ds h) [ inl same ↦ absurd (true≢false (sym e ∙ (ap (is_among es) (sym same) ∙ is))) | inr t ↦ t ] in
          let rest = more there in
          (Contains-append_right (d ∷ []) ds (first_among ds es) rest.0, rest.1)

  -- on a chain it is below each that is among them
  least_by : (es ds : List ClassId) (o : Option ClassId) → IsChain p o ds → (k : ClassId) → Contains ds k → is_among es k ≡ true → Below p (first_among ds es) k
  unfolding first_among
  least_by es [] o h k there e = nothing_in k there
  least_by es (d ∷ ds) o h k there e = by (is_among es d) refl (λ t. least_by es ds (parent_of p d) (rest_chain p d ds o h) k t e)
    where
      by : (b : Bool) → is_among es d ≡ b → (Contains ds k → Below p (first_among ds es) k) → Below p (if b then d else first_among ds es) k
      by true is more = (d ∷ ds, split_by p d d ds o h refl, there)
      by false is more = more (elim (contains_cases d k ds there) [ inl same ↦ absurd (true≢false (sym e ∙ (ap (is_among es) (sym same) ∙ is))) | inr t ↦ t ])

  join_found : (a b : ClassId) → a.0 < length p → b.0 < length p → Contains (chain p a) (first_among (chain p a) (chain p b)) × (is_among (chain p b) (first_among (chain p a) (chain p b)) ≡ true)
  join_found a b a_within b_within =
      first_found (chain p b) (chain p a) (class_number 0) (object_on a a_within (chain p a) (chain_is p a whole.table a_within))
      (there_among (chain p b) (class_number 0) (object_on b b_within (chain p b) (chain_is p b whole.table b_within)))

  join_left : (a b : ClassId) → a.0 < length p → b.0 < length p → Below p a (first_among (chain p a) (chain p b))
  join_left a b a_within b_within = (chain p a, chain_is p a whole.table a_within, (join_found a b a_within b_within).0)

  join_right : (a b : ClassId) → a.0 < length p → b.0 < length p → Below p b (first_among (chain p a) (chain p b))
  join_right a b a_within b_within = below_among p b (first_among (chain p a) (chain p b)) whole.table b_within (join_found a b a_within b_within).1

  join_least : (a b k : ClassId) → a.0 < length p → b.0 < length p → Below p a k → Below p b k → Below p (first_among (chain p a) (chain p b)) k
  join_least a b k a_within b_within h g =
      least_by (chain p b) (chain p a) (Some a) (chain_is p a whole.table a_within) k (among_there (chain p a) k (among_below p a k h)) (among_below p b k g)

  pub join_is : (c : ClassId) (t u : Ty) → c.0 < length p → IsType p t → IsType p u → IsJoinOfTypes p c t u (join_in p c t u)
  unfolding join_in
  join_is c SelfType SelfType within h g = record { left = tt; right = tt; least = λ other x y. x }
  join_is c SelfType (IsClass b) within h g = record { left = join_left c b within g; right = join_right c b within g; least = λ other x y. by other x y }
    where
      by : (other : Ty) → Conforms p c SelfType other → Conforms p c (IsClass b) other → Conforms p c (IsClass (first_among (chain p c) (chain p b))) other
      by SelfType x y = absurd y
      by (IsClass k) x y = join_least c b k within g x y
  join_is c (IsClass a) SelfType within h g = record { left = join_left a c h within; right = join_right a c h within; least = λ other x y. by other x y }
    where
      by : (other : Ty) → Conforms p c (IsClass a) other → Conforms p c SelfType other → Conforms p c (IsClass (first_among (chain p a) (chain p c))) other
      by SelfType x y = absurd x
      by (IsClass k) x y = join_least a c k h within x y
  join_is c (IsClass a) (IsClass b) within h g = record { left = join_left a b h g; right = join_right a b h g; least = λ other x y. by other x y }
    where
      by : (other : Ty) → Conforms p c (IsClass a) other → Conforms p c (IsClass b) other → Conforms p c (IsClass (first_among (chain p a) (chain p b))) other
      by SelfType x y = absurd x
      by (IsClass k) x y = join_least a b k h g x y

  -- two types that conform to each other are one
  pub one_type : (c : ClassId) (t u : Ty) → IsType p t → IsType p u → Conforms p c t u → Conforms p c u t → t ≡ u
  one_type c SelfType SelfType h g x y = refl
  one_type c SelfType (IsClass b) h g x y = absurd y
  one_type c (IsClass a) SelfType h g x y = absurd x
  one_type c (IsClass a) (IsClass b) h g x y = elim (below_depth p whole.depth whole.grounded a b h x) [
    | inl same ↦ ap IsClass same
    | inr less ↦ elim (below_depth p whole.depth whole.grounded b a g y) [ inl same ↦ ap IsClass (sym same) | inr more ↦ absurd (omega arith) ]
  ]

  pub conforming_type : (c : ClassId) (t u : Ty) → c.0 < length p → IsType p t → Conforms p c t u → IsType p u
  conforming_type c SelfType SelfType within h k = tt
  conforming_type c SelfType (IsClass b) within h k = below_within p whole c b within k
  conforming_type c (IsClass a) SelfType within h k = tt
  conforming_type c (IsClass a) (IsClass b) within h k = below_within p whole a b h k
