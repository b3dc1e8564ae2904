-- In a complete class table, the functions that compute conformance, joins (least common supertypes) and the types of names return exactly the results that
-- satisfy the definitions of these relations.
use Rattle.std.proofs.Common.{◌≡◌, ℕ, zero, suc, ◌<◌, ◌≤◌, ◌⊎◌, inl, inr, List, [], ◌∷◌, length, Option, Some, None, Bool, true, false, ap, sym, ◌∙◌, refl, subst, arith}
use Rattle.std.specs.Prelude.{Contains, IsTrue, ◌↔◌, if◌then◌else◌, option_map, unwrap_or}
use Rattle.cool_classes.specs.declared.class_id.ClassId.{ClassId}
use Rattle.cool_classes.specs.declared.class_id.Ty.{Ty}
use Rattle.cool_classes.specs.declared.class_id.Ty.TheVariants.{Class as IsClass, SelfType}
use Rattle.cool_classes.specs.Chains.{Class, class_number, parent_of, IsChain, Below, IsJoin}
use Rattle.cool_classes.specs.Features.{Denotes, implementation}
use Rattle.cool_classes.specs.declared.method.MethodRef.{MethodRef}
use Rattle.cool_classes.specs.Names.{self_type}
use Rattle.cool_classes.specs.Tables.{IsTable}
use Rattle.cool_classes.proofs.Climbs.{chain_unique}
use Rattle.cool_rules.specs.Conformance.{IsType, IsTypeNamed, Conforms, IsJoinOfTypes}
use Rattle.cool_classes.specs.ClimbedChains.{chain}
use Rattle.cool_classes.proofs.ChainsOfTables.{chain_is}
use Rattle.cool_rules.specs.Rules.{is_among, first_among, do_conform, join_in, class_named, type_of_name, type_meant, method_of}
use Rattle.cool_classes.proofs.ClassesNamed.{named_back}
use Rattle.cool_rules.proofs.NamesOfTables.{class_by_name}
use Rattle.cool_rules.proofs.ClassesAmong.{below_among, among_below, among_there, same_answers}
use Rattle.lists.proofs.EqualBytes.{bytes_differ, bytes_same}

-- the function of conformance decides it
pub do_conform_true : (p : List Class) (c : ClassId) (a b : Ty) → IsTable p → c.0 < length p → IsType p a → do_conform p c a b ≡ true → Conforms p c a b
unfolding do_conform
do_conform_true p c SelfType SelfType h within is e = tt
do_conform_true p c SelfType (IsClass b) h within is e = below_among p c b h within e
do_conform_true p c (IsClass a) SelfType h within is e = absurd (cc)
do_conform_true p c (IsClass a) (IsClass b) h within is e = below_among p a b h is e

pub true_do_conform : (p : List Class) (c : ClassId) (a b : Ty) → Conforms p c a b → do_conform p c a b ≡ true
unfolding do_conform
true_do_conform p c SelfType SelfType k = refl
true_do_conform p c SelfType (IsClass b) k = among_below p c b k
true_do_conform p c (IsClass a) SelfType k = absurd k
true_do_conform p c (IsClass a) (IsClass b) k = among_below p a b k

pub do_conform_is : (p : List Class) (c : ClassId) (a b : Ty) (r : Bool) → IsTable p → c.0 < length p → IsType p a → IsTrue r ↔ Conforms p c a b → r ≡ do_conform p c a b
do_conform_is p c a b r h within is decides =
    same_answers r (do_conform p c a b) (λ e. true_do_conform p c a b (decides.0 e)) (λ e. decides.1 (do_conform_true p c a b h within is e))

-- a class on a chain has a chain no longer than the rest from there on
rest_of : (p : List Class) (b : ClassId) (o : Option ClassId) (ds : List ClassId) → IsChain p o ds → Contains ds b → (es : List ClassId) × IsChain p (Some b) es × (length es ≤ length ds)
rest_of p b None [] k (i, within, is) = absurd (omega arith)
rest_of p b None (d ∷ ds) k there = absurd k
rest_of p b (Some a) [] k there = absurd k
rest_of p b (Some a) (d ∷ ds) k (zero, within, is) = (d ∷ ds, subst (λ (x : ClassId). IsChain p (Some x) (d ∷ ds)) (sym k.0 ∙ is) k, omega arith)
rest_of p b (Some a) (d ∷ ds) k (suc i, within, is) =
    let w = rest_of p b (parent_of p a) ds k.1 (i, omega arith, is) in (w.0, w.1, let l = w.2 in omega arith)

-- two classes that are below one another are one
one_by : (p : List Class) (a b : ClassId) (ds : List ClassId) → IsChain p (Some a) ds → Contains ds b → Below p b a → a ≡ b
one_by p a b [] k there back = absurd k
one_by p a b (d ∷ ds) k (zero, within, is) back = sym k.0 ∙ is
one_by p a b (d ∷ ds) k (suc i, within, is) (xs, chain_b, there_a) =
    let up = rest_of p b (parent_of p a) ds k.1 (i, omega arith, is) in
    let down = rest_of p a (Some b) xs chain_b there_a in
    let same : length up.0 ≡ length xs = ap length (chain_unique p (Some b) up.0 xs up.1 chain_b) in
    let again : length down.0 ≡ length (d ∷ ds) = ap length (chain_unique p (Some a) down.0 (d ∷ ds) down.1 k) in
    let l = up.2 in let m = down.2 in absurd (omega arith)

below_both : (p : List Class) (a b : ClassId) → Below p a b → Below p b a → a ≡ b
below_both p a b (ds, k, there) back = one_by p a b ds k there back

-- the first class of a chain that is among others is the least class that is in both
first_is : (p : List Class) (j : ClassId) (es : List ClassId) (o : Option ClassId) (ds : List ClassId) → IsChain p o ds → Contains ds j → is_among es j ≡ true
    → ((k : ClassId) → Contains ds k → is_among es k ≡ true → Below p j k) → first_among ds es ≡ j
unfolding first_among
first_is p j es None [] h (i, within, is) both least = absurd (omega arith)
first_is p j es None (d ∷ ds) h there both least = absurd h
first_is p j es (Some a) [] h there both least = absurd h
first_is p j es (Some a) (d ∷ ds) h there both least =
    by (is_among es d) refl (later there) (λ in_rest. first_is p j es (parent_of p a) ds h.1 in_rest both (λ k t m. least k (up k t) m))
  where
    later : Contains (d ∷ ds) j → (d ≡ j) ⊎ Contains ds j
    later (zero, within, is) = inl is
    later (suc i, within, is) = inr (i, omega arith, is)

    up : (k : ClassId) → Contains ds k → Contains (d ∷ ds) k
    up k (i, within, is) = (suc i, omega arith, is)

    by : (b : Bool) → is_among es d ≡ b → (d ≡ j) ⊎ Contains ds j → (Contains ds j → first_among ds es ≡ j) → (if b then d else first_among ds es) ≡ j
    by true e where_is more =
        let below_d : Below p d j = (d ∷ ds, subst (λ (x : ClassId). IsChain p (Some x) (d ∷ ds)) (sym h.0) h, there) in
        below_both p d j below_d (least d (0, omega arith, refl) e)
    by false e (inl is) more = absurd (let s = ap (is_among es) is in cc)
    by false e (inr in_rest) more = more in_rest

join_is_first : (p : List Class) (a b j : ClassId) → IsTable p → a.0 < length p → b.0 < length p → IsJoin p a b j → j ≡ first_among (chain p a) (chain p b)
join_is_first p a b j h aw bw join =
    let ka = chain_is p a h aw in
    sym (first_is p j (chain p b) (Some a) (chain p a) ka (among_there (chain p a) j (among_below p a j join.left)) (among_below p b j join.right)
    (λ k there among. join.least k (chain p a, ka, there) (below_among p b k h bw among)))

-- the join of two types is the function's
class_join : (p : List Class) (c a b j : ClassId) (x y : Ty) → ((o : ClassId) → Below p a o → Conforms p c x (IsClass o)) → ((o : ClassId) → Below p b o → Conforms p c y (IsClass o))
    → Below p a j → Below p b j → IsJoinOfTypes p c x y (IsClass j) → IsJoin p a b j
class_join p c a b j x y left right aj bj join = record { left = aj; right = bj; least = λ k ak bk. join.least (IsClass k) (left k ak) (right k bk) }

pub join_in_is : (p : List Class) (c : ClassId) (a b j : Ty) → IsTable p → c.0 < length p → IsType p a → IsType p b → IsJoinOfTypes p c a b j → j ≡ join_in p c a b
unfolding join_in
join_in_is p c SelfType SelfType SelfType h within ia ib join = refl
join_in_is p c SelfType SelfType (IsClass j) h within ia ib join = absurd (join.least SelfType tt tt)
join_in_is p c SelfType (IsClass b) SelfType h within ia ib join = absurd join.right
join_in_is p c SelfType (IsClass b) (IsClass j) h within ia ib join =
    ap IsClass (join_is_first p c b j h within ib (class_join p c c b j SelfType (IsClass b) (λ o k. k) (λ o k. k) join.left join.right join))
join_in_is p c (IsClass a) SelfType SelfType h within ia ib join = absurd join.left
join_in_is p c (IsClass a) SelfType (IsClass j) h within ia ib join =
    ap IsClass (join_is_first p a c j h ia within (class_join p c a c j (IsClass a) SelfType (λ o k. k) (λ o k. k) join.left join.right join))
join_in_is p c (IsClass a) (IsClass b) SelfType h within ia ib join = absurd join.left
join_in_is p c (IsClass a) (IsClass b) (IsClass j) h within ia ib join =
    ap IsClass (join_is_first p a b j h ia ib (class_join p c a b j (IsClass a) (IsClass b) (λ o k. k) (λ o k. k) join.left join.right join))

-- the type that a name means is the one that the function finds
pub type_of_name_is : (p : List Class) (name : List ℕ) (r : Option Ty) → IsTable p → IsTypeNamed p name r → r ≡ type_of_name p name
unfolding type_of_name
type_of_name_is p name None h none =
    by (class_named p name) refl
    ∙ sym (ap (λ (b : Bool). if b then Some SelfType else option_map IsClass (class_named p name)) (bytes_differ name self_type (λ e. none SelfType e)))
  where
    by : (o : Option ClassId) → class_named p name ≡ o → None ≡ option_map IsClass (class_named p name)
    by None e = sym (ap (option_map IsClass) e)
    by (Some c) e = absurd (none (IsClass c) (named_back p name c e))
type_of_name_is p name (Some SelfType) h is =
    sym (ap (λ (b : Bool). if b then Some SelfType else option_map IsClass (class_named p name)) (bytes_same name self_type is))
type_of_name_is p name (Some (IsClass c)) h (within, is) =
    sym (ap (λ (b : Bool). if b then Some SelfType else option_map IsClass (class_named p name)) (bytes_differ name self_type (λ e. h.no_self_type c within (is ∙ e)))
    ∙ ap (option_map IsClass) (class_by_name p h c name within is))

pub type_meant_is : (p : List Class) (name : List ℕ) (a : Ty) → IsTable p → Denotes p name a → a ≡ type_meant p name
unfolding type_meant
type_meant_is p name a h is = ap (λ (o : Option Ty). unwrap_or o (IsClass (class_number 0))) (type_of_name_is p name (Some a) h is)

-- and the type that it means is the one that it denotes
pub meant_is : (p : List Class) → IsTable p → (name : List ℕ) (t : Ty) → Denotes p name t → type_meant p name ≡ t
meant_is p h name t denotes = sym (type_meant_is p name t h denotes)

pub method_of_is : (p : List Class) (c : ClassId) (name : List ℕ) (r : Option MethodRef) → IsTable p → c.0 < length p
    → ((ds : List ClassId) → IsChain p (Some c) ds → r ≡ implementation p ds name) → r ≡ method_of p c name
unfolding method_of
method_of_is p c name r h within nearest = nearest (chain p c) (chain_is p c h within)
