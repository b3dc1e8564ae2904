-- The subtree below a class (`family` of `Preorder.antt`), listed in preorder, is the class followed by the subtrees of its children, and is a contiguous part
-- of the preorder of all classes.
use Rattle.std.proofs.Common.{◌≡◌, ℕ, zero, suc, ◌+◌, ◌<◌, ◌≤◌, List, [], ◌∷◌, ◌++◌, length, flat_map, filter, Option, Some, None, Bool, true, false, cond, refl, sym, ap, ◌∙◌, subst, arith, true≢false, append_assoc}
use Rattle.std.specs.Prelude.{nat_eq, take}
use Rattle.std.specs.List.{AllByRecursion}
use Rattle.std.proofs.lemmas.List.{append-nil}
use Rattle.std.proofs.lemmas.List.Concat.{flat_map-append}
use Rattle.cool_classes.specs.declared.class_id.ClassId.{ClassId}
use Rattle.cool_classes.specs.Chains.{Class, class_number, parent_of, IsChain}
use Rattle.cool_classes.specs.Tables.{basic_classes}
use Rattle.cool_classes.specs.ClimbedChains.{chain}
use Rattle.cool_layout.specs.Preorder.{numbers_from, is_class, is_parent, children, subtree, family, preorder}
use Rattle.cool_layout.specs.Roots.{IsRooted}
use Rattle.cool_layout.proofs.ShortChains.{same_number, short, chain_is}
use Rattle.cool_layout.proofs.Counting.{one, times, total, among_numbers}
use Rattle.lists.proofs.AllItems.{all_append}

-- the children of a class are classes that inherit from it
abbrev pub IsChild : List Class → ClassId → ClassId → Type 0
IsChild p q k = (k.0 < length p) × (parent_of p k ≡ Some q)

parent_is : (o : Option ClassId) (q : ClassId) → is_parent q o ≡ true → o ≡ Some q
parent_is None q h = absurd (true≢false (sym h))
parent_is (Some r) q h = let e : r.0 ≡ q.0 = grind arith in ap Some (same_number r q e)

kept_children : (p : List Class) (q : ClassId) (k n : ℕ) → k + n ≤ length p → AllByRecursion (IsChild p q) (filter (λ c. is_parent q (parent_of p c)) (numbers_from k n))
kept_children p q k zero l = tt
kept_children p q k (suc n) l = by (is_parent q (parent_of p (class_number k))) refl (kept_children p q (k + 1) n (omega arith))
  where
    by : (b : Bool) → is_parent q (parent_of p (class_number k)) ≡ b → AllByRecursion (IsChild p q) (filter (λ c. is_parent q (parent_of p c)) (numbers_from (k + 1) n))
        → AllByRecursion (IsChild p q) (cond b (class_number k ∷ filter (λ c. is_parent q (parent_of p c)) (numbers_from (k + 1) n)) (filter (λ c. is_parent q (parent_of p c)) (numbers_from (k + 1) n)))
    by true e more = ((omega arith, parent_is (parent_of p (class_number k)) q e), more)
    by false e more = more

pub children_are : (p : List Class) (q : ClassId) → AllByRecursion (IsChild p q) (children p q)
children_are p q = kept_children p q 0 (length p) (omega arith)

flat_map_same : (P : ClassId → Type 0) (f g : ClassId → List ClassId) (xs : List ClassId) → AllByRecursion P xs → ((x : ClassId) → P x → f x ≡ g x) → flat_map f xs ≡ flat_map g xs
flat_map_same P f g [] all same = refl
flat_map_same P f g (x ∷ xs) all same = ap (λ (ys : List ClassId). ys ++ flat_map f xs) (same x all.0) ∙ ap (λ (ys : List ClassId). g x ++ ys) (flat_map_same P f g xs all.1 same)

-- levels below the last one change nothing
enough : (p : List Class) → IsRooted p → (n m : ℕ) (c : ClassId) (ds : List ClassId) → c.0 < length p → IsChain p (Some c) ds → length p < length ds + n → length p < length ds + m
    → subtree p n c ≡ subtree p m c
enough p r zero m c ds within h l k = let s = short p r (Some c) within ds h in absurd (omega arith)
enough p r (suc n) zero c ds within h l k = let s = short p r (Some c) within ds h in absurd (omega arith)
enough p r (suc n) (suc m) c ds within h l k =
    ap (λ (xs : List ClassId). c ∷ xs) (flat_map_same (IsChild p c) (subtree p n) (subtree p m) (children p c) (children_are p c)
    (λ x child. enough p r n m x (x ∷ ds) child.0 (refl, subst (λ (o : Option ClassId). IsChain p o ds) (sym child.1) h) (omega arith) (omega arith)))

-- a family is its head, and the families of the children
pub family_step : (p : List Class) → IsRooted p → (c : ClassId) → c.0 < length p → family p c ≡ c ∷ flat_map (family p) (children p c)
family_step p r c within = by (length p) refl
  where
    by : (n : ℕ) → length p ≡ n → subtree p n c ≡ c ∷ flat_map (family p) (children p c)
    by zero e = absurd (omega arith)
    by (suc n) e =
        ap (λ (xs : List ClassId). c ∷ xs) (flat_map_same (IsChild p c) (subtree p n) (family p) (children p c) (children_are p c)
        (λ x child. let ds = chain p c in
        enough p r n (length p) x (x ∷ ds) child.0 (refl, subst (λ (o : Option ClassId). IsChain p o ds) (sym child.1) (chain_is p r c within))
        (let l = longer in omega arith) (let l = longer in omega arith)))
      where
        longer : 1 ≤ length (chain p c)
        longer = at (chain p c) (chain_is p r c within)
          where
            at : (ds : List ClassId) → IsChain p (Some c) ds → 1 ≤ length ds
            at [] h = absurd h
            at (d ∷ ds) h = omega arith

all_flat : (P Q : ClassId → Type 0) (f : ClassId → List ClassId) (xs : List ClassId) → AllByRecursion P xs → ((x : ClassId) → P x → AllByRecursion Q (f x)) → AllByRecursion Q (flat_map f xs)
all_flat P Q f [] all h = tt
all_flat P Q f (x ∷ xs) all h = all_append Q (f x) (flat_map f xs) (h x all.0) (all_flat P Q f xs all.1 h)

-- a family has classes of the table
pub subtree_in : (p : List Class) (n : ℕ) (c : ClassId) → c.0 < length p → AllByRecursion (λ d. d.0 < length p) (subtree p n c)
subtree_in p zero c within = tt
subtree_in p (suc n) c within = (within, all_flat (IsChild p c) (λ d. d.0 < length p) (subtree p n) (children p c) (children_are p c) (λ x child. subtree_in p n x child.0))

-- Object is a class
pub object_in : (p : List Class) → IsRooted p → 0 < length p
object_in p r = at p r.table.basic
  where
    at : (ps : List Class) → take 5 ps ≡ basic_classes → 0 < length ps
    at [] e = absurd (nothing e)
      where
        nothing : [] ≡ basic_classes → ⊥
        nothing e = let l : 0 ≡ 5 = ap (λ (xs : List Class). length xs) e in absurd (omega (arith, l))
    at (c ∷ cs) e = omega arith

pub object_top : (p : List Class) → IsRooted p → parent_of p (class_number 0) ≡ None
object_top p r = at p r.table.basic
  where
    at : (ps : List Class) → take 5 ps ≡ basic_classes → parent_of ps (class_number 0) ≡ None
    at [] e = refl
    at (c ∷ cs) e = let h = ap (λ (xs : List Class). parent_of xs (class_number 0)) e in h

-- a list is cut around one of its elements
pub member_cut : (k : ClassId) (xs : List ClassId) → 1 ≤ times k xs → (front : List ClassId) × (back : List ClassId) × (xs ≡ front ++ k ∷ back)
member_cut k [] h = absurd (omega arith)
member_cut k (x ∷ xs) h = by (nat_eq x.0 k.0) refl h (λ more. member_cut k xs more)
  where
    by : (b : Bool) → nat_eq x.0 k.0 ≡ b → 1 ≤ one b + times k xs → (1 ≤ times k xs → (front : List ClassId) × (back : List ClassId) × (xs ≡ front ++ k ∷ back)) → (front : List ClassId) × (back : List ClassId) × (x ∷ xs ≡ front ++ k ∷ back)
    by true e l more = let is : x.0 ≡ k.0 = grind arith in ([], xs, ap (λ (y : ClassId). y ∷ xs) (same_number x k is))
    by false e l more = let rest = more (omega arith) in (x ∷ rest.0, rest.1, ap (λ (ys : List ClassId). x ∷ ys) rest.2)

-- a child is among the children
child_there : (p : List Class) (q k : ClassId) → IsChild p q k → 1 ≤ times k (children p q)
child_there p q k child = let e : times k (children p q) ≡ 1 = counted in omega arith
  where
    is_one : (xs : List ClassId) → times k xs ≡ total (λ x. one (is_class x k)) xs
    is_one [] = refl
    is_one (x ∷ xs) = let a : one (nat_eq x.0 k.0) ≡ one (nat_eq k.0 x.0) = ap one (comm x.0 k.0) in let b : times k xs ≡ total (λ x. one (is_class x k)) xs = is_one xs in omega arith
      where
        comm : (a b : ℕ) → nat_eq a b ≡ nat_eq b a
        comm a b = grind arith

    parent : is_parent q (Some q) ≡ true
    parent = grind arith

    counted : times k (children p q) ≡ 1
    counted = is_one (children p q) ∙ among_numbers k (λ c. is_parent q (parent_of p c)) 0 (length p) (omega arith) (let w = child.0 in omega arith) ∙ ap (λ (o : Option ClassId). one (is_parent q o)) child.1 ∙ ap one parent

-- the preorder is cut around a family
abbrev pub Cut : List Class → ClassId → Type 0
Cut p c = (front : List ClassId) × (back : List ClassId) × (preorder p ≡ front ++ (family p c ++ back))

pub family_cut : (p : List Class) → IsRooted p → (c : ClassId) → c.0 < length p → Cut p c
family_cut p r c within = by c within (chain p c) (chain_is p r c within)
  where
    step : (q k : ClassId) → q.0 < length p → IsChild p q k → Cut p q → Cut p k
    step q k q_in child (before, after, e) =
        let m = member_cut k (children p q) (child_there p q k child) in
        let f = family p in
        let front : List ClassId = flat_map f m.0 in
        let back : List ClassId = flat_map f m.1 in
        let parts : family p q ≡ q ∷ (front ++ (f k ++ back)) =
        family_step p r q q_in ∙ ap (λ (xs : List ClassId). q ∷ flat_map f xs) m.2 ∙ ap (λ (xs : List ClassId). q ∷ xs) (flat_map-append f m.0 (k ∷ m.1)) in
        let joined : before ++ ((q ∷ (front ++ (f k ++ back))) ++ after) ≡ (before ++ q ∷ front) ++ (f k ++ (back ++ after)) = simp append_assoc in
        (before ++ q ∷ front, back ++ after, e ∙ ap (λ (xs : List ClassId). before ++ (xs ++ after)) parts ∙ joined)

    by : (d : ClassId) → d.0 < length p → (ds : List ClassId) → IsChain p (Some d) ds → Cut p d
    by d w [] h = absurd h
    by d w (e ∷ ds) h = at (parent_of p d) refl (λ q i j. by q i ds j) h.1
      where
        at : (o : Option ClassId) → parent_of p d ≡ o → ((q : ClassId) → q.0 < length p → IsChain p (Some q) ds → Cut p q) → IsChain p o ds → Cut p d
        at None top more j = subst (Cut p) (sym (r.top d w top)) ([], [], sym (append-nil (preorder p)))
        at (Some q) up more j = step q d (r.above d q w up) (w, up) (more q (r.above d q w up) j)
