-- In a class table without cycles of inheritance, each class has exactly one chain: the list of the class and its ancestors up to Object. The file also states
-- the invariants of the loops of `chain`, `is_below` and `join`, which go from a class to its ancestors.
use Rattle.std.proofs.Common.{◌≡◌, ◌≢◌, ℕ, zero, suc, ◌+◌, ◌<◌, ◌≤◌, ◌⊎◌, List, [], ◌∷◌, ◌++◌, length, get_or, Option, Some, None, ap, sym, ◌∙◌, refl, subst, arith, inl, inr, append_assoc}
use Rattle.std.specs.Prelude.{Contains, IfSome}
use Rattle.cool_classes.specs.declared.class_id.ClassId.{ClassId}
use Rattle.cool_classes.specs.Chains.{Class, class_number, parent_of, IsChain, Below, IsJoin}
use Rattle.cool_classes.specs.Tables.{IsGrounded}
use Rattle.lists.proofs.Membership.{contains_cases}

-- an item of a list is its first one or among the others
contains_cons : (d b : ClassId) (ds : List ClassId) → Contains ds b → Contains (d ∷ ds) b
contains_cons d b ds (k, within, is) = (suc k, omega arith, is)

nothing_in : {X : Type 0} (b : ClassId) → Contains {X = ClassId} [] b → X
nothing_in b (k, within, is) = absurd (omega arith)

-- the first class of a chain
chain_head : (p : List Class) (c : ClassId) (ds : List ClassId) → IsChain p (Some c) ds → Contains ds c
chain_head p c [] h = absurd h
chain_head p c (d ∷ ds) h = (0, omega arith, h.0)

-- a chain of the parent is one of the class
pub chain_up : (p : List Class) (c q : ClassId) (ds : List ClassId) → parent_of p c ≡ Some q → IsChain p (Some q) ds → IsChain p (Some c) (c ∷ ds)
chain_up p c q ds e h = (refl, subst (λ (o : Option ClassId). IsChain p o ds) (sym e) h)

pub chain_top : (p : List Class) (c : ClassId) → parent_of p c ≡ None → IsChain p (Some c) (c ∷ [])
chain_top p c e = (refl, subst (λ (o : Option ClassId). IsChain p o []) (sym e) tt)

-- a class has one chain
pub chain_unique : (p : List Class) (o : Option ClassId) (ds es : List ClassId) → IsChain p o ds → IsChain p o es → ds ≡ es
chain_unique p None [] [] h k = refl
chain_unique p None [] (e ∷ es) h k = absurd k
chain_unique p None (d ∷ ds) es h k = absurd h
chain_unique p (Some c) [] es h k = absurd h
chain_unique p (Some c) (d ∷ ds) [] h k = absurd k
chain_unique p (Some c) (d ∷ ds) (e ∷ es) h k =
    let same : d ≡ e = h.0 ∙ sym k.0 in
    let rest : ds ≡ es = chain_unique p (parent_of p c) ds es h.1 k.1 in
    λ i. same i ∷ rest i

-- each class has a chain
chain_over : (p : List Class) (c : ClassId) (o : Option ClassId) → parent_of p c ≡ o
    → ((q : ClassId) → parent_of p c ≡ Some q → (ds : List ClassId) × IsChain p (Some q) ds) → (ds : List ClassId) × IsChain p (Some c) ds
chain_over p c None e more = (c ∷ [], chain_top p c e)
chain_over p c (Some q) e more = let w = more q e in (c ∷ w.0, chain_up p c q w.0 e w.1)

chain_within : (p : List Class) (depth : ClassId → ℕ) → IsGrounded p depth → (n : ℕ) (c : ClassId) → c.0 < length p → depth c < n
    → (ds : List ClassId) × IsChain p (Some c) ds
chain_within p depth g zero c within less = absurd (omega arith)
chain_within p depth g (suc n) c within less =
    chain_over p c (parent_of p c) refl (λ q e.
    let up = g.above c q within e in
    let next : depth q < n = let d = up.1 in omega arith in
    chain_within p depth g n q up.0 next)

pub chain_there : (p : List Class) (depth : ClassId → ℕ) → IsGrounded p depth → (c : ClassId) → c.0 < length p → (ds : List ClassId) × IsChain p (Some c) ds
chain_there p depth g c within = chain_within p depth g (suc (depth c)) c within (omega arith)

-- a chain has one class more than stand above its first one
chain_length_by : (p : List Class) (depth : ClassId → ℕ) → IsGrounded p depth → (c : ClassId) → c.0 < length p → (o : Option ClassId) → parent_of p c ≡ o
    → (ds : List ClassId) → IsChain p o ds → ((q : ClassId) → q.0 < length p → IsChain p (Some q) ds → length ds ≡ depth q + 1) → length ds ≡ depth c
chain_length_by p depth g c within None e [] h more = let z = (g.top c within e).1 in omega arith
chain_length_by p depth g c within None e (d ∷ ds) h more = absurd h
chain_length_by p depth g c within (Some q) e ds h more =
    let up = g.above c q within e in let l : length ds ≡ depth q + 1 = more q up.0 h in let d = up.1 in omega arith

pub chain_length : (p : List Class) (depth : ClassId → ℕ) → IsGrounded p depth → (c : ClassId) → c.0 < length p → (ds : List ClassId) → IsChain p (Some c) ds
    → length ds ≡ depth c + 1
chain_length p depth g c within [] h = absurd h
chain_length p depth g c within (d ∷ ds) h =
    let rest : length ds ≡ depth c = chain_length_by p depth g c within (parent_of p c) refl ds h.1 (λ q w k. chain_length p depth g q w ds k) in omega arith

-- a parent is a class of the table
pub parent_within : (p : List Class) (depth : ClassId → ℕ) → IsGrounded p depth → (c : ClassId) → c.0 < length p → (o : Option ClassId) → parent_of p c ≡ o → IfSome o (λ q. q.0 < length p)
parent_within p depth g c within None e = tt
parent_within p depth g c within (Some q) e = (g.above c q within e).0

-- a class is below itself
pub below_self : (p : List Class) (depth : ClassId → ℕ) → IsGrounded p depth → (c : ClassId) → c.0 < length p → Below p c c
below_self p depth g c within = let w = chain_there p depth g c within in (w.0, w.1, chain_head p c w.0 w.1)

pub below_end : (p : List Class) (depth : ClassId → ℕ) → IsGrounded p depth → (c b : ClassId) → c ≡ b → c.0 < length p → Below p c b
below_end p depth g c b same within = subst (λ (x : ClassId). Below p c x) same (below_self p depth g c within)

-- the class is below all that the parent is below
pub below_up : (p : List Class) (a q b : ClassId) → parent_of p a ≡ Some q → Below p q b → Below p a b
below_up p a q b e (ds, chain, there) = (a ∷ ds, chain_up p a q ds e chain, contains_cons a b ds there)

-- the parent is below all that the class is below, except itself
pub below_rest : (p : List Class) (a q b : ClassId) → a ≢ b → parent_of p a ≡ Some q → Below p a b → Below p q b
below_rest p a q b other e ([], chain, there) = absurd chain
below_rest p a q b other e (d ∷ ds, chain, there) =
    (ds, subst (λ (o : Option ClassId). IsChain p o ds) e chain.1, elim (contains_cases d b ds there) [ inl s ↦ absurd (other (sym chain.0 ∙ s)) | inr t ↦ t ])

-- a class with no parent is below itself only
alone : (p : List Class) (d b : ClassId) (ds : List ClassId) → IsChain p None ds → Contains (d ∷ ds) b → d ≡ b
alone p d b [] h there = elim (contains_cases d b [] there) [ inl s ↦ s | inr t ↦ nothing_in b t ]
alone p d b (e ∷ es) h there = absurd h

pub below_top : (p : List Class) (a b : ClassId) → parent_of p a ≡ None → Below p a b → a ≡ b
below_top p a b e ([], chain, there) = absurd chain
below_top p a b e (d ∷ ds, chain, there) = sym chain.0 ∙ alone p d b ds (subst (λ (o : Option ClassId). IsChain p o ds) e chain.1) there

-- a class on the chain of another one stands higher
higher_by : (p : List Class) (depth : ClassId → ℕ) → IsGrounded p depth → (a b : ClassId) → a.0 < length p → (o : Option ClassId) → parent_of p a ≡ o
    → (ds : List ClassId) → IsChain p o ds → Contains ds b → ((q : ClassId) → q.0 < length p → IsChain p (Some q) ds → (q ≡ b) ⊎ (depth b < depth q)) → depth b < depth a
higher_by p depth g a b within None e [] h there more = nothing_in b there
higher_by p depth g a b within None e (d ∷ ds) h there more = absurd h
higher_by p depth g a b within (Some q) e ds h there more =
    let up = g.above a q within e in let d = up.1 in
    elim (more q up.0 h) [ inl s ↦ let same : depth q ≡ depth b = ap depth s in omega arith | inr less ↦ omega arith ]

higher : (p : List Class) (depth : ClassId → ℕ) → IsGrounded p depth → (a b : ClassId) → a.0 < length p → (ds : List ClassId) → IsChain p (Some a) ds → Contains ds b
    → (a ≡ b) ⊎ (depth b < depth a)
higher p depth g a b within [] h there = absurd h
higher p depth g a b within (d ∷ ds) h there =
    elim (contains_cases d b ds there) [
      | inl s ↦ inl (sym h.0 ∙ s)
      | inr t ↦ inr (higher_by p depth g a b within (parent_of p a) refl ds h.1 t (λ q w k. higher p depth g q b w ds k t))
    ]

pub below_depth : (p : List Class) (depth : ClassId → ℕ) → IsGrounded p depth → (a b : ClassId) → a.0 < length p → Below p a b → (a ≡ b) ⊎ (depth b < depth a)
below_depth p depth g a b within (ds, chain, there) = higher p depth g a b within ds chain there

-- the parent of what a class is below
on_by : (p : List Class) (a x q : ClassId) → parent_of p x ≡ Some q → (o : Option ClassId) → (ds : List ClassId) → IsChain p o ds → Contains ds x
    → ((r : ClassId) → IsChain p (Some r) ds → Contains ds q) → Contains ds q
on_by p a x q e None [] h there more = nothing_in x there
on_by p a x q e None (d ∷ ds) h there more = absurd h
on_by p a x q e (Some r) ds h there more = more r h

on_chain : (p : List Class) (a x q : ClassId) → parent_of p x ≡ Some q → (ds : List ClassId) → IsChain p (Some a) ds → Contains ds x → Contains ds q
on_chain p a x q e [] h there = absurd h
on_chain p a x q e (d ∷ ds) h there =
    elim (contains_cases d x ds there) [
      | inl s ↦ let up : parent_of p a ≡ Some q = ap (parent_of p) (sym h.0 ∙ s) ∙ e in
          contains_cons d q ds (chain_head p q ds (subst (λ (o : Option ClassId). IsChain p o ds) up h.1))
      | inr t ↦ contains_cons d q ds (on_by p a x q e (parent_of p a) ds h.1 t (λ r k. on_chain p r x q e ds k t))
    ]

pub below_on : (p : List Class) (a x q : ClassId) → parent_of p x ≡ Some q → Below p a x → Below p a q
below_on p a x q e (ds, chain, there) = (ds, chain, on_chain p a x q e ds chain there)

-- A climb of one class: what the first is below, the class now is below, and the other way round.
pub record Climbing (p : List Class) (first now b : ClassId) : Type 0 where
  pub within : now.0 < length p
  pub down : Below p now b → Below p first b
  pub up : Below p first b → Below p now b

pub climbing_step : (p : List Class) (depth : ClassId → ℕ) → IsGrounded p depth → (a now q b : ClassId) → now ≢ b → parent_of p now ≡ Some q → Climbing p a now b → Climbing p a q b
climbing_step p depth g a now q b other e w = record {
  within = (g.above now q w.within e).0;
  down = λ h. w.down (below_up p now q b e h);
  up = λ h. below_rest p now q b other e (w.up h);
}

-- A climb of two classes: each has come to a class above it, and both are below all that both of the first are.
pub record Meeting (p : List Class) (a b left right : ClassId) : Type 0 where
  pub left_within : left.0 < length p
  pub right_within : right.0 < length p
  pub left_above : Below p a left
  pub right_above : Below p b right
  pub least : (k : ClassId) → Below p a k → Below p b k → Below p left k × Below p right k

pub meeting_start : (p : List Class) (depth : ClassId → ℕ) → IsGrounded p depth → (a b : ClassId) → a.0 < length p → b.0 < length p → Meeting p a b a b
meeting_start p depth g a b a_within b_within = record {
  left_within = a_within;
  right_within = b_within;
  left_above = below_self p depth g a a_within;
  right_above = below_self p depth g b b_within;
  least = λ k h j. (h, j);
}

-- the lower of two different classes is not above the other
not_above : (p : List Class) (depth : ClassId → ℕ) → IsGrounded p depth → (x y k : ClassId) → x ≢ y → y.0 < length p → depth y ≤ depth x → Below p y k → x ≢ k
not_above p depth g x y k other within less h e =
    elim (below_depth p depth g y k within h) [
      | inl s ↦ other (e ∙ sym s)
      | inr lower ↦ let same : depth x ≡ depth k = ap depth e in omega arith
    ]

pub meeting_left : (p : List Class) (depth : ClassId → ℕ) → IsGrounded p depth → (a b left right q : ClassId) → left ≢ right → depth right ≤ depth left → parent_of p left ≡ Some q
    → Meeting p a b left right → Meeting p a b q right
meeting_left p depth g a b left right q other less e m = record {
  left_within = (g.above left q m.left_within e).0;
  right_within = m.right_within;
  left_above = below_on p a left q e m.left_above;
  right_above = m.right_above;
  least = λ k h j. let both = m.least k h j in (below_rest p left q k (not_above p depth g left right k other m.right_within less both.1) e both.0, both.1);
}

pub meeting_right : (p : List Class) (depth : ClassId → ℕ) → IsGrounded p depth → (a b left right q : ClassId) → left ≢ right → depth left ≤ depth right → parent_of p right ≡ Some q
    → Meeting p a b left right → Meeting p a b left q
meeting_right p depth g a b left right q other less e m = record {
  left_within = m.left_within;
  right_within = (g.above right q m.right_within e).0;
  left_above = m.left_above;
  right_above = below_on p b right q e m.right_above;
  least = λ k h j. let both = m.least k h j in (both.0, below_rest p right q k (not_above p depth g right left k (λ s. other (sym s)) m.left_within less both.0) e both.1);
}

pub meeting_end : (p : List Class) (a b left right : ClassId) → left ≡ right → Meeting p a b left right → IsJoin p a b left
meeting_end p a b left right same m = record {
  left = m.left_above;
  right = subst (λ (x : ClassId). Below p b x) (sym same) m.right_above;
  least = λ k h j. (m.least k h j).0;
}

-- two different classes do not both stand at the top
top_by : (p : List Class) (depth : ClassId → ℕ) → IsGrounded p depth → (c : ClassId) → c.0 < length p → depth c ≡ 0 → (o : Option ClassId) → parent_of p c ≡ o → c ≡ class_number 0
top_by p depth g c within zero_there None e = (g.top c within e).0
top_by p depth g c within zero_there (Some q) e = let d = (g.above c q within e).1 in absurd (omega arith)

pub lower_there : (p : List Class) (depth : ClassId → ℕ) → IsGrounded p depth → (x y : ClassId) → x ≢ y → x.0 < length p → y.0 < length p → depth y ≤ depth x → 0 < depth x
lower_there p depth g x y other x_within y_within less = by (depth x) refl
  where
    by : (n : ℕ) → depth x ≡ n → 0 < depth x
    by zero e =
        let z : depth y ≡ 0 = omega arith in
        absurd (other (top_by p depth g x x_within e (parent_of p x) refl ∙ sym (top_by p depth g y y_within z (parent_of p y) refl)))
    by (suc n) e = omega arith

-- A climb that notes the classes it leaves: any chain of the class now makes one of the first.
abbrev pub Noting : List Class → ClassId → ClassId → List ClassId → Type 0
Noting p first now noted = (ds : List ClassId) → IsChain p (Some now) ds → IsChain p (Some first) (noted ++ ds)

pub noting_step : (p : List Class) (first now q : ClassId) (noted : List ClassId) → parent_of p now ≡ Some q → Noting p first now noted → Noting p first q (noted ++ now ∷ [])
noting_step p first now q noted e n ds h =
    let same : noted ++ (now ∷ ds) ≡ (noted ++ now ∷ []) ++ ds = simp append_assoc in
    subst (λ (xs : List ClassId). IsChain p (Some first) xs) same (n (now ∷ ds) (chain_up p now q ds e h))

-- all classes of a chain are classes of the table
all_within_by : (p : List Class) (depth : ClassId → ℕ) → IsGrounded p depth → (c : ClassId) → c.0 < length p → (o : Option ClassId) → parent_of p c ≡ o → (ds : List ClassId) → IsChain p o ds
    → (k : ℕ) (d : ClassId) → k < length ds → ((q : ClassId) → q.0 < length p → IsChain p (Some q) ds → (get_or ds k d).0 < length p) → (get_or ds k d).0 < length p
all_within_by p depth g c within None e [] h k d less more = absurd (omega arith)
all_within_by p depth g c within None e (x ∷ ds) h k d less more = absurd h
all_within_by p depth g c within (Some q) e ds h k d less more = more q (g.above c q within e).0 h

pub all_within : (p : List Class) (depth : ClassId → ℕ) → IsGrounded p depth → (c : ClassId) → c.0 < length p → (ds : List ClassId) → IsChain p (Some c) ds → (k : ℕ) (d : ClassId) → k < length ds
    → (get_or ds k d).0 < length p
all_within p depth g c within [] h k d less = absurd h
all_within p depth g c within (x ∷ ds) h zero d less = subst (λ (y : ClassId). y.0 < length p) (sym h.0) within
all_within p depth g c within (x ∷ ds) h (suc k) d less =
    let shorter : k < length ds = omega arith in
    all_within_by p depth g c within (parent_of p c) refl ds h.1 k d shorter (λ q w j. all_within p depth g q w ds j k d shorter)
