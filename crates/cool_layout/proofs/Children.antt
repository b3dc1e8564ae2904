-- Each step of the loop of `children_of` adds one class to the list of the children of its parent, except Object, which has no parent.
use Rattle.std.proofs.Common.{◌≡◌, ◌≢◌, ℕ, zero, suc, ◌+◌, ◌<◌, List, [], ◌∷◌, ◌++◌, length, filter, get_or, set, Option, Some, None, Bool, true, false, cond, sym, ap, ◌∙◌, subst, arith, inl, inr, ◌⊎◌, append-nil}
use Rattle.std.specs.Prelude.{nat_eq}
use Rattle.std.specs.Global.{Vec}
use Rattle.std.proofs.lemmas.List.{length-set, get_or-set_same, get_or-set_other}
use Rattle.std.proofs.lemmas.List.Elements.{filter-append}
use Rattle.std.proofs.lemmas.Bool.{cases_eq}
use Rattle.cool_classes.specs.declared.class_id.ClassId.{ClassId}
use Rattle.cool_classes.specs.Chains.{Class, class_number, parent_of}
use Rattle.cool_layout.specs.Preorder.{numbers_from, is_parent}
use Rattle.cool_layout.specs.Walks.{AreChildren}

-- the classes before a number stand below Object
pub record AreRooted (p : List Class) (n : ℕ) : Type 0 where
  pub above : (c q : ClassId) → c.0 < n → parent_of p c ≡ Some q → q.0 < length p
  pub top : (c : ClassId) → c.0 < n → parent_of p c ≡ None → c ≡ class_number 0

before_next : (c : ClassId) (n : ℕ) → c.0 < n + 1 → (c.0 < n) ⊎ (c ≡ class_number n)
before_next c n l = elim (cases_eq c.0 n) [ inl e ↦ inr (λ i. record { 0 = e i }) | inr e ↦ inl (omega arith) ]

pub some_rooted : (p : List Class) (n : ℕ) (q : ClassId) → parent_of p (class_number n) ≡ Some q → q.0 < length p → AreRooted p n → AreRooted p (n + 1)
some_rooted p n q up within r = record {
  above = λ c d l e. elim (before_next c n l) [
    | inl less ↦ r.above c d less e
    | inr same ↦ let is : Some q ≡ Some d = sym up ∙ ap (parent_of p) (sym same) ∙ e in let qd : q ≡ d = cc in subst (λ (x : ClassId). x.0 < length p) qd within
  ];
  top = λ c l e. elim (before_next c n l) [
    | inl less ↦ r.top c less e
    | inr same ↦ let is : Some q ≡ None = sym up ∙ ap (parent_of p) (sym same) ∙ e in absurd (cc)
  ];
}

pub none_more : (p : List Class) (n : ℕ) → parent_of p (class_number n) ≡ None → n ≡ 0 → AreRooted p n → AreRooted p (n + 1)
none_more p n up zero_is r = record {
  above = λ c d l e. elim (before_next c n l) [
    | inl less ↦ r.above c d less e
    | inr same ↦ let is : Some d ≡ None = sym e ∙ ap (parent_of p) same ∙ up in absurd (cc)
  ];
  top = λ c l e. elim (before_next c n l) [
    | inl less ↦ r.top c less e
    | inr same ↦ same ∙ ap class_number zero_is
  ];
}

numbers_last : (k n : ℕ) → numbers_from k (suc n) ≡ numbers_from k n ++ class_number (k + n) ∷ []
numbers_last k zero = let e : k ≡ k + 0 = omega arith in ap (λ j. class_number j ∷ []) e
numbers_last k (suc n) = let e : k + 1 + n ≡ k + suc n = omega arith in ap (λ (xs : List ClassId). class_number k ∷ xs) (numbers_last (k + 1) n ∙ ap (λ j. numbers_from (k + 1) n ++ class_number j ∷ []) e)

-- the children of a class among one number more
more_children : (p : List Class) (q n : ℕ) → filter (λ c. is_parent (class_number q) (parent_of p c)) (numbers_from 0 (n + 1))
    ≡ filter (λ c. is_parent (class_number q) (parent_of p c)) (numbers_from 0 n) ++ cond (is_parent (class_number q) (parent_of p (class_number n))) (class_number n ∷ []) []
more_children p q n =
    let test : ClassId → Bool = λ c. is_parent (class_number q) (parent_of p c) in
    let e : n + 1 ≡ suc n = omega arith in
    let z : 0 + n ≡ n = omega arith in
    ap (λ m. filter test (numbers_from 0 m)) e ∙ ap (filter test) (numbers_last 0 n) ∙ filter-append test (numbers_from 0 n) (class_number (0 + n) ∷ []) ∙ ap (λ j. filter test (numbers_from 0 n) ++ filter test (class_number j ∷ [])) z

pub no_parent : (p : List Class) (n : ℕ) (all : List (Vec ClassId)) → AreChildren p n all → parent_of p (class_number n) ≡ None → AreChildren p (n + 1) all
no_parent p n all h e = record {
  same = h.same;
  children = λ q d l. h.children q d l ∙ sym (more_children p q n ∙ ap (λ (o : Option ClassId). filter (λ c. is_parent (class_number q) (parent_of p c)) (numbers_from 0 n) ++ cond (is_parent (class_number q) o) (class_number n ∷ []) []) e ∙ append-nil _);
}

pub one_parent : (p : List Class) (n : ℕ) (all : List (Vec ClassId)) (q : ClassId) (v w : Vec ClassId) → AreChildren p n all → parent_of p (class_number n) ≡ Some q → q.0 < length p
    → v ≡ get_or all q.0 v → w.items ≡ v.items ++ class_number n ∷ [] → AreChildren p (n + 1) (set all q.0 w)
one_parent p n all q v w h e within read pushed = record {
  same = length-set all q.0 w ∙ h.same;
  children = λ k d l. elim (cases_eq k q.0) [
    | inl is ↦
        let at : get_or (set all q.0 w) k d ≡ w = ap (λ j. get_or (set all q.0 w) j d) is ∙ get_or-set_same all q.0 w d (let s = h.same in omega arith) in
        let old : v.items ≡ filter (λ c. is_parent (class_number k) (parent_of p c)) (numbers_from 0 n) =
        ap (λ (x : Vec ClassId). x.items) read ∙ ap (λ j. (get_or all j v).items) (sym is) ∙ h.children k v l in
        let yes : is_parent (class_number k) (Some q) ≡ true = ap (λ j. nat_eq q.0 j) is ∙ same_self q.0 in
        ap (λ (x : Vec ClassId). x.items) at ∙ pushed ∙ ap (λ (xs : List ClassId). xs ++ class_number n ∷ []) old
        ∙ sym (more_children p k n ∙ ap (λ (o : Option ClassId). filter (λ c. is_parent (class_number k) (parent_of p c)) (numbers_from 0 n) ++ cond (is_parent (class_number k) o) (class_number n ∷ []) []) e
        ∙ ap (λ b. filter (λ c. is_parent (class_number k) (parent_of p c)) (numbers_from 0 n) ++ cond b (class_number n ∷ []) []) yes)
    | inr other ↦
        let no : is_parent (class_number k) (Some q) ≡ false = differ q.0 k (λ s. other (sym s)) in
        ap (λ (x : Vec ClassId). x.items) (get_or-set_other all q.0 k w d other) ∙ h.children k d l
        ∙ sym (more_children p k n ∙ ap (λ (o : Option ClassId). filter (λ c. is_parent (class_number k) (parent_of p c)) (numbers_from 0 n) ++ cond (is_parent (class_number k) o) (class_number n ∷ []) []) e
        ∙ ap (λ b. filter (λ c. is_parent (class_number k) (parent_of p c)) (numbers_from 0 n) ++ cond b (class_number n ∷ []) []) no ∙ append-nil _)
  ];
}
  where
    same_self : (j : ℕ) → nat_eq j j ≡ true
    same_self j = grind arith

    differ : (i j : ℕ) → i ≢ j → nat_eq i j ≡ false
    differ i j h = grind arith
