-- The loop of `preorder` keeps its invariant: the classes added so far, followed by the subtrees of the classes on its stack, are all classes in preorder.
use Rattle.std.proofs.Common.{◌≡◌, ℕ, suc, ◌+◌, ◌-◌, ◌<◌, List, [], ◌∷◌, ◌++◌, length, flat_map, get_or, Option, Some, None, refl, sym, ap, ◌∙◌, subst, arith, inl, inr, append_assoc}
use Rattle.std.specs.Prelude.{reverse, slice_get}
use Rattle.std.specs.List.{AllByRecursion}
use Rattle.std.proofs.lemmas.List.{reverse-append, reverse-reverse, get_or_append_left, get_or_push, length_push}
use Rattle.std.proofs.lemmas.List.Concat.{flat_map-append}
use Rattle.std.proofs.lemmas.Bool.{cases_eq}
use Rattle.cool_classes.specs.declared.class_id.ClassId.{ClassId}
use Rattle.cool_classes.specs.Chains.{Class, class_number}
use Rattle.cool_layout.specs.Preorder.{children, family, preorder}
use Rattle.cool_layout.specs.Roots.{IsRooted}
use Rattle.cool_layout.specs.Walks.{AreNext}
use Rattle.cool_layout.proofs.Families.{family_step, children_are, IsChild}
use Rattle.lists.proofs.AllItems.{all_append}

pub record Walking (p : List Class) (order : List ClassId) (next : List (Option ClassId)) (waiting : List ClassId) : Type 0 where
  pub rooted : IsRooted p
  pub split : order ++ flat_map (family p) (reverse waiting) ≡ preorder p
  pub within : AllByRecursion (λ c. c.0 < length p) waiting
  pub same : length next ≡ length order
  pub nexts : AreNext p order next

all_parts : (P : ClassId → Type 0) (xs ys : List ClassId) → AllByRecursion P (xs ++ ys) → AllByRecursion P xs × AllByRecursion P ys
all_parts P [] ys all = (tt, all)
all_parts P (x ∷ xs) ys all = let h = all_parts P xs ys all.1 in ((all.0, h.0), h.1)

all_turned : (P : ClassId → Type 0) (xs : List ClassId) → AllByRecursion P xs → AllByRecursion P (reverse xs)
all_turned P [] all = tt
all_turned P (x ∷ xs) all = subst (AllByRecursion P) (sym (reverse-append (x ∷ []) xs)) (all_append P (reverse xs) (x ∷ []) (all_turned P xs all.1) (all.0, tt))

all_in : (p : List Class) (q : ClassId) (xs : List ClassId) → AllByRecursion (IsChild p q) xs → AllByRecursion (λ c. c.0 < length p) xs
all_in p q [] all = tt
all_in p q (x ∷ xs) all = (all.0.0, all_in p q xs all.1)

-- the waiting classes, the next one first
turned : (rest : List ClassId) (c : ClassId) → reverse (rest ++ c ∷ []) ≡ c ∷ reverse rest
turned rest c = reverse-append rest (c ∷ [])

-- the class that is next
first_of : (p : List Class) → IsRooted p → (rest : List ClassId) → AllByRecursion (λ c. c.0 < length p) rest → slice_get rest 0 ≡ slice_get (flat_map (family p) rest) 0
first_of p r [] all = refl
first_of p r (x ∷ xs) all = sym (ap (λ (ys : List ClassId). slice_get (ys ++ flat_map (family p) xs) 0) (family_step p r x all.0))

last_first : (rest : List ClassId) → slice_get rest (length rest - 1) ≡ slice_get (reverse rest) 0
last_first rest = subst (λ (xs : List ClassId). slice_get xs (length xs - 1) ≡ slice_get (reverse rest) 0) (reverse-reverse rest) (by (reverse rest))
  where
    at_end : (ys : List ClassId) (y : ClassId) → slice_get (ys ++ y ∷ []) (length ys) ≡ Some y
    at_end [] y = refl
    at_end (z ∷ ys) y = at_end ys y

    by : (ys : List ClassId) → slice_get (reverse ys) (length (reverse ys) - 1) ≡ slice_get ys 0
    by [] = refl
    by (y ∷ ys) =
        let e : reverse (y ∷ ys) ≡ reverse ys ++ y ∷ [] = reverse-append (y ∷ []) ys in
        let l : length (reverse ys ++ y ∷ []) - 1 ≡ length (reverse ys) = (let m : length (reverse ys ++ y ∷ []) ≡ length (reverse ys) + 1 = length_push (reverse ys) y in omega arith) in
        ap (λ (xs : List ClassId). slice_get xs (length xs - 1)) e ∙ ap (slice_get (reverse ys ++ y ∷ [])) l ∙ at_end (reverse ys) y

skip : (xs ys : List ClassId) (k : ℕ) → slice_get (xs ++ ys) (length xs + k) ≡ slice_get ys k
skip [] ys k = let e : 0 + k ≡ k = omega arith in ap (slice_get ys) e
skip (x ∷ xs) ys k = let e : suc (length xs) + k ≡ suc (length xs + k) = omega arith in ap (slice_get (x ∷ (xs ++ ys))) e ∙ skip xs ys k

-- one class more: it leaves those that wait, and its children come in
pub walking_step : (p : List Class) (order : List ClassId) (next : List (Option ClassId)) (waiting rest : List ClassId) (c : ClassId) (o : Option ClassId)
    → waiting ≡ rest ++ c ∷ [] → o ≡ slice_get rest (length rest - 1) → Walking p order next waiting
    → Walking p (order ++ c ∷ []) (next ++ o ∷ []) (rest ++ reverse (children p c))
walking_step p order next waiting rest c o popped is w =
    let r = w.rooted in
    let f = family p in
    let inside = all_parts (λ d. d.0 < length p) rest (c ∷ []) (subst (AllByRecursion (λ d. d.0 < length p)) popped w.within) in
    let c_in : c.0 < length p = inside.1.0 in
    let after : List ClassId = flat_map f (reverse rest) in
    let cut : preorder p ≡ order ++ (f c ++ after) = sym w.split ∙ ap (λ (xs : List ClassId). order ++ flat_map f (reverse xs)) popped ∙ ap (λ (xs : List ClassId). order ++ flat_map f xs) (turned rest c) in
    let below : List ClassId = flat_map f (children p c) in
    let back : reverse (rest ++ reverse (children p c)) ≡ children p c ++ reverse rest = reverse-append rest (reverse (children p c)) ∙ ap (λ (xs : List ClassId). xs ++ reverse rest) (reverse-reverse (children p c)) in
    let joined : (order ++ c ∷ []) ++ (below ++ after) ≡ order ++ ((c ∷ below) ++ after) = simp append_assoc in
    record {
      rooted = r;
      split =
          ap (λ (xs : List ClassId). (order ++ c ∷ []) ++ flat_map f xs) back ∙ ap (λ (xs : List ClassId). (order ++ c ∷ []) ++ xs) (flat_map-append f (children p c) (reverse rest)) ∙ joined
          ∙ ap (λ (xs : List ClassId). order ++ (xs ++ after)) (sym (family_step p r c c_in)) ∙ sym cut;
      within = all_append (λ d. d.0 < length p) rest (reverse (children p c)) inside.0 (all_turned (λ d. d.0 < length p) (children p c) (all_in p c (children p c) (children_are p c)));
      same = (let a = length_push next o in let b = length_push order c in let s = w.same in omega arith);
      nexts = λ k l. elim (cases_eq k (length order)) [
        | inl e ↦
            let here : get_or (order ++ c ∷ []) k (class_number 0) ≡ c = get_or_push order c (class_number 0) k (sym e) in
            let there : get_or (next ++ o ∷ []) k None ≡ o = get_or_push next o None k (let s = w.same in omega arith) in
            let at : slice_get (preorder p) (length order + length (f c)) ≡ slice_get after 0 =
            ap (λ (xs : List ClassId). slice_get xs (length order + length (f c))) cut ∙ skip order (f c ++ after) (length (f c))
            ∙ ap (slice_get (f c ++ after)) (let z : length (f c) ≡ length (f c) + 0 = omega arith in z) ∙ skip (f c) after 0 in
            there ∙ is ∙ last_first rest ∙ first_of p r (reverse rest) (all_turned (λ d. d.0 < length p) rest inside.0) ∙ sym at
            ∙ ap (λ n. slice_get (preorder p) (n + length (f c))) (sym e) ∙ ap (λ (d : ClassId). slice_get (preorder p) (k + length (f d))) (sym here)
        | inr other ↦
            let less : k < length order = (let b = length_push order c in omega arith) in
            get_or_append_left next (o ∷ []) None k (let s = w.same in omega arith) ∙ w.nexts k less
            ∙ ap (λ (d : ClassId). slice_get (preorder p) (k + length (f d))) (sym (get_or_append_left order (c ∷ []) (class_number 0) k less))
      ];
    }

-- fewer classes are left
pub fewer : (p : List Class) (order : List ClassId) (next : List (Option ClassId)) (waiting rest : List ClassId) (c : ClassId) → waiting ≡ rest ++ c ∷ [] → Walking p order next waiting
    → length (flat_map (family p) (reverse (rest ++ reverse (children p c)))) < length (flat_map (family p) (reverse waiting))
fewer p order next waiting rest c popped w =
    let r = w.rooted in
    let f = family p in
    let inside = all_parts (λ d. d.0 < length p) rest (c ∷ []) (subst (AllByRecursion (λ d. d.0 < length p)) popped w.within) in
    let after : List ClassId = flat_map f (reverse rest) in
    let below : List ClassId = flat_map f (children p c) in
    let back : reverse (rest ++ reverse (children p c)) ≡ children p c ++ reverse rest = reverse-append rest (reverse (children p c)) ∙ ap (λ (xs : List ClassId). xs ++ reverse rest) (reverse-reverse (children p c)) in
    let new : flat_map f (reverse (rest ++ reverse (children p c))) ≡ below ++ after = ap (flat_map f) back ∙ flat_map-append f (children p c) (reverse rest) in
    let old : flat_map f (reverse waiting) ≡ c ∷ (below ++ after) =
    ap (λ (xs : List ClassId). flat_map f (reverse xs)) popped ∙ ap (flat_map f) (turned rest c) ∙ ap (λ (xs : List ClassId). xs ++ after) (family_step p r c inside.1.0) in
    let a : length (flat_map f (reverse (rest ++ reverse (children p c)))) ≡ length (below ++ after) = ap length new in
    let b : length (flat_map f (reverse waiting)) ≡ suc (length (below ++ after)) = ap length old in
    omega arith

-- the class that waits last is one of the table
pub last_within : (p : List Class) (order : List ClassId) (next : List (Option ClassId)) (waiting rest : List ClassId) (c : ClassId) → waiting ≡ rest ++ c ∷ [] → Walking p order next waiting → c.0 < length p
last_within p order next waiting rest c popped w = (all_parts (λ d. d.0 < length p) rest (c ∷ []) (subst (AllByRecursion (λ d. d.0 < length p)) popped w.within)).1.0
