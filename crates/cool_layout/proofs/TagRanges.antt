-- The tags of a class and of the classes below it are a range of numbers, and the tags of all classes are the numbers from 0 up to the number of classes less
-- 1.
use Rattle.std.proofs.Common.{◌≡◌, ℕ, zero, suc, ◌+◌, ◌<◌, ◌≤◌, List, [], ◌∷◌, ◌++◌, length, get_or, take, drop, flat_map, filter, Option, Some, None, Bool, true, false, cond, not, refl, sym, ap, ◌∙◌, subst, arith, Contains}
use Rattle.std.specs.Prelude.{nat_eq}
use Rattle.std.specs.List.{AllByRecursion, position_or_len}
use Rattle.std.proofs.lemmas.List.{drop_more, take-append-drop, length-take-le}
use Rattle.std.proofs.lemmas.List.Elements.{Contains-append_right}
use Rattle.std.proofs.lemmas.List.Sums.{passes_at_first}
use Rattle.cool_classes.specs.declared.class_id.ClassId.{ClassId}
use Rattle.cool_classes.specs.Chains.{Class, class_number, parent_of, IsChain, Below}
use Rattle.cool_classes.specs.ClimbedChains.{chain}
use Rattle.cool_layout.specs.Preorder.{numbers_from, is_class, children, family, preorder, tag, last_tag}
use Rattle.cool_layout.specs.Roots.{IsRooted}
use Rattle.cool_layout.specs.Tags.{AreTags}
use Rattle.cool_layout.proofs.ShortChains.{same_number, chain_is, chain_only}
use Rattle.cool_layout.proofs.Counting.{one, times, times-append, total, total_sum, total_zero, among_numbers, times_in_family}
use Rattle.cool_layout.proofs.Families.{subtree_in, object_in, object_top, family_step, family_cut, member_cut}
use Rattle.lists.proofs.Numbers.{nat_eq-same}

-- places

abbrev pub place : ClassId → List ClassId → ℕ
place d xs = position_or_len (is_class d) xs

pub place_after : (d : ClassId) (xs ys : List ClassId) → times d xs ≡ 0 → place d (xs ++ ys) ≡ length xs + place d ys
place_after d [] ys none = omega arith
place_after d (x ∷ xs) ys none = by (nat_eq x.0 d.0) refl none (λ h. place_after d xs ys h)
  where
    by : (b : Bool) → nat_eq x.0 d.0 ≡ b → one b + times d xs ≡ 0 → (times d xs ≡ 0 → place d (xs ++ ys) ≡ length xs + place d ys) → cond (not b) (1 + place d (xs ++ ys)) 0 ≡ suc (length xs) + place d ys
    by true e h more = absurd (omega arith)
    by false e h more = let l : place d (xs ++ ys) ≡ length xs + place d ys = more (omega arith) in omega arith

pub place_here : (d : ClassId) (xs ys : List ClassId) → 1 ≤ times d xs → (place d (xs ++ ys) ≡ place d xs) × (place d xs < length xs)
place_here d [] ys some = absurd (omega arith)
place_here d (x ∷ xs) ys some = by (nat_eq x.0 d.0) refl some (λ h. place_here d xs ys h)
  where
    by : (b : Bool) → nat_eq x.0 d.0 ≡ b → 1 ≤ one b + times d xs → (1 ≤ times d xs → (place d (xs ++ ys) ≡ place d xs) × (place d xs < length xs))
        → (cond (not b) (1 + place d (xs ++ ys)) 0 ≡ cond (not b) (1 + place d xs) 0) × (cond (not b) (1 + place d xs) 0 < suc (length xs))
    by true e h more = (refl, omega arith)
    by false e h more = let l = more (omega arith) in (ap (λ n. 1 + n) l.0, let m = l.1 in omega arith)

-- times in a list, and whether the list contains a class

pub times_there : (d : ClassId) (xs : List ClassId) → Contains xs d → 1 ≤ times d xs
times_there d [] (k, l, e) = absurd (omega arith)
times_there d (x ∷ xs) (zero, l, e) =
    let one_is : one (nat_eq x.0 d.0) ≡ 1 = ap (λ (c : ClassId). one (nat_eq c.0 d.0)) e ∙ ap one (nat_eq-same d.0) in omega arith
times_there d (x ∷ xs) (suc k, l, e) = let h : 1 ≤ times d xs = times_there d xs (k, omega arith, e) in omega arith

pub there_times : (d : ClassId) (xs : List ClassId) → 1 ≤ times d xs → Contains xs d
there_times d xs h =
    let cut = member_cut d xs h in
    subst (λ (ys : List ClassId). Contains ys d) (sym cut.2) (Contains-append_right cut.0 (d ∷ cut.1) d (0, omega arith, refl))

-- Object stands once on each chain

object_once : (p : List Class) → IsRooted p → (c : ClassId) → c.0 < length p → (ds : List ClassId) → IsChain p (Some c) ds → times (class_number 0) ds ≡ 1
object_once p r c within [] h = absurd h
object_once p r c within (d ∷ ds) h = subst (λ (x : ClassId). one (nat_eq x.0 0) + times (class_number 0) ds ≡ 1) (sym h.0) (by (parent_of p c) refl h.1 (λ q w j. object_once p r q w ds j))
  where
    nothing : (es : List ClassId) → IsChain p None es → times (class_number 0) es ≡ 0
    nothing [] j = refl
    nothing (e ∷ es) j = absurd j

    by : (o : Option ClassId) → parent_of p c ≡ o → IsChain p o ds → ((q : ClassId) → q.0 < length p → IsChain p (Some q) ds → times (class_number 0) ds ≡ 1) → one (nat_eq c.0 0) + times (class_number 0) ds ≡ 1
    by None e j more =
        let a : one (nat_eq c.0 0) ≡ 1 = ap (λ (x : ClassId). one (nat_eq x.0 0)) (r.top c within e) in
        let b : times (class_number 0) ds ≡ 0 = nothing ds j in
        omega arith
    by (Some q) e j more =
        let b : times (class_number 0) ds ≡ 1 = more q (r.above c q within e) j in
        let other : (n : ℕ) → c.0 ≡ n → one (nat_eq n 0) ≡ 0 = at in
        let a : one (nat_eq c.0 0) ≡ 0 = other c.0 refl in
        omega arith
      where
        at : (n : ℕ) → c.0 ≡ n → one (nat_eq n 0) ≡ 0
        at zero is = absurd (none_some (sym (object_top p r) ∙ ap (parent_of p) (sym (same_number c (class_number 0) is)) ∙ e))
          where
            none_some : None ≡ Some q → ⊥
            none_some h = absurd (cc)
        at (suc n) is = let other : nat_eq (suc n) 0 ≡ false = grind arith in ap one other

-- each class stands once in the preorder
pub once : (p : List Class) → IsRooted p → (c : ClassId) → c.0 < length p → times c (preorder p) ≡ 1
once p r c within = times_in_family p r c (class_number 0) within ∙ object_once p r c within (chain p c) (chain_is p r c within)

-- a class is below another where it stands in its family
pub in_family : (p : List Class) → IsRooted p → (c d : ClassId) → d.0 < length p → Below p d c → 1 ≤ times d (family p c)
in_family p r c d within (ds, h, there) =
    let t : 1 ≤ times c (chain p d) = subst (λ (es : List ClassId). 1 ≤ times c es) (chain_only p r d within ds h) (times_there c ds there) in
    let e : times d (family p c) ≡ times c (chain p d) = times_in_family p r d c within in
    omega arith

pub below_in_family : (p : List Class) → IsRooted p → (c d : ClassId) → d.0 < length p → 1 ≤ times d (family p c) → Below p d c
below_in_family p r c d within h =
    let e : times d (family p c) ≡ times c (chain p d) = times_in_family p r d c within in
    (chain p d, chain_is p r d within, there_times c (chain p d) (omega arith))

-- a family is not empty: its head stands first
pub head_first : (p : List Class) → IsRooted p → (c : ClassId) → c.0 < length p → (1 ≤ times c (family p c)) × (place c (family p c) ≡ 0) × (1 ≤ length (family p c))
head_first p r c within =
    let f : family p c ≡ c ∷ flat_map (family p) (children p c) = family_step p r c within in
    let rest : List ClassId = flat_map (family p) (children p c) in
    let same : nat_eq c.0 c.0 ≡ true = nat_eq-same c.0 in
    let one_is : one (nat_eq c.0 c.0) ≡ 1 = ap one same in (
      subst (λ (xs : List ClassId). 1 ≤ times c xs) (sym f) (let l : 1 ≤ one (nat_eq c.0 c.0) + times c rest = omega arith in l),
      ap (place c) f ∙ ap (λ b. cond (not b) (1 + place c rest) 0) same,
      subst (λ (xs : List ClassId). 1 ≤ length xs) (sym f) (omega arith),
    )

-- the tag of a class is the number of classes before its family
abbrev pub CutAt : List Class → ClassId → Type 0
CutAt p c = (front : List ClassId) × (back : List ClassId) × (preorder p ≡ front ++ (family p c ++ back)) × (tag p c ≡ length front)

-- the number of times that a class stands in the three parts
parts : (d : ClassId) (front mid back : List ClassId) → times d (front ++ (mid ++ back)) ≡ times d front + (times d mid + times d back)
parts d front mid back = times-append d front (mid ++ back) ∙ ap (λ n. times d front + n) (times-append d mid back)

pub tag_cut : (p : List Class) → IsRooted p → (c : ClassId) → c.0 < length p → CutAt p c
tag_cut p r c within =
    let cut = family_cut p r c within in
    let front = cut.0 in
    let back = cut.1 in
    let head = head_first p r c within in
    let all : times c (preorder p) ≡ times c front + (times c (family p c) + times c back) = ap (times c) cut.2 ∙ parts c front (family p c) back in
    let is : times c (preorder p) ≡ 1 = once p r c within in
    let some : 1 ≤ times c (family p c) = head.0 in
    let none : times c front ≡ 0 = omega arith in
    let here : place c (family p c ++ back) ≡ 0 = (place_here c (family p c) back some).0 ∙ head.1 in
    (front, back, cut.2, ap (place c) cut.2 ∙ place_after c front (family p c ++ back) none ∙ (let e : length front + place c (family p c ++ back) ≡ length front = omega arith in e))

-- the tags of a family are those from that of its head on
pub range : (p : List Class) → IsRooted p → (c d : ClassId) → c.0 < length p → d.0 < length p → 1 ≤ times d (family p c) → (tag p c ≤ tag p d) × (tag p d ≤ last_tag p c)
range p r c d c_in d_in some =
    let cut = tag_cut p r c c_in in
    let front = cut.0 in
    let back = cut.1 in
    let all : times d (preorder p) ≡ times d front + (times d (family p c) + times d back) = ap (times d) cut.2 ∙ parts d front (family p c) back in
    let is : times d (preorder p) ≡ 1 = once p r d d_in in
    let none : times d front ≡ 0 = omega arith in
    let here = place_here d (family p c) back some in
    let at : tag p d ≡ length front + place d (family p c ++ back) = ap (place d) cut.2 ∙ place_after d front (family p c ++ back) none in
    let same : place d (family p c ++ back) ≡ place d (family p c) = here.0 in
    let less : place d (family p c) < length (family p c) = here.1 in
    let first : tag p c ≡ length front = cut.3 in
    (omega arith, omega arith)

pub only_range : (p : List Class) → IsRooted p → (c d : ClassId) → c.0 < length p → d.0 < length p → tag p c ≤ tag p d → tag p d ≤ last_tag p c → (n : ℕ) → times d (family p c) ≡ n → 1 ≤ n
only_range p r c d c_in d_in low high (suc n) e = omega arith
only_range p r c d c_in d_in low high zero e =
    let cut = tag_cut p r c c_in in
    let front = cut.0 in
    let back = cut.1 in
    let all : times d (preorder p) ≡ times d front + (times d (family p c) + times d back) = ap (times d) cut.2 ∙ parts d front (family p c) back in
    let is : times d (preorder p) ≡ 1 = once p r d d_in in
    let first : tag p c ≡ length front = cut.3 in
    let long : 1 ≤ length (family p c) = (head_first p r c c_in).2 in
    by front back (times d front) refl cut.2 all is first long
  where
    by : (front back : List ClassId) (m : ℕ) → times d front ≡ m → preorder p ≡ front ++ (family p c ++ back) → times d (preorder p) ≡ times d front + (times d (family p c) + times d back) → times d (preorder p) ≡ 1
        → tag p c ≡ length front → 1 ≤ length (family p c) → 1 ≤ 0
    by front back (suc m) t cut all is first long =
        let here = place_here d front (family p c ++ back) (omega arith) in
        let at : tag p d ≡ place d front = ap (place d) cut ∙ here.0 in
        let less : place d front < length front = here.1 in
        absurd (omega arith)
    by front back zero t cut all is first long =
        let at : tag p d ≡ length front + (length (family p c) + place d back) =
        ap (place d) cut ∙ place_after d front (family p c ++ back) t ∙ ap (λ n. length front + n) (place_after d (family p c) back e) in
        absurd (omega arith)

-- the preorder has as many classes as there are

total_all : (f : ClassId → ℕ) (k n : ℕ) → ((d : ClassId) → d.0 < k + n → f d ≡ 1) → total f (numbers_from k n) ≡ n
total_all f k zero h = refl
total_all f k (suc n) h =
    let a : f (class_number k) ≡ 1 = h (class_number k) (omega arith) in
    let b : total f (numbers_from (k + 1) n) ≡ n = total_all f (k + 1) n (λ d l. h d (omega arith)) in
    omega arith

all_kept : (xs : List ClassId) → filter (λ x. true) xs ≡ xs
all_kept [] = refl
all_kept (x ∷ xs) = ap (λ (ys : List ClassId). x ∷ ys) (all_kept xs)

counted : (n : ℕ) (xs : List ClassId) → AllByRecursion (λ d. d.0 < n) xs → total (λ d. times d xs) (numbers_from 0 n) ≡ length xs
counted n [] all = total_zero (numbers_from 0 n)
counted n (x ∷ xs) all =
    let a : total (λ d. one (is_class d x)) (numbers_from 0 n) ≡ 1 =
    ap (total (λ d. one (is_class d x))) (sym (all_kept (numbers_from 0 n))) ∙ among_numbers x (λ d. true) 0 n (omega arith) (let w = all.0 in omega arith) in
    let b : total (λ d. times d xs) (numbers_from 0 n) ≡ length xs = counted n xs all.1 in
    total_sum (λ d. one (is_class d x)) (λ d. times d xs) (numbers_from 0 n) ∙ (let e : total (λ d. one (is_class d x)) (numbers_from 0 n) + total (λ d. times d xs) (numbers_from 0 n) ≡ suc (length xs) = omega arith in e)

pub preorder_in : (p : List Class) → IsRooted p → AllByRecursion (λ d. d.0 < length p) (preorder p)
preorder_in p r = subtree_in p (length p) (class_number 0) (object_in p r)

pub preorder_long : (p : List Class) → IsRooted p → length (preorder p) ≡ length p
preorder_long p r =
    sym (counted (length p) (preorder p) (preorder_in p r)) ∙ total_all (λ d. times d (preorder p)) 0 (length p) (λ d l. once p r d (omega arith))

-- the class at a place of the preorder has that tag
pub tag_at : (p : List Class) → IsRooted p → (k : ℕ) → k < length p → (tag p (get_or (preorder p) k (class_number 0)) ≡ k) × ((get_or (preorder p) k (class_number 0)).0 < length p)
tag_at p r k l =
    let xs : List ClassId = preorder p in
    let c : ClassId = get_or xs k (class_number 0) in
    let long : length xs ≡ length p = preorder_long p r in
    let c_in : c.0 < length p = at xs k (preorder_in p r) (omega arith) in
    let cut : xs ≡ take k xs ++ (c ∷ drop (k + 1) xs) = sym (take-append-drop k xs) ∙ ap (λ (ys : List ClassId). take k xs ++ ys) (drop_more xs k (class_number 0) (omega arith)) in
    let all : times c xs ≡ times c (take k xs) + (one (nat_eq c.0 c.0) + times c (drop (k + 1) xs)) = ap (times c) cut ∙ times-append c (take k xs) (c ∷ drop (k + 1) xs) in
    let one_is : one (nat_eq c.0 c.0) ≡ 1 = ap one (nat_eq-same c.0) in
    let is : times c xs ≡ 1 = once p r c c_in in
    let none : times c (take k xs) ≡ 0 = omega arith in
    let here : place c (c ∷ drop (k + 1) xs) ≡ 0 = ap (λ b. cond (not b) (1 + place c (drop (k + 1) xs)) 0) (nat_eq-same c.0) in
    let before : length (take k xs) ≡ k = length-take-le k xs (omega arith) in
    (ap (place c) cut ∙ place_after c (take k xs) (c ∷ drop (k + 1) xs) none ∙ (let e : length (take k xs) + place c (c ∷ drop (k + 1) xs) ≡ k = omega arith in e), c_in)
  where
    at : (ys : List ClassId) (j : ℕ) → AllByRecursion (λ d. d.0 < length p) ys → j < length ys → (get_or ys j (class_number 0)).0 < length p
    at [] j all less = absurd (omega arith)
    at (y ∷ ys) zero all less = all.0
    at (y ∷ ys) (suc j) all less = at ys j all.1 (omega arith)

-- the class of a tag
pub at_tag : (p : List Class) → IsRooted p → (c : ClassId) → c.0 < length p → (tag p c < length p) × (get_or (preorder p) (tag p c) (class_number 0) ≡ c)
at_tag p r c c_in =
    let is : times c (preorder p) ≡ 1 = once p r c c_in in
    let less : place c (preorder p) < length (preorder p) = (place_here c (preorder p) [] (omega arith)).1 in
    let long : length (preorder p) ≡ length p = preorder_long p r in
    let pass : nat_eq (get_or (preorder p) (tag p c) (class_number 0)).0 c.0 ≡ true = passes_at_first (is_class c) (preorder p) (class_number 0) less in
    let number : (get_or (preorder p) (tag p c) (class_number 0)).0 ≡ c.0 = grind arith in
    (omega arith, same_number (get_or (preorder p) (tag p c) (class_number 0)) c number)

pub are_tags : (p : List Class) → IsRooted p → AreTags p
are_tags p r = record {
  low = λ c c_in. (at_tag p r c c_in).0;
  one = λ c d c_in d_in e. sym (at_tag p r c c_in).1 ∙ ap (λ n. get_or (preorder p) n (class_number 0)) e ∙ (at_tag p r d d_in).1;
  each = λ k l. let h = tag_at p r k l in (get_or (preorder p) k (class_number 0), h.1, h.0);
  below = λ c d c_in d_in h. range p r c d c_in d_in (in_family p r c d d_in h);
  only_below = λ c d c_in d_in low high. below_in_family p r c d d_in (only_range p r c d c_in d_in low high (times d (family p c)) refl);
}
