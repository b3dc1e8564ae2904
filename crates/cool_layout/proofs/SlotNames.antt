-- The method names in the slots of a class's dispatch table are those of the methods of the class and its ancestors, each once, with those of the parent first.
use Rattle.std.proofs.Common.{◌≡◌, ℕ, zero, suc, ◌+◌, ◌<◌, List, [], ◌∷◌, ◌++◌, length, map, flat_map, Option, Some, None, is_some, Bool, true, false, ◌||◌, cond, not, refl, sym, ap, ◌∙◌, arith, true≢false, append_assoc, Contains}
use Rattle.std.specs.Prelude.{bytes_eq, nat_lt, position, option_map, if◌then◌else◌}
use Rattle.std.specs.List.{position_or_len, list_any}
use Rattle.std.proofs.lemmas.List.{append-nil}
use Rattle.std.proofs.lemmas.List.Folds.{list_any-append}
use Rattle.cool_syntax.specs.declared.file_tree.Feature.{Feature}
use Rattle.cool_syntax.specs.declared.file_tree.Feature.TheVariants.{Method, Attribute}
use Rattle.cool_classes.specs.declared.class_id.ClassId.{ClassId}
use Rattle.cool_classes.specs.declared.method.MethodRef.{MethodRef}
use Rattle.cool_classes.specs.declared.method.MethodRef.TheVariants.{Basic}
use Rattle.cool_classes.specs.Chains.{Class, parent_of, features_of, IsChain}
use Rattle.cool_classes.specs.Features.{NamedMethod, basic_methods, method_among, first_method, user_method, own_method, first_of, implementation}
use Rattle.cool_layout.specs.Members.{method_name, own_names, with_new, slots_of, slots, slot}
use Rattle.cool_layout.specs.Roots.{IsRooted}
use Rattle.cool_layout.proofs.ShortChains.{chain_step, chain_end}
use Rattle.lists.proofs.EqualBytes.{bytes_equal, bytes_eq-turned}
use Rattle.lists.proofs.TruthValues.{or_true, or_false}

abbrev pub has : List ℕ → List (List ℕ) → Bool
has f names = list_any (bytes_eq f) names

abbrev pub place : List ℕ → List (List ℕ) → ℕ
place f names = position_or_len (bytes_eq f) names

-- three tests joined by or
or_assoc : (a b c : Bool) → ((a || b) || c) ≡ (a || (b || c))
or_assoc true b c = refl
or_assoc false b c = refl

pub has_added : (f y : List ℕ) (xs : List (List ℕ)) → has f (if has y xs then xs else xs ++ y ∷ []) ≡ (has f xs || bytes_eq f y)
has_added f y xs = by (has y xs) refl (bytes_eq f y) refl
  where
    by : (a : Bool) → has y xs ≡ a → (b : Bool) → bytes_eq f y ≡ b → has f (if a then xs else xs ++ y ∷ []) ≡ (has f xs || b)
    by true e true k = ap (λ g. has g xs) (bytes_equal f y k) ∙ e ∙ sym (or_true (has f xs))
    by true e false k = sym (or_false (has f xs))
    by false e b k = list_any-append (bytes_eq f) xs (y ∷ []) ∙ ap (λ c. has f xs || c) (or_false (bytes_eq f y) ∙ k)

pub with_new_any : (f : List ℕ) (xs ys : List (List ℕ)) → has f (with_new xs ys) ≡ (has f xs || has f ys)
with_new_any f xs [] = sym (or_false (has f xs))
with_new_any f xs (y ∷ ys) = with_new_any f (if has y xs then xs else xs ++ y ∷ []) ys ∙ ap (λ b. b || has f ys) (has_added f y xs) ∙ or_assoc (has f xs) (bytes_eq f y) (has f ys)

-- the names of a class's own methods are those of which it has a method
basic_any : (f : List ℕ) (ms : List NamedMethod) → has f (map (λ m. m.name) ms) ≡ is_some (option_map Basic (method_among ms f))
basic_any f [] = refl
basic_any f (m ∷ ms) = ap (λ b. b || has f (map (λ m. m.name) ms)) (bytes_eq-turned f m.name) ∙ by (bytes_eq m.name f) (basic_any f ms)
  where
    by : (b : Bool) → has f (map (λ m. m.name) ms) ≡ is_some (option_map Basic (method_among ms f)) → (b || has f (map (λ m. m.name) ms)) ≡ is_some (option_map Basic (if b then Some m.method else method_among ms f))
    by true h = refl
    by false h = h

user_any : (f : List ℕ) (c : ClassId) (k : ℕ) (fs : List Feature) → has f (flat_map method_name fs) ≡ is_some (user_method c (first_method k fs f))
user_any f c k [] = refl
user_any f c k (Attribute a ∷ fs) = user_any f c (k + 1) fs
user_any f c k (Method m ∷ fs) = ap (λ b. b || has f (flat_map method_name fs)) (bytes_eq-turned f m.name) ∙ by (bytes_eq m.name f) (user_any f c (k + 1) fs)
  where
    by : (b : Bool) → has f (flat_map method_name fs) ≡ is_some (user_method c (first_method (k + 1) fs f)) → (b || has f (flat_map method_name fs)) ≡ is_some (user_method c (if b then Some k else first_method (k + 1) fs f))
    by true h = refl
    by false h = h

pub own_any : (p : List Class) (c : ClassId) (f : List ℕ) → has f (own_names p c) ≡ is_some (own_method p c f)
own_any p c f = by (nat_lt c.0 5)
  where
    by : (b : Bool) → has f (if b then map (λ m. m.name) (basic_methods c.0) else flat_map method_name (features_of p c)) ≡ is_some (if b then option_map Basic (method_among (basic_methods c.0) f) else user_method c (first_method 0 (features_of p c) f))
    by true = basic_any f (basic_methods c.0)
    by false = user_any f c 0 (features_of p c)

some_first : (a b : Option MethodRef) → is_some (first_of a b) ≡ (is_some b || is_some a)
some_first None None = refl
some_first None (Some m) = refl
some_first (Some m) b = sym (or_true (is_some b))

pub slots_any : (p : List Class) (ds : List ClassId) (f : List ℕ) → has f (slots_of p ds) ≡ is_some (implementation p ds f)
slots_any p [] f = refl
slots_any p (d ∷ ds) f =
    with_new_any f (slots_of p ds) (own_names p d) ∙ ap (λ b. b || has f (own_names p d)) (slots_any p ds f) ∙ ap (λ b. is_some (implementation p ds f) || b) (own_any p d f)
    ∙ sym (some_first (own_method p d f) (implementation p ds f))

-- places of names

place_none : (f : List ℕ) (xs : List (List ℕ)) → has f xs ≡ false → place f xs ≡ length xs
place_none f [] h = refl
place_none f (x ∷ xs) h = by (bytes_eq f x) h (λ t. place_none f xs t)
  where
    by : (b : Bool) → (b || has f xs) ≡ false → (has f xs ≡ false → place f xs ≡ length xs) → cond (not b) (1 + place f xs) 0 ≡ suc (length xs)
    by true t more = absurd (true≢false t)
    by false t more = let e : place f xs ≡ length xs = more t in omega arith

pub place_here : (f : List ℕ) (xs ys : List (List ℕ)) → has f xs ≡ true → (place f (xs ++ ys) ≡ place f xs) × (place f xs < length xs)
place_here f [] ys h = absurd (true≢false (sym h))
place_here f (x ∷ xs) ys h = by (bytes_eq f x) h (λ t. place_here f xs ys t)
  where
    by : (b : Bool) → (b || has f xs) ≡ true → (has f xs ≡ true → (place f (xs ++ ys) ≡ place f xs) × (place f xs < length xs)) → (cond (not b) (1 + place f (xs ++ ys)) 0 ≡ cond (not b) (1 + place f xs) 0) × (cond (not b) (1 + place f xs) 0 < suc (length xs))
    by true t more = (refl, omega arith)
    by false t more = let l = more t in (ap (λ n. 1 + n) l.0, let m = l.1 in omega arith)

abbrev pub position_in : List ℕ → List (List ℕ) → Option ℕ
position_in f xs = position (bytes_eq f) xs

pub position_none : (f : List ℕ) (xs : List (List ℕ)) → has f xs ≡ false → position_in f xs ≡ None
position_none f xs h = let e : place f xs ≡ length xs = place_none f xs h in let t : nat_lt (place f xs) (length xs) ≡ false = grind arith in ap (λ b. cond b (Some (place f xs)) None) t

pub position_some : (f : List ℕ) (xs : List (List ℕ)) → has f xs ≡ true → position_in f xs ≡ Some (place f xs)
position_some f xs h = let l : place f xs < length xs = (place_here f xs [] h).1 in let t : nat_lt (place f xs) (length xs) ≡ true = grind arith in ap (λ b. cond b (Some (place f xs)) None) t

pub position_is : (f : List ℕ) (xs : List (List ℕ)) → is_some (position_in f xs) ≡ has f xs
position_is f xs = by (has f xs) refl
  where
    by : (b : Bool) → has f xs ≡ b → is_some (position_in f xs) ≡ b
    by true h = ap is_some (position_some f xs h)
    by false h = ap is_some (position_none f xs h)

-- a name keeps its place when names come after it
pub position_front : (f : List ℕ) (xs ys : List (List ℕ)) → has f xs ≡ true → position_in f (xs ++ ys) ≡ position_in f xs
position_front f xs ys h =
    let there : has f (xs ++ ys) ≡ true = list_any-append (bytes_eq f) xs ys ∙ ap (λ b. b || has f ys) h in
    position_some f (xs ++ ys) there ∙ ap Some (place_here f xs ys h).0 ∙ sym (position_some f xs h)

-- names with new ones begin with the names
pub with_new_front : (xs ys : List (List ℕ)) → (zs : List (List ℕ)) × (with_new xs ys ≡ xs ++ zs)
with_new_front xs [] = ([], sym (append-nil xs))
with_new_front xs (y ∷ ys) = by (has y xs) (λ l. with_new_front l ys)
  where
    by : (b : Bool) → ((l : List (List ℕ)) → (zs : List (List ℕ)) × (with_new l ys ≡ l ++ zs)) → (zs : List (List ℕ)) × (with_new (if b then xs else xs ++ y ∷ []) ys ≡ xs ++ zs)
    by true more = more xs
    by false more = let rest = more (xs ++ y ∷ []) in (y ∷ rest.0, rest.1 ∙ append_assoc xs (y ∷ []) rest.0)

pub position_with_new : (f : List ℕ) (xs ys : List (List ℕ)) → has f xs ≡ true → position_in f (with_new xs ys) ≡ position_in f xs
position_with_new f xs ys h = let front = with_new_front xs ys in ap (position_in f) front.1 ∙ position_front f xs front.0 h

-- a name that is not new has the place that it had
pub position_old : (f : List ℕ) (xs ys : List (List ℕ)) → has f ys ≡ false → position_in f (with_new xs ys) ≡ position_in f xs
position_old f xs ys none = by (has f xs) refl
  where
    by : (b : Bool) → has f xs ≡ b → position_in f (with_new xs ys) ≡ position_in f xs
    by true h = position_with_new f xs ys h
    by false h = position_none f (with_new xs ys) (with_new_any f xs ys ∙ ap (λ b. b || has f ys) h ∙ none) ∙ sym (position_none f xs h)

-- one more new name
pub with_new_last : (xs ys : List (List ℕ)) (y : List ℕ) → with_new xs (ys ++ y ∷ []) ≡ (if has y (with_new xs ys) then with_new xs ys else with_new xs ys ++ y ∷ [])
with_new_last xs [] y = refl
with_new_last xs (z ∷ ys) y = with_new_last (if has z xs then xs else xs ++ z ∷ []) ys y

-- slots of a class and of its parent
pub slots_step : (p : List Class) → IsRooted p → (c q : ClassId) → c.0 < length p → parent_of p c ≡ Some q → slots p c ≡ with_new (slots p q) (own_names p c)
slots_step p r c q within e = ap (slots_of p) (chain_step p r c q within e)

pub slots_top : (p : List Class) → IsRooted p → (c : ClassId) → c.0 < length p → parent_of p c ≡ None → slots p c ≡ with_new [] (own_names p c)
slots_top p r c within e = ap (slots_of p) (chain_end p r c within e)

-- a method has the same slot in all classes below
pub same_slot : (p : List Class) → IsRooted p → (f : List ℕ) (k : ℕ) (c : ClassId) → c.0 < length p → (ds : List ClassId) → IsChain p (Some c) ds → (d : ClassId) → Contains ds d → slot p d f ≡ Some k → slot p c f ≡ Some k
same_slot p r f k c within [] h d there is = absurd h
same_slot p r f k c within (e ∷ ds) h d (zero, l, same) is = ap (λ x. slot p x f) (sym h.0 ∙ same) ∙ is
same_slot p r f k c within (e ∷ ds) h d (suc j, l, same) is = by (parent_of p c) refl h.1 (λ q w i. same_slot p r f k q w ds i d (j, omega arith, same) is)
  where
    by : (o : Option ClassId) → parent_of p c ≡ o → IsChain p o ds → ((q : ClassId) → q.0 < length p → IsChain p (Some q) ds → slot p q f ≡ Some k) → slot p c f ≡ Some k
    by None up i more = absurd (none ds i l)
      where
        none : (es : List ClassId) → IsChain p None es → suc j < suc (length es) → ⊥
        none [] i l = absurd (omega arith)
        none (x ∷ es) i l = i
    by (Some q) up i more =
        let above = more q (r.above c q within up) i in
        let there : has f (slots p q) ≡ true = sym (position_is f (slots p q)) ∙ ap is_some above in
        ap (position_in f) (slots_step p r c q within up) ∙ position_with_new f (slots p q) (own_names p c) there ∙ above
