-- A search from a class up through its ancestors finds the nearest method of a name, which is the invariant of the loop of `find_method`.
use Rattle.std.proofs.Common.{◌≡◌, ℕ, suc, ◌+◌, ◌<◌, List, [], ◌∷◌, length, get_or, drop, slice_get, Option, Some, None, ap, sym, ◌∙◌, refl, subst, arith, Bool, true, false, cond}
use Rattle.std.specs.Prelude.{bytes_eq, IfSome, option_map, nat_lt}
use Rattle.std.proofs.lemmas.List.{at_drop_more}
use Rattle.cool_syntax.specs.declared.file_tree.Feature.{Feature}
use Rattle.cool_syntax.specs.declared.file_tree.Feature.TheVariants.{Method, Attribute}
use Rattle.cool_classes.specs.declared.class_id.ClassId.{ClassId}
use Rattle.cool_classes.specs.declared.method.BasicMethod.{BasicMethod}
use Rattle.cool_classes.specs.declared.method.MethodRef.{MethodRef}
use Rattle.cool_classes.specs.declared.method.MethodRef.TheVariants.{Basic}
use Rattle.cool_classes.specs.Chains.{Class, parent_of, features_of, IsChain}
use Rattle.cool_classes.specs.Features.{first_method, user_method, own_method, first_of, implementation, IsMethod, HasMethod, method_among, basic_methods}

-- the first method of a name is a method
abbrev IsThere : List Feature → ℕ → ℕ → Type 0
IsThere fs k j = (i : ℕ) × (j ≡ k + i) × IsMethod (slice_get fs i)

there_after : (x : Feature) (fs : List Feature) (k j : ℕ) → IsThere fs (k + 1) j → IsThere (x ∷ fs) k j
there_after x fs k j (i, e, m) = (suc i, omega arith, m)

there_by : (x : Feature) (fs : List Feature) (k j : ℕ) (rest : Option ℕ) → IsMethod (Some x) → (b : Bool) → cond b (Some k) rest ≡ Some j → (rest ≡ Some j → IsThere fs (k + 1) j)
    → IsThere (x ∷ fs) k j
there_by x fs k j rest m true e more = (0, (let s : k ≡ j = cc in omega arith), m)
there_by x fs k j rest m false e more = there_after x fs k j (more e)

first_is_method : (fs : List Feature) (f : List ℕ) (k j : ℕ) → first_method k fs f ≡ Some j → IsThere fs k j
first_is_method [] f k j h = absurd (cc)
first_is_method (Method m ∷ fs) f k j h = there_by (Method m) fs k j (first_method (k + 1) fs f) tt (bytes_eq m.name f) h (first_is_method fs f (k + 1) j)
first_is_method (Attribute a ∷ fs) f k j h = there_after (Attribute a) fs k j (first_is_method fs f (k + 1) j h)

-- A climb for a method: the chain of the class now has the method that the chain of the first class has.
pub Finding : List Class → ClassId → ClassId → List ℕ → Type 0
Finding p first now f = (ds : List ClassId) → IsChain p (Some first) ds → (es : List ClassId) × IsChain p (Some now) es × (implementation p ds f ≡ implementation p es f)

pub finding_start : (p : List Class) (c : ClassId) (f : List ℕ) → Finding p c c f
unfolding Finding
finding_start p c f ds h = (ds, h, refl)

found_in : (p : List Class) (now : ClassId) (f : List ℕ) (m : MethodRef) → own_method p now f ≡ Some m → (es : List ClassId) → IsChain p (Some now) es → Some m ≡ implementation p es f
found_in p now f m e [] h = absurd h
found_in p now f m e (d ∷ es) h = sym (ap (λ (o : Option MethodRef). first_of o (implementation p es f)) (ap (λ (c : ClassId). own_method p c f) h.0 ∙ e))

pub finding_found : (p : List Class) (first now : ClassId) (f : List ℕ) (m : MethodRef) → own_method p now f ≡ Some m → Finding p first now f
    → (ds : List ClassId) → IsChain p (Some first) ds → Some m ≡ implementation p ds f
unfolding Finding
finding_found p first now f m e w ds h = let s = w ds h in found_in p now f m e s.0 s.1 ∙ sym s.2

passed : (p : List Class) (now q : ClassId) (f : List ℕ) → own_method p now f ≡ None → parent_of p now ≡ Some q → (es : List ClassId) → IsChain p (Some now) es
    → (fs : List ClassId) × IsChain p (Some q) fs × (implementation p es f ≡ implementation p fs f)
passed p now q f e up [] h = absurd h
passed p now q f e up (d ∷ es) h =
    (es, subst (λ (o : Option ClassId). IsChain p o es) up h.1, ap (λ (o : Option MethodRef). first_of o (implementation p es f)) (ap (λ (c : ClassId). own_method p c f) h.0 ∙ e))

pub finding_step : (p : List Class) (first now q : ClassId) (f : List ℕ) → own_method p now f ≡ None → parent_of p now ≡ Some q → Finding p first now f → Finding p first q f
unfolding Finding
finding_step p first now q f e up w ds h = let s = w ds h in let t = passed p now q f e up s.0 s.1 in (t.0, t.1, s.2 ∙ t.2)

none_on : (p : List Class) (f : List ℕ) (es : List ClassId) → IsChain p None es → implementation p es f ≡ None
none_on p f [] h = refl
none_on p f (d ∷ es) h = absurd h

missing_in : (p : List Class) (now : ClassId) (f : List ℕ) → own_method p now f ≡ None → parent_of p now ≡ None → (es : List ClassId) → IsChain p (Some now) es → None ≡ implementation p es f
missing_in p now f e up [] h = absurd h
missing_in p now f e up (d ∷ es) h =
    sym (ap (λ (o : Option MethodRef). first_of o (implementation p es f)) (ap (λ (c : ClassId). own_method p c f) h.0 ∙ e)
    ∙ none_on p f es (subst (λ (o : Option ClassId). IsChain p o es) up h.1))

pub finding_missing : (p : List Class) (first now : ClassId) (f : List ℕ) → own_method p now f ≡ None → parent_of p now ≡ None → Finding p first now f
    → (ds : List ClassId) → IsChain p (Some first) ds → None ≡ implementation p ds f
unfolding Finding
finding_missing p first now f e up w ds h = let s = w ds h in missing_in p now f e up s.0 s.1 ∙ sym s.2

-- a method that a class has of its own is there
pub user_has : (p : List Class) (c : ClassId) (f : List ℕ) (o : Option ℕ) → first_method 0 (features_of p c) f ≡ o → c.0 < length p → IfSome (user_method c o) (HasMethod p)
user_has p c f None e within = tt
user_has p c f (Some j) e within =
    let w = first_is_method (features_of p c) f 0 j e in
    let same : w.0 ≡ j = let s = w.1 in omega arith in
    (within, subst (λ (n : ℕ). IsMethod (slice_get (features_of p c) n)) same w.2)

basic_has : (p : List Class) (o : Option BasicMethod) → IfSome (option_map Basic o) (HasMethod p)
basic_has p None = tt
basic_has p (Some b) = tt

one_has : (p : List Class) (b : Bool) (x y : Option MethodRef) → IfSome x (HasMethod p) → IfSome y (HasMethod p) → IfSome (cond b x y) (HasMethod p)
one_has p true x y h k = h
one_has p false x y h k = k

pub own_has : (p : List Class) (c : ClassId) (f : List ℕ) → c.0 < length p → IfSome (own_method p c f) (HasMethod p)
own_has p c f within =
    one_has p (nat_lt c.0 5) (option_map Basic (method_among (basic_methods c.0) f)) (user_method c (first_method 0 (features_of p c) f))
    (basic_has p (method_among (basic_methods c.0) f)) (user_has p c f (first_method 0 (features_of p c) f) refl within)

pub found_has : (p : List Class) (c : ClassId) (f : List ℕ) (m : MethodRef) → c.0 < length p → own_method p c f ≡ Some m → HasMethod p m
found_has p c f m within e = subst (λ (o : Option MethodRef). IfSome o (HasMethod p)) e (own_has p c f within)

-- the nearest method of some classes is that of the first where it has one
pub nearest_here : (p : List Class) (ds : List ClassId) (k : ℕ) (d : ClassId) (f : List ℕ) (m : MethodRef) → k < length ds → own_method p (get_or ds k d) f ≡ Some m
    → implementation p (drop k ds) f ≡ Some m
nearest_here p ds k d f m within e =
    at_drop_more (λ (xs : List ClassId). implementation p xs f) ds k d within ∙ ap (λ (o : Option MethodRef). first_of o (implementation p (drop (k + 1) ds) f)) e

-- and that of the others where the first has none
pub nearest_later : (p : List Class) (ds : List ClassId) (k : ℕ) (d : ClassId) (f : List ℕ) → k < length ds → own_method p (get_or ds k d) f ≡ None
    → implementation p (drop (k + 1) ds) f ≡ implementation p (drop k ds) f
nearest_later p ds k d f within e =
    sym (at_drop_more (λ (xs : List ClassId). implementation p xs f) ds k d within ∙ ap (λ (o : Option MethodRef). first_of o (implementation p (drop (k + 1) ds) f)) e)
