-- The list `methods_of` has the names of all methods of a class and its ancestors, so these methods have no more different names than the list is long.
use Rattle.std.proofs.Common.{◌≡◌, ◌≢◌, ◌⊎◌, ℕ, ◌+◌, ◌≤◌, List, [], ◌∷◌, ◌++◌, length, Option, Some, None, is_none, Bool, true, false, ◌&&◌, cond, ap, sym, ◌∙◌, refl, subst, arith, true≢false}
use Rattle.std.specs.Prelude.{bytes_eq, nat_lt, nat_eq, option_map}
use Rattle.std.specs.List.{AllByRecursion}
use Rattle.std.proofs.Math.Logic.{inl, inr}
use Rattle.std.proofs.lemmas.Bool.{eq-eqb}
use Rattle.std.proofs.lemmas.Slice.Eq.{bytes_eq-Decides}
use Rattle.cool_syntax.specs.declared.file_tree.Feature.{Feature}
use Rattle.cool_syntax.specs.declared.file_tree.Feature.TheVariants.{Method, Attribute}
use Rattle.cool_classes.specs.declared.class_id.ClassId.{ClassId}
use Rattle.cool_classes.specs.declared.method.MethodRef.{MethodRef}
use Rattle.cool_classes.specs.declared.method.MethodRef.TheVariants.{Basic}
use Rattle.cool_classes.specs.Chains.{Class, features_of}
use Rattle.cool_classes.specs.Features.{NamedMethod, basic_methods, method_among, first_method, user_method, own_method, first_of, implementation}
use Rattle.cool_classes.specs.FirstNames.{is_index}
use Rattle.cool_classes.specs.Limits.{IsImplemented}
use Rattle.cool_classes.specs.MethodNames.{is_new, new_name, new_among, method_names, new_methods, methods_of}
use Rattle.lists.specs.Different.{AreDifferent}

-- a name stands in a list
abbrev pub Among : List ℕ → List (List ℕ) → Type 0
Among f [] = ⊥
Among f (x ∷ xs) = (x ≡ f) ⊎ Among f xs

among_right : (f : List ℕ) (xs ys : List (List ℕ)) → Among f ys → Among f (xs ++ ys)
among_right f [] ys h = h
among_right f (x ∷ xs) ys h = inr (among_right f xs ys h)

among_left : (f : List ℕ) (xs ys : List (List ℕ)) → Among f xs → Among f (xs ++ ys)
among_left f [] ys h = absurd h
among_left f (x ∷ xs) ys (inl e) = inl e
among_left f (x ∷ xs) ys (inr h) = inr (among_left f xs ys h)

-- the other names of a list
abbrev without : List ℕ → List (List ℕ) → List (List ℕ)
without m [] = []
without m (n ∷ ns) = cond (bytes_eq n m) (without m ns) (n ∷ without m ns)

all_without : (P : List ℕ → Type 0) (m : List ℕ) (ns : List (List ℕ)) → AllByRecursion P ns → AllByRecursion P (without m ns)
all_without P m [] h = tt
all_without P m (n ∷ ns) h = by (bytes_eq n m) (all_without P m ns h.1)
  where
    by : (b : Bool) → AllByRecursion P (without m ns) → AllByRecursion P (cond b (without m ns) (n ∷ without m ns))
    by true r = r
    by false r = (h.0, r)

different_without : (m : List ℕ) (ns : List (List ℕ)) → AreDifferent ns → AreDifferent (without m ns)
different_without m [] h = tt
different_without m (n ∷ ns) h = by (bytes_eq n m) (different_without m ns h.1)
  where
    by : (b : Bool) → AreDifferent (without m ns) → AreDifferent (cond b (without m ns) (n ∷ without m ns))
    by true r = r
    by false r = (all_without (λ (o : List ℕ). o ≢ n) m ns h.0, r)

same_without : (m : List ℕ) (ns : List (List ℕ)) → AllByRecursion (λ (o : List ℕ). o ≢ m) ns → without m ns ≡ ns
same_without m [] h = refl
same_without m (n ∷ ns) h = by (bytes_eq n m) refl (same_without m ns h.1)
  where
    by : (b : Bool) → bytes_eq n m ≡ b → without m ns ≡ ns → cond b (without m ns) (n ∷ without m ns) ≡ n ∷ ns
    by true e r = absurd (h.0 ((bytes_eq-Decides n m).0 e))
    by false e r = ap (λ (xs : List (List ℕ)). n ∷ xs) r

-- at most one of different names is the same as another
length_without : (m : List ℕ) (ns : List (List ℕ)) → AreDifferent ns → length ns ≤ length (without m ns) + 1
length_without m [] h = omega arith
length_without m (n ∷ ns) h = by (bytes_eq n m) refl (length_without m ns h.1)
  where
    by : (b : Bool) → bytes_eq n m ≡ b → length ns ≤ length (without m ns) + 1 → length (n ∷ ns) ≤ length (cond b (without m ns) (n ∷ without m ns)) + 1
    by true e r =
        let same : n ≡ m = (bytes_eq-Decides n m).0 e in
        let none = ap (length {A = List ℕ}) (same_without m ns (subst (λ (x : List ℕ). AllByRecursion (λ (o : List ℕ). o ≢ x) ns) same h.0)) in
        omega arith
    by false e r = omega arith

among_without : (m : List ℕ) (ms ns : List (List ℕ)) → AllByRecursion (λ (n : List ℕ). Among n (m ∷ ms)) ns → AllByRecursion (λ (n : List ℕ). Among n ms) (without m ns)
among_without m ms [] h = tt
among_without m ms (n ∷ ns) h = by (bytes_eq n m) refl (among_without m ms ns h.1)
  where
    rest : bytes_eq n m ≡ false → Among n (m ∷ ms) → Among n ms
    rest e (inl same) = absurd (true≢false (sym ((bytes_eq-Decides n m).1 (sym same)) ∙ e))
    rest e (inr there) = there

    by : (b : Bool) → bytes_eq n m ≡ b → AllByRecursion (λ (x : List ℕ). Among x ms) (without m ns) → AllByRecursion (λ (x : List ℕ). Among x ms) (cond b (without m ns) (n ∷ without m ns))
    by true e r = r
    by false e r = (rest e h.0, r)

-- different names that all stand in a list are no more than it has
pub different_fit : (ms ns : List (List ℕ)) → AreDifferent ns → AllByRecursion (λ (n : List ℕ). Among n ms) ns → length ns ≤ length ms
different_fit [] [] d h = omega arith
different_fit [] (n ∷ ns) d h = absurd h.0
different_fit (m ∷ ms) ns d h =
    let rest = different_fit ms (without m ns) (different_without m ns d) (among_without m ms ns h) in
    let one = length_without m ns d in
    omega arith

basic_among : (ms : List NamedMethod) (f : List ℕ) → option_map Basic (method_among ms f) ≢ None → Among f (method_names ms)
basic_among [] f h = absurd (h refl)
basic_among (m ∷ ms) f h = by (bytes_eq m.name f) refl h (basic_among ms f)
  where
    by : (b : Bool) → bytes_eq m.name f ≡ b → option_map Basic (cond b (Some m.method) (method_among ms f)) ≢ None → (option_map Basic (method_among ms f) ≢ None → Among f (method_names ms))
        → (m.name ≡ f) ⊎ Among f (method_names ms)
    by true e k more = inl ((bytes_eq-Decides m.name f).0 e)
    by false e k more = inr (more k)

-- the first method of a name, where the classes above have none, is new
new_there : (p : List Class) (above : List ClassId) (own : List Feature) (k j : ℕ) (fs : List Feature) (f : List ℕ) → first_method k fs f ≡ Some j → first_method 0 own f ≡ Some j
    → implementation p above f ≡ None → Among f (new_among p above own k fs)
new_there p above own k j [] f h first none = absurd (cc)
new_there p above own k j (Attribute a ∷ fs) f h first none = new_there p above own (k + 1) j fs f h first none
new_there p above own k j (Method m ∷ fs) f h first none = by (bytes_eq m.name f) refl h (λ e. new_there p above own (k + 1) j fs f e first none)
  where
    here : (b : Bool) → b ≡ true → m.name ≡ f → Among f (cond b (m.name ∷ []) [] ++ new_among p above own (k + 1) fs)
    here true e same = inl same
    here false e same = absurd (true≢false (sym e))

    new : m.name ≡ f → k ≡ j → is_new p above own k m.name ≡ true
    new same place =
        ap (λ (n : List ℕ). is_index k (first_method 0 own n) && is_none (implementation p above n)) same
        ∙ ap (λ (o : Option ℕ). is_index k o && is_none (implementation p above f)) first
        ∙ ap (λ (o : Option MethodRef). nat_eq j k && is_none o) none
        ∙ ap (λ (b : Bool). b && true) (eq-eqb j k (sym place))

    by : (b : Bool) → bytes_eq m.name f ≡ b → cond b (Some k) (first_method (k + 1) fs f) ≡ Some j → (first_method (k + 1) fs f ≡ Some j → Among f (new_among p above own (k + 1) fs))
        → Among f (new_name p above own k (Method m) ++ new_among p above own (k + 1) fs)
    by true e t more =
        let same : m.name ≡ f = (bytes_eq-Decides m.name f).0 e in
        let place : k ≡ j = cc in
        here (is_new p above own k m.name) (new same place) same
    by false e t more = among_right f (new_name p above own k (Method m)) (new_among p above own (k + 1) fs) (more t)

user_new : (p : List Class) (above : List ClassId) (c : ClassId) (f : List ℕ) (o : Option ℕ) → first_method 0 (features_of p c) f ≡ o → user_method c o ≢ None → implementation p above f ≡ None
    → Among f (new_among p above (features_of p c) 0 (features_of p c))
user_new p above c f None e h none = absurd (h refl)
user_new p above c f (Some j) e h none = new_there p above (features_of p c) 0 j (features_of p c) f e e none

own_new : (p : List Class) (above : List ClassId) (c : ClassId) (f : List ℕ) → own_method p c f ≢ None → implementation p above f ≡ None → Among f (new_methods p above c)
own_new p above c f h none = by (nat_lt c.0 5) h
  where
    by : (b : Bool) → cond b (option_map Basic (method_among (basic_methods c.0) f)) (user_method c (first_method 0 (features_of p c) f)) ≢ None
        → Among f (cond b (method_names (basic_methods c.0)) (new_among p above (features_of p c) 0 (features_of p c)))
    by true k = basic_among (basic_methods c.0) f k
    by false k = user_new p above c f (first_method 0 (features_of p c) f) refl k none

-- a name that the classes of a chain have a method of is among those of the chain
pub methods_named : (p : List Class) (ds : List ClassId) (f : List ℕ) → IsImplemented p ds f → Among f (methods_of p ds)
methods_named p [] f h = absurd (h refl)
methods_named p (d ∷ ds) f h = by (implementation p ds f) refl (methods_named p ds f)
  where
    by : (o : Option MethodRef) → implementation p ds f ≡ o → (IsImplemented p ds f → Among f (methods_of p ds)) → Among f (new_methods p ds d ++ methods_of p ds)
    by (Some m) e more = among_right f (new_methods p ds d) (methods_of p ds) (more (λ none. absurd (cc)))
    by None e more = among_left f (new_methods p ds d) (methods_of p ds) (own_new p ds d f (λ none. h (ap (λ (o : Option MethodRef). first_of o (implementation p ds f)) none ∙ e)) e)

all_named : (p : List Class) (ds : List ClassId) (names : List (List ℕ)) → AllByRecursion (IsImplemented p ds) names → AllByRecursion (λ (n : List ℕ). Among n (methods_of p ds)) names
all_named p ds [] h = tt
all_named p ds (n ∷ names) h = (methods_named p ds n h.0, all_named p ds names h.1)

-- different names that the classes of a chain have methods of are no more than the names of the chain
pub names_fit : (p : List Class) (ds : List ClassId) (names : List (List ℕ)) → AreDifferent names → AllByRecursion (IsImplemented p ds) names → length names ≤ length (methods_of p ds)
names_fit p ds names different h = different_fit (methods_of p ds) names different (all_named p ds names h)
