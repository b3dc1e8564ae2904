-- The methods that an explanation lists for a class are collected from the class and its ancestors, one class after another, and in a class one name after
-- another.
use Rattle.std.proofs.Common.{◌≡◌, ℕ, suc, zero, ◌<◌, ◌≤◌, List, [], ◌∷◌, ◌++◌, length, get_or, Bool, true, false, Option, Some, None, refl, ap, sym, ◌∙◌, append_assoc, arith}
use Rattle.std.specs.Prelude.{bytes_eq, nat_lt, not, ◌&&◌, ◌||◌, option_map, if◌then◌else◌}
use Rattle.std.specs.List.{flat_map, list_any}
use Rattle.std.specs.Global.{Vec}
use Rattle.std.proofs.lemmas.Bool.{le-ltb, lt-ltb}
use Rattle.std.proofs.lemmas.List.{get_or_past, length-map, map_push}
use Rattle.cool_syntax.specs.declared.file_tree.Feature.{Feature}
use Rattle.cool_syntax.specs.declared.file_tree.Feature.TheVariants.{Method, Attribute}
use Rattle.cool_classes.specs.declared.class_id.ClassId.{ClassId}
use Rattle.cool_classes.specs.declared.method.MethodRef.{MethodRef}
use Rattle.cool_classes.specs.declared.method.MethodRef.TheVariants.{Basic}
use Rattle.cool_classes.specs.Chains.{Class, features_of, nothing, parent_of}
use Rattle.cool_classes.specs.ClimbedChains.{above, chain, climbed}
use Rattle.cool_classes.specs.Features.{basic_methods, first_method, first_of, implementation, method_among, own_method, user_method}
use Rattle.cool_classes.specs.LawfulTables.{method_names}
use Rattle.cool_classes.specs.MethodNames.{method_names as basic_names}
use Rattle.cool_classes.specs.Tables.{IsTable}
use Rattle.cool_classes.proofs.BasicLimits.{five_classes}
use Rattle.cool_rules.specs.Rules.{method_of}
use Rattle.cool_faults.specs.Files.{bytes_of}
use Rattle.cool_mend.specs.declared.types.TheConstants.{MOST_METHODS}
use Rattle.cool_mend.specs.Told.{all_methods, own_names, with_found, with_methods, with_text}

-- Names after names

pub with_more : (p : List Class) (c : ClassId) (all : List (List ℕ)) (names more : List (List ℕ)) → with_methods p c (with_methods p c all names) more ≡ with_methods p c all (names ++ more)
with_more p c all [] more = refl
with_more p c all (name ∷ names) more = with_more p c (with_found p name all (method_of p c name)) names more

-- the name of one more feature, where that is a method
names_more : (f : Feature) (fs : List Feature) → method_names (f ∷ []) ++ method_names fs ≡ method_names (f ∷ fs)
names_more (Method m) fs = refl
names_more (Attribute a) fs = refl

-- one more feature has been passed
pub feature_passed : (p : List Class) (c : ClassId) (before all new due : List (List ℕ)) (f : Feature) (fs : List Feature) (basic : List (List ℕ))
    → with_methods p c all (method_names (f ∷ fs) ++ basic) ≡ due → new ≡ with_methods p c all (method_names (f ∷ [])) → with_methods p c new (method_names fs ++ basic) ≡ due
feature_passed p c before all new due f fs basic so_far added =
    ap (λ (l : List (List ℕ)). with_methods p c l (method_names fs ++ basic)) added
    ∙ with_more p c all (method_names (f ∷ [])) (method_names fs ++ basic)
    ∙ ap (with_methods p c all) (sym (append_assoc (method_names (f ∷ [])) (method_names fs) basic) ∙ ap (λ (l : List (List ℕ)). l ++ basic) (names_more f fs))
    ∙ so_far

-- The chain

-- a class and those above it
pub chain_climbed : (p : List Class) (c : ClassId) → chain p c ≡ climbed (suc (length p)) p (Some c)
unfolding chain above climbed
chain_climbed p c = refl

-- no class, or no more classes
pub climbed_nowhere : (n : ℕ) (p : List Class) → climbed n p None ≡ []
unfolding climbed
climbed_nowhere zero p = refl
climbed_nowhere (suc n) p = refl

-- one more class
pub climbed_next : (n m : ℕ) (p : List Class) (c : ClassId) → n ≡ suc m → climbed n p (Some c) ≡ c ∷ climbed m p (parent_of p c)
unfolding climbed
climbed_next n m p c is = ap (λ (k : ℕ). climbed k p (Some c)) is

climbed_end : (n : ℕ) (p : List Class) (o : Option ClassId) → n ≡ 0 → climbed n p o ≡ []
unfolding climbed
climbed_end n p o none = ap (λ (k : ℕ). climbed k p o) none

-- no class has been passed
pub none_passed : (p : List Class) (c : ClassId) (all : List (List ℕ)) (n : ℕ) → all ≡ [] → n ≡ suc (length p) → with_methods p c all (flat_map (own_names p) (climbed n p (Some c))) ≡ all_methods p c
none_passed p c all n none is =
    ap (λ (l : List (List ℕ)). with_methods p c l (flat_map (own_names p) (climbed n p (Some c)))) none
    ∙ ap (λ (k : ℕ). with_methods p c [] (flat_map (own_names p) (climbed k p (Some c)))) is
    ∙ ap (λ (ds : List ClassId). with_methods p c [] (flat_map (own_names p) ds)) (sym (chain_climbed p c))

-- one more class has been passed
pub class_passed : (p : List Class) (c : ClassId) (all new due : List (List ℕ)) (n m : ℕ) (o next : Option ClassId) (here : ClassId)
    → o ≡ Some here → n ≡ suc m → next ≡ parent_of p here → new ≡ with_methods p c all (own_names p here)
    → with_methods p c all (flat_map (own_names p) (climbed n p o)) ≡ due → with_methods p c new (flat_map (own_names p) (climbed m p next)) ≡ due
class_passed p c all new due n m o next here is more up added so_far =
    ap (λ (l : List (List ℕ)). with_methods p c l (flat_map (own_names p) (climbed m p next))) added
    ∙ with_more p c all (own_names p here) (flat_map (own_names p) (climbed m p next))
    ∙ ap (λ (q : Option ClassId). with_methods p c all (own_names p here ++ flat_map (own_names p) (climbed m p q))) up
    ∙ sym (ap (λ (ds : List ClassId). with_methods p c all (flat_map (own_names p) ds)) (climbed_next n m p here more))
    ∙ sym (ap (λ (q : Option ClassId). with_methods p c all (flat_map (own_names p) (climbed n p q))) is)
    ∙ so_far

-- all classes have been passed
pub at_top : (p : List Class) (c : ClassId) (all due : List (List ℕ)) (n : ℕ) (o : Option ClassId) → o ≡ None → with_methods p c all (flat_map (own_names p) (climbed n p o)) ≡ due → all ≡ due
at_top p c all due n o none so_far =
    sym (ap (λ (q : Option ClassId). with_methods p c all (flat_map (own_names p) (climbed n p q))) none
    ∙ ap (λ (ds : List ClassId). with_methods p c all (flat_map (own_names p) ds)) (climbed_nowhere n p))
    ∙ so_far

pub at_end : (p : List Class) (c : ClassId) (all due : List (List ℕ)) (n : ℕ) (o : Option ClassId) → n ≡ 0 → with_methods p c all (flat_map (own_names p) (climbed n p o)) ≡ due → all ≡ due
at_end p c all due n o none so_far = sym (ap (λ (ds : List ClassId). with_methods p c all (flat_map (own_names p) ds)) (climbed_end n p o none)) ∙ so_far

-- A number that no class of the table has

outside : (p : List Class) (c : ClassId) → length p ≤ c.0 → get_or p c.0 nothing ≡ nothing
outside p c past = get_or_past p c.0 nothing past

alone : (p : List Class) (c : ClassId) → length p ≤ c.0 → chain p c ≡ c ∷ []
unfolding chain above
alone p c past = ap (λ (l : List ClassId). c ∷ l) (ap (λ (x : Class). climbed (length p) p x.parent) (outside p c past) ∙ climbed_nowhere (length p) p)

pub method_outside : (p : List Class) (c : ClassId) (name : List ℕ) → IsTable p → length p ≤ c.0 → method_of p c name ≡ None
unfolding method_of
method_outside p c name table past =
    let many = five_classes p table in
    let own : own_method p c name ≡ None =
    ap (λ (b : Bool). if b then option_map Basic (method_among (basic_methods c.0) name) else user_method c (first_method 0 (features_of p c) name)) (le-ltb c.0 5 (omega arith))
    ∙ ap (λ (x : Class). user_method c (first_method 0 x.features name)) (outside p c past) in
    ap (λ (ds : List ClassId). implementation p ds name) (alone p c past) ∙ ap (λ (o : Option MethodRef). first_of o None) own

no_basic : (n : ℕ) → 5 ≤ n → basic_names (basic_methods n) ≡ []
no_basic zero many = absurd (omega (arith, many))
no_basic (suc zero) many = absurd (omega (arith, many))
no_basic (suc (suc zero)) many = refl
no_basic (suc (suc (suc zero))) many = refl
no_basic (suc (suc (suc (suc zero)))) many = absurd (omega (arith, many))
no_basic (suc (suc (suc (suc (suc n))))) many = refl

pub none_outside : (p : List Class) (c : ClassId) → IsTable p → length p ≤ c.0 → all_methods p c ≡ []
none_outside p c table past =
    let many = five_classes p table in
    let none : own_names p c ≡ [] = ap (λ (x : Class). method_names x.features ++ basic_names (basic_methods c.0)) (outside p c past) ∙ no_basic c.0 (omega arith) in
    ap (λ (ds : List ClassId). with_methods p c [] (flat_map (own_names p) ds)) (alone p c past)
    ∙ ap (λ (l : List (List ℕ)). with_methods p c [] (l ++ [])) none

-- Texts

pub any_of_bytes : (all : List (Vec ℕ)) (text : List ℕ) → list_any (λ other. bytes_eq other.items text) all ≡ list_any (λ other. bytes_eq other text) (bytes_of all)
any_of_bytes [] text = refl
any_of_bytes (x ∷ all) text = ap (λ (b : Bool). bytes_eq x.items text || b) (any_of_bytes all text)

-- a text that is not there is added
put : {X : Type 0} (a b : Bool) (x y : X) → a ≡ true → b ≡ false → (if a && not b then x else y) ≡ x
put a b x y few other = ap (λ (p : Bool). if p && not b then x else y) few ∙ ap (λ (q : Bool). if true && not q then x else y) other

pub text_added : (all new : List (Vec ℕ)) (text : Vec ℕ) → length all < MOST_METHODS → list_any (λ other. bytes_eq other.items text.items) all ≡ false → new ≡ all ++ text ∷ []
    → bytes_of new ≡ with_text (bytes_of all) text.items
text_added all new text few other is =
    ap bytes_of is ∙ map_push (λ (v : Vec ℕ). v.items) all text
    ∙ sym (put (nat_lt (length (bytes_of all)) MOST_METHODS) (list_any (λ other. bytes_eq other text.items) (bytes_of all)) (bytes_of all ++ text.items ∷ []) (bytes_of all)
    (lt-ltb (length (bytes_of all)) MOST_METHODS (omega (arith, few, length-map all (λ (v : Vec ℕ). v.items)))) (sym (any_of_bytes all text.items) ∙ other))

-- no text is added to so many
pub text_over : (all : List (Vec ℕ)) (text : List ℕ) → MOST_METHODS ≤ length all → bytes_of all ≡ with_text (bytes_of all) text
text_over all text many =
    sym (ap (λ (p : Bool). if p && not (list_any (λ other. bytes_eq other text) (bytes_of all)) then bytes_of all ++ text ∷ [] else bytes_of all)
    (le-ltb (length (bytes_of all)) MOST_METHODS (omega (arith, many, length-map all (λ (v : Vec ℕ). v.items)))))

-- no text that is there is added
kept : {X : Type 0} (a : Bool) (x y : X) → (if a && not true then x else y) ≡ y
kept true x y = refl
kept false x y = refl

pub text_there : (all : List (Vec ℕ)) (text : List ℕ) → list_any (λ other. bytes_eq other.items text) all ≡ true → bytes_of all ≡ with_text (bytes_of all) text
text_there all text there =
    sym (ap (λ (q : Bool). if nat_lt (length (bytes_of all)) MOST_METHODS && not q then bytes_of all ++ text ∷ [] else bytes_of all) (sym (any_of_bytes all text) ∙ there)
    ∙ kept (nat_lt (length (bytes_of all)) MOST_METHODS) (bytes_of all ++ text ∷ []) (bytes_of all))
