-- Lemmas on `class_called` and `call_class` of StackMachine.antt, which look up the class and the method of a call, also if the receiver is void or no step is
-- left.
use Rattle.std.proofs.Common.{◌≡◌, ℕ, suc, ◌<◌, ◌≤◌, ◌+◌, List, [], ◌∷◌, length, get_or, Option, Some, None, Bool, ap, sym, ◌∙◌, refl, arith}
use Rattle.std.specs.Prelude.{option_map, if◌then◌else◌}
use Rattle.std.proofs.lemmas.List.{get_or_past}
use Rattle.std.proofs.lemmas.Bool.{le-ltb}
use Rattle.cool_syntax.specs.declared.place.Place.{Place}
use Rattle.cool_classes.specs.declared.class_id.ClassId.{ClassId}
use Rattle.cool_classes.specs.declared.method.MethodRef.{MethodRef}
use Rattle.cool_classes.specs.declared.method.MethodRef.TheVariants.{Basic, User}
use Rattle.cool_classes.specs.Chains.{Class, nothing, parent_of, features_of, IsChain}
use Rattle.cool_classes.specs.ClimbedChains.{climbed, above, chain}
use Rattle.cool_classes.specs.Features.{basic_methods, method_among, first_method, user_method, own_method, first_of, implementation}
use Rattle.cool_classes.specs.Tables.{IsTable, IsNamed}
use Rattle.cool_classes.proofs.ChainsOfTables.{chain_is}
use Rattle.cool_rules.specs.Rules.{class_named}
use Rattle.cool_meaning.specs.Values.{Value, Void, State, class_of}
use Rattle.cool_meaning.specs.Meters.{Outcome, Val, Stop, On, Stuck, DispatchVoid, given}
use Rattle.cool_meaning.specs.Lookups.{method_at}
use Rattle.cool_eval.specs.StackMachine.{Frame, Halt, begin_call, begin_method, call_class, class_called}
use Rattle.cool_eval.proofs.ClassesByName.{named_is}
use Rattle.cool_eval.proofs.AttributesInTables.{climbed_none}
use Rattle.cool_classes.proofs.BasicLimits.{five_classes}

-- The class in which a method is looked up

-- void has none
pub void_called : (p : List Class) (at : Place) (class : Option (List ℕ)) (name : List ℕ) (v : Value) (vs : List Value) (fs : List Frame) (s : State) (n : ℕ) → class_of v ≡ None
    → call_class p at name v vs (class_called p at class v s n).outcome fs ≡ Halt (Stop (DispatchVoid at) s)
unfolding call_class
void_called p at None name Void vs fs s n none = refl
void_called p at (Some class) name Void vs fs s n none = refl
void_called p at class name _ vs fs s n none = absurd cc

-- the receiver's
pub own_called : (p : List Class) (at : Place) (v : Value) (s : State) (n : ℕ) (own : ClassId) → class_of v ≡ Some own → (class_called p at None v s n).outcome ≡ (given (Some own) s n).outcome
own_called p at Void s n own is = absurd cc
own_called p at _ s n own is = ap (λ (o : Option ClassId). (given o s n).outcome) is

-- the one that the source names
named_by : (p : List Class) (at : Place) (name : List ℕ) (v : Value) (s : State) (n : ℕ) (own : ClassId) → class_of v ≡ Some own → (class_called p at (Some name) v s n).outcome ≡ (given (class_named p name) s n).outcome
named_by p at name Void s n own is = absurd cc
named_by p at name _ s n own is = refl

pub named_called : (p : List Class) → IsTable p → (at : Place) (name : List ℕ) (v : Value) (s : State) (n : ℕ) (own : ClassId) (r : Option ClassId) → IsNamed p name r → class_of v ≡ Some own
    → (class_called p at (Some name) v s n).outcome ≡ (given r s n).outcome
named_called p table at name v s n own r named is =
    named_by p at name v s n own is ∙ ap (λ (o : Option ClassId). (given o s n).outcome) (sym (named_is p name r table named))

-- no class was found
pub unfound_called : (p : List Class) (at : Place) (name : List ℕ) (v : Value) (vs : List Value) (s : State) (n : ℕ) (o : Outcome ClassId) (fs : List Frame) → o ≡ Stuck → call_class p at name v vs o fs ≡ Halt Stuck
unfolding call_class
unfound_called p at name v vs s n o fs is = ap (λ (r : Outcome ClassId). call_class p at name v vs r fs) is

-- no step was left
pub limit_called : (p : List Class) (at : Place) (name : List ℕ) (v : Value) (vs : List Value) (s : State) (n : ℕ) (c : ClassId) (o : Outcome ClassId) (fs : List Frame) → o ≡ Val c s n → n ≡ 0
    → call_class p at name v vs o fs ≡ Halt (On s)
unfolding call_class
limit_called p at name v vs s n c o fs is none =
    ap (λ (r : Outcome ClassId). call_class p at name v vs r fs) is ∙ ap (λ (k : ℕ). call_class p at name v vs (Val c s k) fs) none

-- a step was spent
pub class_called_on : (p : List Class) (at : Place) (name : List ℕ) (v : Value) (vs : List Value) (s : State) (n left : ℕ) (c : ClassId) (o : Outcome ClassId) (fs : List Frame) → o ≡ Val c s n → n ≡ left + 1
    → call_class p at name v vs o fs ≡ begin_call p at v vs (implementation p (chain p c) name) fs s left
unfolding call_class
class_called_on p at name v vs s n left c o fs is more =
    let one_more : n ≡ suc left = omega arith in
    ap (λ (r : Outcome ClassId). call_class p at name v vs r fs) is ∙ ap (λ (k : ℕ). call_class p at name v vs (Val c s k) fs) one_more

-- The method

-- a class that is none of the table has no method
pub method_outside : (p : List Class) (c : ClassId) (name : List ℕ) → IsTable p → length p ≤ c.0 → None ≡ implementation p (chain p c) name
unfolding chain above
method_outside p c name table past =
    let is : get_or p c.0 nothing ≡ nothing = get_or_past p c.0 nothing past in
    let none : climbed (length p) p (parent_of p c) ≡ [] = ap (λ (x : Class). climbed (length p) p x.parent) is ∙ climbed_none (length p) p in
    let many = five_classes p table in
    let own : own_method p c name ≡ None =
    ap (λ (b : Bool). if b then option_map Basic (method_among (basic_methods c.0) name) else user_method c (first_method 0 (features_of p c) name)) (le-ltb c.0 5 (omega arith))
    ∙ ap (λ (x : Class). user_method c (first_method 0 x.features name)) is in
    sym (ap (λ (ds : List ClassId). implementation p (c ∷ ds) name) none ∙ ap (λ (o : Option MethodRef). first_of o None) own)

pub method_inside : (p : List Class) (c : ClassId) (name : List ℕ) (found : Option MethodRef) → IsTable p → c.0 < length p → ((ds : List ClassId) → IsChain p (Some c) ds → found ≡ implementation p ds name)
    → found ≡ implementation p (chain p c) name
method_inside p c name found table within nearest = nearest (chain p c) (chain_is p c table within)

-- The beginning of the call

pub none_begun : (p : List Class) (at : Place) (v : Value) (vs : List Value) (o : Option MethodRef) (fs : List Frame) (s : State) (n : ℕ) → None ≡ o → begin_call p at v vs o fs s n ≡ Halt Stuck
unfolding begin_call
none_begun p at v vs o fs s n is = ap (λ (r : Option MethodRef). begin_call p at v vs r fs s n) (sym is)

pub user_begun : (p : List Class) (at : Place) (v : Value) (vs : List Value) (o : Option MethodRef) (owner : ClassId) (k : ℕ) (fs : List Frame) (s : State) (n : ℕ) → Some (User owner k) ≡ o
    → begin_call p at v vs o fs s n ≡ begin_method p v vs (method_at p owner k) fs s n
unfolding begin_call
user_begun p at v vs o owner k fs s n is = ap (λ (r : Option MethodRef). begin_call p at v vs r fs s n) (sym is)
