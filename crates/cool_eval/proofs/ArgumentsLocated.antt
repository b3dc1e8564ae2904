-- When the body of a method begins, each formal parameter is a variable at a new store location that holds its argument.
use Rattle.std.proofs.Common.{◌≡◌, ℕ, zero, suc, ◌+◌, ◌-◌, ◌<◌, ◌≤◌, min, List, [], ◌∷◌, ◌++◌, length, drop, get_or, Option, Some, None, ap, sym, ◌∙◌, refl, arith}
use Rattle.cool_syntax.specs.Tree.{Tree}
use Rattle.cool_syntax.specs.declared.file_tree.Formal.{Formal}
use Rattle.cool_syntax.specs.declared.file_tree.MethodDef.{MethodDef}
use Rattle.cool_classes.specs.Chains.{Class}
use Rattle.cool_meaning.specs.Values.{Value, State, Environment}
use Rattle.cool_meaning.specs.Meters.{Outcome, Stuck}
use Rattle.cool_meaning.specs.Lookups.{located, formal_names, environment_of}
use Rattle.cool_eval.specs.declared.scene.Local.{Local}
use Rattle.cool_eval.specs.declared.scene.Scene.{Scene}
use Rattle.cool_eval.specs.declared.store.Store.{Store}
use Rattle.cool_eval.specs.Values.{value_of, locations_from}
use Rattle.cool_eval.specs.Configurations.{env_of, locals_of}
use Rattle.cool_eval.specs.Devices.{state_at}
use Rattle.cool_eval.specs.StackMachine.{Frame, Begin, Continue, Halt, begin_body, begin_method}
use Rattle.cool_eval.proofs.LocalsAtEnd.{locals_more}
use Rattle.cool_eval.proofs.NewLocations.{located_all}
use Rattle.lists.proofs.ItemsLeft.{drop_first}

-- the variables of the formals from one on, at locations from the first on
unfoldable pub located_from : List Formal → ℕ → ℕ → ℕ → Environment
located_from fs first count k = located (formal_names (drop k fs)) (locations_from (first + k) (count - k))

-- names without locations
nowhere_located : (fs : List Formal) → located (formal_names fs) [] ≡ []
nowhere_located [] = refl
nowhere_located (f ∷ fs) = refl

-- after the last formal or the last argument there is none
past_formals : (fs : List Formal) (k : ℕ) (ls : List ℕ) → length fs ≤ k → located (formal_names (drop k fs)) ls ≡ []
past_formals [] zero ls past = refl
past_formals [] (suc k) ls past = refl
past_formals (f ∷ fs) zero ls past = absurd (omega arith)
past_formals (f ∷ fs) (suc k) ls past = past_formals fs k ls (omega arith)

pub none_from : (fs : List Formal) (first count k : ℕ) → k ≡ min (length fs) count → located_from fs first count k ≡ []
unfolding located_from
none_from fs first count k is = by (length fs - k) refl
  where
    by : (d : ℕ) → length fs - k ≡ d → located (formal_names (drop k fs)) (locations_from (first + k) (count - k)) ≡ []
    by zero e = past_formals fs k (locations_from (first + k) (count - k)) (omega arith)
    by (suc d) e =
        let none : count - k ≡ 0 = omega arith in
        ap (λ (n : ℕ). located (formal_names (drop k fs)) (locations_from (first + k) n)) none ∙ nowhere_located (drop k fs)

-- all of them
pub all_from : (fs : List Formal) (first count : ℕ) → located_from fs first count 0 ≡ located (formal_names fs) (locations_from first count)
unfolding located_from
all_from fs first count =
    let here : first + 0 ≡ first = omega arith in
    let whole : count - 0 ≡ count = omega arith in
    ap (λ (l : ℕ). located (formal_names fs) (locations_from l (count - 0))) here ∙ ap (λ (n : ℕ). located (formal_names fs) (locations_from first n)) whole

-- one more at the front
pub one_from : (fs : List Formal) (first count k : ℕ) (f : Formal) → k < length fs → k < count → f ≡ get_or fs k f
    → located_from fs first count k ≡ record { name = f.name; location = first + k } ∷ located_from fs first count (suc k)
unfolding located_from
one_from fs first count k f less below is =
    let rest : count - k ≡ suc (count - suc k) = omega arith in
    let next : suc (first + k) ≡ first + suc k = omega arith in
    ap (λ (gs : List Formal). located (formal_names gs) (locations_from (first + k) (count - k))) (drop_first fs k f less is)
    ∙ ap (λ (n : ℕ). located (formal_names (f ∷ drop (suc k) fs)) (locations_from (first + k) n)) rest
    ∙ ap (λ (l : ℕ). record { name = f.name; location = first + k } ∷ located (formal_names (drop (suc k) fs)) (locations_from l (count - suc k))) next

-- one more variable
pub argument_added : (fs : List Formal) (first count index k : ℕ) (ls ls' : List Local) (l : Local) (f : Formal) → ls' ≡ ls ++ l ∷ [] → l.name.now ≡ f.name → l.location ≡ first + k
    → index ≡ suc k → k < length fs → k < count → f ≡ get_or fs k f → locals_of ls ≡ located_from fs first count index → locals_of ls' ≡ located_from fs first count k
argument_added fs first count index k ls ls' l f added name place next less below is so_far =
    ap locals_of added ∙ locals_more ls l
    ∙ ap (λ (x : List ℕ). record { name = x; location = l.location } ∷ locals_of ls) name
    ∙ ap (λ (x : ℕ). record { name = f.name; location = x } ∷ locals_of ls) place
    ∙ ap (λ (env : Environment). record { name = f.name; location = first + k } ∷ env) (so_far ∙ ap (located_from fs first count) next)
    ∙ sym (one_from fs first count k f less below is)

-- if there is no such method, none is begun
pub no_method : (p : List Class) (v : Value) (vs : List Value) (o : Option MethodDef) (fs : List Frame) (s : State) (n : ℕ) → None ≡ o → begin_method p v vs o fs s n ≡ Halt Stuck
unfolding begin_method
no_method p v vs o fs s n none = ap (λ (m : Option MethodDef). begin_method p v vs m fs s n) (sym none)

-- the state of a store with values at new locations
pub state_located : (old new : Store) (vs : List Value) (input output : List ℕ) → new.values ≡ old.values ++ vs → new.drawn ≡ old.drawn
    → state_at new input output ≡ record (state_at old input output) { store = old.values ++ vs }
state_located old new vs input output more drawn = λ i. record { store = more i; input = input; output = output; drawn = drawn i }

-- a method is begun with its arguments at new locations
pub method_begins : (p : List Class) (v : Value) (vs : List Value) (o : Option MethodDef) (m : MethodDef) (part : Tree) (scene : Scene) (fs : List Frame) (s t : State) (n : ℕ)
    → Some m ≡ o → value_of scene.me ≡ v → locals_of scene.locals.items ≡ located (formal_names m.formals) (locations_from (length s.store) (length vs)) → part ≡ m.body → t ≡ record s { store = s.store ++ vs }
    → begin_method p v vs o fs s n ≡ Continue (Begin (value_of scene.me) (env_of p scene) part) fs t n
unfolding begin_method begin_body
method_begins p v vs o m part scene fs s t n is me locals body state =
    ap (λ (q : Option MethodDef). begin_method p v vs q fs s n) (sym is)
    ∙ ap (λ (r : Outcome (List ℕ)). begin_body p v m r fs) (located_all vs s n)
    ∙ ap (λ (env : Environment). Continue (Begin v (env ++ environment_of p v) m.body) fs (record s { store = s.store ++ vs }) n) (sym locals)
    ∙ ap (λ (w : Value). Continue (Begin w (locals_of scene.locals.items ++ environment_of p w) m.body) fs (record s { store = s.store ++ vs }) n) (sym me)
    ∙ ap (λ (e : Tree). Continue (Begin (value_of scene.me) (env_of p scene) e) fs (record s { store = s.store ++ vs }) n) (sym body)
    ∙ ap (λ (u : State). Continue (Begin (value_of scene.me) (env_of p scene) part) fs u n) (sym state)
