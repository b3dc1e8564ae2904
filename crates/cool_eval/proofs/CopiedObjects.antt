-- The copy of an object has new store locations, which hold the values at the locations of the original object.
use Rattle.std.proofs.Common.{◌≡◌, ℕ, zero, suc, ◌+◌, List, [], ◌∷◌, ◌++◌, length, map, Option, Some, None, Err, ap, sym, ◌∙◌, refl, arith}
use Rattle.std.proofs.lemmas.List.{length-map}
use Rattle.std.specs.Prelude.{Contains, slice_get}
use Rattle.cool_classes.specs.declared.class_id.ClassId.{ClassId}
use Rattle.cool_classes.specs.Chains.{Class}
use Rattle.cool_meaning.specs.Values as values
use Rattle.cool_meaning.specs.Values.{State, Obj}
use Rattle.cool_meaning.specs.Meters.{Outcome, Val, Stuck, Computation, ◌>>=◌, seq_of, give, given, load}
use Rattle.cool_meaning.specs.BasicMethods.{load_all, locate_all, draw, copy}
use Rattle.cool_eval.specs.declared.value.Value.{Value}
use Rattle.cool_eval.specs.declared.ending.Ending.{Ending}
use Rattle.cool_eval.specs.declared.ending.Ending.TheVariants as ending
use Rattle.cool_eval.specs.declared.store.Store.{Store}
use Rattle.cool_eval.specs.Configurations.{AreLoaded}
use Rattle.cool_eval.specs.Devices.{state_at}
use Rattle.cool_eval.specs.Methods.{Makes}
use Rattle.cool_eval.specs.Values.{value_of, locations_from}
use Rattle.cool_eval.proofs.NewLocations.{located_all}

-- the outcome after a value, and after none
pub after_value : {A B : Type 0} (d : Computation A) (f : A → Computation B) (s : State) (n : ℕ) (v : A) (t : State) (m : ℕ) → (d s n).outcome ≡ Val v t m → ((d >>= f) s n).outcome ≡ (f v t m).outcome
after_value {A} {B} d f s n v t m is = ap (λ (o : Outcome A). (seq_of o (d s n).work (d s n).words (d s n).peak f).outcome) is

pub after_stuck : {A B : Type 0} (d : Computation A) (f : A → Computation B) (s : State) (n : ℕ) → (d s n).outcome ≡ Stuck → ((d >>= f) s n).outcome ≡ Stuck
after_stuck {A} {B} d f s n is = ap (λ (o : Outcome A). (seq_of o (d s n).work (d s n).words (d s n).peak f).outcome) is

-- a location with a value, and one with none
load_some : (l : ℕ) (s : State) (n : ℕ) (v : values.Value) → slice_get s.store l ≡ Some v → (load l s n).outcome ≡ Val v s n
load_some l s n v is = ap (λ (o : Option values.Value). (given o s n).outcome) is

load_none : (l : ℕ) (s : State) (n : ℕ) → slice_get s.store l ≡ None → (load l s n).outcome ≡ Stuck
load_none l s n is = ap (λ (o : Option values.Value). (given o s n).outcome) is

-- the values at locations that have them
pub loaded : (ls : List ℕ) (found : List Value) (s : State) (n : ℕ) → map (slice_get s.store) ls ≡ map (λ v. Some (value_of v)) found → (load_all ls s n).outcome ≡ Val (map value_of found) s n
loaded [] [] s n is = refl
loaded [] (v ∷ found) s n is = absurd cc
loaded (l ∷ ls) [] s n is = absurd cc
loaded (l ∷ ls) (v ∷ found) s n is =
    let here : slice_get s.store l ≡ Some (value_of v) = cc in
    let later : map (slice_get s.store) ls ≡ map (λ v. Some (value_of v)) found = cc in
    after_value (load l) (λ w. load_all ls >>= λ ws. give (w ∷ ws)) s n (value_of v) s n (load_some l s n (value_of v) here)
    ∙ after_value (load_all ls) (λ ws. give (value_of v ∷ ws)) s n (map value_of found) s n (loaded ls found s n later)

-- a location with none is among them
by_first : (l : ℕ) (ls : List ℕ) (s : State) (n : ℕ) (o : Option values.Value) → slice_get s.store l ≡ o → Contains (o ∷ map (slice_get s.store) ls) None → (Contains (map (slice_get s.store) ls) None → (load_all ls s n).outcome ≡ Stuck) → (load_all (l ∷ ls) s n).outcome ≡ Stuck
by_first l ls s n None is none later = after_stuck (load l) (λ w. load_all ls >>= λ ws. give (w ∷ ws)) s n (load_none l s n is)
by_first l ls s n (Some v) is (zero, low, none) later = absurd cc
by_first l ls s n (Some v) is (suc k, low, none) later =
    after_value (load l) (λ w. load_all ls >>= λ ws. give (w ∷ ws)) s n v s n (load_some l s n v is)
    ∙ after_stuck (load_all ls) (λ ws. give (v ∷ ws)) s n (later (k, omega arith, none))

pub not_loaded : (ls : List ℕ) (s : State) (n : ℕ) → Contains (map (slice_get s.store) ls) None → (load_all ls s n).outcome ≡ Stuck
not_loaded [] s n (k, low, none) = absurd (omega arith)
not_loaded (l ∷ ls) s n none = by_first l ls s n (slice_get s.store l) refl none (not_loaded ls s n)

-- the number of consecutive locations
length-locations : (first count : ℕ) → length (locations_from first count) ≡ count
length-locations first zero = refl
length-locations first (suc n) = ap suc (length-locations (suc first) n)

pub count_loaded : (vs : List values.Value) (first count : ℕ) (found : List Value) → map (slice_get vs) (locations_from first count) ≡ map (λ v. Some (value_of v)) found → length found ≡ count
count_loaded vs first count found is =
    sym (length-map found (λ v. Some (value_of v))) ∙ ap length (sym is) ∙ length-map (locations_from first count) (slice_get vs) ∙ length-locations first count

-- the copy of an object whose locations have values, and of one that has a location with none
pub copied_object : (p : List Class) (c : ClassId) (i : ℕ) (ls : List ℕ) (found : List Value) (s : State) (n : ℕ) → map (slice_get s.store) ls ≡ map (λ v. Some (value_of v)) found
    → (copy p (Obj c i ls) s n).outcome ≡ Val (Obj c s.drawn (locations_from (length s.store) (length found))) (record s { store = s.store ++ map value_of found; drawn = s.drawn + 1 }) n
copied_object p c i ls found s n is =
    let copied = map value_of found in
    let next : State = record s { store = s.store ++ copied } in
    let make : List ℕ → Computation values.Value = λ ks. draw >>= λ j. give (Obj c j ks) in
    after_value (load_all ls) (λ vs. locate_all vs >>= make) s n copied s n (loaded ls found s n is)
    ∙ after_value (locate_all copied) make s n (locations_from (length s.store) (length copied)) next n (located_all copied s n)
    ∙ ap (λ (k : ℕ). Val (Obj c s.drawn (locations_from (length s.store) k)) (record s { store = s.store ++ copied; drawn = s.drawn + 1 }) n) (length-map found value_of)

pub copied_none : (p : List Class) (c : ClassId) (i : ℕ) (ls : List ℕ) (s : State) (n : ℕ) → Contains (map (slice_get s.store) ls) None → (copy p (Obj c i ls) s n).outcome ≡ Stuck
copied_none p c i ls s n none = after_stuck (load_all ls) (λ vs. locate_all vs >>= λ ks. draw >>= λ j. give (Obj c j ks)) s n (not_loaded ls s n none)

-- an object whose values were not taken
pub copy_failed : (e : Ending) (p : List Class) (c : ClassId) (i : ℕ) (ls : List ℕ) (store : Store) (input output : List ℕ) (n : ℕ) → AreLoaded {A = Unit {0}} store.values ls (Err e) → Makes (Err e) store input output n (copy p (Obj c i ls) (state_at store input output) n).outcome
copy_failed ending.Stuck p c i ls store input output n none = copied_none p c i ls (state_at store input output) n none
copy_failed ending.Memory p c i ls store input output n none = tt
copy_failed (ending.Error e) p c i ls store input output n none = absurd none
copy_failed ending.StepLimit p c i ls store input output n none = absurd none
copy_failed ending.ReadFault p c i ls store input output n none = absurd none
copy_failed ending.WriteFault p c i ls store input output n none = absurd none

-- the copy with the store after it
pub copy_made : (p : List Class) (c : ClassId) (i first count : ℕ) (found : List Value) (old new : Store) (input output : List ℕ) (n first' j : ℕ) → map (slice_get old.values) (locations_from first count) ≡ map (λ v. Some (value_of v)) found
    → first' ≡ length old.values → j ≡ old.drawn → new.values ≡ old.values ++ map value_of found → new.drawn ≡ old.drawn + 1
    → (copy p (Obj c i (locations_from first count)) (state_at old input output) n).outcome ≡ Val (Obj c j (locations_from first' count)) (state_at new input output) n
copy_made p c i first count found old new input output n first' j is first_is drawn_is values_is next_is =
    copied_object p c i (locations_from first count) found (state_at old input output) n is
    ∙ ap (λ (k : ℕ). Val (Obj c old.drawn (locations_from (length old.values) k)) (record { store = old.values ++ map value_of found; input = input; output = output; drawn = old.drawn + 1 }) n) (count_loaded old.values first count found is)
    ∙ rw (first_is, drawn_is, values_is, next_is) refl
