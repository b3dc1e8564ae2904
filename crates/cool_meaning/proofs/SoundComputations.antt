-- Lemmas on computations that are never stuck: from a store whose values fit the classes of their locations, the result is a value with the stated property and
-- such a store, or an error, or no step is left.
use Rattle.std.proofs.Common.{◌≡◌, ℕ, zero, suc, ◌<◌, ◌≤◌, Bool, true, false, List, [], ◌∷◌, ◌++◌, Option, Some, sym, refl, subst, arith}
use Rattle.std.specs.Prelude.{if◌then◌else◌, slice_get, slice_set}
use Rattle.cool_classes.specs.declared.class_id.ClassId.{ClassId}
use Rattle.cool_classes.specs.Chains.{Class}
use Rattle.cool_meaning.specs.Values.{Value, State}
use Rattle.cool_meaning.specs.Meters.{Outcome, Val, Stop, On, Stuck, Error, Computation, seq_of, ◌>>=◌, ◌>>◌, give, stop, spend, working, giving, holding, rule, reading, changing, given, locate, load, store}
use Rattle.cool_meaning.specs.BasicMethods.{locate_all, load_all}
use Rattle.cool_meaning.specs.FittingValues.{World, AreMade, Fits, AllFit}
use Rattle.cool_meaning.proofs.FittingValues.{Grown, not_grown, grown_on, still_made, still_fits, still_all_fit, still_all_made, fit_length, fit_at, fit_set, fit_more, made_last}

-- a value, as said, in a store that fits a world grown from this one, with no more steps than before
pub record IsFine {A : Type 0} (p : List Class) (w : World) (n : ℕ) (Q : World → A → Type 0) (v : A) (s : State) (left : ℕ) : Type 0 where
  pub world : World
  pub grown : Grown w world
  pub store : AllFit p world s.store world
  pub value : Q world v
  pub fewer : left ≤ n

abbrev pub NotStuck : {A : Type 0} → List Class → World → ℕ → (World → A → Type 0) → Outcome A → Type 0
NotStuck p w n Q (Val v s left) = IsFine p w n Q v s left
NotStuck p w n Q (Stop e s) = Unit {0}
NotStuck p w n Q (On s) = Unit {0}
NotStuck p w n Q Stuck = ⊥

-- with at most b steps, from a store that fits the world
pub record Sound {A : Type 0} (p : List Class) (b : ℕ) (w : World) (Q : World → A → Type 0) (d : Computation A) : Type 0 where
  pub sound : (s : State) (n : ℕ) → n ≤ b → AllFit p w s.store w → NotStuck p w n Q (d s n).outcome

fine_later : {A : Type 0} (p : List Class) (w v : World) (m n : ℕ) (Q : World → A → Type 0) (o : Outcome A) → Grown w v → m ≤ n → NotStuck p v m Q o → NotStuck p w n Q o
fine_later p w v m n Q (Val x s left) g less h = record { world = h.world; grown = grown_on w v h.world g h.grown; store = h.store; value = h.value; fewer = let f = h.fewer in omega arith }
fine_later p w v m n Q (Stop e s) g less h = tt
fine_later p w v m n Q (On s) g less h = tt
fine_later p w v m n Q Stuck g less h = absurd h

seq_sound : {A B : Type 0} (p : List Class) (b : ℕ) (w : World) (Q : World → A → Type 0) (R : World → B → Type 0) (f : A → Computation B)
    → ((w' : World) (v : A) → Grown w w' → Q w' v → Sound p b w' R (f v)) → (n : ℕ) → n ≤ b → (o : Outcome A) (work words peak : ℕ) → NotStuck p w n Q o
    → NotStuck p w n R (seq_of o work words peak f).outcome
seq_sound p b w Q R f next n less (Val v s left) wk g pk h =
    let few = h.fewer in
    fine_later p w h.world left n R (f v s left).outcome h.grown few ((next h.world v h.grown h.value).sound s left (omega arith) h.store)
seq_sound p b w Q R f next n less (Stop e s) wk g pk h = tt
seq_sound p b w Q R f next n less (On s) wk g pk h = tt
seq_sound p b w Q R f next n less Stuck wk g pk h = absurd h

pub bind_sound : {A B : Type 0} {p : List Class} {b : ℕ} {w : World} {Q : World → A → Type 0} {R : World → B → Type 0} {d : Computation A} {f : A → Computation B} → Sound p b w Q d
    → ((w' : World) (v : A) → Grown w w' → Q w' v → Sound p b w' R (f v)) → Sound p b w R (d >>= f)
bind_sound {p = p} {b = b} {w = w} {Q = Q} {R = R} {d = d} {f = f} h next = record {
  sound = λ s n less fits. seq_sound p b w Q R f next n less (d s n).outcome (d s n).work (d s n).words (d s n).peak (h.sound s n less fits);
}

pub then_sound : {A B : Type 0} {p : List Class} {b : ℕ} {w : World} {Q : World → A → Type 0} {R : World → B → Type 0} {d : Computation A} {e : Computation B} → Sound p b w Q d
    → ((w' : World) → Grown w w' → Sound p b w' R e) → Sound p b w R (d >> e)
then_sound {p = p} {b = b} {w = w} {Q = Q} {R = R} {d = d} {e = e} h next = record {
  sound = λ s n less fits. seq_sound p b w Q R (λ _. e) (λ w' v g q. next w' g) n less (d s n).outcome (d s n).work (d s n).words (d s n).peak (h.sound s n less fits);
}

pub give_sound : {A : Type 0} {p : List Class} {b : ℕ} {w : World} {Q : World → A → Type 0} (v : A) → Q w v → Sound p b w Q (give v)
give_sound {w = w} v q = record { sound = λ s n less fits. record { world = w; grown = not_grown w; store = fits; value = q; fewer = omega arith } }

pub stop_sound : {A : Type 0} {p : List Class} {b : ℕ} {w : World} {Q : World → A → Type 0} (e : Error) → Sound p b w Q (stop e)
stop_sound e = record { sound = λ s n less fits. tt }

pub changing_sound : {A : Type 0} {p : List Class} {b : ℕ} {w : World} {Q : World → A → Type 0} (f : State → State) (v : A) → ((s : State) → AllFit p w s.store w → AllFit p w (f s).store w) → Q w v
    → Sound p b w Q (changing f v)
changing_sound {w = w} f v kept q = record { sound = λ s n less fits. record { world = w; grown = not_grown w; store = kept s fits; value = q; fewer = omega arith } }

pub reading_sound : {A : Type 0} {p : List Class} {b : ℕ} {w : World} {Q : World → A → Type 0} {f : State → Computation A} → ((s : State) → AllFit p w s.store w → Sound p b w Q (f s)) → Sound p b w Q (reading f)
reading_sound h = record { sound = λ s n less fits. (h s fits).sound s n less fits }

pub working_sound : {A : Type 0} {p : List Class} {b : ℕ} {w : World} {Q : World → A → Type 0} {d : Computation A} (k : ℕ) → Sound p b w Q d → Sound p b w Q (working k d)
working_sound k h = record { sound = h.sound }

pub giving_sound : {A : Type 0} {p : List Class} {b : ℕ} {w : World} {Q : World → A → Type 0} {d : Computation A} (k : ℕ) → Sound p b w Q d → Sound p b w Q (giving k d)
giving_sound k h = record { sound = h.sound }

pub holding_sound : {A : Type 0} {p : List Class} {b : ℕ} {w : World} {Q : World → A → Type 0} {d : Computation A} (k : ℕ) → Sound p b w Q d → Sound p b w Q (holding k d)
holding_sound k h = record { sound = h.sound }

pub rule_sound : {A : Type 0} {p : List Class} {b : ℕ} {w : World} {Q : World → A → Type 0} {d : Computation A} → Sound p b w Q d → Sound p b w Q (rule d)
rule_sound h = record { sound = h.sound }

pub if_sound : {A : Type 0} {p : List Class} {b : ℕ} {w : World} {Q : World → A → Type 0} {d e : Computation A} (c : Bool) → Sound p b w Q d → Sound p b w Q e → Sound p b w Q (if c then d else e)
if_sound true h k = h
if_sound false h k = k

-- with fewer steps
pub fewer_sound : {A : Type 0} {p : List Class} {b : ℕ} {w : World} {Q : World → A → Type 0} {d : Computation A} (m : ℕ) → m ≤ b → Sound p b w Q d → Sound p m w Q d
fewer_sound m below h = record { sound = λ s n less fits. h.sound s n (omega arith) fits }

-- a step is spent where one is left, and fewer are left after it
spend_by : {A : Type 0} (p : List Class) (b : ℕ) (w : World) (Q : World → A → Type 0) (d : Computation A) → ((m : ℕ) → m < b → Sound p m w Q d) → (s : State) (n : ℕ) → n ≤ b → AllFit p w s.store w
    → NotStuck p w n Q (spend d s n).outcome
spend_by p b w Q d h s zero less fits = tt
spend_by p b w Q d h s (suc m) less fits = fine_later p w w m (suc m) Q (d s m).outcome (not_grown w) (omega arith) ((h m (omega arith)).sound s m (omega arith) fits)

pub spend_sound : {A : Type 0} {p : List Class} {b : ℕ} {w : World} {Q : World → A → Type 0} {d : Computation A} → ((m : ℕ) → m < b → Sound p m w Q d) → Sound p b w Q (spend d)
spend_sound {p = p} {b = b} {w = w} {Q = Q} {d = d} h = record { sound = spend_by p b w Q d h }

-- Locations

pub locate_sound : {p : List Class} {b : ℕ} {w : World} (v : Value) (d : ClassId) → Fits p w v d → Sound p b w (λ w' l. slice_get w' l ≡ Some d) (locate v)
locate_sound {p = p} {b = b} {w = w} v d h = record {
  sound = λ s n less fits.
      let g : Grown w (w ++ d ∷ []) = record { more = d ∷ []; is = refl } in
      record {
        world = w ++ d ∷ [];
        grown = g;
        store = fit_more p (w ++ d ∷ []) s.store w v d (still_all_fit p w (w ++ d ∷ []) g s.store w fits) (still_fits p w (w ++ d ∷ []) g v d h);
        value = subst (λ (l : ℕ). slice_get (w ++ d ∷ []) l ≡ Some d) (sym (fit_length p w s.store w fits)) (made_last w d);
        fewer = omega arith;
      };
}

pub load_sound : {p : List Class} {b : ℕ} {w : World} (l : ℕ) (d : ClassId) → slice_get w l ≡ Some d → Sound p b w (λ w' v. Fits p w' v d) (load l)
load_sound {p = p} {b = b} {w = w} l d made = reading_sound (λ s fits.
    let (v, there, fine) = fit_at p w s.store w l d fits made in
    subst (λ (o : Option Value). Sound p b w (λ w' v. Fits p w' v d) (given o)) (sym there) (give_sound v fine))

pub store_sound : {p : List Class} {b : ℕ} {w : World} (l : ℕ) (v : Value) (d : ClassId) → slice_get w l ≡ Some d → Fits p w v d → Sound p b w (λ w' x. Unit {0}) (store l v)
store_sound {p = p} {w = w} l v d made h = changing_sound (λ s. record s { store = slice_set s.store l v }) tt (λ s fits. fit_set p w s.store w l d v fits made h) tt

pub locate_all_sound : {p : List Class} {b : ℕ} {w : World} (vs : List Value) (ds : List ClassId) → AllFit p w vs ds → Sound p b w (λ w' ls. AreMade w' ls ds) (locate_all vs)
locate_all_sound [] [] h = give_sound [] tt
locate_all_sound [] (d ∷ ds) h = absurd h
locate_all_sound (v ∷ vs) [] h = absurd h
locate_all_sound {p = p} {b = b} {w = w} (v ∷ vs) (d ∷ ds) h =
    bind_sound (locate_sound v d h.0) (λ w' l g made. bind_sound (locate_all_sound vs ds (still_all_fit p w w' g vs ds h.1)) (λ w2 ls g2 all. give_sound (l ∷ ls) (still_made w' w2 g2 l d made, all)))

pub load_all_sound : {p : List Class} {b : ℕ} {w : World} (ls : List ℕ) (ds : List ClassId) → AreMade w ls ds → Sound p b w (λ w' vs. AllFit p w' vs ds) (load_all ls)
load_all_sound [] [] h = give_sound [] tt
load_all_sound [] (d ∷ ds) h = absurd h
load_all_sound (l ∷ ls) [] h = absurd h
load_all_sound {p = p} {b = b} {w = w} (l ∷ ls) (d ∷ ds) h =
    bind_sound (load_sound l d h.0) (λ w' v g fits. bind_sound (load_all_sound ls ds (later w' g)) (λ w2 vs g2 all. give_sound (v ∷ vs) (still_fits p w' w2 g2 v d fits, all)))
  where
    later : (w' : World) → Grown w w' → AreMade w' ls ds
    later w' g = still_all_made w w' g ls ds h.1
