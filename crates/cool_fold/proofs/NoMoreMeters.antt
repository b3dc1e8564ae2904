-- If computations are replaced by others with the same results and no greater cost counters (meters), this also holds for the computations composed of them,
-- from every store whose values fit the classes of their locations.
use Rattle.std.proofs.Common.{◌≡◌, ℕ, zero, suc, ◌<◌, ◌≤◌, Bool as Truth, true, false, List, refl, sym, ◌∙◌, subst, arith}
use Rattle.std.specs.Prelude.{if◌then◌else◌}
use Rattle.cool_classes.specs.Chains.{Class}
use Rattle.cool_meaning.specs.Values.{State}
use Rattle.cool_meaning.specs.Meters.{Outcome, Val, Stop, On, Stuck, Metered, Computation, seq_of, ◌>>=◌, ◌>>◌, spend, working, giving, holding, rule}
use Rattle.cool_meaning.specs.FittingValues.{World, AllFit}
use Rattle.cool_meaning.proofs.FittingValues.{Grown}
use Rattle.cool_meaning.proofs.SoundComputations.{IsFine, NotStuck, Sound}

-- the second one comes to the same, with no meter greater
pub record NoMore {A : Type 0} (m m' : Metered A) : Type 0 where
  pub outcome : m'.outcome ≡ m.outcome
  pub work : m'.work ≤ m.work
  pub words : m'.words ≤ m.words
  pub peak : m'.peak ≤ m.peak

pub no_more_same : {A : Type 0} (m : Metered A) → NoMore m m
no_more_same m = record { outcome = refl; work = omega arith; words = omega arith; peak = omega arith }

pub no_more_then : {A : Type 0} (a b c : Metered A) → NoMore a b → NoMore b c → NoMore a c
no_more_then a b c h k =
    let w1 = h.work in let w2 = k.work in let g1 = h.words in let g2 = k.words in let p1 = h.peak in let p2 = k.peak in
    record { outcome = k.outcome ∙ h.outcome; work = omega arith; words = omega arith; peak = omega arith }

-- the claim from every state with at most b steps whose store fits
pub record Keeps {A : Type 0} (p : List Class) (b : ℕ) (w : World) (d d' : Computation A) : Type 0 where
  pub keeps : (s : State) (n : ℕ) → n ≤ b → AllFit p w s.store w → NoMore (d s n) (d' s n)

-- the claim from every state
pub record Always {A : Type 0} (d d' : Computation A) : Type 0 where
  pub always : (s : State) (n : ℕ) → NoMore (d s n) (d' s n)

pub keeps_same : {A : Type 0} {p : List Class} {b : ℕ} {w : World} (d : Computation A) → Keeps p b w d d
keeps_same d = record { keeps = λ s n less fits. no_more_same (d s n) }

pub keeps_then : {A : Type 0} {p : List Class} {b : ℕ} {w : World} {d e f : Computation A} → Keeps p b w d e → Always e f → Keeps p b w d f
keeps_then {d = d} {e = e} {f = f} h k = record { keeps = λ s n less fits. no_more_then (d s n) (e s n) (f s n) (h.keeps s n less fits) (k.always s n) }

-- One after the other

bind_by : {A B : Type 0} (o : Outcome A) (a b c a' b' c' : ℕ) (o' : Outcome A) (f f' : A → Computation B) → o' ≡ o → a' ≤ a → b' ≤ b → c' ≤ c
    → ((v : A) (t : State) (left : ℕ) → o ≡ Val v t left → NoMore (f v t left) (f' v t left)) → NoMore (seq_of o a b c f) (seq_of o' a' b' c' f')
bind_by {A = A} o a b c a' b' c' o' f f' e la lb lc h = subst (λ x. NoMore (seq_of o a b c f) (seq_of x a' b' c' f')) (sym e) (by o h)
  where
    by : (o : Outcome A) → ((v : A) (t : State) (left : ℕ) → o ≡ Val v t left → NoMore (f v t left) (f' v t left)) → NoMore (seq_of o a b c f) (seq_of o a' b' c' f')
    by (Val v t left) h =
        let k = h v t left refl in
        let w = k.work in let g = k.words in let q = k.peak in
        record { outcome = k.outcome; work = omega arith; words = omega arith; peak = omega arith }
    by (Stop x t) h = record { outcome = refl; work = la; words = lb; peak = lc }
    by (On t) h = record { outcome = refl; work = la; words = lb; peak = lc }
    by Stuck h = record { outcome = refl; work = la; words = lb; peak = lc }

pub bind_keeps : {A B : Type 0} {p : List Class} {b : ℕ} {w : World} {Q : World → A → Type 0} {d d' : Computation A} {f f' : A → Computation B} → Sound p b w Q d → Keeps p b w d d'
    → ((w' : World) (v : A) → Grown w w' → Q w' v → Keeps p b w' (f v) (f' v)) → Keeps p b w (d >>= f) (d' >>= f')
bind_keeps {p = p} {b = b} {w = w} {Q = Q} {d = d} {d' = d'} {f = f} {f' = f'} sound h k = record {
  keeps = λ s n less fits.
      let one = h.keeps s n less fits in
      bind_by (d s n).outcome (d s n).work (d s n).words (d s n).peak (d' s n).work (d' s n).words (d' s n).peak (d' s n).outcome f f' one.outcome one.work one.words one.peak
      (λ v t left e.
      let fine : IsFine p w n Q v t left = subst (λ x. NotStuck p w n Q x) e (sound.sound s n less fits) in
      let fewer = fine.fewer in
      (k fine.world v fine.grown fine.value).keeps t left (omega arith) fine.store);
}

pub then_keeps : {A B : Type 0} {p : List Class} {b : ℕ} {w : World} {Q : World → A → Type 0} {d d' : Computation A} {e e' : Computation B} → Sound p b w Q d → Keeps p b w d d'
    → ((w' : World) → Grown w w' → Keeps p b w' e e') → Keeps p b w (d >> e) (d' >> e')
then_keeps {p = p} {b = b} {w = w} {Q = Q} {d = d} {d' = d'} {e = e} {e' = e'} sound h k = bind_keeps {Q = Q} {d = d} {d' = d'} {f = λ _. e} {f' = λ _. e'} sound h (λ w' v g q. k w' g)

-- The words

pub working_keeps : {A : Type 0} {p : List Class} {b : ℕ} {w : World} {d d' : Computation A} (k : ℕ) → Keeps p b w d d' → Keeps p b w (working k d) (working k d')
working_keeps k h = record {
  keeps = λ s n less fits. let one = h.keeps s n less fits in let a = one.work in record { outcome = one.outcome; work = omega arith; words = one.words; peak = one.peak };
}

pub giving_keeps : {A : Type 0} {p : List Class} {b : ℕ} {w : World} {d d' : Computation A} (k : ℕ) → Keeps p b w d d' → Keeps p b w (giving k d) (giving k d')
giving_keeps k h = record {
  keeps = λ s n less fits. let one = h.keeps s n less fits in let a = one.words in record { outcome = one.outcome; work = one.work; words = omega arith; peak = one.peak };
}

pub holding_keeps : {A : Type 0} {p : List Class} {b : ℕ} {w : World} {d d' : Computation A} (k : ℕ) → Keeps p b w d d' → Keeps p b w (holding k d) (holding k d')
holding_keeps k h = record {
  keeps = λ s n less fits. let one = h.keeps s n less fits in let a = one.peak in record { outcome = one.outcome; work = one.work; words = one.words; peak = omega arith };
}

pub rule_keeps : {A : Type 0} {p : List Class} {b : ℕ} {w : World} {d d' : Computation A} → Keeps p b w d d' → Keeps p b w (rule d) (rule d')
rule_keeps h = working_keeps 1 (holding_keeps 1 h)

spend_by : {A : Type 0} {p : List Class} {b : ℕ} {w : World} (d d' : Computation A) → ((m : ℕ) → m < b → Keeps p m w d d') → (s : State) (n : ℕ) → n ≤ b → AllFit p w s.store w → NoMore (spend d s n) (spend d' s n)
spend_by d d' h s zero less fits = record { outcome = refl; work = omega arith; words = omega arith; peak = omega arith }
spend_by d d' h s (suc n) less fits = (h n (omega arith)).keeps s n (omega arith) fits

pub spend_keeps : {A : Type 0} {p : List Class} {b : ℕ} {w : World} {d d' : Computation A} → ((m : ℕ) → m < b → Keeps p m w d d') → Keeps p b w (spend d) (spend d')
spend_keeps {d = d} {d' = d'} h = record { keeps = λ s n less fits. spend_by d d' h s n less fits }

pub fewer_keeps : {A : Type 0} {p : List Class} {b : ℕ} {w : World} {d d' : Computation A} (m : ℕ) → m ≤ b → Keeps p b w d d' → Keeps p m w d d'
fewer_keeps m le h = record { keeps = λ s n less fits. h.keeps s n (omega arith) fits }

pub if_keeps : {A : Type 0} {p : List Class} {b : ℕ} {w : World} {c c' d d' : Computation A} (x : Truth) → Keeps p b w c c' → Keeps p b w d d' → Keeps p b w (if x then c else d) (if x then c' else d')
if_keeps true h k = h
if_keeps false h k = k
