-- `Metered` is the result of an evaluation with three cost counters (meters): the work done, the words of memory allocated, and the largest nesting depth of
-- rules. A `Computation` takes a state and the number of steps that are left; the combinators here compose computations.
use Rattle.std.specs.Prelude.{ℕ, zero, suc, ◌+◌, max, ◌∷◌, [], ◌++◌, length, slice_get, slice_set, Option, Some, None}
use Rattle.cool_syntax.specs.declared.place.Place.{Place}
use Rattle.cool_classes.specs.declared.class_id.ClassId.{ClassId}
use Rattle.cool_meaning.specs.Values.{Value, State}

-- the run-time errors (the manual, section 8.2 and 13), with the place or the class that their texts name
pub data Error : Type 0 where
  DispatchVoid : (at : Place) → Error
  CaseVoid : (at : Place) → Error
  NoBranch : (at : Place) (class : ClassId) → Error
  DivisionByZero : (at : Place) → Error
  Overflow : (at : Place) → Error
  Substring : (at : Place) → Error
  Aborted : (class : ClassId) → Error

-- A value, the state after it and the steps that are left; a run-time error; no step was left; no rule applies.
pub data Outcome (A : Type 0) : Type 0 where
  Val : (value : A) (state : State) (left : ℕ) → Outcome A
  Stop : (error : Error) (state : State) → Outcome A
  On : (state : State) → Outcome A
  Stuck : Outcome A

-- An outcome with its meters: the work done, the words given, and the greatest number of rules pending at once.
pub record Metered (A : Type 0) : Type 0 where
  pub outcome : Outcome A
  pub work : ℕ
  pub words : ℕ
  pub peak : ℕ

abbrev pub Computation : Type 0 → Type 0
Computation A = State → ℕ → Metered A

abbrev pub free : {A : Type 0} → Outcome A → Metered A
free o = record { outcome = o; work = 0; words = 0; peak = 0 }

-- the costs after some work, words and peak
abbrev pub join : {A : Type 0} → ℕ → ℕ → ℕ → Metered A → Metered A
join work words peak m = record { outcome = m.outcome; work = work + m.work; words = words + m.words; peak = max peak m.peak }

-- the outcome and the costs of two computations, of which the second takes the value of the first; without that value, the first outcome is the result
abbrev pub seq_of : {A B : Type 0} → Outcome A → ℕ → ℕ → ℕ → (A → Computation B) → Metered B
seq_of (Val v s n) work words peak f = join work words peak (f v s n)
seq_of (Stop e s) work words peak f = record { outcome = Stop e s; work = work; words = words; peak = peak }
seq_of (On s) work words peak f = record { outcome = On s; work = work; words = words; peak = peak }
seq_of Stuck work words peak f = record { outcome = Stuck; work = work; words = words; peak = peak }

abbrev pub seq : {A B : Type 0} → Metered A → (A → Computation B) → Metered B
seq m f = seq_of m.outcome m.work m.words m.peak f

-- one computation, then another on its value
infixl 10 ◌>>=◌ ◌>>◌
abbrev pub ◌>>=◌ : {A B : Type 0} → Computation A → (A → Computation B) → Computation B
(d >>= f) s n = seq (d s n) f

abbrev pub ◌>>◌ : {A B : Type 0} → Computation A → Computation B → Computation B
(d >> e) s n = seq (d s n) (λ _. e)

-- computations without cost: one gives this value, one stops with this run-time error, and to one no rule applies
abbrev pub give : {A : Type 0} → A → Computation A
give v s n = free (Val v s n)

abbrev pub stop : {A : Type 0} → Error → Computation A
stop e s n = free (Stop e s)

abbrev pub stuck : {A : Type 0} → Computation A
stuck s n = free Stuck

-- a step is spent where one is left
abbrev pub spend : {A : Type 0} → Computation A → Computation A
spend d s zero = free (On s)
spend d s (suc n) = d s n

-- a computation with so much more work; below, one with so many more words
abbrev pub working : {A : Type 0} → ℕ → Computation A → Computation A
working k d s n = let m = d s n in record { outcome = m.outcome; work = k + m.work; words = m.words; peak = m.peak }

abbrev pub giving : {A : Type 0} → ℕ → Computation A → Computation A
giving k d s n = let m = d s n in record { outcome = m.outcome; work = m.work; words = k + m.words; peak = m.peak }

-- a computation while so many more rules are pending or values are held
abbrev pub holding : {A : Type 0} → ℕ → Computation A → Computation A
holding k d s n = let m = d s n in record { outcome = m.outcome; work = m.work; words = m.words; peak = k + m.peak }

-- a rule of evaluation: it is begun, and pending to its end
abbrev pub rule : {A : Type 0} → Computation A → Computation A
rule d = working 1 (holding 1 d)

-- a computation that depends on the state, and one that changes it
abbrev pub reading : {A : Type 0} → (State → Computation A) → Computation A
reading f s n = f s s n

abbrev pub changing : {A : Type 0} → (State → State) → A → Computation A
changing f v s n = free (Val v (f s) n)

-- the value, if there is one
abbrev pub given : {A : Type 0} → Option A → Computation A
given None = stuck
given (Some v) = give v

-- a new location with a value
abbrev pub locate : Value → Computation ℕ
locate v s n = free (Val (length s.store) (record s { store = s.store ++ v ∷ [] }) n)

-- the value at a location, and a new value there
abbrev pub load : ℕ → Computation Value
load l = reading (λ s. given (slice_get s.store l))

abbrev pub store : ℕ → Value → Computation (Unit {0})
store l v = changing (λ s. record s { store = slice_set s.store l v }) tt
