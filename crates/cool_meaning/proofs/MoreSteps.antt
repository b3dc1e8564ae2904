-- If computations with more steps have the same result as those with fewer, or go on from where those stopped, this also holds for the computations composed of
-- them.
use Rattle.std.proofs.Common.{◌≡◌, ℕ, zero, suc, ◌+◌, ◌≤◌, max, Bool, true, false, List, [], ◌∷◌, ◌++◌, length, ap, sym, refl, subst, arith, append-nil}
use Rattle.std.specs.Prelude.{Option, Some, None, if◌then◌else◌, ◌==◌}
use Rattle.cool_meaning.specs.Values.{Value, State}
use Rattle.cool_meaning.specs.Meters.{Outcome, Val, Stop, On, Stuck, Error, Metered, Computation, free, join, seq_of, seq, ◌>>=◌, ◌>>◌, give, stop, stuck, spend, working, giving, holding, reading, changing, given, locate, load, store}
use Rattle.cool_meaning.specs.BasicMethods.{draw, print, line_of, take_line}
use Rattle.cool_meaning.proofs.Later.{Later, later_same, After, seq_after}

-- a run that stood here goes on, and no meter falls
pub record GoesOn {A : Type 0} (t : State) (w g p : ℕ) (m : Metered A) : Type 0 where
  pub after : After t m.outcome
  pub work : w ≤ m.work
  pub words : g ≤ m.words
  pub peak : p ≤ m.peak

-- the outcome with these meters, with k more steps
abbrev pub Longer : {A : Type 0} → ℕ → Outcome A → ℕ → ℕ → ℕ → Metered A → Type 0
Longer k (Val v t n) work words peak m = (n' : ℕ) × (n' ≡ n + k) × (m ≡ record { outcome = Val v t n'; work = work; words = words; peak = peak })
Longer k (Stop e t) work words peak m = m ≡ record { outcome = Stop e t; work = work; words = words; peak = peak }
Longer k (On t) work words peak m = GoesOn t work words peak m
Longer k Stuck work words peak m = Unit {0}

pub record IsLonger {A : Type 0} (s : State) (k : ℕ) (o : Outcome A) (work words peak : ℕ) (m : Metered A) : Type 0 where
  pub after : After s m.outcome
  pub longer : Longer k o work words peak m

-- the second computation does with k more steps what the first one does
pub record Alike {A : Type 0} (d d' : Computation A) : Type 0 where
  pub alike : (s : State) (n n' k : ℕ) → n' ≡ n + k → IsLonger s k (d s n).outcome (d s n).work (d s n).words (d s n).peak (d' s n')

-- the state after the second computation is later
pub after_of : {A : Type 0} {d d' : Computation A} → Alike d d' → (s : State) (n : ℕ) → After s (d' s n).outcome
after_of h s n = (h.alike s n n 0 (omega arith)).after

-- One after the other

join_longer : {A : Type 0} (k work words peak : ℕ) (o : Outcome A) (work2 words2 peak2 : ℕ) (m : Metered A) → Longer k o work2 words2 peak2 m
    → Longer k o (work + work2) (words + words2) (max peak peak2) (join work words peak m)
join_longer k w g p (Val v t n) w2 g2 p2 m (n', e, is) = (n', e, ap (join w g p) is)
join_longer k w g p (Stop x t) w2 g2 p2 m is = ap (join w g p) is
join_longer k w g p (On t) w2 g2 p2 m h = record { after = h.after; work = omega arith; words = omega arith; peak = omega arith }
join_longer k w g p Stuck w2 g2 p2 m h = tt

seq_more : {A B : Type 0} (o : Outcome A) (work words peak : ℕ) (f : A → Computation B)
    → (work ≤ (seq_of o work words peak f).work) × (words ≤ (seq_of o work words peak f).words) × (peak ≤ (seq_of o work words peak f).peak)
seq_more (Val v t n) w g p f = (omega arith, omega arith, omega arith)
seq_more (Stop e t) w g p f = (omega arith, omega arith, omega arith)
seq_more (On t) w g p f = (omega arith, omega arith, omega arith)
seq_more Stuck w g p f = (omega arith, omega arith, omega arith)

-- the state after a computation that follows a value is later than the value's
after_value : {A B : Type 0} (f f' : A → Computation B) → ((v : A) → Alike (f v) (f' v)) → (v : A) (t : State) (n : ℕ) → After t (f' v t n).outcome
after_value f f' h v t n = ((h v).alike t n n 0 (omega arith)).after

seq_longer : {A B : Type 0} (s : State) (k : ℕ) (o : Outcome A) (work words peak : ℕ) (m : Metered A) (f f' : A → Computation B) → IsLonger s k o work words peak m
    → ((v : A) → Alike (f v) (f' v))
    → IsLonger s k (seq_of o work words peak f).outcome (seq_of o work words peak f).work (seq_of o work words peak f).words (seq_of o work words peak f).peak (seq m f')
seq_longer s k (Val v t n) w g p m f f' h alike =
    let n' = h.longer.0 in
    let there : Metered _ = record { outcome = Val v t n'; work = w; words = g; peak = p } in
    let is : m ≡ there = h.longer.2 in
    let next = (h_next v t n n' h.longer.1) in
    record {
      after = seq_after s m.outcome m.work m.words m.peak f' h.after (after_value f f' alike);
      longer = subst (λ (x : Metered _). Longer k (f v t n).outcome (w + (f v t n).work) (g + (f v t n).words) (max p (f v t n).peak) (seq x f')) (sym is)
          (join_longer k w g p (f v t n).outcome (f v t n).work (f v t n).words (f v t n).peak (f' v t n') next.longer);
    }
  where
    h_next : (v : _) (t : State) (n n' : ℕ) → n' ≡ n + k → IsLonger t k (f v t n).outcome (f v t n).work (f v t n).words (f v t n).peak (f' v t n')
    h_next v t n n' e = (alike v).alike t n n' k e
seq_longer s k (Stop e t) w g p m f f' h alike = record {
  after = seq_after s m.outcome m.work m.words m.peak f' h.after (after_value f f' alike);
  longer = ap (λ (x : Metered _). seq x f') h.longer;
}
seq_longer s k (On t) w g p m f f' h alike =
    let more = seq_more m.outcome m.work m.words m.peak f' in
    let on = h.longer in
    record {
      after = seq_after s m.outcome m.work m.words m.peak f' h.after (after_value f f' alike);
      longer = record {
        after = seq_after t m.outcome m.work m.words m.peak f' on.after (after_value f f' alike);
        work = omega arith;
        words = omega arith;
        peak = omega arith;
      };
    }
seq_longer s k Stuck w g p m f f' h alike = record {
  after = seq_after s m.outcome m.work m.words m.peak f' h.after (after_value f f' alike);
  longer = tt;
}

pub bind_alike : {A B : Type 0} {d d' : Computation A} {f f' : A → Computation B} → Alike d d' → ((v : A) → Alike (f v) (f' v)) → Alike (d >>= f) (d' >>= f')
bind_alike {d = d} {d' = d'} {f = f} {f' = f'} h k = record {
  alike = λ s n n' j e. seq_longer s j (d s n).outcome (d s n).work (d s n).words (d s n).peak (d' s n') f f' (h.alike s n n' j e) k;
}

pub then_alike : {A B : Type 0} {d d' : Computation A} {f f' : Computation B} → Alike d d' → Alike f f' → Alike (d >> f) (d' >> f')
then_alike {d = d} {d' = d'} {f = f} {f' = f'} h k = record {
  alike = λ s n n' j e. seq_longer s j (d s n).outcome (d s n).work (d s n).words (d s n).peak (d' s n') (λ _. f) (λ _. f') (h.alike s n n' j e) (λ _. k);
}

-- The words of computations

-- a value at once, in a state that comes later
pub value_alike : {A : Type 0} (f : State → State) (v : State → A) → ((s : State) → Later s (f s)) → Alike {A = A} (λ s n. free (Val (v s) (f s) n)) (λ s n. free (Val (v s) (f s) n))
value_alike f v later = record { alike = λ s n n' k e. record { after = later s; longer = (n', e, refl) } }

pub give_alike : {A : Type 0} (v : A) → Alike (give v) (give v)
give_alike v = value_alike (λ s. s) (λ _. v) (λ s. later_same s s refl refl)

pub stop_alike : {A : Type 0} (e : Error) → Alike {A = A} (stop e) (stop e)
stop_alike x = record { alike = λ s n n' k e. record { after = later_same s s refl refl; longer = refl } }

pub stuck_alike : {A : Type 0} (d : Computation A) → ((s : State) (n : ℕ) → After s (d s n).outcome) → Alike stuck d
stuck_alike d h = record { alike = λ s n n' k e. record { after = h s n'; longer = tt } }

pub no_rule_alike : {A : Type 0} → Alike {A = A} stuck stuck
no_rule_alike = record { alike = λ s n n' k e. record { after = tt; longer = tt } }

pub changing_alike : {A : Type 0} (f : State → State) (v : A) → ((s : State) → Later s (f s)) → Alike (changing f v) (changing f v)
changing_alike f v later = value_alike f (λ _. v) later

pub reading_alike : {A : Type 0} {f f' : State → Computation A} → ((s : State) → Alike (f s) (f' s)) → Alike (reading f) (reading f')
reading_alike h = record { alike = λ s n n' k e. (h s).alike s n n' k e }

pub given_alike : {A : Type 0} (o : Option A) → Alike (given o) (given o)
given_alike None = no_rule_alike
given_alike (Some v) = give_alike v

-- a step is spent
spend_by : {A : Type 0} (d d' : Computation A) → Alike d d' → (s : State) (n n' k : ℕ) → n' ≡ n + k
    → IsLonger s k (spend d s n).outcome (spend d s n).work (spend d s n).words (spend d s n).peak (spend d' s n')
spend_by d d' h s zero zero k e = record {
  after = later_same s s refl refl;
  longer = record { after = later_same s s refl refl; work = omega arith; words = omega arith; peak = omega arith };
}
spend_by d d' h s zero (suc m) k e =
    let after = (h.alike s m m 0 (omega arith)).after in
    record { after = after; longer = record { after = after; work = omega arith; words = omega arith; peak = omega arith } }
spend_by d d' h s (suc n) zero k e = absurd (omega arith)
spend_by d d' h s (suc n) (suc m) k e = h.alike s n m k (omega arith)

pub spend_alike : {A : Type 0} {d d' : Computation A} → Alike d d' → Alike (spend d) (spend d')
spend_alike {d = d} {d' = d'} h = record { alike = spend_by d d' h }

-- with meters that grow as these do
abbrev metered : {A : Type 0} → (ℕ → ℕ) → (ℕ → ℕ) → (ℕ → ℕ) → Metered A → Metered A
metered i j l m = record { outcome = m.outcome; work = i m.work; words = j m.words; peak = l m.peak }

abbrev Grows : (ℕ → ℕ) → Type 0
Grows f = (a b : ℕ) → a ≤ b → f a ≤ f b

metered_longer : {A : Type 0} (k : ℕ) (i j l : ℕ → ℕ) → Grows i → Grows j → Grows l → (o : Outcome A) (work words peak : ℕ) (m : Metered A) → Longer k o work words peak m
    → Longer k o (i work) (j words) (l peak) (metered i j l m)
metered_longer k i j l gi gj gl (Val v t n) w g p m (n', e, is) = (n', e, ap (metered i j l) is)
metered_longer k i j l gi gj gl (Stop x t) w g p m is = ap (metered i j l) is
metered_longer k i j l gi gj gl (On t) w g p m h = record { after = h.after; work = gi w m.work h.work; words = gj g m.words h.words; peak = gl p m.peak h.peak }
metered_longer k i j l gi gj gl Stuck w g p m h = tt

metered_alike : {A : Type 0} (i j l : ℕ → ℕ) → Grows i → Grows j → Grows l → {d d' : Computation A} → Alike d d' → Alike (λ s n. metered i j l (d s n)) (λ s n. metered i j l (d' s n))
metered_alike i j l gi gj gl {d = d} {d' = d'} h = record {
  alike = λ s n n' k e. record {
    after = (h.alike s n n' k e).after;
    longer = metered_longer k i j l gi gj gl (d s n).outcome (d s n).work (d s n).words (d s n).peak (d' s n') (h.alike s n n' k e).longer;
  };
}

as_is : Grows (λ x. x)
as_is a b h = h

with_more : (k : ℕ) → Grows (λ x. k + x)
with_more k a b h = omega arith

pub working_alike : {A : Type 0} (k : ℕ) {d d' : Computation A} → Alike d d' → Alike (working k d) (working k d')
working_alike k h = metered_alike (λ x. k + x) (λ x. x) (λ x. x) (with_more k) as_is as_is h

pub giving_alike : {A : Type 0} (k : ℕ) {d d' : Computation A} → Alike d d' → Alike (giving k d) (giving k d')
giving_alike k h = metered_alike (λ x. x) (λ x. k + x) (λ x. x) as_is (with_more k) as_is h

pub holding_alike : {A : Type 0} (k : ℕ) {d d' : Computation A} → Alike d d' → Alike (holding k d) (holding k d')
holding_alike k h = metered_alike (λ x. x) (λ x. x) (λ x. k + x) as_is as_is (with_more k) h

-- either of two
pub if_alike : {A : Type 0} (b : Bool) {c c' d d' : Computation A} → Alike c c' → Alike d d' → Alike (if b then c else d) (if b then c' else d')
if_alike true h k = h
if_alike false h k = k

-- State and console

pub draw_alike : Alike draw draw
draw_alike = reading_alike (λ s. changing_alike (λ t. record t { drawn = s.drawn + 1 }) s.drawn (λ t. later_same t (record t { drawn = s.drawn + 1 }) refl refl))

pub locate_alike : (v : Value) → Alike (locate v) (locate v)
locate_alike v = value_alike (λ s. record s { store = s.store ++ v ∷ [] }) (λ s. length s.store) (λ s. later_same s (record s { store = s.store ++ v ∷ [] }) refl refl)

pub load_alike : (l : ℕ) → Alike (load l) (load l)
load_alike l = reading_alike (λ s. given_alike _)

pub store_alike : (l : ℕ) (v : Value) → Alike (store l v) (store l v)
store_alike l v = changing_alike _ tt (λ s. later_same s _ refl refl)

pub print_alike : (bytes : List ℕ) → Alike (print bytes) (print bytes)
print_alike bytes = changing_alike (λ s. record s { output = s.output ++ bytes }) tt (λ s. record { printed = bytes; output = refl; taken = []; input = refl })

-- the rest that a line leaves is a suffix of the input
line_by : (b : ℕ) (rest : List ℕ) (zero newline : Bool) → (taken : List ℕ) → rest ≡ taken ++ (line_of rest).rest
    → (more : List ℕ) × (b ∷ rest ≡ more ++ (if zero then line_of rest else (if newline then record { bytes = []; rest = rest } else record { bytes = b ∷ (line_of rest).bytes; rest = (line_of rest).rest })).rest)
line_by b rest true newline taken e = (b ∷ taken, ap (λ (xs : List ℕ). b ∷ xs) e)
line_by b rest false true taken e = (b ∷ [], refl)
line_by b rest false false taken e = (b ∷ taken, ap (λ (xs : List ℕ). b ∷ xs) e)

pub line_taken : (input : List ℕ) → (taken : List ℕ) × (input ≡ taken ++ (line_of input).rest)
line_taken [] = ([], refl)
line_taken (b ∷ rest) = let more = line_taken rest in line_by b rest (b == 0) (b == 10) more.0 more.1

line_later : (s : State) → Later s (record s { input = (line_of s.input).rest })
line_later s = let t = line_taken s.input in record { printed = []; output = sym (append-nil s.output); taken = t.0; input = t.1 }

pub take_line_alike : Alike take_line take_line
take_line_alike = record {
  alike = λ s n n' k e. record { after = line_later s; longer = (n', e, refl) };
}
