-- In each later state of an evaluation, the output begins with the output so far, and the input is what is left of the input so far.
use Rattle.std.proofs.Common.{◌≡◌, ℕ, List, [], ◌++◌, ap, sym, ◌∙◌, append_assoc, append-nil}
use Rattle.cool_meaning.specs.Values.{State}
use Rattle.cool_meaning.specs.Meters.{Outcome, Val, Stop, On, Stuck, Computation, seq_of}

pub record Later (s t : State) : Type 0 where
  pub printed : List ℕ
  pub output : t.output ≡ s.output ++ printed
  pub taken : List ℕ
  pub input : s.input ≡ taken ++ t.input

-- neither printed nor took anything
pub later_same : (s t : State) → t.output ≡ s.output → s.input ≡ t.input → Later s t
later_same s t e f = record { printed = []; output = e ∙ sym (append-nil s.output); taken = []; input = f }

pub later_on : (s t u : State) → Later s t → Later t u → Later s u
later_on s t u h k = record {
  printed = h.printed ++ k.printed;
  output = k.output ∙ (ap (λ (xs : List ℕ). xs ++ k.printed) h.output ∙ append_assoc s.output h.printed k.printed);
  taken = h.taken ++ k.taken;
  input = h.input ∙ (ap (λ (xs : List ℕ). h.taken ++ xs) k.input ∙ sym (append_assoc h.taken k.taken u.input));
}

-- an outcome stands later; where no rule applied, nothing is said
abbrev pub After : {A : Type 0} → State → Outcome A → Type 0
After s (Val v t n) = Later s t
After s (Stop e t) = Later s t
After s (On t) = Later s t
After s Stuck = Unit {0}

pub after_on : {A : Type 0} (s t : State) (o : Outcome A) → Later s t → After t o → After s o
after_on s t (Val v u n) h k = later_on s t u h k
after_on s t (Stop e u) h k = later_on s t u h k
after_on s t (On u) h k = later_on s t u h k
after_on s t Stuck h k = tt

-- the state after a value comes later
pub seq_after : {A B : Type 0} (s : State) (o : Outcome A) (work words peak : ℕ) (f : A → Computation B) → After s o
    → ((v : A) (t : State) (n : ℕ) → After t (f v t n).outcome) → After s (seq_of o work words peak f).outcome
seq_after s (Val v t n) work words peak f h k = after_on s t (f v t n).outcome h (k v t n)
seq_after s (Stop e t) work words peak f h k = h
seq_after s (On t) work words peak f h k = h
seq_after s Stuck work words peak f h k = tt
