-- The relation `AddsFaults` between a list of faults (compile-time errors) and the list after an addition holds if no fault, one fault or several faults of
-- classes are added.
use Rattle.std.proofs.Common.{◌≡◌, ℕ, ◌<◌, List, [], ◌∷◌, ◌++◌, Option, Some, None, refl}
use Rattle.std.specs.Prelude.{IfSome}
use Rattle.cool_syntax.specs.declared.place.Place.{Place}
use Rattle.cool_syntax.specs.TokenFacts.{IsPlaced}
use Rattle.cool_classes.specs.declared.fault.ClassFault.{ClassFault}
use Rattle.cool_classes.specs.declared.fault.ClassKind.{ClassKind}
use Rattle.cool_classes.proofs.AllOfLists.{all_with}
use Rattle.cool_classes.specs.FaultLists.{rank, IsOfClasses}
use Rattle.cool_classes.specs.Settled.{with_fault, AddsFaults}

-- no fault is added
pub adds_none : (W : ℕ → Type 0) (fs : List ClassFault) → AddsFaults W fs fs
adds_none W fs = record { kept = λ e. e; phase = λ all. all; places = λ n w all. all }

-- faults are added one time and again
pub adds_both : (W : ℕ → Type 0) (xs ys zs : List ClassFault) → AddsFaults W xs ys → AddsFaults W ys zs → AddsFaults W xs zs
adds_both W xs ys zs f g = record {
  kept = λ e. f.kept (g.kept e);
  phase = λ all. g.phase (f.phase all);
  places = λ n w all. g.places n w (f.places n w all);
}

-- the files may be those of more
pub adds_under : (V W : ℕ → Type 0) (xs ys : List ClassFault) → ((n : ℕ) → V n → W n) → AddsFaults W xs ys → AddsFaults V xs ys
adds_under V W xs ys under f = record { kept = f.kept; phase = f.phase; places = λ n v all. f.places n (under n v) all }

-- a list with a fault is not empty
pub some_fault : (fs : List ClassFault) (f : ClassFault) → fs ++ f ∷ [] ≡ [] → ⊥
some_fault [] f e = absurd (cc)
some_fault (x ∷ xs) f e = absurd (cc)

-- one fault is added, or none
pub adds_one : (W : ℕ → Type 0) (kind : Option ClassKind) (at : Place) (fs : List ClassFault) → IfSome kind (λ k. rank k < 7) → ((n : ℕ) → W n → IsPlaced n at)
    → AddsFaults W fs (with_fault kind at fs)
adds_one W None at fs low placed = adds_none W fs
adds_one W (Some kind) at fs low placed = record {
  kept = λ e. absurd (some_fault fs (record { kind = kind; at = at }) e);
  phase = λ all. all_with IsOfClasses fs (record { kind = kind; at = at }) all low;
  places = λ n w all. all_with (λ (f : ClassFault). IsPlaced n f.at) fs (record { kind = kind; at = at }) all (placed n w);
}

-- if no fault is there, none was added
pub no_fault : (kind : Option ClassKind) (at : Place) (fs : List ClassFault) → with_fault kind at fs ≡ [] → kind ≡ None
no_fault None at fs e = refl
no_fault (Some kind) at fs e = absurd (some_fault fs (record { kind = kind; at = at }) e)
