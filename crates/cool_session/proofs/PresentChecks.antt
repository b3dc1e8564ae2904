-- A check of unchanged files types no feature, and its list of errors is that of the stored check, with source locations in the files.
use Rattle.std.proofs.Common.{◌≡◌, ℕ, ◌<◌, List, Option, Some, None, IfSome, Bool, true, length, refl, sym, subst, arith}
use Rattle.std.specs.Global.{Vec}
use Rattle.std.specs.List.{AllByRecursion}
use Rattle.cool_syntax.specs.TokenFacts.{IsPlaced}
use Rattle.cool_faults.specs.declared.fault.Fault.{Fault}
use Rattle.cool_faults.specs.Files.{bytes_of}
use Rattle.cool_faults.specs.Verdicts.{IsFaultList, place_of}
use Rattle.cool_faults.proofs.VerdictsOfPhases.{as_many_files}
use Rattle.cool_session.specs.declared.base.Base.{Base}
use Rattle.cool_session.specs.declared.reply.Reply.{Reply}
use Rattle.cool_session.specs.Bases.{seen}
use Rattle.cool_session.specs.Fresh.{IsFresh, edited, Types, typed}
use Rattle.cool_session.specs.KeptChecks.{IsBaseOf}
use Rattle.cool_session.specs.KeptFaults.{AreFaultsOf, faults_kept}
use Rattle.cool_session.specs.NewFeatures.{base_seen, runs_seen}
use Rattle.cool_session.specs.PresentFiles.{IsOfPresent}
use Rattle.cool_session.proofs.BasesAgain.{base_again}
use Rattle.cool_session.proofs.ChecksOfFiles.{listed}
use Rattle.cool_session.proofs.EditsChecked.{none_differs}
use Rattle.cool_session.proofs.PlacedFaults.{listed_there}
use Rattle.cool_session.proofs.TypedFiles.{are_typed}

-- a base that is said to be of the present files is
pub present : (is_current : Bool) (files : List (List ℕ)) (held : Option Base) (base : Base) → is_current ≡ true → held ≡ Some base
    → ∥ IsOfPresent is_current files held ∥₁ → ∥ IsBaseOf files base.untyped base.faults.items ∥₁
present is_current files held base is there h =
    subst (λ (b : Option Base). ∥ IsOfPresent true files b ∥₁) there (subst (λ (c : Bool). ∥ IsOfPresent c files held ∥₁) is h)

module _ (items : List (Vec ℕ)) (base : Base) (h : ∥ IsBaseOf (bytes_of items) base.untyped base.faults.items ∥₁) where
  of_files : IsBaseOf (bytes_of items) base.untyped base.faults.items
  of_files = base_again (bytes_of items) base.untyped base.faults.items h

  pub faults_present : (faults : List Fault) → AreFaultsOf (faults_kept (runs_seen base.untyped) base.faults.items) faults
      → IsFaultList (bytes_of items) faults
  faults_present faults are =
      listed (bytes_of items) base.untyped.lexed.items base.untyped.classes of_files.read base.faults.items faults of_files.kept are

  pub placed_present : 0 < length items → (faults : List Fault) → AreFaultsOf (faults_kept (runs_seen base.untyped) base.faults.items) faults
      → AllByRecursion (λ (f : Fault). IsPlaced (length items) (place_of f)) faults
  placed_present few faults are =
      let many = as_many_files items in
      let some : 0 < length (bytes_of items) = omega (arith, many, few) in
      subst (λ (n : ℕ). AllByRecursion (λ (f : Fault). IsPlaced n (place_of f)) faults) many
      (listed_there (bytes_of items) base.untyped.lexed.items base.untyped.classes of_files.read some base.faults.items faults are)

  pub typed_present : (held : Option Base) (old : Base) → held ≡ Some old → (n : ℕ) → IsFresh (seen base.untyped) (Some (seen old.untyped)) n
      → Types (bytes_of items) (base_seen held) n (Some (seen base.untyped))
  typed_present held old is n fresh =
      subst (λ (b : Option Base). Types (bytes_of items) (base_seen b) n (Some (seen base.untyped))) (sym is)
      (typed (seen base.untyped) n (are_typed (bytes_of items) base.untyped of_files.read) fresh)

  -- no feature is typed over the same base
  pub none_typed : (held : Option Base) → held ≡ Some base → (n : ℕ) → n ≡ 0
      → Types (bytes_of items) (base_seen held) n (Some (seen base.untyped))
  none_typed held is n none =
      let now = seen base.untyped in
      subst (λ (m : ℕ). Types (bytes_of items) (base_seen held) m (Some now)) (sym none)
      (typed_present held base is 0 (edited now 0 refl (none_differs now.features now.features refl)))

-- A check over a base that replies

module _ (given items : List (Vec ℕ)) (same : given ≡ items) (base : Base) where
  there : ∥ IsBaseOf (bytes_of given) base.untyped base.faults.items ∥₁ → ∥ IsBaseOf (bytes_of items) base.untyped base.faults.items ∥₁
  there = subst (λ (fs : List (Vec ℕ)). ∥ IsBaseOf (bytes_of fs) base.untyped base.faults.items ∥₁) same

  pub faults_replied : (reply : Option Reply) → IfSome reply (λ r. ∥ IsBaseOf (bytes_of given) base.untyped base.faults.items ∥₁)
      → IfSome reply (λ (r : Reply). AreFaultsOf (faults_kept (runs_seen base.untyped) base.faults.items) r.faults.items)
      → IfSome reply (λ (r : Reply). IsFaultList (bytes_of items) r.faults.items)
  faults_replied None h are = tt
  faults_replied (Some r) h are = faults_present items base (there h) r.faults.items are

  pub placed_replied : 0 < length items → (reply : Option Reply)
      → IfSome reply (λ r. ∥ IsBaseOf (bytes_of given) base.untyped base.faults.items ∥₁)
      → IfSome reply (λ (r : Reply). AreFaultsOf (faults_kept (runs_seen base.untyped) base.faults.items) r.faults.items)
      → IfSome reply (λ (r : Reply). AllByRecursion (λ (f : Fault). IsPlaced (length items) (place_of f)) r.faults.items)
  placed_replied few None h are = tt
  placed_replied few (Some r) h are = placed_present items base (there h) few r.faults.items are

  pub typed_replied : (held : Option Base) (old : Base) → held ≡ Some old → (reply : Option Reply)
      → IfSome reply (λ r. ∥ IsBaseOf (bytes_of given) base.untyped base.faults.items ∥₁)
      → IfSome reply (λ (r : Reply). IsFresh (seen base.untyped) (Some (seen old.untyped)) r.typed)
      → IfSome reply (λ (r : Reply). Types (bytes_of items) (base_seen held) r.typed (Some (seen base.untyped)))
  typed_replied held old is None h fresh = tt
  typed_replied held old is (Some r) h fresh = typed_present items base (there h) held old is r.typed fresh
