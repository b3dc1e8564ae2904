-- `IsOfPresent` says that the stored check is of the current files if the session's flag says so.
use Rattle.std.specs.Prelude.{ℕ, List, Option, Some, None, Bool, true, false}
use Rattle.cool_session.specs.declared.base.Base.{Base}
use Rattle.cool_session.specs.KeptChecks.{IsBaseOf}

-- if the flag says that a base is of the present files, it is
abbrev pub IsOfPresent : Bool → List (List ℕ) → Option Base → Type 0
IsOfPresent true files None = ⊥
IsOfPresent true files (Some base) = IsBaseOf files base.untyped base.faults.items
IsOfPresent false files base = Unit {0}
