-- `IsKeptAt` gives the result that the last check stored for a feature, and `AreNew` the number of features without one. That number bounds the calls of the
-- type checker.
use Rattle.std.specs.Prelude.{◌≡◌, ◌≢◌, ◌⊎◌, ℕ, zero, suc, ◌≤◌, List, [], ◌∷◌, map, length, take, get_or, Option, Some, None}
use Rattle.std.specs.Borrow.{Bor}
use Rattle.std.specs.Option.{option_map}
use Rattle.cool_syntax.specs.declared.token.Token.{Token}
use Rattle.cool_syntax.specs.declared.token.TokenKind.{TokenKind}
use Rattle.cool_classes.specs.Chains.{Class}
use Rattle.cool_check.specs.Calls.{called}
use Rattle.cool_faults.specs.declared.fault.Untyped.{Untyped}
use Rattle.cool_session.specs.declared.base.Base.{Base}
use Rattle.cool_session.specs.declared.base.KeptFault.{KeptFault}
use Rattle.cool_session.specs.Bases.{tokens_of, views, seen}
use Rattle.cool_session.specs.FeatureTokens.{kinds, runs_of}
use Rattle.cool_session.specs.Fresh.{Types}
use Rattle.cool_session.specs.Fresh as fresh

-- the tokens of the features of files before typing
abbrev pub runs_seen : Untyped → List (List Token)
runs_seen u = runs_of (tokens_of u.lexed.items)

abbrev pub kinds_seen : Untyped → List (List TokenKind)
kinds_seen u = map kinds (runs_seen u)

-- the result stored in a base for a feature of these tokens at this position
abbrev pub IsKeptAt : Option (Bor Base) → ℕ → List Token → Option KeptFault → Type 0
IsKeptAt None i tokens kept = ⊥
IsKeptAt (Some base) i tokens kept = (kinds tokens ≡ kinds (get_or (runs_seen base.now.untyped) i [])) × (kept ≡ get_or base.now.faults.items i None)

-- no result is stored in a base for a feature of these tokens at this position
abbrev pub IsNewAt : Option (Bor Base) → ℕ → List Token → Type 0
IsNewAt None i tokens = Unit {0}
IsNewAt (Some base) i tokens = kinds tokens ≢ kinds (get_or (runs_seen base.now.untyped) i [])

-- so many items differ from those at the same positions
abbrev pub DifferBy : {X : Type 0} → List X → List X → ℕ → Type 0
DifferBy [] [] n = n ≡ 0
DifferBy [] (y ∷ ys) n = ⊥
DifferBy (x ∷ xs) [] n = ⊥
DifferBy (x ∷ xs) (y ∷ ys) n = ((x ≡ y) × DifferBy xs ys n) ⊎ ((x ≢ y) × ((m : ℕ) × (n ≡ suc m) × DifferBy xs ys m))

-- so many of the first features have no stored result
abbrev pub AreNew : Option (Bor Base) → List (List TokenKind) → ℕ → ℕ → Type 0
AreNew None now i n = n ≡ i
AreNew (Some base) now i n = DifferBy (take i (kinds_seen base.now.untyped)) (take i now) n

-- the base, if its classes are those of the table, and else none
abbrev pub IsUsed : Option Base → Option (Bor Base) → List Class → Type 0
IsUsed None None p = Unit {0}
IsUsed None (Some used) p = ⊥
IsUsed (Some base) None p = views base.untyped.classes ≢ views p
IsUsed (Some base) (Some used) p = (used.now ≡ base) × (views base.untyped.classes ≡ views p)

-- a base as it is seen in contracts
abbrev pub base_seen : Option Base → Option fresh.Base
base_seen = option_map (λ (base : Base). seen base.untyped)

-- the number of calls after so many more; after none, it is unchanged
abbrev pub calls_after : ℕ → ℕ → ℕ
calls_after zero before = before
calls_after (suc n) before = called (suc n) before

-- The type checker was called so often, and no more often than there are features without a stored result.
pub record IsAskedAtMost (base : Option (Bor Base)) (now : List (List TokenKind)) (before after : ℕ) : Type 0 where
  pub number : ℕ
  pub asked : after ≡ calls_after number before
  pub most : (all : ℕ) → AreNew base now (length now) all → number ≤ all

-- The type checker was called so often, and no more often than a check types features (`Types`).
pub record IsAskedWithin (files : List (List ℕ)) (base : Option fresh.Base) (before after : ℕ) : Type 0 where
  pub number : ℕ
  pub asked : after ≡ calls_after number before
  pub most : (count : ℕ) (now : Option fresh.Base) → Types files base count now → number ≤ count
