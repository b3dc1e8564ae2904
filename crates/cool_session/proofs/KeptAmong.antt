-- A check stores as many results as there are features, and each stored error is at a token of its feature.
use Rattle.std.proofs.Common.{◌≡◌, ℕ, ◌<◌, List, [], length, get_or, Option, Some}
use Rattle.std.proofs.Math.Logic.{∥∥₁_elim, ∥∥₁_map}
use Rattle.std.proofs.Props.{props}
use Rattle.cool_lexer.specs.declared.lexer.Lexed.{Lexed}
use Rattle.cool_check.specs.FirstFaults.{Checked}
use Rattle.cool_faults.specs.declared.fault.Untyped.{Untyped}
use Rattle.cool_session.specs.declared.base.KeptFault.{KeptFault}
use Rattle.cool_session.specs.Bases.{tokens_of}
use Rattle.cool_session.specs.FeatureTokens.{runs_of}
use Rattle.cool_session.specs.KeptChecks.{AreKeptAmong, IsBase, results_of}
use Rattle.cool_session.specs.KeptFaults.{AreKeptOf}
use Rattle.cool_session.proofs.FeaturesKept.{many_kept, kept_within}

-- this is stored for some results
abbrev Among : List Lexed → List (Option KeptFault) → Type 0
Among ls kept = (rs : List (Checked (Unit {0}))) × AreKeptOf (runs_of (tokens_of ls)) rs kept

pub many_among : (ls : List Lexed) (kept : List (Option KeptFault)) → AreKeptAmong ls kept → length kept ≡ length (runs_of (tokens_of ls))
many_among ls kept h = ∥∥₁_elim h (hlevel props) (λ (a : Among ls kept). (many_kept (runs_of (tokens_of ls)) a.0 kept a.1).1)

pub within_among : (ls : List Lexed) (kept : List (Option KeptFault)) → AreKeptAmong ls kept → (i : ℕ) (d : Option KeptFault) (fault : KeptFault)
    → i < length kept → get_or kept i d ≡ Some fault → fault.token < length (get_or (runs_of (tokens_of ls)) i [])
within_among ls kept h i d fault less is =
    ∥∥₁_elim h (hlevel props) (λ (a : Among ls kept). kept_within (runs_of (tokens_of ls)) a.0 kept i d fault a.1 less is)

-- the results in a base
pub kept_among : (u : Untyped) (kept : List (Option KeptFault)) → ∥ IsBase u kept ∥₁ → AreKeptAmong u.lexed.items kept
kept_among u kept h = ∥∥₁_map h (λ (b : IsBase u kept). (results_of b.base.read.trees, b.base.kept))
