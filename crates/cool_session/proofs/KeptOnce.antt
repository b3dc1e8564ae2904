-- The statement that a stored result is that of a feature has at most one proof.
use Rattle.std.proofs.Common.{List, Option}
use Rattle.std.proofs.Props.{props}
use Rattle.cool_syntax.specs.declared.token.Token.{Token}
use Rattle.cool_check.specs.FirstFaults.{Checked}
use Rattle.cool_session.specs.declared.base.KeptFault.{KeptFault}
use Rattle.cool_session.specs.KeptFaults.{IsKeptOf}

pub kept_prop : (tokens : List Token) (result : Checked (Unit {0})) (kept : Option KeptFault) → IsProp (IsKeptOf tokens result kept)
kept_prop tokens result kept = hlevel props
