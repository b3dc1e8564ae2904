-- The loop of `Scope::find` has not found the name yet: searching only the entries before position `index` gives the same value as searching all of them.
use Rattle.std.proofs.Common.{◌≡◌, take}
use Rattle.cool_rules.specs.Scopes.{found, latest_first}
use Rattle.cool_rules.proofs.scope.Scope.find.Given as goal

abbrev pub invariant-loop-index : goal.invariant-loop-index
invariant-loop-index g l = found l.self l.name ≡ found (latest_first (take l.index l.self-inside.entries.items)) l.name
