-- The loop of `no_children` has added one empty list in each step.
use Rattle.std.proofs.Common.{◌≡◌, [], length}
use Rattle.std.specs.Prelude.{All}
use Rattle.cool_layout.proofs.order.no_children.Given as goal

abbrev pub invariant-loop : goal.invariant-loop
invariant-loop l = (length l.all.items ≡ l.counter) × All (λ v. v.items ≡ []) l.all.items
