-- `Scope::enter` puts a name in front of those in scope: it adds the last entry, and a contract sees the entries with the last one first.
use Rattle.std.proofs.Common.{ap, ◌∙◌, ℕ, List, ◌∷◌}
use Rattle.cool_rules.specs.Scopes.{Bound, latest_first}
use Rattle.cool_rules.proofs.ScopesInOrder.{latest_more}
use Rattle.cool_rules.proofs.scope.Scope.enter.Goals as goal

pub returns : goal.returns
returns g c =
    let name = ap (λ (n : List ℕ). record { name = n; value = c.args.value } ∷ latest_first c.self.inside.entries.items) c.as_slice.ensures in
    ap latest_first c.in_ok-push.ensures.items ∙ latest_more c.self.inside.entries.items _ ∙ name ∙ ap (λ (bs : List (Bound _)). record { name = c.args.name.now; value = c.args.value } ∷ bs) c.self.view_is
