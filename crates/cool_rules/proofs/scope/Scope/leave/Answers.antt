-- `Scope::leave` removes the last entry, so the names in scope are those before that entry was added.
use Rattle.std.proofs.Common.{ℕ, ◌-◌, take, ap, ◌∙◌}
use Rattle.cool_rules.specs.Scopes.{left, latest_first}
use Rattle.cool_rules.proofs.ScopesInOrder.{latest_less}
use Rattle.cool_rules.proofs.scope.Scope.leave.Goals as goal

pub returns : goal.returns
returns g c =
    let es = c.self.inside.entries.items in
    ap latest_first (c.pop.ensures.rest ∙ ap (λ (n : ℕ). take (n - 1) es) c.self.inside.entries.ok.0) ∙ latest_less es ∙ ap left c.self.view_is
