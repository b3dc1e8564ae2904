-- `Scope::count` returns the number of names in scope, because each entry of the scope is one of them.
use Rattle.std.proofs.Common.{length, ap, sym, ◌∙◌}
use Rattle.cool_rules.proofs.ScopesInOrder.{as_many}
use Rattle.cool_rules.proofs.scope.Scope.count.Goals as goal

pub returns : goal.returns
returns g c = c.len.ensures ∙ c.self.inside.entries.ok.0 ∙ sym (as_many c.self.inside.entries.items) ∙ ap length c.self.view_is
