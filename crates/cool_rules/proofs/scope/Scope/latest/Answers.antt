-- `Scope::latest` returns the last entry, which is the first name in scope, because a contract sees the entries with the last one first.
use Rattle.std.proofs.Common.{◌-◌, List, length, ap, sym, ◌∙◌}
use Rattle.std.specs.Prelude.{slice_get}
use Rattle.std.specs.Option.{option_map}
use Rattle.cool_rules.specs.Scopes.{Bound, binding_of}
use Rattle.cool_rules.specs.declared.scope.Entry.{Entry}
use Rattle.cool_rules.proofs.ScopesInOrder.{last_is}
use Rattle.cool_rules.proofs.scope.Scope.latest.Goals as goal

pub returns : goal.returns
returns g c =
    ap (option_map binding_of) (c.copied.ensures ∙ c.last.ensures.value ∙ ap (λ (es : List (Entry _)). slice_get es (length es - 1)) c.deref.ensures.value)
    ∙ sym (last_is c.self.inside.entries.items) ∙ ap (λ (vs : List (Bound _)). slice_get vs 0) c.self.view_is
