-- In the loop of `Store::load_all`, the values so far, followed by those at the locations that are left, are the values at all locations.
use Rattle.std.proofs.Common.{◌≡◌, ◌-◌, ◌++◌, map, Some}
use Rattle.std.specs.Prelude.{slice_get}
use Rattle.cool_eval.specs.Values.{value_of, locations_from}
use Rattle.cool_eval.proofs.store.Store.load_all.Given as goal

abbrev pub invariant-loop : goal.invariant-loop
invariant-loop l =
    map (slice_get l.self.values) (locations_from l.first l.count)
    ≡ map (λ v. Some (value_of v)) l.values.items ++ map (slice_get l.self.values) (locations_from l.location (l.count - l.counter))
