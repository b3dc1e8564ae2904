-- If `Store::load` fails at one location, `Store::load_all` returns that error, which `AreLoaded` of `Configurations.antt` allows for the whole list.
use Rattle.std.proofs.Common.{◌≡◌, Err, rules}
use Rattle.cool_eval.proofs.LoadedValues.{failed_on}
use Rattle.cool_eval.proofs.store.Store.load_all.Goals as goal

pub returns-in_err-load-clause-loaded : goal.returns-in_err-load-clause-loaded
returns-in_err-load-clause-loaded c =
    let same : c.from_residual.result ≡ Err c.in_err-load.field-0.0 = search rules in
    failed_on c.args.self.now.values c.args.first c.loop.location c.args.count c.loop.counter c.loop.values c.in_err-load.field-0.0 c.from_residual.result
    same c.loop-test.true c.loop.invariant c.in_err-load.ensures.loaded
