use Rattle.std.proofs.Common.{◌≡◌, ◌+◌, ◌++◌, map, Err, ap, ◌∙◌, rules}
use Rattle.cool_eval.specs.Values.{value_of, locations_from}
use Rattle.cool_eval.proofs.CopiedObjects.{copy_failed, copy_made}
use Rattle.cool_eval.proofs.basic.copy_object.Goals as goal

pub returns-in_err-values-clause-value : goal.returns-in_err-values-clause-value
returns-in_err-values-clause-value c = λ p input output n.
    let same : c.from_residual.result ≡ Err c.in_err-values.field-0.0 = search rules in
    let o = c.args.object.now in
    rw same (copy_failed c.in_err-values.field-0.0 p o.class o.identity (locations_from o.first o.count) c.args.store.now input output n c.in_err-values.ensures.loaded)

pub returns-clause-value : goal.returns-clause-value
returns-clause-value c = λ p input output n.
    let o = c.args.object.now in
    let old = c.args.store.now in
    let new = c.draw.new.self in
    let found = c.in_ok-values.values.items in
    let drawn_is : c.in_ok-identity.identity ≡ old.drawn = c.in_ok-identity.ensures.drawn.0 ∙ c.in_ok-locate_all.ensures.drawn in
    let values_is : new.values ≡ old.values ++ map value_of found = c.in_ok-identity.ensures.values ∙ c.in_ok-locate_all.ensures.values in
    let next_is : new.drawn ≡ old.drawn + 1 = c.in_ok-identity.ensures.drawn.1 ∙ ap (λ k. k + 1) c.in_ok-locate_all.ensures.drawn in
    copy_made p o.class o.identity o.first o.count found old new input output n c.len-first.result c.in_ok-identity.identity c.in_ok-values.ensures.loaded c.len-first.ensures drawn_is values_is next_is
