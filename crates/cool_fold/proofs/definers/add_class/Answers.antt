-- `add_class` adds a class to the classes that define each of its own methods. A class that is not basic has the methods among its features, which
-- `add_features` adds.
use Rattle.std.proofs.Common.{◌≤◌, ◌∙◌, ap, sym, is_some, arith}
use Rattle.std.specs.List.{list_any}
use Rattle.cool_classes.specs.Features.{is_method_named, own_method}
use Rattle.cool_fold.proofs.DefinersGrow.{adds_alike, own_features}
use Rattle.cool_fold.proofs.definers.add_class.Goals as goal

pub returns-else-class-lt5 : goal.returns-else-class-lt5
returns-else-class-lt5 c =
    let p = c.args.table.now in
    let k = c.args.class in
    let least : 5 ≤ k.0 = omega (arith, c.if-class-lt5.false) in
    adds_alike c.add_features.result k (λ name. list_any (is_method_named name) c.features.result.now) (λ name. is_some (own_method p k name))
    c.args.by_name.now.entries c.add_features.new.by_name.entries
    (λ name. ap (list_any (is_method_named name)) c.features.ensures.features ∙ sym (own_features p k name least)) c.add_features.ensures
