-- `own_method` returns the first method of a name among the features of a class that is not basic, or none; `first_index` finds its index.
use Rattle.std.proofs.Common.{map, Some, None, sym, ◌∙◌}
use Rattle.cool_classes.specs.Chains.{features_of}
use Rattle.cool_classes.specs.FirstNames.{method_name}
use Rattle.cool_classes.proofs.OwnNamesGrow.{own_of_user, first_method_index}
use Rattle.cool_classes.proofs.own_names.own_method.Goals as goal

pub returns-in-Some : goal.returns-in-Some
returns-in-Some c p own =
    let fs = features_of p c.args.c in
    let first = c.first_index.ensures (map method_name fs) own.methods ∙ first_method_index 0 fs c.args.name.now in
    own_of_user p c.args.c c.args.name.now (Some c.in-Some.index) c.if-c-lt-BASIC_CLASSES.false (sym c.in-Some.is ∙ first)

pub returns-in-None : goal.returns-in-None
returns-in-None c p own =
    let fs = features_of p c.args.c in
    let first = c.first_index.ensures (map method_name fs) own.methods ∙ first_method_index 0 fs c.args.name.now in
    own_of_user p c.args.c c.args.name.now None c.if-c-lt-BASIC_CLASSES.false (sym c.in-None.is ∙ first)
