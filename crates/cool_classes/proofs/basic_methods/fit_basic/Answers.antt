-- `fit_basic`, which compares declared formal parameters with those of a basic method, returns false if their numbers differ, as `same_types` does.
use Rattle.std.proofs.Common.{length, ap, sym, ◌∙◌}
use Rattle.std.proofs.lemmas.List.{length-map}
use Rattle.cool_classes.specs.Chains.{name_of}
use Rattle.cool_classes.specs.Features.{basic_formals}
use Rattle.cool_classes.specs.Tables.{basic_classes}
use Rattle.cool_classes.proofs.SameTypes.{formals_differ}
use Rattle.cool_classes.proofs.basic_methods.fit_basic.Goals as goal

pub returns-then-formals-wanted : goal.returns-then-formals-wanted
returns-then-formals-wanted c =
    formals_differ c.args.formals.now (basic_formals c.args.method)
    (λ e. c.if-formals-wanted.true (e ∙ sym (ap length c.signature.ensures.formals) ∙ length-map c.signature.result.formals.now (name_of basic_classes)))
