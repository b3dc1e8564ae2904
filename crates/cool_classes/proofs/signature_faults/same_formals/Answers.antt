-- `same_formals`, which compares the declared types of two lists of formal parameters, returns false for lists of different lengths, as `same_types` does.
use Rattle.std.proofs.Common.{◌∙◌}
use Rattle.std.proofs.lemmas.List.{length-map}
use Rattle.cool_syntax.specs.declared.file_tree.Formal.{Formal}
use Rattle.cool_classes.specs.FeatureFaults.{declared_types}
use Rattle.cool_classes.proofs.SameTypes.{formals_differ}
use Rattle.cool_classes.proofs.signature_faults.same_formals.Goals as goal

pub returns-then-left-right : goal.returns-then-left-right
returns-then-left-right c = formals_differ c.args.left.now (declared_types c.args.right.now) (λ e. c.if-left-right.true (e ∙ length-map c.args.right.now (λ (f : Formal). f.declared.name)))
