-- `type_meant` returns the type that has a name, or Object if no type has this name, as `type_meant` of `Rules.antt` does.
use Rattle.std.proofs.Common.{ap, Some, None}
use Rattle.std.specs.Prelude.{unwrap_or}
use Rattle.cool_classes.specs.declared.class_id.Ty.TheVariants.{Class as IsClass}
use Rattle.cool_classes.specs.Chains.{class_number}
use Rattle.cool_rules.specs.Rules.{type_meant}
use Rattle.cool_rules.proofs.RulesOfTables.{type_of_name_is}
use Rattle.cool_rules.proofs.meant.type_meant.Goals as goal

pub returns-in-Some-clause-meant : goal.returns-in-Some-clause-meant
unfolding type_meant
returns-in-Some-clause-meant c =
    ap (λ o. unwrap_or o (IsClass (class_number 0))) (type_of_name_is c.args.t.now c.args.name.now (Some c.in-Some.ty) c.requires c.in-Some.ensures.named)

pub returns-in-None-clause-meant : goal.returns-in-None-clause-meant
unfolding type_meant
returns-in-None-clause-meant c =
    ap (λ o. unwrap_or o (IsClass (class_number 0))) (type_of_name_is c.args.t.now c.args.name.now None c.requires c.in-None.ensures.named)
