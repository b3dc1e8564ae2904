-- `type_of_name` returns a type of the class table, because all variables and attributes in scope have types of the class table.
use Rattle.std.proofs.Common.{◌≡◌, ◌∙◌, Some, subst, sym, ap₂, rules}
use Rattle.std.specs.Prelude.{IfSome}
use Rattle.std.specs.Option.{option_or}
use Rattle.cool_rules.specs.Conformance.{IsType}
use Rattle.cool_rules.specs.Scopes.{found}
use Rattle.cool_check.proofs.TypesInScope.{found_in_either}
use Rattle.cool_check.proofs.expression.type_of_name.Goals as goal

pub returns-in-Some-clause-answer : goal.returns-in-Some-clause-answer
returns-in-Some-clause-answer c =
    let p = c.args.setting.now.table.now in
    let is : option_or (found c.args.locals.now c.args.name.now) (found c.args.setting.now.attributes.now c.args.name.now) ≡ Some c.in-Some.found =
    sym (ap₂ option_or c.find.ensures c.find-2.ensures) ∙ sym c.or.ensures ∙ c.in-Some.is in
    record {
      good = subst (λ o. IfSome o (IsType p)) is (found_in_either p c.args.locals.now c.args.setting.now.attributes.now c.args.name.now c.requires.locals c.requires.sound.types);
      typed = search rules;
      first = search rules;
      places = search rules;
    }
