-- `NamingSetting::variable` returns the latest local variable of a name, or the attribute of the name if there is no local variable.
use Rattle.std.proofs.Common.{Option, ap, sym, ◌∙◌}
use Rattle.std.specs.Prelude.{option_map}
use Rattle.std.specs.Option.{option_or}
use Rattle.cool_rules.specs.Scopes.{found}
use Rattle.cool_names.specs.Scopes.{Variable, variable_of, variables}
use Rattle.cool_names.proofs.FoundVariables.{found_variable}
use Rattle.cool_names.proofs.naming_setting.NamingSetting.variable.Goals as goal

pub returns-in-Some : goal.returns-in-Some
returns-in-Some c =
    let attributes = found (variables c.args.self.now.attributes.now) c.args.name.now in
    let same = sym (found_variable c.args.locals.now c.args.name.now) ∙ ap (option_map variable_of) (sym c.find.ensures ∙ c.in-Some.is) in
    sym (ap (λ (o : Option Variable). option_or o attributes) same)

pub returns-in-None : goal.returns-in-None
returns-in-None c =
    let attributes = found (variables c.args.self.now.attributes.now) c.args.name.now in
    let none = sym (found_variable c.args.locals.now c.args.name.now) ∙ ap (option_map variable_of) (sym c.find.ensures ∙ c.in-None.is) in
    ap (option_map variable_of) c.find-in-None.ensures ∙ found_variable c.args.self.now.attributes.now c.args.name.now ∙ sym (ap (λ (o : Option Variable). option_or o attributes) none)
