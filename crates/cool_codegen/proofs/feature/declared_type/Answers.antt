-- `declared_type` returns the type that the declared name of an attribute denotes (`type_meant`), because `attribute_type` does.
use Rattle.cool_rules.proofs.RulesOfTables.{type_meant_is}
use Rattle.cool_codegen.proofs.feature.declared_type.Goals as goal

pub returns-clause-attribute : goal.returns-clause-attribute
returns-clause-attribute c = type_meant_is c.args.table.now _ _ c.requires.whole.table c.attribute_type.ensures
