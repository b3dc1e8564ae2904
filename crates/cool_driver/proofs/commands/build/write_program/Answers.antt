use Rattle.cool_words.specs.Plans.{words_of}
use Rattle.cool_words.proofs.FileNames.{short_names}
use Rattle.cool_driver.proofs.commands.build.write_program.Goals as goal

-- the names are short
pub lines-requires-clause-names : goal.lines-requires-clause-names
lines-requires-clause-names c = short_names (words_of c.args.names.now) c.requires.names

pub build-requires-clause-names : goal.build-requires-clause-names
build-requires-clause-names c = short_names (words_of c.args.names.now) c.requires.names
