use Rattle.std.proofs.Common.{◌∙◌, Some, None}
use Rattle.clap.specs.Words.{found_of}
use Rattle.cool_words.proofs.FoundValues.{flag_there}
use Rattle.cool_words.proofs.reading.is_set.Goals as goal

pub returns-in-Some : goal.returns-in-Some
returns-in-Some c = c.eq.ensures ∙ flag_there (found_of c.args.matches.now) c.args.flag.now (Some c.in-Some.text.now) c.in-Some.ensures

pub returns-in-None : goal.returns-in-None
returns-in-None c = flag_there (found_of c.args.matches.now) c.args.flag.now None c.in-None.ensures
