use Rattle.cool_session.proofs.WordsOfCommands.{name_text}
use Rattle.cool_session.proofs.command.text_of.Goals as goal

-- the bytes of a name are text
pub unreachable-requires : goal.unreachable-requires
unreachable-requires c = c.in-Err.ensures.cases.0 (name_text c.args.name.now c.requires)
