use Rattle.mips_text.proofs.WordsBehind.{behind_taken}
use Rattle.mips_text.proofs.words.cut_behind.Goals as goal

pub returns-clause-behind : goal.returns-clause-behind
returns-clause-behind c = behind_taken c.args.found.after c.args.tail.now
