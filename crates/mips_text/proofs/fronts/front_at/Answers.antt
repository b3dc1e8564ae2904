use Rattle.std.proofs.Common.{◌∙◌, sym}
use Rattle.mips_text.proofs.FrontsAreLongest.{front_is}
use Rattle.mips_text.proofs.fronts.front_at.Goals as goal

pub returns-clause-exact : goal.returns-clause-exact
returns-clause-exact c = c.found_at.ensures.exact ∙ sym (front_is c.args.start c.args.first c.args.tail.now)
