use Rattle.cool_meaning.proofs.LongerRuns.{longer_over, longer_extends}
use Rattle.cool_meaning.proofs.SoundRuns.{never_stuck}
use Rattle.cool_meaning.proofs.laws.law_longer.Goals as goal

pub returns : goal.returns
returns c = record {
  over = longer_over;
  further = λ p typed names input n k. longer_extends p names input (never_stuck p typed names input) n k;
}
