use Rattle.cool_meaning.proofs.SoundRuns.{never_stuck}
use Rattle.cool_meaning.proofs.laws.law_sound.Goals as goal

pub returns : goal.returns
returns c = never_stuck
