use Rattle.cool_simulation.proofs.theorem.FoldedImages.{folded_images_mean}
use Rattle.cool_simulation.proofs.laws.law_folded_means.Goals as goal

pub returns : goal.returns
returns c = folded_images_mean
