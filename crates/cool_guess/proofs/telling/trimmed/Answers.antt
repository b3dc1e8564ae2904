-- `trimmed` returns the text without the white space around it.
use Rattle.cool_guess.proofs.TrimmedTexts.{trimmed_is}
use Rattle.cool_guess.proofs.telling.trimmed.Goals as goal

pub returns : goal.returns
returns c = trimmed_is c.args.text.now c.trim_ascii.result.now c.trim_ascii.ensures.value
