-- `copy_words` returns exactly the assembly code that `copy_words_lines` of `Routines.antt` defines, which copies the words of an object in a loop.
use Rattle.cool_runtime.specs.Labels.{copy_end, copy_words}
use Rattle.cool_runtime.proofs.routine_part.copy_words.Goals as goal

pub returns : goal.returns
unfolding copy_end copy_words
returns c = cc
