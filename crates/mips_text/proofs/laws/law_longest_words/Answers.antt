use Rattle.mips_text.proofs.LongestWordsAreThere.{word_there}
use Rattle.mips_text.proofs.laws.law_longest_words.Goals as goal

pub returns : goal.returns
returns c = word_there
