use Rattle.std.proofs.Common.{sym, ◌∙◌, arith}
use Rattle.std.specs.Prelude.{option_map}
use Rattle.mips_text.specs.Views.{found_seen, word_seen}
use Rattle.mips_text.proofs.WordsBehind.{word_first}
use Rattle.mips_text.proofs.words.next_word.Goals as goal

pub returns-in-Word-clause-exact : goal.returns-in-Word-clause-exact
returns-in-Word-clause-exact c =
    c.loop-rest.invariant.same ∙ word_first c.loop-rest.rest.now c.in-Word.start (option_map found_seen c.front_at.result) (word_seen c.cut_at.result.word) c.cut_at.result.behind.now (omega arith) (sym c.class_of.ensures ∙ c.in-Word.is) c.front_at.ensures.exact c.cut_at.ensures.exact
