-- In the loop of `has_option`, one of all arguments is an option exactly if one of the arguments not yet tested is.
use Rattle.std.proofs.Common.{◌≡◌, drop}
use Rattle.std.specs.List.{list_any}
use Rattle.cool_sources.specs.CommandLine.{is_option, words_of}
use Rattle.cool_sources.proofs.command_line.has_option.Given as goal

abbrev pub invariant-loop-word : goal.invariant-loop-word
invariant-loop-word l = list_any is_option (words_of (drop l.word-index l.words)) ≡ list_any is_option (words_of l.words)
