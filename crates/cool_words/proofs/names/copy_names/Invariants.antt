use Rattle.std.proofs.Common.{◌≡◌, take}
use Rattle.clap.specs.Walk.{texts}
use Rattle.cool_words.specs.Plans.{words_of}
use Rattle.cool_words.proofs.names.copy_names.Given as goal

-- the names so far were copied
abbrev pub invariant-loop-name : goal.invariant-loop-name
invariant-loop-name l = words_of l.copies.items ≡ texts (take l.name-index l.names)
