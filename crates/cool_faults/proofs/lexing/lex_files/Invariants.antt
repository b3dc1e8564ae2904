-- In the loop of `lex_files`, the tokens and errors of the files so far, followed by those of the files that are left, are those of all files.
use Rattle.std.proofs.Common.{drop}
use Rattle.cool_faults.specs.Files.{bytes_of}
use Rattle.cool_faults.specs.Phases.{IsLexed, IsLexical}
use Rattle.cool_faults.proofs.FindingsInARow.{GoesOn}
use Rattle.cool_faults.proofs.lexing.lex_files.Given as goal

abbrev pub invariant-loop-index : goal.invariant-loop-index
invariant-loop-index l = GoesOn IsLexed IsLexical (bytes_of l.fn.files) l.index (bytes_of (drop l.index l.fn.files)) l.found
