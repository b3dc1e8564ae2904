-- In the loop of `definitions_of`, the class definitions so far, followed by those of the files that are left, are the definitions of all files.
use Rattle.std.proofs.Common.{◌≤◌, List, drop, length}
use Rattle.std.specs.List.{AllByRecursion}
use Rattle.cool_syntax.specs.declared.TheConstants.{MOST_SOURCE_BYTES}
use Rattle.cool_syntax.specs.declared.file_tree.FileTree.{FileTree}
use Rattle.cool_classes.specs.Definitions.{definitions}
use Rattle.cool_listings.specs.Ends.{AreTrees}
use Rattle.cool_listings.proofs.TreesOfTokens.{GoOn}
use Rattle.cool_listings.proofs.files.definitions_of.Given as goal

abbrev pub invariant-loop-file : goal.invariant-loop-file
invariant-loop-file l = record {
  few : AllByRecursion (λ file. length file.tokens.items ≤ MOST_SOURCE_BYTES) (drop l.file-index l.files);
  goes_on : (trees : List FileTree) → AreTrees l.files trees → GoOn (drop l.file-index l.files) l.all.items (definitions trees);
}
