-- In the loop of `token_lines`, the text so far, followed by the lines of the files that are left, is the text of all files.
use Rattle.std.proofs.Common.{ℕ, List, ◌++◌, drop}
use Rattle.cool_faults.specs.Files.{bytes_of}
use Rattle.cool_listings.specs.EachFile.{IsOfEach}
use Rattle.cool_listings.specs.TokenLines.{AreTokensOf}
use Rattle.cool_listings.proofs.PiecesOfFiles.{GoesOn}
use Rattle.cool_listings.proofs.tokens.token_lines.Given as goal

abbrev pub invariant-loop-index : goal.invariant-loop-index
invariant-loop-index l = GoesOn AreTokensOf (bytes_of l.fn.files) l.index (bytes_of (drop l.index l.fn.files)) l.text.items
