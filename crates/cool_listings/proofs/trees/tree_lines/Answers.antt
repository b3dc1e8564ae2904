-- `tree_lines` returns the lines of the syntax trees with the types of all expressions if the files are accepted as a program, and without types otherwise.
use Rattle.std.proofs.Common.{subst}
use Rattle.cool_faults.specs.Files.{bytes_of}
use Rattle.cool_faults.specs.Verdicts.{IsVerdict}
use Rattle.cool_listings.specs.TreeLines as lines
use Rattle.cool_listings.proofs.TreesOfFiles.{if_ok}
use Rattle.cool_listings.proofs.trees.tree_lines.Goals as goal

pub returns-in-Accepted : goal.returns-in-Accepted
returns-in-Accepted c =
    let accepted = subst (IsVerdict (bytes_of c.args.files.now)) c.in-Accepted.is c.in_ok-program.ensures.verdict in
    if_ok c.files_text.result (λ text are. lines.typed c.in-Accepted.program accepted are) c.files_text.ensures

pub returns : goal.returns
returns c =
    let refused = subst (IsVerdict (bytes_of c.args.files.now)) c.in-Refused.is c.in_ok-program.ensures.verdict in
    if_ok c.files_text-in-Refused.result (λ text are. lines.untyped _ refused are) c.files_text-in-Refused.ensures
