-- Each step of the loop of `parse_files` adds the syntax tree or the syntax error of the next file, as the parser returns it.
use Rattle.std.proofs.Common.{◌+◌, drop}
use Rattle.std.proofs.lemmas.List.{drop_all}
use Rattle.cool_faults.specs.Phases.{IsParsed, IsSyntactic}
use Rattle.cool_faults.proofs.FindingsInARow.{found_more, found_end, outcome_found}
use Rattle.cool_faults.proofs.parsing.parse_files.Goals as goal
use Rattle.lists.proofs.ItemsLeft.{drop_one}

pub loop-index-preserved : goal.loop-index-preserved
loop-index-preserved c =
    let files = c.args.files.now in
    let i = c.loop-index.index in
    let here = drop_one files i c.index-files-index.result c.loop-index-test.true c.index-files-index.is in
    found_more IsParsed IsSyntactic files i (drop i files) (drop (i + 1) files) c.index-files-index.result c.loop-index.found c.parse_file.new.found here c.loop-index.invariant c.in_ok-parse_file.ensures

pub returns : goal.returns
returns c =
    let files = c.args.files.now in
    let i = c.loop-index.index in
    outcome_found IsParsed IsSyntactic files c.loop-index.found.results c.loop-index.found.faults c.outcome.result
    (found_end IsParsed IsSyntactic files i (drop i files) c.loop-index.found (drop_all i files c.loop-index-test.false) c.loop-index.invariant) c.outcome.ensures
