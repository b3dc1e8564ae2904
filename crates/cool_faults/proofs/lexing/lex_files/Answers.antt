-- Each step of the loop of `lex_files` adds the tokens or the first lexical error of the next file, as the lexer returns them.
use Rattle.std.proofs.Common.{ℕ, ◌+◌, List, ◌∷◌, length, drop, ap, ◌∙◌, sym, arith}
use Rattle.std.proofs.lemmas.List.{drop_all}
use Rattle.cool_faults.specs.Files.{bytes_of}
use Rattle.cool_faults.specs.Phases.{IsLexed, IsLexical}
use Rattle.cool_faults.proofs.FindingsInARow.{found_more, found_end, outcome_found}
use Rattle.cool_faults.proofs.LexicalFaults.{file_small}
use Rattle.cool_faults.proofs.lexing.lex_files.Goals as goal
use Rattle.lists.proofs.ItemsLeft.{drop_one}

pub lex_file-requires : goal.lex_file-requires
lex_file-requires c =
    omega (arith, ap length c.as_slice.ensures.value, file_small c.args.files.now c.loop-index.index c.index-files-index.result c.loop-index-test.true c.index-files-index.is, c.requires.small)

pub loop-index-preserved : goal.loop-index-preserved
loop-index-preserved c =
    let files = c.args.files.now in
    let i = c.loop-index.index in
    let here = ap bytes_of (drop_one files i c.index-files-index.result c.loop-index-test.true c.index-files-index.is) in
    found_more IsLexed IsLexical (bytes_of files) i (bytes_of (drop i files)) (bytes_of (drop (i + 1) files)) c.as_slice.result.now c.loop-index.found c.lex_file.new.found
    (here ∙ ap (λ (bytes : List ℕ). bytes ∷ bytes_of (drop (i + 1) files)) (sym c.as_slice.ensures.value)) c.loop-index.invariant c.in_ok-lex_file.ensures

pub returns : goal.returns
returns c =
    let files = c.args.files.now in
    let i = c.loop-index.index in
    let past = ap bytes_of (drop_all i files c.loop-index-test.false) in
    outcome_found IsLexed IsLexical (bytes_of files) c.loop-index.found.results c.loop-index.found.faults c.outcome.result
    (found_end IsLexed IsLexical (bytes_of files) i (bytes_of (drop i files)) c.loop-index.found past c.loop-index.invariant) c.outcome.ensures
