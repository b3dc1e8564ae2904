-- Each step of the loop of `token_lines` adds the lines of the tokens of the next file.
use Rattle.std.proofs.Common.{ℕ, ◌+◌, ◌∙◌, List, ◌∷◌, ◌++◌, length, drop, ap, sym, subst, arith}
use Rattle.std.proofs.lemmas.List.{drop_all}
use Rattle.cool_faults.specs.Files.{bytes_of}
use Rattle.cool_listings.proofs.TreesOfFiles.{file_small}
use Rattle.cool_listings.specs.TokenLines.{AreTokensOf}
use Rattle.cool_listings.proofs.PiecesOfFiles.{piece_more, piece_end}
use Rattle.cool_listings.proofs.tokens.token_lines.Goals as goal
use Rattle.lists.proofs.ItemsLeft.{drop_one}

pub file_text-requires : goal.file_text-requires
file_text-requires c =
    omega (arith, ap length c.as_slice.ensures.value, file_small c.args.files.now c.loop-index.index c.index-files-index.result c.loop-index-test.true c.index-files-index.is, c.requires.small)

pub loop-index-preserved : goal.loop-index-preserved
loop-index-preserved c =
    let files = c.args.files.now in
    let i = c.loop-index.index in
    let here = ap bytes_of (drop_one files i c.index-files-index.result c.loop-index-test.true c.index-files-index.is) in
    piece_more AreTokensOf (bytes_of files) i (bytes_of (drop i files)) (bytes_of (drop (i + 1) files)) c.as_slice.result.now c.in_ok-file_text.field-0.items c.loop-index.text.items
    c.extend_from_slice.new.self.items
    (here ∙ ap (λ (bytes : List ℕ). bytes ∷ bytes_of (drop (i + 1) files)) (sym c.as_slice.ensures.value))
    (c.in_ok-extend_from_slice.ensures.items ∙ ap (λ (l : List ℕ). c.loop-index.text.items ++ l) c.deref.ensures.value)
    c.in_ok-file_text.ensures c.loop-index.invariant

pub returns : goal.returns
returns c =
    let files = c.args.files.now in
    let i = c.loop-index.index in
    let past = ap bytes_of (drop_all i files c.loop-index-test.false) in
    piece_end AreTokensOf (bytes_of files) i (bytes_of (drop i files)) c.loop-index.text.items past c.loop-index.invariant
