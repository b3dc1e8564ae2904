-- Each step of the loop of `files_text` adds the lines of the next file, whose classes have the numbers after those of the files before.
use Rattle.std.proofs.Common.{◌≡◌, ◌∙◌, ℕ, ◌+◌, List, ◌∷◌, length, drop, ap, sym, subst, arith}
use Rattle.std.specs.Option.{option_map}
use Rattle.std.proofs.lemmas.List.{drop_all}
use Rattle.cool_faults.specs.Files.{bytes_of, total}
use Rattle.cool_listings.proofs.TreesOfFiles.{AreLeft, file_end, file_more, file_small, first_fits, others_left}
use Rattle.cool_listings.proofs.trees.files_text.Goals as goal
use Rattle.lists.proofs.ItemsLeft.{drop_one}

pub add_file-requires-clause-small : goal.add_file-requires-clause-small
add_file-requires-clause-small c =
    omega (arith, ap length c.as_slice.ensures.value, file_small c.args.files.now c.loop-index.index c.index-files-index.result c.loop-index-test.true c.index-files-index.is, c.requires.small)

pub add_file-requires-clause-fits : goal.add_file-requires-clause-fits
add_file-requires-clause-fits c =
    let files = c.args.files.now in
    let i = c.loop-index.index in
    let others = bytes_of (drop (i + 1) files) in
    let here = ap bytes_of (drop_one files i c.index-files-index.result c.loop-index-test.true c.index-files-index.is) ∙ ap (λ (bytes : List ℕ). bytes ∷ others) (sym c.as_slice.ensures.value) in
    first_fits (option_map (λ p. p.now) c.args.program) i c.loop-index.told.number c.as_slice.result.now others
    (subst (AreLeft (option_map (λ p. p.now) c.args.program) i c.loop-index.told.number) here c.loop-index.invariant.left)

pub loop-index-preserved : goal.loop-index-preserved
loop-index-preserved c =
    let files = c.args.files.now in
    let i = c.loop-index.index in
    let n = c.loop-index.told.number in
    let others = bytes_of (drop (i + 1) files) in
    let here = ap bytes_of (drop_one files i c.index-files-index.result c.loop-index-test.true c.index-files-index.is) ∙ ap (λ (bytes : List ℕ). bytes ∷ others) (sym c.as_slice.ensures.value) in
    let more = c.in_ok-add_file.ensures in
    record {
      goes_on =
          file_more (option_map (λ p. p.now) c.args.program) (bytes_of files) i n c.add_file.new.self.number (bytes_of (drop i files)) others c.as_slice.result.now c.loop-index.told.text.items c.add_file.new.self.text.items
          here more.added c.loop-index.invariant.goes_on;
      left =
          others_left (option_map (λ p. p.now) c.args.program) i n c.add_file.new.self.number c.as_slice.result.now others
          (subst (AreLeft (option_map (λ p. p.now) c.args.program) i n) here c.loop-index.invariant.left)
          more.number;
      few = omega (arith, more.few, c.loop-index.invariant.few, ap total here);
    }

pub returns : goal.returns
returns c =
    let files = c.args.files.now in
    let i = c.loop-index.index in
    file_end (option_map (λ p. p.now) c.args.program) (bytes_of files) i c.loop-index.told.number (bytes_of (drop i files)) c.loop-index.told.text.items (ap bytes_of (drop_all i files c.loop-index-test.false)) c.loop-index.invariant.goes_on
