-- The image of a constant-folded program is a correct compilation of the original program, because folding never makes the cost of a run larger.
use Rattle.std.proofs.Common.{◌+◌, ℕ, List, length, sym, ◌∙◌, subst, arith}
use Rattle.std.specs.List.{AllByRecursion}
use Rattle.cool_classes.specs.Chains.{Class}
use Rattle.cool_classes.specs.Definitions.{definitions}
use Rattle.cool_rules.specs.Fits.{Fits}
use Rattle.cool_rules.specs.TypedTables.{IsTypedTable}
use Rattle.cool_faults.specs.Verdicts.{IsAccepted}
use Rattle.cool_faults.proofs.AcceptedFiles.{accepted_meant}
use Rattle.cool_meaning.specs.Laws.{IsOver}
use Rattle.cool_meaning.specs.SourceRun.{Run, run}
use Rattle.cool_fold.specs.Folding.{fold_table}
use Rattle.cool_fold.specs.Laws.{NoMoreRun}
use Rattle.cool_fold.proofs.FoldedPrograms.{folded_run}
use Rattle.cool_fold.proofs.FoldedTableIsTyped.{folded_typed}
use Rattle.lists.specs.Bytes.{AreBytes}
use Rattle.lists.specs.Prefixes.{IsPrefix, IsSuffix}
use Rattle.cool_emit.specs.Programs.{IsBuildable, program_lines}
use Rattle.cool_simulation.specs.Accord.{Limits, Inside, IsFailed, Accord, Accords, Means}
use Rattle.cool_simulation.specs.Theorem.{AreFileNames, FoldedImagesMean}
use Rattle.cool_simulation.proofs.theorem.AcceptedTexts.{trees_bytes}
use Rattle.cool_simulation.proofs.theorem.AcceptedWritable.{accepted_writable}
use Rattle.cool_simulation.proofs.theorem.BytesOfPrograms.{definitions_bytes, table_bytes}
use Rattle.cool_simulation.proofs.theorem.Simulated.{typed_images_mean}
use Rattle.cool_simulation.proofs.theorem.TextsOfTrees.{program_texts}
use Rattle.mips_isa.specs.Assembly.{image_of}
use Rattle.mips_isa.specs.ImageBounds.{ImageParts}
use Rattle.mips_isa.specs.Calls.{Outcome, Running, Exited, Trapped}
use Rattle.mips_isa.specs.Run.{run_image}
use Rattle.cool_simulation.proofs.theorem.FoldedTrees.{each_writable, each_has_bytes}

-- The folded program of accepted files

-- its image means it, where it fits
folded_means : (files names : List (List ℕ)) (p : List Class) → AllByRecursion AreBytes files → AreFileNames names → IsAccepted files p
    → Fits (fold_table p) (length names) → Means (image_of (program_lines (fold_table p) names)) (fold_table p) names
folded_means files names p bytes named is fits =
    let b : IsBuildable (fold_table p) names = record { fits = fits; typed = folded_typed p is.typed; names = named.1 } in
    let have = definitions_bytes is.trees (trees_bytes 0 files is.trees bytes is.are_trees) in
    typed_images_mean (fold_table p) names b (λ c k x within there. each_writable p (accepted_writable files p is) c k x there)
    (program_texts (fold_table p) names b named.0
    (λ c k x within there. each_has_bytes p (table_bytes (definitions is.trees) p (accepted_meant files p is) have) c k x there))

-- Accord with runs of smaller meters implies accord with the larger ones

module _ (runs less : ℕ → Run) (no_more : (n : ℕ) → NoMoreRun (runs n) (less n)) (limits : Limits) where
  inside : (n : ℕ) → Inside limits (runs n) → Inside limits (less n)
  inside n i =
      let h = no_more n in
      record { work = omega (arith, i.work, h.work); words = omega (arith, i.words, h.words); peak = omega (arith, i.peak, h.peak) }

  -- accord with these implies accord with those
  accord_of_more : (status : ℕ) (output left : List ℕ) → Accord less limits status output left → Accord runs limits status output left
  accord_of_more status output left a =
      let last = no_more (limits.budget + 1) in
      record {
        written = subst (λ (xs : List ℕ). IsPrefix output xs) last.output a.written;
        taken = subst (λ (xs : List ℕ). IsSuffix xs left) last.left a.taken;
        covers = λ n i.
            let h = a.covers n (inside n i) in (
              subst (λ (xs : List ℕ). IsPrefix xs output) (no_more n).output h.0,
              subst (λ (xs : List ℕ). IsSuffix left xs) (no_more n).left h.1,
            );
        ends = λ n i over. a.ends n (inside n i) (subst IsOver (sym (no_more n).end) over);
        done = λ e. let h = a.done e in (sym last.end ∙ h.0, (h.1.0 ∙ last.output, h.1.1 ∙ last.left));
        failed = λ e. let h = a.failed e in (subst IsFailed last.end h.0, (h.1.0 ∙ last.output, h.1.1 ∙ last.left));
        heap = λ e. omega (arith, a.heap e, last.words);
        stack = λ e. omega (arith, a.stack e, last.peak);
        budget = λ e. omega (arith, a.budget e, last.work);
        known = a.known;
      }

  accords_of_more : (o : Outcome) → Accords less limits o → Accords runs limits o
  accords_of_more (Running s) h = accord_of_more 6 s.output s.input h
  accords_of_more (Exited code s) h = (h.0, accord_of_more code s.output s.input h.1)
  accords_of_more (Trapped trap s) h = absurd h

-- an image that means the folded program means the program
means_source : (image : ImageParts) (p : List Class) (names : List (List ℕ)) → IsTypedTable p → Means image (fold_table p) names
    → Means image p names
means_source image p names typed means input limits bytes are =
    accords_of_more (run p names input) (run (fold_table p) names input) (folded_run p typed names input) limits
    (run_image image limits.heap limits.stack input limits.budget) (means input limits bytes are)

-- so the image of the folded program of accepted files means both
pub folded_images_mean : FoldedImagesMean
folded_images_mean files names p bytes named is fits =
    let means = folded_means files names p bytes named is fits in
    (means, means_source (image_of (program_lines (fold_table p) names)) p names is.typed means)
