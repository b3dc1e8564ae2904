-- The image generated for an accepted program, with or without constant folding, is a correct compilation of the program. The same holds for the generated
-- program of the command `big`.
use Rattle.std.proofs.{Common.{◌≡◌, ℕ, Bool, true, false, List, length, refl, sym, ◌∙◌, subst, [], arith}, lemmas.List.{length-map}}
use Rattle.std.specs.{Prelude.{String, string_bytes}, List.{list_all, AllByRecursion}, Global.{Global}}
use Rattle.cool_classes.specs.Chains.{Class}
use Rattle.cool_emit.specs.Programs.{program_text, program_data, program_lines}
use Rattle.cool_emit.proofs.{ProgramsAreSound.{programs_sound}, SoundLinesAssemble.{no_fault}}
use Rattle.cool_faults.specs.Verdicts.{IsAccepted}
use Rattle.cool_rules.specs.Fits.{Fits}
use Rattle.cool_runtime.specs.RoutineLines.{routine_lines}
use Rattle.cool_simulation.specs.{Accord.{Means}, Theorem.{AreFileNames}}
use Rattle.cool_simulation.proofs.{theorem.AcceptedPrograms.{accepted_compile, images_mean}, theorem.FoldedImages.{folded_images_mean}, theorem.PrintedPrograms.{programs_read}}
use Rattle.cool_words.specs.Plans.{is_file_name, words_of, IsBounded, usual_limits}
use Rattle.cool_words.proofs.FileNames.{text_names, short_names}
use Rattle.mips_isa.specs.{Assembly.{image_of}, ImageBounds.{ImageParts}}
use Rattle.mips_text.specs.Printing.{printed}
use Rattle.cool_driver.specs.{Calls.{ShelfUse}, Compiled.{compiled_program, IsImageFor}, Execution.{is_text_file}, Sources.{IsProgram}, commands.Big.{big_names, AccordsWithSource}}
use Rattle.cool_driver.specs.commands.Build.{IsCompiled}
use Rattle.cool_driver.proofs.{HeadlineOfRuns.{image_accords}, HeldFiles.{held_length}}
use Rattle.lists.specs.Bytes.{AreBytes}

-- the text of a program begins with a label, not with the byte of an image
text_of_lines : (p : List Class) (names : List (List ℕ)) → is_text_file (printed (program_lines p names)) ≡ true
unfolding routine_lines
text_of_lines p names = refl

module _ (names : List (String Global)) (shelf : ShelfUse) (p : List Class) where
  -- it fits so many files as there are names
  pub program_fits : IsProgram shelf (words_of names) p → Fits p (length names)
  program_fits is =
      subst (Fits p) (sym (held_length shelf.files (words_of names) is.contents is.read.held) ∙ length-map names string_bytes) is.accepted.fits

  module _ (named : list_all is_file_name (words_of names) ≡ true) (is : IsProgram shelf (words_of names) p) where
    each : length (words_of names) ≡ length is.contents
    each = held_length shelf.files (words_of names) is.contents is.read.held

    are_names : AreFileNames (words_of names)
    are_names = (text_names names named, short_names (words_of names) named)

    -- the image of its lines means it
    pub program_meant : Means (image_of (program_lines p (words_of names))) p (words_of names)
    program_meant = images_mean is.contents (words_of names) p is.bytes are_names each is.accepted

    -- and the text of its lines stands for it
    pub program_compiled : IsCompiled p (words_of names)
    program_compiled =
        let sound = programs_sound p (words_of names) (accepted_compile is.contents (words_of names) p is.bytes are_names each is.accepted).buildable in
        record {
          means = program_meant;
          assembled = record {
            text = text_of_lines p (words_of names);
            lines = program_lines p (words_of names);
            reads = programs_read is.contents (words_of names) p are_names each is.accepted;
            no_fault = no_fault (program_text p (words_of names)) (program_data p (words_of names)) sound;
            image_is = refl;
          };
        }

    -- the image of the program that is compiled for it, folded or not, is one for it
    pub program_imaged : (fold : Bool) (image : ImageParts) → Fits (compiled_program fold p) (length names)
        → image ≡ image_of (program_lines (compiled_program fold p) (words_of names)) → IsImageFor fold p (words_of names) image
    program_imaged false image fits made = record { image_is = made; means_compiled = rw made program_meant; means = rw made program_meant }
    program_imaged true image fits made =
        let both = folded_images_mean is.contents (words_of names) p is.bytes are_names is.accepted (rw (length-map names string_bytes) fits) in
        record { image_is = made; means_compiled = rw made both.0; means = rw made both.1 }

-- the limits and the name of `big`
usual_bounded : IsBounded usual_limits
usual_bounded = omega arith

big_named : AreFileNames big_names
big_named = omega arith

-- the same for the one file of `big`, and so its run accords with the runs of the source
pub big_accords : (contents : List (List ℕ)) (p : List Class) → AllByRecursion AreBytes contents → length contents ≡ 1 → IsAccepted contents p → AccordsWithSource p
big_accords contents p bytes one is =
    image_accords usual_limits (image_of (program_lines p big_names)) p big_names [] (images_mean contents big_names p bytes big_named (sym one) is) tt usual_bounded
