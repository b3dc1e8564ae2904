-- If a program's code always simulates its runs, its image is a correct compilation: the outcome of the machine agrees with the source for all inputs and
-- limits.
use Rattle.std.proofs.Common.{ℕ, List, refl, sym, subst, arith}
use Rattle.std.specs.List.{AllByRecursion}
use Rattle.mips_isa.specs.ImageBounds.{ImageParts}
use Rattle.mips_isa.specs.Bytes.{bytes_of_image}
use Rattle.mips_isa.specs.Assembly.{image_of}
use Rattle.mips_isa.specs.Run as machine
use Rattle.cool_classes.specs.Chains.{Class}
use Rattle.cool_runtime.specs.Contents.{IsText}
use Rattle.cool_meaning.specs.SourceRun.{run}
use Rattle.cool_meaning.proofs.SoundRuns.{never_stuck}
use Rattle.cool_emit.specs.Programs.{IsBuildable, program_constants, program_text, program_data, program_lines}
use Rattle.cool_emit.proofs.ProgramsAreSound.{programs_sound}
use Rattle.cool_simulation.specs.MainRun.{AlwaysRuns}
use Rattle.cool_simulation.specs.Accord.{Accords, Means}
use Rattle.cool_simulation.proofs.loading.LoadedImages.{image_is}
use Rattle.cool_simulation.proofs.loading.Loaded.{image, place, segments, laid, tags, loading, is_loaded}
use Rattle.cool_simulation.proofs.loading.StartState.{begun, no_homes, whole_input, starts}
use Rattle.cool_simulation.proofs.theorem.RunsAccord.{accords}

-- The image of a program that runs as it means wherever it is loaded does what the program means, if its strings are texts.
pub means : (p : List Class) (files : List (List ℕ)) → IsBuildable p files → AllByRecursion IsText (program_constants p files).strings → AlwaysRuns p files → Means (image_of (program_lines p files)) p files
means p files b texts main input limits bytes are =
    let i : ImageParts = image p files b limits are in
    subst (λ (x : ImageParts). Accords (run p files input) limits (machine.run_image x limits.heap limits.stack input limits.budget))
    (sym (image_is (program_text p files) (program_data p files) (programs_sound p files b)))
    (accords i.text (place p files b limits are) (segments p files b limits are) (laid p files b limits are) (tags p files b limits are) limits refl (let most = are.stack_most in omega arith)
    (run p files input) (never_stuck p b.typed files input) (machine.start i (segments p files b limits are) input)
    (λ n top low output left room.
    main (loading p files b limits are top low output left).world (bytes_of_image i) (is_loaded p files b limits are top low output left texts) input (begun p files b limits are) no_homes (whole_input input)
    (machine.start i (segments p files b limits are) input) n (starts p files b limits are top low output left input bytes) room))
