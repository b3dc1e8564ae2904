-- The main theorem on compiled programs: the image generated for accepted files is a correct compilation of their program.
use Rattle.std.proofs.Common.{sym, subst}
use Rattle.cool_rules.specs.Fits.{Fits}
use Rattle.cool_emit.specs.Programs.{IsBuildable}
use Rattle.cool_simulation.specs.Theorem.{AcceptedCompile, ImagesMean, TypedImagesMean}
use Rattle.cool_simulation.proofs.theorem.Simulated.{typed_images_mean}
use Rattle.cool_simulation.proofs.theorem.AcceptedWritable.{accepted_writable}
use Rattle.cool_simulation.proofs.theorem.AcceptedTexts.{accepted_texts}

-- files of bytes that are accepted, under names that are texts of at most 4,096 bytes, can be compiled
pub accepted_compile : AcceptedCompile
accepted_compile files names p bytes named same is =
    let b : IsBuildable p names = record { fits = subst (Fits p) (sym same) is.fits; typed = is.typed; names = named.1 } in
    record { buildable = b; written = λ c k x within there. accepted_writable files p is c k x there; texts = accepted_texts files p names bytes is b named.0 }

-- the image of what can be compiled means it
pub compiled_mean : TypedImagesMean
compiled_mean p names is = typed_images_mean p names is.buildable is.written is.texts

-- the image of the program that files of bytes are, under such names, means it
pub images_mean : ImagesMean
images_mean files names p bytes named same is = compiled_mean p names (accepted_compile files names p bytes named same is)
