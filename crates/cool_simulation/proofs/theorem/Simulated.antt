-- If a typed program is within the limits, has no empty block or case, and no string with a zero byte, its image is a correct compilation.
use Rattle.std.proofs.Common.{List, ℕ, None, refl}
use Rattle.std.specs.List.{AllByRecursion}
use Rattle.mips_isa.specs.Assembly.{image_of}
use Rattle.cool_classes.specs.Chains.{Class}
use Rattle.cool_runtime.specs.Contents.{IsText}
use Rattle.cool_emit.specs.Programs.{IsBuildable, program_constants, program_lines}
use Rattle.cool_simulation.specs.Loadings.{Loading}
use Rattle.cool_simulation.specs.MainRun.{AlwaysRuns}
use Rattle.cool_simulation.specs.Accord.{Means}
use Rattle.cool_simulation.specs.WrittenPrograms.{IsWritten}
use Rattle.cool_simulation.proofs.calls.AllCalls.{all_calls_correct}
use Rattle.cool_simulation.proofs.theorem.Headline.{means}
use Rattle.cool_simulation.proofs.theorem.MainCall.{runs_main}

-- a program without empty blocks and cases runs as it means, wherever it is loaded
pub always_runs : (p : List Class) (files : List (List ℕ)) → IsWritten p → AlwaysRuns p files
always_runs p files written = λ w m loaded. let l : Loading = record { table = p; files = files; world = w; memory = m; watch = None } in runs_main l loaded refl (all_calls_correct l loaded written)

-- the image of such a program means the program
pub typed_images_mean : (p : List Class) (files : List (List ℕ)) → IsBuildable p files → IsWritten p → AllByRecursion IsText (program_constants p files).strings → Means (image_of (program_lines p files)) p files
typed_images_mean p files buildable written texts = means p files buildable texts (always_runs p files written)
