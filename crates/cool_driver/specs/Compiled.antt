-- `compiled_program` is the program for which code is generated: the given one, or with `--fold` the one after constant folding. `IsImageFor` defines the
-- image that `run` runs for it.
use Rattle.std.specs.Prelude.{◌≡◌, ℕ, Bool, true, false, List}
use Rattle.cool_classes.specs.Chains.{Class}
use Rattle.cool_emit.specs.Programs.{program_lines}
use Rattle.cool_fold.specs.Folding.{fold_table}
use Rattle.cool_simulation.specs.Accord.{Means}
use Rattle.mips_isa.specs.{Assembly.{image_of}, ImageBounds.{ImageParts}}

abbrev pub compiled_program : (fold : Bool) → List Class → List Class
compiled_program false p = p
compiled_program true p = fold_table p

-- The image that `run` runs for a program: that of the assembly lines of the compiled program. It is a correct compilation of that program, and of the given
-- one.
pub record IsImageFor (fold : Bool) (p : List Class) (names : List (List ℕ)) (image : ImageParts) : Type 0 where
  pub image_is : image ≡ image_of (program_lines (compiled_program fold p) names)
  pub means_compiled : Means image (compiled_program fold p) names
  pub means : Means image p names
