-- If a program is within the limits, then a machine loaded with its image contains the program's text and data as `IsLoaded` specifies.
use Rattle.std.proofs.Common.{ℕ, List, refl}
use Rattle.std.specs.List.{AllByRecursion}
use Rattle.mips_isa.specs.ImageBounds.{ImageParts}
use Rattle.mips_isa.specs.Bytes.{Segments, segments_of, bytes_of_image}
use Rattle.mips_isa.specs.Lines.{Name}
use Rattle.mips_isa.specs.Assembly.{image_of_all, place_of, address_or_zero}
use Rattle.cool_classes.specs.Chains.{Class, class_number}
use Rattle.cool_runtime.specs.Reaches.{World, AreLaid, Tags}
use Rattle.cool_runtime.specs.Contents.{IsText}
use Rattle.cool_layout.specs.Preorder.{tag}
use Rattle.cool_emit.specs.Programs.{IsBuildable, program_constants, program_text, program_data, program_lines}
use Rattle.cool_emit.proofs.ProgramsAreSound.{programs_sound}
use Rattle.cool_simulation.specs.Loadings.{Loading, IsLoaded}
use Rattle.cool_simulation.specs.Accord.{Limits, AreLimits}
use Rattle.cool_simulation.proofs.loading.LoadedImages.{HasImage, are_laid}
use Rattle.cool_simulation.proofs.loading.LoadedText as code
use Rattle.cool_simulation.proofs.loading.LoadedConstants as constants
use Rattle.cool_simulation.proofs.loading.LoadedTables as tables
use Rattle.std.specs.Prelude.{None}

module _ (p : List Class) (files : List (List ℕ)) (b : IsBuildable p files) (limits : Limits) (are : AreLimits limits) where
  -- the image of the program, where its labels are, and its segments
  abbrev pub image : ImageParts
  image = image_of_all (program_lines p files)

  abbrev pub place : Name → ℕ
  place = λ name. address_or_zero (place_of (program_lines p files) name)

  abbrev pub segments : Segments
  segments = segments_of image limits.heap limits.stack

  pub laid : AreLaid (segments_of (image_of_all (program_lines p files)) limits.heap limits.stack)
  laid = are_laid (program_text p files) (program_data p files) (programs_sound p files b) limits are

  abbrev pub tags : Tags
  tags = record { int = tag p (class_number 2); bool = tag p (class_number 3); string = tag p (class_number 4) }

  -- the program in a machine that is to reach so far
  abbrev pub loading : ℕ → ℕ → List ℕ → List ℕ → Loading
  loading top low output left = record {
    table = p;
    files = files;
    world = record { text = image.text; place = place; segments = segments; laid = laid; tags = tags; top = top; low = low; output = output; left = left };
    memory = bytes_of_image image;
    watch = None;
  }

  module _ (top low : ℕ) (output left : List ℕ) where
    abbrev w : World
    w = (loading top low output left).world

    pub has_image : HasImage (program_text p files) (program_data p files) (loading top low output left).world
    has_image = record { sound = programs_sound p files b; text_is = refl; place_is = refl; text_end = refl; data_end = refl }

    -- the case that the strings are texts, which a zero can end
    pub is_loaded : AllByRecursion IsText (program_constants p files).strings → IsLoaded (loading top low output left)
    is_loaded texts = record {
      buildable = b;
      tags = refl;
      routines = code.routine_there p files w has_image;
      methods = λ c k m basic within is. code.method_there p files w has_image c k m within is;
      initializers = code.initializer_there p files w has_image;
      integers = constants.integer_there p files w has_image refl;
      strings = λ bytes there. constants.string_there p files w has_image refl bytes texts there;
      truths = constants.truth_there p files w has_image refl;
      default_int = constants.default_int_there p files w has_image refl;
      default_string = constants.default_string_there p files w has_image refl;
      prototypes = tables.prototype_there p files b w has_image refl;
      names = tables.name_there p files b w has_image refl;
      class_objects_in = tables.class_objects_in p files b w has_image refl;
      class_objects = tables.class_objects_there p files b w has_image refl;
      slots_in = tables.slot_in p files b w has_image refl;
      slots = tables.slot_there p files b w has_image refl;
      tables_fit = tables.table_fits p files b w has_image refl;
      end_text = constants.end_text_there p files w has_image refl;
      abort_text = constants.abort_text_there p files w has_image refl;
      newline_text = constants.newline_text_there p files w has_image refl;
      colon_text = constants.colon_text_there p files w has_image refl;
      no_branch_text = constants.no_branch_text_there p files w has_image refl;
      stop_text = constants.stop_text_there p files w has_image refl;
      dispatch_text = constants.dispatch_text_there p files w has_image refl;
      case_text = constants.case_text_there p files w has_image refl;
      division_text = constants.division_text_there p files w has_image refl;
      substring_text = constants.substring_text_there p files w has_image refl;
      overflow_text = constants.overflow_text_there p files w has_image refl;
    }
