-- `program_lines` gives the assembly lines of a whole program: the run-time routines, and the initializer and the methods of each class; then the data. The
-- data is the layout, the constants, and the word at which the heap begins.
use Rattle.std.specs.Prelude.{ℕ, pos, ◌+◌, List, [], ◌∷◌, ◌++◌, length, flat_map, codes, nat_lt, if◌then◌else◌, Option, Some, None}
use Rattle.cool_syntax.specs.declared.file_tree.Feature.{Feature}
use Rattle.cool_syntax.specs.declared.file_tree.Feature.TheVariants.{Method, Attribute}
use Rattle.mips_isa.specs.Lines.{Name, Line, Number}
use Rattle.cool_classes.specs.declared.class_id.ClassId.{ClassId}
use Rattle.cool_classes.specs.Chains.{Class, class_number, parent_of, features_of}
use Rattle.cool_rules.specs.Fits.{Fits}
use Rattle.cool_rules.specs.TypedTables.{IsTypedTable}
use Rattle.cool_runtime.specs.CodeOfCalls.{enter_lines}
use Rattle.cool_runtime.specs.Instructions.{label}
use Rattle.cool_runtime.specs.LinesOfData.{words}
use Rattle.cool_runtime.specs.RoutineLines.{all_routine_lines}
use Rattle.cool_layout.specs.Preorder.{numbers_from, tag}
use Rattle.cool_layout.specs.Labels.{initializer}
use Rattle.cool_layout.specs.LinesOfLayout.{layout_lines}
use Rattle.cool_consts.specs.Constants.{Constants}
use Rattle.cool_consts.specs.LinesOfConstants.{constants_lines}
use Rattle.cool_codegen.specs.Asked.{with_integers, with_strings}
use Rattle.cool_codegen.specs.Features.{feature_code, feature_integers, feature_strings}
use Rattle.cool_codegen.specs.Pieces.{begin_init_lines, call_init_lines, leave_lines, return_basic_lines, take_self_lines}
use Rattle.cool_emit.specs.FileNames.{AreShortNames}
use Rattle.cool_emit.specs.SoundLines.{joined_lines}

-- the features that are attributes, and those that are methods, each with its place among features that begin at a place

pub record Placed : Type 0 where
  pub place : ℕ
  pub feature : Feature

abbrev pub attributes_from : ℕ → List Feature → List Placed
attributes_from k [] = []
attributes_from k (Method m ∷ fs) = attributes_from (k + 1) fs
attributes_from k (Attribute a ∷ fs) = record { place = k; feature = Attribute a } ∷ attributes_from (k + 1) fs

abbrev pub methods_from : ℕ → List Feature → List Placed
methods_from k [] = []
methods_from k (Method m ∷ fs) = record { place = k; feature = Method m } ∷ methods_from (k + 1) fs
methods_from k (Attribute a ∷ fs) = methods_from (k + 1) fs

abbrev pub attributes_in : List Class → ClassId → List Placed
attributes_in p c = attributes_from 0 (features_of p c)

abbrev pub methods_in : List Class → ClassId → List Placed
methods_in p c = methods_from 0 (features_of p c)

-- Code

abbrev pub placed_code : List Class → List (List ℕ) → Constants → ClassId → Placed → List Line
placed_code p files g c f = feature_code (record { table = p; class = c; feature = f.place; files = files }) g f.feature

-- the attributes of the parent come first
abbrev pub parent_code : List Class → Option ClassId → List Line
parent_code p None = []
parent_code p (Some q) = call_init_lines (initializer p q)

abbrev pub begin_code : List Class → ClassId → List Line
begin_code p c = begin_init_lines (initializer p c) ++ (enter_lines ++ parent_code p (parent_of p c))

abbrev pub end_code : List Line
end_code = take_self_lines ++ leave_lines (pos 12)

abbrev pub initializer_code : List Class → List (List ℕ) → Constants → ClassId → List Line
initializer_code p files g c =
    if nat_lt c.0 5 then return_basic_lines (initializer p c)
    else begin_init_lines (initializer p c)
    ++ (enter_lines ++ (parent_code p (parent_of p c) ++ (flat_map (placed_code p files g c) (attributes_in p c) ++ end_code)))

abbrev pub class_code : List Class → List (List ℕ) → Constants → ClassId → List Line
class_code p files g c = initializer_code p files g c ++ flat_map (placed_code p files g c) (methods_in p c)

abbrev pub classes_code : List Class → List (List ℕ) → Constants → List Line
classes_code p files g = flat_map (class_code p files g) (numbers_from 0 (length p))

-- Constants: what the features of the classes ask for, in the order of their code

abbrev pub class_features : List Class → ClassId → List Placed
class_features p c = attributes_in p c ++ methods_in p c

abbrev pub all_features : List Class → List Placed
all_features p = flat_map (class_features p) (numbers_from 0 (length p))

abbrev pub program_constants : List Class → List (List ℕ) → Constants
program_constants p files = record {
  integers = with_integers [] (flat_map (λ f. feature_integers f.feature) (all_features p));
  strings = with_strings [] (flat_map (λ f. feature_strings files f.feature) (all_features p));
}

-- Text and data

abbrev pub program_text : List Class → List (List ℕ) → List Line
program_text p files = all_routine_lines ++ classes_code p files (program_constants p files)

abbrev pub heap_start : Name
heap_start = codes "heap_start"

abbrev pub heap_lines : List Line
heap_lines = label heap_start ∷ words (Number (pos 0) ∷ []) ∷ []

-- the data, where these are the constants
abbrev pub data_lines : List Class → Constants → List Line
data_lines p g =
    layout_lines p ++ (constants_lines (tag p (class_number 2)) (tag p (class_number 3)) (tag p (class_number 4)) g ++ heap_lines)

abbrev pub program_data : List Class → List (List ℕ) → List Line
program_data p files = data_lines p (program_constants p files)

abbrev pub program_lines : List Class → List (List ℕ) → List Line
program_lines p files = joined_lines (program_text p files) (program_data p files)

-- A typed program with these names of files, within the limits.
pub record IsBuildable (p : List Class) (files : List (List ℕ)) : Type 0 where
  pub fits : Fits p (length files)
  pub typed : IsTypedTable p
  pub names : AreShortNames files
