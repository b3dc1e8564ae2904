-- `sections_in` lists the sections of the text of a program, which are made one by one: the routines, and the initializer and the methods of each class.
use Rattle.std.specs.Prelude.{ℕ, ◌<◌, List, [], ◌∷◌, length, map, flat_map, slice_get, Option, Some, None}
use Rattle.cool_syntax.specs.declared.file_tree.Feature.{Feature}
use Rattle.mips_isa.specs.Lines.{Line}
use Rattle.cool_classes.specs.declared.class_id.ClassId.{ClassId}
use Rattle.cool_classes.specs.Chains.{Class, features_of}
use Rattle.cool_runtime.specs.RoutineLines.{all_routine_lines}
use Rattle.cool_layout.specs.Preorder.{numbers_from}
use Rattle.cool_consts.specs.Constants.{Constants}
use Rattle.cool_emit.specs.declared.section.Section.{Section}
use Rattle.cool_emit.specs.declared.section.Section.TheVariants.{Routines, Initializer, Method}
use Rattle.cool_emit.specs.Programs.{Placed, attributes_in, methods_in, initializer_code, placed_code}

abbrev pub class_sections : List Class → ClassId → List Section
class_sections p c = Initializer c ∷ map (λ f. Method c f.place) (methods_in p c)

abbrev pub sections_in : List Class → List Section
sections_in p = Routines ∷ flat_map (class_sections p) (numbers_from 0 (length p))

-- a feature at a place, if there is one
abbrev pub placed_at : ℕ → Option Feature → List Placed
placed_at place None = []
placed_at place (Some x) = record { place = place; feature = x } ∷ []

-- the features whose code a section has
abbrev pub features_in : List Class → Section → List Placed
features_in p Routines = []
features_in p (Initializer c) = attributes_in p c
features_in p (Method c place) = placed_at place (slice_get (features_of p c) place)

-- the lines of a section
abbrev pub section_code : List Class → List (List ℕ) → Constants → Section → List Line
section_code p files g Routines = all_routine_lines
section_code p files g (Initializer c) = initializer_code p files g c
section_code p files g (Method c place) = flat_map (placed_code p files g c) (features_in p (Method c place))

-- a section is one of a program
abbrev pub IsSection : List Class → Section → Type 0
IsSection p Routines = Unit {0}
IsSection p (Initializer c) = c.0 < length p
IsSection p (Method c place) = (c.0 < length p) × (place < length (features_of p c))
