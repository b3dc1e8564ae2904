-- `Adds` says which assembly lines and constants a part of a program adds to those emitted before it.
use Rattle.std.specs.Prelude.{◌≡◌, ℕ, List, ◌++◌, flat_map, map, string_bytes, Bool, true, false}
use Rattle.cool_syntax.specs.declared.file_tree.Feature.{Feature}
use Rattle.cool_syntax.specs.declared.file_tree.Feature.TheVariants.{Attribute, Method}
use Rattle.mips_isa.specs.Lines.{Line}
use Rattle.cool_classes.specs.declared.class_id.ClassId.{ClassId}
use Rattle.cool_classes.specs.Chains.{Class}
use Rattle.cool_layout.specs.Layouts.{IsLayoutOf}
use Rattle.cool_consts.specs.Constants.{Constants}
use Rattle.cool_codegen.specs.Asked.{Extends}
use Rattle.cool_codegen.specs.Features.{feature_integers, feature_strings}
use Rattle.cool_codegen.specs.Numbered.{after}
use Rattle.cool_emit.specs.declared.emission.Emission.{Emission}
use Rattle.cool_emit.specs.declared.emission.Part.{Part}
use Rattle.cool_emit.specs.declared.emission.Part.TheVariants.{Attributes, Methods}
use Rattle.cool_emit.specs.Programs.{Placed, attributes_in, methods_in, IsBuildable}

abbrev pub integers_asked : List Placed → List ℕ
integers_asked = flat_map (λ f. feature_integers f.feature)

abbrev pub strings_asked : List (List ℕ) → List Placed → List (List ℕ)
strings_asked files = flat_map (λ f. feature_strings files f.feature)

-- Code is added after the lines before, and it is the same for every table of constants that contains those so far. The constants are those before with the
-- ones that these features need.
pub record Adds (files : List (List ℕ)) (features : List Placed) (code : Constants → List Line) (old new : Constants) (lines_before lines_after : List Line) : Type 0 where
  pub lines : (g : Constants) → Extends new g → lines_after ≡ lines_before ++ code g
  pub constants : new ≡ after old (integers_asked features) (strings_asked files features)

-- a feature belongs to a part of a class
abbrev pub belongs : Part → Feature → Bool
belongs Attributes (Attribute a) = true
belongs Attributes (Method m) = false
belongs Methods (Attribute a) = false
belongs Methods (Method m) = true

-- the features of a class that belong to a part of it
abbrev pub part_of : Part → List Class → ClassId → List Placed
part_of Attributes p c = attributes_in p c
part_of Methods p c = methods_in p c

-- the names of the files
abbrev pub files_of : Emission → List (List ℕ)
files_of e = map string_bytes e.names.now

-- a program that can be built, with its layout
pub record IsSound (e : Emission) : Type 0 where
  pub buildable : IsBuildable e.program.now (files_of e)
  pub layout : IsLayoutOf e.layout.now e.program.now
