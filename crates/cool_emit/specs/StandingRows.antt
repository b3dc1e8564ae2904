-- The rows of the debug information give the correct addresses of code in a loaded program.
use Rattle.std.specs.Prelude.{◌≡◌, ℕ, ◌+◌, ◌<◌, List, [], length, slice_get, Some, Contains}
use Rattle.std.specs.List.{AllByRecursion}
use Rattle.cool_syntax.specs.declared.file_tree.Feature.{Feature}
use Rattle.cool_syntax.specs.declared.file_tree.Feature.TheVariants.{Method, Attribute}
use Rattle.cool_syntax.specs.declared.file_tree.MethodDef.{MethodDef}
use Rattle.cool_syntax.specs.Tree.{Tree, place_of}
use Rattle.mips_isa.specs.declared.address_map.TheConstants.{TEXT_START}
use Rattle.mips_isa.specs.Lines.{Line}
use Rattle.cool_classes.specs.declared.class_id.ClassId.{ClassId}
use Rattle.cool_classes.specs.Chains.{Class, features_of, name_of}
use Rattle.cool_runtime.specs.Reaches.{World}
use Rattle.cool_runtime.specs.Standing.{sizes, HasLines}
use Rattle.cool_codegen.specs.Features.{attributes_in, with_formals}
use Rattle.cool_codegen.specs.Shown.{Shown, form_of}
use Rattle.cool_codegen.specs.Spans.{Span, code_of, feature_spans}
use Rattle.cool_emit.specs.CodeTables.{Row, class_row, attribute_row, initial_row, method_row, formal_row, code_row, table_rows}
use Rattle.cool_emit.specs.Programs.{Placed, placed_code, program_constants, program_text}
use Rattle.cool_emit.specs.SpansOfPrograms.{context_of}

-- lines stand in the text of a machine from one address to another
pub record StandsBetween (w : World) (from to : ℕ) (lines : List Line) : Type 0 where
  pub begins : HasLines w from lines
  pub ends : to ≡ from + sizes lines

-- a feature of the class, at its place there
abbrev pub IsFeatureOf : List Class → ClassId → Placed → Type 0
IsFeatureOf p c f = slice_get (features_of p c) f.place ≡ Some f.feature

-- a method of this name, and an attribute of this name with an initial value

abbrev pub IsMethod : List ℕ → Feature → Type 0
IsMethod name (Method m) = name ≡ m.name
IsMethod name (Attribute a) = ⊥

abbrev pub IsInitial : List ℕ → Feature → Type 0
IsInitial name (Method m) = ⊥
IsInitial name (Attribute a) = (name ≡ a.name) × (t : Tree) × (a.init ≡ Some t)

module _ (w : World) (p : List Class) (files : List (List ℕ)) where
  -- the code of such a feature of the program stands there
  pub record HasFeature (Is : Feature → Type 0) (from to : ℕ) : Type 0 where
    pub class : ClassId
    pub feature : Placed
    pub has : IsFeatureOf p class feature
    pub is : Is feature.feature
    pub stands : StandsBetween w from to (placed_code p files (program_constants p files) class feature)

  -- the code of an expression of the program that shows this stands there
  pub record HasExpression (x : Shown) (from to : ℕ) : Type 0 where
    pub class : ClassId
    pub feature : Placed
    pub has : IsFeatureOf p class feature
    pub span : Span
    pub within : Contains (feature_spans length (context_of p files class feature.place) (program_constants p files) 0 feature.feature) span
    pub at : x.at ≡ place_of span.tree
    pub form : x.form ≡ form_of span.tree
    pub depth : x.depth ≡ span.depth
    pub names : x.names ≡ length span.scope
    pub latest : x.latest ≡ slice_get span.scope 0
    pub stands : StandsBetween w from to (code_of (context_of p files class feature.place) (program_constants p files) span)

  abbrev pub IsTrue : Row → Type 0
  IsTrue (class_row name) = (c : ClassId) × (c.0 < length p) × (name ≡ name_of p c)
  IsTrue (attribute_row v) = (c : ClassId) × (c.0 < length p) × Contains (attributes_in p c) v
  IsTrue (initial_row from to name) = HasFeature (IsInitial name) from to
  IsTrue (method_row from to name) = HasFeature (IsMethod name) from to
  IsTrue (formal_row v) = (c : ClassId) × (k : ℕ) × (m : MethodDef) × (slice_get (features_of p c) k ≡ Some (Method m)) × Contains (with_formals p m.formals []) v
  IsTrue (code_row from to x) = HasExpression x from to

-- each row of the table of a program is true of each machine in whose text the program stands
abbrev pub RowsStand : Type 0
RowsStand = (w : World) (p : List Class) (files : List (List ℕ)) → HasLines w TEXT_START (program_text p files) → AllByRecursion (IsTrue w p files) (table_rows p files)
