-- `table_rows` gives the table of code (debug information) of a program: its classes with their attributes, then the features that have code, each with its
-- formal parameters and expressions. A row of code has the addresses between which it stands.
use Rattle.std.specs.Prelude.{ℕ, ◌+◌, List, [], ◌∷◌, ◌++◌, length, map, flat_map, take, Option, Some, None}
use Rattle.cool_syntax.specs.declared.file_tree.Feature.{Feature}
use Rattle.cool_syntax.specs.declared.file_tree.Feature.TheVariants.{Method, Attribute}
use Rattle.cool_syntax.specs.Tree.{Tree}
use Rattle.mips_isa.specs.declared.address_map.TheConstants.{TEXT_START}
use Rattle.mips_isa.specs.Lines.{Line}
use Rattle.cool_classes.specs.declared.class_id.ClassId.{ClassId}
use Rattle.cool_classes.specs.Chains.{Class, name_of}
use Rattle.cool_runtime.specs.Standing.{sizes}
use Rattle.cool_layout.specs.Preorder.{numbers_from}
use Rattle.cool_codegen.specs.Features as scopes
use Rattle.cool_codegen.specs.Shown.{Shown, shown}
use Rattle.cool_codegen.specs.Spans.{feature_spans}
use Rattle.cool_codegen.specs.Variables.{Named}
use Rattle.cool_consts.specs.Constants.{Constants}
use Rattle.cool_emit.specs.Programs.{Placed, placed_code, program_constants}
use Rattle.cool_emit.specs.SpansOfPrograms.{context_of, told_in_text}

pub data Row : Type 0 where
  class_row : (name : List ℕ) → Row
  attribute_row : Named → Row
  initial_row : (from to : ℕ) (name : List ℕ) → Row
  method_row : (from to : ℕ) (name : List ℕ) → Row
  formal_row : Named → Row
  code_row : (from to : ℕ) → Shown → Row

-- a class, and the attributes of its objects
abbrev pub class_rows : List Class → ClassId → List Row
class_rows p c = class_row (name_of p c) ∷ map attribute_row (scopes.attributes_in p c)

-- the row of an initial value whose code stands between these addresses
abbrev pub initial_rows : ℕ → ℕ → List ℕ → Option Tree → List Row
initial_rows from to name None = []
initial_rows from to name (Some t) = initial_row from to name ∷ []

-- the rows of a feature whose code stands between these addresses, with its formal parameters
abbrev pub head_rows : List Class → ℕ → ℕ → Feature → List Row
head_rows p from to (Method m) = method_row from to m.name ∷ map formal_row (scopes.with_formals p m.formals [])
head_rows p from to (Attribute a) = initial_rows from to a.name a.init

-- the address behind so many of the lines that begin at an address
abbrev pub behind : ℕ → List Line → ℕ → ℕ
behind pc lines n = pc + sizes (take n lines)

-- the row of an expression of a feature whose lines begin at an address
abbrev pub shown_row : ℕ → List Line → Shown → Row
shown_row pc lines x = code_row (behind pc lines x.from) (behind pc lines x.to) x

module _ (p : List Class) (files : List (List ℕ)) (g : Constants) where
  -- the rows of a feature whose code begins at an address, and of its expressions
  abbrev pub feature_rows : ClassId → ℕ → Placed → List Row
  feature_rows c pc f =
      let s = context_of p files c f.place in
      let lines = placed_code p files g c f in
      head_rows p pc (pc + sizes lines) f.feature ++ map (shown_row pc lines) (map (shown s g) (feature_spans length s g 0 f.feature))

  abbrev pub code_rows : ℕ → List Row
  code_rows = told_in_text sizes p files g feature_rows

abbrev pub table_rows : List Class → List (List ℕ) → List Row
table_rows p files = flat_map (class_rows p) (numbers_from 0 (length p)) ++ code_rows p files (program_constants p files) TEXT_START
