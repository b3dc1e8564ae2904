-- The rows of code in the debug information are the spans (address ranges of expressions) of the program, one for one and in order. The names in scope at
-- each can be computed from the rows, so statements about spans also hold for rows.
use Rattle.std.specs.Prelude.{◌≡◌, refl, ℕ, ◌+◌, ◌-◌, List, [], ◌∷◌, ◌++◌, length, map, flat_map, drop, Option, Some, None}
use Rattle.cool_syntax.specs.declared.place.Place.{Place}
use Rattle.mips_isa.specs.declared.address_map.TheConstants.{TEXT_START}
use Rattle.cool_classes.specs.declared.class_id.ClassId.{ClassId}
use Rattle.cool_classes.specs.Chains.{Class}
use Rattle.cool_runtime.specs.Standing.{sizes}
use Rattle.cool_codegen.specs.declared.span.Form.{Form}
use Rattle.cool_codegen.specs.Shown.{Shown, whole}
use Rattle.cool_codegen.specs.Variables.{Named}
use Rattle.cool_emit.specs.CodeTables.{Row, class_row, attribute_row, initial_row, method_row, formal_row, code_row, class_rows, feature_rows, table_rows}
use Rattle.cool_emit.specs.Programs.{Placed, program_constants}
use Rattle.cool_emit.specs.SpansOfPrograms.{SpanOf, lines_of_span, placed_spans, program_spans}

-- the data that a row of code shows, by its addresses; other rows show none of an expression
abbrev pub told_by : Row → List Shown
told_by (class_row name) = []
told_by (attribute_row v) = []
told_by (initial_row from to name) = []
told_by (method_row from to name) = []
told_by (formal_row v) = []
told_by (code_row from to x) = record { at = x.at; form = x.form; from = from; to = to; depth = x.depth; names = x.names; latest = x.latest } ∷ []

-- the data that the rows of code of a table show, in the order of the rows
abbrev pub told_rows : List Class → List (List ℕ) → List Shown
told_rows p files = flat_map told_by (table_rows p files)

-- the data that the row of a span shows: its tree's place and form, the first and last address of its code, its depth, and the length and the latest name
-- of its scope
abbrev pub told_of : List Class → List (List ℕ) → SpanOf → Shown
told_of p files x = whole x.span.scope x.span.depth x.span.from (x.span.from + sizes (lines_of_span p files (program_constants p files) x)) x.span.tree

-- The rows of code of a program's table are those of its spans.
abbrev pub RowsAreSpans : Type 0
RowsAreSpans = (p : List Class) (files : List (List ℕ)) → told_rows p files ≡ map (told_of p files) (program_spans sizes p files TEXT_START)

-- The rows of code behind the head of each feature are those of its spans, wherever its code begins.
abbrev pub RowsOfFeatures : Type 0
RowsOfFeatures =
    (p : List Class) (files : List (List ℕ)) (c : ClassId) (pc : ℕ) (f : Placed)
    → flat_map told_by (feature_rows p files (program_constants p files) c pc f) ≡ map (told_of p files) (placed_spans sizes p files (program_constants p files) c pc f)

-- The names in scope

-- the names of a row of an attribute or of a formal
abbrev pub named_by : Row → List Named
named_by (class_row name) = []
named_by (attribute_row v) = v ∷ []
named_by (initial_row from to name) = []
named_by (method_row from to name) = []
named_by (formal_row v) = v ∷ []
named_by (code_row from to x) = []

-- the latest name, if there is one, before others
abbrev pub latest_before : Option Named → List Named → List Named
latest_before None vs = []
latest_before (Some v) vs = v ∷ vs

-- The names in scope at a row of code: its latest name, and as many as it counts besides of those that were entered first at the row before.
abbrev pub scope_at : List Named → Shown → List Named
scope_at before x = latest_before x.latest (drop (length before + 1 - x.names) before)

-- the names in scope at each of these rows, one behind the other
abbrev pub scopes_from : List Named → List Shown → List (List Named)
scopes_from before [] = []
scopes_from before (x ∷ xs) = scope_at before x ∷ scopes_from (scope_at before x) xs

-- The names in scope at each row of code of a feature are computed from rows only: from the row before, and for the first from the formals of the feature
-- and the attributes of its class.
abbrev pub ScopesOfRows : Type 0
ScopesOfRows =
    (p : List Class) (files : List (List ℕ)) (c : ClassId) (pc : ℕ) (f : Placed)
    → scopes_from (flat_map named_by (feature_rows p files (program_constants p files) c pc f) ++ flat_map named_by (class_rows p c)) (flat_map told_by (feature_rows p files (program_constants p files) c pc f))
    ≡ map (λ x. x.span.scope) (placed_spans sizes p files (program_constants p files) c pc f)

-- Worked examples: the second row within the same `let`, the one behind it, and one in a `let` beside it.
abbrev row : Place → Form → ℕ → Named → Shown
row at form n v = record { at = at; form = form; from = 0; to = 0; depth = 0; names = n; latest = Some v }

module _ (at : Place) (form : Form) (a b c : Named) where
  within : scope_at (b ∷ a ∷ []) (row at form 2 b) ≡ b ∷ a ∷ []
  within = refl

  behind : scope_at (b ∷ a ∷ []) (row at form 1 a) ≡ a ∷ []
  behind = refl

  beside : scope_at (b ∷ a ∷ []) (row at form 2 c) ≡ c ∷ a ∷ []
  beside = refl
