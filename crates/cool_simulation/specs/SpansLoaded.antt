-- In a loaded program, the code of each expression is at its recorded address range (span), counted from the label of its method or of its initializer.
use Rattle.std.specs.Prelude.{◌≡◌, ℕ, ◌<◌, ◌≤◌, length, slice_get, Some, Contains}
use Rattle.cool_syntax.specs.declared.file_tree.Feature.TheVariants.{Method}
use Rattle.cool_syntax.specs.declared.file_tree.MethodDef.{MethodDef}
use Rattle.cool_classes.specs.declared.class_id.ClassId.{ClassId}
use Rattle.cool_classes.specs.declared.method.MethodRef.TheVariants.{User}
use Rattle.cool_classes.specs.Chains.{features_of}
use Rattle.cool_runtime.specs.Standing.{HasLines, sizes}
use Rattle.cool_layout.specs.Labels.{initializer, method_label}
use Rattle.cool_codegen.specs.Spans.{Span, code_of, method_spans}
use Rattle.cool_emit.specs.SpansOfPrograms.{SpanOf, initializer_spans, lines_of_span}
use Rattle.cool_simulation.specs.Loadings.{Loading, IsLoaded, constants, context, whole}

-- the same for the methods of classes that are not basic
abbrev pub MethodsStand : Type 0
MethodsStand =
    (l : Loading) → IsLoaded l → (c : ClassId) (k : ℕ) (m : MethodDef) (x : Span) → 5 ≤ c.0 → c.0 < length l.table → slice_get (features_of l.table c) k ≡ Some (Method m)
    → Contains (method_spans sizes (context l c k) (constants l) m.formals (l.world.place (method_label l.table (User c k))) m.body) x
    → HasLines (whole l) x.from (code_of (context l c k) (constants l) x)

-- the same for the initial values of attributes
abbrev pub InitialValuesStand : Type 0
InitialValuesStand =
    (l : Loading) → IsLoaded l → (c : ClassId) (x : SpanOf) → c.0 < length l.table
    → Contains (initializer_spans sizes l.table l.files (constants l) (l.world.place (initializer l.table c)) c) x
    → HasLines (whole l) x.span.from (lines_of_span l.table l.files (constants l) x)
