-- In the machine of a loaded program, the code of each expression is at its address range, counted from the label of its method or initializer.
use Rattle.std.proofs.Common.{◌≡◌, ℕ, ◌+◌, ◌<◌, ◌≤◌, List, ◌++◌, length, refl}
use Rattle.std.specs.Prelude.{slice_get, Some, Contains}
use Rattle.std.proofs.lemmas.List.Elements.{All-contains, All-from_recursion}
use Rattle.cool_syntax.specs.declared.file_tree.Feature.TheVariants.{Method}
use Rattle.cool_syntax.specs.declared.file_tree.MethodDef.{MethodDef}
use Rattle.mips_isa.specs.Lines.{Line}
use Rattle.cool_classes.specs.declared.class_id.ClassId.{ClassId}
use Rattle.cool_classes.specs.declared.method.MethodRef.TheVariants.{User}
use Rattle.cool_classes.specs.Chains.{features_of}
use Rattle.cool_runtime.specs.Standing.{HasLines, sizes}
use Rattle.cool_runtime.proofs.Pieces.{has_front, has_back}
use Rattle.cool_layout.specs.Labels.{initializer, method_label}
use Rattle.cool_simulation.specs.Loadings.{Loading, IsLoaded, constants, context, whole}
use Rattle.cool_codegen.specs.Spans.{Span, code_of, method_spans}
use Rattle.cool_emit.specs.SpansOfPrograms.{SpanOf, lines_of_span, initializer_spans}
use Rattle.cool_codegen.proofs.SpansOfCode.{Stands, law_feature}
use Rattle.cool_emit.proofs.SpansOfPrograms.{StandsIn, initializer_stands}

module _ (l : Loading) (is : IsLoaded l) where
  behind : (xs ys : List Line) (pc : ℕ) → HasLines (whole l) pc (xs ++ ys) → HasLines (whole l) (pc + sizes xs) ys
  behind xs ys pc h = has_back (whole l) xs ys pc (pc + sizes xs) refl h

  pub span_of_method : (c : ClassId) (k : ℕ) (m : MethodDef) (x : Span) → 5 ≤ c.0 → c.0 < length l.table → slice_get (features_of l.table c) k ≡ Some (Method m)
      → Contains (method_spans sizes (context l c k) (constants l) m.formals (l.world.place (method_label l.table (User c k))) m.body) x → HasLines (whole l) x.from (code_of (context l c k) (constants l) x)
  span_of_method c k m x user within e there =
      let all = law_feature sizes (HasLines (whole l)) (has_front (whole l)) behind (context l c k) (constants l) (l.world.place (method_label l.table (User c k))) (Method m) (is.methods c k m user within e) in
      All-contains (Stands sizes (HasLines (whole l)) (has_front (whole l)) behind (context l c k) (constants l)) _ x
      (All-from_recursion _ (method_spans sizes (context l c k) (constants l) m.formals (l.world.place (method_label l.table (User c k))) m.body) all) there

  pub span_of_initializer : (c : ClassId) (x : SpanOf) → c.0 < length l.table
      → Contains (initializer_spans sizes l.table l.files (constants l) (l.world.place (initializer l.table c)) c) x → HasLines (whole l) x.span.from (lines_of_span l.table l.files (constants l) x)
  span_of_initializer c x within there =
      let all = initializer_stands sizes (HasLines (whole l)) (has_front (whole l)) behind l.table l.files (constants l) (l.world.place (initializer l.table c)) c (is.initializers c within) in
      All-contains (StandsIn sizes (HasLines (whole l)) (has_front (whole l)) behind l.table l.files (constants l)) _ x
      (All-from_recursion _ (initializer_spans sizes l.table l.files (constants l) (l.world.place (initializer l.table c)) c) all) there
