-- The address ranges of expressions counted from the labels of methods and initializers are those of the debug information, which counts from the start of the
-- text.
use Rattle.std.proofs.Common.{◌≡◌, ℕ, zero, suc, ◌+◌, ◌<◌, inl, inr, List, [], ◌∷◌, flat_map, length, Some, refl, sym, subst, arith}
use Rattle.std.specs.Prelude.{Bool as Truth, true, false, Contains, if◌then◌else◌, nat_lt, slice_get}
use Rattle.std.proofs.lemmas.List.Elements.{Contains-append_left, Contains-append_right}
use Rattle.mips_isa.specs.declared.address_map.TheConstants.{TEXT_START}
use Rattle.mips_isa.specs.Lines.{Line, Name}
use Rattle.cool_syntax.specs.declared.file_tree.Feature.{Feature}
use Rattle.cool_syntax.specs.declared.file_tree.Feature.TheVariants.{Method, Attribute}
use Rattle.cool_syntax.specs.declared.file_tree.MethodDef.{MethodDef}
use Rattle.cool_classes.specs.declared.class_id.ClassId.{ClassId}
use Rattle.cool_classes.specs.declared.method.MethodRef.TheVariants.{User}
use Rattle.cool_classes.specs.Chains.{features_of}
use Rattle.cool_runtime.specs.Instructions.{label}
use Rattle.cool_runtime.specs.RoutineLines.{all_routine_lines}
use Rattle.cool_runtime.specs.Standing.{HasLines, sizes}
use Rattle.cool_runtime.proofs.Pieces.{has_front, has_back}
use Rattle.cool_layout.specs.Labels.{initializer, method_label}
use Rattle.cool_layout.specs.Preorder.{numbers_from}
use Rattle.cool_codegen.specs.Pieces.{begin_init_lines, mark_lines, return_basic_lines}
use Rattle.cool_codegen.specs.Shown.{Shown}
use Rattle.cool_codegen.specs.Spans.{Span, along, method_spans}
use Rattle.cool_emit.specs.Programs.{Placed, class_code, classes_code, initializer_code, methods_from, methods_in, placed_code, program_text}
use Rattle.cool_emit.specs.SpansOfPrograms.{SpanOf, initializer_spans, placed_spans, program_spans, told_in_class}
use Rattle.cool_emit.specs.RowsOfSpans.{told_of, told_rows}
use Rattle.cool_emit.proofs.LabelsOfParts.{number_there}
use Rattle.cool_emit.proofs.RowsOfSpans.{rows_are_spans}
use Rattle.cool_simulation.specs.Loadings.{Loading, constants, context}
use Rattle.cool_simulation.proofs.shown.InitialValues.{in_image}
use Rattle.cool_simulation.specs.Simulation.{IsSpan}
use Rattle.cool_simulation.proofs.ground.CodeOfParts.{in_rest}

module _ (l : Loading) where
  -- the position of one of several consecutive parts, with its rows
  part_stands : {X Y : Type 0} (code : X → List Line) (inside : ℕ → X → List Y) (xs : List X) (x : X) (pc : ℕ) → HasLines l.world pc (flat_map code xs) → Contains xs x
      → (pc' : ℕ) × HasLines l.world pc' (code x) × ((y : Y) → Contains (inside pc' x) y → Contains (along sizes code inside pc xs) y)
  part_stands code inside [] x pc has (k, less, is) = absurd (omega arith)
  part_stands {X} {Y} code inside (z ∷ xs) x pc has (zero, less, is) =
      let rest = along sizes code inside (pc + sizes (code z)) xs in
      subst (λ (u : X). (pc' : ℕ) × HasLines l.world pc' (code u) × ((y : Y) → Contains (inside pc' u) y → Contains (along sizes code inside pc (z ∷ xs)) y)) is
      (pc, has_front l.world (code z) (flat_map code xs) pc has, λ y there. Contains-append_left (inside pc z) rest y there)
  part_stands code inside (z ∷ xs) x pc has (suc k, less, is) =
      let (pc', lines, within) = part_stands code inside xs x (pc + sizes (code z)) (has_back l.world (code z) (flat_map code xs) pc (pc + sizes (code z)) refl has) (k, omega arith, is) in
      (pc', lines, λ y there. Contains-append_right (inside pc z) (along sizes code inside (pc + sizes (code z)) xs) y (within y there))

  -- a method among features is placed
  method_placed : (j : ℕ) (fs : List Feature) (k : ℕ) (m : MethodDef) → slice_get fs k ≡ Some (Method m) → Contains (methods_from j fs) (record { place = j + k; feature = Method m })
  method_placed j [] k m is = absurd cc
  method_placed j (Method x ∷ fs) zero m is =
      let same : x ≡ m = cc in
      let e : j ≡ j + 0 = omega arith in
      subst (λ i. Contains (methods_from j (Method x ∷ fs)) (record { place = i; feature = Method m })) e (subst (λ y. Contains (methods_from j (Method x ∷ fs)) (record { place = j; feature = Method y })) same (0, omega arith, refl))
  method_placed j (Attribute a ∷ fs) zero m is = absurd cc
  method_placed j (Method x ∷ fs) (suc k) m is =
      let e : j + 1 + k ≡ j + suc k = omega arith in
      in_rest (record { place = j; feature = Method x }) (methods_from (j + 1) fs) (record { place = j + suc k; feature = Method m })
      (subst (λ i. Contains (methods_from (j + 1) fs) (record { place = i; feature = Method m })) e (method_placed (j + 1) fs k m is))
  method_placed j (Attribute a ∷ fs) (suc k) m is =
      let e : j + 1 + k ≡ j + suc k = omega arith in
      subst (λ i. Contains (methods_from (j + 1) fs) (record { place = i; feature = Method m })) e (method_placed (j + 1) fs k m is)

  -- the code of an initializer begins with its label
  initializer_marked : (c : ClassId) (pc : ℕ) → HasLines l.world pc (initializer_code l.table l.files (constants l) c) → l.world.place (initializer l.table c) ≡ pc
  unfolding begin_init_lines return_basic_lines
  initializer_marked c pc has = by (initializer l.table c) _ _ (nat_lt c.0 5) has
    where
      by : (n : Name) (xs ys : List Line) (t : Truth) → HasLines l.world pc (if t then label n ∷ xs else label n ∷ ys) → l.world.place n ≡ pc
      by n xs ys true h = h.0.labels.0
      by n xs ys false h = h.0.labels.0

  -- and so does that of a method
  method_marked : (c : ClassId) (k : ℕ) (m : MethodDef) (pc : ℕ) → HasLines l.world pc (placed_code l.table l.files (constants l) c (record { place = k; feature = Method m })) → l.world.place (method_label l.table (User c k)) ≡ pc
  unfolding mark_lines
  method_marked c k m pc has = has.0.labels.0

  -- in a machine in whose text the program stands
  module _ (text : HasLines l.world TEXT_START (program_text l.table l.files)) where
    class_stands : (c : ClassId) → c.0 < length l.table
        → (pc : ℕ) × HasLines l.world pc (class_code l.table l.files (constants l) c)
        × ((y : SpanOf) → Contains (told_in_class sizes l.table l.files (constants l) (placed_spans sizes l.table l.files (constants l)) pc c) y → Contains (program_spans sizes l.table l.files TEXT_START) y)
    class_stands c within =
        part_stands (class_code l.table l.files (constants l)) (told_in_class sizes l.table l.files (constants l) (placed_spans sizes l.table l.files (constants l))) (numbers_from 0 (length l.table)) c
        (TEXT_START + sizes all_routine_lines) (has_back l.world all_routine_lines (classes_code l.table l.files (constants l)) TEXT_START (TEXT_START + sizes all_routine_lines) refl text)
        (number_there 0 (length l.table) c (omega arith) (omega arith))

    pub span_in_table : (c : ClassId) (f : ℕ) (x : Span) → c.0 < length l.table → IsSpan l c f x → Contains (program_spans sizes l.table l.files TEXT_START) (record { class = c; feature = f; span = x })
    span_in_table c f x within (inr there) =
        let (pc, lines, all) = class_stands c within in
        let y : SpanOf = record { class = c; feature = f; span = x } in
        let g = constants l in
        let first = initializer_code l.table l.files g c in
        let rest = flat_map (placed_code l.table l.files g c) (methods_in l.table c) in
        let marked = initializer_marked c pc (has_front l.world first rest pc lines) in
        let mine = initializer_spans sizes l.table l.files g pc c in
        let others = along sizes (placed_code l.table l.files g c) (placed_spans sizes l.table l.files g c) (pc + sizes first) (methods_in l.table c) in
        all y (Contains-append_left mine others y (subst (λ a. Contains (initializer_spans sizes l.table l.files g a c) y) marked there))
    span_in_table c f x within (inl (m, is, there)) =
        let (pc, lines, all) = class_stands c within in
        let y : SpanOf = record { class = c; feature = f; span = x } in
        let g = constants l in
        let placed : Placed = record { place = f; feature = Method m } in
        let first = initializer_code l.table l.files g c in
        let rest = flat_map (placed_code l.table l.files g c) (methods_in l.table c) in
        let e : 0 + f ≡ f = omega arith in
        let among : Contains (methods_in l.table c) placed = subst (λ i. Contains (methods_in l.table c) (record { place = i; feature = Method m })) e (method_placed 0 (features_of l.table c) f m is) in
        let (pc', own, told) = part_stands (placed_code l.table l.files g c) (placed_spans sizes l.table l.files g c) (methods_in l.table c) placed (pc + sizes first) (has_back l.world first rest pc (pc + sizes first) refl lines) among in
        let marked = method_marked c f m pc' own in
        let here : Contains (placed_spans sizes l.table l.files g c pc' placed) y =
        in_image (λ (z : Span). record { class = c; feature = f; span = z }) (method_spans sizes (context l c f) g m.formals pc' m.body) x (subst (λ a. Contains (method_spans sizes (context l c f) g m.formals a m.body) x) marked there) in
        all y (Contains-append_right (initializer_spans sizes l.table l.files g pc c) (along sizes (placed_code l.table l.files g c) (placed_spans sizes l.table l.files g c) (pc + sizes first) (methods_in l.table c)) y (told y here))

    -- and the table has a row of it
    pub row_in_table : (c : ClassId) (f : ℕ) (x : Span) → c.0 < length l.table → IsSpan l c f x → Contains (told_rows l.table l.files) (told_of l.table l.files (record { class = c; feature = f; span = x }))
    row_in_table c f x within there =
        let y : SpanOf = record { class = c; feature = f; span = x } in
        subst (λ (rs : List Shown). Contains rs (told_of l.table l.files y)) (sym (rows_are_spans l.table l.files))
        (in_image (told_of l.table l.files) (program_spans sizes l.table l.files TEXT_START) y (span_in_table c f x within there))
