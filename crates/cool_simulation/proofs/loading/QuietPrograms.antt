-- If each marked address is the beginning of an expression of the program, no run-time routine has one, and methods and initializers have them only where their
-- expressions begin.
use Rattle.std.proofs.Common.{◌≡◌, ℕ, zero, suc, ◌+◌, ◌<◌, ◌≤◌, ◌⊎◌, inl, inr, List, ◌∷◌, length, Some, Bool as Truth, true, false, refl, sym, ap, subst, arith}
use Rattle.std.specs.Prelude.{Contains, flat_map, slice_get, nat_lt, if◌then◌else◌}
use Rattle.std.proofs.lemmas.List.Elements.{Contains-append_cases}
use Rattle.mips_isa.specs.declared.address_map.TheConstants.{TEXT_START}
use Rattle.mips_isa.specs.Lines.{Line, Name}
use Rattle.cool_syntax.specs.declared.file_tree.AttributeDef.{AttributeDef}
use Rattle.cool_syntax.specs.declared.file_tree.Feature.TheVariants.{Method, Attribute}
use Rattle.cool_syntax.specs.declared.file_tree.MethodDef.{MethodDef}
use Rattle.cool_syntax.specs.Tree.{Tree}
use Rattle.cool_classes.specs.declared.class_id.ClassId.{ClassId}
use Rattle.cool_classes.specs.declared.method.MethodRef.TheVariants.{User}
use Rattle.cool_classes.specs.Chains.{Class, features_of}
use Rattle.cool_runtime.specs.Reaches.{World}
use Rattle.cool_runtime.specs.RoutineLines.{all_routine_lines}
use Rattle.cool_runtime.specs.Standing.{HasLines, sizes}
use Rattle.cool_runtime.proofs.Pieces.{has_front, has_back, sizes_append}
use Rattle.cool_codegen.specs.Features.{attributes_in, with_formals}
use Rattle.cool_layout.specs.Labels.{initializer, method_label}
use Rattle.cool_layout.specs.Preorder.{numbers_from}
use Rattle.cool_emit.specs.Programs.{Placed, class_code, classes_code, initializer_code, methods_in, placed_code, program_constants, program_text}
use Rattle.cool_emit.specs.SpansOfPrograms.{SpanOf, context_of, initializer_spans, placed_spans, program_spans, told_in_class}
use Rattle.cool_simulation.specs.Quiet.{IsFree, IsQuietInitializer, IsQuietMethod}
use Rattle.cool_simulation.proofs.loading.LoadedText.{method_placed}
use Rattle.cool_simulation.proofs.loading.PartsOfMarks.{AreMarks, AreWithin, EachWithin, along_within, free_of, marks_back, marks_front, marks_part, part_marks}
use Rattle.cool_simulation.proofs.loading.QuietFeatures.{IsSettled, each_within, initializer_within, methods_there, quiet_initializer, quiet_method}
use Rattle.cool_consts.specs.Constants.{Constants}
use Rattle.cool_codegen.specs.Spans.{along}
use Rattle.cool_emit.proofs.LabelsOfParts.{number_there}
use Rattle.cool_codegen.specs.Pieces.{begin_init_lines, mark_lines, return_basic_lines}
use Rattle.cool_runtime.specs.Instructions.{label}

module _ (p : List Class) (files : List (List ℕ)) (w : World) (marked : ℕ → Truth)
    (methods : (c : ClassId) (k : ℕ) (m : MethodDef) → c.0 < length p → slice_get (features_of p c) k ≡ Some (Method m)
    → IsSettled marked (context_of p files c k) (program_constants p files) (with_formals p m.formals (attributes_in p c)) m.body)
    (values : (c : ClassId) (k : ℕ) (a : AttributeDef) (t : Tree) → c.0 < length p → slice_get (features_of p c) k ≡ Some (Attribute a) → a.init ≡ Some t
    → IsSettled marked (context_of p files c k) (program_constants p files) (attributes_in p c) t)
    (text : HasLines w TEXT_START (program_text p files))
    (marks : AreMarks marked TEXT_START (TEXT_START + sizes (program_text p files)) (program_spans sizes p files TEXT_START)) where
  abbrev g : Constants
  g = program_constants p files

  abbrev code_at : ClassId → Placed → List Line
  code_at = placed_code p files g

  abbrev spans_at : ClassId → ℕ → Placed → List SpanOf
  spans_at = placed_spans sizes p files g

  abbrev told : ℕ → ClassId → List SpanOf
  told = told_in_class sizes p files g spans_at

  abbrev from : ℕ
  from = TEXT_START + sizes all_routine_lines

  -- the spans of a class begin within its code

  methods_within : (c : ClassId) → c.0 < length p → (pc : ℕ) → AreWithin pc (pc + sizes (flat_map (code_at c) (methods_in p c))) (along sizes (code_at c) (spans_at c) pc (methods_in p c))
  methods_within c within pc =
      along_within (code_at c) (spans_at c) w (methods_in p c) pc (each_within p files w marked methods values c within (methods_in p c) (methods_there p files w marked methods values c within))

  class_within : (c : ClassId) → c.0 < length p → (pc : ℕ) → AreWithin pc (pc + sizes (class_code p files g c)) (told pc c)
  class_within c within pc y h =
      by (Contains-append_cases (initializer_spans sizes p files g pc c) (along sizes (code_at c) (spans_at c) (pc + sizes (initializer_code p files g c)) (methods_in p c)) y h)
    where
      by : Contains (initializer_spans sizes p files g pc c) y ⊎ Contains (along sizes (code_at c) (spans_at c) (pc + sizes (initializer_code p files g c)) (methods_in p c)) y
          → (pc ≤ y.span.from) × (y.span.from < pc + sizes (class_code p files g c))
      by (inl k) = let r = initializer_within p files w marked methods values c within pc y k in let total = sizes_append w (initializer_code p files g c) (flat_map (code_at c) (methods_in p c)) in (omega arith, omega arith)
      by (inr k) = let r = methods_within c within (pc + sizes (initializer_code p files g c)) y k in let total = sizes_append w (initializer_code p files g c) (flat_map (code_at c) (methods_in p c)) in (omega arith, omega arith)

  number_low : (k n : ℕ) (c : ClassId) → Contains (numbers_from k n) c → c.0 < k + n
  number_low k zero c (i, less, e) = absurd (omega arith)
  number_low k (suc n) c (zero, less, e) = let same : k ≡ c.0 = ap (λ (d : ClassId). d.0) e in omega arith
  number_low k (suc n) c (suc i, less, e) = let h = number_low (k + 1) n c (i, omega arith, e) in omega arith

  classes_within : EachWithin (class_code p files g) told (numbers_from 0 (length p))
  classes_within c among pc = let low = number_low 0 (length p) c among in class_within c (omega arith) pc

  total : sizes (program_text p files) ≡ sizes all_routine_lines + sizes (classes_code p files g)
  total = sizes_append w all_routine_lines (classes_code p files g)

  -- no routine has a mark
  pub routines_free : IsFree marked TEXT_START (TEXT_START + sizes all_routine_lines)
  routines_free =
      let sum = total in
      free_of marked TEXT_START from (program_spans sizes p files TEXT_START) (marks_part marked TEXT_START (TEXT_START + sizes (program_text p files)) TEXT_START from _ (omega arith) (omega arith) marks)
      (λ y h. inr (along_within (class_code p files g) told w (numbers_from 0 (length p)) from classes_within y h).0)

  -- a class in the text
  class_at : (c : ClassId) → c.0 < length p → (pc : ℕ) × HasLines w pc (class_code p files g c) × AreMarks marked pc (pc + sizes (class_code p files g c)) (told pc c)
  class_at c within =
      let sum = total in
      part_marks (class_code p files g) told w marked (numbers_from 0 (length p)) c from (has_back w all_routine_lines (classes_code p files g) TEXT_START from refl text) classes_within
      (marks_part marked TEXT_START (TEXT_START + sizes (program_text p files)) from (from + sizes (classes_code p files g)) _ (omega arith) (omega arith) marks) (number_there 0 (length p) c (omega arith) (omega arith))

  -- the code of an initializer begins with its label, and so does that of a method

  initializer_label : (c : ClassId) (pc : ℕ) → HasLines w pc (initializer_code p files g c) → w.place (initializer p c) ≡ pc
  unfolding begin_init_lines return_basic_lines
  initializer_label c pc has = by (initializer p c) _ _ (nat_lt c.0 5) has
    where
      by : (n : Name) (xs ys : List Line) (t : Truth) → HasLines w pc (if t then label n ∷ xs else label n ∷ ys) → w.place n ≡ pc
      by n xs ys true h = h.0.labels.0
      by n xs ys false h = h.0.labels.0

  method_at_label : (c : ClassId) (k : ℕ) (m : MethodDef) (pc : ℕ) → HasLines w pc (code_at c (record { place = k; feature = Method m })) → w.place (method_label p (User c k)) ≡ pc
  unfolding mark_lines
  method_at_label c k m pc has = has.0.labels.0

  pub initializer_quiet : (c : ClassId) → c.0 < length p → IsQuietInitializer marked p files g c (w.place (initializer p c))
  initializer_quiet c within =
      let (pc, has, own) = class_at c within in
      let first = initializer_code p files g c in
      let rest = flat_map (code_at c) (methods_in p c) in
      let middle = pc + sizes first in
      let sum = sizes_append w first rest in
      let later = methods_within c within middle in
      subst (λ (a : ℕ). IsQuietInitializer marked p files g c a) (sym (initializer_label c pc (has_front w first rest pc has)))
      (quiet_initializer p files w marked methods values c within pc
      (marks_front marked pc middle (pc + sizes (class_code p files g c)) (initializer_spans sizes p files g pc c) (along sizes (code_at c) (spans_at c) middle (methods_in p c)) (omega arith) own (λ y h. (later y h).0)))

  pub method_quiet : (c : ClassId) (k : ℕ) (m : MethodDef) → c.0 < length p → slice_get (features_of p c) k ≡ Some (Method m)
      → IsQuietMethod marked (context_of p files c k) g m.formals (w.place (method_label p (User c k))) m.body
  method_quiet c k m within there =
      let (pc, has, own) = class_at c within in
      let first = initializer_code p files g c in
      let rest = flat_map (code_at c) (methods_in p c) in
      let middle = pc + sizes first in
      let sum = sizes_append w first rest in
      let placed : Placed = record { place = k; feature = Method m } in
      let e : 0 + k ≡ k = omega arith in
      let among : Contains (methods_in p c) placed = subst (λ i. Contains (methods_in p c) (record { place = i; feature = Method m })) e (method_placed 0 k (features_of p c) m there) in
      let others = along sizes (code_at c) (spans_at c) middle (methods_in p c) in
      let (pc', lines, mine) = part_marks (code_at c) (spans_at c) w marked (methods_in p c) placed middle (has_back w first rest pc middle refl has)
      (each_within p files w marked methods values c within (methods_in p c) (methods_there p files w marked methods values c within))
      (marks_part marked middle (pc + sizes (class_code p files g c)) middle (middle + sizes rest) others (omega arith) (omega arith)
      (marks_back marked pc middle (pc + sizes (class_code p files g c)) (initializer_spans sizes p files g pc c) others (omega arith) own (λ y h. (initializer_within p files w marked methods values c within pc y h).1))) among in
      subst (λ (a : ℕ). IsQuietMethod marked (context_of p files c k) g m.formals a m.body) (sym (method_at_label c k m pc' lines)) (quiet_method p files w marked methods values c within k m there pc' mine)
