-- The code rows of a program's debug information are, one for one, the address ranges of the program's expressions.
use Rattle.std.proofs.Common.{◌≡◌, ◌∙◌, ℕ, ◌+◌, List, [], ◌∷◌, ◌++◌, length, flat_map, map, take, refl, sym, ap, ap₂, append-nil, Bool as Truth, true, false, arith}
use Rattle.std.specs.Prelude.{Option, Some, None, nat_lt, if◌then◌else◌}
use Rattle.std.specs.List.{AllByRecursion}
use Rattle.std.proofs.lemmas.Grind.{flat_map-append}
use Rattle.cool_syntax.specs.declared.file_tree.Feature.{Feature}
use Rattle.cool_syntax.specs.declared.file_tree.Feature.TheVariants.{Method, Attribute}
use Rattle.cool_syntax.specs.Tree.{Tree}
use Rattle.mips_isa.specs.declared.address_map.TheConstants.{TEXT_START}
use Rattle.mips_isa.specs.Lines.{Line}
use Rattle.cool_classes.specs.declared.class_id.ClassId.{ClassId}
use Rattle.cool_classes.specs.Chains.{Class, parent_of}
use Rattle.cool_runtime.specs.CodeOfCalls.{enter_lines}
use Rattle.cool_runtime.specs.RoutineLines.{all_routine_lines}
use Rattle.cool_runtime.specs.Standing.{sizes}
use Rattle.cool_layout.specs.Labels.{initializer}
use Rattle.cool_layout.specs.Preorder.{numbers_from}
use Rattle.cool_consts.specs.Constants.{Constants}
use Rattle.cool_codegen.specs.Code.{Context}
use Rattle.cool_codegen.specs.Features as scopes
use Rattle.cool_codegen.specs.Pieces.{begin_init_lines}
use Rattle.cool_codegen.specs.Shown.{Shown, shown, whole}
use Rattle.cool_codegen.specs.Spans.{Span, StandsBehind, along, code_of, feature_spans}
use Rattle.cool_codegen.specs.Variables.{Named}
use Rattle.cool_codegen.proofs.SpansOfCode.{Stands, law_feature}
use Rattle.cool_codegen.proofs.SpansStand.{behind_front, behind_back}
use Rattle.cool_emit.specs.CodeTables.{Row, attribute_row, formal_row, behind, class_rows, code_rows, feature_rows, head_rows, initial_rows, shown_row}
use Rattle.cool_emit.specs.Programs.{Placed, attributes_in, class_code, initializer_code, methods_in, parent_code, placed_code, program_constants}
use Rattle.cool_emit.specs.RowsOfSpans.{RowsAreSpans, RowsOfFeatures, told_by, told_of}
use Rattle.cool_emit.specs.SpansOfPrograms.{SpanOf, context_of, placed_spans, program_spans, told_in_class, told_in_initializer, told_in_text}
use Rattle.cool_emit.proofs.SpansByAddress.{StandsAt, addressed, feature_by_address, passed}

pub map_both : {X Y : Type 0} (h : X → Y) (xs ys : List X) → map h (xs ++ ys) ≡ map h xs ++ map h ys
map_both h [] ys = refl
map_both h (x ∷ xs) ys = ap (λ zs. h x ∷ zs) (map_both h xs ys)

-- Rows that tell of no expression

silent_attributes : (vs : List Named) → flat_map told_by (map attribute_row vs) ≡ []
silent_attributes [] = refl
silent_attributes (v ∷ vs) = silent_attributes vs

silent_formals : (vs : List Named) → flat_map told_by (map formal_row vs) ≡ []
silent_formals [] = refl
silent_formals (v ∷ vs) = silent_formals vs

silent_classes : (p : List Class) (cs : List ClassId) → flat_map told_by (flat_map (class_rows p) cs) ≡ []
silent_classes p [] = refl
silent_classes p (c ∷ cs) =
    flat_map-append told_by (map attribute_row (scopes.attributes_in p c)) (flat_map (class_rows p) cs)
    ∙ ap₂ (λ (xs ys : List Shown). xs ++ ys) (silent_attributes (scopes.attributes_in p c)) (silent_classes p cs)

silent_initial : (from to : ℕ) (name : List ℕ) (o : Option Tree) → flat_map told_by (initial_rows from to name o) ≡ []
silent_initial from to name None = refl
silent_initial from to name (Some t) = refl

silent_head : (p : List Class) (from to : ℕ) (x : Feature) → flat_map told_by (head_rows p from to x) ≡ []
silent_head p from to (Method m) = silent_formals (scopes.with_formals p m.formals [])
silent_head p from to (Attribute a) = silent_initial from to a.name a.init

module _ (p : List Class) (files : List (List ℕ)) where
  abbrev g : Constants
  g = program_constants p files

  module _ (c : ClassId) (pc : ℕ) (f : Placed) where
    abbrev s : Context
    s = context_of p files c f.place

    abbrev lines : List Line
    lines = placed_code p files g c f

    abbrev placed : Span → SpanOf
    placed x = record { class = c; feature = f.place; span = x }

    told_each : (xs : List Span) → AllByRecursion (λ (x : Span). StandsBehind lines x.from (code_of s g x)) xs
        → flat_map told_by (map (shown_row pc lines) (map (shown s g) xs)) ≡ map (told_of p files) (map placed (map (addressed lines pc) xs))
    told_each [] all = refl
    told_each (x ∷ xs) all =
        let to : behind pc lines (x.from + length (code_of s g x)) ≡ behind pc lines x.from + sizes (code_of s g x) = passed lines pc (code_of s g x) x.from (behind pc lines x.from) (record { lines = all.0; is = refl }) in
        ap₂ (λ (a : ℕ) (ys : List Shown). whole x.scope x.depth (behind pc lines x.from) a x.tree ∷ ys) to (told_each xs all.1)

    pub rows_of_feature : flat_map told_by (feature_rows p files g c pc f) ≡ map (told_of p files) (placed_spans sizes p files g c pc f)
    rows_of_feature =
        let xs = feature_spans length s g 0 f.feature in
        let stands : StandsBehind lines 0 lines = record { front = []; rest = []; whole = sym (append-nil lines); many = refl } in
        let all = law_feature length (StandsBehind lines) (behind_front lines) (behind_back lines) s g 0 f.feature stands in
        let at : StandsAt lines pc 0 pc lines = record { lines = stands; is = (let none : sizes (take 0 lines) ≡ 0 = refl in omega arith) } in
        flat_map-append told_by (head_rows p pc (pc + sizes lines) f.feature) (map (shown_row pc lines) (map (shown s g) xs))
        ∙ ap (λ (ys : List Shown). ys ++ flat_map told_by (map (shown_row pc lines) (map (shown s g) xs))) (silent_head p pc (pc + sizes lines) f.feature)
        ∙ told_each xs all ∙ ap (λ (ys : List Span). map (told_of p files) (map placed ys)) (feature_by_address lines pc s g 0 pc f.feature at)

  -- rows and spans of parts, one after another
  told_along : {X : Type 0} (code : X → List Line) (rows : ℕ → X → List Row) (spans : ℕ → X → List SpanOf) → ((q : ℕ) (x : X) → flat_map told_by (rows q x) ≡ map (told_of p files) (spans q x)) → (q : ℕ) (xs : List X)
      → flat_map told_by (along sizes code rows q xs) ≡ map (told_of p files) (along sizes code spans q xs)
  told_along code rows spans h q [] = refl
  told_along code rows spans h q (x ∷ xs) =
      flat_map-append told_by (rows q x) (along sizes code rows (q + sizes (code x)) xs)
      ∙ ap₂ (λ (us vs : List Shown). us ++ vs) (h q x) (told_along code rows spans h (q + sizes (code x)) xs)
      ∙ sym (map_both (told_of p files) (spans q x) (along sizes code spans (q + sizes (code x)) xs))

  of_initializer : (q : ℕ) (c : ClassId) → flat_map told_by (told_in_initializer sizes p files g (feature_rows p files g) q c) ≡ map (told_of p files) (told_in_initializer sizes p files g (placed_spans sizes p files g) q c)
  of_initializer q c =
      by (nat_lt c.0 5) _ _ (told_along (placed_code p files g c) (feature_rows p files g c) (placed_spans sizes p files g c) (rows_of_feature c)
      (q + sizes (begin_init_lines (initializer p c)) + sizes enter_lines + sizes (parent_code p (parent_of p c))) (attributes_in p c))
    where
      by : (t : Truth) (rows : List Row) (spans : List SpanOf) → flat_map told_by rows ≡ map (told_of p files) spans → flat_map told_by (if t then [] else rows) ≡ map (told_of p files) (if t then [] else spans)
      by true rows spans h = refl
      by false rows spans h = h

  of_class : (q : ℕ) (c : ClassId) → flat_map told_by (told_in_class sizes p files g (feature_rows p files g) q c) ≡ map (told_of p files) (told_in_class sizes p files g (placed_spans sizes p files g) q c)
  of_class q c =
      let first = q + sizes (initializer_code p files g c) in
      flat_map-append told_by (told_in_initializer sizes p files g (feature_rows p files g) q c) (along sizes (placed_code p files g c) (feature_rows p files g c) first (methods_in p c))
      ∙ ap₂ (λ (us vs : List Shown). us ++ vs) (of_initializer q c) (told_along (placed_code p files g c) (feature_rows p files g c) (placed_spans sizes p files g c) (rows_of_feature c) first (methods_in p c))
      ∙ sym (map_both (told_of p files) (told_in_initializer sizes p files g (placed_spans sizes p files g) q c) (along sizes (placed_code p files g c) (placed_spans sizes p files g c) first (methods_in p c)))

pub rows_of_features : RowsOfFeatures
rows_of_features p files c pc f = rows_of_feature p files c pc f

pub rows_are_spans : RowsAreSpans
rows_are_spans p files =
    let g = program_constants p files in
    let classes = flat_map (class_rows p) (numbers_from 0 (length p)) in
    flat_map-append told_by classes (code_rows p files g TEXT_START)
    ∙ ap (λ (ys : List Shown). ys ++ flat_map told_by (code_rows p files g TEXT_START)) (silent_classes p (numbers_from 0 (length p)))
    ∙ told_along p files (class_code p files g) (told_in_class sizes p files g (feature_rows p files g)) (told_in_class sizes p files g (placed_spans sizes p files g)) (of_class p files)
    (TEXT_START + sizes all_routine_lines) (numbers_from 0 (length p))
