-- If, in the body or initial value of each feature, only beginnings of expressions are marked addresses, the code of methods and initializers has no other
-- marked address.
use Rattle.std.proofs.Common.{◌≡◌, ℕ, zero, suc, ◌+◌, ◌%◌, ◌<◌, ◌≤◌, ◌⊎◌, inl, inr, List, [], ◌∷◌, ◌++◌, length, map as each, Option, None, Some, Bool as Truth, true, refl, sym, ap, ◌∙◌, subst, arith, le-ltb, ◌*◌}
use Rattle.std.specs.Prelude.{Contains, IfSome, flat_map, nat_lt, slice_get, if◌then◌else◌, pos}
use Rattle.std.proofs.lemmas.List.Elements.{Contains-append_cases}
use Rattle.mips_isa.specs.Lines.{Line}
use Rattle.cool_syntax.specs.declared.file_tree.AttributeDef.{AttributeDef}
use Rattle.cool_syntax.specs.declared.file_tree.Feature.{Feature}
use Rattle.cool_syntax.specs.declared.file_tree.Feature.TheVariants.{Method, Attribute}
use Rattle.cool_syntax.specs.declared.file_tree.MethodDef.{MethodDef}
use Rattle.cool_syntax.specs.Tree.{Tree}
use Rattle.cool_classes.specs.declared.class_id.ClassId.{ClassId}
use Rattle.cool_classes.specs.declared.method.MethodRef.TheVariants.{User}
use Rattle.cool_classes.specs.Chains.{Class, features_of, parent_of}
use Rattle.cool_consts.specs.Constants.{Constants}
use Rattle.cool_runtime.specs.CodeOfCalls.{enter_lines}
use Rattle.cool_runtime.specs.Reaches.{World}
use Rattle.cool_runtime.specs.Standing.{sizes}
use Rattle.cool_runtime.proofs.Pieces.{sizes_append}
use Rattle.cool_codegen.specs.Code.{Context, code}
use Rattle.cool_codegen.specs.Features.{attributes_in, initial_value_code, method_code, with_formals, feature_code}
use Rattle.cool_codegen.specs.Pieces.{begin_init_lines, leave_lines, mark_lines, store_lines, return_basic_lines}
use Rattle.cool_codegen.specs.Spans.{Span, along, feature_spans, method_spans, spans, initial_value_spans}
use Rattle.cool_codegen.specs.Variables.{Named}
use Rattle.cool_layout.specs.Labels.{initializer, method_label}
use Rattle.cool_emit.specs.Programs.{Placed, attributes_from, initializer_code, methods_from, methods_in, parent_code, placed_code, program_constants}
use Rattle.cool_emit.specs.Programs as programs
use Rattle.cool_emit.specs.SpansOfPrograms.{SpanOf, context_of, initializer_spans, placed_spans}
use Rattle.cool_simulation.specs.Quiet.{AreStoresFree, IsFree, IsQuiet, IsQuietInitializer, IsQuietMethod, IsStoreFree}
use Rattle.cool_simulation.proofs.loading.PartsOfMarks.{AreMarks, AreWithin, EachWithin, along_within, free_of, marks_back, marks_front, marks_part}
use Rattle.cool_layout.specs.Members.{offset}

-- each item in the image of a list is the image of an item of the list
pub out_of_image : {X Y : Type 0} (f : X → Y) (xs : List X) (y : Y) → Contains (each f xs) y → (x : X) × Contains xs x × (f x ≡ y)
out_of_image f [] y (k, less, e) = absurd (omega arith)
out_of_image f (x ∷ xs) y (zero, less, e) = (x, (0, omega arith, refl), e)
out_of_image f (x ∷ xs) y (suc k, less, e) = let (u, among, is) = out_of_image f xs y (k, omega arith, e) in let low = among.1 in (u, (suc among.0, omega arith, among.2), is)

-- a feature that is placed among others is one of them

abbrev IsPlaced : ℕ → List Feature → Placed → Type 0
IsPlaced j fs f = (i : ℕ) × (f.place ≡ j + i) × (slice_get fs i ≡ Some f.feature)

later_placed : (j : ℕ) (x : Feature) (fs : List Feature) (f : Placed) → IsPlaced (j + 1) fs f → IsPlaced j (x ∷ fs) f
later_placed j x fs f (i, place, is) = (suc i, omega arith, is)

first_placed : (j : ℕ) (x : Feature) (fs : List Feature) (f : Placed) → record { place = j; feature = x } ≡ f → IsPlaced j (x ∷ fs) f
first_placed j x fs f e = let place : j ≡ f.place = ap (λ (g : Placed). g.place) e in (0, omega arith, ap (λ (g : Placed). Some g.feature) e)

attribute_there : (j : ℕ) (fs : List Feature) (f : Placed) → Contains (attributes_from j fs) f → IsPlaced j fs f
attribute_there j [] f (k, less, e) = absurd (omega arith)
attribute_there j (Method m ∷ fs) f h = later_placed j (Method m) fs f (attribute_there (j + 1) fs f h)
attribute_there j (Attribute a ∷ fs) f (zero, less, e) = first_placed j (Attribute a) fs f e
attribute_there j (Attribute a ∷ fs) f (suc k, less, e) = later_placed j (Attribute a) fs f (attribute_there (j + 1) fs f (k, omega arith, e))

method_there : (j : ℕ) (fs : List Feature) (f : Placed) → Contains (methods_from j fs) f → IsPlaced j fs f
method_there j [] f (k, less, e) = absurd (omega arith)
method_there j (Attribute a ∷ fs) f h = later_placed j (Attribute a) fs f (method_there (j + 1) fs f h)
method_there j (Method m ∷ fs) f (zero, less, e) = first_placed j (Method m) fs f e
method_there j (Method m ∷ fs) f (suc k, less, e) = later_placed j (Method m) fs f (method_there (j + 1) fs f (k, omega arith, e))

-- A body whose spans begin within its code, and which is quiet wherever each mark in its code is the beginning of one.
pub record IsSettled (marked : ℕ → Truth) (s : Context) (g : Constants) (vs : List Named) (t : Tree) : Type 0 where
  pub within : (pc : ℕ) (x : Span) → Contains (spans sizes s g vs 0 0 pc t) x → (pc ≤ x.from) × (x.from < pc + sizes (code s g vs 0 0 t))
  pub quiet : (pc : ℕ) → ((i : ℕ) → i % 4 ≡ 0 → pc ≤ i → i < pc + sizes (code s g vs 0 0 t) → marked i ≡ true → (x : Span) × Contains (spans sizes s g vs 0 0 pc t) x × (x.from ≡ i))
      → (x : Span) → Contains (spans sizes s g vs 0 0 pc t) x → IsQuiet marked s g x

module _ (p : List Class) (files : List (List ℕ)) (w : World) (marked : ℕ → Truth)
    (methods : (c : ClassId) (k : ℕ) (m : MethodDef) → c.0 < length p → slice_get (features_of p c) k ≡ Some (Method m)
    → IsSettled marked (context_of p files c k) (program_constants p files) (with_formals p m.formals (attributes_in p c)) m.body)
    (values : (c : ClassId) (k : ℕ) (a : AttributeDef) (t : Tree) → c.0 < length p → slice_get (features_of p c) k ≡ Some (Attribute a) → a.init ≡ Some t
    → IsSettled marked (context_of p files c k) (program_constants p files) (attributes_in p c) t) where
  abbrev g : Constants
  g = program_constants p files

  abbrev code_at : ClassId → Placed → List Line
  code_at = placed_code p files g

  abbrev spans_at : ClassId → ℕ → Placed → List SpanOf
  spans_at = placed_spans sizes p files g

  -- the spans of a feature, where it is known

  module _ (c : ClassId) (c_within : c.0 < length p) where
    abbrev in_feature : ℕ → Span → SpanOf
    in_feature k x = record { class = c; feature = k; span = x }

    body_at : (k : ℕ) (m : MethodDef) → slice_get (features_of p c) k ≡ Some (Method m) → (pc : ℕ) (x : Span)
        → Contains (method_spans sizes (context_of p files c k) g m.formals pc m.body) x
        → (pc + sizes (mark_lines (method_label p (User c k))) + sizes enter_lines ≤ x.from)
        × (x.from < pc + sizes (mark_lines (method_label p (User c k))) + sizes enter_lines + sizes (code (context_of p files c k) g (with_formals p m.formals (attributes_in p c)) 0 0 m.body))
    body_at k m there pc x among = (methods c k m c_within there).within (pc + sizes (mark_lines (method_label p (User c k))) + sizes enter_lines) x among

    method_size : (k : ℕ) (m : MethodDef) → sizes (method_code (context_of p files c k) g m.formals m.body)
        ≡ sizes (mark_lines (method_label p (User c k))) + (sizes enter_lines + (sizes (code (context_of p files c k) g (with_formals p m.formals (attributes_in p c)) 0 0 m.body) + sizes (leave_lines (pos (12 + 4 * length m.formals)))))
    method_size k m =
        let body = code (context_of p files c k) g (with_formals p m.formals (attributes_in p c)) 0 0 m.body in
        let leave = leave_lines (pos (12 + 4 * length m.formals)) in
        let s1 = sizes_append w (mark_lines (method_label p (User c k))) (enter_lines ++ (body ++ leave)) in
        let s2 = sizes_append w enter_lines (body ++ leave) in
        let s3 = sizes_append w body leave in
        omega arith

    -- they begin within its code
    feature_within : (f : Placed) → slice_get (features_of p c) f.place ≡ Some f.feature → (pc : ℕ) → AreWithin pc (pc + sizes (code_at c f)) (spans_at c pc f)
    feature_within f there pc y h = by f.place f.feature there h
      where
        value_in : (k : ℕ) (a : AttributeDef) (o : Option Tree) → slice_get (features_of p c) k ≡ Some (Attribute a) → a.init ≡ o → (x : Span)
            → Contains (initial_value_spans sizes (context_of p files c k) g pc o) x
            → (pc ≤ x.from) × (x.from < pc + sizes (initial_value_code (context_of p files c k) g o))
        value_in k a None there init x (i, less, e) = absurd (omega arith)
        value_in k a (Some t) there init x among =
            let h = (values c k a t c_within there init).within pc x among in
            let body = code (context_of p files c k) g (attributes_in p c) 0 0 t in
            let s1 = sizes_append w body (store_lines (pos (offset p c (record { owner = c; index = k }))) 16) in
            (h.0, omega arith)

        by : (k : ℕ) (x : Feature) → slice_get (features_of p c) k ≡ Some x → Contains (each (in_feature k) (feature_spans sizes (context_of p files c k) g pc x)) y
            → (pc ≤ y.span.from) × (y.span.from < pc + sizes (feature_code (context_of p files c k) g x))
        by k (Method m) there h =
            let (x, among, is) = out_of_image (in_feature k) (method_spans sizes (context_of p files c k) g m.formals pc m.body) y h in
            let r = body_at k m there pc x among in
            let total = method_size k m in
            let same : x.from ≡ y.span.from = ap (λ (z : SpanOf). z.span.from) is in
            (omega arith, omega arith)
        by k (Attribute a) there h =
            let (x, among, is) = out_of_image (in_feature k) (initial_value_spans sizes (context_of p files c k) g pc a.init) y h in
            let r = value_in k a a.init there refl x among in
            let same : x.from ≡ y.span.from = ap (λ (z : SpanOf). z.span.from) is in
            (omega arith, omega arith)

    -- a method in whose code each mark is the beginning of one of its spans
    pub quiet_method : (k : ℕ) (m : MethodDef) → slice_get (features_of p c) k ≡ Some (Method m) → (pc : ℕ)
        → AreMarks marked pc (pc + sizes (method_code (context_of p files c k) g m.formals m.body)) (spans_at c pc (record { place = k; feature = Method m }))
        → IsQuietMethod marked (context_of p files c k) g m.formals pc m.body
    quiet_method k m there pc marks =
        let ys = spans_at c pc (record { place = k; feature = Method m }) in
        let body = code (context_of p files c k) g (with_formals p m.formals (attributes_in p c)) 0 0 m.body in
        let from = pc + sizes (mark_lines (method_label p (User c k))) + sizes enter_lines in
        let to = pc + sizes (method_code (context_of p files c k) g m.formals m.body) in
        let total = method_size k m in
        record {
          enter = free_of marked pc from ys (marks_part marked pc to pc from ys (omega arith) (omega arith) marks) (λ y h. inr (lie y h).0);
          leave = free_of marked (from + sizes body) to ys (marks_part marked pc to (from + sizes body) to ys (omega arith) (omega arith) marks) (λ y h. inl (lie y h).1);
          spans = (methods c k m c_within there).quiet from (λ i even low high mark. own i (marks i even (omega arith) (omega arith) mark));
        }
      where
        lie : (y : SpanOf) → Contains (spans_at c pc (record { place = k; feature = Method m })) y
            → (pc + sizes (mark_lines (method_label p (User c k))) + sizes enter_lines ≤ y.span.from)
            × (y.span.from < pc + sizes (mark_lines (method_label p (User c k))) + sizes enter_lines + sizes (code (context_of p files c k) g (with_formals p m.formals (attributes_in p c)) 0 0 m.body))
        lie y h =
            let (x, among, is) = out_of_image (in_feature k) (method_spans sizes (context_of p files c k) g m.formals pc m.body) y h in
            let r = body_at k m there pc x among in
            let same : x.from ≡ y.span.from = ap (λ (z : SpanOf). z.span.from) is in
            (omega arith, omega arith)

        own : (i : ℕ) → (y : SpanOf) × Contains (spans_at c pc (record { place = k; feature = Method m })) y × (y.span.from ≡ i)
            → (x : Span) × Contains (method_spans sizes (context_of p files c k) g m.formals pc m.body) x × (x.from ≡ i)
        own i (y, h, e) = let (x, among, is) = out_of_image (in_feature k) (method_spans sizes (context_of p files c k) g m.formals pc m.body) y h in (x, among, ap (λ (z : SpanOf). z.span.from) is ∙ e)

    -- The attributes of an initializer, one behind the other: their stores have no mark, and their spans are quiet.

    abbrev ValueMarks : ℕ → Placed → Type 0
    ValueMarks pc f = AreMarks marked pc (pc + sizes (code_at c f)) (spans_at c pc f)

    value_lies : (k : ℕ) (a : AttributeDef) (t : Tree) → slice_get (features_of p c) k ≡ Some (Attribute a) → a.init ≡ Some t → (pc : ℕ) (y : SpanOf)
        → Contains (each (in_feature k) (spans sizes (context_of p files c k) g (attributes_in p c) 0 0 pc t)) y → y.span.from < pc + sizes (code (context_of p files c k) g (attributes_in p c) 0 0 t)
    value_lies k a t there init pc y h =
        let (x, among, is) = out_of_image (in_feature k) (spans sizes (context_of p files c k) g (attributes_in p c) 0 0 pc t) y h in
        let r = (values c k a t c_within there init).within pc x among in
        let same : x.from ≡ y.span.from = ap (λ (z : SpanOf). z.span.from) is in
        omega arith

    -- the same for one attribute
    value_quiet : (k : ℕ) (a : AttributeDef) (o : Option Tree) → slice_get (features_of p c) k ≡ Some (Attribute a) → a.init ≡ o → (pc : ℕ)
        → AreMarks marked pc (pc + sizes (initial_value_code (context_of p files c k) g o)) (each (in_feature k) (initial_value_spans sizes (context_of p files c k) g pc o))
        → IfSome o (λ t. IsFree marked (pc + sizes (code (context_of p files c k) g (attributes_in p c) 0 0 t)) (pc + sizes (initial_value_code (context_of p files c k) g (Some t))))
        × ((y : SpanOf) → Contains (each (in_feature k) (initial_value_spans sizes (context_of p files c k) g pc o)) y → IsQuiet marked (context_of p files y.class y.feature) g y.span)
    value_quiet k a None there init pc marks = (tt, λ y (i, less, e). absurd (omega arith))
    value_quiet k a (Some t) there init pc marks =
        let ctx = context_of p files c k in
        let body = code ctx g (attributes_in p c) 0 0 t in
        let to = pc + sizes (initial_value_code ctx g (Some t)) in
        let xs = spans sizes ctx g (attributes_in p c) 0 0 pc t in
        let ys = each (in_feature k) xs in
        let total = sizes_append w body (store_lines (pos (offset p c (record { owner = c; index = k }))) 16) in (
          free_of marked (pc + sizes body) to ys (marks_part marked pc to (pc + sizes body) to ys (omega arith) (omega arith) marks) (λ y h. inl (value_lies k a t there init pc y h)),
          λ y h. let (x, among, is) = out_of_image (in_feature k) xs y h in
              subst (λ (z : SpanOf). IsQuiet marked (context_of p files z.class z.feature) g z.span) is
              ((values c k a t c_within there init).quiet pc (λ i even low high mark. own i xs (marks i even low (omega arith) mark)) x among),
        )
      where
        own : (i : ℕ) (xs : List Span) → (y : SpanOf) × Contains (each (in_feature k) xs) y × (y.span.from ≡ i) → (x : Span) × Contains xs x × (x.from ≡ i)
        own i xs (y, h, e) = let (x, among, is) = out_of_image (in_feature k) xs y h in (x, among, ap (λ (z : SpanOf). z.span.from) is ∙ e)

    -- facts about the attributes that are left
    abbrev AreThere : List Placed → Type 0
    AreThere fs = (f : Placed) → Contains fs f → slice_get (features_of p c) f.place ≡ Some f.feature

    abbrev AreAttributes : List Placed → Type 0
    AreAttributes fs = (f : Placed) → Contains fs f → (a : AttributeDef) × (f.feature ≡ Attribute a)

    pub each_within : (fs : List Placed) → AreThere fs → EachWithin (code_at c) (spans_at c) fs
    each_within fs there f h pc = feature_within f (there f h) pc

    values_quiet : (fs : List Placed) (pc : ℕ) → AreThere fs → AreAttributes fs → AreMarks marked pc (pc + sizes (flat_map (code_at c) fs)) (along sizes (code_at c) (spans_at c) pc fs)
        → AreStoresFree marked p files g c pc fs × ((y : SpanOf) → Contains (along sizes (code_at c) (spans_at c) pc fs) y → IsQuiet marked (context_of p files y.class y.feature) g y.span)
    values_quiet [] pc there attributes marks = (tt, λ y (i, less, e). absurd (omega arith))
    values_quiet (f ∷ fs) pc there attributes marks =
        let total = sizes_append w (code_at c f) (flat_map (code_at c) fs) in
        let middle = pc + sizes (code_at c f) in
        let to = pc + sizes (flat_map (code_at c) (f ∷ fs)) in
        let rest = along sizes (code_at c) (spans_at c) middle fs in
        let (a, is) = attributes f (0, omega arith, refl) in
        let first : AreMarks marked pc middle (spans_at c pc f) =
        marks_front marked pc middle to (spans_at c pc f) rest (omega arith) marks (λ y k. (along_within (code_at c) (spans_at c) w fs middle (each_within fs (λ f' h. let less = h.1 in there f' (suc h.0, omega arith, h.2))) y k).0) in
        let own = one f a is (there f (0, omega arith, refl)) pc first in
        let others =
        values_quiet fs middle (λ f' h. let less = h.1 in there f' (suc h.0, omega arith, h.2)) (λ f' h. let less = h.1 in attributes f' (suc h.0, omega arith, h.2))
        (marks_part marked middle to middle (middle + sizes (flat_map (code_at c) fs)) rest (omega arith) (omega arith)
        (marks_back marked pc middle to (spans_at c pc f) rest (omega arith) marks (λ y k. (feature_within f (there f (0, omega arith, refl)) pc y k).1))) in (
          (own.0, others.0),
          λ y h. by y (Contains-append_cases (spans_at c pc f) rest y h) own.1 others.1,
        )
      where
        by : (y : SpanOf) → Contains (spans_at c pc f) y ⊎ Contains (along sizes (code_at c) (spans_at c) (pc + sizes (code_at c f)) fs) y
            → ((y : SpanOf) → Contains (spans_at c pc f) y → IsQuiet marked (context_of p files y.class y.feature) g y.span)
            → ((y : SpanOf) → Contains (along sizes (code_at c) (spans_at c) (pc + sizes (code_at c f)) fs) y → IsQuiet marked (context_of p files y.class y.feature) g y.span) → IsQuiet marked (context_of p files y.class y.feature) g y.span
        by y (inl k) f1 f2 = f1 y k
        by y (inr k) f1 f2 = f2 y k

        one : (f : Placed) (a : AttributeDef) → f.feature ≡ Attribute a → slice_get (features_of p c) f.place ≡ Some f.feature → (pc : ℕ) → AreMarks marked pc (pc + sizes (code_at c f)) (spans_at c pc f)
            → IsStoreFree marked (context_of p files c f.place) g pc f.feature × ((y : SpanOf) → Contains (spans_at c pc f) y → IsQuiet marked (context_of p files y.class y.feature) g y.span)
        one f a is there pc marks =
            subst (λ (x : Feature). slice_get (features_of p c) f.place ≡ Some x → AreMarks marked pc (pc + sizes (feature_code (context_of p files c f.place) g x)) (each (in_feature f.place) (feature_spans sizes (context_of p files c f.place) g pc x))
            → IsStoreFree marked (context_of p files c f.place) g pc x × ((y : SpanOf) → Contains (each (in_feature f.place) (feature_spans sizes (context_of p files c f.place) g pc x)) y → IsQuiet marked (context_of p files y.class y.feature) g y.span))
            (sym is) (λ there' marks'. value_quiet f.place a a.init there' refl pc marks') there marks

    -- The initializer of a class, and its methods

    attributes_there : AreThere (programs.attributes_in p c)
    attributes_there f h = let (i, place, is) = attribute_there 0 (features_of p c) f h in let same : i ≡ f.place = omega arith in subst (λ (k : ℕ). slice_get (features_of p c) k ≡ Some f.feature) same is

    pub methods_there : AreThere (methods_in p c)
    methods_there f h = let (i, place, is) = method_there 0 (features_of p c) f h in let same : i ≡ f.place = omega arith in subst (λ (k : ℕ). slice_get (features_of p c) k ≡ Some f.feature) same is

    are_attributes : (j : ℕ) (fs : List Feature) → AreAttributes (attributes_from j fs)
    are_attributes j [] f (k, less, e) = absurd (omega arith)
    are_attributes j (Method m ∷ fs) f h = are_attributes (j + 1) fs f h
    are_attributes j (Attribute a ∷ fs) f (zero, less, e) = (a, ap (λ (x : Placed). x.feature) (sym e))
    are_attributes j (Attribute a ∷ fs) f (suc k, less, e) = are_attributes (j + 1) fs f (k, omega arith, e)

    abbrev values_from : ℕ → ℕ
    values_from pc = pc + sizes (begin_init_lines (initializer p c)) + sizes enter_lines + sizes (parent_code p (parent_of p c))

    abbrev own_code : List Line
    own_code = flat_map (code_at c) (programs.attributes_in p c)

    abbrev high_code : List Line
    high_code = begin_init_lines (initializer p c) ++ (enter_lines ++ (parent_code p (parent_of p c) ++ (own_code ++ programs.end_code)))

    high_size : sizes high_code ≡ sizes (begin_init_lines (initializer p c)) + (sizes enter_lines + (sizes (parent_code p (parent_of p c)) + (sizes own_code + sizes programs.end_code)))
    high_size =
        let parents = parent_code p (parent_of p c) in
        let s1 = sizes_append w (begin_init_lines (initializer p c)) (enter_lines ++ (parents ++ (own_code ++ programs.end_code))) in
        let s2 = sizes_append w enter_lines (parents ++ (own_code ++ programs.end_code)) in
        let s3 = sizes_append w parents (own_code ++ programs.end_code) in
        let s4 = sizes_append w own_code programs.end_code in
        omega arith

    abbrev values_at : ℕ → List SpanOf
    values_at pc = along sizes (code_at c) (spans_at c) (values_from pc) (programs.attributes_in p c)

    values_lie : (pc : ℕ) → AreWithin (values_from pc) (values_from pc + sizes own_code) (values_at pc)
    values_lie pc = along_within (code_at c) (spans_at c) w (programs.attributes_in p c) (values_from pc) (each_within (programs.attributes_in p c) attributes_there)

    order : (c.0 < 5) ⊎ (5 ≤ c.0)
    order = grind arith

    low_is : c.0 < 5 → nat_lt c.0 5 ≡ true
    low_is less = grind (arith, less)

    -- they begin within its code
    pub initializer_within : (pc : ℕ) → AreWithin pc (pc + sizes (initializer_code p files g c)) (initializer_spans sizes p files g pc c)
    initializer_within pc y h = by order
      where
        by : (c.0 < 5) ⊎ (5 ≤ c.0) → (pc ≤ y.span.from) × (y.span.from < pc + sizes (initializer_code p files g c))
        by (inl low) =
            let none : Contains {X = SpanOf} [] y = subst (λ (t : Truth). Contains (if t then [] else values_at pc) y) (low_is low) h in
            let less = none.1 in
            absurd (omega arith)
        by (inr high) =
            let some : Contains (values_at pc) y = subst (λ (t : Truth). Contains (if t then [] else values_at pc) y) (le-ltb c.0 5 high) h in
            let r = values_lie pc y some in
            let total = high_size in
            let same : sizes (initializer_code p files g c) ≡ sizes high_code = ap (λ (t : Truth). sizes (if t then return_basic_lines (initializer p c) else high_code)) (le-ltb c.0 5 high) in
            (omega arith, omega arith)

    pub quiet_initializer : (pc : ℕ) → AreMarks marked pc (pc + sizes (initializer_code p files g c)) (initializer_spans sizes p files g pc c) → IsQuietInitializer marked p files g c pc
    quiet_initializer pc marks = record {
      basic = λ low. free_of marked pc to (initializer_spans sizes p files g pc c) marks
          (λ y h. let none : Contains {X = SpanOf} [] y = subst (λ (t : Truth). Contains (if t then [] else values_at pc) y) (low_is low) h in let less = none.1 in absurd (omega arith));
      begin = λ high. let total = total_is high in free_of marked pc (values_from pc) (values_at pc) (marks_part marked pc to pc (values_from pc) (values_at pc) (omega arith) (omega arith) (own high)) (λ y h. inr (values_lie pc y h).0);
      stores = λ high. (both high).0;
      end = λ high. let total = total_is high in
          free_of marked (values_from pc + sizes own_code) to (values_at pc) (marks_part marked pc to (values_from pc + sizes own_code) to (values_at pc) (omega arith) (omega arith) (own high)) (λ y h. inl (values_lie pc y h).1);
      spans = λ y h. by y h order;
    }
      where
        to : ℕ
        to = pc + sizes (initializer_code p files g c)

        total_is : 5 ≤ c.0 → sizes (initializer_code p files g c) ≡ sizes (begin_init_lines (initializer p c)) + (sizes enter_lines + (sizes (parent_code p (parent_of p c)) + (sizes own_code + sizes programs.end_code)))
        total_is high = ap (λ (t : Truth). sizes (if t then return_basic_lines (initializer p c) else high_code)) (le-ltb c.0 5 high) ∙ high_size

        own : 5 ≤ c.0 → AreMarks marked pc to (values_at pc)
        own high = subst (λ (t : Truth). AreMarks marked pc to (if t then [] else values_at pc)) (le-ltb c.0 5 high) marks

        both : 5 ≤ c.0 → AreStoresFree marked p files g c (values_from pc) (programs.attributes_in p c) × ((y : SpanOf) → Contains (values_at pc) y → IsQuiet marked (context_of p files y.class y.feature) g y.span)
        both high =
            let total = total_is high in
            values_quiet (programs.attributes_in p c) (values_from pc) attributes_there (are_attributes 0 (features_of p c))
            (marks_part marked pc to (values_from pc) (values_from pc + sizes own_code) (values_at pc) (omega arith) (omega arith) (own high))

        by : (y : SpanOf) → Contains (initializer_spans sizes p files g pc c) y → (c.0 < 5) ⊎ (5 ≤ c.0) → IsQuiet marked (context_of p files y.class y.feature) g y.span
        by y h (inl low) = let none : Contains {X = SpanOf} [] y = subst (λ (t : Truth). Contains (if t then [] else values_at pc) y) (low_is low) h in let less = none.1 in absurd (omega arith)
        by y h (inr high) = (both high).1 y (subst (λ (t : Truth). Contains (if t then [] else values_at pc) y) (le-ltb c.0 5 high) h)
