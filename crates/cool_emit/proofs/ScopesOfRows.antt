-- The names in scope at each code row of a feature's debug information can be computed from the preceding row.
use Rattle.std.proofs.Common.{◌≡◌, ◌∙◌, ℕ, zero, suc, ◌+◌, ◌-◌, List, [], ◌∷◌, ◌++◌, length, flat_map, map, drop, refl, sym, ap, ap₂, subst, append_assoc, append-nil, arith}
use Rattle.std.specs.Prelude.{codes, Option, Some, None, slice_get}
use Rattle.std.specs.List.{AllByRecursion}
use Rattle.std.proofs.lemmas.Grind.{flat_map-append}
use Rattle.std.proofs.lemmas.List.{length-append}
use Rattle.cool_syntax.specs.declared.file_tree.Feature.{Feature}
use Rattle.cool_syntax.specs.declared.file_tree.Feature.TheVariants.{Method, Attribute}
use Rattle.cool_syntax.specs.Tree.{Tree, Trees, MaybeTree, Cases, Last, More, Without, With, NoCase, CaseOf, tree_size, maybe_size}
use Rattle.cool_syntax.specs.Tree as trees
use Rattle.cool_syntax.specs.NodeLists.{root}
use Rattle.mips_isa.specs.Lines.{Name, Line}
use Rattle.cool_classes.specs.declared.class_id.ClassId.{ClassId}
use Rattle.cool_classes.specs.Chains.{Class}
use Rattle.cool_rules.specs.Rules.{type_meant}
use Rattle.cool_runtime.specs.Standing.{sizes}
use Rattle.cool_consts.specs.Constants.{Constants}
use Rattle.cool_codegen.specs.Code.{Context, label_at}
use Rattle.cool_codegen.specs.Features.{attributes_in, feature_names, with_formals}
use Rattle.cool_codegen.specs.Shown.{Shown, shown}
use Rattle.cool_codegen.specs.Spans.{Span, Spanned, span, spans, arguments_spans, items_spans, initial_spans, with_branch, branches, along, feature_spans, initial_value_spans}
use Rattle.cool_codegen.specs.Types.{trees_count}
use Rattle.cool_codegen.specs.Variables.{Named, bind}
use Rattle.cool_codegen.proofs.ArmsInOrder.{all_put}
use Rattle.cool_emit.specs.CodeTables.{Row, attribute_row, class_rows, code_row, formal_row, feature_rows, head_rows, initial_rows, shown_row}
use Rattle.cool_emit.specs.Programs.{Placed, placed_code, program_constants}
use Rattle.cool_emit.specs.RowsOfSpans.{ScopesOfRows, latest_before, named_by, scope_at, scopes_from, told_by, told_of}
use Rattle.cool_emit.specs.SpansOfPrograms.{SpanOf, context_of, placed_spans}
use Rattle.cool_emit.proofs.FeaturesTold.{formals_first}
use Rattle.cool_emit.proofs.RowsOfSpans.{map_both, rows_of_feature}

-- a scope that was entered behind another
abbrev Extends : List Named → List Named → Type 0
Extends cur vs = (more : List Named) × (cur ≡ more ++ vs)

-- all except the latest name
abbrev rest : List Named → List Named
rest [] = []
rest (v ∷ vs) = vs

without_latest : (cur vs : List Named) → Extends cur vs → Extends cur (rest vs)
without_latest cur [] h = h
without_latest cur (v ∷ vs) (more, is) = (more ++ v ∷ [], is ∙ sym (append_assoc more (v ∷ []) vs))

drop_front : (more vs : List Named) → drop (length more) (more ++ vs) ≡ vs
drop_front [] vs = refl
drop_front (v ∷ more) vs = drop_front more vs

-- the names entered first in an extended scope
first_entered : (cur vs : List Named) (n : ℕ) → Extends cur vs → n ≡ length vs + 1 → drop (length cur + 1 - n) cur ≡ vs
first_entered cur vs n (more, is) e =
    let l : length cur ≡ length more + length vs = ap length is ∙ length-append more vs in
    let count : length cur + 1 - n ≡ length more = omega arith in
    ap₂ (λ (k : ℕ) (us : List Named). drop k us) count is ∙ drop_front more vs

-- the scope at a row, where those of the rows before extend it
scope_is : (cur vs : List Named) (x : Shown) → x.names ≡ length vs → x.latest ≡ slice_get vs 0 → Extends cur (rest vs) → scope_at cur x ≡ vs
scope_is cur [] x count latest h = ap (λ (o : Option Named). latest_before o (drop (length cur + 1 - x.names) cur)) latest
scope_is cur (v ∷ vs) x count latest h =
    ap₂ (λ (o : Option Named) (us : List Named). latest_before o us) latest (first_entered cur vs x.names h (let l : length (v ∷ vs) ≡ length vs + 1 = omega arith in count ∙ l))

-- rows that give the scopes of spans
module _ (told : Span → Shown) (count : (x : Span) → (told x).names ≡ length x.scope) (latest : (x : Span) → (told x).latest ≡ slice_get x.scope 0) where
  abbrev scope : Span → List Named
  scope x = x.scope

  -- starting from a scope, the scopes of these spans can be computed, and the scope after them extends another
  abbrev Follow : List Named → List Named → List Span → List Span → Type 0
  Follow cur vs xs zs = (next : List Named) × Extends next vs × (scopes_from cur (map told (xs ++ zs)) ≡ map scope xs ++ scopes_from next (map told zs))

  -- the same for parts whose scope is extended by the one before them
  abbrev Keeps : List Named → List Span → Type 0
  Keeps vs xs = (cur : List Named) → Extends cur vs → (zs : List Span) → Follow cur vs xs zs

  -- the same for a whole, after a scope that extends all except the latest name
  abbrev Opens : List Named → List Span → Type 0
  Opens vs xs = (cur : List Named) → Extends cur (rest vs) → (zs : List Span) → Follow cur vs xs zs

  none : (vs : List Named) → Keeps vs []
  none vs cur h zs = (cur, h, refl)

  both : (vs : List Named) (xs ys : List Span) → Keeps vs xs → Keeps vs ys → Keeps vs (xs ++ ys)
  both vs xs ys h k cur e zs =
      let (one, e1, is1) = h cur e (ys ++ zs) in
      let (two, e2, is2) = k one e1 zs in (
        two,
        e2,
        ap (λ (us : List Span). scopes_from cur (map told us)) (append_assoc xs ys zs) ∙ is1 ∙ ap (λ (ss : List (List Named)). map scope xs ++ ss) is2
            ∙ sym (append_assoc (map scope xs) (map scope ys) (scopes_from two (map told zs))) ∙ ap (λ (ss : List (List Named)). ss ++ scopes_from two (map told zs)) (sym (map_both scope xs ys)),
      )

  own : (vs : List Named) (d k pc : ℕ) (t : Tree) (xs : List Span) → Keeps vs xs → Opens vs (span vs d k pc t ∷ xs)
  own vs d k pc t xs h cur e zs =
      let here : scope_at cur (told (span vs d k pc t)) ≡ vs = scope_is cur vs (told (span vs d k pc t)) (count (span vs d k pc t)) (latest (span vs d k pc t)) e in
      let (next, e1, is) = h vs ([], refl) zs in
      (next, e1, ap (λ (us : List Named). us ∷ scopes_from us (map told (xs ++ zs))) here ∙ ap (λ (ss : List (List Named)). vs ∷ ss) is)

  same : (vs : List Named) (xs : List Span) → Opens vs xs → Keeps vs xs
  same vs xs h cur e zs = h cur (without_latest cur vs e) zs

  -- with one more name
  more : (v : Named) (vs : List Named) (xs : List Span) → Opens (v ∷ vs) xs → Keeps vs xs
  more v vs xs h cur e zs = let (next, e1, is) = h cur e zs in (next, without_latest next (v ∷ vs) e1, is)

  module _ (size : List Line → ℕ) (s : Context) (g : Constants) where
    abbrev BranchKeeps : List Named → Spanned → Type 0
    BranchKeeps vs b = (pc : ℕ) → Keeps vs (b.inside pc)

    laid : (vs : List Named) (bs : List Spanned) (pc : ℕ) → AllByRecursion (BranchKeeps vs) bs → Keeps vs (along size (λ (b : Spanned). b.arm.lines) (λ pc b. b.inside pc) pc bs)
    laid vs [] pc h = none vs
    laid vs (b ∷ bs) pc h = both vs (b.inside pc) _ (h.0 pc) (laid vs bs (pc + size b.arm.lines) h.1)

    mutual
      pub opens : (vs : List Named) (d k pc : ℕ) (t : Tree) → Opens vs (spans size s g vs d k pc t)
      opens vs d k pc (trees.Id at name) = own vs d k pc _ [] (none vs)
      opens vs d k pc (trees.leaf at form) = own vs d k pc _ [] (none vs)
      opens vs d k pc (trees.Not at t) = own vs d k pc _ _ (same vs _ (opens vs d k _ t))
      opens vs d k pc (trees.unary at form t) = own vs d k pc _ _ (same vs _ (opens vs d k _ t))
      opens vs d k pc (trees.Dispatch at t name ts) =
          own vs d k pc _ _ (both vs (arguments_spans size s g vs d (k + tree_size t) pc ts) _ (arguments_keep vs d (k + tree_size t) pc ts) (same vs _ (opens vs (d + trees_count ts) k _ t)))
      opens vs d k pc (trees.StaticDispatch at t class name ts) =
          own vs d k pc _ _ (both vs (arguments_spans size s g vs d (k + tree_size t) pc ts) _ (arguments_keep vs d (k + tree_size t) pc ts) (same vs _ (opens vs (d + trees_count ts) k _ t)))
      opens vs d k pc (trees.If at t y o) =
          own vs d k pc _ _ (both vs (spans size s g vs d k pc t) _ (same vs _ (opens vs d k pc t))
          (both vs (spans size s g vs d (k + tree_size t) _ y) _ (same vs _ (opens vs d (k + tree_size t) _ y)) (same vs _ (opens vs d (k + tree_size t + tree_size y) _ o))))
      opens vs d k pc (trees.While at t b) = own vs d k pc _ _ (both vs (spans size s g vs d k _ t) _ (same vs _ (opens vs d k _ t)) (same vs _ (opens vs d (k + tree_size t) _ b)))
      opens vs d k pc (trees.binary at form a b) = own vs d k pc _ _ (both vs (spans size s g vs d k pc a) _ (same vs _ (opens vs d k pc a)) (same vs _ (opens vs (d + 1) (k + tree_size a) _ b)))
      opens vs d k pc (trees.Block at ts) = own vs d k pc _ _ (items_keep vs d k pc ts)
      opens vs d k pc (trees.Let at name declared o t) =
          own vs d k pc _ _ (both vs (initial_spans size s g vs d k pc o) _ (initial_keeps vs d k pc o)
          (more _ vs _ (opens (bind d name (type_meant s.table declared.name) vs) (d + 1) (k + maybe_size o) _ t)))
      opens vs d k pc (trees.Case at t cs) =
          own vs d k pc _ _ (both vs (spans size s g vs d k pc t) _ (same vs _ (opens vs d k pc t))
          (laid vs (branches size s g vs d (k + tree_size t) (label_at s (codes "end") (root k (trees.Case at t cs))) [] cs) _
          (branches_keep vs d (k + tree_size t) (label_at s (codes "end") (root k (trees.Case at t cs))) [] cs tt)))

      arguments_keep : (vs : List Named) (d k pc : ℕ) (ts : Trees) → Keeps vs (arguments_spans size s g vs d k pc ts)
      arguments_keep vs d k pc Last = none vs
      arguments_keep vs d k pc (More t ts) = both vs (spans size s g vs d k pc t) _ (same vs _ (opens vs d k pc t)) (arguments_keep vs (d + 1) (k + tree_size t) _ ts)

      items_keep : (vs : List Named) (d k pc : ℕ) (ts : Trees) → Keeps vs (items_spans size s g vs d k pc ts)
      items_keep vs d k pc Last = none vs
      items_keep vs d k pc (More t ts) = both vs (spans size s g vs d k pc t) _ (same vs _ (opens vs d k pc t)) (items_keep vs d (k + tree_size t) _ ts)

      initial_keeps : (vs : List Named) (d k pc : ℕ) (o : MaybeTree) → Keeps vs (initial_spans size s g vs d k pc o)
      initial_keeps vs d k pc Without = none vs
      initial_keeps vs d k pc (With t) = same vs _ (opens vs d k pc t)

      branches_keep : (vs : List Named) (d k : ℕ) (end : Name) (before : List Spanned) (cs : Cases) → AllByRecursion (BranchKeeps vs) before → AllByRecursion (BranchKeeps vs) (branches size s g vs d k end before cs)
      branches_keep vs d k end before NoCase h = h
      branches_keep vs d k end before (CaseOf at name declared t cs) h =
          branches_keep vs d (k + tree_size t) end (with_branch before _) cs
          (all_put (BranchKeeps vs) before _ h (λ pc. more _ vs _ (opens (bind d name (type_meant s.table declared.name) vs) (d + 1) k _ t)))

    whole : (vs : List Named) (xs : List Span) → Opens vs xs → scopes_from vs (map told xs) ≡ map scope xs
    whole vs xs h =
        let (next, e, is) = h vs (without_latest vs vs ([], refl)) [] in
        ap (λ (us : List Span). scopes_from vs (map told us)) (sym (append-nil xs)) ∙ is ∙ append-nil (map scope xs)

    initial_scopes : (pc : ℕ) (o : Option Tree) → scopes_from (attributes_in s.table s.class) (map told (initial_value_spans size s g pc o)) ≡ map scope (initial_value_spans size s g pc o)
    initial_scopes pc None = refl
    initial_scopes pc (Some t) = whole (attributes_in s.table s.class) _ (opens (attributes_in s.table s.class) 0 0 pc t)

    pub feature_scopes : (pc : ℕ) (f : Feature) → scopes_from (feature_names s f) (map told (feature_spans size s g pc f)) ≡ map scope (feature_spans size s g pc f)
    feature_scopes pc (Method m) = whole (with_formals s.table m.formals (attributes_in s.table s.class)) _ (opens (with_formals s.table m.formals (attributes_in s.table s.class)) 0 0 _ m.body)
    feature_scopes pc (Attribute a) = initial_scopes pc a.init

-- The names of rows

named_attributes : (vs : List Named) → flat_map named_by (map attribute_row vs) ≡ vs
named_attributes [] = refl
named_attributes (v ∷ vs) = ap (λ us. v ∷ us) (named_attributes vs)

named_formals : (vs : List Named) → flat_map named_by (map formal_row vs) ≡ vs
named_formals [] = refl
named_formals (v ∷ vs) = ap (λ us. v ∷ us) (named_formals vs)

nameless_initial : (from to : ℕ) (name : List ℕ) (o : Option Tree) → flat_map named_by (initial_rows from to name o) ≡ []
nameless_initial from to name None = refl
nameless_initial from to name (Some t) = refl

nameless_code : (pc : ℕ) (lines : List Line) (xs : List Shown) → flat_map named_by (map (shown_row pc lines) xs) ≡ []
nameless_code pc lines [] = refl
nameless_code pc lines (x ∷ xs) = nameless_code pc lines xs

-- the names of a feature's head and of its class are those in scope in all of it
head_names : (p : List Class) (files : List (List ℕ)) (c : ClassId) (k from to : ℕ) (x : Feature) → flat_map named_by (head_rows p from to x) ++ attributes_in p c ≡ feature_names (context_of p files c k) x
head_names p files c k from to (Method m) = ap (λ us. us ++ attributes_in p c) (named_formals (with_formals p m.formals [])) ∙ sym (formals_first p m.formals (attributes_in p c))
head_names p files c k from to (Attribute a) = ap (λ us. us ++ attributes_in p c) (nameless_initial from to a.name a.init)

pub scopes_of_rows : ScopesOfRows
scopes_of_rows p files c pc f =
    let g = program_constants p files in
    let s = context_of p files c f.place in
    let lines = placed_code p files g c f in
    let xs = feature_spans sizes s g pc f.feature in
    let seen = map (shown s g) (feature_spans length s g 0 f.feature) in
    let head = head_rows p pc (pc + sizes lines) f.feature in
    let named : flat_map named_by (feature_rows p files g c pc f) ≡ flat_map named_by head =
    flat_map-append named_by head (map (shown_row pc lines) seen) ∙ ap (λ us. flat_map named_by head ++ us) (nameless_code pc lines seen) ∙ append-nil (flat_map named_by head) in
    let start : flat_map named_by (feature_rows p files g c pc f) ++ flat_map named_by (class_rows p c) ≡ feature_names s f.feature =
    ap₂ (λ (us vs : List Named). us ++ vs) named (named_attributes (attributes_in p c)) ∙ head_names p files c f.place pc (pc + sizes lines) f.feature in
    let placed : Span → SpanOf = λ (x : Span). record { class = c; feature = f.place; span = x } in
    ap₂ (λ (vs : List Named) (rows : List Shown). scopes_from vs rows) start (rows_of_feature p files c pc f)
    ∙ ap (scopes_from (feature_names s f.feature)) (images (told_of p files) placed xs)
    ∙ feature_scopes (λ (x : Span). told_of p files (placed x)) (λ x. refl) (λ x. refl) sizes s g pc f.feature
    ∙ sym (images (λ (x : SpanOf). x.span.scope) placed xs)
  where
    images : {X Y Z : Type 0} (h : Y → Z) (k : X → Y) (xs : List X) → map h (map k xs) ≡ map (λ (x : X). h (k x)) xs
    images h k [] = refl
    images h k (x ∷ xs) = ap (λ zs. h (k x) ∷ zs) (images h k xs)
