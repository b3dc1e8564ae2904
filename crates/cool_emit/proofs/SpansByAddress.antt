-- The address ranges of expressions computed from line numbers are the same as those computed from addresses.
use Rattle.std.proofs.Common.{◌≡◌, ◌∙◌, ℕ, ◌+◌, List, [], ◌∷◌, ◌++◌, length, map as each, take, refl, sym, ap, ap₂, subst, Bool as Truth, true, false, arith}
use Rattle.std.specs.Prelude.{if◌then◌else◌, codes, nat_lt, Option, Some, None}
use Rattle.cool_syntax.specs.declared.file_tree.Feature.{Feature}
use Rattle.cool_syntax.specs.declared.file_tree.Feature.TheVariants.{Method, Attribute}
use Rattle.cool_syntax.specs.Tree.{Tree, Trees, MaybeTree, Cases, Last, More, Without, With, NoCase, CaseOf, tree_size, maybe_size}
use Rattle.cool_syntax.specs.Tree as trees
use Rattle.cool_syntax.specs.NodeLists.{root}
use Rattle.mips_isa.specs.Lines.{Name, Line}
use Rattle.cool_classes.specs.declared.class_id.Ty.{Ty}
use Rattle.cool_classes.specs.declared.method.MethodRef.TheVariants.{User}
use Rattle.cool_rules.specs.Rules.{type_meant}
use Rattle.cool_runtime.specs.CodeOfCalls.{enter_lines}
use Rattle.cool_runtime.specs.Routines.{push_lines}
use Rattle.cool_runtime.specs.Standing.{sizes}
use Rattle.cool_layout.specs.Labels.{method_label}
use Rattle.cool_consts.specs.Constants.{Constants}
use Rattle.cool_codegen.specs.Arms.{Arm, arms_lines}
use Rattle.cool_codegen.specs.Code.{Context, code, arguments_code, items_code, initial_code, arms_code, file_label, label_at, range_code}
use Rattle.cool_codegen.specs.Features.{attributes_in, with_formals, feature_code, initial_value_code}
use Rattle.cool_codegen.specs.Pieces.{case_begin_lines, case_end_lines, mark_lines, test_lines, turn_lines}
use Rattle.cool_codegen.specs.Types.{class_meant, trees_count}
use Rattle.cool_codegen.specs.Variables.{Named, bind}
use Rattle.cool_codegen.specs.Spans.{Span, Spanned, StandsBehind, span, spans, arguments_spans, items_spans, initial_spans, with_branch, branches, along, initial_value_spans, feature_spans}
use Rattle.cool_codegen.proofs.ArmsInOrder.{arm_put}
use Rattle.cool_codegen.proofs.SpansStand.{behind_front, behind_back}
use Rattle.cool_emit.specs.CodeTables.{behind}
use Rattle.cool_emit.proofs.PartsOfLines.{front_taken, both_taken}
use Rattle.cool_emit.proofs.TellingParts.{sizes_append}

-- lines that begin at an address
module _ (text : List Line) (base : ℕ) where
  -- lines stand behind so many of them, and so at an address
  pub record StandsAt (n pc : ℕ) (part : List Line) : Type 0 where
    pub lines : StandsBehind text n part
    pub is : behind base text n ≡ pc

  front : (xs ys : List Line) (n pc : ℕ) → StandsAt n pc (xs ++ ys) → StandsAt n pc xs
  front xs ys n pc h = record { lines = behind_front text xs ys n h.lines; is = h.is }

  pub passed : (xs : List Line) (n pc : ℕ) → StandsAt n pc xs → behind base text (n + length xs) ≡ pc + sizes xs
  passed xs n pc h =
      let taken : sizes (take (n + length xs) text) ≡ sizes (h.lines.front ++ xs) = ap sizes (both_taken text xs n h.lines) in
      let before : sizes h.lines.front ≡ sizes (take n text) = ap sizes (front_taken text xs n h.lines) in
      let all = sizes_append h.lines.front xs in
      let here : base + sizes (take n text) ≡ pc = h.is in
      omega arith

  back : (xs ys : List Line) (n pc : ℕ) → StandsAt n pc (xs ++ ys) → StandsAt (n + length xs) (pc + sizes xs) ys
  back xs ys n pc h = record { lines = behind_back text xs ys n h.lines; is = passed xs n pc (front xs ys n pc h) }

  -- a span by the address of its first line
  abbrev pub addressed : Span → Span
  addressed x = record { from = behind base text x.from; tree = x.tree; scope = x.scope; depth = x.depth; first = x.first }

  both : (xs ys xs' ys' : List Span) → each addressed xs ≡ xs' → each addressed ys ≡ ys' → each addressed (xs ++ ys) ≡ xs' ++ ys'
  both [] ys xs' ys' h k = k ∙ ap (λ zs. zs ++ ys') h
  both (x ∷ xs) ys xs' ys' h k = ap (λ zs. addressed x ∷ zs) (both xs ys (each addressed xs) ys' refl k) ∙ ap (λ zs. zs ++ ys') h

  own : (vs : List Named) (d k n pc : ℕ) (t : Tree) (part : List Line) (xs ys : List Span) → StandsAt n pc part → each addressed xs ≡ ys → each addressed (span vs d k n t ∷ xs) ≡ span vs d k pc t ∷ ys
  own vs d k n pc t part xs ys h e = ap₂ (λ (r : ℕ) (zs : List Span). span vs d k r t ∷ zs) h.is e

  module _ (s : Context) (g : Constants) where
    -- the same for a branch, wherever it begins
    abbrev Meets : Spanned → Spanned → Type 0
    Meets a b = (n pc : ℕ) → StandsAt n pc a.arm.lines → each addressed (a.inside n) ≡ b.inside pc

    -- two lists of branches with the same lines
    abbrev AllMeet : List Spanned → List Spanned → Type 0
    AllMeet [] [] = Unit {0}
    AllMeet [] (b ∷ bs) = ⊥
    AllMeet (a ∷ as') [] = ⊥
    AllMeet (a ∷ as') (b ∷ bs) = (a.arm ≡ b.arm) × Meets a b × AllMeet as' bs

    meet_put : (as' bs : List Spanned) (a b : Spanned) → AllMeet as' bs → a.arm ≡ b.arm → Meets a b → AllMeet (with_branch as' a) (with_branch bs b)
    meet_put [] [] a b all same h = (same, h, tt)
    meet_put [] (y ∷ ys) a b all same h = absurd all
    meet_put (x ∷ xs) [] a b all same h = absurd all
    meet_put (x ∷ xs) (y ∷ ys) a b all same h =
        let depths : nat_lt x.arm.depth a.arm.depth ≡ nat_lt y.arm.depth b.arm.depth = ap₂ (λ (i j : Arm). nat_lt i.depth j.depth) all.0 same in
        by (nat_lt x.arm.depth a.arm.depth) (nat_lt y.arm.depth b.arm.depth) depths (meet_put xs ys a b all.2 same h)
      where
        by : (t u : Truth) → t ≡ u → AllMeet (with_branch xs a) (with_branch ys b) → AllMeet (if t then a ∷ x ∷ xs else x ∷ with_branch xs a) (if u then b ∷ y ∷ ys else y ∷ with_branch ys b)
        by true true e more = (same, h, all)
        by false false e more = (all.0, all.1, more)
        by true false e more = absurd cc
        by false true e more = absurd cc

    laid : (as' bs : List Spanned) (n pc : ℕ) → AllMeet as' bs → StandsAt n pc (arms_lines (each (λ (x : Spanned). x.arm) as'))
        → each addressed (along length (λ (b : Spanned). b.arm.lines) (λ n b. b.inside n) n as') ≡ along sizes (λ (b : Spanned). b.arm.lines) (λ pc b. b.inside pc) pc bs
    laid [] [] n pc all has = refl
    laid [] (b ∷ bs) n pc all has = absurd all
    laid (a ∷ as') [] n pc all has = absurd all
    laid (a ∷ as') (b ∷ bs) n pc all has =
        let rest = arms_lines (each (λ (x : Spanned). x.arm) as') in
        let tail = laid as' bs (n + length a.arm.lines) (pc + sizes a.arm.lines) all.2 (back a.arm.lines rest n pc has) in
        both (a.inside n) _ _ _ (all.1 n pc (front a.arm.lines rest n pc has)) tail
        ∙ ap (λ (x : Arm). b.inside pc ++ along sizes (λ (b : Spanned). b.arm.lines) (λ pc b. b.inside pc) (pc + sizes x.lines) bs) all.0

    -- the branches of a case are those of its code
    arms_are : (vs : List Named) (d k : ℕ) (end : Name) (before : List Spanned) (cs : Cases)
        → arms_code s g vs d k end (each (λ (x : Spanned). x.arm) before) cs ≡ each (λ (x : Spanned). x.arm) (branches length s g vs d k end before cs)
    arms_are vs d k end before NoCase = refl
    arms_are vs d k end before (CaseOf at name declared t cs) =
        ap (λ (xs : List Arm). arms_code s g vs d (k + tree_size t) end xs cs) (arm_put before _) ∙ arms_are vs d (k + tree_size t) end (with_branch before _) cs

    mutual
      pub by_address : (vs : List Named) (d k n pc : ℕ) (t : Tree) → StandsAt n pc (code s g vs d k t) → each addressed (spans length s g vs d k n t) ≡ spans sizes s g vs d k pc t
      by_address vs d k n pc (trees.Id at name) has = own vs d k n pc _ _ [] [] has refl
      by_address vs d k n pc (trees.leaf at form) has = own vs d k n pc _ _ [] [] has refl
      by_address vs d k n pc (trees.Not at t) has = own vs d k n pc _ _ _ _ has (by_address vs d k n pc t (front (code s g vs d k t) _ n pc has))
      by_address vs d k n pc (trees.unary at form t) has = own vs d k n pc _ _ _ _ has (by_address vs d k n pc t (front (code s g vs d k t) _ n pc has))
      by_address vs d k n pc (trees.Dispatch at t name ts) has =
          let args = arguments_code s g vs d (k + tree_size t) ts in
          let object = code s g vs (d + trees_count ts) k t in
          own vs d k n pc _ _ _ _ has (both (arguments_spans length s g vs d (k + tree_size t) n ts) _ _ _
          (arguments_by_address vs d (k + tree_size t) n pc ts (front args _ n pc has))
          (by_address vs (d + trees_count ts) k _ _ t (front object _ _ _ (back args _ n pc has))))
      by_address vs d k n pc (trees.StaticDispatch at t class name ts) has =
          let args = arguments_code s g vs d (k + tree_size t) ts in
          let object = code s g vs (d + trees_count ts) k t in
          own vs d k n pc _ _ _ _ has (both (arguments_spans length s g vs d (k + tree_size t) n ts) _ _ _
          (arguments_by_address vs d (k + tree_size t) n pc ts (front args _ n pc has))
          (by_address vs (d + trees_count ts) k _ _ t (front object _ _ _ (back args _ n pc has))))
      by_address vs d k n pc (trees.If at t y o) has =
          let one = code s g vs d k t in
          let two = code s g vs d (k + tree_size t) y in
          let three = code s g vs d (k + tree_size t + tree_size y) o in
          let test = test_lines (label_at s (codes "else") (root k (trees.If at t y o))) in
          let turn = turn_lines (label_at s (codes "end") (root k (trees.If at t y o))) (label_at s (codes "else") (root k (trees.If at t y o))) in
          let h2 = back test _ _ _ (back one _ n pc has) in
          let h3 = back turn _ _ _ (back two _ _ _ h2) in
          own vs d k n pc _ _ _ _ has (both (spans length s g vs d k n t) _ _ _ (by_address vs d k n pc t (front one _ n pc has))
          (both (spans length s g vs d (k + tree_size t) (n + length one + length test) y) _ _ _
          (by_address vs d (k + tree_size t) _ _ y (front two _ _ _ h2)) (by_address vs d (k + tree_size t + tree_size y) _ _ o (front three _ _ _ h3))))
      by_address vs d k n pc (trees.While at t b) has =
          let mark = mark_lines (label_at s (codes "loop") (root k (trees.While at t b))) in
          let one = code s g vs d k t in
          let test = test_lines (label_at s (codes "end") (root k (trees.While at t b))) in
          let two = code s g vs d (k + tree_size t) b in
          let h1 = back mark _ n pc has in
          let h2 = back test _ _ _ (back one _ _ _ h1) in
          own vs d k n pc _ _ _ _ has (both (spans length s g vs d k (n + length mark) t) _ _ _ (by_address vs d k _ _ t (front one _ _ _ h1)) (by_address vs d (k + tree_size t) _ _ b (front two _ _ _ h2)))
      by_address vs d k n pc (trees.binary at form a b) has =
          let one = code s g vs d k a in
          let two = code s g vs (d + 1) (k + tree_size a) b in
          own vs d k n pc _ _ _ _ has (both (spans length s g vs d k n a) _ _ _ (by_address vs d k n pc a (front one _ n pc has))
          (by_address vs (d + 1) (k + tree_size a) _ _ b (front two _ _ _ (back push_lines _ _ _ (back one _ n pc has)))))
      by_address vs d k n pc (trees.Block at ts) has = own vs d k n pc _ _ _ _ has (items_by_address vs d k n pc ts has)
      by_address vs d k n pc (trees.Let at name declared o t) has =
          let type = type_meant s.table declared.name in
          let one = initial_code s g vs d k type o in
          let two = code s g (bind d name type vs) (d + 1) (k + maybe_size o) t in
          own vs d k n pc _ _ _ _ has (both (initial_spans length s g vs d k n o) _ _ _ (initial_by_address vs d k n pc type o (front one _ n pc has))
          (by_address (bind d name type vs) (d + 1) (k + maybe_size o) _ _ t (front two _ _ _ (back push_lines _ _ _ (back one _ n pc has)))))
      by_address vs d k n pc (trees.Case at t cs) has =
          let one = code s g vs d k t in
          let begin = case_begin_lines (file_label s g at) at.line in
          let end = label_at s (codes "end") (root k (trees.Case at t cs)) in
          let arms = arms_lines (arms_code s g vs d (k + tree_size t) end [] cs) in
          let h = front arms (case_end_lines end) _ _ (back push_lines _ _ _ (back begin _ _ _ (back one _ n pc has))) in
          own vs d k n pc _ _ _ _ has (both (spans length s g vs d k n t) _ _ _ (by_address vs d k n pc t (front one _ n pc has))
          (laid (branches length s g vs d (k + tree_size t) end [] cs) (branches sizes s g vs d (k + tree_size t) end [] cs) _ _
          (branches_meet vs d (k + tree_size t) end [] [] cs tt)
          (subst (λ (xs : List Arm). StandsAt (n + length one + length begin + length push_lines) (pc + sizes one + sizes begin + sizes push_lines) (arms_lines xs)) (arms_are vs d (k + tree_size t) end [] cs) h)))

      arguments_by_address : (vs : List Named) (d k n pc : ℕ) (ts : Trees) → StandsAt n pc (arguments_code s g vs d k ts) → each addressed (arguments_spans length s g vs d k n ts) ≡ arguments_spans sizes s g vs d k pc ts
      arguments_by_address vs d k n pc Last has = refl
      arguments_by_address vs d k n pc (More t ts) has =
          let one = code s g vs d k t in
          both (spans length s g vs d k n t) _ _ _ (by_address vs d k n pc t (front one _ n pc has))
          (arguments_by_address vs (d + 1) (k + tree_size t) _ _ ts (back push_lines _ _ _ (back one _ n pc has)))

      items_by_address : (vs : List Named) (d k n pc : ℕ) (ts : Trees) → StandsAt n pc (items_code s g vs d k ts) → each addressed (items_spans length s g vs d k n ts) ≡ items_spans sizes s g vs d k pc ts
      items_by_address vs d k n pc Last has = refl
      items_by_address vs d k n pc (More t ts) has =
          let one = code s g vs d k t in
          both (spans length s g vs d k n t) _ _ _ (by_address vs d k n pc t (front one _ n pc has)) (items_by_address vs d (k + tree_size t) _ _ ts (back one _ n pc has))

      initial_by_address : (vs : List Named) (d k n pc : ℕ) (type : Ty) (o : MaybeTree) → StandsAt n pc (initial_code s g vs d k type o) → each addressed (initial_spans length s g vs d k n o) ≡ initial_spans sizes s g vs d k pc o
      initial_by_address vs d k n pc type Without has = refl
      initial_by_address vs d k n pc type (With t) has = by_address vs d k n pc t has

      branches_meet : (vs : List Named) (d k : ℕ) (end : Name) (as' bs : List Spanned) (cs : Cases) → AllMeet as' bs
          → AllMeet (branches length s g vs d k end as' cs) (branches sizes s g vs d k end bs cs)
      branches_meet vs d k end as' bs NoCase all = all
      branches_meet vs d k end as' bs (CaseOf at name declared t cs) all =
          let range = range_code s (class_meant s.table s.class declared.name) (label_at s (codes "next") (root k t)) in
          let scope = bind d name (type_meant s.table declared.name) vs in
          branches_meet vs d (k + tree_size t) end (with_branch as' _) (with_branch bs _) cs
          (meet_put as' bs _ _ all refl (λ n pc has. by_address scope (d + 1) k _ _ t (front (code s g scope (d + 1) k t) _ _ _ (back range _ n pc has))))

    initial_value_by_address : (n pc : ℕ) (o : Option Tree) → StandsAt n pc (initial_value_code s g o) → each addressed (initial_value_spans length s g n o) ≡ initial_value_spans sizes s g pc o
    initial_value_by_address n pc None has = refl
    initial_value_by_address n pc (Some t) has = by_address (attributes_in s.table s.class) 0 0 n pc t (front (code s g (attributes_in s.table s.class) 0 0 t) _ n pc has)

    -- the same for a feature
    pub feature_by_address : (n pc : ℕ) (f : Feature) → StandsAt n pc (feature_code s g f) → each addressed (feature_spans length s g n f) ≡ feature_spans sizes s g pc f
    feature_by_address n pc (Method m) has =
        let mark = mark_lines (method_label s.table (User s.class s.feature)) in
        let vs = with_formals s.table m.formals (attributes_in s.table s.class) in
        by_address vs 0 0 (n + length mark + length enter_lines) (pc + sizes mark + sizes enter_lines) m.body (front (code s g vs 0 0 m.body) _ _ _ (back enter_lines _ _ _ (back mark _ n pc has)))
    feature_by_address n pc (Attribute a) has = initial_value_by_address n pc a.init has
