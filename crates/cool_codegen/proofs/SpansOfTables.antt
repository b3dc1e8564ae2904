-- The spans of an expression's code, counted in lines, are the same for each constant table.
use Rattle.std.proofs.Common.{◌≡◌, ℕ, ◌+◌, List, [], ◌∷◌, ◌++◌, length, Bool as Truth, true, false, refl, ap₂, arith}
use Rattle.std.specs.Prelude.{if◌then◌else◌, nat_lt, codes}
use Rattle.cool_syntax.specs.Tree.{Tree, Trees, MaybeTree, Cases, Last, More, Without, With, NoCase, CaseOf, tree_size, maybe_size}
use Rattle.cool_syntax.specs.Tree as trees
use Rattle.cool_syntax.specs.NodeLists.{root}
use Rattle.mips_isa.specs.Lines.{Name}
use Rattle.cool_rules.specs.Rules.{type_meant}
use Rattle.cool_consts.specs.Constants.{Constants}
use Rattle.cool_codegen.specs.Code.{Context, label_at}
use Rattle.cool_codegen.specs.Types.{trees_count}
use Rattle.cool_codegen.specs.Variables.{Named, bind}
use Rattle.cool_codegen.specs.Spans.{Span, span, spans, arguments_spans, items_spans, initial_spans, Spanned, with_branch, branches, along}
use Rattle.cool_codegen.proofs.LinesInAll.{behind, before, as_many_lines, many_arguments, many_initial, same_begin}

both : (xs ys xs' ys' : List Span) → xs ≡ xs' → ys ≡ ys' → xs ++ ys ≡ xs' ++ ys'
both xs ys xs' ys' h k = ap₂ (λ (as' bs : List Span). as' ++ bs) h k

own : (vs : List Named) (d k pc q : ℕ) (t : Tree) (xs ys : List Span) → pc ≡ q → xs ≡ ys → span vs d k pc t ∷ xs ≡ span vs d k q t ∷ ys
own vs d k pc q t xs ys e h = ap₂ (λ (r : ℕ) (zs : List Span). span vs d k r t ∷ zs) e h

-- branches of the same depths, with as many lines and the same spans
abbrev AreSame : List Spanned → List Spanned → Type 0
AreSame [] [] = Unit {0}
AreSame [] (b ∷ bs) = ⊥
AreSame (a ∷ as') [] = ⊥
AreSame (a ∷ as') (b ∷ bs) = (a.arm.depth ≡ b.arm.depth) × (length a.arm.lines ≡ length b.arm.lines) × ((pc q : ℕ) → pc ≡ q → a.inside pc ≡ b.inside q) × AreSame as' bs

same_put : (xs ys : List Spanned) (x y : Spanned) → AreSame xs ys → x.arm.depth ≡ y.arm.depth → length x.arm.lines ≡ length y.arm.lines → ((pc q : ℕ) → pc ≡ q → x.inside pc ≡ y.inside q)
    → AreSame (with_branch xs x) (with_branch ys y)
same_put [] [] x y h e l i = (e, l, i, tt)
same_put [] (b ∷ bs) x y h e l i = absurd h
same_put (a ∷ as') [] x y h e l i = absurd h
same_put (a ∷ as') (b ∷ bs) x y h e l i = by (nat_lt a.arm.depth x.arm.depth) (nat_lt b.arm.depth y.arm.depth) (ap₂ nat_lt h.0 e) (same_put as' bs x y h.3 e l i)
  where
    by : (t u : Truth) → t ≡ u → AreSame (with_branch as' x) (with_branch bs y) → AreSame (if t then x ∷ a ∷ as' else a ∷ with_branch as' x) (if u then y ∷ b ∷ bs else b ∷ with_branch bs y)
    by true true w more = (e, l, i, h)
    by false false w more = (h.0, h.1, h.2, more)
    by true false w more = absurd (cc)
    by false true w more = absurd (cc)

same_along : (xs ys : List Spanned) (pc q : ℕ) → AreSame xs ys → pc ≡ q
    → along length (λ (b : Spanned). b.arm.lines) (λ pc b. b.inside pc) pc xs ≡ along length (λ (b : Spanned). b.arm.lines) (λ pc b. b.inside pc) q ys
same_along [] [] pc q h e = refl
same_along [] (b ∷ bs) pc q h e = absurd h
same_along (a ∷ as') [] pc q h e = absurd h
same_along (a ∷ as') (b ∷ bs) pc q h e = both (a.inside pc) _ (b.inside q) _ (h.2 pc q e) (same_along as' bs (pc + length a.arm.lines) (q + length b.arm.lines) h.3 (let l = h.1 in omega arith))

module _ (s : Context) (g g' : Constants) where
  mutual
    pub same_spans : (vs : List Named) (d k pc q : ℕ) (t : Tree) → pc ≡ q → spans length s g vs d k pc t ≡ spans length s g' vs d k q t
    same_spans vs d k pc q (trees.Id at name) e = own vs d k pc q _ [] [] e refl
    same_spans vs d k pc q (trees.leaf at form) e = own vs d k pc q _ [] [] e refl
    same_spans vs d k pc q (trees.Not at t) e = own vs d k pc q _ _ _ e (same_spans vs d k _ _ t e)
    same_spans vs d k pc q (trees.unary at form t) e = own vs d k pc q _ _ _ e (same_spans vs d k _ _ t e)
    same_spans vs d k pc q (trees.Dispatch at t name ts) e =
        let m = many_arguments s g g' vs d (k + tree_size t) ts in
        own vs d k pc q _ _ _ e (both _ _ _ _ (same_arguments vs d (k + tree_size t) pc q ts e) (same_spans vs (d + trees_count ts) k _ _ t (omega arith)))
    same_spans vs d k pc q (trees.call at form t ts) e =
        let m = many_arguments s g g' vs d (k + tree_size t) ts in
        own vs d k pc q _ _ _ e (both _ _ _ _ (same_arguments vs d (k + tree_size t) pc q ts e) (same_spans vs (d + trees_count ts) k _ _ t (omega arith)))
    same_spans vs d k pc q (trees.If at t y o) e =
        let m = as_many_lines s g g' vs d k t in
        let n = as_many_lines s g g' vs d (k + tree_size t) y in
        own vs d k pc q _ _ _ e (both _ _ _ _ (same_spans vs d k pc q t e)
        (both _ _ _ _ (same_spans vs d (k + tree_size t) _ _ y (omega arith)) (same_spans vs d (k + tree_size t + tree_size y) _ _ o (omega arith))))
    same_spans vs d k pc q (trees.While at t b) e =
        let m = as_many_lines s g g' vs d k t in
        own vs d k pc q _ _ _ e (both _ _ _ _ (same_spans vs d k _ _ t (omega arith)) (same_spans vs d (k + tree_size t) _ _ b (omega arith)))
    same_spans vs d k pc q (trees.binary at form a b) e =
        let m = as_many_lines s g g' vs d k a in
        own vs d k pc q _ _ _ e (both _ _ _ _ (same_spans vs d k pc q a e) (same_spans vs (d + 1) (k + tree_size a) _ _ b (omega arith)))
    same_spans vs d k pc q (trees.Block at ts) e = own vs d k pc q _ _ _ e (same_items vs d k pc q ts e)
    same_spans vs d k pc q (trees.Let at name declared o t) e =
        let m = many_initial s g g' vs d k (type_meant s.table declared.name) o in
        own vs d k pc q _ _ _ e (both _ _ _ _ (same_initial vs d k pc q o e)
        (same_spans (bind d name (type_meant s.table declared.name) vs) (d + 1) (k + maybe_size o) _ _ t (omega arith)))
    same_spans vs d k pc q (trees.Case at t cs) e =
        let m = as_many_lines s g g' vs d k t in
        let n = same_begin s g g' at in
        own vs d k pc q _ _ _ e (both _ _ _ _ (same_spans vs d k pc q t e)
        (same_along _ _ _ _ (same_branches vs d (k + tree_size t) (label_at s (codes "end") (root k (trees.Case at t cs))) [] [] cs tt) (omega arith)))

    same_arguments : (vs : List Named) (d k pc q : ℕ) (ts : Trees) → pc ≡ q → arguments_spans length s g vs d k pc ts ≡ arguments_spans length s g' vs d k q ts
    same_arguments vs d k pc q Last e = refl
    same_arguments vs d k pc q (More t ts) e =
        let m = as_many_lines s g g' vs d k t in
        both _ _ _ _ (same_spans vs d k pc q t e) (same_arguments vs (d + 1) (k + tree_size t) _ _ ts (omega arith))

    same_items : (vs : List Named) (d k pc q : ℕ) (ts : Trees) → pc ≡ q → items_spans length s g vs d k pc ts ≡ items_spans length s g' vs d k q ts
    same_items vs d k pc q Last e = refl
    same_items vs d k pc q (More t ts) e =
        let m = as_many_lines s g g' vs d k t in
        both _ _ _ _ (same_spans vs d k pc q t e) (same_items vs d (k + tree_size t) _ _ ts (omega arith))

    same_initial : (vs : List Named) (d k pc q : ℕ) (o : MaybeTree) → pc ≡ q → initial_spans length s g vs d k pc o ≡ initial_spans length s g' vs d k q o
    same_initial vs d k pc q Without e = refl
    same_initial vs d k pc q (With t) e = same_spans vs d k pc q t e

    same_branches : (vs : List Named) (d k : ℕ) (end : Name) (xs ys : List Spanned) (cs : Cases) → AreSame xs ys → AreSame (branches length s g vs d k end xs cs) (branches length s g' vs d k end ys cs)
    same_branches vs d k end xs ys NoCase h = h
    same_branches vs d k end xs ys (CaseOf at name declared t cs) h =
        let scope = bind d name (type_meant s.table declared.name) vs in
        same_branches vs d (k + tree_size t) end (with_branch xs _) (with_branch ys _) cs
        (same_put xs ys _ _ h refl (behind _ _ _ (before _ _ _ (as_many_lines s g g' scope (d + 1) k t))) (λ pc q e. same_spans scope (d + 1) k _ _ t (omega arith)))
