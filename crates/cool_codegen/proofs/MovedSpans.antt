-- If code begins n lines later, the spans (ranges of lines) of its expressions are the same, moved by n lines.
use Rattle.std.proofs.Common.{◌≡◌, ℕ, ◌+◌, List, [], ◌∷◌, ◌++◌, map, refl, ap, ap₂, ◌∙◌, arith}
use Rattle.std.specs.Prelude.{if◌then◌else◌, codes}
use Rattle.std.specs.List.{AllByRecursion}
use Rattle.cool_syntax.specs.Tree.{Tree, Trees, MaybeTree, Cases, Last, More, Without, With, NoCase, CaseOf, tree_size, maybe_size}
use Rattle.cool_syntax.specs.Tree as trees
use Rattle.cool_syntax.specs.NodeLists.{root}
use Rattle.mips_isa.specs.Lines.{Name, Line}
use Rattle.cool_rules.specs.Rules.{type_meant}
use Rattle.cool_consts.specs.Constants.{Constants}
use Rattle.cool_codegen.specs.Code.{Context, label_at}
use Rattle.cool_codegen.specs.Types.{trees_count}
use Rattle.cool_codegen.specs.Variables.{Named, bind}
use Rattle.cool_codegen.proofs.ArmsInOrder.{all_put}
use Rattle.cool_codegen.specs.Spans.{Span, span, spans, arguments_spans, items_spans, initial_spans, Spanned, with_branch, branches, along}

abbrev pub moved : ℕ → Span → Span
moved n x = record { from = n + x.from; tree = x.tree; scope = x.scope; depth = x.depth; first = x.first }

module _ (n : ℕ) where
  both : (xs ys : List Span) (xs' ys' : List Span) → map (moved n) xs ≡ xs' → map (moved n) ys ≡ ys' → map (moved n) (xs ++ ys) ≡ xs' ++ ys'
  both [] ys xs' ys' h k = k ∙ ap (λ zs. zs ++ ys') h
  both (x ∷ xs) ys xs' ys' h k = ap (λ zs. moved n x ∷ zs) (both xs ys (map (moved n) xs) ys' refl k) ∙ ap (λ zs. zs ++ ys') h

  own : (vs : List Named) (d k pc q : ℕ) (t : Tree) (xs ys : List Span) → n + pc ≡ q → map (moved n) xs ≡ ys → map (moved n) (span vs d k pc t ∷ xs) ≡ span vs d k q t ∷ ys
  own vs d k pc q t xs ys e h = ap₂ (λ (r : ℕ) (zs : List Span). span vs d k r t ∷ zs) e h

  module _ (size : List Line → ℕ) (s : Context) (g : Constants) where
    abbrev Moves : Spanned → Type 0
    Moves b = (pc q : ℕ) → n + pc ≡ q → map (moved n) (b.inside pc) ≡ b.inside q

    along_moves : (bs : List Spanned) (pc q : ℕ) → AllByRecursion Moves bs → n + pc ≡ q
        → map (moved n) (along size (λ (b : Spanned). b.arm.lines) (λ pc b. b.inside pc) pc bs) ≡ along size (λ (b : Spanned). b.arm.lines) (λ pc b. b.inside pc) q bs
    along_moves [] pc q h e = refl
    along_moves (b ∷ bs) pc q h e = both (b.inside pc) _ _ _ (h.0 pc q e) (along_moves bs (pc + size b.arm.lines) (q + size b.arm.lines) h.1 (omega arith))

    mutual
      pub moved_spans : (vs : List Named) (d k pc q : ℕ) (t : Tree) → n + pc ≡ q → map (moved n) (spans size s g vs d k pc t) ≡ spans size s g vs d k q t
      moved_spans vs d k pc q (trees.Id at name) e = own vs d k pc q _ [] [] e refl
      moved_spans vs d k pc q (trees.leaf at form) e = own vs d k pc q _ [] [] e refl
      moved_spans vs d k pc q (trees.Not at t) e = own vs d k pc q _ _ _ e (moved_spans vs d k _ _ t e)
      moved_spans vs d k pc q (trees.unary at form t) e = own vs d k pc q _ _ _ e (moved_spans vs d k _ _ t e)
      moved_spans vs d k pc q (trees.Dispatch at t name ts) e =
          own vs d k pc q _ _ _ e (both (arguments_spans size s g vs d (k + tree_size t) pc ts) _ _ _ (moved_arguments vs d (k + tree_size t) pc q ts e) (moved_spans vs (d + trees_count ts) k _ _ t (omega arith)))
      moved_spans vs d k pc q (trees.call at form t ts) e =
          own vs d k pc q _ _ _ e (both (arguments_spans size s g vs d (k + tree_size t) pc ts) _ _ _ (moved_arguments vs d (k + tree_size t) pc q ts e) (moved_spans vs (d + trees_count ts) k _ _ t (omega arith)))
      moved_spans vs d k pc q (trees.If at t y o) e =
          own vs d k pc q _ _ _ e (both (spans size s g vs d k pc t) _ _ _ (moved_spans vs d k pc q t e)
          (both (spans size s g vs d (k + tree_size t) _ y) _ _ _ (moved_spans vs d (k + tree_size t) _ _ y (omega arith)) (moved_spans vs d (k + tree_size t + tree_size y) _ _ o (omega arith))))
      moved_spans vs d k pc q (trees.While at t b) e =
          own vs d k pc q _ _ _ e (both (spans size s g vs d k _ t) _ _ _ (moved_spans vs d k _ _ t (omega arith)) (moved_spans vs d (k + tree_size t) _ _ b (omega arith)))
      moved_spans vs d k pc q (trees.binary at form a b) e =
          own vs d k pc q _ _ _ e (both (spans size s g vs d k pc a) _ _ _ (moved_spans vs d k pc q a e) (moved_spans vs (d + 1) (k + tree_size a) _ _ b (omega arith)))
      moved_spans vs d k pc q (trees.Block at ts) e = own vs d k pc q _ _ _ e (moved_items vs d k pc q ts e)
      moved_spans vs d k pc q (trees.Let at name declared o t) e =
          own vs d k pc q _ _ _ e (both (initial_spans size s g vs d k pc o) _ _ _ (moved_initial vs d k pc q o e)
          (moved_spans (bind d name (type_meant s.table declared.name) vs) (d + 1) (k + maybe_size o) _ _ t (omega arith)))
      moved_spans vs d k pc q (trees.Case at t cs) e =
          own vs d k pc q _ _ _ e (both (spans size s g vs d k pc t) _ _ _ (moved_spans vs d k pc q t e)
          (along_moves (branches size s g vs d (k + tree_size t) (label_at s (codes "end") (root k (trees.Case at t cs))) [] cs) _ _
          (branches_move vs d (k + tree_size t) (label_at s (codes "end") (root k (trees.Case at t cs))) [] cs tt) (omega arith)))

      moved_arguments : (vs : List Named) (d k pc q : ℕ) (ts : Trees) → n + pc ≡ q → map (moved n) (arguments_spans size s g vs d k pc ts) ≡ arguments_spans size s g vs d k q ts
      moved_arguments vs d k pc q Last e = refl
      moved_arguments vs d k pc q (More t ts) e = both (spans size s g vs d k pc t) _ _ _ (moved_spans vs d k pc q t e) (moved_arguments vs (d + 1) (k + tree_size t) _ _ ts (omega arith))

      moved_items : (vs : List Named) (d k pc q : ℕ) (ts : Trees) → n + pc ≡ q → map (moved n) (items_spans size s g vs d k pc ts) ≡ items_spans size s g vs d k q ts
      moved_items vs d k pc q Last e = refl
      moved_items vs d k pc q (More t ts) e = both (spans size s g vs d k pc t) _ _ _ (moved_spans vs d k pc q t e) (moved_items vs d (k + tree_size t) _ _ ts (omega arith))

      moved_initial : (vs : List Named) (d k pc q : ℕ) (o : MaybeTree) → n + pc ≡ q → map (moved n) (initial_spans size s g vs d k pc o) ≡ initial_spans size s g vs d k q o
      moved_initial vs d k pc q Without e = refl
      moved_initial vs d k pc q (With t) e = moved_spans vs d k pc q t e

      branches_move : (vs : List Named) (d k : ℕ) (end : Name) (before : List Spanned) (cs : Cases) → AllByRecursion Moves before → AllByRecursion Moves (branches size s g vs d k end before cs)
      branches_move vs d k end before NoCase h = h
      branches_move vs d k end before (CaseOf at name declared t cs) h =
          branches_move vs d (k + tree_size t) end (with_branch before _) cs (all_put Moves before _ h (λ pc q e. moved_spans (bind d name (type_meant s.table declared.name) vs) (d + 1) k _ _ t (omega arith)))
