-- The size, the constants, the lines and the spans that are computed for the root node of a feature's expression are those of the whole expression.
use Rattle.std.proofs.Common.{◌≡◌, ℕ, ◌+◌, List, [], ◌∷◌, length, map, ap, sym, subst, refl, ◌∙◌}
use Rattle.cool_syntax.specs.declared.node.NodeId.{NodeId}
use Rattle.cool_syntax.specs.Tree.{Tree, tree_size}
use Rattle.cool_syntax.specs.NodeLists.{root, nodes, tree_at}
use Rattle.cool_consts.specs.Constants.{Constants}
use Rattle.cool_codegen.specs.Asked.{Extends, integers_in, strings_in}
use Rattle.cool_codegen.specs.Code.{Context, code}
use Rattle.cool_codegen.specs.Numbered.{after, asked_at, lines_at, no_constants, size_at, spans_at}
use Rattle.cool_codegen.specs.Spans.{Span, spans}
use Rattle.cool_codegen.specs.Shown.{noted, shown, whole}
use Rattle.cool_codegen.specs.declared.code_setting.Wanted.{Wanted}
use Rattle.cool_codegen.specs.declared.code_setting.Wanted.TheVariants.{Lines, Spans}
use Rattle.cool_codegen.proofs.LinesInAll.{as_many_lines}
use Rattle.cool_codegen.proofs.SpansByNumbers.{spans_are}
use Rattle.cool_codegen.proofs.SpansOfTables.{same_spans}
use Rattle.cool_codegen.specs.Variables.{Named}
use Rattle.cool_codegen.proofs.CodeByNumbers.{asked_is, lines_is}
use Rattle.cool_rules.proofs.PartsStand.{whole_stands}

-- the expression at the last number has the size of the body
pub whole_size : (b : Tree) (id : NodeId) → tree_at b id ≡ b → size_at b id ≡ tree_size b
unfolding size_at
whole_size b id e = ap tree_size e

-- the constants after it are those after the body
pub whole_asked : (files : List (List ℕ)) (b : Tree) (t : Constants) (id : NodeId) → id ≡ root 0 b → asked_at files b t id ≡ after t (integers_in b) (strings_in files b)
whole_asked files b t id e = ap (asked_at files b t) e ∙ sym (asked_is files b t 0 b (whole_stands (nodes 0 b)))

-- its lines are the code of the body by each table that extends the one after it
pub whole_lines : (s : Context) (b : Tree) (t g : Constants) (vs : List Named) (id : NodeId) → id ≡ root 0 b → Extends (asked_at s.files b t id) g → lines_at s b t vs 0 id ≡ code s g vs 0 0 b
whole_lines s b t g vs id e x =
    ap (lines_at s b t vs 0) e ∙ sym (lines_is s b t g vs 0 0 b (whole_stands (nodes 0 b)) (subst (λ (u : Constants). Extends u g) (whole_asked s.files b t id e) x))

-- shown spans are the same by each table of constants
shown_same : (s : Context) (g u : Constants) (xs : List Span) → map (shown s g) xs ≡ map (shown s u) xs
shown_same s g u [] = refl
shown_same s g u (x ∷ xs) = λ i. whole x.scope x.depth x.from (x.from + as_many_lines s g u x.scope x.depth x.first x.tree i) x.tree ∷ shown_same s g u xs i

-- the spans that are noted are those that the body shows by each table
pub whole_spans : (want : Wanted) (s : Context) (b : Tree) (g : Constants) (vs : List Named) (from : ℕ) (id : NodeId) → id ≡ root 0 b → spans_at want s b vs 0 from id ≡ noted want (map (shown s g) (spans length s g vs 0 0 from b))
unfolding spans_at
whole_spans Lines s b g vs from id e = refl
whole_spans Spans s b g vs from id e =
    ap (spans_at Spans s b vs 0 from) e ∙ sym (spans_are s b vs 0 0 from from b (whole_stands (nodes 0 b)) refl)
    ∙ ap (map (shown s no_constants)) (same_spans s no_constants g vs 0 0 from from b refl)
    ∙ shown_same s no_constants g (spans length s g vs 0 0 from b)
