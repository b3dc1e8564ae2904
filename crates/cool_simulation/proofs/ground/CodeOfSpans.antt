-- The expression at each address range of the debug information uses only constants of the whole, lies within the source files, and is no deeper than the
-- limit.
use Rattle.std.proofs.Common.{ℕ, ◌+◌, ◌≤◌, List, [], ◌∷◌, ◌++◌, length, Bool as Truth, true, false, arith}
use Rattle.std.specs.Prelude.{if◌then◌else◌, nat_lt, codes, Contains}
use Rattle.std.specs.List.{AllByRecursion}
use Rattle.std.proofs.lemmas.List.Elements.{Contains-append_left, Contains-append_right, All-contains, All-from_recursion}
use Rattle.cool_syntax.specs.Tree.{Tree, Trees, MaybeTree, Cases, Last, More, Without, With, NoCase, CaseOf, tree_size, trees_size, maybe_size, cases_size}
use Rattle.cool_syntax.specs.Tree as trees
use Rattle.cool_syntax.specs.NodeLists.{root}
use Rattle.cool_syntax.specs.TreesWithinLimits.{IsTreeWithin, AreTreesWithin, IsMaybeWithin, AreCasesWithin}
use Rattle.mips_isa.specs.Lines.{Name, Line}
use Rattle.cool_classes.specs.declared.class_id.ClassId.{ClassId}
use Rattle.cool_rules.specs.Rules.{type_meant}
use Rattle.cool_runtime.specs.Standing.{sizes}
use Rattle.cool_consts.specs.Constants.{Constants}
use Rattle.cool_codegen.specs.Asked.{integers_in, integers_in_all, integers_in_maybe, integers_in_cases, strings_in, strings_in_all, strings_in_maybe, strings_in_cases, file_of, files_of}
use Rattle.cool_codegen.specs.Code.{Context, label_at}
use Rattle.cool_codegen.specs.Types.{trees_count}
use Rattle.cool_codegen.specs.Variables.{Named, bind}
use Rattle.cool_syntax.proofs.TreesHaveNodes.{one_le_size}
use Rattle.cool_emit.proofs.TextOfCode.{count_low}
use Rattle.lists.proofs.AllItems.{all_append}
use Rattle.cool_simulation.specs.Loadings.{Loading, constants, context, whole}
use Rattle.cool_simulation.specs.Simulation.{CodeAt}
use Rattle.cool_codegen.specs.Spans.{Span, spans, arguments_spans, items_spans, initial_spans, Spanned, with_branch, branches, along}
use Rattle.cool_codegen.proofs.SpansStand.{span_stands}

module _ (files : List (List ℕ)) (I : ℕ → Type 0) (X : List ℕ → Type 0) where
  -- the constants that code uses are there
  pub record Asked (is : List ℕ) (xs : List (List ℕ)) : Type 0 where
    pub integers : (n : ℕ) → Contains is n → I n
    pub strings : (bytes : List ℕ) → Contains xs bytes → X bytes

  of_front : (is js : List ℕ) (xs ys : List (List ℕ)) → Asked (is ++ js) (xs ++ ys) → Asked is xs
  of_front is js xs ys h = record { integers = λ n there. h.integers n (Contains-append_left is js n there); strings = λ bytes there. h.strings bytes (Contains-append_left xs ys bytes there) }

  of_back : (is js : List ℕ) (xs ys : List (List ℕ)) → Asked (is ++ js) (xs ++ ys) → Asked js ys
  of_back is js xs ys h = record { integers = λ n there. h.integers n (Contains-append_right is js n there); strings = λ bytes there. h.strings bytes (Contains-append_right xs ys bytes there) }

  of_part : (is : List ℕ) (xs ys : List (List ℕ)) → Asked is (xs ++ ys) → Asked is xs
  of_part is xs ys h = record { integers = h.integers; strings = λ bytes there. h.strings bytes (Contains-append_left xs ys bytes there) }

  of_rest : (is : List ℕ) (xs ys : List (List ℕ)) → Asked is (xs ++ ys) → Asked is ys
  of_rest is xs ys h = record { integers = h.integers; strings = λ bytes there. h.strings bytes (Contains-append_right xs ys bytes there) }

  -- a tree at a depth asks for what is there, within the limits
  pub record IsFit (d : ℕ) (t : Tree) : Type 0 where
    pub asked : Asked (integers_in t) (strings_in files t)
    pub within : IsTreeWithin (length files) t
    pub small : d + tree_size t ≤ 8000

  abbrev pub FitSpan : Span → Type 0
  FitSpan x = IsFit x.depth x.tree

  module _ (size : List Line → ℕ) (s : Context) (g : Constants) where
    abbrev FitBranch : Spanned → Type 0
    FitBranch b = (pc : ℕ) → AllByRecursion FitSpan (b.inside pc)

    put_fit : (bs : List Spanned) (b : Spanned) → AllByRecursion FitBranch bs → FitBranch b → AllByRecursion FitBranch (with_branch bs b)
    put_fit [] b h k = (k, tt)
    put_fit (a ∷ bs) b h k = by (nat_lt a.arm.depth b.arm.depth) (put_fit bs b h.1 k)
      where
        by : (t : Truth) → AllByRecursion FitBranch (with_branch bs b) → AllByRecursion FitBranch (if t then b ∷ a ∷ bs else a ∷ with_branch bs b)
        by true more = (k, h)
        by false more = (h.0, more)

    along_fit : (bs : List Spanned) (pc : ℕ) → AllByRecursion FitBranch bs → AllByRecursion FitSpan (along size (λ (b : Spanned). b.arm.lines) (λ pc b. b.inside pc) pc bs)
    along_fit [] pc h = tt
    along_fit (b ∷ bs) pc h = all_append FitSpan (b.inside pc) _ (h.0 pc) (along_fit bs (pc + size b.arm.lines) h.1)

    mutual
      pub spans_fit : (vs : List Named) (d k pc : ℕ) (t : Tree) → Asked (integers_in t) (strings_in files t) → IsTreeWithin (length files) t → d + tree_size t ≤ 8000
          → AllByRecursion FitSpan (spans size s g vs d k pc t)
      spans_fit vs d k pc (trees.Id at name) h w l = (record { asked = h; within = w; small = l }, tt)
      spans_fit vs d k pc (trees.leaf at form) h w l = (record { asked = h; within = w; small = l }, tt)
      spans_fit vs d k pc (trees.Assign at name t) h w l = (record { asked = h; within = w; small = l }, spans_fit vs d k _ t h w.2 (omega arith))
      spans_fit vs d k pc (trees.Neg at t) h w l = (record { asked = h; within = w; small = l }, spans_fit vs d k _ t (of_part (integers_in t) (strings_in files t) (file_of files at) h) w.1 (omega arith))
      spans_fit vs d k pc (trees.unary at form t) h w l = (record { asked = h; within = w; small = l }, spans_fit vs d k _ t h w.1 (omega arith))
      spans_fit vs d k pc (trees.Arith at op a b) h w l = (
        record { asked = h; within = w; small = l },
        all_append FitSpan (spans size s g vs d k pc a) _
            (spans_fit vs d k pc a (of_front (integers_in a) _ (strings_in files a) _ h) w.1 (omega arith))
            (spans_fit vs (d + 1) (k + tree_size a) _ b (of_part (integers_in b) (strings_in files b) (files_of files op at) (of_back (integers_in a) _ (strings_in files a) _ h)) w.2 (let one = one_le_size a in omega arith)),
      )
      spans_fit vs d k pc (trees.Compare at op a b) h w l = (
        record { asked = h; within = w; small = l },
        all_append FitSpan (spans size s g vs d k pc a) _
            (spans_fit vs d k pc a (of_front (integers_in a) _ (strings_in files a) _ h) w.1 (omega arith))
            (spans_fit vs (d + 1) (k + tree_size a) _ b (of_back (integers_in a) _ (strings_in files a) _ h) w.2 (let one = one_le_size a in omega arith)),
      )
      spans_fit vs d k pc (trees.While at t b) h w l = (
        record { asked = h; within = w; small = l },
        all_append FitSpan (spans size s g vs d k _ t) _
            (spans_fit vs d k _ t (of_front (integers_in t) _ (strings_in files t) _ h) w.1 (omega arith))
            (spans_fit vs d (k + tree_size t) _ b (of_back (integers_in t) _ (strings_in files t) _ h) w.2 (omega arith)),
      )
      spans_fit vs d k pc (trees.Dispatch at t name ts) h w l =
          let few = count_low ts in (
            record { asked = h; within = w; small = l },
            all_append FitSpan (arguments_spans size s g vs d (k + tree_size t) pc ts) _
                (arguments_fit vs d (k + tree_size t) pc ts (of_front (integers_in_all ts) (integers_in t) (strings_in_all files ts) _ h) w.3 (omega arith))
                (spans_fit vs (d + trees_count ts) k _ t (of_part (integers_in t) (strings_in files t) (file_of files at) (of_back (integers_in_all ts) (integers_in t) (strings_in_all files ts) _ h)) w.1 (omega arith)),
          )
      spans_fit vs d k pc (trees.StaticDispatch at t class name ts) h w l =
          let few = count_low ts in (
            record { asked = h; within = w; small = l },
            all_append FitSpan (arguments_spans size s g vs d (k + tree_size t) pc ts) _
                (arguments_fit vs d (k + tree_size t) pc ts (of_front (integers_in_all ts) (integers_in t) (strings_in_all files ts) _ h) w.4 (omega arith))
                (spans_fit vs (d + trees_count ts) k _ t (of_part (integers_in t) (strings_in files t) (file_of files at) (of_back (integers_in_all ts) (integers_in t) (strings_in_all files ts) _ h)) w.1 (omega arith)),
          )
      spans_fit vs d k pc (trees.If at t y n) h w l =
          let rest = of_back (integers_in t) (integers_in y ++ integers_in n) (strings_in files t) (strings_in files y ++ strings_in files n) h in (
            record { asked = h; within = w; small = l },
            all_append FitSpan (spans size s g vs d k pc t) _
                (spans_fit vs d k pc t (of_front (integers_in t) _ (strings_in files t) _ h) w.1 (omega arith))
                (all_append FitSpan (spans size s g vs d (k + tree_size t) _ y) _
                (spans_fit vs d (k + tree_size t) _ y (of_front (integers_in y) _ (strings_in files y) _ rest) w.2 (omega arith))
                (spans_fit vs d (k + tree_size t + tree_size y) _ n (of_back (integers_in y) _ (strings_in files y) _ rest) w.3 (omega arith))),
          )
      spans_fit vs d k pc (trees.Block at ts) h w l = (record { asked = h; within = w; small = l }, items_fit vs d k pc ts h w.1 (omega arith))
      spans_fit vs d k pc (trees.Let at name declared o t) h w l = (
        record { asked = h; within = w; small = l },
        all_append FitSpan (initial_spans size s g vs d k pc o) _
            (initial_fit vs d k pc o (of_front (integers_in_maybe o) _ (strings_in_maybe files o) _ h) w.3 (omega arith))
            (spans_fit (bind d name (type_meant s.table declared.name) vs) (d + 1) (k + maybe_size o) _ t (of_back (integers_in_maybe o) _ (strings_in_maybe files o) _ h) w.4 (omega arith)),
      )
      spans_fit vs d k pc (trees.Case at t cs) h w l =
          let rest = of_rest (integers_in_cases cs) (file_of files at) (strings_in_cases files cs) (of_back (integers_in t) _ (strings_in files t) _ h) in (
            record { asked = h; within = w; small = l },
            all_append FitSpan (spans size s g vs d k pc t) _
                (spans_fit vs d k pc t (of_front (integers_in t) _ (strings_in files t) _ h) w.1 (omega arith))
                (along_fit (branches size s g vs d (k + tree_size t) (label_at s (codes "end") (root k (trees.Case at t cs))) [] cs) _
                (branches_fit vs d (k + tree_size t) (label_at s (codes "end") (root k (trees.Case at t cs))) [] cs tt rest w.2 (omega arith))),
          )

      arguments_fit : (vs : List Named) (d k pc : ℕ) (ts : Trees) → Asked (integers_in_all ts) (strings_in_all files ts) → AreTreesWithin (length files) ts → d + trees_size ts ≤ 8000
          → AllByRecursion FitSpan (arguments_spans size s g vs d k pc ts)
      arguments_fit vs d k pc Last h w l = tt
      arguments_fit vs d k pc (More t ts) h w l =
          all_append FitSpan (spans size s g vs d k pc t) _
          (spans_fit vs d k pc t (of_front (integers_in t) _ (strings_in files t) _ h) w.0 (omega arith))
          (arguments_fit vs (d + 1) (k + tree_size t) _ ts (of_back (integers_in t) _ (strings_in files t) _ h) w.1 (let one = one_le_size t in omega arith))

      items_fit : (vs : List Named) (d k pc : ℕ) (ts : Trees) → Asked (integers_in_all ts) (strings_in_all files ts) → AreTreesWithin (length files) ts → d + trees_size ts ≤ 8000
          → AllByRecursion FitSpan (items_spans size s g vs d k pc ts)
      items_fit vs d k pc Last h w l = tt
      items_fit vs d k pc (More t ts) h w l =
          all_append FitSpan (spans size s g vs d k pc t) _
          (spans_fit vs d k pc t (of_front (integers_in t) _ (strings_in files t) _ h) w.0 (omega arith))
          (items_fit vs d (k + tree_size t) _ ts (of_back (integers_in t) _ (strings_in files t) _ h) w.1 (omega arith))

      initial_fit : (vs : List Named) (d k pc : ℕ) (o : MaybeTree) → Asked (integers_in_maybe o) (strings_in_maybe files o) → IsMaybeWithin (length files) o → d + maybe_size o ≤ 8000
          → AllByRecursion FitSpan (initial_spans size s g vs d k pc o)
      initial_fit vs d k pc Without h w l = tt
      initial_fit vs d k pc (With t) h w l = spans_fit vs d k pc t h w (omega arith)

      branches_fit : (vs : List Named) (d k : ℕ) (end : Name) (before : List Spanned) (cs : Cases) → AllByRecursion FitBranch before → Asked (integers_in_cases cs) (strings_in_cases files cs) → AreCasesWithin (length files) cs
          → d + 1 + cases_size cs ≤ 8000 → AllByRecursion FitBranch (branches size s g vs d k end before cs)
      branches_fit vs d k end before NoCase b h w l = b
      branches_fit vs d k end before (CaseOf at name declared t cs) b h w l =
          branches_fit vs d (k + tree_size t) end (with_branch before _) cs
          (put_fit before _ b (λ pc. spans_fit (bind d name (type_meant s.table declared.name) vs) (d + 1) k _ t (of_front (integers_in t) _ (strings_in files t) _ h) w.3 (omega arith)))
          (of_back (integers_in t) _ (strings_in files t) _ h) w.4 (omega arith)

-- the code of each span of an expression stands where the span says, with what it asks for
pub code_of_span : (l : Loading) (c : ClassId) (f : ℕ) (vs : List Named) (d first pc : ℕ) (t : Tree) (x : Span) → CodeAt l c f vs d first pc t
    → Contains (spans sizes (context l c f) (constants l) vs d first pc t) x
    → ((y : Span) → Contains (spans sizes (context l c f) (constants l) x.scope x.depth x.first x.from x.tree) y → Contains (spans sizes (context l c f) (constants l) vs d first pc t) y)
    → CodeAt l c f x.scope x.depth x.first x.from x.tree
code_of_span l c f vs d first pc t x h there inside =
    let I : ℕ → Type 0 = λ n. Contains (constants l).integers n in
    let X : List ℕ → Type 0 = λ bytes. Contains (constants l).strings bytes in
    let all = spans_fit l.files I X sizes (context l c f) (constants l) vs d first pc t (record { integers = h.integers; strings = h.strings }) h.within h.small in
    let fit = All-contains (FitSpan l.files I X) (spans sizes (context l c f) (constants l) vs d first pc t) x (All-from_recursion _ (spans sizes (context l c f) (constants l) vs d first pc t) all) there in
    record {
      lines = span_stands (whole l) (context l c f) (constants l) vs d first pc t x h.lines there;
      integers = fit.asked.integers;
      strings = fit.asked.strings;
      within = fit.within;
      small = fit.small;
      spans = λ y k. h.spans y (inside y k);
    }
