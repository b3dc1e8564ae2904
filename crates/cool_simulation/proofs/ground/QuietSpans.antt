-- If only the beginnings of expressions are marked addresses, no instruction between the codes of two subexpressions has a marked address.
use Rattle.std.proofs.Common.{◌≡◌, ℕ, zero, suc, ◌+◌, ◌-◌, ◌%◌, ◌<◌, ◌≤◌, ◌⊎◌, inl, inr, List, [], ◌∷◌, ◌++◌, map as each, Bool as Truth, true, false, refl, sym, ap, ◌∙◌, subst, arith}
use Rattle.std.specs.Prelude.{Contains, codes}
use Rattle.std.specs.List.{AllByRecursion}
use Rattle.std.proofs.lemmas.List.Elements.{All-contains, All-from_recursion, Contains-append_cases, Contains-append_left}
use Rattle.mips_isa.specs.Lines.{Name, Line}
use Rattle.cool_syntax.specs.Tree.{Tree, Trees, Cases, Last, More, Without, With, NoCase, CaseOf, tree_size}
use Rattle.cool_syntax.specs.Tree as trees
use Rattle.cool_syntax.specs.NodeLists.{root}
use Rattle.cool_rules.specs.Rules.{type_meant}
use Rattle.cool_runtime.specs.Routines.{push_lines}
use Rattle.cool_runtime.specs.Standing.{sizes}
use Rattle.cool_consts.specs.Constants.{Constants}
use Rattle.cool_codegen.specs.Arms.{Arm, arms_lines}
use Rattle.cool_codegen.specs.Code.{Context, arguments_code, arms_code, code, default_code, file_label, items_code, label_at, range_code}
use Rattle.cool_codegen.specs.Pieces.{case_begin_lines, case_end_lines, mark_lines, pop_lines, repeat_lines, test_lines, turn_lines}
use Rattle.cool_codegen.specs.Spans.{Span, Spanned, arguments_spans, branches, items_spans, span, spans, with_branch}
use Rattle.cool_codegen.specs.Types.{class_meant, trees_count}
use Rattle.cool_codegen.specs.Variables.{Named, bind}
use Rattle.lists.proofs.AllItems.{all_append}
use Rattle.cool_simulation.specs.Quiet.{AreArmsFree, ArePushesFree, IsFree, IsQuiet}
use Rattle.cool_simulation.proofs.ground.CodeHasWords.{ArgumentsNamed, CasesNamed, IsNamed, ItemsNamed, sizes_append}
use Rattle.cool_simulation.proofs.ground.CodeOfParts.{own_span}
use Rattle.cool_simulation.proofs.ground.SpansWithin.{BranchWithin, IsBetween, Within, all_put, arguments_within, arms_are, branches_within, items_within, lines_of, mark_sizes, range_sizes, told, told_within, turn_sizes, two, within}

between : (a b : ℕ) (xs : List Span) (x : Span) → Within a b xs → Contains xs x → IsBetween a b x
between a b xs x h there = All-contains (IsBetween a b) xs x (All-from_recursion _ xs h) there

module _ (marked : ℕ → Truth) where
  -- a mark from an address up to another one is where one of these spans begins
  abbrev pub Marked : ℕ → ℕ → List Span → Type 0
  Marked from to xs = (i : ℕ) → i % 4 ≡ 0 → from ≤ i → i < to → marked i ≡ true → (x : Span) × Contains xs x × (x.from ≡ i)

  inner : (a b a' b' : ℕ) (xs : List Span) → Marked a b xs → a ≤ a' → b' ≤ b → Marked a' b' xs
  inner a b a' b' xs h low high = λ i even from to mark. h i even (omega arith) (omega arith) mark

  -- before spans that begin later, and behind those that begin earlier
  front : (a b c e m : ℕ) (xs ys : List Span) → Marked a b (xs ++ ys) → Within c e ys → m ≤ c → m ≤ b → Marked a m xs
  front a b c e m xs ys h w le high = λ i even from to mark. let (x, there, is) = h i even from (omega arith) mark in by i x to is (Contains-append_cases xs ys x there)
    where
      by : (i : ℕ) (x : Span) → i < m → x.from ≡ i → Contains xs x ⊎ Contains ys x → (y : Span) × Contains xs y × (y.from ≡ i)
      by i x to is (inl there) = (x, there, is)
      by i x to is (inr there) = let k = between c e ys x w there in absurd (omega arith)

  back : (a b c e m : ℕ) (xs ys : List Span) → Marked a b (xs ++ ys) → Within c e xs → e ≤ m → a ≤ m → Marked m b ys
  back a b c e m xs ys h w le low = λ i even from to mark. let (x, there, is) = h i even (omega arith) to mark in by i x from is (Contains-append_cases xs ys x there)
    where
      by : (i : ℕ) (x : Span) → m ≤ i → x.from ≡ i → Contains xs x ⊎ Contains ys x → (y : Span) × Contains ys y × (y.from ≡ i)
      by i x from is (inl there) = let k = between c e xs x w there in absurd (omega arith)
      by i x from is (inr there) = (x, there, is)

  -- there none is
  free_where : (a b : ℕ) (xs : List Span) → Marked a b xs → ((x : Span) → Contains xs x → a ≤ x.from → x.from < b → ⊥) → IsFree marked a b
  free_where a b xs h none i even from to = by (marked i) refl
    where
      by : (t : Truth) → marked i ≡ t → marked i ≡ false
      by true mark = let (x, there, is) = h i even from to mark in absurd (none x there (omega arith) (omega arith))
      by false mark = mark

  before : (a b c e m : ℕ) (xs : List Span) → Marked a b xs → Within c e xs → m ≤ c → m ≤ b → IsFree marked a m
  before a b c e m xs h w le high = free_where a m xs (inner a b a m xs h (omega arith) high) (λ x there from to. let k = between c e xs x w there in absurd (omega arith))

  behind : (a b c e m : ℕ) (xs : List Span) → Marked a b xs → Within c e xs → e ≤ m → a ≤ m → IsFree marked m b
  behind a b c e m xs h w le low = free_where m b xs (inner a b m b xs h low (omega arith)) (λ x there from to. let k = between c e xs x w there in absurd (omega arith))

  -- without a span at whose address another one begins, or from behind it
  below : (a b : ℕ) (own : Span) (xs : List Span) (y : Span) → Marked a b (own ∷ xs) → Contains xs y → y.from ≡ own.from → Marked a b xs
  below a b own xs y h there same = λ i even from to mark. let (x, in_all, is) = h i even from to mark in by i x is in_all
    where
      by : (i : ℕ) (x : Span) → x.from ≡ i → Contains (own ∷ xs) x → (z : Span) × Contains xs z × (z.from ≡ i)
      by i x is (zero, less, e) = (y, there, same ∙ ap (λ (z : Span). z.from) e ∙ is)
      by i x is (suc k, less, e) = (x, (k, omega arith, e), is)

  gone : (a b m : ℕ) (own : Span) (xs : List Span) → Marked a b (own ∷ xs) → own.from < m → a ≤ m → Marked m b xs
  gone a b m own xs h less low = λ i even from to mark. let (x, in_all, is) = h i even (omega arith) to mark in by i x from is in_all
    where
      by : (i : ℕ) (x : Span) → m ≤ i → x.from ≡ i → Contains (own ∷ xs) x → (z : Span) × Contains xs z × (z.from ≡ i)
      by i x from is (zero, more, e) = let same : own.from ≡ x.from = ap (λ (z : Span). z.from) e in absurd (omega arith)
      by i x from is (suc k, more, e) = (x, (k, omega arith, e), is)

  -- one part, and two with something between them
  record One (pc pc1 end : ℕ) (xs : List Span) : Type 0 where
    rest : IsFree marked pc1 end
    part : Marked pc pc1 xs

  one : (pc pc1 end : ℕ) (own y : Span) (xs : List Span) → Marked pc end (own ∷ xs) → Contains xs y → y.from ≡ own.from → Within pc pc1 xs → pc ≤ pc1 → pc1 ≤ end → One pc pc1 end xs
  one pc pc1 end own y xs h there same w low high =
      let h1 = below pc end own xs y h there same in record { rest = behind pc end pc pc1 pc1 xs h1 w (omega arith) low; part = inner pc end pc pc1 xs h1 (omega arith) high }

  record Two (pc0 pc1 pc2 pc3 end : ℕ) (xs ys : List Span) : Type 0 where
    middle : IsFree marked pc1 pc2
    rest : IsFree marked pc3 end
    first : Marked pc0 pc1 xs
    second : Marked pc2 pc3 ys

  split : (pc pc0 pc1 pc2 pc3 end : ℕ) (xs ys : List Span) → Marked pc end (xs ++ ys) → Within pc0 pc1 xs → Within pc2 pc3 ys → pc ≤ pc0 → pc0 ≤ pc1 → pc1 ≤ pc2 → pc2 ≤ pc3 → pc3 ≤ end → Two pc0 pc1 pc2 pc3 end xs ys
  split pc pc0 pc1 pc2 pc3 end xs ys h w w' e0 e1 e2 e3 e4 =
      let h1 : Marked pc1 end ys = back pc end pc0 pc1 pc1 xs ys h w (omega arith) (omega arith) in
      let h2 : Marked pc pc1 xs = front pc end pc2 pc3 pc1 xs ys h w' e2 (omega arith) in
      record {
        middle = before pc1 end pc2 pc3 pc2 ys h1 w' (omega arith) (omega arith);
        rest = behind pc1 end pc2 pc3 pc3 ys h1 w' (omega arith) (omega arith);
        first = inner pc pc1 pc0 pc1 xs h2 e0 (omega arith);
        second = inner pc1 end pc2 pc3 ys h1 e2 e4;
      }

  module _ (s : Context) (g : Constants) where
    abbrev pub AllQuiet : List Span → Type 0
    AllQuiet xs = AllByRecursion (IsQuiet marked s g) xs

    -- the same for a branch, wherever it begins
    abbrev BranchQuiet : Spanned → Type 0
    BranchQuiet b = (pc : ℕ) → Marked (pc + 16) (pc + sizes b.arm.lines - 4) (b.inside pc) → AllQuiet (b.inside pc)

    told_quiet : (bs : List Spanned) (pc : ℕ) → AllByRecursion BranchWithin bs → AllByRecursion BranchQuiet bs → Marked pc (pc + sizes (lines_of bs)) (told pc bs)
        → AreArmsFree marked pc (each (λ (b : Spanned). b.arm) bs) × AllQuiet (told pc bs)
    told_quiet [] pc w q h = (tt, tt)
    told_quiet (b ∷ bs) pc w q h =
        let long = w.0.long in
        let total = sizes_append b.arm.lines (lines_of bs) in
        let pc1 = pc + sizes b.arm.lines in
        let end = pc + sizes (b.arm.lines ++ lines_of bs) in
        let rest = told pc1 bs in
        let w1 = told_within bs pc1 w.1 in
        let mine : Marked pc pc1 (b.inside pc) = front pc end pc1 (pc1 + sizes (lines_of bs)) pc1 (b.inside pc) rest h w1 (omega arith) (omega arith) in
        let others : Marked pc1 end rest = back pc end (pc + 16) (pc1 - 4) pc1 (b.inside pc) rest h (w.0.within pc) (omega arith) (omega arith) in
        let more = told_quiet bs pc1 w.1 q.1 (inner pc1 end pc1 (pc1 + sizes (lines_of bs)) rest others (omega arith) (omega arith)) in (
          (
            before pc pc1 (pc + 16) (pc1 - 4) (pc + 16) (b.inside pc) mine (w.0.within pc) (omega arith) (omega arith),
            behind pc pc1 (pc + 16) (pc1 - 4) (pc1 - 4) (b.inside pc) mine (w.0.within pc) (omega arith) (omega arith),
            more.0,
          ),
          all_append (IsQuiet marked s g) (b.inside pc) rest (q.0 pc (inner pc pc1 (pc + 16) (pc1 - 4) (b.inside pc) mine (omega arith) (omega arith))) more.1,
        )

    -- a call begins with its first argument, or with its receiver
    call_first : (vs : List Named) (d k pc : ℕ) (t : Tree) (ts : Trees)
        → (y : Span) × Contains (arguments_spans sizes s g vs d (k + tree_size t) pc ts ++ spans sizes s g vs (d + trees_count ts) k (pc + sizes (arguments_code s g vs d (k + tree_size t) ts)) t) y × (y.from ≡ pc)
    call_first vs d k pc t Last = (span vs (d + 0) k (pc + 0) t, own_span sizes s g vs (d + 0) k (pc + 0) t, omega arith)
    call_first vs d k pc t (More u ts) =
        let mine = spans sizes s g vs d (k + tree_size t) pc u in
        let y = span vs d (k + tree_size t) pc u in
        (y, Contains-append_left (arguments_spans sizes s g vs d (k + tree_size t) pc (More u ts)) _ y (Contains-append_left mine _ y (own_span sizes s g vs d (k + tree_size t) pc u)), refl)

    -- nothing begins behind the first word where there are no parts
    alone : (pc end : ℕ) (own : Span) → own.from ≡ pc → Marked pc end (own ∷ []) → IsFree marked (pc + 4) end
    alone pc end own same h = free_where (pc + 4) end [] (gone pc end (pc + 4) own [] h (omega arith) (omega arith)) (λ x there from to. absurd (let less = there.1 in omega arith))

    -- one part, two operands, and a call
    part : (vs : List Named) (d k pc : ℕ) (t : Tree) (rest : List Line) (own : Span) → own.from ≡ pc → IsNamed s.table vs d t
        → Marked pc (pc + sizes (code s g vs d k t ++ rest)) (own ∷ spans sizes s g vs d k pc t)
        → One pc (pc + sizes (code s g vs d k t)) (pc + sizes (code s g vs d k t ++ rest)) (spans sizes s g vs d k pc t)
    part vs d k pc t rest own same h m =
        let mine = code s g vs d k t in
        let total = sizes_append mine rest in
        one pc (pc + sizes mine) (pc + sizes (mine ++ rest)) own (span vs d k pc t) _ m (own_span sizes s g vs d k pc t) (sym same) (within s g vs d k pc t h) (omega arith) (omega arith)

    operands : (vs : List Named) (d k pc : ℕ) (a b : Tree) (rest : List Line) (own : Span) → own.from ≡ pc → IsNamed s.table vs d a → IsNamed s.table vs (d + 1) b
        → Marked pc (pc + sizes (code s g vs d k a ++ (push_lines ++ (code s g vs (d + 1) (k + tree_size a) b ++ rest))))
        (own ∷ spans sizes s g vs d k pc a ++ spans sizes s g vs (d + 1) (k + tree_size a) (pc + sizes (code s g vs d k a) + sizes push_lines) b)
        → Two pc (pc + sizes (code s g vs d k a)) (pc + sizes (code s g vs d k a) + sizes push_lines) (pc + sizes (code s g vs d k a) + sizes push_lines + sizes (code s g vs (d + 1) (k + tree_size a) b))
        (pc + sizes (code s g vs d k a ++ (push_lines ++ (code s g vs (d + 1) (k + tree_size a) b ++ rest)))) (spans sizes s g vs d k pc a)
        (spans sizes s g vs (d + 1) (k + tree_size a) (pc + sizes (code s g vs d k a) + sizes push_lines) b)
    operands vs d k pc a b rest own same h h' m =
        let la = code s g vs d k a in
        let lb = code s g vs (d + 1) (k + tree_size a) b in
        let r2 = lb ++ rest in
        let r1 = push_lines ++ r2 in
        let a0 = sizes_append la r1 in let a1 = sizes_append push_lines r2 in let a2 = sizes_append lb rest in
        let pc1 = pc + sizes la in
        let pc2 = pc1 + sizes push_lines in
        let last = pc + sizes (la ++ r1) in
        let xa = spans sizes s g vs d k pc a in
        let xb = spans sizes s g vs (d + 1) (k + tree_size a) pc2 b in
        let first = span vs d k pc a in
        split pc pc pc1 pc2 (pc2 + sizes lb) last xa xb (below pc last own (xa ++ xb) first m (Contains-append_left xa xb first (own_span sizes s g vs d k pc a)) (sym same)) (within s g vs d k pc a h)
        (within s g vs (d + 1) (k + tree_size a) pc2 b h') (omega arith) (omega arith) (omega arith) (omega arith) (omega arith)

    call : (vs : List Named) (d k pc : ℕ) (t : Tree) (ts : Trees) (rest : List Line) (own : Span) → own.from ≡ pc → ArgumentsNamed s.table vs d ts → IsNamed s.table vs (d + trees_count ts) t
        → Marked pc (pc + sizes (arguments_code s g vs d (k + tree_size t) ts ++ (code s g vs (d + trees_count ts) k t ++ rest)))
        (own ∷ arguments_spans sizes s g vs d (k + tree_size t) pc ts ++ spans sizes s g vs (d + trees_count ts) k (pc + sizes (arguments_code s g vs d (k + tree_size t) ts)) t)
        → Two pc (pc + sizes (arguments_code s g vs d (k + tree_size t) ts)) (pc + sizes (arguments_code s g vs d (k + tree_size t) ts))
        (pc + sizes (arguments_code s g vs d (k + tree_size t) ts) + sizes (code s g vs (d + trees_count ts) k t))
        (pc + sizes (arguments_code s g vs d (k + tree_size t) ts ++ (code s g vs (d + trees_count ts) k t ++ rest))) (arguments_spans sizes s g vs d (k + tree_size t) pc ts)
        (spans sizes s g vs (d + trees_count ts) k (pc + sizes (arguments_code s g vs d (k + tree_size t) ts)) t)
    call vs d k pc t ts rest own same h h' m =
        let la = arguments_code s g vs d (k + tree_size t) ts in
        let lt = code s g vs (d + trees_count ts) k t in
        let a0 = sizes_append la (lt ++ rest) in let a1 = sizes_append lt rest in
        let pc1 = pc + sizes la in
        let last = pc + sizes (la ++ (lt ++ rest)) in
        let xa = arguments_spans sizes s g vs d (k + tree_size t) pc ts in
        let xt = spans sizes s g vs (d + trees_count ts) k pc1 t in
        let (first, there, is) = call_first vs d k pc t ts in
        split pc pc pc1 pc1 (pc1 + sizes lt) last xa xt (below pc last own (xa ++ xt) first m there (is ∙ sym same)) (arguments_within s g vs d (k + tree_size t) pc ts h) (within s g vs (d + trees_count ts) k pc1 t h')
        (omega arith) (omega arith) (omega arith) (omega arith) (omega arith)

    mutual
      quiet : (vs : List Named) (d k pc : ℕ) (t : Tree) → IsNamed s.table vs d t → Marked pc (pc + sizes (code s g vs d k t)) (spans sizes s g vs d k pc t) → AllQuiet (spans sizes s g vs d k pc t)
      quiet vs d k pc (trees.Id at name) h m = (alone pc _ _ refl m, tt)
      quiet vs d k pc (trees.leaf at form) h m = (alone pc _ _ refl m, tt)
      quiet vs d k pc (trees.Not at t) h m = let p = part vs d k pc t _ _ refl h m in (p.rest, quiet vs d k pc t h p.part)
      quiet vs d k pc (trees.unary at form t) h m = let p = part vs d k pc t _ _ refl h m in (p.rest, quiet vs d k pc t h p.part)
      quiet vs d k pc (trees.While at t b) h m =
          let loop = label_at s (codes "loop") (root k (trees.While at t b)) in
          let end = label_at s (codes "end") (root k (trees.While at t b)) in
          let mark = mark_lines loop in
          let lt = code s g vs d k t in
          let lb = code s g vs d (k + tree_size t) b in
          let r4 = repeat_lines loop end in
          let r3 = lb ++ r4 in
          let r2 = test_lines end ++ r3 in
          let r1 = lt ++ r2 in
          let a0 = sizes_append mark r1 in let a1 = sizes_append lt r2 in let a2 = sizes_append (test_lines end) r3 in let a3 = sizes_append lb r4 in let a4 = mark_sizes loop in
          let pc0 = pc + sizes mark in
          let pc1 = pc0 + sizes lt in
          let pc2 = pc1 + sizes (test_lines end) in
          let pc3 = pc2 + sizes lb in
          let last = pc + sizes (mark ++ r1) in
          let xt = spans sizes s g vs d k pc0 t in
          let xb = spans sizes s g vs d (k + tree_size t) pc2 b in
          let first = span vs d k pc0 t in
          let m1 = below pc last (span vs d k pc (trees.While at t b)) (xt ++ xb) first m (Contains-append_left xt _ first (own_span sizes s g vs d k pc0 t)) (omega arith) in
          let p = split pc pc0 pc1 pc2 pc3 last xt xb m1 (within s g vs d k pc0 t h.0) (within s g vs d (k + tree_size t) pc2 b h.1) (omega arith) (omega arith) (omega arith) (omega arith) (omega arith) in
          ((p.middle, p.rest), all_append (IsQuiet marked s g) xt xb (quiet vs d k pc0 t h.0 p.first) (quiet vs d (k + tree_size t) pc2 b h.1 p.second))
      quiet vs d k pc (trees.binary at form a b) h m =
          let p = operands vs d k pc a b _ _ refl h.0 h.1 m in
          ((p.middle, p.rest), all_append (IsQuiet marked s g) (spans sizes s g vs d k pc a) _ (quiet vs d k pc a h.0 p.first) (quiet vs (d + 1) (k + tree_size a) _ b h.1 p.second))
      quiet vs d k pc (trees.If at t y n) h m =
          let other = label_at s (codes "else") (root k (trees.If at t y n)) in
          let end = label_at s (codes "end") (root k (trees.If at t y n)) in
          let lt = code s g vs d k t in
          let ly = code s g vs d (k + tree_size t) y in
          let ln = code s g vs d (k + tree_size t + tree_size y) n in
          let r4 = ln ++ mark_lines end in
          let r3 = turn_lines end other ++ r4 in
          let r2 = ly ++ r3 in
          let r1 = test_lines other ++ r2 in
          let a0 = sizes_append lt r1 in let a1 = sizes_append (test_lines other) r2 in let a2 = sizes_append ly r3 in let a3 = sizes_append (turn_lines end other) r4 in let a4 = sizes_append ln (mark_lines end) in
          let pc1 = pc + sizes lt in
          let pc2 = pc1 + sizes (test_lines other) in
          let pc3 = pc2 + sizes ly in
          let pc4 = pc3 + sizes (turn_lines end other) in
          let pc5 = pc4 + sizes ln in
          let last = pc + sizes (lt ++ r1) in
          let xt = spans sizes s g vs d k pc t in
          let xy = spans sizes s g vs d (k + tree_size t) pc2 y in
          let xn = spans sizes s g vs d (k + tree_size t + tree_size y) pc4 n in
          let wy = within s g vs d (k + tree_size t) pc2 y h.1 in
          let wn = within s g vs d (k + tree_size t + tree_size y) pc4 n h.2 in
          let first = span vs d k pc t in
          let m1 = below pc last (span vs d k pc (trees.If at t y n)) (xt ++ (xy ++ xn)) first m (Contains-append_left xt _ first (own_span sizes s g vs d k pc t)) refl in
          let p = split pc pc pc1 pc2 pc5 last xt (xy ++ xn) m1 (within s g vs d k pc t h.0) (two pc2 pc3 pc4 pc5 pc2 pc5 xy xn (omega arith) (omega arith) (omega arith) (omega arith) wy wn) (omega arith) (omega arith) (omega arith) (omega arith) (omega arith) in
          let o = split pc2 pc2 pc3 pc4 pc5 pc5 xy xn p.second wy wn (omega arith) (omega arith) (omega arith) (omega arith) (omega arith) in (
            (p.middle, o.middle),
            all_append (IsQuiet marked s g) xt (xy ++ xn) (quiet vs d k pc t h.0 p.first)
                (all_append (IsQuiet marked s g) xy xn (quiet vs d (k + tree_size t) pc2 y h.1 o.first) (quiet vs d (k + tree_size t + tree_size y) pc4 n h.2 o.second)),
          )
      quiet vs d k pc (trees.Block at Last) h m = absurd h
      quiet vs d k pc (trees.Block at (More t ts)) h m =
          let last = pc + sizes (items_code s g vs d k (More t ts)) in
          let xs = items_spans sizes s g vs d k pc (More t ts) in
          let first = span vs d k pc t in
          let m1 = below pc last (span vs d k pc (trees.Block at (More t ts))) xs first m (Contains-append_left (spans sizes s g vs d k pc t) _ first (own_span sizes s g vs d k pc t)) refl in
          (tt, items_quiet vs d k pc (More t ts) h m1)
      quiet vs d k pc (trees.Let at name declared Without t) h m =
          let type = type_meant s.table declared.name in
          let scope = bind d name type vs in
          let lo = default_code type in
          let lt = code s g scope (d + 1) (k + 0) t in
          let r2 = lt ++ pop_lines in
          let r1 = push_lines ++ r2 in
          let a0 = sizes_append lo r1 in let a1 = sizes_append push_lines r2 in let a2 = sizes_append lt pop_lines in
          let pc2 = pc + sizes lo + sizes push_lines in
          let pc3 = pc2 + sizes lt in
          let last = pc + sizes (lo ++ r1) in
          let xt = spans sizes s g scope (d + 1) (k + 0) pc2 t in
          let wt = within s g scope (d + 1) (k + 0) pc2 t h.1 in
          let m1 = gone pc last (pc + 4) (span vs d k pc (trees.Let at name declared Without t)) xt m (omega arith) (omega arith) in
          ((before (pc + 4) last pc2 pc3 pc2 xt m1 wt (omega arith) (omega arith), behind (pc + 4) last pc2 pc3 pc3 xt m1 wt (omega arith) (omega arith)), quiet scope (d + 1) (k + 0) pc2 t h.1 (inner (pc + 4) last pc2 pc3 xt m1 (omega arith) (omega arith)))
      quiet vs d k pc (trees.Let at name declared (With u) t) h m =
          let type = type_meant s.table declared.name in
          let scope = bind d name type vs in
          let lu = code s g vs d k u in
          let lt = code s g scope (d + 1) (k + tree_size u) t in
          let r2 = lt ++ pop_lines in
          let r1 = push_lines ++ r2 in
          let a0 = sizes_append lu r1 in let a1 = sizes_append push_lines r2 in let a2 = sizes_append lt pop_lines in
          let pc1 = pc + sizes lu in
          let pc2 = pc1 + sizes push_lines in
          let pc3 = pc2 + sizes lt in
          let last = pc + sizes (lu ++ r1) in
          let xu = spans sizes s g vs d k pc u in
          let xt = spans sizes s g scope (d + 1) (k + tree_size u) pc2 t in
          let first = span vs d k pc u in
          let m1 = below pc last (span vs d k pc (trees.Let at name declared (With u) t)) (xu ++ xt) first m (Contains-append_left xu _ first (own_span sizes s g vs d k pc u)) refl in
          let p = split pc pc pc1 pc2 pc3 last xu xt m1 (within s g vs d k pc u h.0) (within s g scope (d + 1) (k + tree_size u) pc2 t h.1) (omega arith) (omega arith) (omega arith) (omega arith) (omega arith) in
          ((p.middle, p.rest), all_append (IsQuiet marked s g) xu xt (quiet vs d k pc u h.0 p.first) (quiet scope (d + 1) (k + tree_size u) pc2 t h.1 p.second))
      quiet vs d k pc (trees.Case at t cs) h m =
          let end = label_at s (codes "end") (root k (trees.Case at t cs)) in
          let lt = code s g vs d k t in
          let begin = case_begin_lines (file_label s g at) at.line in
          let bs = branches sizes s g vs d (k + tree_size t) end [] cs in
          let written = arms_code s g vs d (k + tree_size t) end [] cs in
          let same_arms : written ≡ each (λ (b : Spanned). b.arm) bs = arms_are s g vs d (k + tree_size t) end [] cs in
          let same : sizes (arms_lines written) ≡ sizes (lines_of bs) = ap (λ (xs : List Arm). sizes (arms_lines xs)) same_arms in
          let r3 = arms_lines written ++ case_end_lines end in
          let r2 = push_lines ++ r3 in
          let r1 = begin ++ r2 in
          let a0 = sizes_append lt r1 in let a1 = sizes_append begin r2 in let a2 = sizes_append push_lines r3 in let a3 = sizes_append (arms_lines written) (case_end_lines end) in
          let pc1 = pc + sizes lt in
          let pc2 = pc1 + sizes begin + sizes push_lines in
          let pc3 = pc2 + sizes (lines_of bs) in
          let last = pc + sizes (lt ++ r1) in
          let xt = spans sizes s g vs d k pc t in
          let xb = told pc2 bs in
          let first = span vs d k pc t in
          let wb = branches_within s g vs d (k + tree_size t) end [] cs tt h.1 in
          let m1 = below pc last (span vs d k pc (trees.Case at t cs)) (xt ++ xb) first m (Contains-append_left xt _ first (own_span sizes s g vs d k pc t)) refl in
          let p = split pc pc pc1 pc2 pc3 last xt xb m1 (within s g vs d k pc t h.0) (told_within bs pc2 wb) (omega arith) (omega arith) (omega arith) (omega arith) (omega arith) in
          let q = told_quiet bs pc2 wb (branches_quiet vs d (k + tree_size t) end [] cs tt h.1) p.second in
          let rest : IsFree marked pc3 last = p.rest in (
            (p.middle, subst (λ (xs : List Arm). AreArmsFree marked pc2 xs) (sym same_arms) q.0, λ i even from to. rest i even (omega arith) to),
            all_append (IsQuiet marked s g) xt xb (quiet vs d k pc t h.0 p.first) q.1,
          )
      quiet vs d k pc (trees.Dispatch at t name ts) h m =
          let p = call vs d k pc t ts _ _ refl h.0 h.1 m in
          let q = arguments_quiet vs d (k + tree_size t) pc ts h.0 p.first in
          ((q.0, p.rest), all_append (IsQuiet marked s g) (arguments_spans sizes s g vs d (k + tree_size t) pc ts) _ q.1 (quiet vs (d + trees_count ts) k _ t h.1 p.second))
      quiet vs d k pc (trees.call at form t ts) h m =
          let p = call vs d k pc t ts _ _ refl h.0 h.1 m in
          let q = arguments_quiet vs d (k + tree_size t) pc ts h.0 p.first in
          ((q.0, p.rest), all_append (IsQuiet marked s g) (arguments_spans sizes s g vs d (k + tree_size t) pc ts) _ q.1 (quiet vs (d + trees_count ts) k _ t h.1 p.second))

      arguments_quiet : (vs : List Named) (d k pc : ℕ) (ts : Trees) → ArgumentsNamed s.table vs d ts → Marked pc (pc + sizes (arguments_code s g vs d k ts)) (arguments_spans sizes s g vs d k pc ts)
          → ArePushesFree marked s g vs d k pc ts × AllQuiet (arguments_spans sizes s g vs d k pc ts)
      arguments_quiet vs d k pc Last h m = (tt, tt)
      arguments_quiet vs d k pc (More t ts) h m =
          let lt = code s g vs d k t in
          let more = arguments_code s g vs (d + 1) (k + tree_size t) ts in
          let a0 = sizes_append lt (push_lines ++ more) in let a1 = sizes_append push_lines more in
          let pc1 = pc + sizes lt in
          let pc2 = pc1 + sizes push_lines in
          let xt = spans sizes s g vs d k pc t in
          let xs = arguments_spans sizes s g vs (d + 1) (k + tree_size t) pc2 ts in
          let p = split pc pc pc1 pc2 (pc2 + sizes more) (pc + sizes (lt ++ (push_lines ++ more))) xt xs m (within s g vs d k pc t h.0) (arguments_within s g vs (d + 1) (k + tree_size t) pc2 ts h.1) (omega arith) (omega arith) (omega arith) (omega arith) (omega arith) in
          let q = arguments_quiet vs (d + 1) (k + tree_size t) pc2 ts h.1 p.second in
          ((p.middle, q.0), all_append (IsQuiet marked s g) xt xs (quiet vs d k pc t h.0 p.first) q.1)

      items_quiet : (vs : List Named) (d k pc : ℕ) (ts : Trees) → ItemsNamed s.table vs d ts → Marked pc (pc + sizes (items_code s g vs d k ts)) (items_spans sizes s g vs d k pc ts) → AllQuiet (items_spans sizes s g vs d k pc ts)
      items_quiet vs d k pc Last h m = tt
      items_quiet vs d k pc (More t ts) h m =
          let lt = code s g vs d k t in
          let more = items_code s g vs d (k + tree_size t) ts in
          let a0 = sizes_append lt more in
          let pc1 = pc + sizes lt in
          let xt = spans sizes s g vs d k pc t in
          let xs = items_spans sizes s g vs d (k + tree_size t) pc1 ts in
          let p = split pc pc pc1 pc1 (pc1 + sizes more) (pc + sizes (lt ++ more)) xt xs m (within s g vs d k pc t h.0) (items_within s g vs d (k + tree_size t) pc1 ts h.1) (omega arith) (omega arith) (omega arith) (omega arith) (omega arith) in
          all_append (IsQuiet marked s g) xt xs (quiet vs d k pc t h.0 p.first) (items_quiet vs d (k + tree_size t) pc1 ts h.1 p.second)

      branches_quiet : (vs : List Named) (d k : ℕ) (end : Name) (before : List Spanned) (cs : Cases) → AllByRecursion BranchQuiet before → CasesNamed s.table vs d cs → AllByRecursion BranchQuiet (branches sizes s g vs d k end before cs)
      branches_quiet vs d k end before NoCase b h = b
      branches_quiet vs d k end before (CaseOf at name declared t cs) b h =
          let next = label_at s (codes "next") (root k t) in
          let range = range_code s (class_meant s.table s.class declared.name) next in
          let scope = bind d name (type_meant s.table declared.name) vs in
          let body = code s g scope (d + 1) k t in
          let turn = turn_lines end next in
          let a0 = sizes_append range (body ++ turn) in let a1 = sizes_append body turn in
          let a2 = range_sizes s (class_meant s.table s.class declared.name) next in
          let a3 = turn_sizes end next in
          branches_quiet vs d (k + tree_size t) end (with_branch before _) cs
          (all_put BranchQuiet before _ b (λ pc m. quiet scope (d + 1) k (pc + sizes range) t h.0
          (inner (pc + 16) (pc + sizes (range ++ (body ++ turn)) - 4) (pc + sizes range) (pc + sizes range + sizes body) _ m (omega arith) (omega arith)))) h.1

    -- So each span of an expression is quiet, where a mark in its code is where one of its spans begins.
    pub quiet_spans : (vs : List Named) (d k pc : ℕ) (t : Tree) → IsNamed s.table vs d t → Marked pc (pc + sizes (code s g vs d k t)) (spans sizes s g vs d k pc t)
        → (x : Span) → Contains (spans sizes s g vs d k pc t) x → IsQuiet marked s g x
    quiet_spans vs d k pc t h m x there = All-contains (IsQuiet marked s g) (spans sizes s g vs d k pc t) x (All-from_recursion _ (spans sizes s g vs d k pc t) (quiet vs d k pc t h m)) there
