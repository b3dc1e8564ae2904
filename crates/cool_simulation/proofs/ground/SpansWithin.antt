-- The address range of each subexpression begins within the code of the expression that contains it.
use Rattle.std.proofs.Common.{◌≡◌, ℕ, ◌+◌, ◌-◌, ◌<◌, ◌≤◌, List, [], ◌∷◌, ◌++◌, map as each, Bool as Truth, true, false, refl, ap, ◌∙◌, arith}
use Rattle.std.specs.Prelude.{codes, if◌then◌else◌, nat_lt}
use Rattle.std.specs.List.{AllByRecursion}
use Rattle.mips_isa.specs.Lines.{Name, Line}
use Rattle.cool_syntax.specs.Tree.{Tree, Trees, MaybeTree, Cases, Last, More, Without, With, NoCase, CaseOf, tree_size, maybe_size}
use Rattle.cool_syntax.specs.Tree as trees
use Rattle.cool_syntax.specs.NodeLists.{root}
use Rattle.cool_classes.specs.declared.class_id.Ty.{Ty}
use Rattle.cool_classes.specs.declared.class_id.ClassId.{ClassId}
use Rattle.cool_rules.specs.Rules.{type_meant}
use Rattle.cool_runtime.specs.Routines.{push_lines}
use Rattle.cool_runtime.specs.Standing.{sizes}
use Rattle.cool_consts.specs.Constants.{Constants}
use Rattle.cool_codegen.specs.Arms.{Arm, arms_lines, with_arm}
use Rattle.cool_codegen.specs.Code.{Context, arguments_code, arms_code, code, file_label, initial_code, items_code, label_at, range_code}
use Rattle.cool_codegen.specs.Pieces.{case_begin_lines, case_end_lines, mark_lines, pop_lines, repeat_lines, test_lines, try_tags_lines, turn_lines}
use Rattle.cool_codegen.specs.Spans.{Span, Spanned, along, arguments_spans, branches, initial_spans, items_spans, spans, with_branch}
use Rattle.cool_codegen.specs.Types.{class_meant, trees_count}
use Rattle.cool_codegen.specs.Variables.{Named, bind}
use Rattle.lists.proofs.AllItems.{all_append, all_then}
use Rattle.cool_simulation.proofs.ground.CodeHasWords.{ArgumentsNamed, CasesNamed, IsNamed, ItemsNamed, MaybeNamed, has_word, sizes_append}

-- a span begins between two addresses
abbrev pub IsBetween : ℕ → ℕ → Span → Type 0
IsBetween from to x = (from ≤ x.from) × (x.from < to)

abbrev pub Within : ℕ → ℕ → List Span → Type 0
Within from to xs = AllByRecursion (IsBetween from to) xs

wide : (a b a' b' : ℕ) (xs : List Span) → a' ≤ a → b ≤ b' → Within a b xs → Within a' b' xs
wide a b a' b' xs low high h = all_then (IsBetween a b) (IsBetween a' b') xs (λ x (k, l). (omega arith, omega arith)) h

-- parts one behind the other
pub two : (a b c d a' d' : ℕ) (xs ys : List Span) → a' ≤ a → b ≤ d' → a' ≤ c → d ≤ d' → Within a b xs → Within c d ys → Within a' d' (xs ++ ys)
two a b c d a' d' xs ys low high low' high' h k = all_append (IsBetween a' d') xs ys (wide a b a' d' xs low high h) (wide c d a' d' ys low' high' k)

-- the lines of a test and of a jump
pub range_sizes : (s : Context) (c : ClassId) (next : Name) → sizes (range_code s c next) ≡ 16
unfolding try_tags_lines
range_sizes s c next = refl

pub turn_sizes : (end next : Name) → sizes (turn_lines end next) ≡ 4
unfolding turn_lines
turn_sizes end next = refl

pub mark_sizes : (name : Name) → sizes (mark_lines name) ≡ 0
unfolding mark_lines
mark_sizes name = refl

-- a branch: its test, its body, whose spans begin within that, and the jump behind it
pub record BranchWithin (b : Spanned) : Type 0 where
  pub long : 20 ≤ sizes b.arm.lines
  pub within : (pc : ℕ) → Within (pc + 16) (pc + sizes b.arm.lines - 4) (b.inside pc)

abbrev pub told : ℕ → List Spanned → List Span
told pc bs = along sizes (λ (b : Spanned). b.arm.lines) (λ pc (b : Spanned). b.inside pc) pc bs

abbrev pub lines_of : List Spanned → List Line
lines_of bs = arms_lines (each (λ (b : Spanned). b.arm) bs)

pub told_within : (bs : List Spanned) (pc : ℕ) → AllByRecursion BranchWithin bs → Within pc (pc + sizes (lines_of bs)) (told pc bs)
told_within [] pc h = tt
told_within (b ∷ bs) pc h =
    let long = h.0.long in
    let total = sizes_append b.arm.lines (lines_of bs) in
    let pc1 = pc + sizes b.arm.lines in
    two (pc + 16) (pc1 - 4) pc1 (pc1 + sizes (lines_of bs)) pc (pc + sizes (b.arm.lines ++ lines_of bs)) (b.inside pc) (told pc1 bs) (omega arith) (omega arith) (omega arith) (omega arith) (h.0.within pc) (told_within bs pc1 h.1)

-- a property of all branches also holds for all with one more that has it
pub all_put : (P : Spanned → Type 0) (bs : List Spanned) (b : Spanned) → AllByRecursion P bs → P b → AllByRecursion P (with_branch bs b)
all_put P [] b h k = (k, tt)
all_put P (a ∷ bs) b h k = by (nat_lt a.arm.depth b.arm.depth) (all_put P bs b h.1 k)
  where
    by : (t : Truth) → AllByRecursion P (with_branch bs b) → AllByRecursion P (if t then b ∷ a ∷ bs else a ∷ with_branch bs b)
    by true more = (k, h)
    by false more = (h.0, more)

-- the lines of a branch are put among those of others
arm_put : (bs : List Spanned) (b : Spanned) → with_arm (each (λ (x : Spanned). x.arm) bs) b.arm ≡ each (λ (x : Spanned). x.arm) (with_branch bs b)
arm_put [] b = refl
arm_put (a ∷ bs) b = by (nat_lt a.arm.depth b.arm.depth) (arm_put bs b)
  where
    by : (t : Truth) → with_arm (each (λ (x : Spanned). x.arm) bs) b.arm ≡ each (λ (x : Spanned). x.arm) (with_branch bs b)
        → (if t then b.arm ∷ a.arm ∷ each (λ (x : Spanned). x.arm) bs else a.arm ∷ with_arm (each (λ (x : Spanned). x.arm) bs) b.arm) ≡ each (λ (x : Spanned). x.arm) (if t then b ∷ a ∷ bs else a ∷ with_branch bs b)
    by true more = refl
    by false more = ap (λ (xs : List Arm). a.arm ∷ xs) more

module _ (s : Context) (g : Constants) where
  -- the branches of a case are those of its code
  pub arms_are : (vs : List Named) (d k : ℕ) (end : Name) (before : List Spanned) (cs : Cases)
      → arms_code s g vs d k end (each (λ (x : Spanned). x.arm) before) cs ≡ each (λ (x : Spanned). x.arm) (branches sizes s g vs d k end before cs)
  arms_are vs d k end before NoCase = refl
  arms_are vs d k end before (CaseOf at name declared t cs) = ap (λ (xs : List Arm). arms_code s g vs d (k + tree_size t) end xs cs) (arm_put before _) ∙ arms_are vs d (k + tree_size t) end (with_branch before _) cs

  operands_within : (vs : List Named) (d k pc : ℕ) (a b : Tree) (rest : List Line) → Within pc (pc + sizes (code s g vs d k a)) (spans sizes s g vs d k pc a)
      → Within (pc + sizes (code s g vs d k a) + sizes push_lines) (pc + sizes (code s g vs d k a) + sizes push_lines + sizes (code s g vs (d + 1) (k + tree_size a) b)) (spans sizes s g vs (d + 1) (k + tree_size a) (pc + sizes (code s g vs d k a) + sizes push_lines) b)
      → Within pc (pc + sizes (code s g vs d k a ++ (push_lines ++ (code s g vs (d + 1) (k + tree_size a) b ++ rest))))
      (spans sizes s g vs d k pc a ++ spans sizes s g vs (d + 1) (k + tree_size a) (pc + sizes (code s g vs d k a) + sizes push_lines) b)
  operands_within vs d k pc a b rest h h' =
      let one = code s g vs d k a in
      let two' = code s g vs (d + 1) (k + tree_size a) b in
      let r2 = two' ++ rest in
      let r1 = push_lines ++ r2 in
      let a0 = sizes_append one r1 in let a1 = sizes_append push_lines r2 in let a2 = sizes_append two' rest in
      let pc1 = pc + sizes one in
      let pc2 = pc1 + sizes push_lines in
      two pc pc1 pc2 (pc2 + sizes two') pc (pc + sizes (one ++ r1)) _ _ (omega arith) (omega arith) (omega arith) (omega arith) h h'

  part_within : (vs : List Named) (d k pc : ℕ) (t : Tree) (rest : List Line) → Within pc (pc + sizes (code s g vs d k t)) (spans sizes s g vs d k pc t)
      → Within pc (pc + sizes (code s g vs d k t ++ rest)) (spans sizes s g vs d k pc t)
  part_within vs d k pc t rest h =
      let one = code s g vs d k t in
      let total = sizes_append one rest in
      wide pc (pc + sizes one) pc (pc + sizes (one ++ rest)) _ (omega arith) (omega arith) h

  call_within : (vs : List Named) (d k pc : ℕ) (t : Tree) (ts : Trees) (rest : List Line) → Within pc (pc + sizes (arguments_code s g vs d (k + tree_size t) ts)) (arguments_spans sizes s g vs d (k + tree_size t) pc ts)
      → Within (pc + sizes (arguments_code s g vs d (k + tree_size t) ts)) (pc + sizes (arguments_code s g vs d (k + tree_size t) ts) + sizes (code s g vs (d + trees_count ts) k t))
      (spans sizes s g vs (d + trees_count ts) k (pc + sizes (arguments_code s g vs d (k + tree_size t) ts)) t)
      → Within pc (pc + sizes (arguments_code s g vs d (k + tree_size t) ts ++ (code s g vs (d + trees_count ts) k t ++ rest)))
      (arguments_spans sizes s g vs d (k + tree_size t) pc ts ++ spans sizes s g vs (d + trees_count ts) k (pc + sizes (arguments_code s g vs d (k + tree_size t) ts)) t)
  call_within vs d k pc t ts rest h h' =
      let one = arguments_code s g vs d (k + tree_size t) ts in
      let two' = code s g vs (d + trees_count ts) k t in
      let a0 = sizes_append one (two' ++ rest) in let a1 = sizes_append two' rest in
      let pc1 = pc + sizes one in
      two pc pc1 pc1 (pc1 + sizes two') pc (pc + sizes (one ++ (two' ++ rest))) _ _ (omega arith) (omega arith) (omega arith) (omega arith) h h'

  mutual
    pub within : (vs : List Named) (d k pc : ℕ) (t : Tree) → IsNamed s.table vs d t → Within pc (pc + sizes (code s g vs d k t)) (spans sizes s g vs d k pc t)
    within vs d k pc (trees.Id at name) h = let some = has_word s g vs d k (trees.Id at name) h in ((omega arith, omega arith), tt)
    within vs d k pc (trees.leaf at form) h = let some = has_word s g vs d k (trees.leaf at form) h in ((omega arith, omega arith), tt)
    within vs d k pc (trees.Not at t) h =
        let some = has_word s g vs d k (trees.Not at t) h in ((omega arith, omega arith), part_within vs d k pc t _ (within vs d k pc t h))
    within vs d k pc (trees.unary at form t) h =
        let some = has_word s g vs d k (trees.unary at form t) h in ((omega arith, omega arith), part_within vs d k pc t _ (within vs d k pc t h))
    within vs d k pc (trees.While at t b) h =
        let some = has_word s g vs d k (trees.While at t b) h in
        let loop = label_at s (codes "loop") (root k (trees.While at t b)) in
        let end = label_at s (codes "end") (root k (trees.While at t b)) in
        let mark = mark_lines loop in
        let one = code s g vs d k t in
        let two' = code s g vs d (k + tree_size t) b in
        let r4 = repeat_lines loop end in
        let r3 = two' ++ r4 in
        let r2 = test_lines end ++ r3 in
        let r1 = one ++ r2 in
        let a0 = sizes_append mark r1 in let a1 = sizes_append one r2 in let a2 = sizes_append (test_lines end) r3 in let a3 = sizes_append two' r4 in
        let pc0 = pc + sizes mark in
        let pc1 = pc0 + sizes one in
        let pc2 = pc1 + sizes (test_lines end) in
        ((omega arith, omega arith), two pc0 pc1 pc2 (pc2 + sizes two') pc (pc + sizes (mark ++ r1)) _ _ (omega arith) (omega arith) (omega arith) (omega arith) (within vs d k pc0 t h.0) (within vs d (k + tree_size t) pc2 b h.1))
    within vs d k pc (trees.binary at form a b) h =
        let some = has_word s g vs d k (trees.binary at form a b) h in
        ((omega arith, omega arith), operands_within vs d k pc a b _ (within vs d k pc a h.0) (within vs (d + 1) (k + tree_size a) _ b h.1))
    within vs d k pc (trees.If at t y n) h =
        let some = has_word s g vs d k (trees.If at t y n) h in
        let other = label_at s (codes "else") (root k (trees.If at t y n)) in
        let end = label_at s (codes "end") (root k (trees.If at t y n)) in
        let one = code s g vs d k t in
        let two' = code s g vs d (k + tree_size t) y in
        let three = code s g vs d (k + tree_size t + tree_size y) n in
        let r4 = three ++ mark_lines end in
        let r3 = turn_lines end other ++ r4 in
        let r2 = two' ++ r3 in
        let r1 = test_lines other ++ r2 in
        let a0 = sizes_append one r1 in let a1 = sizes_append (test_lines other) r2 in let a2 = sizes_append two' r3 in let a3 = sizes_append (turn_lines end other) r4 in let a4 = sizes_append three (mark_lines end) in
        let pc1 = pc + sizes one in
        let pc2 = pc1 + sizes (test_lines other) in
        let pc3 = pc2 + sizes two' in
        let pc4 = pc3 + sizes (turn_lines end other) in
        let pc5 = pc4 + sizes three in (
          (omega arith, omega arith),
          two pc pc1 pc2 pc5 pc (pc + sizes (one ++ r1)) _ _ (omega arith) (omega arith) (omega arith) (omega arith) (within vs d k pc t h.0)
              (two pc2 pc3 pc4 pc5 pc2 pc5 _ _ (omega arith) (omega arith) (omega arith) (omega arith) (within vs d (k + tree_size t) pc2 y h.1) (within vs d (k + tree_size t + tree_size y) pc4 n h.2)),
        )
    within vs d k pc (trees.Block at Last) h = absurd h
    within vs d k pc (trees.Block at (More t ts)) h =
        let some = has_word s g vs d k (trees.Block at (More t ts)) h in
        ((omega arith, omega arith), items_within vs d k pc (More t ts) h)
    within vs d k pc (trees.Let at name declared o t) h =
        let some = has_word s g vs d k (trees.Let at name declared o t) h in
        let type = type_meant s.table declared.name in
        let scope = bind d name type vs in
        let one = initial_code s g vs d k type o in
        let two' = code s g scope (d + 1) (k + maybe_size o) t in
        let r2 = two' ++ pop_lines in
        let r1 = push_lines ++ r2 in
        let a0 = sizes_append one r1 in let a1 = sizes_append push_lines r2 in let a2 = sizes_append two' pop_lines in
        let pc1 = pc + sizes one in
        let pc2 = pc1 + sizes push_lines in (
          (omega arith, omega arith),
          two pc pc1 pc2 (pc2 + sizes two') pc (pc + sizes (one ++ r1)) _ _ (omega arith) (omega arith) (omega arith) (omega arith) (initial_within vs d k pc type o h.0) (within scope (d + 1) (k + maybe_size o) pc2 t h.1),
        )
    within vs d k pc (trees.Case at t cs) h =
        let some = has_word s g vs d k (trees.Case at t cs) h in
        let end = label_at s (codes "end") (root k (trees.Case at t cs)) in
        let one = code s g vs d k t in
        let begin = case_begin_lines (file_label s g at) at.line in
        let bs = branches sizes s g vs d (k + tree_size t) end [] cs in
        let written = arms_lines (arms_code s g vs d (k + tree_size t) end [] cs) in
        let same : sizes written ≡ sizes (lines_of bs) = ap (λ (xs : List Arm). sizes (arms_lines xs)) (arms_are vs d (k + tree_size t) end [] cs) in
        let r3 = written ++ case_end_lines end in
        let r2 = push_lines ++ r3 in
        let r1 = begin ++ r2 in
        let a0 = sizes_append one r1 in let a1 = sizes_append begin r2 in let a2 = sizes_append push_lines r3 in let a3 = sizes_append written (case_end_lines end) in
        let pc1 = pc + sizes one in
        let pc2 = pc1 + sizes begin + sizes push_lines in (
          (omega arith, omega arith),
          two pc pc1 pc2 (pc2 + sizes (lines_of bs)) pc (pc + sizes (one ++ r1)) _ _ (omega arith) (omega arith) (omega arith) (omega arith) (within vs d k pc t h.0)
              (told_within bs pc2 (branches_within vs d (k + tree_size t) end [] cs tt h.1)),
        )
    within vs d k pc (trees.Dispatch at t name ts) h =
        let some = has_word s g vs d k (trees.Dispatch at t name ts) h in
        ((omega arith, omega arith), call_within vs d k pc t ts _ (arguments_within vs d (k + tree_size t) pc ts h.0) (within vs (d + trees_count ts) k _ t h.1))
    within vs d k pc (trees.call at form t ts) h =
        let some = has_word s g vs d k (trees.call at form t ts) h in
        ((omega arith, omega arith), call_within vs d k pc t ts _ (arguments_within vs d (k + tree_size t) pc ts h.0) (within vs (d + trees_count ts) k _ t h.1))

    pub arguments_within : (vs : List Named) (d k pc : ℕ) (ts : Trees) → ArgumentsNamed s.table vs d ts → Within pc (pc + sizes (arguments_code s g vs d k ts)) (arguments_spans sizes s g vs d k pc ts)
    arguments_within vs d k pc Last h = tt
    arguments_within vs d k pc (More t ts) h =
        let one = code s g vs d k t in
        let more = arguments_code s g vs (d + 1) (k + tree_size t) ts in
        let a0 = sizes_append one (push_lines ++ more) in let a1 = sizes_append push_lines more in
        let pc1 = pc + sizes one in
        let pc2 = pc1 + sizes push_lines in
        two pc pc1 pc2 (pc2 + sizes more) pc (pc + sizes (one ++ (push_lines ++ more))) _ _ (omega arith) (omega arith) (omega arith) (omega arith) (within vs d k pc t h.0) (arguments_within vs (d + 1) (k + tree_size t) pc2 ts h.1)

    pub items_within : (vs : List Named) (d k pc : ℕ) (ts : Trees) → ItemsNamed s.table vs d ts → Within pc (pc + sizes (items_code s g vs d k ts)) (items_spans sizes s g vs d k pc ts)
    items_within vs d k pc Last h = tt
    items_within vs d k pc (More t ts) h =
        let one = code s g vs d k t in
        let more = items_code s g vs d (k + tree_size t) ts in
        let a0 = sizes_append one more in
        let pc1 = pc + sizes one in
        two pc pc1 pc1 (pc1 + sizes more) pc (pc + sizes (one ++ more)) _ _ (omega arith) (omega arith) (omega arith) (omega arith) (within vs d k pc t h.0) (items_within vs d (k + tree_size t) pc1 ts h.1)

    pub initial_within : (vs : List Named) (d k pc : ℕ) (type : Ty) (o : MaybeTree) → MaybeNamed s.table vs d o → Within pc (pc + sizes (initial_code s g vs d k type o)) (initial_spans sizes s g vs d k pc o)
    initial_within vs d k pc type Without h = tt
    initial_within vs d k pc type (With t) h = within vs d k pc t h

    pub branches_within : (vs : List Named) (d k : ℕ) (end : Name) (before : List Spanned) (cs : Cases) → AllByRecursion BranchWithin before → CasesNamed s.table vs d cs → AllByRecursion BranchWithin (branches sizes s g vs d k end before cs)
    branches_within vs d k end before NoCase b h = b
    branches_within vs d k end before (CaseOf at name declared t cs) b h =
        let next = label_at s (codes "next") (root k t) in
        let range = range_code s (class_meant s.table s.class declared.name) next in
        let scope = bind d name (type_meant s.table declared.name) vs in
        let body = code s g scope (d + 1) k t in
        let turn = turn_lines end next in
        let a0 = sizes_append range (body ++ turn) in let a1 = sizes_append body turn in
        let a2 = range_sizes s (class_meant s.table s.class declared.name) next in
        let a3 = turn_sizes end next in
        branches_within vs d (k + tree_size t) end (with_branch before _) cs
        (all_put BranchWithin before _ b (record {
          long = omega arith;
          within = λ pc. wide (pc + sizes range) (pc + sizes range + sizes body) (pc + 16) (pc + sizes (range ++ (body ++ turn)) - 4) _ (omega arith) (omega arith) (within scope (d + 1) k (pc + sizes range) t h.0);
        })) h.1
