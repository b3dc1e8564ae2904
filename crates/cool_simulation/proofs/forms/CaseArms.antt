-- In the code of a case, the branches stand in the order in which they are tried: each class test leads to its branch or to the next test.
use Rattle.std.proofs.Common.{◌≡◌, ℕ, suc, ◌+◌, ◌-◌, ◌*◌, ◌<◌, List, [], ◌∷◌, ◌++◌, length, map as each, Option, Some, None, Bool as Truth, true, false, ap, ◌∙◌, refl, subst, arith}
use Rattle.std.specs.Prelude.{if◌then◌else◌, nat_lt, codes, Contains}
use Rattle.std.specs.List.{AllByRecursion}
use Rattle.mips_isa.specs.Bytes.{Bytes}
use Rattle.mips_isa.specs.Calls.{State as Machine}
use Rattle.mips_isa.specs.Lines.{Name, Line}
use Rattle.cool_syntax.specs.Tree.{Cases, NoCase, CaseOf, tree_size}
use Rattle.cool_syntax.specs.NodeLists.{root}
use Rattle.cool_classes.specs.declared.class_id.ClassId.{ClassId}
use Rattle.cool_classes.specs.Chains.{Class}
use Rattle.cool_classes.specs.ClimbedChains.{chain, above}
use Rattle.cool_classes.specs.Tables.{IsWholeTable}
use Rattle.cool_rules.specs.Rules.{type_meant}
use Rattle.cool_runtime.specs.Reaches.{World, Reaches, stands}
use Rattle.cool_runtime.specs.Standing.{HasLines, sizes}
use Rattle.cool_runtime.specs.Machines.{Pointers, Console}
use Rattle.cool_runtime.proofs.Pieces.{next, done, has_front, has_back, sizes_append}
use Rattle.cool_layout.specs.Preorder.{tag, last_tag}
use Rattle.cool_consts.specs.Constants.{Constants}
use Rattle.cool_codegen.specs.Arms.{Arm, with_arm, arms_lines}
use Rattle.cool_codegen.specs.Variables.{Named, bind}
use Rattle.cool_codegen.specs.Code.{Context, code, arms_code, range_code, label_at, minus}
use Rattle.cool_codegen.specs.Pieces.{turn_lines, try_tags_lines}
use Rattle.cool_meaning.specs.Evaluation.{branch_count}
use Rattle.cool_simulation.proofs.forms.BranchOrder.{Entry, entries, with_entry, with_entries, first_among, among}
use Rattle.cool_simulation.proofs.forms.TagTests.{fits_tag, other_tag, tag_low, last_low}
use Rattle.cool_simulation.proofs.forms.CaseLines.{AtTag, range_fits, range_misses, test_fits, test_misses}
use Rattle.cool_simulation.specs.Loadings.{Loading, marks, whole}
use Rattle.cool_simulation.specs.Quiet.{AreArmsFree}
use Rattle.cool_simulation.proofs.ground.Passages.{quiet}
use Rattle.cool_codegen.specs.Spans.{Span, Spanned, along, branches, spans, with_branch}
use Rattle.std.proofs.lemmas.List.Elements.{Contains-append_left, Contains-append_right}
use Rattle.cool_codegen.specs.Types.{class_meant}

-- The order puts each in, and takes none away
pub entries_many : (p : List Class) (c : ClassId) (k : ℕ) (cs : Cases) → length (entries p c k cs) ≡ branch_count cs
entries_many p c k NoCase = refl
entries_many p c k (CaseOf at name declared t cs) = ap suc (entries_many p c (k + tree_size t) cs)

with_entry_many : (p : List Class) (es : List Entry) (e : Entry) → length (with_entry p es e) ≡ suc (length es)
with_entry_many p [] e = refl
with_entry_many p (a ∷ es) e = by (nat_lt (length (above p a.class)) (length (above p e.class))) (with_entry_many p es e)
  where
    by : (b : Truth) → length (with_entry p es e) ≡ suc (length es) → length (if b then e ∷ a ∷ es else a ∷ with_entry p es e) ≡ suc (suc (length es))
    by true h = refl
    by false h = ap suc h

pub with_entries_many : (p : List Class) (before es : List Entry) → length (with_entries p before es) ≡ length before + length es
with_entries_many p before [] = omega arith
with_entries_many p before (e ∷ es) = let h = with_entries_many p (with_entry p before e) es in let k = with_entry_many p before e in omega arith

all_entry : (P : Entry → Type 0) (p : List Class) (es : List Entry) (e : Entry) → AllByRecursion P es → P e → AllByRecursion P (with_entry p es e)
all_entry P p [] e h k = (k, tt)
all_entry P p (a ∷ es) e h k = by (nat_lt (length (above p a.class)) (length (above p e.class))) (all_entry P p es e h.1 k)
  where
    by : (b : Truth) → AllByRecursion P (with_entry p es e) → AllByRecursion P (if b then e ∷ a ∷ es else a ∷ with_entry p es e)
    by true more = (k, h)
    by false more = (h.0, more)

pub all_entries : (P : Entry → Type 0) (p : List Class) (before es : List Entry) → AllByRecursion P before → AllByRecursion P es → AllByRecursion P (with_entries p before es)
all_entries P p before [] h k = h
all_entries P p before (e ∷ es) h k = all_entries P p (with_entry p before e) es (all_entry P p before e h k.0) k.1

-- a property of all entries holds for the first one, and its class is among those
pub first_has : (P : Entry → Type 0) (ds : List ClassId) (es : List Entry) (e : Entry) → AllByRecursion P es → first_among ds es ≡ Some e → P e × (among ds e.class ≡ true)
first_has P ds [] e h is = absurd (cc)
first_has P ds (a ∷ es) e h is = by (among ds a.class) refl is (λ f. first_has P ds es e h.1 f)
  where
    by : (b : Truth) → among ds a.class ≡ b → (if b then Some a else first_among ds es) ≡ Some e → (first_among ds es ≡ Some e → P e × (among ds e.class ≡ true)) → P e × (among ds e.class ≡ true)
    by true t is more = let same : a ≡ e = cc in (subst P same h.0, subst (λ (x : Entry). among ds x.class ≡ true) same t)
    by false t is more = more is

module _ (s : Context) (g : Constants) (vs : List Named) (d : ℕ) (end : Name) where
  abbrev pub next_of : Entry → Name
  next_of e = label_at s (codes "next") (root e.first e.tree)

  abbrev pub body_of : Entry → List Line
  body_of e = code s g (bind d e.name e.bound vs) (d + 1) e.first e.tree

  abbrev pub arm_of : Entry → Arm
  arm_of e = record { depth = length (above s.table e.class); lines = range_code s e.class (next_of e) ++ (body_of e ++ turn_lines end (next_of e)) }

  with_arm_is : (es : List Entry) (e : Entry) → with_arm (each arm_of es) (arm_of e) ≡ each arm_of (with_entry s.table es e)
  with_arm_is [] e = refl
  with_arm_is (a ∷ es) e = by (nat_lt (length (above s.table a.class)) (length (above s.table e.class))) (with_arm_is es e)
    where
      by : (b : Truth) → with_arm (each arm_of es) (arm_of e) ≡ each arm_of (with_entry s.table es e)
          → (if b then arm_of e ∷ arm_of a ∷ each arm_of es else arm_of a ∷ with_arm (each arm_of es) (arm_of e)) ≡ each arm_of (if b then e ∷ a ∷ es else a ∷ with_entry s.table es e)
      by true more = refl
      by false more = ap (λ (xs : List Arm). arm_of a ∷ xs) more

  -- the branches in the code are those of the order
  pub arms_are : (cs : Cases) (k : ℕ) (before : List Entry) → arms_code s g vs d k end (each arm_of before) cs ≡ each arm_of (with_entries s.table before (entries s.table s.class k cs))
  arms_are NoCase k before = refl
  arms_are (CaseOf at name declared t cs) k before =
      let e : Entry = record { class = Rattle.cool_codegen.specs.Types.class_meant s.table s.class declared.name; name = name; bound = type_meant s.table declared.name; tree = t; first = k } in
      ap (λ (xs : List Arm). arms_code s g vs d (k + tree_size t) end xs cs) (with_arm_is before e) ∙ arms_are cs (k + tree_size t) (with_entry s.table before e)

  -- the spans of an entry's branch
  abbrev pub spanned_of : Entry → Spanned
  spanned_of e = record { arm = arm_of e; inside = λ pc. spans sizes s g (bind d e.name e.bound vs) (d + 1) e.first (pc + sizes (range_code s e.class (next_of e))) e.tree }

  with_branch_is : (es : List Entry) (e : Entry) → with_branch (each spanned_of es) (spanned_of e) ≡ each spanned_of (with_entry s.table es e)
  with_branch_is [] e = refl
  with_branch_is (a ∷ es) e = by (nat_lt (length (above s.table a.class)) (length (above s.table e.class))) (with_branch_is es e)
    where
      by : (b : Truth) → with_branch (each spanned_of es) (spanned_of e) ≡ each spanned_of (with_entry s.table es e)
          → (if b then spanned_of e ∷ spanned_of a ∷ each spanned_of es else spanned_of a ∷ with_branch (each spanned_of es) (spanned_of e)) ≡ each spanned_of (if b then e ∷ a ∷ es else a ∷ with_entry s.table es e)
      by true more = refl
      by false more = ap (λ (xs : List Spanned). spanned_of a ∷ xs) more

  -- the branches with their spans are in that order
  pub branches_are : (cs : Cases) (k : ℕ) (before : List Entry) → branches sizes s g vs d k end (each spanned_of before) cs ≡ each spanned_of (with_entries s.table before (entries s.table s.class k cs))
  branches_are NoCase k before = refl
  branches_are (CaseOf at name declared t cs) k before =
      let e : Entry = record { class = class_meant s.table s.class declared.name; name = name; bound = type_meant s.table declared.name; tree = t; first = k } in
      ap (λ (xs : List Spanned). branches sizes s g vs d (k + tree_size t) end xs cs) (with_branch_is before e) ∙ branches_are cs (k + tree_size t) (with_entry s.table before e)

  -- the spans of branches whose code begins at an address
  abbrev pub told : ℕ → List Entry → List Span
  told pc es = along sizes (λ b. b.arm.lines) (λ pc b. b.inside pc) pc (each spanned_of es)

  range_sizes : (e : Entry) → sizes (range_code s e.class (next_of e)) ≡ 16
  unfolding try_tags_lines
  range_sizes e = refl

  turn_sizes : (e : Entry) → sizes (turn_lines end (next_of e)) ≡ 4
  unfolding turn_lines
  turn_sizes e = refl

  pub next_placed : (w : World) (pc : ℕ) (e : Entry) → HasLines w pc (turn_lines end (next_of e)) → w.place (next_of e) ≡ pc + 4
  unfolding turn_lines
  next_placed w pc e has = has.1.0.labels.0

  module _ (l : Loading) (whole_table : IsWholeTable s.table) (few : length s.table < 32768) (file : Name) (line : ℕ) (j : ClassId) (j_in : j.0 < length s.table) (m : Bytes) (c : Console) (q : Pointers) (P : Span → Type 0) where
    -- the target of the tests: the code of a branch, or the code after all
    abbrev pub Found : ℕ → Option Entry → Machine → Type 0
    Found pc None t = AtTag l.world (record q { pc = pc }) m c file line (tag s.table j) t
    Found pc (Some e) t =
        (pc' : ℕ) × HasLines (whole l) pc' (body_of e) × HasLines l.world (pc' + sizes (body_of e)) (turn_lines end (next_of e))
        × ((y : Span) → Contains (spans sizes s g (bind d e.name e.bound vs) (d + 1) e.first pc' e.tree) y → P y) × AtTag l.world (record q { pc = pc' }) m c file line (tag s.table j) t

    abbrev InTable : Entry → Type 0
    InTable e = e.class.0 < length s.table

    -- The branches stand, with no mark in the tests and the jumps, and their spans are such.
    record ArmsAt (pc : ℕ) (es : List Entry) : Type 0 where
      lines : HasLines (whole l) pc (arms_lines (each arm_of es))
      free : AreArmsFree (marks l.watch) pc (each arm_of es)
      inside : (y : Span) → Contains (told pc es) y → P y

    -- the first of them
    record ArmAt (pc : ℕ) (e : Entry) : Type 0 where
      range : HasLines l.world pc (range_code s e.class (next_of e))
      body : HasLines (whole l) (pc + 16) (body_of e)
      turn : HasLines l.world (pc + 16 + sizes (body_of e)) (turn_lines end (next_of e))
      inside : (y : Span) → Contains (spans sizes s g (bind d e.name e.bound vs) (d + 1) e.first (pc + 16) e.tree) y → P y
      long : sizes (arm_of e).lines ≡ 16 + (sizes (body_of e) + 4)

    first_at : (pc : ℕ) (e : Entry) (es : List Entry) → ArmsAt pc (e ∷ es) → ArmAt pc e
    first_at pc e es at =
        let o = whole l in
        let body = body_of e in
        let turn = turn_lines end (next_of e) in
        let range = range_code s e.class (next_of e) in
        let rest = arms_lines (each arm_of es) in
        let a = range_sizes e in
        let b = turn_sizes e in
        let h0 : HasLines o pc (range ++ (body ++ turn)) = has_front o (range ++ (body ++ turn)) rest pc at.lines in
        let h2 : HasLines o (pc + 16) (body ++ turn) = has_back o range (body ++ turn) pc (pc + 16) (omega arith) h0 in
        let h3 : HasLines o (pc + 16 + sizes body) turn = has_back o body turn (pc + 16) (pc + 16 + sizes body) refl h2 in
        let size : sizes (range ++ (body ++ turn)) ≡ 16 + (sizes body + 4) = sizes_append o range (body ++ turn) ∙ (let u = sizes_append o body turn in omega arith) in
        let free = at.free in
        let mine = λ (x : ℕ). spans sizes s g (bind d e.name e.bound vs) (d + 1) e.first x e.tree in
        let same : pc + 16 ≡ pc + sizes range = omega arith in
        record {
          range = quiet l range pc (pc + 16) (omega arith) free.0 (has_front o range (body ++ turn) pc h0);
          body = has_front o body turn (pc + 16) h2;
          turn = quiet l turn (pc + 16 + sizes body) (pc + sizes (range ++ (body ++ turn))) (omega arith) (λ i even from to. free.1 i even (omega arith) to) h3;
          inside = λ y h. at.inside y (Contains-append_left (mine (pc + sizes range)) (told (pc + sizes (range ++ (body ++ turn))) es) y (subst (λ x. Contains (mine x) y) same h));
          long = size;
        }

    others_at : (pc : ℕ) (e : Entry) (es : List Entry) → ArmsAt pc (e ∷ es) → ArmsAt (pc + sizes (arm_of e).lines) es
    others_at pc e es at =
        let o = whole l in
        let mine = (arm_of e).lines in
        let rest = arms_lines (each arm_of es) in
        let range = range_code s e.class (next_of e) in
        record {
          lines = has_back o mine rest pc (pc + sizes mine) refl at.lines;
          free = at.free.2;
          inside = λ y h. at.inside y (Contains-append_right (spans sizes s g (bind d e.name e.bound vs) (d + 1) e.first (pc + sizes range) e.tree) (told (pc + sizes mine) es) y h);
        }

    tries_at : (es : List Entry) → AllByRecursion InTable es → (pc : ℕ) → ArmsAt pc es → (t : Machine) → AtTag l.world (record q { pc = pc }) m c file line (tag s.table j) t
        → Reaches l.world t 0 (4 * length es) (stands (Found (pc + sizes (arms_lines (each arm_of es))) (first_among (chain s.table j) es)))
    tries_at [] all pc stand t at = let z : pc ≡ pc + 0 = omega arith in done l.world 0 t _ (subst (λ x. AtTag l.world (record q { pc = x }) m c file line (tag s.table j) t) z at)
    tries_at (e ∷ es) all pc stand t at =
        let rest = arms_lines (each arm_of es) in
        let pc1 = pc + sizes (arm_of e).lines in
        let one = first_at pc e es stand in
        let long = one.long in
        let total = sizes_append l.world (arm_of e).lines rest in
        let placed = next_placed l.world (pc + 16 + sizes (body_of e)) e one.turn in
        let place : l.world.place (next_of e) ≡ pc1 = omega arith in
        let ends : pc1 + sizes rest ≡ pc + sizes ((arm_of e).lines ++ rest) = omega arith in
        by (among (chain s.table j) e.class) refl all.0 one place ends (λ u at1. tries_at es all.1 pc1 (others_at pc e es stand) u at1) at
      where
        by : (b : Truth) → among (chain s.table j) e.class ≡ b → e.class.0 < length s.table → ArmAt pc e
            → l.world.place (next_of e) ≡ pc + sizes (arm_of e).lines → pc + sizes (arm_of e).lines + sizes (arms_lines (each arm_of es)) ≡ pc + sizes (arms_lines (each arm_of (e ∷ es)))
            → ((u : Machine) → AtTag l.world (record q { pc = pc + sizes (arm_of e).lines }) m c file line (tag s.table j) u
            → Reaches l.world u 0 (4 * length es) (stands (Found (pc + sizes (arm_of e).lines + sizes (arms_lines (each arm_of es))) (first_among (chain s.table j) es))))
            → AtTag l.world (record q { pc = pc }) m c file line (tag s.table j) t
            → Reaches l.world t 0 (4 * suc (length es)) (stands (Found (pc + sizes (arms_lines (each arm_of (e ∷ es)))) (if b then Some e else first_among (chain s.table j) es)))
        by true f within one place ends more at =
            let fit = fits_tag s.table whole_table e.class j within j_in f in
            let low = tag_low s.table whole_table j j_in in
            let high = last_low s.table whole_table e.class within in
            next l.world t 4 0 (4 * suc (length es)) _ _
            (test_fits l.world file line (tag s.table j) (tag s.table e.class) (last_tag s.table e.class - tag s.table e.class + 1) (minus (tag s.table e.class)) (next_of e) (record q { pc = pc }) m c t one.range at
            (range_fits (tag s.table j) (tag s.table e.class) (last_tag s.table e.class) (omega arith) fit.0 fit.1 (omega arith)))
            (omega arith) (λ u there. done l.world 0 u _ (pc + 16, one.body, one.turn, one.inside, there))
        by false f within one place ends more at =
            let low = tag_low s.table whole_table j j_in in
            let high = last_low s.table whole_table e.class within in
            next l.world t 4 (4 * length es) (4 * suc (length es)) _ _
            (test_misses l.world file line (tag s.table j) (tag s.table e.class) (last_tag s.table e.class - tag s.table e.class + 1) (minus (tag s.table e.class)) (next_of e) (record q { pc = pc }) m c t one.range at
            (range_misses (tag s.table j) (tag s.table e.class) (last_tag s.table e.class) (omega arith) high.0 (omega arith) (other_tag s.table whole_table e.class j within j_in f)))
            (omega arith)
            (λ u there. subst (λ x. Reaches l.world u 0 (4 * length es) (stands (Found x (first_among (chain s.table j) es)))) ends
            (more u (subst (λ x. AtTag l.world (record q { pc = x }) m c file line (tag s.table j) u) place there)))

    pub tries : (es : List Entry) → AllByRecursion InTable es → (pc : ℕ) → HasLines (whole l) pc (arms_lines (each arm_of es)) → AreArmsFree (marks l.watch) pc (each arm_of es) → ((y : Span) → Contains (told pc es) y → P y)
        → (t : Machine) → AtTag l.world (record q { pc = pc }) m c file line (tag s.table j) t
        → Reaches l.world t 0 (4 * length es) (stands (Found (pc + sizes (arms_lines (each arm_of es))) (first_among (chain s.table j) es)))
    tries es all pc has free inside = tries_at es all pc (record { lines = has; free = free; inside = inside })
