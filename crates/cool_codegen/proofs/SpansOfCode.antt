-- A property that holds for the code of an expression, and passes from lines to their parts, holds for the code of each span (the lines of one subexpression).
use Rattle.std.proofs.Common.{◌≡◌, ℕ, ◌+◌, List, [], ◌∷◌, ◌++◌, map as each, ap, refl, ◌∙◌, subst}
use Rattle.std.specs.Prelude.{if◌then◌else◌, codes, flat_map, Option, Some, None}
use Rattle.std.specs.List.{AllByRecursion}
use Rattle.cool_syntax.specs.declared.file_tree.Feature.{Feature}
use Rattle.cool_syntax.specs.declared.file_tree.Feature.TheVariants.{Method, Attribute}
use Rattle.cool_syntax.specs.Tree.{Tree, Trees, MaybeTree, Cases, Last, More, Without, With, NoCase, CaseOf, tree_size, maybe_size}
use Rattle.cool_syntax.specs.Tree as trees
use Rattle.cool_syntax.specs.NodeLists.{root}
use Rattle.mips_isa.specs.Lines.{Name, Line}
use Rattle.cool_classes.specs.declared.class_id.Ty.{Ty}
use Rattle.cool_classes.specs.declared.method.MethodRef.TheVariants.{User}
use Rattle.cool_rules.specs.Rules.{type_meant}
use Rattle.cool_runtime.specs.CodeOfCalls.{enter_lines}
use Rattle.cool_runtime.specs.Routines.{push_lines}
use Rattle.cool_layout.specs.Labels.{method_label}
use Rattle.cool_consts.specs.Constants.{Constants}
use Rattle.cool_codegen.specs.Arms.{Arm, arms_lines}
use Rattle.cool_codegen.specs.Code.{Context, code, arguments_code, items_code, initial_code, arms_code, file_label, label_at, range_code}
use Rattle.cool_codegen.specs.Features.{attributes_in, with_formals, feature_code, initial_value_code}
use Rattle.cool_codegen.specs.Pieces.{case_begin_lines, case_end_lines, mark_lines, test_lines, turn_lines}
use Rattle.cool_codegen.specs.Types.{class_meant, trees_count}
use Rattle.cool_codegen.specs.Variables.{Named, bind}
use Rattle.lists.proofs.AllItems.{all_append}
use Rattle.cool_codegen.proofs.ArmsInOrder.{all_put, arm_put}
use Rattle.cool_codegen.specs.Spans.{Span, code_of, spans, arguments_spans, items_spans, initial_spans, Spanned, with_branch, branches, along, initial_value_spans, feature_spans}

-- a property of lines from an address on, and with them of their parts
module _ (size : List Line → ℕ) (P : ℕ → List Line → Type 0)
    (front : (xs ys : List Line) (pc : ℕ) → P pc (xs ++ ys) → P pc xs)
    (back : (xs ys : List Line) (pc : ℕ) → P pc (xs ++ ys) → P (pc + size xs) ys)
    (s : Context) (g : Constants)
  where
    abbrev pub Stands : Span → Type 0
    Stands x = P x.from (code_of s g x)

    -- the spans of a branch, wherever it begins
    abbrev Fits : Spanned → Type 0
    Fits b = (pc : ℕ) → P pc b.arm.lines → AllByRecursion Stands (b.inside pc)

    -- parts one behind the other
    pub law_along : {X Y : Type 0} (Q : Y → Type 0) (code_at : X → List Line) (inside : ℕ → X → List Y) → ((pc : ℕ) (x : X) → P pc (code_at x) → AllByRecursion Q (inside pc x))
        → (pc : ℕ) (xs : List X) → P pc (flat_map code_at xs) → AllByRecursion Q (along size code_at inside pc xs)
    law_along Q code_at inside h pc [] has = tt
    law_along Q code_at inside h pc (x ∷ xs) has =
        let rest = flat_map code_at xs in
        all_append Q (inside pc x) _ (h pc x (front (code_at x) rest pc has)) (law_along Q code_at inside h (pc + size (code_at x)) xs (back (code_at x) rest pc has))

    laid : (bs : List Spanned) (pc : ℕ) → AllByRecursion Fits bs → P pc (arms_lines (each (λ (x : Spanned). x.arm) bs)) → AllByRecursion Stands (along size (λ (b : Spanned). b.arm.lines) (λ pc b. b.inside pc) pc bs)
    laid [] pc h has = tt
    laid (b ∷ bs) pc h has =
        let rest = arms_lines (each (λ (x : Spanned). x.arm) bs) in
        all_append Stands (b.inside pc) _ (h.0 pc (front b.arm.lines rest pc has)) (laid bs (pc + size b.arm.lines) h.1 (back b.arm.lines rest pc has))

    -- the branches of a case are those of its code
    arms_are : (vs : List Named) (d k : ℕ) (end : Name) (before : List Spanned) (cs : Cases)
        → arms_code s g vs d k end (each (λ (x : Spanned). x.arm) before) cs ≡ each (λ (x : Spanned). x.arm) (branches size s g vs d k end before cs)
    arms_are vs d k end before NoCase = refl
    arms_are vs d k end before (CaseOf at name declared t cs) =
        ap (λ (xs : List Arm). arms_code s g vs d (k + tree_size t) end xs cs) (arm_put before _) ∙ arms_are vs d (k + tree_size t) end (with_branch before _) cs

    mutual
      pub law_spans : (vs : List Named) (d k pc : ℕ) (t : Tree) → P pc (code s g vs d k t) → AllByRecursion Stands (spans size s g vs d k pc t)
      law_spans vs d k pc (trees.Id at name) has = (has, tt)
      law_spans vs d k pc (trees.leaf at form) has = (has, tt)
      law_spans vs d k pc (trees.Not at t) has = (has, law_spans vs d k pc t (front (code s g vs d k t) _ pc has))
      law_spans vs d k pc (trees.unary at form t) has = (has, law_spans vs d k pc t (front (code s g vs d k t) _ pc has))
      law_spans vs d k pc (trees.Dispatch at t name ts) has =
          let args = arguments_code s g vs d (k + tree_size t) ts in
          let object = code s g vs (d + trees_count ts) k t in (
            has,
            all_append Stands (arguments_spans size s g vs d (k + tree_size t) pc ts) _
                (law_arguments vs d (k + tree_size t) pc ts (front args _ pc has))
                (law_spans vs (d + trees_count ts) k (pc + size args) t (front object _ _ (back args _ pc has))),
          )
      law_spans vs d k pc (trees.StaticDispatch at t class name ts) has =
          let args = arguments_code s g vs d (k + tree_size t) ts in
          let object = code s g vs (d + trees_count ts) k t in (
            has,
            all_append Stands (arguments_spans size s g vs d (k + tree_size t) pc ts) _
                (law_arguments vs d (k + tree_size t) pc ts (front args _ pc has))
                (law_spans vs (d + trees_count ts) k (pc + size args) t (front object _ _ (back args _ pc has))),
          )
      law_spans vs d k pc (trees.If at t y n) has =
          let one = code s g vs d k t in
          let two = code s g vs d (k + tree_size t) y in
          let three = code s g vs d (k + tree_size t + tree_size y) n in
          let test = test_lines (label_at s (codes "else") (root k (trees.If at t y n))) in
          let turn = turn_lines (label_at s (codes "end") (root k (trees.If at t y n))) (label_at s (codes "else") (root k (trees.If at t y n))) in
          let h2 = back test _ _ (back one _ pc has) in
          let h3 = back turn _ _ (back two _ _ h2) in (
            has,
            all_append Stands (spans size s g vs d k pc t) _ (law_spans vs d k pc t (front one _ pc has))
                (all_append Stands (spans size s g vs d (k + tree_size t) (pc + size one + size test) y) _
                (law_spans vs d (k + tree_size t) _ y (front two _ _ h2)) (law_spans vs d (k + tree_size t + tree_size y) _ n (front three _ _ h3))),
          )
      law_spans vs d k pc (trees.While at t b) has =
          let mark = mark_lines (label_at s (codes "loop") (root k (trees.While at t b))) in
          let one = code s g vs d k t in
          let test = test_lines (label_at s (codes "end") (root k (trees.While at t b))) in
          let two = code s g vs d (k + tree_size t) b in
          let h1 = back mark _ pc has in
          let h2 = back test _ _ (back one _ _ h1) in
          (has, all_append Stands (spans size s g vs d k (pc + size mark) t) _ (law_spans vs d k _ t (front one _ _ h1)) (law_spans vs d (k + tree_size t) _ b (front two _ _ h2)))
      law_spans vs d k pc (trees.binary at form a b) has =
          let one = code s g vs d k a in
          let two = code s g vs (d + 1) (k + tree_size a) b in (
            has,
            all_append Stands (spans size s g vs d k pc a) _ (law_spans vs d k pc a (front one _ pc has))
                (law_spans vs (d + 1) (k + tree_size a) _ b (front two _ _ (back push_lines _ _ (back one _ pc has)))),
          )
      law_spans vs d k pc (trees.Block at ts) has = (has, law_items vs d k pc ts has)
      law_spans vs d k pc (trees.Let at name declared o t) has =
          let type = type_meant s.table declared.name in
          let one = initial_code s g vs d k type o in
          let two = code s g (bind d name type vs) (d + 1) (k + maybe_size o) t in (
            has,
            all_append Stands (initial_spans size s g vs d k pc o) _ (law_initial vs d k pc type o (front one _ pc has))
                (law_spans (bind d name type vs) (d + 1) (k + maybe_size o) _ t (front two _ _ (back push_lines _ _ (back one _ pc has)))),
          )
      law_spans vs d k pc (trees.Case at t cs) has =
          let one = code s g vs d k t in
          let begin = case_begin_lines (file_label s g at) at.line in
          let end = label_at s (codes "end") (root k (trees.Case at t cs)) in
          let arms = arms_lines (arms_code s g vs d (k + tree_size t) end [] cs) in
          let h = front arms (case_end_lines end) _ (back push_lines _ _ (back begin _ _ (back one _ pc has))) in (
            has,
            all_append Stands (spans size s g vs d k pc t) _ (law_spans vs d k pc t (front one _ pc has))
                (laid (branches size s g vs d (k + tree_size t) end [] cs) (pc + size one + size begin + size push_lines)
                (law_branches vs d (k + tree_size t) end [] cs tt)
                (subst (λ (xs : List Arm). P (pc + size one + size begin + size push_lines) (arms_lines xs)) (arms_are vs d (k + tree_size t) end [] cs) h)),
          )

      law_arguments : (vs : List Named) (d k pc : ℕ) (ts : Trees) → P pc (arguments_code s g vs d k ts) → AllByRecursion Stands (arguments_spans size s g vs d k pc ts)
      law_arguments vs d k pc Last has = tt
      law_arguments vs d k pc (More t ts) has =
          let one = code s g vs d k t in
          all_append Stands (spans size s g vs d k pc t) _ (law_spans vs d k pc t (front one _ pc has))
          (law_arguments vs (d + 1) (k + tree_size t) _ ts (back push_lines _ _ (back one _ pc has)))

      law_items : (vs : List Named) (d k pc : ℕ) (ts : Trees) → P pc (items_code s g vs d k ts) → AllByRecursion Stands (items_spans size s g vs d k pc ts)
      law_items vs d k pc Last has = tt
      law_items vs d k pc (More t ts) has =
          let one = code s g vs d k t in
          all_append Stands (spans size s g vs d k pc t) _ (law_spans vs d k pc t (front one _ pc has)) (law_items vs d (k + tree_size t) _ ts (back one _ pc has))

      law_initial : (vs : List Named) (d k pc : ℕ) (type : Ty) (o : MaybeTree) → P pc (initial_code s g vs d k type o) → AllByRecursion Stands (initial_spans size s g vs d k pc o)
      law_initial vs d k pc type Without has = tt
      law_initial vs d k pc type (With t) has = law_spans vs d k pc t has

      law_branches : (vs : List Named) (d k : ℕ) (end : Name) (before : List Spanned) (cs : Cases) → AllByRecursion Fits before → AllByRecursion Fits (branches size s g vs d k end before cs)
      law_branches vs d k end before NoCase h = h
      law_branches vs d k end before (CaseOf at name declared t cs) h =
          let range = range_code s (class_meant s.table s.class declared.name) (label_at s (codes "next") (root k t)) in
          let scope = bind d name (type_meant s.table declared.name) vs in
          law_branches vs d (k + tree_size t) end (with_branch before _) cs
          (all_put Fits before _ h (λ pc has. law_spans scope (d + 1) k (pc + size range) t (front (code s g scope (d + 1) k t) _ _ (back range _ pc has))))

    law_initial_value : (pc : ℕ) (o : Option Tree) → P pc (initial_value_code s g o) → AllByRecursion Stands (initial_value_spans size s g pc o)
    law_initial_value pc None has = tt
    law_initial_value pc (Some t) has = law_spans (attributes_in s.table s.class) 0 0 pc t (front (code s g (attributes_in s.table s.class) 0 0 t) _ pc has)

    -- the spans of a feature
    pub law_feature : (pc : ℕ) (f : Feature) → P pc (feature_code s g f) → AllByRecursion Stands (feature_spans size s g pc f)
    law_feature pc (Method m) has =
        let mark = mark_lines (method_label s.table (User s.class s.feature)) in
        let vs = with_formals s.table m.formals (attributes_in s.table s.class) in
        law_spans vs 0 0 (pc + size mark + size enter_lines) m.body (front (code s g vs 0 0 m.body) _ _ (back enter_lines _ _ (back mark _ pc has)))
    law_feature pc (Attribute a) has = law_initial_value pc a.init has
