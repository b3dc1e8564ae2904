-- The code of a case stands in the text as consecutive pieces: the code of its value, the tests of void and of class tags, the branches, and the error exits.
-- No expression begins in the tests and exits.
use Rattle.std.proofs.Common.{◌≡◌, ℕ, ◌+◌, List, [], ◌++◌, map as each, ap, sym, refl, subst, arith}
use Rattle.std.specs.Prelude.{Contains, codes}
use Rattle.std.proofs.lemmas.List.Elements.{Contains-append_right}
use Rattle.mips_isa.specs.Lines.{Name, Line}
use Rattle.cool_syntax.specs.declared.place.Place.{Place}
use Rattle.cool_syntax.specs.Tree.{Tree, Cases, tree_size}
use Rattle.cool_syntax.specs.Tree as trees
use Rattle.cool_syntax.specs.NodeLists.{root}
use Rattle.cool_classes.specs.declared.class_id.ClassId.{ClassId}
use Rattle.cool_runtime.specs.Standing.{HasLines, sizes}
use Rattle.cool_runtime.specs.Routines.{push_lines}
use Rattle.cool_runtime.proofs.Pieces.{has_front, has_back, sizes_append}
use Rattle.cool_codegen.specs.Arms.{Arm, arms_lines}
use Rattle.cool_codegen.specs.Code.{code, arms_code, file_label, label_at}
use Rattle.cool_codegen.specs.Pieces.{case_begin_lines, case_end_lines}
use Rattle.cool_codegen.specs.Spans.{Span, Spanned, along, branches, span, spans}
use Rattle.cool_codegen.specs.Variables.{Named}
use Rattle.cool_simulation.specs.Loadings.{Loading, constants, context, marks, whole}
use Rattle.cool_simulation.specs.Quiet.{AreArmsFree}
use Rattle.cool_simulation.specs.Simulation.{CodeAt}
use Rattle.cool_simulation.proofs.ground.CodeOfParts.{in_rest, own_placed}
use Rattle.cool_simulation.proofs.ground.Passages.{quiet}
use Rattle.cool_simulation.proofs.forms.BranchOrder.{Entry, entries, with_entries}
use Rattle.cool_simulation.proofs.forms.CaseArms.{arm_of, arms_are, branches_are, spanned_of, told}

begin_sizes : (file : Name) (line : ℕ) → sizes (case_begin_lines file line) ≡ 28
unfolding case_begin_lines
begin_sizes file line = refl

end_sizes : (end : Name) → sizes (case_end_lines end) ≡ 8
unfolding case_end_lines
end_sizes end = refl

module _ (l : Loading) (c : ClassId) (f : ℕ) (vs : List Named) (d : ℕ) (end : Name) (at : Place) (es : List Entry) where
  abbrev pub arms : List Line
  arms = arms_lines (each (arm_of (context l c f) (constants l) vs d end) es)

  -- the pieces behind the code of the value, with these branches
  pub record TestsAt (pc : ℕ) : Type 0 where
    pub begins : HasLines l.world pc (case_begin_lines (file_label (context l c f) (constants l) at) at.line)
    pub pushes : HasLines l.world (pc + 28) push_lines
    pub bodies : HasLines (whole l) (pc + 28 + 20) arms
    pub free : AreArmsFree (marks l.watch) (pc + 28 + 20) (each (arm_of (context l c f) (constants l) vs d end) es)
    pub ends : HasLines l.world (pc + 28 + 20 + sizes arms) (case_end_lines end)

module _ (l : Loading) (c : ClassId) (f : ℕ) (vs : List Named) (d first pc : ℕ) (at : Place) (t : Tree) (cs : Cases) where
  abbrev pub end_of : Name
  end_of = label_at (context l c f) (codes "end") (root first (trees.Case at t cs))

  -- the branches in the order of their tests
  abbrev pub sorted : List Entry
  sorted = with_entries l.table [] (entries l.table c (first + tree_size t) cs)

  abbrev pub behind_value : ℕ
  behind_value = pc + sizes (code (context l c f) (constants l) vs d first t)

  abbrev begin : List Line
  begin = case_begin_lines (file_label (context l c f) (constants l) at) at.line

  abbrev written : List Arm
  written = arms_code (context l c f) (constants l) vs d (first + tree_size t) end_of [] cs

  abbrev in_order : List Arm
  in_order = each (arm_of (context l c f) (constants l) vs d end_of) sorted

  same_arms : written ≡ in_order
  same_arms = arms_are (context l c f) (constants l) vs d end_of cs (first + tree_size t) []

  -- the end of the case
  pub case_size : behind_value + 28 + 20 + sizes (arms l c f vs d end_of at sorted) + 8 ≡ pc + sizes (code (context l c f) (constants l) vs d first (trees.Case at t cs))
  case_size =
      let w = l.world in
      let lt = code (context l c f) (constants l) vs d first t in
      let lines = arms_lines written in
      let a0 = sizes_append w lt (begin ++ (push_lines ++ (lines ++ case_end_lines end_of))) in
      let a1 = sizes_append w begin (push_lines ++ (lines ++ case_end_lines end_of)) in
      let a2 = sizes_append w push_lines (lines ++ case_end_lines end_of) in
      let a3 = sizes_append w lines (case_end_lines end_of) in
      let a4 = begin_sizes (file_label (context l c f) (constants l) at) at.line in
      let a5 = end_sizes end_of in
      let a6 : sizes lines ≡ sizes (arms_lines in_order) = ap (λ (as' : List Arm). sizes (arms_lines as')) same_arms in
      let a7 : sizes push_lines ≡ 20 = refl in
      omega arith

  pub tests_at : CodeAt l c f vs d first pc (trees.Case at t cs) → TestsAt l c f vs d end_of at sorted behind_value
  tests_at code_at =
      let o = whole l in
      let pc1 = behind_value in
      let lt = code (context l c f) (constants l) vs d first t in
      let lines = arms_lines written in
      let ends = case_end_lines end_of in
      let long = begin_sizes (file_label (context l c f) (constants l) at) at.line in
      let short = end_sizes end_of in
      let total = case_size in
      let same : sizes lines ≡ sizes (arms_lines in_order) = ap (λ (as' : List Arm). sizes (arms_lines as')) same_arms in
      let last = pc + sizes (code (context l c f) (constants l) vs d first (trees.Case at t cs)) in
      let free = (own_placed l c f vs d first pc (trees.Case at t cs) code_at).quiet in
      let h1 : HasLines o pc1 (begin ++ (push_lines ++ (lines ++ ends))) = has_back o lt (begin ++ (push_lines ++ (lines ++ ends))) pc pc1 refl code_at.lines in
      let h2 : HasLines o (pc1 + 28) (push_lines ++ (lines ++ ends)) = has_back o begin (push_lines ++ (lines ++ ends)) pc1 (pc1 + 28) (omega arith) h1 in
      let h3 : HasLines o (pc1 + 28 + 20) (lines ++ ends) = has_back o push_lines (lines ++ ends) (pc1 + 28) (pc1 + 28 + 20) refl h2 in
      let h4 : HasLines o (pc1 + 28 + 20) lines = has_front o lines ends (pc1 + 28 + 20) h3 in
      let h5 : HasLines o (pc1 + 28 + 20 + sizes (arms_lines in_order)) ends = has_back o lines ends (pc1 + 28 + 20) (pc1 + 28 + 20 + sizes (arms_lines in_order)) (omega arith) h3 in
      let here : pc1 + sizes begin + sizes push_lines ≡ pc1 + 28 + 20 = omega arith in
      record {
        begins = quiet l begin pc1 (pc1 + 28) (omega arith) (λ i even from to. free.0 i even from (omega arith)) (has_front o begin (push_lines ++ (lines ++ ends)) pc1 h1);
        pushes = quiet l push_lines (pc1 + 28) (pc1 + 28 + 20) (omega arith) (λ i even from to. free.0 i even (omega arith) (omega arith)) (has_front o push_lines (lines ++ ends) (pc1 + 28) h2);
        bodies = subst (λ (as' : List Arm). HasLines o (pc1 + 28 + 20) (arms_lines as')) same_arms h4;
        free = subst (λ (as' : List Arm). AreArmsFree (marks l.watch) (pc1 + 28 + 20) as') same_arms (subst (λ x. AreArmsFree (marks l.watch) x written) here free.1);
        ends = quiet l ends (pc1 + 28 + 20 + sizes (arms_lines in_order)) last (omega arith) (λ i even from to. free.2 i even (omega arith) to) h5;
      }

  -- the spans of the branches are among those of the case
  pub told_inside : (y : Span) → Contains (told (context l c f) (constants l) vs d end_of (behind_value + 28 + 20) sorted) y → Contains (spans sizes (context l c f) (constants l) vs d first pc (trees.Case at t cs)) y
  told_inside y h =
      let among : ℕ → List Spanned → List Span = along sizes (λ (b : Spanned). b.arm.lines) (λ pc (b : Spanned). b.inside pc) in
      let bs = branches sizes (context l c f) (constants l) vs d (first + tree_size t) end_of [] cs in
      let start = behind_value + sizes begin + sizes push_lines in
      let same_bs : bs ≡ each (spanned_of (context l c f) (constants l) vs d end_of) sorted = branches_are (context l c f) (constants l) vs d end_of cs (first + tree_size t) [] in
      let long = begin_sizes (file_label (context l c f) (constants l) at) at.line in
      let here : behind_value + 28 + 20 ≡ start = omega arith in
      let xt = spans sizes (context l c f) (constants l) vs d first pc t in
      in_rest (span vs d first pc (trees.Case at t cs)) (xt ++ among start bs) y
      (Contains-append_right xt (among start bs) y (subst (λ x. Contains (among x bs) y) here (subst (λ z. Contains (among (behind_value + 28 + 20) z) y) (sym same_bs) h)))
