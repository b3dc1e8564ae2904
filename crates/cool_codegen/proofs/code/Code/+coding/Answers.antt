-- The mutually recursive functions that generate the code of an expression (`expression`, `control`, `unary`, `operands`, `arms`, `arm`) append the lines and
-- spans (ranges of lines) that `Numbered.antt` defines. Each step joins the lines, spans and constants that its parts add, and no part changes the context or
-- the scope.
use Rattle.std.proofs.Common.{◌≡◌, ◌+◌, ◌<◌, List, [], ◌++◌, ◌∷◌, length, map, drop, ap, sym, subst, ◌∙◌, append_assoc, rules, arith}
use Rattle.std.specs.Prelude.{codes}
use Rattle.std.specs.List.{AllByRecursion}
use Rattle.std.proofs.lemmas.List.{drop_all, drop_more}
use Rattle.std.proofs.lemmas.Grind.{common_steps}
use Rattle.std.specs.Global.{Vec}
use Rattle.std.proofs.lemmas.List.{length-map}
use Rattle.mips_isa.specs.Lines.{Line, lines_of}
use Rattle.mips_isa.specs.declared.line.Line as declared_line
use Rattle.cool_codegen.specs.declared.span.Span as declared_span
use Rattle.cool_syntax.specs.NodeLists.{all_trees, made as tree_made}
use Rattle.cool_consts.specs.Constants.{Constants}
use Rattle.cool_syntax.specs.declared.node.NodeBranch.{NodeBranch}
use Rattle.cool_classes.specs.ClimbedChains.{above}
use Rattle.cool_classes.specs.declared.class_id.ClassId.{ClassId}
use Rattle.cool_codegen.specs.Asked.{Keeps}
use Rattle.cool_codegen.specs.Spans.{Branch, with_branch}
use Rattle.cool_codegen.specs.Shown.{Shown, arms_spans, ended, made_of, noted, shown_of, whole, IsWithin}
use Rattle.cool_codegen.specs.Code.{file_name, int_code, label_at, range_code}
use Rattle.cool_runtime.specs.Routines.{push_lines}
use Rattle.cool_codegen.specs.Numbered.{asked_at, branch_lines, branch_sizes_at, branch_spans, branches_asked, branches_made, class_of_branch, lines_at, made_lines, node_asked, node_lines, node_size, node_spans, size_at, spans_at, with_bytes, with_file}
use Rattle.cool_codegen.specs.Pieces.{mark_lines, negate_lines, repeat_lines, test_lines, turn_lines}
use Rattle.cool_codegen.specs.CodeSettings.{context, typed_body}
use Rattle.cool_codegen.specs.declared.code_setting.CodeSetting.{CodeSetting}
use Rattle.cool_codegen.specs.declared.code_setting.Wanted.{Wanted}
use Rattle.cool_rules.specs.TypedParts.{AreBranches}
use Rattle.cool_codegen.specs.Variables.{bind, scope_of}
use Rattle.cool_codegen.proofs.NumbersAgree.{extends_same}
use Rattle.cool_codegen.proofs.SameSettings.{added_in, branch_added_in, in_begun}
use Rattle.cool_codegen.proofs.SpansByNumbers.{branches_within}
use Rattle.cool_codegen.proofs.LinesAlone.{same_lines}
use Rattle.cool_codegen.proofs.SpansNoted.{noted_there, put_made}
use Rattle.cool_codegen.proofs.code.Code.+coding.Goals as goal

pub arm-returns : goal.arm-returns
arm-returns t c =
    let want = c.args.self.now.setting.wanted in
    let s = context c.args.self.now.setting in
    let b = c.args.self.now.setting.body.now in
    let body = c.args.branch.now.body in
    let before = lines_of c.args.self.now.lines.items in
    let next = label_at s (codes "next") body in
    let here = c.deref.ensures.value ∙ c.in_ok-next.ensures in
    let there = c.deref-2.ensures.value ∙ c.in_ok-next.ensures in
    let turn = c.turn.ensures ∙ ap (turn_lines c.args.end.now) there in
    let code = lines_at s b c.args.self.now.consts (bind c.args.depth c.args.branch.now.name c.type_meant-bound.result c.args.self.now.variables) (c.args.depth + 1) body in
    record {
      made = record {
        setting = search rules;
        scope = search rules;
        lines =
            c.in_ok-write.ensures.written
            ∙ (λ i. c.in_ok-within.ensures.made.lines i ++ turn i)
            ∙ ap (λ xs. (xs ++ code) ++ turn_lines c.args.end.now next) (c.in_ok-try_class.ensures ∙ ap (λ n. before ++ range_code s c.args.class n) here)
            ∙ append_assoc (before ++ range_code s c.args.class next) code (turn_lines c.args.end.now next)
            ∙ append_assoc before (range_code s c.args.class next) (code ++ turn_lines c.args.end.now next)
            ∙ (λ i. before
            ++ (range_code s (c.requires.declared i) next
            ++ (lines_at s b c.args.self.now.consts (bind c.args.depth c.args.branch.now.name (c.type_meant-bound.ensures.meant i) c.args.self.now.variables) (c.args.depth + 1) body
            ++ turn_lines c.args.end.now next)));
        spans =
            c.in_ok-within.ensures.made.spans
            ∙ ap (λ (ls : List Line). map shown_of c.args.self.now.spans.items ++ spans_at want s b (bind c.args.depth c.args.branch.now.name c.type_meant-bound.result c.args.self.now.variables) (c.args.depth + 1) (length ls) body)
            (c.in_ok-try_class.ensures ∙ ap (λ n. before ++ range_code s c.args.class n) here)
            ∙ (λ i. map shown_of c.args.self.now.spans.items
            ++ spans_at want s b (bind c.args.depth c.args.branch.now.name (c.type_meant-bound.ensures.meant i) c.args.self.now.variables) (c.args.depth + 1) (length (before ++ range_code s (c.requires.declared i) next)) body);
        asked = search rules;
        more_integers = search rules;
        more_strings = search rules;
        kept = search rules;
      };
    }

pub unary-returns-in_ok-make_int-in-Neg : goal.unary-returns-in_ok-make_int-in-Neg
unary-returns-in_ok-make_int-in-Neg t c =
    let want = c.args.self.now.setting.wanted in
    let s = context c.args.self.now.setting in
    let b = c.args.self.now.setting.body.now in
    let before = lines_of c.args.self.now.lines.items in
    let at = c.in-Neg.at in
    let value = c.in-Neg.value in
    let old = c.args.self.now.consts in
    let now = c.make_int.new.consts in
    let same = c.expression-in-Neg.ensures.made.setting in
    let last : now ≡ with_bytes c.expression-in-Neg.new.self.consts (file_name (context c.expression-in-Neg.new.self.setting) at) = λ i. record { integers = c.make_int.ensures.integers i; strings = c.in_ok-make_int-in-Neg.ensures.strings i } in
    let asked : now ≡ with_file s.files (asked_at s.files b old value) at = last ∙ (λ i. with_file (context (same i)).files (c.in_ok-expression-in-Neg.ensures.made.asked i) at) in
    let part = lines_at s b old c.args.self.now.variables c.args.depth value in
    let made = int_code s (with_file s.files (asked_at s.files b old value) at) at c.args.id in
    let first = c.in_ok-write-in-Neg.ensures.written ∙ (λ i. c.in_ok-expression-in-Neg.ensures.made.lines i ++ c.negate.ensures i) in
    record {
      made = record {
        setting = same;
        scope = search rules;
        lines =
            c.in_ok-make_int-in-Neg.ensures.lines now (extends_same now)
            ∙ (λ i. first i ++ int_code (context (same i)) (asked i) at c.args.id)
            ∙ append_assoc (before ++ part) negate_lines made
            ∙ append_assoc before part (negate_lines ++ made)
            ∙ ap (λ n. before ++ node_lines s b old c.args.self.now.variables c.args.depth c.args.id n) (sym c.in-Neg.is);
        spans =
            c.in_ok-expression-in-Neg.ensures.made.spans
            ∙ ap (λ n. map shown_of c.args.self.now.spans.items ++ node_spans want s b old c.args.self.now.variables c.args.depth before c.args.id n) (sym c.in-Neg.is);
        asked = asked ∙ ap (node_asked s.files b old) (sym c.in-Neg.is);
        more_integers = first_of (search rules, grind (arith, common_steps));
        more_strings = first_of (search rules, grind (arith, common_steps));
        kept = search rules;
      };
    }

pub operands-returns : goal.operands-returns
operands-returns t c =
    let want = c.args.self.now.setting.wanted in
    let s = context c.args.self.now.setting in
    let b = c.args.self.now.setting.body.now in
    let before = lines_of c.args.self.now.lines.items in
    let one = c.in_ok-expression.ensures.made in
    let two = added_in (c.args.depth + 1) c.args.right _ _ _ _ _ _ _ _ _ one.setting one.asked one.scope c.in_ok-expression-2.ensures.made in
    let left = lines_at s b c.args.self.now.consts c.args.self.now.variables c.args.depth c.args.left in
    let right = lines_at s b (asked_at s.files b c.args.self.now.consts c.args.left) c.args.self.now.variables (c.args.depth + 1) c.args.right in
    let pushed = c.in_ok-write.ensures.written ∙ (λ i. one.lines i ++ c.push.ensures i) in
    record {
      made = record {
        setting = two.setting ∙ one.setting;
        scope = two.scope ∙ one.scope;
        lines = two.lines ∙ (λ i. pushed i ++ right) ∙ append_assoc (before ++ left) push_lines right ∙ append_assoc before left (push_lines ++ right);
        spans =
            two.spans
            ∙ (λ i. one.spans i ++ spans_at want s b c.args.self.now.variables (c.args.depth + 1) (length (pushed i)) c.args.right)
            ∙ append_assoc (map shown_of c.args.self.now.spans.items) (spans_at want s b c.args.self.now.variables c.args.depth (length before) c.args.left) _;
        asked = two.asked;
        more_integers = omega arith;
        more_strings = omega arith;
        kept = search (rules, one, two);
      };
    }

pub control-returns-in_ok-write-in-If-3 : goal.control-returns-in_ok-write-in-If-3
control-returns-in_ok-write-in-If-3 t c =
    let want = c.args.self.now.setting.wanted in
    let s = context c.args.self.now.setting in
    let b = c.args.self.now.setting.body.now in
    let old = c.args.self.now.consts in
    let vs = c.args.self.now.variables in
    let d = c.args.depth in
    let p = c.in-If.predicate in
    let y = c.in-If.yes in
    let n = c.in-If.no in
    let one = c.in_ok-expression-in-If.ensures.made in
    let two = added_in d y _ _ _ _ _ _ _ _ _ one.setting one.asked one.scope c.in_ok-expression-in-If-2.ensures.made in
    let three = added_in d n _ _ _ _ _ _ _ _ _ (two.setting ∙ one.setting) two.asked (two.scope ∙ one.scope) c.in_ok-expression-in-If-3.ensures.made in
    let before = lines_of c.args.self.now.lines.items in
    let other = label_at s (codes "else") c.args.id in
    let end = label_at s (codes "end") c.args.id in
    let lines_p = lines_at s b old vs d p in
    let lines_y = lines_at s b (asked_at s.files b old p) vs d y in
    let lines_n = lines_at s b (asked_at s.files b (asked_at s.files b old p) y) vs d n in
    let tests = c.test.ensures ∙ ap test_lines (c.deref.ensures.value ∙ c.in_ok-other-in-If.ensures) in
    let end_is = c.in_ok-end-in-If.ensures in
    let turns = c.turn.ensures ∙ (λ i. turn_lines ((c.deref-in-If.ensures.value ∙ end_is) i) ((c.deref-in-If-2.ensures.value ∙ c.in_ok-other-in-If.ensures) i)) in
    let marks = c.mark.ensures ∙ ap mark_lines (c.deref-in-If-3.ensures.value ∙ end_is) in
    let tested = c.in_ok-write-in-If.ensures.written ∙ (λ i. one.lines i ++ tests i) in
    let turned = c.in_ok-write-in-If-2.ensures.written ∙ (λ i. two.lines i ++ turns i) ∙ ap (λ xs. (xs ++ lines_y) ++ turn_lines end other) tested in
    let size : node_size b c.args.node.now ≡ size_at b p + size_at b y + size_at b n + 1 = ap (node_size b) c.in-If.is in
    record {
      made = record {
        setting = three.setting ∙ (two.setting ∙ one.setting);
        scope = three.scope ∙ (two.scope ∙ one.scope);
        lines =
            c.in_ok-write-in-If-3.ensures.written
            ∙ (λ i. three.lines i ++ marks i)
            ∙ ap (λ xs. (xs ++ lines_n) ++ mark_lines end) turned
            ∙ append_assoc ((((before ++ lines_p) ++ test_lines other) ++ lines_y) ++ turn_lines end other) lines_n (mark_lines end)
            ∙ append_assoc (((before ++ lines_p) ++ test_lines other) ++ lines_y) (turn_lines end other) (lines_n ++ mark_lines end)
            ∙ append_assoc ((before ++ lines_p) ++ test_lines other) lines_y (turn_lines end other ++ (lines_n ++ mark_lines end))
            ∙ append_assoc (before ++ lines_p) (test_lines other) (lines_y ++ (turn_lines end other ++ (lines_n ++ mark_lines end)))
            ∙ append_assoc before lines_p (test_lines other ++ (lines_y ++ (turn_lines end other ++ (lines_n ++ mark_lines end))))
            ∙ ap (λ k. before ++ node_lines s b old vs d c.args.id k) (sym c.in-If.is);
        spans =
            three.spans
            ∙ (λ i. (two.spans ∙ (λ j. one.spans j ++ spans_at want s b vs d (length (tested j)) y)) i ++ spans_at want s b vs d (length (turned i)) n)
            ∙ append_assoc (map shown_of c.args.self.now.spans.items ++ spans_at want s b vs d (length before) p) _ _
            ∙ append_assoc (map shown_of c.args.self.now.spans.items) (spans_at want s b vs d (length before) p) _
            ∙ ap (λ k. map shown_of c.args.self.now.spans.items ++ node_spans want s b old vs d before c.args.id k) (sym c.in-If.is);
        asked = three.asked ∙ ap (node_asked s.files b old) (sym c.in-If.is);
        more_integers = omega arith;
        more_strings = omega arith;
        kept = search (rules, one, two, three);
      };
    }

pub control-returns-in_ok-write-in-While-3 : goal.control-returns-in_ok-write-in-While-3
control-returns-in_ok-write-in-While-3 t c =
    let want = c.args.self.now.setting.wanted in
    let s = context c.args.self.now.setting in
    let b = c.args.self.now.setting.body.now in
    let old = c.args.self.now.consts in
    let vs = c.args.self.now.variables in
    let d = c.args.depth in
    let p = c.in-While.predicate in
    let a = c.in-While.body in
    let one = c.in_ok-expression-in-While.ensures.made in
    let two = added_in d a _ _ _ _ _ _ _ _ _ one.setting one.asked one.scope c.in_ok-expression-in-While-2.ensures.made in
    let before = lines_of c.args.self.now.lines.items in
    let begin = label_at s (codes "loop") c.args.id in
    let end = label_at s (codes "end") c.args.id in
    let lines_p = lines_at s b old vs d p in
    let lines_a = lines_at s b (asked_at s.files b old p) vs d a in
    let begin_is = c.in_ok-begin-in-While.ensures in
    let end_is = c.in_ok-end-in-While.ensures in
    let marks = c.mark-in-While.ensures ∙ ap mark_lines (c.deref-in-While.ensures.value ∙ begin_is) in
    let tests = c.test-in-While.ensures ∙ ap test_lines (c.deref-in-While-2.ensures.value ∙ end_is) in
    let repeats = c.repeat.ensures ∙ (λ i. repeat_lines ((c.deref-in-While-3.ensures.value ∙ begin_is) i) ((c.deref-in-While-4.ensures.value ∙ end_is) i)) in
    let marked = c.in_ok-write-in-While.ensures.written ∙ ap (λ xs. before ++ xs) marks in
    let tested = c.in_ok-write-in-While-2.ensures.written ∙ (λ i. one.lines i ++ tests i) ∙ ap (λ xs. (xs ++ lines_p) ++ test_lines end) marked in
    let size : node_size b c.args.node.now ≡ size_at b p + size_at b a + 1 = ap (node_size b) c.in-While.is in
    record {
      made = record {
        setting = two.setting ∙ one.setting;
        scope = two.scope ∙ one.scope;
        lines =
            c.in_ok-write-in-While-3.ensures.written
            ∙ (λ i. two.lines i ++ repeats i)
            ∙ ap (λ xs. (xs ++ lines_a) ++ repeat_lines begin end) tested
            ∙ append_assoc (((before ++ mark_lines begin) ++ lines_p) ++ test_lines end) lines_a (repeat_lines begin end)
            ∙ append_assoc ((before ++ mark_lines begin) ++ lines_p) (test_lines end) (lines_a ++ repeat_lines begin end)
            ∙ append_assoc (before ++ mark_lines begin) lines_p (test_lines end ++ (lines_a ++ repeat_lines begin end))
            ∙ append_assoc before (mark_lines begin) (lines_p ++ (test_lines end ++ (lines_a ++ repeat_lines begin end)))
            ∙ ap (λ k. before ++ node_lines s b old vs d c.args.id k) (sym c.in-While.is);
        spans =
            two.spans
            ∙ (λ i. (one.spans ∙ ap (λ (ls : List Line). map shown_of c.args.self.now.spans.items ++ spans_at want s b vs d (length ls) p) marked) i ++ spans_at want s b vs d (length (tested i)) a)
            ∙ append_assoc (map shown_of c.args.self.now.spans.items) _ _
            ∙ ap (λ k. map shown_of c.args.self.now.spans.items ++ node_spans want s b old vs d before c.args.id k) (sym c.in-While.is);
        asked = two.asked ∙ ap (node_asked s.files b old) (sym c.in-While.is);
        more_integers = omega arith;
        more_strings = omega arith;
        kept = search (rules, one, two);
      };
    }

pub arms-loop-branch-preserved : goal.arms-loop-branch-preserved
arms-loop-branch-preserved t c =
    let want = c.args.self.now.setting.wanted in
    let s = context c.args.self.now.setting in
    let b = c.args.self.now.setting.body.now in
    let d = c.args.depth in
    let end = c.args.end.now in
    let vs = c.args.self.now.variables in
    let old = c.loop-branch.self.consts in
    let before = map made_of c.loop-branch.sorted.items in
    let w = c.branch-item.result in
    let ws = c.args.branches.now in
    let i = c.loop-branch.branch-index in
    let rest = drop (i + 1) ws in
    let same = c.loop-branch.invariant.setting in
    let scope = c.loop-branch.invariant.scope in
    let made = branch_added_in d end w _ _ _ _ _ _ _ _ same scope c.in_ok-arm.ensures.made in
    let cut : drop i ws ≡ w ∷ rest = drop_more ws i w c.loop-branch-test.true ∙ ap (λ (y : NodeBranch). y ∷ rest) (sym c.branch-item.is) in
    let class : c.class_of-class.result ≡ class_of_branch s w = search rules in
    let high = c.depth.ensures ∙ ap (λ (k : ClassId). length (above s.table k)) class in
    let own : lines_of c.replace-own.result.items ≡ branch_lines s b old vs d end w = search (rules, made) in
    let shows : map shown_of c.replace-spans.result.items ≡ branch_spans want s b vs d [] w = search (rules, made) in
    let arm : Branch (List Shown) = record { arm = record { depth = length (above s.table (class_of_branch s w)); lines = branch_lines s b old vs d end w }; inside = branch_spans want s b vs d [] w } in
    let put = put_made c.loop-branch.sorted.items c.insert_arm.new.arms.items (record { depth = c.depth.result; lines = c.replace-own.result; spans = c.replace-spans.result }) c.in_ok-insert_arm.ensures ∙ (λ k. with_branch before (record { arm = record { depth = high k; lines = own k }; inside = shows k })) in
    let sizes : branch_sizes_at b (drop i ws) ≡ size_at b w.body + branch_sizes_at b rest = ap (branch_sizes_at b) cut in
    let deep = c.loop-branch.invariant.deep in
    let more_integers = c.loop-branch.invariant.more_integers in
    let more_strings = c.loop-branch.invariant.more_strings in
    record {
      setting = made.setting ∙ same;
      scope = made.scope ∙ scope;
      kept = search (rules, made);
      lines = search rules;
      spans = search rules;
      made = (λ k. branches_made want s b (made.asked k) vs d end (put k) rest) ∙ sym (ap (branches_made want s b old vs d end before) cut) ∙ c.loop-branch.invariant.made;
      asked = (λ k. branches_asked s.files b (made.asked k) rest) ∙ sym (ap (branches_asked s.files b old) cut) ∙ c.loop-branch.invariant.asked;
      deep = omega arith;
      more_integers = omega arith;
      more_strings = omega arith;
      parts = (subst (AreBranches (typed_body c.args.self.now.setting) (scope_of vs)) cut c.loop-branch.invariant.parts).1;
      places = first_of (search rules, grind (arith, common_steps));
      below = (subst (AllByRecursion (λ branch. branch.body.0 < c.args.id.0)) cut c.loop-branch.invariant.below).1;
    }

pub arms-add_arms-requires : goal.arms-add_arms-requires
arms-add_arms-requires t c =
    let want = c.args.self.now.setting.wanted in
    let s = context c.args.self.now.setting in
    let b = c.args.self.now.setting.body.now in
    let d = c.args.depth in
    let end = c.args.end.now in
    let vs = c.args.self.now.variables in
    let now = c.loop-branch.self.consts in
    let ws = c.args.branches.now in
    let i = c.loop-branch.branch-index in
    let none : drop i ws ≡ [] = drop_all i ws (let e = c.loop-branch-test.false in omega arith) in
    let made = sym (ap (branches_made want s b now vs d end (map made_of c.loop-branch.sorted.items)) none) ∙ c.loop-branch.invariant.made in
    record { within = subst (AllByRecursion IsWithin) (sym made) (branches_within want s b c.args.self.now.consts vs d end [] ws tt) }

pub arms-returns : goal.arms-returns
arms-returns t c =
    let want = c.args.self.now.setting.wanted in
    let s = context c.args.self.now.setting in
    let b = c.args.self.now.setting.body.now in
    let d = c.args.depth in
    let end = c.args.end.now in
    let vs = c.args.self.now.variables in
    let old = c.args.self.now.consts in
    let now = c.loop-branch.self.consts in
    let ws = c.args.branches.now in
    let i = c.loop-branch.branch-index in
    let none : drop i ws ≡ [] = drop_all i ws (let e = c.loop-branch-test.false in omega arith) in
    let made = sym (ap (branches_made want s b now vs d end (map made_of c.loop-branch.sorted.items)) none) ∙ c.loop-branch.invariant.made in
    let kept = ap (λ (v : Vec declared_line.Line). lines_of v.items) c.loop-branch.invariant.lines in
    let noted_before = ap (λ (v : Vec declared_span.Span). map shown_of v.items) c.loop-branch.invariant.spans in
    let sizes = ap (branch_sizes_at b) none in
    let more_integers = c.loop-branch.invariant.more_integers in
    let more_strings = c.loop-branch.invariant.more_strings in
    record {
      made = record {
        setting = c.loop-branch.invariant.setting;
        scope = c.loop-branch.invariant.scope;
        lines =
            c.in_ok-add_arms.ensures.lines
            ∙ (λ k. kept k ++ made_lines (made k))
            ∙ ap (λ xs. lines_of c.args.self.now.lines.items ++ xs) (same_lines want s b old vs d end ws);
        spans = c.in_ok-add_arms.ensures.spans ∙ (λ k. noted_before k ++ arms_spans (kept k) (made k));
        asked = sym (ap (branches_asked s.files b now) none) ∙ c.loop-branch.invariant.asked;
        more_integers = omega arith;
        more_strings = omega arith;
        kept = c.loop-branch.invariant.kept;
      };
    }

-- The span of the node is noted before its parts, and ends behind their lines.

pub expression-end_span-requires : goal.expression-end_span-requires
expression-end_span-requires t c =
    let same = c.in_ok-parts.ensures.made.setting ∙ c.begin_span.ensures.alone.setting in
    record {
      begun = λ spans. noted_there c.args.self.now.setting.wanted c.args.self.now.spans.items c.begin_span.new.self.spans.items c.parts.new.self.spans.items _ _ _
          c.in_ok-span.ensures.number (c.in_ok-span.ensures.spans []) c.in_ok-parts.ensures.made.spans (sym (ap (λ (s : CodeSetting). s.wanted) same) ∙ spans);
    }

pub expression-returns : goal.expression-returns
expression-returns t c =
    let want = c.args.self.now.setting.wanted in
    let s = context c.args.self.now.setting in
    let b = c.args.self.now.setting.body.now in
    let old = c.args.self.now.consts in
    let vs = c.args.self.now.variables in
    let d = c.args.depth in
    let id = c.args.id in
    let before = lines_of c.args.self.now.lines.items in
    let earlier = map shown_of c.args.self.now.spans.items in
    let n = c.node_of-node.result.now in
    let node = c.node_of-node.ensures in
    let alone = c.begin_span.ensures.alone in
    let last = c.end_span.ensures.alone in
    let made = in_begun d id n _ _ _ _ alone c.in_ok-parts.ensures.made in
    let wanted : c.parts.new.self.setting.wanted ≡ want = ap (λ (r : CodeSetting). r.wanted) (made.setting ∙ alone.setting) in
    let begun : Shown = whole vs d (length before) (length before) (tree_made (all_trees b) n) in
    let parts = node_spans want s b old vs d before id n in
    let written : lines_of c.parts.new.self.lines.items ≡ before ++ node_lines s b old vs d id n =
    made.lines ∙ ap (λ (v : Vec declared_line.Line). lines_of v.items ++ node_lines s b old vs d id n) alone.lines in
    let has =
    made.spans
    ∙ ap (λ xs. xs ++ parts) (c.in_ok-span.ensures.spans (all_trees b))
    ∙ append_assoc earlier (noted want (begun ∷ [])) parts
    ∙ ap (λ (v : Wanted). earlier ++ (noted v (begun ∷ []) ++ parts)) (sym wanted) in
    let size = node.size in
    let i0 = ap (λ (u : Constants). length u.integers) alone.consts in
    let i1 = ap (λ (u : Constants). length u.integers) last.consts in
    let i2 = made.more_integers in
    let s0 = ap (λ (u : Constants). length u.strings) alone.consts in
    let s1 = ap (λ (u : Constants). length u.strings) last.consts in
    let s2 = made.more_strings in
    record {
      made = record {
        setting = last.setting ∙ (made.setting ∙ alone.setting);
        scope = last.scope ∙ (made.scope ∙ alone.scope);
        lines = ap (λ (v : Vec declared_line.Line). lines_of v.items) last.lines ∙ written ∙ ap (λ xs. before ++ xs) (sym node.lines);
        spans =
            c.end_span.ensures.spans earlier parts begun has (length-map c.args.self.now.spans.items shown_of ∙ sym c.in_ok-span.ensures.number)
            ∙ (λ i. earlier ++ (noted (wanted i) (ended (length (written i)) begun ∷ []) ++ parts))
            ∙ ap (λ xs. earlier ++ xs) (sym (node.spans before));
        asked = last.consts ∙ made.asked ∙ sym node.asked;
        more_integers = omega arith;
        more_strings = omega arith;
        kept = subst (λ (u : Constants). Keeps old u) (sym last.consts) (subst (λ (u : Constants). Keeps u c.parts.new.self.consts) alone.consts made.kept);
      };
      some = node.some;
    }
