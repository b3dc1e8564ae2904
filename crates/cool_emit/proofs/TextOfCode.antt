-- The code of an expression consists of valid lines of text, if its constants are known, its variables are within the range of offsets, and its labels are
-- targets.
use Rattle.std.proofs.Common.{ℕ, ◌+◌, ◌<◌, ◌≤◌, List, [], ◌∷◌, ◌++◌, length, Bool, true, false, arith}
use Rattle.std.specs.Prelude.{codes, nat_lt, if◌then◌else◌}
use Rattle.std.specs.List.{AllByRecursion}
use Rattle.cool_syntax.specs.declared.TheConstants.{MOST_TOKENS}
use Rattle.cool_syntax.specs.Tree.{Tree, Trees, MaybeTree, Cases, Last, More, Without, With}
use Rattle.cool_syntax.specs.Tree.{NoCase, CaseOf, tree_size, trees_size, maybe_size, cases_size}
use Rattle.cool_syntax.specs.Tree as trees
use Rattle.cool_syntax.proofs.TreesHaveNodes.{one_le_size}
use Rattle.cool_syntax.specs.NodeLists.{root}
use Rattle.cool_syntax.specs.TreesWithinLimits.{IsTreeWithin, AreTreesWithin, IsMaybeWithin, AreCasesWithin}
use Rattle.mips_isa.specs.Lines.{Name, Line}
use Rattle.cool_classes.specs.declared.class_id.Ty.{Ty}
use Rattle.cool_classes.specs.ClimbedChains.{above}
use Rattle.cool_rules.specs.Conformance.{class_of}
use Rattle.cool_rules.specs.Rules.{type_meant}
use Rattle.cool_rules.specs.StaticTypes.{type_of}
use Rattle.cool_runtime.specs.Routines.{push_lines}
use Rattle.cool_consts.specs.Constants.{Constants}
use Rattle.cool_codegen.specs.Pieces.{test_lines, mark_lines, turn_lines, is_void_lines, complement_lines, negate_lines, case_begin_lines}
use Rattle.cool_codegen.specs.Variables.{Named, bind, scope_of}
use Rattle.cool_codegen.specs.Types.{class_meant, trees_count}
use Rattle.cool_codegen.specs.Arms.{Arm, with_arm, arms_lines}
use Rattle.cool_codegen.specs.Asked.{integers_in, integers_in_all, integers_in_maybe, integers_in_cases}
use Rattle.cool_codegen.specs.Asked.{strings_in, strings_in_all, strings_in_maybe, strings_in_cases}
use Rattle.cool_codegen.specs.Code.{Context, code, arguments_code, items_code, initial_code}
use Rattle.cool_codegen.specs.Code.{arms_code, label_at, file_label, range_code, assign_code}
use Rattle.cool_emit.specs.SoundLines.{AreText}
use Rattle.cool_emit.proofs.TextOfPieces.{AreTargets, text_of_push}
use Rattle.cool_emit.proofs.TextOfPieces.{text_of_pop, text_of_take, text_of_test, text_of_mark}
use Rattle.cool_emit.proofs.TextOfPieces.{text_of_turn, text_of_repeat, text_of_is_void, text_of_complement}
use Rattle.cool_emit.proofs.TextOfPieces.{text_of_negate, text_of_case_begin, text_of_case_end}
use Rattle.cool_emit.proofs.TextOfParts.{Serves, AreReached, AreNumbers, AreStrings, bound_reached, line_low}
use Rattle.cool_emit.proofs.TextOfParts.{target_of_mark, target_of_turn, target_of_repeat, target_of_case_end}
use Rattle.cool_emit.proofs.TextOfParts as parts
use Rattle.lists.proofs.AllItems.{all_append, all_left, all_right}

-- a property of all branches and of one that is inserted holds for all with it
all_with_arm : (P : Arm → Type 0) (arms : List Arm) (b : Arm) → AllByRecursion P arms → P b → AllByRecursion P (with_arm arms b)
all_with_arm P [] b all new = (new, tt)
all_with_arm P (a ∷ arms) b all new = by (nat_lt a.depth b.depth) (all_with_arm P arms b all.1 new)
  where
    by : (x : Bool) → AllByRecursion P (with_arm arms b) → AllByRecursion P (if x then b ∷ a ∷ arms else a ∷ with_arm arms b)
    by true h = (new, all)
    by false h = (all.0, h)

among_arms : (P : Arm → Type 0) (arms : List Arm) (b : Arm) → AllByRecursion P (with_arm arms b) → P b × AllByRecursion P arms
among_arms P [] b all = (all.0, tt)
among_arms P (a ∷ arms) b all = by (nat_lt a.depth b.depth) all (λ h. among_arms P arms b h)
  where
    by : (x : Bool) → AllByRecursion P (if x then b ∷ a ∷ arms else a ∷ with_arm arms b)
        → (AllByRecursion P (with_arm arms b) → P b × AllByRecursion P arms) → P b × AllByRecursion P (a ∷ arms)
    by true h more = (h.0, h.1)
    by false h more = let rest = more h.1 in (rest.0, (h.0, rest.1))

-- the lines of all branches, and those of each
all_lines : (P : Line → Type 0) (arms : List Arm) → AllByRecursion (λ a. AllByRecursion P a.lines) arms → AllByRecursion P (arms_lines arms)
all_lines P [] h = tt
all_lines P (a ∷ arms) h = all_append P a.lines (arms_lines arms) h.0 (all_lines P arms h.1)

each_lines : (P : Line → Type 0) (arms : List Arm) → AllByRecursion P (arms_lines arms)
    → AllByRecursion (λ a. AllByRecursion P a.lines) arms
each_lines P [] h = tt
each_lines P (a ∷ arms) h = (all_left P a.lines (arms_lines arms) h, each_lines P arms (all_right P a.lines (arms_lines arms) h))

-- no more trees than their nodes
pub count_low : (ts : Trees) → trees_count ts ≤ trees_size ts
count_low Last = omega arith
count_low (More t ts) = let one = one_le_size t in let rest = count_low ts in omega arith

module _ (target known : Name → Type 0) (s : Context) (g : Constants) (u : Serves target known s.table)
    (within : s.class.0 < length s.table)
    (files : ℕ) where
  -- parts of lines, and of the constants that are asked for

  both : (xs ys : List Line) → AreText target known xs → AreText target known ys → AreText target known (xs ++ ys)
  both xs ys h k = all_append _ xs ys h k

  left : (xs ys : List Line) → AreTargets target (xs ++ ys) → AreTargets target xs
  left xs ys m = all_left _ xs ys m

  right : (xs ys : List Line) → AreTargets target (xs ++ ys) → AreTargets target ys
  right xs ys m = all_right _ xs ys m

  numbers_left : (ns ms : List ℕ) → AreNumbers known g (ns ++ ms) → AreNumbers known g ns
  numbers_left ns ms h = all_left _ ns ms h

  numbers_right : (ns ms : List ℕ) → AreNumbers known g (ns ++ ms) → AreNumbers known g ms
  numbers_right ns ms h = all_right _ ns ms h

  strings_left : (bs cs : List (List ℕ)) → AreStrings known g (bs ++ cs) → AreStrings known g bs
  strings_left bs cs h = all_left _ bs cs h

  strings_right : (bs cs : List (List ℕ)) → AreStrings known g (bs ++ cs) → AreStrings known g cs
  strings_right bs cs h = all_right _ bs cs h

  -- the property of the lines of a branch
  abbrev IsTextArm : Arm → Type 0
  IsTextArm a = AreText target known a.lines

  abbrev IsTargetArm : Arm → Type 0
  IsTargetArm a = AreTargets target a.lines

  -- a property of all branches of a case holds for those before them
  arms_before : (P : Arm → Type 0) (cs : Cases) (vs : List Named) (d k : ℕ) (end : Name) (before : List Arm)
      → AllByRecursion P (arms_code s g vs d k end before cs) → AllByRecursion P before
  arms_before P NoCase vs d k end before all = all
  arms_before P (CaseOf at name declared t cs) vs d k end before all =
      (among_arms P before _ (arms_before P cs vs d (k + tree_size t) end _ all)).1

  mutual
    -- an expression, at a depth at which its variables on the stack can be reached
    pub text_of_code : (t : Tree) (vs : List Named) (d k : ℕ) → AreReached vs → d + tree_size t ≤ MOST_TOKENS → IsTreeWithin files t
        → AreNumbers known g (integers_in t) → AreStrings known g (strings_in s.files t)
        → AreTargets target (code s g vs d k t) → AreText target known (code s g vs d k t)
    text_of_code (trees.Id at name) vs d k r low w i j m = parts.text_of_name target known s u within vs name r
    text_of_code (trees.Assign at name t) vs d k r low w i j m =
        both (code s g vs d k t) _ (text_of_code t vs d k r (omega arith) w.2 i j (left (code s g vs d k t) (assign_code vs name) m))
        (parts.text_of_assign target known s u within vs name r)
    text_of_code (trees.Dispatch at t name ts) vs d k r low w i j m =
        let few = count_low ts in
        let js = strings_right (strings_in_all s.files ts) _ j in
        let rest = right (arguments_code s g vs d (k + tree_size t) ts) _ m in
        both (arguments_code s g vs d (k + tree_size t) ts) _
        (text_of_arguments ts vs d (k + tree_size t) r (omega arith) w.3 (numbers_left (integers_in_all ts) _ i)
        (strings_left (strings_in_all s.files ts) _ j) (left (arguments_code s g vs d (k + tree_size t) ts) _ m))
        (both (code s g vs (d + trees_count ts) k t) _
        (text_of_code t vs (d + trees_count ts) k r (omega arith) w.1 (numbers_right (integers_in_all ts) _ i)
        (strings_left (strings_in s.files t) _ js) (left (code s g vs (d + trees_count ts) k t) _ rest))
        (parts.text_of_slot target known s u within g files at
        (class_of s.class (type_of s.table s.class (scope_of vs) t)) name w.0
        (strings_right (strings_in s.files t) _ js).0))
    text_of_code (trees.StaticDispatch at t class name ts) vs d k r low w i j m =
        let few = count_low ts in
        let js = strings_right (strings_in_all s.files ts) _ j in
        let rest = right (arguments_code s g vs d (k + tree_size t) ts) _ m in
        both (arguments_code s g vs d (k + tree_size t) ts) _
        (text_of_arguments ts vs d (k + tree_size t) r (omega arith) w.4 (numbers_left (integers_in_all ts) _ i)
        (strings_left (strings_in_all s.files ts) _ j) (left (arguments_code s g vs d (k + tree_size t) ts) _ m))
        (both (code s g vs (d + trees_count ts) k t) _
        (text_of_code t vs (d + trees_count ts) k r (omega arith) w.1 (numbers_right (integers_in_all ts) _ i)
        (strings_left (strings_in s.files t) _ js) (left (code s g vs (d + trees_count ts) k t) _ rest))
        (parts.text_of_static target known s u within g files at class.name name w.0 (strings_right (strings_in s.files t) _ js).0))
    text_of_code (trees.If at t y n) vs d k r low w i j m =
        let is = numbers_right (integers_in t) _ i in
        let js = strings_right (strings_in s.files t) _ j in
        let other = label_at s (codes "else") (root k (trees.If at t y n)) in
        let end = label_at s (codes "end") (root k (trees.If at t y n)) in
        let m1 = right (code s g vs d k t) _ m in
        let m2 = right (test_lines other) _ m1 in
        let m3 = right (code s g vs d (k + tree_size t) y) _ m2 in
        let m4 = right (turn_lines end other) _ m3 in
        let m5 = right (code s g vs d (k + tree_size t + tree_size y) n) _ m4 in
        both (code s g vs d k t) _
        (text_of_code t vs d k r (omega arith) w.1 (numbers_left (integers_in t) _ i) (strings_left (strings_in s.files t) _ j)
        (left (code s g vs d k t) _ m))
        (both (test_lines other) _ (text_of_test target known other (target_of_turn target end other (left (turn_lines end other) _ m3)))
        (both (code s g vs d (k + tree_size t) y) _
        (text_of_code y vs d (k + tree_size t) r (omega arith) w.2 (numbers_left (integers_in y) _ is)
        (strings_left (strings_in s.files y) _ js)
        (left (code s g vs d (k + tree_size t) y) _ m2))
        (both (turn_lines end other) _ (text_of_turn target known end other (target_of_mark target end m5))
        (both (code s g vs d (k + tree_size t + tree_size y) n) _
        (text_of_code n vs d (k + tree_size t + tree_size y) r (omega arith) w.3 (numbers_right (integers_in y) _ is)
        (strings_right (strings_in s.files y) _ js) (left (code s g vs d (k + tree_size t + tree_size y) n) _ m4))
        (text_of_mark target known end)))))
    text_of_code (trees.While at t b) vs d k r low w i j m =
        let begin = label_at s (codes "loop") (root k (trees.While at t b)) in
        let end = label_at s (codes "end") (root k (trees.While at t b)) in
        let m1 = right (mark_lines begin) _ m in
        let m2 = right (code s g vs d k t) _ m1 in
        let m3 = right (test_lines end) _ m2 in
        let m4 = right (code s g vs d (k + tree_size t) b) _ m3 in
        both (mark_lines begin) _ (text_of_mark target known begin)
        (both (code s g vs d k t) _
        (text_of_code t vs d k r (omega arith) w.1 (numbers_left (integers_in t) _ i) (strings_left (strings_in s.files t) _ j)
        (left (code s g vs d k t) _ m1))
        (both (test_lines end) _ (text_of_test target known end (target_of_repeat target begin end m4))
        (both (code s g vs d (k + tree_size t) b) _
        (text_of_code b vs d (k + tree_size t) r (omega arith) w.2 (numbers_right (integers_in t) _ i)
        (strings_right (strings_in s.files t) _ j)
        (left (code s g vs d (k + tree_size t) b) _ m3))
        (text_of_repeat target known begin end (target_of_mark target begin (left (mark_lines begin) _ m))))))
    text_of_code (trees.Block at ts) vs d k r low w i j m = text_of_items ts vs d k r (omega arith) w.1 i j m
    text_of_code (trees.Let at name declared o t) vs d k r low w i j m =
        let type = type_meant s.table declared.name in
        let one = one_le_size t in
        let m1 = right (initial_code s g vs d k type o) _ m in
        let m2 = right push_lines _ m1 in
        both (initial_code s g vs d k type o) _
        (text_of_initial o type vs d k r (omega arith) w.3 (numbers_left (integers_in_maybe o) _ i)
        (strings_left (strings_in_maybe s.files o) _ j)
        (left (initial_code s g vs d k type o) _ m))
        (both push_lines _ (text_of_push target known u.ends_stack)
        (both (code s g (bind d name type vs) (d + 1) (k + maybe_size o) t) _
        (text_of_code t (bind d name type vs) (d + 1) (k + maybe_size o) (bound_reached d name type vs (omega arith) r) (omega arith) w.4
        (numbers_right (integers_in_maybe o) _ i) (strings_right (strings_in_maybe s.files o) _ j)
        (left (code s g (bind d name type vs) (d + 1) (k + maybe_size o) t) _ m2))
        (text_of_pop target known)))
    text_of_code (trees.Case at t cs) vs d k r low w i j m =
        let js = strings_right (strings_in s.files t) _ j in
        let end = label_at s (codes "end") (root k (trees.Case at t cs)) in
        let arms = arms_code s g vs d (k + tree_size t) end [] cs in
        let m1 = right (code s g vs d k t) _ m in
        let m2 = right (case_begin_lines (file_label s g at) at.line) _ m1 in
        let m3 = right push_lines _ m2 in
        let there = target_of_case_end target end (right (arms_lines arms) _ m3) in
        let one = one_le_size t in
        both (code s g vs d k t) _
        (text_of_code t vs d k r (omega arith) w.1 (numbers_left (integers_in t) _ i) (strings_left (strings_in s.files t) _ j)
        (left (code s g vs d k t) _ m))
        (both (case_begin_lines (file_label s g at) at.line) _
        (text_of_case_begin target known _ at.line js.0 (line_low files at w.0) u.ends_void)
        (both push_lines _ (text_of_push target known u.ends_stack)
        (both (arms_lines arms) _
        (all_lines _ arms
        (text_of_arms cs vs d (k + tree_size t) end [] r (omega arith) w.2 (numbers_right (integers_in t) _ i) js.1 there tt
        (each_lines _ arms (left (arms_lines arms) _ m3))))
        (text_of_case_end target known end u.ends_case))))
    text_of_code (trees.New at class) vs d k r low w i j m = parts.text_of_new target known s u within class.name
    text_of_code (trees.IsVoid at t) vs d k r low w i j m =
        let rest = right (code s g vs d k t) _ m in
        both (code s g vs d k t) _ (text_of_code t vs d k r (omega arith) w.1 i j (left (code s g vs d k t) _ m))
        (both is_void_lines _ (text_of_is_void target known) (parts.text_of_bool target known s u within _ (right is_void_lines _ rest)))
    text_of_code (trees.Arith at op a b) vs d k r low w i j m =
        let js = strings_right (strings_in s.files a) _ j in
        let one = one_le_size a in
        let m1 = right (code s g vs d k a) _ m in
        let m2 = right push_lines _ m1 in
        both (code s g vs d k a) _
        (text_of_code a vs d k r (omega arith) w.1 (numbers_left (integers_in a) _ i) (strings_left (strings_in s.files a) _ j)
        (left (code s g vs d k a) _ m))
        (both push_lines _ (text_of_push target known u.ends_stack)
        (both (code s g vs (d + 1) (k + tree_size a) b) _
        (text_of_code b vs (d + 1) (k + tree_size a) r (omega arith) w.2 (numbers_right (integers_in a) _ i)
        (strings_left (strings_in s.files b) _ js) (left (code s g vs (d + 1) (k + tree_size a) b) _ m2))
        (parts.text_of_arith target known s u within g files op at (root k (trees.Arith at op a b)) w.0
        (strings_right (strings_in s.files b) _ js)
        (right (code s g vs (d + 1) (k + tree_size a) b) _ m2))))
    text_of_code (trees.Neg at t) vs d k r low w i j m =
        let rest = right (code s g vs d k t) _ m in
        both (code s g vs d k t) _ (text_of_code t vs d k r (omega arith) w.1 i (strings_left (strings_in s.files t) _ j)
        (left (code s g vs d k t) _ m))
        (both negate_lines _ (text_of_negate target known)
        (parts.text_of_int target known s u within g files at (root k (trees.Neg at t)) w.0 (strings_right (strings_in s.files t) _ j).0
        (right negate_lines _ rest)))
    text_of_code (trees.Compare at op a b) vs d k r low w i j m =
        let one = one_le_size a in
        let m1 = right (code s g vs d k a) _ m in
        let m2 = right push_lines _ m1 in
        both (code s g vs d k a) _
        (text_of_code a vs d k r (omega arith) w.1 (numbers_left (integers_in a) _ i) (strings_left (strings_in s.files a) _ j)
        (left (code s g vs d k a) _ m))
        (both push_lines _ (text_of_push target known u.ends_stack)
        (both (code s g vs (d + 1) (k + tree_size a) b) _
        (text_of_code b vs (d + 1) (k + tree_size a) r (omega arith) w.2 (numbers_right (integers_in a) _ i)
        (strings_right (strings_in s.files a) _ j) (left (code s g vs (d + 1) (k + tree_size a) b) _ m2))
        (parts.text_of_compare target known s u within op (root k (trees.Compare at op a b))
        (right (code s g vs (d + 1) (k + tree_size a) b) _ m2))))
    text_of_code (trees.Not at t) vs d k r low w i j m =
        let rest = right (code s g vs d k t) _ m in
        both (code s g vs d k t) _ (text_of_code t vs d k r (omega arith) w.1 i j (left (code s g vs d k t) _ m))
        (both complement_lines _ (text_of_complement target known)
        (parts.text_of_bool target known s u within _ (right complement_lines _ rest)))
    text_of_code (trees.Int at value) vs d k r low w i j m = text_of_take target known _ i.0
    text_of_code (trees.Str at bytes) vs d k r low w i j m = text_of_take target known _ j.0
    text_of_code (trees.Bool at value) vs d k r low w i j m = parts.text_of_truth target known s u within value

    -- arguments, each a word deeper
    text_of_arguments : (ts : Trees) (vs : List Named) (d k : ℕ) → AreReached vs → d + trees_size ts ≤ MOST_TOKENS → AreTreesWithin files ts
        → AreNumbers known g (integers_in_all ts) → AreStrings known g (strings_in_all s.files ts)
        → AreTargets target (arguments_code s g vs d k ts) → AreText target known (arguments_code s g vs d k ts)
    text_of_arguments Last vs d k r low w i j m = tt
    text_of_arguments (More t ts) vs d k r low w i j m =
        let one = one_le_size t in
        let rest = right (code s g vs d k t) _ m in
        both (code s g vs d k t) _
        (text_of_code t vs d k r (omega arith) w.0 (numbers_left (integers_in t) _ i) (strings_left (strings_in s.files t) _ j)
        (left (code s g vs d k t) _ m))
        (both push_lines _ (text_of_push target known u.ends_stack)
        (text_of_arguments ts vs (d + 1) (k + tree_size t) r (omega arith) w.1 (numbers_right (integers_in t) _ i)
        (strings_right (strings_in s.files t) _ j) (right push_lines _ rest)))

    -- the items of a block
    text_of_items : (ts : Trees) (vs : List Named) (d k : ℕ) → AreReached vs → d + trees_size ts ≤ MOST_TOKENS → AreTreesWithin files ts
        → AreNumbers known g (integers_in_all ts) → AreStrings known g (strings_in_all s.files ts)
        → AreTargets target (items_code s g vs d k ts) → AreText target known (items_code s g vs d k ts)
    text_of_items Last vs d k r low w i j m = tt
    text_of_items (More t ts) vs d k r low w i j m =
        both (code s g vs d k t) _
        (text_of_code t vs d k r (omega arith) w.0 (numbers_left (integers_in t) _ i) (strings_left (strings_in s.files t) _ j)
        (left (code s g vs d k t) _ m))
        (text_of_items ts vs d (k + tree_size t) r (omega arith) w.1 (numbers_right (integers_in t) _ i)
        (strings_right (strings_in s.files t) _ j)
        (right (code s g vs d k t) _ m))

    -- an initial value, or none
    text_of_initial : (o : MaybeTree) (type : Ty) (vs : List Named) (d k : ℕ) → AreReached vs
        → d + maybe_size o ≤ MOST_TOKENS → IsMaybeWithin files o
        → AreNumbers known g (integers_in_maybe o) → AreStrings known g (strings_in_maybe s.files o)
        → AreTargets target (initial_code s g vs d k type o) → AreText target known (initial_code s g vs d k type o)
    text_of_initial Without type vs d k r low w i j m = parts.text_of_default target known s u within type
    text_of_initial (With t) type vs d k r low w i j m = text_of_code t vs d k r low w i j m

    -- the branches of a case, put among those before them
    text_of_arms : (cs : Cases) (vs : List Named) (d k : ℕ) (end : Name) (before : List Arm) → AreReached vs
        → d + 1 + cases_size cs ≤ MOST_TOKENS
        → AreCasesWithin files cs
        → AreNumbers known g (integers_in_cases cs) → AreStrings known g (strings_in_cases s.files cs) → target end
        → AllByRecursion IsTextArm before
        → AllByRecursion IsTargetArm (arms_code s g vs d k end before cs) → AllByRecursion IsTextArm (arms_code s g vs d k end before cs)
    text_of_arms NoCase vs d k end before r low w i j there done all = done
    text_of_arms (CaseOf at name declared t cs) vs d k end before r low w i j there done all =
        let next = label_at s (codes "next") (root k t) in
        let c = class_meant s.table s.class declared.name in
        let range = range_code s c next in
        let body = code s g (bind d name (type_meant s.table declared.name) vs) (d + 1) k t in
        let arm : Arm = record { depth = length (above s.table c); lines = range ++ (body ++ turn_lines end next) } in
        let m : AreTargets target (range ++ (body ++ turn_lines end next)) =
        (among_arms IsTargetArm before arm (arms_before IsTargetArm cs vs d (k + tree_size t) end (with_arm before arm) all)).0 in
        let rest = right range (body ++ turn_lines end next) m in
        let new : AreText target known (range ++ (body ++ turn_lines end next)) =
        both range _ (parts.text_of_range target known s u within declared.name next (target_of_turn target end next (right body _ rest)))
        (both body _
        (text_of_code t (bind d name (type_meant s.table declared.name) vs) (d + 1) k (bound_reached d name (type_meant s.table declared.name) vs (omega arith) r) (omega arith) w.3
        (numbers_left (integers_in t) _ i) (strings_left (strings_in s.files t) _ j) (left body _ rest))
        (text_of_turn target known end next there)) in
        text_of_arms cs vs d (k + tree_size t) end (with_arm before arm) r (omega arith) w.4 (numbers_right (integers_in t) _ i)
        (strings_right (strings_in s.files t) _ j) there (all_with_arm IsTextArm before arm done new) all
