-- The code generated for a case expression simulates its evaluation: unless a limit stops it, the machine reaches the value, state or error that the semantics
-- gives.
use Rattle.std.proofs.Common.{◌≡◌, ℕ, ◌+◌, ◌*◌, ◌<◌, ◌≤◌, List, [], ◌++◌, length, get_or, Option, Some, None, ap, sym, refl, subst, arith, inl, inr, ◌∷◌}
use Rattle.std.specs.Prelude.{Contains}
use Rattle.std.specs.List.{AllByRecursion}
use Rattle.mips_isa.specs.Bytes.{Bytes}
use Rattle.mips_isa.specs.Calls.{State as Machine}
use Rattle.mips_isa.specs.Lines.{Name, Line}
use Rattle.cool_syntax.specs.declared.place.Place.{Place}
use Rattle.cool_syntax.specs.Tree.{Tree, Cases, tree_size}
use Rattle.cool_syntax.specs.Tree as trees
use Rattle.cool_classes.specs.declared.class_id.ClassId.{ClassId}
use Rattle.cool_classes.specs.declared.class_id.Ty.{Ty}
use Rattle.cool_classes.specs.Chains.{Class}
use Rattle.cool_classes.specs.ClimbedChains.{chain}
use Rattle.cool_rules.specs.Conformance.{class_of as class_meant}
use Rattle.cool_rules.specs.Scopes.{Binding}
use Rattle.cool_rules.specs.Typing.{HaveBranches}
use Rattle.cool_runtime.specs.Reaches.{World}
use Rattle.cool_runtime.specs.Standing.{sizes}
use Rattle.cool_runtime.specs.Machines.{Pointers}
use Rattle.cool_runtime.specs.Routines.{push_lines}
use Rattle.cool_runtime.proofs.Pieces.{next, has_front}
use Rattle.cool_codegen.specs.Variables.{Named}
use Rattle.cool_codegen.specs.Arms.{arms_lines}
use Rattle.cool_codegen.specs.Asked.{integers_in, strings_in, integers_in_cases, strings_in_cases, file_of}
use Rattle.cool_codegen.specs.Code.{code, arms_code, file_label}
use Rattle.cool_codegen.specs.Pieces.{case_begin_lines, case_end_lines}
use Rattle.cool_meaning.specs.Values.{Value, Void, Int, Bool, Str, Obj, State, Environment, class_of}
use Rattle.cool_meaning.specs.Meters.{Error, CaseVoid, Computation, ◌>>=◌, give, stop, working, join, given}
use Rattle.cool_meaning.specs.Evaluation.{Call, Calls, Branch, class_or, nearest, take_branch, branch_of, branch_count, eval}
use Rattle.cool_meaning.specs.FittingValues.{Fits}
use Rattle.cool_meaning.proofs.FittingValues.{class_fits}
use Rattle.cool_meaning.specs.FittingValues as fitting
use Rattle.cool_meaning.proofs.MoreSteps.{after_of, stop_alike, give_alike}
use Rattle.cool_meaning.proofs.SoundParts.{AllCallsSound}
use Rattle.cool_simulation.specs.Loadings.{Loading, IsLoaded, constants, context, Watched, whole}
use Rattle.cool_simulation.specs.Pictures.{Map, Pic}
use Rattle.cool_simulation.specs.Simulation.{Begins, Done, Correct, Runs, Placed}
use Rattle.cool_simulation.specs.Visits.{Visits, Visit, behind, branch_begun, nearest_name}
use Rattle.cool_simulation.proofs.ground.EvaluationLater.{ComesLater, CallsLater, bind_later}
use Rattle.cool_simulation.proofs.ground.PartsOfRuns.{run_wider, Rest}
use Rattle.cool_simulation.proofs.ground.CodeOfParts.{Asks, asks_of, asks_front, asks_back, part_at, in_rest}
use Rattle.cool_simulation.proofs.ground.FirstParts.{rule_runs}
use Rattle.cool_simulation.proofs.forms.BranchOrder.{Entry, branch, entries, with_entries, first_among, nearest_is}
use Rattle.cool_simulation.proofs.forms.TagTests.{chain_all}
use Rattle.cool_simulation.proofs.forms.CaseLines.{case_finds_void}
use Rattle.cool_simulation.proofs.forms.CaseArms.{entries_many, with_entries_many, all_entries, told}
use Rattle.cool_simulation.proofs.forms.CaseEnds.{void_stops}
use Rattle.cool_simulation.proofs.forms.CaseParts.{BodiesCorrect, Good, all_good}
use Rattle.cool_simulation.proofs.forms.CaseBranches.{take_later, nearest_later}
use Rattle.cool_simulation.proofs.forms.CaseTaken.{taken_runs}
use Rattle.std.proofs.lemmas.List.Elements.{Contains-append_left, Contains-append_right}
use Rattle.lists.proofs.Numbers.{le_on}
use Rattle.cool_simulation.proofs.forms.CasePieces.{TestsAt, arms, case_size, end_of, sorted, tests_at, told_inside}
use Rattle.cool_simulation.proofs.forms.NamedBranches.{begun_by_name, name_of_first}
use Rattle.cool_simulation.proofs.ground.Passages.{passes}
use Rattle.cool_codegen.specs.Spans.{Span, span, spans}

-- a value is void, or has a class

void_or : (e : Error) (v : Value) → class_of v ≡ None → class_or e v ≡ stop e
void_or e Void h = refl
void_or e (Int n) h = absurd (cc)
void_or e (Bool x) h = absurd (cc)
void_or e (Str bytes) h = absurd (cc)
void_or e (Obj c i ls) h = absurd (cc)

void_pic : (w : World) (m : Bytes) (map : Map) (drawn gp a : ℕ) (v : Value) → class_of v ≡ None → Pic w m map drawn gp v a → a ≡ 0
void_pic w m map drawn gp a Void h pic = pic
void_pic w m map drawn gp a (Int n) h pic = absurd (cc)
void_pic w m map drawn gp a (Bool x) h pic = absurd (cc)
void_pic w m map drawn gp a (Str bytes) h pic = absurd (cc)
void_pic w m map drawn gp a (Obj c i ls) h pic = absurd (cc)

class_or_is : (e : Error) (v : Value) (c : ClassId) → class_of v ≡ Some c → class_or e v ≡ give c
class_or_is e Void c h = absurd (cc)
class_or_is e (Int n) c h = let same : Rattle.cool_classes.specs.Chains.class_number 2 ≡ c = cc in ap (λ (x : ClassId). give x) same
class_or_is e (Bool x) c h = let same : Rattle.cool_classes.specs.Chains.class_number 3 ≡ c = cc in ap (λ (x : ClassId). give x) same
class_or_is e (Str bytes) c h = let same : Rattle.cool_classes.specs.Chains.class_number 4 ≡ c = cc in ap (λ (x : ClassId). give x) same
class_or_is e (Obj d i ls) c h = let same : d ≡ c = cc in ap (λ (x : ClassId). give x) same

pub class_or_later : (e : Error) (v : Value) → ComesLater (class_or e v)
class_or_later e Void = record { later = λ s n. after_of (stop_alike {A = ClassId} e) s n }
class_or_later e (Int n) = record { later = λ s i. after_of (give_alike (Rattle.cool_classes.specs.Chains.class_number 2)) s i }
class_or_later e (Bool x) = record { later = λ s i. after_of (give_alike (Rattle.cool_classes.specs.Chains.class_number 3)) s i }
class_or_later e (Str bytes) = record { later = λ s i. after_of (give_alike (Rattle.cool_classes.specs.Chains.class_number 4)) s i }
class_or_later e (Obj c i ls) = record { later = λ s n. after_of (give_alike c) s n }

chain_some : (p : List Class) (c : ClassId) → 1 ≤ length (chain p c)
unfolding chain
chain_some p c = omega arith

times_more : (a n : ℕ) → 1 ≤ n → a ≤ a * n
times_more a n some = grind arith

module _ (l : Loading) (loaded : IsLoaded l) (calls : Calls) (begun_in : Call → Visits) (b : ℕ) (sound : AllCallsSound l.table calls b) (later : CallsLater calls) where
  -- the computation after the value of a case
  abbrev pub rest_of : Value → Environment → Place → Cases → Value → ClassId → Computation Value
  rest_of self env at cs v c = working (branch_count cs * length (chain l.table c)) (take_branch at c v (nearest l.table (branch_of l.table calls self env cs) (chain l.table c)))

  module _ (c : ClassId) (f : ℕ) (k : ClassId) (self : Value) (scope : List Binding) (vs : List Named) (env : Environment) (made : fitting.World) (d : ℕ) (end : Name)
      (q : Pointers) (m : Bytes) (map : Map) (st t1 : State) (u : Machine) (words pc1 : ℕ) (v : Value) (j : Done l (record q { pc = pc1 }) m map st words v t1 u)
      (begins : Begins l c k self scope vs env made d (record q { pc = pc1; gp = j.gp; acc = j.acc; ra = j.ra }) j.memory j.map' j.console t1 u)
      (at : Place) (named : Contains (constants l).strings (get_or l.files at.file [])) (small : at.line < 2147483648) (type : Ty) (fit : Fits l.table made v (class_meant k type))
      (cs : Cases) (k1 : ℕ) (ts : List Ty) (have : HaveBranches l.table c scope cs ts) (good : AllByRecursion (Good l loaded calls begun_in b c scope d) (with_entries l.table [] (entries l.table c k1 cs)))
      (stand : TestsAt l c f vs d end at (with_entries l.table [] (entries l.table c k1 cs)) pc1)
      (placed : (y : Span) → Contains (told (context l c f) (constants l) vs d end (pc1 + 28 + 20) (with_entries l.table [] (entries l.table c k1 cs))) y → Placed l c f y)
      (n : ℕ) (le : n ≤ b) (whole : ℕ)
      (watched : (x : Visit) → behind (class_or (CaseVoid at) v) (λ y. behind (given (nearest_name l.table calls begun_in cs (chain l.table y))) (λ name. branch_begun l.table calls begun_in c f self env k1 v name cs)) t1 n x → Watched l.watch x) where
    abbrev ordered : List Entry
    ordered = with_entries l.table [] (entries l.table c k1 cs)

    abbrev last : ℕ
    last = pc1 + 28 + 20 + sizes (arms l c f vs d end at ordered) + 8

    -- the claim for the computation after the class
    abbrev Goes : Computation ClassId → Type 0
    Goes Y = whole ≡ words + ((Y >>= rest_of self env at cs v) t1 n).words → Rest l q 16 words ((Y >>= rest_of self env at cs v) t1 n)
        → Runs l u n (64 * ((Y >>= rest_of self env at cs v) t1 n).work + 60) (Done l (record q { pc = last }) m map st whole) ((Y >>= rest_of self env at cs v) t1 n).outcome

    goes_void : class_of v ≡ None → Goes (stop (CaseVoid at))
    goes_void e sum rest =
        let w = l.world in
        let q1 : Pointers = record q { pc = pc1; gp = j.gp; acc = j.acc; ra = j.ra } in
        let from = begins.at.numbers.gp_from in
        passes l u 0 60 _
        (next w u 7 16 60 _ _
        (case_finds_void w (file_label (context l c f) (constants l) at) at.line q1 j.memory j.console u stand.begins j.at (omega arith)
        (void_pic w j.memory j.map' t1.drawn j.gp j.acc v e j.value)) (omega arith)
        (λ u1 g. void_stops l loaded j.memory j.map' t1 q1 from j.pictures at c f j.console u1 named small j.shows g))

    -- the case that the branch that evaluation takes is the first one that fits
    abbrev Takes : ClassId → Option Branch → Type 0
    Takes jc o = whole ≡ words + (0 + (take_branch at jc v o t1 n).words)
        → Rest l q 16 words (join 0 0 0 (working (branch_count cs * length (chain l.table jc)) (take_branch at jc v o) t1 n))
        → Runs l u n (64 * (0 + (branch_count cs * length (chain l.table jc) + (take_branch at jc v o t1 n).work)) + 60) (Done l (record q { pc = last }) m map st whole) (take_branch at jc v o t1 n).outcome

    takes_first : (jc : ClassId) → class_of v ≡ Some jc → jc.0 < length l.table → Fits l.table made v jc → Takes jc (branch l.table calls self env (first_among (chain l.table jc) ordered))
    takes_first jc e jc_in fits sum rest =
        let whole_table = loaded.buildable.typed.whole in
        let D = take_branch at jc v (branch l.table calls self env (first_among (chain l.table jc) ordered)) t1 n in
        let heap = rest.heap in
        let stack = rest.stack in
        let many = with_entries_many l.table [] (entries l.table c k1 cs) in
        let many' = entries_many l.table c k1 cs in
        let more = times_more (branch_count cs) (length (chain l.table jc)) (chain_some l.table jc) in
        run_wider l D.outcome u n (64 * (branch_count cs * length (chain l.table jc) + D.work) + 60) (64 * (0 + (branch_count cs * length (chain l.table jc) + D.work)) + 60) _ (omega arith)
        (taken_runs l loaded calls begun_in b later c f k self scope vs env made d end q m map st t1 u words pc1 v j begins at named small jc e jc_in fits ordered good n (branch_count cs * length (chain l.table jc)) whole le (omega arith) stand
        (record { heap = omega arith; stack = omega arith; way = rest.way }) (omega arith) placed
        (λ y is x h.
        let (name, near, there) = name_of_first l.table c calls begun_in whole_table.table cs k1 scope ts have jc jc_in (chain_all l.table whole_table jc jc_in) y is in
        watched x (
          jc,
          t1,
          n,
          ap (λ (D : Computation ClassId). (D t1 n).outcome) (class_or_is (CaseVoid at) v jc e),
          (
            name,
            t1,
            n,
            ap (λ (o : Option (List ℕ)). (given o t1 n).outcome) near,
            begun_by_name l.table c calls begun_in c f self env k1 v name cs t1 n x y there (length t1.store, record t1 { store = t1.store ++ v ∷ [] }, n, refl, h),
          ),
        )))

    goes_on : (jc : ClassId) → class_of v ≡ Some jc → Goes (give jc)
    goes_on jc e =
        let typed = loaded.buildable.typed in
        let (below, jc_in, fits) = class_fits l.table typed made v (class_meant k type) jc fit e in
        let nearest_one = nearest_is l.table typed.whole.table calls self env c cs k1 scope ts have jc jc_in (chain_all l.table typed.whole jc jc_in) in
        subst (λ (o : Option Branch). Takes jc o) (sym nearest_one) (takes_first jc e jc_in fits)

    pub follows : Goes (class_or (CaseVoid at) v)
    follows = by (class_of v) refl
      where
        by : (o : Option ClassId) → class_of v ≡ o → Goes (class_or (CaseVoid at) v)
        by None e = subst Goes (sym (void_or (CaseVoid at) v e)) (goes_void e)
        by (Some jc) e = subst Goes (sym (class_or_is (CaseVoid at) v jc e)) (goes_on jc e)

  pub case_correct : (at : Place) (t : Tree) (cs : Cases) → Correct l calls begun_in b t → BodiesCorrect l loaded calls begun_in b cs → Correct l calls begun_in b (trees.Case at t cs)
  case_correct at t cs correct bodies = record {
    runs = λ c f k self scope vs env made d first q m map console st s n type less begins (type1, ts, has, have, different, join) code_at room watched.
        let p = l.table in
        let o = whole l in
        let small = code_at.small in
        let ctx = context l c f in
        let tree = trees.Case at t cs in
        let end = end_of l c f vs d first q.pc at t cs in
        let lt = code ctx (constants l) vs d first t in
        let k1 = first + tree_size t in
        let es : List Entry = sorted l c f vs d first q.pc at t cs in
        let r1 : List Line = case_begin_lines (file_label ctx (constants l) at) at.line ++ (push_lines ++ (arms_lines (arms_code ctx (constants l) vs d k1 end [] cs) ++ case_end_lines end)) in
        let pc1 = q.pc + sizes lt in
        let goal = q.pc + sizes (lt ++ r1) in
        let own = span vs d first q.pc tree in
        let at_t = spans sizes ctx (constants l) vs d first q.pc t in
        let asks = asks_of l c f vs d first q.pc tree code_at in
        let it = integers_in t in
        let ic = integers_in_cases cs in
        let xt = strings_in l.files t in
        let xf = file_of l.files at in
        let xc = strings_in_cases l.files cs in
        let asks1 : Asks l ic (xf ++ xc) = asks_back l it ic xt (xf ++ xc) asks in
        let asks2 : Asks l ic xc = record { integers_there = asks1.integers_there; strings_there = λ bytes there. asks1.strings_there bytes (Contains-append_right xf xc bytes there) } in
        let named : Contains (constants l).strings (get_or l.files at.file []) = asks1.strings_there (get_or l.files at.file []) (Contains-append_left xf xc (get_or l.files at.file []) (0, omega arith, refl)) in
        let line = code_at.within.0.1 in
        let line_small : at.line < 2147483648 = omega arith in
        let good : AllByRecursion (Good l loaded calls begun_in b c scope d) es =
        all_entries (Good l loaded calls begun_in b c scope d) p [] (entries p c k1 cs) tt (all_good l loaded calls begun_in b c scope d k1 cs ts have asks2 code_at.within.2 (omega arith) bodies) in
        let most = (eval p calls self env tree st n).words in
        let L = Done l (record q { pc = goal }) m map st most in
        rule_runs l loaded calls begun_in b sound c f k self scope vs env made d first q m map console st s n less begins t type1 correct has
        (part_at l c f vs d first q.pc t (has_front o lt r1 q.pc code_at.lines) (asks_front l it ic xt (xf ++ xc) asks) code_at.within.1 (omega arith)
        (λ x h. code_at.spans x (in_rest own _ x (Contains-append_left at_t _ x h)))) (λ x h. watched x (inr (inl h)))
        (λ v. class_or (CaseVoid at) v >>= rest_of self env at cs v) L
        (λ v. bind_later (class_or_later (CaseVoid at) v) (λ c'. record { later = (take_later at c' v (nearest p (branch_of p calls self env cs) (chain p c')) (nearest_later p calls later self env cs (chain p c'))).later })) room
        (λ v t1 left u e j x sum rest.
        let F : Value → Computation Value = λ v'. class_or (CaseVoid at) v' >>= rest_of self env at cs v' in
        subst (λ (pc : ℕ). Runs l u left (64 * (F v t1 left).work + 60) (Done l (record q { pc = pc }) m map st most) (F v t1 left).outcome) (case_size l c f vs d first q.pc at t cs)
        (follows c f k self scope vs env x.made' d end q m map st t1 u _ pc1 v j x.begins at named line_small type1 x.value_fits cs k1 ts have good (tests_at l c f vs d first q.pc at t cs code_at)
        (λ y h. code_at.spans y (told_inside l c f vs d first q.pc at t cs y h)) left (le_on left n b x.fewer less) most (λ y h. watched y (inr (inr (v, t1, left, e, h)))) sum rest));
  }
