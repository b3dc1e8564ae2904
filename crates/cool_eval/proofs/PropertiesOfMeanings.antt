-- A property that the combinators of computations preserve, such as unchanged input and output, holds for the rest of the evaluation from each configuration of
-- the stack machine.
use Rattle.std.proofs.Common.{ℕ, ◌*◌, ℤ, List, [], ◌∷◌, ◌++◌, length, Option, Some, None}
use Rattle.std.specs.Prelude.{Bool, true, false, if◌then◌else◌, bytes_eq, codes, int_div, ◌+ℤ◌, ◌-ℤ◌, ◌*ℤ◌, neg_ℤ, not}
use Rattle.cool_syntax.specs.declared.place.Place.{Place}
use Rattle.cool_syntax.specs.declared.operator.ArithOp.{ArithOp}
use Rattle.cool_syntax.specs.declared.operator.ArithOp.TheVariants.{Add, Sub, Mul, Div}
use Rattle.cool_syntax.specs.declared.operator.CompareOp.{CompareOp}
use Rattle.cool_syntax.specs.declared.operator.CompareOp.TheVariants.{Less, LessEqual, Equal}
use Rattle.cool_syntax.specs.Tree.{Tree, Trees, MaybeTree, Cases, Last, More, Without, With, NoCase, CaseOf}
use Rattle.cool_syntax.specs.Tree as trees
use Rattle.cool_classes.specs.declared.class_id.ClassId.{ClassId}
use Rattle.cool_classes.specs.declared.method.AttributeRef.{AttributeRef}
use Rattle.cool_classes.specs.Chains.{Class, name_of}
use Rattle.cool_classes.specs.ClimbedChains.{chain}
use Rattle.cool_rules.specs.Rules.{class_named}
use Rattle.cool_meaning.specs.Values.{Value, Void, Int, Bool as Truth, Str, Obj, class_of, default_of, Environment, location_of}
use Rattle.cool_meaning.specs.Numbers.{signed, fits, is_zero}
use Rattle.cool_meaning.specs.Meters.{Error, DispatchVoid, CaseVoid, NoBranch, DivisionByZero, Overflow, Computation, ◌>>=◌, ◌>>◌, give, stop, stuck, spend, rule, working, giving, holding, given, locate, load, store}
use Rattle.cool_meaning.specs.Lookups.{class_made, init_of, environment_of}
use Rattle.cool_meaning.specs.BasicMethods.{as_number, as_truth}
use Rattle.cool_meaning.specs.Evaluation.{Branch, class_or, value_named, assign, exact, arithmetic, compare, same, bytes_compared, is_void, loop, make, dispatch, or_else, nearest, take_branch, branch_of, branch_count, run_initial, run_initials, eval_all, eval_items, eval_init}
use Rattle.cool_meaning.proofs.RelatedEvaluation.{IsKept}
use Rattle.cool_eval.specs.StackMachine.{Frame, AssignTo, Choose, Turn, Again, Items, Bind, Pick, Fill, Argument, Receiver, TestVoid, Invert, Negate, Operand, Operate, Compared, CompareTo, Focus, Begin, Return, Start, inverted, negated, operated}
use Rattle.cool_eval.proofs.StepsMean.{calls, does, call_on, rest_of_call, after_frame, resume, focus_means}

-- A property of the words that leave the console, which goes from computations to what is put together of them.
pub record IsOfWords (P : (A : Type 0) → Computation A → Type 0) : Type 1 where
  pub of_give : {A : Type 0} (v : A) → P _ (give v)
  pub of_stop : {A : Type 0} (e : Error) → P A (stop e)
  pub of_stuck : {A : Type 0} → P A stuck
  pub of_bind : {A B : Type 0} {d : Computation A} {f : A → Computation B} → P _ d → ((v : A) → P _ (f v)) → P _ (d >>= f)
  pub of_then : {A B : Type 0} {d : Computation A} {f : Computation B} → P _ d → P _ f → P _ (d >> f)
  pub of_working : {A : Type 0} (n : ℕ) {d : Computation A} → P _ d → P _ (working n d)
  pub of_giving : {A : Type 0} (n : ℕ) {d : Computation A} → P _ d → P _ (giving n d)
  pub of_holding : {A : Type 0} (n : ℕ) {d : Computation A} → P _ d → P _ (holding n d)
  pub of_locate : (v : Value) → P _ (locate v)
  pub of_load : (l : ℕ) → P _ (load l)
  pub of_store : (l : ℕ) (v : Value) → P _ (store l v)

-- so it is of one that all words have
module _ (P : (A : Type 0) → Computation A → Type 0) (k : IsKept (λ A d d'. P A d)) where
  kept_bind : {A B : Type 0} {d : Computation A} {f : A → Computation B} → P _ d → ((v : A) → P _ (f v)) → P _ (d >>= f)
  kept_bind {d = d} {f = f} h g = k.bind_kept {d = d} {d' = d} {f = f} {f' = f} h g

  kept_then : {A B : Type 0} {d : Computation A} {f : Computation B} → P _ d → P _ f → P _ (d >> f)
  kept_then {d = d} {f = f} h g = k.then_kept {d = d} {d' = d} {f = f} {f' = f} h g

  kept_working : {A : Type 0} (n : ℕ) {d : Computation A} → P _ d → P _ (working n d)
  kept_working n {d = d} h = k.working_kept n {d = d} {d' = d} h

  kept_giving : {A : Type 0} (n : ℕ) {d : Computation A} → P _ d → P _ (giving n d)
  kept_giving n {d = d} h = k.giving_kept n {d = d} {d' = d} h

  kept_holding : {A : Type 0} (n : ℕ) {d : Computation A} → P _ d → P _ (holding n d)
  kept_holding n {d = d} h = k.holding_kept n {d = d} {d' = d} h

  pub words_kept : IsOfWords P
  words_kept = record {
    of_give = λ v. k.give_kept v;
    of_stop = λ e. k.stop_kept e;
    of_stuck = k.stuck_kept;
    of_bind = λ h g. kept_bind h g;
    of_then = λ h g. kept_then h g;
    of_working = λ n h. kept_working n h;
    of_giving = λ n h. kept_giving n h;
    of_holding = λ n h. kept_holding n h;
    of_locate = λ v. k.locate_kept v;
    of_load = λ l. k.load_kept l;
    of_store = λ l v. k.store_kept l v;
  }

-- Parts that make no call

module _ (P : (A : Type 0) → Computation A → Type 0) (w : IsOfWords P) where
  pub of_given : {A : Type 0} (o : Option A) → P _ (given o)
  of_given None = w.of_stuck
  of_given (Some v) = w.of_give v

  pub of_rule : {A : Type 0} {d : Computation A} → P _ d → P _ (rule d)
  of_rule h = w.of_working 1 (w.of_holding 1 h)

  pub of_if : {A : Type 0} (b : Bool) {d e : Computation A} → P _ d → P _ e → P _ (if b then d else e)
  of_if true h k = h
  of_if false h k = k

  pub of_number : (v : Value) → P _ (as_number v)
  of_number (Int i) = w.of_give i
  of_number _ = w.of_stuck

  pub of_truth : (v : Value) → P _ (as_truth v)
  of_truth (Truth b) = w.of_give b
  of_truth _ = w.of_stuck

  pub of_class : (e : Error) (v : Value) → P _ (class_or e v)
  of_class e Void = w.of_stop e
  of_class e (Int i) = of_given (class_of (Int i))
  of_class e (Truth b) = of_given (class_of (Truth b))
  of_class e (Str bytes) = of_given (class_of (Str bytes))
  of_class e (Obj c i ls) = w.of_give c

  pub of_named : (self : Value) (env : Environment) (name : List ℕ) → P _ (value_named self env name)
  of_named self env name =
      of_if (bytes_eq name (codes "self")) (w.of_give self) (w.of_bind (of_given (location_of env name)) (λ l. w.of_load l))

  pub of_assign : (env : Environment) (name : List ℕ) (v : Value) → P _ (assign env name v)
  of_assign env name v = w.of_bind (of_given (location_of env name)) (λ l. w.of_then (w.of_store l v) (w.of_give v))

  of_exact : (at : Place) (n : ℤ) → P _ (exact at n)
  of_exact at n = of_if (fits n) (w.of_giving 5 (w.of_give (Int n))) (w.of_stop (Overflow at))

  of_arithmetic : (op : ArithOp) (at : Place) (m n : ℤ) → P _ (arithmetic op at m n)
  of_arithmetic Add at m n = of_exact at (m +ℤ n)
  of_arithmetic Sub at m n = of_exact at (m -ℤ n)
  of_arithmetic Mul at m n = of_exact at (m *ℤ n)
  of_arithmetic Div at m n = of_if (is_zero n) (w.of_stop (DivisionByZero at)) (of_exact at (int_div m n))

  pub of_operated : (op : ArithOp) (at : Place) (v x : Value) → P _ (operated op at v x)
  of_operated op at v x = w.of_bind (of_number v) (λ m. w.of_bind (of_number x) (λ n. of_arithmetic op at m n))

  pub of_compare : (op : CompareOp) (v x : Value) → P _ (compare op v x)
  of_compare Less v x = w.of_bind (of_number v) (λ m. w.of_bind (of_number x) (λ n. w.of_give _))
  of_compare LessEqual v x = w.of_bind (of_number v) (λ m. w.of_bind (of_number x) (λ n. w.of_give _))
  of_compare Equal v x = w.of_working (bytes_compared v x) (w.of_give (Truth (same v x)))

  pub of_inverted : (v : Value) → P _ (inverted v)
  of_inverted v = w.of_bind (of_truth v) (λ b. w.of_give (Truth (not b)))

  pub of_negated : (at : Place) (v : Value) → P _ (negated at v)
  of_negated at v = w.of_bind (of_number v) (λ n. of_exact at (neg_ℤ n))

  -- Branches

  abbrev OfBranch : Option Branch → Type 0
  OfBranch None = Unit {0}
  OfBranch (Some b) = (v : Value) → P _ (b v)

  of_or_else : (a b : Option Branch) → OfBranch a → OfBranch b → OfBranch (or_else a b)
  of_or_else None b h k = k
  of_or_else (Some a) b h k = h

  of_nearest : (p : List Class) (f : List ℕ → Option Branch) → ((name : List ℕ) → OfBranch (f name)) → (cs : List ClassId)
      → OfBranch (nearest p f cs)
  of_nearest p f h [] = tt
  of_nearest p f h (c ∷ cs) = of_or_else (f (name_of p c)) (nearest p f cs) (h (name_of p c)) (of_nearest p f h cs)

  of_taken : (at : Place) (c : ClassId) (v : Value) (b : Option Branch) → OfBranch b → P _ (take_branch at c v b)
  of_taken at c v None h = w.of_stop (NoBranch at c)
  of_taken at c v (Some b) h = h v

  of_branch_if : (b : Bool) (f : Branch) (r : Option Branch) → ((v : Value) → P _ (f v)) → OfBranch r
      → OfBranch (if b then Some f else r)
  of_branch_if true f r h k = h
  of_branch_if false f r h k = k

-- The combinators that spend steps have it, too.
pub record IsOfSteps (p : List Class) (a : ℕ) (P : (A : Type 0) → Computation A → Type 0) : Type 1 where
  pub words : IsOfWords P
  pub of_loop : (test body : Computation Value) → P _ test → P _ body → P _ (loop test body)
  pub of_turn : (test body : Computation Value) → P _ test → P _ body → P _ (spend (working 1 (body >> loop test body)))
  pub of_dispatch : (at : Place) (c : ClassId) (name : List ℕ) (v : Value) (vs : List Value)
      → P _ (dispatch p (calls p a) at c name v vs)
  pub of_make : (o : Option ClassId) → P _ (make p (calls p a) o)

module _ (p : List Class) (a : ℕ) (P : (A : Type 0) → Computation A → Type 0) (h : IsOfSteps p a P) where
  -- Expressions

  of_call_on : (at : Place) (class : Option (List ℕ)) (name : List ℕ) (v : Value) (vs : List Value)
      → P _ (call_on p a at class name v vs)
  of_call_on at None name v vs =
      h.words.of_bind (of_class P h.words (DispatchVoid at) v) (λ c. h.of_dispatch at c name v vs)
  of_call_on at (Some class) name v vs =
      h.words.of_bind (of_class P h.words (DispatchVoid at) v) (λ d.
      h.words.of_bind (of_given P h.words (class_named p class)) (λ c. h.of_dispatch at c name v vs))

  mutual
    of_does : (self : Value) (env : Environment) (t : Tree) → P _ (does p a self env t)
    of_does self env (trees.Id at name) = of_rule P h.words (of_named P h.words self env name)
    of_does self env (trees.Int at i) = of_rule P h.words (h.words.of_give (Int (signed i)))
    of_does self env (trees.Str at bytes) = of_rule P h.words (h.words.of_give (Str bytes))
    of_does self env (trees.Bool at b) = of_rule P h.words (h.words.of_give (Truth b))
    of_does self env (trees.Assign at name t) =
        of_rule P h.words (h.words.of_bind (of_does self env t) (λ v. of_assign P h.words env name v))
    of_does self env (trees.Dispatch at t name ts) =
        of_rule P h.words (h.words.of_bind (of_all self env ts) (λ vs.
        h.words.of_holding (length vs) (h.words.of_bind (of_does self env t) (λ v. of_call_on at None name v vs))))
    of_does self env (trees.StaticDispatch at t class name ts) =
        of_rule P h.words (h.words.of_bind (of_all self env ts) (λ vs.
        h.words.of_holding (length vs) (h.words.of_bind (of_does self env t) (λ v. of_call_on at (Some class.name) name v vs))))
    of_does self env (trees.If at test first second) =
        of_rule P h.words (h.words.of_bind (of_does self env test) (λ v.
        h.words.of_bind (of_truth P h.words v) (λ b. of_if P h.words b (of_does self env first) (of_does self env second))))
    of_does self env (trees.While at test body) =
        of_rule P h.words (h.of_loop (does p a self env test) (does p a self env body) (of_does self env test) (of_does self env body))
    of_does self env (trees.Block at ts) = of_rule P h.words (of_items self env Void ts)
    of_does self env (trees.Let at name declared init body) =
        of_rule P h.words (h.words.of_bind (of_init self env declared.name init) (λ v.
        h.words.of_bind (h.words.of_locate v) (λ l. of_does self (record { name = name; location = l } ∷ env) body)))
    of_does self env (trees.Case at t cs) =
        of_rule P h.words (h.words.of_bind (of_does self env t) (λ v.
        h.words.of_bind (of_class P h.words (CaseVoid at) v) (λ c.
        h.words.of_working (branch_count cs * length (chain p c))
        (of_taken P h.words at c v _ (of_nearest P h.words p _ (of_branch self env cs) (chain p c))))))
    of_does self env (trees.New at class) = h.of_make (class_made p self class.name)
    of_does self env (trees.IsVoid at t) =
        of_rule P h.words (h.words.of_bind (of_does self env t) (λ v. h.words.of_give (Truth (is_void v))))
    of_does self env (trees.Not at t) =
        of_rule P h.words (h.words.of_bind (of_does self env t) (λ v. of_inverted P h.words v))
    of_does self env (trees.Neg at t) =
        of_rule P h.words (h.words.of_bind (of_does self env t) (λ v. of_negated P h.words at v))
    of_does self env (trees.Arith at op e f) =
        of_rule P h.words (h.words.of_bind (of_does self env e) (λ v.
        h.words.of_bind (of_does self env f) (λ x. of_operated P h.words op at v x)))
    of_does self env (trees.Compare at op e f) =
        of_rule P h.words (h.words.of_bind (of_does self env e) (λ v.
        h.words.of_bind (of_does self env f) (λ x. of_compare P h.words op v x)))

    of_all : (self : Value) (env : Environment) (ts : Trees) → P _ (eval_all p (calls p a) self env ts)
    of_all self env Last = h.words.of_give []
    of_all self env (More t ts) =
        h.words.of_bind (of_does self env t) (λ v.
        h.words.of_holding 1 (h.words.of_bind (of_all self env ts) (λ vs. h.words.of_give (v ∷ vs))))

    of_items : (self : Value) (env : Environment) (v : Value) (ts : Trees) → P _ (eval_items p (calls p a) self env v ts)
    of_items self env v Last = h.words.of_give v
    of_items self env v (More t ts) = h.words.of_bind (of_does self env t) (λ x. of_items self env x ts)

    of_init : (self : Value) (env : Environment) (type : List ℕ) (o : MaybeTree)
        → P _ (eval_init p (calls p a) self env type o)
    of_init self env type Without = h.words.of_give (default_of type)
    of_init self env type (With t) = of_does self env t

    of_branch : (self : Value) (env : Environment) (cs : Cases) (name : List ℕ)
        → OfBranch P h.words (branch_of p (calls p a) self env cs name)
    of_branch self env NoCase name = tt
    of_branch self env (CaseOf at x declared t cs) name =
        of_branch_if P h.words (bytes_eq declared.name name) _ _ (λ v.
        h.words.of_bind (h.words.of_locate v) (λ l. of_does self (record { name = x; location = l } ∷ env) t)) (of_branch self env cs name)

  of_pick : (self : Value) (env : Environment) (at : Place) (cs : Cases) (v : Value)
      → P _ (after_frame p a (Pick self env at cs) v)
  of_pick self env at cs v =
      h.words.of_bind (of_class P h.words (CaseVoid at) v) (λ c.
      h.words.of_working (branch_count cs * length (chain p c))
      (of_taken P h.words at c v _ (of_nearest P h.words p _ (of_branch self env cs) (chain p c))))

  of_initial : (self : Value) (l : ℕ) (o : Option Tree) → P _ (run_initial p (calls p a) self l o)
  of_initial self l None = h.words.of_give tt
  of_initial self l (Some t) =
      h.words.of_working 1 (h.words.of_bind (of_does self (environment_of p self) t) (λ v. h.words.of_store l v))

  of_initials : (self : Value) (rs : List AttributeRef) (ls : List ℕ) → P _ (run_initials p (calls p a) self rs ls)
  of_initials self [] ls = h.words.of_give self
  of_initials self (r ∷ rs) [] = h.words.of_stuck
  of_initials self (r ∷ rs) (l ∷ ls) = h.words.of_then (of_initial self l (init_of p r)) (of_initials self rs ls)

  -- Frames

  of_rest : (self : Value) (env : Environment) (vs : List Value) (es : Trees) (at : Place) (t : Tree)
      (class : Option (List ℕ)) (name : List ℕ) → P _ (rest_of_call p a self env vs es at t class name)
  of_rest self env vs es at t class name =
      h.words.of_bind (of_all self env es) (λ xs.
      h.words.of_holding (length xs) (h.words.of_bind (of_does self env t) (λ v. of_call_on at class name v (vs ++ xs))))

  of_frame : (f : Frame) (v : Value) → P _ (after_frame p a f v)
  of_frame (AssignTo env name) v = of_assign P h.words env name v
  of_frame (Choose self env first second) v =
      h.words.of_bind (of_truth P h.words v) (λ b. of_if P h.words b (of_does self env first) (of_does self env second))
  of_frame (Turn self env test body) v =
      h.words.of_bind (of_truth P h.words v) (λ b.
      of_if P h.words b (h.of_turn (does p a self env test) (does p a self env body) (of_does self env test) (of_does self env body)) (h.words.of_give Void))
  of_frame (Again self env test body) v =
      h.of_loop (does p a self env test) (does p a self env body) (of_does self env test) (of_does self env body)
  of_frame (Items self env es) v = of_items self env v es
  of_frame (Bind self env name e) v =
      h.words.of_bind (h.words.of_locate v) (λ l. of_does self (record { name = name; location = l } ∷ env) e)
  of_frame (Pick self env at cs) v = of_pick self env at cs v
  of_frame (Fill self l rs ls) v = h.words.of_then (h.words.of_store l v) (of_initials self rs ls)
  of_frame (Argument self env vs es at t class name) v = of_rest self env (vs ++ v ∷ []) es at t class name
  of_frame (Receiver at class name vs) v = of_call_on at class name v vs
  of_frame TestVoid v = h.words.of_give (Truth (is_void v))
  of_frame Invert v = of_inverted P h.words v
  of_frame (Negate at) v = of_negated P h.words at v
  of_frame (Operand self env at op e) v = h.words.of_bind (of_does self env e) (λ x. of_operated P h.words op at v x)
  of_frame (Operate at op v) x = of_operated P h.words op at v x
  of_frame (Compared self env op e) v = h.words.of_bind (of_does self env e) (λ x. of_compare P h.words op v x)
  of_frame (CompareTo op v) x = of_compare P h.words op v x

  of_resume : (fs : List Frame) (v : Value) → P _ (resume p a fs v)
  of_resume [] v = h.words.of_give v
  of_resume (f ∷ fs) v = h.words.of_bind (of_frame f v) (λ x. of_resume fs x)

  of_focus : (focus : Focus) → P _ (focus_means p a focus)
  of_focus (Begin self env t) = of_does self env t
  of_focus (Return v) = h.words.of_give v
  of_focus (Start self rs ls) = of_initials self rs ls

  -- the meaning of a configuration has the property
  pub of_configuration : (focus : Focus) (fs : List Frame) → P _ (focus_means p a focus >>= resume p a fs)
  of_configuration focus fs = h.words.of_bind (of_focus focus) (λ v. of_resume fs v)
