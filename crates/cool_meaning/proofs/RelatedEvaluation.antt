-- Each relation that the combinators of computations preserve holds between two evaluations of an expression if it holds between the calls that they make. So a
-- fact about all forms of expression need be shown only of those combinators.
use Rattle.std.proofs.Common.{ℕ, ◌+◌, ◌/◌, ℤ, pos, neg_ℤ, Bool, true, false, not, List, [], ◌∷◌, ◌++◌, length}
use Rattle.std.specs.Prelude.{Option, Some, None, if◌then◌else◌, ◌==◌, bytes_eq, codes, int_div, ◌+ℤ◌, ◌-ℤ◌, ◌*ℤ◌}
use Rattle.std.specs.Fmt.{signed_decimal}
use Rattle.cool_syntax.specs.declared.place.Place.{Place}
use Rattle.cool_classes.specs.declared.method.BasicMethod.{BasicMethod}
use Rattle.cool_classes.specs.declared.method.BasicMethod.TheVariants.{Abort, TypeName, Copy, OutString, OutInt, InString, InInt, Length, Concat, Substr}
use Rattle.cool_classes.specs.Chains.{Class, name_of}
use Rattle.cool_meaning.specs.Values.{Value, Void, Int, Bool as Truth, Str, Obj, class_of, Environment, location_of, default_of}
use Rattle.cool_meaning.specs.Meters.{Aborted, locate, load, store, Error, Computation, ◌>>=◌, ◌>>◌, give, spend, working, stop, stuck, rule, giving, holding, given}
use Rattle.cool_meaning.specs.BasicMethods.{as_number, as_truth, as_string, one, two, new_number, new_truth, new_string, draw, locate_all, load_all, copy, print, take_line, part, substring, basic}
use Rattle.cool_meaning.specs.Numbers.{signed, number_of, fits, is_zero}
use Rattle.cool_syntax.specs.declared.operator.ArithOp.{ArithOp}
use Rattle.cool_syntax.specs.declared.operator.ArithOp.TheVariants.{Add, Sub, Mul, Div}
use Rattle.cool_syntax.specs.declared.operator.CompareOp.{CompareOp}
use Rattle.cool_syntax.specs.declared.operator.CompareOp.TheVariants.{Less, LessEqual, Equal}
use Rattle.cool_syntax.specs.declared.file_tree.MethodDef.{MethodDef}
use Rattle.cool_syntax.specs.Tree.{Tree, Trees, MaybeTree, Cases, Last, More, Without, With, NoCase, CaseOf}
use Rattle.cool_classes.specs.declared.class_id.ClassId.{ClassId}
use Rattle.cool_classes.specs.declared.method.MethodRef.{MethodRef}
use Rattle.cool_classes.specs.declared.method.MethodRef.TheVariants.{Basic, User}
use Rattle.cool_classes.specs.declared.method.AttributeRef.{AttributeRef}
use Rattle.cool_classes.specs.Features.{implementation}
use Rattle.cool_classes.specs.ClimbedChains.{chain as chain_of}
use Rattle.cool_rules.specs.Rules.{class_named}
use Rattle.cool_meaning.specs.Lookups.{class_made, method_at, attributes, default_values, init_of, located, formal_names, locations_of, environment_of}
use Rattle.cool_meaning.specs.Evaluation.{Call, Body, Initials, Calls, class_or, value_named, assign, exact, arithmetic, compare, same, bytes_compared, is_void, loop, new_object, make, invoke, dispatch, Branch, or_else, nearest, take_branch, eval, eval_all, eval_items, eval_init, branch_of, run_method, run_initial, run_initials, run_call}
use Rattle.cool_syntax.specs.Tree as trees

-- A relation that the words of computations keep.
pub record IsKept (R : (A : Type 0) → Computation A → Computation A → Type 0) : Type 1 where
  pub give_kept : {A : Type 0} (v : A) → R _ (give v) (give v)
  pub stop_kept : {A : Type 0} (e : Error) → R A (stop e) (stop e)
  pub stuck_kept : {A : Type 0} → R A stuck stuck
  pub bind_kept : {A B : Type 0} {d d' : Computation A} {f f' : A → Computation B} → R _ d d' → ((v : A) → R _ (f v) (f' v)) → R _ (d >>= f) (d' >>= f')
  pub then_kept : {A B : Type 0} {d d' : Computation A} {f f' : Computation B} → R _ d d' → R _ f f' → R _ (d >> f) (d' >> f')
  pub working_kept : {A : Type 0} (n : ℕ) {d d' : Computation A} → R _ d d' → R _ (working n d) (working n d')
  pub giving_kept : {A : Type 0} (n : ℕ) {d d' : Computation A} → R _ d d' → R _ (giving n d) (giving n d')
  pub holding_kept : {A : Type 0} (n : ℕ) {d d' : Computation A} → R _ d d' → R _ (holding n d) (holding n d')
  pub draw_kept : R _ draw draw
  pub locate_kept : (v : Value) → R _ (locate v) (locate v)
  pub load_kept : (l : ℕ) → R _ (load l) (load l)
  pub store_kept : (l : ℕ) (v : Value) → R _ (store l v) (store l v)
  pub print_kept : (bytes : List ℕ) → R _ (print bytes) (print bytes)
  pub take_line_kept : R _ take_line take_line

-- A relation that holds after a step, and one that holds with it; and loops, which spend steps.
pub record IsSpent (R S : (A : Type 0) → Computation A → Computation A → Type 0) : Type 1 where
  pub before : IsKept R
  pub after : IsKept S
  pub spend_kept : {A : Type 0} {d d' : Computation A} → S _ d d' → R _ (spend d) (spend d')
  pub loop_kept : {test test' body body' : Computation Value} → R _ test test' → R _ body body' → R _ (loop test body) (loop test' body')

module _ (R : (A : Type 0) → Computation A → Computation A → Type 0) (k : IsKept R) where
  given_kept : {A : Type 0} (o : Option A) → R _ (given o) (given o)
  given_kept None = k.stuck_kept
  given_kept (Some v) = k.give_kept v

  rule_kept : {A : Type 0} {d d' : Computation A} → R _ d d' → R _ (rule d) (rule d')
  rule_kept h = k.working_kept 1 (k.holding_kept 1 h)

  if_kept : {A : Type 0} (b : Bool) {c c' d d' : Computation A} → R _ c c' → R _ d d' → R _ (if b then c else d) (if b then c' else d')
  if_kept true h g = h
  if_kept false h g = g

  pub number_kept : (v : Value) → R _ (as_number v) (as_number v)
  number_kept (Int n) = k.give_kept n
  number_kept _ = k.stuck_kept

  pub truth_kept : (v : Value) → R _ (as_truth v) (as_truth v)
  truth_kept (Truth b) = k.give_kept b
  truth_kept _ = k.stuck_kept

  string_kept : (v : Value) → R _ (as_string v) (as_string v)
  string_kept (Str bytes) = k.give_kept bytes
  string_kept _ = k.stuck_kept

  one_kept : (vs : List Value) → R _ (one vs) (one vs)
  one_kept [] = k.stuck_kept
  one_kept (v ∷ []) = k.give_kept v
  one_kept (v ∷ w ∷ vs) = k.stuck_kept

  two_kept : (vs : List Value) → R _ (two vs) (two vs)
  two_kept [] = k.stuck_kept
  two_kept (v ∷ []) = k.stuck_kept
  two_kept (v ∷ w ∷ []) = k.give_kept (v, w)
  two_kept (v ∷ w ∷ x ∷ vs) = k.stuck_kept

  pub new_number_kept : (n : ℤ) → R _ (new_number n) (new_number n)
  new_number_kept n = k.giving_kept 5 (k.give_kept (Int n))

  pub new_truth_kept : (b : Bool) → R _ (new_truth b) (new_truth b)
  new_truth_kept b = k.giving_kept 5 (k.give_kept (Truth b))

  pub new_string_kept : (bytes : List ℕ) → R _ (new_string bytes) (new_string bytes)
  new_string_kept bytes = k.working_kept (length bytes) (k.giving_kept (17 + (length bytes + 3) / 4) (k.give_kept (Str bytes)))

  pub locate_all_kept : (vs : List Value) → R _ (locate_all vs) (locate_all vs)
  locate_all_kept [] = k.give_kept []
  locate_all_kept (v ∷ vs) = k.bind_kept (k.locate_kept v) (λ l. k.bind_kept (locate_all_kept vs) (λ ls. k.give_kept (l ∷ ls)))

  load_all_kept : (ls : List ℕ) → R _ (load_all ls) (load_all ls)
  load_all_kept [] = k.give_kept []
  load_all_kept (l ∷ ls) = k.bind_kept (k.load_kept l) (λ v. k.bind_kept (load_all_kept ls) (λ vs. k.give_kept (v ∷ vs)))

  copy_kept : (p : List Class) (v : Value) → R _ (copy p v) (copy p v)
  copy_kept p Void = k.stuck_kept
  copy_kept p (Int n) = new_number_kept n
  copy_kept p (Truth b) = new_truth_kept b
  copy_kept p (Str bytes) = new_string_kept bytes
  copy_kept p (Obj c i ls) =
      k.working_kept _ (k.giving_kept _ (k.bind_kept (load_all_kept ls) (λ vs. k.bind_kept (locate_all_kept vs) (λ ks. k.bind_kept k.draw_kept (λ j. k.give_kept (Obj c j ks))))))

  substring_kept : (at : Place) (o : Option (List ℕ)) → R _ (substring at o) (substring at o)
  substring_kept at None = k.stop_kept _
  substring_kept at (Some bytes) = new_string_kept bytes

  pub basic_kept : (p : List Class) (m : BasicMethod) (at : Place) (v : Value) (vs : List Value) → R _ (basic p m at v vs) (basic p m at v vs)
  basic_kept p Abort at v vs = k.bind_kept (given_kept (class_of v)) (λ c. k.stop_kept (Aborted c))
  basic_kept p TypeName at v vs = k.bind_kept (given_kept (class_of v)) (λ c. k.give_kept (Str (name_of p c)))
  basic_kept p Copy at v vs = copy_kept p v
  basic_kept p OutString at v vs = k.bind_kept (one_kept vs) (λ w. k.bind_kept (string_kept w) (λ bytes. k.then_kept (k.working_kept (length bytes) (k.print_kept bytes)) (k.give_kept v)))
  basic_kept p OutInt at v vs = k.bind_kept (one_kept vs) (λ w. k.bind_kept (number_kept w) (λ n. k.then_kept (k.print_kept (signed_decimal n)) (k.give_kept v)))
  basic_kept p InString at v vs = k.bind_kept k.take_line_kept (λ bytes. new_string_kept bytes)
  basic_kept p InInt at v vs = k.bind_kept k.take_line_kept (λ bytes. new_number_kept (number_of bytes))
  basic_kept p Length at v vs = k.bind_kept (string_kept v) (λ bytes. new_number_kept (signed (length bytes)))
  basic_kept p Concat at v vs = k.bind_kept (string_kept v) (λ bytes. k.bind_kept (one_kept vs) (λ w. k.bind_kept (string_kept w) (λ more. new_string_kept (bytes ++ more))))
  basic_kept p Substr at v vs =
      k.bind_kept (string_kept v) (λ bytes. k.bind_kept (two_kept vs) (λ ws. k.bind_kept (number_kept ws.0) (λ i. k.bind_kept (number_kept ws.1) (λ l. substring_kept at (part bytes i l)))))

  -- Parts that make no call

  class_or_kept : (e : Error) (v : Value) → R _ (class_or e v) (class_or e v)
  class_or_kept e Void = k.stop_kept e
  class_or_kept e (Int n) = given_kept (class_of (Int n))
  class_or_kept e (Truth b) = given_kept (class_of (Truth b))
  class_or_kept e (Str bytes) = given_kept (class_of (Str bytes))
  class_or_kept e (Obj c i ls) = k.give_kept c

  named_kept : (self : Value) (env : Environment) (name : List ℕ) → R _ (value_named self env name) (value_named self env name)
  named_kept self env name = if_kept (bytes_eq name (codes "self")) (k.give_kept self) (k.bind_kept (given_kept (location_of env name)) (λ l. k.load_kept l))

  assign_kept : (env : Environment) (name : List ℕ) (v : Value) → R _ (assign env name v) (assign env name v)
  assign_kept env name v = k.bind_kept (given_kept (location_of env name)) (λ l. k.then_kept (k.store_kept l v) (k.give_kept v))

  exact_kept : (at : Place) (n : ℤ) → R _ (exact at n) (exact at n)
  exact_kept at n = if_kept (fits n) (new_number_kept n) (k.stop_kept _)

  arithmetic_kept : (op : ArithOp) (at : Place) (m n : ℤ) → R _ (arithmetic op at m n) (arithmetic op at m n)
  arithmetic_kept Add at m n = exact_kept at (m +ℤ n)
  arithmetic_kept Sub at m n = exact_kept at (m -ℤ n)
  arithmetic_kept Mul at m n = exact_kept at (m *ℤ n)
  arithmetic_kept Div at m n = if_kept (is_zero n) (k.stop_kept _) (exact_kept at (int_div m n))

  compare_kept : (op : CompareOp) (v w : Value) → R _ (compare op v w) (compare op v w)
  compare_kept Less v w = k.bind_kept (number_kept v) (λ m. k.bind_kept (number_kept w) (λ n. k.give_kept _))
  compare_kept LessEqual v w = k.bind_kept (number_kept v) (λ m. k.bind_kept (number_kept w) (λ n. k.give_kept _))
  compare_kept Equal v w = k.working_kept (bytes_compared v w) (k.give_kept (Truth (same v w)))

-- Calls

module _ (R S : (A : Type 0) → Computation A → Computation A → Type 0) (h0 : IsSpent R S) where
  module _ (p : List Class) (calls calls' : Calls) (same_calls : (call : Call) → S _ (calls call) (calls' call)) where
    object_kept : (c : ClassId) → S _ (new_object p calls c) (new_object p calls' c)
    object_kept c = h0.after.working_kept _ (h0.after.giving_kept _ (h0.after.bind_kept (locate_all_kept S h0.after (default_values p (attributes p c))) (λ ls. h0.after.bind_kept h0.after.draw_kept (λ i. h0.after.then_kept (same_calls (Initials c (Obj c i ls))) (h0.after.give_kept (Obj c i ls))))))

    make_kept : (o : Option ClassId) → R _ (make p calls o) (make p calls' o)
    make_kept None = h0.before.stuck_kept
    make_kept (Some c) =
        if_kept R h0.before (c.0 == 2) (rule_kept R h0.before (h0.spend_kept (new_number_kept S h0.after (pos 0))))
        (if_kept R h0.before (c.0 == 3) (rule_kept R h0.before (h0.spend_kept (new_truth_kept S h0.after false)))
        (if_kept R h0.before (c.0 == 4) (rule_kept R h0.before (h0.spend_kept (new_string_kept S h0.after [])))
        (h0.before.working_kept 1 (h0.before.holding_kept _ (h0.spend_kept (object_kept c))))))

    invoke_kept : (at : Place) (v : Value) (vs : List Value) (o : Option MethodRef) → S _ (invoke p calls at v vs o) (invoke p calls' at v vs o)
    invoke_kept at v vs None = h0.after.stuck_kept
    invoke_kept at v vs (Some (Basic m)) = basic_kept S h0.after p m at v vs
    invoke_kept at v vs (Some (User owner k)) = same_calls (Body owner k v vs)

    dispatch_kept : (at : Place) (c : ClassId) (name : List ℕ) (v : Value) (vs : List Value) → R _ (dispatch p calls at c name v vs) (dispatch p calls' at c name v vs)
    dispatch_kept at c name v vs = h0.spend_kept (h0.after.working_kept _ (invoke_kept at v vs (implementation p (chain_of p c) name)))

    -- Cases

    abbrev RelatedBranch : Option Branch → Option Branch → Type 0
    RelatedBranch None None = Unit {0}
    RelatedBranch None (Some b) = ⊥
    RelatedBranch (Some a) None = ⊥
    RelatedBranch (Some a) (Some b) = (v : Value) → R _ (a v) (b v)

    or_else_kept : (a a' b b' : Option Branch) → RelatedBranch a a' → RelatedBranch b b' → RelatedBranch (or_else a b) (or_else a' b')
    or_else_kept None None b b' h k = k
    or_else_kept None (Some a') b b' h k = absurd h
    or_else_kept (Some a) None b b' h k = absurd h
    or_else_kept (Some a) (Some a') b b' h k = h

    nearest_kept : (f g : List ℕ → Option Branch) → ((name : List ℕ) → RelatedBranch (f name) (g name)) → (cs : List ClassId) → RelatedBranch (nearest p f cs) (nearest p g cs)
    nearest_kept f g h [] = tt
    nearest_kept f g h (c ∷ cs) = or_else_kept (f (name_of p c)) (g (name_of p c)) (nearest p f cs) (nearest p g cs) (h (name_of p c)) (nearest_kept f g h cs)

    take_branch_kept : (at : Place) (c : ClassId) (v : Value) (a b : Option Branch) → RelatedBranch a b → R _ (take_branch at c v a) (take_branch at c v b)
    take_branch_kept at c v None None h = h0.before.stop_kept _
    take_branch_kept at c v None (Some b) h = absurd h
    take_branch_kept at c v (Some a) None h = absurd h
    take_branch_kept at c v (Some a) (Some b) h = h v

    branch_if : (b : Bool) (f g : Branch) (r r' : Option Branch) → ((v : Value) → R _ (f v) (g v)) → RelatedBranch r r' → RelatedBranch (if b then Some f else r) (if b then Some g else r')
    branch_if true f g r r' h k = h
    branch_if false f g r r' h k = k

    -- Expressions

    mutual
      pub eval_kept : (self : Value) (env : Environment) (t : Tree) → R _ (eval p calls self env t) (eval p calls' self env t)
      eval_kept self env (trees.Id at name) = rule_kept R h0.before (named_kept R h0.before self env name)
      eval_kept self env (trees.Int at n) = rule_kept R h0.before (h0.before.give_kept (Int (signed n)))
      eval_kept self env (trees.Str at bytes) = rule_kept R h0.before (h0.before.give_kept (Str bytes))
      eval_kept self env (trees.Bool at b) = rule_kept R h0.before (h0.before.give_kept (Truth b))
      eval_kept self env (trees.Assign at name t) = rule_kept R h0.before (h0.before.bind_kept (eval_kept self env t) (λ v. assign_kept R h0.before env name v))
      eval_kept self env (trees.Dispatch at t name ts) =
          rule_kept R h0.before (h0.before.bind_kept (all_kept self env ts) (λ vs. h0.before.holding_kept _ (h0.before.bind_kept (eval_kept self env t) (λ v. h0.before.bind_kept (class_or_kept R h0.before _ v) (λ c. dispatch_kept at c name v vs)))))
      eval_kept self env (trees.StaticDispatch at t class name ts) =
          rule_kept R h0.before (h0.before.bind_kept (all_kept self env ts) (λ vs. h0.before.holding_kept _ (h0.before.bind_kept (eval_kept self env t) (λ v. h0.before.bind_kept (class_or_kept R h0.before _ v) (λ d.
          h0.before.bind_kept (given_kept R h0.before (class_named p class.name)) (λ c. dispatch_kept at c name v vs))))))
      eval_kept self env (trees.If at test first second) =
          rule_kept R h0.before (h0.before.bind_kept (eval_kept self env test) (λ v. h0.before.bind_kept (truth_kept R h0.before v) (λ b. if_kept R h0.before b (eval_kept self env first) (eval_kept self env second))))
      eval_kept self env (trees.While at test body) = rule_kept R h0.before (h0.loop_kept (eval_kept self env test) (eval_kept self env body))
      eval_kept self env (trees.Block at ts) = rule_kept R h0.before (items_kept self env Void ts)
      eval_kept self env (trees.Let at name declared init body) =
          rule_kept R h0.before (h0.before.bind_kept (init_kept self env declared.name init) (λ v. h0.before.bind_kept (h0.before.locate_kept v) (λ l. eval_kept self (record { name = name; location = l } ∷ env) body)))
      eval_kept self env (trees.Case at t cs) =
          rule_kept R h0.before (h0.before.bind_kept (eval_kept self env t) (λ v. h0.before.bind_kept (class_or_kept R h0.before _ v) (λ c.
          h0.before.working_kept _ (take_branch_kept at c v _ _ (nearest_kept _ _ (branch_kept self env cs) (chain_of p c))))))
      eval_kept self env (trees.New at class) = make_kept (class_made p self class.name)
      eval_kept self env (trees.IsVoid at t) = rule_kept R h0.before (h0.before.bind_kept (eval_kept self env t) (λ v. h0.before.give_kept (Truth (is_void v))))
      eval_kept self env (trees.Not at t) = rule_kept R h0.before (h0.before.bind_kept (eval_kept self env t) (λ v. h0.before.bind_kept (truth_kept R h0.before v) (λ b. h0.before.give_kept (Truth (not b)))))
      eval_kept self env (trees.Neg at t) = rule_kept R h0.before (h0.before.bind_kept (eval_kept self env t) (λ v. h0.before.bind_kept (number_kept R h0.before v) (λ n. exact_kept R h0.before at (neg_ℤ n))))
      eval_kept self env (trees.Arith at op a b) =
          rule_kept R h0.before (h0.before.bind_kept (eval_kept self env a) (λ v. h0.before.bind_kept (eval_kept self env b) (λ w. h0.before.bind_kept (number_kept R h0.before v) (λ m. h0.before.bind_kept (number_kept R h0.before w) (λ n. arithmetic_kept R h0.before op at m n)))))
      eval_kept self env (trees.Compare at op a b) = rule_kept R h0.before (h0.before.bind_kept (eval_kept self env a) (λ v. h0.before.bind_kept (eval_kept self env b) (λ w. compare_kept R h0.before op v w)))

      all_kept : (self : Value) (env : Environment) (ts : Trees) → R _ (eval_all p calls self env ts) (eval_all p calls' self env ts)
      all_kept self env Last = h0.before.give_kept []
      all_kept self env (More t ts) = h0.before.bind_kept (eval_kept self env t) (λ v. h0.before.holding_kept 1 (h0.before.bind_kept (all_kept self env ts) (λ vs. h0.before.give_kept (v ∷ vs))))

      items_kept : (self : Value) (env : Environment) (v : Value) (ts : Trees) → R _ (eval_items p calls self env v ts) (eval_items p calls' self env v ts)
      items_kept self env v Last = h0.before.give_kept v
      items_kept self env v (More t ts) = h0.before.bind_kept (eval_kept self env t) (λ w. items_kept self env w ts)

      init_kept : (self : Value) (env : Environment) (type : List ℕ) (o : MaybeTree) → R _ (eval_init p calls self env type o) (eval_init p calls' self env type o)
      init_kept self env type Without = h0.before.give_kept (default_of type)
      init_kept self env type (With t) = eval_kept self env t

      branch_kept : (self : Value) (env : Environment) (cs : Cases) (name : List ℕ) → RelatedBranch (branch_of p calls self env cs name) (branch_of p calls' self env cs name)
      branch_kept self env NoCase name = tt
      branch_kept self env (CaseOf at x declared t cs) name =
          branch_if (bytes_eq declared.name name) _ _ _ _ (λ v. h0.before.bind_kept (h0.before.locate_kept v) (λ l. eval_kept self (record { name = x; location = l } ∷ env) t)) (branch_kept self env cs name)

    -- Bodies and initial values

    method_kept : (self : Value) (vs : List Value) (o : Option MethodDef) → R _ (run_method p calls self vs o) (run_method p calls' self vs o)
    method_kept self vs None = h0.before.stuck_kept
    method_kept self vs (Some m) = h0.before.bind_kept (locate_all_kept R h0.before vs) (λ ls. eval_kept self (located (formal_names m.formals) ls ++ environment_of p self) m.body)

    initial_kept : (self : Value) (l : ℕ) (o : Option Tree) → R _ (run_initial p calls self l o) (run_initial p calls' self l o)
    initial_kept self l None = h0.before.give_kept tt
    initial_kept self l (Some t) = h0.before.working_kept 1 (h0.before.bind_kept (eval_kept self (environment_of p self) t) (λ v. h0.before.store_kept l v))

    initials_kept : (self : Value) (rs : List AttributeRef) (ls : List ℕ) → R _ (run_initials p calls self rs ls) (run_initials p calls' self rs ls)
    initials_kept self [] ls = h0.before.give_kept self
    initials_kept self (a ∷ rs) [] = h0.before.stuck_kept
    initials_kept self (a ∷ rs) (l ∷ ls) = h0.before.then_kept (initial_kept self l (init_of p a)) (initials_kept self rs ls)

    pub call_kept : (call : Call) → R _ (run_call p calls call) (run_call p calls' call)
    call_kept (Body owner k self vs) = method_kept self vs (method_at p owner k)
    call_kept (Initials c self) = initials_kept self (attributes p c) (locations_of self)
