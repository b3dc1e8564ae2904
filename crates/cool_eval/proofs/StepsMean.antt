-- Each step of the stack machine preserves the outcome of the rest of the evaluation (the meaning of a configuration).
use Rattle.std.proofs.Common.{◌≡◌, ℕ, zero, suc, ◌+◌, ◌*◌, ◌<◌, ◌≤◌, max, pos, List, [], ◌∷◌, ◌++◌, length, Option, Some, None, Bool, true, false, ap, sym, ◌∙◌, refl, arith, append_assoc, append-nil}
use Rattle.std.specs.Prelude.{if◌then◌else◌, ◌==◌, bytes_eq, slice_set}
use Rattle.cool_syntax.specs.declared.place.Place.{Place}
use Rattle.cool_syntax.specs.declared.file_tree.MethodDef.{MethodDef}
use Rattle.cool_syntax.specs.Tree.{Tree, Trees, MaybeTree, Cases, Last, More, Without, With, NoCase, CaseOf}
use Rattle.cool_syntax.specs.Tree as trees
use Rattle.cool_classes.specs.declared.class_id.ClassId.{ClassId}
use Rattle.cool_classes.specs.declared.method.MethodRef.{MethodRef}
use Rattle.cool_classes.specs.declared.method.MethodRef.TheVariants.{Basic, User}
use Rattle.cool_classes.specs.declared.method.AttributeRef.{AttributeRef}
use Rattle.cool_classes.specs.Chains.{Class, name_of}
use Rattle.cool_classes.specs.Features.{implementation}
use Rattle.cool_classes.specs.ClimbedChains.{chain}
use Rattle.cool_rules.specs.Rules.{class_named}
use Rattle.cool_meaning.specs.Values.{Value, Void, Int, Bool as Truth, Str, Obj, State, Environment, default_of}
use Rattle.cool_meaning.specs.Meters.{Outcome, Val, On, Error, DispatchVoid, CaseVoid, Metered, Computation, join, seq_of, seq, ◌>>=◌, ◌>>◌, give, given, spend, rule, working, holding, locate, store}
use Rattle.cool_meaning.specs.Lookups.{class_made, method_at, attributes, default_values, init_of, located, formal_names, environment_of}
use Rattle.cool_meaning.specs.BasicMethods.{as_truth, basic, locate_all, draw, new_number, new_truth, new_string}
use Rattle.cool_meaning.specs.Evaluation.{Body, Initials, Calls, Branch, class_or, value_named, assign, compare, is_void, loop, or_else, nearest, take_branch, branch_of, branch_count, make, new_object, invoke, dispatch, run_method, run_initial, run_initials, eval, eval_all, eval_items, eval_init, calls_within}
use Rattle.cool_meaning.proofs.LevelsAgree.{Fewer, call_is, eval_agrees, loop_is}
use Rattle.cool_eval.specs.StackMachine.{Frame, AssignTo, Choose, Turn, Again, Items, Bind, Pick, Fill, Argument, Receiver, TestVoid, Invert, Negate, Operand, Operate, Compared, CompareTo, Focus, Begin, Return, Start, Next, Continue, Halt, after, begin_args, begin_body, begin_method, begin_call, class_called, call_class, begin_object, begin_new, start_value, start_values, choose, turn, next_item, bind, begin_let, Taken, branch_named, first_branch, nearest_branch, take_named, pick, inverted, negated, operated, returned, begun, step}

module _ (p : List Class) (a : ℕ) where
  abbrev pub calls : Calls
  calls = calls_within p a

  abbrev pub does : Value → Environment → Tree → Computation Value
  does self env t = eval p calls self env t

  -- a call of a method on a receiver
  abbrev pub call_on : Place → Option (List ℕ) → List ℕ → Value → List Value → Computation Value
  call_on at None name v vs = class_or (DispatchVoid at) v >>= λ c. dispatch p calls at c name v vs
  call_on at (Some class) name v vs = class_or (DispatchVoid at) v >>= λ d. given (class_named p class) >>= λ c. dispatch p calls at c name v vs

  -- the rest of a call, with so many arguments given
  abbrev pub rest_of_call : Value → Environment → List Value → Trees → Place → Tree → Option (List ℕ) → List ℕ → Computation Value
  rest_of_call self env given es at t class name =
      eval_all p calls self env es >>= λ vs. holding (length vs) (does self env t >>= λ v. call_on at class name v (given ++ vs))

  -- a turn of a loop, by the value of its test
  abbrev pub turn_of : Value → Environment → Tree → Tree → Value → Computation Value
  turn_of self env test body v = as_truth v >>= λ b. if b then spend (working 1 (does self env body >> loop (does self env test) (does self env body))) else give Void

  abbrev pub after_frame : Frame → Value → Computation Value
  after_frame (AssignTo env name) v = assign env name v
  after_frame (Choose self env first second) v = as_truth v >>= λ b. if b then does self env first else does self env second
  after_frame (Turn self env test body) v = turn_of self env test body v
  after_frame (Again self env test body) v = loop (does self env test) (does self env body)
  after_frame (Items self env es) v = eval_items p calls self env v es
  after_frame (Bind self env name e) v = locate v >>= λ l. does self (record { name = name; location = l } ∷ env) e
  after_frame (Pick self env at cs) v = class_or (CaseVoid at) v >>= λ c. working (branch_count cs * length (chain p c)) (take_branch at c v (nearest p (branch_of p calls self env cs) (chain p c)))
  after_frame (Fill self l rs ls) v = store l v >> run_initials p calls self rs ls
  after_frame (Argument self env given es at t class name) v = rest_of_call self env (given ++ v ∷ []) es at t class name
  after_frame (Receiver at class name given) v = call_on at class name v given
  after_frame TestVoid v = give (Truth (is_void v))
  after_frame Invert v = inverted v
  after_frame (Negate at) v = negated at v
  after_frame (Operand self env at op e) v = does self env e >>= λ w. operated op at v w
  after_frame (Operate at op v) w = operated op at v w
  after_frame (Compared self env op e) v = does self env e >>= λ w. compare op v w
  after_frame (CompareTo op v) w = compare op v w

  abbrev pub resume : List Frame → Value → Computation Value
  resume [] v = give v
  resume (f ∷ fs) v = after_frame f v >>= resume fs

  abbrev pub focus_means : Focus → Computation Value
  focus_means (Begin self env t) = does self env t
  focus_means (Return v) = give v
  focus_means (Start self rs ls) = run_initials p calls self rs ls

  -- the outcome that is still to come
  abbrev pub means : Next → Outcome Value
  means (Continue focus fs s n) = ((focus_means focus >>= resume fs) s n).outcome
  means (Halt o) = o

  -- Outcomes do not depend on meters

  no_meters : {A B : Type 0} (o : Outcome A) (w g q w' g' q' : ℕ) (f : A → Computation B) → (seq_of o w g q f).outcome ≡ (seq_of o w' g' q' f).outcome
  no_meters (Val v s n) w g q w' g' q' f = refl
  no_meters _ w g q w' g' q' f = refl

  -- the same, of what comes to one outcome
  unmetered : {A B : Type 0} (m m' : Metered A) (f : A → Computation B) → m.outcome ≡ m'.outcome → (seq m f).outcome ≡ (seq m' f).outcome
  unmetered m m' f is = no_meters m.outcome m.work m.words m.peak m'.work m'.words m'.peak f ∙ ap (λ (o : Outcome _). (seq_of o m'.work m'.words m'.peak f).outcome) is

  assoc_by : {A B C : Type 0} (o : Outcome A) (w g q : ℕ) (f : A → Computation B) (h : B → Computation C) → (seq (seq_of o w g q f) h).outcome ≡ (seq_of o w g q (λ v. f v >>= h)).outcome
  assoc_by (Val v s n) w g q f h = no_meters (f v s n).outcome (w + (f v s n).work) (g + (f v s n).words) (max q (f v s n).peak) (f v s n).work (f v s n).words (f v s n).peak h
  assoc_by _ w g q f h = refl

  -- one after another after a third
  assoc : {A B C : Type 0} (d : Computation A) (f : A → Computation B) (h : B → Computation C) (s : State) (n : ℕ) → (((d >>= f) >>= h) s n).outcome ≡ ((d >>= λ v. f v >>= h) s n).outcome
  assoc d f h s n = assoc_by (d s n).outcome (d s n).work (d s n).words (d s n).peak f h

  ruled : {A B : Type 0} (d : Computation A) (f : A → Computation B) (s : State) (n : ℕ) → ((rule d >>= f) s n).outcome ≡ ((d >>= f) s n).outcome
  ruled d f s n = unmetered (rule d s n) (d s n) f refl

  -- the end of a part is that of the whole
  after_means : (o : Outcome Value) (fs : List Frame) (w g q : ℕ) → means (after o fs) ≡ (seq_of o w g q (resume fs)).outcome
  unfolding after
  after_means (Val v s n) fs w g q = refl
  after_means _ fs w g q = refl

  followed_by : {A B : Type 0} (o : Outcome A) (w g q : ℕ) (f f' : A → Computation B) → ((v : A) (s : State) (n : ℕ) → (f v s n).outcome ≡ (f' v s n).outcome) → (seq_of o w g q f).outcome ≡ (seq_of o w g q f').outcome
  followed_by (Val v s n) w g q f f' h = h v s n
  followed_by _ w g q f f' h = refl

  -- the same after a computation
  followed : {A B : Type 0} (d : Computation A) (f f' : A → Computation B) → ((v : A) (s : State) (n : ℕ) → (f v s n).outcome ≡ (f' v s n).outcome) → (s : State) (n : ℕ) → ((d >>= f) s n).outcome ≡ ((d >>= f') s n).outcome
  followed d f f' h s n = followed_by (d s n).outcome (d s n).work (d s n).words (d s n).peak f f' h

  -- a part, then a function of it, under a rule
  ruled_part : {A : Type 0} (d : Computation A) (f : A → Computation Value) (fs : List Frame) (s : State) (n : ℕ) → ((d >>= λ v. f v >>= resume fs) s n).outcome ≡ ((rule (d >>= f) >>= resume fs) s n).outcome
  ruled_part d f fs s n = sym (assoc d f (resume fs) s n) ∙ sym (ruled (d >>= f) (resume fs) s n)

  -- Blocks, arguments and variables

  item_means : (self : Value) (env : Environment) (v : Value) (es : Trees) (fs : List Frame) (s : State) (n : ℕ) → means (next_item self env v es fs s n) ≡ ((eval_items p calls self env v es >>= resume fs) s n).outcome
  unfolding next_item
  item_means self env v Last fs s n = refl
  item_means self env v (More e es) fs s n = sym (assoc (does self env e) (λ w. eval_items p calls self env w es) (resume fs) s n)

  args_mean : (self : Value) (env : Environment) (given : List Value) (es : Trees) (at : Place) (t : Tree) (class : Option (List ℕ)) (name : List ℕ) (fs : List Frame) (s : State) (n : ℕ)
      → means (begin_args self env given es at t class name fs s n) ≡ ((rest_of_call self env given es at t class name >>= resume fs) s n).outcome
  unfolding begin_args
  args_mean self env given Last at t class name fs s n =
      let call : List Value → Value → Computation Value = λ vs v. call_on at class name v vs in
      let whole : Computation Value = does self env t >>= call (given ++ []) in
      sym (assoc (does self env t) (call given) (resume fs) s n)
      ∙ ap (λ (vs : List Value). (((does self env t >>= call vs) >>= resume fs) s n).outcome) (sym (append-nil given))
      ∙ unmetered (whole s n) ((eval_all p calls self env Last >>= λ vs. holding (length vs) (does self env t >>= call (given ++ vs))) s n) (resume fs) refl
  args_mean self env given (More e es) at t class name fs s n =
      let call : List Value → Value → Computation Value = λ vs v. call_on at class name v vs in
      let rest : List Value → Computation Value = λ vs. holding (length vs) (does self env t >>= call (given ++ vs)) in
      let one : Value → Computation (List Value) = λ v. holding 1 (eval_all p calls self env es >>= λ vs. give (v ∷ vs)) in
      let later : List Value → Computation Value = λ vs. rest vs >>= resume fs in
      followed (does self env e) (λ v. rest_of_call self env (given ++ v ∷ []) es at t class name >>= resume fs) (λ v. one v >>= later) (λ v s n.
      assoc (eval_all p calls self env es) (λ vs. holding (length vs) (does self env t >>= call ((given ++ v ∷ []) ++ vs))) (resume fs) s n
      ∙ (followed (eval_all p calls self env es) (λ vs. holding (length vs) (does self env t >>= call ((given ++ v ∷ []) ++ vs)) >>= resume fs) (λ vs. give (v ∷ vs) >>= later) (λ vs s n.
      ap (λ (ws : List Value). ((holding (length vs) (does self env t >>= call ws) >>= resume fs) s n).outcome) (append_assoc given (v ∷ []) vs)
      ∙ unmetered (holding (length vs) (does self env t >>= call (given ++ v ∷ vs)) s n) (holding (length (v ∷ vs)) (does self env t >>= call (given ++ v ∷ vs)) s n) (resume fs) refl) s n
      ∙ (sym (assoc (eval_all p calls self env es) (λ vs. give (v ∷ vs)) later s n)
      ∙ unmetered ((eval_all p calls self env es >>= λ vs. give (v ∷ vs)) s n) (one v s n) later refl))) s n
      ∙ (sym (assoc (does self env e) one later s n) ∙ sym (assoc (does self env e >>= one) rest (resume fs) s n))

  let_means : (self : Value) (env : Environment) (name type : List ℕ) (init : MaybeTree) (e : Tree) (fs : List Frame) (s : State) (n : ℕ)
      → means (begin_let self env name type init e fs s n) ≡ (((eval_init p calls self env type init >>= λ v. locate v >>= λ l. does self (record { name = name; location = l } ∷ env) e) >>= resume fs) s n).outcome
  unfolding begin_let
  let_means self env name type Without e fs s n =
      sym (assoc (give (default_of type)) (λ v. locate v >>= λ l. does self (record { name = name; location = l } ∷ env) e) (resume fs) s n)
  let_means self env name type (With i) e fs s n =
      sym (assoc (does self env i) (λ v. locate v >>= λ l. does self (record { name = name; location = l } ∷ env) e) (resume fs) s n)

  bind_means : (self : Value) (env : Environment) (name : List ℕ) (e : Tree) (v : Value) (fs : List Frame) (s : State) (n : ℕ)
      → means (bind self env name e v fs s n) ≡ (((locate v >>= λ l. does self (record { name = name; location = l } ∷ env) e) >>= resume fs) s n).outcome
  unfolding bind
  bind_means self env name e v fs s n =
      let d = does self (record { name = name; location = length s.store } ∷ env) e (record s { store = s.store ++ v ∷ [] }) n in
      unmetered d (join 0 0 0 d) (resume fs) refl

  -- Loops

  loop_means : (self : Value) (env : Environment) (test body : Tree) (fs : List Frame) (s : State) (n : ℕ) → n ≤ a
      → means (Continue (Begin self env test) (Turn self env test body ∷ fs) s n) ≡ ((loop (does self env test) (does self env body) >>= resume fs) s n).outcome
  loop_means self env test body fs s n less =
      sym (assoc (does self env test) (turn_of self env test body) (resume fs) s n)
      ∙ sym (ap (λ (m : Metered Value). (seq m (resume fs)).outcome) (loop_is (does self env test) (does self env body) n (eval_agrees p a a n less less self env test) (eval_agrees p a a n less less self env body) s))

  turn_means : (self : Value) (env : Environment) (test body : Tree) (v : Value) (fs : List Frame) (s : State) (n : ℕ)
      → means (turn self env test body v fs s n) ≡ ((turn_of self env test body v >>= resume fs) s n).outcome
  unfolding turn
  turn_means self env test body (Truth true) fs s (suc n) =
      let again : Computation Value = loop (does self env test) (does self env body) in
      let m = (does self env body >> again) s n in
      sym (assoc (does self env body) (λ _. again) (resume fs) s n)
      ∙ unmetered m (join 0 0 0 (record { outcome = m.outcome; work = 1 + m.work; words = m.words; peak = m.peak })) (resume fs) refl
  turn_means self env test body _ fs s _ = refl

  choice_means : (self : Value) (env : Environment) (first second : Tree) (v : Value) (fs : List Frame) (s : State) (n : ℕ) → means (choose self env first second v fs s n) ≡ ((after_frame (Choose self env first second) v >>= resume fs) s n).outcome
  unfolding choose
  choice_means self env first second (Truth true) fs s n = let d = does self env first s n in unmetered d (join 0 0 0 d) (resume fs) refl
  choice_means self env first second (Truth false) fs s n = let d = does self env second s n in unmetered d (join 0 0 0 d) (resume fs) refl
  choice_means self env first second _ fs s n = refl

  -- Calls

  body_means : (self : Value) (m : MethodDef) (o : Outcome (List ℕ)) (w g q : ℕ) (fs : List Frame)
      → means (begin_body p self m o fs) ≡ (seq_of o w g q (λ ls. does self (located (formal_names m.formals) ls ++ environment_of p self) m.body >>= resume fs)).outcome
  unfolding begin_body
  body_means self m (Val ls s n) w g q fs = refl
  body_means self m _ w g q fs = refl

  method_means : (self : Value) (vs : List Value) (o : Option MethodDef) (fs : List Frame) (s : State) (n : ℕ) → means (begin_method p self vs o fs s n) ≡ ((run_method p calls self vs o >>= resume fs) s n).outcome
  unfolding begin_method
  method_means self vs None fs s n = refl
  method_means self vs (Some m) fs s n =
      let l = locate_all vs s n in
      body_means self m l.outcome l.work l.words l.peak fs ∙ sym (assoc (locate_all vs) (λ ls. does self (located (formal_names m.formals) ls ++ environment_of p self) m.body) (resume fs) s n)

  call_means : (at : Place) (v : Value) (vs : List Value) (o : Option MethodRef) (fs : List Frame) (s : State) (n : ℕ) → n < a → means (begin_call p at v vs o fs s n) ≡ ((invoke p calls at v vs o >>= resume fs) s n).outcome
  unfolding begin_call
  call_means at v vs None fs s n less = refl
  call_means at v vs (Some (Basic m)) fs s n less = let b = basic p m at v vs s n in after_means b.outcome fs b.work b.words b.peak
  call_means at v vs (Some (User owner k)) fs s n less =
      method_means v vs (method_at p owner k) fs s n ∙ ap (λ (m : Metered Value). (seq m (resume fs)).outcome) (sym (call_is p a (Body owner k v vs) s n less))

  class_means : (at : Place) (name : List ℕ) (v : Value) (vs : List Value) (o : Outcome ClassId) (w g q : ℕ) (fs : List Frame) → Fewer a o
      → means (call_class p at name v vs o fs) ≡ (seq (seq_of o w g q (λ c. dispatch p calls at c name v vs)) (resume fs)).outcome
  unfolding call_class
  class_means at name v vs (Val c s (suc n)) w g q fs few =
      let i = invoke p calls at v vs (implementation p (chain p c) name) s n in
      call_means at v vs (implementation p (chain p c) name) fs s n (omega arith)
      ∙ no_meters i.outcome i.work i.words i.peak (w + (length vs + i.work)) (g + i.words) (max q i.peak) (resume fs)
  class_means at name v vs _ w g q fs few = refl

  given_few : (o : Option ClassId) (s : State) (n : ℕ) → n ≤ a → Fewer a (given o s n).outcome
  given_few None s n less = tt
  given_few (Some c) s n less = less

  class_or_few : (e : Error) (v : Value) (s : State) (n : ℕ) → n ≤ a → Fewer a (class_or e v s n).outcome
  class_or_few e Void s n less = tt
  class_or_few e _ s n less = less

  class_few : (at : Place) (class : Option (List ℕ)) (v : Value) (s : State) (n : ℕ) → n ≤ a → Fewer a (class_called p at class v s n).outcome
  class_few at None v s n less = class_or_few (DispatchVoid at) v s n less
  class_few at (Some class) Void s n less = tt
  class_few at (Some class) (Int i) s n less = given_few (class_named p class) s n less
  class_few at (Some class) (Truth b) s n less = given_few (class_named p class) s n less
  class_few at (Some class) (Str bytes) s n less = given_few (class_named p class) s n less
  class_few at (Some class) (Obj c i ls) s n less = given_few (class_named p class) s n less

  receiver_means : (at : Place) (class : Option (List ℕ)) (name : List ℕ) (v : Value) (vs : List Value) (fs : List Frame) (s : State) (n : ℕ) → n ≤ a
      → means (call_class p at name v vs (class_called p at class v s n).outcome fs) ≡ ((call_on at class name v vs >>= resume fs) s n).outcome
  receiver_means at None name v vs fs s n less =
      let k = class_called p at None v s n in
      class_means at name v vs k.outcome k.work k.words k.peak fs (class_few at None v s n less)
  receiver_means at (Some class) name v vs fs s n less =
      let k = class_called p at (Some class) v s n in
      let d : Computation ClassId = class_or (DispatchVoid at) v in
      let g : ClassId → Computation ClassId = λ d. given (class_named p class) in
      let h : ClassId → Computation Value = λ c. dispatch p calls at c name v vs in
      class_means at name v vs k.outcome k.work k.words k.peak fs (class_few at (Some class) v s n less)
      ∙ (assoc (d >>= g) h (resume fs) s n
      ∙ (assoc d g (λ c. h c >>= resume fs) s n
      ∙ (followed d (λ c. g c >>= λ e. h e >>= resume fs) (λ c. (g c >>= h) >>= resume fs) (λ c s n. sym (assoc (g c) h (resume fs) s n)) s n
      ∙ sym (assoc d (λ c. g c >>= h) (resume fs) s n))))

  -- New objects

  start_means : (self : Value) (o : Option Tree) (l : ℕ) (rs : List AttributeRef) (ls : List ℕ) (fs : List Frame) (s : State) (n : ℕ)
      → means (start_value p self o l rs ls fs s n) ≡ (((run_initial p calls self l o >> run_initials p calls self rs ls) >>= resume fs) s n).outcome
  unfolding start_value
  start_means self None l rs ls fs s n = let d = run_initials p calls self rs ls s n in unmetered d (join 0 0 0 d) (resume fs) refl
  start_means self (Some t) l rs ls fs s n =
      let e : Computation Value = does self (environment_of p self) t in
      let put : Value → Computation (Unit {0}) = λ v. store l v in
      let rest : Computation Value = run_initials p calls self rs ls in
      followed e (λ v. (put v >> rest) >>= resume fs) (λ v. put v >>= λ _. rest >>= resume fs) (λ v s n. assoc (put v) (λ _. rest) (resume fs) s n) s n
      ∙ (sym (assoc e put (λ _. rest >>= resume fs) s n)
      ∙ (unmetered ((e >>= put) s n) (working 1 (e >>= put) s n) (λ _. rest >>= resume fs) refl
      ∙ sym (assoc (working 1 (e >>= put)) (λ _. rest) (resume fs) s n)))

  values_mean : (self : Value) (rs : List AttributeRef) (ls : List ℕ) (fs : List Frame) (s : State) (n : ℕ)
      → means (start_values p self rs ls fs s n) ≡ ((run_initials p calls self rs ls >>= resume fs) s n).outcome
  unfolding start_values
  values_mean self [] ls fs s n = refl
  values_mean self (r ∷ rs) [] fs s n = refl
  values_mean self (r ∷ rs) (l ∷ ls) fs s n = start_means self (init_of p r) l rs ls fs s n

  -- the initial values give the object itself
  gives_self : (self : Value) (rs : List AttributeRef) (ls : List ℕ) (s : State) (n : ℕ) → ((run_initials p calls self rs ls >> give self) s n).outcome ≡ (run_initials p calls self rs ls s n).outcome
  gives_self self [] ls s n = refl
  gives_self self (r ∷ rs) [] s n = refl
  gives_self self (r ∷ rs) (l ∷ ls) s n =
      let first : Computation (Unit {0}) = run_initial p calls self l (init_of p r) in
      assoc first (λ _. run_initials p calls self rs ls) (λ _. give self) s n
      ∙ followed first (λ _. run_initials p calls self rs ls >> give self) (λ _. run_initials p calls self rs ls) (λ _ s n. gives_self self rs ls s n) s n

  object_means : (c : ClassId) (o : Outcome (List ℕ)) (w g q : ℕ) (fs : List Frame) → ((ls : List ℕ) (s : State) (n : ℕ) → o ≡ Val ls s n → n < a)
      → means (begin_object p c o fs) ≡ (seq (seq_of o w g q (λ ls. draw >>= λ i. calls (Initials c (Obj c i ls)) >> give (Obj c i ls))) (resume fs)).outcome
  unfolding begin_object
  object_means c (Val ls s n) w g q fs few =
      let self : Value = Obj c s.drawn ls in
      let t : State = record s { drawn = s.drawn + 1 } in
      let d : Computation Value = run_initials p calls self (attributes p c) ls in
      let whole = (calls (Initials c self) >> give self) t n in
      unmetered (d t n) ((d >> give self) t n) (resume fs) (sym (gives_self self (attributes p c) ls t n))
      ∙ (ap (λ (m : Metered Value). (seq (seq m (λ _. give self)) (resume fs)).outcome) (sym (call_is p a (Initials c self) t n (few ls s n refl)))
      ∙ unmetered whole (join w g q (join 0 0 0 whole)) (resume fs) refl)
  object_means c _ w g q fs few = refl

  -- locations are found with no step
  located_left : (vs : List Value) (s : State) (n : ℕ) (ls : List ℕ) (t : State) (m : ℕ) → (locate_all vs s n).outcome ≡ Val ls t m → m ≡ n
  located_left [] s n ls t m is = sym cc
  located_left (v ∷ vs) s n ls t m is = by (locate_all vs (record s { store = s.store ++ v ∷ [] }) n).outcome is (located_left vs (record s { store = s.store ++ v ∷ [] }) n)
    where
      by : (o : Outcome (List ℕ)) → (seq_of o (locate_all vs (record s { store = s.store ++ v ∷ [] }) n).work (locate_all vs (record s { store = s.store ++ v ∷ [] }) n).words (locate_all vs (record s { store = s.store ++ v ∷ [] }) n).peak (λ ks. give (length s.store ∷ ks))).outcome ≡ Val ls t m
          → ((ks : List ℕ) (u : State) (k : ℕ) → o ≡ Val ks u k → k ≡ n) → m ≡ n
      by (Val ks u k) is h = let same : m ≡ k = sym cc in same ∙ h ks u k refl
      by _ is h = absurd cc

  new_by : (two three four : Bool) (c : ClassId) (fs : List Frame) (s : State) (n : ℕ) → suc n ≤ a
      → means (if two then Continue (Return (Int (pos 0))) fs s n
      else (if three then Continue (Return (Truth false)) fs s n
      else (if four then Continue (Return (Str [])) fs s n
      else begin_object p c (locate_all (default_values p (attributes p c)) s n).outcome fs)))
      ≡ (((if two then rule (spend (new_number (pos 0)))
      else (if three then rule (spend (new_truth false))
      else (if four then rule (spend (new_string []))
      else working 1 (holding (length (chain p c)) (spend (new_object p calls c)))))) >>= resume fs) s (suc n)).outcome
  new_by true three four c fs s n less = refl
  new_by false true four c fs s n less = refl
  new_by false false true c fs s n less = refl
  new_by false false false c fs s n less =
      let l = locate_all (default_values p (attributes p c)) s n in
      let whole = (locate_all (default_values p (attributes p c)) >>= λ ls. draw >>= λ i. calls (Initials c (Obj c i ls)) >> give (Obj c i ls)) s n in
      object_means c l.outcome l.work l.words l.peak fs (λ ls t m is. let same : m ≡ n = located_left (default_values p (attributes p c)) s n ls t m is in omega arith)
      ∙ unmetered whole (working 1 (holding (length (chain p c)) (spend (new_object p calls c))) s (suc n)) (resume fs) refl

  none_left : (two three four : Bool) (c : ClassId) (fs : List Frame) (s : State)
      → On s ≡ (((if two then rule (spend (new_number (pos 0)))
      else (if three then rule (spend (new_truth false))
      else (if four then rule (spend (new_string []))
      else working 1 (holding (length (chain p c)) (spend (new_object p calls c)))))) >>= resume fs) s zero).outcome
  none_left true three four c fs s = refl
  none_left false true four c fs s = refl
  none_left false false true c fs s = refl
  none_left false false false c fs s = refl

  new_means : (o : Option ClassId) (fs : List Frame) (s : State) (n : ℕ) → n ≤ a → means (begin_new p o fs s n) ≡ ((make p calls o >>= resume fs) s n).outcome
  unfolding begin_new
  new_means None fs s n less = refl
  new_means (Some c) fs s zero less = none_left (c.0 == 2) (c.0 == 3) (c.0 == 4) c fs s
  new_means (Some c) fs s (suc n) less = new_by (c.0 == 2) (c.0 == 3) (c.0 == 4) c fs s n less

  -- Cases

  abbrev pub branch_does : Value → Environment → Option Taken → Option Branch
  branch_does self env None = None
  branch_does self env (Some b) = Some (λ v. locate v >>= λ l. does self (record { name = b.name; location = l } ∷ env) b.body)

  branch_same : (self : Value) (env : Environment) (cs : Cases) (class : List ℕ) → branch_of p calls self env cs class ≡ branch_does self env (branch_named cs class)
  branch_same self env NoCase class = refl
  branch_same self env (CaseOf at name declared t cs) class = by (bytes_eq declared.name class) (branch_same self env cs class)
    where
      by : (test : Bool) → branch_of p calls self env cs class ≡ branch_does self env (branch_named cs class)
          → (if test then Some (λ v. locate v >>= λ l. does self (record { name = name; location = l } ∷ env) t) else branch_of p calls self env cs class)
          ≡ branch_does self env (if test then Some (record { name = name; body = t }) else branch_named cs class)
      by true h = refl
      by false h = h

  first_does : (self : Value) (env : Environment) (x y : Option Taken) → or_else (branch_does self env x) (branch_does self env y) ≡ branch_does self env (first_branch x y)
  first_does self env None y = refl
  first_does self env (Some b) y = refl

  pub nearest_same : (self : Value) (env : Environment) (cs : Cases) (ds : List ClassId) → nearest p (branch_of p calls self env cs) ds ≡ branch_does self env (nearest_branch p cs ds)
  nearest_same self env cs [] = refl
  nearest_same self env cs (c ∷ ds) =
      ap (λ (x : Option Branch). or_else x (nearest p (branch_of p calls self env cs) ds)) (branch_same self env cs (name_of p c))
      ∙ (ap (λ (x : Option Branch). or_else (branch_does self env (branch_named cs (name_of p c))) x) (nearest_same self env cs ds)
      ∙ first_does self env (branch_named cs (name_of p c)) (nearest_branch p cs ds))

  take_means : (self : Value) (env : Environment) (at : Place) (c : ClassId) (v : Value) (x : Option Taken) (fs : List Frame) (s : State) (n : ℕ)
      → means (take_named self env at c v x fs s n) ≡ ((take_branch at c v (branch_does self env x) >>= resume fs) s n).outcome
  unfolding take_named
  take_means self env at c v None fs s n = refl
  take_means self env at c v (Some b) fs s n = bind_means self env b.name b.body v fs s n

  pick_means : (self : Value) (env : Environment) (at : Place) (cs : Cases) (v : Value) (o : Outcome ClassId) (w g q : ℕ) (fs : List Frame)
      → means (pick p self env at cs v o fs)
      ≡ (seq (seq_of o w g q (λ c. working (branch_count cs * length (chain p c)) (take_branch at c v (nearest p (branch_of p calls self env cs) (chain p c))))) (resume fs)).outcome
  unfolding pick
  pick_means self env at cs v (Val c s n) w g q fs =
      let x = nearest_branch p cs (chain p c) in
      let taken = nearest p (branch_of p calls self env cs) (chain p c) in
      take_means self env at c v x fs s n
      ∙ (ap (λ (b : Option Branch). ((take_branch at c v b >>= resume fs) s n).outcome) (sym (nearest_same self env cs (chain p c)))
      ∙ unmetered (take_branch at c v taken s n) (join w g q (working (branch_count cs * length (chain p c)) (take_branch at c v taken) s n)) (resume fs) refl)
  pick_means self env at cs v _ w g q fs = refl

  -- Steps

  begun_means : (self : Value) (env : Environment) (t : Tree) (fs : List Frame) (s : State) (n : ℕ) → n ≤ a → means (begun p self env t fs s n) ≡ means (Continue (Begin self env t) fs s n)
  unfolding begun
  begun_means self env (trees.Id at name) fs s n less =
      let m = value_named self env name s n in after_means m.outcome fs (1 + m.work) m.words (1 + m.peak)
  begun_means self env (trees.Assign at name e) fs s n less = ruled_part (does self env e) (assign env name) fs s n
  begun_means self env (trees.Dispatch at t name es) fs s n less = args_mean self env [] es at t None name fs s n ∙ sym (ruled (rest_of_call self env [] es at t None name) (resume fs) s n)
  begun_means self env (trees.StaticDispatch at t class name es) fs s n less =
      args_mean self env [] es at t (Some class.name) name fs s n ∙ sym (ruled (rest_of_call self env [] es at t (Some class.name) name) (resume fs) s n)
  begun_means self env (trees.If at test first second) fs s n less =
      ruled_part (does self env test) (λ v. as_truth v >>= λ b. if b then does self env first else does self env second) fs s n
  begun_means self env (trees.While at test body) fs s n less =
      loop_means self env test body fs s n less ∙ sym (ruled (loop (does self env test) (does self env body)) (resume fs) s n)
  begun_means self env (trees.Block at es) fs s n less = item_means self env Void es fs s n ∙ sym (ruled (eval_items p calls self env Void es) (resume fs) s n)
  begun_means self env (trees.Let at name declared init e) fs s n less =
      let_means self env name declared.name init e fs s n
      ∙ sym (ruled (eval_init p calls self env declared.name init >>= λ v. locate v >>= λ l. does self (record { name = name; location = l } ∷ env) e) (resume fs) s n)
  begun_means self env (trees.Case at e cs) fs s n less = ruled_part (does self env e) (after_frame (Pick self env at cs)) fs s n
  begun_means self env (trees.New at class) fs s n less = new_means (class_made p self class.name) fs s n less
  begun_means self env (trees.IsVoid at e) fs s n less = ruled_part (does self env e) (λ v. give (Truth (is_void v))) fs s n
  begun_means self env (trees.Not at e) fs s n less = ruled_part (does self env e) inverted fs s n
  begun_means self env (trees.Neg at e) fs s n less = ruled_part (does self env e) (negated at) fs s n
  begun_means self env (trees.Arith at op e f) fs s n less = ruled_part (does self env e) (λ v. does self env f >>= λ w. operated op at v w) fs s n
  begun_means self env (trees.Compare at op e f) fs s n less = ruled_part (does self env e) (λ v. does self env f >>= λ w. compare op v w) fs s n
  begun_means self env _ fs s n less = refl

  returned_means : (f : Frame) (v : Value) (fs : List Frame) (s : State) (n : ℕ) → n ≤ a → means (returned p f v fs s n) ≡ ((after_frame f v >>= resume fs) s n).outcome
  unfolding returned
  returned_means (AssignTo env name) v fs s n less = let m = assign env name v s n in after_means m.outcome fs m.work m.words m.peak
  returned_means (Choose self env first second) v fs s n less = choice_means self env first second v fs s n
  returned_means (Turn self env test body) v fs s n less = turn_means self env test body v fs s n
  returned_means (Again self env test body) v fs s n less = loop_means self env test body fs s n less
  returned_means (Items self env es) v fs s n less = item_means self env v es fs s n
  returned_means (Bind self env name e) v fs s n less = bind_means self env name e v fs s n
  returned_means (Pick self env at cs) v fs s n less = let k = class_or (CaseVoid at) v s n in pick_means self env at cs v k.outcome k.work k.words k.peak fs
  returned_means (Fill self l rs ls) v fs s n less =
      let d = run_initials p calls self rs ls (record s { store = slice_set s.store l v }) n in unmetered d (join 0 0 0 d) (resume fs) refl
  returned_means (Argument self env given es at t class name) v fs s n less = args_mean self env (given ++ v ∷ []) es at t class name fs s n
  returned_means (Receiver at class name given) v fs s n less = receiver_means at class name v given fs s n less
  returned_means TestVoid v fs s n less = refl
  returned_means Invert v fs s n less = let m = inverted v s n in after_means m.outcome fs m.work m.words m.peak
  returned_means (Negate at) v fs s n less = let m = negated at v s n in after_means m.outcome fs m.work m.words m.peak
  returned_means (Operand self env at op e) v fs s n less = sym (assoc (does self env e) (λ w. operated op at v w) (resume fs) s n)
  returned_means (Operate at op v) w fs s n less = let m = operated op at v w s n in after_means m.outcome fs m.work m.words m.peak
  returned_means (Compared self env op e) v fs s n less = sym (assoc (does self env e) (λ w. compare op v w) (resume fs) s n)
  returned_means (CompareTo op v) w fs s n less = let m = compare op v w s n in after_means m.outcome fs m.work m.words m.peak

  -- each step keeps what is meant, as long as no more steps are left than the level has
  pub step_means : (focus : Focus) (fs : List Frame) (s : State) (n : ℕ) → n ≤ a → means (step p focus fs s n) ≡ means (Continue focus fs s n)
  unfolding step
  step_means (Begin self env t) fs s n less = begun_means self env t fs s n less
  step_means (Start self rs ls) fs s n less = values_mean self rs ls fs s n
  step_means (Return v) [] s n less = refl
  step_means (Return v) (f ∷ fs) s n less = returned_means f v fs s n less
