-- A step of the stack machine depends on the number of steps left only if it spends one: then it stops if none is left, and otherwise goes on in the same way
-- with one less.
use Rattle.std.proofs.Common.{◌≡◌, ℕ, zero, suc, pos, List, [], ◌∷◌, ◌++◌, Option, Some, None, inl, inr, ap, ◌∙◌, refl}
use Rattle.std.specs.Prelude.{◌⊎◌, Bool, true, false, if◌then◌else◌, ◌==◌, slice_get}
use Rattle.cool_syntax.specs.declared.place.Place.{Place}
use Rattle.cool_syntax.specs.declared.file_tree.MethodDef.{MethodDef}
use Rattle.cool_syntax.specs.Tree.{Tree, Trees, MaybeTree, Cases, Last, More, Without, With}
use Rattle.cool_syntax.specs.Tree as trees
use Rattle.cool_classes.specs.declared.class_id.ClassId.{ClassId}
use Rattle.cool_classes.specs.declared.method.MethodRef.{MethodRef}
use Rattle.cool_classes.specs.declared.method.MethodRef.TheVariants.{Basic, User}
use Rattle.cool_classes.specs.declared.method.AttributeRef.{AttributeRef}
use Rattle.cool_classes.specs.Chains.{Class, class_number}
use Rattle.cool_classes.specs.Features.{implementation}
use Rattle.cool_classes.specs.ClimbedChains.{chain}
use Rattle.cool_rules.specs.Rules.{class_named}
use Rattle.cool_meaning.specs.Values.{Value, Void, Int, Bool as Truth, Str, Obj, State, Environment}
use Rattle.cool_meaning.specs.Meters.{Outcome, Val, Stop, On, Stuck, Error, DispatchVoid, CaseVoid, Computation, seq_of, ◌>>=◌, ◌>>◌, give, stop, stuck, working, given, load}
use Rattle.cool_meaning.specs.Lookups.{class_made, method_at, attributes, default_values, init_of}
use Rattle.cool_meaning.specs.BasicMethods.{basic, locate_all}
use Rattle.cool_meaning.specs.Evaluation.{class_or, value_named, assign, compare}
use Rattle.cool_meaning.proofs.RelatedEvaluation.{IsKept, locate_all_kept, basic_kept}
use Rattle.cool_eval.proofs.PropertiesOfMeanings.{IsOfWords, words_kept, of_class, of_named, of_assign, of_operated, of_compare, of_inverted, of_negated}
use Rattle.cool_eval.specs.StackMachine.{Frame, AssignTo, Choose, Turn, Items, Bind, Pick, Argument, Receiver, Invert, Negate, Operate, CompareTo, Focus, Begin, Return, Start, Next, Continue, Halt, after, begin_args, begin_body, begin_method, begin_call, class_called, call_class, begin_object, begin_new, start_value, start_values, choose, turn, next_item, bind, begin_let, Taken, nearest_branch, take_named, pick, inverted, negated, operated, returned, begun, step}

-- an outcome with so many steps left
abbrev pub left_as : {A : Type 0} → Outcome A → ℕ → Outcome A
left_as (Val v s n) k = Val v s k
left_as (Stop e s) k = Stop e s
left_as (On s) k = On s
left_as Stuck k = Stuck

-- the next configuration, with so many steps left
abbrev pub next_with : Next → ℕ → Next
next_with (Continue focus fs s n) k = Continue focus fs s k
next_with (Halt o) k = Halt (left_as o k)

-- Computations that take no step

-- with any number of steps it comes to the same, and leaves them
record Steady {A : Type 0} (d : Computation A) : Type 0 where
  same : (s : State) (n k : ℕ) → (d s k).outcome ≡ left_as (d s n).outcome k

seq_steady : {A B : Type 0} (o : Outcome A) (w g q w' g' q' k : ℕ) (f : A → Computation B) → ((v : A) → Steady (f v))
    → (seq_of (left_as o k) w' g' q' f).outcome ≡ left_as (seq_of o w g q f).outcome k
seq_steady (Val v s n) w g q w' g' q' k f h = (h v).same s n k
seq_steady _ w g q w' g' q' k f h = refl

bind_steady : {A B : Type 0} {d : Computation A} {f : A → Computation B} → Steady d → ((v : A) → Steady (f v))
    → Steady (d >>= f)
bind_steady {d = d} {f = f} h g = record {
  same = λ s n k.
      ap (λ (o : Outcome _). (seq_of o (d s k).work (d s k).words (d s k).peak f).outcome) (h.same s n k)
      ∙ seq_steady (d s n).outcome (d s n).work (d s n).words (d s n).peak (d s k).work (d s k).words (d s k).peak k f g;
}

then_steady : {A B : Type 0} {d : Computation A} {f : Computation B} → Steady d → Steady f → Steady (d >> f)
then_steady {f = f} h g = bind_steady {f = λ _. f} h (λ v. g)

give_steady : {A : Type 0} (v : A) → Steady (give v)
give_steady v = record { same = λ s n k. refl }

stop_steady : {A : Type 0} (e : Error) → Steady {A = A} (stop e)
stop_steady e = record { same = λ s n k. refl }

stuck_steady : {A : Type 0} → Steady {A = A} stuck
stuck_steady = record { same = λ s n k. refl }

given_steady : {A : Type 0} (o : Option A) → Steady (given o)
given_steady None = stuck_steady
given_steady (Some v) = give_steady v

load_steady : (l : ℕ) → Steady (load l)
load_steady l = record { same = λ s n k. (given_steady (slice_get s.store l)).same s n k }

working_steady : {A : Type 0} (j : ℕ) {d : Computation A} → Steady d → Steady (working j d)
working_steady j h = record { same = λ s n k. h.same s n k }

steady_kept : IsKept (λ A d d'. Steady d)
steady_kept = record {
  give_kept = λ v. give_steady v;
  stop_kept = λ e. stop_steady e;
  stuck_kept = stuck_steady;
  bind_kept = λ h g. bind_steady h g;
  then_kept = λ h g. then_steady h g;
  working_kept = λ j h. working_steady j h;
  giving_kept = λ j h. record { same = λ s n k. h.same s n k };
  holding_kept = λ j h. record { same = λ s n k. h.same s n k };
  draw_kept = record { same = λ s n k. refl };
  locate_kept = λ v. record { same = λ s n k. refl };
  load_kept = load_steady;
  store_kept = λ l v. record { same = λ s n k. refl };
  print_kept = λ bytes. record { same = λ s n k. refl };
  take_line_kept = record { same = λ s n k. refl };
}

steady_words : IsOfWords (λ A d. Steady d)
steady_words = words_kept (λ A d. Steady d) steady_kept

class_steady : (e : Error) (v : Value) → Steady (class_or e v)
class_steady e v = of_class (λ A d. Steady d) steady_words e v

-- Steps that spend none, and those that spend one

-- none is spent
abbrev pub IsSteady : (ℕ → Next) → Type 0
IsSteady next = (n k : ℕ) → next k ≡ next_with (next n) k

-- one is spent, and where none is left it stops at this state
pub record Spends (s : State) (next : ℕ → Next) : Type 0 where
  pub none : next zero ≡ Halt (On s)
  pub more : (n k : ℕ) → next (suc k) ≡ next_with (next (suc n)) k

abbrev pub Kind : State → (ℕ → Next) → Type 0
Kind s next = IsSteady next ⊎ Spends s next

after_with : (o : Outcome Value) (fs : List Frame) (k : ℕ) → after (left_as o k) fs ≡ next_with (after o fs) k
unfolding after
after_with (Val v s n) fs k = refl
after_with _ fs k = refl

after_steady : (d : Computation Value) (fs : List Frame) (s : State) → Steady d → IsSteady (λ n. after (d s n).outcome fs)
after_steady d fs s h n k = ap (λ (o : Outcome Value). after o fs) (h.same s n k) ∙ after_with (d s n).outcome fs k

-- Calls

args_steady : (self : Value) (env : Environment) (given : List Value) (es : Trees) (at : Place) (t : Tree)
    (class : Option (List ℕ)) (name : List ℕ) (fs : List Frame) (s : State)
    → IsSteady (λ n. begin_args self env given es at t class name fs s n)
unfolding begin_args
args_steady self env given Last at t class name fs s n k = refl
args_steady self env given (More e es) at t class name fs s n k = refl

module _ (p : List Class) where
  body_with : (self : Value) (m : MethodDef) (o : Outcome (List ℕ)) (fs : List Frame) (k : ℕ)
      → begin_body p self m (left_as o k) fs ≡ next_with (begin_body p self m o fs) k
  unfolding begin_body
  body_with self m (Val ls s n) fs k = refl
  body_with self m _ fs k = refl

  method_steady : (self : Value) (vs : List Value) (o : Option MethodDef) (fs : List Frame) (s : State)
      → IsSteady (λ n. begin_method p self vs o fs s n)
  unfolding begin_method
  method_steady self vs None fs s n k = refl
  method_steady self vs (Some m) fs s n k =
      ap (λ (o : Outcome (List ℕ)). begin_body p self m o fs) ((locate_all_kept (λ A d d'. Steady d) steady_kept vs).same s n k)
      ∙ body_with self m (locate_all vs s n).outcome fs k

  begin_steady : (at : Place) (v : Value) (vs : List Value) (o : Option MethodRef) (fs : List Frame) (s : State)
      → IsSteady (λ n. begin_call p at v vs o fs s n)
  unfolding begin_call
  begin_steady at v vs None fs s n k = refl
  begin_steady at v vs (Some (Basic m)) fs s n k =
      after_steady (basic p m at v vs) fs s (basic_kept (λ A d d'. Steady d) steady_kept p m at v vs) n k
  begin_steady at v vs (Some (User owner j)) fs s n k = method_steady v vs (method_at p owner j) fs s n k

  -- on the class that was found, a step is spent
  found_kind : (at : Place) (name : List ℕ) (v : Value) (vs : List Value) (c : ClassId) (fs : List Frame) (s : State)
      → Kind s (λ n. call_class p at name v vs (Val c s n) fs)
  unfolding call_class
  found_kind at name v vs c fs s =
      inr (record { none = refl; more = λ n k. begin_steady at v vs (implementation p (chain p c) name) fs s n k })

  ended_kind : (at : Place) (name : List ℕ) (v : Value) (vs : List Value) (e : Error) (fs : List Frame) (s : State)
      → Kind s (λ n. call_class p at name v vs (Stop e s) fs)
  unfolding call_class
  ended_kind at name v vs e fs s = inl (λ n k. refl)

  given_kind : (at : Place) (name : List ℕ) (v : Value) (vs : List Value) (o : Option ClassId) (fs : List Frame) (s : State)
      → Kind s (λ n. call_class p at name v vs (given o s n).outcome fs)
  unfolding call_class
  given_kind at name v vs None fs s = inl (λ n k. refl)
  given_kind at name v vs (Some c) fs s = found_kind at name v vs c fs s

  call_kind : (at : Place) (class : Option (List ℕ)) (name : List ℕ) (v : Value) (vs : List Value) (fs : List Frame)
      (s : State)
      → Kind s (λ n. call_class p at name v vs (class_called p at class v s n).outcome fs)
  call_kind at None name Void vs fs s = ended_kind at name Void vs (DispatchVoid at) fs s
  call_kind at None name (Int i) vs fs s = found_kind at name (Int i) vs (class_number 2) fs s
  call_kind at None name (Truth b) vs fs s = found_kind at name (Truth b) vs (class_number 3) fs s
  call_kind at None name (Str bytes) vs fs s = found_kind at name (Str bytes) vs (class_number 4) fs s
  call_kind at None name (Obj c i ls) vs fs s = found_kind at name (Obj c i ls) vs c fs s
  call_kind at (Some class) name Void vs fs s = ended_kind at name Void vs (DispatchVoid at) fs s
  call_kind at (Some class) name (Int i) vs fs s = given_kind at name (Int i) vs (class_named p class) fs s
  call_kind at (Some class) name (Truth b) vs fs s = given_kind at name (Truth b) vs (class_named p class) fs s
  call_kind at (Some class) name (Str bytes) vs fs s = given_kind at name (Str bytes) vs (class_named p class) fs s
  call_kind at (Some class) name (Obj c i ls) vs fs s = given_kind at name (Obj c i ls) vs (class_named p class) fs s

  -- New objects

  object_with : (c : ClassId) (o : Outcome (List ℕ)) (fs : List Frame) (k : ℕ)
      → begin_object p c (left_as o k) fs ≡ next_with (begin_object p c o fs) k
  unfolding begin_object
  object_with c (Val ls s n) fs k = refl
  object_with c _ fs k = refl

  -- the result of the step, by three tests of the class
  abbrev made : Bool → Bool → Bool → ClassId → List Frame → State → ℕ → Next
  made two three four c fs s n =
      if two then Continue (Return (Int (pos 0))) fs s n
      else (if three then Continue (Return (Truth false)) fs s n
      else (if four then Continue (Return (Str [])) fs s n
      else begin_object p c (locate_all (default_values p (attributes p c)) s n).outcome fs))

  made_steady : (two three four : Bool) (c : ClassId) (fs : List Frame) (s : State) → IsSteady (made two three four c fs s)
  made_steady true three four c fs s n k = refl
  made_steady false true four c fs s n k = refl
  made_steady false false true c fs s n k = refl
  made_steady false false false c fs s n k =
      let vs = default_values p (attributes p c) in
      ap (λ (o : Outcome (List ℕ)). begin_object p c o fs) ((locate_all_kept (λ A d d'. Steady d) steady_kept vs).same s n k)
      ∙ object_with c (locate_all vs s n).outcome fs k

  new_kind : (o : Option ClassId) (fs : List Frame) (s : State) → Kind s (λ n. begin_new p o fs s n)
  unfolding begin_new
  new_kind None fs s = inl (λ n k. refl)
  new_kind (Some c) fs s =
      inr (record { none = refl; more = λ n k. made_steady (c.0 == 2) (c.0 == 3) (c.0 == 4) c fs s n k })

  start_steady : (self : Value) (o : Option Tree) (l : ℕ) (rs : List AttributeRef) (ls : List ℕ) (fs : List Frame)
      (s : State) → IsSteady (λ n. start_value p self o l rs ls fs s n)
  unfolding start_value
  start_steady self None l rs ls fs s n k = refl
  start_steady self (Some t) l rs ls fs s n k = refl

  values_steady : (self : Value) (rs : List AttributeRef) (ls : List ℕ) (fs : List Frame) (s : State)
      → IsSteady (λ n. start_values p self rs ls fs s n)
  unfolding start_values
  values_steady self [] ls fs s n k = refl
  values_steady self (a ∷ rs) [] fs s n k = refl
  values_steady self (a ∷ rs) (l ∷ ls) fs s n k = start_steady self (init_of p a) l rs ls fs s n k

  -- Conditions, loops, blocks, variables

  choice_steady : (self : Value) (env : Environment) (first second : Tree) (v : Value) (fs : List Frame) (s : State)
      → IsSteady (λ n. choose self env first second v fs s n)
  unfolding choose
  choice_steady self env first second (Truth true) fs s n k = refl
  choice_steady self env first second _ fs s n k = refl

  turn_kind : (self : Value) (env : Environment) (test body : Tree) (v : Value) (fs : List Frame) (s : State)
      → Kind s (λ n. turn self env test body v fs s n)
  unfolding turn
  turn_kind self env test body (Truth true) fs s = inr (record { none = refl; more = λ n k. refl })
  turn_kind self env test body _ fs s = inl (λ n k. refl)

  item_steady : (self : Value) (env : Environment) (v : Value) (es : Trees) (fs : List Frame) (s : State)
      → IsSteady (λ n. next_item self env v es fs s n)
  unfolding next_item
  item_steady self env v Last fs s n k = refl
  item_steady self env v (More e es) fs s n k = refl

  variable_steady : (self : Value) (env : Environment) (name : List ℕ) (e : Tree) (v : Value) (fs : List Frame) (s : State)
      → IsSteady (λ n. bind self env name e v fs s n)
  unfolding bind
  variable_steady self env name e v fs s n k = refl

  let_steady : (self : Value) (env : Environment) (name type : List ℕ) (init : MaybeTree) (e : Tree) (fs : List Frame)
      (s : State) → IsSteady (λ n. begin_let self env name type init e fs s n)
  unfolding begin_let
  let_steady self env name type Without e fs s n k = refl
  let_steady self env name type (With t) e fs s n k = refl

  taken_steady : (self : Value) (env : Environment) (at : Place) (c : ClassId) (v : Value) (o : Option Taken)
      (fs : List Frame) (s : State) → IsSteady (λ n. take_named self env at c v o fs s n)
  unfolding take_named
  taken_steady self env at c v None fs s n k = refl
  taken_steady self env at c v (Some b) fs s n k = variable_steady self env b.name b.body v fs s n k

  pick_with : (self : Value) (env : Environment) (at : Place) (cs : Cases) (v : Value) (o : Outcome ClassId)
      (fs : List Frame) (k : ℕ) → pick p self env at cs v (left_as o k) fs ≡ next_with (pick p self env at cs v o fs) k
  unfolding pick
  pick_with self env at cs v (Val c s n) fs k = taken_steady self env at c v (nearest_branch p cs (chain p c)) fs s n k
  pick_with self env at cs v _ fs k = refl

  pick_steady : (self : Value) (env : Environment) (at : Place) (cs : Cases) (v : Value) (fs : List Frame) (s : State)
      → IsSteady (λ n. pick p self env at cs v (class_or (CaseVoid at) v s n).outcome fs)
  pick_steady self env at cs v fs s n k =
      ap (λ (o : Outcome ClassId). pick p self env at cs v o fs) ((class_steady (CaseVoid at) v).same s n k)
      ∙ pick_with self env at cs v (class_or (CaseVoid at) v s n).outcome fs k

  -- Steps

  begun_kind : (self : Value) (env : Environment) (t : Tree) (fs : List Frame) (s : State)
      → Kind s (λ n. begun p self env t fs s n)
  unfolding begun
  begun_kind self env (trees.Id at name) fs s =
      inl (after_steady (value_named self env name) fs s (of_named (λ A d. Steady d) steady_words self env name))
  begun_kind self env (trees.Assign at name t) fs s = inl (λ n k. refl)
  begun_kind self env (trees.While at t b) fs s = inl (λ n k. refl)
  begun_kind self env (trees.Dispatch at t name es) fs s = inl (args_steady self env [] es at t None name fs s)
  begun_kind self env (trees.StaticDispatch at t class name es) fs s =
      inl (args_steady self env [] es at t (Some class.name) name fs s)
  begun_kind self env (trees.Block at es) fs s = inl (item_steady self env Void es fs s)
  begun_kind self env (trees.Let at name declared init e) fs s = inl (let_steady self env name declared.name init e fs s)
  begun_kind self env (trees.New at class) fs s = new_kind (class_made p self class.name) fs s
  begun_kind self env _ fs s = inl (λ n k. refl)

  returned_kind : (f : Frame) (v : Value) (fs : List Frame) (s : State) → Kind s (λ n. returned p f v fs s n)
  unfolding returned
  returned_kind (AssignTo env name) v fs s = inl (after_steady (assign env name v) fs s (of_assign (λ A d. Steady d) steady_words env name v))
  returned_kind (Choose self env first second) v fs s = inl (choice_steady self env first second v fs s)
  returned_kind (Turn self env test body) v fs s = turn_kind self env test body v fs s
  returned_kind (Items self env es) v fs s = inl (item_steady self env v es fs s)
  returned_kind (Bind self env name e) v fs s = inl (variable_steady self env name e v fs s)
  returned_kind (Pick self env at cs) v fs s = inl (pick_steady self env at cs v fs s)
  returned_kind (Argument self env vs es at t class name) v fs s =
      inl (args_steady self env (vs ++ v ∷ []) es at t class name fs s)
  returned_kind (Receiver at class name vs) v fs s = call_kind at class name v vs fs s
  returned_kind Invert v fs s = inl (after_steady (inverted v) fs s (of_inverted (λ A d. Steady d) steady_words v))
  returned_kind (Negate at) v fs s = inl (after_steady (negated at v) fs s (of_negated (λ A d. Steady d) steady_words at v))
  returned_kind (Operate at op v) w fs s = inl (after_steady (operated op at v w) fs s (of_operated (λ A d. Steady d) steady_words op at v w))
  returned_kind (CompareTo op v) w fs s = inl (after_steady (compare op v w) fs s (of_compare (λ A d. Steady d) steady_words op v w))
  returned_kind _ v fs s = inl (λ n k. refl)

  -- each step spends none or one
  pub step_kind : (focus : Focus) (fs : List Frame) (s : State) → Kind s (λ n. step p focus fs s n)
  unfolding step
  step_kind (Begin self env t) fs s = begun_kind self env t fs s
  step_kind (Start self rs ls) fs s = inl (values_steady self rs ls fs s)
  step_kind (Return v) [] s = inl (λ n k. refl)
  step_kind (Return v) (f ∷ fs) s = returned_kind f v fs s

-- The result of one step

-- A step that was spent: with no step left it stops at this state, and else it leads on with one less.
pub record StopsBefore (s : State) (next : ℕ → Next) (n n' : ℕ) (focus : Focus) (fs : List Frame) (t : State) : Type 0 where
  pub spent : n ≡ suc n'
  pub none : next zero ≡ Halt (On s)
  pub any : (k : ℕ) → next (suc k) ≡ Continue focus fs t k

-- a step that leads on, spends none or one, and leads there with any number of steps left
pub advance : (s : State) (next : ℕ → Next) → Kind s next → (n n' : ℕ) (focus : Focus) (fs : List Frame) (t : State)
    → next n ≡ Continue focus fs t n'
    → ((n' ≡ n) × ((k : ℕ) → next k ≡ Continue focus fs t k)) ⊎ StopsBefore s next n n' focus fs t
advance s next (inl steady) n n' focus fs t is =
    let there : next n ≡ Continue focus fs t n = steady n n ∙ ap (λ (x : Next). next_with x n) is in
    let same : n' ≡ n = cc in
    inl (same, λ k. steady n k ∙ ap (λ (x : Next). next_with x k) is)
advance s next (inr spends) zero n' focus fs t is = absurd cc
advance s next (inr spends) (suc n) n' focus fs t is =
    let there : next (suc n) ≡ Continue focus fs t n = spends.more n n ∙ ap (λ (x : Next). next_with x n) is in
    let same : n ≡ n' = cc in
    inr (record { spent = ap suc same; none = spends.none; any = λ k. spends.more n k ∙ ap (λ (x : Next). next_with x k) is })
