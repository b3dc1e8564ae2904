-- The visits of an evaluation are the expressions that it begins, in order: the expression itself, and its subexpressions, each if all before it have a value.
-- Expressions begun in called methods and initial values are also visits.
use Rattle.std.proofs.Common.{inl, inr, ap, arith}
use Rattle.std.specs.Prelude.{◌≡◌, refl, ℕ, zero, suc, ◌+◌, Bool as Truth, true, false, ◌==◌, ◌⊎◌, List, [], ◌∷◌, ◌++◌, Option, Some, None, codes, bytes_eq, if◌then◌else◌}
use Rattle.cool_syntax.specs.declared.file_tree.MethodDef.{MethodDef}
use Rattle.cool_syntax.specs.Bare.{nowhere}
use Rattle.cool_syntax.specs.Tree.{Tree, Trees, MaybeTree, Cases, Last, More, Without, With, NoCase, CaseOf, tree_size, maybe_size}
use Rattle.cool_syntax.specs.Tree as trees
use Rattle.cool_classes.specs.declared.class_id.ClassId.{ClassId}
use Rattle.cool_classes.specs.declared.method.MethodRef.{MethodRef}
use Rattle.cool_classes.specs.declared.method.MethodRef.TheVariants.{Basic, User}
use Rattle.cool_classes.specs.declared.method.AttributeRef.{AttributeRef}
use Rattle.cool_classes.specs.Chains.{Class, name_of}
use Rattle.cool_classes.specs.ClimbedChains.{chain}
use Rattle.cool_classes.specs.Features.{implementation}
use Rattle.cool_rules.specs.Rules.{class_named}
use Rattle.cool_meaning.specs.Values.{Value, Void, Bool, Obj, State, Environment, start}
use Rattle.cool_meaning.specs.Meters.{DispatchVoid, CaseVoid, Val, Computation, given, locate}
use Rattle.cool_meaning.specs.Lookups.{attributes, class_made, default_values, environment_of, formal_names, init_of, located, locations_of, method_at}
use Rattle.cool_meaning.specs.BasicMethods.{draw, locate_all}
use Rattle.cool_meaning.specs.Evaluation.{Call, Calls, Body, Initials, calls_within, class_or, eval, eval_all, eval_init, run_initial}

-- An expression that is begun: the class and the feature in whose body it stands and how many of the body's nodes stand before its own; the
-- object in whose method it stands, its environment, the state, and the steps that are left.
pub record Visit : Type 0 where
  pub class : ClassId
  pub feature : ℕ
  pub first : ℕ
  pub tree : Tree
  pub self : Value
  pub environment : Environment
  pub state : State
  pub left : ℕ

-- the visits from a state on, with so many steps
abbrev pub Visits : Type 1
Visits = State → ℕ → Visit → Type 0

-- nothing; by one or by the other; where something holds

abbrev pub nothing : Visits
nothing st n x = ⊥

infixr 6 ◌or◌
abbrev pub ◌or◌ : Visits → Visits → Visits
(V or W) st n x = V st n x ⊎ W st n x

abbrev pub provided : Type 0 → Visits → Visits
provided A V st n x = A × V st n x

-- the visits after a computation that comes to a value
abbrev pub behind : {A : Type 0} → Computation A → (A → Visits) → Visits
behind {A} d V st n x = (v : A) × (t : State) × (left : ℕ) × ((d st n).outcome ≡ Val v t left) × V v t left x

-- the visits after a step, if one is left
abbrev pub behind_step : Visits → Visits
behind_step V st zero x = ⊥
behind_step V st (suc n) x = V st n x

-- The calls of a program, and what each begins
module _ (p : List Class) (calls : Calls) (begun_in : Call → Visits) where
  abbrev pub called : Value → List Value → Option MethodRef → Visits
  called v vs None = nothing
  called v vs (Some (Basic m)) = nothing
  called v vs (Some (User owner i)) = begun_in (Body owner i v vs)

  abbrev pub dispatched : ClassId → List ℕ → Value → List Value → Visits
  dispatched c name v vs = behind_step (called v vs (implementation p (chain p c) name))

  -- the initial values of a new object; Int, Bool and String have none
  abbrev pub made : Option ClassId → Visits
  made None = nothing
  made (Some c) =
      provided (((c.0 == 2) ≡ false) × ((c.0 == 3) ≡ false) × ((c.0 == 4) ≡ false))
      (behind_step (behind (locate_all (default_values p (attributes p c))) (λ ls. behind draw (λ i. begun_in (Initials c (Obj c i ls))))))

  -- the turns of a loop: a step is taken where the test holds
  abbrev pub turns_begun : ℕ → Computation Value → Computation Value → Visits → Visits → Visits
  turns_begun zero test body V W = nothing
  turns_begun (suc k) test body V W = V or behind test (λ v. provided (v ≡ Bool true) (behind_step (W or behind body (λ w. turns_begun k test body V W))))

  abbrev pub loop_begun : Computation Value → Computation Value → Visits → Visits → Visits
  loop_begun test body V W st n = turns_begun (suc n) test body V W st n

  -- whether a branch names a class, and the first class that one names
  abbrev pub has_branch : Cases → List ℕ → Truth
  has_branch NoCase name = false
  has_branch (CaseOf at x declared t cs) name = if bytes_eq declared.name name then true else has_branch cs name

  abbrev pub nearest_name : Cases → List ClassId → Option (List ℕ)
  nearest_name cs [] = None
  nearest_name cs (c ∷ ds) = if has_branch cs (name_of p c) then Some (name_of p c) else nearest_name cs ds

  module _ (c : ClassId) (f : ℕ) (self : Value) where
    abbrev pub here : Environment → ℕ → Tree → Visits
    here env k t st n x = x ≡ record { class = c; feature = f; first = k; tree = t; self = self; environment = env; state = st; left = n }

    abbrev mutual
      -- the visits of an expression with so many nodes before it
      pub begun : Environment → ℕ → Tree → Visits
      begun env k (trees.Id at name) = here env k (trees.Id at name)
      begun env k (trees.Int at n) = here env k (trees.Int at n)
      begun env k (trees.Str at bytes) = here env k (trees.Str at bytes)
      begun env k (trees.Bool at b) = here env k (trees.Bool at b)
      begun env k (trees.Assign at name t) = here env k (trees.Assign at name t) or begun env k t
      begun env k (trees.Dispatch at t name ts) =
          here env k (trees.Dispatch at t name ts)
          or all_begun env (k + tree_size t) ts
          or behind (eval_all p calls self env ts) (λ vs. begun env k t or behind (eval p calls self env t) (λ v. behind (class_or (DispatchVoid at) v) (λ d. dispatched d name v vs)))
      begun env k (trees.StaticDispatch at t class name ts) =
          here env k (trees.StaticDispatch at t class name ts)
          or all_begun env (k + tree_size t) ts
          or behind (eval_all p calls self env ts) (λ vs. begun env k t or behind (eval p calls self env t) (λ v. behind (class_or (DispatchVoid at) v) (λ e. behind (given (class_named p class.name)) (λ d. dispatched d name v vs))))
      begun env k (trees.If at test first second) =
          here env k (trees.If at test first second)
          or begun env k test
          or behind (eval p calls self env test)
          (λ v. provided (v ≡ Bool true) (begun env (k + tree_size test) first) or provided (v ≡ Bool false) (begun env (k + tree_size test + tree_size first) second))
      begun env k (trees.While at test body) =
          here env k (trees.While at test body) or loop_begun (eval p calls self env test) (eval p calls self env body) (begun env k test) (begun env (k + tree_size test) body)
      begun env k (trees.Block at ts) = here env k (trees.Block at ts) or items_begun env k ts
      begun env k (trees.Let at name declared init body) =
          here env k (trees.Let at name declared init body)
          or init_begun env k init
          or behind (eval_init p calls self env declared.name init) (λ v. behind (locate v) (λ l. begun (record { name = name; location = l } ∷ env) (k + maybe_size init) body))
      begun env k (trees.Case at t cs) =
          here env k (trees.Case at t cs)
          or begun env k t
          or behind (eval p calls self env t) (λ v. behind (class_or (CaseVoid at) v) (λ d. behind (given (nearest_name cs (chain p d))) (λ name. branch_begun env (k + tree_size t) v name cs)))
      begun env k (trees.New at class) = here env k (trees.New at class) or made (class_made p self class.name)
      begun env k (trees.IsVoid at t) = here env k (trees.IsVoid at t) or begun env k t
      begun env k (trees.Not at t) = here env k (trees.Not at t) or begun env k t
      begun env k (trees.Neg at t) = here env k (trees.Neg at t) or begun env k t
      begun env k (trees.Arith at op a b) = here env k (trees.Arith at op a b) or begun env k a or behind (eval p calls self env a) (λ v. begun env (k + tree_size a) b)
      begun env k (trees.Compare at op a b) = here env k (trees.Compare at op a b) or begun env k a or behind (eval p calls self env a) (λ v. begun env (k + tree_size a) b)

      pub all_begun : Environment → ℕ → Trees → Visits
      all_begun env k Last = nothing
      all_begun env k (More t ts) = begun env k t or behind (eval p calls self env t) (λ v. all_begun env (k + tree_size t) ts)

      pub items_begun : Environment → ℕ → Trees → Visits
      items_begun env k Last = nothing
      items_begun env k (More t ts) = begun env k t or behind (eval p calls self env t) (λ v. items_begun env (k + tree_size t) ts)

      pub init_begun : Environment → ℕ → MaybeTree → Visits
      init_begun env k Without = nothing
      init_begun env k (With t) = begun env k t

      -- the first branch that names this class
      pub branch_begun : Environment → ℕ → Value → List ℕ → Cases → Visits
      branch_begun env k v class NoCase = nothing
      branch_begun env k v class (CaseOf at name declared t cs) =
          provided (bytes_eq declared.name class ≡ true) (behind (locate v) (λ l. begun (record { name = name; location = l } ∷ env) k t))
          or provided (bytes_eq declared.name class ≡ false) (branch_begun env (k + tree_size t) v class cs)

  -- a method's body, and the initial values of attributes in order

  abbrev pub method_begun : ClassId → ℕ → Value → List Value → Option MethodDef → Visits
  method_begun owner i self vs None = nothing
  method_begun owner i self vs (Some m) = behind (locate_all vs) (λ ls. begun owner i self (located (formal_names m.formals) ls ++ environment_of p self) 0 m.body)

  abbrev pub initial_begun : Value → AttributeRef → Option Tree → Visits
  initial_begun self a None = nothing
  initial_begun self a (Some t) = begun a.owner a.index self (environment_of p self) 0 t

  abbrev pub initials_begun : Value → List AttributeRef → List ℕ → Visits
  initials_begun self [] ls = nothing
  initials_begun self (a ∷ rs) [] = nothing
  initials_begun self (a ∷ rs) (l ∷ ls) = initial_begun self a (init_of p a) or behind (run_initial p calls self l (init_of p a)) (λ u. initials_begun self rs ls)

  abbrev pub call_begun : Call → Visits
  call_begun (Body owner i self vs) = method_begun owner i self vs (method_at p owner i)
  call_begun (Initials c self) = initials_begun self (attributes p c) (locations_of self)

-- the visits of calls with at most so many steps left
abbrev pub begun_within : List Class → ℕ → Call → Visits
begun_within p zero call = nothing
begun_within p (suc n) call = call_begun p (calls_within p n) (begun_within p n) call

-- The visits of a program's run with so many steps on an input: those of `new Main`, and those of `main` of the new object.
abbrev pub program_begun : List Class → List ℕ → ℕ → Visit → Type 0
program_begun p input n =
    (made p (calls_within p n) (begun_within p n) (class_named p (codes "Main"))
    or behind (eval p (calls_within p n) Void [] (trees.New nowhere (record { name = codes "Main"; at = nowhere })))
    (λ v. behind (class_or (DispatchVoid nowhere) v) (λ c. dispatched p (calls_within p n) (begun_within p n) c (codes "main") v [])))
    (start input) n

-- Worked examples: `if true then 1 else 2` begins 1 and not 2.
abbrev choice : Tree
choice = trees.If nowhere (trees.Bool nowhere true) (trees.Int nowhere 1) (trees.Int nowhere 2)

module _ (p : List Class) (calls : Calls) (begun_in : Call → Visits) (c : ClassId) (self : Value) (st : State) where
  abbrev visit : ℕ → Tree → Visit
  visit k t = record { class = c; feature = 0; first = k; tree = t; self = self; environment = []; state = st; left = 0 }

  first_begun : begun p calls begun_in c 0 self [] 0 choice st 0 (visit 1 (trees.Int nowhere 1))
  first_begun = inr (inr (Bool true, st, 0, refl, inl (refl, refl)))

  second_not : begun p calls begun_in c 0 self [] 0 choice st 0 (visit 2 (trees.Int nowhere 2)) → ⊥
  second_not (inl same) = let e : ◌≡◌ {A = ℕ} 2 0 = ap (λ (x : Visit). x.first) same in absurd (omega arith)
  second_not (inr (inl same)) = let e : ◌≡◌ {A = ℕ} 2 0 = ap (λ (x : Visit). x.first) same in absurd (omega arith)
  second_not (inr (inr (v, t, left, e, inl (is, same)))) = let e : ◌≡◌ {A = ℕ} 2 1 = ap (λ (x : Visit). x.first) same in absurd (omega arith)
  second_not (inr (inr (v, t, left, e, inr (is, same)))) = let other : Val (Bool true) st 0 ≡ Val v t left = e in absurd cc
