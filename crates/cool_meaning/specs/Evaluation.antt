-- `eval` is the result of evaluating an expression in an environment, for the object in whose method it stands (the Cool manual, section 13). Parts are
-- evaluated in the order in which the rules name them. The meaning of calls is an argument, so that `eval` recurses only over the tree; `calls_within`
-- defines this meaning for a number of steps.
use Rattle.std.specs.Prelude.{ℕ, zero, suc, ◌+◌, ◌*◌, ℤ, pos, negsuc, ◌+ℤ◌, ◌-ℤ◌, ◌*ℤ◌, neg_ℤ, int_div, int_lt, int_le, Bool as Truth, true, false, not, ◌==◌, nat_eq, if◌then◌else◌, List, [], ◌∷◌, ◌++◌, length, Option, Some, None, codes, bytes_eq}
use Rattle.cool_syntax.specs.declared.place.Place.{Place}
use Rattle.cool_syntax.specs.declared.operator.ArithOp.{ArithOp}
use Rattle.cool_syntax.specs.declared.operator.ArithOp.TheVariants.{Add, Sub, Mul, Div}
use Rattle.cool_syntax.specs.declared.operator.CompareOp.{CompareOp}
use Rattle.cool_syntax.specs.declared.operator.CompareOp.TheVariants.{Less, LessEqual, Equal}
use Rattle.cool_syntax.specs.declared.file_tree.MethodDef.{MethodDef}
use Rattle.cool_syntax.specs.Tree.{Tree, Trees, MaybeTree, Cases, Last, More, Without, With, NoCase, CaseOf}
use Rattle.cool_syntax.specs.Tree as trees
use Rattle.cool_classes.specs.declared.class_id.ClassId.{ClassId}
use Rattle.cool_classes.specs.declared.method.MethodRef.{MethodRef}
use Rattle.cool_classes.specs.declared.method.MethodRef.TheVariants.{Basic, User}
use Rattle.cool_classes.specs.declared.method.AttributeRef.{AttributeRef}
use Rattle.cool_classes.specs.Chains.{Class, name_of}
use Rattle.cool_classes.specs.Features.{implementation}
use Rattle.cool_meaning.specs.Values.{Value, Void, Int, Bool, Str, Obj, Environment, location_of, class_of, default_of}
use Rattle.cool_meaning.specs.Meters.{Error, DispatchVoid, CaseVoid, NoBranch, DivisionByZero, Overflow, Computation, ◌>>=◌, ◌>>◌, give, stop, stuck, spend, rule, working, giving, holding, given, locate, load, store}
use Rattle.cool_meaning.specs.Numbers.{fits, is_zero, signed}
use Rattle.cool_classes.specs.ClimbedChains.{chain}
use Rattle.cool_rules.specs.Rules.{class_named}
use Rattle.cool_meaning.specs.Lookups.{class_made, method_at, attributes, default_values, init_of, located, formal_names, locations_of, environment_of}
use Rattle.cool_meaning.specs.BasicMethods.{basic, as_number, as_truth, new_number, new_truth, new_string, draw, locate_all}

-- A call: of the method at an index among the features of a class, on a receiver with arguments; of the initial values of the attributes
-- of a class and of those above it, for a new object.
pub data Call : Type 0 where
  Body : (owner : ClassId) (index : ℕ) (self : Value) (arguments : List Value) → Call
  Initials : (class : ClassId) (self : Value) → Call

abbrev pub Calls : Type 0
Calls = Call → Computation Value

-- the class of a value, or an error where it is void
abbrev pub class_or : Error → Value → Computation ClassId
class_or e Void = stop e
class_or e (Int n) = given (class_of (Int n))
class_or e (Bool b) = given (class_of (Bool b))
class_or e (Str bytes) = given (class_of (Str bytes))
class_or e (Obj c i ls) = give c

-- Names

abbrev pub value_named : Value → Environment → List ℕ → Computation Value
value_named self env name = if bytes_eq name (codes "self") then give self else (given (location_of env name) >>= load)

abbrev pub assign : Environment → List ℕ → Value → Computation Value
assign env name v = do
  l ← given (location_of env name)
  store l v
  give v

-- Numbers and comparisons

-- the result if it fits in 32 bits, and otherwise an overflow
abbrev pub exact : Place → ℤ → Computation Value
exact at n = if fits n then new_number n else stop (Overflow at)

abbrev pub divide : Place → ℤ → ℤ → Computation Value
divide at m n = if is_zero n then stop (DivisionByZero at) else exact at (int_div m n)

abbrev pub arithmetic : ArithOp → Place → ℤ → ℤ → Computation Value
arithmetic Add at m n = exact at (m +ℤ n)
arithmetic Sub at m n = exact at (m -ℤ n)
arithmetic Mul at m n = exact at (m *ℤ n)
arithmetic Div at m n = divide at m n

abbrev pub same_number : ℤ → ℤ → Truth
same_number (pos m) (pos n) = nat_eq m n
same_number (negsuc m) (negsuc n) = nat_eq m n
same_number _ _ = false

-- numbers, truths and strings are equal by value, objects by identity, and void only to void
abbrev pub same : Value → Value → Truth
same Void Void = true
same (Int m) (Int n) = same_number m n
same (Bool a) (Bool b) = (if a then b else not b)
same (Str xs) (Str ys) = bytes_eq xs ys
same (Obj c i ls) (Obj d j ks) = nat_eq i j
same _ _ = false

-- the work of comparing two strings
abbrev pub bytes_compared : Value → Value → ℕ
bytes_compared (Str xs) (Str ys) = length xs + length ys
bytes_compared _ _ = 0

abbrev pub compare : CompareOp → Value → Value → Computation Value
compare Less v w = do
  m ← as_number v
  n ← as_number w
  give (Bool (int_lt m n))
compare LessEqual v w = do
  m ← as_number v
  n ← as_number w
  give (Bool (int_le m n))
compare Equal v w = working (bytes_compared v w) (give (Bool (same v w)))

abbrev pub is_void : Value → Truth
is_void Void = true
is_void _ = false

-- Loops

-- a loop of at most so many turns, each of which takes a step
abbrev pub turns : ℕ → Computation Value → Computation Value → Computation Value
turns zero test body = stuck
turns (suc k) test body = do
  v ← test
  b ← as_truth v
  if b then spend (working 1 (body >> turns k test body)) else give Void

-- a loop, with one turn more than there are steps left: the steps run out first
abbrev pub loop : Computation Value → Computation Value → Computation Value
loop test body s n = turns (suc n) test body s n

-- New objects

-- an object's locations with the defaults of its attributes, its identity, and then the initial values
abbrev pub new_object : List Class → Calls → ClassId → Computation Value
new_object p calls c = working (length (attributes p c) + length (chain p c)) (giving (4 + length (attributes p c)) (do
  ls ← locate_all (default_values p (attributes p c))
  i ← draw
  calls (Initials c (Obj c i ls))
  give (Obj c i ls)))

-- the class of a new value, whose rule is pending once for each class of its chain; Int, Bool and String have no more than a value
abbrev pub make : List Class → Calls → Option ClassId → Computation Value
make p calls None = stuck
make p calls (Some c) =
    if c.0 == 2 then rule (spend (new_number (pos 0)))
    else (if c.0 == 3 then rule (spend (new_truth false))
    else (if c.0 == 4 then rule (spend (new_string []))
    else working 1 (holding (length (chain p c)) (spend (new_object p calls c)))))

-- Dispatch

abbrev pub invoke : List Class → Calls → Place → Value → List Value → Option MethodRef → Computation Value
invoke p calls at v vs None = stuck
invoke p calls at v vs (Some (Basic m)) = basic p m at v vs
invoke p calls at v vs (Some (User owner k)) = calls (Body owner k v vs)

-- the method of a name that a class has, on a receiver of a class below it
abbrev pub dispatch : List Class → Calls → Place → ClassId → List ℕ → Value → List Value → Computation Value
dispatch p calls at c name v vs = spend (working (length vs) (invoke p calls at v vs (implementation p (chain p c) name)))

-- Cases

abbrev pub Branch : Type 0
Branch = Value → Computation Value

abbrev pub or_else : Option Branch → Option Branch → Option Branch
or_else None o = o
or_else (Some b) o = Some b

-- the branch of the first of these classes that has one
abbrev pub nearest : List Class → (List ℕ → Option Branch) → List ClassId → Option Branch
nearest p branch [] = None
nearest p branch (c ∷ cs) = or_else (branch (name_of p c)) (nearest p branch cs)

abbrev pub take_branch : Place → ClassId → Value → Option Branch → Computation Value
take_branch at c v None = stop (NoBranch at c)
take_branch at c v (Some branch) = branch v

abbrev pub branch_count : Cases → ℕ
branch_count NoCase = 0
branch_count (CaseOf at name declared t cs) = suc (branch_count cs)

-- Evaluation

abbrev mutual
  -- the value of an expression; a number stands in a tree as the word of its 32 bits
  pub eval : List Class → Calls → Value → Environment → Tree → Computation Value
  eval p calls self env (trees.Id at name) = rule (value_named self env name)
  eval p calls self env (trees.Int at n) = rule (give (Int (signed n)))
  eval p calls self env (trees.Str at bytes) = rule (give (Str bytes))
  eval p calls self env (trees.Bool at b) = rule (give (Bool b))
  eval p calls self env (trees.Assign at name t) = rule (do
    v ← eval p calls self env t
    assign env name v)
  eval p calls self env (trees.Dispatch at t name ts) = rule (do
    vs ← eval_all p calls self env ts
    holding (length vs) (do
      v ← eval p calls self env t
      c ← class_or (DispatchVoid at) v
      dispatch p calls at c name v vs))
  eval p calls self env (trees.StaticDispatch at t class name ts) = rule (do
    vs ← eval_all p calls self env ts
    holding (length vs) (do
      v ← eval p calls self env t
      d ← class_or (DispatchVoid at) v
      c ← given (class_named p class.name)
      dispatch p calls at c name v vs))
  eval p calls self env (trees.If at test first second) = rule (do
    v ← eval p calls self env test
    b ← as_truth v
    if b then eval p calls self env first else eval p calls self env second)
  eval p calls self env (trees.While at test body) = rule (loop (eval p calls self env test) (eval p calls self env body))
  eval p calls self env (trees.Block at ts) = rule (eval_items p calls self env Void ts)
  eval p calls self env (trees.Let at name declared init body) = rule (do
    v ← eval_init p calls self env declared.name init
    l ← locate v
    eval p calls self (record { name = name; location = l } ∷ env) body)
  eval p calls self env (trees.Case at t cs) = rule (do
    v ← eval p calls self env t
    c ← class_or (CaseVoid at) v
    working (branch_count cs * length (chain p c)) (take_branch at c v (nearest p (branch_of p calls self env cs) (chain p c))))
  eval p calls self env (trees.New at class) = make p calls (class_made p self class.name)
  eval p calls self env (trees.IsVoid at t) = rule (do
    v ← eval p calls self env t
    give (Bool (is_void v)))
  eval p calls self env (trees.Not at t) = rule (do
    v ← eval p calls self env t
    b ← as_truth v
    give (Bool (not b)))
  eval p calls self env (trees.Neg at t) = rule (do
    v ← eval p calls self env t
    n ← as_number v
    exact at (neg_ℤ n))
  eval p calls self env (trees.Arith at op a b) = rule (do
    v ← eval p calls self env a
    w ← eval p calls self env b
    m ← as_number v
    n ← as_number w
    arithmetic op at m n)
  eval p calls self env (trees.Compare at op a b) = rule (do
    v ← eval p calls self env a
    w ← eval p calls self env b
    compare op v w)

  -- the values of arguments: each is held while the later ones are evaluated
  pub eval_all : List Class → Calls → Value → Environment → Trees → Computation (List Value)
  eval_all p calls self env Last = give []
  eval_all p calls self env (More t ts) = do
    v ← eval p calls self env t
    holding 1 (do
      vs ← eval_all p calls self env ts
      give (v ∷ vs))

  -- the value of the last item of a block, or of the one before where there is none
  pub eval_items : List Class → Calls → Value → Environment → Value → Trees → Computation Value
  eval_items p calls self env v Last = give v
  eval_items p calls self env v (More t ts) = do
    w ← eval p calls self env t
    eval_items p calls self env w ts

  -- the initial value of a variable, or the default of its type
  pub eval_init : List Class → Calls → Value → Environment → List ℕ → MaybeTree → Computation Value
  eval_init p calls self env type Without = give (default_of type)
  eval_init p calls self env type (With t) = eval p calls self env t

  -- the result of the branch of a class's name with the value, if there is one
  pub branch_of : List Class → Calls → Value → Environment → Cases → List ℕ → Option Branch
  branch_of p calls self env NoCase class = None
  branch_of p calls self env (CaseOf at name declared t cs) class =
      if bytes_eq declared.name class then Some (λ v. do
        l ← locate v
        eval p calls self (record { name = name; location = l } ∷ env) t)
      else branch_of p calls self env cs class

-- Calls

-- the body of a method, in the environment of the receiver's attributes and then of the formals at new locations
abbrev pub run_method : List Class → Calls → Value → List Value → Option MethodDef → Computation Value
run_method p calls self vs None = stuck
run_method p calls self vs (Some m) = do
  ls ← locate_all vs
  eval p calls self (located (formal_names m.formals) ls ++ environment_of p self) m.body

-- an initial value is stored at once
abbrev pub run_initial : List Class → Calls → Value → ℕ → Option Tree → Computation (Unit {0})
run_initial p calls self l None = give tt
run_initial p calls self l (Some t) = working 1 (do
  v ← eval p calls self (environment_of p self) t
  store l v)

-- the initial values of attributes at these locations, in order
abbrev pub run_initials : List Class → Calls → Value → List AttributeRef → List ℕ → Computation Value
run_initials p calls self [] ls = give self
run_initials p calls self (a ∷ rs) [] = stuck
run_initials p calls self (a ∷ rs) (l ∷ ls) = run_initial p calls self l (init_of p a) >> run_initials p calls self rs ls

abbrev pub run_call : List Class → Calls → Call → Computation Value
run_call p calls (Body owner k self vs) = run_method p calls self vs (method_at p owner k)
run_call p calls (Initials c self) = run_initials p calls self (attributes p c) (locations_of self)

-- The results of calls with at most so many steps left. Each call took a step, so with none left there is no call.
abbrev pub calls_within : List Class → ℕ → Calls
calls_within p zero call = stuck
calls_within p (suc n) call = run_call p (calls_within p n) call
