-- A machine that evaluates expressions with an explicit stack of frames: its frames, each of which waits for the value of a subexpression, and its steps.
use Rattle.std.specs.Prelude.{ℕ, zero, suc, ◌+◌, pos, neg_ℤ, true, false, not, ◌==◌, if◌then◌else◌, List, [], ◌∷◌, ◌++◌, length, slice_set, Option, Some, None, bytes_eq}
use Rattle.cool_syntax.specs.declared.place.Place.{Place}
use Rattle.cool_syntax.specs.declared.operator.ArithOp.{ArithOp}
use Rattle.cool_syntax.specs.declared.operator.CompareOp.{CompareOp}
use Rattle.cool_syntax.specs.declared.file_tree.MethodDef.{MethodDef}
use Rattle.cool_syntax.specs.Tree.{Tree, Trees, MaybeTree, Cases, Last, More, Without, With, NoCase, CaseOf}
use Rattle.cool_syntax.specs.Tree as trees
use Rattle.cool_classes.specs.declared.class_id.ClassId.{ClassId}
use Rattle.cool_classes.specs.declared.method.MethodRef.{MethodRef}
use Rattle.cool_classes.specs.declared.method.MethodRef.TheVariants.{Basic, User}
use Rattle.cool_classes.specs.declared.method.AttributeRef.{AttributeRef}
use Rattle.cool_classes.specs.Chains.{Class, name_of}
use Rattle.cool_classes.specs.Features.{implementation}
use Rattle.cool_classes.specs.ClimbedChains.{chain}
use Rattle.cool_rules.specs.Rules.{class_named}
use Rattle.cool_meaning.specs.Values.{Value, Void, Int, Bool, Str, Obj, State, Environment, default_of}
use Rattle.cool_meaning.specs.Numbers.{signed}
use Rattle.cool_meaning.specs.Meters.{Outcome, Val, Stop, On, Stuck, DispatchVoid, CaseVoid, NoBranch, Computation, ◌>>=◌, give, given}
use Rattle.cool_meaning.specs.Lookups.{class_made, method_at, attributes, default_values, init_of, located, formal_names, environment_of}
use Rattle.cool_meaning.specs.BasicMethods.{as_truth, as_number, basic, locate_all}
use Rattle.cool_meaning.specs.Evaluation.{class_or, value_named, assign, exact, arithmetic, compare, is_void}

-- A frame, which waits for a value: the parts after each arrow of the rules.
pub data Frame : Type 0 where
  AssignTo : (env : Environment) (name : List ℕ) → Frame
  Choose : (self : Value) (env : Environment) (first second : Tree) → Frame
  Turn : (self : Value) (env : Environment) (test body : Tree) → Frame
  Again : (self : Value) (env : Environment) (test body : Tree) → Frame
  Items : (self : Value) (env : Environment) (rest : Trees) → Frame
  Bind : (self : Value) (env : Environment) (name : List ℕ) (body : Tree) → Frame
  Pick : (self : Value) (env : Environment) (at : Place) (branches : Cases) → Frame
  Fill : (self : Value) (location : ℕ) (rest : List AttributeRef) (locations : List ℕ) → Frame
  Argument : (self : Value) (env : Environment) (given : List Value) (rest : Trees) (at : Place) (receiver : Tree) (class : Option (List ℕ)) (name : List ℕ) → Frame
  Receiver : (at : Place) (class : Option (List ℕ)) (name : List ℕ) (given : List Value) → Frame
  TestVoid : Frame
  Invert : Frame
  Negate : (at : Place) → Frame
  Operand : (self : Value) (env : Environment) (at : Place) (op : ArithOp) (right : Tree) → Frame
  Operate : (at : Place) (op : ArithOp) (left : Value) → Frame
  Compared : (self : Value) (env : Environment) (op : CompareOp) (right : Tree) → Frame
  CompareTo : (op : CompareOp) (left : Value) → Frame

-- The next action: an expression is begun, a value is returned, or the next initial value of a new object is begun.
pub data Focus : Type 0 where
  Begin : (self : Value) (env : Environment) (t : Tree) → Focus
  Return : (value : Value) → Focus
  Start : (self : Value) (rest : List AttributeRef) (locations : List ℕ) → Focus

-- The machine goes on, or has come to its end.
pub data Next : Type 0 where
  Continue : (focus : Focus) (frames : List Frame) (state : State) (left : ℕ) → Next
  Halt : (outcome : Outcome Value) → Next

-- a value with the frames below it, or an end
unfoldable pub after : Outcome Value → List Frame → Next
after (Val v s n) fs = Continue (Return v) fs s n
after (Stop e s) fs = Halt (Stop e s)
after (On s) fs = Halt (On s)
after Stuck fs = Halt Stuck

-- Calls

-- the next argument, or else the receiver
unfoldable pub begin_args : Value → Environment → List Value → Trees → Place → Tree → Option (List ℕ) → List ℕ → List Frame → State → ℕ → Next
begin_args self env given Last at t class name fs s n = Continue (Begin self env t) (Receiver at class name given ∷ fs) s n
begin_args self env given (More e es) at t class name fs s n = Continue (Begin self env e) (Argument self env given es at t class name ∷ fs) s n

-- the body of a method, with its arguments at new locations
unfoldable pub begin_body : List Class → Value → MethodDef → Outcome (List ℕ) → List Frame → Next
begin_body p self m (Val ls s n) fs = Continue (Begin self (located (formal_names m.formals) ls ++ environment_of p self) m.body) fs s n
begin_body p self m (Stop e s) fs = Halt (Stop e s)
begin_body p self m (On s) fs = Halt (On s)
begin_body p self m Stuck fs = Halt Stuck

unfoldable pub begin_method : List Class → Value → List Value → Option MethodDef → List Frame → State → ℕ → Next
begin_method p self vs None fs s n = Halt Stuck
begin_method p self vs (Some m) fs s n = begin_body p self m (locate_all vs s n).outcome fs

unfoldable pub begin_call : List Class → Place → Value → List Value → Option MethodRef → List Frame → State → ℕ → Next
begin_call p at v vs None fs s n = Halt Stuck
begin_call p at v vs (Some (Basic m)) fs s n = after (basic p m at v vs s n).outcome fs
begin_call p at v vs (Some (User owner k)) fs s n = begin_method p v vs (method_at p owner k) fs s n

-- the class in which the method is looked up: the receiver's, or the one that the source names
abbrev pub class_called : List Class → Place → Option (List ℕ) → Value → Computation ClassId
class_called p at None v = class_or (DispatchVoid at) v
class_called p at (Some class) v = class_or (DispatchVoid at) v >>= λ d. given (class_named p class)

-- a step is spent at each call
unfoldable pub call_class : List Class → Place → List ℕ → Value → List Value → Outcome ClassId → List Frame → Next
call_class p at name v vs (Val c s zero) fs = Halt (On s)
call_class p at name v vs (Val c s (suc n)) fs = begin_call p at v vs (implementation p (chain p c) name) fs s n
call_class p at name v vs (Stop e s) fs = Halt (Stop e s)
call_class p at name v vs (On s) fs = Halt (On s)
call_class p at name v vs Stuck fs = Halt Stuck

-- New objects

-- an object with its locations, and then its initial values
unfoldable pub begin_object : List Class → ClassId → Outcome (List ℕ) → List Frame → Next
begin_object p c (Val ls s n) fs = Continue (Start (Obj c s.drawn ls) (attributes p c) ls) fs (record s { drawn = s.drawn + 1 }) n
begin_object p c (Stop e s) fs = Halt (Stop e s)
begin_object p c (On s) fs = Halt (On s)
begin_object p c Stuck fs = Halt Stuck

-- a step is spent at each new value
unfoldable pub begin_new : List Class → Option ClassId → List Frame → State → ℕ → Next
begin_new p None fs s n = Halt Stuck
begin_new p (Some c) fs s zero = Halt (On s)
begin_new p (Some c) fs s (suc n) =
    if c.0 == 2 then Continue (Return (Int (pos 0))) fs s n
    else (if c.0 == 3 then Continue (Return (Bool false)) fs s n
    else (if c.0 == 4 then Continue (Return (Str [])) fs s n
    else begin_object p c (locate_all (default_values p (attributes p c)) s n).outcome fs))

-- the initial value of an attribute, where it has one
unfoldable pub start_value : List Class → Value → Option Tree → ℕ → List AttributeRef → List ℕ → List Frame → State → ℕ → Next
start_value p self None l rs ls fs s n = Continue (Start self rs ls) fs s n
start_value p self (Some t) l rs ls fs s n = Continue (Begin self (environment_of p self) t) (Fill self l rs ls ∷ fs) s n

unfoldable pub start_values : List Class → Value → List AttributeRef → List ℕ → List Frame → State → ℕ → Next
start_values p self [] ls fs s n = Continue (Return self) fs s n
start_values p self (a ∷ rs) [] fs s n = Halt Stuck
start_values p self (a ∷ rs) (l ∷ ls) fs s n = start_value p self (init_of p a) l rs ls fs s n

-- Conditions, loops, blocks

unfoldable pub choose : Value → Environment → Tree → Tree → Value → List Frame → State → ℕ → Next
choose self env first second (Bool true) fs s n = Continue (Begin self env first) fs s n
choose self env first second (Bool false) fs s n = Continue (Begin self env second) fs s n
choose self env first second Void fs s n = Halt Stuck
choose self env first second (Int i) fs s n = Halt Stuck
choose self env first second (Str bytes) fs s n = Halt Stuck
choose self env first second (Obj c i ls) fs s n = Halt Stuck

-- a step is spent at each turn
unfoldable pub turn : Value → Environment → Tree → Tree → Value → List Frame → State → ℕ → Next
turn self env test body (Bool true) fs s zero = Halt (On s)
turn self env test body (Bool true) fs s (suc n) = Continue (Begin self env body) (Again self env test body ∷ fs) s n
turn self env test body (Bool false) fs s n = Continue (Return Void) fs s n
turn self env test body Void fs s n = Halt Stuck
turn self env test body (Int i) fs s n = Halt Stuck
turn self env test body (Str bytes) fs s n = Halt Stuck
turn self env test body (Obj c i ls) fs s n = Halt Stuck

unfoldable pub next_item : Value → Environment → Value → Trees → List Frame → State → ℕ → Next
next_item self env v Last fs s n = Continue (Return v) fs s n
next_item self env v (More e es) fs s n = Continue (Begin self env e) (Items self env es ∷ fs) s n

-- Variables and cases

-- an expression in an environment with one more variable, at a new location
unfoldable pub bind : Value → Environment → List ℕ → Tree → Value → List Frame → State → ℕ → Next
bind self env name body v fs s n =
    Continue (Begin self (record { name = name; location = length s.store } ∷ env) body) fs (record s { store = s.store ++ v ∷ [] }) n

unfoldable pub begin_let : Value → Environment → List ℕ → List ℕ → MaybeTree → Tree → List Frame → State → ℕ → Next
begin_let self env name type Without body fs s n = Continue (Return (default_of type)) (Bind self env name body ∷ fs) s n
begin_let self env name type (With t) body fs s n = Continue (Begin self env t) (Bind self env name body ∷ fs) s n

-- the branch of a class's name
pub record Taken : Type 0 where
  pub name : List ℕ
  pub body : Tree

abbrev pub branch_named : Cases → List ℕ → Option Taken
branch_named NoCase class = None
branch_named (CaseOf at name declared t cs) class = if bytes_eq declared.name class then Some (record { name = name; body = t }) else branch_named cs class

abbrev pub first_branch : Option Taken → Option Taken → Option Taken
first_branch None o = o
first_branch (Some b) o = Some b

-- the branch of the first of these classes that has one
abbrev pub nearest_branch : List Class → Cases → List ClassId → Option Taken
nearest_branch p cs [] = None
nearest_branch p cs (c ∷ ds) = first_branch (branch_named cs (name_of p c)) (nearest_branch p cs ds)

unfoldable pub take_named : Value → Environment → Place → ClassId → Value → Option Taken → List Frame → State → ℕ → Next
take_named self env at c v None fs s n = Halt (Stop (NoBranch at c) s)
take_named self env at c v (Some b) fs s n = bind self env b.name b.body v fs s n

unfoldable pub pick : List Class → Value → Environment → Place → Cases → Value → Outcome ClassId → List Frame → Next
pick p self env at cs v (Val c s n) fs = take_named self env at c v (nearest_branch p cs (chain p c)) fs s n
pick p self env at cs v (Stop e s) fs = Halt (Stop e s)
pick p self env at cs v (On s) fs = Halt (On s)
pick p self env at cs v Stuck fs = Halt Stuck

-- Operators

abbrev pub inverted : Value → Computation Value
inverted v = as_truth v >>= λ b. give (Bool (not b))

abbrev pub negated : Place → Value → Computation Value
negated at v = as_number v >>= λ n. exact at (neg_ℤ n)

abbrev pub operated : ArithOp → Place → Value → Value → Computation Value
operated op at v w = as_number v >>= λ m. as_number w >>= λ n. arithmetic op at m n

-- Steps

-- a value comes to what waits for it
unfoldable pub returned : List Class → Frame → Value → List Frame → State → ℕ → Next
returned p (AssignTo env name) v fs s n = after (assign env name v s n).outcome fs
returned p (Choose self env first second) v fs s n = choose self env first second v fs s n
returned p (Turn self env test body) v fs s n = turn self env test body v fs s n
returned p (Again self env test body) v fs s n = Continue (Begin self env test) (Turn self env test body ∷ fs) s n
returned p (Items self env es) v fs s n = next_item self env v es fs s n
returned p (Bind self env name body) v fs s n = bind self env name body v fs s n
returned p (Pick self env at cs) v fs s n = pick p self env at cs v (class_or (CaseVoid at) v s n).outcome fs
returned p (Fill self l rs ls) v fs s n = Continue (Start self rs ls) fs (record s { store = slice_set s.store l v }) n
returned p (Argument self env given es at t class name) v fs s n = begin_args self env (given ++ v ∷ []) es at t class name fs s n
returned p (Receiver at class name given) v fs s n = call_class p at name v given (class_called p at class v s n).outcome fs
returned p TestVoid v fs s n = Continue (Return (Bool (is_void v))) fs s n
returned p Invert v fs s n = after (inverted v s n).outcome fs
returned p (Negate at) v fs s n = after (negated at v s n).outcome fs
returned p (Operand self env at op right) v fs s n = Continue (Begin self env right) (Operate at op v ∷ fs) s n
returned p (Operate at op left) v fs s n = after (operated op at left v s n).outcome fs
returned p (Compared self env op right) v fs s n = Continue (Begin self env right) (CompareTo op v ∷ fs) s n
returned p (CompareTo op left) v fs s n = after (compare op left v s n).outcome fs

-- an expression is begun
unfoldable pub begun : List Class → Value → Environment → Tree → List Frame → State → ℕ → Next
begun p self env (trees.Id at name) fs s n = after (value_named self env name s n).outcome fs
begun p self env (trees.Int at k) fs s n = Continue (Return (Int (signed k))) fs s n
begun p self env (trees.Str at bytes) fs s n = Continue (Return (Str bytes)) fs s n
begun p self env (trees.Bool at b) fs s n = Continue (Return (Bool b)) fs s n
begun p self env (trees.Assign at name e) fs s n = Continue (Begin self env e) (AssignTo env name ∷ fs) s n
begun p self env (trees.Dispatch at t name es) fs s n = begin_args self env [] es at t None name fs s n
begun p self env (trees.StaticDispatch at t class name es) fs s n = begin_args self env [] es at t (Some class.name) name fs s n
begun p self env (trees.If at test first second) fs s n = Continue (Begin self env test) (Choose self env first second ∷ fs) s n
begun p self env (trees.While at test body) fs s n = Continue (Begin self env test) (Turn self env test body ∷ fs) s n
begun p self env (trees.Block at es) fs s n = next_item self env Void es fs s n
begun p self env (trees.Let at name declared init e) fs s n = begin_let self env name declared.name init e fs s n
begun p self env (trees.Case at e cs) fs s n = Continue (Begin self env e) (Pick self env at cs ∷ fs) s n
begun p self env (trees.New at class) fs s n = begin_new p (class_made p self class.name) fs s n
begun p self env (trees.IsVoid at e) fs s n = Continue (Begin self env e) (TestVoid ∷ fs) s n
begun p self env (trees.Not at e) fs s n = Continue (Begin self env e) (Invert ∷ fs) s n
begun p self env (trees.Neg at e) fs s n = Continue (Begin self env e) (Negate at ∷ fs) s n
begun p self env (trees.Arith at op e f) fs s n = Continue (Begin self env e) (Operand self env at op f ∷ fs) s n
begun p self env (trees.Compare at op e f) fs s n = Continue (Begin self env e) (Compared self env op f ∷ fs) s n

-- One step.
unfoldable pub step : List Class → Focus → List Frame → State → ℕ → Next
step p (Begin self env t) fs s n = begun p self env t fs s n
step p (Start self rs ls) fs s n = start_values p self rs ls fs s n
step p (Return v) [] s n = Halt (Val v s n)
step p (Return v) (f ∷ fs) s n = returned p f v fs s n
