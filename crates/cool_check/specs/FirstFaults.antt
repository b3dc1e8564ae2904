-- The type of an expression, or else its first fault (type error): the subexpressions and the checks of each kind of expression come in order, from left to
-- right (the Cool manual, sections 4, 7 and 12).
use Rattle.std.specs.Prelude.{◌≡◌, ℕ, List, [], ◌∷◌, ◌++◌, length, Bool, not, ◌&&◌, ◌||◌, true, nat_eq, bytes_eq, if◌then◌else◌, Option, Some, None, unwrap_or, codes, refl}
use Rattle.std.specs.Prelude.{Result, Ok, Err}
use Rattle.std.specs.Option.{option_or}
use Rattle.cool_syntax.specs.declared.place.Place.{Place}
use Rattle.cool_syntax.specs.declared.type_ref.TypeRef.{TypeRef}
use Rattle.cool_syntax.specs.declared.operator.ArithOp.TheVariants.{Add}
use Rattle.cool_syntax.specs.declared.operator.CompareOp.{CompareOp}
use Rattle.cool_syntax.specs.declared.operator.CompareOp.TheVariants as op
use Rattle.cool_syntax.specs.Tree.{Tree, Trees, MaybeTree, Cases, Last, More, Without, With, NoCase, CaseOf, place_of}
use Rattle.cool_syntax.specs.Tree as trees
use Rattle.cool_classes.specs.declared.class_id.ClassId.{ClassId}
use Rattle.cool_classes.specs.declared.class_id.Ty.{Ty}
use Rattle.cool_classes.specs.declared.class_id.Ty.TheVariants.{Class as IsClass, SelfType}
use Rattle.cool_classes.specs.declared.method.MethodRef.{MethodRef}
use Rattle.cool_classes.specs.Chains.{Class}
use Rattle.cool_classes.specs.Features.{formals_of, result_of}
use Rattle.cool_rules.specs.Conformance.{class_of}
use Rattle.cool_rules.specs.Scopes.{Binding, found}
use Rattle.cool_rules.specs.Typing.{has_values, object_type, int_type, bool_type, string_type}
use Rattle.cool_check.specs.declared.fault.CheckError.{CheckError}
use Rattle.cool_check.specs.declared.fault.CheckError.TheVariants as error
use Rattle.cool_check.specs.declared.fault.TypeFault.{TypeFault}
use Rattle.cool_check.specs.declared.fault.TypingRule.{TypingRule}
use Rattle.cool_check.specs.declared.fault.TypingRule.TheVariants as typing
use Rattle.cool_check.specs.declared.fault.TypeKind.{TypeKind}
use Rattle.cool_check.specs.declared.fault.TypeKind.TheVariants.{E1, E2, E3, E4, E5, E6, E7, E8, E9, E10, E11, E12, E13, E14, E15, E16, E17}
use Rattle.cool_rules.specs.Rules.{do_conform, join_in, type_of_name, type_meant, method_of, is_among, same_type}
use Rattle.cool_check.specs.Contexts.{Context}

-- the result of a check: a value, or the first fault
abbrev pub Checked : Type 0 → Type 0
Checked X = Result X TypeFault

-- the fault that this rule is not met, of this kind, at this place
abbrev pub refuse : {X : Type 0} → TypingRule → TypeKind → Place → Checked X
refuse rule kind at = Err (record { kind = kind; rule = rule; at = at; found = None; due = None })

-- a dispatch whose method is looked for in this class
abbrev pub refuse_in : {X : Type 0} → TypingRule → TypeKind → Place → ClassId → Checked X
refuse_in rule kind at class = Err (record { kind = kind; rule = rule; at = at; found = Some (IsClass class); due = None })

-- the first type was found where the second one was due
abbrev pub unfit : TypingRule → TypeKind → Place → Ty → Ty → TypeFault
unfit rule kind at found due = record { kind = kind; rule = rule; at = at; found = Some found; due = Some due }

abbrev pub refuse_type : {X : Type 0} → TypingRule → TypeKind → Place → Ty → Ty → Checked X
refuse_type rule kind at found due = Err (unfit rule kind at found due)

-- a check, and after it the one that its value gives
abbrev pub and_then : {X Y : Type 0} → Checked X → (X → Checked Y) → Checked Y
and_then (Ok x) f = f x
and_then (Err e) f = Err e

abbrev pub is_self : List ℕ → Bool
is_self name = bytes_eq name (codes "self")

abbrev pub bind : List ℕ → Ty → List Binding → List Binding
bind name type o = record { name = name; value = type } ∷ o

abbrev pub conform : Context → Ty → Ty → Bool
conform s = do_conform s.table s.class

-- the continuation if a type is the one that is due
abbrev pub expect : {X : Type 0} → Ty → Ty → TypingRule → TypeKind → Place → Checked X → Checked X
expect found due rule kind at r = if same_type found due then r else refuse_type rule kind at found due

-- the continuation if a type conforms to the one that is due
abbrev pub fits : {X : Type 0} → Context → Ty → Ty → TypingRule → TypeKind → Place → Checked X → Checked X
fits s found due rule kind at r = if conform s found due then r else refuse_type rule kind at found due

-- the type of a name: of self, of the latest variable of that name, or else of the attribute
abbrev pub or_unknown : Option Ty → TypingRule → Place → Checked Ty
or_unknown None rule at = refuse rule E1 at
or_unknown (Some a) rule at = Ok a

abbrev pub name_checked : Context → List Binding → TypingRule → Place → List ℕ → Checked Ty
name_checked s o rule at name = if is_self name then Ok SelfType else or_unknown (option_or (found o name) (found s.attributes name)) rule at

-- an assignment to a name of a value of this type
abbrev pub assigned : Context → List Binding → Place → List ℕ → Ty → Checked Ty
assigned s o at name given =
    if is_self name then refuse typing.Assign E2 at
    else and_then (name_checked s o typing.Assign at name) (λ declared. fits s given declared typing.Assign E3 at (Ok given))

-- the type of a class that is named
abbrev pub or_no_type : Option Ty → TypingRule → Place → Checked Ty
or_no_type None rule at = refuse rule E11 at
or_no_type (Some a) rule at = Ok a

abbrev pub named : Context → TypingRule → TypeRef → Checked Ty
named s rule r = or_no_type (type_of_name s.table r.name) rule r.at

-- the class after `@` for a receiver of this type
abbrev pub static_among : Context → Place → Ty → Option Ty → Checked ClassId
static_among s at receiver None = refuse typing.StaticDispatch E11 at
static_among s at receiver (Some SelfType) = refuse typing.StaticDispatch E7 at
static_among s at receiver (Some (IsClass c)) = fits s receiver (IsClass c) typing.StaticDispatch E8 at (Ok c)

abbrev pub static_class : Context → TypeRef → Ty → Checked ClassId
static_class s r receiver = static_among s r.at receiver (type_of_name s.table r.name)

-- the fault of the first argument that does not conform to its formal
abbrev pub misfit : Context → TypingRule → List (List ℕ) → List Ty → Trees → Option TypeFault
misfit s rule [] types args = None
misfit s rule (f ∷ fs) [] args = None
misfit s rule (f ∷ fs) (a ∷ as') Last = None
misfit s rule (f ∷ fs) (a ∷ as') (More t ts) =
    if conform s a (type_meant s.table f) then misfit s rule fs as' ts else Some (unfit rule E6 (place_of t) a (type_meant s.table f))

-- the type of a result for a receiver
abbrev pub resulting : Ty → Ty → Ty
resulting receiver SelfType = receiver
resulting receiver (IsClass c) = IsClass c

abbrev pub or_misfit : Option TypeFault → Ty → Checked Ty
or_misfit None result = Ok result
or_misfit (Some fault) result = Err fault

-- a call of a method of a class with arguments of these types
abbrev pub called_with : Context → TypingRule → Place → ClassId → Ty → Trees → List Ty → Option MethodRef → Checked Ty
called_with s rule at class receiver args types None = refuse_in rule E4 at class
called_with s rule at class receiver args types (Some m) =
    if nat_eq (length (formals_of s.table m)) (length types)
    then or_misfit (misfit s rule (formals_of s.table m) types args) (resulting receiver (type_meant s.table (result_of s.table m)))
    else refuse_in rule E5 at class

abbrev pub call_checked : Context → TypingRule → Place → ClassId → Ty → List ℕ → Trees → List Ty → Checked Ty
call_checked s rule at class receiver name args types = called_with s rule at class receiver args types (method_of s.table class name)

-- the type of the variable of a `let` with an initial value of this type, if there is one
abbrev pub initialized : Context → Place → Ty → Option Ty → Checked Ty
initialized s at bound None = Ok bound
initialized s at bound (Some given) = fits s given bound typing.Let E17 at (Ok bound)

abbrev pub bound_type : Context → Place → List ℕ → TypeRef → Option Ty → Checked Ty
bound_type s at name declared given =
    if is_self name then refuse typing.Let E10 at else and_then (named s typing.Let declared) (λ bound. initialized s at bound given)

-- the class of a branch after branches of these classes
abbrev pub branch_among : Place → List ClassId → Option Ty → Checked ClassId
branch_among at earlier None = refuse typing.Case E11 at
branch_among at earlier (Some SelfType) = refuse typing.Case E12 at
branch_among at earlier (Some (IsClass c)) = if is_among earlier c then refuse typing.Case E13 at else Ok c

abbrev pub branch_class : Context → Place → List ℕ → TypeRef → List ClassId → Checked ClassId
branch_class s at name declared earlier =
    if is_self name then refuse typing.Case E10 at else branch_among declared.at earlier (type_of_name s.table declared.name)

-- the join with the types of the branches before
abbrev pub joined : Context → Option Ty → Ty → Ty
joined s None a = a
joined s (Some b) a = join_in s.table s.class b a

-- the types of a comparison's operands fit
abbrev pub compared : CompareOp → Ty → Ty → Place → Checked Ty
compared op.Less a b at = expect a int_type typing.Compare E14 at (expect b int_type typing.Compare E14 at (Ok bool_type))
compared op.LessEqual a b at = expect a int_type typing.Compare E14 at (expect b int_type typing.Compare E14 at (Ok bool_type))
compared op.Equal a b at = if not (same_type a b) && (has_values a || has_values b) then refuse_type typing.Compare E15 at b a else Ok bool_type

-- The type of an expression in a context, with these variables in scope, or its first fault.
abbrev mutual
  pub checked : Context → List Binding → Tree → Checked Ty
  checked s o (trees.Id at name) = name_checked s o typing.Id at name
  checked s o (trees.Assign at name t) = and_then (checked s o t) (λ a. assigned s o at name a)
  checked s o (trees.Dispatch at t name ts) =
      and_then (checked s o t) (λ a. and_then (all_checked s o [] ts) (λ types. call_checked s typing.Dispatch at (class_of s.class a) a name ts types))
  checked s o (trees.StaticDispatch at t class name ts) =
      and_then (checked s o t) (λ a. and_then (all_checked s o [] ts) (λ types. and_then (static_class s class a)
      (λ c. call_checked s typing.StaticDispatch at c a name ts types)))
  checked s o (trees.If at t y n) =
      and_then (checked s o t) (λ a. and_then (checked s o y) (λ b. and_then (checked s o n) (λ c.
      expect a bool_type typing.If E9 (place_of t) (Ok (join_in s.table s.class b c)))))
  checked s o (trees.While at t b) =
      and_then (checked s o t) (λ a. and_then (checked s o b) (λ c. expect a bool_type typing.While E9 (place_of t) (Ok object_type)))
  checked s o (trees.Block at ts) = last_checked s o object_type ts
  checked s o (trees.Let at name declared init t) =
      and_then (maybe_checked s o init) (λ given. and_then (bound_type s at name declared given) (λ bound. checked s (bind name bound o) t))
  checked s o (trees.Case at t cs) = and_then (checked s o t) (λ a. cases_checked s o [] None cs)
  checked s o (trees.New at class) = named s typing.New class
  checked s o (trees.IsVoid at t) = and_then (checked s o t) (λ a. Ok bool_type)
  checked s o (trees.Arith at op a b) =
      and_then (checked s o a) (λ x. and_then (checked s o b)
      (λ y. expect x int_type typing.Arith E14 at (expect y int_type typing.Arith E14 at (Ok int_type))))
  checked s o (trees.Neg at t) = and_then (checked s o t) (λ a. expect a int_type typing.Neg E14 at (Ok int_type))
  checked s o (trees.Compare at op a b) = and_then (checked s o a) (λ x. and_then (checked s o b) (λ y. compared op x y at))
  checked s o (trees.Not at t) = and_then (checked s o t) (λ a. expect a bool_type typing.Not E16 at (Ok bool_type))
  checked s o (trees.Int at value) = Ok int_type
  checked s o (trees.Str at bytes) = Ok string_type
  checked s o (trees.Bool at value) = Ok bool_type

  -- the types of arguments, with those of the arguments before
  pub all_checked : Context → List Binding → List Ty → Trees → Checked (List Ty)
  all_checked s o types Last = Ok types
  all_checked s o types (More t ts) = and_then (checked s o t) (λ a. all_checked s o (types ++ a ∷ []) ts)

  -- the type of the last item of a block, after one of this type
  pub last_checked : Context → List Binding → Ty → Trees → Checked Ty
  last_checked s o last Last = Ok last
  last_checked s o last (More t ts) = and_then (checked s o t) (λ a. last_checked s o a ts)

  -- the type of an initial value, where there is one
  pub maybe_checked : Context → List Binding → MaybeTree → Checked (Option Ty)
  maybe_checked s o Without = Ok None
  maybe_checked s o (With t) = and_then (checked s o t) (λ a. Ok (Some a))

  -- the join of the branches after branches of these classes and this join
  pub cases_checked : Context → List Binding → List ClassId → Option Ty → Cases → Checked Ty
  cases_checked s o earlier join NoCase = Ok (unwrap_or join object_type)
  cases_checked s o earlier join (CaseOf at name declared t cs) =
      and_then (branch_class s at name declared earlier) (λ c. and_then (checked s (bind name (IsClass c) o) t)
      (λ a. cases_checked s o (earlier ++ c ∷ []) (Some (joined s join a)) cs))

-- an error is out of memory or the first fault
abbrev pub IsFirst : {X : Type 0} → Checked X → CheckError → Type 0
IsFirst r error.Memory = Unit {0}
IsFirst r (error.Fault f) = r ≡ Err f

-- Worked examples: `1 + true` is refused at its operator, where Bool was found and Int was due; a predicate is judged only after both branches, so `if 1
-- then x else 2 fi` with no x in scope is refused at x; a `let` brings its variable into scope.
sum_of_bool : (s : Context) (p q r : Place) → checked s [] (trees.Arith p Add (trees.Int q 1) (trees.Bool r true)) ≡ refuse_type typing.Arith E14 p bool_type int_type
sum_of_bool s p q r = refl

branch_before_predicate : (t : List Class) (c : ClassId) (p q r u : Place)
    → checked (record { table = t; class = c; attributes = [] }) [] (trees.If p (trees.Int q 1) (trees.Id r (codes "x")) (trees.Int u 2)) ≡ refuse typing.Id E1 r
branch_before_predicate t c p q r u = refl

bound_variable : (s : Context) (p : Place) → checked s (bind (codes "x") string_type []) (trees.Id p (codes "x")) ≡ Ok string_type
bound_variable s p = refl
