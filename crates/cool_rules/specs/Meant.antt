-- `method_in`, `type_of_call` and `joined` are the method that a name denotes in a class, the type of a call, and the join of the types of `case` branches (the
-- Cool manual, section 7). If an expression has no type, the first two return an arbitrary method or type.
use Rattle.std.specs.Prelude.{ℕ, List, Option, Some, None, unwrap_or}
use Rattle.cool_classes.specs.declared.class_id.ClassId.{ClassId}
use Rattle.cool_classes.specs.declared.class_id.Ty.{Ty}
use Rattle.cool_classes.specs.declared.method.BasicMethod.TheVariants.{Abort}
use Rattle.cool_classes.specs.declared.method.MethodRef.{MethodRef}
use Rattle.cool_classes.specs.declared.method.MethodRef.TheVariants.{Basic}
use Rattle.cool_classes.specs.Chains.{Class}
use Rattle.cool_classes.specs.Features.{result_of}
use Rattle.cool_rules.specs.Rules.{join_in, type_meant, method_of}
use Rattle.cool_rules.specs.Typing.{result_on}

-- the method of a name that a class has; if it has none, Object's `abort`
abbrev pub method_in : List Class → ClassId → List ℕ → MethodRef
method_in p c name = unwrap_or (method_of p c name) (Basic Abort)

-- the type of a call of the method of a name that a class has, on a receiver of this type
abbrev pub type_of_call : List Class → ClassId → Ty → List ℕ → Ty
type_of_call p c receiver name = result_on receiver (type_meant p (result_of p (method_in p c name)))

-- the join with the types of the branches before
abbrev pub joined : List Class → ClassId → Option Ty → Ty → Ty
joined p c None a = a
joined p c (Some b) a = join_in p c b a
