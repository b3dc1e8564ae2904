-- A type name resolves to a type of the class table, and a method name to a method of a class of the table.
use Rattle.std.proofs.Common.{◌≡◌, ℕ, ◌+◌, ◌<◌, ◌≤◌, List, [], ◌∷◌, map, length, Option, Some, None, Bool, true, false, arith}
use Rattle.std.specs.Prelude.{bytes_eq, codes, if◌then◌else◌, option_map, unwrap_or, IfSome}
use Rattle.std.proofs.lemmas.List.{length-map}
use Rattle.cool_classes.specs.declared.class_id.ClassId.{ClassId}
use Rattle.cool_classes.specs.declared.class_id.Ty.TheVariants.{Class as IsClass, SelfType}
use Rattle.cool_classes.specs.declared.method.BasicMethod.TheVariants.{Abort}
use Rattle.cool_classes.specs.declared.method.MethodRef.{MethodRef}
use Rattle.cool_classes.specs.declared.method.MethodRef.TheVariants.{Basic}
use Rattle.cool_classes.specs.Chains.{Class, class_number}
use Rattle.cool_classes.specs.ClimbedChains.{chain}
use Rattle.cool_classes.specs.Features.{implementation, HasMethod}
use Rattle.cool_classes.specs.Names.{first_named}
use Rattle.cool_rules.specs.Conformance.{IsType}
use Rattle.cool_rules.specs.Rules.{class_named, type_of_name, type_meant, method_of}
use Rattle.cool_layout.specs.Roots.{IsRooted}
use Rattle.cool_layout.proofs.ShortChains.{chain_in, chain_is}
use Rattle.cool_rules.specs.Meant.{method_in}
use Rattle.cool_layout.proofs.MethodsThere.{implementation_has}

-- the first class of a name is one of those named
named_low : (k : ℕ) (names : List (List ℕ)) (f : List ℕ) (n : ℕ) → k + length names ≤ n → IfSome (first_named k names f) (λ c. c.0 < n)
named_low k [] f n low = tt
named_low k (name ∷ names) f n low = by (bytes_eq f name) (named_low (k + 1) names f n (omega arith))
  where
    by : (b : Bool) → IfSome (first_named (k + 1) names f) (λ c. c.0 < n)
        → IfSome (if b then Some (class_number k) else first_named (k + 1) names f) (λ c. c.0 < n)
    by true h = omega arith
    by false h = h

class_low : (p : List Class) (f : List ℕ) → IfSome (class_named p f) (λ c. c.0 < length p)
class_low p f =
    let long : length (map (λ (c : Class). c.name) p) ≡ length p = length-map p (λ c. c.name) in
    named_low 0 (map (λ (c : Class). c.name) p) f
    (length p) (omega arith)

-- a name means a type of the table
pub type_there : (p : List Class) → 1 ≤ length p → (name : List ℕ) → IsType p (type_meant p name)
unfolding type_of_name type_meant
type_there p some name = by (bytes_eq name (codes "SELF_TYPE")) (class_named p name) (class_low p name)
  where
    by : (b : Bool) (o : Option ClassId) → IfSome o (λ c. c.0 < length p)
        → IsType p (unwrap_or (if b then Some SelfType else option_map IsClass o) (IsClass (class_number 0)))
    by true o h = tt
    by false None h = omega arith
    by false (Some c) h = h

-- a name means a method of a class
pub method_in_there : (p : List Class) → IsRooted p → (c : ClassId) (f : List ℕ) → c.0 < length p → HasMethod p (method_in p c f)
unfolding method_of
method_in_there p r c f within =
    by (implementation p (chain p c) f)
    (implementation_has p (chain p c) f (chain_in p r (Some c) within (chain p c) (chain_is p r c within)))
  where
    by : (o : Option MethodRef) → IfSome o (HasMethod p) → HasMethod p (unwrap_or o (Basic Abort))
    by None h = tt
    by (Some m) h = h
