-- Each method in a dispatch table is a method that a class of the program or a basic class defines.
use Rattle.std.proofs.Common.{ℕ, ◌<◌, List, [], ◌∷◌, length, Option, Some, None}
use Rattle.std.specs.Prelude.{unwrap_or, IfSome}
use Rattle.std.specs.List.{AllByRecursion}
use Rattle.cool_classes.specs.declared.class_id.ClassId.{ClassId}
use Rattle.cool_classes.specs.declared.method.BasicMethod.TheVariants.{Abort}
use Rattle.cool_classes.specs.declared.method.MethodRef.{MethodRef}
use Rattle.cool_classes.specs.declared.method.MethodRef.TheVariants.{Basic}
use Rattle.cool_classes.specs.Chains.{Class}
use Rattle.cool_classes.specs.Features.{own_method, first_of, implementation, HasMethod}
use Rattle.cool_classes.specs.ClimbedChains.{chain}
use Rattle.cool_classes.proofs.AllOfLists.{all_map}
use Rattle.cool_classes.proofs.Methods.{own_has}
use Rattle.cool_layout.specs.Members.{slots, method, methods}
use Rattle.cool_layout.specs.Roots.{IsRooted}
use Rattle.cool_layout.proofs.ShortChains.{chain_in, chain_is}

-- the implementation that a chain has is a method
pub implementation_has : (p : List Class) (ds : List ClassId) (f : List ℕ) → AllByRecursion (λ d. d.0 < length p) ds → IfSome (implementation p ds f) (HasMethod p)
implementation_has p [] f within = tt
implementation_has p (d ∷ ds) f within = by (own_method p d f) (own_has p d f within.0) (implementation_has p ds f within.1)
  where
    by : (o : Option MethodRef) → IfSome o (HasMethod p) → IfSome (implementation p ds f) (HasMethod p) → IfSome (first_of o (implementation p ds f)) (HasMethod p)
    by None h rest = rest
    by (Some m) h rest = h

-- so is what stands under any name
method_has : (p : List Class) → IsRooted p → (c : ClassId) → c.0 < length p → (f : List ℕ) → HasMethod p (method p c f)
method_has p r c within f = by (implementation p (chain p c) f) (implementation_has p (chain p c) f (chain_in p r (Some c) within (chain p c) (chain_is p r c within)))
  where
    by : (o : Option MethodRef) → IfSome o (HasMethod p) → HasMethod p (unwrap_or o (Basic Abort))
    by None h = tt
    by (Some m) h = h

-- so are all methods of a class
pub methods_have : (p : List Class) → IsRooted p → (c : ClassId) → c.0 < length p → AllByRecursion (HasMethod p) (methods p c)
methods_have p r c within = all_map (HasMethod p) (method p c) (slots p c) (each (slots p c))
  where
    each : (fs : List (List ℕ)) → AllByRecursion (λ f. HasMethod p (method p c f)) fs
    each [] = tt
    each (f ∷ fs) = (method_has p r c within f, each fs)
