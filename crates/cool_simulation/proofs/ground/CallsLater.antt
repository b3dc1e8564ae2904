-- Evaluating arguments or a dispatch only appends to the output and only consumes input (`After`), if calls do the same.
use Rattle.std.proofs.Common.{ℕ, List, [], ◌∷◌, Option, Some, None, refl}
use Rattle.cool_syntax.specs.declared.place.Place.{Place}
use Rattle.cool_syntax.specs.Tree.{Trees, Last, More}
use Rattle.cool_classes.specs.declared.class_id.ClassId.{ClassId}
use Rattle.cool_classes.specs.declared.method.MethodRef.{MethodRef}
use Rattle.cool_classes.specs.declared.method.MethodRef.TheVariants.{Basic, User}
use Rattle.cool_classes.specs.Chains.{Class}
use Rattle.cool_classes.specs.ClimbedChains.{chain}
use Rattle.cool_classes.specs.Features.{implementation}
use Rattle.cool_meaning.specs.Values.{Value, Void, Int, Bool, Str, Obj, Environment}
use Rattle.cool_meaning.specs.Meters.{Error, Computation, holding}
use Rattle.cool_meaning.specs.Evaluation.{Calls, Body, eval_all, class_or, invoke, dispatch}
use Rattle.cool_meaning.proofs.Later.{later_same}
use Rattle.cool_meaning.proofs.RelatedEvaluation.{basic_kept}
use Rattle.cool_simulation.proofs.ground.EvaluationLater.{ComesLater, CallsLater, later_kept, bind_later, spend_later, give_later, eval_later}

pub held_later : {A : Type 0} (k : ℕ) {d : Computation A} → ComesLater d → ComesLater (holding k d)
held_later k h = record { later = h.later }

module _ (p : List Class) (calls : Calls) (later : CallsLater calls) where
  pub all_later : (self : Value) (env : Environment) (ts : Trees) → ComesLater (eval_all p calls self env ts)
  all_later self env Last = give_later []
  all_later self env (More t ts) = bind_later (eval_later p calls later self env t) (λ v. held_later 1 (bind_later (all_later self env ts) (λ vs. give_later (v ∷ vs))))

  pub class_later : (e : Error) (v : Value) → ComesLater (class_or e v)
  class_later e Void = record { later = λ s n. later_same s s refl refl }
  class_later e (Int n) = give_later _
  class_later e (Bool b) = give_later _
  class_later e (Str bytes) = give_later _
  class_later e (Obj c i ls) = give_later c

  invoke_later : (at : Place) (v : Value) (vs : List Value) (o : Option MethodRef) → ComesLater (invoke p calls at v vs o)
  invoke_later at v vs None = record { later = λ s n. tt }
  invoke_later at v vs (Some (Basic m)) = basic_kept (λ A d d'. ComesLater d') later_kept p m at v vs
  invoke_later at v vs (Some (User owner k)) = later (Body owner k v vs)

  pub dispatch_later : (at : Place) (c : ClassId) (name : List ℕ) (v : Value) (vs : List Value) → ComesLater (dispatch p calls at c name v vs)
  dispatch_later at c name v vs = spend_later (record { later = (invoke_later at v vs (implementation p (chain p c) name)).later })
