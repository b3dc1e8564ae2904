-- The first step of creating an object gives its attributes new store locations with default values, and gives the object an identity of its own.
use Rattle.std.proofs.Common.{◌≡◌, ℕ, ◌+◌, List, ◌++◌, length, ap, sym, ◌∙◌}
use Rattle.std.proofs.lemmas.List.{length-map}
use Rattle.cool_classes.specs.declared.class_id.ClassId.{ClassId}
use Rattle.cool_classes.specs.declared.method.AttributeRef.{AttributeRef}
use Rattle.cool_classes.specs.Chains.{Class}
use Rattle.cool_classes.specs.Features.{attribute_type}
use Rattle.cool_meaning.specs.Values.{Obj, State, default_of}
use Rattle.cool_meaning.specs.Meters.{Outcome}
use Rattle.cool_meaning.specs.BasicMethods.{locate_all}
use Rattle.cool_meaning.specs.Lookups.{attributes, default_values}
use Rattle.cool_eval.specs.Values.{locations_from}
use Rattle.cool_eval.specs.StackMachine.{Frame, Continue, Start, begin_object}
use Rattle.cool_eval.proofs.NewLocations.{located_all}

-- an object is begun with its defaults at new locations, and an identity of its own
pub object_begins : (p : List Class) (c : ClassId) (rs : List AttributeRef) (fs : List Frame) (s : State) (n : ℕ) → rs ≡ attributes p c
    → begin_object p c (locate_all (default_values p (attributes p c)) s n).outcome fs
    ≡ Continue (Start (Obj c s.drawn (locations_from (length s.store) (length rs))) rs (locations_from (length s.store) (length rs))) fs (record s { store = s.store ++ default_values p rs; drawn = s.drawn + 1 }) n
unfolding begin_object
object_begins p c rs fs s n is =
    let vs = default_values p (attributes p c) in
    let many : length vs ≡ length (attributes p c) = length-map (attributes p c) (λ (a : AttributeRef). default_of (attribute_type p a)) in
    ap (λ (o : Outcome (List ℕ)). begin_object p c o fs) (located_all vs s n)
    ∙ ap (λ (k : ℕ). Continue (Start (Obj c s.drawn (locations_from (length s.store) k)) (attributes p c) (locations_from (length s.store) k)) fs (record s { store = s.store ++ vs; drawn = s.drawn + 1 }) n) many
    ∙ ap (λ (qs : List AttributeRef). Continue (Start (Obj c s.drawn (locations_from (length s.store) (length qs))) qs (locations_from (length s.store) (length qs))) fs (record s { store = s.store ++ default_values p qs; drawn = s.drawn + 1 }) n) (sym is)
