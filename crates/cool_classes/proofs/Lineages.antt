-- The ancestors of a class are classes of the class table, and the counts that are stored for a class and its ancestors add up to its numbers of attributes and
-- of method names.
use Rattle.std.proofs.Common.{◌≡◌, ℕ, ◌<◌, List, [], ◌∷◌, length, Option, Some, None, sym, refl, subst, arith}
use Rattle.std.specs.Prelude.{IfSome}
use Rattle.std.proofs.lemmas.List.{length-append}
use Rattle.cool_classes.specs.declared.class_id.ClassId.{ClassId}
use Rattle.cool_classes.specs.declared.entry.Entry.{Entry}
use Rattle.cool_classes.specs.Chains.{Class, parent_of, features_of, IsChain}
use Rattle.cool_classes.specs.Entries.{classes}
use Rattle.cool_classes.specs.Features.{own_attributes, attributes_of}
use Rattle.cool_classes.specs.Lineages.{AreWithin, sum_at, AreCounted}
use Rattle.cool_classes.specs.MethodNames.{new_methods, methods_of}
use Rattle.cool_classes.specs.Tables.{IsGrounded}
use Rattle.cool_classes.proofs.Seen.{within_classes, within_entries}

-- all classes of a chain are classes of the table
pub chain_within : (es : List Entry) (depth : ClassId → ℕ) → IsGrounded (classes es) depth → (o : Option ClassId) → IfSome o (λ c. c.0 < length es) → (ds : List ClassId) → IsChain (classes es) o ds
    → AreWithin es ds
chain_within es depth g None w [] h = tt
chain_within es depth g None w (d ∷ ds) h = absurd h
chain_within es depth g (Some c) w [] h = absurd h
chain_within es depth g (Some c) w (d ∷ ds) h =
    (subst (λ (x : ClassId). x.0 < length es) (sym h.0) w, chain_within es depth g (parent_of (classes es) c) (above (parent_of (classes es) c) refl) ds h.1)
  where
    above : (q : Option ClassId) → parent_of (classes es) c ≡ q → IfSome q (λ x. x.0 < length es)
    above None e = tt
    above (Some q) e = within_entries es q (g.above c q (within_classes es c w) e).0

-- the attributes of a chain are as many as are counted for its classes
pub sum_attributes : (es : List Entry) (p : List Class) (gs ms : List ℕ) → AreCounted (length es) p gs ms → (ds : List ClassId) → AreWithin es ds → sum_at gs ds ≡ length (attributes_of p ds)
sum_attributes es p gs ms are [] w = refl
sum_attributes es p gs ms are (d ∷ ds) w =
    let here = are.attributes d w.0 in
    let rest = sum_attributes es p gs ms are ds w.1 in
    omega (arith, here, rest, length-append (attributes_of p ds) (own_attributes d 0 (features_of p d)))

-- the names of the methods of a chain are as many as are counted for its classes
pub sum_methods : (es : List Entry) (p : List Class) (gs ms : List ℕ) → AreCounted (length es) p gs ms → (o : Option ClassId) (ds : List ClassId) → IsChain p o ds → AreWithin es ds
    → sum_at ms ds ≡ length (methods_of p ds)
sum_methods es p gs ms are o [] h w = refl
sum_methods es p gs ms are None (d ∷ ds) h w = absurd h
sum_methods es p gs ms are (Some c) (d ∷ ds) h w =
    let here = are.methods d ds w.0 (subst (λ (x : ClassId). IsChain p (parent_of p x) ds) (sym h.0) h.1) in
    let rest = sum_methods es p gs ms are (parent_of p c) ds h.1 w.1 in
    omega (arith, here, rest, length-append (new_methods p ds d) (methods_of p ds))
