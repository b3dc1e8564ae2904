-- `RunSetting::attribute` returns the location of the first attribute with the name. Each step of its loop passes one attribute with another name.
use Rattle.std.proofs.Common.{◌≡◌, ◌<◌, ◌+◌, ◌-◌, ℕ, List, length, drop, Some, true, false, ap, sym, ◌∙◌, refl, arith, rules}
use Rattle.std.proofs.lemmas.Bool.{ltb-true}
use Rattle.std.proofs.lemmas.Option.{slice_get_read}
use Rattle.std.specs.Prelude.{bytes_eq, slice_get}
use Rattle.cool_classes.specs.declared.method.AttributeRef.{AttributeRef}
use Rattle.cool_classes.specs.Features.{attribute_name}
use Rattle.cool_meaning.specs.Values.{location_of}
use Rattle.cool_eval.proofs.LocationsOfNames.{located_from, attribute_here, attribute_further, location_nowhere}
use Rattle.cool_eval.proofs.scene.RunSetting.attribute.Goals as goal

pub returns-then-is-clause-location : goal.returns-then-is-clause-location
returns-then-is-clause-location c =
    let p = c.args.self.now.table.now in
    let o = c.args.object.now in
    let name = c.args.name.now in
    let rs = c.attributes-attributes.result.now in
    let k = c.loop-index.index in
    let a = c.in-Some.attribute.now in
    let low = c.loop-index-test.true in
    let start = ap (λ (qs : List AttributeRef). location_of (located_from p qs o.first o.count) name) (sym c.attributes-attributes.ensures.attributes) in
    let within : k < length rs = ltb-true k (length rs) (sym c.in-Some.ensures.lookup.0) in
    let there : slice_get rs k ≡ Some a = slice_get_read rs (length rs) k a refl within c.in-Some.ensures.lookup.1 in
    let same : bytes_eq (attribute_name p a) name ≡ true = search rules in
    start ∙ c.loop-index.invariant ∙ attribute_here p rs k c.loop-index.location o.count a name low there same

pub loop-index-preserved : goal.loop-index-preserved
loop-index-preserved c =
    let p = c.args.self.now.table.now in
    let o = c.args.object.now in
    let name = c.args.name.now in
    let rs = c.attributes-attributes.result.now in
    let k = c.loop-index.index in
    let a = c.in-Some.attribute.now in
    let low = c.loop-index-test.true in
    let within : k < length rs = ltb-true k (length rs) (sym c.in-Some.ensures.lookup.0) in
    let there : slice_get rs k ≡ Some a = slice_get_read rs (length rs) k a refl within c.in-Some.ensures.lookup.1 in
    let other : bytes_eq (attribute_name p a) name ≡ false = search rules in
    c.loop-index.invariant ∙ attribute_further p rs k c.loop-index.location o.count a name low there other
    ∙ ap (λ (l : ℕ). location_of (located_from p (drop (k + 1) rs) l (o.count - (k + 1))) name) (sym c.in_ok-location.ensures.after)

pub returns-clause-location : goal.returns-clause-location
returns-clause-location c =
    let p = c.args.self.now.table.now in
    let o = c.args.object.now in
    let name = c.args.name.now in
    let rs = c.attributes-attributes.result.now in
    let start = ap (λ (qs : List AttributeRef). location_of (located_from p qs o.first o.count) name) (sym c.attributes-attributes.ensures.attributes) in
    let past = c.loop-index-test.false in
    start ∙ c.loop-index.invariant ∙ location_nowhere p rs c.loop-index.index c.loop-index.location o.count name (omega arith)
