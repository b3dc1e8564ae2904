-- In the loop of `RunSetting::attribute`, the location of the name among the attributes that are left is its location among all attributes.
use Rattle.std.proofs.Common.{◌≡◌, ◌-◌, drop}
use Rattle.cool_meaning.specs.Values.{location_of}
use Rattle.cool_meaning.specs.Lookups.{located, attribute_names}
use Rattle.cool_eval.specs.Values.{locations_from}
use Rattle.cool_eval.proofs.scene.RunSetting.attribute.Given as goal

abbrev pub invariant-loop-index : goal.invariant-loop-index
invariant-loop-index l =
    location_of (located (attribute_names l.self.table.now l.attributes) (locations_from l.object.first l.object.count)) l.name
    ≡ location_of (located (attribute_names l.self.table.now (drop l.index l.attributes)) (locations_from l.location (l.object.count - l.index))) l.name
