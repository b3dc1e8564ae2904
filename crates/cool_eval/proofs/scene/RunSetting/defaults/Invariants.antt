-- In the loop of `RunSetting::defaults`, the values so far are the default values of the attributes so far.
use Rattle.std.proofs.Common.{◌≡◌, map, take}
use Rattle.cool_meaning.specs.Lookups.{default_values}
use Rattle.cool_eval.specs.Values.{value_of}
use Rattle.cool_eval.proofs.scene.RunSetting.defaults.Given as goal

abbrev pub invariant-loop-attribute : goal.invariant-loop-attribute
invariant-loop-attribute l = map value_of l.defaults.items ≡ default_values l.self.table.now (take l.attribute-index l.attributes)
