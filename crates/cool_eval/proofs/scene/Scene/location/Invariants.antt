-- In the loop of `Scene::location`, the location of the name among the variables that are left and the attributes is its location in the whole environment.
use Rattle.std.proofs.Common.{◌≡◌, ◌++◌, take}
use Rattle.cool_meaning.specs.Values.{location_of}
use Rattle.cool_meaning.specs.Lookups.{environment_of}
use Rattle.cool_eval.specs.Values.{value_of}
use Rattle.cool_eval.specs.Configurations.{env_of, locals_of}
use Rattle.cool_eval.proofs.scene.Scene.location.Given as goal

abbrev pub invariant-loop-index : goal.invariant-loop-index
invariant-loop-index l =
    let p = l.setting.table.now in
    location_of (env_of p l.self) l.name ≡ location_of (locals_of (take l.index l.self.locals.items) ++ environment_of p (value_of l.self.me)) l.name
