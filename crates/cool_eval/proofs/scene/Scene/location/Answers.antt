-- `Scene::location` returns the location of the latest variable with the name, or else of the attribute. Each step of its loop passes one variable with
-- another name.
use Rattle.std.proofs.Common.{◌≡◌, ℕ, suc, ◌-◌, ◌<◌, ◌++◌, length, take, ap, sym, ◌∙◌, true, false, arith, rules}
use Rattle.std.specs.Prelude.{bytes_eq}
use Rattle.cool_meaning.specs.Values.{location_of}
use Rattle.cool_meaning.specs.Lookups.{environment_of}
use Rattle.cool_eval.specs.Values.{value_of}
use Rattle.cool_eval.specs.Configurations.{locals_of}
use Rattle.cool_eval.proofs.LocationsOfNames.{local_here, local_there, no_attribute}
use Rattle.cool_eval.proofs.scene.Scene.location.Goals as goal

pub returns-then-is-clause-location : goal.returns-then-is-clause-location
returns-then-is-clause-location c =
    let ls = c.args.self.now.locals.items in
    let env = environment_of c.args.setting.now.table.now (value_of c.args.self.now.me) in
    let name = c.args.name.now in
    let t = c.loop-index-test.true in
    let b = c.loop-index.auto.index in
    let n = c.len-index.ensures ∙ c.args.self.now.locals.ok.0 in
    let within : c.loop-index.index - 1 < length ls = omega arith in
    let next : suc (c.loop-index.index - 1) ≡ c.loop-index.index = omega arith in
    let same : bytes_eq c.index-local.result.now.name.now name ≡ true = search rules in
    c.loop-index.invariant ∙ ap (λ (k : ℕ). location_of (locals_of (take k ls) ++ env) name) (sym next)
    ∙ local_here ls env (c.loop-index.index - 1) c.index-local.result.now name within c.index-local.ensures same

pub loop-index-preserved : goal.loop-index-preserved
loop-index-preserved c =
    let ls = c.args.self.now.locals.items in
    let env = environment_of c.args.setting.now.table.now (value_of c.args.self.now.me) in
    let name = c.args.name.now in
    let t = c.loop-index-test.true in
    let b = c.loop-index.auto.index in
    let n = c.len-index.ensures ∙ c.args.self.now.locals.ok.0 in
    let within : c.loop-index.index - 1 < length ls = omega arith in
    let next : suc (c.loop-index.index - 1) ≡ c.loop-index.index = omega arith in
    let other : bytes_eq c.index-local.result.now.name.now name ≡ false = search rules in
    c.loop-index.invariant ∙ ap (λ (k : ℕ). location_of (locals_of (take k ls) ++ env) name) (sym next)
    ∙ local_there ls env (c.loop-index.index - 1) c.index-local.result.now name within c.index-local.ensures other

pub returns-in_default : goal.returns-in_default
returns-in_default c =
    let ls = c.args.self.now.locals.items in
    let p = c.args.setting.now.table.now in
    let me = c.args.self.now.me in
    let name = c.args.name.now in
    let low = c.loop-index-test.false in
    let none : c.loop-index.index ≡ 0 = omega arith in
    record {
      location = c.loop-index.invariant ∙ ap (λ (k : ℕ). location_of (locals_of (take k ls) ++ environment_of p (value_of me)) name) none ∙ no_attribute p me name c.in_default.not-Object;
      inner = tt;
    }
