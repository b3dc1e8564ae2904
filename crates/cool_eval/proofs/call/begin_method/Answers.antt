-- `begin_method` begins the body of a method as `begin_method` of `StackMachine.antt` defines, with the arguments at new locations at the end of the store.
use Rattle.std.proofs.Common.{◌≡◌, ℕ, List, length, map, sym, ap, ◌∙◌}
use Rattle.std.proofs.lemmas.List.{length-map}
use Rattle.cool_syntax.specs.declared.file_tree.Formal.{Formal}
use Rattle.cool_meaning.specs.Lookups.{formal_names, located, method_at}
use Rattle.cool_eval.specs.declared.scene.Scene.{Scene}
use Rattle.cool_eval.specs.Values.{value_of, locations_from}
use Rattle.cool_eval.specs.Configurations.{frames_of, state_of, locals_of}
use Rattle.cool_eval.specs.Devices.{state_at}
use Rattle.cool_eval.proofs.ArgumentsLocated.{no_method, method_begins, state_located}
use Rattle.cool_eval.proofs.call.begin_method.Goals as goal

pub returns-in_default-clause-comes : goal.returns-in_default-clause-comes
returns-in_default-clause-comes c input output =
    let p = c.args.setting.now.table.now in
    let m = c.args.machine.now in
    no_method p (value_of c.args.me) (map value_of c.args.given.items) (method_at p c.args.owner c.args.index) (frames_of p m) (state_of m input output) m.left c.in_default.ensures

pub returns-clause-comes : goal.returns-clause-comes
returns-clause-comes c input output =
    let p = c.args.setting.now.table.now in
    let m = c.args.machine.now in
    let d = c.in-Some.method.now in
    let vs = map value_of c.args.given.items in
    let scene = c.in_ok-scene.scene.value in
    let old = m.store in
    let new = c.locate_all.new.self in
    let many : c.len-count.result ≡ length vs = c.len-count.ensures ∙ c.args.given.ok.0 ∙ sym (length-map c.args.given.items value_of) in
    let locals : locals_of scene.locals.items ≡ located (formal_names d.formals) (locations_from (length old.values) (length vs)) =
    ap (λ (x : Scene). locals_of x.locals.items) c.in_ok-scene.ensures.shared
    ∙ c.in_ok-locals.ensures.locals
    ∙ ap (λ (fs : List Formal). located (formal_names fs) (locations_from c.len-first.result c.len-count.result)) c.as_slice-formals.ensures
    ∙ ap (λ (l : ℕ). located (formal_names d.formals) (locations_from l c.len-count.result)) c.len-first.ensures
    ∙ ap (λ (n : ℕ). located (formal_names d.formals) (locations_from (length old.values) n)) many in
    method_begins p (value_of c.args.me) vs (method_at p c.args.owner c.args.index) d c.whole-part.result scene (frames_of p m) (state_of m input output) (state_at new input output) m.left
    c.in-Some.ensures (ap (λ (x : Scene). value_of x.me) c.in_ok-scene.ensures.shared) locals c.whole-part.ensures
    (state_located old new vs input output c.in_ok-locate_all.ensures.values c.locate_all.ensures.drawn)
