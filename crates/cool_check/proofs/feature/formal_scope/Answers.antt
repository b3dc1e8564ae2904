-- `formal_scope` returns a scope with the formal parameters of a method: each step of its loop enters the next one with the type that its declared name denotes
-- (`type_meant`).
use Rattle.std.proofs.Common.{◌≡◌, ◌+◌, ◌<◌, ◌∙◌, ◌∷◌, List, length, map, drop, get_or, ap, subst, rules}
use Rattle.std.specs.List.{slice_get}
use Rattle.cool_syntax.specs.declared.file_tree.Formal.{Formal}
use Rattle.cool_classes.specs.Chains.{features_of}
use Rattle.cool_rules.specs.Rules.{formal_binding, type_meant}
use Rattle.cool_rules.specs.Scopes.{entered}
use Rattle.cool_check.proofs.PartsLeft.{formals_later, formal_declared}
use Rattle.cool_check.proofs.feature.formal_scope.Goals as goal

pub loop-place-preserved : goal.loop-place-preserved
loop-place-preserved c =
    let types = c.loop-place.invariant.types in
    let p = c.args.setting.now.table.now in
    let fs = c.args.method.now.formals in
    let k = c.loop-place.place in
    let f = c.index-formals-place.result in
    let within = subst (λ (gs : List Formal). k < length gs) c.as_slice-formals.ensures c.loop-place-test.true in
    let there = subst (λ (gs : List Formal). f ≡ get_or gs k f) c.as_slice-formals.ensures c.index-formals-place.is in
    let declared = formal_declared (slice_get (features_of p c.args.setting.now.class) c.args.index) c.args.method.now k f c.requires.method within there in
    let type : c.formal.result ≡ type_meant p f.declared.name = c.formal.ensures.formal ∙ ap (type_meant p) declared in
    let entry : c.enter.new.self ≡ formal_binding p f ∷ c.loop-place.locals = search (rules, type) in
    record {
      types = search rules;
      formals = ap (entered (map (formal_binding p) (drop (k + 1) fs))) entry ∙ formals_later p fs c.loop-place.locals k f within there ∙ c.loop-place.invariant.formals;
    }
