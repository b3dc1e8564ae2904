-- In the loop of `formal_scope`, the formal parameters in scope have types of the class table, and the remaining ones complete the scope.
use Rattle.std.proofs.Common.{◌≡◌, map, drop}
use Rattle.cool_rules.specs.Rules.{formal_binding}
use Rattle.cool_rules.specs.Scopes.{AreTypes, entered}
use Rattle.cool_check.specs.Contexts.{formal_bindings}
use Rattle.cool_check.proofs.feature.formal_scope.Given as goal

abbrev pub invariant-loop-place : goal.invariant-loop-place
invariant-loop-place l = record {
  types : AreTypes l.setting.table.now l.locals;
  formals : entered (map (formal_binding l.setting.table.now) (drop l.place l.method.formals)) l.locals ≡ formal_bindings l.setting.table.now l.method.formals;
}
