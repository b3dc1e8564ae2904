-- The variables that `formal_variables` has entered so far, followed by those of the remaining formal parameters, are those of all formal parameters.
use Rattle.std.proofs.Common.{◌≡◌, ◌<◌, ◌^◌, length, drop}
use Rattle.cool_codegen.specs.Features.{with_formals}
use Rattle.cool_codegen.specs.CodeSettings.{HaveTypes}
use Rattle.cool_codegen.proofs.feature.formal_variables.Given as goal

abbrev pub invariant-loop-formal : goal.invariant-loop-formal
invariant-loop-formal l = record {
  types : HaveTypes l.setting.table.now l.variables;
  after : l.after ≡ length (drop l.formal-index l.formals);
  few : length l.formals < 2 ^ 28;
  variables : with_formals l.setting.table.now (drop l.formal-index l.formals) l.variables ≡ with_formals l.setting.table.now l.formals l.fn.variables;
}
