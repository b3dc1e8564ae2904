-- The loop of `add_formals` has added the marks of the formal parameters before the current one (`Marks.antt`: the source location, the role and the definition
-- of a name), and has entered these formal parameters into the scope.
use Rattle.std.proofs.Common.{◌≡◌, ◌++◌, drop, map}
use Rattle.cool_names.specs.Programs.{formal_variable, formals_in_scope, formals_marks}
use Rattle.cool_rules.specs.Scopes.{entered}
use Rattle.cool_names.specs.Scopes.{variables}
use Rattle.cool_names.proofs.feature.add_formals.Given as goal

abbrev pub invariant-loop-formal : goal.invariant-loop-formal
invariant-loop-formal l = record {
  goes_on : l.marks.items ++ formals_marks l.program.table.now l.program.definitions.now (drop l.formal-index l.formals) ≡ l.fn.marks.items ++ formals_marks l.program.table.now l.program.definitions.now l.formals;
  scope : entered (map formal_variable (drop l.formal-index l.formals)) (variables l.locals) ≡ formals_in_scope l.formals;
}
