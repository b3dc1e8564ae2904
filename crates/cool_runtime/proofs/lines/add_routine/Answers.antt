-- `add_routine` appends the assembly lines of a run-time routine (`routine_lines` of `RoutineLines.antt`): each arm of its `match` appends those of one
-- routine.
use Rattle.std.proofs.Common.{◌≡◌, ◌++◌, OnOk, ap, ◌∙◌, subst, sym}
use Rattle.mips_isa.specs.Lines.{lines_of}
use Rattle.cool_runtime.specs.Labels.{dispatch_abort, div_abort, heap_limit, stack_limit, substr_abort}
use Rattle.cool_runtime.specs.RoutineLabels.{case_void, overflow_abort, dispatch_text, case_text, division_text, substring_text, overflow_text}
use Rattle.cool_runtime.specs.RoutineLines.{routine_lines}
use Rattle.cool_runtime.proofs.lines.add_routine.Goals as goal

pub returns-in-Start : goal.returns-in-Start
unfolding routine_lines
returns-in-Start c = subst (λ xs. OnOk c.write.result (lines_of c.write.new.lines.items ≡ lines_of c.args.lines.now.items ++ xs)) (c.start.ensures ∙ ap routine_lines (sym c.in-Start.is)) c.write.ensures.written

pub returns-in-Copy : goal.returns-in-Copy
unfolding routine_lines
returns-in-Copy c = subst (λ r. OnOk c.copy.result (lines_of c.copy.new.lines.items ≡ lines_of c.args.lines.now.items ++ routine_lines r)) (sym c.in-Copy.is) c.copy.ensures

pub returns-in-Abort : goal.returns-in-Abort
unfolding routine_lines
returns-in-Abort c = subst (λ xs. OnOk c.write-in-Abort.result (lines_of c.write-in-Abort.new.lines.items ≡ lines_of c.args.lines.now.items ++ xs)) (c.abort.ensures ∙ ap routine_lines (sym c.in-Abort.is)) c.write-in-Abort.ensures.written

pub returns-in-TypeName : goal.returns-in-TypeName
unfolding routine_lines
returns-in-TypeName c = subst (λ xs. OnOk c.write-in-TypeName.result (lines_of c.write-in-TypeName.new.lines.items ≡ lines_of c.args.lines.now.items ++ xs)) (c.type_name.ensures ∙ ap routine_lines (sym c.in-TypeName.is)) c.write-in-TypeName.ensures.written

pub returns-in-OutString : goal.returns-in-OutString
unfolding routine_lines
returns-in-OutString c = subst (λ xs. OnOk c.write-in-OutString.result (lines_of c.write-in-OutString.new.lines.items ≡ lines_of c.args.lines.now.items ++ xs)) (c.out_string.ensures ∙ ap routine_lines (sym c.in-OutString.is)) c.write-in-OutString.ensures.written

pub returns-in-OutInt : goal.returns-in-OutInt
unfolding routine_lines
returns-in-OutInt c = subst (λ xs. OnOk c.write-in-OutInt.result (lines_of c.write-in-OutInt.new.lines.items ≡ lines_of c.args.lines.now.items ++ xs)) (c.out_int.ensures ∙ ap routine_lines (sym c.in-OutInt.is)) c.write-in-OutInt.ensures.written

pub returns-in-InString : goal.returns-in-InString
unfolding routine_lines
returns-in-InString c = subst (λ r. OnOk c.in_string.result (lines_of c.in_string.new.lines.items ≡ lines_of c.args.lines.now.items ++ routine_lines r)) (sym c.in-InString.is) c.in_string.ensures

pub returns-in-InInt : goal.returns-in-InInt
unfolding routine_lines
returns-in-InInt c = subst (λ r. OnOk c.in_int.result (lines_of c.in_int.new.lines.items ≡ lines_of c.args.lines.now.items ++ routine_lines r)) (sym c.in-InInt.is) c.in_int.ensures

pub returns-in-Length : goal.returns-in-Length
unfolding routine_lines
returns-in-Length c = subst (λ xs. OnOk c.write-in-Length.result (lines_of c.write-in-Length.new.lines.items ≡ lines_of c.args.lines.now.items ++ xs)) (c.length.ensures ∙ ap routine_lines (sym c.in-Length.is)) c.write-in-Length.ensures.written

pub returns-in-Concat : goal.returns-in-Concat
unfolding routine_lines
returns-in-Concat c = subst (λ r. OnOk c.concat.result (lines_of c.concat.new.lines.items ≡ lines_of c.args.lines.now.items ++ routine_lines r)) (sym c.in-Concat.is) c.concat.ensures

pub returns-in-Substr : goal.returns-in-Substr
unfolding routine_lines
returns-in-Substr c = subst (λ r. OnOk c.substr.result (lines_of c.substr.new.lines.items ≡ lines_of c.args.lines.now.items ++ routine_lines r)) (sym c.in-Substr.is) c.substr.ensures

pub returns-in-Equal : goal.returns-in-Equal
unfolding routine_lines
returns-in-Equal c = subst (λ r. OnOk c.equal.result (lines_of c.equal.new.lines.items ≡ lines_of c.args.lines.now.items ++ routine_lines r)) (sym c.in-Equal.is) c.equal.ensures

pub returns-in-DispatchVoid : goal.returns-in-DispatchVoid
unfolding routine_lines dispatch_abort dispatch_text
returns-in-DispatchVoid c = subst (λ xs. OnOk c.write-in-DispatchVoid.result (lines_of c.write-in-DispatchVoid.new.lines.items ≡ lines_of c.args.lines.now.items ++ xs)) (c.error.ensures ∙ ap routine_lines (sym c.in-DispatchVoid.is)) c.write-in-DispatchVoid.ensures.written

pub returns-in-CaseVoid : goal.returns-in-CaseVoid
unfolding routine_lines case_void case_text
returns-in-CaseVoid c = subst (λ xs. OnOk c.write-in-CaseVoid.result (lines_of c.write-in-CaseVoid.new.lines.items ≡ lines_of c.args.lines.now.items ++ xs)) (c.error-in-CaseVoid.ensures ∙ ap routine_lines (sym c.in-CaseVoid.is)) c.write-in-CaseVoid.ensures.written

pub returns-in-NoBranch : goal.returns-in-NoBranch
unfolding routine_lines
returns-in-NoBranch c = subst (λ xs. OnOk c.write-in-NoBranch.result (lines_of c.write-in-NoBranch.new.lines.items ≡ lines_of c.args.lines.now.items ++ xs)) (c.no_branch.ensures ∙ ap routine_lines (sym c.in-NoBranch.is)) c.write-in-NoBranch.ensures.written

pub returns-in-DivZero : goal.returns-in-DivZero
unfolding routine_lines div_abort division_text
returns-in-DivZero c = subst (λ xs. OnOk c.write-in-DivZero.result (lines_of c.write-in-DivZero.new.lines.items ≡ lines_of c.args.lines.now.items ++ xs)) (c.error-in-DivZero.ensures ∙ ap routine_lines (sym c.in-DivZero.is)) c.write-in-DivZero.ensures.written

pub returns-in-SubstrRange : goal.returns-in-SubstrRange
unfolding routine_lines substr_abort substring_text
returns-in-SubstrRange c = subst (λ xs. OnOk c.write-in-SubstrRange.result (lines_of c.write-in-SubstrRange.new.lines.items ≡ lines_of c.args.lines.now.items ++ xs)) (c.error-in-SubstrRange.ensures ∙ ap routine_lines (sym c.in-SubstrRange.is)) c.write-in-SubstrRange.ensures.written

pub returns-in-Overflow : goal.returns-in-Overflow
unfolding routine_lines overflow_abort overflow_text
returns-in-Overflow c = subst (λ xs. OnOk c.write-in-Overflow.result (lines_of c.write-in-Overflow.new.lines.items ≡ lines_of c.args.lines.now.items ++ xs)) (c.error-in-Overflow.ensures ∙ ap routine_lines (sym c.in-Overflow.is)) c.write-in-Overflow.ensures.written

pub returns-in-HeapLimit : goal.returns-in-HeapLimit
unfolding routine_lines heap_limit
returns-in-HeapLimit c = subst (λ xs. OnOk c.write-in-HeapLimit.result (lines_of c.write-in-HeapLimit.new.lines.items ≡ lines_of c.args.lines.now.items ++ xs)) (c.limit.ensures ∙ ap routine_lines (sym c.in-HeapLimit.is)) c.write-in-HeapLimit.ensures.written

pub returns-in-StackLimit : goal.returns-in-StackLimit
unfolding routine_lines stack_limit
returns-in-StackLimit c = subst (λ xs. OnOk c.write-in-StackLimit.result (lines_of c.write-in-StackLimit.new.lines.items ≡ lines_of c.args.lines.now.items ++ xs)) (c.limit-in-StackLimit.ensures ∙ ap routine_lines (sym c.in-StackLimit.is)) c.write-in-StackLimit.ensures.written
