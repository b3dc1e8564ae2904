-- Pieces of the code of expressions, as lines of assembly. Between the pieces $a0 has the value of the expression that just ended, $s0 self, and $fp the frame
-- pointer. $t0 to $t6 are free; $t8 and $t9 have the source location of an error: the String of the file's name, and the line.
use Rattle.std.specs.Prelude.{ℕ, ℤ, pos, List, [], ◌∷◌}
use Rattle.mips_isa.specs.Lines.{Name, Line}
use Rattle.mips_isa.specs.declared.register.TheConstants.{ZERO, A0, T0, T1, T2, T3, T4, T5, T6, S0, T8, T9, SP, FP, RA}
use Rattle.cool_runtime.specs.Labels.{case_abort, copy, dispatch_abort, equality, false_constant, true_constant}
use Rattle.cool_runtime.specs.RoutineLabels.{case_void, class_objects}
use Rattle.cool_runtime.specs.Instructions.{addiu, addu, beq, bne, div, j, jal, jalr, jr, la, label, li, lui, lw, mfhi, mflo, move, mult, sll, slt, sltiu, sltu, subu, sw}

unfoldable pub pop_lines : List Line
pop_lines =
    addiu SP SP (pos 4) ∷ []

unfoldable pub load_lines : ℤ → ℕ → List Line
load_lines offset base =
    lw A0 offset base ∷ []

unfoldable pub store_lines : ℤ → ℕ → List Line
store_lines offset base =
    sw A0 offset base ∷ []

unfoldable pub take_self_lines : List Line
take_self_lines =
    move A0 S0 ∷ []

unfoldable pub take_void_lines : List Line
take_void_lines =
    move A0 ZERO ∷ []

unfoldable pub take_lines : Name → List Line
take_lines name =
    la A0 name ∷ []

unfoldable pub test_lines : Name → List Line
test_lines other =
    lw T0 (pos 12) A0
    ∷ bne T0 ZERO
    ∷ j other ∷ []

unfoldable pub mark_lines : Name → List Line
mark_lines name =
    label name ∷ []

unfoldable pub turn_lines : Name → Name → List Line
turn_lines end other =
    j end
    ∷ label other ∷ []

unfoldable pub repeat_lines : Name → Name → List Line
repeat_lines begin end =
    j begin
    ∷ label end
    ∷ move A0 ZERO ∷ []

-- the values of the operand on the stack and of that in $a0, to $t3 and $t4
unfoldable pub values_lines : List Line
values_lines =
    lw T1 (pos 0) SP
    ∷ addiu SP SP (pos 4)
    ∷ lw T3 (pos 12) T1
    ∷ lw T4 (pos 12) A0 ∷ []

unfoldable pub compare_equal_lines : List Line
compare_equal_lines =
    lw T1 (pos 0) SP
    ∷ addiu SP SP (pos 4)
    ∷ move T2 A0
    ∷ jal equality ∷ []

unfoldable pub less_lines : List Line
less_lines =
    slt T0 T3 T4 ∷ []

unfoldable pub less_equal_lines : List Line
less_equal_lines =
    slt T0 T4 T3
    ∷ sltiu T0 T0 (pos 1) ∷ []

unfoldable pub is_void_lines : List Line
is_void_lines =
    sltiu T0 A0 (pos 1) ∷ []

unfoldable pub complement_lines : List Line
complement_lines =
    lw T0 (pos 12) A0
    ∷ sltiu T0 T0 (pos 1) ∷ []

-- the Bool of a flag in $t0
unfoldable pub flag_lines : Name → List Line
flag_lines end =
    la A0 true_constant
    ∷ beq T0 ZERO
    ∷ j end
    ∷ la A0 false_constant
    ∷ label end ∷ []

-- The result goes to $t2; $t0 is 0 exactly if the result fits in 32 bits.
unfoldable pub add_lines : List Line
add_lines =
    addu T2 T3 T4
    ∷ slt T5 T2 T3
    ∷ slt T6 T4 ZERO
    ∷ subu T0 T5 T6 ∷ []

unfoldable pub subtract_lines : List Line
subtract_lines =
    subu T2 T3 T4
    ∷ slt T5 T3 T4
    ∷ slt T6 T2 ZERO
    ∷ subu T0 T5 T6 ∷ []

unfoldable pub multiply_lines : List Line
multiply_lines =
    mult T3 T4
    ∷ mflo T2
    ∷ mfhi T5
    ∷ slt T6 T2 ZERO
    ∷ addu T0 T5 T6 ∷ []

unfoldable pub divide_lines : List Line
divide_lines =
    div T3 T4
    ∷ mflo T2
    ∷ lui T5 (pos 32768)
    ∷ addu T5 T3 T5
    ∷ sltiu T5 T5 (pos 1)
    ∷ addiu T6 T4 (pos 1)
    ∷ sltu T6 ZERO T6
    ∷ sltu T0 T6 T5 ∷ []

unfoldable pub negate_lines : List Line
negate_lines =
    lw T4 (pos 12) A0
    ∷ subu T2 ZERO T4
    ∷ slt T5 ZERO T4
    ∷ slt T6 T2 ZERO
    ∷ subu T0 T5 T6 ∷ []

unfoldable pub is_zero_lines : List Line
is_zero_lines =
    sltiu T0 T4 (pos 1) ∷ []

-- execution continues if $t0 is 0, and otherwise ends with an error at this place
unfoldable pub ends_where_lines : Name → Name → ℕ → Name → List Line
ends_where_lines fits file at abort =
    bne T0 ZERO
    ∷ j fits
    ∷ la T8 file
    ∷ li T9 at
    ∷ j abort
    ∷ label fits ∷ []

unfoldable pub create_lines : Name → Name → List Line
create_lines prototype initializer =
    la A0 prototype
    ∷ jal copy
    ∷ jal initializer ∷ []

unfoldable pub create_self_lines : List Line
create_self_lines =
    lw T0 (pos 0) S0
    ∷ sll T0 T0 3
    ∷ la T1 class_objects
    ∷ addu T1 T1 T0
    ∷ lw A0 (pos 0) T1
    ∷ jal copy
    ∷ lw T0 (pos 0) S0
    ∷ sll T0 T0 3
    ∷ la T1 class_objects
    ∷ addu T1 T1 T0
    ∷ lw T1 (pos 4) T1
    ∷ jalr T1 ∷ []

unfoldable pub call_lines : Name → ℕ → ℤ → List Line
call_lines file at offset =
    la T8 file
    ∷ li T9 at
    ∷ bne A0 ZERO
    ∷ j dispatch_abort
    ∷ lw T0 (pos 8) A0
    ∷ lw T0 offset T0
    ∷ jalr T0 ∷ []

unfoldable pub call_static_lines : Name → ℕ → Name → List Line
call_static_lines file at method =
    la T8 file
    ∷ li T9 at
    ∷ bne A0 ZERO
    ∷ j dispatch_abort
    ∷ jal method ∷ []

unfoldable pub case_begin_lines : Name → ℕ → List Line
case_begin_lines file at =
    la T8 file
    ∷ li T9 at
    ∷ bne A0 ZERO
    ∷ j case_void
    ∷ lw T1 (pos 0) A0 ∷ []

unfoldable pub try_tags_lines : ℤ → ℤ → Name → List Line
try_tags_lines low count next =
    addiu T0 T1 low
    ∷ sltiu T0 T0 count
    ∷ bne T0 ZERO
    ∷ j next ∷ []

unfoldable pub case_end_lines : Name → List Line
case_end_lines end =
    j case_abort
    ∷ label end
    ∷ addiu SP SP (pos 4) ∷ []

unfoldable pub leave_lines : ℤ → List Line
leave_lines taken =
    addiu SP FP taken
    ∷ lw RA (pos 8) FP
    ∷ lw S0 (pos 0) FP
    ∷ lw FP (pos 4) FP
    ∷ jr RA ∷ []

unfoldable pub begin_init_lines : Name → List Line
begin_init_lines name =
    label name ∷ []

unfoldable pub call_init_lines : Name → List Line
call_init_lines parent =
    jal parent ∷ []

unfoldable pub return_basic_lines : Name → List Line
return_basic_lines name =
    label name
    ∷ jr RA ∷ []
