-- The assembly lines of calls: entry to a method, return from it, and a dispatch through a dispatch table. A frame has the return address at 8($fp), the old
-- $fp at 4($fp) and the old self at 0($fp); arguments are above it, temporaries below.
use Rattle.std.specs.Prelude.{ℕ, pos, negsuc, List, [], ◌∷◌, ◌+◌, ◌*◌}
use Rattle.mips_isa.specs.declared.register.TheConstants.{ZERO, A0, T0, S0, S6, T8, T9, SP, FP, RA}
use Rattle.mips_isa.specs.Lines.{Name, Line, Li}
use Rattle.mips_isa.specs.Assembly.{instruction_line}
use Rattle.cool_runtime.specs.Labels.{stack_limit, dispatch_abort}
use Rattle.cool_runtime.specs.Instructions.{sltu, addiu, lw, sw, move, la, jr, jalr, j, beq, bne}

abbrev pub enter_lines : List Line
enter_lines =
    addiu SP SP (negsuc 11) ∷ sltu T0 SP S6 ∷ beq T0 ZERO ∷ j stack_limit
    ∷ sw RA (pos 8) SP ∷ sw FP (pos 4) SP ∷ sw S0 (pos 0) SP ∷ move S0 A0 ∷ move FP SP ∷ []

-- takes so many arguments from the stack
abbrev pub leave_lines : ℕ → List Line
leave_lines arguments = addiu SP FP (pos (12 + 4 * arguments)) ∷ lw RA (pos 8) FP ∷ lw S0 (pos 0) FP ∷ lw FP (pos 4) FP ∷ jr RA ∷ []

-- the String of the file to $t8, the line to $t9; the receiver is in $a0
abbrev pub dispatch_lines : Name → ℕ → ℕ → List Line
dispatch_lines file line slot =
    la T8 file ∷ instruction_line (Li T9 (pos line)) ∷ bne A0 ZERO ∷ j dispatch_abort
    ∷ lw T0 (pos 8) A0 ∷ lw T0 (pos (4 * slot)) T0 ∷ jalr T0 ∷ []
