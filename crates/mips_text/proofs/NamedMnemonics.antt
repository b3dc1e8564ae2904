-- Searching for the name of a mnemonic or a directive finds that mnemonic or directive.
use Rattle.std.proofs.Common.{◌≡◌, refl, true, false}
use Rattle.std.specs.Prelude.{Some}
use Rattle.mips_isa.specs.declared.instr.ThreeOp.TheVariants.{Add, Addu, Sub, Subu, And, Or, Xor, Nor, Slt, Sltu}
use Rattle.mips_isa.specs.declared.instr.ShiftOp.TheVariants.{Sll, Srl, Sra}
use Rattle.mips_isa.specs.declared.instr.ShiftRegOp.TheVariants.{Sllv, Srlv, Srav}
use Rattle.mips_isa.specs.declared.instr.FromOp.TheVariants.{Mfhi, Mflo}
use Rattle.mips_isa.specs.declared.instr.ToOp.TheVariants.{Mthi, Mtlo}
use Rattle.mips_isa.specs.declared.instr.MulDivOp.TheVariants.{Mult, Multu, Div, Divu}
use Rattle.mips_isa.specs.declared.instr.ImmOp.TheVariants.{Addi, Addiu, Slti, Sltiu, Andi, Ori, Xori}
use Rattle.mips_isa.specs.declared.instr.TwoOp.TheVariants.{Beq, Bne}
use Rattle.mips_isa.specs.declared.instr.OneOp.TheVariants.{Blez, Bgtz, Bltz, Bgez}
use Rattle.mips_isa.specs.declared.instr.JumpOp.TheVariants.{J, Jal}
use Rattle.mips_isa.specs.declared.instr.MemOp.TheVariants.{Lb, Lh, Lw, Lbu, Lhu, Sb, Sh, Sw}
use Rattle.mips_isa.specs.declared.line.ZeroOp.TheVariants.{Beqz, Bnez}
use Rattle.mips_isa.specs.declared.line.OrderOp.TheVariants.{Bgt, Bge, Blt, Ble}
use Rattle.mips_text.specs.declared.directives.Directive.{Directive}
use Rattle.mips_text.specs.declared.directives.Directive.TheVariants as directives
use Rattle.mips_text.specs.declared.mnemonics.Mnemonic.{Mnemonic}
use Rattle.mips_text.specs.declared.mnemonics.Mnemonic.TheVariants as mnemonics
use Rattle.mips_text.specs.Names.{directive_named, directive_text, is_name, mnemonic_named, mnemonic_text}
use Rattle.mips_text.specs.Reading.{begins_with_dot}

pub record NamedMnemonic (m : Mnemonic) : Type 0 where
  pub named : mnemonic_named (mnemonic_text m) ≡ Some m
  pub name : is_name (mnemonic_text m) ≡ true
  pub no_dot : begins_with_dot (mnemonic_text m) ≡ false

pub named : (m : Mnemonic) → NamedMnemonic m
unfolding mnemonic_named
named (mnemonics.Three Add) = record { named = refl; name = refl; no_dot = refl }
named (mnemonics.Three Addu) = record { named = refl; name = refl; no_dot = refl }
named (mnemonics.Three Sub) = record { named = refl; name = refl; no_dot = refl }
named (mnemonics.Three Subu) = record { named = refl; name = refl; no_dot = refl }
named (mnemonics.Three And) = record { named = refl; name = refl; no_dot = refl }
named (mnemonics.Three Or) = record { named = refl; name = refl; no_dot = refl }
named (mnemonics.Three Xor) = record { named = refl; name = refl; no_dot = refl }
named (mnemonics.Three Nor) = record { named = refl; name = refl; no_dot = refl }
named (mnemonics.Three Slt) = record { named = refl; name = refl; no_dot = refl }
named (mnemonics.Three Sltu) = record { named = refl; name = refl; no_dot = refl }
named (mnemonics.Shift Sll) = record { named = refl; name = refl; no_dot = refl }
named (mnemonics.Shift Srl) = record { named = refl; name = refl; no_dot = refl }
named (mnemonics.Shift Sra) = record { named = refl; name = refl; no_dot = refl }
named (mnemonics.ShiftReg Sllv) = record { named = refl; name = refl; no_dot = refl }
named (mnemonics.ShiftReg Srlv) = record { named = refl; name = refl; no_dot = refl }
named (mnemonics.ShiftReg Srav) = record { named = refl; name = refl; no_dot = refl }
named mnemonics.Jr = record { named = refl; name = refl; no_dot = refl }
named mnemonics.Jalr = record { named = refl; name = refl; no_dot = refl }
named mnemonics.Syscall = record { named = refl; name = refl; no_dot = refl }
named (mnemonics.MoveFrom Mfhi) = record { named = refl; name = refl; no_dot = refl }
named (mnemonics.MoveFrom Mflo) = record { named = refl; name = refl; no_dot = refl }
named (mnemonics.MoveTo Mthi) = record { named = refl; name = refl; no_dot = refl }
named (mnemonics.MoveTo Mtlo) = record { named = refl; name = refl; no_dot = refl }
named (mnemonics.MulDiv Mult) = record { named = refl; name = refl; no_dot = refl }
named (mnemonics.MulDiv Multu) = record { named = refl; name = refl; no_dot = refl }
named (mnemonics.MulDiv Div) = record { named = refl; name = refl; no_dot = refl }
named (mnemonics.MulDiv Divu) = record { named = refl; name = refl; no_dot = refl }
named (mnemonics.Imm Addi) = record { named = refl; name = refl; no_dot = refl }
named (mnemonics.Imm Addiu) = record { named = refl; name = refl; no_dot = refl }
named (mnemonics.Imm Slti) = record { named = refl; name = refl; no_dot = refl }
named (mnemonics.Imm Sltiu) = record { named = refl; name = refl; no_dot = refl }
named (mnemonics.Imm Andi) = record { named = refl; name = refl; no_dot = refl }
named (mnemonics.Imm Ori) = record { named = refl; name = refl; no_dot = refl }
named (mnemonics.Imm Xori) = record { named = refl; name = refl; no_dot = refl }
named mnemonics.Lui = record { named = refl; name = refl; no_dot = refl }
named (mnemonics.BranchTwo Beq) = record { named = refl; name = refl; no_dot = refl }
named (mnemonics.BranchTwo Bne) = record { named = refl; name = refl; no_dot = refl }
named (mnemonics.BranchOne Blez) = record { named = refl; name = refl; no_dot = refl }
named (mnemonics.BranchOne Bgtz) = record { named = refl; name = refl; no_dot = refl }
named (mnemonics.BranchOne Bltz) = record { named = refl; name = refl; no_dot = refl }
named (mnemonics.BranchOne Bgez) = record { named = refl; name = refl; no_dot = refl }
named (mnemonics.Jump J) = record { named = refl; name = refl; no_dot = refl }
named (mnemonics.Jump Jal) = record { named = refl; name = refl; no_dot = refl }
named (mnemonics.Mem Lb) = record { named = refl; name = refl; no_dot = refl }
named (mnemonics.Mem Lh) = record { named = refl; name = refl; no_dot = refl }
named (mnemonics.Mem Lw) = record { named = refl; name = refl; no_dot = refl }
named (mnemonics.Mem Lbu) = record { named = refl; name = refl; no_dot = refl }
named (mnemonics.Mem Lhu) = record { named = refl; name = refl; no_dot = refl }
named (mnemonics.Mem Sb) = record { named = refl; name = refl; no_dot = refl }
named (mnemonics.Mem Sh) = record { named = refl; name = refl; no_dot = refl }
named (mnemonics.Mem Sw) = record { named = refl; name = refl; no_dot = refl }
named mnemonics.La = record { named = refl; name = refl; no_dot = refl }
named mnemonics.Li = record { named = refl; name = refl; no_dot = refl }
named mnemonics.Move = record { named = refl; name = refl; no_dot = refl }
named mnemonics.Neg = record { named = refl; name = refl; no_dot = refl }
named mnemonics.Nop = record { named = refl; name = refl; no_dot = refl }
named mnemonics.B = record { named = refl; name = refl; no_dot = refl }
named (mnemonics.BranchZero Beqz) = record { named = refl; name = refl; no_dot = refl }
named (mnemonics.BranchZero Bnez) = record { named = refl; name = refl; no_dot = refl }
named (mnemonics.BranchOrder Bgt) = record { named = refl; name = refl; no_dot = refl }
named (mnemonics.BranchOrder Bge) = record { named = refl; name = refl; no_dot = refl }
named (mnemonics.BranchOrder Blt) = record { named = refl; name = refl; no_dot = refl }
named (mnemonics.BranchOrder Ble) = record { named = refl; name = refl; no_dot = refl }
named mnemonics.Mul = record { named = refl; name = refl; no_dot = refl }

pub record NamedDirective (d : Directive) : Type 0 where
  pub named : directive_named (directive_text d) ≡ Some d
  pub name : is_name (directive_text d) ≡ true
  pub dot : begins_with_dot (directive_text d) ≡ true

pub directed : (d : Directive) → NamedDirective d
unfolding directive_named
directed directives.Text = record { named = refl; name = refl; dot = refl }
directed directives.Data = record { named = refl; name = refl; dot = refl }
directed directives.Globl = record { named = refl; name = refl; dot = refl }
directed directives.Word = record { named = refl; name = refl; dot = refl }
directed directives.Byte = record { named = refl; name = refl; dot = refl }
directed directives.Ascii = record { named = refl; name = refl; dot = refl }
directed directives.Asciiz = record { named = refl; name = refl; dot = refl }
directed directives.Space = record { named = refl; name = refl; dot = refl }
directed directives.Align = record { named = refl; name = refl; dot = refl }
