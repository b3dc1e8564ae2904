-- The name of each mnemonic, directive and register of assembly, as text.
use Rattle.std.specs.Prelude.{ℕ, List, [], ◌∷◌, codes, get_or, bytes_eq, Option, Bool, false, ◌&&◌, ◌==◌}
use Rattle.std.specs.List.{find, list_all}
use Rattle.mips_text.specs.Letters.{name_rest, name_start}
use Rattle.mips_isa.specs.declared.instr.ThreeOp.{ThreeOp}
use Rattle.mips_isa.specs.declared.instr.ThreeOp.TheVariants.{Add, Addu, Sub, Subu, And, Or, Xor, Nor, Slt, Sltu}
use Rattle.mips_isa.specs.declared.instr.ShiftOp.{ShiftOp}
use Rattle.mips_isa.specs.declared.instr.ShiftOp.TheVariants.{Sll, Srl, Sra}
use Rattle.mips_isa.specs.declared.instr.ShiftRegOp.{ShiftRegOp}
use Rattle.mips_isa.specs.declared.instr.ShiftRegOp.TheVariants.{Sllv, Srlv, Srav}
use Rattle.mips_isa.specs.declared.instr.FromOp.{FromOp}
use Rattle.mips_isa.specs.declared.instr.FromOp.TheVariants.{Mfhi, Mflo}
use Rattle.mips_isa.specs.declared.instr.ToOp.{ToOp}
use Rattle.mips_isa.specs.declared.instr.ToOp.TheVariants.{Mthi, Mtlo}
use Rattle.mips_isa.specs.declared.instr.MulDivOp.{MulDivOp}
use Rattle.mips_isa.specs.declared.instr.MulDivOp.TheVariants.{Mult, Multu, Div, Divu}
use Rattle.mips_isa.specs.declared.instr.ImmOp.{ImmOp}
use Rattle.mips_isa.specs.declared.instr.ImmOp.TheVariants.{Addi, Addiu, Slti, Sltiu, Andi, Ori, Xori}
use Rattle.mips_isa.specs.declared.instr.TwoOp.{TwoOp}
use Rattle.mips_isa.specs.declared.instr.TwoOp.TheVariants.{Beq, Bne}
use Rattle.mips_isa.specs.declared.instr.OneOp.{OneOp}
use Rattle.mips_isa.specs.declared.instr.OneOp.TheVariants.{Blez, Bgtz, Bltz, Bgez}
use Rattle.mips_isa.specs.declared.instr.JumpOp.{JumpOp}
use Rattle.mips_isa.specs.declared.instr.JumpOp.TheVariants.{J, Jal}
use Rattle.mips_isa.specs.declared.instr.MemOp.{MemOp}
use Rattle.mips_isa.specs.declared.instr.MemOp.TheVariants.{Lb, Lh, Lw, Lbu, Lhu, Sb, Sh, Sw}
use Rattle.mips_isa.specs.declared.line.ZeroOp.{ZeroOp}
use Rattle.mips_isa.specs.declared.line.ZeroOp.TheVariants.{Beqz, Bnez}
use Rattle.mips_isa.specs.declared.line.OrderOp.{OrderOp}
use Rattle.mips_isa.specs.declared.line.OrderOp.TheVariants.{Bgt, Bge, Blt, Ble}
use Rattle.mips_text.specs.declared.directives.Directive.{Directive}
use Rattle.mips_text.specs.declared.directives.Directive.TheVariants as directives
use Rattle.mips_text.specs.declared.mnemonics.Mnemonic.{Mnemonic}
use Rattle.mips_text.specs.declared.mnemonics.Mnemonic.TheVariants as mnemonics

abbrev pub three_text : ThreeOp → List ℕ
three_text Add = codes "add"
three_text Addu = codes "addu"
three_text Sub = codes "sub"
three_text Subu = codes "subu"
three_text And = codes "and"
three_text Or = codes "or"
three_text Xor = codes "xor"
three_text Nor = codes "nor"
three_text Slt = codes "slt"
three_text Sltu = codes "sltu"

abbrev pub shift_text : ShiftOp → List ℕ
shift_text Sll = codes "sll"
shift_text Srl = codes "srl"
shift_text Sra = codes "sra"

abbrev pub shift_reg_text : ShiftRegOp → List ℕ
shift_reg_text Sllv = codes "sllv"
shift_reg_text Srlv = codes "srlv"
shift_reg_text Srav = codes "srav"

abbrev pub from_text : FromOp → List ℕ
from_text Mfhi = codes "mfhi"
from_text Mflo = codes "mflo"

abbrev pub to_text : ToOp → List ℕ
to_text Mthi = codes "mthi"
to_text Mtlo = codes "mtlo"

abbrev pub mul_div_text : MulDivOp → List ℕ
mul_div_text Mult = codes "mult"
mul_div_text Multu = codes "multu"
mul_div_text Div = codes "div"
mul_div_text Divu = codes "divu"

abbrev pub imm_text : ImmOp → List ℕ
imm_text Addi = codes "addi"
imm_text Addiu = codes "addiu"
imm_text Slti = codes "slti"
imm_text Sltiu = codes "sltiu"
imm_text Andi = codes "andi"
imm_text Ori = codes "ori"
imm_text Xori = codes "xori"

abbrev pub two_text : TwoOp → List ℕ
two_text Beq = codes "beq"
two_text Bne = codes "bne"

abbrev pub one_text : OneOp → List ℕ
one_text Blez = codes "blez"
one_text Bgtz = codes "bgtz"
one_text Bltz = codes "bltz"
one_text Bgez = codes "bgez"

abbrev pub jump_text : JumpOp → List ℕ
jump_text J = codes "j"
jump_text Jal = codes "jal"

abbrev pub mem_text : MemOp → List ℕ
mem_text Lb = codes "lb"
mem_text Lh = codes "lh"
mem_text Lw = codes "lw"
mem_text Lbu = codes "lbu"
mem_text Lhu = codes "lhu"
mem_text Sb = codes "sb"
mem_text Sh = codes "sh"
mem_text Sw = codes "sw"

abbrev pub zero_text : ZeroOp → List ℕ
zero_text Beqz = codes "beqz"
zero_text Bnez = codes "bnez"

abbrev pub order_text : OrderOp → List ℕ
order_text Bgt = codes "bgt"
order_text Bge = codes "bge"
order_text Blt = codes "blt"
order_text Ble = codes "ble"

abbrev pub mnemonic_text : Mnemonic → List ℕ
mnemonic_text (mnemonics.Three op) = three_text op
mnemonic_text (mnemonics.Shift op) = shift_text op
mnemonic_text (mnemonics.ShiftReg op) = shift_reg_text op
mnemonic_text mnemonics.Jr = codes "jr"
mnemonic_text mnemonics.Jalr = codes "jalr"
mnemonic_text mnemonics.Syscall = codes "syscall"
mnemonic_text (mnemonics.MoveFrom op) = from_text op
mnemonic_text (mnemonics.MoveTo op) = to_text op
mnemonic_text (mnemonics.MulDiv op) = mul_div_text op
mnemonic_text (mnemonics.Imm op) = imm_text op
mnemonic_text mnemonics.Lui = codes "lui"
mnemonic_text (mnemonics.BranchTwo op) = two_text op
mnemonic_text (mnemonics.BranchOne op) = one_text op
mnemonic_text (mnemonics.Jump op) = jump_text op
mnemonic_text (mnemonics.Mem op) = mem_text op
mnemonic_text mnemonics.La = codes "la"
mnemonic_text mnemonics.Li = codes "li"
mnemonic_text mnemonics.Move = codes "move"
mnemonic_text mnemonics.Neg = codes "neg"
mnemonic_text mnemonics.Nop = codes "nop"
mnemonic_text mnemonics.B = codes "b"
mnemonic_text (mnemonics.BranchZero op) = zero_text op
mnemonic_text (mnemonics.BranchOrder op) = order_text op
mnemonic_text mnemonics.Mul = codes "mul"

-- all mnemonics, and the one of a name
abbrev pub all_mnemonics : List Mnemonic
all_mnemonics =
    mnemonics.Three Add ∷ mnemonics.Three Addu ∷ mnemonics.Three Sub ∷ mnemonics.Three Subu
    ∷ mnemonics.Three And ∷ mnemonics.Three Or ∷ mnemonics.Three Xor ∷ mnemonics.Three Nor
    ∷ mnemonics.Three Slt ∷ mnemonics.Three Sltu ∷ mnemonics.Shift Sll ∷ mnemonics.Shift Srl
    ∷ mnemonics.Shift Sra ∷ mnemonics.ShiftReg Sllv ∷ mnemonics.ShiftReg Srlv ∷ mnemonics.ShiftReg Srav
    ∷ mnemonics.Jr ∷ mnemonics.Jalr ∷ mnemonics.Syscall ∷ mnemonics.MoveFrom Mfhi
    ∷ mnemonics.MoveFrom Mflo ∷ mnemonics.MoveTo Mthi ∷ mnemonics.MoveTo Mtlo ∷ mnemonics.MulDiv Mult
    ∷ mnemonics.MulDiv Multu ∷ mnemonics.MulDiv Div ∷ mnemonics.MulDiv Divu ∷ mnemonics.Imm Addi
    ∷ mnemonics.Imm Addiu ∷ mnemonics.Imm Slti ∷ mnemonics.Imm Sltiu ∷ mnemonics.Imm Andi
    ∷ mnemonics.Imm Ori ∷ mnemonics.Imm Xori ∷ mnemonics.Lui ∷ mnemonics.BranchTwo Beq
    ∷ mnemonics.BranchTwo Bne ∷ mnemonics.BranchOne Blez ∷ mnemonics.BranchOne Bgtz ∷ mnemonics.BranchOne Bltz
    ∷ mnemonics.BranchOne Bgez ∷ mnemonics.Jump J ∷ mnemonics.Jump Jal ∷ mnemonics.Mem Lb
    ∷ mnemonics.Mem Lh ∷ mnemonics.Mem Lw ∷ mnemonics.Mem Lbu ∷ mnemonics.Mem Lhu
    ∷ mnemonics.Mem Sb ∷ mnemonics.Mem Sh ∷ mnemonics.Mem Sw ∷ mnemonics.La
    ∷ mnemonics.Li ∷ mnemonics.Move ∷ mnemonics.Neg ∷ mnemonics.Nop
    ∷ mnemonics.B ∷ mnemonics.BranchZero Beqz ∷ mnemonics.BranchZero Bnez ∷ mnemonics.BranchOrder Bgt
    ∷ mnemonics.BranchOrder Bge ∷ mnemonics.BranchOrder Blt ∷ mnemonics.BranchOrder Ble ∷ mnemonics.Mul ∷ []

unfoldable pub mnemonic_named : List ℕ → Option Mnemonic
mnemonic_named name = find (λ mnemonic. bytes_eq (mnemonic_text mnemonic) name) all_mnemonics

abbrev pub directive_text : Directive → List ℕ
directive_text directives.Text = codes ".text"
directive_text directives.Data = codes ".data"
directive_text directives.Globl = codes ".globl"
directive_text directives.Word = codes ".word"
directive_text directives.Byte = codes ".byte"
directive_text directives.Ascii = codes ".ascii"
directive_text directives.Asciiz = codes ".asciiz"
directive_text directives.Space = codes ".space"
directive_text directives.Align = codes ".align"

-- all directives, and the one of a name
abbrev pub all_directives : List Directive
all_directives =
    directives.Text ∷ directives.Data ∷ directives.Globl ∷ directives.Word ∷ directives.Byte ∷ directives.Ascii ∷ directives.Asciiz
    ∷ directives.Space ∷ directives.Align ∷ []

unfoldable pub directive_named : List ℕ → Option Directive
directive_named name = find (λ directive. bytes_eq (directive_text directive) name) all_directives

-- a name: a letter, `_` or `.`, and then these and digits
abbrev pub is_name : List ℕ → Bool
is_name [] = false
is_name (b ∷ bs) = name_start b && list_all name_rest bs

-- whether a text begins with this letter
abbrev pub begins_with : ℕ → List ℕ → Bool
begins_with letter [] = false
begins_with letter (b ∷ bs) = b == letter

-- the names of registers, without the `$`, in the order of their numbers
abbrev pub register_texts : List (List ℕ)
register_texts =
    codes "zero" ∷ codes "at" ∷ codes "v0" ∷ codes "v1" ∷ codes "a0" ∷ codes "a1" ∷ codes "a2" ∷ codes "a3"
    ∷ codes "t0" ∷ codes "t1" ∷ codes "t2" ∷ codes "t3" ∷ codes "t4" ∷ codes "t5" ∷ codes "t6" ∷ codes "t7"
    ∷ codes "s0" ∷ codes "s1" ∷ codes "s2" ∷ codes "s3" ∷ codes "s4" ∷ codes "s5" ∷ codes "s6" ∷ codes "s7"
    ∷ codes "t8" ∷ codes "t9" ∷ codes "k0" ∷ codes "k1" ∷ codes "gp" ∷ codes "sp" ∷ codes "fp" ∷ codes "ra" ∷ []

abbrev pub register_text : ℕ → List ℕ
register_text number = get_or register_texts number []
