-- The order in which the branches of a `case` are tried: those of deeper classes first, and otherwise in the order of the text.
use Rattle.std.specs.Prelude.{ℕ, List, [], ◌∷◌, nat_lt, if◌then◌else◌, flat_map}
use Rattle.mips_isa.specs.Lines.{Line, lines_of}
use Rattle.cool_codegen.specs.declared.arm.Arm as declared_arm

-- the lines of a branch, and the number of classes above its class
pub record Arm : Type 0 where
  pub depth : ℕ
  pub lines : List Line

abbrev pub arm_of : {S : Type 0} → declared_arm.Arm S → Arm
arm_of a = record { depth = a.depth; lines = lines_of a.lines.items }

-- the branches with one more, which comes after those of classes that are at least as deep
abbrev pub with_arm : List Arm → Arm → List Arm
with_arm [] b = b ∷ []
with_arm (a ∷ as') b = if nat_lt a.depth b.depth then b ∷ a ∷ as' else a ∷ with_arm as' b

abbrev pub arms_lines : List Arm → List Line
arms_lines = flat_map (λ a. a.lines)
