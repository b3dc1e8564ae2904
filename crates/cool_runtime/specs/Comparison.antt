-- `Verdict` is the result of comparing two values with `=`, and the reason for it; `Operands` says in which registers the machine holds them.
use Rattle.std.specs.Prelude.{ℕ, ◌+◌, ◌≡◌, ◌⊎◌, ◌==◌, Bool, true, false, if◌then◌else◌, List, bytes_eq}
use Rattle.mips_isa.specs.declared.register.TheConstants.{T1, T2}
use Rattle.mips_isa.specs.Bytes.{Bytes, word}
use Rattle.mips_isa.specs.Calls.{State}
use Rattle.cool_runtime.specs.Reaches.{World}
use Rattle.cool_runtime.specs.Labels.{true_constant, false_constant}
use Rattle.cool_runtime.specs.Contents.{Lies}
use Rattle.cool_runtime.specs.Machines.{At, Pointers, Console}

-- the machine has these registers, memory and console, and $t1 and $t2 hold the operands
pub record Operands (w : World) (p : Pointers) (m : Bytes) (c : Console) (a b : ℕ) (s : State) : Type 0 where
  pub at : At w p m c s
  pub t1_is : s.core.registers T1 ≡ a
  pub t2_is : s.core.registers T2 ≡ b

-- an Int or a Bool with its value
pub record ValueAt (w : World) (m : Bytes) (gp a v : ℕ) : Type 0 where
  pub lies : Lies w gp a 16
  pub value : word m (a + 12) ≡ v

-- the address of a Bool
abbrev pub constant_place : World → Bool → ℕ
constant_place w t = if t then w.place true_constant else w.place false_constant

-- The verdict, and the reason for it.
pub data Verdict (w : World) (a b ta tb v u : ℕ) (xs ys : List ℕ) (t : Bool) : Type 0 where
  Identical : a ≡ b → t ≡ true → Verdict w a b ta tb v u xs ys t
  WithVoid : (a ≡ b → ⊥) → (a ≡ 0) ⊎ (b ≡ 0) → t ≡ false → Verdict w a b ta tb v u xs ys t
  OtherTags : (a ≡ b → ⊥) → (ta ≡ tb → ⊥) → t ≡ false → Verdict w a b ta tb v u xs ys t
  ByValue : ta ≡ tb → (ta ≡ w.tags.int) ⊎ (ta ≡ w.tags.bool) → t ≡ (v == u) → Verdict w a b ta tb v u xs ys t
  ByBytes : ta ≡ tb → ta ≡ w.tags.string → t ≡ bytes_eq xs ys → Verdict w a b ta tb v u xs ys t
  ByIdentity : (a ≡ b → ⊥) → (ta ≡ w.tags.int → ⊥) → (ta ≡ w.tags.bool → ⊥) → (ta ≡ w.tags.string → ⊥) → t ≡ false → Verdict w a b ta tb v u xs ys t
