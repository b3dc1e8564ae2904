-- After each instruction that neither jumps nor branches, the machine is at the next word.
use Rattle.std.proofs.Common.{◌≡◌, ℕ, zero, suc, ◌+◌, ◌*◌, ◌%◌, ◌≤◌, List, [], ◌∷◌, length, Option, None, Some, Bool as Truth, true, false, refl, sym, ap, ◌∙◌, subst, arith}
use Rattle.std.specs.Prelude.{if◌then◌else◌, not, ◌==◌}
use Rattle.mips_isa.specs.declared.address_map.TheConstants.{TEXT_START}
use Rattle.mips_isa.specs.declared.instr.Instr.{Instr}
use Rattle.mips_isa.specs.declared.instr.Instr.TheVariants.{Three, Shift, Imm, Lui, Mem}
use Rattle.mips_isa.specs.declared.instr.MemOp.TheVariants.{Lw}
use Rattle.mips_isa.specs.declared.trap.Trap.{Trap}
use Rattle.mips_isa.specs.Bytes.{Segments, lies, readable, word}
use Rattle.mips_isa.specs.Calls.{State, Outcome, Running, Exited, Trapped}
use Rattle.mips_isa.specs.Decoding.{decoded}
use Rattle.mips_isa.specs.Machine.{Core, Next, On, Call, Stop, act, act_or_none, imm_result, put, put_or_overflow, three_result, word_of_text, wrap}
use Rattle.mips_isa.specs.Run.{after, and_then, cycle, run}
use Rattle.mips_isa.specs.Words.{bits_of}
use Rattle.cool_runtime.specs.Reaches.{World}
use Rattle.cool_runtime.specs.Standing.{InstructionAt, InstructionsAt}
use Rattle.cool_simulation.proofs.ground.QuietRuns.{same_running}

-- an instruction that goes on to the next word
abbrev pub IsStraight : Instr → Type 0
IsStraight (Lui rt i) = Unit {0}
IsStraight (Imm op rt rs i) = Unit {0}
IsStraight (Three op rd rs rt) = Unit {0}
IsStraight (Shift op rd rt sh) = Unit {0}
IsStraight (Mem Lw rt rs i) = Unit {0}
IsStraight _ = ⊥

abbrev pub AreStraight : List Instr → Type 0
AreStraight [] = Unit {0}
AreStraight (i ∷ is) = IsStraight i × AreStraight is

-- the next word, or a trap
abbrev GoesOn : ℕ → Next → Type 0
GoesOn pc (On core) = core.pc ≡ pc + 4
GoesOn pc (Call core) = ⊥
GoesOn pc (Stop trap) = Unit {0}

goes_put : (s : Core) (k : ℕ) (o : Option ℕ) → GoesOn s.pc (put_or_overflow s k o)
goes_put s k None = tt
goes_put s k (Some v) = refl

goes_access : (even may : Truth) (pc : ℕ) (t u : Trap) (next : Next) → GoesOn pc next → GoesOn pc (if not even then Stop t else (if not may then Stop u else next))
goes_access false may pc t u next h = tt
goes_access true false pc t u next h = tt
goes_access true true pc t u next h = h

goes : (b : Segments) (i : Instr) (s : Core) → IsStraight i → GoesOn s.pc (act b i s)
goes b (Lui rt i) s h = refl
goes b (Imm op rt rs i) s h = goes_put s rt (imm_result op (s.registers rs) (bits_of i))
goes b (Three op rd rs rt) s h = goes_put s rd (three_result op (s.registers rs) (s.registers rt))
goes b (Shift op rd rt sh) s h = refl
goes b (Mem Lw rt rs i) s h =
    let a = wrap (s.registers rs + bits_of i) in
    goes_access (a % 4 == 0) (readable b a 4) s.pc _ _ (put s rt (word s.memory a)) refl
goes b _ s h = absurd h

running_on : (b : Segments) (s t : State) (n : Next) → GoesOn s.core.pc n → after b s n ≡ Running t → t.core.pc ≡ s.core.pc + 4
running_on b s t (On core) h e = sym (ap (λ (x : State). x.core.pc) (same_running _ t e)) ∙ h
running_on b s t (Call core) h e = absurd h
running_on b s t (Stop trap) h e = let wrong : Trapped trap s ≡ Running t = e in absurd cc

module _ (w : World) where
  goes_next : (i : Instr) (s t : State) → IsStraight i → InstructionAt w s.core.pc i → cycle w.text w.segments s ≡ Running t → t.core.pc ≡ s.core.pc + 4
  goes_next i s t straight at e =
      running_on w.segments s t _
      (goes_access (s.core.pc % 4 == 0) (lies TEXT_START w.segments.text_end s.core.pc 4) s.core.pc _ _ (act_or_none w.segments (decoded (word_of_text w.text s.core.pc)) s.core)
      (subst (λ (o : Option Instr). GoesOn s.core.pc (act_or_none w.segments o s.core)) (sym at.is) (goes w.segments i s.core straight))) e

  -- after m of them the machine stands m words further on
  pub stands_behind : (is : List Instr) (m pc : ℕ) (s t : State) → AreStraight is → InstructionsAt w pc is → s.core.pc ≡ pc → m ≤ length is → run w.text w.segments m s ≡ Running t → t.core.pc ≡ pc + 4 * m
  stands_behind is zero pc s t straight at here less e = sym (ap (λ (x : State). x.core.pc) (same_running s t e)) ∙ here ∙ omega arith
  stands_behind [] (suc m) pc s t straight at here less e = absurd (omega arith)
  stands_behind (i ∷ is) (suc m) pc s t straight at here less e =
      by (cycle w.text w.segments s) refl (λ u there more. stands_behind is m (pc + 4) u t straight.1 at.1 there (omega arith) more)
    where
      by : (o : Outcome) → cycle w.text w.segments s ≡ o → ((u : State) → u.core.pc ≡ pc + 4 → run w.text w.segments m u ≡ Running t → t.core.pc ≡ pc + 4 + 4 * m) → t.core.pc ≡ pc + 4 * suc m
      by (Running u) is' behind =
          let there = goes_next i s u straight.0 (subst (λ (a : ℕ). InstructionAt w a i) (sym here) at.0) is' in
          behind u (omega arith) (sym (ap (λ (o : Outcome). and_then o (run w.text w.segments m)) is') ∙ e) ∙ omega arith
      by (Exited code u) is' behind = let wrong : Exited code u ≡ Running t = sym (ap (λ (o : Outcome). and_then o (run w.text w.segments m)) is') ∙ e in absurd cc
      by (Trapped trap u) is' behind = let wrong : Trapped trap u ≡ Running t = sym (ap (λ (o : Outcome). and_then o (run w.text w.segments m)) is') ∙ e in absurd cc
