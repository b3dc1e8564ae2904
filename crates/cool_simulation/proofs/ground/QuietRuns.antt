-- If a run does not trap although the words at some addresses are missing from the program text, the same run succeeds over the whole text, and never reaches
-- these addresses.
use Rattle.std.proofs.Common.{◌≡◌, ℕ, zero, suc, ◌%◌, ◌<◌, List, Option, None, Bool as Truth, true, false, refl, sym, ap, ◌∙◌, subst, arith, ◌≤◌}
use Rattle.std.specs.Prelude.{if◌then◌else◌, not, ◌==◌}
use Rattle.mips_isa.specs.declared.address_map.TheConstants.{TEXT_START}
use Rattle.mips_isa.specs.Bytes.{Segments, lies}
use Rattle.mips_isa.specs.Calls.{State, Outcome, Running, Exited, Trapped}
use Rattle.mips_isa.specs.declared.instr.Instr.{Instr}
use Rattle.mips_isa.specs.declared.trap.Trap.{Trap}
use Rattle.mips_isa.specs.declared.trap.TrapKind.TheVariants.{BadAddress, Unaligned}
use Rattle.mips_isa.specs.Decoding.{decoded}
use Rattle.mips_isa.specs.Machine.{Next, Stop, act_or_none, word_of_text}
use Rattle.mips_isa.specs.Run.{after, and_then, cycle, run}

-- a run that did not trap
abbrev pub IsLive : Outcome → Type 0
IsLive (Running s) = Unit {0}
IsLive (Exited code s) = Unit {0}
IsLive (Trapped trap s) = ⊥

pub same_running : (s t : State) → Running s ≡ Running t → s ≡ t
same_running s t e = cc

module _ (quiet whole : List ℕ) (marked : ℕ → Truth) (same : (a : ℕ) → a % 4 ≡ 0 → TEXT_START ≤ a → marked a ≡ false → word_of_text quiet a ≡ word_of_text whole a)
    (traps : (a : ℕ) → a % 4 ≡ 0 → TEXT_START ≤ a → marked a ≡ true → decoded (word_of_text quiet a) ≡ None) (b : Segments) where
  -- the addresses from which the machine may fetch
  lying : (s : State) → lies TEXT_START b.text_end s.core.pc 4 ≡ true → TEXT_START ≤ s.core.pc
  lying s h = grind (arith, h)

  even : (s : State) → (s.core.pc % 4 == 0) ≡ true → s.core.pc % 4 ≡ 0
  even s h = grind (arith, h)

  -- a fetch by what is decoded
  abbrev Fetch : State → Option Instr → Truth → Truth → Next
  Fetch s o aligned may =
      if not aligned then Stop (record { kind = Unaligned; address = s.core.pc; pc = s.core.pc })
      else (if not may then Stop (record { kind = BadAddress; address = s.core.pc; pc = s.core.pc }) else act_or_none b o s.core)

  -- if a word is missing, the machine traps
  missing : (s : State) → marked s.core.pc ≡ true → (t : Trap) × (cycle quiet b s ≡ Trapped t s)
  missing s mark = by (s.core.pc % 4 == 0) (lies TEXT_START b.text_end s.core.pc 4) refl refl
    where
      by : (x y : Truth) → (s.core.pc % 4 == 0) ≡ x → lies TEXT_START b.text_end s.core.pc 4 ≡ y
          → (t : Trap) × (after b s (Fetch s (decoded (word_of_text quiet s.core.pc)) x y) ≡ Trapped t s)
      by false y ex ey = (_, refl)
      by true false ex ey = (_, refl)
      by true true ex ey = (_, ap (λ (o : Option Instr). after b s (act_or_none b o s.core)) (traps s.core.pc (even s ex) (lying s ey) mark))

  alike : (s : State) → marked s.core.pc ≡ false → cycle whole b s ≡ cycle quiet b s
  alike s free = by (s.core.pc % 4 == 0) (lies TEXT_START b.text_end s.core.pc 4) refl refl
    where
      by : (x y : Truth) → (s.core.pc % 4 == 0) ≡ x → lies TEXT_START b.text_end s.core.pc 4 ≡ y
          → after b s (Fetch s (decoded (word_of_text whole s.core.pc)) x y) ≡ after b s (Fetch s (decoded (word_of_text quiet s.core.pc)) x y)
      by false y ex ey = refl
      by true false ex ey = refl
      by true true ex ey = ap (λ (x : ℕ). after b s (act_or_none b (decoded x) s.core)) (sym (same s.core.pc (even s ex) (lying s ey) free))

  -- the run over the whole text is the same, and stands at no word that is missing
  abbrev pub Same : ℕ → State → Outcome → Type 0
  Same k s o = (run whole b k s ≡ o) × ((m : ℕ) (t : State) → m < k → run whole b m s ≡ Running t → marked t.core.pc ≡ true → ⊥)

  at_first : (s t : State) → marked s.core.pc ≡ false → Running s ≡ Running t → marked t.core.pc ≡ true → ⊥
  at_first s t free e mark = let wrong : marked t.core.pc ≡ false = subst (λ (x : State). marked x.core.pc ≡ false) (same_running s t e) free in let clash : true ≡ false = sym mark ∙ wrong in absurd cc

  later : (m : ℕ) (t : State) (k : ℕ) (s s1 : State) → marked s.core.pc ≡ false → cycle whole b s ≡ Running s1 → ((m : ℕ) (t : State) → m < k → run whole b m s1 ≡ Running t → marked t.core.pc ≡ true → ⊥) → m < suc k
      → run whole b m s ≡ Running t → marked t.core.pc ≡ true → ⊥
  later zero t k s s1 free over none less e mark = at_first s t free e mark
  later (suc m) t k s s1 free over none less e mark = none m t (omega arith) (sym (ap (λ (c : Outcome). and_then c (run whole b m)) over) ∙ e) mark

  ended : (m : ℕ) (t s s1 : State) (code : ℕ) → marked s.core.pc ≡ false → cycle whole b s ≡ Exited code s1 → run whole b m s ≡ Running t → marked t.core.pc ≡ true → ⊥
  ended zero t s s1 code free over e mark = at_first s t free e mark
  ended (suc m) t s s1 code free over e mark = let wrong : Exited code s1 ≡ Running t = sym (ap (λ (c : Outcome). and_then c (run whole b m)) over) ∙ e in absurd cc

  module _ (k : ℕ) (before : (s : State) (o : Outcome) → run quiet b k s ≡ o → IsLive o → Same k s o) (s : State) (o : Outcome) (e : run quiet b (suc k) s ≡ o) (live : IsLive o) where
    by_cycle : marked s.core.pc ≡ false → (c : Outcome) → cycle quiet b s ≡ c → Same (suc k) s o
    by_cycle free (Running s1) is =
        let over : cycle whole b s ≡ Running s1 = alike s free ∙ is in
        let h = before s1 o (sym (ap (λ (c : Outcome). and_then c (run quiet b k)) is) ∙ e) live in (
          ap (λ (c : Outcome). and_then c (run whole b k)) over ∙ h.0,
          λ m t less e1 mark. later m t k s s1 free over h.1 less e1 mark,
        )
    by_cycle free (Exited code s1) is =
        let over : cycle whole b s ≡ Exited code s1 = alike s free ∙ is in (
          ap (λ (c : Outcome). and_then c (run whole b k)) over ∙ sym (ap (λ (c : Outcome). and_then c (run quiet b k)) is) ∙ e,
          λ m t less e1 mark. ended m t s s1 code free over e1 mark,
        )
    by_cycle free (Trapped trap s1) is = absurd (subst IsLive (sym e ∙ ap (λ (c : Outcome). and_then c (run quiet b k)) is) live)

    by_mark : (x : Truth) → marked s.core.pc ≡ x → Same (suc k) s o
    by_mark true mark = let h = missing s mark in absurd (subst IsLive (sym e ∙ ap (λ (c : Outcome). and_then c (run quiet b k)) h.1) live)
    by_mark false free = by_cycle free (cycle quiet b s) refl

  pub same_run : (k : ℕ) (s : State) (o : Outcome) → run quiet b k s ≡ o → IsLive o → Same k s o
  same_run zero s o e live = (e, λ m t less. absurd (omega arith))
  same_run (suc k) s o e live = by_mark k (same_run k) s o e live (marked s.core.pc) refl
