-- A run over assembly lines in the text segment reaches its goal if the precondition holds that `w_lines` of `Walk.antt` computes from these lines.
use Rattle.std.proofs.Common.{◌≡◌, ℕ, zero, suc, ◌+◌, ◌-◌, ◌*◌, ◌/◌, ◌%◌, ◌<◌, ◌≤◌, ◌⊎◌, List, [], ◌∷◌, Option, Some, None, refl, sym, ap, ◌∙◌, subst, arith, Bool, true, false}
use Rattle.std.specs.Prelude.{ℤ, pos, negsuc, bit_or, nat_le, ◌==◌, ◌||◌, if◌then◌else◌}
use Rattle.std.proofs.Math.Path.{fun_ext}
use Rattle.std.proofs.lemmas.Nat.{or_shifted}
use Rattle.mips_isa.specs.declared.register.TheConstants.{RA}
use Rattle.mips_isa.specs.declared.instr.Instr.{Instr}
use Rattle.mips_isa.specs.declared.instr.Instr.TheVariants.{Three, Shift, ShiftReg, Jr, Jalr, Syscall, MoveFrom, MoveTo, MulDiv, Imm, Lui, BranchTwo, BranchOne, Jump, Mem}
use Rattle.mips_isa.specs.declared.instr.FromOp.{FromOp}
use Rattle.mips_isa.specs.declared.instr.FromOp.TheVariants.{Mfhi, Mflo}
use Rattle.mips_isa.specs.declared.instr.MulDivOp.{MulDivOp}
use Rattle.mips_isa.specs.declared.instr.MulDivOp.TheVariants.{Mult, Multu, Div, Divu}
use Rattle.mips_isa.specs.declared.instr.TwoOp.TheVariants.{Beq}
use Rattle.mips_isa.specs.declared.instr.MemOp.{MemOp}
use Rattle.mips_isa.specs.declared.instr.MemOp.TheVariants.{Lb, Lh, Lw, Lbu, Lhu, Sb, Sh, Sw}
use Rattle.mips_isa.specs.declared.instr.JumpOp.{JumpOp}
use Rattle.mips_isa.specs.declared.instr.JumpOp.TheVariants.{J, Jal}
use Rattle.mips_isa.specs.Words.{bits_of}
use Rattle.mips_isa.specs.declared.address_map.TheConstants.{TEXT_START}
use Rattle.mips_isa.specs.Bytes.{Bytes, Segments, writable, readable, lies}
use Rattle.mips_isa.specs.Machine as machine
use Rattle.mips_isa.specs.Machine.{Core, Registers, set_register, wrap, three_result, imm_result, two_result, one_result, put, put_or_overflow, mem, mul_div, step, act, access}
use Rattle.mips_isa.specs.Calls.{State, Running, Exited, call, print_string}
use Rattle.mips_isa.specs.Run.{cycle, after}
use Rattle.mips_isa.specs.Lines.{Name, AsmInstr, Plain, ToTwo, ToOne, ToJump, La, Li, Move, B, BranchZero, Statement, Empty, Instruction, Line}
use Rattle.mips_isa.specs.Assembly.{need, words_of_instruction, zero_branch, offset, expansion, instructions, load_address}
use Rattle.cool_runtime.specs.Reaches.{World, Goal, Reaches, Limited}
use Rattle.cool_runtime.specs.Standing.{InstructionAt, InstructionsAt, IsTarget, InstructionHolds, Holds, HasLines, size}
use Rattle.cool_runtime.specs.Walk.{Beside, st, Ending, Next, OkWord, OkByte, Service, PrintInt, PrintString, ReadInt, ReadChar, Exit, ExitWith, w_service, w_value, w_mem, w_branch, w_hi_lo, w_from, w_plain, w_jump, w_to, w_instruction, w_statement, w_over_words, w_lines, steps}
use Rattle.cool_runtime.proofs.Runs.{wider, one, ended}
use Rattle.mips_asm.specs.TextWords.{words_needed}

-- a word of a register and memory

ok_word : (b : Segments) (a : ℕ) → OkWord b a → writable b a 4 ≡ true
ok_word b a h = grind arith

ok_byte : (b : Segments) (a : ℕ) → OkByte b a → writable b a 1 ≡ true
ok_byte b a h = grind arith

may_read : (b : Segments) (a n : ℕ) → writable b a n ≡ true → readable b a n ≡ true
may_read b a n h = rw h (either (lies TEXT_START b.text_end a n))
  where
    either : (t : Bool) → (t || true) ≡ true
    either true = refl
    either false = refl

accessed : (n : ℕ) (may : Bool) (pc a : ℕ) (next : machine.Next) → a % n ≡ 0 → may ≡ true → access n may pc a next ≡ next
accessed n may pc a next even granted = rw (even, granted) refl

-- `lui` and `ori` with the halves of a number
halves : (n : ℕ) → n < 4294967296 → bit_or (wrap (n / 65536 * 65536)) (n % 65536) ≡ n
halves n small =
    let upper : wrap (n / 65536 * 65536) ≡ n / 65536 * 65536 = omega arith in
    rw upper (or_shifted (n / 65536) 16 (n % 65536) (omega arith) ∙ omega arith)

set_twice : (r : Registers) (k v u : ℕ) → set_register (set_register r k v) k u ≡ set_register r k u
set_twice r k v u = fun_ext (λ q. grind arith)

set_own : (r : Registers) (k v : ℕ) → 0 < k → set_register r k v k ≡ v
set_own r k v h = grind arith

module _ (w : World) where
  -- the instruction at pc is executed
  stepped : (i : Instr) (s : Core) → InstructionAt w s.pc i → step w.text w.segments s ≡ act w.segments i s
  stepped i s at =
      let even : (s.pc % 4 == 0) ≡ true = grind (arith, at.even) in
      let lying : lies TEXT_START w.segments.text_end s.pc 4 ≡ true = grind (arith, at.from, at.to) in
      rw (even, lying, at.is) refl

  cycled : (i : Instr) (s : State) → InstructionAt w s.core.pc i → cycle w.text w.segments s ≡ after w.segments s (act w.segments i s.core)
  cycled i s at = ap (after w.segments s) (stepped i s.core at)

  abbrev Ending' : Goal → Ending
  Ending' goal = λ code s. goal (Exited code s) ⊎ Limited w code s

  module _ (lo hi : ℕ) (goal : Goal) where
    abbrev Ahead : State → Type 0
    Ahead s = Reaches w s (suc lo) (suc hi) goal

    -- the continuation, after any number of lines that are passed over
    abbrev From : ℕ → Next → Type 0
    From pc go = (k : ℕ) (r : Registers) (pc' : ℕ) (m : Bytes) (x : Beside) → pc' ≡ pc + 4 + 4 * k → go k r pc' m x → Reaches w (st r pc' m x) lo hi goal

    -- an instruction that puts a value into a register
    c_value : (v : Option ℕ) (r : Registers) (pc : ℕ) (m : Bytes) (x : Beside) (k : ℕ) (go : Next)
        → cycle w.text w.segments (st r pc m x) ≡ after w.segments (st r pc m x) (put_or_overflow (st r pc m x).core k v)
        → w_value v (λ u. go 0 (set_register r k u) (pc + 4) m x) → From pc go → Ahead (st r pc m x)
    c_value None r pc m x k go e h next = absurd h
    c_value (Some u) r pc m x k go e h next = one w (st r pc m x) (st (set_register r k u) (pc + 4) m x) lo hi goal e (next 0 _ _ _ _ (omega arith) h)

    -- a load or a store
    c_mem : (op : MemOp) (r : Registers) (pc : ℕ) (m : Bytes) (x : Beside) (k a : ℕ) (go : Next)
        → cycle w.text w.segments (st r pc m x) ≡ after w.segments (st r pc m x) (mem w.segments op (st r pc m x).core k a)
        → w_mem w.segments op r m k a (λ r' m'. go 0 r' (pc + 4) m' x) → From pc go → Ahead (st r pc m x)
    c_mem Lb r pc m x k a go e h next = absurd h
    c_mem Lh r pc m x k a go e h next = absurd h
    c_mem Lhu r pc m x k a go e h next = absurd h
    c_mem Sh r pc m x k a go e h next = absurd h
    c_mem Lw r pc m x k a go e h next =
        let may : readable w.segments a 4 ≡ true = may_read w.segments a 4 (ok_word w.segments a h.0) in
        one w (st r pc m x) _ lo hi goal (e ∙ ap (after w.segments (st r pc m x)) (accessed 4 (readable w.segments a 4) pc a _ h.0.even may)) (next 0 _ _ _ _ (omega arith) h.1)
    c_mem Sw r pc m x k a go e h next =
        one w (st r pc m x) _ lo hi goal (e ∙ ap (after w.segments (st r pc m x)) (accessed 4 (writable w.segments a 4) pc a _ h.0.even (ok_word w.segments a h.0))) (next 0 _ _ _ _ (omega arith) h.1)
    c_mem Lbu r pc m x k a go e h next =
        let may : readable w.segments a 1 ≡ true = may_read w.segments a 1 (ok_byte w.segments a h.0) in
        one w (st r pc m x) _ lo hi goal (e ∙ ap (after w.segments (st r pc m x)) (accessed 1 (readable w.segments a 1) pc a _ (omega arith) may)) (next 0 _ _ _ _ (omega arith) h.1)
    c_mem Sb r pc m x k a go e h next =
        one w (st r pc m x) _ lo hi goal (e ∙ ap (after w.segments (st r pc m x)) (accessed 1 (writable w.segments a 1) pc a _ (omega arith) (ok_byte w.segments a h.0))) (next 0 _ _ _ _ (omega arith) h.1)

    -- a branch that passes over a line
    c_branch : (t : Bool) (i : ℤ) (r : Registers) (pc : ℕ) (m : Bytes) (x : Beside) (go : Next) → pc + 4 < 268435456
        → cycle w.text w.segments (st r pc m x) ≡ after w.segments (st r pc m x) (machine.branch (st r pc m x).core t i)
        → w_branch t i pc (λ k pc'. go k r pc' m x) → From pc go → Ahead (st r pc m x)
    c_branch true (pos (suc zero)) r pc m x go low e h next =
        let p : wrap (pc + 4 + 4 * 1) ≡ pc + 8 = omega arith in
        one w (st r pc m x) (st r (pc + 8) m x) lo hi goal (e ∙ ap (λ p. Running (st r p m x)) p) (next 1 _ _ _ _ (omega arith) (h.0 refl))
    c_branch false (pos (suc zero)) r pc m x go low e h next = one w (st r pc m x) (st r (pc + 4) m x) lo hi goal e (next 0 _ _ _ _ (omega arith) (h.1 refl))
    c_branch t (pos zero) r pc m x go low e h next = absurd h
    c_branch t (pos (suc (suc n))) r pc m x go low e h next = absurd h
    c_branch t (negsuc n) r pc m x go low e h next = absurd h

    c_hi_lo : (op : MulDivOp) (a b : ℕ) (r : Registers) (pc : ℕ) (m : Bytes) (x : Beside) (go : Next)
        → cycle w.text w.segments (st r pc m x) ≡ after w.segments (st r pc m x) (mul_div op (st r pc m x).core a b)
        → w_hi_lo op a b x (λ y. go 0 r (pc + 4) m y) → From pc go → Ahead (st r pc m x)
    c_hi_lo Mult a b r pc m x go e h next = one w (st r pc m x) _ lo hi goal e (next 0 _ _ _ _ (omega arith) h)
    c_hi_lo Multu a b r pc m x go e h next = one w (st r pc m x) _ lo hi goal e (next 0 _ _ _ _ (omega arith) h)
    c_hi_lo Div a b r pc m x go e h next = one w (st r pc m x) _ lo hi goal (e ∙ rw h.0 refl) (next 0 _ _ _ _ (omega arith) h.1)
    c_hi_lo Divu a b r pc m x go e h next = one w (st r pc m x) _ lo hi goal (e ∙ rw h.0 refl) (next 0 _ _ _ _ (omega arith) h.1)

    c_from : (op : FromOp) (rd : ℕ) (r : Registers) (pc : ℕ) (m : Bytes) (x : Beside) (go : Next)
        → cycle w.text w.segments (st r pc m x) ≡ after w.segments (st r pc m x) (act w.segments (MoveFrom op rd) (st r pc m x).core)
        → go 0 (set_register r rd (w_from op x)) (pc + 4) m x → From pc go → Ahead (st r pc m x)
    c_from Mfhi rd r pc m x go e h next = one w (st r pc m x) _ lo hi goal e (next 0 _ _ _ _ (omega arith) h)
    c_from Mflo rd r pc m x go e h next = one w (st r pc m x) _ lo hi goal e (next 0 _ _ _ _ (omega arith) h)

    -- a system call
    c_service : (service : Service) (r : Registers) (pc : ℕ) (m : Bytes) (x : Beside) (go : Next)
        → cycle w.text w.segments (st r pc m x) ≡ call w.segments (st r (pc + 4) m x)
        → w_service w.segments service r pc m x go (Ending' goal) → From pc go → Ahead (st r pc m x)
    c_service PrintInt r pc m x go e h next = one w (st r pc m x) _ lo hi goal (e ∙ rw h.0 refl) (next 0 _ _ _ _ (omega arith) h.1)
    c_service (PrintString bytes) r pc m x go e h next =
        one w (st r pc m x) _ lo hi goal (e ∙ rw h.0 (ap (print_string (st r (pc + 4) m x)) h.1)) (next 0 _ _ _ _ (omega arith) h.2)
    c_service ReadInt r pc m x go e h next = one w (st r pc m x) _ lo hi goal (e ∙ rw h.0 refl) (next 0 _ _ _ _ (omega arith) h.1)
    c_service ReadChar r pc m x go e h next = one w (st r pc m x) _ lo hi goal (e ∙ rw h.0 refl) (next 0 _ _ _ _ (omega arith) h.1)
    c_service Exit r pc m x go e h next =
        wider w (st r pc m x) (suc lo) (suc lo) 1 (suc hi) goal (omega arith) (omega arith) (ended w (st r pc m x) (st r (pc + 4) m x) 0 (suc lo) goal (e ∙ rw h.0 refl) h.1)
    c_service ExitWith r pc m x go e h next =
        wider w (st r pc m x) (suc lo) (suc lo) 1 (suc hi) goal (omega arith) (omega arith) (ended w (st r pc m x) (st r (pc + 4) m x) (r 4) (suc lo) goal (e ∙ rw h.0 refl) h.1)

    -- one instruction; where a jump leads, fewer may be left
    c_plain : (less : ℕ) → less ≤ hi → (i : Instr) (r : Registers) (pc : ℕ) (m : Bytes) (x : Beside) (go : Next) → InstructionAt w pc i
        → w_plain w.segments i r pc m x go (λ r pc m x. Reaches w (st r pc m x) lo less goal) (Ending' goal) → From pc go → Ahead (st r pc m x)
    c_plain less le (Three op rd rs rt) r pc m x go at h next = c_value (three_result op (r rs) (r rt)) r pc m x rd go (cycled _ (st r pc m x) at) h next
    c_plain less le (Shift op rd rt sh) r pc m x go at h next = one w (st r pc m x) _ lo hi goal (cycled _ (st r pc m x) at) (next 0 _ _ _ _ (omega arith) h)
    c_plain less le (ShiftReg op rd rt rs) r pc m x go at h next = one w (st r pc m x) _ lo hi goal (cycled _ (st r pc m x) at) (next 0 _ _ _ _ (omega arith) h)
    c_plain less le (Jr rs) r pc m x go at h next =
        one w (st r pc m x) (st r (r rs) m x) lo hi goal (cycled _ (st r pc m x) at) (wider w (st r (r rs) m x) lo lo less hi goal (omega arith) le h)
    c_plain less le (Jalr rd rs) r pc m x go at h next =
        let t = st (set_register r rd (pc + 4)) (r rs) m x in
        one w (st r pc m x) t lo hi goal (cycled _ (st r pc m x) at) (wider w t lo lo less hi goal (omega arith) le h)
    c_plain less le Syscall r pc m x go at h next = c_service h.0 r pc m x go (cycled _ (st r pc m x) at) h.1 next
    c_plain less le (MoveFrom op rd) r pc m x go at h next = c_from op rd r pc m x go (cycled _ (st r pc m x) at) h next
    c_plain less le (MoveTo op rs) r pc m x go at h next = absurd h
    c_plain less le (MulDiv op rs rt) r pc m x go at h next = c_hi_lo op (r rs) (r rt) r pc m x go (cycled _ (st r pc m x) at) h next
    c_plain less le (Imm op rt rs i) r pc m x go at h next = c_value (imm_result op (r rs) (bits_of i)) r pc m x rt go (cycled _ (st r pc m x) at) h next
    c_plain less le (Lui rt i) r pc m x go at h next = one w (st r pc m x) _ lo hi goal (cycled _ (st r pc m x) at) (next 0 _ _ _ _ (omega arith) h)
    c_plain less le (BranchTwo op rs rt i) r pc m x go at h next = c_branch (two_result op (r rs) (r rt)) i r pc m x go at.low (cycled _ (st r pc m x) at) h next
    c_plain less le (BranchOne op rs i) r pc m x go at h next = c_branch (one_result op (r rs)) i r pc m x go at.low (cycled _ (st r pc m x) at) h next
    c_plain less le (Jump op i) r pc m x go at h next = absurd h
    c_plain less le (Mem op rt rs i) r pc m x go at h next = c_mem op r pc m x rt (wrap (r rs + bits_of i)) go (cycled _ (st r pc m x) at) h next

    -- a jump to a label
    c_jump : (less : ℕ) → less ≤ hi → (op : JumpOp) (l : Name) (r : Registers) (pc : ℕ) (m : Bytes) (x : Beside) → InstructionAt w pc (Jump op (w.place l / 4)) → IsTarget w l
        → w_jump op (w.place l) r pc m x (λ r pc m x. Reaches w (st r pc m x) lo less goal) → Ahead (st r pc m x)
    c_jump less le J l r pc m x at target h =
        let p : machine.jump_target pc (w.place l / 4) ≡ w.place l = omega (arith, at.low, target.low, target.even) in
        one w (st r pc m x) (st r (w.place l) m x) lo hi goal (cycled _ (st r pc m x) at ∙ ap (λ p. Running (st r p m x)) p) (wider w (st r (w.place l) m x) lo lo less hi goal (omega arith) le h)
    c_jump less le Jal l r pc m x at target h =
        let t : ℕ → State = λ p. st (set_register r RA (pc + 4)) p m x in
        let p : machine.jump_target pc (w.place l / 4) ≡ w.place l = omega (arith, at.low, target.low, target.even) in
        one w (st r pc m x) (t (w.place l)) lo hi goal (cycled _ (st r pc m x) at ∙ ap (λ p. Running (t p)) p) (wider w (t (w.place l)) lo lo less hi goal (omega arith) le h)

    -- a branch to a label
    c_to : (less : ℕ) → less ≤ hi → (t : Bool) (i : Instr) (l : Name) (r : Registers) (pc : ℕ) (m : Bytes) (x : Beside) (go : Next) → InstructionAt w pc i → IsTarget w l
        → act w.segments i (st r pc m x).core ≡ machine.branch (st r pc m x).core t (offset pc (w.place l))
        → w_to t (w.place l) r pc m x go (λ r pc m x. Reaches w (st r pc m x) lo less goal) → From pc go → Ahead (st r pc m x)
    c_to less le true i l r pc m x go at target e h next =
        one w (st r pc m x) (st r (w.place l) m x) lo hi goal
        (cycled i (st r pc m x) at ∙ ap (after w.segments (st r pc m x)) e ∙ ap (λ p. Running (st r p m x)) (branched pc (w.place l) at.even at.low target.even target.low))
        (wider w (st r (w.place l) m x) lo lo less hi goal (omega arith) le (h.0 refl))
      where
        branched : (pc a : ℕ) → pc % 4 ≡ 0 → pc + 4 < 268435456 → a % 4 ≡ 0 → a < 268435456 → wrap (pc + 4 + 4 * bits_of (offset pc a)) ≡ a
        branched pc a even low to_even to_low = by (nat_le (pc + 4) a) refl
          where
            by : (t : Bool) → nat_le (pc + 4) a ≡ t → wrap (pc + 4 + 4 * bits_of (if t then pos ((a - (pc + 4)) / 4) else negsuc ((pc + 4 - a) / 4 - 1))) ≡ a
            by true le = let order : pc + 4 ≤ a = grind arith in omega arith
            by false le = let order : a < pc + 4 = grind arith in omega arith
    c_to less le false i l r pc m x go at target e h next =
        one w (st r pc m x) (st r (pc + 4) m x) lo hi goal (cycled i (st r pc m x) at ∙ ap (after w.segments (st r pc m x)) e) (next 0 _ _ _ _ (omega arith) (h.1 refl))

    -- `lui` and `ori` that put a number into a register
    c_load : (rd n : ℕ) (r : Registers) (pc : ℕ) (m : Bytes) (x : Beside) → InstructionsAt w pc (load_address rd n) → 0 < rd → n < 4294967296
        → Reaches w (st (set_register r rd n) (pc + 8) m x) lo hi goal → Reaches w (st r pc m x) (suc (suc lo)) (suc (suc hi)) goal
    c_load rd n r pc m x at some small h =
        let upper = wrap (n / 65536 * 65536) in
        let half : Registers = set_register r rd upper in
        let own : half rd ≡ upper = set_own r rd upper some in
        let value : bit_or (half rd) (n % 65536) ≡ n = ap (λ y. bit_or y (n % 65536)) own ∙ halves n small in
        let second : cycle w.text w.segments (st half (pc + 4) m x) ≡ Running (st (set_register r rd n) (pc + 8) m x) =
        cycled _ (st half (pc + 4) m x) at.1.0
        ∙ ap (λ y. Running (st (set_register half rd y) (pc + 4 + 4) m x)) value
        ∙ ap (λ f. Running (st f (pc + 4 + 4) m x)) (set_twice r rd upper n)
        ∙ ap (λ q. Running (st (set_register r rd n) q m x)) (let z : pc + 4 + 4 ≡ pc + 8 = omega arith in z) in
        one w (st r pc m x) (st half (pc + 4) m x) (suc lo) (suc hi) goal (cycled _ (st r pc m x) at.0)
        (one w (st half (pc + 4) m x) (st (set_register r rd n) (pc + 8) m x) lo hi goal second h)

    counted : (s : State) → Reaches w s (suc lo) (suc hi) goal → Reaches w s (1 + lo) (1 + hi) goal
    counted s h = wider w s (suc lo) (1 + lo) (suc hi) (1 + hi) goal (omega arith) (omega arith) h

    counted_two : (s : State) → Reaches w s (suc (suc lo)) (suc (suc hi)) goal → Reaches w s (2 + lo) (2 + hi) goal
    counted_two s h = wider w s (suc (suc lo)) (2 + lo) (suc (suc hi)) (2 + hi) goal (omega arith) (omega arith) h

    -- the continuation of a statement, after any number of lines that are passed over
    abbrev Behind : Statement → ℕ → Next → Type 0
    Behind s pc go = (k : ℕ) (r : Registers) (pc' : ℕ) (m : Bytes) (x : Beside) → pc' ≡ pc + 4 * words_needed (need s) + 4 * k → go k r pc' m x → Reaches w (st r pc' m x) lo hi goal

    always : (r : Registers) (pc : ℕ) (m : Bytes) (x : Beside) (l : Name)
        → act w.segments (BranchTwo Beq 0 0 (offset pc (w.place l))) (st r pc m x).core ≡ machine.branch (st r pc m x).core true (offset pc (w.place l))
    always r pc m x l = let same : (r 0 == r 0) ≡ true = grind arith in ap (λ t. machine.branch (st r pc m x).core t (offset pc (w.place l))) same

    -- one instruction of a line
    c_instruction : (less : ℕ) → less ≤ hi → (i : AsmInstr) (r : Registers) (pc : ℕ) (m : Bytes) (x : Beside) (go : Next)
        → InstructionsAt w pc (expansion w.place pc i) → InstructionHolds w i
        → w_instruction w i r pc m x go (λ r pc m x. Reaches w (st r pc m x) lo less goal) (Ending' goal) → Behind (Instruction i) pc go
        → Reaches w (st r pc m x) (words_of_instruction i + lo) (words_of_instruction i + hi) goal
    c_instruction less le (Plain i) r pc m x go at names h next = counted (st r pc m x) (c_plain less le i r pc m x go at.0 h next)
    c_instruction less le (ToTwo op rs rt l) r pc m x go at names h next = counted (st r pc m x) (c_to less le (two_result op (r rs) (r rt)) _ l r pc m x go at.0 names refl h next)
    c_instruction less le (ToOne op rs l) r pc m x go at names h next = counted (st r pc m x) (c_to less le (one_result op (r rs)) _ l r pc m x go at.0 names refl h next)
    c_instruction less le (ToJump op l) r pc m x go at names h next = counted (st r pc m x) (c_jump less le op l r pc m x at.0 names h)
    c_instruction less le (La rd l) r pc m x go at names h next = counted_two (st r pc m x) (c_load rd (w.place l) r pc m x at h.0 names (next 0 _ _ _ _ (omega arith) h.1))
    c_instruction less le (Li rd n) r pc m x go at names h next = counted_two (st r pc m x) (c_load rd (bits_of n) r pc m x at h.0 h.1 (next 0 _ _ _ _ (omega arith) h.2))
    c_instruction less le (Move rd rs) r pc m x go at names h next = counted (st r pc m x) (one w (st r pc m x) _ lo hi goal (cycled _ (st r pc m x) at.0) (next 0 _ _ _ _ (omega arith) h))
    c_instruction less le (B l) r pc m x go at names h next = counted (st r pc m x) (c_to less le true _ l r pc m x go at.0 names (always r pc m x l) (λ e. h, λ e. absurd cc) next)
    c_instruction less le (BranchZero op rs l) r pc m x go at names h next = counted (st r pc m x) (c_to less le (two_result (zero_branch op) (r rs) (r 0)) _ l r pc m x go at.0 names refl h next)
    c_instruction less le _ r pc m x go at names h next = absurd h

    -- one statement
    c_statement : (less : ℕ) → less ≤ hi → (s : Statement) (r : Registers) (pc : ℕ) (m : Bytes) (x : Beside) (go : Next)
        → InstructionsAt w pc (instructions w.place pc s) → Holds w s
        → w_statement w s r pc m x go (λ r pc m x. Reaches w (st r pc m x) lo less goal) (Ending' goal) → Behind s pc go
        → Reaches w (st r pc m x) (words_needed (need s) + lo) (words_needed (need s) + hi) goal
    c_statement less le Empty r pc m x go at names h next = wider w _ lo (0 + lo) hi (0 + hi) goal (omega arith) (omega arith) (next 0 r pc m x (omega arith) h)
    c_statement less le (Instruction i) r pc m x go at names h next = c_instruction less le i r pc m x go at names h next
    c_statement less le _ r pc m x go at names h next = absurd h

  -- a line that is passed over has one word
  over : (n : ℕ) (X : Type 0) → w_over_words n X → (n ≡ 1) × X
  over zero X h = absurd h
  over (suc zero) X h = (refl, h)
  over (suc (suc n)) X h = absurd h

  -- a block of lines: what is computed from them leads from it
  pub walk : (ls : List Line) (k : ℕ) (r : Registers) (pc : ℕ) (m : Bytes) (x : Beside) (pc0 lo hi : ℕ) (goal : Goal) → HasLines w pc0 ls → pc ≡ pc0 + 4 * k
      → w_lines w ls k r pc m x (λ r pc m x. Reaches w (st r pc m x) lo hi goal) (Ending' goal) → Reaches w (st r pc m x) lo (steps ls + hi) goal
  walk [] zero r pc m x pc0 lo hi goal has e h = wider w _ lo lo hi (0 + hi) goal (omega arith) (omega arith) h
  walk [] (suc k) r pc m x pc0 lo hi goal has e h = absurd h
  walk (line ∷ ls) zero r pc m x pc0 lo hi goal has e h =
      let z : pc0 ≡ pc = omega arith in
      let n = words_needed (need line.statement) in
      wider w (st r pc m x) (n + lo) lo (n + (steps ls + hi)) (n + steps ls + hi) goal (omega arith) (omega arith)
      (c_statement lo (steps ls + hi) goal hi (omega arith) line.statement r pc m x _ (subst (λ q. InstructionsAt w q (instructions w.place q line.statement)) z has.0.words) has.0.names h
      (λ k r' pc' m' x' p q. walk ls k r' pc' m' x' (pc0 + 4 * n) lo hi goal has.1 (omega arith) q))
  walk (line ∷ ls) (suc k) r pc m x pc0 lo hi goal has e h =
      let passed = over (words_needed (need line.statement)) _ h in
      wider w (st r pc m x) lo lo (steps ls + hi) (words_needed (need line.statement) + steps ls + hi) goal (omega arith) (omega arith)
      (walk ls k r pc m x (pc0 + size line) lo hi goal has.1 (omega (arith, passed.0)) passed.1)

  -- the same, where the first line is no jump and is counted
  pub walk_more : (line : Line) (ls : List Line) (r : Registers) (pc : ℕ) (m : Bytes) (x : Beside) (pc0 lo hi : ℕ) (goal : Goal) → 0 < words_needed (need line.statement) → HasLines w pc0 (line ∷ ls) → pc ≡ pc0
      → w_lines w (line ∷ ls) 0 r pc m x (λ r pc m x. Reaches w (st r pc m x) lo hi goal) (Ending' goal) → Reaches w (st r pc m x) (suc lo) (steps (line ∷ ls) + hi) goal
  walk_more line ls r pc m x pc0 lo hi goal some has e h =
      let n = words_needed (need line.statement) in
      wider w (st r pc m x) (n + lo) (suc lo) (n + (steps ls + hi)) (n + steps ls + hi) goal (omega arith) (omega arith)
      (c_statement lo (steps ls + hi) goal hi (omega arith) line.statement r pc m x _ (subst (λ q. InstructionsAt w q (instructions w.place q line.statement)) (sym e) has.0.words) has.0.names h
      (λ k r' pc' m' x' p q. walk ls k r' pc' m' x' (pc0 + 4 * n) lo hi goal has.1 (omega arith) q))

  -- a single instruction; a line that its branch passes over is not counted
  pub single : (i : Instr) (r : Registers) (pc : ℕ) (m : Bytes) (x : Beside) (hi : ℕ) (goal : Goal) → InstructionAt w pc i
      → w_plain w.segments i r pc m x (λ k r pc m x. Reaches w (st r pc m x) 0 hi goal) (λ r pc m x. Reaches w (st r pc m x) 0 hi goal) (Ending' goal)
      → Reaches w (st r pc m x) 0 (suc hi) goal
  single i r pc m x hi goal at h =
      wider w (st r pc m x) 1 0 (suc hi) (suc hi) goal (omega arith) (omega arith) (c_plain 0 hi goal hi (omega arith) i r pc m x _ at h (λ k r' pc' m' x' e g. g))
