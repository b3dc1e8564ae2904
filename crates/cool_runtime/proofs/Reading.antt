-- The routine `in_int` reads a line and returns an Int with the number at the front of the line, or the run exits by the limit of the heap.
use Rattle.std.proofs.Common.{◌≡◌, ℕ, ◌+◌, ◌-◌, ◌*◌, ◌<◌, ◌≤◌, List, [], ◌∷◌, ◌++◌, sym, ap, ◌∙◌, subst, arith, Bool, true, false}
use Rattle.std.specs.Prelude.{◌==◌, if◌then◌else◌}
use Rattle.mips_isa.specs.declared.register.TheConstants.{T2}
use Rattle.mips_isa.specs.Bytes.{Bytes}
use Rattle.mips_isa.specs.Lines.{Line}
use Rattle.mips_isa.specs.Machine.{wrap}
use Rattle.mips_isa.specs.Calls.{State, Taken, Running, Exited, asked_line, number_of, number_after_blanks, skip_blanks, digits_from, is_digit}
use Rattle.cool_runtime.specs.Reaches.{World, Reaches, stands, OnTheWay}
use Rattle.cool_runtime.specs.Standing.{HasLines}
use Rattle.cool_runtime.specs.Walk.{beside, ReadInt}
use Rattle.cool_runtime.specs.Labels.{in_int, int_prototype, int_table}
use Rattle.cool_runtime.specs.Contents.{IntAt}
use Rattle.cool_runtime.specs.Premises.{Limits}
use Rattle.cool_runtime.specs.Machines.{At, Pointers, Console, got, with_int}
use Rattle.cool_runtime.specs.Instructions.{jr}
use Rattle.cool_runtime.specs.Routines.{in_int_lines, read_number_lines, new_int_lines}
use Rattle.cool_runtime.proofs.Runs.{here, comes_to, comes_to_heap_limit}
use Rattle.mips_isa.specs.Run.{run}
use Rattle.cool_runtime.proofs.Walking.{walk}
use Rattle.cool_runtime.proofs.Allocating.{new_int}
use Rattle.cool_runtime.proofs.Pieces.{has_front, has_back, next, return}

-- the number of a line has 32 bits
either_fits : (t : Bool) (a b : ℕ) → a < 4294967296 → b < 4294967296 → (if t then a else b) < 4294967296
either_fits true a b first second = first
either_fits false a b first second = second

digits_fit : (n : ℕ) (line : List ℕ) → n < 4294967296 → digits_from n line < 4294967296
digits_fit n [] fits = fits
digits_fit n (b ∷ rest) fits =
    either_fits (is_digit b) (digits_from (wrap (10 * n + (b - 48))) rest) n (digits_fit (wrap (10 * n + (b - 48))) rest (omega arith)) fits

pub number_fits : (line : List ℕ) → number_of line < 4294967296
number_fits line = after (skip_blanks line)
  where
    after : (line : List ℕ) → number_after_blanks line < 4294967296
    after [] = omega arith
    after (b ∷ rest) = either_fits (b == 45) (wrap (4294967296 - digits_from 0 rest)) (digits_from 0 (b ∷ rest)) (omega arith) (digits_fit 0 (b ∷ rest) (omega arith))

-- the machine stands so, and $t2 has this number
pub record WithT2 (w : World) (p : Pointers) (m : Bytes) (c : Console) (v : ℕ) (s : State) : Type 0 where
  pub at : At w p m c s
  pub t2_is : s.core.registers T2 ≡ v

module _ (w : World) where
  read_number : (p : Pointers) (m : Bytes) (c : Console) (s : State) (t : Taken) → HasLines w p.pc read_number_lines → At w p m c s → asked_line c.ended c.input ≡ t
      → Reaches w s 0 3 (stands (WithT2 w (record p { pc = p.pc + 12 }) m (got c t) (number_of t.got)))
  read_number p m c s t has at taken =
      let same : asked_line s.ended s.input ≡ t = ap (λ e. asked_line e s.input) at.ended_is ∙ ap (asked_line c.ended) at.input_is ∙ taken in
      let fits : number_of (asked_line s.ended s.input).got < 4294967296 = number_fits (asked_line s.ended s.input).got in
      let value : number_of (asked_line s.ended s.input).got ≡ number_of t.got = ap (λ (u : Taken). number_of u.got) same in
      walk w read_number_lines 0 s.core.registers s.core.pc s.core.memory (beside s) p.pc 0 0 _ has (omega arith) (
        ReadInt,
        (
          omega arith,
          here w _ _ (record {
            at = record { numbers = omega arith; memory_is = at.memory_is; input_is = ap (λ (u : Taken). u.rest) same; ended_is = ap (λ (u : Taken). u.ended) same; output_is = at.output_is };
            t2_is = omega arith;
          }),
        ),
      )

  pub in_int_reads : (p : Pointers) (m : Bytes) (c : Console) (s : State) (t : Taken) → Limits w → HasLines w (w.place in_int) in_int_lines → At w p m c s → p.pc ≡ w.place in_int
      → IntAt w m p.gp (w.place int_prototype) 0 → asked_line c.ended c.input ≡ t → p.gp + 20 ≤ w.top → OnTheWay w c.output t.rest
      → Reaches w s 0 24 (stands (At w (record p { pc = p.ra; gp = p.gp + 20; acc = p.gp + 4 }) (with_int m p.gp w.tags.int (w.place int_table) (number_of t.got)) (got c t)))
  in_int_reads p m c s t limits has at begins proto taken room way =
      let behind : List Line = new_int_lines ++ jr 31 ∷ [] in
      let here' : HasLines w p.pc (read_number_lines ++ behind) = subst (λ q. HasLines w q in_int_lines) (sym begins) has in
      let there : HasLines w (p.pc + 12) behind = has_back w read_number_lines behind p.pc (p.pc + 12) (omega arith) here' in
      next w s 3 21 24 _ _ (read_number p m c s t (has_front w read_number_lines behind p.pc here') at taken) (omega arith)
      (λ s1 h1. next w s1 20 1 21 _ _
      (new_int w (record p { pc = p.pc + 12 }) m (got c t) s1 (number_of t.got) limits (has_front w new_int_lines (jr 31 ∷ []) (p.pc + 12) there) h1.at h1.t2_is proto room way) (omega arith)
      (λ s2 h2. return w _ _ _ s2 (has_back w new_int_lines (jr 31 ∷ []) (p.pc + 12) (p.pc + 12 + 68) (omega arith) there) h2))

  -- it exits by the heap's limit exactly where the Int does not fit
  pub in_int_exact : (p : Pointers) (m : Bytes) (c : Console) (s : State) (t : Taken) → Limits w → HasLines w (w.place in_int) in_int_lines → At w p m c s → p.pc ≡ w.place in_int
      → IntAt w m p.gp (w.place int_prototype) 0 → asked_line c.ended c.input ≡ t → p.gp + 20 ≡ w.top → w.segments.stack_low ≤ w.low → OnTheWay w c.output t.rest
      → (p.gp + 20 ≤ w.segments.heap_end → (k : ℕ) × (k ≤ 24) × ((u : State) × (run w.text w.segments k s ≡ Running u)))
      × (w.segments.heap_end < p.gp + 20 → (k : ℕ) × (k ≤ 24) × ((u : State) × (run w.text w.segments k s ≡ Exited 4 u)))
  in_int_exact p m c s t limits has at begins proto taken room low way =
      let r = in_int_reads p m c s t limits has at begins proto taken (omega arith) way in (
        (λ fits. let found = comes_to w s 0 24 _ (omega arith) low r in (found.0, found.1, (found.2.0, found.2.2))),
        (λ full. let found = comes_to_heap_limit w s 0 24 _ low (λ u h. let n = h.numbers in let over = n.gp_to in absurd (omega arith)) r in (found.0, found.1, (found.2.0, found.2.1))),
      )
