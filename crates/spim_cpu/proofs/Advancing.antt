-- Lemmas on runs of the processor: a run of n instructions is continued by one more, and a run that stops at no address of a set stops at none of a smaller
-- set.
use Rattle.std.proofs.Common.{◌≡◌, ◌-◌, ◌<◌, ◌≤◌, subst, ℕ, zero, suc, Bool, false, List, arith}
use Rattle.mips_isa.specs.Bytes.{Segments}
use Rattle.mips_isa.specs.Machine.{Core, On, step}
use Rattle.spim_cpu.specs.Advancing.{Goes, is_past, is_stop, is_marked}

-- one more of so many
pub goes_on : (breaks : ℕ → Bool) (text : List ℕ) (b : Segments) (most left : ℕ) (s t u : Core) → left ≤ most → 0 < left → Goes breaks text b (most - left) s t → breaks t.pc ≡ false → step text b t ≡ On u
    → Goes breaks text b (most - (left - 1)) s u
goes_on breaks text b most left s t u within some goes free steps =
    let next : suc (most - left) ≡ most - (left - 1) = omega (arith, within, some) in
    subst (λ k. Goes breaks text b k s u) next (t, goes, free, steps)

-- addresses at which a run stops, fewer of them
pub goes_less : (p q : ℕ → Bool) (text : List ℕ) (b : Segments) (n : ℕ) (s t : Core) → ((a : ℕ) → p a ≡ false → q a ≡ false) → Goes p text b n s t → Goes q text b n s t
goes_less p q text b zero s t fewer goes = goes
goes_less p q text b (suc n) s t fewer (before, goes, free, steps) = (before, goes_less p q text b n s before fewer goes, fewer before.pc free, steps)

-- a number of 32 bits, and one whose word has no mark that is set
pub not_past : (a : ℕ) → a < 4294967296 → is_past a ≡ false
not_past a fits = grind (arith, fits)

pub no_stop : (marks : List Bool) (a : ℕ) → a < 4294967296 → is_marked marks a ≡ false → is_stop marks a ≡ false
no_stop marks a fits free = rw (not_past a fits) free

-- and back
pub within_past : (a : ℕ) → is_past a ≡ false → a < 4294967296
within_past a is = grind (arith, is)

pub within_stop : (marks : List Bool) (a : ℕ) → is_stop marks a ≡ false → (a < 4294967296) × (is_marked marks a ≡ false)
within_stop marks a is = grind (arith, is)
