-- The longest name or register at a position ends before the first byte that cannot continue it, and a sign is one byte.
use Rattle.std.proofs.Common.{◌≡◌, ◌∙◌, ap, refl, arith, ℕ, zero, suc, ◌≤◌, ◌<◌, Bool, true, false, List, [], ◌∷◌, length, take, length-take, nat_lt, if◌then◌else◌}
use Rattle.std.specs.Prelude.{Some, None, ◌&&◌}
use Rattle.std.specs.List.{list_all, prefix_len}
use Rattle.std.proofs.lemmas.List.Sums.{prefix_len-le-length}
use Rattle.std.proofs.lemmas.Bool.Decides.{nat_tests}
use Rattle.mips_text.specs.Words.{Word, alone, some_all}
use Rattle.mips_text.proofs.Longest.{IsLongest, HasNone}
use Rattle.mips_text.proofs.Prefixes.{passes, fails}
use Rattle.lists.proofs.Numbers.{zero_less}
use Rattle.lists.proofs.TruthValues.{and_false}

-- no byte is left
pub none_left : (n : ℕ) → n ≤ 0 → nat_lt 0 n ≡ false
none_left n h = grind (arith, nat_tests)

-- bytes of a kind, none of them at the least
pub all_longest : {A : Type 0} (p : ℕ → Bool) (see : List ℕ → A) (bs : List ℕ) → IsLongest (λ xs. if list_all p xs then Some (see xs) else None) bs (see (take (prefix_len p bs) bs)) (prefix_len p bs)
all_longest {A} p see bs = record {
  within = prefix_len-le-length p bs;
  is_form = ap (λ (t : Bool). if t then Some (see (take (prefix_len p bs) bs)) else None) (passes p bs (prefix_len p bs) (omega arith));
  longer = λ m l w. ap (λ (t : Bool). if t then Some (see (take m bs)) else None) (fails p bs m l w);
}

-- the same, one of them at the least
some_true : (p : ℕ → Bool) (bs : List ℕ) → 0 < prefix_len p bs → some_all p (take (prefix_len p bs) bs) ≡ true
some_true p bs h =
    let size : length (take (prefix_len p bs) bs) ≡ prefix_len p bs = omega (arith, length-take (prefix_len p bs) bs, prefix_len-le-length p bs) in
    let one : nat_lt 0 (length (take (prefix_len p bs) bs)) ≡ true = zero_less _ (omega arith) in
    ap (λ (t : Bool). t && list_all p (take (prefix_len p bs) bs)) one ∙ passes p bs (prefix_len p bs) (omega arith)

some_false : (p : ℕ → Bool) (bs : List ℕ) (m : ℕ) → prefix_len p bs < m → m ≤ length bs → some_all p (take m bs) ≡ false
some_false p bs m l w = ap (λ (t : Bool). nat_lt 0 (length (take m bs)) && t) (fails p bs m l w) ∙ and_false (nat_lt 0 (length (take m bs)))

pub some_longest : {A : Type 0} (p : ℕ → Bool) (see : List ℕ → A) (bs : List ℕ) → 0 < prefix_len p bs → IsLongest (λ xs. if some_all p xs then Some (see xs) else None) bs (see (take (prefix_len p bs) bs)) (prefix_len p bs)
some_longest {A} p see bs h = record {
  within = prefix_len-le-length p bs;
  is_form = ap (λ (t : Bool). if t then Some (see (take (prefix_len p bs) bs)) else None) (some_true p bs h);
  longer = λ m l w. ap (λ (t : Bool). if t then Some (see (take m bs)) else None) (some_false p bs m l w);
}

pub some_none : {A : Type 0} (p : ℕ → Bool) (see : List ℕ → A) (bs : List ℕ) → prefix_len p bs ≤ 0 → HasNone (λ xs. if some_all p xs then Some (see xs) else None) bs
some_none p see bs h zero l = refl
some_none p see bs h (suc m) l = ap (λ (t : Bool). if t then Some (see (take (suc m) bs)) else None) (some_false p bs (suc m) (omega arith) l)

-- a sign is one byte
not_alone : (w : Word) (bs : List ℕ) (m : ℕ) → 0 < m → m ≤ length bs → alone w (take m bs) ≡ None
not_alone w bs zero h l = absurd (omega arith)
not_alone w [] (suc m) h l = absurd (omega arith)
not_alone w (b ∷ bs) (suc m) h l = refl

pub alone_longest : (w : Word) (bs : List ℕ) → IsLongest (alone w) bs w 0
alone_longest w bs = record { within = omega arith; is_form = refl; longer = λ m h l. not_alone w bs m h l }
