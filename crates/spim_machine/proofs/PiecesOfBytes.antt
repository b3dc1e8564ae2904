-- Reading bytes of memory piece by piece gives the same bytes as reading all of them at once.
use Rattle.std.proofs.Common.{◌≡◌, ◌∙◌, refl, sym, ap, ap₂, ℕ, zero, suc, ◌+◌, ◌-◌, ◌<◌, ◌≤◌, min, List, [], ◌∷◌, ◌++◌, length, take, drop, get_or, arith}
use Rattle.cool_ports.specs.SinkPuts.{pieces_of, PutUpTo}
use Rattle.cool_ports.proofs.PuttingPieces.{put_piece, put_pieces_all}
use Rattle.std.proofs.Math.Seq.{take-append_seam, drop-append_seam}
use Rattle.mips_isa.specs.Bytes.{Bytes, Segments, readable}
use Rattle.spim_memory.specs.Strings.{bytes_from, MayLoad}

-- a list whose bytes are those of the memory
pub are_bytes : (m : Bytes) (xs : List ℕ) (a : ℕ) → ((i : ℕ) → i < length xs → get_or xs i 0 ≡ m (a + i)) → xs ≡ bytes_from m a (length xs)
are_bytes m [] a each = refl
are_bytes m (x ∷ xs) a each =
    let first : a + 0 ≡ a = omega arith in
    let next : (i : ℕ) → a + suc i ≡ a + 1 + i = λ i. omega arith in
    ap₂ ◌∷◌ (each 0 (omega arith) ∙ ap m first) (are_bytes m xs (a + 1) (λ i within. each (suc i) (omega (arith, within)) ∙ ap m (next i)))

-- some bytes, and those after them
pub two_pieces : (m : Bytes) (a n k : ℕ) → bytes_from m a n ++ bytes_from m (a + n) k ≡ bytes_from m a (n + k)
two_pieces m a zero k =
    let same : a + 0 ≡ a = omega arith in
    let sum : k ≡ 0 + k = omega arith in
    ap (λ q. bytes_from m q k) same ∙ ap (bytes_from m a) sum
two_pieces m a (suc n) k =
    let next : a + suc n ≡ a + 1 + n = omega arith in
    let sum : suc (n + k) ≡ suc n + k = omega arith in
    ap (λ q. m a ∷ (bytes_from m (a + 1) n ++ bytes_from m q k)) next
    ∙ ap (λ xs. m a ∷ xs) (two_pieces m (a + 1) n k)
    ∙ ap (bytes_from m a) sum

-- at the start all bytes are left
pub all_left : (m : Bytes) (a count : ℕ) → bytes_from m (a + 0) (count - 0) ≡ bytes_from m a count
all_left m a count =
    let start : a + 0 ≡ a = omega arith in
    let all : count - 0 ≡ count = omega arith in
    ap₂ (bytes_from m) start all

-- a piece of the bytes that are left, and those that are left after it
pub next_piece : (m : Bytes) (a done size count : ℕ) (piece : List ℕ) → piece ≡ bytes_from m (a + done) size → done + size ≤ count
    → piece ++ bytes_from m (a + (done + size)) (count - (done + size)) ≡ bytes_from m (a + done) (count - done)
next_piece m a done size count piece same within =
    let start : a + (done + size) ≡ a + done + size = omega arith in
    let sum : size + (count - (done + size)) ≡ count - done = omega arith in
    ap₂ (λ xs q. xs ++ bytes_from m q (count - (done + size))) same start
    ∙ two_pieces m (a + done) size (count - (done + size))
    ∙ ap (bytes_from m (a + done)) sum

-- a piece may be loaded
pub may_load-piece : (s : Segments) (a done size count : ℕ) → MayLoad s a count → done + size ≤ count → MayLoad s (a + done) size
may_load-piece s a done size count each within k below =
    let same : a + done + k ≡ a + (done + k) = omega arith in
    ap (λ q. readable s q 1) same ∙ each (done + k) (omega (arith, within, below))

-- the number of bytes
bytes_from-length : (m : Bytes) (a count : ℕ) → length (bytes_from m a count) ≡ count
bytes_from-length m a zero = refl
bytes_from-length m a (suc count) = ap suc (bytes_from-length m (a + 1) count)

-- a piece of 64 of the bytes that are left was put, or all that are left
pub piece_put : (m : Bytes) (a done size count : ℕ) (before middle after texts : List (List ℕ)) (piece : List ℕ) → done < count → size ≡ min (count - done) 64
    → piece ≡ bytes_from m (a + done) size → PutUpTo before texts (pieces_of 64 (bytes_from m (a + done) (count - done))) middle → after ≡ middle ++ piece ∷ []
    → PutUpTo before texts (pieces_of 64 (bytes_from m (a + (done + size)) (count - (done + size)))) after
piece_put m a done size count before middle after texts piece more size_is piece_is h is =
    let left : List ℕ = bytes_from m (a + done) (count - done) in
    let later : List ℕ = bytes_from m (a + (done + size)) (count - (done + size)) in
    let whole : piece ++ later ≡ left = next_piece m a done size count piece piece_is (omega (arith, more, size_is)) in
    let long : length piece ≡ size = ap length piece_is ∙ bytes_from-length m (a + done) size in
    let first : piece ≡ take size left = sym (take-append_seam piece later) ∙ ap (λ n. take n (piece ++ later)) long ∙ ap (take size) whole in
    let others : later ≡ drop size left = sym (drop-append_seam piece later) ∙ ap (λ n. drop n (piece ++ later)) long ∙ ap (drop size) whole in
    let all : length left ≡ count - done = bytes_from-length m (a + done) (count - done) in
    put_piece 64 size before middle after texts left piece later (omega arith) (omega (arith, all, more)) (omega (arith, all, size_is)) first others h is

-- all pieces were put
pub all_put : (m : Bytes) (a done count : ℕ) (before after texts : List (List ℕ)) → done ≤ count → count ≤ done
    → PutUpTo before texts (pieces_of 64 (bytes_from m (a + done) (count - done))) after → after ≡ before ++ texts
all_put m a done count before after texts within over h =
    let none : length (bytes_from m (a + done) (count - done)) ≡ 0 = bytes_from-length m (a + done) (count - done) ∙ omega (arith, over) in
    put_pieces_all 64 before after texts (bytes_from m (a + done) (count - done)) (omega arith) none h
