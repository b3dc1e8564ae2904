-- If bytes are cut into pieces of one size, the pieces joined are these bytes, and a sink (output stream) gets one write for each piece in order.
use Rattle.std.proofs.Common.{◌≡◌, ℕ, zero, suc, ◌+◌, ◌-◌, ◌*◌, ◌<◌, ◌≤◌, inl, inr, min, List, [], ◌∷◌, ◌++◌, length, take, drop, map, refl, sym, ◌∙◌, ap, append_assoc, append-nil, take-append-drop, arith}
use Rattle.std.proofs.Math.Nat.{add-div_right, add-mod_right, div-eq_of_lt, mod-eq_of_lt}
use Rattle.std.proofs.lemmas.Bool.{cases_lt}
use Rattle.std.proofs.lemmas.List.{drop-drop, length-drop, take_all, drop_all, nil_from_length}
use Rattle.std.specs.List.{range_with_len, concat}
use Rattle.std.specs.Int.{div_ceil}
use Rattle.cool_ports.specs.SinkPuts.{piece_of, pieces_of, PutUpTo, PutFront}

-- if a function at the next number is another, their values at numbers that begin one later are the same
range_later : (f g : ℕ → List ℕ) (start count : ℕ) → ((n : ℕ) → f (n + 1) ≡ g n) → map f (range_with_len (start + 1) count) ≡ map g (range_with_len start count)
range_later f g start zero same = refl
range_later f g start (suc count) same = let rest = range_later f g (start + 1) count same in let first = same start in cc

-- one piece and those of what is behind it
count_more : (size left : ℕ) → 0 < size → div_ceil (left + size) size ≡ suc (div_ceil left size)
count_more size left some = omega (arith, add-div_right left some, add-mod_right left size)

-- bytes that fit one piece are one
count_one : (size length : ℕ) → 0 < length → length < size → div_ceil length size ≡ suc (div_ceil 0 size)
count_one size length some below = omega (arith, div-eq_of_lt below, mod-eq_of_lt below)

-- if bytes are left, there is one piece, and then those of the bytes behind it
count_next : (size length : ℕ) → 0 < size → 0 < length → div_ceil length size ≡ suc (div_ceil (length - size) size)
count_next size length some any =
    elim (cases_lt length size) [
      | inl below ↦ count_one size length any below ∙ ap (λ n. suc (div_ceil n size)) (sym (omega (arith, below)))
      | inr long ↦ ap (λ n. div_ceil n size) (omega (arith, long)) ∙ count_more size (length - size) some
    ]

-- the first piece of bytes, and those of what is behind it
pieces_next : (size : ℕ) (bytes : List ℕ) → 0 < size → 0 < length bytes → pieces_of size bytes ≡ take size bytes ∷ pieces_of size (drop size bytes)
pieces_next size bytes some any =
    ap (λ n. map (piece_of size bytes) (range_with_len 0 n)) (count_next size (length bytes) some any ∙ ap (λ n. suc (div_ceil n size)) (sym (length-drop size bytes)))
    ∙ ap (λ xs. piece_of size bytes 0 ∷ xs) (range_later (piece_of size bytes) (piece_of size (drop size bytes)) 0 (div_ceil (length (drop size bytes)) size) (λ n. ap (take size) (piece_later n)))
    ∙ ap (λ n. take size (drop n bytes) ∷ pieces_of size (drop size bytes)) none
  where
    none : 0 * size ≡ 0
    none = grind arith

    piece_later : (n : ℕ) → drop ((n + 1) * size) bytes ≡ drop (n * size) (drop size bytes)
    piece_later n =
        let further : (n + 1) * size ≡ size + n * size = grind arith in
        ap (λ k. drop k bytes) further ∙ sym (drop-drop (n * size) size bytes)

-- no bytes are no piece
no_pieces : (size : ℕ) → 0 < size → pieces_of size [] ≡ []
no_pieces size some =
    let none : div_ceil 0 size ≡ 0 = omega (arith, div-eq_of_lt some, mod-eq_of_lt some) in
    ap (λ n. map (piece_of size []) (range_with_len 0 n)) none

-- the pieces are the bytes, one after another
pub pieces_whole : (size : ℕ) (bytes : List ℕ) → 0 < size → concat (pieces_of size bytes) ≡ bytes
pieces_whole size bytes some = by (length bytes) bytes (omega arith)
  where
    by : (most : ℕ) (bytes : List ℕ) → length bytes ≤ most → concat (pieces_of size bytes) ≡ bytes
    by most [] few = ap concat (no_pieces size some)
    by zero (byte ∷ bytes) few = absurd (omega (arith, few))
    by (suc most) (byte ∷ bytes) few =
        ap concat (pieces_next size (byte ∷ bytes) some (omega arith))
        ∙ ap (λ rest. take size (byte ∷ bytes) ++ rest) (by most (drop size (byte ∷ bytes)) (omega (arith, few, some, length-drop size (byte ∷ bytes))))
        ∙ take-append-drop size (byte ∷ bytes)

-- bytes that fit one piece are one piece
pub one_piece : (size : ℕ) (bytes : List ℕ) → 0 < length bytes → length bytes ≤ size → pieces_of size bytes ≡ bytes ∷ []
one_piece size bytes any fits =
    let some : 0 < size = omega (arith, any, fits) in
    pieces_next size bytes some any
    ∙ ap (λ xs. xs ∷ pieces_of size (drop size bytes)) (take_all size bytes fits)
    ∙ ap (λ xs. bytes ∷ pieces_of size xs) (drop_all size bytes fits)
    ∙ ap (λ xs. bytes ∷ xs) (no_pieces size some)

-- the same where they are all that was cut off
short_split : (size : ℕ) (bytes : List ℕ) → 0 < length bytes → length bytes ≤ size → pieces_of size bytes ≡ take (length bytes) bytes ∷ pieces_of size (drop (length bytes) bytes)
short_split size bytes any fits =
    let taken = take_all (length bytes) bytes (omega arith) in
    let left = drop_all (length bytes) bytes (omega arith) in
    one_piece size bytes any fits
    ∙ ap (λ xs. bytes ∷ xs) (sym (no_pieces size (omega (arith, any, fits))))
    ∙ ap (λ xs. xs ∷ pieces_of size []) (sym taken)
    ∙ ap (λ xs. take (length bytes) bytes ∷ pieces_of size xs) (sym left)

-- the first piece is cut off behind so many bytes, or behind the last
pieces_split : (size : ℕ) (bytes : List ℕ) → 0 < size → 0 < length bytes → pieces_of size bytes ≡ take (min (length bytes) size) bytes ∷ pieces_of size (drop (min (length bytes) size) bytes)
pieces_split size bytes some any =
    elim (cases_lt (length bytes) size) [
      | inl below ↦
          let least : min (length bytes) size ≡ length bytes = omega (arith, below) in
          short_split size bytes any (omega (arith, below)) ∙ ap (λ n. take n bytes ∷ pieces_of size (drop n bytes)) (sym least)
      | inr long ↦
          let least : min (length bytes) size ≡ size = omega (arith, long) in
          pieces_next size bytes some any ∙ ap (λ n. take n bytes ∷ pieces_of size (drop n bytes)) (sym least)
    ]

-- at the start all texts are still to come
pub put_none : (puts texts : List (List ℕ)) → PutUpTo puts texts texts puts
put_none puts texts = record { front = []; cut = refl; put = sym (append-nil puts) }

-- a text that was put is no longer to come
pub put_more : (before middle after texts rest : List (List ℕ)) (text : List ℕ) → PutUpTo before texts (text ∷ rest) middle → after ≡ middle ++ text ∷ [] → PutUpTo before texts rest after
put_more before middle after texts rest text h is = record {
  front = h.front ++ text ∷ [];
  cut = h.cut ∙ sym (append_assoc h.front (text ∷ []) rest);
  put = is ∙ ap (λ puts. puts ++ text ∷ []) h.put ∙ append_assoc before h.front (text ∷ []);
}

-- so it is of the first piece of the bytes that are left
pub put_piece : (size cut : ℕ) (before middle after texts : List (List ℕ)) (bytes piece later : List ℕ) → 0 < size → 0 < length bytes → cut ≡ min (length bytes) size → piece ≡ take cut bytes → later ≡ drop cut bytes
    → PutUpTo before texts (pieces_of size bytes) middle → after ≡ middle ++ piece ∷ [] → PutUpTo before texts (pieces_of size later) after
put_piece size cut before middle after texts bytes piece later some any cut_is piece_is later_is h is =
    let first : piece ≡ take (min (length bytes) size) bytes = piece_is ∙ ap (λ n. take n bytes) cut_is in
    let others : later ≡ drop (min (length bytes) size) bytes = later_is ∙ ap (λ n. drop n bytes) cut_is in
    let next : pieces_of size bytes ≡ piece ∷ pieces_of size later =
    pieces_split size bytes some any ∙ ap (λ xs. xs ∷ pieces_of size (drop (min (length bytes) size) bytes)) (sym first) ∙ ap (λ xs. piece ∷ pieces_of size xs) (sym others) in
    put_more before middle after texts (pieces_of size later) piece (rw next at h) is

-- if no text is still to come, all came
pub put_all : (before after texts : List (List ℕ)) → PutUpTo before texts [] after → after ≡ before ++ texts
put_all before after texts h = h.put ∙ ap (λ front. before ++ front) (sym (append-nil h.front) ∙ sym h.cut)

-- if no byte is left, all pieces came
pub put_pieces_all : (size : ℕ) (before after texts : List (List ℕ)) (bytes : List ℕ) → 0 < size → length bytes ≡ 0 → PutUpTo before texts (pieces_of size bytes) after → after ≡ before ++ texts
put_pieces_all size before after texts bytes some none h =
    let no_more : pieces_of size bytes ≡ [] = ap (pieces_of size) (nil_from_length bytes none) ∙ no_pieces size some in
    put_all before after texts (rw no_more at h)

-- the texts that came so far are a front
pub put_so_far : (before after texts rest : List (List ℕ)) → PutUpTo before texts rest after → PutFront before texts after
put_so_far before after texts rest h = (rest, h)
