-- The puts of a sink are the bytes of each write to an output stream, in order, including those of writes that failed. `pieces_of` cuts bytes into pieces
-- of one size, and `PutFront` says that the first texts of a list were written.
use Rattle.std.specs.Prelude.{◌≡◌, ℕ, ◌*◌, List, [], ◌∷◌, ◌++◌, length, take, drop, map, Option, refl}
use Rattle.std.specs.Int.{div_ceil}
use Rattle.std.specs.List.{range_with_len, concat}
use Rattle.cool_ports.specs.SinkBytes.{appended, GotPrefix}

-- the piece of this number, the first being 0, where bytes are cut into pieces of so many of them
abbrev pub piece_of : ℕ → List ℕ → ℕ → List ℕ
piece_of size bytes number = take size (drop (number * size) bytes)

-- the pieces into which bytes are cut, each of so many of them, the last perhaps shorter; no bytes are no piece
abbrev pub pieces_of : ℕ → List ℕ → List (List ℕ)
pieces_of size bytes = map (piece_of size bytes) (range_with_len 0 (div_ceil (length bytes) size))

last_is_shorter : pieces_of 2 (7 ∷ 8 ∷ 9 ∷ []) ≡ (7 ∷ 8 ∷ []) ∷ (9 ∷ []) ∷ []
last_is_shorter = refl

last_is_whole : pieces_of 2 (6 ∷ 7 ∷ 8 ∷ 9 ∷ []) ≡ (6 ∷ 7 ∷ []) ∷ (8 ∷ 9 ∷ []) ∷ []
last_is_whole = refl

no_piece : pieces_of 2 [] ≡ []
no_piece = refl

-- A sink that was given `before` was then given the texts in front of `rest`, one after another, and so was given `after`.
pub record PutUpTo (before texts rest after : List (List ℕ)) : Type 0 where
  pub front : List (List ℕ)
  pub cut : texts ≡ front ++ rest
  pub put : after ≡ before ++ front

-- A sink that was given `before` was then given a front of the texts, one after another, and so was given `after`.
abbrev pub PutFront : List (List ℕ) → List (List ℕ) → List (List ℕ) → Type 0
PutFront before texts after = (rest : List (List ℕ)) × PutUpTo before texts rest after

-- The known state of a sink: the bytes that it holds, if it tells them, and the bytes that it was given to put.
pub record SinkSeen : Type 0 where
  pub held : Option (List ℕ)
  pub puts : List (List ℕ)

abbrev pub seen : Option (List ℕ) → List (List ℕ) → SinkSeen
seen held puts = record { held = held; puts = puts }

-- the state of a sink after these texts, with a put for each
abbrev pub after_puts : SinkSeen → List (List ℕ) → SinkSeen
after_puts sink texts = record { held = appended sink.held (concat texts); puts = sink.puts ++ texts }

-- A front of the texts was put, one after another; of the last of these perhaps a part came.
pub record PutSome (before : SinkSeen) (texts : List (List ℕ)) (after : SinkSeen) : Type 0 where
  pub bytes : GotPrefix before.held (concat texts) after.held
  pub puts : PutFront before.puts texts after.puts
