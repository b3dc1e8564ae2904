-- Parts of a list of bytes are lists of bytes.
use Rattle.std.proofs.Common.{ℕ, zero, suc, List, [], ◌∷◌, drop}
use Rattle.lists.specs.Bytes.{AreBytes}

-- the bytes left after some bytes are bytes
pub bytes_left : (n : ℕ) (bytes : List ℕ) → AreBytes bytes → AreBytes (drop n bytes)
bytes_left zero bytes h = h
bytes_left (suc n) [] h = tt
bytes_left (suc n) (b ∷ bytes) h = bytes_left n bytes h.1
