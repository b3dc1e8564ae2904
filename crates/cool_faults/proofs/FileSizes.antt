-- The total size of a list of files with one file appended is the total size of the list plus the size of that file.
use Rattle.std.proofs.Common.{◌≡◌, ℕ, ◌+◌, List, [], ◌∷◌, ◌++◌, length, arith}
use Rattle.cool_faults.specs.Files.{total}

-- the bytes of one more file are counted
pub total-push : (contents : List (List ℕ)) (bytes : List ℕ) → total (contents ++ bytes ∷ []) ≡ total contents + length bytes
total-push [] bytes = omega arith
total-push (x ∷ contents) bytes = omega (arith, total-push contents bytes)
