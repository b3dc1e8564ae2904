-- A shelf (file system) that holds the files read so far and one more file holds all of these files.
use Rattle.std.specs.Prelude.{ℕ, List, [], ◌∷◌, ◌++◌, Option}
use Rattle.cool_ports.specs.ShelfFiles.{FileMap, MayHold, AreHeld}

-- one more file is held
pub held_more : (told : Option FileMap) (names contents : List (List ℕ)) (name bytes : List ℕ) → AreHeld told names contents → MayHold told name bytes → AreHeld told (names ++ name ∷ []) (contents ++ bytes ∷ [])
held_more told [] [] name bytes held here = (here, tt)
held_more told [] (x ∷ contents) name bytes held here = absurd held
held_more told (n ∷ names) [] name bytes held here = absurd held
held_more told (n ∷ names) (x ∷ contents) name bytes held here = (held.0, held_more told names contents name bytes held.1 here)
