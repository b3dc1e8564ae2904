-- `inner` is an assembly label within the code of a feature: its kind, and the numbers of the class, the feature and the node to which it belongs.
use Rattle.std.specs.Prelude.{ℕ, List, ◌++◌, codes, decimal}
use Rattle.mips_isa.specs.Lines.{Name}

abbrev pub inner : List ℕ → ℕ → ℕ → ℕ → Name
inner kind class feature node = kind ++ (codes "_" ++ (decimal class ++ (codes "_" ++ (decimal feature ++ (codes "_" ++ decimal node)))))
