-- If the source locations of some faults (type errors) and of one more are in the files, the locations of all of them are.
use Rattle.std.proofs.Common.{ℕ, List, [], ◌∷◌, ◌++◌}
use Rattle.std.specs.List.{AllByRecursion}
use Rattle.cool_syntax.specs.TokenFacts.{IsPlaced}
use Rattle.cool_check.specs.declared.fault.TypeFault.{TypeFault}

-- if the faults and another one stand in the files, so do all of them
pub placed_more : (n : ℕ) (fs : List TypeFault) (f : TypeFault) → AllByRecursion (λ x. IsPlaced n x.at) fs → IsPlaced n f.at → AllByRecursion (λ x. IsPlaced n x.at) (fs ++ f ∷ [])
placed_more n [] f h at = (at, tt)
placed_more n (x ∷ fs) f h at = (h.0, placed_more n fs f h.1 at)
