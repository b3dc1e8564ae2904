-- The interpreter's list of variables is the environment in reverse order: a variable that is added at the end of the list is the first of the environment.
use Rattle.std.proofs.Common.{◌≡◌, List, [], ◌∷◌, ◌++◌, ap, refl}
use Rattle.cool_meaning.specs.Values.{Environment}
use Rattle.cool_eval.specs.declared.scene.Local.{Local}
use Rattle.cool_eval.specs.Configurations.{located_at, locals_of}

-- a variable at the end is the first that is seen
pub locals_more : (ls : List Local) (l : Local) → locals_of (ls ++ l ∷ []) ≡ located_at l ∷ locals_of ls
locals_more [] l = refl
locals_more (x ∷ ls) l = ap (λ (es : Environment). es ++ located_at x ∷ []) (locals_more ls l)
