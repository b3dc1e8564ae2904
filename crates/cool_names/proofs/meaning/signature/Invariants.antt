-- The loop of `signature` has written the types of the formal parameters before the current one, with commas between them.
use Rattle.std.proofs.Common.{◌≡◌, ◌++◌, [], drop, map}
use Rattle.std.specs.Prelude.{codes}
use Rattle.cool_names.specs.Meanings.{separated}
use Rattle.cool_names.proofs.meaning.signature.Given as goal

abbrev pub invariant-loop-formal : goal.invariant-loop-formal
invariant-loop-formal l =
    l.text.items ++ separated l.sign (map (λ f. f.declared.name) (drop l.formal-index l.formals)) ≡ codes "(" ++ separated [] (map (λ f. f.declared.name) l.method.formals)
