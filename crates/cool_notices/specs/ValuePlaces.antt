-- `value_places` lists the places of the expressions that give the value of an expression: the last one of a block, both branches of an `if`, the body of a
-- `let`, each branch of a `case`, and otherwise the expression itself.
use Rattle.std.specs.Prelude.{◌≡◌, List, [], ◌∷◌, ◌++◌, codes, refl}
use Rattle.cool_syntax.specs.declared.place.Place.{Place}
use Rattle.cool_syntax.specs.Tree.{Tree, Trees, Cases, Last, More, NoCase, CaseOf}
use Rattle.cool_syntax.specs.Tree as trees

-- the places in an expression, in the order of the text; those in the last of a block's items; those in the bodies of the branches of a `case`
abbrev mutual
  pub value_places : Tree → List Place
  value_places (trees.leaf at form) = at ∷ []
  value_places (trees.unary at form a) = at ∷ []
  value_places (trees.binary at form a b) = at ∷ []
  value_places (trees.call at form a ts) = at ∷ []
  value_places (trees.If at a b c) = value_places b ++ value_places c
  value_places (trees.Block at ts) = places_in_last ts
  value_places (trees.Let at name declared o a) = value_places a
  value_places (trees.Case at a cs) = places_in_cases cs

  pub places_in_last : Trees → List Place
  places_in_last Last = []
  places_in_last (More t Last) = value_places t
  places_in_last (More t (More u ts)) = places_in_last (More u ts)

  pub places_in_cases : Cases → List Place
  places_in_cases NoCase = []
  places_in_cases (CaseOf at name declared t cs) = value_places t ++ places_in_cases cs

-- Worked example: in `{ n; if b then 1 else { 2; s; } fi; }` the value is that of `1` or that of `s`.
both_branches : (p q r s : Place) → value_places (trees.Block p (More (trees.Id p (codes "n")) (More (trees.If p (trees.Id p (codes "b")) (trees.Int q 1)
    (trees.Block p (More (trees.Int s 2) (More (trees.Id r (codes "s")) Last)))) Last))) ≡ q ∷ r ∷ []
both_branches p q r s = refl
