-- `gathered` folds over a tree: it starts from a value for each leaf, applies a function at each branch of a case, and combines the values of parts by
-- `both`. The other forms add nothing of their own.
use Rattle.cool_syntax.specs.Tree.{Leaf, Tree, Trees, MaybeTree, Cases, Last, More, Without, With, NoCase, CaseOf}
use Rattle.cool_syntax.specs.Tree.{leaf, unary, binary, call, If, Block, Let, Case}

-- the results for no part, for two parts together, for a form without parts, and for a branch by the result of its body
pub record Gathering {ℓ} (R : Type ℓ) : Type ℓ where
  pub none : R
  pub both : R → R → R
  pub form : Leaf → R
  pub branch : R → R

abbrev mutual
  pub gathered {ℓ} : {R : Type ℓ} → Gathering R → Tree → R
  gathered g (leaf at form) = g.form form
  gathered g (unary at form t) = gathered g t
  gathered g (binary at form a b) = g.both (gathered g a) (gathered g b)
  gathered g (call at form t ts) = g.both (gathered g t) (gathered_all g ts)
  gathered g (If at t y n) = g.both (g.both (gathered g t) (gathered g y)) (gathered g n)
  gathered g (Block at ts) = gathered_all g ts
  gathered g (Let at name declared o t) = g.both (gathered_maybe g o) (gathered g t)
  gathered g (Case at t cs) = g.both (gathered g t) (gathered_cases g cs)

  pub gathered_all {ℓ} : {R : Type ℓ} → Gathering R → Trees → R
  gathered_all g Last = g.none
  gathered_all g (More t ts) = g.both (gathered g t) (gathered_all g ts)

  pub gathered_maybe {ℓ} : {R : Type ℓ} → Gathering R → MaybeTree → R
  gathered_maybe g Without = g.none
  gathered_maybe g (With t) = gathered g t

  pub gathered_cases {ℓ} : {R : Type ℓ} → Gathering R → Cases → R
  gathered_cases g NoCase = g.none
  gathered_cases g (CaseOf at name declared t cs) = g.both (g.branch (gathered g t)) (gathered_cases g cs)
