-- `bare` is a tree without its source locations: the location of each node and of each type name becomes `nowhere`, so trees that differ only in locations
-- become equal.
use Rattle.cool_syntax.specs.declared.place.Place.{Place}
use Rattle.cool_syntax.specs.declared.type_ref.TypeRef.{TypeRef}
use Rattle.cool_syntax.specs.Tree.{Tree, Trees, MaybeTree, Cases, Twig, Last, More, Without, With, NoCase, CaseOf}
use Rattle.cool_syntax.specs.Tree.{Leaf, Call, leaf, unary, binary, call, If, Block, Let, Case, new, id, int, str, truth, dynamic, static}

-- the place that `bare` puts everywhere
abbrev pub nowhere : Place
nowhere = record { file = 0; line = 0; byte = 0 }

abbrev pub bare_type : TypeRef → TypeRef
bare_type r = record { name = r.name; at = nowhere }

abbrev bare_leaf : Leaf → Leaf
bare_leaf (new class) = new (bare_type class)
bare_leaf (id name) = id name
bare_leaf (int value) = int value
bare_leaf (str bytes) = str bytes
bare_leaf (truth value) = truth value

abbrev bare_call : Call → Call
bare_call (dynamic name) = dynamic name
bare_call (static class name) = static (bare_type class) name

abbrev mutual
  pub bare : Tree → Tree
  bare (leaf at form) = leaf nowhere (bare_leaf form)
  bare (unary at form t) = unary nowhere form (bare t)
  bare (binary at form a b) = binary nowhere form (bare a) (bare b)
  bare (call at form t ts) = call nowhere (bare_call form) (bare t) (bare_all ts)
  bare (If at t y n) = If nowhere (bare t) (bare y) (bare n)
  bare (Block at ts) = Block nowhere (bare_all ts)
  bare (Let at name declared o t) = Let nowhere name (bare_type declared) (bare_maybe o) (bare t)
  bare (Case at t cs) = Case nowhere (bare t) (bare_cases cs)

  pub bare_all : Trees → Trees
  bare_all Last = Last
  bare_all (More t ts) = More (bare t) (bare_all ts)

  pub bare_maybe : MaybeTree → MaybeTree
  bare_maybe Without = Without
  bare_maybe (With t) = With (bare t)

  pub bare_cases : Cases → Cases
  bare_cases NoCase = NoCase
  bare_cases (CaseOf at name declared t cs) = CaseOf nowhere name (bare_type declared) (bare t) (bare_cases cs)

abbrev pub bare_twig : Twig → Twig
bare_twig w = record { at = nowhere; name = w.name; declared = bare_type w.declared; body = bare w.body }
