-- Functions on names and lists of trees that code generation needs: whether a name is `self`, the class that a name denotes, and the number of arguments of a
-- call.
use Rattle.std.specs.Prelude.{ℕ, ◌+◌, List, bytes_eq, codes, Bool as Truth}
use Rattle.cool_syntax.specs.Tree.{Trees, Last, More}
use Rattle.cool_classes.specs.declared.class_id.ClassId.{ClassId}
use Rattle.cool_classes.specs.Chains.{Class}
use Rattle.cool_rules.specs.Conformance.{class_of}
use Rattle.cool_rules.specs.Rules.{type_meant}

abbrev pub is_self : List ℕ → Truth
is_self name = bytes_eq name (codes "self")

-- the class that a name means in a class
abbrev pub class_meant : List Class → ClassId → List ℕ → ClassId
class_meant p c name = class_of c (type_meant p name)

-- the number of trees
abbrev pub trees_count : Trees → ℕ
trees_count Last = 0
trees_count (More t ts) = trees_count ts + 1
