-- `feature_size` is the size of a feature: the number of its formal parameters, plus the nodes and the case branches of its expression. `IsBoundedClass` says
-- that no feature of a class is larger than `MOST_TOKENS`, the limit on the tokens of a feature in the source.
use Rattle.std.specs.Prelude.{◌≡◌, ℕ, ◌+◌, ◌≤◌, [], ◌∷◌, length, codes, Option, Some, None, refl}
use Rattle.std.specs.List.{AllByRecursion}
use Rattle.cool_syntax.specs.declared.TheConstants.{MOST_TOKENS}
use Rattle.cool_syntax.specs.declared.place.Place.{Place}
use Rattle.cool_syntax.specs.declared.type_ref.TypeRef.{TypeRef}
use Rattle.cool_syntax.specs.declared.file_tree.ClassDef.{ClassDef}
use Rattle.cool_syntax.specs.declared.file_tree.Feature.{Feature}
use Rattle.cool_syntax.specs.declared.file_tree.Feature.TheVariants.{Method, Attribute}
use Rattle.cool_syntax.specs.Tree.{Tree, Trees, MaybeTree, Cases, NoCase, CaseOf, tree_size}
use Rattle.cool_syntax.specs.Tree as trees
use Rattle.cool_syntax.specs.Gatherings.{Gathering, gathered, gathered_all, gathered_maybe, gathered_cases}

-- the number of branches of the cases of a tree
abbrev branches : Gathering ℕ
branches = record { none = 0; both = ◌+◌; form = λ form. 0; branch = λ body. 1 + body }

abbrev pub branches_in : Tree → ℕ
branches_in = gathered branches

abbrev pub branches_in_all : Trees → ℕ
branches_in_all = gathered_all branches

abbrev pub branches_in_maybe : MaybeTree → ℕ
branches_in_maybe = gathered_maybe branches

abbrev pub branches_of : Cases → ℕ
branches_of = gathered_cases branches

abbrev pub value_size : Option Tree → ℕ
value_size None = 0
value_size (Some t) = tree_size t + branches_in t

abbrev pub feature_size : Feature → ℕ
feature_size (Method m) = length m.formals + tree_size m.body + branches_in m.body
feature_size (Attribute a) = value_size a.init

abbrev pub IsBoundedFeature : Feature → Type 0
IsBoundedFeature f = feature_size f ≤ MOST_TOKENS

abbrev pub IsBoundedClass : ClassDef → Type 0
IsBoundedClass c = AllByRecursion IsBoundedFeature c.features

-- Worked examples: `case x of y : T => 1; z : T => 2; esac` has four nodes and two branches; as the body of `f(x : T) : T`, with one
-- formal, it makes a feature of seven.
abbrev choice : Place → TypeRef → Tree
choice p c = trees.Case p (trees.Id p (codes "x")) (CaseOf p (codes "y") c (trees.Int p 1) (CaseOf p (codes "z") c (trees.Int p 2) NoCase))

value_of_choice : (p : Place) (c : TypeRef) → value_size (Some (choice p c)) ≡ 6
value_of_choice p c = refl

method_of_choice : (p : Place) (c : TypeRef) → feature_size (Method (record { name = codes "f"; at = p; formals = record { name = codes "x"; at = p; declared = c } ∷ []; result = c; body = choice p c })) ≡ 7
method_of_choice p c = refl
