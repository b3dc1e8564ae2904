-- The expressions of a class table, in the order of classes and features, each with its class and the number of its feature.
use Rattle.std.specs.Prelude.{ℕ, ◌+◌, List, [], ◌∷◌, ◌++◌, Option, Some, None}
use Rattle.cool_syntax.specs.declared.file_tree.Feature.{Feature}
use Rattle.cool_syntax.specs.Tree.{Tree}
use Rattle.cool_classes.specs.declared.class_id.ClassId.{ClassId}
use Rattle.cool_classes.specs.Chains.{Class, class_number}
use Rattle.cool_fold.specs.declared.program.Expression.{Expression}
use Rattle.cool_rules.specs.NodeScopes.{expression_of}

-- the expression of the feature of a class with this number; an attribute may have none
abbrev pub expression_at : ClassId → ℕ → Option Tree → List Expression
expression_at c k None = []
expression_at c k (Some t) = record { class = c; feature = k; body = t } ∷ []

-- the expressions of features of a class, from this number on
abbrev pub expressions_of : ClassId → ℕ → List Feature → List Expression
expressions_of c k [] = []
expressions_of c k (x ∷ xs) = expression_at c k (expression_of x) ++ expressions_of c (k + 1) xs

-- the expressions of classes, from this number on
abbrev pub expressions_from : ℕ → List Class → List Expression
expressions_from n [] = []
expressions_from n (d ∷ ds) = expressions_of (class_number n) 0 d.features ++ expressions_from (n + 1) ds
