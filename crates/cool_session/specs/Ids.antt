-- `ids` lists the features of a class table in order, each by its class and its number among the features of the class.
use Rattle.std.specs.Prelude.{ℕ, ◌+◌, List, [], ◌∷◌, ◌++◌}
use Rattle.cool_syntax.specs.declared.file_tree.Feature.{Feature}
use Rattle.cool_classes.specs.declared.class_id.ClassId.{ClassId}
use Rattle.cool_classes.specs.Chains.{Class, class_number}
use Rattle.cool_session.specs.declared.ids.FeatureId.{FeatureId}

-- the features of a class, of which the first has this number
abbrev pub ids_in : ClassId → ℕ → List Feature → List FeatureId
ids_in c k [] = []
ids_in c k (x ∷ xs) = record { class = c; index = k } ∷ ids_in c (k + 1) xs

-- the features of classes, of which the first has this number
abbrev pub ids_from : ℕ → List Class → List FeatureId
ids_from k [] = []
ids_from k (d ∷ ds) = ids_in (class_number k) 0 d.features ++ ids_from (k + 1) ds

abbrev pub ids : List Class → List FeatureId
ids = ids_from 0
