-- `body_at` is the expression of a feature: the body of a method or the initial value of an attribute (the Cool manual, sections 5 and 6). `with_body_at`
-- replaces it in a class table, and `with_feature_at` replaces a whole feature.
use Rattle.std.specs.Prelude.{ℕ, zero, suc, List, [], ◌∷◌, slice_get, Option, Some, None, option_map, codes, ◌≡◌, refl}
use Rattle.cool_syntax.specs.declared.file_tree.Feature.{Feature}
use Rattle.cool_syntax.specs.declared.file_tree.Feature.TheVariants.{Method, Attribute}
use Rattle.cool_syntax.specs.declared.file_tree.MethodDef.{MethodDef}
use Rattle.cool_syntax.specs.declared.place.Place.{Place}
use Rattle.cool_syntax.specs.declared.type_ref.TypeRef.{TypeRef}
use Rattle.cool_syntax.specs.Tree.{Tree}
use Rattle.cool_classes.specs.declared.class_id.ClassId.{ClassId}
use Rattle.cool_classes.specs.Chains.{Class, class_number, features_of}

-- the expression of a feature; an attribute may have none
abbrev pub body_in : Option Feature → Option Tree
body_in None = None
body_in (Some (Method m)) = Some m.body
body_in (Some (Attribute a)) = a.init

-- the expression of the feature at an index of a class
abbrev pub body_at : List Class → ClassId → ℕ → Option Tree
body_at p c k = body_in (slice_get (features_of p c) k)

-- a feature with another expression in the place of its own; all else is the same
abbrev pub with_body : Tree → Feature → Feature
with_body t (Method m) = Method (record m { body = t })
with_body t (Attribute a) = Attribute (record a { init = option_map (λ (u : Tree). t) a.init })

-- a list with the item at an index changed
abbrev pub changed_at : {X : Type 0} → ℕ → (X → X) → List X → List X
changed_at k f [] = []
changed_at zero f (x ∷ xs) = f x ∷ xs
changed_at (suc k) f (x ∷ xs) = x ∷ changed_at k f xs

-- a table with another expression in the place of that of the feature at an index of a class
abbrev pub with_body_at : List Class → ClassId → ℕ → Tree → List Class
with_body_at p c k t = changed_at c.0 (λ (d : Class). record d { features = changed_at k (with_body t) d.features }) p

-- a table with another feature at an index of a class
abbrev pub with_feature_at : List Class → ClassId → ℕ → Feature → List Class
with_feature_at p c k x = changed_at c.0 (λ (d : Class). record d { features = changed_at k (λ (y : Feature). x) d.features }) p

-- Worked examples: in a class with one feature, the body of a method is exchanged, and an attribute without a value still has none.
abbrev one : Feature → List Class
one x = record { name = codes "A"; parent = None; features = x ∷ [] } ∷ []

method_exchanged : (m : MethodDef) (t : Tree) → with_body_at (one (Method m)) (class_number 0) 0 t ≡ one (Method (record m { body = t }))
method_exchanged m t = refl

body_exchanged : (m : MethodDef) (t : Tree) → body_at (with_body_at (one (Method m)) (class_number 0) 0 t) (class_number 0) 0 ≡ Some t
body_exchanged m t = refl

no_value : (name : List ℕ) (at : Place) (declared : TypeRef) (t : Tree)
    → with_body t (Attribute (record { name = name; at = at; declared = declared; init = None }))
    ≡ Attribute (record { name = name; at = at; declared = declared; init = None })
no_value name at declared t = refl
