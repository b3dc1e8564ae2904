-- The names of the methods of a class with those that it inherits, each once (the Cool manual, sections 5, 6 and 8).
use Rattle.std.specs.Prelude.{◌≡◌, ℕ, ◌+◌, List, [], ◌∷◌, ◌++◌, map, length, is_none, Bool, ◌&&◌, nat_lt, if◌then◌else◌, refl}
use Rattle.cool_syntax.specs.declared.file_tree.Feature.{Feature}
use Rattle.cool_syntax.specs.declared.file_tree.Feature.TheVariants.{Method, Attribute}
use Rattle.cool_classes.specs.declared.class_id.ClassId.{ClassId}
use Rattle.cool_classes.specs.Chains.{Class, class_number, features_of}
use Rattle.cool_classes.specs.Features.{NamedMethod, basic_methods, first_method, implementation}
use Rattle.cool_classes.specs.FirstNames.{is_index}

-- the method at an index is the first of its name in its class, and the classes above have none of that name
abbrev pub is_new : List Class → List ClassId → List Feature → ℕ → List ℕ → Bool
is_new p above own k name = is_index k (first_method 0 own name) && is_none (implementation p above name)

-- the name of a new method
abbrev pub new_name : List Class → List ClassId → List Feature → ℕ → Feature → List (List ℕ)
new_name p above own k (Method m) = if is_new p above own k m.name then m.name ∷ [] else []
new_name p above own k (Attribute a) = []

-- the names of the new methods among features, which begin at an index
abbrev pub new_among : List Class → List ClassId → List Feature → ℕ → List Feature → List (List ℕ)
new_among p above own k [] = []
new_among p above own k (x ∷ fs) = new_name p above own k x ++ new_among p above own (k + 1) fs

abbrev pub method_names : List NamedMethod → List (List ℕ)
method_names = map (λ m. m.name)

-- the names that a class adds to those of the classes above it
abbrev pub new_methods : List Class → List ClassId → ClassId → List (List ℕ)
new_methods p above c = if nat_lt c.0 5 then method_names (basic_methods c.0) else new_among p above (features_of p c) 0 (features_of p c)

-- the names of the methods of a chain
abbrev pub methods_of : List Class → List ClassId → List (List ℕ)
methods_of p [] = []
methods_of p (d ∷ ds) = new_methods p ds d ++ methods_of p ds

-- Worked example: String has three methods of its own and three of Object.
methods_of_string : length (methods_of [] (class_number 4 ∷ class_number 0 ∷ [])) ≡ 6
methods_of_string = refl
