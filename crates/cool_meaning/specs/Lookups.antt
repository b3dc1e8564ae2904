-- Functions by which a running program looks up methods, attributes and initial values in its class table.
use Rattle.std.specs.Prelude.{ℕ, List, [], ◌∷◌, map, slice_get, Option, Some, None, bytes_eq, if◌then◌else◌}
use Rattle.cool_syntax.specs.declared.file_tree.Feature.{Feature}
use Rattle.cool_syntax.specs.declared.file_tree.Feature.TheVariants.{Method, Attribute}
use Rattle.cool_syntax.specs.declared.file_tree.MethodDef.{MethodDef}
use Rattle.cool_syntax.specs.declared.file_tree.Formal.{Formal}
use Rattle.cool_syntax.specs.Tree.{Tree}
use Rattle.cool_classes.specs.declared.class_id.ClassId.{ClassId}
use Rattle.cool_classes.specs.declared.method.AttributeRef.{AttributeRef}
use Rattle.cool_classes.specs.Chains.{Class, features_of}
use Rattle.cool_classes.specs.Features.{attributes_of, attribute_name, attribute_type}
use Rattle.cool_classes.specs.ClimbedChains.{chain}
use Rattle.cool_classes.specs.Names.{self_type}
use Rattle.cool_rules.specs.Rules.{class_named}
use Rattle.cool_meaning.specs.Values.{Value, Void, Int, Bool, Str, Obj, class_of, default_of, Environment}

-- the class that `new` makes in a method of an object: for SELF_TYPE the object's own
abbrev pub class_made : List Class → Value → List ℕ → Option ClassId
class_made p self name = if bytes_eq name self_type then class_of self else class_named p name

-- the method at an index among the features of a class
abbrev pub method_in : Option Feature → Option MethodDef
method_in None = None
method_in (Some (Method m)) = Some m
method_in (Some (Attribute a)) = None

abbrev pub method_at : List Class → ClassId → ℕ → Option MethodDef
method_at p owner k = method_in (slice_get (features_of p owner) k)

-- the attributes of the objects of a class
abbrev pub attributes : List Class → ClassId → List AttributeRef
attributes p c = attributes_of p (chain p c)

-- the default value of an attribute, before its initial value
abbrev pub default_values : List Class → List AttributeRef → List Value
default_values p rs = map (λ (a : AttributeRef). default_of (attribute_type p a)) rs

-- the initial value of an attribute, where it has one
abbrev pub init_in : Option Feature → Option Tree
init_in None = None
init_in (Some (Method m)) = None
init_in (Some (Attribute a)) = a.init

abbrev pub init_of : List Class → AttributeRef → Option Tree
init_of p a = init_in (slice_get (features_of p a.owner) a.index)

-- names at locations, in order
abbrev pub located : List (List ℕ) → List ℕ → Environment
located [] ls = []
located (x ∷ xs) [] = []
located (x ∷ xs) (l ∷ ls) = record { name = x; location = l } ∷ located xs ls

abbrev pub attribute_names : List Class → List AttributeRef → List (List ℕ)
attribute_names p rs = map (attribute_name p) rs

abbrev pub formal_names : List Formal → List (List ℕ)
formal_names fs = map (λ f. f.name) fs

-- the locations of an object, and its attributes at them
abbrev pub locations_of : Value → List ℕ
locations_of (Obj c i ls) = ls
locations_of Void = []
locations_of (Int n) = []
locations_of (Bool b) = []
locations_of (Str bytes) = []

abbrev pub attributes_at : List Class → Option ClassId → List ℕ → Environment
attributes_at p None ls = []
attributes_at p (Some c) ls = located (attribute_names p (attributes p c)) ls

abbrev pub environment_of : List Class → Value → Environment
environment_of p self = attributes_at p (class_of self) (locations_of self)
