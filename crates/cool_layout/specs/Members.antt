-- `offset` is the offset of an attribute in the objects of a class, and `slot` the position of a method in its dispatch table. Those of the parent come first,
-- then those of the class in textual order.
use Rattle.std.specs.Prelude.{◌≡◌, ℕ, ◌+◌, ◌*◌, List, [], ◌∷◌, ◌++◌, map, flat_map, position, unwrap_or, Option, Some, None, Bool, ◌&&◌, nat_eq, nat_lt, if◌then◌else◌, codes, bytes_eq, refl}
use Rattle.std.specs.List.{position_or_len, list_any}
use Rattle.cool_syntax.specs.declared.file_tree.Feature.{Feature}
use Rattle.cool_syntax.specs.declared.file_tree.Feature.TheVariants.{Method, Attribute}
use Rattle.cool_classes.specs.declared.class_id.ClassId.{ClassId}
use Rattle.cool_classes.specs.declared.method.BasicMethod.TheVariants.{Abort}
use Rattle.cool_classes.specs.declared.method.MethodRef.{MethodRef}
use Rattle.cool_classes.specs.declared.method.MethodRef.TheVariants.{Basic}
use Rattle.cool_classes.specs.declared.method.AttributeRef.{AttributeRef}
use Rattle.cool_classes.specs.Chains.{Class, class_number, features_of}
use Rattle.cool_classes.specs.ClimbedChains.{climbed, above, chain}
use Rattle.cool_classes.specs.Features.{basic_methods, implementation, attributes_of}
use Rattle.cool_classes.specs.Tables.{basic_classes}

abbrev pub attributes : List Class → ClassId → List AttributeRef
attributes p c = attributes_of p (chain p c)

abbrev pub is_attribute : AttributeRef → AttributeRef → Bool
is_attribute a b = nat_eq b.owner.0 a.owner.0 && nat_eq b.index a.index

-- the offset of an attribute in the objects of a class: after a head of three words
abbrev pub offset : List Class → ClassId → AttributeRef → ℕ
offset p c a = 12 + 4 * position_or_len (is_attribute a) (attributes p c)

-- the names of the methods that a class has of its own, in textual order
abbrev pub method_name : Feature → List (List ℕ)
method_name (Method m) = m.name ∷ []
method_name (Attribute a) = []

abbrev pub own_names : List Class → ClassId → List (List ℕ)
own_names p c = if nat_lt c.0 5 then map (λ m. m.name) (basic_methods c.0) else flat_map method_name (features_of p c)

-- names with those after them that are not among them, each once
abbrev pub with_new : List (List ℕ) → List (List ℕ) → List (List ℕ)
with_new names [] = names
with_new names (f ∷ fs) = with_new (if list_any (bytes_eq f) names then names else names ++ f ∷ []) fs

-- the names of the methods of a chain, those of the greatest ancestor first
abbrev pub slots_of : List Class → List ClassId → List (List ℕ)
slots_of p [] = []
slots_of p (d ∷ ds) = with_new (slots_of p ds) (own_names p d)

abbrev pub slots : List Class → ClassId → List (List ℕ)
slots p c = slots_of p (chain p c)

-- the place of a method in the dispatch table of a class
abbrev pub slot : List Class → ClassId → List ℕ → Option ℕ
slot p c f = position (bytes_eq f) (slots p c)

-- the method that a class has under a name that it has
abbrev pub method : List Class → ClassId → List ℕ → MethodRef
method p c f = unwrap_or (implementation p (chain p c) f) (Basic Abort)

-- the dispatch table of a class
abbrev pub methods : List Class → ClassId → List MethodRef
methods p c = map (method p c) (slots p c)

-- Worked examples: `length` is the first method of String's own.
length_of_string : slot basic_classes (class_number 4) (codes "length") ≡ Some 3
unfolding climbed above chain
length_of_string = refl

length_of_int : slot basic_classes (class_number 2) (codes "length") ≡ None
unfolding climbed above chain
length_of_int = refl
