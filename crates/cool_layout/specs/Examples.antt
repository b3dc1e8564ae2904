-- Worked examples: the tags, offsets and slots of two small programs, after the basic classes.
use Rattle.std.specs.Prelude.{◌≡◌, ℕ, List, [], ◌∷◌, ◌++◌, Some, None, codes, refl}
use Rattle.cool_syntax.specs.declared.place.Place.{Place}
use Rattle.cool_syntax.specs.declared.file_tree.Feature.{Feature}
use Rattle.cool_syntax.specs.declared.file_tree.Feature.TheVariants.{Attribute}
use Rattle.cool_classes.specs.declared.method.AttributeRef.{AttributeRef}
use Rattle.cool_classes.specs.Chains.{Class, class_number}
use Rattle.cool_classes.specs.ClimbedChains.{climbed, above, chain}
use Rattle.cool_classes.specs.Tables.{basic_classes}
use Rattle.cool_layout.specs.Preorder.{preorder, tag, last_tag}
use Rattle.cool_layout.specs.Members.{offset, slot}

-- A, B below A, C below B, and Main below IO
abbrev one_chain : List Class
one_chain =
    basic_classes
    ++ record { name = codes "A"; parent = Some (class_number 0); features = [] }
    ∷ record { name = codes "B"; parent = Some (class_number 5); features = [] }
    ∷ record { name = codes "C"; parent = Some (class_number 6); features = [] }
    ∷ record { name = codes "Main"; parent = Some (class_number 1); features = [] } ∷ []

-- Object, IO, Main, Int, Bool, String, A, B, C
order_of_one_chain : preorder one_chain
    ≡ class_number 0 ∷ class_number 1 ∷ class_number 8 ∷ class_number 2 ∷ class_number 3 ∷ class_number 4 ∷ class_number 5 ∷ class_number 6 ∷ class_number 7 ∷ []
order_of_one_chain = refl

last_of_object : last_tag one_chain (class_number 0) ≡ 8
last_of_object = refl

last_of_io : last_tag one_chain (class_number 1) ≡ 2
last_of_io = refl

last_of_a : last_tag one_chain (class_number 5) ≡ 8
last_of_a = refl

tag_of_b : tag one_chain (class_number 6) ≡ 7
tag_of_b = refl

last_of_b : last_tag one_chain (class_number 6) ≡ 8
last_of_b = refl

-- the slot of out_int in Main, after the three methods of Object and out_string
out_int_in_main : slot one_chain (class_number 8) (codes "out_int") ≡ Some 4
unfolding climbed above chain
out_int_in_main = refl

no_out_int_in_a : slot one_chain (class_number 5) (codes "out_int") ≡ None
unfolding climbed above chain
no_out_int_in_a = refl

-- A below IO with an attribute a, and Main below A with x and y
abbrev somewhere : Place
somewhere = record { file = 0; line = 1; byte = 0 }

abbrev int_attribute : List ℕ → Feature
int_attribute name = Attribute (record { name = name; at = somewhere; declared = record { name = codes "Int"; at = somewhere }; init = None })

abbrev three_attributes : List Class
three_attributes =
    basic_classes
    ++ record { name = codes "A"; parent = Some (class_number 1); features = int_attribute (codes "a") ∷ [] }
    ∷ record { name = codes "Main"; parent = Some (class_number 5); features = int_attribute (codes "x") ∷ int_attribute (codes "y") ∷ [] } ∷ []

abbrev attribute_at : ℕ → ℕ → AttributeRef
attribute_at owner index = record { owner = class_number owner; index = index }

a_in_main : offset three_attributes (class_number 6) (attribute_at 5 0) ≡ 12
unfolding climbed above chain
a_in_main = refl

x_in_main : offset three_attributes (class_number 6) (attribute_at 6 0) ≡ 16
unfolding climbed above chain
x_in_main = refl

y_in_main : offset three_attributes (class_number 6) (attribute_at 6 1) ≡ 20
unfolding climbed above chain
y_in_main = refl

a_in_a : offset three_attributes (class_number 5) (attribute_at 5 0) ≡ 12
unfolding climbed above chain
a_in_a = refl
