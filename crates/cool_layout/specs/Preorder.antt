-- The preorder of the classes: each class comes before those that inherit from it, and the children of a class are in the order of their numbers.
use Rattle.std.specs.Prelude.{◌≡◌, ℕ, zero, suc, ◌+◌, ◌-◌, List, [], ◌∷◌, length, filter, flat_map, Option, Some, None, Bool, false, nat_eq, codes, refl}
use Rattle.std.specs.List.{position_or_len}
use Rattle.cool_classes.specs.declared.class_id.ClassId.{ClassId}
use Rattle.cool_classes.specs.Chains.{Class, class_number, parent_of}

-- so many numbers of classes, from one on
abbrev pub numbers_from : ℕ → ℕ → List ClassId
numbers_from k zero = []
numbers_from k (suc n) = class_number k ∷ numbers_from (k + 1) n

-- a class is this one
abbrev pub is_class : ClassId → ClassId → Bool
is_class q c = nat_eq c.0 q.0

abbrev pub is_parent : ClassId → Option ClassId → Bool
is_parent q None = false
is_parent q (Some r) = is_class q r

-- the classes that inherit from a class, by their numbers
abbrev pub children : List Class → ClassId → List ClassId
children p q = filter (λ c. is_parent q (parent_of p c)) (numbers_from 0 (length p))

-- a class and those below it, down to so many levels
abbrev pub subtree : List Class → ℕ → ClassId → List ClassId
subtree p zero c = []
subtree p (suc n) c = c ∷ flat_map (subtree p n) (children p c)

-- a class and those below it: no chain has more levels than there are classes
abbrev pub family : List Class → ClassId → List ClassId
family p c = subtree p (length p) c

-- all classes, Object first
abbrev pub preorder : List Class → List ClassId
preorder p = family p (class_number 0)

-- the place of a class in preorder, and that of the last class below it
abbrev pub tag : List Class → ClassId → ℕ
tag p c = position_or_len (is_class c) (preorder p)

abbrev pub last_tag : List Class → ClassId → ℕ
last_tag p c = tag p c + length (family p c) - 1

-- Worked example: Object with A and C below it, and B below A.
abbrev four : List Class
four =
    record { name = codes "Object"; parent = None; features = [] }
    ∷ record { name = codes "A"; parent = Some (class_number 0); features = [] }
    ∷ record { name = codes "C"; parent = Some (class_number 0); features = [] }
    ∷ record { name = codes "B"; parent = Some (class_number 1); features = [] } ∷ []

order_of_four : preorder four ≡ class_number 0 ∷ class_number 1 ∷ class_number 3 ∷ class_number 2 ∷ []
order_of_four = refl

last_of_a : last_tag four (class_number 1) ≡ 2
last_of_a = refl
