-- `AreOffsets` says that the code has, for each class, a list with the offset of each of its attributes, at the index that the attribute has among the
-- features.
use Rattle.std.specs.Prelude.{◌≡◌, ℕ, ◌+◌, ◌*◌, ◌<◌, List, [], ◌∷◌, length, get_or, Option, Some, None}
use Rattle.std.specs.Global.{Vec}
use Rattle.cool_syntax.specs.declared.file_tree.Feature.{Feature}
use Rattle.cool_syntax.specs.declared.file_tree.Feature.TheVariants.{Method, Attribute}
use Rattle.cool_classes.specs.declared.class_id.ClassId.{ClassId}
use Rattle.cool_classes.specs.Chains.{Class, class_number, parent_of, features_of}
use Rattle.cool_layout.specs.Members.{attributes}
use Rattle.cool_layout.specs.SlotTables.{class_of}

-- the offset of each attribute among features, after so many others; a method has 0
abbrev pub offsets_among : ℕ → List Feature → List ℕ
offsets_among above [] = []
offsets_among above (Method m ∷ fs) = 0 ∷ offsets_among above fs
offsets_among above (Attribute a ∷ fs) = (12 + 4 * above) ∷ offsets_among (above + 1) fs

abbrev pub attribute_count : List Feature → ℕ
attribute_count [] = 0
attribute_count (Method m ∷ fs) = attribute_count fs
attribute_count (Attribute a ∷ fs) = attribute_count fs + 1

-- the number of attributes before those of the class's own
abbrev pub attributes_above : List Class → Option ClassId → ℕ
attributes_above p None = 0
attributes_above p (Some q) = length (attributes p q)

abbrev pub above_count : List Class → ClassId → ℕ
above_count p c = attributes_above p (parent_of p c)

-- the number of attributes of the class of each tag, as far as they are counted
abbrev pub AreCounts : List Class → List ℕ → Type 0
AreCounts p counts = (k d : ℕ) → k < length counts → get_or counts k d ≡ length (attributes p (class_of p k))

-- the offsets of each of so many classes
pub record AreOffsets (p : List Class) (n : ℕ) (all : List (Vec ℕ)) : Type 0 where
  pub same : length all ≡ n
  pub offsets : (c : ℕ) (d : Vec ℕ) → c < n → (get_or all c d).items ≡ offsets_among (above_count p (class_number c)) (features_of p (class_number c))
