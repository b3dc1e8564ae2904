-- `IsWritten` says that no block and no case of a program is empty, as the grammar demands (the Cool manual, section 11).
use Rattle.std.specs.Prelude.{◌≡◌, ℕ, ◌<◌, List, length, slice_get, Some}
use Rattle.cool_syntax.specs.declared.file_tree.Feature.{Feature}
use Rattle.cool_syntax.specs.WrittenTrees.{IsFeatureWritable}
use Rattle.cool_classes.specs.declared.class_id.ClassId.{ClassId}
use Rattle.cool_classes.specs.Chains.{Class, features_of}

-- no body of a method and no initial value has an empty block or an empty case
abbrev pub IsWritten : List Class → Type 0
IsWritten p = (c : ClassId) (k : ℕ) (x : Feature) → c.0 < length p → slice_get (features_of p c) k ≡ Some x → IsFeatureWritable x
