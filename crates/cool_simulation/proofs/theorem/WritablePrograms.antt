-- If class definitions have no empty block and no empty case, neither have the features of the class table made from them. (The grammar has no empty ones: see
-- `parsed_writable` of cool_syntax.)
use Rattle.std.proofs.Common.{◌≡◌, ℕ, zero, suc, List, [], ◌∷◌, map, get_or, Some, sym, subst}
use Rattle.std.specs.Prelude.{slice_get}
use Rattle.std.specs.List.{AllByRecursion}
use Rattle.cool_syntax.specs.declared.file_tree.ClassDef.{ClassDef}
use Rattle.cool_syntax.specs.declared.file_tree.Feature.{Feature}
use Rattle.cool_syntax.specs.declared.file_tree.FileTree.{FileTree}
use Rattle.cool_syntax.specs.WrittenTrees.{IsFeatureWritable, AreClassesWritable}
use Rattle.cool_classes.specs.declared.class_id.ClassId.{ClassId}
use Rattle.cool_classes.specs.Chains as chains
use Rattle.cool_classes.specs.Chains.{nothing, features_of}
use Rattle.cool_classes.specs.ClassFaults.{class_meant, classes_meant}
use Rattle.cool_classes.specs.Definitions.{definitions}
use Rattle.cool_classes.specs.Settled.{names_with_basic}
use Rattle.cool_classes.specs.Tables.{basic_classes}
use Rattle.lists.proofs.AllItems.{all_get, all_append}

-- the definitions of files
pub definitions_writable : (files : List FileTree) → AllByRecursion (λ file. AreClassesWritable file.classes) files → AreClassesWritable (definitions files)
definitions_writable [] h = tt
definitions_writable (file ∷ files) h = all_append _ file.classes (definitions files) h.0 (definitions_writable files h.1)

-- Tables

meant_writable : (names : List (List ℕ)) (ds : List ClassDef) → AreClassesWritable ds → AllByRecursion (λ (c : chains.Class). AllByRecursion IsFeatureWritable c.features) (map (class_meant names) ds)
meant_writable names [] h = tt
meant_writable names (d ∷ ds) h = (h.0, meant_writable names ds h.1)

class_writable : (cs : List chains.Class) (k : ℕ) → AllByRecursion (λ (c : chains.Class). AllByRecursion IsFeatureWritable c.features) cs → AllByRecursion IsFeatureWritable (get_or cs k nothing).features
class_writable [] k h = tt
class_writable (c ∷ cs) zero h = h.0
class_writable (c ∷ cs) (suc k) h = class_writable cs k h.1

-- each feature of the table that writable classes mean is writable
pub table_writable : (ds : List ClassDef) (p : List chains.Class) → p ≡ classes_meant ds → AreClassesWritable ds → (c : ClassId) (k : ℕ) (f : Feature) → slice_get (features_of p c) k ≡ Some f → IsFeatureWritable f
table_writable ds p is h c k f there =
    all_get IsFeatureWritable (features_of p c) k f
    (subst (λ (t : List chains.Class). AllByRecursion IsFeatureWritable (features_of t c)) (sym is)
    (class_writable (classes_meant ds) c.0 (all_append (λ (x : chains.Class). AllByRecursion IsFeatureWritable x.features) basic_classes (map (class_meant (names_with_basic ds)) ds) (tt, (tt, (tt, (tt, (tt, tt)))))
    (meant_writable (names_with_basic ds) ds h)))) there
