-- If the string constants of class definitions consist of bytes (numbers below 256), so do those of the features in the class table made from them.
use Rattle.std.proofs.Common.{◌≡◌, ℕ, zero, suc, List, [], ◌∷◌, map, get_or, Some, sym, subst}
use Rattle.std.specs.Prelude.{slice_get}
use Rattle.std.specs.List.{AllByRecursion}
use Rattle.cool_syntax.specs.declared.file_tree.ClassDef.{ClassDef}
use Rattle.cool_syntax.specs.declared.file_tree.Feature.{Feature}
use Rattle.cool_syntax.specs.declared.file_tree.FileTree.{FileTree}
use Rattle.cool_syntax.specs.declared.token.Token.{Token}
use Rattle.cool_syntax.specs.LexicalStructure.{Lexes}
use Rattle.cool_syntax.specs.Grammar.{Parses}
use Rattle.cool_classes.specs.declared.class_id.ClassId.{ClassId}
use Rattle.cool_classes.specs.Chains as chains
use Rattle.cool_classes.specs.Chains.{nothing, features_of}
use Rattle.cool_classes.specs.ClassFaults.{class_meant, classes_meant}
use Rattle.cool_classes.specs.Definitions.{definitions}
use Rattle.cool_classes.specs.Settled.{names_with_basic}
use Rattle.cool_classes.specs.Tables.{basic_classes}
use Rattle.cool_runtime.specs.Contents.{IsText}
use Rattle.cool_emit.specs.Programs.{program_constants, IsBuildable}
use Rattle.cool_simulation.specs.ByteStrings.{FeatureHasBytes, ClassesHaveBytes}
use Rattle.cool_simulation.proofs.theorem.BytesOfTokens.{lexed_bytes}
use Rattle.cool_simulation.proofs.theorem.BytesOfReadings.{parsed_bytes}
use Rattle.cool_simulation.proofs.theorem.TextsOfTrees.{program_texts}
use Rattle.lists.proofs.AllItems.{all_append, all_get}
use Rattle.lists.specs.Bytes.{AreBytes}

abbrev AreTableBytes : List chains.Class → Type 0
AreTableBytes = AllByRecursion (λ (c : chains.Class). AllByRecursion FeatureHasBytes c.features)

-- the classes of a file of bytes
pub classes_bytes : (file : ℕ) (bytes : List ℕ) (tokens : List Token) (classes : List ClassDef) → AreBytes bytes → Lexes file bytes tokens → Parses tokens classes → ClassesHaveBytes classes
classes_bytes file bytes tokens classes h lexes parses = parsed_bytes tokens classes (lexed_bytes file bytes tokens h lexes) parses

pub definitions_bytes : (files : List FileTree) → AllByRecursion (λ (file : FileTree). ClassesHaveBytes file.classes) files → ClassesHaveBytes (definitions files)
definitions_bytes [] h = tt
definitions_bytes (file ∷ files) h = all_append (λ (c : ClassDef). AllByRecursion FeatureHasBytes c.features) file.classes (definitions files) h.0 (definitions_bytes files h.1)

meant_bytes : (names : List (List ℕ)) (ds : List ClassDef) → ClassesHaveBytes ds → AreTableBytes (map (class_meant names) ds)
meant_bytes names [] h = tt
meant_bytes names (d ∷ ds) h = (h.0, meant_bytes names ds h.1)

class_bytes : (cs : List chains.Class) (k : ℕ) → AreTableBytes cs → AllByRecursion FeatureHasBytes (get_or cs k nothing).features
class_bytes [] k h = tt
class_bytes (c ∷ cs) zero h = h.0
class_bytes (c ∷ cs) (suc k) h = class_bytes cs k h.1

-- each feature of the table
pub table_bytes : (ds : List ClassDef) (p : List chains.Class) → p ≡ classes_meant ds → ClassesHaveBytes ds → (c : ClassId) (k : ℕ) (f : Feature) → slice_get (features_of p c) k ≡ Some f → FeatureHasBytes f
table_bytes ds p is h c k f there =
    all_get FeatureHasBytes (features_of p c) k f
    (subst (λ (t : List chains.Class). AllByRecursion FeatureHasBytes (features_of t c)) (sym is)
    (class_bytes (classes_meant ds) c.0 (all_append (λ (x : chains.Class). AllByRecursion FeatureHasBytes x.features) basic_classes (map (class_meant (names_with_basic ds)) ds) (tt, (tt, (tt, (tt, (tt, tt)))))
    (meant_bytes (names_with_basic ds) ds h)))) there

-- the strings of a program that classes mean are texts, where the names of its files are
pub texts_meant : (ds : List ClassDef) (p : List chains.Class) (files : List (List ℕ)) → p ≡ classes_meant ds → ClassesHaveBytes ds → IsBuildable p files → AllByRecursion IsText files
    → AllByRecursion IsText (program_constants p files).strings
texts_meant ds p files is h b named = program_texts p files b named (λ c k f within there. table_bytes ds p is h c k f there)
