-- No block and no case of an accepted program is empty.
use Rattle.std.proofs.Common.{◌≡◌, ℕ, ◌+◌, List, [], ◌∷◌, Some}
use Rattle.std.specs.Prelude.{slice_get}
use Rattle.std.specs.List.{AllByRecursion}
use Rattle.cool_syntax.specs.declared.file_tree.Feature.{Feature}
use Rattle.cool_syntax.specs.declared.file_tree.FileTree.{FileTree}
use Rattle.cool_syntax.specs.WrittenTrees.{IsFeatureWritable, AreClassesWritable}
use Rattle.cool_classes.specs.declared.class_id.ClassId.{ClassId}
use Rattle.cool_classes.specs.Chains.{Class, features_of}
use Rattle.cool_classes.specs.Definitions.{definitions}
use Rattle.cool_faults.specs.Verdicts.{AreTrees, IsAccepted}
use Rattle.cool_faults.proofs.AcceptedFiles.{accepted_meant}
use Rattle.cool_syntax.proofs.ParsedTreesAreWritable.{parsed_writable}
use Rattle.cool_simulation.proofs.theorem.WritablePrograms.{definitions_writable, table_writable}

trees_writable : (file : ℕ) (files : List (List ℕ)) (trees : List FileTree) → AreTrees file files trees → AllByRecursion (λ (t : FileTree). AreClassesWritable t.classes) trees
trees_writable file [] [] h = tt
trees_writable file [] (t ∷ ts) h = absurd h
trees_writable file (bytes ∷ files) [] h = absurd h
trees_writable file (bytes ∷ files) (t ∷ ts) h = (parsed_writable h.0.tokens t.classes h.0.parses, trees_writable (file + 1) files ts h.1)

-- each body and each initial value of an accepted program can be written
pub accepted_writable : (files : List (List ℕ)) (p : List Class) → IsAccepted files p → (c : ClassId) (k : ℕ) (f : Feature) → slice_get (features_of p c) k ≡ Some f → IsFeatureWritable f
accepted_writable files p h c k f there = table_writable (definitions h.trees) p (accepted_meant files p h) (definitions_writable h.trees (trees_writable 0 files h.trees h.are_trees)) c k f there
