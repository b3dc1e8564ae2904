-- No string constant in the code of an accepted program contains a zero byte, if the source files consist of bytes and their names have no zero byte.
use Rattle.std.proofs.Common.{ℕ, ◌+◌, List, [], ◌∷◌}
use Rattle.std.specs.List.{AllByRecursion}
use Rattle.cool_syntax.specs.declared.file_tree.FileTree.{FileTree}
use Rattle.cool_classes.specs.Chains.{Class}
use Rattle.cool_classes.specs.Definitions.{definitions}
use Rattle.cool_faults.specs.Verdicts.{AreTrees, IsAccepted}
use Rattle.cool_faults.proofs.AcceptedFiles.{accepted_meant}
use Rattle.cool_runtime.specs.Contents.{IsText}
use Rattle.cool_emit.specs.Programs.{program_constants, IsBuildable}
use Rattle.cool_simulation.specs.ByteStrings.{ClassesHaveBytes}
use Rattle.cool_simulation.proofs.theorem.BytesOfPrograms.{classes_bytes, definitions_bytes, texts_meant}
use Rattle.lists.specs.Bytes.{AreBytes}

-- the trees of files of bytes have bytes
pub trees_bytes : (file : ℕ) (files : List (List ℕ)) (trees : List FileTree) → AllByRecursion AreBytes files → AreTrees file files trees → AllByRecursion (λ (t : FileTree). ClassesHaveBytes t.classes) trees
trees_bytes file [] [] h are = tt
trees_bytes file [] (t ∷ ts) h are = absurd are
trees_bytes file (bytes ∷ files) [] h are = absurd are
trees_bytes file (bytes ∷ files) (t ∷ ts) h are = (classes_bytes file bytes are.0.tokens t.classes h.0 are.0.lexes are.0.parses, trees_bytes (file + 1) files ts h.1 are.1)

-- the premise on strings, for files that are accepted
pub accepted_texts : (files : List (List ℕ)) (p : List Class) (names : List (List ℕ)) → AllByRecursion AreBytes files → IsAccepted files p → IsBuildable p names → AllByRecursion IsText names
    → AllByRecursion IsText (program_constants p names).strings
accepted_texts files p names bytes h b named = texts_meant (definitions h.trees) p names (accepted_meant files p h) (definitions_bytes h.trees (trees_bytes 0 files h.trees bytes h.are_trees)) b named
