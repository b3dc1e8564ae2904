-- Files have given syntax trees exactly if the tokens of each file parse as its tree.
use Rattle.std.proofs.Common.{◌≡◌, ℕ, ◌+◌, List, [], ◌∷◌, subst}
use Rattle.cool_syntax.specs.declared.token.Token.{Token}
use Rattle.cool_syntax.specs.declared.file_tree.FileTree.{FileTree}
use Rattle.cool_syntax.specs.Grammar.{Parses}
use Rattle.cool_lexer.specs.declared.lexer.Lexed.{Lexed}
use Rattle.cool_lexer.proofs.OneReading.{one_cutting}
use Rattle.cool_faults.specs.Phases.{IsLexed}
use Rattle.cool_faults.specs.Verdicts.{AreTrees}
use Rattle.cool_faults.proofs.FindingsInARow.{AllFound}

-- the tokens of the file of this number are this tree
pub record IsTreeOf (file : ℕ) (lexed : Lexed) (tree : FileTree) : Type 0 where
  pub number : tree.file ≡ file
  pub whole : Parses lexed.tokens.items tree.classes

-- the tokens of files, of which the first has this number, are these trees
abbrev pub AreTreesOf : ℕ → List Lexed → List FileTree → Type 0
AreTreesOf file [] [] = Unit {0}
AreTreesOf file [] (tree ∷ trees) = ⊥
AreTreesOf file (lexed ∷ ls) [] = ⊥
AreTreesOf file (lexed ∷ ls) (tree ∷ trees) = IsTreeOf file lexed tree × AreTreesOf (file + 1) ls trees

-- they are the trees of the files
pub trees_found : (file : ℕ) (files : List (List ℕ)) (ls : List Lexed) (ts : List FileTree) → AllFound IsLexed file files ls
    → AreTreesOf file ls ts → AreTrees file files ts
trees_found file [] [] [] h g = tt
trees_found file [] [] (t ∷ ts) h g = absurd g
trees_found file [] (l ∷ ls) ts h g = absurd h
trees_found file (bytes ∷ files) [] ts h g = absurd h
trees_found file (bytes ∷ files) (l ∷ ls) [] h g = absurd g
trees_found file (bytes ∷ files) (l ∷ ls) (t ∷ ts) (h, hs) (g, gs) = (
  record { number = g.number; tokens = l.tokens.items; lexes = h.lexes; parses = g.whole },
  trees_found (file + 1) files ls ts hs gs,
)

-- and the trees of the files are those of the tokens
pub trees_lexed : (file : ℕ) (files : List (List ℕ)) (ls : List Lexed) (ts : List FileTree) → AllFound IsLexed file files ls
    → AreTrees file files ts → AreTreesOf file ls ts
trees_lexed file [] [] [] h g = tt
trees_lexed file [] [] (t ∷ ts) h g = absurd g
trees_lexed file [] (l ∷ ls) ts h g = absurd h
trees_lexed file (bytes ∷ files) [] ts h g = absurd h
trees_lexed file (bytes ∷ files) (l ∷ ls) [] h g = absurd g
trees_lexed file (bytes ∷ files) (l ∷ ls) (t ∷ ts) (h, hs) (g, gs) =
    let same : g.tokens ≡ l.tokens.items = one_cutting file bytes g.tokens l.tokens.items g.lexes h.lexes in (
      record { number = g.number; whole = subst (λ (us : List Token). Parses us t.classes) same g.parses },
      trees_lexed (file + 1) files ls ts hs gs,
    )
