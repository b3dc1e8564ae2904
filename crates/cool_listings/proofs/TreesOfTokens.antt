-- If files have a class table, the tokens of each file are one syntax tree, the one that the parser returns.
use Rattle.std.proofs.Common.{◌≡◌, ℕ, ◌+◌, ◌<◌, List, [], ◌∷◌, ◌++◌, length, drop, map, take, get_or, ap, ◌∙◌, refl, subst, append_assoc, arith}
use Rattle.cool_syntax.specs.declared.file_tree.ClassDef.{ClassDef}
use Rattle.cool_syntax.specs.declared.file_tree.FileTree.{FileTree}
use Rattle.cool_syntax.specs.Grammar.{Parses}
use Rattle.cool_lexer.specs.declared.lexer.Lexed.{Lexed}
use Rattle.cool_classes.specs.Chains.{Class}
use Rattle.cool_classes.specs.Definitions.{AreDefinedBy, IsTableOf, definitions}
use Rattle.cool_classes.specs.Tables.{IsTable}
use Rattle.cool_faults.specs.declared.fault.Untyped.{Untyped}
use Rattle.cool_faults.specs.Phases.{AreFound, IsLexed, IsLexical, IsParsed, IsSyntactic}
use Rattle.cool_faults.specs.Untyped.{IsUntyped}
use Rattle.cool_faults.proofs.FindingsInARow.{AllFound, all_found}
use Rattle.cool_names.specs.Programs.{program_marks}
use Rattle.cool_names.specs.WrittenNames.{AreRead, names_in, spot_of}
use Rattle.cool_names.proofs.NamesMarked.{program_names}
use Rattle.cool_listings.specs.Ends.{AreTrees, tokens_of}
use Rattle.lists.proofs.ItemsLeft.{drop_one}

-- files that were parsed are trees
trees_of : (k : ℕ) (files : List Lexed) (trees : List FileTree) → AllFound IsParsed k files trees → AreTrees files trees
trees_of k [] [] h = tt
trees_of k [] (t ∷ ts) h = absurd h
trees_of k (l ∷ ls) [] h = absurd h
trees_of k (l ∷ ls) (t ∷ ts) h = (h.0.whole, trees_of (k + 1) ls ts h.1)

pub are_trees : (files : List Lexed) (trees : List FileTree) → AreFound IsParsed IsSyntactic 0 files trees [] → AreTrees files trees
are_trees files trees found = trees_of 0 files trees (all_found IsParsed IsSyntactic found refl)

-- and were read from their tokens
read_of : (k : ℕ) (texts : List (List ℕ)) (files : List Lexed) (trees : List FileTree) → AllFound IsLexed k texts files → AllFound IsParsed k files trees → AreRead k texts (tokens_of files) trees
read_of k [] [] [] h g = AreRead.none k
read_of k [] [] (t ∷ ts) h g = absurd g
read_of k [] (l ∷ ls) ts h g = absurd h
read_of k (bytes ∷ texts) [] ts h g = absurd h
read_of k (bytes ∷ texts) (l ∷ ls) [] h g = absurd g
read_of k (bytes ∷ texts) (l ∷ ls) (t ∷ ts) h g =
    AreRead.and_more k bytes texts l.tokens.items (tokens_of ls) t ts h.0.lexes g.0.whole (read_of (k + 1) texts ls ts h.1 g.1)

-- the marks stand at the names of the files
pub are_names : (texts : List (List ℕ)) (u : Untyped) (is : IsUntyped texts u) → map spot_of (program_marks u.classes (definitions is.trees)) ≡ names_in (tokens_of u.lexed.items)
are_names texts u is =
    program_names u.classes texts (tokens_of u.lexed.items) is.trees
    (read_of 0 texts u.lexed.items is.trees (all_found IsLexed IsLexical is.lexed refl) (all_found IsParsed IsSyntactic is.parsed refl))

-- there are as many classes as definitions, besides the basic ones
as_many : (p : List Class) (ds : List ClassDef) (cs : List Class) → AreDefinedBy p ds cs → length cs ≡ length ds
as_many p [] [] h = refl
as_many p [] (c ∷ cs) h = absurd h
as_many p (d ∷ ds) [] h = absurd h
as_many p (d ∷ ds) (c ∷ cs) h = omega (arith, as_many p ds cs h.1)

basic_first : (p : List Class) → length (take 5 p) ≡ 5 → length p ≡ length (drop 5 p) + 5
basic_first [] e = absurd (omega (arith, e))
basic_first (a ∷ []) e = absurd (omega (arith, e))
basic_first (a ∷ b ∷ []) e = absurd (omega (arith, e))
basic_first (a ∷ b ∷ c ∷ []) e = absurd (omega (arith, e))
basic_first (a ∷ b ∷ c ∷ d ∷ []) e = absurd (omega (arith, e))
basic_first (a ∷ b ∷ c ∷ d ∷ f ∷ p) e = omega arith

pub each_class : (p : List Class) (ds : List ClassDef) → IsTable p → IsTableOf ds p → length p ≡ length ds + 5
each_class p ds table of = basic_first p (ap length table.basic) ∙ ap (λ (n : ℕ). n + 5) (as_many p ds (drop 5 p) of)

-- The files that are left are trees whose definitions complete all.
abbrev pub GoOn : List Lexed → List ClassDef → List ClassDef → Type 0
GoOn files found all = (rest : List FileTree) × AreTrees files rest × (found ++ definitions rest ≡ all)

-- the tree of one more file was added
pub one_more : (files : List Lexed) (i : ℕ) (file : Lexed) (found more made all : List ClassDef) → i < length files → file ≡ get_or files i file → more ≡ found ++ made
    → ((classes : List ClassDef) → Parses file.tokens.items classes → made ≡ classes) → GoOn (drop i files) found all → GoOn (drop (i + 1) files) more all
one_more files i file found more made all within is pushed only (rest, are, e) =
    by rest (subst (λ (ls : List Lexed). AreTrees ls rest) (drop_one files i file within is) are) e
  where
    by : (rest : List FileTree) → AreTrees (file ∷ drop (i + 1) files) rest → found ++ definitions rest ≡ all → GoOn (drop (i + 1) files) more all
    by [] are e = absurd are
    by (t ∷ ts) are e =
        (ts, are.1, ap (λ (ds : List ClassDef). ds ++ definitions ts) pushed ∙ append_assoc found made (definitions ts) ∙ ap (λ (ds : List ClassDef). found ++ (ds ++ definitions ts)) (only t.classes are.0) ∙ e)
