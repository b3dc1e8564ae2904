-- If each node of a list keeps the lexer's limits on names, strings and source locations, so does the tree that the list represents.
use Rattle.std.proofs.Common.{ℕ, ◌-◌, ◌<◌, zero, suc, List, [], ◌∷◌, ◌++◌, map, length, get_or, Option, Some, None, arith}
use Rattle.std.specs.List.{AllByRecursion}
use Rattle.std.specs.Option.{option_map}
use Rattle.std.proofs.ByRecursion.{All-append}
use Rattle.cool_syntax.specs.declared.token.TokenKind.TheVariants as kind
use Rattle.cool_syntax.specs.declared.node.Node.{Node}
use Rattle.cool_syntax.specs.declared.node.Node.TheVariants as node
use Rattle.cool_syntax.specs.declared.node.NodeId.{NodeId}
use Rattle.cool_syntax.specs.declared.node.NodeBranch.{NodeBranch}
use Rattle.cool_syntax.specs.Tree.{Tree, of_list, of_option, of_twigs}
use Rattle.cool_syntax.specs.Tree as trees
use Rattle.cool_syntax.specs.Bare.{nowhere}
use Rattle.cool_syntax.specs.NodeLists.{at_id, twig_at, made, grown, tree_of}
use Rattle.cool_syntax.specs.TokenFacts.{IsWithinLimits, IsPlaced}
use Rattle.cool_syntax.specs.TreesWithinLimits.{IsObjectName, IsTypeWithin, IsTreeWithin, AreTreesWithin, IsMaybeWithin, AreCasesWithin}

abbrev pub IsBranchWithin : ℕ → NodeBranch → Type 0
IsBranchWithin files b = IsPlaced files b.at × IsObjectName b.name × IsTypeWithin files b.declared

-- the place, the names and the constant only of the node itself, without those of its parts
abbrev pub IsNodeWithin : ℕ → Node → Type 0
IsNodeWithin files (node.Assign at name a) = IsPlaced files at × IsObjectName name
IsNodeWithin files (node.Dispatch at a name ids) = IsPlaced files at × IsObjectName name
IsNodeWithin files (node.StaticDispatch at a class name ids) = IsPlaced files at × IsTypeWithin files class × IsObjectName name
IsNodeWithin files (node.If at a b c) = IsPlaced files at
IsNodeWithin files (node.While at a b) = IsPlaced files at
IsNodeWithin files (node.Block at ids) = IsPlaced files at
IsNodeWithin files (node.Let at name declared o a) = IsPlaced files at × IsObjectName name × IsTypeWithin files declared
IsNodeWithin files (node.Case at a bs) = IsPlaced files at × AllByRecursion (IsBranchWithin files) bs
IsNodeWithin files (node.New at class) = IsPlaced files at × IsTypeWithin files class
IsNodeWithin files (node.IsVoid at a) = IsPlaced files at
IsNodeWithin files (node.Arith at op a b) = IsPlaced files at
IsNodeWithin files (node.Neg at a) = IsPlaced files at
IsNodeWithin files (node.Compare at op a b) = IsPlaced files at
IsNodeWithin files (node.Not at a) = IsPlaced files at
IsNodeWithin files (node.Id at name) = IsPlaced files at × IsObjectName name
IsNodeWithin files (node.Int at value) = IsPlaced files at × IsWithinLimits (kind.Int value)
IsNodeWithin files (node.Str at bytes) = IsPlaced files at × IsWithinLimits (kind.Str bytes)
IsNodeWithin files (node.Bool at value) = IsPlaced files at

abbrev AreWithin : ℕ → List Tree → Type 0
AreWithin files = AllByRecursion (IsTreeWithin files)

-- the tree at a number keeps the limits, and past the end the constant 0 does
found : (files : ℕ) (ts : List Tree) (k : ℕ) → 0 < files → AreWithin files ts → IsTreeWithin files (get_or ts k (trees.Int nowhere 0))
found files [] zero m h = ((m, omega arith), omega arith)
found files [] (suc k) m h = ((m, omega arith), omega arith)
found files (t ∷ ts) zero m h = h.0
found files (t ∷ ts) (suc k) m h = found files ts k m h.1

-- so do the trees at some numbers
all_found : (files : ℕ) (ts : List Tree) (ids : List NodeId) → 0 < files → AreWithin files ts → AreTreesWithin files (of_list (map (at_id ts) ids))
all_found files ts [] m h = tt
all_found files ts (i ∷ ids) m h = (found files ts i.0 m h, all_found files ts ids m h)

-- so does the tree at a number that is there
maybe_found : (files : ℕ) (ts : List Tree) (o : Option NodeId) → 0 < files → AreWithin files ts → IsMaybeWithin files (of_option (option_map (at_id ts) o))
maybe_found files ts None m h = tt
maybe_found files ts (Some i) m h = found files ts i.0 m h

-- so do the trees of branches, whose names and places keep them
cases_found : (files : ℕ) (ts : List Tree) (bs : List NodeBranch) → 0 < files → AreWithin files ts → AllByRecursion (IsBranchWithin files) bs → AreCasesWithin files (of_twigs (map (twig_at ts) bs))
cases_found files ts [] m h w = tt
cases_found files ts (b ∷ bs) m h w = (w.0.0, w.0.1, w.0.2, found files ts b.body.0 m h, cases_found files ts bs m h w.1)

-- so does the tree of a node that keeps them
made_within : (files : ℕ) (ts : List Tree) (n : Node) → 0 < files → AreWithin files ts → IsNodeWithin files n → IsTreeWithin files (made ts n)
made_within files ts (node.Assign at name a) m h w = (w.0, w.1, found files ts a.0 m h)
made_within files ts (node.Dispatch at a name ids) m h w = (w.0, found files ts a.0 m h, w.1, all_found files ts ids m h)
made_within files ts (node.StaticDispatch at a class name ids) m h w = (w.0, found files ts a.0 m h, w.1, w.2, all_found files ts ids m h)
made_within files ts (node.If at a b c) m h w = (w, found files ts a.0 m h, found files ts b.0 m h, found files ts c.0 m h)
made_within files ts (node.While at a b) m h w = (w, found files ts a.0 m h, found files ts b.0 m h)
made_within files ts (node.Block at ids) m h w = (w, all_found files ts ids m h)
made_within files ts (node.Let at name declared o a) m h w = (w.0, w.1, w.2, maybe_found files ts o m h, found files ts a.0 m h)
made_within files ts (node.Case at a bs) m h w = (w.0, found files ts a.0 m h, cases_found files ts bs m h w.1)
made_within files ts (node.IsVoid at a) m h w = (w, found files ts a.0 m h)
made_within files ts (node.Arith at op a b) m h w = (w, found files ts a.0 m h, found files ts b.0 m h)
made_within files ts (node.Neg at a) m h w = (w, found files ts a.0 m h)
made_within files ts (node.Compare at op a b) m h w = (w, found files ts a.0 m h, found files ts b.0 m h)
made_within files ts (node.Not at a) m h w = (w, found files ts a.0 m h)
made_within files ts (node.Int at value) m h w = (w.0, let small = w.1 in omega arith)
made_within files ts _ m h w = w

-- so do the trees of all nodes
grown_within : (files : ℕ) (ns : List Node) (ts : List Tree) → 0 < files → AreWithin files ts → AllByRecursion (IsNodeWithin files) ns → AreWithin files (grown ts ns)
grown_within files [] ts m h w = h
grown_within files (n ∷ ns) ts m h w =
    grown_within files ns (ts ++ made ts n ∷ []) m (All-append (IsTreeWithin files) ts (made ts n ∷ []) h (made_within files ts n m h w.0, tt)) w.1

-- it needs no more of the list: a number past the nodes is that of the constant 0, in the first file
pub tree_within : (files : ℕ) (ns : List Node) → 0 < files → AllByRecursion (IsNodeWithin files) ns → IsTreeWithin files (tree_of ns)
tree_within files ns m w = found files (grown [] ns) (length ns - 1) m (grown_within files ns [] m tt w)
