-- The subtree at an index of a list of nodes is made of the node there and of the subtrees at the indices of its parts.
use Rattle.std.proofs.Common.{◌≡◌, ℕ, ◌+◌, ◌<◌, zero, suc, List, [], ◌∷◌, ◌++◌, Some, None, length, map, get_or, refl, sym, ◌∙◌, ap, subst, length-append, arith}
use Rattle.std.specs.List.{AllByRecursion, slice_get}
use Rattle.std.proofs.lemmas.List.{get_or_append_left, get_or_push, length_push}
use Rattle.std.proofs.lemmas.Option.{same_Some, slice_get_read}
use Rattle.cool_syntax.specs.declared.node.Node.{Node}
use Rattle.cool_syntax.specs.declared.node.Node.TheVariants as node
use Rattle.cool_syntax.specs.declared.node.NodeId.{NodeId}
use Rattle.cool_syntax.specs.declared.node.NodeBranch.{NodeBranch}
use Rattle.cool_syntax.specs.Tree.{Tree, With, tree_size, of_list, of_twigs}
use Rattle.cool_syntax.specs.Tree as trees
use Rattle.cool_syntax.specs.Bare.{nowhere}
use Rattle.cool_syntax.specs.NodeLists.{nodes, at_id, twig_at, made, grown, all_trees, tree_at, HasPartsBelow, Ordered}
use Rattle.cool_syntax.proofs.TreesOfLists.{length-nodes}
use Rattle.cool_syntax.proofs.PartsStandBefore.{ordered-nodes}

-- the trees that are there stay
pub grown-keeps : (ns : List Node) (ts : List Tree) (i : ℕ) (d : Tree) → i < length ts → get_or (grown ts ns) i d ≡ get_or ts i d
grown-keeps [] ts i d h = refl
grown-keeps (n ∷ ns) ts i d h =
    grown-keeps ns (ts ++ made ts n ∷ []) i d (omega (arith, length-append ts (made ts n ∷ []))) ∙ get_or_append_left ts (made ts n ∷ []) d i h

-- two lists of trees that agree below a number
abbrev Agree : ℕ → List Tree → List Tree → Type 0
Agree k ts us = (i : ℕ) → i < k → get_or ts i (trees.Int nowhere 0) ≡ get_or us i (trees.Int nowhere 0)

-- numbers below it name the same trees in both
ids_same : (ids : List NodeId) (k : ℕ) (ts us : List Tree) → AllByRecursion (λ c. c.0 < k) ids → Agree k ts us → map (at_id ts) ids ≡ map (at_id us) ids
ids_same [] k ts us h f = refl
ids_same (c ∷ cs) k ts us h f = λ i. f c.0 h.0 i ∷ ids_same cs k ts us h.1 f i

-- and so do branches whose bodies are below it
twigs_same : (bs : List NodeBranch) (k : ℕ) (ts us : List Tree) → AllByRecursion (λ b. b.body.0 < k) bs → Agree k ts us → map (twig_at ts) bs ≡ map (twig_at us) bs
twigs_same [] k ts us h f = refl
twigs_same (b ∷ bs) k ts us h f =
    λ i. record { at = b.at; name = b.name; declared = b.declared; body = f b.body.0 h.0 i } ∷ twigs_same bs k ts us h.1 f i

-- a node whose parts are below the number has one tree by both
made_same : (n : Node) (k : ℕ) (ts us : List Tree) → HasPartsBelow k n → Agree k ts us → made ts n ≡ made us n
made_same (node.Assign at name a) k ts us h f = λ i. trees.Assign at name (f a.0 h i)
made_same (node.Dispatch at a name ids) k ts us h f = λ i. trees.Dispatch at (f a.0 h.0 i) name (of_list (ids_same ids k ts us h.1 f i))
made_same (node.StaticDispatch at a class name ids) k ts us h f = λ i. trees.StaticDispatch at (f a.0 h.0 i) class name (of_list (ids_same ids k ts us h.1 f i))
made_same (node.If at a b c) k ts us h f = λ i. trees.If at (f a.0 h.0 i) (f b.0 h.1 i) (f c.0 h.2 i)
made_same (node.While at a b) k ts us h f = λ i. trees.While at (f a.0 h.0 i) (f b.0 h.1 i)
made_same (node.Block at ids) k ts us h f = λ i. trees.Block at (of_list (ids_same ids k ts us h f i))
made_same (node.Let at name declared None a) k ts us h f = λ i. trees.Let at name declared trees.Without (f a.0 h.1 i)
made_same (node.Let at name declared (Some s) a) k ts us h f = λ i. trees.Let at name declared (With (f s.0 h.0 i)) (f a.0 h.1 i)
made_same (node.Case at a bs) k ts us h f = λ i. trees.Case at (f a.0 h.0 i) (of_twigs (twigs_same bs k ts us h.1 f i))
made_same (node.New at class) k ts us h f = refl
made_same (node.IsVoid at a) k ts us h f = λ i. trees.IsVoid at (f a.0 h i)
made_same (node.Arith at op a b) k ts us h f = λ i. trees.Arith at op (f a.0 h.0 i) (f b.0 h.1 i)
made_same (node.Neg at a) k ts us h f = λ i. trees.Neg at (f a.0 h i)
made_same (node.Compare at op a b) k ts us h f = λ i. trees.Compare at op (f a.0 h.0 i) (f b.0 h.1 i)
made_same (node.Not at a) k ts us h f = λ i. trees.Not at (f a.0 h i)
made_same (node.Id at name) k ts us h f = refl
made_same (node.Int at value) k ts us h f = refl
made_same (node.Str at bytes) k ts us h f = refl
made_same (node.Bool at value) k ts us h f = refl

-- the tree at the number of a node
pub grown_at : (ns : List Node) (ts : List Tree) (i k : ℕ) (n : Node) → Ordered (length ts) ns → slice_get ns i ≡ Some n → k ≡ length ts + i → get_or (grown ts ns) k (trees.Int nowhere 0) ≡ made (grown ts ns) n
grown_at [] ts i k n o p e = absurd (cc)
grown_at (m ∷ ns) ts zero k n o p e =
    let kept : get_or (grown (ts ++ made ts m ∷ []) ns) k (trees.Int nowhere 0) ≡ get_or (ts ++ made ts m ∷ []) k (trees.Int nowhere 0) = grown-keeps ns (ts ++ made ts m ∷ []) k (trees.Int nowhere 0) (omega (arith, length-append ts (made ts m ∷ []))) in
    let last : get_or (ts ++ made ts m ∷ []) k (trees.Int nowhere 0) ≡ made ts m = get_or_push ts (made ts m) (trees.Int nowhere 0) k (omega arith) in
    let same : made ts m ≡ made (grown ts (m ∷ ns)) m = made_same m (length ts) ts (grown ts (m ∷ ns)) o.0 (λ j q. sym (grown-keeps (m ∷ ns) ts j (trees.Int nowhere 0) q)) in
    kept ∙ last ∙ same ∙ ap (made (grown ts (m ∷ ns))) (same_Some m n p)
grown_at (m ∷ ns) ts (suc i) k n o p e =
    grown_at ns (ts ++ made ts m ∷ []) i k n (subst (λ j. Ordered j ns) (sym (length_push ts (made ts m))) o.1) p (omega (arith, length-append ts (made ts m ∷ [])))

-- the parts of the node at a number are below it
pub parts_below : (ns : List Node) (k i j : ℕ) (n : Node) → Ordered k ns → slice_get ns i ≡ Some n → j ≡ k + i → HasPartsBelow j n
parts_below [] k i j n o p e = absurd (cc)
parts_below (m ∷ ns) k zero j n o p e =
    let q : k ≡ j = omega arith in
    subst (λ x. HasPartsBelow j x) (same_Some m n p) (subst (λ l. HasPartsBelow l m) q o.0)
parts_below (m ∷ ns) k (suc i) j n o p e = parts_below ns (k + 1) i j n o.1 p (omega arith)

-- the tree at a number of a list that begins with number 0
pub pool_tree : (ns : List Node) (id : NodeId) (n : Node) → Ordered 0 ns → slice_get ns id.0 ≡ Some n → at_id (grown [] ns) id ≡ made (grown [] ns) n
pool_tree ns id n o p = grown_at ns [] id.0 id.0 n o p (omega arith)

-- the parts of the node at that number
pub pool_parts : (ns : List Node) (id : NodeId) (n : Node) → Ordered 0 ns → slice_get ns id.0 ≡ Some n → HasPartsBelow id.0 n
pool_parts ns id n o p = parts_below ns 0 id.0 id.0 n o p (omega arith)

-- the tree at a number of the list of a tree
pub tree_at_node : (t : Tree) (id : NodeId) (n : Node) → slice_get (nodes 0 t) id.0 ≡ Some n → tree_at t id ≡ made (all_trees t) n
tree_at_node t id n p = pool_tree (nodes 0 t) id n (ordered-nodes t 0) p

-- the parts of the node at that number
pub parts_of_node : (t : Tree) (id : NodeId) (n : Node) → slice_get (nodes 0 t) id.0 ≡ Some n → HasPartsBelow id.0 n
parts_of_node t id n p = pool_parts (nodes 0 t) id n (ordered-nodes t 0) p

-- the node that is read from the list of a tree
pub read_node : (t : Tree) (ns : List Node) (id : NodeId) (n : Node) → nodes 0 t ≡ ns → id.0 < tree_size t → n ≡ get_or ns id.0 n → slice_get (nodes 0 t) id.0 ≡ Some n
read_node t ns id n p h e =
    ap (λ ms. slice_get ms id.0) p ∙ slice_get_read ns (length ns) id.0 n refl (omega (arith, length-nodes t 0, ap length p)) e
