-- If the parts of a node are the roots of the last complete trees, appending the node joins these trees into one. This keeps the parser's invariant between two
-- tokens.
use Rattle.std.proofs.Common.{◌≡◌, ℕ, ◌+◌, ◌-◌, ◌<◌, ◌≤◌, List, [], ◌∷◌, ◌++◌, length, map, Some, None, refl, sym, subst, ◌∙◌, ap, append_assoc, append-nil, length-append, arith}
use Rattle.std.specs.List.{AllByRecursion}
use Rattle.cool_syntax.specs.declared.node.NodeId.{NodeId}
use Rattle.cool_syntax.specs.declared.node.NodeBranch.{NodeBranch}
use Rattle.cool_syntax.specs.declared.node.Node.{Node}
use Rattle.cool_syntax.specs.declared.node.Node.TheVariants as node
use Rattle.cool_syntax.specs.Tree.{Tree, Trees, Cases, Last, More, Without, With, NoCase, CaseOf, tree_size, trees_size, cases_size}
use Rattle.cool_syntax.specs.Tree as trees
use Rattle.cool_syntax.specs.NodeLists.{root, roots, branch_roots, nodes, nodes_of_all, nodes_of_cases, HasPartsBelow, IsPostorder}
use Rattle.cool_syntax.proofs.TreesOfLists.{length-nodes_of_all}
use Rattle.cool_parser.specs.Waiting.{option_parts, Holds}
use Rattle.cool_syntax.proofs.TreesHaveNodes.{one_le_size}

-- the parts of a node, in order
abbrev pub node_parts : Node → List NodeId
node_parts (node.Assign at name a) = a ∷ []
node_parts (node.Dispatch at a name ids) = a ∷ ids
node_parts (node.StaticDispatch at a class name ids) = a ∷ ids
node_parts (node.If at a b c) = a ∷ b ∷ c ∷ []
node_parts (node.While at a b) = a ∷ b ∷ []
node_parts (node.Block at ids) = ids
node_parts (node.Let at name declared o a) = option_parts o ++ a ∷ []
node_parts (node.Case at a bs) = a ∷ map (λ b. b.body) bs
node_parts (node.New at class) = []
node_parts (node.IsVoid at a) = a ∷ []
node_parts (node.Arith at op a b) = a ∷ b ∷ []
node_parts (node.Neg at a) = a ∷ []
node_parts (node.Compare at op a b) = a ∷ b ∷ []
node_parts (node.Not at a) = a ∷ []
node_parts (node.Id at name) = []
node_parts (node.Int at value) = []
node_parts (node.Str at bytes) = []
node_parts (node.Bool at value) = []

-- trees after trees
abbrev pub joined : Trees → Trees → Trees
joined Last us = us
joined (More t ts) us = More t (joined ts us)

nodes-joined : (ts us : Trees) (base : ℕ) → nodes_of_all base (joined ts us) ≡ nodes_of_all base ts ++ nodes_of_all (base + trees_size ts) us
nodes-joined Last us base = ap (λ n. nodes_of_all n us) (omega arith)
nodes-joined (More t ts) us base =
    ap (λ ns. nodes base t ++ ns) (nodes-joined ts us (base + tree_size t) ∙ ap (λ n. nodes_of_all (base + tree_size t) ts ++ nodes_of_all n us) (omega arith))
    ∙ sym (append_assoc (nodes base t) (nodes_of_all (base + tree_size t) ts) (nodes_of_all (base + (tree_size t + trees_size ts)) us))

roots-joined : (ts us : Trees) (base : ℕ) → roots base (joined ts us) ≡ roots base ts ++ roots (base + trees_size ts) us
roots-joined Last us base = ap (λ n. roots n us) (omega arith)
roots-joined (More t ts) us base =
    ap (λ ids. root base t ∷ ids) (roots-joined ts us (base + tree_size t) ∙ ap (λ n. roots (base + tree_size t) ts ++ roots n us) (omega arith))

-- trees whose roots are one list and then another
pub record IsCut (base : ℕ) (ts : Trees) (ids ps : List NodeId) : Type 0 where
  front : Trees
  back : Trees
  whole : ts ≡ joined front back
  first : ids ≡ roots base front
  rest : ps ≡ roots (base + trees_size front) back

cut : (ids ps : List NodeId) (base : ℕ) (ts : Trees) → ids ++ ps ≡ roots base ts → IsCut base ts ids ps
cut [] ps base ts e = record { front = Last; back = ts; whole = refl; first = refl; rest = e ∙ ap (λ n. roots n ts) (omega arith) }
cut (i ∷ ids) ps base Last e = absurd (cc)
cut (i ∷ ids) ps base (More t ts) e =
    let c = cut ids ps (base + tree_size t) ts (cc) in
    record { front = More t c.front; back = c.back; whole = ap (More t) c.whole; first = ap (λ is. i ∷ is) c.first ∙ ap (λ j. j ∷ roots (base + tree_size t) c.front) (head_of e); rest = c.rest ∙ ap (λ n. roots n c.back) (omega arith) }
  where
    head_of : {i j : NodeId} {is js : List NodeId} → i ∷ is ≡ j ∷ js → i ≡ j
    head_of e = cc

-- the branches of a case, by their bodies
record AreBranches (base : ℕ) (bs : List NodeBranch) (ts : Trees) : Type 0 where
  cases : Cases
  same : branch_roots base cases ≡ bs
  list : nodes_of_cases base cases ≡ nodes_of_all base ts
  size : cases_size cases ≡ trees_size ts

branches : (bs : List NodeBranch) (base : ℕ) (ts : Trees) → map (λ b. b.body) bs ≡ roots base ts → AreBranches base bs ts
branches [] base Last e = record { cases = NoCase; same = refl; list = refl; size = refl }
branches [] base (More t ts) e = absurd (cc)
branches (b ∷ bs) base Last e = absurd (cc)
branches (b ∷ bs) base (More t ts) e =
    let r = branches bs (base + tree_size t) ts (cc) in
    let h : root base t ≡ b.body = cc in
    record {
      cases = CaseOf b.at b.name b.declared t r.cases;
      same = λ k. record { at = b.at; name = b.name; declared = b.declared; body = h k } ∷ r.same k;
      list = ap (λ ns. nodes base t ++ ns) r.list;
      size = ap (λ n. tree_size t + n) r.size;
    }

-- a tree whose list is that of its parts and then this node
record IsMade (base : ℕ) (vs : Trees) (n : Node) : Type 0 where
  tree : Tree
  list : nodes base tree ≡ nodes_of_all base vs ++ n ∷ []
  size : tree_size tree ≡ trees_size vs + 1

-- a node with one part, with two parts
made_one : (n : Node) (a : NodeId) (base : ℕ) (vs : Trees) (f : Tree → Tree)
    → ((v : Tree) → root base v ≡ a → nodes base (f v) ≡ nodes base v ++ n ∷ []) → ((v : Tree) → tree_size (f v) ≡ tree_size v + 1)
    → a ∷ [] ≡ roots base vs → IsMade base vs n
made_one n a base Last f l s e = absurd (cc)
made_one n a base (More v Last) f l s e = record { tree = f v; list = l v (cc) ∙ ap (λ ns. ns ++ n ∷ []) (sym (append-nil (nodes base v))); size = s v ∙ omega arith }
made_one n a base (More v (More w ws)) f l s e = absurd (cc)

made_two : (n : Node) (a b : NodeId) (base : ℕ) (vs : Trees) (f : Tree → Tree → Tree)
    → ((v w : Tree) → root base v ≡ a → root (base + tree_size v) w ≡ b → nodes base (f v w) ≡ nodes base v ++ nodes (base + tree_size v) w ++ n ∷ [])
    → ((v w : Tree) → tree_size (f v w) ≡ tree_size v + tree_size w + 1)
    → a ∷ b ∷ [] ≡ roots base vs → IsMade base vs n
made_two n a b base Last f l s e = absurd (cc)
made_two n a b base (More v Last) f l s e = absurd (cc)
made_two n a b base (More v (More w Last)) f l s e = record { tree = f v w; list = l v w (cc) (cc) ∙ simp (append_assoc, append-nil); size = s v w ∙ omega arith }
made_two n a b base (More v (More w (More u us))) f l s e = absurd (cc)

-- a node without parts
made_none : (n : Node) (base : ℕ) (vs : Trees) (t : Tree) → nodes base t ≡ n ∷ [] → tree_size t ≡ 1 → [] ≡ roots base vs → IsMade base vs n
made_none n base Last t l s e = record { tree = t; list = l; size = s }
made_none n base (More v vs) t l s e = absurd (cc)

-- the tree of a node, of the trees of its parts
made : (n : Node) (base : ℕ) (vs : Trees) → node_parts n ≡ roots base vs → IsMade base vs n
made (node.Assign at name a) base vs e =
    made_one (node.Assign at name a) a base vs (trees.Assign at name) (λ v h. ap (λ j. nodes base v ++ node.Assign at name j ∷ []) h) (λ v. refl) e
made (node.Dispatch at a name ids) base Last e = absurd (cc)
made (node.Dispatch at a name ids) base (More v ws) e =
    let h : root base v ≡ a = cc in
    let t : roots (base + tree_size v) ws ≡ ids = cc in
    record {
      tree = trees.Dispatch at v name ws;
      list = (λ k. nodes base v ++ nodes_of_all (base + tree_size v) ws ++ node.Dispatch at (h k) name (t k) ∷ []) ∙ simp append_assoc;
      size = omega arith;
    }
made (node.StaticDispatch at a class name ids) base Last e = absurd (cc)
made (node.StaticDispatch at a class name ids) base (More v ws) e =
    let h : root base v ≡ a = cc in
    let t : roots (base + tree_size v) ws ≡ ids = cc in
    record {
      tree = trees.StaticDispatch at v class name ws;
      list = (λ k. nodes base v ++ nodes_of_all (base + tree_size v) ws ++ node.StaticDispatch at (h k) class name (t k) ∷ []) ∙ simp append_assoc;
      size = omega arith;
    }
made (node.If at a b c) base Last e = absurd (cc)
made (node.If at a b c) base (More u Last) e = absurd (cc)
made (node.If at a b c) base (More u (More v Last)) e = absurd (cc)
made (node.If at a b c) base (More u (More v (More w Last))) e =
    let f : root base u ≡ a = cc in
    let g : root (base + tree_size u) v ≡ b = cc in
    let h : root (base + tree_size u + tree_size v) w ≡ c = cc in
    record {
      tree = trees.If at u v w;
      list = (λ k. nodes base u ++ nodes (base + tree_size u) v ++ nodes (base + tree_size u + tree_size v) w ++ node.If at (f k) (g k) (h k) ∷ []) ∙ simp (append_assoc, append-nil);
      size = omega arith;
    }
made (node.If at a b c) base (More u (More v (More w (More x xs)))) e = absurd (cc)
made (node.While at a b) base vs e =
    made_two (node.While at a b) a b base vs (trees.While at) (λ v w f g. λ k. nodes base v ++ nodes (base + tree_size v) w ++ node.While at (f k) (g k) ∷ []) (λ v w. refl) e
made (node.Block at ids) base vs e =
    record { tree = trees.Block at vs; list = ap (λ is. nodes_of_all base vs ++ node.Block at is ∷ []) (sym e); size = refl }
made (node.Let at name declared None a) base vs e =
    made_one (node.Let at name declared None a) a base vs (trees.Let at name declared Without)
    (λ v h. (λ k. nodes (base + 0) v ++ node.Let at name declared None (root (base + 0) v) ∷ []) ∙ ap (λ n. nodes n v ++ node.Let at name declared None (root n v) ∷ []) (omega arith) ∙ ap (λ j. nodes base v ++ node.Let at name declared None j ∷ []) h)
    (λ v. omega arith) e
made (node.Let at name declared (Some i) a) base vs e =
    made_two (node.Let at name declared (Some i) a) i a base vs (λ v w. trees.Let at name declared (With v) w)
    (λ v w f g. λ k. nodes base v ++ nodes (base + tree_size v) w ++ node.Let at name declared (Some (f k)) (g k) ∷ []) (λ v w. refl) e
made (node.Case at a bs) base Last e = absurd (cc)
made (node.Case at a bs) base (More v ws) e =
    let h : root base v ≡ a = cc in
    let r = branches bs (base + tree_size v) ws (cc) in
    record {
      tree = trees.Case at v r.cases;
      list = (λ k. nodes base v ++ r.list k ++ node.Case at (h k) (r.same k) ∷ []) ∙ simp append_assoc;
      size = omega (arith, r.size);
    }
made (node.New at class) base vs e = made_none (node.New at class) base vs (trees.New at class) refl refl e
made (node.IsVoid at a) base vs e =
    made_one (node.IsVoid at a) a base vs (trees.IsVoid at) (λ v h. ap (λ j. nodes base v ++ node.IsVoid at j ∷ []) h) (λ v. refl) e
made (node.Arith at op a b) base vs e =
    made_two (node.Arith at op a b) a b base vs (trees.Arith at op) (λ v w f g. λ k. nodes base v ++ nodes (base + tree_size v) w ++ node.Arith at op (f k) (g k) ∷ []) (λ v w. refl) e
made (node.Neg at a) base vs e =
    made_one (node.Neg at a) a base vs (trees.Neg at) (λ v h. ap (λ j. nodes base v ++ node.Neg at j ∷ []) h) (λ v. refl) e
made (node.Compare at op a b) base vs e =
    made_two (node.Compare at op a b) a b base vs (trees.Compare at op) (λ v w f g. λ k. nodes base v ++ nodes (base + tree_size v) w ++ node.Compare at op (f k) (g k) ∷ []) (λ v w. refl) e
made (node.Not at a) base vs e =
    made_one (node.Not at a) a base vs (trees.Not at) (λ v h. ap (λ j. nodes base v ++ node.Not at j ∷ []) h) (λ v. refl) e
made (node.Id at name) base vs e = made_none (node.Id at name) base vs (trees.Id at name) refl refl e
made (node.Int at value) base vs e = made_none (node.Int at value) base vs (trees.Int at value) refl refl e
made (node.Str at bytes) base vs e = made_none (node.Str at bytes) base vs (trees.Str at bytes) refl refl e
made (node.Bool at value) base vs e = made_none (node.Bool at value) base vs (trees.Bool at value) refl refl e

-- the parts of the node are the last that wait; after it, its number waits in their place
pub placed : (ns : List Node) (ids : List NodeId) (n : Node) → Holds ns (ids ++ node_parts n) → Holds (ns ++ n ∷ []) (ids ++ record { 0 = length ns } ∷ [])
placed ns ids n (ts, list, whole) =
    let c = cut ids (node_parts n) 0 ts whole in
    let m = made n (0 + trees_size c.front) c.back c.rest in
    let size : length ns ≡ trees_size c.front + trees_size c.back = ap length (list ∙ ap (nodes_of_all 0) c.whole ∙ nodes-joined c.front c.back 0) ∙ simp (length-append, length-nodes_of_all c.front 0, length-nodes_of_all c.back (0 + trees_size c.front)) in (
      joined c.front (More m.tree Last),
      ap (λ ms. ms ++ n ∷ []) (list ∙ ap (nodes_of_all 0) c.whole ∙ nodes-joined c.front c.back 0)
          ∙ append_assoc (nodes_of_all 0 c.front) (nodes_of_all (0 + trees_size c.front) c.back) (n ∷ [])
          ∙ ap (λ ms. nodes_of_all 0 c.front ++ ms) (sym m.list ∙ sym (append-nil (nodes (0 + trees_size c.front) m.tree)))
          ∙ sym (nodes-joined c.front (More m.tree Last) 0),
      (λ k. c.first k ++ record { 0 = number c.front c.back m.tree ns size m.size k } ∷ []) ∙ sym (roots-joined c.front (More m.tree Last) 0),
    )
  where
    number : (us vs : Trees) (t : Tree) (ns : List Node) → length ns ≡ trees_size us + trees_size vs → tree_size t ≡ trees_size vs + 1 → length ns ≡ 0 + trees_size us + tree_size t - 1
    number us vs t ns e f = omega (arith, e, f)

-- each root of trees is a number of their lists
abbrev AreBelow : ℕ → List NodeId → Type 0
AreBelow k = AllByRecursion (λ c. c.0 < k)

roots_below : (ts : Trees) (base k : ℕ) → base + trees_size ts ≤ k → AreBelow k (roots base ts)
roots_below Last base k h = tt
roots_below (More t ts) base k h = (omega (arith, h, one_le_size t), roots_below ts (base + tree_size t) k (omega (arith, h)))

after : (ids ps : List NodeId) (k : ℕ) → AreBelow k (ids ++ ps) → AreBelow k ps
after [] ps k h = h
after (i ∷ ids) ps k h = after ids ps k h.1

bodies_below : (bs : List NodeBranch) (k : ℕ) → AreBelow k (map (λ b. b.body) bs) → AllByRecursion (λ b. b.body.0 < k) bs
bodies_below [] k h = tt
bodies_below (b ∷ bs) k h = (h.0, bodies_below bs k h.1)

node_below : (n : Node) (k : ℕ) → AreBelow k (node_parts n) → HasPartsBelow k n
node_below (node.Assign at name a) k h = h.0
node_below (node.Dispatch at a name ids) k h = h
node_below (node.StaticDispatch at a class name ids) k h = h
node_below (node.If at a b c) k h = (h.0, h.1.0, h.1.1.0)
node_below (node.While at a b) k h = (h.0, h.1.0)
node_below (node.Block at ids) k h = h
node_below (node.Let at name declared None a) k h = (tt, h.0)
node_below (node.Let at name declared (Some i) a) k h = (h.0, h.1.0)
node_below (node.Case at a bs) k h = (h.0, bodies_below bs k h.1)
node_below (node.IsVoid at a) k h = h.0
node_below (node.Arith at op a b) k h = (h.0, h.1.0)
node_below (node.Neg at a) k h = h.0
node_below (node.Compare at op a b) k h = (h.0, h.1.0)
node_below (node.Not at a) k h = h.0
node_below _ k h = tt

-- the parts of such a node stand before it
pub parts_below : (ns : List Node) (ids : List NodeId) (n : Node) → Holds ns (ids ++ node_parts n) → HasPartsBelow (length ns) n
parts_below ns ids n (ts, list, whole) =
    node_below n (length ns)
    (after ids (node_parts n) (length ns)
    (subst (AreBelow (length ns)) (sym whole) (roots_below ts 0 (length ns) (omega (arith, ap length list ∙ length-nodes_of_all ts 0)))))

-- if one root waits and no other, the nodes are the list of its tree
pub postorder : (ns : List Node) (t : NodeId) → Holds ns (t ∷ []) → IsPostorder ns
postorder ns t (Last, list, whole) = absurd (cc)
postorder ns t (More u Last, list, whole) = (u, list ∙ append-nil (nodes 0 u))
postorder ns t (More u (More v vs), list, whole) = absurd (cc)
