-- A conditional whose test is a constant is folded to the branch that the test takes, if this branch has the type of the conditional.
use Rattle.std.proofs.Common.{◌≡◌, ℕ, ◌+◌, ◌<◌, ◌≤◌, ◌⊎◌, inl, inr, List, ◌++◌, length, take, Option, Some, None, Bool as Truth, true, false, Ok, Err, refl, sym, ap, ◌∙◌, subst, length-take, arith}
use Rattle.std.proofs.Math.Seq.{take-append_seam}
use Rattle.std.specs.Prelude.{OnOk, Result, if◌then◌else◌, slice_get, unwrap_or}
use Rattle.cool_syntax.specs.declared.node.NodeId.{NodeId}
use Rattle.cool_syntax.specs.declared.place.Place.{Place}
use Rattle.cool_syntax.specs.Tree.{Tree, tree_size}
use Rattle.cool_syntax.specs.Tree as trees
use Rattle.cool_syntax.specs.NodeLists.{nodes, root, tree_at}
use Rattle.cool_classes.specs.declared.class_id.Ty.{Ty}
use Rattle.cool_rules.specs.NodeTypes.{node_types}
use Rattle.cool_rules.specs.Rules.{same_type, join_in}
use Rattle.cool_rules.specs.Scopes.{Binding}
use Rattle.cool_rules.specs.TypedParts.{IsPart, TypedBody}
use Rattle.cool_fold.specs.declared.place.Found.{Found}
use Rattle.cool_fold.specs.declared.place.Placed.{Placed}
use Rattle.cool_fold.specs.declared.folding_setting.FoldingSetting.{FoldingSetting}
use Rattle.cool_rules.specs.StaticTypes.{type_of}
use Rattle.cool_fold.specs.Folding.{constant_in, truth_in}
use Rattle.cool_fold.specs.Shrinking.{shrunk, taken}
use Rattle.cool_fold.specs.FoldedNodes.{Folds, HasTypes}
use Rattle.lists.proofs.ItemsAt.{there_is}

-- the part taken is one of the parts
pub taken_is : (o : Option Truth) (v w whole : Ty) (yes_id no_id part : NodeId) → taken o v w whole yes_id no_id ≡ Some part
    → (part ≡ yes_id) ⊎ (part ≡ no_id)
taken_is None v w whole yes_id no_id part e = absurd cc
taken_is (Some true) v w whole yes_id no_id part e = by (same_type v whole) e
  where
    by : (x : Truth) → (if x then Some yes_id else None) ≡ Some part → (part ≡ yes_id) ⊎ (part ≡ no_id)
    by true e = inl cc
    by false e = absurd cc
taken_is (Some false) v w whole yes_id no_id part e = by (same_type w whole) e
  where
    by : (x : Truth) → (if x then Some no_id else None) ≡ Some part → (part ≡ yes_id) ⊎ (part ≡ no_id)
    by true e = inr cc
    by false e = absurd cc

-- it has a number below that of the conditional, and no more nodes, beside those of the predicate
pub part_within : (b : Tree) (at : Place) (e : Tree) (yes_id no_id k : NodeId) (n : ℕ) → (k ≡ yes_id) ⊎ (k ≡ no_id) → yes_id.0 < n → no_id.0 < n
    → (k.0 < n) × (tree_size (tree_at b k) + tree_size e ≤ tree_size (trees.If at e (tree_at b yes_id) (tree_at b no_id)))
part_within b at e yes_id no_id k n (inl is) first second =
    subst (λ (i : NodeId). (i.0 < n) × (tree_size (tree_at b i) + tree_size e ≤ tree_size (trees.If at e (tree_at b yes_id) (tree_at b no_id)))) (sym is)
    (first, omega arith)
part_within b at e yes_id no_id k n (inr is) first second =
    subst (λ (i : NodeId). (i.0 < n) × (tree_size (tree_at b i) + tree_size e ≤ tree_size (trees.If at e (tree_at b yes_id) (tree_at b no_id)))) (sym is)
    (second, omega arith)

-- the part taken is the one that the types at the numbers decide
pub taken_part_is : (types : List Ty) (o : Option Truth) (whole yes_id no_id part : NodeId) → whole.0 < length types → yes_id.0 < length types
    → no_id.0 < length types
    → ((v w u : Ty) → slice_get types yes_id.0 ≡ Some v → slice_get types no_id.0 ≡ Some w → slice_get types whole.0 ≡ Some u
    → Some part ≡ taken o v w u yes_id no_id)
    → (part ≡ yes_id) ⊎ (part ≡ no_id)
taken_part_is types o whole yes_id no_id part first second third taking =
    let (v, at_yes) = there_is types yes_id.0 second in
    let (w, at_no) = there_is types no_id.0 third in
    let (u, at_whole) = there_is types whole.0 first in
    taken_is o v w u yes_id no_id part (sym (taking v w u at_yes at_no at_whole))

-- items that are cut back to those before
pub cut_back : {A : Type 0} (before rest mid cut : List A) (start : ℕ) → mid ≡ before ++ rest → start ≡ length before → cut ≡ take start mid → cut ≡ before
cut_back before rest mid cut start e f g = g ∙ (λ i. take (f i) (e i)) ∙ take-append_seam before rest

pub cut_short : {A : Type 0} (mid : List A) (start : ℕ) → length (take start mid) ≤ start
cut_short mid start = omega (arith, length-take start mid)

pub cut_shorter : {A : Type 0} (mid : List A) (start : ℕ) → length (take start mid) ≤ length mid
cut_shorter mid start = omega (arith, length-take start mid)

-- the part taken stands where the parts do
pub taken_stands : (b : TypedBody) (scope : List Binding) (yes_id no_id k : NodeId) → (k ≡ yes_id) ⊎ (k ≡ no_id) → IsPart b scope yes_id
    → IsPart b scope no_id → IsPart b scope k
taken_stands b scope yes_id no_id k (inl is) first second = subst (IsPart b scope) (sym is) first
taken_stands b scope yes_id no_id k (inr is) first second = subst (IsPart b scope) (sym is) second

-- a bound on what was placed is one of any larger number
pub fewer : {A E : Type 0} (r : Result A E) (n k m : ℕ) → k ≤ m → OnOk r (n ≤ k) → OnOk r (n ≤ m)
fewer (Ok a) n k m more few = omega arith
fewer (Err e) n k m more few = tt

-- and no less room is left
pub left : {A E : Type 0} (r : Result A E) (n room held part after before start whole : ℕ) → held + before + part ≤ start + whole + room
    → OnOk r (n + room ≤ held + part + after) → OnOk r (n + before ≤ start + whole + after)
left (Ok a) n room held part after before start whole less there = omega arith
left (Err e) n room held part after before start whole less there = tt

module _ (s : FoldingSetting) (scope : List Binding) (before after : Placed) where
  -- a tree that is folded to the same, after the same nodes and types
  folds_as : {E : Type 0} (cut : Placed) (t u : Tree) (result : Result Found E) → cut.nodes.items ≡ before.nodes.items
      → (HasTypes before → cut.types.held ≡ before.types.held) → shrunk s.table.now s.class scope t ≡ shrunk s.table.now s.class scope u
      → Folds s scope t cut after result → Folds s scope u before after result
  folds_as cut t u (Ok f) kept types is h = record {
    constant = h.constant ∙ ap constant_in is;
    id = h.id ∙ (λ i. root (length (kept i)) (is i));
    placed = h.placed ∙ (λ i. kept i ++ nodes (length (kept i)) (is i));
    typed = λ even. h.typed (ap length (types even) ∙ even ∙ ap length (sym kept)) ∙ (λ i. types even i ++ node_types s.table.now s.class scope (is i));
  }
  folds_as cut t u (Err e) kept types is h = record { constant = tt; id = tt; placed = tt; typed = λ even. tt }

  abbrev part_type : Tree → NodeId → Ty
  part_type b i = type_of s.table.now s.class scope (tree_at b i)

  abbrev whole_type : Tree → NodeId → NodeId → Ty
  whole_type b yes_id no_id = join_in s.table.now s.class (part_type b yes_id) (part_type b no_id)

  abbrev part : Tree → NodeId → Tree
  part b i = shrunk s.table.now s.class scope (tree_at b i)

  abbrev stays : Tree → Place → Tree → NodeId → NodeId → Tree
  stays b at e yes_id no_id = trees.If at (shrunk s.table.now s.class scope e) (part b yes_id) (part b no_id)

  -- the part that is taken is what the whole is folded to
  yes_taken : (b : Tree) (at : Place) (e : Tree) (yes_id no_id k : NodeId) → truth_in (constant_in (shrunk s.table.now s.class scope e)) ≡ Some true
      → (x : Truth) → same_type (part_type b yes_id) (whole_type b yes_id no_id) ≡ x → (if x then Some yes_id else None) ≡ Some k
      → part b k ≡ shrunk s.table.now s.class scope (trees.If at e (tree_at b yes_id) (tree_at b no_id))
  yes_taken b at e yes_id no_id k is true same h =
      let it : k ≡ yes_id = cc in
      ap (λ (i : NodeId). part b i) it
      ∙ sym (ap (λ (o : Option Truth). unwrap_or (taken o (part_type b yes_id) (part_type b no_id) (whole_type b yes_id no_id) (part b yes_id)
      (part b no_id)) (stays b at e yes_id no_id)) is
      ∙ ap (λ (x : Truth). unwrap_or (if x then Some (part b yes_id) else None) (stays b at e yes_id no_id)) same)
  yes_taken b at e yes_id no_id k is false same h = absurd cc

  no_taken : (b : Tree) (at : Place) (e : Tree) (yes_id no_id k : NodeId) → truth_in (constant_in (shrunk s.table.now s.class scope e)) ≡ Some false
      → (x : Truth) → same_type (part_type b no_id) (whole_type b yes_id no_id) ≡ x → (if x then Some no_id else None) ≡ Some k
      → part b k ≡ shrunk s.table.now s.class scope (trees.If at e (tree_at b yes_id) (tree_at b no_id))
  no_taken b at e yes_id no_id k is true same h =
      let it : k ≡ no_id = cc in
      ap (λ (i : NodeId). part b i) it
      ∙ sym (ap (λ (o : Option Truth). unwrap_or (taken o (part_type b yes_id) (part_type b no_id) (whole_type b yes_id no_id) (part b yes_id)
      (part b no_id)) (stays b at e yes_id no_id)) is
      ∙ ap (λ (x : Truth). unwrap_or (if x then Some (part b no_id) else None) (stays b at e yes_id no_id)) same)
  no_taken b at e yes_id no_id k is false same h = absurd cc

  part_taken : (b : Tree) (at : Place) (e : Tree) (o : Option Truth) (yes_id no_id k : NodeId)
      → truth_in (constant_in (shrunk s.table.now s.class scope e)) ≡ o
      → taken o (part_type b yes_id) (part_type b no_id) (whole_type b yes_id no_id) yes_id no_id ≡ Some k
      → part b k ≡ shrunk s.table.now s.class scope (trees.If at e (tree_at b yes_id) (tree_at b no_id))
  part_taken b at e None yes_id no_id k is h = absurd cc
  part_taken b at e (Some true) yes_id no_id k is h = yes_taken b at e yes_id no_id k is (same_type (part_type b yes_id) (whole_type b yes_id no_id))
      refl h
  part_taken b at e (Some false) yes_id no_id k is h = no_taken b at e yes_id no_id k is (same_type (part_type b no_id) (whole_type b yes_id no_id))
      refl h

  pub taken_folds : {E : Type 0} (cut : Placed) (b : Tree) (at : Place) (e : Tree) (o : Option Truth) (yes_id no_id k : NodeId)
      (result : Result Found E) → cut.nodes.items ≡ before.nodes.items → (HasTypes before → cut.types.held ≡ before.types.held)
      → truth_in (constant_in (shrunk s.table.now s.class scope e)) ≡ o
      → taken o (part_type b yes_id) (part_type b no_id) (whole_type b yes_id no_id) yes_id no_id ≡ Some k
      → Folds s scope (tree_at b k) cut after result → Folds s scope (trees.If at e (tree_at b yes_id) (tree_at b no_id)) before after result
  taken_folds cut b at e o yes_id no_id k result kept types is h folds =
      folds_as cut (tree_at b k) (trees.If at e (tree_at b yes_id) (tree_at b no_id)) result kept types (part_taken b at e o yes_id no_id k is h) folds
