-- If a node is appended after the nodes of its folded parts, or a constant replaces these nodes, the result is the nodes of the folded expression.
use Rattle.std.proofs.Common.{◌≡◌, ℕ, ℤ, ◌+◌, List, [], ◌∷◌, ◌++◌, length, take, Option, Some, None, Bool as Truth, true, Ok, Err, refl, sym, ap, ◌∙◌, append_assoc, length-append, arith}
use Rattle.std.proofs.Math.Seq.{take-append_seam}
use Rattle.std.specs.Prelude.{Result, IfOk, OnOk}
use Rattle.cool_syntax.specs.declared.node.Node.{Node}
use Rattle.cool_syntax.specs.declared.place.Place.{Place}
use Rattle.cool_syntax.specs.Tree.{Tree}
use Rattle.cool_syntax.specs.NodeLists.{nodes}
use Rattle.cool_classes.specs.declared.class_id.ClassId.{ClassId}
use Rattle.cool_classes.specs.declared.class_id.Ty.{Ty}
use Rattle.cool_classes.specs.Chains.{Class}
use Rattle.cool_rules.specs.NodeTypes.{node_types, part_types}
use Rattle.cool_rules.specs.Scopes.{AreTypes, Binding}
use Rattle.cool_rules.specs.Typing.{bool_type, int_type}
use Rattle.cool_meaning.specs.Numbers.{fits}
use Rattle.cool_meaning.specs.Values.{Int}
use Rattle.cool_fold.specs.declared.constant.Constant.{Constant}
use Rattle.cool_fold.specs.declared.place.Found.{Found}
use Rattle.cool_fold.specs.declared.place.Placed.{Placed}
use Rattle.cool_fold.specs.declared.folding_setting.FoldingSetting.{FoldingSetting}
use Rattle.cool_rules.specs.StaticTypes.{type_of}
use Rattle.cool_fold.specs.Folding.{constant_in, number_or}
use Rattle.cool_fold.specs.FoldingSettings.{IsSound}
use Rattle.cool_fold.specs.Shrinking.{shrunk, truth_or}
use Rattle.cool_fold.specs.FoldedNodes.{value_of, number_constant, truth_constant, with_number, with_truth, with_type, Folds, HasTypes}
use Rattle.cool_fold.proofs.NodesPlaced.{number_placed, truth_placed, last_is_root}
use Rattle.cool_fold.proofs.Rows.{read_back}
use Rattle.cool_fold.proofs.ShrunkTypes.{shrunk_type}

number_value : (at : Place) (whole : Tree) (o : Option ℤ) → constant_in whole ≡ None → ((v : ℤ) → o ≡ Some v → fits v ≡ true)
    → value_of (number_constant o) ≡ constant_in (number_or whole at o)
number_value at whole None none fit = sym none
number_value at whole (Some v) none fit = ap (λ (n : ℤ). Some (Int n)) (sym (read_back v (fit v refl)))

truth_value : (at : Place) (whole : Tree) (o : Option Truth) → constant_in whole ≡ None
    → value_of (truth_constant o) ≡ constant_in (truth_or whole at o)
truth_value at whole None none = sym none
truth_value at whole (Some b) none = refl

one_more : (mid after : List Node) (n : Node) (k : ℕ) → after ≡ mid ++ n ∷ [] → k ≡ length mid → k + 1 ≡ length after
one_more mid after n k placed last = omega (arith, ap length placed, length-append mid (n ∷ []), last)

-- the types with that of a node, or with that of a constant in place of it
module _ (p : List Class) (c : ClassId) (scope : List Binding) (before : List Ty) (k : ℕ) (long : length before ≡ k) (whole : Tree) (at : Place) where
  cut_types : {A : Type 0} (type : Ty) (v : A) → with_type (before ++ part_types p c scope whole) k type (Some v) ≡ before ++ type ∷ []
  cut_types type v =
      ap (λ (j : ℕ). take j (before ++ part_types p c scope whole) ++ type ∷ []) (sym long)
      ∙ ap (λ (types : List Ty). types ++ type ∷ []) (take-append_seam before (part_types p c scope whole))

  kept_types : (A : Type 0) (type : Ty) → type_of p c scope whole ≡ type
      → with_type {A = A} (before ++ part_types p c scope whole) k type None ≡ before ++ node_types p c scope whole
  kept_types A type is =
      append_assoc before (part_types p c scope whole) (type ∷ [])
      ∙ ap (λ (ty : Ty). before ++ (part_types p c scope whole ++ ty ∷ [])) (sym is)

  number_types : (o : Option ℤ) → type_of p c scope whole ≡ int_type
      → with_type (before ++ part_types p c scope whole) k int_type o ≡ before ++ node_types p c scope (number_or whole at o)
  number_types None is = kept_types ℤ int_type is
  number_types (Some v) is = cut_types int_type v

  truth_types : (o : Option Truth) → type_of p c scope whole ≡ bool_type
      → with_type (before ++ part_types p c scope whole) k bool_type o ≡ before ++ node_types p c scope (truth_or whole at o)
  truth_types None is = kept_types Truth bool_type is
  truth_types (Some v) is = cut_types bool_type v

module _ (s : FoldingSetting) (scope : List Binding) (t : Tree) (before after : Placed) where
  -- the nodes placed are those of the folded tree
  answered : {E : Type 0} (f : Found) → value_of f.constant ≡ constant_in (shrunk s.table.now s.class scope t)
      → after.nodes.items ≡ before.nodes.items ++ nodes (length before.nodes.items) (shrunk s.table.now s.class scope t)
      → (HasTypes before → after.types.held ≡ before.types.held ++ node_types s.table.now s.class scope (shrunk s.table.now s.class scope t))
      → f.id.0 + 1 ≡ length after.nodes.items → Folds {E = E} s scope t before after (Ok f)
  answered f constant placed typed last = record {
    constant = constant;
    id = last_is_root before.nodes.items after.nodes.items (shrunk s.table.now s.class scope t) f.id placed last;
    placed = placed;
    typed = typed;
  }

  pub failed : {E : Type 0} (e : E) → Folds s scope t before after (Err e)
  failed e = record { constant = tt; id = tt; placed = tt; typed = λ even. tt }

  -- a node that stays, of the type that the tree has
  pub stays_folds : {E : Type 0} (sound : IsSound s) → AreTypes s.table.now scope → (type : Ty) → type ≡ type_of s.table.now s.class scope t
      → (whole : Tree) (o : Option Constant) → shrunk s.table.now s.class scope t ≡ whole → value_of o ≡ constant_in whole
      → (mid : Placed) (n : Node) (result : Result Found E)
      → mid.nodes.items ++ n ∷ [] ≡ before.nodes.items ++ nodes (length before.nodes.items) whole
      → (HasTypes before → mid.types.held ≡ before.types.held ++ part_types s.table.now s.class scope whole)
      → OnOk result (after.nodes.items ≡ mid.nodes.items ++ n ∷ []) → OnOk result (after.types.held ≡ mid.types.held ++ type ∷ [])
      → IfOk result (λ f. f.constant ≡ o) → IfOk result (λ f. f.id.0 ≡ length mid.nodes.items)
      → Folds s scope t before after result
  stays_folds sound types type is_type whole o is value mid n (Ok f) whole_is parts placed typed constant last =
      let p = s.table.now in
      let c = s.class in
      let same : type ≡ type_of p c scope whole = is_type ∙ sym (shrunk_type p sound.table c sound.class t scope types) ∙ ap (type_of p c scope) is in
      answered f (ap value_of constant ∙ value ∙ ap constant_in (sym is))
      (placed ∙ whole_is ∙ ap (λ (x : Tree). before.nodes.items ++ nodes (length before.nodes.items) x) (sym is))
      (λ even. typed ∙ (λ i. parts even i ++ same i ∷ [])
      ∙ append_assoc before.types.held (part_types p c scope whole) (type_of p c scope whole ∷ [])
      ∙ ap (λ (x : Tree). before.types.held ++ node_types p c scope x) (sym is))
      (one_more mid.nodes.items after.nodes.items n f.id.0 placed last)
  stays_folds sound types type is_type whole o is value mid n (Err e) whole_is parts placed typed constant last = failed e

  -- a number in place of an Int
  pub number_folds : {E : Type 0} (whole : Tree) (at : Place) (o : Option ℤ) (mid : Placed) (rest : List Node) (n : Node) (result : Result Found E)
      → type_of s.table.now s.class scope whole ≡ int_type → shrunk s.table.now s.class scope t ≡ number_or whole at o
      → constant_in whole ≡ None → ((v : ℤ) → o ≡ Some v → fits v ≡ true)
      → mid.nodes.items ≡ before.nodes.items ++ rest → nodes (length before.nodes.items) whole ≡ rest ++ n ∷ []
      → (HasTypes before → mid.types.held ≡ before.types.held ++ part_types s.table.now s.class scope whole)
      → OnOk result (after.nodes.items ≡ with_number mid.nodes.items (length before.nodes.items) n at o)
      → OnOk result (after.types.held ≡ with_type mid.types.held (length before.nodes.items) int_type o)
      → IfOk result (λ f. f.constant ≡ number_constant o)
      → IfOk result (λ f. f.id.0 + 1 ≡ length after.nodes.items) → Folds s scope t before after result
  number_folds whole at o mid rest n (Ok f) type is none fit mid_is nodes_are parts placed typed constant last =
      let k = length before.nodes.items in
      answered f (ap value_of constant ∙ number_value at whole o none fit ∙ ap constant_in (sym is))
      (placed ∙ ap (λ (m : List Node). with_number m k n at o) mid_is ∙ number_placed before.nodes.items rest n whole at o nodes_are
      ∙ ap (λ (x : Tree). before.nodes.items ++ nodes k x) (sym is))
      (λ even. typed ∙ ap (λ (types : List Ty). with_type types k int_type o) (parts even)
      ∙ number_types s.table.now s.class scope before.types.held k even whole at o type
      ∙ ap (λ (x : Tree). before.types.held ++ node_types s.table.now s.class scope x) (sym is)) last
  number_folds whole at o mid rest n (Err e) type is none fit mid_is nodes_are parts placed typed constant last = failed e

  -- a truth in place of a Bool
  pub truth_folds : {E : Type 0} (whole : Tree) (at : Place) (o : Option Truth) (mid : Placed) (rest : List Node) (n : Node) (result : Result Found E)
      → type_of s.table.now s.class scope whole ≡ bool_type → shrunk s.table.now s.class scope t ≡ truth_or whole at o
      → constant_in whole ≡ None → mid.nodes.items ≡ before.nodes.items ++ rest → nodes (length before.nodes.items) whole ≡ rest ++ n ∷ []
      → (HasTypes before → mid.types.held ≡ before.types.held ++ part_types s.table.now s.class scope whole)
      → OnOk result (after.nodes.items ≡ with_truth mid.nodes.items (length before.nodes.items) n at o)
      → OnOk result (after.types.held ≡ with_type mid.types.held (length before.nodes.items) bool_type o)
      → IfOk result (λ f. f.constant ≡ truth_constant o)
      → IfOk result (λ f. f.id.0 + 1 ≡ length after.nodes.items) → Folds s scope t before after result
  truth_folds whole at o mid rest n (Ok f) type is none mid_is nodes_are parts placed typed constant last =
      let k = length before.nodes.items in
      answered f (ap value_of constant ∙ truth_value at whole o none ∙ ap constant_in (sym is))
      (placed ∙ ap (λ (m : List Node). with_truth m k n at o) mid_is ∙ truth_placed before.nodes.items rest n whole at o nodes_are
      ∙ ap (λ (x : Tree). before.nodes.items ++ nodes k x) (sym is))
      (λ even. typed ∙ ap (λ (types : List Ty). with_type types k bool_type o) (parts even)
      ∙ truth_types s.table.now s.class scope before.types.held k even whole at o type
      ∙ ap (λ (x : Tree). before.types.held ++ node_types s.table.now s.class scope x) (sym is)) last
  truth_folds whole at o mid rest n (Err e) type is none mid_is nodes_are parts placed typed constant last = failed e
