-- The list of the types of the nodes of an expression, of a `let` or of a `case` branch is built by appending those of each part, computed in the scope of this
-- part.
use Rattle.std.proofs.Common.{◌≡◌, ℕ, List, [], ◌∷◌, ◌++◌, ap, sym, ◌∙◌, append_assoc}
use Rattle.std.specs.Prelude.{Result, Ok, Err, OnOk}
use Rattle.cool_syntax.specs.declared.place.Place.{Place}
use Rattle.cool_syntax.specs.declared.type_ref.TypeRef.{TypeRef}
use Rattle.cool_syntax.specs.Tree.{Tree, MaybeTree, Cases, CaseOf}
use Rattle.cool_syntax.specs.Tree as trees
use Rattle.cool_classes.specs.declared.class_id.ClassId.{ClassId}
use Rattle.cool_classes.specs.declared.class_id.Ty.{Ty}
use Rattle.cool_classes.specs.Chains.{Class}
use Rattle.cool_rules.specs.NodeTypes.{node_types, part_types, types_of_maybe, types_of_cases}
use Rattle.cool_rules.specs.Rules.{type_meant}
use Rattle.cool_rules.specs.Scopes.{Binding}
use Rattle.cool_rules.specs.StaticTypes.{type_of}
use Rattle.cool_check.specs.FirstFaults.{bind}

-- a consequence, if there is a value
pub on_ok : {T E P Q : Type 0} (r : Result T E) → (P → Q) → OnOk r P → OnOk r Q
on_ok (Ok a) f h = f h
on_ok (Err e) f h = tt

module _ (p : List Class) (c : ClassId) where
  -- the type of an expression is added after those of its parts
  pub own_added : (scope : List Binding) (e : Tree) (before parts all : List Ty) (found : Ty) → parts ≡ before ++ part_types p c scope e → all ≡ parts ++ found ∷ [] → type_of p c scope e ≡ found
      → all ≡ before ++ node_types p c scope e
  own_added scope e before parts all found is added same =
      added
      ∙ ap (λ (ts : List Ty). ts ++ found ∷ []) is
      ∙ append_assoc before (part_types p c scope e) (found ∷ [])
      ∙ sym (ap (λ (t : Ty). before ++ (part_types p c scope e ++ t ∷ [])) same)

  module _ (attributes : List Binding) where
    -- the types of the body of a `let`, with its variable in scope, after those of the initial value
    pub let_added : (locals inner : List Binding) (at : Place) (name : List ℕ) (declared : TypeRef) (o : MaybeTree) (e : Tree) (bound : Ty) (before first all : List Ty) → type_meant p declared.name ≡ bound
        → inner ≡ locals → first ≡ before ++ types_of_maybe p c (locals ++ attributes) o → all ≡ first ++ node_types p c (bind name bound inner ++ attributes) e
        → all ≡ before ++ part_types p c (locals ++ attributes) (trees.Let at name declared o e)
    let_added locals inner at name declared o e bound before first all meant same is added =
        added
        ∙ ap (λ (bs : List Binding). first ++ node_types p c (bind name bound bs ++ attributes) e) same
        ∙ sym (ap (λ (t : Ty). first ++ node_types p c (bind name t locals ++ attributes) e) meant)
        ∙ ap (λ (ts : List Ty). ts ++ node_types p c (bind name (type_meant p declared.name) locals ++ attributes) e) is
        ∙ append_assoc before (types_of_maybe p c (locals ++ attributes) o) (node_types p c (bind name (type_meant p declared.name) locals ++ attributes) e)

    -- the types of a branch, with its variable in scope, before those of the branches that are left
    pub branch_added : (locals inner : List Binding) (at : Place) (name : List ℕ) (declared : TypeRef) (e : Tree) (cs : Cases) (bound : Ty) (before all : List Ty) → type_meant p declared.name ≡ bound
        → inner ≡ locals → all ≡ before ++ node_types p c (bind name bound inner ++ attributes) e
        → all ++ types_of_cases p c (locals ++ attributes) cs ≡ before ++ types_of_cases p c (locals ++ attributes) (CaseOf at name declared e cs)
    branch_added locals inner at name declared e cs bound before all meant same added =
        let rest = types_of_cases p c (locals ++ attributes) cs in
        ap (λ (ts : List Ty). ts ++ rest) (added
        ∙ ap (λ (bs : List Binding). before ++ node_types p c (bind name bound bs ++ attributes) e) same
        ∙ sym (ap (λ (t : Ty). before ++ node_types p c (bind name t locals ++ attributes) e) meant))
        ∙ append_assoc before (node_types p c (bind name (type_meant p declared.name) locals ++ attributes) e) rest
