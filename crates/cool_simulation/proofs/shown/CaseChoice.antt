-- In the code of a case, the machine reaches the body of the branch that evaluation takes, with the correct values of all names in scope (`Shown`).
use Rattle.std.proofs.Common.{◌≡◌, inl, inr, ℕ, ◌+◌, List, ◌∷◌, Option, Some, None, Bool as Truth, ap, ◌∙◌, refl}
use Rattle.std.specs.Prelude.{if◌then◌else◌}
use Rattle.cool_syntax.specs.Tree.{Cases, NoCase, CaseOf, tree_size}
use Rattle.cool_classes.specs.declared.class_id.ClassId.{ClassId}
use Rattle.cool_classes.specs.Chains.{Class}
use Rattle.cool_rules.specs.Rules.{type_meant}
use Rattle.cool_codegen.specs.Types.{class_meant}
use Rattle.cool_meaning.specs.Values.{Value, State, Environment}
use Rattle.cool_meaning.specs.Meters.{given, locate}
use Rattle.cool_meaning.specs.Evaluation.{Call, Calls}
use Rattle.cool_simulation.specs.Visits.{Visit, Visits, behind, begun, branch_begun}
use Rattle.cool_simulation.proofs.forms.BranchOrder.{Entry}
use Rattle.cool_simulation.proofs.shown.Comings.{value_behind}
use Rattle.cool_simulation.proofs.forms.NamedBranches.{entry_named}

-- the visits after a given value
pub given_behind : {A : Type 0} (o : Option A) (V : A → Visits) (st : State) (n : ℕ) (x : Visit) → behind (given o) V st n x → (a : A) × (o ≡ Some a) × V a st n x
given_behind None V st n x h = absurd (value_behind (given None) V st n x h)
given_behind (Some a) V st n x h = (a, refl, value_behind (given (Some a)) V st n x h)

module _ (p : List Class) (c : ClassId) (calls : Calls) (begun_in : Call → Visits) where
  -- visits of a branch are visits of that entry's body
  pub entry_begun : (d : ClassId) (f : ℕ) (self : Value) (env : Environment) (k : ℕ) (v : Value) (name : List ℕ) (cs : Cases) (st : State) (n : ℕ) (x : Visit)
      → branch_begun p calls begun_in d f self env k v name cs st n x
      → (e : Entry) × (entry_named p c k cs name ≡ Some e) × behind (locate v) (λ i. begun p calls begun_in d f self (record { name = e.name; location = i } ∷ env) e.first e.tree) st n x
  entry_begun d f self env k v name NoCase st n x h = absurd h
  entry_begun d f self env k v name (CaseOf at y declared t cs) st n x (inl (is, h)) =
      let e : Entry = record { class = class_meant p c declared.name; name = y; bound = type_meant p declared.name; tree = t; first = k } in
      (e, ap (λ (b : Truth). if b then Some e else entry_named p c (k + tree_size t) cs name) is, h)
  entry_begun d f self env k v name (CaseOf at y declared t cs) st n x (inr (is, h)) =
      let e : Entry = record { class = class_meant p c declared.name; name = y; bound = type_meant p declared.name; tree = t; first = k } in
      let (e', there, h') = entry_begun d f self env (k + tree_size t) v name cs st n x h in
      (e', ap (λ (b : Truth). if b then Some e else entry_named p c (k + tree_size t) cs name) is ∙ there, h')
