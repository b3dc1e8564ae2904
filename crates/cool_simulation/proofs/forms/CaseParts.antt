-- The branches of a case satisfy what its simulation needs: their types are known, their constants are in the program, and the code of each body simulates the
-- body.
use Rattle.std.proofs.Common.{◌≡◌, ℕ, ◌+◌, ◌<◌, ◌≤◌, List, [], ◌∷◌, length, ap, sym, ◌∙◌, subst, arith}
use Rattle.std.specs.List.{AllByRecursion}
use Rattle.cool_syntax.specs.Tree.{Cases, NoCase, CaseOf, tree_size, cases_size}
use Rattle.cool_syntax.specs.TreesWithinLimits.{IsTreeWithin, AreCasesWithin}
use Rattle.cool_classes.specs.declared.class_id.ClassId.{ClassId}
use Rattle.cool_classes.specs.declared.class_id.Ty.{Ty}
use Rattle.cool_classes.specs.declared.class_id.Ty.TheVariants.{Class as IsClass}
use Rattle.cool_rules.specs.Conformance.{class_of as class_meant_by}
use Rattle.cool_rules.specs.Scopes.{Binding}
use Rattle.cool_rules.specs.Typing.{HasType, HaveBranches, with_name}
use Rattle.cool_rules.proofs.RulesOfTables.{meant_is}
use Rattle.cool_codegen.specs.Types.{class_meant}
use Rattle.cool_codegen.specs.Asked.{integers_in, strings_in, integers_in_cases, strings_in_cases}
use Rattle.cool_meaning.specs.Evaluation.{Call, Calls}
use Rattle.cool_simulation.specs.Loadings.{Loading, IsLoaded}
use Rattle.cool_simulation.specs.Simulation.{Correct}
use Rattle.cool_simulation.specs.Visits.{Visits}
use Rattle.cool_simulation.proofs.ground.CodeOfParts.{Asks, asks_front, asks_back}
use Rattle.cool_simulation.proofs.forms.BranchOrder.{Entry, entries}

module _ (l : Loading) (is : IsLoaded l) (calls : Calls) (begun_in : Call → Visits) (b : ℕ) where
  -- the code of each branch is correct
  abbrev pub BodiesCorrect : Cases → Type 0
  BodiesCorrect NoCase = Unit {0}
  BodiesCorrect (CaseOf at name declared t cs) = Correct l calls begun_in b t × BodiesCorrect cs

  pub record Good (c : ClassId) (scope : List Binding) (d : ℕ) (e : Entry) : Type 0 where
    pub within : e.class.0 < length l.table
    pub bound : e.bound ≡ IsClass e.class
    pub type : Ty
    pub has : HasType l.table c (with_name e.name (IsClass e.class) scope) e.tree type
    pub asks : Asks l (integers_in e.tree) (strings_in l.files e.tree)
    pub limits : IsTreeWithin (length l.files) e.tree
    pub small : d + 1 + tree_size e.tree ≤ 8000
    pub correct : Correct l calls begun_in b e.tree

  pub all_good : (c : ClassId) (scope : List Binding) (d k : ℕ) (cs : Cases) (ts : List Ty) → HaveBranches l.table c scope cs ts → Asks l (integers_in_cases cs) (strings_in_cases l.files cs) → AreCasesWithin (length l.files) cs
      → d + 1 + cases_size cs ≤ 8000 → BodiesCorrect cs → AllByRecursion (Good c scope d) (entries l.table c k cs)
  all_good c scope d k NoCase ts have asks within small correct = tt
  all_good c scope d k (CaseOf at name declared t cs) [] have asks within small correct = absurd have
  all_good c scope d k (CaseOf at name declared t cs) (u ∷ ts) ((x, other, denotes, has), have) asks within small correct =
      let named = meant_is l.table is.buildable.typed.whole.table declared.name (IsClass x) denotes in
      let meant : class_meant l.table c declared.name ≡ x = ap (class_meant_by c) named in (
        record {
          within = subst (λ (y : ClassId). y.0 < length l.table) (sym meant) denotes.0;
          bound = named ∙ ap IsClass (sym meant);
          type = u;
          has = subst (λ (y : ClassId). HasType l.table c (with_name name (IsClass y) scope) t u) (sym meant) has;
          asks = asks_front l (integers_in t) (integers_in_cases cs) (strings_in l.files t) (strings_in_cases l.files cs) asks;
          limits = within.3;
          small = omega arith;
          correct = correct.0;
        },
        all_good c scope d (k + tree_size t) cs ts have (asks_back l (integers_in t) (integers_in_cases cs) (strings_in l.files t) (strings_in_cases l.files cs) asks) within.4 (omega arith) correct.1,
      )
