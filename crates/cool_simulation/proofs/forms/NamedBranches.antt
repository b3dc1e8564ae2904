-- The first branch of a case that names the nearest ancestor of the value's class is the first one that matches in the order of the code, and conversely.
use Rattle.std.proofs.Common.{◌≡◌, ◌≢◌, inl, inr, ℕ, ◌+◌, ◌<◌, List, [], ◌∷◌, length, Option, Some, None, Bool as Truth, true, false, ap, sym, ◌∙◌, refl, subst}
use Rattle.std.specs.Prelude.{bytes_eq, if◌then◌else◌, nat_eq}
use Rattle.std.specs.List.{AllByRecursion}
use Rattle.std.proofs.lemmas.Bool.{eqb-false}
use Rattle.cool_syntax.specs.Tree.{Cases, NoCase, CaseOf, tree_size}
use Rattle.cool_classes.specs.declared.class_id.ClassId.{ClassId}
use Rattle.cool_classes.specs.declared.class_id.Ty.{Ty}
use Rattle.cool_classes.specs.declared.class_id.Ty.TheVariants.{Class as IsClass}
use Rattle.cool_classes.specs.Chains.{Class, name_of}
use Rattle.cool_classes.specs.ClimbedChains.{chain}
use Rattle.cool_classes.specs.Tables.{IsTable}
use Rattle.cool_classes.proofs.ChainsOfTables.{chain_is}
use Rattle.cool_rules.specs.Conformance.{class_of as class_of_type}
use Rattle.cool_rules.specs.Rules.{type_meant}
use Rattle.cool_rules.specs.Scopes.{Binding}
use Rattle.cool_rules.specs.Typing.{HaveBranches}
use Rattle.cool_rules.proofs.RulesOfTables.{meant_is}
use Rattle.cool_codegen.specs.Types.{class_meant}
use Rattle.cool_meaning.specs.Values.{Value, State, Environment}
use Rattle.cool_meaning.specs.Meters.{locate}
use Rattle.cool_meaning.specs.Evaluation.{Call, Calls}
use Rattle.cool_simulation.specs.Visits.{Visit, Visits, behind, begun, branch_begun, has_branch, nearest_name}
use Rattle.cool_simulation.proofs.forms.BranchOrder.{Climbs, Entry, chain_deep, class_all, entries, falling_all, first_among, first_step, of_class, or, same_class, with_entries, none_among}
use Rattle.lists.proofs.EqualBytes.{bytes_differ, bytes_same}

module _ (p : List Class) (c : ClassId) where
  -- the first branch that names a class
  abbrev pub entry_named : ℕ → Cases → List ℕ → Option Entry
  entry_named k NoCase name = None
  entry_named k (CaseOf at x declared t cs) name =
      if bytes_eq declared.name name then Some (record { class = class_meant p c declared.name; name = x; bound = type_meant p declared.name; tree = t; first = k }) else entry_named (k + tree_size t) cs name

  module _ (calls : Calls) (begun_in : Call → Visits) where
    none_named : (k : ℕ) (cs : Cases) (name : List ℕ) → has_branch p calls begun_in cs name ≡ false → entry_named k cs name ≡ None
    none_named k NoCase name h = refl
    none_named k (CaseOf at x declared t cs) name h = by (bytes_eq declared.name name) (none_named (k + tree_size t) cs name) h
      where
        by : (b : Truth) → (has_branch p calls begun_in cs name ≡ false → entry_named (k + tree_size t) cs name ≡ None) → (if b then true else has_branch p calls begun_in cs name) ≡ false
            → (if b then Some (record { class = class_meant p c declared.name; name = x; bound = type_meant p declared.name; tree = t; first = k }) else entry_named (k + tree_size t) cs name) ≡ None
        by true more h = absurd cc
        by false more h = more h

    some_named : (k : ℕ) (cs : Cases) (name : List ℕ) → has_branch p calls begun_in cs name ≡ true → (e : Entry) × (entry_named k cs name ≡ Some e)
    some_named k NoCase name h = absurd cc
    some_named k (CaseOf at x declared t cs) name h = by (bytes_eq declared.name name) (some_named (k + tree_size t) cs name) h
      where
        e : Entry
        e = record { class = class_meant p c declared.name; name = x; bound = type_meant p declared.name; tree = t; first = k }

        by : (b : Truth) → (has_branch p calls begun_in cs name ≡ true → (e : Entry) × (entry_named (k + tree_size t) cs name ≡ Some e)) → (if b then true else has_branch p calls begun_in cs name) ≡ true
            → (a : Entry) × ((if b then Some e else entry_named (k + tree_size t) cs name) ≡ Some a)
        by true more h = (e, refl)
        by false more h = more h

    -- visits of that entry's body are visits of the branch
    pub begun_by_name : (d : ClassId) (f : ℕ) (self : Value) (env : Environment) (k : ℕ) (v : Value) (name : List ℕ) (cs : Cases) (st : State) (n : ℕ) (x : Visit) (e : Entry) → entry_named k cs name ≡ Some e
        → behind (locate v) (λ i. begun p calls begun_in d f self (record { name = e.name; location = i } ∷ env) e.first e.tree) st n x → branch_begun p calls begun_in d f self env k v name cs st n x
    begun_by_name d f self env k v name NoCase st n x e is h = absurd cc
    begun_by_name d f self env k v name (CaseOf at y declared t cs) st n x e is h = by (bytes_eq declared.name name) refl is (λ i. begun_by_name d f self env (k + tree_size t) v name cs st n x e i h)
      where
        mine : Entry
        mine = record { class = class_meant p c declared.name; name = y; bound = type_meant p declared.name; tree = t; first = k }

        entry_is : Some mine ≡ Some e → mine ≡ e
        entry_is same = cc

        by : (b : Truth) → bytes_eq declared.name name ≡ b → (if b then Some mine else entry_named (k + tree_size t) cs name) ≡ Some e
            → (entry_named (k + tree_size t) cs name ≡ Some e → branch_begun p calls begun_in d f self env (k + tree_size t) v name cs st n x) → branch_begun p calls begun_in d f self env k v name (CaseOf at y declared t cs) st n x
        by true same is more =
            inl (same, subst (λ (z : Entry). behind (locate v) (λ i. begun p calls begun_in d f self (record { name = z.name; location = i } ∷ env) z.first z.tree) st n x) (sym (entry_is is)) h)
        by false other is more = inr (other, more is)

    module _ (table : IsTable p) where
      -- the first branch of a class is the first that names it
      named_is : (cs : Cases) (k : ℕ) (scope : List Binding) (ts : List Ty) → HaveBranches p c scope cs ts → (d : ClassId) → d.0 < length p → of_class d (entries p c k cs) ≡ entry_named k cs (name_of p d)
      named_is NoCase k scope ts h d within = refl
      named_is (CaseOf at name declared t cs) k scope [] h d within = absurd h
      named_is (CaseOf at name declared t' cs) k scope (u ∷ ts) h d within =
          let x = h.0.0 in
          let denotes = h.0.2 in
          let meant : class_meant p c declared.name ≡ x = ap (λ (y : Ty). class_of_type c y) (meant_is p table declared.name (IsClass x) denotes) in
          by x denotes.0 denotes.1 (nat_eq x.0 d.0) refl (subst (λ (y : ClassId). nat_eq y.0 d.0 ≡ nat_eq x.0 d.0) (sym meant) refl) (named_is cs (k + tree_size t') scope ts h.1 d within)
        where
          e : Entry
          e = record { class = class_meant p c declared.name; name = name; bound = type_meant p declared.name; tree = t'; first = k }

          by : (x : ClassId) → x.0 < length p → name_of p x ≡ declared.name → (b : Truth) → nat_eq x.0 d.0 ≡ b → nat_eq e.class.0 d.0 ≡ nat_eq x.0 d.0
              → of_class d (entries p c (k + tree_size t') cs) ≡ entry_named (k + tree_size t') cs (name_of p d)
              → (if nat_eq e.class.0 d.0 then Some e else of_class d (entries p c (k + tree_size t') cs)) ≡ (if bytes_eq declared.name (name_of p d) then Some e else entry_named (k + tree_size t') cs (name_of p d))
          by x x_in named true t same more =
              ap (λ (y : Truth). if y then Some e else of_class d (entries p c (k + tree_size t') cs)) (same ∙ t)
              ∙ sym (ap (λ (y : Truth). if y then Some e else entry_named (k + tree_size t') cs (name_of p d)) (bytes_same declared.name (name_of p d) (sym named ∙ ap (name_of p) (same_class x d t))))
          by x x_in named false t same more =
              ap (λ (y : Truth). if y then Some e else of_class d (entries p c (k + tree_size t') cs)) (same ∙ t)
              ∙ (more ∙ sym (ap (λ (y : Truth). if y then Some e else entry_named (k + tree_size t') cs (name_of p d)) (bytes_differ declared.name (name_of p d) (λ q. other (table.names x d x_in within (named ∙ q))))))
            where
              other : x ≡ d → ⊥
              other q = let n : x.0 ≡ d.0 = ap (λ (y : ClassId). y.0) q in let m : x.0 ≢ d.0 = eqb-false x.0 d.0 t in m n

      chosen_in : (cs : Cases) (k : ℕ) (scope : List Binding) (ts : List Ty) → HaveBranches p c scope cs ts → (ds : List ClassId) → Climbs p ds → AllByRecursion (λ (d : ClassId). d.0 < length p) ds → (name : List ℕ) (e : Entry)
          → nearest_name p calls begun_in cs ds ≡ Some name → entry_named k cs name ≡ Some e → first_among ds (with_entries p [] (entries p c k cs)) ≡ Some e
      chosen_in cs k scope ts h [] climbs within name e near is = absurd cc
      chosen_in cs k scope ts h (d ∷ ds) climbs within name e near is =
          first_step p d ds all climbs.0 (falling_all p [] es tt) ∙ by (has_branch p calls begun_in cs (name_of p d)) refl near (chosen_in cs k scope ts h ds climbs.1 within.1 name e)
        where
          es : List Entry
          es = entries p c k cs

          all : List Entry
          all = with_entries p [] es

          one : of_class d all ≡ entry_named k cs (name_of p d)
          one = class_all p d [] es tt ∙ named_is cs k scope ts h d within.0

          some_is : (xs ys : List ℕ) → Some xs ≡ Some ys → xs ≡ ys
          some_is xs ys e = cc

          by : (b : Truth) → has_branch p calls begun_in cs (name_of p d) ≡ b → (if b then Some (name_of p d) else nearest_name p calls begun_in cs ds) ≡ Some name
              → (nearest_name p calls begun_in cs ds ≡ Some name → entry_named k cs name ≡ Some e → first_among ds all ≡ Some e) → or (of_class d all) (first_among ds all) ≡ Some e
          by true t near more = ap (λ o. or o (first_among ds all)) (one ∙ ap (entry_named k cs) (some_is (name_of p d) name near) ∙ is)
          by false t near more = ap (λ o. or o (first_among ds all)) (one ∙ none_named k cs (name_of p d) t) ∙ more near is

      -- the branch that names the nearest class is the first that fits in the order of the code
      pub chosen : (cs : Cases) (k : ℕ) (scope : List Binding) (ts : List Ty) → HaveBranches p c scope cs ts → (j : ClassId) → j.0 < length p → AllByRecursion (λ (d : ClassId). d.0 < length p) (chain p j) → (name : List ℕ) (e : Entry)
          → nearest_name p calls begun_in cs (chain p j) ≡ Some name → entry_named k cs name ≡ Some e → first_among (chain p j) (with_entries p [] (entries p c k cs)) ≡ Some e
      chosen cs k scope ts h j j_within within name e = chosen_in cs k scope ts h (chain p j) (chain_deep p table (Some j) (chain p j) (chain_is p j table j_within) within).1 within name e

      first_in : (cs : Cases) (k : ℕ) (scope : List Binding) (ts : List Ty) → HaveBranches p c scope cs ts → (ds : List ClassId) → Climbs p ds → AllByRecursion (λ (d : ClassId). d.0 < length p) ds → (e : Entry)
          → first_among ds (with_entries p [] (entries p c k cs)) ≡ Some e → (name : List ℕ) × (nearest_name p calls begun_in cs ds ≡ Some name) × (entry_named k cs name ≡ Some e)
      first_in cs k scope ts h [] climbs within e is = let none : Some e ≡ None = sym is ∙ none_among (with_entries p [] (entries p c k cs)) in absurd cc
      first_in cs k scope ts h (d ∷ ds) climbs within e is =
          by (has_branch p calls begun_in cs (name_of p d)) refl (first_in cs k scope ts h ds climbs.1 within.1 e) (sym (first_step p d ds all climbs.0 (falling_all p [] es tt) ∙ ap (λ o. or o (first_among ds all)) one) ∙ is)
        where
          es : List Entry
          es = entries p c k cs

          all : List Entry
          all = with_entries p [] es

          one : of_class d all ≡ entry_named k cs (name_of p d)
          one = class_all p d [] es tt ∙ named_is cs k scope ts h d within.0

          by : (b : Truth) → has_branch p calls begun_in cs (name_of p d) ≡ b
              → (first_among ds all ≡ Some e → (name : List ℕ) × (nearest_name p calls begun_in cs ds ≡ Some name) × (entry_named k cs name ≡ Some e)) → or (entry_named k cs (name_of p d)) (first_among ds all) ≡ Some e
              → (name : List ℕ) × ((if b then Some (name_of p d) else nearest_name p calls begun_in cs ds) ≡ Some name) × (entry_named k cs name ≡ Some e)
          by true t more is = let (e', there) = some_named k cs (name_of p d) t in (name_of p d, refl, there ∙ (sym (ap (λ o. or o (first_among ds all)) there) ∙ is))
          by false t more is = more (sym (ap (λ o. or o (first_among ds all)) (none_named k cs (name_of p d) t)) ∙ is)

      -- and the other way: that one names the nearest class
      pub name_of_first : (cs : Cases) (k : ℕ) (scope : List Binding) (ts : List Ty) → HaveBranches p c scope cs ts → (j : ClassId) → j.0 < length p → AllByRecursion (λ (d : ClassId). d.0 < length p) (chain p j) → (e : Entry)
          → first_among (chain p j) (with_entries p [] (entries p c k cs)) ≡ Some e → (name : List ℕ) × (nearest_name p calls begun_in cs (chain p j) ≡ Some name) × (entry_named k cs name ≡ Some e)
      name_of_first cs k scope ts h j j_within within e = first_in cs k scope ts h (chain p j) (chain_deep p table (Some j) (chain p j) (chain_is p j table j_within) within).1 within e
