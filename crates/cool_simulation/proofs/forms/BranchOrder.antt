-- The code of a case tries branches with deeper classes first. The first branch whose class is the value's class or an ancestor of it is the one that the
-- semantics takes.
use Rattle.std.proofs.Common.{◌≡◌, ◌≢◌, ℕ, suc, ◌+◌, ◌<◌, ◌≤◌, List, [], ◌∷◌, length, Option, Some, None, Bool, true, false, ap, sym, ◌∙◌, refl, subst, arith}
use Rattle.std.specs.Prelude.{if◌then◌else◌, nat_eq, nat_lt, bytes_eq}
use Rattle.std.specs.List.{AllByRecursion}
use Rattle.std.proofs.lemmas.Bool.{eqb-true, eqb-false, ltb-true, ltb-false}
use Rattle.cool_syntax.specs.Tree.{Tree, Cases, NoCase, CaseOf, tree_size}
use Rattle.cool_classes.specs.declared.class_id.ClassId.{ClassId}
use Rattle.cool_classes.specs.declared.class_id.Ty.{Ty}
use Rattle.cool_classes.specs.declared.class_id.Ty.TheVariants.{Class as IsClass}
use Rattle.cool_classes.specs.Chains.{Class, name_of, parent_of, IsChain}
use Rattle.cool_classes.specs.ClimbedChains.{chain, above}
use Rattle.cool_classes.specs.Tables.{IsTable}
use Rattle.cool_classes.proofs.Climbs.{chain_unique}
use Rattle.cool_classes.proofs.ChainsOfTables.{chain_is}
use Rattle.cool_rules.specs.Rules.{type_meant}
use Rattle.cool_rules.specs.Scopes.{Binding}
use Rattle.cool_rules.specs.Typing.{HaveBranches}
use Rattle.cool_rules.proofs.RulesOfTables.{meant_is}
use Rattle.cool_codegen.specs.Types.{class_meant}
use Rattle.cool_meaning.specs.Values.{Value, Environment}
use Rattle.cool_meaning.specs.Meters.{◌>>=◌, locate}
use Rattle.cool_meaning.specs.Evaluation.{Calls, Branch, or_else, nearest, eval, branch_of}
use Rattle.lists.proofs.EqualBytes.{bytes_differ, bytes_same}

-- a branch: its class, its variable and the type of that, its body, and the number of nodes before that
pub record Entry : Type 0 where
  pub class : ClassId
  pub name : List ℕ
  pub bound : Ty
  pub tree : Tree
  pub first : ℕ

-- the branches in the order of the text
abbrev pub entries : List Class → ClassId → ℕ → Cases → List Entry
entries p c k NoCase = []
entries p c k (CaseOf at name declared t cs) = record { class = class_meant p c declared.name; name = name; bound = type_meant p declared.name; tree = t; first = k } ∷ entries p c (k + tree_size t) cs

abbrev pub depth_of : List Class → ClassId → ℕ
depth_of p c = length (above p c)

-- a branch after those of classes that are no less deep
abbrev pub with_entry : List Class → List Entry → Entry → List Entry
with_entry p [] e = e ∷ []
with_entry p (a ∷ es) e = if nat_lt (depth_of p a.class) (depth_of p e.class) then e ∷ a ∷ es else a ∷ with_entry p es e

abbrev pub with_entries : List Class → List Entry → List Entry → List Entry
with_entries p before [] = before
with_entries p before (e ∷ es) = with_entries p (with_entry p before e) es

-- the first branch of a class, and the first of one of these classes
abbrev pub of_class : ClassId → List Entry → Option Entry
of_class d [] = None
of_class d (e ∷ es) = if nat_eq e.class.0 d.0 then Some e else of_class d es

abbrev pub among : List ClassId → ClassId → Bool
among [] c = false
among (d ∷ ds) c = if nat_eq c.0 d.0 then true else among ds c

abbrev pub first_among : List ClassId → List Entry → Option Entry
first_among ds [] = None
first_among ds (e ∷ es) = if among ds e.class then Some e else first_among ds es

-- the effect of a branch on a value
abbrev pub does : List Class → Calls → Value → Environment → Entry → Branch
does p calls self env e = λ v. locate v >>= λ l. eval p calls self (record { name = e.name; location = l } ∷ env) e.tree

abbrev pub branch : List Class → Calls → Value → Environment → Option Entry → Option Branch
branch p calls self env None = None
branch p calls self env (Some e) = Some (does p calls self env e)

-- the first of two
abbrev pub or : Option Entry → Option Entry → Option Entry
or None o = o
or (Some e) o = Some e

or_none : (o : Option Entry) → o ≡ or o None
or_none None = refl
or_none (Some e) = refl

or_assoc : (a b c : Option Entry) → or (or a b) c ≡ or a (or b c)
or_assoc None b c = refl
or_assoc (Some e) b c = refl

-- each is at least as deep as those after it
abbrev Falling : List Class → List Entry → Type 0
Falling p [] = Unit {0}
Falling p (e ∷ es) = AllByRecursion (λ (a : Entry). depth_of p a.class ≤ depth_of p e.class) es × Falling p es

all_up : (p : List Class) (n m : ℕ) → n ≤ m → (es : List Entry) → AllByRecursion (λ (a : Entry). depth_of p a.class ≤ n) es → AllByRecursion (λ (a : Entry). depth_of p a.class ≤ m) es
all_up p n m le [] h = tt
all_up p n m le (e ∷ es) h = (let l = h.0 in omega arith, all_up p n m le es h.1)

all_under : (p : List Class) (n m : ℕ) → n < m → (es : List Entry) → AllByRecursion (λ (a : Entry). depth_of p a.class ≤ n) es → AllByRecursion (λ (a : Entry). depth_of p a.class < m) es
all_under p n m le [] h = tt
all_under p n m le (e ∷ es) h = (let l = h.0 in omega arith, all_under p n m le es h.1)

all_with : (p : List Class) (n : ℕ) (es : List Entry) (e : Entry) → AllByRecursion (λ (a : Entry). depth_of p a.class ≤ n) es → depth_of p e.class ≤ n
    → AllByRecursion (λ (a : Entry). depth_of p a.class ≤ n) (with_entry p es e)
all_with p n [] e h le = (le, tt)
all_with p n (a ∷ es) e h le = by (nat_lt (depth_of p a.class) (depth_of p e.class)) (all_with p n es e h.1 le)
  where
    by : (b : Bool) → AllByRecursion (λ (a : Entry). depth_of p a.class ≤ n) (with_entry p es e) → AllByRecursion (λ (a : Entry). depth_of p a.class ≤ n) (if b then e ∷ a ∷ es else a ∷ with_entry p es e)
    by true more = (le, h)
    by false more = (h.0, more)

falling_with : (p : List Class) (es : List Entry) (e : Entry) → Falling p es → Falling p (with_entry p es e)
falling_with p [] e h = (tt, tt)
falling_with p (a ∷ es) e h = by (nat_lt (depth_of p a.class) (depth_of p e.class)) refl (falling_with p es e h.1)
  where
    by : (b : Bool) → nat_lt (depth_of p a.class) (depth_of p e.class) ≡ b → Falling p (with_entry p es e) → Falling p (if b then e ∷ a ∷ es else a ∷ with_entry p es e)
    by true t more =
        let less = ltb-true (depth_of p a.class) (depth_of p e.class) t in
        ((omega arith, all_up p (depth_of p a.class) (depth_of p e.class) (omega arith) es h.0), h)
    by false t more = (all_with p (depth_of p a.class) es e h.0 (ltb-false (depth_of p a.class) (depth_of p e.class) t), more)

pub falling_all : (p : List Class) (before es : List Entry) → Falling p before → Falling p (with_entries p before es)
falling_all p before [] h = h
falling_all p before (e ∷ es) h = falling_all p (with_entry p before e) es (falling_with p before e h)

pub same_class : (c d : ClassId) → nat_eq c.0 d.0 ≡ true → c ≡ d
same_class c d e = let n : c.0 ≡ d.0 = eqb-true c.0 d.0 e in ap (λ (k : ℕ). record { 0 = k }) n

-- no branch of a deeper class
none_deeper : (p : List Class) (d : ClassId) (es : List Entry) → AllByRecursion (λ (a : Entry). depth_of p a.class < depth_of p d) es → of_class d es ≡ None
none_deeper p d [] h = refl
none_deeper p d (e ∷ es) h = by (nat_eq e.class.0 d.0) refl (none_deeper p d es h.1)
  where
    by : (b : Bool) → nat_eq e.class.0 d.0 ≡ b → of_class d es ≡ None → (if b then Some e else of_class d es) ≡ None
    by true t more = let same : depth_of p e.class ≡ depth_of p d = ap (depth_of p) (same_class e.class d t) in let less = h.0 in absurd (omega arith)
    by false t more = more

-- the order keeps which is the first of a class
class_with : (p : List Class) (d : ClassId) (es : List Entry) (e : Entry) → Falling p es → of_class d (with_entry p es e) ≡ or (of_class d es) (of_class d (e ∷ []))
class_with p d [] e h = refl
class_with p d (a ∷ es) e h = by (nat_lt (depth_of p a.class) (depth_of p e.class)) refl (class_with p d es e h.1)
  where
    there : (b : Bool) → of_class d (with_entry p es e) ≡ or (of_class d es) (of_class d (e ∷ [])) → (if b then Some a else of_class d (with_entry p es e)) ≡ or (if b then Some a else of_class d es) (of_class d (e ∷ []))
    there true more = refl
    there false more = more

    here : depth_of p a.class < depth_of p e.class → (b : Bool) → nat_eq e.class.0 d.0 ≡ b → (if b then Some e else of_class d (a ∷ es)) ≡ or (of_class d (a ∷ es)) (if b then Some e else None)
    here less true t =
        let same : depth_of p e.class ≡ depth_of p d = ap (depth_of p) (same_class e.class d t) in
        sym (ap (λ (o : Option Entry). or o (Some e)) (none_deeper p d (a ∷ es) (omega arith, all_under p (depth_of p a.class) (depth_of p d) (omega arith) es h.0)))
    here less false t = or_none (of_class d (a ∷ es))

    by : (b : Bool) → nat_lt (depth_of p a.class) (depth_of p e.class) ≡ b → of_class d (with_entry p es e) ≡ or (of_class d es) (of_class d (e ∷ []))
        → of_class d (if b then e ∷ a ∷ es else a ∷ with_entry p es e) ≡ or (of_class d (a ∷ es)) (of_class d (e ∷ []))
    by true t more = here (ltb-true (depth_of p a.class) (depth_of p e.class) t) (nat_eq e.class.0 d.0) refl
    by false t more = there (nat_eq a.class.0 d.0) more

pub class_all : (p : List Class) (d : ClassId) (before es : List Entry) → Falling p before → of_class d (with_entries p before es) ≡ or (of_class d before) (of_class d es)
class_all p d before [] h = or_none (of_class d before)
class_all p d before (e ∷ es) h =
    class_all p d (with_entry p before e) es (falling_with p before e h)
    ∙ (ap (λ (o : Option Entry). or o (of_class d es)) (class_with p d before e h)
    ∙ (or_assoc (of_class d before) (of_class d (e ∷ [])) (of_class d es)
    ∙ ap (or (of_class d before)) (by (nat_eq e.class.0 d.0))))
  where
    by : (b : Bool) → or (if b then Some e else None) (of_class d es) ≡ (if b then Some e else of_class d es)
    by true = refl
    by false = refl

-- each class of a chain is deeper than those above it
abbrev pub Climbs : List Class → List ClassId → Type 0
Climbs p [] = Unit {0}
Climbs p (d ∷ ds) = AllByRecursion (λ (e : ClassId). depth_of p e < depth_of p d) ds × Climbs p ds

among_all : (P : ClassId → Type 0) (ds : List ClassId) (c : ClassId) → AllByRecursion P ds → among ds c ≡ true → P c
among_all P [] c h e = absurd (cc)
among_all P (d ∷ ds) c h e = by (nat_eq c.0 d.0) refl e (λ f. among_all P ds c h.1 f)
  where
    by : (b : Bool) → nat_eq c.0 d.0 ≡ b → (if b then true else among ds c) ≡ true → (among ds c ≡ true → P c) → P c
    by true t e more = subst P (sym (same_class c d t)) h.0
    by false t e more = more e

-- a class more in front: its branch is before all of classes above it
pub first_step : (p : List Class) (d : ClassId) (ds : List ClassId) (es : List Entry) → AllByRecursion (λ (e : ClassId). depth_of p e < depth_of p d) ds → Falling p es
    → first_among (d ∷ ds) es ≡ or (of_class d es) (first_among ds es)
first_step p d ds [] deep h = refl
first_step p d ds (e ∷ es) deep h = by (nat_eq e.class.0 d.0) (among ds e.class) refl (first_step p d ds es deep h.1)
  where
    by : (x y : Bool) → among ds e.class ≡ y → first_among (d ∷ ds) es ≡ or (of_class d es) (first_among ds es)
        → (if (if x then true else y) then Some e else first_among (d ∷ ds) es) ≡ or (if x then Some e else of_class d es) (if y then Some e else first_among ds es)
    by true y t more = refl
    by false true t more =
        let less = among_all (λ (c : ClassId). depth_of p c < depth_of p d) ds e.class deep t in
        sym (ap (λ (o : Option Entry). or o (Some e)) (none_deeper p d es (all_under p (depth_of p e.class) (depth_of p d) less es h.0)))
    by false false t more = more

pub none_among : (es : List Entry) → first_among [] es ≡ None
none_among [] = refl
none_among (e ∷ es) = none_among es

module _ (p : List Class) (table : IsTable p) where
  -- the depth of each class on a chain is less than the length of the chain, and more than that of those above it
  pub chain_deep : (o : Option ClassId) (ds : List ClassId) → IsChain p o ds → AllByRecursion (λ (d : ClassId). d.0 < length p) ds → AllByRecursion (λ (e : ClassId). depth_of p e < length ds) ds × Climbs p ds
  unfolding chain
  chain_deep None [] h within = (tt, tt)
  chain_deep (Some c) [] h within = absurd h
  chain_deep None (d ∷ ds) h within = absurd h
  chain_deep (Some c) (d ∷ ds) h within =
      let same : chain p d ≡ d ∷ ds = chain_unique p (Some d) (chain p d) (d ∷ ds) (chain_is p d table within.0) (refl, subst (λ (x : ClassId). IsChain p (parent_of p x) ds) (sym h.0) h.1) in
      let deep : suc (depth_of p d) ≡ suc (length ds) = ap length same in
      let more = chain_deep (parent_of p c) ds h.1 within.1 in
      let is : length ds ≡ depth_of p d = omega arith in
      ((omega arith, raise (length ds) (suc (length ds)) (omega arith) ds more.0), (subst (λ (n : ℕ). AllByRecursion (λ (e : ClassId). depth_of p e < n) ds) is more.0, more.1))
    where
      raise : (n m : ℕ) → n ≤ m → (es : List ClassId) → AllByRecursion (λ (e : ClassId). depth_of p e < n) es → AllByRecursion (λ (e : ClassId). depth_of p e < m) es
      raise n m le [] h = tt
      raise n m le (e ∷ es) h = (let l = h.0 in omega arith, raise n m le es h.1)

  module _ (calls : Calls) (self : Value) (env : Environment) (c : ClassId) where
    -- the branch of a class's name
    branch_is : (cs : Cases) (k : ℕ) (scope : List Binding) (ts : List Ty) → HaveBranches p c scope cs ts → (d : ClassId) → d.0 < length p
        → branch_of p calls self env cs (name_of p d) ≡ branch p calls self env (of_class d (entries p c k cs))
    branch_is NoCase k scope ts h d within = refl
    branch_is (CaseOf at name declared t cs) k scope [] h d within = absurd h
    branch_is (CaseOf at name declared t' cs) k scope (u ∷ ts) h d within =
        let x = h.0.0 in
        let denotes = h.0.2 in
        let meant : class_meant p c declared.name ≡ x = ap (λ (y : Ty). class_of_type y) (meant_is p table declared.name (IsClass x) denotes) in
        by x denotes.0 denotes.1 (nat_eq x.0 d.0) refl (subst (λ (y : ClassId). nat_eq y.0 d.0 ≡ nat_eq x.0 d.0) (sym meant) refl) (branch_is cs (k + tree_size t') scope ts h.1 d within)
      where
        class_of_type : Ty → ClassId
        class_of_type y = Rattle.cool_rules.specs.Conformance.class_of c y

        e : Entry
        e = record { class = class_meant p c declared.name; name = name; bound = type_meant p declared.name; tree = t'; first = k }

        by : (x : ClassId) → x.0 < length p → name_of p x ≡ declared.name → (b : Bool) → nat_eq x.0 d.0 ≡ b → nat_eq e.class.0 d.0 ≡ nat_eq x.0 d.0
            → branch_of p calls self env cs (name_of p d) ≡ branch p calls self env (of_class d (entries p c (k + tree_size t') cs))
            → (if bytes_eq declared.name (name_of p d) then Some (does p calls self env e) else branch_of p calls self env cs (name_of p d))
            ≡ branch p calls self env (if nat_eq e.class.0 d.0 then Some e else of_class d (entries p c (k + tree_size t') cs))
        by x x_in named true t same more = choose (bytes_eq declared.name (name_of p d)) (nat_eq e.class.0 d.0) (bytes_same declared.name (name_of p d) (sym named ∙ ap (name_of p) (same_class x d t))) (same ∙ t)
          where
            choose : (u v : Bool) → u ≡ true → v ≡ true
                → (if u then Some (does p calls self env e) else branch_of p calls self env cs (name_of p d)) ≡ branch p calls self env (if v then Some e else of_class d (entries p c (k + tree_size t') cs))
            choose u v eu ev =
                ap (λ (x : Bool). if x then Some (does p calls self env e) else branch_of p calls self env cs (name_of p d)) eu
                ∙ sym (ap (λ (x : Bool). branch p calls self env (if x then Some e else of_class d (entries p c (k + tree_size t') cs))) ev)
        by x x_in named false t same more =
            ap (λ (y : Bool). if y then Some (does p calls self env e) else branch_of p calls self env cs (name_of p d)) (bytes_differ declared.name (name_of p d) (λ q. other (table.names x d x_in within (named ∙ q))))
            ∙ (more ∙ sym (ap (λ (y : Bool). branch p calls self env (if y then Some e else of_class d (entries p c (k + tree_size t') cs))) (same ∙ t)))
          where
            other : x ≡ d → ⊥
            other q = let n : x.0 ≡ d.0 = ap (λ (y : ClassId). y.0) q in let m : x.0 ≢ d.0 = eqb-false x.0 d.0 t in m n

    or_else_is : (a b : Option Entry) → or_else (branch p calls self env a) (branch p calls self env b) ≡ branch p calls self env (or a b)
    or_else_is None b = refl
    or_else_is (Some e) b = refl

    nearest_in : (cs : Cases) (k : ℕ) (scope : List Binding) (ts : List Ty) → HaveBranches p c scope cs ts → (ds : List ClassId) → Climbs p ds → AllByRecursion (λ (d : ClassId). d.0 < length p) ds
        → nearest p (branch_of p calls self env cs) ds ≡ branch p calls self env (first_among ds (with_entries p [] (entries p c k cs)))
    nearest_in cs k scope ts h [] climbs within = ap (branch p calls self env) (sym (none_among (with_entries p [] (entries p c k cs))))
    nearest_in cs k scope ts h (d ∷ ds) climbs within =
        let es : List Entry = entries p c k cs in
        let all : List Entry = with_entries p [] es in
        let one : branch_of p calls self env cs (name_of p d) ≡ branch p calls self env (of_class d all) =
        branch_is cs k scope ts h d within.0 ∙ ap (branch p calls self env) (sym (class_all p d [] es tt)) in
        let more : nearest p (branch_of p calls self env cs) ds ≡ branch p calls self env (first_among ds all) = nearest_in cs k scope ts h ds climbs.1 within.1 in
        ap (λ (o : Option Branch). or_else o (nearest p (branch_of p calls self env cs) ds)) one
        ∙ (ap (or_else (branch p calls self env (of_class d all))) more
        ∙ (or_else_is (of_class d all) (first_among ds all)
        ∙ ap (branch p calls self env) (sym (first_step p d ds all climbs.0 (falling_all p [] es tt)))))

    -- the branch that evaluation takes is the first that fits in the order of the code
    pub nearest_is : (cs : Cases) (k : ℕ) (scope : List Binding) (ts : List Ty) → HaveBranches p c scope cs ts → (j : ClassId) → j.0 < length p → AllByRecursion (λ (d : ClassId). d.0 < length p) (chain p j)
        → nearest p (branch_of p calls self env cs) (chain p j) ≡ branch p calls self env (first_among (chain p j) (with_entries p [] (entries p c k cs)))
    nearest_is cs k scope ts h j j_within within = nearest_in cs k scope ts h (chain p j) (chain_deep (Some j) (chain p j) (chain_is p j table j_within) within).1 within
