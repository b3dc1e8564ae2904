-- In the body of a method and in an initial value, each name in scope has its value at the address that the code uses for the name.
use Rattle.std.proofs.Common.{◌≡◌, ◌≢◌, ℕ, suc, ◌+◌, ◌-◌, ◌*◌, ◌<◌, ◌≤◌, inl, List, [], ◌∷◌, ◌++◌, map as each, length, get_or, Option, Some, Bool as Truth, true, false, cond, refl, sym, ap, ◌∙◌, subst, arith, append-nil}
use Rattle.std.specs.Prelude.{pos, bytes_eq}
use Rattle.std.specs.List.{AllByRecursion}
use Rattle.std.proofs.lemmas.Slice.Eq.{bytes_eq-Decides}
use Rattle.cool_syntax.specs.declared.file_tree.Formal.{Formal}
use Rattle.cool_classes.specs.declared.class_id.ClassId.{ClassId}
use Rattle.cool_classes.specs.declared.class_id.Ty.{Ty}
use Rattle.cool_classes.specs.declared.method.AttributeRef.{AttributeRef}
use Rattle.cool_classes.specs.Chains.{Class}
use Rattle.cool_classes.specs.Features.{attribute_name, attribute_type}
use Rattle.cool_rules.specs.Rules.{type_meant}
use Rattle.cool_rules.specs.Scopes.{Binding}
use Rattle.cool_rules.specs.Scopes as scopes
use Rattle.cool_rules.specs.Typing.{formals_in_scope}
use Rattle.cool_layout.specs.Members.{offset}
use Rattle.cool_codegen.specs.declared.variables.Base.TheVariants.{Frame, Object}
use Rattle.cool_codegen.specs.declared.variables.Variable.{Variable}
use Rattle.cool_codegen.specs.Variables.{Named}
use Rattle.cool_codegen.specs.Features.{with_attributes, with_formals}
use Rattle.cool_meaning.specs.Values.{Environment, location_of}
use Rattle.cool_meaning.specs.Lookups.{located, formal_names}
use Rattle.cool_runtime.specs.Machines.{Pointers}
use Rattle.cool_simulation.specs.Pictures.{Map}
use Rattle.cool_simulation.specs.Simulation.{IsVariableAt}
use Rattle.lists.specs.Different.{AreDifferent}

-- Names entered one after the other

abbrev pub entered : List Named → List Named → List Named
entered [] vs = vs
entered (x ∷ xs) vs = entered xs (x ∷ vs)

abbrev pub names_of : List Named → List (List ℕ)
names_of xs = each (λ (x : Named). x.name) xs

found_past : (xs vs : List Named) (x : Named) (name : List ℕ) → AllByRecursion (λ (n : List ℕ). n ≢ x.name) (names_of xs) → scopes.found (xs ++ x ∷ vs) name ≡ scopes.found (x ∷ (xs ++ vs)) name
found_past [] vs x name h = refl
found_past (y ∷ xs) vs x name h = by (bytes_eq y.name name) (bytes_eq x.name name) refl refl (found_past xs vs x name h.1)
  where
    by : (a b : Truth) → bytes_eq y.name name ≡ a → bytes_eq x.name name ≡ b → scopes.found (xs ++ x ∷ vs) name ≡ cond b (Some x.value) (scopes.found (xs ++ vs) name)
        → cond a (Some y.value) (scopes.found (xs ++ x ∷ vs) name) ≡ cond b (Some x.value) (cond a (Some y.value) (scopes.found (xs ++ vs) name))
    by true true e f more = absurd (h.0 ((bytes_eq-Decides y.name name).0 e ∙ sym ((bytes_eq-Decides x.name name).0 f)))
    by true false e f more = refl
    by false b e f more = more

pub found_entered : (xs vs : List Named) (name : List ℕ) → AreDifferent (names_of xs) → scopes.found (entered xs vs) name ≡ scopes.found (xs ++ vs) name
found_entered [] vs name h = refl
found_entered (x ∷ xs) vs name h = found_entered xs (x ∷ vs) name h.1 ∙ found_past xs vs x name h.0

abbrev pub formals_named : List Class → List Formal → List Named
formals_named p [] = []
formals_named p (f ∷ fs) = record { name = f.name; value = record { base = Frame; offset = pos (12 + 4 * length fs); ty = type_meant p f.declared.name } } ∷ formals_named p fs

abbrev pub attribute_named : List Class → ClassId → AttributeRef → Named
attribute_named p c a = record { name = attribute_name p a; value = record { base = Object; offset = pos (offset p c a); ty = type_meant p (attribute_type p a) } }

abbrev pub attributes_named : List Class → ClassId → List AttributeRef → List Named
attributes_named p c rs = each (attribute_named p c) rs

formals_entered : (p : List Class) (fs : List Formal) (vs : List Named) → with_formals p fs vs ≡ entered (formals_named p fs) vs
formals_entered p [] vs = refl
formals_entered p (f ∷ fs) vs = formals_entered p fs _

attributes_entered : (p : List Class) (c : ClassId) (rs : List AttributeRef) (vs : List Named) → with_attributes p c rs vs ≡ entered (attributes_named p c rs) vs
attributes_entered p c [] vs = refl
attributes_entered p c (a ∷ rs) vs = attributes_entered p c rs _

names_of_formals : (p : List Class) (fs : List Formal) → names_of (formals_named p fs) ≡ each (λ (f : Formal). f.name) fs
names_of_formals p [] = refl
names_of_formals p (f ∷ fs) = ap (λ (ns : List (List ℕ)). f.name ∷ ns) (names_of_formals p fs)

names_of_attributes : (p : List Class) (c : ClassId) (rs : List AttributeRef) → names_of (attributes_named p c rs) ≡ each (attribute_name p) rs
names_of_attributes p c [] = refl
names_of_attributes p c (a ∷ rs) = ap (λ (ns : List (List ℕ)). attribute_name p a ∷ ns) (names_of_attributes p c rs)

found_both : (xs ys vs : List Named) (name : List ℕ) → scopes.found ys name ≡ scopes.found vs name → scopes.found (xs ++ ys) name ≡ scopes.found (xs ++ vs) name
found_both [] ys vs name h = h
found_both (x ∷ xs) ys vs name h = ap (λ (o : Option Variable). cond (bytes_eq x.name name) (Some x.value) o) (found_both xs ys vs name h)

-- the variable of a name in the body of a method, with formals and attributes in textual order
pub found_in_order : (p : List Class) (c : ClassId) (fs : List Formal) (rs : List AttributeRef) (name : List ℕ) → AreDifferent (each (λ (f : Formal). f.name) fs) → AreDifferent (each (attribute_name p) rs)
    → scopes.found (with_formals p fs (with_attributes p c rs [])) name ≡ scopes.found (formals_named p fs ++ attributes_named p c rs) name
found_in_order p c fs rs name differ differ' =
    ap (λ (xs : List Named). scopes.found xs name) (formals_entered p fs (with_attributes p c rs []))
    ∙ found_entered (formals_named p fs) (with_attributes p c rs []) name (subst AreDifferent (sym (names_of_formals p fs)) differ)
    ∙ found_both (formals_named p fs) (with_attributes p c rs []) (attributes_named p c rs) name
    (ap (λ (xs : List Named). scopes.found xs name) (attributes_entered p c rs [])
    ∙ found_entered (attributes_named p c rs) [] name (subst AreDifferent (sym (names_of_attributes p c rs)) differ')
    ∙ ap (λ (xs : List Named). scopes.found xs name) (append-nil (attributes_named p c rs)))

-- Scope, variables and environment side by side

abbrev pub AllMatched : Map → Pointers → List Binding → List Named → Environment → Type 0
AllMatched map q [] [] env = Unit {0}
AllMatched map q [] (x ∷ xs) env = ⊥
AllMatched map q (b ∷ scope) [] env = ⊥
AllMatched map q (b ∷ scope) (x ∷ xs) [] = ⊥
AllMatched map q (b ∷ scope) (x ∷ xs) (e ∷ env) =
    (b.name ≡ x.name) × (x.name ≡ e.name) × (x.value.ty ≡ b.value) × (0 < map.home e.location) × IsVariableAt q x.value (map.home e.location) × AllMatched map q scope xs env

pub typed_by : (map : Map) (q : Pointers) (scope : List Binding) (xs : List Named) (env : Environment) → AllMatched map q scope xs env
    → (name : List ℕ) (t : Ty) → scopes.found scope name ≡ Some t → (v : Variable) × (scopes.found xs name ≡ Some v) × (v.ty ≡ t)
typed_by map q [] xs env h name t e = absurd (cc)
typed_by map q (b ∷ scope) [] env h name t e = absurd h
typed_by map q (b ∷ scope) (x ∷ xs) [] h name t e = absurd h
typed_by map q (b ∷ scope) (x ∷ xs) (y ∷ env) h name t e =
    by (bytes_eq x.name name) (subst (λ (n : List ℕ). cond (bytes_eq n name) (Some b.value) (scopes.found scope name) ≡ Some t) h.0 e) (typed_by map q scope xs env h.5 name t)
  where
    by : (a : Truth) → cond a (Some b.value) (scopes.found scope name) ≡ Some t → (scopes.found scope name ≡ Some t → (v : Variable) × (scopes.found xs name ≡ Some v) × (v.ty ≡ t))
        → (v : Variable) × (cond a (Some x.value) (scopes.found xs name) ≡ Some v) × (v.ty ≡ t)
    by true f more = let same : b.value ≡ t = cc in (x.value, refl, h.2 ∙ same)
    by false f more = more f

pub homes_by : (map : Map) (q : Pointers) (scope : List Binding) (xs : List Named) (env : Environment) → AllMatched map q scope xs env
    → (name : List ℕ) (v : Variable) → scopes.found xs name ≡ Some v → (l : ℕ) × (location_of env name ≡ Some l) × (0 < map.home l) × IsVariableAt q v (map.home l)
homes_by map q [] [] env h name v e = absurd (cc)
homes_by map q [] (x ∷ xs) env h name v e = absurd h
homes_by map q (b ∷ scope) [] env h name v e = absurd h
homes_by map q (b ∷ scope) (x ∷ xs) [] h name v e = absurd h
homes_by map q (b ∷ scope) (x ∷ xs) (y ∷ env) h name v e =
    by (bytes_eq y.name name) (subst (λ (n : List ℕ). cond (bytes_eq n name) (Some x.value) (scopes.found xs name) ≡ Some v) h.1 e) (homes_by map q scope xs env h.5 name v)
  where
    by : (a : Truth) → cond a (Some x.value) (scopes.found xs name) ≡ Some v
        → (scopes.found xs name ≡ Some v → (l : ℕ) × (location_of env name ≡ Some l) × (0 < map.home l) × IsVariableAt q v (map.home l))
        → (l : ℕ) × (cond a (Some y.location) (location_of env name) ≡ Some l) × (0 < map.home l) × IsVariableAt q v (map.home l)
    by true f more = let same : x.value ≡ v = cc in (y.location, refl, h.3, subst (λ (u : Variable). IsVariableAt q u (map.home y.location)) same h.4)
    by false f more = more f

pub matched_both : (map : Map) (q : Pointers) (scope scope' : List Binding) (xs xs' : List Named) (env env' : Environment) → AllMatched map q scope xs env → length scope ≡ length env → AllMatched map q scope' xs' env'
    → AllMatched map q (scope ++ scope') (xs ++ xs') (env ++ env')
matched_both map q [] scope' [] xs' [] env' h long h' = h'
matched_both map q [] scope' [] xs' (y ∷ env) env' h long h' = absurd (omega arith)
matched_both map q [] scope' (x ∷ xs) xs' env env' h long h' = absurd h
matched_both map q (b ∷ scope) scope' [] xs' env env' h long h' = absurd h
matched_both map q (b ∷ scope) scope' (x ∷ xs) xs' [] env' h long h' = absurd h
matched_both map q (b ∷ scope) scope' (x ∷ xs) xs' (y ∷ env) env' h long h' = (h.0, h.1, h.2, h.3, h.4, matched_both map q scope scope' xs xs' env env' h.5 (omega arith) h')

-- formals at consecutive locations, at home above the frame
pub formals_match : (p : List Class) (map : Map) (q : Pointers) (fs : List Formal) (ls : List ℕ) → length ls ≡ length fs → length fs ≤ 8000 → 0 < q.fp
    → ((j : ℕ) → j < length ls → map.home (get_or ls j 0) ≡ q.fp + 12 + 4 * (length ls - (j + 1))) → AllMatched map q (formals_in_scope p fs) (formals_named p fs) (located (formal_names fs) ls)
formals_match p map q [] ls long few frame homes = tt
formals_match p map q (f ∷ fs) [] long few frame homes = absurd (omega arith)
formals_match p map q (f ∷ fs) (l ∷ ls) long few frame homes =
    let first : map.home l ≡ q.fp + 12 + 4 * (length (l ∷ ls) - (0 + 1)) = homes 0 (omega arith) in
    (refl, refl, refl, omega arith, inl (refl, (omega arith, omega arith)), formals_match p map q fs ls (omega arith) (omega arith) frame (λ j less. homes (suc j) (omega arith) ∙ (omega arith)))
