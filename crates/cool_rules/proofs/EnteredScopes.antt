-- If different names are entered into a scope one after the other, each has the same type as in the scope of the typing rules, where the names are in another
-- order.
use Rattle.std.proofs.Common.{◌≡◌, ◌≢◌, ℕ, ◌<◌, List, [], ◌∷◌, ◌++◌, map, length, Option, Some, None, Bool, true, false, cond, ap, sym, ◌∙◌, refl, subst}
use Rattle.std.specs.Prelude.{bytes_eq}
use Rattle.std.specs.List.{AllByRecursion}
use Rattle.std.specs.Option.{option_or}
use Rattle.std.proofs.lemmas.Slice.Eq.{bytes_eq-Decides}
use Rattle.cool_syntax.specs.declared.file_tree.Formal.{Formal}
use Rattle.cool_classes.specs.declared.class_id.ClassId.{ClassId}
use Rattle.cool_classes.specs.declared.class_id.Ty.{Ty}
use Rattle.cool_classes.specs.declared.method.AttributeRef.{AttributeRef}
use Rattle.cool_classes.specs.Chains.{Class}
use Rattle.cool_classes.specs.ClimbedChains.{chain}
use Rattle.cool_classes.specs.Features.{attributes_of, attribute_name}
use Rattle.cool_classes.specs.LawfulTables.{IsLawful}
use Rattle.cool_classes.specs.Tables.{IsTable}
use Rattle.cool_classes.proofs.ChainsOfTables.{chain_is}
use Rattle.cool_rules.specs.NodeTypes.{own_scope}
use Rattle.cool_rules.specs.Scopes.{Binding, found, entered}
use Rattle.cool_rules.specs.Typing.{attributes_in_scope, formals_in_scope}
use Rattle.cool_rules.proofs.ScopesMoved.{AreSame}
use Rattle.lists.specs.Different.{AreDifferent}

-- the names of bindings are different
abbrev pub NamesDiffer : List Binding → Type 0
NamesDiffer bs = AreDifferent (map (λ (b : Binding). b.name) bs)

-- a name that is none of these is not found
not_found : (bs : List Binding) (name : List ℕ) → AllByRecursion (λ (n : List ℕ). n ≢ name) (map (λ (b : Binding). b.name) bs) → found bs name ≡ None
not_found [] name h = refl
not_found (b ∷ bs) name h = by (bytes_eq b.name name) refl (not_found bs name h.1)
  where
    by : (x : Bool) → bytes_eq b.name name ≡ x → found bs name ≡ None → cond x (Some b.value) (found bs name) ≡ None
    by true e rest = absurd (h.0 ((bytes_eq-Decides b.name name).0 e))
    by false e rest = rest

-- if names are different, the order does not matter
found_entered : (bs o : List Binding) (name : List ℕ) → NamesDiffer bs → found (entered bs o) name ≡ option_or (found bs name) (found o name)
found_entered [] o name h = refl
found_entered (b ∷ bs) o name h =
    found_entered bs (b ∷ o) name h.1 ∙ by (bytes_eq b.name name) refl
  where
    by : (x : Bool) → bytes_eq b.name name ≡ x → option_or (found bs name) (cond x (Some b.value) (found o name)) ≡ option_or (cond x (Some b.value) (found bs name)) (found o name)
    by true e = ap (λ (y : Option Ty). option_or y (Some b.value)) (not_found bs name (subst (λ (n : List ℕ). AllByRecursion (λ (m : List ℕ). m ≢ n) (map (λ (x : Binding). x.name) bs)) ((bytes_eq-Decides b.name name).0 e) h.0))
    by false e = refl

-- names in one scope, with those of another after them
pub found_after : (o scope : List Binding) (name : List ℕ) → option_or (found o name) (found scope name) ≡ found (o ++ scope) name
found_after [] scope name = refl
found_after (b ∷ o) scope name = by (bytes_eq b.name name) (found_after o scope name)
  where
    by : (x : Bool) → option_or (found o name) (found scope name) ≡ found (o ++ scope) name → option_or (cond x (Some b.value) (found o name)) (found scope name) ≡ cond x (Some b.value) (found (o ++ scope) name)
    by true e = refl
    by false e = e

or_none : (o : Option Ty) → option_or o None ≡ o
or_none None = refl
or_none (Some t) = refl

-- a property of the types of names holds of them when they are entered
pub entered_types : (P : Ty → Type 0) (bs o : List Binding) → AllByRecursion (λ (b : Binding). P b.value) bs → AllByRecursion (λ (b : Binding). P b.value) o → AllByRecursion (λ (b : Binding). P b.value) (entered bs o)
entered_types P [] o h g = g
entered_types P (b ∷ bs) o h g = entered_types P bs (b ∷ o) h.1 (h.0, g)

-- names entered into no names
pub entered_alone : (bs : List Binding) → NamesDiffer bs → AreSame (entered bs []) bs
entered_alone bs h name = found_entered bs [] name h ∙ or_none (found bs name)

-- names entered into names, and beside them
pub entered_same : (formals attributes : List Binding) → NamesDiffer formals → NamesDiffer attributes → AreSame (entered formals (entered attributes [])) (formals ++ attributes)
entered_same formals attributes h g name =
    found_entered formals (entered attributes []) name h
    ∙ ap (option_or (found formals name)) (entered_alone attributes g name)
    ∙ found_after formals attributes name

pub entered_beside : (formals attributes : List Binding) → NamesDiffer formals → NamesDiffer attributes → AreSame (entered formals [] ++ entered attributes []) (formals ++ attributes)
entered_beside formals attributes h g name =
    sym (found_after (entered formals []) (entered attributes []) name)
    ∙ ap (λ (o : Option Ty). option_or o (found (entered attributes []) name)) (entered_alone formals h name)
    ∙ ap (option_or (found formals name)) (entered_alone attributes g name)
    ∙ found_after formals attributes name

-- Features

module _ (p : List Class) where
  -- the names of bindings are those of attributes and formals
  attribute_names : (rs : List AttributeRef) → map (attribute_name p) rs ≡ map (λ (b : Binding). b.name) (attributes_in_scope p rs)
  attribute_names [] = refl
  attribute_names (r ∷ rs) = ap (λ (ns : List (List ℕ)). attribute_name p r ∷ ns) (attribute_names rs)

  formal_names : (fs : List Formal) → map (λ (f : Formal). f.name) fs ≡ map (λ (b : Binding). b.name) (formals_in_scope p fs)
  formal_names [] = refl
  formal_names (f ∷ fs) = ap (λ (ns : List (List ℕ)). f.name ∷ ns) (formal_names fs)

  -- in a lawful table the attributes of a class have different names, and so have formals of different names
  pub own_differ : IsTable p → IsLawful p → (c : ClassId) → c.0 < length p → NamesDiffer (own_scope p c)
  own_differ table lawful c within = subst AreDifferent (attribute_names (attributes_of p (chain p c))) (lawful.attributes c (chain p c) within (chain_is p c table within))

  pub formals_differ : (fs : List Formal) → AreDifferent (map (λ (f : Formal). f.name) fs) → NamesDiffer (formals_in_scope p fs)
  formals_differ fs h = subst AreDifferent (formal_names fs) h
