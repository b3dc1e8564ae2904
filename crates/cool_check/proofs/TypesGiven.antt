-- The type that the type checker computes for an expression is its static type, and the types that it finds for declared names are those that the names denote.
use Rattle.std.proofs.Common.{◌≡◌, ◌<◌, ℕ, List, ◌++◌, length, Option, Some, None, Bool, true, false, ap, subst, ◌∙◌, refl}
use Rattle.std.specs.Prelude.{Ok, Err, if◌then◌else◌, unwrap_or}
use Rattle.cool_syntax.specs.declared.place.Place.{Place}
use Rattle.cool_syntax.specs.declared.type_ref.TypeRef.{TypeRef}
use Rattle.cool_syntax.specs.Tree.{Tree}
use Rattle.cool_classes.specs.declared.class_id.ClassId.{ClassId}
use Rattle.cool_classes.specs.declared.class_id.Ty.{Ty}
use Rattle.cool_classes.specs.declared.class_id.Ty.TheVariants.{Class as IsClass, SelfType}
use Rattle.cool_classes.specs.Chains.{Class, class_number}
use Rattle.cool_classes.specs.Tables.{IsWholeTable}
use Rattle.cool_rules.specs.Rules.{is_among, type_meant, type_of_name}
use Rattle.cool_rules.specs.Scopes.{AreTypes, Binding}
use Rattle.cool_rules.specs.StaticTypes.{type_of}
use Rattle.cool_rules.specs.Typing.{HasType}
use Rattle.cool_rules.proofs.StaticTypesAreGiven.{type_is}
use Rattle.cool_check.specs.Contexts.{Context}
use Rattle.cool_check.specs.FirstFaults.{Checked, refuse, refuse_type, and_then, or_no_type, initialized, bound_type, branch_among, branch_class, conform, is_self, checked}
use Rattle.cool_check.specs.declared.fault.TypeKind.TheVariants.{E10, E13, E17}
use Rattle.cool_check.specs.declared.fault.TypingRule.TheVariants as typing
use Rattle.cool_check.proofs.CheckedDecides.{Decides, both_types, checked_decides}

-- a claim that is decided and given holds
given_holds : {A : Type 0} (P : A → Type 0) (r : Checked A) (a : A) → r ≡ Ok a → Decides r P → P a
given_holds P (Ok b) a e d = let same : b ≡ a = cc in subst P same d.0
given_holds P (Err fault) a e d = absurd (cc)

-- the type that checking gives an expression is its static type
pub static_type_given : (s : Context) → IsWholeTable s.table → s.class.0 < length s.table → AreTypes s.table s.attributes → (o : List Binding) → AreTypes s.table o → (e : Tree) (t : Ty)
    → checked s o e ≡ Ok t → type_of s.table s.class (o ++ s.attributes) e ≡ t
static_type_given s whole within typed o types e t is =
    type_is s.table whole s.class within e (o ++ s.attributes) t (both_types s whole within typed o types)
    (given_holds (HasType s.table s.class (o ++ s.attributes) e) (checked s o e) t is (checked_decides s whole within typed e o types).decided)

-- a name that has a type means it
named_meant : (p : List Class) (name : List ℕ) (t : Ty) → type_of_name p name ≡ Some t → type_meant p name ≡ t
unfolding type_meant
named_meant p name t e = ap (λ (o : Option Ty). unwrap_or o (IsClass (class_number 0))) e

-- the type of the variable of a `let` is the one that its declared name means
pub bound_meant : (s : Context) (at : Place) (name : List ℕ) (declared : TypeRef) (given : Option Ty) (bound : Ty) → bound_type s at name declared given ≡ Ok bound → type_meant s.table declared.name ≡ bound
bound_meant s at name declared given bound is = by (is_self name) is
  where
    initial : (given : Option Ty) (a : Ty) → initialized s at a given ≡ Ok bound → a ≡ bound
    initial None a e = cc
    initial (Some g) a e = fitting (conform s g a) e
      where
        fitting : (b : Bool) → (if b then Ok a else refuse_type typing.Let E17 at g a) ≡ Ok bound → a ≡ bound
        fitting true e = cc
        fitting false e = absurd (cc)

    declared_by : (o : Option Ty) → type_of_name s.table declared.name ≡ o → and_then (or_no_type o typing.Let declared.at) (λ (a : Ty). initialized s at a given) ≡ Ok bound → type_meant s.table declared.name ≡ bound
    declared_by None e is = absurd (cc)
    declared_by (Some a) e is = named_meant s.table declared.name a e ∙ initial given a is

    by : (b : Bool) → (if b then refuse typing.Let E10 at else and_then (or_no_type (type_of_name s.table declared.name) typing.Let declared.at) (λ (a : Ty). initialized s at a given)) ≡ Ok bound
        → type_meant s.table declared.name ≡ bound
    by true is = absurd (cc)
    by false is = declared_by (type_of_name s.table declared.name) refl is

-- the class of a branch is the one that its declared name means
pub branch_meant : (s : Context) (at : Place) (name : List ℕ) (declared : TypeRef) (earlier : List ClassId) (class : ClassId) → branch_class s at name declared earlier ≡ Ok class
    → type_meant s.table declared.name ≡ IsClass class
branch_meant s at name declared earlier class is = by (is_self name) is
  where
    among : (b : Bool) (d : ClassId) → (if b then refuse typing.Case E13 declared.at else Ok d) ≡ Ok class → d ≡ class
    among true d e = absurd (cc)
    among false d e = cc

    declared_by : (o : Option Ty) → type_of_name s.table declared.name ≡ o → branch_among declared.at earlier o ≡ Ok class → type_meant s.table declared.name ≡ IsClass class
    declared_by None e is = absurd (cc)
    declared_by (Some SelfType) e is = absurd (cc)
    declared_by (Some (IsClass d)) e is = named_meant s.table declared.name (IsClass d) e ∙ ap (λ (x : ClassId). IsClass x) (among (is_among earlier d) d is)

    by : (b : Bool) → (if b then refuse typing.Case E10 at else branch_among declared.at earlier (type_of_name s.table declared.name)) ≡ Ok class → type_meant s.table declared.name ≡ IsClass class
    by true is = absurd (cc)
    by false is = declared_by (type_of_name s.table declared.name) refl is
