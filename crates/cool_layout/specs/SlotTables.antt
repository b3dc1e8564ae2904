-- `IsTableFor` says that the code's dispatch table for a class is right: it has the methods of the class by slot, and the slots of the class's own methods by
-- name.
use Rattle.std.specs.Prelude.{◌≡◌, ℕ, ◌+◌, ◌<◌, ◌≤◌, List, [], ◌∷◌, map, length, get_or, position, unwrap_or, Option, Some, None, true, false, nat_lt, bytes_eq, if◌then◌else◌, IfSome}
use Rattle.std.specs.List.{list_any, position_or_len}
use Rattle.std.specs.Map.{lookup}
use Rattle.std.specs.Global.{Vec}
use Rattle.cool_syntax.specs.declared.file_tree.Feature.{Feature}
use Rattle.cool_syntax.specs.declared.file_tree.Feature.TheVariants.{Method, Attribute}
use Rattle.cool_classes.specs.declared.class_id.ClassId.{ClassId}
use Rattle.cool_classes.specs.declared.method.BasicMethod.TheVariants.{Abort}
use Rattle.cool_classes.specs.declared.method.MethodRef.{MethodRef}
use Rattle.cool_classes.specs.declared.method.MethodRef.TheVariants.{Basic, User}
use Rattle.cool_classes.specs.Chains.{Class, class_number, parent_of, features_of}
use Rattle.cool_classes.specs.Features.{NamedMethod, basic_methods, implementation, first_of}
use Rattle.cool_classes.specs.ClimbedChains.{chain}
use Rattle.cool_layout.specs.declared.slots.Table.{Table}
use Rattle.cool_layout.specs.Preorder.{preorder}
use Rattle.cool_layout.specs.Members.{with_new, slots}

-- a method of a class's own
pub record OwnMethod : Type 0 where
  pub name : List ℕ
  pub method : MethodRef

abbrev pub names_of : List OwnMethod → List (List ℕ)
names_of = map (λ m. m.name)

-- the first method of this name
abbrev pub own_among : List OwnMethod → List ℕ → Option MethodRef
own_among [] f = None
own_among (m ∷ ms) f = if bytes_eq m.name f then Some m.method else own_among ms f

abbrev pub basic_own : List NamedMethod → List OwnMethod
basic_own = map (λ m. record { name = m.name; method = Basic m.method })

abbrev pub user_own : ClassId → ℕ → List Feature → List OwnMethod
user_own c k [] = []
user_own c k (Method m ∷ fs) = record { name = m.name; method = User c k } ∷ user_own c (k + 1) fs
user_own c k (Attribute a ∷ fs) = user_own c (k + 1) fs

abbrev pub own_methods : List Class → ClassId → List OwnMethod
own_methods p c = if nat_lt c.0 5 then basic_own (basic_methods c.0) else user_own c 0 (features_of p c)

abbrev pub slots_shown : List (Vec ℕ × ℕ) → List (List ℕ × ℕ)
slots_shown = map (λ entry. (entry.0.items, entry.1))

-- no name occurs twice
abbrev pub AreOnce : List (List ℕ) → Type 0
AreOnce xs = (j : ℕ) (d : List ℕ) → j < length xs → position_or_len (bytes_eq (get_or xs j d)) xs ≡ j

-- The table has the methods `own` of a class, after the slots `above` of its parent, whose methods are `inherited`.
pub record IsTableFor (above : List (List ℕ)) (inherited : List ℕ → Option MethodRef) (own : List OwnMethod) (t : Table) : Type 0 where
  pub found : (f : List ℕ) (k : ℕ) → lookup (bytes_eq f) (slots_shown t.own.entries) ≡ Some k → position (bytes_eq f) (with_new above (names_of own)) ≡ Some k
  pub seen : (f : List ℕ) (k : ℕ) → lookup (bytes_eq f) (slots_shown t.own.entries) ≡ Some k → list_any (bytes_eq f) (names_of own) ≡ true
  pub once : AreOnce (with_new above (names_of own))
  pub missing : (f : List ℕ) → lookup (bytes_eq f) (slots_shown t.own.entries) ≡ None → list_any (bytes_eq f) (names_of own) ≡ false
  pub methods : t.methods.items ≡ map (λ f. unwrap_or (first_of (own_among own f) (inherited f)) (Basic Abort)) (with_new above (names_of own))

-- the class of a tag
abbrev pub class_of : List Class → ℕ → ClassId
class_of p k = get_or (preorder p) k (class_number 0)

-- the slots of the class of a tag, if there is one, and its methods
abbrev pub slots_in : List Class → Option ℕ → List (List ℕ)
slots_in p None = []
slots_in p (Some j) = slots p (class_of p j)

abbrev pub methods_in : List Class → Option ℕ → List ℕ → Option MethodRef
methods_in p None f = None
methods_in p (Some j) f = implementation p (chain p (class_of p j)) f

-- the tag, if any, is that of the parent of the class with the tag `k`, and it is less
abbrev pub IsAbove : List Class → ℕ → Option ℕ → Type 0
IsAbove p k None = parent_of p (class_of p k) ≡ None
IsAbove p k (Some j) = (j < k) × (parent_of p (class_of p k) ≡ Some (class_of p j))

pub record IsTableAt (p : List Class) (k : ℕ) (t : Table) : Type 0 where
  pub above : IsAbove p k t.above
  pub table : IsTableFor (slots_in p t.above) (methods_in p t.above) (own_methods p (class_of p k)) t

-- each table comes after that of the parent
abbrev pub AreLow : List Table → Type 0
AreLow all = (k : ℕ) (d : Table) → k < length all → IfSome (get_or all k d).above (λ j. j < k)

pub record AreTables (p : List Class) (n : ℕ) (all : List Table) : Type 0 where
  pub same : length all ≡ n
  pub low : n ≤ length p
  pub tables : (k : ℕ) (d : Table) → k < n → IsTableAt p k (get_or all k d)

-- a table under construction has these methods of its class, after those of the parent
abbrev pub Has : List Class → List OwnMethod → Table → Type 0
Has p own t = IsTableFor (slots_in p t.above) (methods_in p t.above) own t
