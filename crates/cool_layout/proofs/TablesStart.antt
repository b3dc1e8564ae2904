-- A dispatch table has the methods of the parent's table at first, and the methods of its own class in the end.
use Rattle.std.proofs.Common.{◌≡◌, ℕ, ◌+◌, ◌<◌, List, [], ◌∷◌, length, map, Option, Some, None, Bool, true, false, refl, sym, ap, ◌∙◌, arith}
use Rattle.std.specs.Prelude.{bytes_eq, nat_lt, unwrap_or, if◌then◌else◌, option_map}
use Rattle.std.specs.Map.{lookup}
use Rattle.cool_syntax.specs.declared.file_tree.Feature.{Feature}
use Rattle.cool_syntax.specs.declared.file_tree.Feature.TheVariants.{Method, Attribute}
use Rattle.cool_classes.specs.declared.class_id.ClassId.{ClassId}
use Rattle.cool_classes.specs.declared.method.BasicMethod.TheVariants.{Abort}
use Rattle.cool_classes.specs.declared.method.MethodRef.{MethodRef}
use Rattle.cool_classes.specs.declared.method.MethodRef.TheVariants.{Basic, User}
use Rattle.cool_classes.specs.Chains.{Class, features_of}
use Rattle.cool_classes.specs.Features.{NamedMethod, basic_methods, method_among, first_method, user_method, own_method, first_of, implementation}
use Rattle.cool_classes.specs.ClimbedChains.{chain}
use Rattle.cool_layout.specs.declared.slots.Table.{Table}
use Rattle.cool_layout.specs.Members.{own_names, with_new, slots_of, methods, method}
use Rattle.cool_layout.specs.Roots.{IsRooted}
use Rattle.cool_layout.specs.SlotTables.{names_of, own_among, basic_own, user_own, own_methods, slots_shown, AreOnce, IsTableAt, class_of, slots_in, methods_in, IsAbove, Has}
use Rattle.cool_layout.proofs.ShortChains.{chain_step, chain_end}
use Rattle.cool_layout.proofs.TagRanges.{tag_at}
use Rattle.cool_layout.proofs.TablesGrow.{once_with_new}
use Rattle.cool_layout.proofs.FindingSlots.{slots_are}

-- the first of a name among a class's own is its method

basic_among : (ms : List NamedMethod) (f : List ℕ) → own_among (basic_own ms) f ≡ option_map Basic (method_among ms f)
basic_among [] f = refl
basic_among (m ∷ ms) f = by (bytes_eq m.name f) (basic_among ms f)
  where
    by : (b : Bool) → own_among (basic_own ms) f ≡ option_map Basic (method_among ms f) → (if b then Some (Basic m.method) else own_among (basic_own ms) f) ≡ option_map Basic (if b then Some m.method else method_among ms f)
    by true h = refl
    by false h = h

user_among : (c : ClassId) (k : ℕ) (fs : List Feature) (f : List ℕ) → own_among (user_own c k fs) f ≡ user_method c (first_method k fs f)
user_among c k [] f = refl
user_among c k (Attribute a ∷ fs) f = user_among c (k + 1) fs f
user_among c k (Method m ∷ fs) f = by (bytes_eq m.name f) (user_among c (k + 1) fs f)
  where
    by : (b : Bool) → own_among (user_own c (k + 1) fs) f ≡ user_method c (first_method (k + 1) fs f) → (if b then Some (User c k) else own_among (user_own c (k + 1) fs) f) ≡ user_method c (if b then Some k else first_method (k + 1) fs f)
    by true h = refl
    by false h = h

pub among_own : (p : List Class) (c : ClassId) (f : List ℕ) → own_among (own_methods p c) f ≡ own_method p c f
among_own p c f = by (nat_lt c.0 5)
  where
    by : (b : Bool) → own_among (if b then basic_own (basic_methods c.0) else user_own c 0 (features_of p c)) f ≡ (if b then option_map Basic (method_among (basic_methods c.0) f) else user_method c (first_method 0 (features_of p c) f))
    by true = basic_among (basic_methods c.0) f
    by false = user_among c 0 (features_of p c) f

-- the method of a name, by the class above
method_step : (p : List Class) → IsRooted p → (k : ℕ) → k < length p → (o : Option ℕ) → IsAbove p k o → (f : List ℕ)
    → first_of (own_among (own_methods p (class_of p k)) f) (methods_in p o f) ≡ implementation p (chain p (class_of p k)) f
method_step p r k low None top f = ap (λ m. first_of m None) (among_own p (class_of p k) f) ∙ sym (ap (λ (ds : List ClassId). implementation p ds f) (chain_end p r (class_of p k) (tag_at p r k low).1 top))
method_step p r k low (Some j) up f =
    ap (λ m. first_of m (implementation p (chain p (class_of p j)) f)) (among_own p (class_of p k) f)
    ∙ sym (ap (λ (ds : List ClassId). implementation p ds f) (chain_step p r (class_of p k) (class_of p j) (tag_at p r k low).1 up.1))

map_equal : (g h : List ℕ → MethodRef) (xs : List (List ℕ)) → ((x : List ℕ) → g x ≡ h x) → map g xs ≡ map h xs
map_equal g h [] same = refl
map_equal g h (x ∷ xs) same = ap (λ y. y ∷ map g xs) (same x) ∙ ap (λ ys. h x ∷ ys) (map_equal g h xs same)

-- a table has the methods of its class
pub methods_are : (p : List Class) → IsRooted p → (k : ℕ) → k < length p → (t : Table) → IsTableAt p k t → t.methods.items ≡ methods p (class_of p k)
methods_are p r k low t is =
    is.table.methods
    ∙ map_equal (λ f. unwrap_or (first_of (own_among (own_methods p (class_of p k)) f) (methods_in p t.above f)) (Basic Abort)) (method p (class_of p k)) (with_new (slots_in p t.above) (names_of (own_methods p (class_of p k))))
    (λ f. ap (λ m. unwrap_or m (Basic Abort)) (method_step p r k low t.above is.above f))
    ∙ ap (map (method p (class_of p k))) (slots_are p r k low t.above is.above)

-- slots stand once
once_chain : (p : List Class) (ds : List ClassId) → AreOnce (slots_of p ds)
once_chain p [] = λ j d l. absurd (omega arith)
once_chain p (c ∷ ds) = once_with_new (slots_of p ds) (own_names p c) (once_chain p ds)

pub once_in : (p : List Class) (o : Option ℕ) → AreOnce (slots_in p o)
once_in p None = λ j d l. absurd (omega arith)
once_in p (Some j) = once_chain p (chain p (class_of p j))

-- the methods to begin with
abbrev pub methods_first : List Class → Option ℕ → List MethodRef
methods_first p None = []
methods_first p (Some j) = methods p (class_of p j)

pub start : (p : List Class) (t : Table) → t.own.entries ≡ [] → t.methods.items ≡ methods_first p t.above → Has p [] t
start p t empty first = record {
  found = λ f k h. absurd (nothing f k h);
  seen = λ f k h. absurd (nothing f k h);
  once = once_in p t.above;
  missing = λ f h. refl;
  methods = first ∙ by t.above;
}
  where
    nothing : (f : List ℕ) (k : ℕ) → lookup (bytes_eq f) (slots_shown t.own.entries) ≡ Some k → ⊥
    nothing f k h = none (ap (λ es. lookup (bytes_eq f) (slots_shown es)) (sym empty) ∙ h)
      where
        none : None ≡ Some k → ⊥
        none e = absurd (cc)

    by : (o : Option ℕ) → methods_first p o ≡ map (λ f. unwrap_or (first_of (own_among [] f) (methods_in p o f)) (Basic Abort)) (with_new (slots_in p o) [])
    by None = refl
    by (Some j) = refl
