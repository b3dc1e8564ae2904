-- After `swap_body` or `swap_feature`, the class-table entries represent the same classes with one expression or one feature exchanged, and the class table
-- keeps its invariant.
use Rattle.std.proofs.Common.{◌≡◌, ℕ, zero, suc, ◌+◌, ◌<◌, List, [], ◌∷◌, map, length, get_or, set, Option, Some, None, refl, sym, ap, ◌∙◌, subst}
use Rattle.std.specs.Prelude.{slice_get}
use Rattle.std.specs.Global.{Vec}
use Rattle.cool_syntax.specs.declared.file_tree.Feature.{Feature}
use Rattle.cool_syntax.specs.declared.file_tree.Feature.TheVariants.{Method, Attribute}
use Rattle.cool_syntax.specs.Tree.{Tree}
use Rattle.cool_classes.specs.declared.class_id.ClassId.{ClassId}
use Rattle.cool_classes.specs.declared.entry.Entry.{Entry}
use Rattle.cool_classes.specs.declared.own_names.OwnNames.{OwnNames}
use Rattle.cool_classes.specs.Bodies.{with_body, changed_at, with_body_at, with_feature_at}
use Rattle.cool_classes.specs.Chains.{Class, class_number, features_of}
use Rattle.cool_classes.specs.Entries.{classes, as_class, depth_at, entry_changed, entry_with_body, entry_with_feature, no_entry}
use Rattle.cool_classes.specs.FirstNames.{FindsFirst, shown_names, method_name, attribute_name}
use Rattle.cool_classes.specs.OwnNames.{AreOwn, IsIndexed}
use Rattle.cool_classes.specs.Tables.{IsGrounded}
use Rattle.cool_classes.specs.Declarations.{DeclareSame, IsDeclaredBy, AllDeclareSame, AreAllAlike}
use Rattle.cool_classes.proofs.AlikeTables.{features_alike}
use Rattle.cool_classes.proofs.AlikeTablesKept.{table_kept, grounded_kept, lawful_kept}

-- Lists with one item changed

-- an item that is set to what the change makes of it
pub set_changed : {X : Type 0} (f : X → X) (xs : List X) (k : ℕ) (x d : X) → x ≡ f (get_or xs k d) → set xs k x ≡ changed_at k f xs
set_changed f [] k x d is = refl
set_changed f (y ∷ ys) zero x d is = ap (λ z. z ∷ ys) is
set_changed f (y ∷ ys) (suc k) x d is = ap (λ zs. y ∷ zs) (set_changed f ys k x d is)

pub length_changed : {X : Type 0} (f : X → X) (xs : List X) (k : ℕ) → length (changed_at k f xs) ≡ length xs
length_changed f [] k = refl
length_changed f (x ∷ xs) zero = refl
length_changed f (x ∷ xs) (suc k) = ap suc (length_changed f xs k)

-- Entries and the classes that they are seen as

-- a table with the feature at an index of a class changed
abbrev changed_table : List Class → ℕ → ℕ → (Feature → Feature) → List Class
changed_table p n k f = changed_at n (λ (d : Class). record d { features = changed_at k f d.features }) p

seen_changed : (es : List Entry) (n k : ℕ) (f : Feature → Feature) → classes (changed_at n (entry_changed k f) es) ≡ changed_table (classes es) n k f
seen_changed [] n k f = refl
seen_changed (e ∷ es) zero k f = refl
seen_changed (e ∷ es) (suc n) k f = ap (λ (ds : List Class). as_class e ∷ ds) (seen_changed es n k f)

pub seen_with_body : (es : List Entry) (n k : ℕ) (t : Tree)
    → classes (changed_at n (entry_with_body k t) es) ≡ with_body_at (classes es) (class_number n) k t
seen_with_body es n k t = seen_changed es n k (with_body t)

pub seen_with_feature : (es : List Entry) (n k : ℕ) (x : Feature)
    → classes (changed_at n (entry_with_feature k x) es) ≡ with_feature_at (classes es) (class_number n) k x
seen_with_feature es n k x = seen_changed es n k (λ (y : Feature). x)

depth_same : (es : List Entry) (n k m : ℕ) (f : Feature → Feature)
    → (get_or (changed_at n (entry_changed k f) es) m no_entry).depth ≡ (get_or es m no_entry).depth
depth_same [] n k m f = refl
depth_same (e ∷ es) zero k zero f = refl
depth_same (e ∷ es) zero k (suc m) f = refl
depth_same (e ∷ es) (suc n) k zero f = refl
depth_same (e ∷ es) (suc n) k (suc m) f = depth_same es n k m f

-- A table with another feature that declares the same is like the one before

pub declare_self : (x : Feature) → DeclareSame x x
declare_self (Method m) = (refl, refl, refl, refl)
declare_self (Attribute a) = (refl, refl)

pub all_declare_self : (xs : List Feature) → AllDeclareSame xs xs
all_declare_self [] = tt
all_declare_self (x ∷ xs) = (declare_self x, all_declare_self xs)

declare_with : (t : Tree) (x : Feature) → DeclareSame x (with_body t x)
declare_with t (Method m) = (refl, refl, refl, refl)
declare_with t (Attribute a) = (refl, refl)

-- a change keeps what the feature at an index declares
abbrev Keeps : (Feature → Feature) → Option Feature → Type 0
Keeps f None = Unit {0}
Keeps f (Some x) = DeclareSame x (f x)

all_declare_changed : (f : Feature → Feature) (k : ℕ) (xs : List Feature) → Keeps f (slice_get xs k) → AllDeclareSame xs (changed_at k f xs)
all_declare_changed f k [] h = tt
all_declare_changed f zero (x ∷ xs) h = (h, all_declare_self xs)
all_declare_changed f (suc k) (x ∷ xs) h = (declare_self x, all_declare_changed f k xs h)

pub all_alike_self : (ds : List Class) → AreAllAlike ds ds
all_alike_self [] = tt
all_alike_self (d ∷ ds) = ((refl, refl, all_declare_self d.features), all_alike_self ds)

alike_changed : (p : List Class) (n k : ℕ) (f : Feature → Feature) → Keeps f (slice_get (features_of p (class_number n)) k)
    → AreAllAlike p (changed_table p n k f)
alike_changed [] n k f h = tt
alike_changed (d ∷ ds) zero k f h = ((refl, refl, all_declare_changed f k d.features h), all_alike_self ds)
alike_changed (d ∷ ds) (suc n) k f h = ((refl, refl, all_declare_self d.features), alike_changed ds n k f h)

keeps_with : (t : Tree) (o : Option Feature) → Keeps (with_body t) o
keeps_with t None = tt
keeps_with t (Some x) = declare_with t x

keeps_declared : (x : Feature) (o : Option Feature) → IsDeclaredBy x o → Keeps (λ (y : Feature). x) o
keeps_declared x None h = tt
keeps_declared x (Some y) h = h

pub alike_with_feature : (p : List Class) (n k : ℕ) (x : Feature) → IsDeclaredBy x (slice_get (features_of p (class_number n)) k)
    → AreAllAlike p (with_feature_at p (class_number n) k x)
alike_with_feature p n k x h =
    alike_changed p n k (λ (y : Feature). x) (keeps_declared x (slice_get (features_of p (class_number n)) k) h)

-- Names

pub class_names_same : (ds ds' : List Class) → AreAllAlike ds ds' → map (λ (d : Class). Some d.name) ds' ≡ map (λ (d : Class). Some d.name) ds
class_names_same [] [] h = refl
class_names_same [] (d' ∷ ds') h = absurd h
class_names_same (d ∷ ds) [] h = absurd h
class_names_same (d ∷ ds) (d' ∷ ds') h = λ i. Some (h.0.0 i) ∷ class_names_same ds ds' h.1 i

method_row_same : (xs xs' : List Feature) → AllDeclareSame xs xs' → map method_name xs' ≡ map method_name xs
method_row_same [] [] h = refl
method_row_same [] (x' ∷ xs') h = absurd h
method_row_same (x ∷ xs) [] h = absurd h
method_row_same (Method m ∷ xs) (Method m' ∷ xs') (h, hs) = λ i. Some (h.0 i) ∷ method_row_same xs xs' hs i
method_row_same (Method m ∷ xs) (Attribute a ∷ xs') (h, hs) = absurd h
method_row_same (Attribute a ∷ xs) (Method m ∷ xs') (h, hs) = absurd h
method_row_same (Attribute a ∷ xs) (Attribute a' ∷ xs') (h, hs) = λ i. None ∷ method_row_same xs xs' hs i

pub attribute_row_same : (xs xs' : List Feature) → AllDeclareSame xs xs' → map attribute_name xs' ≡ map attribute_name xs
attribute_row_same [] [] h = refl
attribute_row_same [] (x' ∷ xs') h = absurd h
attribute_row_same (x ∷ xs) [] h = absurd h
attribute_row_same (Method m ∷ xs) (Method m' ∷ xs') (h, hs) = λ i. None ∷ attribute_row_same xs xs' hs i
attribute_row_same (Method m ∷ xs) (Attribute a ∷ xs') (h, hs) = absurd h
attribute_row_same (Attribute a ∷ xs) (Method m ∷ xs') (h, hs) = absurd h
attribute_row_same (Attribute a ∷ xs) (Attribute a' ∷ xs') (h, hs) = λ i. Some (h.0 i) ∷ attribute_row_same xs xs' hs i

own_kept : (own : OwnNames) (xs xs' : List Feature) → AllDeclareSame xs xs' → AreOwn own xs → AreOwn own xs'
own_kept own xs xs' alike h = record {
  methods = subst (FindsFirst (shown_names own.methods.entries)) (sym (method_row_same xs xs' alike)) h.methods;
  attributes = subst (FindsFirst (shown_names own.attributes.entries)) (sym (attribute_row_same xs xs' alike)) h.attributes;
}

-- Tables

module _ (es : List Entry) (n k : ℕ) (f : Feature → Feature) (keeps : Keeps f (slice_get (features_of (classes es) (class_number n)) k)) where
  abbrev new : List Entry
  new = changed_at n (entry_changed k f) es

  alike_new : AreAllAlike (classes es) (classes new)
  alike_new = subst (AreAllAlike (classes es)) (sym (seen_changed es n k f)) (alike_changed (classes es) n k f keeps)

  grounded_new : IsGrounded (classes es) (depth_at es) → IsGrounded (classes new) (depth_at new)
  grounded_new g =
      let kept = grounded_kept (classes es) (classes new) alike_new (depth_at es) g in
      let same : (c : ClassId) → depth_at new c ≡ depth_at es c = λ c. depth_same es n k c.0 f in
      record {
        above = λ c q within is.
            let h = kept.above c q within is in (h.0, same c ∙ (h.1 ∙ ap (λ (m : ℕ). m + 1) (sym (same q))));
        top = λ c within none. let h = kept.top c within none in (h.0, same c ∙ h.1);
      }

  indexed_changed : (named : List (Vec ℕ × ℕ)) (all : List OwnNames) → IsIndexed es named all → IsIndexed new named all
  indexed_changed named all h =
      let long = length_changed (entry_changed k f) es n in
      record {
        whole = record { table = table_kept (classes es) (classes new) alike_new h.whole.table; grounded = grounded_new h.whole.grounded };
        lawful = lawful_kept (classes es) (classes new) alike_new h.lawful;
        names = subst (FindsFirst (shown_names named)) (sym (class_names_same (classes es) (classes new) alike_new)) h.names;
        own = record {
          same = h.own.same ∙ sym long;
          own = λ c d within.
              own_kept (get_or all c d) (features_of (classes es) (class_number c)) (features_of (classes new) (class_number c))
              (features_alike (classes es) (classes new) (class_number c) alike_new)
              (h.own.own c d (subst (λ (m : ℕ). c < m) long within));
        };
      }

-- the entries are still those of a whole table that keeps the rules, and their names are those that they were
pub indexed_with_body : (es : List Entry) (n k : ℕ) (t : Tree) (named : List (Vec ℕ × ℕ)) (all : List OwnNames) → IsIndexed es named all
    → IsIndexed (changed_at n (entry_with_body k t) es) named all
indexed_with_body es n k t = indexed_changed es n k (with_body t) (keeps_with t (slice_get (features_of (classes es) (class_number n)) k))

pub indexed_with_feature : (es : List Entry) (n k : ℕ) (x : Feature) → IsDeclaredBy x (slice_get (features_of (classes es) (class_number n)) k)
    → (named : List (Vec ℕ × ℕ)) (all : List OwnNames) → IsIndexed es named all → IsIndexed (changed_at n (entry_with_feature k x) es) named all
indexed_with_feature es n k x h =
    indexed_changed es n k (λ (y : Feature). x) (keeps_declared x (slice_get (features_of (classes es) (class_number n)) k) h)
