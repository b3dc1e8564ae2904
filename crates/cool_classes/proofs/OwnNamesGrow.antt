-- The maps of the names of features give the first feature of each name, and still do after one more feature or class is added.
use Rattle.std.proofs.Common.{◌≡◌, ℕ, ◌+◌, ◌<◌, ◌≤◌, List, [], ◌∷◌, ◌++◌, map, length, get_or, drop, Option, Some, None, is_some, ◌||◌, Bool, true, false, cond, ap, sym, ◌∙◌, refl, subst, arith}
use Rattle.std.specs.Prelude.{bytes_eq, nat_lt, option_map}
use Rattle.std.specs.Global.{Vec}
use Rattle.std.specs.List.{AllByRecursion}
use Rattle.std.proofs.lemmas.Bool.{ltb-true, ltb-false, le-ltb}
use Rattle.std.proofs.lemmas.List.{map-append, length-append, get_or_append_left, get_or_push, drop_more, at_drop_more}
use Rattle.cool_syntax.specs.declared.file_tree.Feature.{Feature}
use Rattle.cool_syntax.specs.declared.file_tree.Feature.TheVariants.{Method, Attribute}
use Rattle.cool_syntax.specs.declared.file_tree.MethodDef.{MethodDef}
use Rattle.cool_syntax.specs.declared.file_tree.AttributeDef.{AttributeDef}
use Rattle.cool_classes.specs.declared.class_id.ClassId.{ClassId}
use Rattle.cool_classes.specs.declared.own_names.OwnNames.{OwnNames}
use Rattle.cool_classes.specs.declared.own_names.TableNames.{TableNames}
use Rattle.cool_classes.specs.declared.method.MethodRef.TheVariants.{Basic}
use Rattle.cool_classes.specs.Chains.{Class, class_number, features_of}
use Rattle.cool_classes.specs.Entries.{classes}
use Rattle.cool_classes.specs.Features.{first_method, own_method, user_method, method_among, basic_methods}
use Rattle.cool_classes.specs.FirstNames.{first_index, shown_names, FindsFirst, method_name, attribute_name}
use Rattle.cool_classes.specs.OwnNames.{AreOwn, AreAllOwn, AreTableNames}
use Rattle.cool_classes.specs.FeatureFaults.{have_attribute}
use Rattle.cool_classes.proofs.NameIndexes.{finds_none}
use Rattle.lists.proofs.EqualBytes.{bytes_eq-turned}

-- a row of one more feature
row_next : (name : Feature → Option (List ℕ)) (fs : List Feature) (x : Feature) (o : Option (List ℕ)) → name x ≡ o → (entries : List (List ℕ × ℕ))
    → FindsFirst entries (map name fs ++ o ∷ []) → FindsFirst entries (map name (fs ++ x ∷ []))
row_next name fs x o e entries finds =
    subst (FindsFirst entries) (ap (λ (y : Option (List ℕ)). map name fs ++ y ∷ []) (sym e) ∙ sym (map-append name fs (x ∷ []))) finds

-- one more method
pub own_method_next : (own : OwnNames) (methods : List (Vec ℕ × ℕ)) (fs : List Feature) (x : Feature) (m : MethodDef) → x ≡ Method m → AreOwn own fs
    → FindsFirst (shown_names methods) (map method_name fs ++ Some m.name ∷ [])
    → FindsFirst (shown_names methods) (map method_name (fs ++ x ∷ [])) × FindsFirst (shown_names own.attributes.entries) (map attribute_name (fs ++ x ∷ []))
own_method_next own methods fs x m is have finds = (
  row_next method_name fs x (Some m.name) (ap method_name is) (shown_names methods) finds,
  row_next attribute_name fs x None (ap attribute_name is) (shown_names own.attributes.entries) (finds_none (shown_names own.attributes.entries) (map attribute_name fs) have.attributes),
)

-- one more attribute
pub own_attribute_next : (own : OwnNames) (attributes : List (Vec ℕ × ℕ)) (fs : List Feature) (x : Feature) (a : AttributeDef) → x ≡ Attribute a → AreOwn own fs
    → FindsFirst (shown_names attributes) (map attribute_name fs ++ Some a.name ∷ [])
    → FindsFirst (shown_names own.methods.entries) (map method_name (fs ++ x ∷ [])) × FindsFirst (shown_names attributes) (map attribute_name (fs ++ x ∷ []))
own_attribute_next own attributes fs x a is have finds = (
  row_next method_name fs x None (ap method_name is) (shown_names own.methods.entries) (finds_none (shown_names own.methods.entries) (map method_name fs) have.methods),
  row_next attribute_name fs x (Some a.name) (ap attribute_name is) (shown_names attributes) finds,
)

-- the names of one more class's features
pub all_own_next : (k : ℕ) (all : List OwnNames) (p : List Class) (own : OwnNames) → AreAllOwn k all p → AreOwn own (features_of p (class_number k)) → AreAllOwn (k + 1) (all ++ own ∷ []) p
all_own_next k all p own have here = record {
  same = let a = have.same in simp length-append (omega arith);
  own = λ c d less. by c d less (nat_lt c k) refl;
}
  where
    by : (c : ℕ) (d : OwnNames) → c < k + 1 → (b : Bool) → nat_lt c k ≡ b → AreOwn (get_or (all ++ own ∷ []) c d) (features_of p (class_number c))
    by c d less true e =
        let below : c < k = ltb-true c k e in
        let inside : c < length all = let a = have.same in omega arith in
        subst (λ (o : OwnNames). AreOwn o (features_of p (class_number c))) (sym (get_or_append_left all (own ∷ []) d c inside)) (have.own c d below)
    by c d less false e =
        let past : k ≤ c = ltb-false c k e in
        let last : length all ≡ c = let a = have.same in omega arith in
        let same : k ≡ c = omega arith in
        subst (λ (o : OwnNames). AreOwn o (features_of p (class_number c))) (sym (get_or_push all own d c last)) (subst (λ (n : ℕ). AreOwn own (features_of p (class_number n))) same here)

-- the first method of a name is at the first index of the name
pub first_method_index : (k : ℕ) (fs : List Feature) (f : List ℕ) → first_index k (map method_name fs) f ≡ first_method k fs f
first_method_index k [] f = refl
first_method_index k (Method m ∷ fs) f =
    ap (λ (b : Bool). cond b (Some k) (first_index (k + 1) (map method_name fs) f)) (bytes_eq-turned f m.name) ∙ ap (cond (bytes_eq m.name f) (Some k)) (first_method_index (k + 1) fs f)
first_method_index k (Attribute a ∷ fs) f = first_method_index (k + 1) fs f

-- the method that a class of the program has of its own
pub own_of_user : (p : List Class) (c : ClassId) (f : List ℕ) (o : Option ℕ) → 5 ≤ c.0 → o ≡ first_method 0 (features_of p c) f → user_method c o ≡ own_method p c f
own_of_user p c f o past e =
    ap (user_method c) e ∙ sym (ap (λ (b : Bool). cond b (option_map Basic (method_among (basic_methods c.0) f)) (user_method c (first_method 0 (features_of p c) f))) (le-ltb c.0 5 past))

-- the names of one class among those of all
pub own_at : (count : ℕ) (all : List OwnNames) (p : List Class) (c : ClassId) (own : OwnNames) → AreAllOwn count all p → c.0 < count → own ≡ get_or all c.0 own → AreOwn own (features_of p c)
own_at count all p c own have within read = subst (λ (o : OwnNames). AreOwn o (features_of p c)) (sym read) (have.own c.0 own within)

-- the names of a class of a table
pub own_there : (table : TableNames) (c : ClassId) (own : OwnNames) → AreTableNames table → c.0 < length table.entries.now → own ≡ get_or table.own.items c.0 own
    → AreOwn own (features_of (classes table.entries.now) c)
own_there table c own is within read = own_at (length table.entries.now) table.own.items (classes table.entries.now) c own is.own within read

-- a class that has an attribute, among others
pub attribute_here : (p : List Class) (ds : List ClassId) (k : ℕ) (d : ClassId) (f : List ℕ) → k < length ds
    → is_some (first_index 0 (map attribute_name (features_of p (get_or ds k d))) f) ≡ true → have_attribute p (drop k ds) f ≡ true
attribute_here p ds k d f within h =
    at_drop_more (λ (xs : List ClassId). have_attribute p xs f) ds k d within ∙ ap (λ (b : Bool). b || have_attribute p (drop (k + 1) ds) f) h

-- a class that has no such attribute leaves the matter to the others
pub attribute_later : (p : List Class) (ds : List ClassId) (k : ℕ) (d : ClassId) (f : List ℕ) → k < length ds
    → is_some (first_index 0 (map attribute_name (features_of p (get_or ds k d))) f) ≡ false → have_attribute p (drop (k + 1) ds) f ≡ have_attribute p (drop k ds) f
attribute_later p ds k d f within h =
    sym (at_drop_more (λ (xs : List ClassId). have_attribute p xs f) ds k d within ∙ ap (λ (b : Bool). b || have_attribute p (drop (k + 1) ds) f) h)

-- a property of a rest of a list holds of its first item and of the rest after it
pub all_first : {X : Type 0} (P : X → Type 0) (xs : List X) (k : ℕ) (d : X) → k < length xs → AllByRecursion P (drop k xs) → P (get_or xs k d) × AllByRecursion P (drop (k + 1) xs)
all_first P xs k d within h = subst (AllByRecursion P) (drop_more xs k d within) h
