-- Lemmas on the map from each method name to the classes that define a method of this name: `add` adds one class to it, and `is_redefined` searches it.
use Rattle.std.proofs.Common.{cond, ◌≡◌, ℕ, zero, suc, ◌+◌, ◌<◌, ◌≤◌, List, [], ◌∷◌, ◌++◌, length, get_or, Option, Some, None, Bool as Truth, true, false, true≢false, refl, ap, sym, ◌∙◌, arith}
use Rattle.std.specs.Prelude.{Result, OnOk, Ok, Err, ◌&&◌, ◌||◌, not, bytes_eq, is_some, option_map, if◌then◌else◌}
use Rattle.std.specs.Borrow.{Bor}
use Rattle.std.specs.Global.{Vec}
use Rattle.std.specs.List.{list_any}
use Rattle.std.specs.Map.{lookup}
use Rattle.std.proofs.lemmas.List.Folds.{list_any-append}
use Rattle.std.proofs.lemmas.Slice.Eq.{bytes_eq-Decides}
use Rattle.cool_syntax.specs.declared.file_tree.Feature.{Feature}
use Rattle.cool_classes.specs.declared.class_id.ClassId.{ClassId}
use Rattle.cool_classes.specs.declared.method.MethodRef.TheVariants.{Basic}
use Rattle.cool_classes.specs.Chains.{Class, features_of}
use Rattle.cool_classes.specs.Features.{basic_methods, first_method, is_method_named, method_among, own_method, user_method}
use Rattle.std.proofs.lemmas.Bool.{lt-ltb, le-ltb, ltb-true}
use Rattle.std.proofs.Math.Dec.{ltb}
use Rattle.cool_classes.specs.Chains.{class_number}
use Rattle.cool_fold.specs.declared.definers.Definers.{Definers}
use Rattle.cool_fold.specs.Folding.{classes_from}
use Rattle.cool_fold.specs.Definers.{classes_in, definers_in, Adds, AreDefiners}

-- one test more, of those that a class passes for a name
step : (a g e r : Truth) → ((a || (g && e)) || (g && r)) ≡ (a || (g && (e || r)))
step true g e r = refl
step false true e r = refl
step false false e r = refl

pub later : (now a g e r : Truth) → now ≡ (a || (g && e)) → (now || (g && r)) ≡ (a || (g && (e || r)))
later now a g e r h = ap (λ (b : Truth). b || (g && r)) h ∙ step a g e r

pub none_left : (a g : Truth) → (a || (g && false)) ≡ a
none_left true g = refl
none_left false true = refl
none_left false false = refl

or_assoc : (a b c : Truth) → ((a || b) || c) ≡ (a || (b || c))
or_assoc true b c = refl
or_assoc false b c = refl

pub class_later : (now a b c : Truth) → now ≡ (a || b) → (now || c) ≡ (a || (b || c))
class_later now a b c h = ap (λ (x : Truth). x || c) h ∙ or_assoc a b c

-- a class has a method of its own where one of its methods has the name

first_any : (k : ℕ) (fs : List Feature) (name : List ℕ) → is_some (first_method k fs name) ≡ list_any (is_method_named name) fs
first_any k [] name = refl
first_any k (x ∷ fs) name = by (is_method_named name x) (first_any (k + 1) fs name)
  where
    by : (b : Truth) → is_some (first_method (k + 1) fs name) ≡ list_any (is_method_named name) fs
        → is_some (if b then Some k else first_method (k + 1) fs name) ≡ (b || list_any (is_method_named name) fs)
    by true h = refl
    by false h = h

of_user : (c : ClassId) (o : Option ℕ) → is_some (user_method c o) ≡ is_some o
of_user c None = refl
of_user c (Some k) = refl

pub own_features : (p : List Class) (c : ClassId) (name : List ℕ) → 5 ≤ c.0
    → is_some (own_method p c name) ≡ list_any (is_method_named name) (features_of p c)
own_features p c name least =
    let basic = option_map Basic (method_among (basic_methods c.0) name) in
    let first = first_method 0 (features_of p c) name in
    ap (λ (b : Truth). is_some (if b then basic else user_method c first)) (le-ltb c.0 5 least)
    ∙ of_user c first
    ∙ first_any 0 (features_of p c) name

-- the classes before a number are all of the table

holds_not : (f : ClassId → Truth) (xs : List ClassId) (i : ℕ) (other : ClassId) → list_any f xs ≡ false → i < length xs
    → f (get_or xs i other) ≡ false
holds_not f [] i other none less = absurd (omega arith)
holds_not f (y ∷ xs) i other none less = by (f y) refl none i less (λ j h. holds_not f xs j other h)
  where
    by : (b : Truth) → f y ≡ b → (b || list_any f xs) ≡ false → (i : ℕ) → i < length (y ∷ xs)
        → ((j : ℕ) → list_any f xs ≡ false → j < length xs → f (get_or xs j other) ≡ false) → f (get_or (y ∷ xs) i other) ≡ false
    by true e h i less rest = absurd (true≢false h)
    by false e h zero less rest = e
    by false e h (suc i) less rest = rest i h (omega arith)

none_past : (k n m : ℕ) (has : ClassId → Truth) → k + n ≤ m → list_any (λ c. not (ltb c.0 m) && has c) (classes_from k n) ≡ false
none_past k zero m has within = refl
none_past k (suc n) m has within =
    let rest = list_any (λ c. not (ltb c.0 m) && has c) (classes_from (k + 1) n) in
    ap (λ (b : Truth). (not b && has (class_number k)) || rest) (lt-ltb k m (omega arith))
    ∙ none_past (k + 1) n m has (omega arith)

pub definer_within : (p : List Class) (d : Definers) (name : List ℕ) (items : List ClassId) (i : ℕ) (other : ClassId) → AreDefiners p d
    → items ≡ definers_in d.by_name.entries name → i < length items → (get_or items i other).0 < length p
definer_within p d name items i other are same less =
    let outside : ClassId → Truth = λ x. not (ltb x.0 (length p)) in
    let has : ClassId → Truth = λ x. is_some (own_method p x name) in
    let none = ap (list_any outside) same ∙ are outside name ∙ none_past 0 (length p) (length p) has (omega arith) in
    by (ltb (get_or items i other).0 (length p)) refl (holds_not outside items i other none less)
  where
    by : (b : Truth) → ltb (get_or items i other).0 (length p) ≡ b → not (ltb (get_or items i other).0 (length p)) ≡ false
        → (get_or items i other).0 < length p
    by true e h = ltb-true (get_or items i other).0 (length p) e
    by false e h = absurd (true≢false (sym (ap not e) ∙ h))

-- a class stands with one name more

with_truth : (b : Truth) → (b || false) ≡ (b && true)
with_truth true = refl
with_truth false = refl

pub definers_later : (es now : List (Bor (List ℕ) × Vec ClassId)) (key : List ℕ) (classes : Vec ClassId) (c : ClassId)
    → (f : ClassId → Truth) (name : List ℕ)
    → lookup (λ k. bytes_eq name k.now) now ≡ cond (bytes_eq key name) (Some classes) (lookup (λ k. bytes_eq name k.now) es)
    → classes.items ≡ definers_in es key ++ c ∷ []
    → list_any f (definers_in now name) ≡ (list_any f (definers_in es name) || (f c && bytes_eq key name))
definers_later es now key classes c f name updated items = by (bytes_eq key name) refl updated
  where
    by : (b : Truth) → bytes_eq key name ≡ b
        → lookup (λ k. bytes_eq name k.now) now ≡ cond b (Some classes) (lookup (λ k. bytes_eq name k.now) es)
        → list_any f (definers_in now name) ≡ (list_any f (definers_in es name) || (f c && b))
    by true e h =
        ap (λ o. list_any f (classes_in o)) h
        ∙ ap (list_any f) items
        ∙ list_any-append f (definers_in es key) (c ∷ [])
        ∙ (λ i. list_any f (definers_in es ((bytes_eq-Decides key name).0 e i)) || with_truth (f c) i)
    by false e h = ap (λ o. list_any f (classes_in o)) h ∙ sym (none_left (list_any f (definers_in es name)) (f c))

-- a test that is the same for each name
pub adds_alike : {T E : Type 0} (result : Result T E) (c : ClassId) (has same : List ℕ → Truth)
    → (old now : List (Bor (List ℕ) × Vec ClassId)) → ((name : List ℕ) → has name ≡ same name)
    → OnOk result (Adds c has old now) → OnOk result (Adds c same old now)
adds_alike (Ok x) c has same old now alike adds = λ f name.
    adds f name ∙ ap (λ (b : Truth). list_any f (definers_in old name) || (f c && b)) (alike name)
adds_alike (Err e) c has same old now alike adds = adds
