-- If the expressions of a class table are replaced by those of the folded table, the result is the folded table.
use Rattle.std.proofs.Common.{◌≡◌, ℕ, zero, suc, ◌+◌, ◌<◌, List, [], ◌∷◌, ◌++◌, map, length, Option, Some, None, ap, sym, ◌∙◌, refl, subst, append_assoc, arith}
use Rattle.std.specs.Prelude.{slice_get, option_map, IsSome}
use Rattle.std.specs.List.{AllByRecursion}
use Rattle.std.proofs.lemmas.List.{length_push}
use Rattle.cool_syntax.specs.declared.file_tree.Feature.{Feature}
use Rattle.cool_syntax.specs.declared.file_tree.Feature.TheVariants.{Method, Attribute}
use Rattle.cool_syntax.specs.Tree.{Tree}
use Rattle.cool_classes.specs.declared.class_id.ClassId.{ClassId}
use Rattle.cool_classes.specs.Bodies.{body_in, body_at, with_body, changed_at, with_body_at}
use Rattle.cool_classes.specs.Chains.{Class, class_number, features_of}
use Rattle.cool_classes.proofs.SwappedBodies.{length_changed}
use Rattle.cool_fold.specs.declared.program.Expression.{Expression}
use Rattle.cool_fold.specs.Expressions.{expression_at, expressions_of, expressions_from}
use Rattle.cool_rules.specs.NodeScopes.{expression_of}
use Rattle.cool_rules.specs.NodeTypes.{own_scope}
use Rattle.cool_fold.specs.Folding.{fold, fold_option, fold_feature, fold_from, fold_table}
use Rattle.lists.proofs.AllItems.{all_append}
use Rattle.lists.proofs.ItemsAt.{seam_get}

-- a table with these expressions in their places, the last one first
abbrev pub replaced : List Expression → List Class → List Class
replaced [] p = p
replaced (e ∷ es) p = with_body_at (replaced es p) e.class e.feature e.body

pub replaced_append : (xs ys : List Expression) (p : List Class) → replaced (xs ++ ys) p ≡ replaced xs (replaced ys p)
replaced_append [] ys p = refl
replaced_append (e ∷ xs) ys p = ap (λ (q : List Class). with_body_at q e.class e.feature e.body) (replaced_append xs ys p)

-- Items of a list that stand behind others

changed_there : {X : Type 0} (f : X → X) (front : List X) (x : X) (back : List X)
    → changed_at (length front) f (front ++ x ∷ back) ≡ front ++ f x ∷ back
changed_there f [] x back = refl
changed_there f (y ∷ front) x back = ap (λ zs. y ∷ zs) (changed_there f front x back)

changed_behind : {X : Type 0} (f : X → X) (front : List X) (x : X) (back : List X) (n : ℕ) → length front ≡ n
    → changed_at n f (front ++ x ∷ back) ≡ front ++ f x ∷ back
changed_behind f front x back n long = subst (λ (k : ℕ). changed_at k f (front ++ x ∷ back) ≡ front ++ f x ∷ back) long (changed_there f front x back)

features_behind : (front : List Class) (d : Class) (back : List Class) → features_of (front ++ d ∷ back) (class_number (length front)) ≡ d.features
features_behind [] d back = refl
features_behind (e ∷ front) d back = features_behind front d back

within_behind : (front : List Class) (d : Class) (back : List Class) → length front < length (front ++ d ∷ back)
within_behind [] d back = omega arith
within_behind (e ∷ front) d back = let h = within_behind front d back in omega arith

-- Features and classes, one after another

-- a feature with this expression; as it is where there is none
abbrev instead : Option Tree → Feature → Feature
instead None x = x
instead (Some t) x = with_body t x

abbrev with_features : Class → List Feature → Class
with_features d fs = record d { features = fs }

module _ (p : List Class) (c : ClassId) where
  folded_instead : (x : Feature) → instead (expression_of (fold_feature p c x)) x ≡ fold_feature p c x
  folded_instead (Method m) = refl
  folded_instead (Attribute a) = by a.init refl
    where
      by : (o : Option Tree) → a.init ≡ o → instead (fold_option p c o) (Attribute a) ≡ Attribute (record a { init = fold_option p c o })
      by None is = ap (λ (i : Option Tree). Attribute (record a { init = i })) is
      by (Some t) is =
          ap (λ (i : Option Tree). Attribute (record a { init = option_map (λ (u : Tree). fold p c (own_scope p c) t) i })) is

  one_replaced : (front back : List Class) (d : Class) (before after : List Feature) (k : ℕ) (x y : Feature) (o : Option Tree)
      → length front ≡ c.0 → length before ≡ k → instead o x ≡ y
      → replaced (expression_at c k o) (front ++ with_features d (before ++ x ∷ after) ∷ back)
      ≡ front ++ with_features d (before ++ y ∷ after) ∷ back
  one_replaced front back d before after k x y None here there is =
      ap (λ (z : Feature). front ++ with_features d (before ++ z ∷ after) ∷ back) is
  one_replaced front back d before after k x y (Some t) here there is =
      changed_behind (λ (e : Class). with_features e (changed_at k (with_body t) e.features)) front (with_features d (before ++ x ∷ after)) back
      c.0 here
      ∙ ap (λ (fs : List Feature). front ++ with_features d fs ∷ back)
      (changed_behind (with_body t) before x after k there ∙ ap (λ (z : Feature). before ++ z ∷ after) is)

  features_replaced : (front back : List Class) (d : Class) (before fs : List Feature) (k : ℕ) → length front ≡ c.0 → length before ≡ k
      → replaced (expressions_of c k (map (fold_feature p c) fs)) (front ++ with_features d (before ++ fs) ∷ back)
      ≡ front ++ with_features d (before ++ map (fold_feature p c) fs) ∷ back
  features_replaced front back d before [] k here there = refl
  features_replaced front back d before (x ∷ fs) k here there =
      let f : Feature → Feature = fold_feature p c in
      let first = expression_at c k (expression_of (f x)) in
      let rest = expressions_of c (k + 1) (map f fs) in
      let table : List Feature → List Class = λ xs. front ++ with_features d xs ∷ back in
      let longer : length (before ++ x ∷ []) ≡ k + 1 = length_push before x ∙ ap (λ (n : ℕ). n + 1) there in
      let after : replaced rest (table (before ++ x ∷ fs)) ≡ table (before ++ x ∷ map f fs) =
      sym (ap (λ (xs : List Feature). replaced rest (table xs)) (append_assoc before (x ∷ []) fs))
      ∙ (features_replaced front back d (before ++ x ∷ []) fs (k + 1) here longer ∙ ap table (append_assoc before (x ∷ []) (map f fs))) in
      replaced_append first rest (table (before ++ x ∷ fs))
      ∙ (ap (replaced first) after ∙ one_replaced front back d before (map f fs) k x (f x) (expression_of (f x)) here there (folded_instead x))

classes_replaced : (p front ds : List Class) (n : ℕ) → length front ≡ n
    → replaced (expressions_from n (fold_from p n ds)) (front ++ ds) ≡ front ++ fold_from p n ds
classes_replaced p front [] n here = refl
classes_replaced p front (d ∷ ds) n here =
    let c = class_number n in
    let first = expressions_of c 0 (map (fold_feature p c) d.features) in
    let folded = fold_from p (n + 1) ds in
    let rest = expressions_from (n + 1) folded in
    let longer : length (front ++ d ∷ []) ≡ n + 1 = length_push front d ∙ ap (λ (k : ℕ). k + 1) here in
    let after : replaced rest (front ++ d ∷ ds) ≡ front ++ d ∷ folded =
    sym (ap (replaced rest) (append_assoc front (d ∷ []) ds))
    ∙ (classes_replaced p (front ++ d ∷ []) ds (n + 1) longer ∙ append_assoc front (d ∷ []) folded) in
    replaced_append first rest (front ++ d ∷ ds) ∙ (ap (replaced first) after ∙ features_replaced p c front folded d [] d.features 0 here refl)

pub all_replaced : (p : List Class) → replaced (expressions_from 0 (fold_table p)) p ≡ fold_table p
all_replaced p = classes_replaced p [] p 0 refl

-- Places that have an expression

-- the table has an expression where this one belongs
abbrev pub HasPlace : List Class → Expression → Type 0
HasPlace p e = (e.class.0 < length p) × IsSome (body_at p e.class e.feature)

some_before : (p : List Class) (c : ClassId) (x : Feature) → IsSome (expression_of (fold_feature p c x)) → IsSome (body_in (Some x))
some_before p c (Method m) some = refl
some_before p c (Attribute a) some = by a.init some
  where
    by : (o : Option Tree) → IsSome (fold_option p c o) → IsSome o
    by None some = some
    by (Some t) some = refl

features_placed : (p : List Class) (c : ClassId) (before fs : List Feature) (k : ℕ) → c.0 < length p → length before ≡ k
    → features_of p c ≡ before ++ fs → AllByRecursion (HasPlace p) (expressions_of c k (map (fold_feature p c) fs))
features_placed p c before [] k within here is = tt
features_placed p c before (x ∷ fs) k within here is =
    all_append (HasPlace p) (expression_at c k (expression_of (fold_feature p c x))) (expressions_of c (k + 1) (map (fold_feature p c) fs))
    (by (expression_of (fold_feature p c x)) (some_before p c x))
    (features_placed p c (before ++ x ∷ []) fs (k + 1) within (length_push before x ∙ ap (λ (n : ℕ). n + 1) here)
    (is ∙ sym (append_assoc before (x ∷ []) fs)))
  where
    there : slice_get (features_of p c) k ≡ Some x
    there = ap (λ (gs : List Feature). slice_get gs k) is ∙ subst (λ (n : ℕ). slice_get (before ++ x ∷ fs) n ≡ Some x) here (seam_get before x fs)

    by : (o : Option Tree) → (IsSome o → IsSome (body_in (Some x))) → AllByRecursion (HasPlace p) (expression_at c k o)
    by None some = tt
    by (Some t) some = ((within, subst (λ (y : Option Feature). IsSome (body_in y)) (sym there) (some refl)), tt)

classes_placed : (p front ds : List Class) (n : ℕ) → length front ≡ n → p ≡ front ++ ds
    → AllByRecursion (HasPlace p) (expressions_from n (fold_from p n ds))
classes_placed p front [] n here is = tt
classes_placed p front (d ∷ ds) n here is =
    let c = class_number n in
    let behind = subst (λ (q : List Class). length front < length q) (sym is) (within_behind front d ds) in
    let within : n < length p = subst (λ (k : ℕ). k < length p) here behind in
    let there : features_of p c ≡ d.features =
    ap (λ (q : List Class). features_of q c) is
    ∙ subst (λ (k : ℕ). features_of (front ++ d ∷ ds) (class_number k) ≡ d.features) here (features_behind front d ds) in
    all_append (HasPlace p) (expressions_of c 0 (map (fold_feature p c) d.features)) (expressions_from (n + 1) (fold_from p (n + 1) ds))
    (features_placed p c [] d.features 0 within refl there)
    (classes_placed p (front ++ d ∷ []) ds (n + 1) (length_push front d ∙ ap (λ (k : ℕ). k + 1) here) (is ∙ sym (append_assoc front (d ∷ []) ds)))

pub all_placed : (p : List Class) → AllByRecursion (HasPlace p) (expressions_from 0 (fold_table p))
all_placed p = classes_placed p [] p 0 refl refl

-- A place that has an expression has one after another one came to its place

value_kept : (t : Tree) (o : Option Tree) → IsSome o → IsSome (option_map (λ (u : Tree). t) o)
value_kept t None some = some
value_kept t (Some u) some = refl

expression_kept : (t : Tree) (x : Feature) → IsSome (body_in (Some x)) → IsSome (body_in (Some (with_body t x)))
expression_kept t (Method m) some = refl
expression_kept t (Attribute a) some = value_kept t a.init some

feature_kept : (t : Tree) (fs : List Feature) (k i : ℕ) → IsSome (body_in (slice_get fs i))
    → IsSome (body_in (slice_get (changed_at k (with_body t) fs) i))
feature_kept t [] k i some = some
feature_kept t (x ∷ fs) zero zero some = expression_kept t x some
feature_kept t (x ∷ fs) zero (suc i) some = some
feature_kept t (x ∷ fs) (suc k) zero some = some
feature_kept t (x ∷ fs) (suc k) (suc i) some = feature_kept t fs k i some

class_kept : (t : Tree) (p : List Class) (n k m i : ℕ) → IsSome (body_at p (class_number m) i)
    → IsSome (body_at (with_body_at p (class_number n) k t) (class_number m) i)
class_kept t [] n k m i some = some
class_kept t (d ∷ ds) zero k zero i some = feature_kept t d.features k i some
class_kept t (d ∷ ds) zero k (suc m) i some = some
class_kept t (d ∷ ds) (suc n) k zero i some = some
class_kept t (d ∷ ds) (suc n) k (suc m) i some = class_kept t ds n k m i some

place_kept : (p : List Class) (c : ClassId) (k : ℕ) (t : Tree) (e : Expression) → HasPlace p e → HasPlace (with_body_at p c k t) e
place_kept p c k t e (within, some) =
    let same = length_changed (λ (d : Class). record d { features = changed_at k (with_body t) d.features }) p c.0 in
    (subst (λ (n : ℕ). e.class.0 < n) (sym same) within, class_kept t p c.0 k e.class.0 e.feature some)

all_kept : (p : List Class) (c : ClassId) (k : ℕ) (t : Tree) (es : List Expression) → AllByRecursion (HasPlace p) es
    → AllByRecursion (HasPlace (with_body_at p c k t)) es
all_kept p c k t [] hs = tt
all_kept p c k t (e ∷ es) (h, hs) = (place_kept p c k t e h, all_kept p c k t es hs)

-- One expression taken from the end

-- the table has all places, and with all expressions in them it becomes this one
pub record Becomes (p : List Class) (es : List Expression) (q : List Class) : Type 0 where
  pub places : AllByRecursion (HasPlace p) es
  pub becomes : replaced es p ≡ q

pub all_becomes : (p : List Class) (es : List Expression) → es ≡ expressions_from 0 (fold_table p) → Becomes p es (fold_table p)
all_becomes p es is =
    subst (λ (xs : List Expression). Becomes p xs (fold_table p)) (sym is) (record { places = all_placed p; becomes = all_replaced p })

-- if no expression is left to replace, the tables are equal
pub nothing_left : (p : List Class) (es : List Expression) (q : List Class) → length es ≡ 0 → Becomes p es q → p ≡ q
nothing_left p [] q none h = h.becomes
nothing_left p (e ∷ es) q none h = absurd (omega arith)

-- a property of all holds of the front and of the last
split_last : (P : Expression → Type 0) (es : List Expression) (e : Expression) → AllByRecursion P (es ++ e ∷ []) → AllByRecursion P es × P e
split_last P [] e (h, hs) = (tt, h)
split_last P (x ∷ es) e (h, hs) = let (front, last) = split_last P es e hs in ((h, front), last)

module _ (p q : List Class) (all rest : List Expression) (e : Expression) (is : all ≡ rest ++ e ∷ []) (h : Becomes p all q) where
  places : AllByRecursion (HasPlace p) rest × HasPlace p e
  places = split_last (HasPlace p) rest e (subst (AllByRecursion (HasPlace p)) is h.places)

  pub last_placed : HasPlace p e
  last_placed = places.1

  pub last_taken : Becomes (with_body_at p e.class e.feature e.body) rest q
  last_taken = record {
    places = all_kept p e.class e.feature e.body rest places.0;
    becomes = sym (replaced_append rest (e ∷ []) p) ∙ (ap (λ (es : List Expression). replaced es p) (sym is) ∙ h.becomes);
  }
