-- The labels of a feature determine its class and its number in the class, and none of them occurs twice.
use Rattle.std.proofs.Common.{◌≡◌, ℕ, ◌+◌, ◌^◌, ◌<◌, ◌≤◌, List, [], ◌++◌, length, get_or, Option}
use Rattle.std.proofs.Common.{Some, None, Bool, true, false, ◌&&◌, refl, ap, ◌∙◌, arith}
use Rattle.std.specs.Prelude.{ℤ, pos, nat_eq, bytes_eq, codes, unwrap_or, slice_get, IfSome, if◌then◌else◌, ◌*◌}
use Rattle.std.specs.List.{list_any}
use Rattle.cool_syntax.specs.declared.file_tree.Feature.{Feature}
use Rattle.cool_syntax.specs.declared.file_tree.Feature.TheVariants.{Method, Attribute}
use Rattle.cool_syntax.specs.Tree.{Tree, tree_size}
use Rattle.mips_isa.specs.Lines.{Name}
use Rattle.cool_classes.specs.declared.class_id.ClassId.{ClassId}
use Rattle.cool_classes.specs.declared.method.MethodRef.TheVariants.{User}
use Rattle.cool_classes.specs.Chains.{Class, class_number, name_of, features_of}
use Rattle.cool_classes.specs.Features.{first_method, name_in}
use Rattle.cool_classes.specs.Tables.{IsTable}
use Rattle.cool_runtime.specs.CodeOfCalls.{enter_lines}
use Rattle.cool_layout.specs.Labels.{method_label}
use Rattle.cool_layout.specs.Members.{offset}
use Rattle.cool_layout.proofs.Counting.{one}
use Rattle.cool_consts.specs.Constants.{Constants}
use Rattle.cool_codegen.specs.Code.{Context, code}
use Rattle.cool_codegen.specs.Features.{initial_value_code, with_formals, attributes_in}
use Rattle.cool_codegen.specs.Labels.{inner}
use Rattle.cool_codegen.specs.Pieces.{mark_lines, leave_lines, store_lines}
use Rattle.cool_codegen.specs.Variables.{Named}
use Rattle.cool_emit.specs.Programs.{placed_code}
use Rattle.cool_emit.proofs.CountedNames.{between, hit, total_one, under, beside}
use Rattle.cool_emit.proofs.NamesApart.{IsWord, kinds, basic_texts, starts_capital, word_starts, sort}
use Rattle.cool_emit.proofs.NamesApart.{class_text, method_text, method_sort, method_class, method_is}
use Rattle.cool_emit.proofs.NamesApart.{kind_at, inner_kind, inner_class, inner_feature, inner_node}
use Rattle.cool_emit.proofs.NamesApart.{inner_small, inner_sort, kind_is, class_is, feature_is, node_is}
use Rattle.cool_emit.proofs.NamesOfClasses.{class_place, own_place}
use Rattle.cool_emit.proofs.MethodsInPlace.{IsFound}
use Rattle.cool_emit.proofs.LabelsOfCode.{marks, marks-append, mark_marks, kind_hit, node_hits, hits, code_marks}
use Rattle.lists.proofs.Numbers.{nat_eq-same}

-- the number of the class to which a label belongs, and the place of its feature

abbrev pub label_class : List Class → Name → ℕ
label_class p x = if starts_capital x then class_place p (class_text x) else inner_class x

abbrev pub method_place : List Feature → List ℕ → ℕ
method_place fs name = unwrap_or (first_method 0 fs name) 0

-- the place of the method that a label names, in the class that it names
abbrev pub named_feature : List Class → Name → ℕ
named_feature p x = method_place (features_of p (class_number (class_place p (class_text x)))) (method_text x)

abbrev pub label_feature : List Class → Name → ℕ
label_feature p x = if starts_capital x then named_feature p x else inner_feature x

-- a label with a capital letter names its class, another one has the class's number
pub class_by_name : (p : List Class) (y : Name) (name : List ℕ) → starts_capital y ≡ true → class_text y ≡ name
    → label_class p y ≡ class_place p name
class_by_name p y name capital text =
    ap (λ (t : Bool). if t then class_place p (class_text y) else inner_class y) capital ∙ ap (class_place p) text

class_by_number : (p : List Class) (y : Name) → starts_capital y ≡ false → label_class p y ≡ inner_class y
class_by_number p y small = ap (λ (t : Bool). if t then class_place p (class_text y) else inner_class y) small

-- and the same of its feature
feature_by_name : (p : List Class) (y : Name) (c : ClassId) (name : List ℕ) → starts_capital y ≡ true
    → class_place p (class_text y) ≡ c.0 → method_text y ≡ name
    → label_feature p y ≡ method_place (features_of p c) name
feature_by_name p y c name capital class method =
    ap (λ (t : Bool). if t then named_feature p y else inner_feature y) capital
    ∙ (λ i. method_place (features_of p (class_number (class i))) (method i))

feature_by_number : (p : List Class) (y : Name) → starts_capital y ≡ false → label_feature p y ≡ inner_feature y
feature_by_number p y small = ap (λ (t : Bool). if t then named_feature p y else inner_feature y) small

-- a label is one of a feature, of these sorts; or one of a class
abbrev pub of_feature : List Class → ℕ → ℕ → ℕ → ℕ → Name → Bool
of_feature p c f low high x = nat_eq f (label_feature p x) && (nat_eq c (label_class p x) && between low high (sort x))

abbrev pub of_class : List Class → ℕ → ℕ → ℕ → Name → Bool
of_class p c low high x = nat_eq c (label_class p x) && between low high (sort x)

-- numbers that are equal, tested
all_equal : (a b c d e f g h : ℕ) (t : Bool) → b ≡ a → d ≡ c → f ≡ e → h ≡ g → t ≡ true
    → (nat_eq a b && (nat_eq c d && (nat_eq e f && (nat_eq g h && t)))) ≡ true
all_equal a b c d e f g h t s u v w holds = rw (s, u, v, w, nat_eq-same a, nat_eq-same c, nat_eq-same e, nat_eq-same g) holds

-- the expression of a feature has fewer nodes than there are numbers
abbrev pub IsSmallFeature : Feature → Type 0
IsSmallFeature (Method m) = tree_size m.body ≤ 2 ^ 64
IsSmallFeature (Attribute a) = IfSome a.init (λ t. tree_size t ≤ 2 ^ 64)

module _ (p : List Class) (x : Name) where
  -- one label within a feature
  inner_label : (c f n k : ℕ) → c < 2 ^ 64 → f < 2 ^ 64 → n < 2 ^ 64 → k < 6
      → kind_hit x c f n (get_or kinds k []) ≤ one (nat_eq k (inner_kind x) && (nat_eq n (inner_node x) && of_feature p c f 3 4 x))
  inner_label c f n k cs fs ns ks =
      let kind = get_or kinds k [] in
      let is = kind_at k ks in
      let y = inner kind c f n in
      let small = inner_small k kind is c f n in
      let feature : label_feature p y ≡ f = feature_by_number p y small ∙ feature_is k kind is c f n cs fs in
      let class : label_class p y ≡ c = class_by_number p y small ∙ class_is k kind is c f n cs in
      hit (λ z. nat_eq k (inner_kind z) && (nat_eq n (inner_node z) && of_feature p c f 3 4 z)) x y
      (all_equal k (inner_kind y) n (inner_node y) f (label_feature p y) c (label_class p y) (between 3 4 (sort y)) (kind_is
      k kind is c f n) (node_is k kind is c f n cs fs ns) feature class (ap (between 3 4) (inner_sort k kind is c f n)))

  -- the labels of the nodes of a feature
  pub inner_once : (c f n : ℕ) → c < 2 ^ 64 → f < 2 ^ 64 → n ≤ 2 ^ 64 → hits x c f 0 n ≤ one (of_feature p c f 3 4 x)
  inner_once c f n cs fs ns =
      total_one (node_hits x c f) 0 n (inner_node x) (of_feature p c f 3 4 x)
      (λ i l u. total_one (λ k. kind_hit x c f i (get_or kinds k [])) 0 6 (inner_kind x) (nat_eq i (inner_node x) && of_feature p c f 3 4 x)
      (λ k m v. inner_label c f i k cs fs (omega arith) (omega arith)))

  -- the code of an expression, as a body
  pub body_once : (s : Context) (g : Constants) (vs : List Named) (t : Tree) → s.class.0 < 2 ^ 64
      → s.feature < 2 ^ 64 → tree_size t ≤ 2 ^ 64
      → marks x (code s g vs 0 0 t) ≤ one (of_feature p s.class.0 s.feature 3 4 x)
  body_once s g vs t cs fs ns = omega (arith, code_marks x s g vs 0 0 t, inner_once s.class.0 s.feature (tree_size t) cs fs ns)

  -- the parts of features with no label

  no_enter : marks x enter_lines ≡ 0
  no_enter = refl

  no_leave : (taken : ℤ) → marks x (leave_lines taken) ≡ 0
  unfolding leave_lines
  no_leave taken = refl

  no_store : (offset : ℤ) (base : ℕ) → marks x (store_lines offset base) ≡ 0
  unfolding store_lines
  no_store offset base = refl

  module _ (table : IsTable p) (c : ClassId) (within : c.0 < length p) (word : IsWord (name_of p c)) where
    -- a method is known by its label and by the labels within it
    both : (k : ℕ) → one (of_feature p c.0 k 2 3 x) + one (of_feature p c.0 k 3 4 x) ≤ one (of_feature p c.0 k 2 4 x)
    both k =
        let a = nat_eq k (label_feature p x) in
        let b = nat_eq c.0 (label_class p x) in
        let r = sort x in
        under a (b && between 2 3 r) (b && between 3 4 r) (b && between 2 4 r)
        (under b (between 2 3 r) (between 3 4 r) (between 2 4 r) (beside 2 3 4 r (omega arith) (omega arith)))

    wide : (k : ℕ) → one (of_feature p c.0 k 3 4 x) ≤ one (of_feature p c.0 k 2 4 x)
    wide k = omega (arith, both k)

    -- the label of a method
    method_once : (k : ℕ) (name : List ℕ) → list_any (bytes_eq (name_of p c)) basic_texts ≡ false
        → name_in (slice_get (features_of p c) k) ≡ name → first_method 0 (features_of p c) name ≡ Some k
        → one (bytes_eq x (method_label p (User c k))) ≤ one (of_feature p c.0 k 2 3 x)
    method_once k name other named found =
        let text = name_in (slice_get (features_of p c) k) in
        let y = method_label p (User c k) in
        let capital : starts_capital y ≡ true = word_starts (name_of p c) (codes "." ++ text) word in
        let names = method_class (name_of p c) text word in
        let own = own_place p table c within in
        let class : label_class p y ≡ c.0 = class_by_name p y (name_of p c) capital names ∙ own in
        let feature : label_feature p y ≡ k =
        feature_by_name p y c name capital (ap (class_place p) names ∙ own) (method_is (name_of p c) text word ∙ named)
        ∙ ap (λ (o : Option ℕ). unwrap_or o 0) found in
        let sorted : between 2 3 (sort y) ≡ true = ap (between 2 3) (method_sort (name_of p c) text word other) in
        hit (of_feature p c.0 k 2 3) x y (rw (feature, class, nat_eq-same k, nat_eq-same c.0) sorted)

    -- an initial value, or none
    initial_once : (files : List (List ℕ)) (g : Constants) (k : ℕ) (o : Option Tree) → c.0 < 2 ^ 64
        → k < 2 ^ 64 → IfSome o (λ t. tree_size t ≤ 2 ^ 64)
        → marks x (initial_value_code (record { table = p; class = c; feature = k; files = files }) g o) ≤ one (of_feature p c.0 k 2 4 x)
    initial_once files g k None cs ks h = omega arith
    initial_once files g k (Some t) cs ks h =
        let s : Context = record { table = p; class = c; feature = k; files = files } in
        let body = code s g (attributes_in p c) 0 0 t in
        let place = pos (offset p c (record { owner = c; index = k })) in
        let store = store_lines place 16 in
        let sum : marks x (body ++ store) ≡ marks x body + marks x store = marks-append x body store in
        let none : marks x store ≡ 0 = no_store place 16 in
        let once : marks x body ≤ one (of_feature p c.0 k 3 4 x) = body_once s g (attributes_in p c) t cs ks h in
        omega (arith, sum, none, once, wide k)

    -- the labels of a feature
    pub feature_once : (files : List (List ℕ)) (g : Constants) (k : ℕ) (f : Feature) → c.0 < 2 ^ 64 → k < 2 ^ 64
        → list_any (bytes_eq (name_of p c)) basic_texts ≡ false
        → IsFound (features_of p c) k f → IsSmallFeature f
        → marks x (placed_code p files g c (record { place = k; feature = f })) ≤ one (of_feature p c.0 k 2 4 x)
    feature_once files g k (Attribute a) cs ks other found small = initial_once files g k a.init cs ks small
    feature_once files g k (Method m) cs ks other found small =
        let s : Context = record { table = p; class = c; feature = k; files = files } in
        let vs = with_formals p m.formals (attributes_in p c) in
        let mark = mark_lines (method_label p (User c k)) in
        let body = code s g vs 0 0 m.body in
        let leave = leave_lines (pos (12 + 4 * length m.formals)) in
        let first : marks x mark ≤ one (of_feature p c.0 k 2 3 x) =
        omega (arith, mark_marks x (method_label p (User c k)), method_once k m.name other (ap name_in found.0) found.1) in
        let once : marks x body ≤ one (of_feature p c.0 k 3 4 x) = body_once s g vs m.body cs ks small in
        let sum : marks x (mark ++ (enter_lines ++ (body ++ leave))) ≡ marks x mark + marks x (enter_lines ++ (body ++ leave)) =
        marks-append x mark (enter_lines ++ (body ++ leave)) in
        let more : marks x (enter_lines ++ (body ++ leave)) ≡ marks x enter_lines + marks x (body ++ leave) =
        marks-append x enter_lines (body ++ leave) in
        let last : marks x (body ++ leave) ≡ marks x body + marks x leave = marks-append x body leave in
        let none : marks x leave ≡ 0 = no_leave (pos (12 + 4 * length m.formals)) in
        let all : marks x (mark ++ (enter_lines ++ (body ++ leave))) ≡ marks x mark + marks x body =
        omega (arith, sum, more, last, none, no_enter) in
        omega (arith, all, first, once, both k)
