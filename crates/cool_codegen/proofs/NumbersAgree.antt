-- An expression has the same code for two constant tables that give its constants the same numbers, because code names constants by their numbers. A table that
-- is extended by more constants keeps the numbers of those that it has.
use Rattle.std.proofs.Common.{◌≡◌, ℕ, ◌+◌, List, [], ◌∷◌, ◌++◌, refl, sym, ◌∙◌, ap, append_assoc, append-nil}
use Rattle.std.specs.Prelude.{codes, length, nat_eq, bytes_eq, if◌then◌else◌, Bool, true, false}
use Rattle.std.specs.List.{AllByRecursion, position_or_len, list_any}
use Rattle.cool_syntax.specs.declared.place.Place.{Place}
use Rattle.cool_syntax.specs.declared.node.NodeId.{NodeId}
use Rattle.cool_syntax.specs.declared.operator.ArithOp.{ArithOp}
use Rattle.cool_syntax.specs.declared.operator.ArithOp.TheVariants as arith_op
use Rattle.cool_syntax.specs.Tree.{Tree, Trees, MaybeTree, Cases, Last, More, Without, With, NoCase, CaseOf, tree_size, maybe_size}
use Rattle.cool_syntax.specs.Tree as trees
use Rattle.mips_isa.specs.Lines.{Name}
use Rattle.cool_classes.specs.declared.class_id.Ty.{Ty}
use Rattle.cool_consts.specs.Constants.{Constants, with_integer, with_string, integer_number, string_number}
use Rattle.cool_codegen.specs.Pieces.{turn_lines}
use Rattle.cool_codegen.specs.Types.{class_meant, trees_count}
use Rattle.cool_codegen.specs.Variables.{Named, bind}
use Rattle.cool_classes.specs.ClimbedChains.{above}
use Rattle.cool_rules.specs.Rules.{type_meant}
use Rattle.cool_syntax.specs.NodeLists.{root}
use Rattle.cool_codegen.specs.Arms.{Arm, with_arm}
use Rattle.cool_codegen.specs.Asked.{Extends, integers_in, integers_in_all, integers_in_maybe, integers_in_cases, strings_in, strings_in_all, strings_in_maybe, strings_in_cases, files_of, with_integers, with_strings}
use Rattle.cool_codegen.specs.Code.{Context, code, arguments_code, items_code, initial_code, arms_code, label_at, range_code, integer_label, string_label, file_label, arith_code}
use Rattle.cool_codegen.specs.Numbered.{after}
use Rattle.cool_codegen.proofs.NumbersStay.{stays}
use Rattle.lists.proofs.Numbers.{nat_eq-same}
use Rattle.lists.proofs.EqualBytes.{bytes_eq-same}
use Rattle.lists.proofs.AllItems.{all_left, all_right}

-- two tables give these integers, and these strings, one number
abbrev pub SameIntegers : Constants → Constants → List ℕ → Type 0
SameIntegers g h ns = AllByRecursion (λ n. integer_label g n ≡ integer_label h n) ns

abbrev pub SameStrings : Constants → Constants → List (List ℕ) → Type 0
SameStrings g h bs = AllByRecursion (λ b. string_label g b ≡ string_label h b) bs

integers_left : (g h : Constants) (xs ys : List ℕ) → SameIntegers g h (xs ++ ys) → SameIntegers g h xs
integers_left g h xs ys a = all_left (λ n. integer_label g n ≡ integer_label h n) xs ys a

integers_right : (g h : Constants) (xs ys : List ℕ) → SameIntegers g h (xs ++ ys) → SameIntegers g h ys
integers_right g h xs ys a = all_right (λ n. integer_label g n ≡ integer_label h n) xs ys a

strings_left : (g h : Constants) (xs ys : List (List ℕ)) → SameStrings g h (xs ++ ys) → SameStrings g h xs
strings_left g h xs ys a = all_left (λ b. string_label g b ≡ string_label h b) xs ys a

strings_right : (g h : Constants) (xs ys : List (List ℕ)) → SameStrings g h (xs ++ ys) → SameStrings g h ys
strings_right g h xs ys a = all_right (λ b. string_label g b ≡ string_label h b) xs ys a

-- an operation names only the file of its place
operation_agrees : (s : Context) (g h : Constants) (op : ArithOp) (at : Place) (id : NodeId) → file_label s g at ≡ file_label s h at → arith_code s g op at id ≡ arith_code s h op at id
operation_agrees s g h arith_op.Add at id e = simp e refl
operation_agrees s g h arith_op.Sub at id e = simp e refl
operation_agrees s g h arith_op.Mul at id e = simp e refl
operation_agrees s g h arith_op.Div at id e = simp e refl

file_there : (s : Context) (g h : Constants) (op : ArithOp) (at : Place) → SameStrings g h (files_of s.files op at) → file_label s g at ≡ file_label s h at
file_there s g h arith_op.Add at a = a.0
file_there s g h arith_op.Sub at a = a.0
file_there s g h arith_op.Mul at a = a.0
file_there s g h arith_op.Div at a = a.0

mutual
  pub agrees : (s : Context) (g h : Constants) (t : Tree) (vs : List Named) (d k : ℕ) → SameIntegers g h (integers_in t) → SameStrings g h (strings_in s.files t) → code s g vs d k t ≡ code s h vs d k t
  agrees s g h (trees.Assign at name t) vs d k i j = simp (agrees s g h t vs d k i j) refl
  agrees s g h (trees.Dispatch at t name ts) vs d k i j =
      let js = strings_right g h (strings_in_all s.files ts) _ j in
      let f = (strings_right g h (strings_in s.files t) _ js).0 in
      simp (all_agree s g h ts vs d (k + tree_size t) (integers_left g h (integers_in_all ts) _ i) (strings_left g h (strings_in_all s.files ts) _ j), agrees s g h t vs (d + trees_count ts) k (integers_right g h (integers_in_all ts) _ i) (strings_left g h (strings_in s.files t) _ js), f) refl
  agrees s g h (trees.StaticDispatch at t class name ts) vs d k i j =
      let js = strings_right g h (strings_in_all s.files ts) _ j in
      let f = (strings_right g h (strings_in s.files t) _ js).0 in
      simp (all_agree s g h ts vs d (k + tree_size t) (integers_left g h (integers_in_all ts) _ i) (strings_left g h (strings_in_all s.files ts) _ j), agrees s g h t vs (d + trees_count ts) k (integers_right g h (integers_in_all ts) _ i) (strings_left g h (strings_in s.files t) _ js), f) refl
  agrees s g h (trees.If at t y n) vs d k i j =
      let is = integers_right g h (integers_in t) _ i in
      let js = strings_right g h (strings_in s.files t) _ j in
      simp (
        agrees s g h t vs d k (integers_left g h (integers_in t) _ i) (strings_left g h (strings_in s.files t) _ j),
        agrees s g h y vs d (k + tree_size t) (integers_left g h (integers_in y) _ is) (strings_left g h (strings_in s.files y) _ js),
        agrees s g h n vs d (k + tree_size t + tree_size y) (integers_right g h (integers_in y) _ is) (strings_right g h (strings_in s.files y) _ js),
      ) refl
  agrees s g h (trees.While at t a) vs d k i j =
      simp (
        agrees s g h t vs d k (integers_left g h (integers_in t) _ i) (strings_left g h (strings_in s.files t) _ j),
        agrees s g h a vs d (k + tree_size t) (integers_right g h (integers_in t) _ i) (strings_right g h (strings_in s.files t) _ j),
      ) refl
  agrees s g h (trees.Block at ts) vs d k i j = items_agree s g h ts vs d k i j
  agrees s g h (trees.Let at name declared o t) vs d k i j =
      simp (
        maybe_agrees s g h o (type_meant s.table declared.name) vs d k (integers_left g h (integers_in_maybe o) _ i) (strings_left g h (strings_in_maybe s.files o) _ j),
        agrees s g h t (bind d name (type_meant s.table declared.name) vs) (d + 1) (k + maybe_size o) (integers_right g h (integers_in_maybe o) _ i) (strings_right g h (strings_in_maybe s.files o) _ j),
      ) refl
  agrees s g h (trees.Case at t cs) vs d k i j =
      let js = strings_right g h (strings_in s.files t) _ j in
      simp (
        agrees s g h t vs d k (integers_left g h (integers_in t) _ i) (strings_left g h (strings_in s.files t) _ j),
        js.0,
        arms_agree s g h cs vs d (k + tree_size t) (label_at s (codes "end") (root k (trees.Case at t cs))) [] (integers_right g h (integers_in t) _ i) js.1,
      ) refl
  agrees s g h (trees.New at class) vs d k i j = refl
  agrees s g h (trees.IsVoid at t) vs d k i j = simp (agrees s g h t vs d k i j) refl
  agrees s g h (trees.Arith at op l r) vs d k i j =
      let js = strings_right g h (strings_in s.files l) _ j in
      simp (
        agrees s g h l vs d k (integers_left g h (integers_in l) _ i) (strings_left g h (strings_in s.files l) _ j),
        agrees s g h r vs (d + 1) (k + tree_size l) (integers_right g h (integers_in l) _ i) (strings_left g h (strings_in s.files r) _ js),
        operation_agrees s g h op at (root k (trees.Arith at op l r)) (file_there s g h op at (strings_right g h (strings_in s.files r) _ js)),
      ) refl
  agrees s g h (trees.Neg at t) vs d k i j =
      simp (agrees s g h t vs d k i (strings_left g h (strings_in s.files t) _ j), (strings_right g h (strings_in s.files t) _ j).0) refl
  agrees s g h (trees.Compare at op l r) vs d k i j =
      simp (
        agrees s g h l vs d k (integers_left g h (integers_in l) _ i) (strings_left g h (strings_in s.files l) _ j),
        agrees s g h r vs (d + 1) (k + tree_size l) (integers_right g h (integers_in l) _ i) (strings_right g h (strings_in s.files l) _ j),
      ) refl
  agrees s g h (trees.Not at t) vs d k i j = simp (agrees s g h t vs d k i j) refl
  agrees s g h (trees.Id at name) vs d k i j = refl
  agrees s g h (trees.Int at value) vs d k i j = simp i.0 refl
  agrees s g h (trees.Str at bytes) vs d k i j = simp j.0 refl
  agrees s g h (trees.Bool at value) vs d k i j = refl

  all_agree : (s : Context) (g h : Constants) (ts : Trees) (vs : List Named) (d k : ℕ) → SameIntegers g h (integers_in_all ts) → SameStrings g h (strings_in_all s.files ts) → arguments_code s g vs d k ts ≡ arguments_code s h vs d k ts
  all_agree s g h Last vs d k i j = refl
  all_agree s g h (More t ts) vs d k i j =
      simp (
        agrees s g h t vs d k (integers_left g h (integers_in t) _ i) (strings_left g h (strings_in s.files t) _ j),
        all_agree s g h ts vs (d + 1) (k + tree_size t) (integers_right g h (integers_in t) _ i) (strings_right g h (strings_in s.files t) _ j),
      ) refl

  items_agree : (s : Context) (g h : Constants) (ts : Trees) (vs : List Named) (d k : ℕ) → SameIntegers g h (integers_in_all ts) → SameStrings g h (strings_in_all s.files ts) → items_code s g vs d k ts ≡ items_code s h vs d k ts
  items_agree s g h Last vs d k i j = refl
  items_agree s g h (More t ts) vs d k i j =
      simp (
        agrees s g h t vs d k (integers_left g h (integers_in t) _ i) (strings_left g h (strings_in s.files t) _ j),
        items_agree s g h ts vs d (k + tree_size t) (integers_right g h (integers_in t) _ i) (strings_right g h (strings_in s.files t) _ j),
      ) refl

  maybe_agrees : (s : Context) (g h : Constants) (o : MaybeTree) (type : Ty) (vs : List Named) (d k : ℕ) → SameIntegers g h (integers_in_maybe o) → SameStrings g h (strings_in_maybe s.files o) → initial_code s g vs d k type o ≡ initial_code s h vs d k type o
  maybe_agrees s g h Without type vs d k i j = refl
  maybe_agrees s g h (With t) type vs d k i j = agrees s g h t vs d k i j

  arms_agree : (s : Context) (g h : Constants) (cs : Cases) (vs : List Named) (d k : ℕ) (end : Name) (before : List Arm) → SameIntegers g h (integers_in_cases cs) → SameStrings g h (strings_in_cases s.files cs) → arms_code s g vs d k end before cs ≡ arms_code s h vs d k end before cs
  arms_agree s g h NoCase vs d k end before i j = refl
  arms_agree s g h (CaseOf at name declared t cs) vs d k end before i j =
      simp (
        agrees s g h t (bind d name (type_meant s.table declared.name) vs) (d + 1) k (integers_left g h (integers_in t) _ i) (strings_left g h (strings_in s.files t) _ j),
        arms_agree s g h cs vs d (k + tree_size t) end
            (with_arm before (record {
              depth = length (above s.table (class_meant s.table s.class declared.name));
              lines =
                  range_code s (class_meant s.table s.class declared.name) (label_at s (codes "next") (root k t))
                  ++ (code s h (bind d name (type_meant s.table declared.name) vs) (d + 1) k t
                  ++ turn_lines end (label_at s (codes "next") (root k t)));
            }))
            (integers_right g h (integers_in t) _ i) (strings_right g h (strings_in s.files t) _ j),
      ) refl

-- constants asked for one after the other
integers_after : (xs ns ms : List ℕ) → with_integers xs (ns ++ ms) ≡ with_integers (with_integers xs ns) ms
integers_after xs [] ms = refl
integers_after xs (n ∷ ns) ms = integers_after (with_integer xs n) ns ms

strings_after : (xs bs cs : List (List ℕ)) → with_strings xs (bs ++ cs) ≡ with_strings (with_strings xs bs) cs
strings_after xs [] cs = refl
strings_after xs (b ∷ bs) cs = strings_after (with_string xs b) bs cs

pub after_both : (t : Constants) (ns ms : List ℕ) (bs cs : List (List ℕ)) → after t (ns ++ ms) (bs ++ cs) ≡ after (after t ns bs) ms cs
after_both t ns ms bs cs = λ i. record { integers = integers_after t.integers ns ms i; strings = strings_after t.strings bs cs i }

pub after_strings : (t : Constants) (ns : List ℕ) (bs cs : List (List ℕ)) → after t ns (bs ++ cs) ≡ after (after t ns bs) [] cs
after_strings t ns bs cs = λ i. record { integers = with_integers t.integers ns; strings = strings_after t.strings bs cs i }

-- one more constant stands after the others
integer_grows : (b : Bool) (xs : List ℕ) (n : ℕ) → (rest : List ℕ) × ((if b then xs else xs ++ n ∷ []) ≡ xs ++ rest)
integer_grows true xs n = ([], sym (append-nil xs))
integer_grows false xs n = (n ∷ [], refl)

string_grows : (b : Bool) (xs : List (List ℕ)) (n : List ℕ) → (rest : List (List ℕ)) × ((if b then xs else xs ++ n ∷ []) ≡ xs ++ rest)
string_grows true xs n = ([], sym (append-nil xs))
string_grows false xs n = (n ∷ [], refl)

integers_grow : (xs ns : List ℕ) → (rest : List ℕ) × (with_integers xs ns ≡ xs ++ rest)
integers_grow xs [] = ([], sym (append-nil xs))
integers_grow xs (n ∷ ns) =
    let one = integer_grows (list_any (nat_eq n) xs) xs n in
    let more = integers_grow (with_integer xs n) ns in
    (one.0 ++ more.0, more.1 ∙ ap (λ zs. zs ++ more.0) one.1 ∙ append_assoc xs one.0 more.0)

strings_grow : (xs bs : List (List ℕ)) → (rest : List (List ℕ)) × (with_strings xs bs ≡ xs ++ rest)
strings_grow xs [] = ([], sym (append-nil xs))
strings_grow xs (b ∷ bs) =
    let one = string_grows (list_any (bytes_eq b) xs) xs b in
    let more = strings_grow (with_string xs b) bs in
    (one.0 ++ more.0, more.1 ∙ ap (λ zs. zs ++ more.0) one.1 ∙ append_assoc xs one.0 more.0)

-- a table extends itself, what it had before more was asked for, and what those tables extend
pub extends_same : (t : Constants) → Extends t t
extends_same t = record { integers = ([], sym (append-nil t.integers)); strings = ([], sym (append-nil t.strings)) }

pub extends_before : (t g : Constants) (ns : List ℕ) (bs : List (List ℕ)) → Extends (after t ns bs) g → Extends t g
extends_before t g ns bs e =
    let i = integers_grow t.integers ns in
    let s = strings_grow t.strings bs in
    record {
      integers = (i.0 ++ e.integers.0, e.integers.1 ∙ ap (λ zs. zs ++ e.integers.0) i.1 ∙ append_assoc t.integers i.0 e.integers.0);
      strings = (s.0 ++ e.strings.0, e.strings.1 ∙ ap (λ zs. zs ++ e.strings.0) s.1 ∙ append_assoc t.strings s.0 e.strings.0);
    }

-- the number of an integer and of a string stays when more are asked for
pub integer_stays : (t g : Constants) (n : ℕ) → Extends (record { integers = with_integer t.integers n; strings = t.strings }) g → integer_number g.integers n ≡ integer_number t.integers n
integer_stays t g n e = ap (position_or_len (nat_eq n)) e.integers.1 ∙ stays (nat_eq n) t.integers e.integers.0 n (nat_eq-same n)

pub string_stays : (t g : Constants) (b : List ℕ) → Extends (record { integers = t.integers; strings = with_string t.strings b }) g → string_number g.strings b ≡ string_number t.strings b
string_stays t g b e = ap (position_or_len (bytes_eq b)) e.strings.1 ∙ stays (bytes_eq b) t.strings e.strings.0 b (bytes_eq-same b)
