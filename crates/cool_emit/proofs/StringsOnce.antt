-- The total length of the string constants of a program is at most that of the strings in its source plus that of the names of its files, since each string is
-- stored only once.
use Rattle.std.proofs.Common.{◌≡◌, ℕ, zero, suc, ◌+◌, ◌*◌, ◌≤◌, List, [], ◌∷◌, ◌++◌, length}
use Rattle.std.proofs.Common.{get_or, flat_map, Option, Some, None, Bool, true, false, ◌||◌}
use Rattle.std.proofs.Common.{◌⊎◌, inl, inr, refl, sym, ap, ◌∙◌, subst, arith, true≢false}
use Rattle.std.specs.Prelude.{bytes_eq, if◌then◌else◌}
use Rattle.std.proofs.lemmas.List.Folds.{list_any-append}
use Rattle.cool_syntax.specs.declared.place.Place.{Place}
use Rattle.cool_syntax.specs.declared.operator.ArithOp.{ArithOp}
use Rattle.cool_syntax.specs.declared.operator.ArithOp.TheVariants as arith_op
use Rattle.cool_syntax.specs.declared.file_tree.Feature.{Feature}
use Rattle.cool_syntax.specs.declared.file_tree.Feature.TheVariants.{Method, Attribute}
use Rattle.cool_syntax.specs.Tree.{Tree, Trees, MaybeTree, Cases, Last, More, Without, With, NoCase, CaseOf}
use Rattle.cool_syntax.specs.Tree as trees
use Rattle.cool_syntax.specs.Weights.{text_in, text_in_all, text_in_maybe, text_in_cases, text_of_feature, text_of_value}
use Rattle.cool_consts.specs.Constants.{with_string}
use Rattle.cool_layout.proofs.SlotNames.{has}
use Rattle.cool_codegen.specs.Asked.{with_strings, strings_in, strings_in_all, strings_in_maybe, strings_in_cases, files_of}
use Rattle.cool_codegen.specs.Features.{feature_strings, initial_strings}
use Rattle.cool_emit.specs.declared.TheConstants.{MOST_FILE_NAME}
use Rattle.cool_emit.specs.FileNames.{AreShortNames}
use Rattle.cool_emit.specs.Programs.{Placed}
use Rattle.cool_emit.proofs.Totals.{total, total-append, total-le}
use Rattle.cool_emit.proofs.ClassesInTurn.{placed_weight}
use Rattle.lists.proofs.EqualBytes.{bytes_equal, bytes_eq-same}
use Rattle.lists.proofs.TruthValues.{or_true, or_false}

-- a number, or nothing where there is no need
abbrev unless : Bool → ℕ → ℕ
unless true n = 0
unless false n = n

-- the bytes of lists
abbrev pub bytes_of : List (List ℕ) → ℕ
bytes_of = total (λ b. length b)

-- the bytes of files that are not among strings
abbrev bytes_left : List (List ℕ) → List (List ℕ) → ℕ
bytes_left strings = total (λ f. unless (has f strings) (length f))

-- the bytes of a string that is no file's name
abbrev pub cost : List (List ℕ) → List ℕ → ℕ
cost files b = unless (has b files) (length b)

-- more needs cost no more
unless_less : (a b : Bool) (n : ℕ) → unless (a || b) n ≤ unless a n
unless_less true b n = omega arith
unless_less false true n = omega arith
unless_less false false n = omega arith

-- one more string: what it says of a name
has_more : (f y : List ℕ) (xs : List (List ℕ)) → has f (xs ++ y ∷ []) ≡ (has f xs || bytes_eq f y)
has_more f y xs = list_any-append (bytes_eq f) xs (y ∷ []) ∙ ap (λ b. has f xs || b) (or_false (bytes_eq f y))

-- with one more string a name needs no more bytes
one_less : (xs : List (List ℕ)) (y f : List ℕ) → unless (has f (xs ++ y ∷ [])) (length f) ≤ unless (has f xs) (length f)
one_less xs y f =
    let e : unless (has f (xs ++ y ∷ [])) (length f) ≡ unless (has f xs || bytes_eq f y) (length f) =
    ap (λ b. unless b (length f)) (has_more f y xs) in
    omega (arith, unless_less (has f xs) (bytes_eq f y) (length f))

-- with one more string no more bytes are left
left_less : (xs : List (List ℕ)) (y : List ℕ) (fs : List (List ℕ)) → bytes_left (xs ++ y ∷ []) fs ≤ bytes_left xs fs
left_less xs y fs = total-le (λ f. unless (has f (xs ++ y ∷ [])) (length f)) (λ f. unless (has f xs) (length f)) fs (one_less xs y)

-- and if it is a file's name, those of the name are no longer left
left_paid : (xs : List (List ℕ)) (y : List ℕ) → has y xs ≡ false → (fs : List (List ℕ)) → has y fs ≡ true
    → bytes_left (xs ++ y ∷ []) fs + length y ≤ bytes_left xs fs
left_paid xs y new [] there = absurd (true≢false (sym there))
left_paid xs y new (f ∷ fs) there = by (bytes_eq y f) refl (λ t. left_paid xs y new fs t) there
  where
    by : (b : Bool) → bytes_eq y f ≡ b → (has y fs ≡ true → bytes_left (xs ++ y ∷ []) fs + length y ≤ bytes_left xs fs)
        → (b || has y fs) ≡ true
        → bytes_left (xs ++ y ∷ []) (f ∷ fs) + length y ≤ bytes_left xs (f ∷ fs)
    by true e more t =
        let same : y ≡ f = bytes_equal y f e in
        let there : has y (xs ++ y ∷ []) ≡ true = has_more y y xs ∙ ap (λ b. has y xs || b) (bytes_eq-same y) ∙ or_true (has y xs) in
        let now : unless (has f (xs ++ y ∷ [])) (length f) ≡ 0 =
        subst (λ (g : List ℕ). unless (has g (xs ++ y ∷ [])) (length g) ≡ 0) same (ap (λ b. unless b (length y)) there) in
        let before : unless (has f xs) (length f) ≡ length y =
        subst (λ (g : List ℕ). unless (has g xs) (length g) ≡ length y) same (ap (λ b. unless b (length y)) new) in
        let rest : bytes_left (xs ++ y ∷ []) fs ≤ bytes_left xs fs = left_less xs y fs in
        omega arith
    by false e more t = omega (arith, more t, one_less xs y f)

-- So the bytes so far and those left over grow by what a string costs.
step : (files xs : List (List ℕ)) (y : List ℕ)
    → bytes_of (with_string xs y) + bytes_left (with_string xs y) files ≤ bytes_of xs + bytes_left xs files + cost files y
step files xs y = by (has y xs) refl
  where
    added : (b : Bool) → has y files ≡ b → has y xs ≡ false
        → bytes_of (xs ++ y ∷ []) + bytes_left (xs ++ y ∷ []) files ≤ bytes_of xs + bytes_left xs files + unless b (length y)
    added true e new = omega (arith, total-append (λ (b : List ℕ). length b) xs (y ∷ []), left_paid xs y new files e)
    added false e new = omega (arith, total-append (λ (b : List ℕ). length b) xs (y ∷ []), left_less xs y files)

    by : (b : Bool) → has y xs ≡ b
        → bytes_of (if b then xs else xs ++ y ∷ []) + bytes_left (if b then xs else xs ++ y ∷ []) files
        ≤ bytes_of xs + bytes_left xs files + cost files y
    by true e = omega arith
    by false e = added (has y files) refl e

-- the same for strings in a row
steps : (files xs ys : List (List ℕ))
    → bytes_of (with_strings xs ys) + bytes_left (with_strings xs ys) files ≤ bytes_of xs + bytes_left xs files + total (cost files) ys
steps files xs [] = omega arith
steps files xs (y ∷ ys) = omega (arith, steps files (with_string xs y) ys, step files xs y)

-- at first all bytes of files are left
all_left : (fs : List (List ℕ)) → bytes_left [] fs ≡ bytes_of fs
all_left [] = refl
all_left (f ∷ fs) = omega (arith, all_left fs)

-- The strings that are used have no more bytes than the files' names and what the strings cost.
pub bytes_used : (files ys : List (List ℕ)) → bytes_of (with_strings [] ys) ≤ bytes_of files + total (cost files) ys
bytes_used files ys = omega (arith, steps files [] ys, all_left files)

-- The name of a file costs nothing, and neither does what stands for one that is none.
file_there : (files : List (List ℕ)) (k : ℕ) → (get_or files k [] ≡ []) ⊎ (has (get_or files k []) files ≡ true)
file_there [] k = inl refl
file_there (f ∷ files) zero = inr (ap (λ b. b || has f files) (bytes_eq-same f))
file_there (f ∷ files) (suc k) = by (file_there files k)
  where
    by : (get_or files k [] ≡ []) ⊎ (has (get_or files k []) files ≡ true)
        → (get_or files k [] ≡ []) ⊎ (has (get_or files k []) (f ∷ files) ≡ true)
    by (inl e) = inl e
    by (inr e) = inr (ap (λ b. bytes_eq (get_or files k []) f || b) e ∙ or_true (bytes_eq (get_or files k []) f))

file_free : (files : List (List ℕ)) (k : ℕ) → cost files (get_or files k []) ≡ 0
file_free files k = by (file_there files k)
  where
    nothing : (b : Bool) → unless b 0 ≡ 0
    nothing true = refl
    nothing false = refl

    by : (get_or files k [] ≡ []) ⊎ (has (get_or files k []) files ≡ true) → cost files (get_or files k []) ≡ 0
    by (inl e) = ap (cost files) e ∙ nothing (has [] files)
    by (inr e) = ap (λ b. unless b (length (get_or files k []))) e

files_free : (files : List (List ℕ)) (op : ArithOp) (at : Place) → total (cost files) (files_of files op at) ≡ 0
files_free files arith_op.Add at = omega (arith, file_free files at.file)
files_free files arith_op.Sub at = omega (arith, file_free files at.file)
files_free files arith_op.Mul at = omega (arith, file_free files at.file)
files_free files arith_op.Div at = omega (arith, file_free files at.file)

-- a string constant costs no more than its bytes
literal : (files : List (List ℕ)) (b : List ℕ) → cost files b ≤ length b
literal files b = by (has b files)
  where
    by : (c : Bool) → unless c (length b) ≤ length b
    by true = omega arith
    by false = omega arith

-- the strings of a tree cost no more than the bytes of its string constants
module _ (files : List (List ℕ)) where
  mutual
    strings_cost : (t : Tree) → total (cost files) (strings_in files t) ≤ text_in t
    strings_cost (trees.Str at bytes) = omega (arith, literal files bytes)
    strings_cost (trees.leaf at form) = omega arith
    strings_cost (trees.Neg at t) = simp total-append (omega (arith, file_free files at.file, strings_cost t))
    strings_cost (trees.unary at form t) = strings_cost t
    strings_cost (trees.Arith at op a b) =
        simp total-append (omega (arith, files_free files op at, strings_cost a, strings_cost b))
    strings_cost (trees.binary at form a b) = simp total-append (omega (arith, strings_cost a, strings_cost b))
    strings_cost (trees.call at form t ts) =
        simp total-append (omega (arith, file_free files at.file, strings_cost t, strings_cost_all ts))
    strings_cost (trees.If at t y n) =
        simp total-append (omega (arith, strings_cost t, strings_cost y, strings_cost n))
    strings_cost (trees.Block at ts) = strings_cost_all ts
    strings_cost (trees.Let at name declared o t) = simp total-append (omega (arith, strings_cost_maybe o, strings_cost t))
    strings_cost (trees.Case at t cs) =
        simp total-append (omega (arith, file_free files at.file, strings_cost t, strings_cost_cases cs))

    strings_cost_all : (ts : Trees) → total (cost files) (strings_in_all files ts) ≤ text_in_all ts
    strings_cost_all Last = omega arith
    strings_cost_all (More t ts) = simp total-append (omega (arith, strings_cost t, strings_cost_all ts))

    strings_cost_maybe : (o : MaybeTree) → total (cost files) (strings_in_maybe files o) ≤ text_in_maybe o
    strings_cost_maybe Without = omega arith
    strings_cost_maybe (With t) = strings_cost t

    strings_cost_cases : (cs : Cases) → total (cost files) (strings_in_cases files cs) ≤ text_in_cases cs
    strings_cost_cases NoCase = omega arith
    strings_cost_cases (CaseOf at name declared t cs) = simp total-append (omega (arith, strings_cost t, strings_cost_cases cs))

  -- and so do those of a feature, and of features
  value_cost : (o : Option Tree) → total (cost files) (initial_strings files o) ≤ text_of_value o
  value_cost None = omega arith
  value_cost (Some t) = strings_cost t

  feature_cost : (f : Feature) → total (cost files) (feature_strings files f) ≤ text_of_feature f
  feature_cost (Method m) = strings_cost m.body
  feature_cost (Attribute a) = value_cost a.init

  pub features_cost : (fs : List Placed) → total (cost files) (flat_map (λ f. feature_strings files f.feature) fs) ≤ total placed_weight fs
  features_cost [] = omega arith
  features_cost (f ∷ fs) =
      simp total-append (omega (arith, feature_cost f.feature, features_cost fs))

-- names of files that are not long have few bytes together
pub files_bytes : (files : List (List ℕ)) → AreShortNames files → bytes_of files ≤ MOST_FILE_NAME * length files
files_bytes [] all = omega arith
files_bytes (f ∷ files) all = let h : length f ≤ MOST_FILE_NAME = all.0 in omega (arith, files_bytes files all.1)
