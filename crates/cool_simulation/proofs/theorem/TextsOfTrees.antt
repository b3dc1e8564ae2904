-- No string constant of a program contains a zero byte: neither those of the source nor the names of its files.
use Rattle.std.proofs.Common.{◌≡◌, ℕ, zero, suc, ◌+◌, ◌<◌, ◌≤◌, List, [], ◌∷◌, ◌++◌, length, get_or, flat_map, Option, Some, None, refl, arith}
use Rattle.std.specs.Prelude.{slice_get, IfSome}
use Rattle.std.specs.List.{AllByRecursion}
use Rattle.cool_syntax.specs.declared.place.Place.{Place}
use Rattle.cool_syntax.specs.declared.operator.ArithOp.{ArithOp}
use Rattle.cool_syntax.specs.declared.operator.ArithOp.TheVariants as arith_op
use Rattle.cool_syntax.specs.declared.file_tree.Feature.{Feature}
use Rattle.cool_syntax.specs.declared.file_tree.Feature.TheVariants.{Method, Attribute}
use Rattle.cool_syntax.specs.Tree.{Tree, Trees, MaybeTree, Cases, Last, More, Without, With, NoCase, CaseOf}
use Rattle.cool_syntax.specs.Tree as trees
use Rattle.cool_syntax.specs.TreesWithinLimits.{IsTreeWithin, AreTreesWithin, IsMaybeWithin, AreCasesWithin, IsFeatureWithin}
use Rattle.cool_classes.specs.declared.class_id.ClassId.{ClassId}
use Rattle.cool_classes.specs.Chains.{Class, features_of}
use Rattle.cool_layout.specs.Preorder.{numbers_from}
use Rattle.cool_codegen.specs.Asked.{file_of, files_of, strings_in, strings_in_all, strings_in_maybe, strings_in_cases}
use Rattle.cool_codegen.specs.Features.{feature_strings, initial_strings}
use Rattle.cool_emit.specs.Programs.{Placed, attributes_from, methods_from, class_features, all_features, program_constants, IsBuildable}
use Rattle.cool_emit.proofs.ConstantsInRange.{all_flat, all_with_strings, numbers_low}
use Rattle.cool_runtime.specs.Contents.{IsText}
use Rattle.cool_simulation.specs.ByteStrings.{HasBytes, HaveBytes, MaybeHasBytes, CasesHaveBytes, FeatureHasBytes}
use Rattle.lists.proofs.AllItems.{all_append}
use Rattle.lists.specs.Bytes.{AreBytes}

-- bytes of which none is 0
text_of : (bytes : List ℕ) → AllByRecursion (λ b. 1 ≤ b) bytes → AreBytes bytes → IsText bytes
text_of [] h k = tt
text_of (b ∷ bytes) h k = ((let one = h.0 in omega arith, k.0), text_of bytes h.1 k.1)

module _ (files : List (List ℕ)) (named : AllByRecursion IsText files) where
  file_text : (at : Place) → AllByRecursion IsText (file_of files at)
  file_text at = (by files named at.file, tt)
    where
      by : (names : List (List ℕ)) → AllByRecursion IsText names → (k : ℕ) → IsText (get_or names k [])
      by [] all k = tt
      by (name ∷ names) all zero = all.0
      by (name ∷ names) all (suc k) = by names all.1 k

  files_text : (op : ArithOp) (at : Place) → AllByRecursion IsText (files_of files op at)
  files_text arith_op.Add at = file_text at
  files_text arith_op.Sub at = file_text at
  files_text arith_op.Mul at = file_text at
  files_text arith_op.Div at = all_append IsText (file_of files at) (file_of files at) (file_text at) (file_text at)

  -- the strings of a tree
  mutual
    strings_text : (n : ℕ) (t : Tree) → IsTreeWithin n t → HasBytes t → AllByRecursion IsText (strings_in files t)
    strings_text n (trees.Str at bytes) h b = (text_of bytes h.1.1 b, tt)
    strings_text n (trees.leaf at form) h b = tt
    strings_text n (trees.Assign at name t) h b = strings_text n t h.2 b
    strings_text n (trees.Neg at t) h b = all_append IsText (strings_in files t) (file_of files at) (strings_text n t h.1 b) (file_text at)
    strings_text n (trees.unary at form t) h b = strings_text n t h.1 b
    strings_text n (trees.Arith at op x y) h b =
        all_append IsText (strings_in files x) (strings_in files y ++ files_of files op at) (strings_text n x h.1 b.0)
        (all_append IsText (strings_in files y) (files_of files op at) (strings_text n y h.2 b.1) (files_text op at))
    strings_text n (trees.binary at form x y) h b = all_append IsText (strings_in files x) (strings_in files y) (strings_text n x h.1 b.0) (strings_text n y h.2 b.1)
    strings_text n (trees.Dispatch at t name ts) h b =
        all_append IsText (strings_in_all files ts) (strings_in files t ++ file_of files at) (all_text n ts h.3 b.1)
        (all_append IsText (strings_in files t) (file_of files at) (strings_text n t h.1 b.0) (file_text at))
    strings_text n (trees.StaticDispatch at t class name ts) h b =
        all_append IsText (strings_in_all files ts) (strings_in files t ++ file_of files at) (all_text n ts h.4 b.1)
        (all_append IsText (strings_in files t) (file_of files at) (strings_text n t h.1 b.0) (file_text at))
    strings_text n (trees.If at t y e) h b =
        all_append IsText (strings_in files t) (strings_in files y ++ strings_in files e) (strings_text n t h.1 b.0.0)
        (all_append IsText (strings_in files y) (strings_in files e) (strings_text n y h.2 b.0.1) (strings_text n e h.3 b.1))
    strings_text n (trees.Block at ts) h b = all_text n ts h.1 b
    strings_text n (trees.Let at name declared o t) h b = all_append IsText (strings_in_maybe files o) (strings_in files t) (maybe_text n o h.3 b.0) (strings_text n t h.4 b.1)
    strings_text n (trees.Case at t cs) h b =
        all_append IsText (strings_in files t) (file_of files at ++ strings_in_cases files cs) (strings_text n t h.1 b.0)
        (all_append IsText (file_of files at) (strings_in_cases files cs) (file_text at) (cases_text n cs h.2 b.1))

    all_text : (n : ℕ) (ts : Trees) → AreTreesWithin n ts → HaveBytes ts → AllByRecursion IsText (strings_in_all files ts)
    all_text n Last h b = tt
    all_text n (More t ts) h b = all_append IsText (strings_in files t) (strings_in_all files ts) (strings_text n t h.0 b.0) (all_text n ts h.1 b.1)

    maybe_text : (n : ℕ) (o : MaybeTree) → IsMaybeWithin n o → MaybeHasBytes o → AllByRecursion IsText (strings_in_maybe files o)
    maybe_text n Without h b = tt
    maybe_text n (With t) h b = strings_text n t h b

    cases_text : (n : ℕ) (cs : Cases) → AreCasesWithin n cs → CasesHaveBytes cs → AllByRecursion IsText (strings_in_cases files cs)
    cases_text n NoCase h b = tt
    cases_text n (CaseOf at name declared t cs) h b = all_append IsText (strings_in files t) (strings_in_cases files cs) (strings_text n t h.3 b.0) (cases_text n cs h.4 b.1)

  -- the strings of a feature
  feature_text : (n : ℕ) (x : Feature) → IsFeatureWithin n x → FeatureHasBytes x → AllByRecursion IsText (feature_strings files x)
  feature_text n (Method m) h b = strings_text n m.body h.4 b
  feature_text n (Attribute a) h b = by a.init h.3 b
    where
      by : (o : Option Tree) → IfSome o (IsTreeWithin n) → IfSome o HasBytes → AllByRecursion IsText (initial_strings files o)
      by None h b = tt
      by (Some t) h b = strings_text n t h b

-- a property of all features of a class holds for those that are placed

attributes_all : (P : Feature → Type 0) (j : ℕ) (fs : List Feature) → AllByRecursion P fs → AllByRecursion (λ (f : Placed). P f.feature) (attributes_from j fs)
attributes_all P j [] all = tt
attributes_all P j (Method m ∷ fs) all = attributes_all P (j + 1) fs all.1
attributes_all P j (Attribute a ∷ fs) all = (all.0, attributes_all P (j + 1) fs all.1)

methods_all : (P : Feature → Type 0) (j : ℕ) (fs : List Feature) → AllByRecursion P fs → AllByRecursion (λ (f : Placed). P f.feature) (methods_from j fs)
methods_all P j [] all = tt
methods_all P j (Method m ∷ fs) all = (all.0, methods_all P (j + 1) fs all.1)
methods_all P j (Attribute a ∷ fs) all = methods_all P (j + 1) fs all.1

all_two : {X : Type 0} (P Q : X → Type 0) (xs : List X) → AllByRecursion P xs → ((k : ℕ) (x : X) → slice_get xs k ≡ Some x → Q x) → AllByRecursion (λ x. P x × Q x) xs
all_two P Q [] h k = tt
all_two P Q (x ∷ xs) h k = ((h.0, k 0 x refl), all_two P Q xs h.1 (λ j y e. k (suc j) y e))

module _ (p : List Class) (files : List (List ℕ)) (b : IsBuildable p files) (named : AllByRecursion IsText files)
    (bytes : (c : ClassId) (k : ℕ) (f : Feature) → c.0 < length p → slice_get (features_of p c) k ≡ Some f → FeatureHasBytes f) where
  abbrev IsFine : Feature → Type 0
  IsFine f = IsFeatureWithin (length files) f × FeatureHasBytes f

  features_fine : AllByRecursion (λ (f : Placed). IsFine f.feature) (all_features p)
  features_fine =
      all_flat (λ (c : ClassId). c.0 < length p) (λ (f : Placed). IsFine f.feature) (class_features p) (numbers_from 0 (length p))
      (λ c within.
      let all = all_two (IsFeatureWithin (length files)) FeatureHasBytes (features_of p c) (b.fits.within c within) (λ k f there. bytes c k f within there) in
      all_append (λ (f : Placed). IsFine f.feature) (attributes_from 0 (features_of p c)) (methods_from 0 (features_of p c)) (attributes_all IsFine 0 (features_of p c) all) (methods_all IsFine 0 (features_of p c) all))
      (numbers_low 0 (length p) (length p) (omega arith))

  -- the strings of a program
  pub program_texts : AllByRecursion IsText (program_constants p files).strings
  program_texts =
      all_with_strings IsText [] (flat_map (λ f. feature_strings files f.feature) (all_features p)) tt
      (all_flat (λ (f : Placed). IsFine f.feature) IsText (λ f. feature_strings files f.feature) (all_features p)
      (λ f fine. feature_text files named (length files) f.feature fine.0 fine.1) features_fine)
