-- If the tokens of edited files differ from those of earlier files only in source locations, or also in one feature, their syntax trees differ only in these.
use Rattle.std.proofs.Common.{◌≡◌, ◌≢◌, ◌⊎◌, inl, inr, ℕ, zero, suc, ◌+◌, ◌-◌, ◌<◌, ◌≤◌, List, [], ◌∷◌, ◌++◌, map, length, get_or, take, drop, unwrap_or, Option, Some, refl, sym, ap, ◌∙◌, subst, arith, append_assoc}
use Rattle.std.specs.Prelude.{slice_get, slice_set}
use Rattle.std.specs.List.{AllByRecursion, slice_range}
use Rattle.std.proofs.lemmas.List.{length-append, length-map, map-append, length-take-le, take-append-drop, take_at}
use Rattle.std.proofs.lemmas.List.Folds.{drop_split}
use Rattle.std.proofs.lemmas.Option.{none-some, slice_get_within}
use Rattle.std.proofs.Math.Seq.{drop-append_seam}
use Rattle.cool_syntax.specs.declared.token.Token.{Token}
use Rattle.cool_syntax.specs.declared.token.TokenKind.{TokenKind}
use Rattle.cool_syntax.specs.declared.file_tree.ClassDef.{ClassDef}
use Rattle.cool_syntax.specs.declared.file_tree.Feature.{Feature}
use Rattle.cool_syntax.specs.declared.file_tree.FileTree.{FileTree}
use Rattle.cool_syntax.specs.Grammar.{Parses}
use Rattle.cool_syntax.specs.TokenFacts.{AreRising}
use Rattle.cool_lexer.specs.declared.lexer.Lexed.{Lexed}
use Rattle.cool_classes.specs.Declarations.{DeclareSame}
use Rattle.cool_classes.specs.Definitions.{definitions}
use Rattle.cool_faults.specs.Phases.{IsLexed}
use Rattle.cool_faults.proofs.FindingsInARow.{AllFound}
use Rattle.cool_session.specs.declared.runs.Run.{Run}
use Rattle.cool_session.specs.Bases.{tokens_of}
use Rattle.cool_session.specs.FeatureTokens.{kinds, ParsesFeature, runs_in, runs_of, features_of_all}
use Rattle.cool_session.specs.Runs.{bounds_in, bounds_of, file_tokens}
use Rattle.cool_session.specs.Signatures.{features_from}
use Rattle.cool_session.proofs.AlikeInTurn.{declare_back, declare_on, declared_at, all_features, define_on}
use Rattle.cool_session.proofs.BoundsOfFeatures.{file_has_bounds}
use Rattle.cool_session.proofs.BoundsOfRuns.{Stands, stand}
use Rattle.cool_session.proofs.DefinitionsKept.{AllDefineSame}
use Rattle.cool_session.proofs.DifferingLists.{get_left, get_right}
use Rattle.cool_session.proofs.MovedFiles.{define_both, file_moved}
use Rattle.cool_session.proofs.ReplacedFeatures.{feature_replaced, runs_replaced, bounds_of_kinds}
use Rattle.cool_session.proofs.ReplacedTrees.{file_count, file_runs_count, file_bounds_count, file_plain_count}
use Rattle.cool_session.proofs.RunsOfFeatures.{file_has_runs, all_joined}
use Rattle.cool_session.proofs.TreesOfTokens.{AreTreesOf}
use Rattle.cool_session.proofs.TypedFiles.{runs_kinds}

-- Lists

module _ {X : Type 0} where
  set_left : (xs ys : List X) (n : ℕ) (z : X) → n < length xs → slice_set (xs ++ ys) n z ≡ slice_set xs n z ++ ys
  set_left [] ys n z less = absurd (omega (arith, less))
  set_left (x ∷ xs) ys zero z less = refl
  set_left (x ∷ xs) ys (suc n) z less =
      let within : n < length xs = omega (arith, less) in ap (λ (zs : List X). x ∷ zs) (set_left xs ys n z within)

  set_right : (first xs : List X) (m : ℕ) (z : X) → slice_set (first ++ xs) (length first + m) z ≡ first ++ slice_set xs m z
  set_right [] xs m z = let none : 0 + m ≡ m = omega arith in ap (λ (n : ℕ). slice_set xs n z) none
  set_right (x ∷ first) xs m z =
      let next : length (x ∷ first) + m ≡ suc (length first + m) = omega arith in
      ap (λ (n : ℕ). slice_set (x ∷ first ++ xs) n z) next ∙ ap (λ (zs : List X). x ∷ zs) (set_right first xs m z)

  get_set : (xs : List X) (n : ℕ) (z : X) → n < length xs → slice_get (slice_set xs n z) n ≡ Some z
  get_set [] n z less = absurd (omega (arith, less))
  get_set (x ∷ xs) zero z less = refl
  get_set (x ∷ xs) (suc n) z less = let within : n < length xs = omega (arith, less) in get_set xs n z within

  -- an item of two lists in a row is one of the first, or one of the second
  get_either : (xs ys : List X) (n : ℕ) (z : X) → slice_get (xs ++ ys) n ≡ Some z
      → (slice_get xs n ≡ Some z) ⊎ ((m : ℕ) × (length xs + m ≡ n) × (slice_get ys m ≡ Some z))
  get_either [] ys n z h = inr (n, omega arith, h)
  get_either (x ∷ xs) ys zero z h = inl h
  get_either (x ∷ xs) ys (suc n) z h = by (get_either xs ys n z h)
    where
      by : (slice_get xs n ≡ Some z) ⊎ ((m : ℕ) × (length xs + m ≡ n) × (slice_get ys m ≡ Some z))
          → (slice_get (x ∷ xs) (suc n) ≡ Some z) ⊎ ((m : ℕ) × (length (x ∷ xs) + m ≡ suc n) × (slice_get ys m ≡ Some z))
      by (inl here) = inl here
      by (inr (m, sum, there)) = inr (m, omega (arith, sum), there)

  all_at : (P : X → Type 0) (xs : List X) (n : ℕ) (z : X) → AllByRecursion P xs → slice_get xs n ≡ Some z → P z
  all_at P [] n z h is = absurd (none-some z is)
  all_at P (x ∷ xs) zero z (h, hs) is = subst P (ap (λ (o : Option X). unwrap_or o x) is) h
  all_at P (x ∷ xs) (suc n) z (h, hs) is = all_at P xs n z hs is

  -- a list is what stands before, between and after two positions
  parts : (xs : List X) (a b : ℕ) → a ≤ b → take a xs ++ slice_range xs a b ++ drop b xs ≡ xs
  parts xs a b le =
      append_assoc (take a xs) (slice_range xs a b) (drop b xs)
      ∙ (ap (λ (zs : List X). take a xs ++ zs) (sym (drop_split xs a b le)) ∙ take-append-drop a xs)

map_set : {X Y : Type 0} (f : X → Y) (xs : List X) (n : ℕ) (z : X) → map f (slice_set xs n z) ≡ slice_set (map f xs) n (f z)
map_set f [] n z = refl
map_set f (x ∷ xs) zero z = refl
map_set {X} {Y} f (x ∷ xs) (suc n) z = ap (λ (zs : List Y). f x ∷ zs) (map_set f xs n z)

-- Files of the same kinds

same_runs : (ts us : List Token) → kinds us ≡ kinds ts → map kinds (runs_in us) ≡ map kinds (runs_in ts)
same_runs ts us same = runs_kinds 0 [] us ∙ (ap (features_from 0 []) same ∙ sym (runs_kinds 0 [] ts))

pub all_runs : (ls ls' : List Lexed) → map kinds (tokens_of ls') ≡ map kinds (tokens_of ls)
    → map kinds (runs_of (tokens_of ls')) ≡ map kinds (runs_of (tokens_of ls))
all_runs [] [] same = refl
all_runs [] (l' ∷ ls') same = absurd (omega (arith, ap length same))
all_runs (l ∷ ls) [] same = absurd (omega (arith, ap length same))
all_runs (l ∷ ls) (l' ∷ ls') same =
    let first : kinds l'.tokens.items ≡ kinds l.tokens.items = ap (λ (ks : List (List TokenKind)). get_or ks 0 []) same in
    map-append kinds (runs_in l'.tokens.items) (runs_of (tokens_of ls'))
    ∙ ((λ i. same_runs l.tokens.items l'.tokens.items first i ++ all_runs ls ls' (ap (drop 1) same) i)
    ∙ sym (map-append kinds (runs_in l.tokens.items) (runs_of (tokens_of ls))))

-- files of the same kinds one by one
each_same : (ls ls' : List Lexed) → length ls' ≡ length ls → ((k : ℕ) → kinds (file_tokens ls' k) ≡ kinds (file_tokens ls k))
    → map kinds (tokens_of ls') ≡ map kinds (tokens_of ls)
each_same [] [] many h = refl
each_same [] (l' ∷ ls') many h = absurd (omega (arith, many))
each_same (l ∷ ls) [] many h = absurd (omega (arith, many))
each_same (l ∷ ls) (l' ∷ ls') many h = λ i. h 0 i ∷ each_same ls ls' (omega (arith, many)) (λ k. h (suc k)) i

-- trees of the files that define the same
pub record MovedTrees (file : ℕ) (ls' : List Lexed) (trees : List FileTree) : Type 0 where
  pub now : List FileTree
  pub parsed : AreTreesOf file ls' now
  pub same : AllDefineSame (definitions trees) (definitions now)

pub trees_moved : (file : ℕ) (files : List (List ℕ)) (ls ls' : List Lexed) (trees : List FileTree) → AllFound IsLexed file files ls
    → AreTreesOf file ls trees → map kinds (tokens_of ls') ≡ map kinds (tokens_of ls) → MovedTrees file ls' trees
trees_moved file files [] [] [] lexed parsed same = record { now = []; parsed = tt; same = tt }
trees_moved file files [] [] (t ∷ trees) lexed parsed same = absurd parsed
trees_moved file files [] (l' ∷ ls') trees lexed parsed same = absurd (omega (arith, ap length same))
trees_moved file files (l ∷ ls) [] trees lexed parsed same = absurd (omega (arith, ap length same))
trees_moved file files (l ∷ ls) (l' ∷ ls') [] lexed parsed same = absurd parsed
trees_moved file [] (l ∷ ls) (l' ∷ ls') (t ∷ trees) lexed parsed same = absurd lexed
trees_moved file (bytes ∷ files) (l ∷ ls) (l' ∷ ls') (t ∷ trees) (is, lexed) (tree, parsed) same =
    let first : kinds l'.tokens.items ≡ kinds l.tokens.items = ap (λ (ks : List (List TokenKind)). get_or ks 0 []) same in
    let (classes, whole, here) = file_moved file 0 l.tokens.items l'.tokens.items t.classes tree.whole is.rising first in
    let rest = trees_moved (file + 1) files ls ls' trees lexed parsed (ap (drop 1) same) in
    record {
      now = record { file = file; classes = classes } ∷ rest.now;
      parsed = (record { number = refl; whole = whole }, rest.parsed);
      same = define_both t.classes classes (definitions trees) (definitions rest.now) here rest.same;
    }

-- A file that differs in one feature

-- the numbers of bounds, runs and features of a file
record Counts (file : ℕ) (tokens : List Token) (ds : List ClassDef) : Type 0 where
  pub count : ℕ
  pub bounds : length (bounds_in file tokens) ≡ count
  pub runs : length (runs_in tokens) ≡ count
  pub features : length (features_of_all ds) ≡ count

counts : (file : ℕ) (tokens : List Token) (ds : List ClassDef) → Parses tokens ds → Counts file tokens ds
counts file tokens ds (f, shaped, reads, plain) =
    record {
      count = file_count f;
      bounds = ap (λ (ts : List Token). length (bounds_in file ts)) (sym reads)
          ∙ (ap (λ (runs : List Run). length runs) (file_has_bounds file f) ∙ file_bounds_count file f);
      runs = ap (λ (ts : List Token). length (runs_in ts)) (sym reads)
          ∙ (ap (λ (runs : List (List Token)). length runs) (file_has_runs f) ∙ file_runs_count f);
      features = ap (λ (es : List ClassDef). length (features_of_all es)) (sym plain) ∙ file_plain_count f;
    }

-- definitions now, where the feature of a number is another one, of these tokens
record EditedFile (tokens now : List Token) (ds : List ClassDef) (n : ℕ) (new : List Token) (x : Feature) : Type 0 where
  pub classes : List ClassDef
  pub parses : Parses now classes
  pub there : slice_get (features_of_all classes) n ≡ Some x
  pub old : Feature
  pub before : slice_get (features_of_all ds) n ≡ Some old
  pub same : DeclareSame old x → AllDefineSame ds classes
  pub runs : map kinds (runs_in now) ≡ slice_set (map kinds (runs_in tokens)) n (kinds new)
  pub run : slice_get (runs_in now) n ≡ Some new
  pub within : n < length (runs_in tokens)

module _ (file : ℕ) (tokens now : List Token) (ds : List ClassDef) (parses : Parses tokens ds) (rising : AreRising file 0 tokens) (n : ℕ)
    (old run : Run) (is : slice_get (bounds_in file tokens) n ≡ Some old) (start : run.start ≡ old.start) (order : run.start ≤ run.end)
    (end : run.end ≤ length now) (front : kinds (take run.start now) ≡ kinds (take old.start tokens))
    (back : kinds (drop run.end now) ≡ kinds (drop old.end tokens)) (new : List Token) (new_is : slice_range now run.start run.end ≡ new)
    (x : Feature) (feature : ParsesFeature new x) where
  old_stands : Stands tokens file old
  old_stands = all_at (Stands tokens file) (bounds_in file tokens) n old (stand tokens file 0 0 0 tokens (omega arith) refl) is

  -- the file as it was, with the places of now around the feature
  abbrev middle : List Token
  middle = slice_range tokens old.start old.end

  abbrev moved : List Token
  moved = take run.start now ++ middle ++ drop run.end now

  moved_kinds : kinds moved ≡ kinds tokens
  moved_kinds =
      map-append (λ (t : Token). t.kind) (take run.start now ++ middle) (drop run.end now)
      ∙ (ap (λ (ks : List TokenKind). ks ++ kinds (drop run.end now)) (map-append (λ (t : Token). t.kind) (take run.start now) middle)
      ∙ ((λ i. front i ++ kinds middle ++ back i)
      ∙ (sym (ap (λ (ks : List TokenKind). ks ++ kinds (drop old.end tokens))
      (map-append (λ (t : Token). t.kind) (take old.start tokens) middle))
      ∙ (sym (map-append (λ (t : Token). t.kind) (take old.start tokens ++ middle) (drop old.end tokens))
      ∙ ap kinds (parts tokens old.start old.end old_stands.start)))))

  first_length : length (take run.start now) ≡ old.start
  first_length = let less : run.start ≤ length now = omega (arith, order, end) in length-take-le run.start now less ∙ start

  left_length : (k : ℕ) (ts : List Token) → k ≤ length ts → length (drop k ts) ≡ length ts - k
  left_length zero ts le = omega arith
  left_length (suc k) [] le = absurd (omega (arith, le))
  left_length (suc k) (t ∷ ts) le =
      let less : k ≤ length ts = omega (arith, le) in
      let size : length (drop k ts) ≡ length ts - k = left_length k ts less in omega (arith, size)

  middle_length : length middle ≡ old.end - old.start
  middle_length =
      let less : old.start ≤ length tokens = omega (arith, old_stands.start, old_stands.end) in
      let room : old.end - old.start ≤ length (drop old.start tokens) =
      omega (arith, left_length old.start tokens less, old_stands.end) in
      length-take-le (old.end - old.start) (drop old.start tokens) room

  front_is : take old.start moved ≡ take run.start now
  front_is =
      ap (take old.start) (append_assoc (take run.start now) middle (drop run.end now))
      ∙ take_at (take run.start now) (middle ++ drop run.end now) old.start first_length

  back_is : drop old.end moved ≡ drop run.end now
  back_is =
      let size : old.end ≡ length (take run.start now ++ middle) =
      omega (arith, length-append (take run.start now) middle, first_length, middle_length, old_stands.start) in
      ap (λ (k : ℕ). drop k moved) size ∙ drop-append_seam (take run.start now ++ middle) (drop run.end now)

  now_is : take old.start moved ++ new ++ drop old.end moved ≡ now
  now_is = (λ i. front_is i ++ sym new_is i ++ back_is i) ∙ parts now run.start run.end order

  moved_bound : slice_get (bounds_in file moved) n ≡ Some old
  moved_bound = ap (λ (runs : List Run). slice_get runs n) (bounds_of_kinds file tokens moved moved_kinds) ∙ is

  file_edited : EditedFile tokens now ds n new x
  file_edited =
      let (es, whole, here) = file_moved file 0 tokens moved ds parses rising moved_kinds in
      let r = feature_replaced file moved es whole n old moved_bound new x feature in
      let replaced = ap runs_in (sym now_is) ∙ runs_replaced file moved es whole n old moved_bound new x feature in
      let (y, before, declared) =
      declared_at (features_of_all ds) (features_of_all es) n r.old (all_features ds es here) r.before in
      let sizes = counts file tokens ds parses in
      let less : n < length (bounds_in file tokens) = slice_get_within (bounds_in file tokens) n old is in
      let moved_sizes = counts file moved es whole in
      let moved_less : n < length (bounds_in file moved) = slice_get_within (bounds_in file moved) n old moved_bound in
      record {
        classes = r.now;
        parses = subst (λ (ts : List Token). Parses ts r.now) now_is r.parses;
        there = r.there;
        old = y;
        before = before;
        same = λ same. define_on ds es r.now here (r.same (declare_on r.old y x (declare_back y r.old declared) same));
        runs = ap (map kinds) replaced
            ∙ (map_set kinds (runs_in moved) n new
            ∙ ap (λ (ks : List (List TokenKind)). slice_set ks n (kinds new)) (same_runs tokens moved moved_kinds));
        run = ap (λ (runs : List (List Token)). slice_get runs n) replaced
            ∙ get_set (runs_in moved) n new (omega (arith, moved_less, moved_sizes.bounds, moved_sizes.runs));
        within = omega (arith, less, sizes.bounds, sizes.runs);
      }

-- Files of which one differs in one feature

-- Files, of which the first has this number, are the same except for one run in the file of that run, which has these tokens now.
pub record DiffersAt (file : ℕ) (ls ls' : List Lexed) (old run : Run) (new : List Token) : Type 0 where
  pub home : run.file ≡ old.file
  pub start : run.start ≡ old.start
  pub order : run.start ≤ run.end
  pub end : (k : ℕ) → file + k ≡ run.file → run.end ≤ length (file_tokens ls' k)
  pub front : (k : ℕ) → file + k ≡ run.file → kinds (take run.start (file_tokens ls' k)) ≡ kinds (take old.start (file_tokens ls k))
  pub back : (k : ℕ) → file + k ≡ run.file → kinds (drop run.end (file_tokens ls' k)) ≡ kinds (drop old.end (file_tokens ls k))
  pub new_is : (k : ℕ) → file + k ≡ run.file → slice_range (file_tokens ls' k) run.start run.end ≡ new
  pub others : (k : ℕ) → file + k ≢ run.file → kinds (file_tokens ls' k) ≡ kinds (file_tokens ls k)

later_differs : (file : ℕ) (l l' : Lexed) (ls ls' : List Lexed) (old run : Run) (new : List Token)
    → DiffersAt file (l ∷ ls) (l' ∷ ls') old run new → DiffersAt (file + 1) ls ls' old run new
later_differs file l l' ls ls' old run new h =
    record {
      home = h.home;
      start = h.start;
      order = h.order;
      end = λ k here. h.end (suc k) (omega (arith, here));
      front = λ k here. h.front (suc k) (omega (arith, here));
      back = λ k here. h.back (suc k) (omega (arith, here));
      new_is = λ k here. h.new_is (suc k) (omega (arith, here));
      others = λ k other. h.others (suc k) (λ here. other (omega (arith, here)));
    }

-- the bounds among files stand in one of them
file_at : (file : ℕ) (ls : List Lexed) (n : ℕ) (run : Run) → slice_get (bounds_of file ls) n ≡ Some run → file ≤ run.file
file_at file [] n run is = absurd (none-some run is)
file_at file (l ∷ ls) n run is =
    by (get_either (bounds_in file l.tokens.items) (bounds_of (file + 1) ls) n run is) (λ m there. file_at (file + 1) ls m run there)
  where
    by : (slice_get (bounds_in file l.tokens.items) n ≡ Some run)
        ⊎ ((m : ℕ) × (length (bounds_in file l.tokens.items) + m ≡ n) × (slice_get (bounds_of (file + 1) ls) m ≡ Some run))
        → ((m : ℕ) → slice_get (bounds_of (file + 1) ls) m ≡ Some run → file + 1 ≤ run.file) → file ≤ run.file
    by (inl here) later =
        let tokens = l.tokens.items in
        let stands = all_at (Stands tokens file) (bounds_in file tokens) n run (stand tokens file 0 0 0 tokens (omega arith) refl) here in
        omega (arith, stands.file)
    by (inr (m, sum, there)) later = omega (arith, later m there)

-- trees now, where the feature of a number is another one, of these tokens
pub record EditedTrees (file : ℕ) (ls ls' : List Lexed) (trees : List FileTree) (n : ℕ) (new : List Token) (x : Feature) : Type 0 where
  pub now : List FileTree
  pub parsed : AreTreesOf file ls' now
  pub there : slice_get (features_of_all (definitions now)) n ≡ Some x
  pub old : Feature
  pub before : slice_get (features_of_all (definitions trees)) n ≡ Some old
  pub same : DeclareSame old x → AllDefineSame (definitions trees) (definitions now)
  pub runs : map kinds (runs_of (tokens_of ls')) ≡ slice_set (map kinds (runs_of (tokens_of ls))) n (kinds new)
  pub run : slice_get (runs_of (tokens_of ls')) n ≡ Some new

-- features and runs of a file before others
joined_features : (t : FileTree) (trees : List FileTree)
    → features_of_all (definitions (t ∷ trees)) ≡ features_of_all t.classes ++ features_of_all (definitions trees)
joined_features t trees = all_joined t.classes (definitions trees)

joined_kinds : (l : Lexed) (ls : List Lexed)
    → map kinds (runs_of (tokens_of (l ∷ ls))) ≡ map kinds (runs_in l.tokens.items) ++ map kinds (runs_of (tokens_of ls))
joined_kinds l ls = map-append kinds (runs_in l.tokens.items) (runs_of (tokens_of ls))

module _ (file : ℕ) (l l' : Lexed) (ls ls' : List Lexed) (t : FileTree) (trees : List FileTree) (n : ℕ) (new : List Token)
    (x : Feature) where
  -- the feature is one of the first file
  edited_here : EditedFile l.tokens.items l'.tokens.items t.classes n new x → MovedTrees (file + 1) ls' trees
      → map kinds (runs_of (tokens_of ls')) ≡ map kinds (runs_of (tokens_of ls)) → EditedTrees file (l ∷ ls) (l' ∷ ls') (t ∷ trees) n new x
  edited_here h rest runs =
      let first : FileTree = record { file = file; classes = h.classes } in
      let few : n < length (map kinds (runs_in l.tokens.items)) = omega (arith, h.within, length-map (runs_in l.tokens.items) kinds) in
      record {
        now = first ∷ rest.now;
        parsed = (record { number = refl; whole = h.parses }, rest.parsed);
        there = ap (λ (xs : List Feature). slice_get xs n) (joined_features first rest.now)
            ∙ get_left (features_of_all h.classes) (features_of_all (definitions rest.now)) n x h.there;
        old = h.old;
        before = ap (λ (xs : List Feature). slice_get xs n) (joined_features t trees)
            ∙ get_left (features_of_all t.classes) (features_of_all (definitions trees)) n h.old h.before;
        same = λ same. define_both t.classes h.classes (definitions trees) (definitions rest.now) (h.same same) rest.same;
        runs = joined_kinds l' ls'
            ∙ ((λ i. h.runs i ++ runs i)
            ∙ (sym (set_left (map kinds (runs_in l.tokens.items)) (map kinds (runs_of (tokens_of ls))) n (kinds new) few)
            ∙ ap (λ (ks : List (List TokenKind)). slice_set ks n (kinds new)) (sym (joined_kinds l ls))));
        run = get_left (runs_in l'.tokens.items) (runs_of (tokens_of ls')) n new h.run;
      }

  -- the feature is one of the files after it
  edited_later : (m : ℕ) → length (bounds_in file l.tokens.items) + m ≡ n → Parses l.tokens.items t.classes
      → AreRising file 0 l.tokens.items → kinds l'.tokens.items ≡ kinds l.tokens.items → EditedTrees (file + 1) ls ls' trees m new x
      → EditedTrees file (l ∷ ls) (l' ∷ ls') (t ∷ trees) n new x
  edited_later m sum parses rising kind h =
      let (classes, whole, here) = file_moved file 0 l.tokens.items l'.tokens.items t.classes parses rising kind in
      let first : FileTree = record { file = file; classes = classes } in
      let sizes = counts file l.tokens.items t.classes parses in
      let sizes' = counts file l'.tokens.items classes whole in
      let bounds = ap (λ (runs : List Run). length runs) (bounds_of_kinds file l.tokens.items l'.tokens.items kind) in
      let k : ℕ = length (bounds_in file l.tokens.items) in
      let many : length (features_of_all t.classes) ≡ k = sizes.features ∙ sym sizes.bounds in
      let many' : length (features_of_all classes) ≡ k = sizes'.features ∙ (sym sizes'.bounds ∙ bounds) in
      let runs' : length (runs_in l'.tokens.items) ≡ k = sizes'.runs ∙ (sym sizes'.bounds ∙ bounds) in
      let kinds_many : length (map kinds (runs_in l.tokens.items)) ≡ k =
      length-map (runs_in l.tokens.items) kinds ∙ (sizes.runs ∙ sym sizes.bounds) in
      record {
        now = first ∷ h.now;
        parsed = (record { number = refl; whole = whole }, h.parsed);
        there = (λ i. slice_get (joined_features first h.now i) (sym sum i))
            ∙ (get_right (features_of_all classes) (features_of_all (definitions h.now)) k m many' ∙ h.there);
        old = h.old;
        before = (λ i. slice_get (joined_features t trees i) (sym sum i))
            ∙ (get_right (features_of_all t.classes) (features_of_all (definitions trees)) k m many ∙ h.before);
        same = λ same. define_both t.classes classes (definitions trees) (definitions h.now) here (h.same same);
        runs = joined_kinds l' ls'
            ∙ ((λ i. same_runs l.tokens.items l'.tokens.items kind i ++ h.runs i)
            ∙ (sym (set_right (map kinds (runs_in l.tokens.items)) (map kinds (runs_of (tokens_of ls))) m (kinds new))
            ∙ (λ i. slice_set (sym (joined_kinds l ls) i)
            ((ap (λ (q : ℕ). q + m) kinds_many ∙ sum) i) (kinds new))));
        run = ap (slice_get (runs_in l'.tokens.items ++ runs_of (tokens_of ls'))) (sym sum)
            ∙ (get_right (runs_in l'.tokens.items) (runs_of (tokens_of ls')) k m runs' ∙ h.run);
      }

pub trees_edited : (file : ℕ) (files : List (List ℕ)) (ls ls' : List Lexed) (trees : List FileTree) → AllFound IsLexed file files ls
    → AreTreesOf file ls trees → length ls' ≡ length ls → (n : ℕ) (old run : Run) → slice_get (bounds_of file ls) n ≡ Some old
    → (new : List Token) → DiffersAt file ls ls' old run new → (x : Feature) → ParsesFeature new x → EditedTrees file ls ls' trees n new x
trees_edited file files [] ls' trees lexed parsed many n old run is new h x feature = absurd (none-some old is)
trees_edited file files (l ∷ ls) [] trees lexed parsed many n old run is new h x feature = absurd (omega (arith, many))
trees_edited file files (l ∷ ls) (l' ∷ ls') [] lexed parsed many n old run is new h x feature = absurd parsed
trees_edited file [] (l ∷ ls) (l' ∷ ls') (t ∷ trees) lexed parsed many n old run is new h x feature = absurd lexed
trees_edited file (bytes ∷ files) (l ∷ ls) (l' ∷ ls') (t ∷ trees) (lexes, lexed) (tree, parsed) many n old run is new h x feature =
    by (get_either (bounds_in file l.tokens.items) (bounds_of (file + 1) ls) n old is)
    (λ m there. trees_edited (file + 1) files ls ls' trees lexed parsed (omega (arith, many)) m old run there new
    (later_differs file l l' ls ls' old run new h) x feature)
  where
    by : (slice_get (bounds_in file l.tokens.items) n ≡ Some old)
        ⊎ ((m : ℕ) × (length (bounds_in file l.tokens.items) + m ≡ n) × (slice_get (bounds_of (file + 1) ls) m ≡ Some old))
        → ((m : ℕ) → slice_get (bounds_of (file + 1) ls) m ≡ Some old → EditedTrees (file + 1) ls ls' trees m new x)
        → EditedTrees file (l ∷ ls) (l' ∷ ls') (t ∷ trees) n new x
    by (inl there) later =
        let tokens = l.tokens.items in
        let stands = all_at (Stands tokens file) (bounds_in file tokens) n old (stand tokens file 0 0 0 tokens (omega arith) refl) there in
        let here : file + 0 ≡ run.file = omega (arith, stands.file, h.home) in
        let same : map kinds (tokens_of ls') ≡ map kinds (tokens_of ls) =
        each_same ls ls' (omega (arith, many)) (λ k. h.others (suc k) (λ e. absurd (omega (arith, e, here)))) in
        edited_here file l l' ls ls' t trees n new x
        (file_edited file tokens l'.tokens.items t.classes tree.whole lexes.rising n old run there h.start h.order (h.end 0 here)
        (h.front 0 here) (h.back 0 here) new (h.new_is 0 here) x feature)
        (trees_moved (file + 1) files ls ls' trees lexed parsed same) (all_runs ls ls' same)
    by (inr (m, sum, there)) later =
        let after : file + 1 ≤ old.file = file_at (file + 1) ls m old there in
        let kind : kinds l'.tokens.items ≡ kinds l.tokens.items = h.others 0 (λ e. absurd (omega (arith, e, after, h.home))) in
        edited_later file l l' ls ls' t trees n new x m sum tree.whole lexes.rising kind (later m there)
