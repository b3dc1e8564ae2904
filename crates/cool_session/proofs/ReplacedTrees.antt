-- If one feature in the concrete syntax tree of a file is replaced by another, the tokens, the features and the class definitions of the file change only at
-- this feature.
use Rattle.std.proofs.Common.{◌≡◌, ◌⊎◌, inl, inr, ℕ, ◌+◌, ◌-◌, ◌<◌, ◌≤◌, List, [], ◌∷◌, ◌++◌, length, Some, refl, sym, ap, ◌∙◌, subst, arith, append_assoc, append-nil}
use Rattle.std.specs.Prelude.{slice_get}
use Rattle.std.proofs.lemmas.List.{length-append}
use Rattle.std.proofs.lemmas.Option.{slice_get_within}
use Rattle.cool_syntax.specs.declared.place.Place.{Place}
use Rattle.cool_syntax.specs.declared.token.Token.{Token}
use Rattle.cool_syntax.specs.declared.file_tree.ClassDef.{ClassDef}
use Rattle.cool_syntax.specs.declared.file_tree.Feature.{Feature}
use Rattle.cool_syntax.specs.declared.file_tree.Feature.TheVariants as feature
use Rattle.cool_syntax.specs.ConcreteTrees.{ConcreteFeature, Features, NoFeature, Another, Heading, Classes, NoClass, Class}
use Rattle.cool_syntax.specs.PlainTrees.{plain_feature, plain_features, plain_class, plain_file}
use Rattle.cool_syntax.specs.Readings.{feature_reading, features_reading, heading_reading, file_reading}
use Rattle.cool_syntax.specs.Shapes.{IsShapedFeature, AreShapedFeatures, IsShapedFile}
use Rattle.cool_classes.specs.Declarations.{DeclareSame, AllDeclareSame}
use Rattle.cool_session.specs.declared.runs.Run.{Run}
use Rattle.cool_session.specs.FeatureTokens.{features_of_all}
use Rattle.cool_session.proofs.RunsOfFeatures.{feature_runs, file_runs, all_joined, closed}
use Rattle.cool_session.proofs.BoundsOfFeatures.{feature_bounds, file_bounds}
use Rattle.cool_session.proofs.DifferingLists.{Differ, differ_left, differ_right, differ_last, differ_as, get_left, get_right, get_at}
use Rattle.cool_session.proofs.DefinitionsKept.{DefineSame, AllDefineSame}
use Rattle.std.proofs.lemmas.Bool.{cases_lt}
use Rattle.cool_classes.proofs.SwappedBodies.{declare_self, all_declare_self}

-- Features of a class

abbrev pub feature_count : Features → ℕ
feature_count NoFeature = 0
feature_count (Another before e) = feature_count before + 1

runs_count : (fs : Features) → length (feature_runs fs) ≡ feature_count fs
unfolding feature_runs
runs_count NoFeature = refl
runs_count (Another before e) = omega (arith, length-append (feature_runs before) (feature_reading e ∷ []), runs_count before)

plain_count : (fs : Features) → length (plain_features fs) ≡ feature_count fs
plain_count NoFeature = refl
plain_count (Another before e) = omega (arith, length-append (plain_features before) (plain_feature e ∷ []), plain_count before)

bounds_count : (file at : ℕ) (fs : Features) → length (feature_bounds file at fs) ≡ feature_count fs
bounds_count file at NoFeature = refl
bounds_count file at (Another before e) =
    let last : Run = record {
      file = file;
      start = at + length (features_reading before);
      end = at + length (features_reading before) + length (feature_reading e);
    } in
    omega (arith, length-append (feature_bounds file at before) (last ∷ []), bounds_count file at before)

-- the run of a feature that begins so many tokens after a position
abbrev pub bound_of : ℕ → ℕ → List Token → ConcreteFeature → Run
bound_of file at front e = record { file = file; start = at + length front; end = at + length front + length (feature_reading e) }

-- features with another one in the place of the one of a number, between these tokens
pub record Changed (fs : Features) (n : ℕ) (front back : List Token) (old new : ConcreteFeature) : Type 0 where
  pub now : Features
  pub reads : features_reading now ≡ front ++ feature_reading new ++ back
  pub shaped : AreShapedFeatures fs → IsShapedFeature new → AreShapedFeatures now
  pub runs : Differ (List Token) n (feature_runs fs) (feature_reading old) (feature_runs now) (feature_reading new)
  pub plain : Differ Feature n (plain_features fs) (plain_feature old) (plain_features now) (plain_feature new)

-- features have one of this number
pub record Holds (fs : Features) (n : ℕ) : Type 0 where
  pub front : List Token
  pub old : ConcreteFeature
  pub back : List Token
  pub reads : features_reading fs ≡ front ++ feature_reading old ++ back
  pub bound : (file at : ℕ) → slice_get (feature_bounds file at fs) n ≡ Some (bound_of file at front old)
  pub changed : (new : ConcreteFeature) → Changed fs n front back old new

changed_before : (before : Features) (e : ConcreteFeature) (n : ℕ) (front back : List Token) (old new : ConcreteFeature)
    → Changed before n front back old new → Changed (Another before e) n front (back ++ feature_reading e) old new
unfolding feature_runs
changed_before before e n front back old new h =
    record {
      now = Another h.now e;
      reads = ap (λ (ts : List Token). ts ++ feature_reading e) h.reads
          ∙ append_assoc (front ++ feature_reading new) back (feature_reading e);
      shaped = λ (first, last) new_shaped. (h.shaped first new_shaped, last);
      runs = differ_left n (feature_runs before) (feature_runs h.now) (feature_reading e ∷ []) (feature_reading old) (feature_reading new)
          h.runs;
      plain = differ_left n (plain_features before) (plain_features h.now) (plain_feature e ∷ []) (plain_feature old) (plain_feature new)
          h.plain;
    }

changed_last : (before : Features) (e new : ConcreteFeature) (n : ℕ) → feature_count before ≡ n
    → Changed (Another before e) n (features_reading before) [] e new
unfolding feature_runs
changed_last before e new n size =
    record {
      now = Another before new;
      reads = sym (append-nil (features_reading before ++ feature_reading new));
      shaped = λ (first, last) new_shaped. (first, new_shaped);
      runs = differ_last n (feature_runs before) (feature_reading e) (feature_reading new) (runs_count before ∙ size);
      plain = differ_last n (plain_features before) (plain_feature e) (plain_feature new) (plain_count before ∙ size);
    }

pub features_hold : (fs : Features) (n : ℕ) → n < feature_count fs → Holds fs n
features_hold NoFeature n h = absurd (omega (arith, h))
features_hold (Another before e) n h = by (features_hold before n) (cases_lt n (feature_count before))
  where
    by : (n < feature_count before → Holds before n) → (n < feature_count before) ⊎ (feature_count before ≤ n) → Holds (Another before e) n
    by there (inl less) =
        let held = there less in
        record {
          front = held.front;
          old = held.old;
          back = held.back ++ feature_reading e;
          reads = ap (λ (ts : List Token). ts ++ feature_reading e) held.reads
              ∙ append_assoc (held.front ++ feature_reading held.old) held.back (feature_reading e);
          bound = λ file at. get_left (feature_bounds file at before) _ n (bound_of file at held.front held.old) (held.bound file at);
          changed = λ new. changed_before before e n held.front held.back held.old new (held.changed new);
        }
    by there (inr more) =
        let size : feature_count before ≡ n = omega (arith, h, more) in
        record {
          front = features_reading before;
          old = e;
          back = [];
          reads = sym (append-nil (features_reading before ++ feature_reading e));
          bound = λ file at. get_at (feature_bounds file at before) [] n (bound_of file at (features_reading before) e)
              (bounds_count file at before ∙ size);
          changed = λ new. changed_last before e new n size;
        }

-- Features of a file

abbrev pub file_count : Classes → ℕ
file_count NoClass = 0
file_count (Class before h fs rbrace semi) = file_count before + feature_count fs

pub file_runs_count : (f : Classes) → length (file_runs f) ≡ file_count f
unfolding file_runs
file_runs_count NoClass = refl
file_runs_count (Class before h fs rbrace semi) =
    omega (arith, length-append (file_runs before) (feature_runs fs), file_runs_count before, runs_count fs)

pub file_bounds_count : (file : ℕ) (f : Classes) → length (file_bounds file f) ≡ file_count f
file_bounds_count file NoClass = refl
file_bounds_count file (Class before h fs rbrace semi) =
    let at = length (file_reading before) + length (heading_reading h) in
    let sum = length-append (file_bounds file before) (feature_bounds file at fs) in
    omega (arith, sum, file_bounds_count file before, bounds_count file at fs)

-- the features of a class after others
more_features : (before : Classes) (h : Heading) (fs : Features)
    → features_of_all (plain_file before ++ plain_class h fs ∷ []) ≡ features_of_all (plain_file before) ++ plain_features fs
more_features before h fs =
    all_joined (plain_file before) (plain_class h fs ∷ [])
    ∙ ap (λ (xs : List Feature). features_of_all (plain_file before) ++ xs) (append-nil (plain_features fs))

pub file_plain_count : (f : Classes) → length (features_of_all (plain_file f)) ≡ file_count f
file_plain_count NoClass = refl
file_plain_count (Class before h fs rbrace semi) =
    ap (λ (xs : List Feature). length xs) (more_features before h fs)
    ∙ omega (arith, length-append (features_of_all (plain_file before)) (plain_features fs), file_plain_count before, plain_count fs)

-- Definitions

pub all_define_themselves : (ds : List ClassDef) → AllDefineSame ds ds
all_define_themselves [] = tt
all_define_themselves (d ∷ ds) = ((refl, refl, all_declare_self d.features), all_define_themselves ds)

define_joined : (ds ds' : List ClassDef) (d d' : ClassDef) → AllDefineSame ds ds' → DefineSame d d'
    → AllDefineSame (ds ++ d ∷ []) (ds' ++ d' ∷ [])
define_joined [] [] d d' h same = (same, tt)
define_joined [] (e' ∷ ds') d d' h same = absurd h
define_joined (e ∷ ds) [] d d' h same = absurd h
define_joined (e ∷ ds) (e' ∷ ds') d d' (h, hs) same = (h, define_joined ds ds' d d' hs same)

middle_declares : (before after : List Feature) (x y : Feature) → DeclareSame x y
    → AllDeclareSame (before ++ x ∷ after) (before ++ y ∷ after)
middle_declares [] after x y same = (same, all_declare_self after)
middle_declares (z ∷ before) after x y same = (declare_self z, middle_declares before after x y same)

differ_declares : (n : ℕ) (old now : List Feature) (x y : Feature) → Differ Feature n old x now y → DeclareSame x y → AllDeclareSame old now
differ_declares n old now x y h same =
    subst (λ (xs : List Feature). AllDeclareSame xs now) (sym h.is)
    (subst (AllDeclareSame (h.before ++ x ∷ h.after)) (sym h.becomes) (middle_declares h.before h.after x y same))

-- The file

-- a file with another feature in the place of the one of a number, between these tokens
pub record FileChanged (f : Classes) (n : ℕ) (front back : List Token) (old new : ConcreteFeature) : Type 0 where
  pub now : Classes
  pub reads : file_reading now ≡ front ++ feature_reading new ++ back
  pub shaped : IsShapedFile f → IsShapedFeature new → IsShapedFile now
  pub runs : Differ (List Token) n (file_runs f) (feature_reading old) (file_runs now) (feature_reading new)
  pub plain : Differ Feature n (features_of_all (plain_file f)) (plain_feature old) (features_of_all (plain_file now)) (plain_feature new)
  pub same : DeclareSame (plain_feature old) (plain_feature new) → AllDefineSame (plain_file f) (plain_file now)

-- a file has a feature of this number
pub record FileHolds (f : Classes) (n : ℕ) : Type 0 where
  pub front : List Token
  pub old : ConcreteFeature
  pub back : List Token
  pub reads : file_reading f ≡ front ++ feature_reading old ++ back
  pub bound : (file : ℕ) → slice_get (file_bounds file f) n ≡ Some (bound_of file 0 front old)
  pub changed : (new : ConcreteFeature) → FileChanged f n front back old new

-- lists that follow each other, otherwise bracketed
tail_last : (a b h f c : List Token) → a ++ b ++ h ++ f ++ c ≡ a ++ (b ++ h ++ f ++ c)
tail_last a b h f c =
    ap (λ (ts : List Token). ts ++ f ++ c) (append_assoc a b h)
    ∙ (ap (λ (ts : List Token). ts ++ c) (append_assoc a (b ++ h) f) ∙ append_assoc a (b ++ h ++ f) c)

middle_first : (a b e back c : List Token) → a ++ (b ++ e ++ back) ++ c ≡ a ++ b ++ e ++ (back ++ c)
middle_first a b e back c =
    ap (λ (ts : List Token). ts ++ c) (sym (append_assoc a (b ++ e) back) ∙ ap (λ (ts : List Token). ts ++ back) (sym (append_assoc a b e)))
    ∙ append_assoc (a ++ b ++ e) back c

module _ (before : Classes) (h : Heading) (fs : Features) (rbrace semi : Place) where
  changed_earlier : (n : ℕ) (front back : List Token) (old new : ConcreteFeature) → FileChanged before n front back old new
      → FileChanged (Class before h fs rbrace semi) n front (back ++ heading_reading h ++ features_reading fs ++ closed rbrace semi) old new
  unfolding file_runs
  changed_earlier n front back old new c =
      record {
        now = Class c.now h fs rbrace semi;
        reads = ap (λ (ts : List Token). ts ++ heading_reading h ++ features_reading fs ++ closed rbrace semi) c.reads
            ∙ tail_last (front ++ feature_reading new) back (heading_reading h) (features_reading fs) (closed rbrace semi);
        shaped = λ (first, last) new_shaped. (c.shaped first new_shaped, last);
        runs = differ_left n (file_runs before) (file_runs c.now) (feature_runs fs) (feature_reading old) (feature_reading new) c.runs;
        plain = differ_as n (features_of_all (plain_file before) ++ plain_features fs)
            (features_of_all (plain_file c.now) ++ plain_features fs)
            (features_of_all (plain_file (Class before h fs rbrace semi))) (features_of_all (plain_file (Class c.now h fs rbrace semi)))
            (plain_feature old) (plain_feature new) (more_features before h fs) (more_features c.now h fs)
            (differ_left n (features_of_all (plain_file before)) (features_of_all (plain_file c.now)) (plain_features fs)
            (plain_feature old) (plain_feature new) c.plain);
        same = λ s. define_joined (plain_file before) (plain_file c.now) (plain_class h fs) (plain_class h fs) (c.same s)
            (refl, refl, all_declare_self (plain_features fs));
      }

  changed_here : (m n : ℕ) (front back : List Token) (old new : ConcreteFeature) → file_count before + m ≡ n
      → Changed fs m front back old new
      → FileChanged (Class before h fs rbrace semi) n (file_reading before ++ heading_reading h ++ front) (back ++ closed rbrace semi) old
      new
  unfolding file_runs
  changed_here m n front back old new sum c =
      record {
        now = Class before h c.now rbrace semi;
        reads = ap (λ (ts : List Token). file_reading before ++ heading_reading h ++ ts ++ closed rbrace semi) c.reads
            ∙ middle_first (file_reading before ++ heading_reading h) front (feature_reading new) back (closed rbrace semi);
        shaped = λ (first, last) new_shaped. (first, c.shaped last new_shaped);
        runs = differ_right (file_count before) m n (feature_runs fs) (feature_runs c.now) (file_runs before)
            (feature_reading old) (feature_reading new) (file_runs_count before) sum c.runs;
        plain = differ_as n (features_of_all (plain_file before) ++ plain_features fs)
            (features_of_all (plain_file before) ++ plain_features c.now)
            (features_of_all (plain_file (Class before h fs rbrace semi))) (features_of_all (plain_file (Class before h c.now rbrace semi)))
            (plain_feature old) (plain_feature new) (more_features before h fs) (more_features before h c.now)
            (differ_right (file_count before) m n (plain_features fs) (plain_features c.now) (features_of_all (plain_file before))
            (plain_feature old) (plain_feature new) (file_plain_count before) sum c.plain);
        same = λ s. define_joined (plain_file before) (plain_file before) (plain_class h fs) (plain_class h c.now)
            (all_define_themselves (plain_file before))
            (refl, refl, differ_declares m (plain_features fs) (plain_features c.now) (plain_feature old) (plain_feature new) c.plain s);
      }

  holds_earlier : (n : ℕ) → FileHolds before n → FileHolds (Class before h fs rbrace semi) n
  holds_earlier n held =
      record {
        front = held.front;
        old = held.old;
        back = held.back ++ heading_reading h ++ features_reading fs ++ closed rbrace semi;
        reads = ap (λ (ts : List Token). ts ++ heading_reading h ++ features_reading fs ++ closed rbrace semi) held.reads
            ∙ tail_last (held.front ++ feature_reading held.old) held.back (heading_reading h) (features_reading fs) (closed rbrace semi);
        bound = λ file. get_left (file_bounds file before) _ n (bound_of file 0 held.front held.old) (held.bound file);
        changed = λ new. changed_earlier n held.front held.back held.old new (held.changed new);
      }

  holds_here : (m n : ℕ) → file_count before + m ≡ n → Holds fs m → FileHolds (Class before h fs rbrace semi) n
  holds_here m n sum held =
      let at = length (file_reading before) + length (heading_reading h) in
      let place : at + length held.front ≡ 0 + length (file_reading before ++ heading_reading h ++ held.front) =
      let outer = length-append (file_reading before ++ heading_reading h) held.front in
      omega (arith, outer, length-append (file_reading before) (heading_reading h)) in
      record {
        front = file_reading before ++ heading_reading h ++ held.front;
        old = held.old;
        back = held.back ++ closed rbrace semi;
        reads = ap (λ (ts : List Token). file_reading before ++ heading_reading h ++ ts ++ closed rbrace semi) held.reads
            ∙ middle_first (file_reading before ++ heading_reading h) held.front (feature_reading held.old) held.back (closed rbrace semi);
        bound = λ file. ap (slice_get (file_bounds file (Class before h fs rbrace semi))) (sym sum)
            ∙ (get_right (file_bounds file before) (feature_bounds file at fs) (file_count before) m (file_bounds_count file before)
            ∙ (held.bound file at
            ∙ ap (λ (k : ℕ). Some (record { file = file; start = k; end = k + length (feature_reading held.old) })) place));
        changed = λ new. changed_here m n held.front held.back held.old new sum (held.changed new);
      }

pub file_holds : (f : Classes) (n : ℕ) → n < file_count f → FileHolds f n
file_holds NoClass n less = absurd (omega (arith, less))
file_holds (Class before h fs rbrace semi) n less = by (file_holds before n) (cases_lt n (file_count before))
  where
    by : (n < file_count before → FileHolds before n) → (n < file_count before) ⊎ (file_count before ≤ n)
        → FileHolds (Class before h fs rbrace semi) n
    by there (inl earlier) = holds_earlier before h fs rbrace semi n (there earlier)
    by there (inr here) =
        let m = n - file_count before in
        let sum : file_count before + m ≡ n = omega (arith, here) in
        let among : m < feature_count fs = omega (arith, here, less) in
        holds_here before h fs rbrace semi m n sum (features_hold fs m among)

-- a number with a bound is that of a feature
pub counted : (file : ℕ) (f : Classes) (n : ℕ) (run : Run) → slice_get (file_bounds file f) n ≡ Some run → n < file_count f
counted file f n run is =
    let less = slice_get_within (file_bounds file f) n run is in omega (arith, less, file_bounds_count file f)
