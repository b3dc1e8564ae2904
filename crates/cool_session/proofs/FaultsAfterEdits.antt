-- If two class tables have the same signatures, features with the same tokens, except for source locations, are checked with the same result: both are typed,
-- or both have an error of one kind at the token of one position. So the stored result of one is also the result to store for the other.
use Rattle.std.proofs.Common.{◌≡◌, ◌⊎◌, inl, inr, ℕ, zero, suc, ◌+◌, ◌<◌, List, [], ◌∷◌, map, length, get_or, drop, Option, Some, None, IfSome, Bool, true, false, if◌then◌else◌, Ok, Err, refl, sym, ap, ◌∙◌, subst, arith}
use Rattle.std.specs.Prelude.{nat_eq}
use Rattle.std.specs.Option.{option_map}
use Rattle.std.proofs.lemmas.Bool.{eq-eqb, ne_eqb}
use Rattle.std.proofs.lemmas.List.{length-map}
use Rattle.cool_syntax.specs.declared.place.Place.{Place}
use Rattle.cool_syntax.specs.declared.token.Token.{Token}
use Rattle.cool_syntax.specs.declared.token.TokenKind.{TokenKind}
use Rattle.cool_syntax.specs.declared.file_tree.ClassDef.{ClassDef}
use Rattle.cool_syntax.specs.declared.file_tree.Feature.{Feature}
use Rattle.cool_syntax.specs.declared.file_tree.Feature.TheVariants.{Method, Attribute}
use Rattle.cool_syntax.specs.declared.file_tree.Formal.{Formal}
use Rattle.cool_syntax.specs.declared.file_tree.AttributeDef.{AttributeDef}
use Rattle.cool_syntax.specs.Tree.{Tree}
use Rattle.cool_syntax.specs.ConcreteTrees.{NoParent, Heading, NoFeature, Another, NoClass, Class}
use Rattle.cool_syntax.specs.Grammar.{Parses}
use Rattle.cool_syntax.specs.TokenFacts.{AreRising}
use Rattle.cool_classes.specs.declared.class_id.ClassId.{ClassId}
use Rattle.cool_classes.specs.declared.class_id.Ty.{Ty}
use Rattle.cool_classes.specs.Chains.{Class as TableClass}
use Rattle.cool_classes.specs.ClassFaults.{classes_meant}
use Rattle.cool_rules.specs.Rules.{type_meant, formal_binding}
use Rattle.cool_rules.specs.Scopes.{Binding, entered}
use Rattle.cool_check.specs.declared.fault.TypeFault.{TypeFault}
use Rattle.cool_check.specs.declared.fault.TypeKind.TheVariants.{E17, E18}
use Rattle.cool_check.specs.Contexts.{formal_bindings}
use Rattle.cool_check.specs.declared.fault.TypingRule.TheVariants as typing
use Rattle.cool_check.specs.FirstFaults.{Checked, checked, conform, unfit}
use Rattle.cool_check.specs.TypingFaults.{class_context, initial_checked, feature_checked}
use Rattle.cool_session.specs.Bases.{view}
use Rattle.cool_session.specs.declared.base.KeptFault.{KeptFault}
use Rattle.cool_session.specs.KeptFaults.{place_of_token, result_kept, IsKeptOf}
use Rattle.cool_session.specs.FeatureTokens.{kinds, ParsesFeature}
use Rattle.cool_session.specs.OneFeature.{class_of_one}
use Rattle.cool_session.specs.Signatures.{signatures}
use Rattle.cool_session.proofs.RenamedTrees.{renamed_token, renamed_type, renamed_tree, renamed_formal, renamed_feature, feature_renamed}
use Rattle.cool_session.proofs.RenamedChecks.{renamed_result, then_renamed, test_renamed, checked_renamed}
use Rattle.cool_session.proofs.TablesOfSignatures.{meant_same, contexts_agree, views_same}
use Rattle.cool_parser.proofs.ParsingIsTheGrammar.{one_tree}
use Rattle.cool_syntax.specs.Bare.{nowhere}

-- A feature whose places are renamed, checked in a table of the same classes, has the result that it has, renamed

module _ (f : Place → Place) (p p' : List TableClass) (same : map view p' ≡ map view p) (c : ClassId) where
  formals_renamed : (fs : List Formal) → map (formal_binding p') (map (renamed_formal f) fs) ≡ map (formal_binding p) fs
  formals_renamed [] = refl
  formals_renamed (a ∷ fs) = λ i. record { name = a.name; value = meant_same p p' same a.declared.name i } ∷ formals_renamed fs i

  declared_conforms : (found : Ty) (name : List ℕ)
      → conform (class_context p' c) found (type_meant p' name) ≡ conform (class_context p c) found (type_meant p name)
  declared_conforms found name =
      ap (conform (class_context p' c) found) (meant_same p p' same name) ∙ (contexts_agree p p' same c).conforms found (type_meant p name)

  initial_renamed : (a : AttributeDef) (o : Option Tree) (b : AttributeDef) → b.at ≡ f a.at → b.declared.name ≡ a.declared.name
      → initial_checked (class_context p' c) b (option_map (renamed_tree f) o) ≡ renamed_result f (initial_checked (class_context p c) a o)
  initial_renamed a None b here named = refl
  initial_renamed a (Some t) b here named =
      then_renamed f (checked (class_context p c) [] t) (checked (class_context p' c) [] (renamed_tree f t)) _ _
      (checked_renamed f (class_context p c) (class_context p' c) (contexts_agree p p' same c) t [])
      (λ found. test_renamed f (conform (class_context p c) found (type_meant p a.declared.name))
      (conform (class_context p' c) found (type_meant p' b.declared.name)) _ _ (Ok tt) (Ok tt)
      (ap (λ (n : List ℕ). conform (class_context p' c) found (type_meant p' n)) named ∙ declared_conforms found a.declared.name)
      (λ i. unfit typing.Attribute E17 (here i) found (due i)) refl)
    where
      due : type_meant p' b.declared.name ≡ type_meant p a.declared.name
      due = ap (type_meant p') named ∙ meant_same p p' same a.declared.name

  pub feature_check_renamed : (x : Feature) → feature_checked p' c (renamed_feature f x) ≡ renamed_result f (feature_checked p c x)
  feature_check_renamed (Method m) =
      then_renamed f (checked (class_context p c) (formal_bindings p m.formals) m.body)
      (checked (class_context p' c) (formal_bindings p' (map (renamed_formal f) m.formals)) (renamed_tree f m.body)) _ _
      (ap (λ (bs : List Binding). checked (class_context p' c) (entered bs []) (renamed_tree f m.body)) (formals_renamed m.formals)
      ∙ checked_renamed f (class_context p c) (class_context p' c) (contexts_agree p p' same c) m.body (formal_bindings p m.formals))
      (λ found. test_renamed f (conform (class_context p c) found (type_meant p m.result.name))
      (conform (class_context p' c) found (type_meant p' m.result.name)) _ _ (Ok tt) (Ok tt)
      (declared_conforms found m.result.name) (ap (unfit typing.Method E18 (f m.at) found) (meant_same p p' same m.result.name)) refl)
  feature_check_renamed (Attribute a) =
      initial_renamed a a.init
      (record { name = a.name; at = f a.at; declared = renamed_type f a.declared; init = option_map (renamed_tree f) a.init }) refl refl

-- Tokens are one feature at most

heading : Heading
heading = record { mark = nowhere; name = []; at = nowhere; parent = NoParent; lbrace = nowhere }

class_parses : (tokens : List Token) (x : Feature) → ParsesFeature tokens x
    → Parses (class_of_one tokens) (record { name = []; at = nowhere; parent = None; features = x ∷ [] } ∷ [])
unfolding heading
class_parses tokens x h = (
  Class NoClass heading (Another NoFeature h.feature) nowhere nowhere,
  (tt, (tt, h.shaped)),
  ap class_of_one h.reads,
  ap (λ (y : Feature). record { name = []; at = nowhere; parent = None; features = y ∷ [] } ∷ []) h.plain,
)

-- the first feature of the first class, or this one
first_feature : Feature → List ClassDef → Feature
first_feature y [] = y
first_feature y (d ∷ ds) = get_or d.features 0 y

pub one_feature : (tokens : List Token) (x y : Feature) → ParsesFeature tokens x → ParsesFeature tokens y → x ≡ y
unfolding first_feature
one_feature tokens x y h g = ap (first_feature y) (one_tree (class_of_one tokens) _ _ (class_parses tokens x h) (class_parses tokens y g))

-- The renaming that takes the places of some tokens to those of others

abbrev pub renaming : Place → List Token → List Token → Place → Place
renaming d [] us at = d
renaming d (t ∷ ts) [] at = d
renaming d (t ∷ ts) (u ∷ us) at = if nat_eq t.at.byte at.byte then u.at else renaming d ts us at

-- the first of two tokens renames no place after its own
skips : (d : Place) (t u : Token) (ts us : List Token) (file low : ℕ) (vs : List Token) → AreRising file low vs → t.at.byte < low
    → map (renamed_token (renaming d (t ∷ ts) (u ∷ us))) vs ≡ map (renamed_token (renaming d ts us)) vs
skips d t u ts us file low [] h less = refl
skips d t u ts us file low (v ∷ vs) (in_file, after, h) less =
    let other : nat_eq t.at.byte v.at.byte ≡ false = ne_eqb t.at.byte v.at.byte (omega (arith, after, less)) in
    let later : t.at.byte < v.at.byte + 1 = omega (arith, after, less) in
    λ i. record { kind = v.kind; at = if other i then u.at else renaming d ts us v.at } ∷ skips d t u ts us file (v.at.byte + 1) vs h later i

pub renames : (d : Place) (file low : ℕ) (ts us : List Token) → AreRising file low ts → kinds us ≡ kinds ts
    → map (renamed_token (renaming d ts us)) ts ≡ us
renames d file low [] [] h same = refl
renames d file low [] (u ∷ us) h same = absurd (omega (arith, ap length same))
renames d file low (t ∷ ts) [] h same = absurd (omega (arith, ap length same))
renames d file low (t ∷ ts) (u ∷ us) (in_file, after, h) same =
    let here : nat_eq t.at.byte t.at.byte ≡ true = eq-eqb t.at.byte t.at.byte refl in
    let kind : u.kind ≡ t.kind = ap (λ (ks : List TokenKind). get_or ks 0 t.kind) same in
    let rest : kinds us ≡ kinds ts = ap (drop 1) same in
    let later = skips d t u ts us file (t.at.byte + 1) ts h (omega arith) ∙ renames d file (t.at.byte + 1) ts us h rest in
    λ i. record { kind = sym kind i; at = if here i then u.at else renaming d ts us t.at } ∷ later i

-- a place is that of a token, or no token's
found_or_not : (ts : List Token) (at : Place)
    → ((k : ℕ) × (k < length ts) × ((d : Place) → renaming d ts ts at ≡ place_of_token ts k)) ⊎ ((d : Place) → renaming d ts ts at ≡ d)
found_or_not [] at = inr (λ d. refl)
found_or_not (t ∷ ts) at = by (nat_eq t.at.byte at.byte) refl (found_or_not ts at)
  where
    by : (b : Bool) → nat_eq t.at.byte at.byte ≡ b
        → ((k : ℕ) × (k < length ts) × ((d : Place) → renaming d ts ts at ≡ place_of_token ts k)) ⊎ ((d : Place) → renaming d ts ts at ≡ d)
        → ((k : ℕ) × (k < length (t ∷ ts)) × ((d : Place) → renaming d (t ∷ ts) (t ∷ ts) at ≡ place_of_token (t ∷ ts) k))
        ⊎ ((d : Place) → renaming d (t ∷ ts) (t ∷ ts) at ≡ d)
    by true e behind = inl (0, omega arith, λ d. ap (λ (b : Bool). if b then t.at else renaming d ts ts at) e)
    by false e (inl (k, within, is)) =
        inl (suc k, omega (arith, within), λ d. ap (λ (b : Bool). if b then t.at else renaming d ts ts at) e ∙ is d)
    by false e (inr none) = inr (λ d. ap (λ (b : Bool). if b then t.at else renaming d ts ts at) e ∙ none d)

place_renamed : (f : Place → Place) (ts : List Token) (k : ℕ) → k < length ts → f (place_of_token ts k) ≡ place_of_token (map (renamed_token f) ts) k
place_renamed f [] k within = absurd (omega arith)
place_renamed f (t ∷ ts) zero within = refl
place_renamed f (t ∷ ts) (suc k) within = let less : k < length ts = omega (arith, within) in place_renamed f ts k less

-- The place of a fault is that of a token: a renaming of places of no token changes nothing, so it does not change this place

fault_place : Place → Checked (Unit {0}) → Place
fault_place d (Ok u) = d
fault_place d (Err fault) = fault.at

module _ (p : List TableClass) (c : ClassId) (x : Feature) (tokens : List Token) (parses : ParsesFeature tokens x) (file low : ℕ)
    (rising : AreRising file low tokens) where
  fixed : (d : Place) → renamed_result (renaming d tokens tokens) (feature_checked p c x) ≡ feature_checked p c x
  fixed d =
      let f = renaming d tokens tokens in
      let again : ParsesFeature tokens (renamed_feature f x) =
      subst (λ (ts : List Token). ParsesFeature ts (renamed_feature f x)) (renames d file low tokens tokens rising refl)
      (feature_renamed f tokens x parses) in
      sym (feature_check_renamed f p p refl c x) ∙ ap (feature_checked p c) (one_feature tokens (renamed_feature f x) x again parses)

  place_fixed : (fault : TypeFault) → feature_checked p c x ≡ Err fault → (d : Place) → renaming d tokens tokens fault.at ≡ fault.at
  unfolding fault_place
  place_fixed fault is d =
      ap (fault_place d) (sym (ap (renamed_result (renaming d tokens tokens)) is) ∙ (fixed d ∙ is))

  -- something is to be kept of each feature
  pub some_kept : (kept : Option KeptFault) × IsKeptOf tokens (feature_checked p c x) kept
  some_kept = by (feature_checked p c x) refl
    where
      of_fault : (fault : TypeFault) → feature_checked p c x ≡ Err fault
          → ((k : ℕ) × (k < length tokens) × ((d : Place) → renaming d tokens tokens fault.at ≡ place_of_token tokens k))
          ⊎ ((d : Place) → renaming d tokens tokens fault.at ≡ d)
          → (kept : Option KeptFault) × IsKeptOf tokens (feature_checked p c x) kept
      of_fault fault is (inl (k, within, at)) =
          let there : fault.at ≡ place_of_token tokens k = sym (place_fixed fault is fault.at) ∙ at fault.at in (
            Some (record { kind = fault.kind; rule = fault.rule; token = k; found = fault.found; due = fault.due }),
            record { within = within; is = is ∙ ap (λ (q : Place). Err (record { kind = fault.kind; rule = fault.rule; at = q; found = fault.found; due = fault.due })) there },
          )
      of_fault fault is (inr none) =
          let first : Place = record { file = 0; line = 0; byte = 0 } in
          let second : Place = record { file = 0; line = 0; byte = 1 } in
          let same : first ≡ second =
          sym (none first) ∙ (place_fixed fault is first ∙ (sym (place_fixed fault is second) ∙ none second)) in
          absurd (omega (arith, ap (λ (q : Place). q.byte) same))

      by : (r : Checked (Unit {0})) → feature_checked p c x ≡ r → (kept : Option KeptFault) × IsKeptOf tokens (feature_checked p c x) kept
      by (Ok u) is = (None, record { within = tt; is = is })
      by (Err fault) is = of_fault fault is (found_or_not tokens fault.at)

-- The stored result of a feature is also the result to store for a feature of the same tokens

result_renamed : (f : Place → Place) (tokens : List Token) (kept : Option KeptFault) → IfSome kept (λ fault. fault.token < length tokens)
    → renamed_result f (result_kept tokens kept) ≡ result_kept (map (renamed_token f) tokens) kept
result_renamed f tokens None within = refl
result_renamed f tokens (Some kept) within =
    ap (λ (q : Place). Err (record { kind = kept.kind; rule = kept.rule; at = q; found = kept.found; due = kept.due })) (place_renamed f tokens kept.token within)

as_many : (tokens tokens' : List Token) → kinds tokens' ≡ kinds tokens → length tokens' ≡ length tokens
as_many tokens tokens' same = sym (length-map tokens' (λ t. t.kind)) ∙ (ap length same ∙ length-map tokens (λ t. t.kind))

still_within : (tokens tokens' : List Token) (kept : Option KeptFault) → length tokens' ≡ length tokens
    → IfSome kept (λ fault. fault.token < length tokens) → IfSome kept (λ fault. fault.token < length tokens')
still_within tokens tokens' None same within = tt
still_within tokens tokens' (Some kept) same within = subst (λ (n : ℕ). kept.token < n) (sym same) within

module _ (p p' : List TableClass) (same : map view p' ≡ map view p) (c : ClassId) (x x' : Feature) (tokens tokens' : List Token)
    (parses : ParsesFeature tokens x) (parses' : ParsesFeature tokens' x') (file low : ℕ) (rising : AreRising file low tokens)
    (alike : kinds tokens' ≡ kinds tokens) where
  -- over tables of the same classes, what is kept of a feature is what is to be kept of a feature of the same tokens
  pub still_kept : (kept : Option KeptFault) → IsKeptOf tokens (feature_checked p c x) kept → IsKeptOf tokens' (feature_checked p' c x') kept
  still_kept kept h =
      let f = renaming nowhere tokens tokens' in
      let moved = renames nowhere file low tokens tokens' rising alike in
      let renamed : ParsesFeature tokens' (renamed_feature f x) =
      subst (λ (ts : List Token). ParsesFeature ts (renamed_feature f x)) moved (feature_renamed f tokens x parses) in
      record {
        within = still_within tokens tokens' kept (as_many tokens tokens' alike) h.within;
        is = ap (feature_checked p' c) (one_feature tokens' x' (renamed_feature f x) parses' renamed)
            ∙ (feature_check_renamed f p p' same c x
            ∙ (ap (renamed_result f) h.is ∙ (result_renamed f tokens kept h.within ∙ ap (λ (ts : List Token). result_kept ts kept) moved)));
      }

module _ (before after : List ClassDef) (signed : signatures after ≡ signatures before) (c : ClassId) (x x' : Feature)
    (tokens tokens' : List Token) (parses : ParsesFeature tokens x) (parses' : ParsesFeature tokens' x') (file low : ℕ)
    (rising : AreRising file low tokens) (alike : kinds tokens' ≡ kinds tokens) where
  -- over tables of the same signatures both are typed, or both have a fault of one kind at the token of one position
  pub same_faults : (kept : Option KeptFault) × IsKeptOf tokens (feature_checked (classes_meant before) c x) kept
      × IsKeptOf tokens' (feature_checked (classes_meant after) c x') kept
  same_faults =
      let (kept, h) = some_kept (classes_meant before) c x tokens parses file low rising in
      let g =
      still_kept (classes_meant before) (classes_meant after) (views_same before after signed) c x x' tokens tokens' parses parses' file low
      rising alike
      kept h in
      (kept, h, g)
