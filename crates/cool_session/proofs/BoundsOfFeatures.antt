-- The token positions at which the features (attributes and methods) of a file begin and end are those that the concrete syntax tree of the file gives.
use Rattle.std.proofs.Common.{◌≡◌, ℕ, ◌+◌, List, [], ◌∷◌, ◌++◌, length, Bool, if◌then◌else◌, refl, sym, ap, ◌∙◌, subst, arith, append_assoc, append-nil}
use Rattle.std.proofs.lemmas.List.{length-append}
use Rattle.cool_syntax.specs.declared.token.Token.{Token}
use Rattle.cool_syntax.specs.declared.token.Sign.TheVariants as sign
use Rattle.cool_syntax.specs.ConcreteTrees.{Features, NoFeature, Another, Heading, Classes, NoClass, Class}
use Rattle.cool_syntax.specs.LexicalStructure.{depth_after}
use Rattle.cool_syntax.specs.Readings.{symbol, feature_reading, features_reading, heading_reading, file_reading}
use Rattle.cool_session.specs.declared.runs.Run.{Run}
use Rattle.cool_session.specs.Runs.{bounds_ended, bounds_from, bounds_in}
use Rattle.cool_session.proofs.RunsOfFeatures.{Walks, Ends, feature_ends, heading_front, heading_passes, closed, closing}

-- the bounds of features that follow each other from a position on
abbrev pub feature_bounds : ℕ → ℕ → Features → List Run
feature_bounds file at NoFeature = []
feature_bounds file at (Another before e) =
    feature_bounds file at before
    ++ (record {
      file = file;
      start = at + length (features_reading before);
      end = at + length (features_reading before) + length (feature_reading e);
    }) ∷ []

-- the bounds of the features of a file
abbrev pub file_bounds : ℕ → Classes → List Run
file_bounds file NoClass = []
file_bounds file (Class before h fs rbrace semi) =
    file_bounds file before ++ feature_bounds file (length (file_reading before) + length (heading_reading h)) fs

module _ (file : ℕ) where
  -- tokens at a position lead from a depth and the start of a run to a depth, the start of a run and a position, and among them end the
  -- features of these bounds
  abbrev Finds : ℕ → ℕ → ℕ → List Token → ℕ → ℕ → ℕ → List Run → Type 0
  Finds d start at ts e now to found =
      (rest : List Token) → bounds_from file d start at (ts ++ rest) ≡ found ++ bounds_from file e now to rest

  walks_find : (d e start at : ℕ) (ts : List Token) → Walks d ts e → Finds d start at ts e start (at + length ts) []
  walks_find d e start at [] same rest = let here : at ≡ at + 0 = omega arith in λ i. bounds_from file (same i) start (here i) rest
  walks_find d e start at (t ∷ ts) (on, more) rest =
      let there : at + 1 + length ts ≡ at + length (t ∷ ts) = omega arith in
      ap (λ (b : Bool). if b
      then bounds_ended t.kind (record { file = file; start = start; end = at + 1 })
      ++ bounds_from file (depth_after t.kind d) (at + 1) (at + 1) (ts ++ rest)
      else bounds_from file (depth_after t.kind d) start (at + 1) (ts ++ rest)) on
      ∙ (walks_find (depth_after t.kind d) e start (at + 1) ts more rest ∙ ap (λ (n : ℕ). bounds_from file e start n rest) there)

  -- one list of tokens after the other
  then_finds : (d e g start now later at to end : ℕ) (a b : List Token) (found more : List Run)
      → Finds d start at a e now to found → Finds e now to b g later end more → Finds d start at (a ++ b) g later end (found ++ more)
  then_finds d e g start now later at to end a b found more first second rest =
      ap (bounds_from file d start at) (append_assoc a b rest)
      ∙ (first (b ++ rest)
      ∙ (ap (λ (runs : List Run). found ++ runs) (second rest) ∙ sym (append_assoc found more (bounds_from file g later end rest))))

  ends_find : (at : ℕ) (whole : List Token) → Ends whole
      → Finds 1 at at whole 1 (at + length whole) (at + length whole) (record { file = file; start = at; end = at + length whole } ∷ [])
  ends_find at whole h =
      subst
      (λ (us : List Token).
      Finds 1 at at us 1 (at + length us) (at + length us) (record { file = file; start = at; end = at + length us } ∷ []))
      h.same
      (λ rest. ap (bounds_from file 1 at at) (append_assoc h.inner (symbol sign.Semi h.semi ∷ []) rest)
      ∙ (walks_find 1 1 at at h.inner h.passes.walks (symbol sign.Semi h.semi ∷ rest)
      ∙ ap (λ (n : ℕ). record { file = file; start = at; end = n } ∷ bounds_from file 1 n n rest)
      (sum (length h.inner) (length (h.inner ++ symbol sign.Semi h.semi ∷ [])) (length-append h.inner (symbol sign.Semi h.semi ∷ [])))))
    where
      sum : (n m : ℕ) → m ≡ n + 1 → at + n + 1 ≡ at + m
      sum n m same = omega (arith, same)

  features_find : (at : ℕ) (fs : Features)
      → Finds 1 at at (features_reading fs) 1 (at + length (features_reading fs)) (at + length (features_reading fs))
      (feature_bounds file at fs)
  features_find at NoFeature = λ rest. let here : at ≡ at + 0 = omega arith in ap (λ (n : ℕ). bounds_from file 1 n n rest) here
  features_find at (Another before e) =
      let to = at + length (features_reading before) in
      let size : at + length (features_reading before) + length (feature_reading e) ≡ at + length (features_reading (Another before e)) =
      omega (arith, length-append (features_reading before) (feature_reading e)) in
      subst (λ (n : ℕ). Finds 1 at at (features_reading (Another before e)) 1 n n (feature_bounds file at (Another before e))) size
      (then_finds 1 1 1 at to (to + length (feature_reading e)) at to (to + length (feature_reading e)) (features_reading before)
      (feature_reading e)
      (feature_bounds file at before) _ (features_find at before) (ends_find to (feature_reading e) (feature_ends e)))

  heading_finds : (start at : ℕ) (h : Heading)
      → Finds 0 start at (heading_reading h) 1 (at + length (heading_reading h)) (at + length (heading_reading h)) []
  heading_finds start at h rest =
      let front = heading_front h in
      let size : at + length front + 1 ≡ at + length (heading_reading h) =
      omega (arith, length-append front (symbol sign.LBrace h.lbrace ∷ [])) in
      ap (bounds_from file 0 start at) (append_assoc front (symbol sign.LBrace h.lbrace ∷ []) rest)
      ∙ (walks_find 0 0 start at front (heading_passes h).walks (symbol sign.LBrace h.lbrace ∷ rest)
      ∙ ap (λ (n : ℕ). bounds_from file 1 n n rest) size)

  file_finds : (f : Classes) → (now : ℕ) × Finds 0 0 0 (file_reading f) 0 now (length (file_reading f)) (file_bounds file f)
  file_finds NoClass = (0, λ rest. refl)
  file_finds (Class before h fs rbrace semi) =
      let (now, first) = file_finds before in
      let all_classes = Class before h fs rbrace semi in
      let a = length (file_reading before) in
      let b = a + length (heading_reading h) in
      let c = b + length (features_reading fs) in
      let end = closed rbrace semi in
      let headed = then_finds 0 0 1 0 now b 0 a b (file_reading before) (heading_reading h) (file_bounds file before) [] first
      (heading_finds now a h) in
      let all = then_finds 0 1 1 0 b c 0 b c (file_reading before ++ heading_reading h) (features_reading fs)
      (file_bounds file before ++ []) (feature_bounds file b fs) headed (features_find b fs) in
      let whole = then_finds 0 1 0 0 c c 0 c (c + length end) (file_reading before ++ heading_reading h ++ features_reading fs) end
      ((file_bounds file before ++ []) ++ feature_bounds file b fs) [] all (walks_find 1 0 c c end (closing rbrace semi).walks) in
      let size : c + length end ≡ length (file_reading all_classes) =
      omega (
        arith,
        length-append (file_reading before ++ heading_reading h ++ features_reading fs) end,
        length-append (file_reading before ++ heading_reading h) (features_reading fs),
        length-append (file_reading before) (heading_reading h),
      ) in (
        c,
        subst (λ (n : ℕ). Finds 0 0 0 (file_reading all_classes) 0 c n (file_bounds file all_classes)) size
            (subst (Finds 0 0 0 (file_reading all_classes) 0 c (c + length end))
            (append-nil _ ∙ ap (λ (runs : List Run). runs ++ feature_bounds file b fs) (append-nil (file_bounds file before))) whole),
      )

  -- the bounds of the features of a file are those of the features of its tree
  pub file_has_bounds : (f : Classes) → bounds_in file (file_reading f) ≡ file_bounds file f
  file_has_bounds f =
      let (now, finds) = file_finds f in
      ap (bounds_from file 0 0 0) (sym (append-nil (file_reading f))) ∙ (finds [] ∙ append-nil (file_bounds file f))
