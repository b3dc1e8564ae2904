-- The number of new features (those without a stored result) among the first features of files grows by one with each new feature, and is at most the number
-- among all features.
use Rattle.std.proofs.Common.{◌≡◌, ◌≢◌, inl, inr, ℕ, zero, suc, ◌+◌, ◌<◌, ◌≤◌, List, [], ◌∷◌, map, length, get_or, take, Option, Some, None, refl, sym, ap, ◌∙◌, subst, arith, add-one}
use Rattle.std.specs.Borrow.{Bor}
use Rattle.cool_syntax.specs.declared.token.Token.{Token}
use Rattle.cool_syntax.specs.declared.token.TokenKind.{TokenKind}
use Rattle.cool_session.specs.declared.base.Base.{Base}
use Rattle.cool_session.specs.declared.base.KeptFault.{KeptFault}
use Rattle.cool_session.specs.FeatureTokens.{kinds}
use Rattle.cool_session.specs.Fresh.{Differ, none, same, other}
use Rattle.cool_session.specs.NewFeatures.{kinds_seen, runs_seen, IsKeptAt, IsNewAt, DifferBy, AreNew}

-- one more that is the same
same_next : {X : Type 0} (xs ys : List X) (d : X) (i n : ℕ) → i < length xs → i < length ys → get_or xs i d ≡ get_or ys i d
    → DifferBy (take i xs) (take i ys) n → DifferBy (take (suc i) xs) (take (suc i) ys) n
same_next [] ys d i n less more is h = absurd (omega (arith, less))
same_next (x ∷ xs) [] d i n less more is h = absurd (omega (arith, more))
same_next (x ∷ xs) (y ∷ ys) d zero n less more is h = inl (is, h)
same_next (x ∷ xs) (y ∷ ys) d (suc i) n less more is (inl (here, h)) =
    let fewer : i < length xs = omega (arith, less) in
    let few : i < length ys = omega (arith, more) in inl (here, same_next xs ys d i n fewer few is h)
same_next (x ∷ xs) (y ∷ ys) d (suc i) n less more is (inr (here, (m, one, h))) =
    let fewer : i < length xs = omega (arith, less) in
    let few : i < length ys = omega (arith, more) in inr (here, (m, one, same_next xs ys d i m fewer few is h))

-- one more that differs
other_next : {X : Type 0} (xs ys : List X) (d : X) (i n : ℕ) → i < length xs → i < length ys → get_or xs i d ≢ get_or ys i d
    → DifferBy (take i xs) (take i ys) n → DifferBy (take (suc i) xs) (take (suc i) ys) (suc n)
other_next [] ys d i n less more is h = absurd (omega (arith, less))
other_next (x ∷ xs) [] d i n less more is h = absurd (omega (arith, more))
other_next (x ∷ xs) (y ∷ ys) d zero n less more is h = inr (is, (n, refl, h))
other_next (x ∷ xs) (y ∷ ys) d (suc i) n less more is (inl (here, h)) =
    let fewer : i < length xs = omega (arith, less) in
    let few : i < length ys = omega (arith, more) in inl (here, other_next xs ys d i n fewer few is h)
other_next (x ∷ xs) (y ∷ ys) d (suc i) n less more is (inr (here, (m, one, h))) =
    let fewer : i < length xs = omega (arith, less) in
    let few : i < length ys = omega (arith, more) in inr (here, (n, refl, subst (DifferBy _ _) (sym one) (other_next xs ys d i m fewer few is h)))

-- the number among the first ones is at most that among all
no_more : {X : Type 0} (xs ys : List X) (i n m : ℕ) → DifferBy (take i xs) (take i ys) n → DifferBy xs ys m → n ≤ m
no_more xs ys zero n m h all = omega (arith, h)
no_more [] [] (suc i) n m h all = omega (arith, h, all)
no_more [] (y ∷ ys) (suc i) n m h all = absurd all
no_more (x ∷ xs) [] (suc i) n m h all = absurd all
no_more (x ∷ xs) (y ∷ ys) (suc i) n m (inl (is, h)) (inl (also, all)) = no_more xs ys i n m h all
no_more (x ∷ xs) (y ∷ ys) (suc i) n m (inl (is, h)) (inr (differ, all)) = absurd (differ is)
no_more (x ∷ xs) (y ∷ ys) (suc i) n m (inr (differ, h)) (inl (is, all)) = absurd (differ is)
no_more (x ∷ xs) (y ∷ ys) (suc i) n m (inr (differ, (k, one, h))) (inr (also, (l, two, all))) =
    let less : k ≤ l = no_more xs ys i k l h all in omega (arith, one, two, less)

-- as the definition of what is fresh says it
pub differ : {X : Type 0} (xs ys : List X) (n : ℕ) → DifferBy xs ys n → Differ xs ys n
differ [] [] n h = subst (Differ [] []) (sym h) none
differ [] (y ∷ ys) n h = absurd h
differ (x ∷ xs) [] n h = absurd h
differ {X} (x ∷ xs) (y ∷ ys) n (inl (is, h)) = subst (λ (z : X). Differ (x ∷ xs) (z ∷ ys) n) is (same x xs ys n (differ xs ys n h))
differ (x ∷ xs) (y ∷ ys) n (inr (is, (m, one, h))) = subst (Differ (x ∷ xs) (y ∷ ys)) (sym one) (other x y xs ys m is (differ xs ys m h))

pub differ_by : {X : Type 0} {xs ys : List X} {n : ℕ} → Differ xs ys n → DifferBy xs ys n
differ_by none = refl
differ_by (same x xs ys n h) = inl (refl, differ_by h)
differ_by (other x y xs ys n is h) = inr (is, (n, refl, differ_by h))

-- the first of the first
take_take : {X : Type 0} (i n : ℕ) (xs : List X) → i ≤ n → take i (take n xs) ≡ take i xs
take_take zero n xs le = refl
take_take (suc i) zero xs le = absurd (omega (arith, le))
take_take (suc i) (suc n) [] le = refl
take_take {X} (suc i) (suc n) (x ∷ xs) le = let less : i ≤ n = omega (arith, le) in ap (λ (ys : List X). x ∷ ys) (take_take i n xs less)

pub seen_at : (runs : List (List Token)) (i : ℕ) → get_or (map kinds runs) i [] ≡ kinds (get_or runs i [])
seen_at [] i = refl
seen_at (run ∷ runs) zero = refl
seen_at (run ∷ runs) (suc i) = seen_at runs i

module _ (now : List (List TokenKind)) where
  -- the number among the first ones is at most that among all
  pub new_bound : (base : Option (Bor Base)) (i n m : ℕ) → i ≤ length now → AreNew base now i n → AreNew base now (length now) m → n ≤ m
  new_bound None i n m le h all = omega (arith, le, h, all)
  new_bound (Some base) i n m le h all =
      no_more (take (length now) (kinds_seen base.now.untyped)) (take (length now) now) i n m
      (subst (λ (xs : List (List TokenKind)). DifferBy xs (take i (take (length now) now)) n)
      (sym (take_take i (length now) (kinds_seen base.now.untyped) le))
      (subst (λ (ys : List (List TokenKind)). DifferBy (take i (kinds_seen base.now.untyped)) ys n) (sym (take_take i (length now) now le)) h)) all

  pub new_start : (base : Option (Bor Base)) → AreNew base now 0 0
  new_start None = refl
  new_start (Some base) = refl

  -- one more that is kept
  pub new_kept : (base : Option (Bor Base)) (i n : ℕ) (tokens : List Token) (kept : Option KeptFault) → IsKeptAt base i tokens kept
      → kinds tokens ≡ get_or now i [] → i < length now → ((b : Bor Base) → base ≡ Some b → i < length (kinds_seen b.now.untyped))
      → AreNew base now i n → AreNew base now (i + 1) n
  new_kept None i n tokens kept is here less few h = absurd is
  new_kept (Some base) i n tokens kept (is, value) here less few h =
      subst (λ (j : ℕ). DifferBy (take j (kinds_seen base.now.untyped)) (take j now) n) (sym (add-one i))
      (same_next (kinds_seen base.now.untyped) now [] i n (few base refl) less
      (seen_at (runs_seen base.now.untyped) i ∙ (sym is ∙ here)) h)

  -- one more that is new
  pub new_asked : (base : Option (Bor Base)) (i n : ℕ) (tokens : List Token) → IsNewAt base i tokens → kinds tokens ≡ get_or now i []
      → i < length now → ((b : Bor Base) → base ≡ Some b → i < length (kinds_seen b.now.untyped)) → AreNew base now i n
      → AreNew base now (i + 1) (n + 1)
  new_asked None i n tokens is here less few h = ap (λ (k : ℕ). k + 1) h
  new_asked (Some base) i n tokens is here less few h =
      subst (λ (j : ℕ). DifferBy (take j (kinds_seen base.now.untyped)) (take j now) (n + 1)) (sym (add-one i))
      (subst (DifferBy (take (suc i) (kinds_seen base.now.untyped)) (take (suc i) now)) (sym (add-one n))
      (other_next (kinds_seen base.now.untyped) now [] i n (few base refl) less
      (λ e. is (here ∙ (sym e ∙ seen_at (runs_seen base.now.untyped) i))) h))
