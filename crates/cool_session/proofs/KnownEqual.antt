-- It is decidable whether two tokens, or the signatures of two class tables, are equal. So two lists of equal length differ in some number of elements.
use Rattle.std.proofs.Common.{◌≡◌, ◌≢◌, ◌⊎◌, inl, inr, ℕ, zero, suc, List, [], ◌∷◌, length, get_or, refl, sym, ap, ◌∙◌, subst, arith}
use Rattle.cool_syntax.specs.declared.token.TokenKind.{TokenKind}
use Rattle.cool_syntax.specs.declared.token.TokenKind.TheVariants as kind
use Rattle.cool_syntax.specs.declared.token.Key.{Key}
use Rattle.cool_syntax.specs.declared.token.Key.TheVariants as key
use Rattle.cool_syntax.specs.declared.token.Sign.{Sign}
use Rattle.cool_syntax.specs.declared.token.Sign.TheVariants as sign
use Rattle.cool_session.specs.Fresh.{Differ, none, same, other}
use Rattle.cool_session.specs.Signatures.{FeatureSignature, OfMethod, OfAttribute, ClassSignature}

-- it is known of any two whether they are the same
abbrev pub Known : Type 0 → Type 0
Known A = (x y : A) → (x ≡ y) ⊎ (x ≢ y)

-- Numbers, lists and pairs

known_numbers : Known ℕ
known_numbers zero zero = inl refl
known_numbers zero (suc n) = inr (λ e. absurd (omega (arith, e)))
known_numbers (suc m) zero = inr (λ e. absurd (omega (arith, e)))
known_numbers (suc m) (suc n) = by (known_numbers m n)
  where
    by : (m ≡ n) ⊎ (m ≢ n) → (suc m ≡ suc n) ⊎ (suc m ≢ suc n)
    by (inl e) = inl (ap suc e)
    by (inr ne) = inr (λ e. ne (omega (arith, e)))

pub known_lists : {A : Type 0} → Known A → Known (List A)
known_lists known [] [] = inl refl
known_lists known [] (y ∷ ys) = inr (λ e. absurd (omega (arith, ap length e)))
known_lists known (x ∷ xs) [] = inr (λ e. absurd (omega (arith, ap length e)))
known_lists {A} known (x ∷ xs) (y ∷ ys) = by (known x y) (known_lists known xs ys)
  where
    by : (x ≡ y) ⊎ (x ≢ y) → (xs ≡ ys) ⊎ (xs ≢ ys) → (◌≡◌ {A = List A} (x ∷ xs) (y ∷ ys)) ⊎ (◌≢◌ {A = List A} (x ∷ xs) (y ∷ ys))
    by (inl e) (inl es) = inl (λ i. e i ∷ es i)
    by (inl e) (inr ne) = inr (λ es. ne (ap tail es))
      where
        tail : List A → List A
        tail [] = []
        tail (z ∷ zs) = zs
    by (inr ne) tails = inr (λ es. ne (ap (λ (zs : List A). get_or zs 0 x) es))

known_pairs : {A B : Type 0} → Known A → Known B → Known (A × B)
known_pairs {A} {B} first second (x, u) (y, v) = by (first x y) (second u v)
  where
    by : (x ≡ y) ⊎ (x ≢ y) → (u ≡ v) ⊎ (u ≢ v) → (◌≡◌ {A = A × B} (x, u) (y, v)) ⊎ (◌≢◌ {A = A × B} (x, u) (y, v))
    by (inl e) (inl f) = inl (λ i. (e i, f i))
    by (inl e) (inr nf) = inr (λ h. nf (ap (λ (p : A × B). p.1) h))
    by (inr ne) rest = inr (λ h. ne (ap (λ (p : A × B). p.0) h))

known_names : Known (List ℕ)
known_names = known_lists known_numbers

-- equality is decidable if it is for codes
by_code : {A B : Type 0} → Known B → (code : A → B) (from : B → A) → ((x : A) → from (code x) ≡ x) → Known A
by_code {A} {B} known code from back x y = by (known (code x) (code y))
  where
    by : (code x ≡ code y) ⊎ (code x ≢ code y) → (x ≡ y) ⊎ (x ≢ y)
    by (inl e) = inl (sym (back x) ∙ (ap from e ∙ back y))
    by (inr ne) = inr (λ e. ne (ap code e))

-- Tokens: each is coded by its kind and its bytes or its number

keys : List Key
keys =
    key.Class ∷ key.Else ∷ key.False ∷ key.Fi ∷ key.If ∷ key.In ∷ key.Inherits ∷ key.IsVoid ∷ key.Let ∷ key.Loop ∷ key.Pool ∷ key.Then
    ∷ key.While ∷ key.Case ∷ key.Esac ∷ key.New ∷ key.Of ∷ key.Not ∷ key.True ∷ []

number_of_key : Key → ℕ
number_of_key key.Class = 0
number_of_key key.Else = 1
number_of_key key.False = 2
number_of_key key.Fi = 3
number_of_key key.If = 4
number_of_key key.In = 5
number_of_key key.Inherits = 6
number_of_key key.IsVoid = 7
number_of_key key.Let = 8
number_of_key key.Loop = 9
number_of_key key.Pool = 10
number_of_key key.Then = 11
number_of_key key.While = 12
number_of_key key.Case = 13
number_of_key key.Esac = 14
number_of_key key.New = 15
number_of_key key.Of = 16
number_of_key key.Not = 17
number_of_key key.True = 18

key_back : (k : Key) → get_or keys (number_of_key k) key.Class ≡ k
unfolding keys number_of_key
key_back key.Class = refl
key_back key.Else = refl
key_back key.False = refl
key_back key.Fi = refl
key_back key.If = refl
key_back key.In = refl
key_back key.Inherits = refl
key_back key.IsVoid = refl
key_back key.Let = refl
key_back key.Loop = refl
key_back key.Pool = refl
key_back key.Then = refl
key_back key.While = refl
key_back key.Case = refl
key_back key.Esac = refl
key_back key.New = refl
key_back key.Of = refl
key_back key.Not = refl
key_back key.True = refl

signs : List Sign
signs =
    sign.LBrace ∷ sign.RBrace ∷ sign.LParen ∷ sign.RParen ∷ sign.Colon ∷ sign.Semi ∷ sign.Comma ∷ sign.Dot ∷ sign.At ∷ sign.Tilde ∷ sign.Star
    ∷ sign.Slash ∷ sign.Plus ∷ sign.Minus ∷ sign.LessEqual ∷ sign.Less ∷ sign.Equal ∷ sign.Arrow ∷ sign.FatArrow ∷ []

number_of_sign : Sign → ℕ
number_of_sign sign.LBrace = 0
number_of_sign sign.RBrace = 1
number_of_sign sign.LParen = 2
number_of_sign sign.RParen = 3
number_of_sign sign.Colon = 4
number_of_sign sign.Semi = 5
number_of_sign sign.Comma = 6
number_of_sign sign.Dot = 7
number_of_sign sign.At = 8
number_of_sign sign.Tilde = 9
number_of_sign sign.Star = 10
number_of_sign sign.Slash = 11
number_of_sign sign.Plus = 12
number_of_sign sign.Minus = 13
number_of_sign sign.LessEqual = 14
number_of_sign sign.Less = 15
number_of_sign sign.Equal = 16
number_of_sign sign.Arrow = 17
number_of_sign sign.FatArrow = 18

sign_back : (s : Sign) → get_or signs (number_of_sign s) sign.LBrace ≡ s
unfolding signs number_of_sign
sign_back sign.LBrace = refl
sign_back sign.RBrace = refl
sign_back sign.LParen = refl
sign_back sign.RParen = refl
sign_back sign.Colon = refl
sign_back sign.Semi = refl
sign_back sign.Comma = refl
sign_back sign.Dot = refl
sign_back sign.At = refl
sign_back sign.Tilde = refl
sign_back sign.Star = refl
sign_back sign.Slash = refl
sign_back sign.Plus = refl
sign_back sign.Minus = refl
sign_back sign.LessEqual = refl
sign_back sign.Less = refl
sign_back sign.Equal = refl
sign_back sign.Arrow = refl
sign_back sign.FatArrow = refl

code_of : TokenKind → ℕ × List ℕ
code_of (kind.Key k) = (0, number_of_key k ∷ [])
code_of (kind.TypeId n) = (1, n)
code_of (kind.ObjectId n) = (2, n)
code_of (kind.Int n) = (3, n ∷ [])
code_of (kind.Str b) = (4, b)
code_of (kind.Sign s) = (5, number_of_sign s ∷ [])

-- the kinds of tokens, by the bytes or the number
kinds : List (List ℕ → TokenKind)
kinds =
    (λ n. kind.Key (get_or keys (get_or n 0 0) key.Class)) ∷ kind.TypeId ∷ kind.ObjectId ∷ (λ n. kind.Int (get_or n 0 0)) ∷ kind.Str
    ∷ (λ n. kind.Sign (get_or signs (get_or n 0 0) sign.LBrace)) ∷ []

token_of : ℕ × List ℕ → TokenKind
token_of (k, n) = get_or kinds k kind.Str n

token_back : (t : TokenKind) → token_of (code_of t) ≡ t
unfolding code_of kinds token_of
token_back (kind.Key k) = ap kind.Key (key_back k)
token_back (kind.Sign s) = ap kind.Sign (sign_back s)
token_back _ = refl

pub known_kinds : Known TokenKind
known_kinds = by_code (known_pairs known_numbers known_names) code_of token_of token_back

-- Signatures

code_of_feature : FeatureSignature → ℕ × List (List ℕ)
code_of_feature (OfMethod name formals result) = (0, name ∷ result ∷ formals)
code_of_feature (OfAttribute name type) = (1, name ∷ type ∷ [])

feature_of : ℕ × List (List ℕ) → FeatureSignature
feature_of (zero, name ∷ result ∷ formals) = OfMethod name formals result
feature_of (suc n, name ∷ type ∷ rest) = OfAttribute name type
feature_of _ = OfAttribute [] []

feature_back : (s : FeatureSignature) → feature_of (code_of_feature s) ≡ s
unfolding code_of_feature feature_of
feature_back (OfMethod name formals result) = refl
feature_back (OfAttribute name type) = refl

known_features : Known FeatureSignature
known_features = by_code (known_pairs known_numbers (known_lists known_names)) code_of_feature feature_of feature_back

known_classes : Known ClassSignature
known_classes =
    by_code (known_pairs known_names (known_pairs known_names (known_lists known_features))) (λ c. (c.name, (c.parent, c.features)))
    (λ c. record { name = c.0; parent = c.1.0; features = c.1.1 }) (λ c. refl)

pub known_signatures : Known (List ClassSignature)
known_signatures = known_lists known_classes

-- Lists that are equally long

pub so_many_differ : {X : Type 0} → Known X → (xs ys : List X) → length xs ≡ length ys → (n : ℕ) × Differ xs ys n
so_many_differ known [] [] long = (0, none)
so_many_differ known [] (y ∷ ys) long = absurd (omega (arith, long))
so_many_differ known (x ∷ xs) [] long = absurd (omega (arith, long))
so_many_differ {X} known (x ∷ xs) (y ∷ ys) long = by (known x y) (so_many_differ known xs ys (omega (arith, long)))
  where
    by : (x ≡ y) ⊎ (x ≢ y) → (n : ℕ) × Differ xs ys n → (n : ℕ) × Differ {X = X} (x ∷ xs) (y ∷ ys) n
    by (inl e) (n, d) = (n, subst (λ (z : X). Differ (x ∷ xs) (z ∷ ys) n) e (same x xs ys n d))
    by (inr ne) (n, d) = (suc n, other x y xs ys n ne d)
