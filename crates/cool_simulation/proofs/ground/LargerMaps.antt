-- Extending the map from objects and variables to addresses by one more object leaves all earlier entries unchanged.
use Rattle.std.proofs.Common.{◌≡◌, ℕ, zero, suc, ◌+◌, ◌-◌, ◌*◌, ◌<◌, ◌≤◌, List, [], ◌∷◌, ◌++◌, length, get_or, Bool as Truth, true, false, refl, sym, ap, ◌∙◌, subst, arith}
use Rattle.std.specs.Prelude.{slice_get, if◌then◌else◌, nat_eq}
use Rattle.mips_isa.specs.Bytes.{Bytes}
use Rattle.cool_classes.specs.declared.class_id.ClassId.{ClassId}
use Rattle.cool_runtime.specs.Contents.{HeadAt}
use Rattle.cool_meaning.specs.Values.{Value, State}
use Rattle.cool_simulation.specs.Pictures.{Map}
use Rattle.cool_simulation.proofs.ground.Between.{is_between, between, below_it, behind_it}

-- so many numbers, from one on
abbrev pub numbers : ℕ → ℕ → List ℕ
numbers n zero = []
numbers n (suc k) = n ∷ numbers (suc n) k

pub numbers_long : (n k : ℕ) → length (numbers n k) ≡ k
numbers_long n zero = refl
numbers_long n (suc k) = ap suc (numbers_long (suc n) k)

pub number_at : (n k j : ℕ) → j < k → get_or (numbers n k) j 0 ≡ n + j
number_at n zero j less = absurd (omega arith)
number_at n (suc k) zero less = omega arith
number_at n (suc k) (suc j) less = number_at (suc n) k j (omega arith) ∙ omega arith

-- a function with another value at a number
abbrev pub instead : {A : Type 0} → ℕ → A → (ℕ → A) → ℕ → A
instead n a f i = if nat_eq i n then a else f i

pub instead_there : {A : Type 0} (n : ℕ) (a : A) (f : ℕ → A) → instead n a f n ≡ a
instead_there n a f = let e : nat_eq n n ≡ true = grind arith in ap (λ (b : Truth). if b then a else f n) e

pub instead_other : {A : Type 0} (n : ℕ) (a : A) (f : ℕ → A) (i : ℕ) → i < n → instead n a f i ≡ f i
instead_other n a f i less = let e : nat_eq i n ≡ false = grind arith in ap (λ (b : Truth). if b then a else f i) e

-- the homes of so many locations from one on are words from an address on
abbrev pub homes_from : ℕ → ℕ → ℕ → (ℕ → ℕ) → ℕ → ℕ
homes_from n k a f l = if is_between n (n + k) l then a + 4 * (l - n) else f l

-- words between two addresses are marked
abbrev pub marks_from : ℕ → ℕ → (ℕ → Truth) → ℕ → Truth
marks_from a b f k = if is_between a b (4 * k) then true else f k

-- the map with an object of so many locations behind gp
abbrev pub with_object : Map → ClassId → State → ℕ → ℕ → Map
with_object map c st k gp = record {
  address = instead st.drawn (gp + 4) map.address;
  class = instead st.drawn c map.class;
  locations = instead st.drawn (numbers (length st.store) k) map.locations;
  home = homes_from (length st.store) k (gp + 16) map.home;
  marked = marks_from (gp + 16) (gp + 16 + 4 * k) map.marked;
}

-- the state with so many locations and an identity more
abbrev pub with_values : State → List Value → State
with_values st vs = record st { store = st.store ++ vs; drawn = st.drawn + 1 }

-- the home of a new location, of an older one, and of one past the new ones
pub home_new : (n k a : ℕ) (f : ℕ → ℕ) (l : ℕ) → n ≤ l → l < n + k → homes_from n k a f l ≡ a + 4 * (l - n)
home_new n k a f l low high = ap (λ (b : Truth). if b then a + 4 * (l - n) else f l) (between n (n + k) l low high)

pub home_old : (n k a : ℕ) (f : ℕ → ℕ) (l : ℕ) → l < n → homes_from n k a f l ≡ f l
home_old n k a f l less = ap (λ (b : Truth). if b then a + 4 * (l - n) else f l) (below_it n (n + k) l less)

pub home_past : (n k a : ℕ) (f : ℕ → ℕ) (l : ℕ) → n + k ≤ l → homes_from n k a f l ≡ f l
home_past n k a f l past = ap (λ (b : Truth). if b then a + 4 * (l - n) else f l) (behind_it n (n + k) l past)

-- a word of the object is marked, and words below it and behind it are as before
pub marked_new : (a b : ℕ) (f : ℕ → Truth) (k : ℕ) → a ≤ 4 * k → 4 * k < b → marks_from a b f k ≡ true
marked_new a b f k low high = ap (λ (x : Truth). if x then true else f k) (between a b (4 * k) low high)

pub marked_below : (a b : ℕ) (f : ℕ → Truth) (k : ℕ) → 4 * k < a → marks_from a b f k ≡ f k
marked_below a b f k less = ap (λ (x : Truth). if x then true else f k) (below_it a b (4 * k) less)

pub marked_behind : (a b : ℕ) (f : ℕ → Truth) (k : ℕ) → b ≤ 4 * k → marks_from a b f k ≡ f k
marked_behind a b f k past = ap (λ (x : Truth). if x then true else f k) (behind_it a b (4 * k) past)

-- new values follow those that were stored
pub stored_new : (xs ys : List Value) (l : ℕ) → length xs ≤ l → slice_get (xs ++ ys) l ≡ slice_get ys (l - length xs)
stored_new [] ys l le = let e : l - 0 ≡ l = omega arith in ap (slice_get ys) (sym e)
stored_new (x ∷ xs) ys zero le = absurd (omega arith)
stored_new (x ∷ xs) ys (suc l) le = let e : suc l - suc (length xs) ≡ l - length xs = omega arith in stored_new xs ys l (omega arith) ∙ ap (slice_get ys) (sym e)

-- the head of an object, with its numbers written otherwise
pub head_as : (m : Bytes) (a a' t t' n n' d d' : ℕ) → a' ≡ a → t' ≡ t → n' ≡ n → d' ≡ d → HeadAt m a t n d → HeadAt m a' t' n' d'
head_as m a a' t t' n n' d d' ea et en ed h =
    subst (λ x. HeadAt m x t' n' d') (sym ea) (subst (λ x. HeadAt m a x n' d') (sym et) (subst (λ x. HeadAt m a t x d') (sym en) (subst (λ x. HeadAt m a t n x) (sym ed) h)))
