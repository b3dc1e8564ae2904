-- If a block comment is closed in a text, it ends at the same byte in each longer text, and in the prefix of the text up to that byte.
use Rattle.std.proofs.Common.{◌≡◌, ◌∙◌, sym, ap, refl, arith, inl, inr, ◌⊎◌, ℕ, zero, suc, ◌+◌, ◌≤◌, List, [], ◌∷◌, ◌++◌, length, take, drop}
use Rattle.std.specs.Prelude.{Option, Some, None, option_map}
use Rattle.std.proofs.lemmas.List.{take-append-drop}
use Rattle.cool_syntax.specs.Lexemes.{Mark, Opens, Closes, Plain, mark, depth_after, more_bytes, ended, comment_size}

-- a value that is there stays
abbrev Kept : Option ℕ → Option ℕ → Type 0
Kept o more = (o ≡ None) ⊎ (more ≡ o)

-- one byte more keeps it
kept_more : (o more : Option ℕ) → Kept o more → Kept (option_map (λ n. n + 1) o) (option_map (λ n. n + 1) more)
kept_more o more (inl e) = inl (ap (option_map (λ n. n + 1)) e)
kept_more o more (inr e) = inr (ap (option_map (λ n. n + 1)) e)

-- a mark keeps it
kept_ended : (m : Mark) (d : ℕ) (o more : Option ℕ) → Kept o more → Kept (ended m d o) (ended m d more)
kept_ended Opens d o more h = kept_more o more h
kept_ended Plain d o more h = kept_more o more h
kept_ended Closes zero o more h = kept_more o more h
kept_ended Closes (suc zero) o more h = inr refl
kept_ended Closes (suc (suc d)) o more h = kept_more o more h

-- a comment that is closed in a text is closed at the same place in a longer one
kept : (d k : ℕ) (xs ys : List ℕ) → Kept (comment_size d k xs) (comment_size d k (xs ++ ys))
kept d k [] ys = inl refl
kept d (suc k) (b ∷ xs) ys = kept_more _ _ (kept d k xs ys)
kept d zero (b ∷ []) ys = inl refl
kept d zero (b ∷ c ∷ xs) ys =
    let m : Mark = mark (b ∷ c ∷ xs) in
    kept_ended m d _ _ (kept (depth_after m d) (more_bytes m) (c ∷ xs) ys)

-- the size that is there stays
kept_some : (o more : Option ℕ) (n : ℕ) → Kept o more → o ≡ Some n → more ≡ Some n
kept_some o more n (inl e) h = absurd (cc)
kept_some o more n (inr e) h = e ∙ h

-- closed in a front, closed in the text
pub closed_front : (d k m n : ℕ) (bs : List ℕ) → comment_size d k (take m bs) ≡ Some n → comment_size d k bs ≡ Some n
closed_front d k m n bs h =
    ap (comment_size d k) (sym (take-append-drop m bs)) ∙ kept_some _ _ n (kept d k (take m bs) (drop m bs)) h

-- a size after one byte is one less
pub one_less : (o : Option ℕ) (n : ℕ) → option_map (λ n. n + 1) o ≡ Some n → (m : ℕ) × (o ≡ Some m) × (n ≡ m + 1)
one_less None n h = absurd (cc)
one_less (Some m) n h = (m, refl, cc)

-- a mark ends the comment, or what follows it does
abbrev Ends : Mark → ℕ → Option ℕ → ℕ → Type 0
Ends m d o n = ((n ≡ 2) × ((x : Option ℕ) → ended m d x ≡ Some 2)) ⊎ ((k : ℕ) × (o ≡ Some k) × (n ≡ k + 1))

-- if a comment is closed, one of the two holds
ends : (m : Mark) (d : ℕ) (o : Option ℕ) (n : ℕ) → ended m d o ≡ Some n → Ends m d o n
ends Opens d o n h = inr (one_less o n h)
ends Plain d o n h = inr (one_less o n h)
ends Closes zero o n h = inr (one_less o n h)
ends Closes (suc zero) o n h = inl (cc, λ x. refl)
ends Closes (suc (suc d)) o n h = inr (one_less o n h)

-- the front of this size is closed at its end
abbrev There : ℕ → ℕ → List ℕ → ℕ → Type 0
There d k bs n = (n ≤ length bs) × (comment_size d k (take n bs) ≡ Some n)

-- after a byte that is passed over
there_passed : (d k b : ℕ) (bs : List ℕ) (n m : ℕ) → n ≡ m + 1 → There d k bs m → There d (suc k) (b ∷ bs) n
there_passed d k b bs n m e h =
    let next : n ≡ suc m = omega arith in
    (omega arith, ap (λ x. comment_size d (suc k) (take x (b ∷ bs))) next ∙ ap (option_map (λ x. x + 1)) h.1 ∙ ap Some (sym e))

-- after a mark that does not end the comment
there_marked : (d b c : ℕ) (bs : List ℕ) (n m : ℕ) → n ≡ m + 1 → ended (mark (b ∷ c ∷ bs)) d (Some m) ≡ Some n
    → There (depth_after (mark (b ∷ c ∷ bs)) d) (more_bytes (mark (b ∷ c ∷ bs))) (c ∷ bs) m → There d zero (b ∷ c ∷ bs) n
there_marked d b c bs n zero e last h = absurd (let none = h.1 in cc)
there_marked d b c bs n (suc m) e last h =
    let next : n ≡ suc (suc m) = omega arith in
    (omega arith, ap (λ x. comment_size d zero (take x (b ∷ c ∷ bs))) next ∙ ap (ended (mark (b ∷ c ∷ bs)) d) h.1 ∙ last)

-- at a mark
there_ended : (d b c : ℕ) (bs : List ℕ) (n : ℕ) → comment_size d zero (b ∷ c ∷ bs) ≡ Some n
    → Ends (mark (b ∷ c ∷ bs)) d (comment_size (depth_after (mark (b ∷ c ∷ bs)) d) (more_bytes (mark (b ∷ c ∷ bs))) (c ∷ bs)) n
    → ((m : ℕ) → comment_size (depth_after (mark (b ∷ c ∷ bs)) d) (more_bytes (mark (b ∷ c ∷ bs))) (c ∷ bs) ≡ Some m
    → There (depth_after (mark (b ∷ c ∷ bs)) d) (more_bytes (mark (b ∷ c ∷ bs))) (c ∷ bs) m)
    → There d zero (b ∷ c ∷ bs) n
there_ended d b c bs n h (inl e) rec = (omega (arith, e.0), ap (λ x. comment_size d zero (take x (b ∷ c ∷ bs))) e.0 ∙ e.1 _ ∙ ap Some (sym e.0))
there_ended d b c bs n h (inr e) rec =
    there_marked d b c bs n e.0 e.2 (ap (ended (mark (b ∷ c ∷ bs)) d) (sym e.1) ∙ h) (rec e.0 e.1)

-- closed in the text, closed in the front up to there
pub closed_there : (d k : ℕ) (bs : List ℕ) (n : ℕ) → comment_size d k bs ≡ Some n → There d k bs n
closed_there d k [] n h = absurd (cc)
closed_there d (suc k) (b ∷ bs) n h =
    let less = one_less (comment_size d k bs) n h in
    there_passed d k b bs n less.0 less.2 (closed_there d k bs less.0 less.1)
closed_there d zero (b ∷ []) n h = absurd (cc)
closed_there d zero (b ∷ c ∷ bs) n h =
    there_ended d b c bs n h (ends (mark (b ∷ c ∷ bs)) d _ n h) (λ m e. closed_there (depth_after (mark (b ∷ c ∷ bs)) d) (more_bytes (mark (b ∷ c ∷ bs))) (c ∷ bs) m e)
