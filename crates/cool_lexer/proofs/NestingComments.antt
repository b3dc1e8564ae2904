-- Lemmas for one step in finding the end of a nested block comment: at `(*`, at `*)` and at any other byte.
use Rattle.std.proofs.Common.{◌≡◌, ◌∙◌, ap, refl, arith, ℕ, zero, suc, ◌+◌, ◌-◌, ◌<◌, ◌≤◌, List, [], ◌∷◌, length, drop, length-drop}
use Rattle.std.specs.Prelude.{Option, Some, None, option_map}
use Rattle.std.proofs.lemmas.List.{drop-drop}
use Rattle.cool_syntax.specs.Lexemes.{Opens, Closes, Plain, mark, depth_after, more_bytes, ended, comment_size}

-- Two bytes make a mark.
two : (bs : List ℕ) → (mark bs ≡ Plain → ⊥) → 2 ≤ length bs
two [] h = absurd (h refl)
two (b ∷ []) h = absurd (h refl)
two (b ∷ c ∷ bs) h = omega arith

-- the size at a `(*`, two bytes on
opens_step : (bs : List ℕ) (d : ℕ) → mark bs ≡ Opens → comment_size d 0 bs ≡ option_map (λ n. n + 1) (option_map (λ n. n + 1) (comment_size (d + 1) 0 (drop 2 bs)))
opens_step [] d h = absurd (cc)
opens_step (b ∷ []) d h = absurd (cc)
opens_step (b ∷ c ∷ bs) d h = ap (λ m. ended m d (comment_size (depth_after m d) (more_bytes m) (c ∷ bs))) h

-- a `*)` at a depth of two or more ends nothing
more_open : (d : ℕ) (rest : Option ℕ) → 2 ≤ d → ended Closes d rest ≡ option_map (λ n. n + 1) rest
more_open zero rest h = absurd (omega arith)
more_open (suc zero) rest h = absurd (omega arith)
more_open (suc (suc d)) rest h = refl

-- the size at a `*)` that ends nothing, two bytes on
closes_step : (bs : List ℕ) (d : ℕ) → 2 ≤ d → mark bs ≡ Closes → comment_size d 0 bs ≡ option_map (λ n. n + 1) (option_map (λ n. n + 1) (comment_size (d - 1) 0 (drop 2 bs)))
closes_step [] d l h = absurd (cc)
closes_step (b ∷ []) d l h = absurd (cc)
closes_step (b ∷ c ∷ bs) d l h = ap (λ m. ended m d (comment_size (depth_after m d) (more_bytes m) (c ∷ bs))) h ∙ more_open d (comment_size (d - 1) 1 (c ∷ bs)) l

-- the size at another byte, one byte on
plain_step : (bs : List ℕ) (d : ℕ) → 0 < length bs → mark bs ≡ Plain → comment_size d 0 bs ≡ option_map (λ n. n + 1) (comment_size d 0 (drop 1 bs))
plain_step [] d l h = absurd (omega arith)
plain_step (b ∷ []) d l h = refl
plain_step (b ∷ c ∷ bs) d l h = ap (λ m. ended m d (comment_size (depth_after m d) (more_bytes m) (c ∷ bs))) h

-- two bytes more before a place are a place two bytes on
shift_two : (o : Option ℕ) (at : ℕ) → option_map (λ n. n + at) (option_map (λ n. n + 1) (option_map (λ n. n + 1) o)) ≡ option_map (λ n. n + (at + 2)) o
shift_two None at = refl
shift_two (Some n) at = ap Some (omega arith)

-- one byte more before a place is a place one byte on
shift_one : (o : Option ℕ) (at : ℕ) → option_map (λ n. n + at) (option_map (λ n. n + 1) o) ≡ option_map (λ n. n + (at + 1)) o
shift_one None at = refl
shift_one (Some n) at = ap Some (omega arith)

-- a comment opens, and d comments are open
pub over_opening : (bs : List ℕ) (d at : ℕ) → mark (drop at bs) ≡ Opens → option_map (λ n. n + at) (comment_size d 0 (drop at bs)) ≡ option_map (λ n. n + (at + 2)) (comment_size (d + 1) 0 (drop (at + 2) bs))
over_opening bs d at h =
    ap (option_map (λ n. n + at)) (opens_step (drop at bs) d h) ∙ shift_two _ at ∙ ap (λ l. option_map (λ n. n + (at + 2)) (comment_size (d + 1) 0 l)) (drop-drop 2 at bs)

-- a comment closes that is not the outermost
pub over_closing : (bs : List ℕ) (d at : ℕ) → 2 ≤ d → mark (drop at bs) ≡ Closes → option_map (λ n. n + at) (comment_size d 0 (drop at bs)) ≡ option_map (λ n. n + (at + 2)) (comment_size (d - 1) 0 (drop (at + 2) bs))
over_closing bs d at l h =
    ap (option_map (λ n. n + at)) (closes_step (drop at bs) d l h) ∙ shift_two _ at ∙ ap (λ x. option_map (λ n. n + (at + 2)) (comment_size (d - 1) 0 x)) (drop-drop 2 at bs)

-- no comment opens or closes
pub over_plain : (bs : List ℕ) (d at : ℕ) → at < length bs → mark (drop at bs) ≡ Plain → option_map (λ n. n + at) (comment_size d 0 (drop at bs)) ≡ option_map (λ n. n + (at + 1)) (comment_size d 0 (drop (at + 1) bs))
over_plain bs d at l h =
    ap (option_map (λ n. n + at)) (plain_step (drop at bs) d (omega (arith, length-drop at bs)) h) ∙ shift_one _ at ∙ ap (λ x. option_map (λ n. n + (at + 1)) (comment_size d 0 x)) (drop-drop 1 at bs)

-- a mark ends within the text
pub mark_within : (bs : List ℕ) (at : ℕ) → (mark (drop at bs) ≡ Plain → ⊥) → at + 2 ≤ length bs
mark_within bs at h = omega (arith, length-drop at bs, two (drop at bs) h)
