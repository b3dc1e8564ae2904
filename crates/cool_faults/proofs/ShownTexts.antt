-- If the loop of `shown`, which replaces terminal control characters of a text by `?`, has converted the bytes so far, its next step converts one more
-- byte.
use Rattle.std.proofs.Common.{◌≡◌, ℕ, ◌+◌, ◌-◌, ◌<◌, List, [], ◌∷◌, ◌++◌, length, get_or, drop, ap, sym, ◌∙◌, append_assoc}
use Rattle.std.proofs.lemmas.List.{drop_more}
use Rattle.cool_faults.specs.Shown.{obeyed_from, shown_first, shown_from}

-- the bytes so far, one more, and those that are left are still the whole text
pub one_more : (before bytes text whole : List ℕ) (index left due byte rest : ℕ) → index < length text
    → due ≡ obeyed_from left (drop index text) → byte ≡ shown_first due (get_or text index 0) → bytes ≡ before ++ byte ∷ [] → rest ≡ due - 1
    → before ++ shown_from left (drop index text) ≡ whole → bytes ++ shown_from rest (drop (index + 1) text) ≡ whole
one_more before bytes text whole index left due byte rest within due_is byte_is bytes_are rest_is so_far =
    let first = get_or text index 0 in
    let others = drop (index + 1) text in
    let cut : drop index text ≡ first ∷ others = drop_more text index 0 within in
    let due_here : due ≡ obeyed_from left (first ∷ others) = due_is ∙ ap (obeyed_from left) cut in
    let shown_at : ℕ → List ℕ = λ n. shown_first n first ∷ shown_from (n - 1) others in
    let tail : byte ∷ shown_from rest others ≡ shown_from left (first ∷ others) =
    ap (λ (b : ℕ). b ∷ shown_from rest others) byte_is ∙ ap (λ (n : ℕ). shown_first due first ∷ shown_from n others) rest_is ∙ ap shown_at due_here in
    ap (λ (l : List ℕ). l ++ shown_from rest others) bytes_are ∙ append_assoc before (byte ∷ []) (shown_from rest others)
    ∙ ap (λ (l : List ℕ). before ++ l) (tail ∙ ap (shown_from left) (sym cut)) ∙ so_far
