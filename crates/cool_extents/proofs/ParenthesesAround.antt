-- The extent of an expression is the range of the tokens that it takes, without the parentheses around it: as many open before the extent as close behind
-- it.
use Rattle.std.proofs.Common.{◌≡◌, ℕ, ◌+◌, ◌-◌, ◌≤◌, List, [], ◌∷◌, ◌++◌, length, drop, refl, ap, sym, ◌∙◌, append_assoc, length-append, arith}
use Rattle.cool_syntax.specs.declared.place.Place.{Place}
use Rattle.cool_syntax.specs.declared.token.Token.{Token}
use Rattle.cool_syntax.specs.declared.token.Sign.TheVariants as sign
use Rattle.cool_syntax.specs.Readings.{symbol}
use Rattle.lists.proofs.ItemsAt.{seam_get}
use Rattle.cool_extents.specs.declared.extent.Extent.{Extent}
use Rattle.cool_extents.specs.Extents.{extent}
use Rattle.cool_extents.specs.FoundExtents.{number_of, opens_before, closes, extent_or, extent_at, latest, outer_last, outer_first}
use Rattle.cool_extents.proofs.TokensAtPlaces.{Numbered, Stand, last_part, rest, first_number, last_number, opens_more, closes_more}

-- an extent within tokens from the one of the first number, up to before the one of the second: between them stand as many parentheses on each side
pub record Placed (ts : List Token) (a z : ℕ) (own : Extent) : Type 0 where
  pub depth : ℕ
  pub first : number_of ts own.first ≡ a + depth
  pub last : number_of ts own.last + depth + 1 ≡ z
  pub opens : opens_before ts (a + depth) ≡ depth + opens_before ts a
  pub ends : closes (drop (number_of ts own.last + 1) ts) ≡ depth + closes (drop z ts)

-- the extent of tokens is one within them
pub placed : {ts : List Token} {a z : ℕ} (xs : List Token) → 1 ≤ length xs → Numbered ts → Stand ts a xs z → Placed ts a z (extent xs)
placed {ts} {a} {z} xs some n s =
    let last = last_number xs some n s in
    let same : a + 0 ≡ a = omega arith in
    record {
      depth = 0;
      first = first_number xs some n s ∙ omega arith;
      last = omega (arith, last);
      opens = ap (opens_before ts) same ∙ omega arith;
      ends = ap (λ k. closes (drop k ts)) last ∙ omega arith;
    }

-- with parentheses around the tokens it is the same
pub placed_around : {ts : List Token} {a z : ℕ} (l r : Place) (xs : List Token) (own : Extent) → Stand ts a (symbol sign.LParen l ∷ xs ++ symbol sign.RParen r ∷ []) z
    → Placed ts (a + 1) (a + 1 + length xs) own → Placed ts a z own
placed_around {ts} {a} {z} l r xs own s p =
    let inner : List Token = xs ++ symbol sign.RParen r ∷ [] in
    let right = last_part xs (symbol sign.RParen r ∷ []) (rest (symbol sign.LParen l) inner s) in
    let more = opens_more (a + 1) (symbol sign.LParen l) inner s refl refl in
    let ended = closes_more z (symbol sign.RParen r) [] right refl (sym right.end) in
    let there : a + (p.depth + 1) ≡ a + 1 + p.depth = omega arith in
    record {
      depth = p.depth + 1;
      first = p.first ∙ omega arith;
      last = omega (arith, p.last, right.end);
      opens = ap (opens_before ts) there ∙ omega (arith, p.opens, more);
      ends = omega (arith, p.ends, ended);
    }

-- extents of which the last is within these tokens
pub record Ends (ts : List Token) (a z : ℕ) (inner : List Extent) : Type 0 where
  pub front : List Extent
  pub own : Extent
  pub is : inner ≡ front ++ own ∷ []
  pub placed : Placed ts a z own

-- an extent within these tokens as the last
pub ends_with : {ts : List Token} {a z : ℕ} (front : List Extent) (own : Extent) → Placed ts a z own → Ends ts a z (front ++ own ∷ [])
ends_with front own p = record { front = front; own = own; is = refl; placed = p }

-- behind other extents the last is the same
pub ends_behind : {ts : List Token} {a z : ℕ} {inner : List Extent} (more : List Extent) → Ends ts a z inner → Ends ts a z (more ++ inner)
ends_behind more e = record {
  front = more ++ e.front;
  own = e.own;
  is = ap (λ l. more ++ l) e.is ∙ sym (append_assoc more e.front (e.own ∷ []));
  placed = e.placed;
}

-- with parentheses around the tokens, too
pub ends_around : {ts : List Token} {a z : ℕ} {inner : List Extent} (l r : Place) (xs : List Token) → Stand ts a (symbol sign.LParen l ∷ xs ++ symbol sign.RParen r ∷ []) z
    → Ends ts (a + 1) (a + 1 + length xs) inner → Ends ts a z inner
ends_around l r xs s e = record { front = e.front; own = e.own; is = e.is; placed = placed_around l r xs e.own s e.placed }

-- the extent of a number
at_seam : (ws front : List Extent) (own : Extent) (back : List Extent) (k : ℕ) → ws ≡ front ++ own ∷ back → k ≡ length front → extent_at ws k ≡ own
at_seam ws front own back k e same = ap (λ l. extent_at l k) e ∙ (ap (extent_at (front ++ own ∷ back)) same ∙ ap extent_or (seam_get front own back))

-- the latest extent, and that of a root
latest_is : {ts : List Token} {a z : ℕ} {inner : List Extent} (es : List Extent) (e : Ends ts a z inner) → latest (es ++ inner) ≡ e.own
latest_is {ts} {a} {z} {inner} es e =
    let whole : es ++ inner ≡ (es ++ e.front) ++ e.own ∷ [] = ap (λ l. es ++ l) e.is ∙ sym (append_assoc es e.front (e.own ∷ [])) in
    at_seam (es ++ inner) (es ++ e.front) e.own [] (length (es ++ inner) - 1) whole
    (let long : length (es ++ inner) ≡ length (es ++ e.front) + 1 = ap length whole ∙ length-append (es ++ e.front) (e.own ∷ []) in omega (arith, long))

root_is : {ts : List Token} {a z : ℕ} {inner : List Extent} (es more : List Extent) (base n : ℕ) (e : Ends ts a z inner) → base ≡ length es → length inner ≡ n
    → extent_at (es ++ (inner ++ more)) (base + n - 1) ≡ e.own
root_is {ts} {a} {z} {inner} es more base n e from size =
    let parts : inner ++ more ≡ e.front ++ e.own ∷ more = ap (λ l. l ++ more) e.is ∙ append_assoc e.front (e.own ∷ []) more in
    let whole : es ++ (inner ++ more) ≡ (es ++ e.front) ++ e.own ∷ more = ap (λ l. es ++ l) parts ∙ sym (append_assoc es e.front (e.own ∷ more)) in
    let long : length inner ≡ length e.front + 1 = ap length e.is ∙ length-append e.front (e.own ∷ []) in
    at_seam (es ++ (inner ++ more)) (es ++ e.front) e.own more (base + n - 1) whole (omega (arith, long, from, size, length-append es e.front))

-- the number of the last token of the latest extent, with the parentheses around it
pub outer_last_is : {ts : List Token} {a z : ℕ} {inner : List Extent} (es : List Extent) → Ends ts a z inner
    → outer_last ts (latest (es ++ inner)) + 1 ≡ z + opens_before ts a
outer_last_is {ts} {a} {z} es e =
    let p = e.placed in
    ap (λ (x : Extent). outer_last ts x + 1) (latest_is es e)
    ∙ (ap (λ (k : ℕ). number_of ts e.own.last + opens_before ts k + 1) p.first ∙ omega (arith, p.opens, p.last))

-- the number of the first token of an extent with them, if no closing parenthesis stands behind it
pub outer_first_is : {ts : List Token} {a z : ℕ} {inner : List Extent} (es more : List Extent) (base n : ℕ) → Ends ts a z inner → base ≡ length es → length inner ≡ n
    → closes (drop z ts) ≡ 0 → outer_first ts (extent_at (es ++ (inner ++ more)) (base + n - 1)) ≡ a
outer_first_is {ts} {a} {z} es more base n e from size none =
    let p = e.placed in
    ap (λ (x : Extent). outer_first ts x) (root_is es more base n e from size) ∙ omega (arith, p.first, p.ends, none)
