-- A string has the same index among the keys of a set as its bytes have among the bytes of these keys.
use Rattle.std.proofs.Common.{◌≡◌, ℕ, ◌+◌, List, [], ◌∷◌, ◌++◌, map, Bool, true, false, cond, not, ◌||◌, refl, ap, ◌∙◌}
use Rattle.std.specs.Prelude.{bytes_eq, if◌then◌else◌}
use Rattle.std.specs.List.{position_or_len, list_any}
use Rattle.std.specs.Global.{Vec}
use Rattle.std.proofs.lemmas.List.{map-append}
use Rattle.cool_consts.specs.Constants.{with_string, string_number}

abbrev pub bytes_of : List (Vec ℕ) → List (List ℕ)
bytes_of = map (λ v. v.items)

-- a string has the number of its bytes
pub number_shown : (bytes : List ℕ) (keys : List (Vec ℕ)) → position_or_len (λ (k : Vec ℕ). bytes_eq bytes k.items) keys ≡ string_number (bytes_of keys) bytes
number_shown bytes [] = refl
number_shown bytes (k ∷ ks) = ap (λ n. cond (not (bytes_eq bytes k.items)) (1 + n) 0) (number_shown bytes ks)

any_shown : (bytes : List ℕ) (keys : List (Vec ℕ)) → list_any (λ (k : Vec ℕ). bytes_eq bytes k.items) keys ≡ list_any (bytes_eq bytes) (bytes_of keys)
any_shown bytes [] = refl
any_shown bytes (k ∷ ks) = ap (λ b. bytes_eq bytes k.items || b) (any_shown bytes ks)

-- a string that is used is among the bytes
pub used_shown : (key : Vec ℕ) (keys : List (Vec ℕ)) → bytes_of (if list_any (λ (k : Vec ℕ). bytes_eq key.items k.items) keys then keys else keys ++ key ∷ []) ≡ with_string (bytes_of keys) key.items
used_shown key keys = by (list_any (λ (k : Vec ℕ). bytes_eq key.items k.items) keys) ∙ ap (λ b. if b then bytes_of keys else bytes_of keys ++ key.items ∷ []) (any_shown key.items keys)
  where
    by : (b : Bool) → bytes_of (if b then keys else keys ++ key ∷ []) ≡ (if b then bytes_of keys else bytes_of keys ++ key.items ∷ [])
    by true = refl
    by false = map-append (λ (v : Vec ℕ). v.items) keys (key ∷ [])
