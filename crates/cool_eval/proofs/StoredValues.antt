-- If a value is written at a location of the store, the store that contracts see has this value at the location and is otherwise unchanged.
use Rattle.std.proofs.Common.{◌≡◌, ℕ, List, [], ◌∷◌, ◌++◌, length, map}
use Rattle.std.proofs.lemmas.List.{length-map, map-append, map-set}
use Rattle.std.specs.Prelude.{slice_set}
use Rattle.cool_eval.specs.declared.value.Value.{Value}
use Rattle.cool_eval.specs.Values.{value_of}

pub stored_length : (vs : List Value) → length (map value_of vs) ≡ length vs
stored_length vs = length-map vs value_of

pub stored_more : (vs : List Value) (v : Value) → map value_of (vs ++ v ∷ []) ≡ map value_of vs ++ value_of v ∷ []
stored_more vs v = map-append value_of vs (v ∷ [])

pub stored_all : (vs ws : List Value) → map value_of (vs ++ ws) ≡ map value_of vs ++ map value_of ws
stored_all vs ws = map-append value_of vs ws

-- a value that is set is seen at its location
pub stored_set : (vs : List Value) (l : ℕ) (v : Value) → map value_of (slice_set vs l v) ≡ slice_set (map value_of vs) l (value_of v)
stored_set vs l v = map-set value_of vs l v
