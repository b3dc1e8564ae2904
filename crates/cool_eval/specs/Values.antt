-- `value_of` converts a value of the interpreter to a value of the semantics (Values.antt of `cool_meaning`).
use Rattle.std.specs.Prelude.{ℕ, zero, suc, List, [], ◌∷◌}
use Rattle.cool_meaning.specs.Values.{Value, Void, Int, Bool, Str, Obj}
use Rattle.cool_eval.specs.declared.value.Value.{Value as Held}
use Rattle.cool_eval.specs.declared.value.Value.TheVariants as held

-- so many locations from one on
abbrev pub locations_from : ℕ → ℕ → List ℕ
locations_from first zero = []
locations_from first (suc n) = first ∷ locations_from (suc first) n

abbrev pub value_of : Held → Value
value_of held.Void = Void
value_of (held.Int n) = Int n
value_of (held.Bool b) = Bool b
value_of (held.Str bytes) = Str bytes.value.items
value_of (held.Object o) = Obj o.class o.identity (locations_from o.first o.count)

-- a store as contracts see it: the values at the locations, and the number of identities that were drawn
pub record Stored : Type 0 where
  pub values : List Value
  pub drawn : ℕ
