-- In the loop of `are_short`, all names are short exactly if the names that are left are.
use Rattle.std.proofs.Common.{◌≡◌, drop, map}
use Rattle.std.specs.Prelude.{string_bytes}
use Rattle.cool_listings.specs.Ends.{fit}
use Rattle.cool_listings.specs.declared.form.Form.TheVariants.{Code}
use Rattle.cool_listings.proofs.answer.are_short.Given as goal

abbrev pub invariant-loop-name : goal.invariant-loop-name
invariant-loop-name l = fit Code (map string_bytes (drop l.name-index l.names)) ≡ fit Code (map string_bytes l.names)
