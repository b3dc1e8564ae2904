-- `texts` converts a list of byte vectors (`Vec`) to a list of byte lists. The vectors are the contents of files, or lines.
use Rattle.std.specs.{Prelude.{ℕ, List, map}, Global.{Vec}}

abbrev pub texts : List (Vec ℕ) → List (List ℕ)
texts = map (λ bytes. bytes.items)
