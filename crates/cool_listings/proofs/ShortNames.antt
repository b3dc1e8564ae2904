-- The file names that `fit` of `Ends.antt` admits for the listing of code (`--code`) are within the length limit of a build.
use Rattle.std.proofs.Common.{◌≡◌, ℕ, List, [], ◌∷◌, length}
use Rattle.std.specs.Prelude.{nat_le, true}
use Rattle.std.proofs.lemmas.Bool.{and_parts, leb-true}
use Rattle.cool_emit.specs.FileNames.{AreShortNames}
use Rattle.cool_emit.specs.declared.TheConstants.{MOST_FILE_NAME}
use Rattle.cool_listings.specs.Ends.{fit}
use Rattle.cool_listings.specs.declared.form.Form.TheVariants.{Code}

pub short_names : (names : List (List ℕ)) → fit Code names ≡ true → AreShortNames names
short_names [] all = tt
short_names (name ∷ names) all =
    let parts = and_parts (nat_le (length name) MOST_FILE_NAME) (fit Code names) all in
    (leb-true (length name) MOST_FILE_NAME parts.0, short_names names parts.1)
