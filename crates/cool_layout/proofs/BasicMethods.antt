-- Each step of the loop of `add_basic`, which adds the methods of a basic class to its dispatch table, adds the next method in the list of that class.
use Rattle.std.proofs.Common.{◌≡◌, ℕ, ◌+◌, ◌<◌, List, [], ◌∷◌, ◌++◌, length, take, get_or, ap, sym, ◌∙◌}
use Rattle.std.proofs.lemmas.List.{map_more, map_push}
use Rattle.cool_classes.specs.BasicMethods.{named_methods}
use Rattle.cool_classes.specs.Features.{NamedMethod}
use Rattle.cool_classes.specs.declared.basic_methods.NamedMethod as row
use Rattle.cool_classes.specs.declared.method.MethodRef.TheVariants.{Basic}
use Rattle.cool_layout.specs.SlotTables.{basic_own}

-- one more of the rows is one more method of the class's own
pub own_more : (rows : List row.NamedMethod) (i : ℕ) (d : row.NamedMethod) → i < length rows
    → basic_own (named_methods (take i rows)) ++ record { name = (get_or rows i d).0.now; method = Basic (get_or rows i d).1 } ∷ []
    ≡ basic_own (named_methods (take (i + 1) rows))
own_more rows i d within =
    sym (ap basic_own (map_more (λ (m : row.NamedMethod). record { name = m.0.now; method = m.1 }) rows i d within)
    ∙ map_push (λ (m : NamedMethod). record { name = m.name; method = Basic m.method }) (named_methods (take i rows)) _)
