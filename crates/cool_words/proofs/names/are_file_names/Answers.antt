use Rattle.std.proofs.Common.{◌≡◌, ◌∙◌, ◌<◌, sym, rules, tests, arith, Bool, List, [], ◌∷◌, length}
use Rattle.std.specs.Prelude.{◌&&◌, nat_lt}
use Rattle.std.specs.Borrow.{Bor}
use Rattle.std.proofs.lemmas.Iterator.{YieldsList-from_slice}
use Rattle.std.proofs.lemmas.Iterator.Search.{all_from_yields_List}
use Rattle.std.proofs.lemmas.List.Folds.{list_all-map}
use Rattle.clap.specs.Walk.{texts}
use Rattle.clap.specs.Words.{Text}
use Rattle.cool_words.specs.Plans.{is_file_name}
use Rattle.cool_words.proofs.names.are_file_names.Goals as goal

-- if there is a name, the tests of all decide
test_of_each : (names : List (Bor Text)) (each : Bool) → 0 < length names → each ≡ (nat_lt 0 (length (texts names)) && each)
test_of_each [] each some = absurd (omega (arith, some))
test_of_each (name ∷ names) each some = grind arith

pub returns-then-not-is_empty : goal.returns-then-not-is_empty
returns-then-not-is_empty c =
    all_from_yields_List (λ name. is_file_name name.now) _ _ _ c.all.ensures.ran (YieldsList-from_slice c.args.names.now cc) (λ x b q k. search (rules, tests))
    ∙ sym (list_all-map is_file_name (λ name. name.now) c.args.names.now)
    ∙ test_of_each c.args.names.now _ (grind (arith, c.is_empty.ensures, c.if-not-is_empty.true))
