-- `is_name` returns whether a token is a valid name: its first byte may begin a name, and each byte after it may continue one.
use Rattle.std.proofs.Common.{◌≡◌, ◌∙◌, ◌-◌, ◌≤◌, sym, ap, refl, rules, tests, arith, Bool, true, ℕ, List, [], ◌∷◌, length, get_or, drop, take}
use Rattle.std.specs.Prelude.{◌&&◌}
use Rattle.std.specs.List.{list_all}
use Rattle.std.proofs.lemmas.Grind.{common_steps}
use Rattle.std.proofs.lemmas.Iterator.{YieldsList-from_slice}
use Rattle.std.proofs.lemmas.Iterator.Search.{all_from_yields_List}
use Rattle.mips_text.specs.Letters.{name_rest, name_start}
use Rattle.mips_text.specs.Names.{is_name}
use Rattle.mips_text.proofs.names.is_name.Goals as goal

-- a word that begins as a name is one where the bytes after its first go on as a name
name_goes_on : (word rest : List ℕ) → 1 ≤ length word → name_start (get_or word 0 0) ≡ true → rest ≡ take (length word - 1) (drop 1 word)
    → list_all name_rest rest ≡ is_name word
name_goes_on [] rest some begins cut = absurd (omega arith)
name_goes_on (b ∷ bs) rest some begins cut =
    let same : rest ≡ bs = grind (arith, common_steps) in
    ap (list_all name_rest) same ∙ ap (λ (first : Bool). first && list_all name_rest bs) (sym begins)

pub returns-then-begins_name : goal.returns-then-begins_name
returns-then-begins_name c =
    all_from_yields_List name_rest _ _ _ c.all.ensures.ran (YieldsList-from_slice _ refl) (λ x b q k. search (rules, tests))
    ∙ name_goes_on c.args.word.now c.iter.result.rest.now c.in-len1-up.len_at_least
    (sym c.begins_name.ensures ∙ c.if-begins_name.true) c.iter.ensures.rest
