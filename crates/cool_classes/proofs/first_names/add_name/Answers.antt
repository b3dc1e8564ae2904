-- `add_name` gives a new name the next index in the map, and leaves a name that is already in the map at its first index.
use Rattle.std.proofs.Common.{◌≡◌, ◌++◌, ◌∷◌, [], ℕ, List, Some, is_some, true, false, ap, sym, ◌∙◌, subst}
use Rattle.std.specs.Prelude.{bytes_eq}
use Rattle.std.specs.Map.{lookup}
use Rattle.std.specs.Global.{Vec}
use Rattle.cool_classes.specs.FirstNames.{shown_names, FindsFirst}
use Rattle.cool_classes.proofs.NameIndexes.{shown_lookup, shown_after, finds_new, finds_old}
use Rattle.cool_classes.proofs.first_names.add_name.Goals as goal
use Rattle.lists.proofs.Options.{copied_some, none_is}

pub returns-then-is_some : goal.returns-then-is_some
returns-then-is_some c row number finds =
    let es = c.args.names.now.entries in
    let name = c.args.name.now in
    let there : is_some (lookup (bytes_eq name) (shown_names es)) ≡ true =
    ap is_some (sym (c.get.ensures.value ∙ shown_lookup name es)) ∙ copied_some c.get.result ∙ sym c.is_some.ensures ∙ c.if-is_some.true in
    finds_old (shown_names es) row name there finds

pub returns : goal.returns
returns c row number finds =
    let es = c.args.names.now.entries in
    let name = c.args.name.now in
    let absent : is_some (lookup (λ key. bytes_eq name key.items) es) ≡ false =
    ap is_some (sym c.get.ensures.value) ∙ copied_some c.get.result ∙ sym c.is_some.ensures ∙ c.if-is_some.false in
    let none = none_is (lookup (λ key. bytes_eq name key.items) es) absent in
    let key = c.in_ok-from_slice.field-0 in
    let copy : key.items ≡ name = c.in_ok-from_slice.ensures.items in
    let new = ap (λ (n : List ℕ). lookup (λ (k : Vec ℕ). bytes_eq n k.items) es) copy ∙ none in
    let shown : shown_names c.insert.new.self.entries ≡ shown_names es ++ (key.items, c.args.index) ∷ [] =
    ap shown_names c.in_ok-insert.ensures.entries ∙ shown_after c.args.names.now key c.args.index new in
    let after : shown_names c.insert.new.self.entries ≡ shown_names es ++ (name, c.args.index) ∷ [] =
    shown ∙ ap (λ (n : List ℕ). shown_names es ++ (n, c.args.index) ∷ []) copy in
    subst (λ (now : List (List ℕ × ℕ)). FindsFirst now (row ++ Some name ∷ [])) (sym after) (finds_new (shown_names es) row name c.args.index number finds)
