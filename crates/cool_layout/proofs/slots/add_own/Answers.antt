-- `add_own` puts a method into the slot of the inherited method of its name, or into a new slot if there is none. If the class has added a method of this name
-- before, its dispatch table stays as it is.
use Rattle.std.proofs.Common.{◌≡◌, ℕ, ◌+◌, List, set, [], ◌∷◌, ◌++◌, length, Some, None, is_some, true, false, sym, ap, ◌∙◌, arith}
use Rattle.std.specs.Prelude.{bytes_eq}
use Rattle.std.specs.Map.{lookup}
use Rattle.std.specs.Global.{Vec}
use Rattle.std.proofs.lemmas.List.{length_push}
use Rattle.cool_layout.specs.SlotTables.{OwnMethod, slots_shown}
use Rattle.cool_layout.proofs.TablesGrow.{shown_lookup, shown_after, again, overridden, added}
use Rattle.cool_layout.proofs.slots.add_own.Goals as goal
use Rattle.cool_layout.proofs.slots.add_own.Goals.{in-Some, in-None+in_ok-push-in-None}
use Rattle.lists.proofs.EqualBytes.{same_key}
use Rattle.lists.proofs.Options.{some_value, copied_some, none_is}

pub returns-then-is_some-clause-table : goal.returns-then-is_some-clause-table
returns-then-is_some-clause-table c above methods own at is =
    let entries = c.args.table.now.own.entries in
    let name : List ℕ = c.args.name.now in
    let there : is_some (lookup (bytes_eq name) (slots_shown entries)) ≡ true = ap is_some (sym (c.get.ensures.value ∙ shown_lookup name entries)) ∙ copied_some c.get.result ∙ sym c.is_some.ensures ∙ c.if-is_some.true in
    let found = some_value (lookup (bytes_eq name) (slots_shown entries)) there in
    again above methods own (record { name = name; method = c.args.method }) c.args.table.now is found.0 found.1

pub returns-clause-table : goal.returns-clause-table
returns-clause-table c above methods own at is =
    let entries = c.args.table.now.own.entries in
    let name : List ℕ = c.args.name.now in
    let m : OwnMethod = record { name = name; method = c.args.method } in
    let absent : is_some (lookup (λ key. bytes_eq name key.items) entries) ≡ false = ap is_some (sym c.get.ensures.value) ∙ copied_some c.get.result ∙ sym c.is_some.ensures ∙ c.if-is_some.false in
    let none = none_is (lookup (λ key. bytes_eq name key.items) entries) absent in
    let none_shown : lookup (bytes_eq name) (slots_shown entries) ≡ None = sym (shown_lookup name entries) ∙ none in
    let key : Vec ℕ = c.in_ok-from_slice.field-0 in
    let copy : key.items ≡ name = c.in_ok-from_slice.ensures.items in
    let new = ap (λ (n : List ℕ). lookup (λ (k : Vec ℕ). bytes_eq n k.items) entries) copy ∙ none in
    let k : ℕ = c.match-inherited.slot in
    elim c.match-inherited.branch [
      | in-Some w ↦
          let own_is = ap (λ t. t.own) w.table-is in
          let empty = ap (λ o. lookup (same_key key) o.entries) own_is ∙ new in
          let shown : slots_shown c.insert.new.self.entries ≡ slots_shown entries ++ (name, k) ∷ [] =
          ap slots_shown c.in_ok-insert.ensures.entries ∙ shown_after c.match-inherited.table.own key k empty ∙ ap (λ o. slots_shown o.entries ++ (key.items, k) ∷ []) own_is ∙ ap (λ (n : List ℕ). slots_shown entries ++ (n, k) ∷ []) copy in
          overridden above methods own m c.args.table.now is none_shown (record { above = c.match-inherited.table.above; own = c.insert.new.self; methods = c.match-inherited.table.methods }) k shown
          (sym at ∙ w.in-Some.is ∙ ap Some (sym w.slot-is)) (ap (λ t. t.methods.items) w.table-is ∙ ap (λ n. set c.args.table.now.methods.items n c.args.method) (sym w.slot-is))
      | in-None+in_ok-push-in-None w ↦
          let own_is = ap (λ t. t.own) w.table-is in
          let empty = ap (λ o. lookup (same_key key) o.entries) own_is ∙ new in
          let shown : slots_shown c.insert.new.self.entries ≡ slots_shown entries ++ (name, k) ∷ [] =
          ap slots_shown c.in_ok-insert.ensures.entries ∙ shown_after c.match-inherited.table.own key k empty ∙ ap (λ o. slots_shown o.entries ++ (key.items, k) ∷ []) own_is ∙ ap (λ (n : List ℕ). slots_shown entries ++ (n, k) ∷ []) copy in
          let items = w.in_ok-push-in-None.ensures.items in
          let long : length w.push.new.self.items ≡ length c.args.table.now.methods.items + 1 = ap length items ∙ length_push c.args.table.now.methods.items c.args.method in
          let len = w.len.ensures in
          let ok = w.push.new.self.ok.0 in
          let is_slot = w.slot-is in
          added above methods own m c.args.table.now is none_shown (record { above = c.match-inherited.table.above; own = c.insert.new.self; methods = c.match-inherited.table.methods }) k shown
          (sym at ∙ w.in-None.is) (ap (λ t. t.methods.items) w.table-is ∙ items) (omega arith)
    ]
