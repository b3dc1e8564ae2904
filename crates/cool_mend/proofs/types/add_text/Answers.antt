-- `add_text` adds a text that is not yet in the list, as long as the list has fewer than `MOST_METHODS` texts.
use Rattle.std.proofs.Common.{ℕ, List, ap, arith, sym, ◌∙◌}
use Rattle.std.specs.Prelude.{bytes_eq}
use Rattle.std.specs.List.{list_any}
use Rattle.std.specs.Global.{Vec}
use Rattle.cool_mend.proofs.MethodsTold.{text_added, text_over, text_there}
use Rattle.cool_mend.proofs.types.add_text.Goals as goal
use Rattle.cool_mend.proofs.types.add_text.Goals.{else-len-lt-MOST_METHODS-via-then-len-lt-MOST_METHODS+else-not-contains, else-len-lt-MOST_METHODS-via-else-len-lt-MOST_METHODS}

pub returns-in_ok-push : goal.returns-in_ok-push
returns-in_ok-push c =
    text_added c.args.all.now.items c.push.new.self.items c.args.text (omega (arith, c.if-len-lt-MOST_METHODS.true, c.len.ensures))
    (sym (ap (λ (texts : List (Vec ℕ)). list_any (λ other. bytes_eq other.items c.args.text.items) texts) c.deref.ensures.value) ∙ sym c.contains.ensures.value ∙ c.if-not-contains.true)
    c.in_ok-push.ensures.items

pub returns-else-len-lt-MOST_METHODS : goal.returns-else-len-lt-MOST_METHODS
returns-else-len-lt-MOST_METHODS c =
    elim c.else-len-lt-MOST_METHODS.branch [
      | else-len-lt-MOST_METHODS-via-then-len-lt-MOST_METHODS+else-not-contains w ↦
          text_there c.args.all.now.items c.args.text.items
          (sym (ap (λ (texts : List (Vec ℕ)). list_any (λ other. bytes_eq other.items c.args.text.items) texts) w.deref.ensures.value) ∙ sym w.contains.ensures.value ∙ w.if-not-contains.false)
      | else-len-lt-MOST_METHODS-via-else-len-lt-MOST_METHODS w ↦ text_over c.args.all.now.items c.args.text.items (omega (arith, w.if-len-lt-MOST_METHODS.false, c.len.ensures))
    ]
