use Rattle.std.proofs.lemmas.Result.{IfOk-weaker}
use Rattle.cool_lexer.proofs.Items.{begins_code}
use Rattle.cool_lexer.proofs.item.item_at.Goals as goal
use Rattle.lists.proofs.ItemsLeft.{first_and_tail}

pub item_after-requires : goal.item_after-requires
item_after-requires c = record { whole = first_and_tail c.args.text.now c.requires }

pub returns : goal.returns
returns c = IfOk-weaker c.item_after.result _ _ (λ front is. begins_code c.args.text.now front c.requires is) c.item_after.ensures
