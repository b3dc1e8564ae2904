-- `law_node_types` holds by `columns_typed` of `ColumnsAreTyped.antt`: the type stored for each node of a typed program is the one that the typing rules give
-- the node.
use Rattle.cool_rules.proofs.ColumnsAreTyped.{columns_typed}
use Rattle.cool_rules.proofs.laws.law_node_types.Goals as goal

pub returns : goal.returns
returns c = columns_typed
