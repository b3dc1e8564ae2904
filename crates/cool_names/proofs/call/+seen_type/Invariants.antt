-- `seen_type`, which computes the type of an expression from its form, calls itself only for subexpressions, which have smaller node numbers.
use Rattle.cool_names.proofs.call.+seen_type.Given as goal

abbrev pub decreases-seen_type : goal.decreases-seen_type
decreases-seen_type l = l.id.0
