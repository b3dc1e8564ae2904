use Rattle.std.proofs.Common.{map}
use Rattle.std.specs.Prelude.{string_bytes, codes}
use Rattle.cool_classes.specs.Chains.{name_of}
use Rattle.cool_meaning.specs.SourceRun.{place_text}
use Rattle.cool_eval.proofs.report.no_branch.Goals as goal
use Rattle.lists.proofs.JoinedLists.{four_joined}

pub returns : goal.returns
returns c =
    rw (c.in_ok-extend_from_slice-2.ensures.items, c.in_ok-extend_from_slice.ensures.items, c.class_name.ensures, c.in_ok-words.ensures)
    (four_joined (place_text (map string_bytes c.args.names.now) c.args.at) (codes "No matching branch for class ") (name_of c.args.setting.now.table.now c.args.class) (codes "."))
