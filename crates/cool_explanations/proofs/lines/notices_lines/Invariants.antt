-- In the loop of `notices_lines`, the text so far, followed by the lines of the notices that are left, is the text of all notices.
use Rattle.std.proofs.Common.{◌≡◌, ◌++◌, drop}
use Rattle.std.specs.List.{flat_map}
use Rattle.cool_explanations.specs.Lines.{notice_line}
use Rattle.cool_explanations.proofs.lines.notices_lines.Given as goal

abbrev pub invariant-loop-notice : goal.invariant-loop-notice
invariant-loop-notice l = l.text.items ++ flat_map notice_line (drop l.notice-index l.all) ≡ flat_map notice_line l.all
