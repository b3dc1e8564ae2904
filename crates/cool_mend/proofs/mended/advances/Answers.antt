-- `advances` returns true only if the errors after an edit are the next one behind the error of this number, and errors from before the edit, moved by it.
use Rattle.std.proofs.Common.{◌+◌, ◌-◌, [], List, arith, drop, length, length-drop, map, subst, take}
use Rattle.std.proofs.lemmas.List.{take_all}
use Rattle.cool_faults.specs.declared.fault.Fault.{Fault}
use Rattle.cool_faults.specs.Files.{bytes_of}
use Rattle.cool_faults.specs.Verdicts.{standing_of}
use Rattle.cool_mend.specs.Mends.{IsPart, moved_standing, none}
use Rattle.cool_mend.proofs.FaultsPassed.{advanced, all_alone}
use Rattle.cool_mend.proofs.mended.advances.Goals as goal

pub returns-then-is_next : goal.returns-then-is_next
returns-then-is_next c =
    let k = c.passed-front.result in
    let before = c.args.before.now in
    let after = c.args.after.now in
    let number = c.args.number in
    let move = moved_standing c.args.edit.now c.args.lines.more c.args.lines.less in
    let stands = c.requires.stands in
    let test = c.if-front-after.false in
    let rest = drop (k + 1) after in
    let behind = drop (number + 1) before in
    λ all. advanced (bytes_of c.args.files.now) c.args.edit.now number k before after _ _ c.args.lines.more c.args.lines.less c.requires.more c.requires.less
    (omega (arith, stands)) (omega (arith, test)) (c.is_next.ensures c.if-is_next.true) (c.passed-front.ensures.part [] none)
    (subst (λ (l : List Fault). IsPart (map standing_of l) (map move behind)) (take_all (length after - (k + 1)) rest (omega (arith, length-drop (k + 1) after)))
    (all_alone move behind (take (length after - (k + 1)) rest) (length before - (number + 1)) c.passed.result (omega (arith, length-drop (number + 1) before)) all (c.passed.ensures.part [] none)))
