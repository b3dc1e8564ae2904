use Rattle.std.proofs.Common.{◌≡◌, map, take}
use Rattle.cool_faults.specs.Texts.{fault_line}
use Rattle.cool_words.specs.Plans.{words_of}
use Rattle.cool_driver.specs.Contents.{texts}
use Rattle.cool_driver.proofs.refusal.lines_of_faults.Given as goal

-- there is a line for each fault so far
abbrev pub invariant-loop-fault : goal.invariant-loop-fault
invariant-loop-fault l = texts l.lines.items ≡ map (fault_line (words_of l.names)) (take l.fault-index l.faults)
