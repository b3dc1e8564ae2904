-- `WaitsInControl`, `WaitsToBind` and `WaitsToOperate` are groups of the interpreter's frames, so that a function over all frames can be divided into one
-- function for each group.
use Rattle.cool_eval.specs.declared.frame.Frame.{Frame}
use Rattle.cool_eval.specs.declared.frame.Frame.TheVariants as held

-- frames of conditions, loops and blocks
abbrev pub WaitsInControl : Frame → Type 0
WaitsInControl (held.Choose scene a b) = Unit {0}
WaitsInControl (held.Turn scene a b) = Unit {0}
WaitsInControl (held.Again scene a b) = Unit {0}
WaitsInControl (held.Items scene rest) = Unit {0}
WaitsInControl _ = ⊥

-- frames of variables, branches and attributes
abbrev pub WaitsToBind : Frame → Type 0
WaitsToBind (held.AssignTo scene name) = Unit {0}
WaitsToBind (held.Bind scene name body) = Unit {0}
WaitsToBind (held.Pick scene at branches) = Unit {0}
WaitsToBind (held.Fill o l rest) = Unit {0}
WaitsToBind _ = ⊥

-- frames of operators
abbrev pub WaitsToOperate : Frame → Type 0
WaitsToOperate held.TestVoid = Unit {0}
WaitsToOperate held.Invert = Unit {0}
WaitsToOperate (held.Negate at) = Unit {0}
WaitsToOperate (held.Operand scene at op right) = Unit {0}
WaitsToOperate (held.Operate at op left) = Unit {0}
WaitsToOperate (held.Compared scene op right) = Unit {0}
WaitsToOperate (held.CompareTo op left) = Unit {0}
WaitsToOperate _ = ⊥
