-- `Extends` says that one run goes further than another, as a run with more steps does: it writes and reads at least as much, and no cost counter (meter) is
-- less.
use Rattle.std.specs.Prelude.{◌≡◌, ◌≤◌, ℕ, List, ◌++◌}
use Rattle.cool_meaning.specs.SourceRun.{Run, End, Done, Failed, GoesOn, IsStuck}

-- A run goes further than another: it wrote the same and perhaps more, took the same of the input and perhaps more, and no meter is
-- less.
pub record Extends (shorter longer : Run) : Type 0 where
  pub printed : List ℕ
  pub output : longer.output ≡ shorter.output ++ printed
  pub taken : List ℕ
  pub left : shorter.left ≡ taken ++ longer.left
  pub work : shorter.work ≤ longer.work
  pub words : shorter.words ≤ longer.words
  pub peak : shorter.peak ≤ longer.peak

-- the run ended
abbrev pub IsOver : End → Type 0
IsOver Done = Unit {0}
IsOver (Failed e) = Unit {0}
IsOver GoesOn = ⊥
IsOver IsStuck = ⊥
