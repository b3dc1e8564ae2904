-- `NoMoreRun` says that the run of a folded program ends, writes and reads as the run of the original program does, and that no cost counter (meter) is
-- greater.
use Rattle.std.specs.Prelude.{◌≡◌, ◌≤◌}
use Rattle.cool_meaning.specs.SourceRun.{Run}

-- a run that ends as another does, writes and leaves the same, with no meter greater
pub record NoMoreRun (r r' : Run) : Type 0 where
  pub end : r'.end ≡ r.end
  pub output : r'.output ≡ r.output
  pub left : r'.left ≡ r.left
  pub work : r'.work ≤ r.work
  pub words : r'.words ≤ r.words
  pub peak : r'.peak ≤ r.peak
