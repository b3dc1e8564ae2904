mod JumpTargets
mod SignedDivision
mod Stepping
mod Starting
mod Advancing
