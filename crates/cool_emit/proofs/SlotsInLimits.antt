-- In a class table within the limits, no class has more than 2,000 dispatch table entries, or more than 2,000 attributes.
use Rattle.std.proofs.Common.{◌≤◌, ◌<◌, List, length}
use Rattle.cool_classes.specs.declared.class_id.ClassId.{ClassId}
use Rattle.cool_classes.specs.Chains.{Class}
use Rattle.cool_classes.specs.ClimbedChains.{chain}
use Rattle.cool_classes.specs.Limits.{KeepsLimits}
use Rattle.cool_layout.specs.Members.{slots, attributes}
use Rattle.cool_layout.specs.Roots.{IsRooted}
use Rattle.cool_layout.proofs.ShortChains.{chain_is}
use Rattle.cool_layout.proofs.KeptSlots.{different, implemented}

pub few_slots : (p : List Class) → IsRooted p → KeepsLimits p → (c : ClassId) → c.0 < length p → length (slots p c) ≤ 2000
few_slots p r limits c within =
    limits.methods c (chain p c) (slots p c) within (chain_is p r c within) (different p (chain p c))
    (implemented p (chain p c))

pub few_attributes : (p : List Class) → IsRooted p → KeepsLimits p → (c : ClassId) → c.0 < length p → length (attributes p c) ≤ 2000
few_attributes p r limits c within = limits.attributes c (chain p c) within (chain_is p r c within)
