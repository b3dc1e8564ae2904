-- `CodeSetting::slot_offset` returns the offset of a method in a dispatch table, 4 bytes for each slot before it.
-- The offset is below 2 ^ 31, as `signed` requires, because a class has at most 2,000 slots.
use Rattle.std.proofs.Common.{sym, arith}
use Rattle.cool_layout.proofs.KeptSlots.{slot_low}
use Rattle.cool_codegen.proofs.code_setting.CodeSetting.slot_offset.Goals as goal

pub overflow_mul-slot : goal.overflow_mul-slot
overflow_mul-slot c =
    let here = sym (c.in-Some.ensures.slot c.args.self.now.table.now c.requires.sound.layout c.requires.class) in
    let low = slot_low c.args.self.now.layout.now c.args.self.now.table.now c.requires.sound.layout c.args.class c.requires.class c.args.name.now c.in-Some.slot here in
    omega arith

pub signed-requires : goal.signed-requires
signed-requires c =
    let here = sym (c.in-Some.ensures.slot c.args.self.now.table.now c.requires.sound.layout c.requires.class) in
    let low = slot_low c.args.self.now.layout.now c.args.self.now.table.now c.requires.sound.layout c.args.class c.requires.class c.args.name.now c.in-Some.slot here in
    omega arith
