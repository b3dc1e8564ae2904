use Rattle.std.proofs.Common.{◌∙◌, ap}
use Rattle.mips_isa.specs.Bytes.{writable}
use Rattle.spim_memory.specs.Memory.{segments}
use Rattle.cool_ports.proofs.InputsInParts.{leaves_none}
use Rattle.spim_machine.proofs.FillingBuffers.{may_store_fewer, stored_within, stored_zero}
use Rattle.spim_machine.proofs.machine.Machine.fill.Goals as goal

pub store_line-requires-clause-writable : goal.store_line-requires-clause-writable
store_line-requires-clause-writable g c = may_store_fewer (segments c.args.self.now.cpu.memory) c.args.address c.args.most c.requires.writable

pub store-requires : goal.store-requires
store-requires g c =
    ap (λ s. writable s c.in_ok-end.end 1) c.in_ok-end.ensures.keeps.memory.segments ∙ stored_within (segments c.args.self.now.cpu.memory) _ _ _ _ _ _ _ _ _ (c.in_ok-end.ensures.all _ _ (leaves_none _ _ _ _ _ _ c.in_ok-end.ensures.took)) c.requires.writable

pub returns-clause-all : goal.returns-clause-all
returns-clause-all g c = λ input rest leaves. stored_zero _ _ _ _ _ _ _ _ _ _ _ (c.in_ok-end.ensures.all input rest leaves) c.store.ensures.ended c.store.ensures.core
