use Rattle.std.proofs.Common.{ap, length, ◌-◌, ◌∙◌, arith}
use Rattle.mips_isa.specs.declared.address_map.TheConstants.{DATA_START, HEAP_START, STACK_END}
use Rattle.spim_memory.specs.Memory.{bytes_of}
use Rattle.spim_memory.specs.Places.{set_two}
use Rattle.spim_memory.proofs.StoringBytes.{writes_static, writes_heap, writes_stack, stored_half, written, length_two}
use Rattle.spim_memory.proofs.memory.Memory.store_half.Goals as goal

pub returns-in-Some-StaticBytes-clause-stored : goal.returns-in-Some-StaticBytes-clause-stored
returns-in-Some-StaticBytes-clause-stored c =
    let found = c.in-Some-StaticBytes in
    let at = rw found.field-0-is at found.ensures in
    let m = c.self.inside in
    let size = ap (λ parts. length parts.static_bytes) c.self.view_is in
    let same = c.deref_mut.ensures.value in
    let new = written m.static_bytes _ _ _ same c.write_half.ensures (length_two _ found.offset c.args.v) ∙ ap (λ bytes. set_two bytes found.offset c.args.v) same in
    stored_half (λ d. bytes_of (record { text = m.text.items; static_bytes = d; heap = m.heap; stack = m.stack })) DATA_START m.static_bytes.items _ _ c.args.a found.offset c.args.v
    (writes_static m.text.items m.heap m.stack _ c.self.invariant.0.static_bytes) (ap bytes_of c.self.view_is) (omega (arith, at.0, size)) (omega (arith, at.0, at.1, size, c.if-a-ne0.false, c.self.invariant.0.static_words)) new

pub returns-in-Some-Heap-clause-stored : goal.returns-in-Some-Heap-clause-stored
returns-in-Some-Heap-clause-stored c =
    let found = c.in-Some-Heap in
    let at = rw found.field-0-is at found.ensures in
    let m = c.self.inside in
    let size = ap (λ parts. length parts.heap) c.self.view_is in
    stored_half (λ h. bytes_of (record { text = m.text.items; static_bytes = m.static_bytes.items; heap = h; stack = m.stack })) HEAP_START m.heap _ _ c.args.a found.offset c.args.v
    (writes_heap m.text.items m.static_bytes.items m.stack _ c.self.invariant.0.heap c.self.invariant.0.stack) (ap bytes_of c.self.view_is) (omega (arith, at.0, size)) (omega (arith, at.0, at.1, size, c.if-a-ne0.false, c.self.invariant.0.heap_words)) c.set_half.ensures

pub returns-in-Some-Stack-clause-stored : goal.returns-in-Some-Stack-clause-stored
returns-in-Some-Stack-clause-stored c =
    let found = c.in-Some-Stack in
    let at = rw found.field-0-is at found.ensures in
    let m = c.self.inside in
    let size = ap (λ parts. length parts.stack) c.self.view_is in
    stored_half (λ s. bytes_of (record { text = m.text.items; static_bytes = m.static_bytes.items; heap = m.heap; stack = s })) (STACK_END - length m.stack) m.stack _ _ c.args.a found.offset c.args.v
    (writes_stack m.text.items m.static_bytes.items m.heap _ c.self.invariant.0.stack) (ap bytes_of c.self.view_is) (omega (arith, at.0, size)) (omega (arith, at.0, at.1, size, c.if-a-ne0.false, c.self.invariant.0.stack_words)) c.set_half-in-Some-Stack.ensures
