use Rattle.std.proofs.Common.{◌∙◌, ap, arith}
use Rattle.spim_memory.proofs.LoadsAnswer.{same_memory, word_of_static, word_of_heap, word_of_stack, loaded_word}
use Rattle.spim_memory.proofs.memory.Memory.load_word.Goals as goal

pub returns-in-Some-StaticBytes : goal.returns-in-Some-StaticBytes
returns-in-Some-StaticBytes c =
    let found = c.in-Some-StaticBytes in
    let at = rw found.field-0-is at found.ensures in
    let same = c.deref.ensures.value ∙ ap (λ parts. parts.static_bytes) c.self.view_is in
    word_of_static c.args.self.now _ c.args.a found.offset _ (same_memory _ _ c.self.view_is c.self.invariant.0) (omega (arith, c.if-a-ne0.false)) at same c.read_word.ensures

pub returns-in-Some-Heap : goal.returns-in-Some-Heap
returns-in-Some-Heap c =
    let found = c.in-Some-Heap in
    let at = rw found.field-0-is at found.ensures in
    let same = ap (λ parts. parts.heap) c.self.view_is in
    word_of_heap c.args.self.now _ c.args.a found.offset _ (same_memory _ _ c.self.view_is c.self.invariant.0) (omega (arith, c.if-a-ne0.false)) at same c.word.ensures

pub returns-in-Some-Stack : goal.returns-in-Some-Stack
returns-in-Some-Stack c =
    let found = c.in-Some-Stack in
    let at = rw found.field-0-is at found.ensures in
    let same = ap (λ parts. parts.stack) c.self.view_is in
    word_of_stack c.args.self.now _ c.args.a found.offset _ (same_memory _ _ c.self.view_is c.self.invariant.0) (omega (arith, c.if-a-ne0.false)) at same c.word-in-Some-Stack.ensures

pub returns-in-None : goal.returns-in-None
returns-in-None c =
    loaded_word c.args.self.now c.args.a c.text_from.result (same_memory _ _ c.self.view_is c.self.invariant.0) (omega (arith, c.if-a-ne0.false)) c.in-None.ensures c.text_from.ensures
