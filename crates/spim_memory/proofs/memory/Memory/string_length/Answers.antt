use Rattle.std.proofs.Common.{◌∙◌, sym, arith}
use Rattle.spim_memory.specs.Memory.{segments, bytes_of}
use Rattle.spim_memory.proofs.StringsOfBytes.{string_found, string_goes_on, string_missing, load_within}
use Rattle.spim_memory.proofs.memory.Memory.string_length.Goals as goal

pub returns-then-has_zero-clause-found : goal.returns-then-has_zero-clause-found
returns-then-has_zero-clause-found c =
    string_found (segments c.args.self.now) (bytes_of c.args.self.now) c.args.a c.loop-k.k c.in_ok-room.field-0 c.in_ok-room.ensures.end (omega (arith, c.loop-k-test.true)) (sym c.has_zero.ensures ∙ c.if-has_zero.true) c.loop-k.invariant

pub returns-then-has_zero-clause-inside : goal.returns-then-has_zero-clause-inside
returns-then-has_zero-clause-inside c =
    λ k within. load_within (segments c.args.self.now) c.args.a k c.in_ok-room.field-0 (sym c.in_ok-room.ensures.end) (omega (arith, within, c.loop-k-test.true))

pub loop-k-preserved : goal.loop-k-preserved
loop-k-preserved c =
    string_goes_on (segments c.args.self.now) (bytes_of c.args.self.now) c.args.a c.loop-k.k c.in_ok-room.field-0 c.in_ok-room.ensures.end (omega (arith, c.loop-k-test.true)) (sym c.has_zero.ensures ∙ c.if-has_zero.false) c.loop-k.invariant

pub returns-clause-none : goal.returns-clause-none
returns-clause-none c =
    string_missing (segments c.args.self.now) (bytes_of c.args.self.now) c.args.a c.in_ok-room.field-0 c.in_ok-room.ensures.end (λ i within. c.loop-k.invariant i (omega (arith, within, c.loop-k-test.false, c.loop-k.auto.k-end)))
