-- `Told::add_initializer` appends the debug information of a class's attributes, at the addresses after the first lines of its initializer. The initializer of
-- a basic class has none.
use Rattle.std.proofs.Common.{◌≡◌, ◌∙◌, ℕ, ◌+◌, ◌^◌, ◌≤◌, ◌<◌, ◌++◌, List, flat_map, Bool, true, false, refl, ap, arith}
use Rattle.std.specs.Prelude.{nat_lt}
use Rattle.std.proofs.lemmas.Bool.{ltb-true}
use Rattle.mips_isa.specs.Lines.{Line, lines_of}
use Rattle.cool_runtime.specs.Standing.{sizes}
use Rattle.cool_emit.specs.Additions.{files_of}
use Rattle.cool_emit.specs.Programs.{attributes_in, begin_code, end_code, initializer_code, placed_code}
use Rattle.cool_emit.specs.Tellings.{constants}
use Rattle.cool_emit.proofs.ClassesTold.{full_told}
use Rattle.cool_emit.proofs.RoomOfTables.{full_size}
use Rattle.cool_emit.proofs.code_table.Told.add_initializer.Goals as goal

not_basic : (n : ℕ) → 5 ≤ n → nat_lt n 5 ≡ false
not_basic n user = by (nat_lt n 5) refl
  where
    by : (b : Bool) → nat_lt n 5 ≡ b → nat_lt n 5 ≡ false
    by true e = absurd (omega (arith, ltb-true n 5 e))
    by false e = e

pub pass-requires-2 : goal.pass-requires-2
pass-requires-2 c =
    let e = c.args.emission.now in
    let p = e.program.now in
    let begin = ap lines_of c.deref-2.ensures.value ∙ c.in_ok-add_begin.ensures ∙ ap (λ ls. lines_of ls ++ begin_code p c.args.c) c.new-lines.ensures.items in
    let size : sizes (lines_of c.deref-2.result.now) ≡ sizes (begin_code p c.args.c) = ap sizes begin in
    let all = full_size p (files_of e) (constants e) c.args.c (not_basic c.args.c.0 (let no = c.if-c-lt-BASIC_CLASSES.false in omega arith)) in
    let room : c.args.self.now.address + sizes (initializer_code p (files_of e) (constants e) c.args.c) < 2 ^ 32 = c.requires.room in
    record { room = omega arith }

pub add_features-requires-clause-room : goal.add_features-requires-clause-room
add_features-requires-clause-room c =
    let e = c.args.emission.now in
    let p = e.program.now in
    let begin = ap lines_of c.deref-2.ensures.value ∙ c.in_ok-add_begin.ensures ∙ ap (λ ls. lines_of ls ++ begin_code p c.args.c) c.new-lines.ensures.items in
    let size : sizes (lines_of c.deref-2.result.now) ≡ sizes (begin_code p c.args.c) = ap sizes begin in
    let all = full_size p (files_of e) (constants e) c.args.c (not_basic c.args.c.0 (let no = c.if-c-lt-BASIC_CLASSES.false in omega arith)) in
    let room : c.args.self.now.address + sizes (initializer_code p (files_of e) (constants e) c.args.c) < 2 ^ 32 = c.requires.room in
    let address = c.pass-2.ensures.address in
    omega arith

pub pass-requires-3 : goal.pass-requires-3
pass-requires-3 c =
    let e = c.args.emission.now in
    let p = e.program.now in
    let begin = ap lines_of c.deref-2.ensures.value ∙ c.in_ok-add_begin.ensures ∙ ap (λ ls. lines_of ls ++ begin_code p c.args.c) c.new-lines.ensures.items in
    let size : sizes (lines_of c.deref-2.result.now) ≡ sizes (begin_code p c.args.c) = ap sizes begin in
    let end = ap lines_of c.deref-3.ensures.value ∙ c.in_ok-add_end.ensures ∙ ap (λ ls. lines_of ls ++ end_code) c.new-lines-2.ensures.items in
    let last : sizes (lines_of c.deref-3.result.now) ≡ sizes end_code = ap sizes end in
    let all = full_size p (files_of e) (constants e) c.args.c (not_basic c.args.c.0 (let no = c.if-c-lt-BASIC_CLASSES.false in omega arith)) in
    let room : c.args.self.now.address + sizes (initializer_code p (files_of e) (constants e) c.args.c) < 2 ^ 32 = c.requires.room in
    let address = c.pass-2.ensures.address in
    let features : c.add_features.new.self.address ≡ c.pass-2.new.self.address + sizes (flat_map (placed_code p (files_of e) (constants e) c.args.c) (attributes_in p c.args.c)) = c.in_ok-add_features.ensures.address in
    record { room = omega arith }

pub returns : goal.returns
returns c =
    let e = c.args.emission.now in
    let begin = ap lines_of c.deref-2.ensures.value ∙ c.in_ok-add_begin.ensures ∙ ap (λ ls. lines_of ls ++ begin_code e.program.now c.args.c) c.new-lines.ensures.items in
    let end = ap lines_of c.deref-3.ensures.value ∙ c.in_ok-add_end.ensures ∙ ap (λ ls. lines_of ls ++ end_code) c.new-lines-2.ensures.items in
    full_told e c.args.c c.args.self.now c.pass-2.new.self c.add_features.new.self c.pass-3.new.self
    (not_basic c.args.c.0 (let no = c.if-c-lt-BASIC_CLASSES.false in omega arith))
    (c.pass-2.ensures.address ∙ ap (λ (ls : List Line). c.args.self.now.address + sizes ls) begin)
    c.pass-2.ensures.text
    c.in_ok-add_features.ensures
    (c.pass-3.ensures.address ∙ ap (λ (ls : List Line). c.add_features.new.self.address + sizes ls) end)
    c.pass-3.ensures.text
