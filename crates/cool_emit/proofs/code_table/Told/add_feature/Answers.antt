-- `Told::add_feature` appends the debug information of a feature and its expressions. It computes their addresses from the sizes of the lines that
-- `feature_code` returns for an empty table of constants. These sizes are the same for every table of constants, so they are the addresses in the program.
use Rattle.std.proofs.Common.{◌≡◌, ◌∙◌, ℕ, ◌+◌, ◌^◌, ◌≤◌, ◌<◌, ◌++◌, List, length, flat_map, map, get_or, refl, ap, ap₂, sym, subst, arith}
use Rattle.std.specs.List.{AllByRecursion}
use Rattle.std.proofs.lemmas.List.{length-map}
use Rattle.mips_isa.specs.Lines.{Line, line_of, lines_of}
use Rattle.cool_classes.specs.Chains.{features_of}
use Rattle.cool_runtime.specs.Standing.{sizes}
use Rattle.cool_codegen.specs.Shown.{Shown, shown_of}
use Rattle.cool_codegen.proofs.NumbersAgree.{extends_same}
use Rattle.cool_emit.specs.CodeTables.{code_row}
use Rattle.cool_emit.specs.TableLines.{row_line}
use Rattle.cool_emit.specs.Tellings.{addresses}
use Rattle.cool_emit.proofs.AddingParts.{whole_front}
use Rattle.cool_emit.proofs.FeaturesTold.{LiesIn, feature_told, lie_within, own_sizes}
use Rattle.cool_emit.proofs.RowsStanding.{member_all}
use Rattle.cool_emit.proofs.TellingParts.{address_at, length_addresses}
use Rattle.cool_emit.proofs.code_table.Told.add_feature.Goals as goal
use Rattle.lists.proofs.ItemsAt.{there_is}

pub addresses-requires : goal.addresses-requires
addresses-requires c =
    let e = c.args.emission.now in
    let own = lines_of c.in_ok-code.code.lines.items in
    let seen = map shown_of c.in_ok-code.code.spans.items in
    let (x, here) = there_is (features_of e.program.now c.args.c) c.args.feature c.requires.feature in
    let made = c.in_ok-code.ensures.made x here in
    let same = own_sizes e c.args.c c.args.feature x c.feature_code.new.consts own seen (made.lines c.feature_code.new.consts (extends_same c.feature_code.new.consts)) made.spans in
    let room = c.requires.room x here in
    let below : c.args.self.now.address + sizes own < 2 ^ 32 = omega arith in
    record { room = subst (λ ls. c.args.self.now.address + sizes (lines_of ls) < 2 ^ 32) (sym c.deref.ensures.value) below }

pub address_at-to-requires : goal.address_at-to-requires
address_at-to-requires c =
    let own = lines_of c.in_ok-code.code.lines.items in
    let all : c.deref-2.result.now ≡ addresses c.args.self.now.address own = c.deref-2.ensures.value ∙ c.in_ok-addresses.ensures ∙ ap (λ ls. addresses c.args.self.now.address (lines_of ls)) c.deref.ensures.value in
    let long : length c.deref-2.result.now ≡ length own + 1 = ap length all ∙ length_addresses c.args.self.now.address own in
    let same : length own ≡ length c.in_ok-code.code.lines.items = length-map c.in_ok-code.code.lines.items line_of in
    let count : c.len.result ≡ length c.in_ok-code.code.lines.items = c.len.ensures ∙ c.in_ok-code.code.lines.ok.0 in
    omega arith

pub add_spans-requires : goal.add_spans-requires
add_spans-requires c =
    let e = c.args.emission.now in
    let own = lines_of c.in_ok-code.code.lines.items in
    let seen = map shown_of c.in_ok-code.code.spans.items in
    let (x, here) = there_is (features_of e.program.now c.args.c) c.args.feature c.requires.feature in
    let made = c.in_ok-code.ensures.made x here in
    let all : c.deref-4.result.now ≡ addresses c.args.self.now.address own = c.deref-4.ensures.value ∙ c.in_ok-addresses.ensures ∙ ap (λ ls. addresses c.args.self.now.address (lines_of ls)) c.deref.ensures.value in
    let long : length c.deref-4.result.now ≡ length own + 1 = ap length all ∙ length_addresses c.args.self.now.address own in
    let within = lie_within e c.args.c c.args.feature x c.feature_code.new.consts own seen (made.lines c.feature_code.new.consts (extends_same c.feature_code.new.consts)) made.spans in
    let each : AllByRecursion (λ (v : Shown). (v.from < length c.deref-4.result.now) × (v.to < length c.deref-4.result.now)) seen =
    member_all (LiesIn (length own)) (λ (v : Shown). (v.from < length c.deref-4.result.now) × (v.to < length c.deref-4.result.now)) seen within
    (λ v there lies. (let f = lies.0 in omega arith, let t = lies.1 in omega arith)) in
    record { within = subst (λ ss. AllByRecursion (λ (v : Shown). (v.from < length c.deref-4.result.now) × (v.to < length c.deref-4.result.now)) (map shown_of ss)) (sym c.deref-5.ensures.value) each }

pub returns : goal.returns
returns c x here =
    let e = c.args.emission.now in
    let p = e.program.now in
    let a = c.args.self.now.address in
    let own = lines_of c.in_ok-code.code.lines.items in
    let seen = map shown_of c.in_ok-code.code.spans.items in
    let made = c.in_ok-code.ensures.made x here in
    let all : c.in_ok-addresses.addresses.items ≡ addresses a own = c.in_ok-addresses.ensures ∙ ap (λ ls. addresses a (lines_of ls)) c.deref.ensures.value in
    let same : length own ≡ length c.in_ok-code.code.lines.items = length-map c.in_ok-code.code.lines.items line_of in
    let count : c.len.result ≡ length own = c.len.ensures ∙ c.in_ok-code.code.lines.ok.0 ∙ sym same in
    let to : c.address_at-to.result ≡ a + sizes own =
    c.address_at-to.ensures ∙ ap₂ (λ (as' : List ℕ) (n : ℕ). get_or as' n 0) (c.deref-2.ensures.value ∙ all) count
    ∙ address_at a own (length own) (omega arith) ∙ ap (λ (ls : List Line). a + sizes ls) (whole_front own (length own) (omega arith)) in
    feature_told e c.args.c c.args.feature x c.feature_code.new.consts own seen (made.lines c.feature_code.new.consts (extends_same c.feature_code.new.consts)) made.spans c.args.self.now _ c.address_at-to.result to refl
    (c.in_ok-add_spans.ensures.text
    ∙ ap₂ (λ (t u : List ℕ). t ++ u)
    (c.in_ok-extend_from_slice.ensures.items ∙ ap (λ (t : List ℕ). c.args.self.now.text.items ++ t) (c.deref-3.ensures.value ∙ c.in_ok-head.ensures x here))
    (ap₂ (λ as' ss. flat_map (λ v. row_line p (code_row (get_or as' v.from 0) (get_or as' v.to 0) v)) (map shown_of ss)) (c.deref-4.ensures.value ∙ all) c.deref-5.ensures.value))
