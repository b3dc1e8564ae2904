-- `Consts::string` returns the number of a string constant, and adds the string to the set if it is new. The set holds vectors, and the proof passes from these
-- to the lists of their bytes.
use Rattle.std.proofs.Common.{ap, ◌∙◌}
use Rattle.cool_consts.specs.Constants.{Constants, with_string, string_number}
use Rattle.cool_consts.proofs.StringKeys.{bytes_of, number_shown, used_shown}
use Rattle.cool_consts.proofs.consts.Consts.string.Goals as goal

pub returns-clause-number : goal.returns-clause-number
returns-clause-number c =
    let keys = c.self.inside.strings.keys in
    let copy = c.in_ok-copy.ensures.items in
    c.in_ok-index.ensures.index ∙ number_shown c.in_ok-copy.copy.items keys ∙ ap (string_number (bytes_of keys)) copy ∙ ap (λ (s : Constants). string_number s.strings c.args.bytes.now) c.self.view_is

pub returns-clause-strings : goal.returns-clause-strings
returns-clause-strings c =
    let keys = c.self.inside.strings.keys in
    let copy = c.in_ok-copy.ensures.items in
    ap bytes_of c.in_ok-index.ensures.keys ∙ used_shown c.in_ok-copy.copy keys ∙ ap (with_string (bytes_of keys)) copy ∙ ap (λ (s : Constants). with_string s.strings c.args.bytes.now) c.self.view_is
