-- `push_method` appends the text of a method of the generated program, in four parts one after another.
use Rattle.std.proofs.Common.{◌≡◌, ℕ, ◌+◌, List, ◌++◌, codes, if◌then◌else◌, Result, Ok, Err, OnOk, ap, ◌∙◌, append_assoc}
use Rattle.std.specs.Result.{is_ok}
use Rattle.cool_big.specs.BigPrograms.{numbered}
use Rattle.cool_big.proofs.line.push_method.Goals as goal

-- the text there, if all could be added
added : {A E : Type 0} (r : Result A E) (old more new all : List ℕ)
    → new ≡ (if is_ok r then old ++ more else old) → old ++ more ≡ all → OnOk r (new ≡ all)
added (Ok x) old more new all h e = h ∙ e
added (Err x) old more new all h e = tt

-- four parts after a text
four_joined : (text a b c d : List ℕ) → text ++ a ++ b ++ c ++ d ≡ text ++ (a ++ (b ++ (c ++ d)))
four_joined text a b c d = append_assoc (text ++ a ++ b) c d ∙ append_assoc (text ++ a) b (c ++ d) ∙ append_assoc text a (b ++ (c ++ d))

pub returns : goal.returns
returns c =
    let i : ℕ = c.args.number in
    let name : List ℕ = numbered (codes "  m") i in
    let object : List ℕ = numbered (codes "() : Object { out_int((new K") i in
    let argument : List ℕ = numbered (codes ").g().f(") (1000 + i) in
    let rest : List ℕ = codes ")).out_string(\"\\n\") };\n" in
    let two = c.in_ok-push_numbered-2.ensures ∙ ap (λ (l : List ℕ). l ++ object) c.in_ok-push_numbered.ensures in
    let three = c.in_ok-push_numbered-3.ensures ∙ ap (λ (l : List ℕ). l ++ argument) two in
    let before : List ℕ = c.push_numbered-3.new.text.items in
    added c.extend_from_slice.result before rest c.extend_from_slice.new.self.items _ c.extend_from_slice.ensures.items
    (ap (λ (l : List ℕ). l ++ rest) three ∙ four_joined c.args.text.now.items name object argument rest)
