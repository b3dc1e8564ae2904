-- If a failed read, a failed write or lack of memory interrupts a session, a prefix of the replies to some of its commands was written.
use Rattle.std.proofs.Common.{◌≡◌, ℕ, ◌+◌, List, [], ◌++◌, sym, ◌∙◌, ap, append_assoc, append-nil, inl, inr}
use Rattle.std.specs.Prelude.{Option, Err}
use Rattle.std.specs.List.{concat}
use Rattle.std.proofs.lemmas.List.Folds.{concat-append}
use Rattle.cool_ports.specs.SinkBytes.{appended, GotPrefix}
use Rattle.cool_ports.proofs.GettingBytes.{appended-appended}
use Rattle.cool_session.specs.declared.ending.Interruption.{Interruption}
use Rattle.cool_session.specs.declared.ending.Interruption.TheVariants.{ReadFault, WriteFault, Memory}
use Rattle.cool_session.specs.Conversations.{Conversed, CutInInput, CutInWork, GotOfPart}
use Rattle.cool_session.specs.Exchanges.{more, Part}

-- a prefix of lines that come after replies is a prefix of all
prefix_after : (before after : Option (List ℕ)) (replies lines : List (List ℕ)) → GotPrefix (appended before (concat replies)) (concat lines) after
    → GotPrefix before (concat (replies ++ lines)) after
prefix_after before after replies lines (rest, got) = (
  rest,
  record {
    front = concat replies ++ got.front;
    cut = concat-append replies lines ∙ ap (λ bytes. concat replies ++ bytes) got.cut ∙ sym (append_assoc (concat replies) got.front rest);
    got = got.got ∙ appended-appended before (concat replies) got.front;
  },
)

-- all replies are a prefix of themselves
whole_prefix : (before after : Option (List ℕ)) (replies : List (List ℕ)) → after ≡ appended before (concat replies)
    → GotPrefix before (concat replies) after
whole_prefix before after replies put = ([], record { front = concat replies; cut = sym (append-nil (concat replies)); got = put })

-- a prefix of the replies of the commands of which all input was taken
pub write_part : (input left : List ℕ) (before after : Option (List ℕ)) → CutInWork input left before after
    → (replies : List (List ℕ)) × Part input replies left × GotPrefix before (concat replies) after
write_part input left before after (replies, lines, u, got) = (
  replies ++ lines,
  record { count = u.count + 1; held = u.later; did = more u.count replies u.held u.rest lines u.later left u.did u.does },
  prefix_after before after replies lines got,
)

-- a prefix of the replies of the commands that were done
read_part : (input left : List ℕ) (before after : Option (List ℕ)) → CutInInput input left before after → GotOfPart input before after
read_part input left before after (replies, u, put) =
    (replies, u.rest, record { count = u.count; held = u.held; did = u.did }, whole_prefix before after replies put)

-- a prefix of the replies of some commands, wherever memory ran out
pub memory_part : (input left : List ℕ) (before after : Option (List ℕ)) → Conversed input (Err Memory) left before after
    → GotOfPart input before after
memory_part input left before after (inl cut) = read_part input left before after cut
memory_part input left before after (inr (inl cut)) =
    let (replies, part, got) = write_part input left before after cut in
    (replies, left, part, got)
memory_part input left before after (inr (inr (replies, u, put))) =
    (replies, u.rest, record { count = u.count; held = u.held; did = u.did }, whole_prefix before after replies put)

-- and whatever cut the session short
pub cut_part : (input : List ℕ) (e : Interruption) (left : List ℕ) (before after : Option (List ℕ)) → Conversed input (Err e) left before after
    → GotOfPart input before after
cut_part input ReadFault left before after cut = read_part input left before after cut
cut_part input WriteFault left before after cut =
    let (replies, part, got) = write_part input left before after cut in
    (replies, left, part, got)
cut_part input Memory left before after cut = memory_part input left before after cut
