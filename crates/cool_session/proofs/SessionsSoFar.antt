-- After the first commands of a session, the replies to these commands were written, and the next command continues, ends or interrupts the session.
use Rattle.std.proofs.Common.{◌≡◌, ℕ, zero, suc, ◌+◌, ◌<◌, ◌≤◌, ◌^◌, List, [], ◌++◌, refl, sym, ◌∙◌, ap, arith, subst, ◌⊎◌, inl, inr}
use Rattle.std.specs.Prelude.{◌≢◌, Some, None, Result, Ok, Err}
use Rattle.std.specs.List.{concat}
use Rattle.cool_ports.specs.SinkBytes.{appended}
use Rattle.cool_ports.specs.SinkPuts.{SinkSeen, after_puts, PutSome}
use Rattle.cool_ports.proofs.SeenSinks.{after-nil, after-append}
use Rattle.cool_session.specs.declared.ending.Ending.{Ending}
use Rattle.cool_session.specs.declared.ending.Ending.TheVariants.{Over, BadCommand}
use Rattle.cool_session.specs.declared.ending.Interruption.{Interruption}
use Rattle.cool_session.specs.declared.ending.Interruption.TheVariants.{ReadFault, WriteFault, Memory}
use Rattle.cool_session.specs.declared.input.TakenLine.{TakenLine}
use Rattle.cool_session.specs.declared.input.TakenLine.TheVariants.{TooLong, Unended}
use Rattle.cool_session.specs.Conversations.{Conversed, LinesPut}
use Rattle.cool_session.specs.Exchanges.{Line, NoLine, head, Does, EndsAt, over, no_line, Begins, a_line, Did, none, more, Exchange, Unread, Unwritten, Undone}
use Rattle.cool_session.specs.Held.{Held, nothing_held}
use Rattle.cool_session.specs.Obeying.{TookLine, Obeyed}

-- So many commands were done, and their replies put to a sink of which `first` was known.
pub record SoFar (input : List ℕ) (n : ℕ) (h : Held) (left : List ℕ) (first now : SinkSeen) : Type 0 where
  pub replies : List (List ℕ)
  pub did : Did input n replies h left
  pub put : now ≡ after_puts first replies

pub begun : (input : List ℕ) (first : SinkSeen) → SoFar input 0 nothing_held input first first
begun input first = record { replies = []; did = none; put = sym (after-nil first) }

-- The course of a session, by the bytes and by the puts that wrote them.
abbrev pub Went : List ℕ → Result Ending Interruption → List ℕ → SinkSeen → SinkSeen → Type 0
Went input result left before after = Conversed input result left before.held after.held × LinesPut input result left before.puts after.puts

module _ (input : List ℕ) (n : ℕ) (h : Held) (middle : List ℕ) (first now : SinkSeen) (s : SoFar input n h middle first now) where
  -- the output so far, by bytes and by puts
  bytes_put : (after : SinkSeen) → after ≡ now → after.held ≡ appended first.held (concat s.replies)
  bytes_put after same = ap (λ sink. sink.held) (same ∙ s.put)

  lines_put : (after : SinkSeen) → after ≡ now → after.puts ≡ first.puts ++ s.replies
  lines_put after same = ap (λ sink. sink.puts) (same ∙ s.put)

  -- the session goes on after a command
  pub goes_on : (h' : Held) (left : List ℕ) (after : SinkSeen) → Obeyed (n + 1) h middle (Ok None) h' left now after
      → SoFar input (n + 1) h' left first after
  goes_on h' left after (lines, does, put) = record {
    replies = s.replies ++ lines;
    did = more n s.replies h middle lines h' left s.did does;
    put = put ∙ ap (λ sink. after_puts sink lines) s.put ∙ after-append first s.replies lines;
  }

  -- it ends at the next command
  ends_so : (end : Ending) (left : List ℕ) (after : SinkSeen) → EndsAt (n + 1) h middle end left → after ≡ now → Went input (Ok end) left first after
  ends_so end left after ends same =
      let whole : Exchange input s.replies end left = record { count = n; held = h; rest = middle; did = s.did; ends = ends } in
      ((s.replies, whole, bytes_put after same), (s.replies, whole, lines_put after same))

  pub ends_at_command : (end : Ending) (h' : Held) (left : List ℕ) (after : SinkSeen) → Obeyed (n + 1) h middle (Ok (Some end)) h' left now after
      → Went input (Ok end) left first after
  ends_at_command end h' left after (ends, same) = ends_so end left after ends same

  pub ends_at_nothing : (left : List ℕ) → (middle ≡ []) × (left ≡ []) → Went input (Ok Over) left first now
  ends_at_nothing left (nothing, all) = rw all (ends_so Over [] now (over nothing) refl)

  pub ends_at_no_line : (left : List ℕ) → (middle ≢ []) × (head middle ≡ NoLine left) → Went input (Ok (BadCommand (n + 1))) left first now
  ends_at_no_line left (some, long) = ends_so (BadCommand (n + 1)) left now (no_line left some long) refl

  -- it is cut short: while input is taken, in the work of a command, or after a line was taken
  unread : (left : List ℕ) → Begins h middle left → Unread input s.replies left
  unread left begins = record { count = n; held = h; rest = middle; did = s.did; begins = begins }

  in_input : (left : List ℕ) (after : SinkSeen) → Begins h middle left → after ≡ now → Went input (Err ReadFault) left first after
  in_input left after begins same =
      ((s.replies, unread left begins, bytes_put after same), (s.replies, unread left begins, lines_put after same))

  in_work : (lines : List (List ℕ)) (h' : Held) (left : List ℕ) (after : SinkSeen) → Does h middle lines h' left → PutSome now lines after
      → Went input (Err WriteFault) left first after
  in_work lines h' left after does got =
      let begun : Unwritten input s.replies lines left = record { count = n; held = h; rest = middle; later = h'; did = s.did; does = does } in
      let some : PutSome (after_puts first s.replies) lines after = subst (λ (sink : SinkSeen). PutSome sink lines after) s.put got in
      ((s.replies, lines, begun, some.bytes), (s.replies, lines, begun, some.puts))

  undone : (line left : List ℕ) → head middle ≡ Line line left → Undone input s.replies left
  undone line left taken = record { count = n; held = h; rest = middle; line = line; did = s.did; taken = taken }

  memory_in_input : (left : List ℕ) (after : SinkSeen) → Begins h middle left → after ≡ now → Went input (Err Memory) left first after
  memory_in_input left after begins same = let w = in_input left after begins same in (inl w.0, inl w.1)

  pub cut_at_command : (e : Interruption) (h' : Held) (left : List ℕ) (after : SinkSeen) → Obeyed (n + 1) h middle (Err e) h' left now after
      → Went input (Err e) left first after
  cut_at_command ReadFault h' left after (begins, same) = in_input left after begins same
  cut_at_command WriteFault h' left after (lines, held, does, got) = in_work lines held left after does got
  cut_at_command Memory h' left after (inl (begins, same)) = memory_in_input left after begins same
  cut_at_command Memory h' left after (inr (inl (lines, held, does, got))) =
      let w = in_work lines held left after does got in (inr (inl w.0), inr (inl w.1))
  cut_at_command Memory h' left after (inr (inr (line, taken, same))) =
      (inr (inr (s.replies, undone line left taken, bytes_put after same)), inr (inr (s.replies, undone line left taken, lines_put after same)))

  pub cut_in_line : (e : Interruption) (left : List ℕ) → TookLine (Err e) middle left → Went input (Err e) left first now
  cut_in_line ReadFault left (part, p) = in_input left now (a_line part p.is p.short p.no_newline) refl
  cut_in_line WriteFault left h = absurd h
  cut_in_line Memory left (part, p) = memory_in_input left now (a_line part p.is p.short p.no_newline) refl

-- a line that is too long, or that the end of the input ended
pub no_line_taken : (taken : TakenLine) (middle left : List ℕ) → (taken ≡ TooLong) ⊎ (taken ≡ Unended) → TookLine (Ok taken) middle left
    → (middle ≢ []) × (head middle ≡ NoLine left)
no_line_taken taken middle left (inl is) took = rw is at took
no_line_taken taken middle left (inr is) took = rw is at took

-- numbers of commands fit, as each command spends a byte
pub few_more : (n before mid after : ℕ) → (0 < n → n + before < 2 ^ 64) → before < 2 ^ 64 → mid < before → after ≤ mid → n + 1 + after < 2 ^ 64
few_more zero before mid after few bound less no_more = omega (arith, bound, less, no_more)
few_more (suc n) before mid after few bound less no_more =
    let some : 0 < suc n = omega arith in
    let here : suc n + before < 2 ^ 64 = few some in
    omega (arith, here, less, no_more)
