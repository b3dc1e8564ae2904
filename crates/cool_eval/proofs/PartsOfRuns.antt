-- If a read or a write failed or memory ran out, a prefix of the output of the whole run was written, and at least the input that the whole run leaves is left.
use Rattle.std.proofs.Common.{◌≡◌, ℕ, ◌+◌, ◌-◌, ◌≤◌, List, [], ◌++◌, Option, ap, sym, ◌∙◌, subst, append_assoc, arith}
use Rattle.cool_ports.specs.SinkBytes.{appended, GotPrefix}
use Rattle.cool_classes.specs.Chains.{Class}
use Rattle.cool_rules.specs.TypedTables.{IsTypedTable}
use Rattle.cool_meaning.specs.Laws.{Extends}
use Rattle.cool_meaning.specs.SourceRun.{Run, run}
use Rattle.cool_meaning.proofs.LongerRuns.{longer_extends}
use Rattle.cool_meaning.proofs.SoundRuns.{never_stuck}
use Rattle.cool_eval.specs.Ends.{IsPart, StoppedReading, StoppedWriting, StoppedAtLastLine, StoppedShort, last_line}
use Rattle.cool_ports.proofs.GettingBytes.{appended-appended}

-- all of a front, and a prefix of what comes after it
prefix_after : (first : Option (List ℕ)) (output front more : List ℕ) (held : Option (List ℕ)) → output ≡ front ++ more
    → GotPrefix (appended first front) more held → GotPrefix first output held
prefix_after first output front more held is (rest, h) = (
  rest,
  record {
    front = front ++ h.front;
    cut = is ∙ (ap (λ (xs : List ℕ). front ++ xs) h.cut ∙ sym (append_assoc front h.front rest));
    got = h.got ∙ appended-appended first front h.front;
  },
)

-- a prefix of what a run writes was put, and at least what it leaves is left
part_with : (r : Run) (held : Option (List ℕ)) (rest : List ℕ) (held' : Option (List ℕ)) → GotPrefix held r.output held'
    → (kept : List ℕ) × (rest ≡ kept ++ r.left) → IsPart r held rest held'
part_with r held rest held' (more, h) (kept, is) =
    (h.front, h.got, record { more = more; output_is = h.cut; kept = kept; left_is = is })

module _ (p : List Class) (typed : IsTypedTable p) (names : List (List ℕ)) (input : List ℕ) (steps : ℕ) (held : Option (List ℕ)) (rest : List ℕ) (held' : Option (List ℕ)) where
  -- the whole run extends one with fewer steps
  whole_extends : (n : ℕ) → n ≤ steps → Extends (run p names input n) (run p names input steps)
  whole_extends n less =
      let all : n + (steps - n) ≡ steps = omega arith in
      subst (λ (k : ℕ). Extends (run p names input n) (run p names input k)) all (longer_extends p names input (never_stuck p typed names input) n (steps - n))

  -- a rest that ends with the input left by a run with fewer steps also ends with that left by the whole one
  left_longer : (n : ℕ) (kept : List ℕ) → n ≤ steps → rest ≡ kept ++ (run p names input n).left
      → (more : List ℕ) × (rest ≡ more ++ (run p names input steps).left)
  left_longer n kept less is =
      let x = whole_extends n less in
      (kept ++ x.taken, is ∙ (ap (λ (xs : List ℕ). kept ++ xs) x.left ∙ sym (append_assoc kept x.taken (run p names input steps).left)))

  -- a prefix of what a run with fewer steps writes is one of what the whole run writes
  prefix_whole : (n : ℕ) (front more : List ℕ) → n ≤ steps → (run p names input n).output ≡ front ++ more
      → GotPrefix (appended held front) more held' → GotPrefix held (run p names input steps).output held'
  prefix_whole n front more less is (rest, h) =
      let x = whole_extends n less in
      prefix_after held (run p names input steps).output front (more ++ x.printed) held' (x.output ∙ (ap (λ (xs : List ℕ). xs ++ x.printed) is ∙ append_assoc front more x.printed))
      (rest ++ x.printed, record { front = h.front; cut = ap (λ (xs : List ℕ). xs ++ x.printed) h.cut ∙ append_assoc h.front rest x.printed; got = h.got })

  -- nothing of what comes after a front
  all_put : (n : ℕ) (front more : List ℕ) → n ≤ steps → (run p names input n).output ≡ front ++ more
      → held' ≡ appended held front → GotPrefix held (run p names input steps).output held'
  all_put n front more less is put =
      let x = whole_extends n less in
      (more ++ x.printed, record { front = front; cut = x.output ∙ (ap (λ (xs : List ℕ). xs ++ x.printed) is ∙ append_assoc front more x.printed); got = put })

  -- a read failed
  pub part_of_reading : StoppedReading (run p names input) steps held rest held'
      → IsPart (run p names input steps) held rest held'
  part_of_reading h =
      let x = whole_extends h.spent (omega (arith, h.fewer)) in
      part_with (run p names input steps) held rest held'
      (x.printed, record { front = (run p names input h.spent).output; cut = x.output; got = h.put })
      (left_longer (h.spent + 1) h.input.kept (omega (arith, h.fewer)) h.input.later)

  -- a write of a call failed
  pub part_of_writing : StoppedWriting (run p names input) steps held rest held'
      → IsPart (run p names input steps) held rest held'
  part_of_writing h =
      part_with (run p names input steps) held rest held'
      (prefix_whole (h.spent + 1) (run p names input h.spent).output h.printed (omega (arith, h.writes.fewer)) h.writes.later h.got)
      (left_longer h.spent [] (omega (arith, h.writes.fewer)) h.left)

  -- a write of the last line failed
  pub part_of_last_line : StoppedAtLastLine p names (run p names input steps) held rest held'
      → IsPart (run p names input steps) held rest held'
  part_of_last_line h =
      part_with (run p names input steps) held rest held'
      (prefix_after held (run p names input steps).output h.before (last_line p names (run p names input steps).end) held' h.ends.output_is h.got)
      ([], h.left)

  -- memory ran out
  pub part_of_short : StoppedShort p names (run p names input) steps held rest held'
      → IsPart (run p names input steps) held rest held'
  part_of_short h =
      part_with (run p names input steps) held rest held'
      (all_put h.spent h.before (last_line p names (run p names input h.spent).end) h.within h.output h.put)
      (h.input.kept, h.input.later)
