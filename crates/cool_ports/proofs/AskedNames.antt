-- The names of the files that a shelf (file system) is asked for, one after another, are a prefix of the list of names to read.
use Rattle.std.proofs.Common.{◌≡◌, ℕ, List, [], ◌∷◌, ◌++◌, refl, sym, ◌∙◌, ap, append_assoc, append-nil}
use Rattle.cool_ports.specs.ShelfFiles.{AskedFront}

-- none, all, and the first
pub asked_none : (names before : List (List ℕ)) → AskedFront names before before
asked_none names before = record { front = []; rest = names; stands = refl; asked = sym (append-nil before) }

pub asked_whole : (names before after : List (List ℕ)) → after ≡ before ++ names → AskedFront names before after
asked_whole names before after is = record { front = names; rest = []; stands = sym (append-nil names); asked = is }

pub asked_first : (name : List ℕ) (names before after : List (List ℕ)) → after ≡ before ++ name ∷ [] → AskedFront (name ∷ names) before after
asked_first name names before after first = record { front = name ∷ []; rest = names; stands = refl; asked = first }

-- the first, and then some of the others
pub asked_then : (name : List ℕ) (names before middle after : List (List ℕ)) → middle ≡ before ++ name ∷ [] → AskedFront names middle after → AskedFront (name ∷ names) before after
asked_then name names before middle after first h = record {
  front = name ∷ h.front;
  rest = h.rest;
  stands = ap (λ (ns : List (List ℕ)). name ∷ ns) h.stands;
  asked = h.asked ∙ ap (λ (ns : List (List ℕ)). ns ++ h.front) first ∙ append_assoc before (name ∷ []) h.front;
}
