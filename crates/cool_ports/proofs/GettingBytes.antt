-- After several writes, a sink (output stream) holds its earlier bytes, followed by the bytes of these writes in order.
use Rattle.std.proofs.Common.{◌≡◌, ℕ, List, [], ◌∷◌, ◌++◌, refl, sym, ◌∙◌, ap, append_assoc, append-nil}
use Rattle.std.specs.Prelude.{Option, Some, None}
use Rattle.std.specs.List.{concat}
use Rattle.std.proofs.lemmas.List.Folds.{concat-append}
use Rattle.cool_ports.specs.SinkBytes.{appended, GotUpTo, GotPrefix}

-- no bytes change nothing
pub appended-nil : (held : Option (List ℕ)) → appended held [] ≡ held
unfolding appended
appended-nil None = refl
appended-nil (Some held) = ap Some (append-nil held)

-- some bytes and then more are all of them at once
pub appended-appended : (held : Option (List ℕ)) (a b : List ℕ) → appended (appended held a) b ≡ appended held (a ++ b)
unfolding appended
appended-appended None a b = refl
appended-appended (Some held) a b = ap Some (append_assoc held a b)

-- one more text is its bytes more
pub taken_more : (texts : List (List ℕ)) (text : List ℕ) → Some (concat (texts ++ text ∷ [])) ≡ appended (Some (concat texts)) text
unfolding appended
taken_more texts text = ap Some (concat-append texts (text ∷ []) ∙ ap (λ bytes. concat texts ++ bytes) (append-nil text))

-- at the start all bytes are still to come
pub got_none : (held : Option (List ℕ)) (bytes : List ℕ) → GotUpTo held bytes bytes held
got_none held bytes = record { front = []; cut = refl; got = sym (appended-nil held) }

-- a piece that was put is no longer to come
pub got_more : (before mid after : Option (List ℕ)) (bytes rest piece later : List ℕ) → GotUpTo before bytes rest mid → piece ++ later ≡ rest → after ≡ appended mid piece → GotUpTo before bytes later after
got_more before mid after bytes rest piece later h s e = record {
  front = h.front ++ piece;
  cut = h.cut ∙ ap (λ xs. h.front ++ xs) (sym s) ∙ sym (append_assoc h.front piece later);
  got = e ∙ ap (λ held. appended held piece) h.got ∙ appended-appended before h.front piece;
}

-- a prefix of a piece, after the pieces before it, is a prefix of all
pub got_prefix : (before mid after : Option (List ℕ)) (bytes rest piece later : List ℕ) → GotUpTo before bytes rest mid → piece ++ later ≡ rest → GotPrefix mid piece after → GotPrefix before bytes after
got_prefix before mid after bytes rest piece later h s (more, p) = (
  more ++ later,
  record {
    front = h.front ++ p.front;
    cut = h.cut ∙ ap (λ xs. h.front ++ xs) (sym s) ∙ ap (λ xs. h.front ++ (xs ++ later)) p.cut ∙ ap (λ xs. h.front ++ xs) (append_assoc p.front more later) ∙ sym (append_assoc h.front p.front (more ++ later));
    got = p.got ∙ ap (λ held. appended held p.front) h.got ∙ appended-appended before h.front p.front;
  },
)

-- the bytes that came so far are a prefix
pub got_so_far : (before after : Option (List ℕ)) (bytes rest : List ℕ) → GotUpTo before bytes rest after → GotPrefix before bytes after
got_so_far before after bytes rest h = (rest, h)
