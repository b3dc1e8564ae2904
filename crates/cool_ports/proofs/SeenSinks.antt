-- The state of a sink (output stream) that contracts see, its bytes and its writes, is after two lists of writes the same as after both lists joined.
use Rattle.std.proofs.Common.{◌≡◌, ℕ, List, [], ◌∷◌, ◌++◌, refl, sym, ◌∙◌, ap, append_assoc, append-nil}
use Rattle.std.specs.Prelude.{Option}
use Rattle.std.specs.List.{concat}
use Rattle.std.proofs.lemmas.List.Folds.{concat-append}
use Rattle.cool_ports.specs.SinkBytes.{appended, GotPrefix}
use Rattle.cool_ports.specs.SinkPuts.{SinkSeen, seen, after_puts, PutSome}
use Rattle.cool_ports.proofs.GettingBytes.{appended-nil, appended-appended}

-- two sinks of which the same is known
pub seen_is : (a b : SinkSeen) → a.held ≡ b.held → a.puts ≡ b.puts → a ≡ b
seen_is a b held puts = parts a.held b.held a.puts b.puts held puts
  where
    parts : (h h' : Option (List ℕ)) (p p' : List (List ℕ)) → h ≡ h' → p ≡ p' → seen h p ≡ seen h' p'
    parts h h' p p' x y = rw (x, y) refl

-- no texts change nothing
pub after-nil : (sink : SinkSeen) → after_puts sink [] ≡ sink
after-nil sink = seen_is (after_puts sink []) sink (appended-nil sink.held) (append-nil sink.puts)

-- some texts and then more are all of them
pub after-append : (sink : SinkSeen) (texts more : List (List ℕ)) → after_puts (after_puts sink texts) more ≡ after_puts sink (texts ++ more)
after-append sink texts more =
    seen_is (after_puts (after_puts sink texts) more) (after_puts sink (texts ++ more))
    (appended-appended sink.held (concat texts) (concat more) ∙ ap (appended sink.held) (sym (concat-append texts more)))
    (append_assoc sink.puts texts more)

-- A sink of which `before` was known was given the texts in front of `rest`, and `after` is known.
pub record SeenUpTo (before : SinkSeen) (texts rest : List (List ℕ)) (after : SinkSeen) : Type 0 where
  pub front : List (List ℕ)
  pub cut : texts ≡ front ++ rest
  pub is : after ≡ after_puts before front

pub seen_none : (sink : SinkSeen) (texts : List (List ℕ)) → SeenUpTo sink texts texts sink
seen_none sink texts = record { front = []; cut = refl; is = sym (after-nil sink) }

-- one more text was put
pub seen_more : (before middle after : SinkSeen) (texts rest : List (List ℕ)) (text : List ℕ) → SeenUpTo before texts (text ∷ rest) middle → after ≡ after_puts middle (text ∷ [])
    → SeenUpTo before texts rest after
seen_more before middle after texts rest text h is = record {
  front = h.front ++ text ∷ [];
  cut = h.cut ∙ sym (append_assoc h.front (text ∷ []) rest);
  is = is ∙ ap (λ sink. after_puts sink (text ∷ [])) h.is ∙ after-append before h.front (text ∷ []);
}

-- if none is left, all were put
pub seen_all : (before after : SinkSeen) (texts : List (List ℕ)) → SeenUpTo before texts [] after → after ≡ after_puts before texts
seen_all before after texts h = h.is ∙ ap (after_puts before) (sym (append-nil h.front) ∙ sym h.cut)

-- texts that were put whole, and some of those behind them, are some of all
pub some_after : (before after : SinkSeen) (texts more : List (List ℕ)) → PutSome (after_puts before texts) more after → PutSome before (texts ++ more) after
some_after before after texts more h =
    let bytes = h.bytes.1 in
    let puts = h.puts.1 in
    record {
      bytes = (
        h.bytes.0,
        record {
          front = concat texts ++ bytes.front;
          cut = concat-append texts more ∙ ap (λ bs. concat texts ++ bs) bytes.cut ∙ sym (append_assoc (concat texts) bytes.front h.bytes.0);
          got = bytes.got ∙ appended-appended before.held (concat texts) bytes.front;
        },
      );
      puts = (
        h.puts.0,
        record {
          front = texts ++ puts.front;
          cut = ap (λ ts. texts ++ ts) puts.cut ∙ sym (append_assoc texts puts.front h.puts.0);
          put = puts.put ∙ append_assoc before.puts texts puts.front;
        },
      );
    }

-- some of a few texts are some of more
pub some_before : (before after : SinkSeen) (texts more : List (List ℕ)) → PutSome before texts after → PutSome before (texts ++ more) after
some_before before after texts more h =
    let bytes = h.bytes.1 in
    let puts = h.puts.1 in
    record {
      bytes = (
        h.bytes.0 ++ concat more,
        record {
          front = bytes.front;
          cut = concat-append texts more ∙ ap (λ bs. bs ++ concat more) bytes.cut ∙ append_assoc bytes.front h.bytes.0 (concat more);
          got = bytes.got;
        },
      );
      puts = (
        h.puts.0 ++ more,
        record { front = puts.front; cut = ap (λ ts. ts ++ more) puts.cut ∙ append_assoc puts.front h.puts.0 more; put = puts.put },
      );
    }

-- the texts that came so far are some of all
pub some_so_far : (before after : SinkSeen) (texts rest : List (List ℕ)) → SeenUpTo before texts rest after → PutSome before texts after
some_so_far before after texts rest h = record {
  bytes = (
    concat rest,
    record { front = concat h.front; cut = ap concat h.cut ∙ concat-append h.front rest; got = ap (λ sink. sink.held) h.is },
  );
  puts = (rest, record { front = h.front; cut = h.cut; put = ap (λ sink. sink.puts) h.is });
}

-- all texts are some of them
pub some_all : (before after : SinkSeen) (texts : List (List ℕ)) → after ≡ after_puts before texts → PutSome before texts after
some_all before after texts is = some_so_far before after texts [] (record { front = texts; cut = sym (append-nil texts); is = is })

-- the text that comes next was put in part, or not
pub some_next : (before middle after : SinkSeen) (texts rest : List (List ℕ)) (text : List ℕ) → SeenUpTo before texts (text ∷ rest) middle → PutSome middle (text ∷ []) after
    → PutSome before texts after
some_next before middle after texts rest text h next =
    let here : PutSome before (h.front ++ text ∷ []) after = some_after before after h.front (text ∷ []) (rw h.is at next) in
    let more : PutSome before ((h.front ++ text ∷ []) ++ rest) after = some_before before after (h.front ++ text ∷ []) rest here in
    let all : (h.front ++ text ∷ []) ++ rest ≡ texts = append_assoc h.front (text ∷ []) rest ∙ sym h.cut in
    rw all at more

-- a put that went well, and one that failed
pub put_one : (held held' : Option (List ℕ)) (puts puts' : List (List ℕ)) (text : List ℕ) → held' ≡ appended held text → puts' ≡ puts ++ text ∷ []
    → seen held' puts' ≡ after_puts (seen held puts) (text ∷ [])
put_one held held' puts puts' text bytes put =
    seen_is (seen held' puts') (after_puts (seen held puts) (text ∷ [])) (bytes ∙ ap (appended held) (sym (append-nil text))) put

pub failed_one : (held held' : Option (List ℕ)) (puts puts' : List (List ℕ)) (text : List ℕ) → GotPrefix held text held' → puts' ≡ puts ++ text ∷ []
    → PutSome (seen held puts) (text ∷ []) (seen held' puts')
failed_one held held' puts puts' text (rest, got) put = record {
  bytes = (rest, record { front = got.front; cut = append-nil text ∙ got.cut; got = got.got });
  puts = ([], record { front = text ∷ []; cut = refl; put = put });
}
