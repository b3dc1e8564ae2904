-- If a source (input stream) gives bytes in two parts, one after the other, it gives in all the bytes of the first part and then those of the second.
use Rattle.std.proofs.Common.{◌≡◌, ℕ, ◌+◌, ◌<◌, ◌≤◌, Bool, true, false, List, [], ◌∷◌, ◌++◌, refl, sym, ◌∙◌, ap, append_assoc, append-nil, arith}
use Rattle.std.specs.Prelude.{Option, Some, None}
use Rattle.std.proofs.lemmas.List.{append_cancel_left}
use Rattle.cool_ports.specs.Answers.{Past, after_answer, Leaves}
use Rattle.cool_ports.specs.SourceBytes.{IsAtEnd, put_back}
use Rattle.cool_ports.specs.Taking.{with_front, EndsOnce, Took}
use Rattle.cool_ports.proofs.GivingBytes.{front-nil, front-append, put_back-front}

-- the source was not asked
ends_none : (was : Bool) (n : ℕ) (left : Option (List ℕ)) → EndsOnce was was [] n n left
ends_none true n left = (refl, refl, refl)
ends_none false n left = refl

pub took_nothing : (was : Bool) (past : Past) (left : Option (List ℕ)) → Took was was past past left left
took_nothing was past left = record { front = []; given = sym (append-nil past.given); told = sym (front-nil left); ends = ends_none was past.ends left }

-- one part after another
ends_both : (was mid is : Bool) (a b : List ℕ) (m n k : ℕ) (left left' : Option (List ℕ)) → left ≡ with_front b left' → EndsOnce was mid a m n left → EndsOnce mid is b n k left' → EndsOnce was is (a ++ b) m k left'
ends_both true true is a b m n k left left' told (i, none, same) (i', none', same') = (i', rw (none, none') refl, same' ∙ same)
ends_both true false is a b m n k left left' told (i, none, same) e = absurd cc
ends_both false true true a b m n k left left' told (more, end) (i', none', same') =
    let here : left ≡ left' = told ∙ ap (λ front. with_front front left') none' ∙ front-nil left' in
    (same' ∙ more, rw here at end)
ends_both false true false a b m n k left left' told (more, end) (i', none', same') = absurd cc
ends_both false false true a b m n k left left' told same (more, end) = (more ∙ ap (λ n. n + 1) same, end)
ends_both false false false a b m n k left left' told same same' = same' ∙ same

pub took_both : (was mid is : Bool) (p q r : Past) (left middle left' : Option (List ℕ)) → Took was mid p q left middle → Took mid is q r middle left' → Took was is p r left left'
took_both was mid is p q r left middle left' s t = record {
  front = s.front ++ t.front;
  given = t.given ∙ ap (λ given. given ++ t.front) s.given ∙ append_assoc p.given s.front t.front;
  told = s.told ∙ ap (with_front s.front) t.told ∙ front-append s.front t.front left';
  ends = ends_both was mid is s.front t.front p.ends q.ends r.ends middle left' t.told s.ends t.ends;
}

-- a count of ends does not fall
ends_grow : (was is : Bool) (front : List ℕ) (m n : ℕ) (left : Option (List ℕ)) → EndsOnce was is front m n left → m ≤ n
ends_grow true is front m n left (i, none, same) = omega (arith, same)
ends_grow false true front m n left (more, end) = omega (arith, more)
ends_grow false false front m n left same = omega (arith, same)

-- if the end was answered in the first part, the second one took nothing
nothing_later : (was mid is : Bool) (a b : List ℕ) (m n k : ℕ) (left left' : Option (List ℕ)) → EndsOnce was mid a m n left → EndsOnce mid is b n k left' → m < n → b ≡ []
nothing_later true mid is a b m n k left left' (i, none, same) e more = absurd (omega (arith, same, more))
nothing_later false true is a b m n k left left' first (i', none', same') more = none'
nothing_later false false is a b m n k left left' same e more = absurd (omega (arith, same, more))

-- An input over two parts is one over the first, of which is left one over the second.
pub record InTwo (p q r : Past) (input rest : List ℕ) : Type 0 where
  pub middle : List ℕ
  pub before : Leaves p q input middle
  pub later : Leaves q r middle rest

pub in_two : (was mid is : Bool) (p q r : Past) (left middle left' : Option (List ℕ)) (input rest : List ℕ) → Took was mid p q left middle → Took mid is q r middle left' → Leaves p r input rest → InTwo p q r input rest
in_two was mid is p q r left middle left' input rest s t l =
    let part : r.given ++ rest ≡ q.given ++ (t.front ++ rest) = ap (λ given. given ++ rest) t.given ∙ append_assoc q.given t.front rest in
    let grows = ends_grow was mid s.front p.ends q.ends middle s.ends in
    let grows' = ends_grow mid is t.front q.ends r.ends left' t.ends in
    record {
      middle = t.front ++ rest;
      before = record {
        cut = l.cut ∙ part;
        all = λ more. rw (nothing_later was mid is s.front t.front p.ends q.ends r.ends middle left' s.ends t.ends more) (l.all (omega (arith, more, grows')));
      };
      later = record { cut = sym part; all = λ more. l.all (omega (arith, more, grows)) };
    }

-- the bytes given are such an input, of which nothing is left
pub leaves_none : (was is : Bool) (p q : Past) (left left' : Option (List ℕ)) → (t : Took was is p q left left') → Leaves p q t.front []
leaves_none was is p q left left' t = record { cut = sym t.given ∙ sym (append-nil q.given); all = λ more. refl }

-- if the source was not asked, the input is left
pub leaves_same : (p : Past) (input rest : List ℕ) → Leaves p p input rest → rest ≡ input
leaves_same p input rest l = sym (append_cancel_left p.given input rest l.cut)

-- the input that a source tells is such an input
told_front : (front : List ℕ) (left : Option (List ℕ)) (input : List ℕ) → Some input ≡ with_front front left → (rest : List ℕ) × (left ≡ Some rest) × (input ≡ front ++ rest)
told_front front None input is = cc
told_front front (Some rest) input is = (rest, refl, cc)

at_end_is : (left : Option (List ℕ)) (rest : List ℕ) → left ≡ Some rest → IsAtEnd left → rest ≡ []
at_end_is None rest is end = cc
at_end_is (Some left) rest is end = cc

ends_told : (was is : Bool) (front : List ℕ) (m n : ℕ) (left : Option (List ℕ)) (rest : List ℕ) → EndsOnce was is front m n left → left ≡ Some rest → m < n → rest ≡ []
ends_told true is front m n left rest (i, none, same) told more = absurd (omega (arith, same, more))
ends_told false true front m n left rest (step, end) told more = at_end_is left rest told end
ends_told false false front m n left rest same told more = absurd (omega (arith, same, more))

pub leaves_told : (was is : Bool) (p q : Past) (input : List ℕ) (left' : Option (List ℕ)) → Took was is p q (Some input) left' → (rest : List ℕ) × (left' ≡ Some rest) × Leaves p q input rest
leaves_told was is p q input left' t =
    let cut = told_front t.front left' input t.told in (
      cut.0,
      cut.1,
      record {
        cut = ap (λ input. p.given ++ input) cut.2 ∙ sym (append_assoc p.given t.front cut.0) ∙ ap (λ given. given ++ cut.0) (sym t.given);
        all = λ more. ends_told was is t.front p.ends q.ends left' cut.0 t.ends cut.1 more;
      },
    )

-- one more byte was given
pub took_byte : (p q r : Past) (left middle left' : Option (List ℕ)) (byte : ℕ) → Took false false p q left middle → r ≡ after_answer q (Some byte) → middle ≡ put_back byte left' → Took false false p r left left'
took_byte p q r left middle left' byte t is told =
    rw is (record {
      front = t.front ++ byte ∷ [];
      given = ap (λ given. given ++ byte ∷ []) t.given ∙ append_assoc p.given t.front (byte ∷ []);
      told = t.told ∙ ap (with_front t.front) (told ∙ put_back-front byte left') ∙ front-append t.front (byte ∷ []) left';
      ends = t.ends;
    })

pub leaves_byte : (p q r : Past) (left middle : Option (List ℕ)) (byte : ℕ) (input rest : List ℕ) → Took false false p q left middle → r ≡ after_answer q (Some byte) → Leaves p r input rest → Leaves p q input (byte ∷ rest)
leaves_byte p q r left middle byte input rest t is l =
    let here = rw is at l in
    record { cut = here.cut ∙ append_assoc q.given (byte ∷ []) rest; all = λ more. absurd (omega (arith, t.ends, more)) }

-- the end was answered
pub took_answer : (p q r : Past) (left middle left' : Option (List ℕ)) → Took false false p q left middle → r ≡ after_answer q None → IsAtEnd middle × (left' ≡ middle) → Took false true p r left left'
took_answer p q r left middle left' t is (end, same) =
    rw (is, same) (record { front = t.front; given = t.given; told = t.told; ends = (ap (λ n. n + 1) t.ends, end) })

pub leaves_end : (p q r : Past) (left middle : Option (List ℕ)) (input rest : List ℕ) → Took false false p q left middle → r ≡ after_answer q None → Leaves p r input rest → Leaves p q input rest × (rest ≡ [])
leaves_end p q r left middle input rest t is l =
    let here = rw is at l in
    let none = here.all (omega (arith, t.ends)) in
    (record { cut = here.cut; all = λ more. none }, none)
