-- If the bytes that `read_string` takes from the input are stored one after another, the memory is the one that the definition gives for the whole buffer.
use Rattle.std.proofs.Common.{◌≡◌, ℕ, zero, suc, ◌+◌, ◌-◌, ◌<◌, ◌≤◌, Bool, true, false, List, [], ◌∷◌, ◌++◌, length, length-append, refl, sym, ◌∙◌, ap, subst, append-nil, arith}
use Rattle.std.specs.Prelude.{Option, Some, None, Ok, Err, ◌==◌}
use Rattle.std.proofs.lemmas.Bool.{and_parts}
use Rattle.cool_ports.specs.declared.Failed.{Failed}
use Rattle.mips_isa.specs.Bytes.{Bytes, Segments, set_byte, writable}
use Rattle.mips_isa.specs.Machine.{Core}
use Rattle.mips_isa.specs.Calls.{asked, all_writable, set_bytes}
use Rattle.cool_ports.specs.Taking.{GaveByte}
use Rattle.spim_machine.specs.Input.{TookAll, TookSome}
use Rattle.spim_machine.proofs.TakingBytes.{TakingOn, asks_more, taking_none, taking_more, taking_all, taking_some, taking_byte, took_newline, took_end, took_some, took_none}

-- if so many bytes may be stored, each of them may be
may_store_first : (s : Segments) (a n k : ℕ) → all_writable s a n ≡ true → k < n → writable s (a + k) 1 ≡ true
may_store_first s a zero k all within = absurd (omega arith)
may_store_first s a (suc n) zero all within =
    let here : a + 0 ≡ a = omega arith in
    rw here ((and_parts (writable s a 1) (all_writable s (a + 1) n) all).0)
may_store_first s a (suc n) (suc k) all within =
    let next : a + suc k ≡ a + 1 + k = omega arith in
    rw next (may_store_first s (a + 1) n k ((and_parts (writable s a 1) (all_writable s (a + 1) n) all).1) (omega (arith, within)))

-- the same by the byte's address
pub may_store_at : (s : Segments) (a n q : ℕ) → all_writable s a n ≡ true → a ≤ q → q < a + n → writable s q 1 ≡ true
may_store_at s a n q all from below =
    let here : a + (q - a) ≡ q = omega (arith, from) in
    ap (λ x. writable s x 1) (sym here) ∙ may_store_first s a n (q - a) all (omega (arith, from, below))

-- if so many bytes may be stored, one byte less may be
pub may_store_fewer : (s : Segments) (a n : ℕ) → all_writable s a (n + 1) ≡ true → all_writable s a n ≡ true
may_store_fewer s a zero all = refl
may_store_fewer s a (suc n) all =
    let next : suc n + 1 ≡ suc (n + 1) = omega arith in
    let parts = and_parts (writable s a 1) (all_writable s (a + 1) (n + 1)) (rw next at all) in
    rw (parts.0, may_store_fewer s (a + 1) n parts.1) refl

-- one more byte after the others
pub set_bytes-append : (m : Bytes) (a : ℕ) (said : List ℕ) (byte : ℕ)
    → set_bytes m a (said ++ byte ∷ []) ≡ set_byte (set_bytes m a said) (a + length said) byte
set_bytes-append m a [] byte =
    let here : a ≡ a + 0 = omega arith in
    ap (λ q. set_byte m q byte) here
set_bytes-append m a (x ∷ said) byte =
    let next : a + 1 + length said ≡ a + length (x ∷ said) = omega arith in
    set_bytes-append (set_byte m a x) (a + 1) said byte ∙ ap (λ q. set_byte (set_bytes (set_byte m a x) (a + 1) said) q byte) next

-- a core with these bytes at an address
abbrev pub with_bytes : Core → ℕ → List ℕ → Core
with_bytes core a got = record core { memory = set_bytes core.memory a got }

-- a core with this byte at an address
abbrev pub with_byte : Core → ℕ → ℕ → Core
with_byte core a byte = record core { memory = set_byte core.memory a byte }

-- bytes and then one more
pub with_bytes-append : (old now new : Core) (a end : ℕ) (said : List ℕ) (byte : ℕ) → now ≡ with_bytes old a said
    → end ≡ a + length said → new ≡ with_byte now end byte → new ≡ with_bytes old a (said ++ byte ∷ [])
with_bytes-append old now new a end said byte is at next =
    next ∙ ap (λ core. with_byte core end byte) is ∙ ap (λ q. with_byte (with_bytes old a said) q byte) at ∙ ap (λ m. record old { memory = m }) (sym (set_bytes-append old.memory a said byte))

-- A source gave bytes, which were stored from an address on, up to `end`, as the front of what a call for so many bytes takes.
pub record StoredUpTo (was : Bool) (most : ℕ) (before after : Option (List ℕ)) (old now : Core) (address end : ℕ) : Type 0 where
  pub said : List ℕ
  pub rest : ℕ
  pub count : length said + rest ≡ most
  pub behind : end ≡ address + length said
  pub taking : TakingOn (asked was most) (asked was rest) before after said
  pub core : now ≡ with_bytes old address said

-- at the start none was stored
pub stored_none : (was : Bool) (most : ℕ) (left : Option (List ℕ)) (core : Core) (address : ℕ)
    → StoredUpTo was most left left core core address address
stored_none was most left core address = record { said = []; rest = most; count = omega arith; behind = omega arith; taking = taking_none _ left; core = refl }

-- a call that has more to come has one byte to come, and then the others
rest_taking : (was : Bool) (most rest : ℕ) (before mid : Option (List ℕ)) (said : List ℕ) → 0 < rest
    → TakingOn (asked was most) (asked was rest) before mid said
    → (n : ℕ) × (rest ≡ suc n) × TakingOn (asked was most) (asked was (suc n)) before mid said
rest_taking was most zero before mid said some taking = absurd (omega arith)
rest_taking was most (suc n) before mid said some taking = (n, refl, taking)

-- a byte came and was stored, and the call goes on
pub stored_byte : (was ended : Bool) (most : ℕ) (before mid after : Option (List ℕ)) (old now new : Core) (address end byte : ℕ)
    → StoredUpTo was most before mid old now address end → end < address + most → GaveByte was mid (Ok (Some byte)) ended after
    → (byte == 10) ≡ false → new ≡ with_byte now end byte → StoredUpTo was most before after old new address (end + 1)
stored_byte was ended most before mid after old now new address end byte s within gave other next =
    let t = rest_taking was most s.rest before mid s.said (omega (arith, s.count, s.behind, within)) s.taking in
    record {
      said = s.said ++ byte ∷ [];
      rest = t.0;
      count = simp length-append (omega (arith, s.count, t.1));
      behind = simp length-append (omega (arith, s.behind));
      taking = taking_more _ _ _ before mid after s.said (byte ∷ []) t.2 (taking_byte _ _ (asks_more t.0) mid after was ended byte gave other);
      core = with_bytes-append old now new address end s.said byte s.core s.behind next;
    }

-- A call took all of so many bytes, and they were stored.
abbrev pub StoredAll : Bool → ℕ → Option (List ℕ) → Bool → Option (List ℕ) → Core → Core → ℕ → ℕ → Type 0
StoredAll was most before ended after old new address end =
    (got : List ℕ) × TookAll (asked was most) got before ended after × (end ≡ address + length got) × (length got ≤ most) × (new ≡ with_bytes old address got)

-- a newline ends the call
pub stored_newline : (was ended : Bool) (most : ℕ) (before mid after : Option (List ℕ)) (old now new : Core) (address end byte : ℕ)
    → StoredUpTo was most before mid old now address end → end < address + most → GaveByte was mid (Ok (Some byte)) ended after
    → byte ≡ 10 → new ≡ with_byte now end byte → StoredAll was most before ended after old new address (end + 1)
stored_newline was ended most before mid after old now new address end byte s within gave ten next =
    let t = rest_taking was most s.rest before mid s.said (omega (arith, s.count, s.behind, within)) s.taking in (
      s.said ++ byte ∷ [],
      taking_all _ _ before mid after s.said (byte ∷ []) ended t.2 (took_newline _ _ (asks_more t.0) mid after was ended byte gave ten),
      simp length-append (omega (arith, s.behind)),
      simp length-append (omega (arith, s.count, t.1)),
      with_bytes-append old now new address end s.said byte s.core s.behind next,
    )

-- if the rest of the call takes no byte, the bytes stored are all
stored_so_far : (was ended : Bool) (most : ℕ) (before mid after : Option (List ℕ)) (old now : Core) (address end : ℕ)
    (s : StoredUpTo was most before mid old now address end) → TookAll (asked was s.rest) [] mid ended after
    → StoredAll was most before ended after old now address end
stored_so_far was ended most before mid after old now address end s took = (
  s.said,
  subst (λ got. TookAll (asked was most) got before ended after) (append-nil s.said) (taking_all _ _ before mid after s.said [] ended s.taking took),
  s.behind,
  omega (arith, s.count),
  s.core,
)

-- at the input's end the rest of the call takes no byte
end_of_rest : (was ended : Bool) (rest : ℕ) (mid after : Option (List ℕ)) → 0 < rest → GaveByte was mid (Ok None) ended after
    → TookAll (asked was rest) [] mid ended after
end_of_rest was ended zero mid after some gave = absurd (omega arith)
end_of_rest was ended (suc n) mid after some gave = took_end _ _ (asks_more n) mid after was ended gave

-- the input's end ends the call
pub stored_end : (was ended : Bool) (most : ℕ) (before mid after : Option (List ℕ)) (old now : Core) (address end : ℕ)
    → StoredUpTo was most before mid old now address end → end < address + most → GaveByte was mid (Ok None) ended after
    → StoredAll was most before ended after old now address end
stored_end was ended most before mid after old now address end s within gave =
    stored_so_far was ended most before mid after old now address end s (end_of_rest was ended s.rest mid after (omega (arith, s.count, s.behind, within)) gave)

-- a call for no more bytes takes none
none_left : (was ended : Bool) (rest : ℕ) (left : Option (List ℕ)) → rest ≡ 0 → ended ≡ was → TookAll (asked was rest) [] left ended left
none_left was ended rest left zero_is is = rw zero_is (took_none left was ended is)

-- if so many bytes were stored, they are all
pub stored_full : (was ended : Bool) (most : ℕ) (before after : Option (List ℕ)) (old now : Core) (address at end : ℕ)
    → StoredUpTo was most before after old now address at → at ≡ end → end ≡ address + most → ended ≡ was
    → StoredAll was most before ended after old now address end
stored_full was ended most before after old now address at end s here all is =
    subst (λ end. StoredAll was most before ended after old now address end) here
    (stored_so_far was ended most before after after old now address at s (none_left was ended s.rest after (omega (arith, s.count, s.behind, here, all)) is))

-- A take failed in a call for so many bytes, and those that came before were stored.
abbrev pub StoredSome : Bool → ℕ → Option (List ℕ) → Bool → Option (List ℕ) → Core → Core → ℕ → Type 0
StoredSome was most before ended after old new address =
    (got : List ℕ) × (was ≡ false) × (ended ≡ was) × TookSome (asked was most) got before after × (new ≡ with_bytes old address got)

-- if the next take failed, the bytes stored are those that came before
pub stored_failed : (was ended : Bool) (most : ℕ) (before mid after : Option (List ℕ)) (old now : Core) (address end : ℕ)
    (failed : Failed) → StoredUpTo was most before mid old now address end → end < address + most
    → GaveByte was mid (Err failed) ended after → StoredSome was most before ended after old now address
stored_failed was ended most before mid after old now address end failed s within gave =
    let t = rest_taking was most s.rest before mid s.said (omega (arith, s.count, s.behind, within)) s.taking in
    let some = took_some _ _ (asks_more t.0) mid after was ended failed gave in (
      s.said,
      some.0,
      some.1,
      subst (λ (got : List ℕ). TookSome (asked was most) got before after) (append-nil s.said) (taking_some _ _ before mid after s.said [] t.2 some.2),
      s.core,
    )

-- one more byte may be stored after those that a call took
pub stored_within : (s : Segments) (was ended : Bool) (most : ℕ) (before after : Option (List ℕ)) (old new : Core) (address end : ℕ)
    → StoredAll was most before ended after old new address end → all_writable s address (most + 1) ≡ true → writable s end 1 ≡ true
stored_within s was ended most before after old new address end (got, took, behind, count, core) all =
    may_store_at s address (most + 1) end all (omega (arith, behind)) (omega (arith, behind, count))

-- a 0 after the bytes
pub stored_zero : (was ended last : Bool) (most : ℕ) (before after : Option (List ℕ)) (old now new : Core) (address end : ℕ)
    → StoredAll was most before ended after old now address end → last ≡ ended → new ≡ with_byte now end 0
    → (got : List ℕ) × TookAll (asked was most) got before last after × (new ≡ with_bytes old address (got ++ 0 ∷ []))
stored_zero was ended last most before after old now new address end (got, took, behind, count, core) same next =
    rw same (got, took, with_bytes-append old now new address end got 0 core behind next)
