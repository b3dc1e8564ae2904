-- Scanning after an opening quote finds the string constant there, or its lexical error. At most one prefix of a text is a string constant.
use Rattle.std.proofs.Common.{◌≡◌, ◌∙◌, ap, refl, arith, ℕ, zero, suc, ◌+◌, ◌≤◌, Bool, true, false, List, [], ◌∷◌, ◌++◌, length, take, append_assoc, length-append}
use Rattle.std.specs.Prelude.{Option, Some, None, option_map, ◌==◌, if◌then◌else◌}
use Rattle.cool_syntax.specs.declared.TheConstants.{MOST_BYTES}
use Rattle.cool_syntax.specs.declared.token.TokenKind.TheVariants as kind
use Rattle.cool_syntax.specs.declared.lexical.LexKind.TheVariants.{L4}
use Rattle.cool_syntax.specs.Lexemes.{Piece, Ends, Newline, Null, Backslash, Means, piece, is_backslash, denoted, constant}
use Rattle.cool_syntax.specs.LexicalStructure.{fault_at, shown, string_fault}
use Rattle.cool_syntax.specs.LexicalStructure as lexical
use Rattle.cool_lexer.specs.declared.front.Front.{Front}
use Rattle.cool_lexer.specs.declared.front.Front.TheVariants.{Item, Fault}
use Rattle.cool_lexer.specs.declared.front.Scan.TheVariants as scan
use Rattle.cool_lexer.specs.Fronts.{piece_front, held_after, string_front}

-- the front is the string or the fault that stands from an offset on
abbrev pub Stands : Bool → ℕ → List ℕ → List ℕ → Front → Type 0
Stands escaped offset held bs (Fault k o) = (string_fault escaped offset (length held) bs ≡ fault_at k o) × (o + 1 ≤ offset + length bs)
Stands escaped offset held bs (Item f n) =
    (string_fault escaped offset (length held) bs ≡ None) × (cs : List ℕ) × (size : ℕ) × (f ≡ scan.Lexeme (kind.Str (held ++ cs))) × (n + 1 ≡ offset + size)
    × (size ≤ length bs) × (constant escaped (take size bs) ≡ Some cs)

-- a byte that ends nothing goes before what stands after it
pass : (e next : Bool) (o : ℕ) (held more : List ℕ) (b : ℕ) (bs meant : List ℕ)
    → string_fault e o (length held) (b ∷ bs) ≡ string_fault next (o + 1) (length more) bs
    → ((cs rest : List ℕ) → constant next rest ≡ Some cs → constant e (b ∷ rest) ≡ Some (meant ++ cs))
    → more ≡ held ++ meant → (r : Front) → Stands next (o + 1) more bs r → Stands e o held (b ∷ bs) r
pass e next o held more b bs meant same goes all (Fault k n) s = (same ∙ s.0, omega (arith, s.1))
pass e next o held more b bs meant same goes all (Item f n) s =
    (same ∙ s.0, meant ++ s.1, suc s.2, s.3 ∙ ap (λ l. scan.Lexeme (kind.Str l)) (ap (λ l. l ++ s.1) all ∙ append_assoc held meant s.1), omega (arith, s.4), omega (arith, s.5), goes s.1 (take s.2 bs) s.6)

-- the same with the piece that the byte is
faults : (p : Piece) (e : Bool) (o held b : ℕ) (bs : List ℕ) → piece e b ≡ p → string_fault e o held (b ∷ bs) ≡ shown p o held (string_fault (is_backslash p) (o + 1) (lexical.held_after p held) bs)
faults p e o held b bs h = ap (λ q. shown q o held (string_fault (is_backslash q) (o + 1) (lexical.held_after q held) bs)) h

-- the constant of a text with this piece in front
denotes : (p : Piece) (e : Bool) (b : ℕ) (bs : List ℕ) → piece e b ≡ p → constant e (b ∷ bs) ≡ denoted p bs (constant (is_backslash p) bs)
denotes p e b bs h = ap (λ q. denoted q bs (constant (is_backslash q) bs)) h

-- nothing more is the same
append_none : (l : List ℕ) → l ≡ l ++ []
append_none [] = refl
append_none (x ∷ l) = ap (λ r. x ∷ r) (append_none l)

-- a byte of the constant, by whether the constant is full
meant_stands : (full : Bool) (c : ℕ) (e : Bool) (o : ℕ) (held : List ℕ) (b : ℕ) (bs : List ℕ) → piece e b ≡ Means c → 1 ≤ o → (length held == MOST_BYTES) ≡ full
    → Stands false (o + 1) (held ++ c ∷ []) bs (string_front false (o + 1) (held ++ c ∷ []) bs)
    → Stands e o held (b ∷ bs) (if full then Fault L4 0 else string_front false (o + 1) (held ++ c ∷ []) bs)
meant_stands true c e o held b bs h l is s =
    (faults (Means c) e o (length held) b bs h ∙ ap (λ x. if x then fault_at L4 0 else string_fault false (o + 1) (length held + 1) bs) is, omega arith)
meant_stands false c e o held b bs h l is s =
    let longer : length held + 1 ≡ length (held ++ c ∷ []) = simp length-append refl in
    pass e false o held (held ++ c ∷ []) b bs (c ∷ [])
    (faults (Means c) e o (length held) b bs h ∙ ap (λ x. if x then fault_at L4 0 else string_fault false (o + 1) (length held + 1) bs) is ∙ ap (λ n. string_fault false (o + 1) n bs) longer)
    (λ cs rest k. denotes (Means c) e b rest h ∙ ap (option_map (λ l. c ∷ l)) k)
    refl _ s

-- each piece
stands_piece : (p : Piece) (e : Bool) (o : ℕ) (held : List ℕ) (b : ℕ) (bs : List ℕ) → piece e b ≡ p → 1 ≤ o
    → Stands (is_backslash p) (o + 1) (held_after p held) bs (string_front (is_backslash p) (o + 1) (held_after p held) bs)
    → Stands e o held (b ∷ bs) (piece_front p o held (string_front (is_backslash p) (o + 1) (held_after p held) bs))
stands_piece Ends e o held b bs h l s =
    (faults Ends e o (length held) b bs h, [], 1, ap (λ x. scan.Lexeme (kind.Str x)) (append_none held), refl, omega arith, denotes Ends e b [] h)
stands_piece Newline e o held b bs h l s = (faults Newline e o (length held) b bs h, omega arith)
stands_piece Null e o held b bs h l s = (faults Null e o (length held) b bs h, omega arith)
stands_piece Backslash e o held b bs h l s =
    pass e true o held held b bs [] (faults Backslash e o (length held) b bs h) (λ cs rest k. denotes Backslash e b rest h ∙ k) (append_none held) _ s
stands_piece (Means c) e o held b bs h l s = meant_stands (length held == MOST_BYTES) c e o held b bs h l refl s

-- the front of a string is its constant or its fault
pub string_stands : (e : Bool) (o : ℕ) (held bs : List ℕ) → 1 ≤ o → Stands e o held bs (string_front e o held bs)
string_stands e o held [] l = (refl, omega arith)
string_stands e o held (b ∷ bs) l =
    let p : Piece = piece e b in
    stands_piece p e o held b bs refl l (string_stands (is_backslash p) (o + 1) (held_after p held) bs (omega arith))

-- No longer text has a constant.

-- a value under a function comes of a value
pub mapped : {X Y : Type 0} (f : X → Y) (o : Option X) (y : Y) → option_map f o ≡ Some y → (x : X) × (o ≡ Some x)
mapped f None y h = absurd (cc)
mapped f (Some x) y h = (x, refl)

-- after the closing quote nothing stands in the constant's text
ends_now : (bs : List ℕ) (m : ℕ) (rest : Option (List ℕ)) (cs : List ℕ) → m ≤ length bs → denoted Ends (take m bs) rest ≡ Some cs → m ≡ 0
ends_now bs zero rest cs l h = refl
ends_now [] (suc m) rest cs l h = absurd (omega arith)
ends_now (b ∷ bs) (suc m) rest cs l h = absurd (cc)

-- no longer text has a constant, by the first piece
longest_piece : (p : Piece) (bs : List ℕ) (m n : ℕ) (cs ds : List ℕ) → m ≤ length bs
    → denoted p (take m bs) (constant (is_backslash p) (take m bs)) ≡ Some cs → denoted p (take n bs) (constant (is_backslash p) (take n bs)) ≡ Some ds
    → ((e : Bool) (xs ys : List ℕ) → constant e (take m bs) ≡ Some xs → constant e (take n bs) ≡ Some ys → m ≤ n) → m ≤ n
longest_piece Ends bs m n cs ds l h k rec = omega (arith, ends_now bs m _ cs l h)
longest_piece Newline bs m n cs ds l h k rec = absurd (cc)
longest_piece Null bs m n cs ds l h k rec = absurd (cc)
longest_piece Backslash bs m n cs ds l h k rec = rec true cs ds h k
longest_piece (Means c) bs m n cs ds l h k rec =
    let a = mapped _ (constant false (take m bs)) cs h in
    let b = mapped _ (constant false (take n bs)) ds k in
    rec false a.0 b.0 a.1 b.1

-- no longer text has a constant
pub constant_longest : (bs : List ℕ) (e : Bool) (m n : ℕ) (cs ds : List ℕ) → m ≤ length bs → constant e (take m bs) ≡ Some cs → constant e (take n bs) ≡ Some ds → m ≤ n
constant_longest bs e zero n cs ds l h k = omega arith
constant_longest bs e (suc m) zero cs ds l h k = absurd (cc)
constant_longest [] e (suc m) (suc n) cs ds l h k = absurd (omega arith)
constant_longest (b ∷ bs) e (suc m) (suc n) cs ds l h k =
    let less : m ≤ n = longest_piece (piece e b) bs m n cs ds (omega arith) h k (λ f xs ys x y. constant_longest bs f m n xs ys (omega arith) x y) in
    omega arith
