-- Each text with at least one byte begins with an item (a lexeme, white space or a comment) or a lexical error. It begins with at most one item, and an item
-- has at least one byte.
use Rattle.std.proofs.Common.{◌≡◌, ◌∙◌, sym, ap, subst, arith, ℕ, zero, suc, ◌+◌, ◌-◌, ◌<◌, ◌≤◌, List, [], ◌∷◌, length, take, drop, get_or}
use Rattle.std.specs.Prelude.{Some}
use Rattle.cool_syntax.specs.Lexemes.{Form, class_of, form}
use Rattle.cool_syntax.specs.LexicalStructure.{IsItem}
use Rattle.cool_lexer.specs.declared.front.Front.{Front}
use Rattle.cool_lexer.specs.declared.front.Front.TheVariants.{Item, Fault}
use Rattle.cool_lexer.specs.Views.{form_seen}
use Rattle.cool_lexer.specs.Fronts.{IsAfter, IsFront, front_of, Begins}
use Rattle.cool_lexer.proofs.FrontsAreItems.{front_is}
use Rattle.lists.proofs.ItemsLeft.{first_and_tail}

-- no longer form begins the text than one after its first byte
after_longest : (b : ℕ) (bs : List ℕ) (f : Form) (n : ℕ) → IsAfter (class_of b) b bs f n → (m : ℕ) (other : Form) → m ≤ length (b ∷ bs) → form (take m (b ∷ bs)) ≡ Some other → m ≤ n + 1
after_longest b bs f n h zero other l k = omega arith
after_longest b bs f n h (suc m) other l k = omega (arith, h.longest m other (omega arith) k)

-- an item by its bytes after the first
pub item_after : (b : ℕ) (bs : List ℕ) (f : Form) (n : ℕ) → IsAfter (class_of b) b bs f n → IsItem (b ∷ bs) f (n + 1)
item_after b bs f n h =
    let next : n + 1 ≡ suc n = omega arith in
    record {
      good = h.good;
      within = omega (arith, h.within);
      is_form = ap (λ m. form (take m (b ∷ bs))) next ∙ h.is_form;
      longest = λ m other l k. after_longest b bs f n h m other l k;
    }

-- the front of a text by its first byte
begins_by : (b : ℕ) (bs : List ℕ) (r : Front) → IsFront (class_of b) b bs r → Begins (b ∷ bs) r
begins_by b bs (Item f n) h = item_after b bs (form_seen f) n h
begins_by b bs (Fault k n) h = (h.0, omega (arith, h.1))

-- each text that has a byte begins with the front of its class
pub begins : (b : ℕ) (bs : List ℕ) → Begins (b ∷ bs) (front_of (class_of b) b bs)
begins b bs = begins_by b bs _ (front_is b bs)

-- the same, for the first byte and the rest as the code takes them
pub begins_code : (rest : List ℕ) (r : Front) → 0 < length rest → r ≡ front_of (class_of (get_or rest 0 0)) (get_or rest 0 0) (take (length rest - 1) (drop 1 rest)) → Begins rest r
begins_code rest r h is =
    subst (λ (l : List ℕ). Begins l r) (first_and_tail rest h)
    (subst (λ (x : Front). Begins (get_or rest 0 0 ∷ take (length rest - 1) (drop 1 rest)) x) (sym is) (begins (get_or rest 0 0) (take (length rest - 1) (drop 1 rest))))

-- an item has a byte
pub item_size : (rest : List ℕ) (f : Form) (n : ℕ) → IsItem rest f n → 1 ≤ n
item_size rest f zero h = absurd (let none : form (take 0 rest) ≡ Some f = h.is_form in cc)
item_size rest f (suc n) h = omega arith

-- one item begins a text
pub one_size : (rest : List ℕ) (f g : Form) (m n : ℕ) → IsItem rest f m → IsItem rest g n → m ≡ n
one_size rest f g m n a b = omega (arith, b.longest m f a.within a.is_form, a.longest n g b.within b.is_form)

-- and it has one form
pub one_form : (rest : List ℕ) (f g : Form) (m n : ℕ) → IsItem rest f m → IsItem rest g n → f ≡ g
one_form rest f g m n a b =
    let same : form (take m rest) ≡ form (take n rest) = ap (λ k. form (take k rest)) (one_size rest f g m n a b) in
    let forms : Some f ≡ Some g = sym a.is_form ∙ same ∙ b.is_form in
    cc
