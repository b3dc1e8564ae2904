-- If contracts see the entries of a `Scope` with the latest first, appending an entry puts it in front, removing the last one removes the front, and a search
-- from the end finds the first entry of a name.
use Rattle.std.proofs.Common.{◌≡◌, ℕ, suc, ◌-◌, ◌<◌, List, [], ◌∷◌, ◌++◌, length, take, get_or, Some, Bool, true, false, ap, sym, ◌∙◌, refl, arith}
use Rattle.std.proofs.Math.Seq.{take-suc, take-length}
use Rattle.std.proofs.lemmas.List.{length-append}
use Rattle.std.specs.Prelude.{bytes_eq, if◌then◌else◌, slice_get}
use Rattle.std.specs.Option.{option_map}
use Rattle.lists.proofs.ItemsAt.{front_get}
use Rattle.cool_rules.specs.declared.scope.Entry.{Entry}
use Rattle.cool_rules.specs.Scopes.{Bound, binding_of, found, left, latest_first}

-- an entry at the end is the first that is seen
pub latest_more : {T : Type 0} (es : List (Entry T)) (e : Entry T) → latest_first (es ++ e ∷ []) ≡ binding_of e ∷ latest_first es
latest_more {T} [] e = refl
latest_more {T} (x ∷ es) e = ap (λ (bs : List (Bound T)). bs ++ binding_of x ∷ []) (latest_more es e)

-- without the entry at the end, the rest is seen
pub latest_less : {T : Type 0} (es : List (Entry T)) → latest_first (take (length es - 1) es) ≡ left (latest_first es)
latest_less {T} [] = refl
latest_less {T} (x ∷ es) =
    let within : length es < length (x ∷ es) = omega arith in
    let shorter : length (x ∷ es) - 1 ≡ length es = omega arith in
    let all : x ∷ es ≡ take (length es) (x ∷ es) ++ get_or (x ∷ es) (length es) x ∷ [] = sym (take-length (x ∷ es)) ∙ take-suc (x ∷ es) (length es) x within in
    ap (λ (k : ℕ). latest_first (take k (x ∷ es))) shorter ∙ sym (ap left (ap latest_first all ∙ latest_more (take (length es) (x ∷ es)) (get_or (x ∷ es) (length es) x)))

-- a name among the entries up to one is that one's, or else is found before it
pub found_before : {T : Type 0} (es : List (Entry T)) (k : ℕ) (e : Entry T) (name : List ℕ) → k < length es → e ≡ get_or es k e
    → found (latest_first (take (suc k) es)) name ≡ (if bytes_eq e.name.now name then Some e.value else found (latest_first (take k es)) name)
found_before {T} es k e name within is =
    let more : take (suc k) es ≡ take k es ++ e ∷ [] = take-suc es k e within ∙ ap (λ (x : Entry T). take k es ++ x ∷ []) (sym is) in
    ap (λ (xs : List (Entry T)). found (latest_first xs) name) more ∙ ap (λ (bs : List (Bound T)). found bs name) (latest_more (take k es) e)

-- if the entry is the name's, its value is found; if not, the name is looked for before it
pub found_here : {T : Type 0} (es : List (Entry T)) (k : ℕ) (e : Entry T) (name : List ℕ) → k < length es → e ≡ get_or es k e → bytes_eq e.name.now name ≡ true → found (latest_first (take (suc k) es)) name ≡ Some e.value
found_here {T} es k e name within is same =
    found_before es k e name within is ∙ ap (λ (b : Bool). if b then Some e.value else found (latest_first (take k es)) name) same

pub found_there : {T : Type 0} (es : List (Entry T)) (k : ℕ) (e : Entry T) (name : List ℕ) → k < length es → e ≡ get_or es k e → bytes_eq e.name.now name ≡ false
    → found (latest_first (take (suc k) es)) name ≡ found (latest_first (take k es)) name
found_there {T} es k e name within is other =
    found_before es k e name within is ∙ ap (λ (b : Bool). if b then Some e.value else found (latest_first (take k es)) name) other

-- as many names as entries, and the entry at the end first
pub as_many : {T : Type 0} (es : List (Entry T)) → length (latest_first es) ≡ length es
as_many {T} [] = refl
as_many {T} (e ∷ es) = omega (arith, as_many es, length-append (latest_first es) (binding_of e ∷ []))

pub last_is : {T : Type 0} (es : List (Entry T)) → slice_get (latest_first es) 0 ≡ option_map binding_of (slice_get es (length es - 1))
last_is {T} [] = refl
last_is {T} (e ∷ []) = refl
last_is {T} (e ∷ x ∷ es) =
    let some : 0 < length (latest_first (x ∷ es)) = omega (arith, as_many (x ∷ es)) in
    let one : suc (length (x ∷ es) - 1) ≡ length (e ∷ x ∷ es) - 1 = omega arith in
    front_get (latest_first (x ∷ es)) (binding_of e ∷ []) 0 some ∙ last_is (x ∷ es) ∙ ap (λ (k : ℕ). option_map binding_of (slice_get (e ∷ x ∷ es) k)) one
