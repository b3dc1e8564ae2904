-- After `add_own` has added a method to a dispatch table, the table is right for one method more (`IsTableFor` of `SlotTables.antt`).
use Rattle.std.proofs.Common.{◌≡◌, ◌≢◌, ℕ, zero, suc, ◌+◌, ◌<◌, List, [], ◌∷◌, ◌++◌, length, get_or, set, map, Option, Some, None, is_some, Bool, true, false, ◌||◌, cond, not, refl, sym, ap, ◌∙◌, subst, arith, true≢false, inl, inr, ◌⊎◌}
use Rattle.std.specs.Prelude.{bytes_eq, unwrap_or, if◌then◌else◌}
use Rattle.std.specs.Map.{lookup}
use Rattle.std.specs.HashMap.{get}
use Rattle.std.specs.Global.{Vec}
use Rattle.std.proofs.lemmas.List.{map-append, same_lists, length-set, length-map, get_or-map, get_or-set_same, get_or-set_other, length_push, get_or_push, get_or_append_left}
use Rattle.std.proofs.lemmas.List.Sums.{passes_at_first}
use Rattle.std.proofs.lemmas.List.Folds.{list_any-append}
use Rattle.std.proofs.lemmas.Bool.{cases_eq}
use denote.Ref.{Bor}
use Rattle.indexmap.specs.IndexMap.{IndexMap, insert_entry}
use Rattle.indexmap.proofs.CallerLemmas.{insert_entry-new}
use Rattle.cool_classes.specs.declared.method.BasicMethod.TheVariants.{Abort}
use Rattle.cool_classes.specs.declared.method.MethodRef.{MethodRef}
use Rattle.cool_classes.specs.declared.method.MethodRef.TheVariants.{Basic}
use Rattle.cool_classes.specs.Features.{first_of}
use Rattle.cool_layout.specs.declared.slots.Table.{Table}
use Rattle.cool_layout.specs.Members.{with_new}
use Rattle.cool_layout.specs.SlotTables.{OwnMethod, names_of, own_among, slots_shown, AreOnce, IsTableFor}
use Rattle.cool_layout.proofs.SlotNames.{has, place, position_in, with_new_any, with_new_last, with_new_front, position_some, position_is, position_front, place_here}
use Rattle.lists.proofs.EqualBytes.{bytes_equal, bytes_eq-same, bytes_eq-turned, same_key}

-- the entries of a map and the names of its keys

pub shown_lookup : (f : List ℕ) (entries : List (Vec ℕ × ℕ)) → lookup (λ key. bytes_eq f key.items) entries ≡ lookup (bytes_eq f) (slots_shown entries)
shown_lookup f [] = refl
shown_lookup f (entry ∷ rest) = ap (λ (o : Option ℕ). cond (bytes_eq f entry.0.items) (Some entry.1) o) (shown_lookup f rest)

pub shown_after : {S : Type 0} (m : IndexMap (Vec ℕ) ℕ S) (key : Vec ℕ) (k : ℕ) → get same_key m key ≡ None → slots_shown (insert_entry same_key m.entries key k) ≡ slots_shown m.entries ++ (key.items, k) ∷ []
shown_after m key k none = ap slots_shown (insert_entry-new same_key m key k none) ∙ map-append (λ (entry : Vec ℕ × ℕ). (entry.0.items, entry.1)) m.entries ((key, k) ∷ [])

-- a name found among entries with one after them is found among the first ones, or is the last
found_more : (f name : List ℕ) (es : List (List ℕ × ℕ)) (k j : ℕ) → lookup (bytes_eq f) (es ++ (name, k) ∷ []) ≡ Some j → (lookup (bytes_eq f) es ≡ Some j) ⊎ ((bytes_eq f name ≡ true) × (k ≡ j))
found_more f name [] k j h = by (bytes_eq f name) refl h
  where
    by : (b : Bool) → bytes_eq f name ≡ b → cond b (Some k) None ≡ Some j → (None ≡ Some j) ⊎ ((bytes_eq f name ≡ true) × (k ≡ j))
    by true e t = inr (e, (let s : k ≡ j = cc in s))
    by false e t = inl t
found_more f name (x ∷ es) k j h = by (bytes_eq f x.0) h (λ t. found_more f name es k j t)
  where
    by : (b : Bool) → cond b (Some x.1) (lookup (bytes_eq f) (es ++ (name, k) ∷ [])) ≡ Some j
        → (lookup (bytes_eq f) (es ++ (name, k) ∷ []) ≡ Some j → (lookup (bytes_eq f) es ≡ Some j) ⊎ ((bytes_eq f name ≡ true) × (k ≡ j)))
        → (cond b (Some x.1) (lookup (bytes_eq f) es) ≡ Some j) ⊎ ((bytes_eq f name ≡ true) × (k ≡ j))
    by true t more = inl t
    by false t more = more t

missing_more : (f name : List ℕ) (es : List (List ℕ × ℕ)) (k : ℕ) → lookup (bytes_eq f) (es ++ (name, k) ∷ []) ≡ None → (lookup (bytes_eq f) es ≡ None) × (bytes_eq f name ≡ false)
missing_more f name [] k h = by (bytes_eq f name) refl h
  where
    by : (b : Bool) → bytes_eq f name ≡ b → cond b (Some k) None ≡ None → (◌≡◌ {A = Option ℕ} None None) × (bytes_eq f name ≡ false)
    by true e t = absurd (cc)
    by false e t = (refl, e)
missing_more f name (x ∷ es) k h = by (bytes_eq f x.0) h (λ t. missing_more f name es k t)
  where
    by : (b : Bool) → cond b (Some x.1) (lookup (bytes_eq f) (es ++ (name, k) ∷ [])) ≡ None → (lookup (bytes_eq f) (es ++ (name, k) ∷ []) ≡ None → (lookup (bytes_eq f) es ≡ None) × (bytes_eq f name ≡ false))
        → (cond b (Some x.1) (lookup (bytes_eq f) es) ≡ None) × (bytes_eq f name ≡ false)
    by true t more = absurd (cc)
    by false t more = more t

-- names and methods with one more

names_push : (own : List OwnMethod) (m : OwnMethod) → names_of (own ++ m ∷ []) ≡ names_of own ++ m.name ∷ []
names_push own m = map-append (λ (x : OwnMethod). x.name) own (m ∷ [])

any_push : (f : List ℕ) (own : List OwnMethod) (m : OwnMethod) → has f (names_of (own ++ m ∷ [])) ≡ (has f (names_of own) || bytes_eq f m.name)
any_push f own m = ap (has f) (names_push own m) ∙ list_any-append (bytes_eq f) (names_of own) (m.name ∷ []) ∙ ap (λ b. has f (names_of own) || b) (or_false (bytes_eq f m.name))
  where
    or_false : (b : Bool) → (b || false) ≡ b
    or_false true = refl
    or_false false = refl

among_seen : (f : List ℕ) (own : List OwnMethod) (m : OwnMethod) → has f (names_of own) ≡ true → own_among (own ++ m ∷ []) f ≡ own_among own f
among_seen f [] m h = absurd (true≢false (sym h))
among_seen f (x ∷ own) m h = by (bytes_eq x.name f) (sym (ap (λ b. b || has f (names_of own)) (bytes_eq-turned f x.name)) ∙ h) (λ t. among_seen f own m t)
  where
    by : (b : Bool) → (b || has f (names_of own)) ≡ true → (has f (names_of own) ≡ true → own_among (own ++ m ∷ []) f ≡ own_among own f) → (if b then Some x.method else own_among (own ++ m ∷ []) f) ≡ (if b then Some x.method else own_among own f)
    by true t more = refl
    by false t more = more t

among_other : (f : List ℕ) (own : List OwnMethod) (m : OwnMethod) → bytes_eq m.name f ≡ false → own_among (own ++ m ∷ []) f ≡ own_among own f
among_other f [] m h = ap (λ b. if b then Some m.method else None) h
among_other f (x ∷ own) m h = ap (λ o. if bytes_eq x.name f then Some x.method else o) (among_other f own m h)

among_new : (own : List OwnMethod) (m : OwnMethod) → has m.name (names_of own) ≡ false → own_among (own ++ m ∷ []) m.name ≡ Some m.method
among_new [] m h = ap (λ b. if b then Some m.method else None) (bytes_eq-same m.name)
among_new (x ∷ own) m h = by (bytes_eq x.name m.name) (sym (ap (λ b. b || has m.name (names_of own)) (bytes_eq-turned m.name x.name)) ∙ h) (λ t. among_new own m t)
  where
    by : (b : Bool) → (b || has m.name (names_of own)) ≡ false → (has m.name (names_of own) ≡ false → own_among (own ++ m ∷ []) m.name ≡ Some m.method) → (if b then Some x.method else own_among (own ++ m ∷ []) m.name) ≡ Some m.method
    by true t more = absurd (true≢false t)
    by false t more = more t

map_same : (g h : List ℕ → MethodRef) (xs : List (List ℕ)) → ((x : List ℕ) → has x xs ≡ true → g x ≡ h x) → map g xs ≡ map h xs
map_same g h [] same = refl
map_same g h (x ∷ xs) same =
    let here : has x (x ∷ xs) ≡ true = ap (λ b. b || has x xs) (bytes_eq-same x) in
    ap (λ y. y ∷ map g xs) (same x here) ∙ ap (λ ys. h x ∷ ys) (map_same g h xs (λ y t. same y (by (bytes_eq y x) t)))
  where
    by : {t : Bool} (b : Bool) → t ≡ true → (b || t) ≡ true
    by true e = refl
    by false e = e

has_at : (f : List ℕ) (xs : List (List ℕ)) (j : ℕ) (d : List ℕ) → j < length xs → bytes_eq f (get_or xs j d) ≡ true → has f xs ≡ true
has_at f [] j d l h = absurd (omega arith)
has_at f (x ∷ xs) zero d l h = ap (λ b. b || has f xs) h
has_at f (x ∷ xs) (suc j) d l h = by (bytes_eq f x) (has_at f xs j d (omega arith) h)
  where
    by : (b : Bool) → has f xs ≡ true → (b || has f xs) ≡ true
    by true t = refl
    by false t = t

at_place : (f : List ℕ) (xs : List (List ℕ)) (d : List ℕ) → has f xs ≡ true → get_or xs (place f xs) d ≡ f
at_place f [] d h = absurd (true≢false (sym h))
at_place f (x ∷ xs) d h = by (bytes_eq f x) refl h (λ t. at_place f xs d t)
  where
    by : (b : Bool) → bytes_eq f x ≡ b → (b || has f xs) ≡ true → (has f xs ≡ true → get_or xs (place f xs) d ≡ f) → get_or (x ∷ xs) (cond (not b) (1 + place f xs) 0) d ≡ f
    by true e t more = sym (bytes_equal f x e)
    by false e t more = (let s : 1 + place f xs ≡ suc (place f xs) = omega arith in ap (λ n. get_or (x ∷ xs) n d) s) ∙ more t

place_new : (f : List ℕ) (xs : List (List ℕ)) → has f xs ≡ false → place f (xs ++ f ∷ []) ≡ length xs
place_new f [] h = ap (λ b. cond (not b) 1 0) (bytes_eq-same f)
place_new f (x ∷ xs) h = by (bytes_eq f x) h (λ t. place_new f xs t)
  where
    by : (b : Bool) → (b || has f xs) ≡ false → (has f xs ≡ false → place f (xs ++ f ∷ []) ≡ length xs) → cond (not b) (1 + place f (xs ++ f ∷ [])) 0 ≡ suc (length xs)
    by true t more = absurd (true≢false t)
    by false t more = let e : place f (xs ++ f ∷ []) ≡ length xs = more t in omega arith

once_more : (xs : List (List ℕ)) (y : List ℕ) → has y xs ≡ false → AreOnce xs → AreOnce (xs ++ y ∷ [])
once_more xs y new once j d l = elim (cases_eq j (length xs)) [
  | inl e ↦
      let at : get_or (xs ++ y ∷ []) j d ≡ y = get_or_push xs y d j (sym e) in
      ap (λ f. place f (xs ++ y ∷ [])) at ∙ place_new y xs new ∙ sym e
  | inr other ↦
      let long = length_push xs y in
      let less : j < length xs = omega arith in
      let at : get_or (xs ++ y ∷ []) j d ≡ get_or xs j d = get_or_append_left xs (y ∷ []) d j less in
      let there : has (get_or xs j d) xs ≡ true = has_at (get_or xs j d) xs j d less (bytes_eq-same (get_or xs j d)) in
      ap (λ f. place f (xs ++ y ∷ [])) at ∙ (place_here (get_or xs j d) xs (y ∷ []) there).0 ∙ once j d less
]

pub once_with_new : (xs ys : List (List ℕ)) → AreOnce xs → AreOnce (with_new xs ys)
once_with_new xs [] once = once
once_with_new xs (y ∷ ys) once = by (has y xs) refl (λ l o. once_with_new l ys o)
  where
    by : (b : Bool) → has y xs ≡ b → ((l : List (List ℕ)) → AreOnce l → AreOnce (with_new l ys)) → AreOnce (with_new (if b then xs else xs ++ y ∷ []) ys)
    by true e more = more xs once
    by false e more = more (xs ++ y ∷ []) (once_more xs y e once)

module _ (above : List (List ℕ)) (inherited : List ℕ → Option MethodRef) (own : List OwnMethod) (m : OwnMethod) (t : Table) (is : IsTableFor above inherited own t) where
  abbrev names : List (List ℕ)
  names = with_new above (names_of own)

  abbrev method_of : List OwnMethod → List ℕ → MethodRef
  method_of ms f = unwrap_or (first_of (own_among ms f) (inherited f)) (Basic Abort)

  grown : with_new above (names_of (own ++ m ∷ [])) ≡ (if has m.name names then names else names ++ m.name ∷ [])
  grown = ap (with_new above) (names_push own m) ∙ with_new_last above (names_of own) m.name

  -- the name is one of the class's own
  pub again : (k : ℕ) → lookup (bytes_eq m.name) (slots_shown t.own.entries) ≡ Some k → IsTableFor above inherited (own ++ m ∷ []) t
  again k there =
      let seen : has m.name (names_of own) ≡ true = is.seen m.name k there in
      let in_names : has m.name names ≡ true = with_new_any m.name above (names_of own) ∙ ap (λ b. has m.name above || b) seen ∙ or_true (has m.name above) in
      let same : with_new above (names_of (own ++ m ∷ [])) ≡ names = grown ∙ ap (λ b. if b then names else names ++ m.name ∷ []) in_names in
      record {
        found = λ f j h. ap (position_in f) same ∙ is.found f j h;
        seen = λ f j h. any_push f own m ∙ ap (λ b. b || bytes_eq f m.name) (is.seen f j h);
        once = subst AreOnce (sym same) is.once;
        missing = λ f h. any_push f own m ∙ ap (λ b. b || bytes_eq f m.name) (is.missing f h) ∙ not_name f h (bytes_eq f m.name) refl;
        methods = is.methods ∙ map_same (method_of own) (method_of (own ++ m ∷ [])) names (λ f h. ap (λ o. unwrap_or (first_of o (inherited f)) (Basic Abort)) (sym (among_same f (bytes_eq m.name f) refl seen))) ∙ ap (map (method_of (own ++ m ∷ []))) (sym same);
      }
    where
      or_true : (b : Bool) → (b || true) ≡ true
      or_true true = refl
      or_true false = refl

      not_name : (f : List ℕ) → lookup (bytes_eq f) (slots_shown t.own.entries) ≡ None → (b : Bool) → bytes_eq f m.name ≡ b → b ≡ false
      not_name f h false e = refl
      not_name f h true e =
          let s : Some k ≡ None = sym there ∙ ap (λ g. lookup (bytes_eq g) (slots_shown t.own.entries)) (sym (bytes_equal f m.name e)) ∙ h in absurd (cc)

      among_same : (f : List ℕ) (b : Bool) → bytes_eq m.name f ≡ b → has m.name (names_of own) ≡ true → own_among (own ++ m ∷ []) f ≡ own_among own f
      among_same f true e seen = among_seen f own m (ap (λ g. has g (names_of own)) (sym (bytes_equal m.name f e)) ∙ seen)
      among_same f false e seen = among_other f own m e

  module _ (none : lookup (bytes_eq m.name) (slots_shown t.own.entries) ≡ None) (t' : Table) (k : ℕ) (entries : slots_shown t'.own.entries ≡ slots_shown t.own.entries ++ (m.name, k) ∷ []) where
    new_own : has m.name (names_of own) ≡ false
    new_own = is.missing m.name none

    seen_now : (f : List ℕ) (j : ℕ) → lookup (bytes_eq f) (slots_shown t'.own.entries) ≡ Some j → has f (names_of (own ++ m ∷ [])) ≡ true
    seen_now f j h = elim (found_more f m.name (slots_shown t.own.entries) k j (ap (lookup (bytes_eq f)) (sym entries) ∙ h)) [
      | inl old ↦ any_push f own m ∙ ap (λ b. b || bytes_eq f m.name) (is.seen f j old)
      | inr new ↦ any_push f own m ∙ ap (λ b. has f (names_of own) || b) new.0 ∙ or_true (has f (names_of own))
    ]
      where
        or_true : (b : Bool) → (b || true) ≡ true
        or_true true = refl
        or_true false = refl

    missing_now : (f : List ℕ) → lookup (bytes_eq f) (slots_shown t'.own.entries) ≡ None → has f (names_of (own ++ m ∷ [])) ≡ false
    missing_now f h =
        let both = missing_more f m.name (slots_shown t.own.entries) k (ap (lookup (bytes_eq f)) (sym entries) ∙ h) in
        any_push f own m ∙ ap (λ b. b || bytes_eq f m.name) (is.missing f both.0) ∙ both.1

    other_method : (f : List ℕ) → bytes_eq m.name f ≡ false → method_of (own ++ m ∷ []) f ≡ method_of own f
    other_method f e = ap (λ o. unwrap_or (first_of o (inherited f)) (Basic Abort)) (among_other f own m e)

    new_method : method_of (own ++ m ∷ []) m.name ≡ m.method
    new_method = ap (λ o. unwrap_or (first_of o (inherited m.name)) (Basic Abort)) (among_new own m new_own)

    -- the parent has the name
    pub overridden : position_in m.name above ≡ Some k → t'.methods.items ≡ set t.methods.items k m.method → IsTableFor above inherited (own ++ m ∷ []) t'
    overridden at written =
        let in_above : has m.name above ≡ true = sym (position_is m.name above) ∙ ap is_some at in
        let in_names : has m.name names ≡ true = with_new_any m.name above (names_of own) ∙ ap (λ b. b || has m.name (names_of own)) in_above in
        let same : with_new above (names_of (own ++ m ∷ [])) ≡ names = grown ∙ ap (λ b. if b then names else names ++ m.name ∷ []) in_names in
        let front = with_new_front above (names_of own) in
        let there : position_in m.name names ≡ Some k = ap (position_in m.name) front.1 ∙ position_front m.name above front.0 in_above ∙ at in
        let is_place : place m.name names ≡ k = some_is (place m.name names) k (sym (position_some m.name names in_names) ∙ there) in
        let low : place m.name names < length names = (place_here m.name names [] in_names).1 in
        let long : length t.methods.items ≡ length names = ap length is.methods ∙ length-map names (method_of own) in
        record {
          found = λ f j h. ap (position_in f) same ∙ elim (found_more f m.name (slots_shown t.own.entries) k j (ap (lookup (bytes_eq f)) (sym entries) ∙ h)) [
            | inl old ↦ is.found f j old
            | inr new ↦ ap (λ g. position_in g names) (bytes_equal f m.name new.0) ∙ there ∙ ap Some new.1
          ];
          seen = seen_now;
          once = subst AreOnce (sym same) is.once;
          missing = missing_now;
          methods =
              written ∙ same_lists (set t.methods.items k m.method) (map (method_of (own ++ m ∷ [])) names) (length-set t.methods.items k m.method ∙ long ∙ sym (length-map names (method_of (own ++ m ∷ []))))
              (λ j d l. step j d (let s = length-set t.methods.items k m.method in omega arith) is_place low long (cases_eq j k))
              ∙ ap (map (method_of (own ++ m ∷ []))) (sym same);
        }
      where
        some_is : (a b : ℕ) → Some a ≡ Some b → a ≡ b
        some_is a b e = cc

        step : (j : ℕ) (d : MethodRef) → j < length t.methods.items → place m.name names ≡ k → place m.name names < length names → length t.methods.items ≡ length names → (j ≡ k) ⊎ (j ≢ k)
            → get_or (set t.methods.items k m.method) j d ≡ get_or (map (method_of (own ++ m ∷ [])) names) j d
        step j d l is_place low long (inl e) =
            let there : has m.name names ≡ true = has_at m.name names (place m.name names) [] low (passes m.name names low) in
            ap (λ i. get_or (set t.methods.items k m.method) i d) e ∙ get_or-set_same t.methods.items k m.method d (omega arith) ∙ sym new_method
            ∙ ap (method_of (own ++ m ∷ [])) (sym (at_place m.name names [] there)) ∙ ap (λ i. method_of (own ++ m ∷ []) (get_or names i [])) (is_place ∙ sym e) ∙ sym (get_or-map (method_of (own ++ m ∷ [])) names j [] d (omega arith))
          where
            passes : (f : List ℕ) (xs : List (List ℕ)) → place f xs < length xs → bytes_eq f (get_or xs (place f xs) []) ≡ true
            passes f xs low = passes_at_first (bytes_eq f) xs [] low
        step j d l is_place low long (inr other) =
            get_or-set_other t.methods.items k j m.method d other ∙ ap (λ ms. get_or ms j d) is.methods ∙ get_or-map (method_of own) names j [] d (omega arith)
            ∙ sym (other_method (get_or names j []) (apart (bytes_eq m.name (get_or names j [])) refl)) ∙ sym (get_or-map (method_of (own ++ m ∷ [])) names j [] d (omega arith))
          where
            apart : (b : Bool) → bytes_eq m.name (get_or names j []) ≡ b → b ≡ false
            apart false e = refl
            apart true e =
                let at : place m.name names ≡ j = ap (λ f. place f names) (bytes_equal m.name (get_or names j []) e) ∙ is.once j [] (omega arith) in
                absurd (other (sym at ∙ is_place))

    -- the parent does not have it
    pub added : position_in m.name above ≡ None → t'.methods.items ≡ t.methods.items ++ m.method ∷ [] → k ≡ length t.methods.items → IsTableFor above inherited (own ++ m ∷ []) t'
    added at pushed last =
        let not_above : has m.name above ≡ false = sym (position_is m.name above) ∙ ap is_some at in
        let not_there : has m.name names ≡ false = with_new_any m.name above (names_of own) ∙ ap (λ b. b || has m.name (names_of own)) not_above ∙ new_own in
        let same : with_new above (names_of (own ++ m ∷ [])) ≡ names ++ m.name ∷ [] = grown ∙ ap (λ b. if b then names else names ++ m.name ∷ []) not_there in
        let long : length t.methods.items ≡ length names = ap length is.methods ∙ length-map names (method_of own) in
        let there : has m.name (names ++ m.name ∷ []) ≡ true = list_any-append (bytes_eq m.name) names (m.name ∷ []) ∙ ap (λ b. b || (bytes_eq m.name m.name || false)) not_there ∙ ap (λ b. b || false) (bytes_eq-same m.name) in
        record {
          found = λ f j h. ap (position_in f) same ∙ elim (found_more f m.name (slots_shown t.own.entries) k j (ap (lookup (bytes_eq f)) (sym entries) ∙ h)) [
            | inl old ↦
                let before = is.found f j old in
                let in_names : has f names ≡ true = sym (position_is f names) ∙ ap is_some before in
                position_front f names (m.name ∷ []) in_names ∙ before
            | inr new ↦
                ap (λ g. position_in g (names ++ m.name ∷ [])) (bytes_equal f m.name new.0) ∙ position_some m.name (names ++ m.name ∷ []) there ∙ ap Some (place_new m.name names not_there ∙ sym long ∙ sym last ∙ new.1)
          ];
          seen = seen_now;
          once = subst AreOnce (sym same) (once_more names m.name not_there is.once);
          missing = missing_now;
          methods =
              pushed ∙ ap (λ ms. ms ++ m.method ∷ []) (is.methods ∙ map_same (method_of own) (method_of (own ++ m ∷ [])) names (λ f h. sym (other_method f (apart f h not_there (bytes_eq m.name f) refl))))
              ∙ ap (λ x. map (method_of (own ++ m ∷ [])) names ++ x ∷ []) (sym new_method) ∙ sym (map-append (method_of (own ++ m ∷ [])) names (m.name ∷ [])) ∙ ap (map (method_of (own ++ m ∷ []))) (sym same);
        }
      where
        apart : (f : List ℕ) → has f names ≡ true → has m.name names ≡ false → (b : Bool) → bytes_eq m.name f ≡ b → b ≡ false
        apart f h not_there false e = refl
        apart f h not_there true e = absurd (true≢false (sym h ∙ ap (λ g. has g names) (sym (bytes_equal m.name f e)) ∙ not_there))

-- nothing is there
