-- The bytes of a label determine its sort, its class and its numbers, so labels of different things have different names.
use Rattle.std.proofs.Common.{◌≡◌, ℕ, zero, suc, ◌-◌, ◌^◌, ◌<◌, List, [], ◌∷◌, ◌++◌, length}
use Rattle.std.proofs.Common.{take, get_or, Bool, true, false, ◌&&◌, ◌||◌, refl, sym, ap}
use Rattle.std.proofs.Common.{◌∙◌, arith, true≢false, decimal, All, length-append}
use Rattle.std.specs.Prelude.{nat_eq, bytes_eq, codes, if◌then◌else◌}
use Rattle.std.specs.List.{list_all, list_any, position_or_len}
use Rattle.std.specs.Int.{IsInRange}
use Rattle.std.specs.Str.Parse.{digits_value}
use Rattle.std.proofs.Math.Seq.{take-append_seam}
use Rattle.std.proofs.lemmas.Fmt.{decimal_is_IsNumeral}
use Rattle.std.proofs.lemmas.Str.Parse.{digit_at}
use Rattle.std.proofs.lemmas.List.Elements.{All-head, All-tail, All-from_get_or}
use Rattle.std.proofs.lemmas.List.Folds.{list_any-append}
use Rattle.mips_isa.specs.Lines.{Name}
use Rattle.cool_syntax.specs.Lexemes.{is_capital, is_digit, is_in_word}
use Rattle.cool_codegen.specs.Labels.{inner}

-- the bytes before the first one of a kind, and those after it

abbrev pub has : ℕ → List ℕ → Bool
has b = list_any (λ c. nat_eq c b)

abbrev pub before : ℕ → List ℕ → List ℕ
before b [] = []
before b (c ∷ cs) = if nat_eq c b then [] else c ∷ before b cs

abbrev pub after : ℕ → List ℕ → List ℕ
after b [] = []
after b (c ∷ cs) = if nat_eq c b then cs else after b cs

-- the same if the byte is not in the text before it
pub before_first : (b : ℕ) (xs ys : List ℕ) → has b xs ≡ false → before b (xs ++ b ∷ ys) ≡ xs
before_first b [] ys h = let e : nat_eq b b ≡ true = grind arith in rw e refl
before_first b (x ∷ xs) ys h = by (nat_eq x b) refl h (before_first b xs ys)
  where
    by : (t : Bool) → nat_eq x b ≡ t → (t || has b xs) ≡ false → (has b xs ≡ false → before b (xs ++ b ∷ ys) ≡ xs)
        → before b (x ∷ xs ++ b ∷ ys) ≡ x ∷ xs
    by true e h rest = absurd (true≢false h)
    by false e h rest = rw e (ap (λ (zs : List ℕ). x ∷ zs) (rest h))

pub after_first : (b : ℕ) (xs ys : List ℕ) → has b xs ≡ false → after b (xs ++ b ∷ ys) ≡ ys
after_first b [] ys h = let e : nat_eq b b ≡ true = grind arith in rw e refl
after_first b (x ∷ xs) ys h = by (nat_eq x b) refl h (after_first b xs ys)
  where
    by : (t : Bool) → nat_eq x b ≡ t → (t || has b xs) ≡ false → (has b xs ≡ false → after b (xs ++ b ∷ ys) ≡ ys)
        → after b (x ∷ xs ++ b ∷ ys) ≡ ys
    by true e h rest = absurd (true≢false h)
    by false e h rest = rw e (rest h)

-- the digits at the end, and what stands before them

abbrev pub stem : List ℕ → List ℕ
stem [] = []
stem (c ∷ cs) = if list_all is_digit (c ∷ cs) then [] else c ∷ stem cs

abbrev pub last_digits : List ℕ → List ℕ
last_digits [] = []
last_digits (c ∷ cs) = if list_all is_digit (c ∷ cs) then c ∷ cs else last_digits cs

-- a list of only digits has nothing before them
pub stem_of_digits : (ds : List ℕ) → list_all is_digit ds ≡ true → stem ds ≡ []
stem_of_digits [] h = refl
stem_of_digits (d ∷ ds) h = rw h refl

pub last_of_digits : (ds : List ℕ) → list_all is_digit ds ≡ true → last_digits ds ≡ ds
last_of_digits [] h = refl
last_of_digits (d ∷ ds) h = rw h refl

-- bytes from 48 to 57 are digits
digit_range : (b : ℕ) → IsInRange 48 57 b → is_digit b ≡ true
digit_range b h = grind arith

-- so a number has only digits, which determine it
all_digits : (ds : List ℕ) → All (IsInRange 48 57) ds → list_all is_digit ds ≡ true
all_digits [] h = refl
all_digits (d ∷ ds) h = rw (digit_range d (All-head (IsInRange 48 57) d ds h)) (all_digits ds (All-tail (IsInRange 48 57) d ds h))

pub digits_only : (n : ℕ) → n < 2 ^ 64 → list_all is_digit (decimal n) ≡ true
digits_only n fits =
    all_digits (decimal n)
    (All-from_get_or (IsInRange 48 57) (decimal n) 0 (λ i h. digit_at (decimal n) i (decimal_is_IsNumeral n fits).0.1 h))

pub number_read : (n : ℕ) → n < 2 ^ 64 → digits_value 10 (decimal n) ≡ n
number_read n fits = (decimal_is_IsNumeral n fits).1

-- a number has no underscore
pub no_underscore : (ds : List ℕ) → list_all is_digit ds ≡ true → has 95 ds ≡ false
no_underscore [] h = refl
no_underscore (d ∷ ds) h = by (is_digit d) refl h (no_underscore ds)
  where
    by : (t : Bool) → is_digit d ≡ t → (t && list_all is_digit ds) ≡ true
        → (list_all is_digit ds ≡ true → has 95 ds ≡ false) → has 95 (d ∷ ds) ≡ false
    by true e h rest = let other : nat_eq d 95 ≡ false = grind arith in rw other (rest h)
    by false e h rest = absurd (true≢false (sym h))

-- the last byte, and a name without so many of its last bytes

abbrev pub last_byte : List ℕ → ℕ
last_byte [] = 0
last_byte (c ∷ []) = c
last_byte (c ∷ d ∷ cs) = last_byte (d ∷ cs)

abbrev pub without : ℕ → List ℕ → List ℕ
without n x = take (length x - n) x

-- the last byte of a text and one after it
pub last_of_append : (xs : List ℕ) (b : ℕ) (bs : List ℕ) → last_byte (xs ++ b ∷ bs) ≡ last_byte (b ∷ bs)
last_of_append [] b bs = refl
last_of_append (x ∷ []) b bs = refl
last_of_append (x ∷ y ∷ xs) b bs = last_of_append (y ∷ xs) b bs

pub without_end : (xs ys : List ℕ) → without (length ys) (xs ++ ys) ≡ xs
without_end xs ys =
    let l : length (xs ++ ys) - length ys ≡ length xs = omega (arith, length-append xs ys) in
    ap (λ n. take n (xs ++ ys)) l ∙ take-append_seam xs ys

-- a word: a capital letter, and then letters, digits and underscores
pub record IsWord (name : List ℕ) : Type 0 where
  pub first : ℕ
  pub rest : List ℕ
  pub is : name ≡ first ∷ rest
  pub capital : is_capital first ≡ true
  pub word : list_all is_in_word rest ≡ true

-- whether the first byte is a capital letter
abbrev pub starts_capital : List ℕ → Bool
starts_capital [] = false
starts_capital (b ∷ bs) = is_capital b

pub word_starts : (name ys : List ℕ) → IsWord name → starts_capital (name ++ ys) ≡ true
word_starts name ys w = ap (λ (xs : List ℕ). starts_capital (xs ++ ys)) w.is ∙ w.capital

-- a word has no dot
no_dot_in : (bs : List ℕ) → list_all is_in_word bs ≡ true → has 46 bs ≡ false
no_dot_in [] h = refl
no_dot_in (b ∷ bs) h = by (is_in_word b) refl h (no_dot_in bs)
  where
    by : (t : Bool) → is_in_word b ≡ t → (t && list_all is_in_word bs) ≡ true
        → (list_all is_in_word bs ≡ true → has 46 bs ≡ false) → has 46 (b ∷ bs) ≡ false
    by true e h rest = let other : nat_eq b 46 ≡ false = grind arith in rw other (rest h)
    by false e h rest = absurd (true≢false (sym h))

pub no_dot : (name : List ℕ) → IsWord name → has 46 name ≡ false
no_dot name w =
    let b = w.first in
    let c : is_capital b ≡ true = w.capital in
    let other : nat_eq b 46 ≡ false = grind arith in
    ap (has 46) w.is ∙ rw other (no_dot_in w.rest w.word)

no_dot_before : (name ys : List ℕ) → IsWord name → has 46 ys ≡ false → has 46 (name ++ ys) ≡ false
no_dot_before name ys w h = list_any-append (λ c. nat_eq c 46) name ys ∙ rw (no_dot name w) h

-- the kinds of labels within features

abbrev pub kinds : List (List ℕ)
kinds = codes "else" ∷ codes "end" ∷ codes "loop" ∷ codes "some" ∷ codes "fits" ∷ codes "next" ∷ []

-- the basic classes whose methods are routines
abbrev pub basic_texts : List (List ℕ)
basic_texts = codes "Object" ∷ codes "IO" ∷ codes "String" ∷ []

-- a label without the digits at its end, and its sort
pub record Stem : Type 0 where
  pub text : List ℕ
  pub sort : ℕ

abbrev pub stem_as : List ℕ → ℕ → Stem
stem_as text sort = record { text = text; sort = sort }

abbrev pub stems : List Stem
stems =
    stem_as (codes "class_nameTab") 4 ∷ stem_as (codes "class_objTab") 5
    ∷ stem_as (codes "__default_int") 8 ∷ stem_as (codes "__default_string") 9
    ∷ stem_as (codes "__name_length") 10 ∷ stem_as (codes "__name") 11
    ∷ stem_as (codes "__end") 12 ∷ stem_as (codes "__abort") 12 ∷ stem_as (codes "__newline") 12 ∷ stem_as (codes "__colon") 12
    ∷ stem_as (codes "__no_branch") 12 ∷ stem_as (codes "__stop") 12 ∷ stem_as (codes "__dispatch_text") 12
    ∷ stem_as (codes "__case_text") 12
    ∷ stem_as (codes "__division_text") 12 ∷ stem_as (codes "__substring_text") 12 ∷ stem_as (codes "__overflow_text") 12
    ∷ stem_as (codes "bool_const") 13 ∷ stem_as (codes "int_const") 14
    ∷ stem_as (codes "__length") 15 ∷ stem_as (codes "str_const") 16 ∷ stem_as (codes "heap_start") 17 ∷ []

-- the sort of the first stem with a text
abbrev pub sort_among : List Stem → List ℕ → ℕ
sort_among [] text = 0
sort_among (s ∷ ss) text = if bytes_eq s.text text then s.sort else sort_among ss text

-- the kind of a class's label, by the last byte of `_init`, `_dispTab` and `_protObj`
abbrev pub sort_of_end : ℕ → ℕ
sort_of_end b = if nat_eq b 116 then 1 else if nat_eq b 98 then 6 else if nat_eq b 106 then 7 else 0

-- The sort of a label, in the order in which the lines of a program stand: 0 a routine's; 1 an initializer; 2 a method; 3 within a feature;
-- 4 and 5 the tables by tag; 6 a dispatch table; 7 a prototype; 8 and 9 the default values; 10 and 11 the length and the name of a class;
-- 12 a text; 13 a Bool; 14 an Int; 15 and 16 the length and the bytes of a String; 17 the heap.

abbrev pub sort_of_method : List ℕ → ℕ
sort_of_method class = if list_any (bytes_eq class) basic_texts then 0 else 2

abbrev pub capital_sort : Name → ℕ
capital_sort x = if has 46 x then sort_of_method (before 46 x) else sort_of_end (last_byte x)

abbrev pub small_sort : Name → ℕ
small_sort x = if list_any (bytes_eq (before 95 x)) kinds then 3 else sort_among stems (stem x)

abbrev pub sort : Name → ℕ
sort x = if starts_capital x then capital_sort x else small_sort x

-- the name of the class of a label, and that of its method

abbrev pub class_text : Name → List ℕ
class_text x =
    if has 46 x then before 46 x
    else if nat_eq (last_byte x) 116 then without 5 x else without 8 x

abbrev pub method_text : Name → List ℕ
method_text x = after 46 x

-- the sorts of what a class is named by

pub initializer_sort : (name : List ℕ) → IsWord name → sort (name ++ codes "_init") ≡ 1
initializer_sort name w =
    rw (
      word_starts name (codes "_init") w,
      no_dot_before name (codes "_init") w refl,
      last_of_append name 95 (codes "init"),
    ) refl

pub table_sort : (name : List ℕ) → IsWord name → sort (name ++ codes "_dispTab") ≡ 6
table_sort name w =
    rw (
      word_starts name (codes "_dispTab") w,
      no_dot_before name (codes "_dispTab") w refl,
      last_of_append name 95 (codes "dispTab"),
    ) refl

pub prototype_sort : (name : List ℕ) → IsWord name → sort (name ++ codes "_protObj") ≡ 7
prototype_sort name w =
    rw (
      word_starts name (codes "_protObj") w,
      no_dot_before name (codes "_protObj") w refl,
      last_of_append name 95 (codes "protObj"),
    ) refl

pub method_sort : (name method : List ℕ) → IsWord name → list_any (bytes_eq name) basic_texts ≡ false
    → sort (name ++ (codes "." ++ method)) ≡ 2
method_sort name method w other =
    rw (
      word_starts name (codes "." ++ method) w,
      list_any-append (λ c. nat_eq c 46) name (codes "." ++ method),
      no_dot name w,
      before_first 46 name method (no_dot name w),
      other,
    ) refl

-- the class that they name

pub initializer_class : (name : List ℕ) → IsWord name → class_text (name ++ codes "_init") ≡ name
initializer_class name w =
    rw (no_dot_before name (codes "_init") w refl, last_of_append name 95 (codes "init")) (without_end name (codes "_init"))

pub table_class : (name : List ℕ) → IsWord name → class_text (name ++ codes "_dispTab") ≡ name
table_class name w =
    rw (no_dot_before name (codes "_dispTab") w refl, last_of_append name 95 (codes "dispTab"))
    (without_end name (codes "_dispTab"))

pub prototype_class : (name : List ℕ) → IsWord name → class_text (name ++ codes "_protObj") ≡ name
prototype_class name w =
    rw (no_dot_before name (codes "_protObj") w refl, last_of_append name 95 (codes "protObj"))
    (without_end name (codes "_protObj"))

pub method_class : (name method : List ℕ) → IsWord name → class_text (name ++ (codes "." ++ method)) ≡ name
method_class name method w =
    rw (list_any-append (λ c. nat_eq c 46) name (codes "." ++ method), no_dot name w) (before_first 46 name method (no_dot name w))

-- the method
pub method_is : (name method : List ℕ) → IsWord name → method_text (name ++ (codes "." ++ method)) ≡ method
method_is name method w = after_first 46 name method (no_dot name w)

-- labels with numbers at their ends

abbrev pub end_number : Name → ℕ
end_number x = digits_value 10 (last_digits x)

end_read : (n : ℕ) → n < 2 ^ 64 → digits_value 10 (last_digits (decimal n)) ≡ n
end_read n fits = ap (digits_value 10) (last_of_digits (decimal n) (digits_only n fits)) ∙ number_read n fits

module _ (n : ℕ) (fits : n < 2 ^ 64) where
  no_digits : stem (decimal n) ≡ []
  no_digits = stem_of_digits (decimal n) (digits_only n fits)

  pub name_length_sort : sort (codes "__name_length" ++ decimal n) ≡ 10
  name_length_sort = ap (λ zs. sort_among stems (codes "__name_length" ++ zs)) no_digits

  pub name_sort : sort (codes "__name" ++ decimal n) ≡ 11
  name_sort = ap (λ zs. sort_among stems (codes "__name" ++ zs)) no_digits

  pub integer_sort : sort (codes "int_const" ++ decimal n) ≡ 14
  integer_sort = ap (λ zs. sort_among stems (codes "int_const" ++ zs)) no_digits

  pub length_sort : sort (codes "__length" ++ decimal n) ≡ 15
  length_sort = ap (λ zs. sort_among stems (codes "__length" ++ zs)) no_digits

  pub string_sort : sort (codes "str_const" ++ decimal n) ≡ 16
  string_sort = ap (λ zs. sort_among stems (codes "str_const" ++ zs)) no_digits

  pub name_length_number : end_number (codes "__name_length" ++ decimal n) ≡ n
  name_length_number = end_read n fits

  pub name_number : end_number (codes "__name" ++ decimal n) ≡ n
  name_number = end_read n fits

  pub integer_number : end_number (codes "int_const" ++ decimal n) ≡ n
  integer_number = end_read n fits

  pub length_number : end_number (codes "__length" ++ decimal n) ≡ n
  length_number = end_read n fits

  pub string_number : end_number (codes "str_const" ++ decimal n) ≡ n
  string_number = end_read n fits

-- labels within features: their kind, and the numbers of the class, the feature and the node

pub record IsKind (place : ℕ) (kind : List ℕ) : Type 0 where
  pub small : (ys : List ℕ) → starts_capital (kind ++ ys) ≡ false
  pub plain : has 95 kind ≡ false
  pub listed : list_any (bytes_eq kind) kinds ≡ true
  pub stands : position_or_len (bytes_eq kind) kinds ≡ place

pub kind_at : (k : ℕ) → k < 6 → IsKind k (get_or kinds k [])
kind_at zero l = record { small = λ ys. refl; plain = refl; listed = refl; stands = refl }
kind_at (suc zero) l = record { small = λ ys. refl; plain = refl; listed = refl; stands = refl }
kind_at (suc (suc zero)) l = record { small = λ ys. refl; plain = refl; listed = refl; stands = refl }
kind_at (suc (suc (suc zero))) l = record { small = λ ys. refl; plain = refl; listed = refl; stands = refl }
kind_at (suc (suc (suc (suc zero)))) l = record { small = λ ys. refl; plain = refl; listed = refl; stands = refl }
kind_at (suc (suc (suc (suc (suc zero))))) l = record { small = λ ys. refl; plain = refl; listed = refl; stands = refl }
kind_at (suc (suc (suc (suc (suc (suc k)))))) l = absurd (omega arith)

abbrev pub inner_kind : Name → ℕ
inner_kind x = position_or_len (bytes_eq (before 95 x)) kinds

abbrev pub inner_class : Name → ℕ
inner_class x = digits_value 10 (before 95 (after 95 x))

abbrev pub inner_feature : Name → ℕ
inner_feature x = digits_value 10 (before 95 (after 95 (after 95 x)))

abbrev pub inner_node : Name → ℕ
inner_node x = digits_value 10 (after 95 (after 95 (after 95 x)))

module _ (place : ℕ) (kind : List ℕ) (is : IsKind place kind) (class feature node : ℕ) where
  rest : List ℕ
  rest = decimal class ++ (codes "_" ++ (decimal feature ++ (codes "_" ++ decimal node)))

  pub inner_sort : sort (inner kind class feature node) ≡ 3
  unfolding rest
  inner_sort = rw (is.small (95 ∷ rest), before_first 95 kind rest is.plain, is.listed) refl

  pub inner_small : starts_capital (inner kind class feature node) ≡ false
  unfolding rest
  inner_small = is.small (95 ∷ rest)

  pub kind_is : inner_kind (inner kind class feature node) ≡ place
  unfolding rest
  kind_is = ap (λ zs. position_or_len (bytes_eq zs) kinds) (before_first 95 kind rest is.plain) ∙ is.stands

  module _ (few : class < 2 ^ 64) where
    class_plain : has 95 (decimal class) ≡ false
    class_plain = no_underscore (decimal class) (digits_only class few)

    after_kind : after 95 (inner kind class feature node) ≡ rest
    unfolding rest
    after_kind = after_first 95 kind rest is.plain

    pub class_is : inner_class (inner kind class feature node) ≡ class
    unfolding rest
    class_is =
        ap (λ zs. digits_value 10 (before 95 zs)) after_kind
        ∙ ap (digits_value 10) (before_first 95 (decimal class) (decimal feature ++ (codes "_" ++ decimal node)) class_plain)
        ∙ number_read class few

    after_class : after 95 (after 95 (inner kind class feature node)) ≡ decimal feature ++ (codes "_" ++ decimal node)
    unfolding rest
    after_class = ap (after 95) after_kind ∙ after_first 95 (decimal class) (decimal feature ++ (codes "_" ++ decimal node)) class_plain

    module _ (few_features : feature < 2 ^ 64) where
      feature_plain : has 95 (decimal feature) ≡ false
      feature_plain = no_underscore (decimal feature) (digits_only feature few_features)

      pub feature_is : inner_feature (inner kind class feature node) ≡ feature
      feature_is =
          ap (λ zs. digits_value 10 (before 95 zs)) after_class
          ∙ ap (digits_value 10) (before_first 95 (decimal feature) (decimal node) feature_plain) ∙ number_read feature few_features

      pub node_is : node < 2 ^ 64 → inner_node (inner kind class feature node) ≡ node
      node_is few_nodes =
          ap (λ zs. digits_value 10 (after 95 zs)) after_class
          ∙ ap (digits_value 10) (after_first 95 (decimal feature) (decimal node) feature_plain) ∙ number_read node few_nodes
