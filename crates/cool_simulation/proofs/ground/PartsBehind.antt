-- The changes that consecutive pieces of code make to memory, addresses and state (`Gone`) compose: the result is one such change, and the numbers of allocated
-- words add up.
use Rattle.std.proofs.Common.{◌≡◌, ℕ, ◌+◌, ◌-◌, ◌*◌, ◌/◌, ◌%◌, ◌<◌, ◌≤◌, inl, inr, ℤ, List, length, true, false, refl, ap, ◌∙◌, arith}
use Rattle.mips_isa.specs.declared.address_map.TheConstants.{HEAP_START}
use Rattle.mips_isa.specs.Bytes.{Bytes, word, set_word}
use Rattle.mips_isa.specs.Calls.{State as Machine}
use Rattle.cool_classes.specs.Chains.{Class}
use Rattle.cool_runtime.specs.Reaches.{World}
use Rattle.cool_runtime.specs.Contents.{IntAt, Same}
use Rattle.cool_runtime.specs.Labels.{int_prototype, int_table}
use Rattle.cool_runtime.specs.Machines.{At, Pointers, Console, with_int}
use Rattle.cool_runtime.proofs.Words.{byte_other, word_equal}
use Rattle.cool_runtime.proofs.Objects.{made_int}
use Rattle.cool_meaning.specs.Values.{Value, Void, Int, Bool, Str, Obj, State}
use Rattle.cool_meaning.specs.Numbers.{fits, word_of}
use Rattle.cool_simulation.specs.Loadings.{Loading}
use Rattle.cool_simulation.specs.Pictures.{Map, Pic, Pictures, Kept, Grown, Shows}
use Rattle.cool_simulation.specs.Simulation.{Done}
use Rattle.cool_simulation.proofs.ground.PicturesStay.{pic_stays, staying_of, kept_same, kept_then, not_grown, grown_then}

-- The relation between a memory, a map and a state, and later ones: all earlier data is kept, and the heap grew by at most so many words.
pub record Gone (m : Bytes) (map : Map) (st : State) (gp sp words : ℕ) (m' : Bytes) (map' : Map) (t : State) (gp' : ℕ) : Type 0 where
  pub kept : Kept m m' map.marked gp sp
  pub grown : Grown map map' st.drawn (length st.store) gp sp
  pub drawn : st.drawn ≤ t.drawn
  pub located : length st.store ≤ length t.store
  pub gp_from : gp ≤ gp'
  pub gp_to : gp' ≤ gp + 4 * words

module _ (w : World) where
  pub gone_same : (m m' : Bytes) (map : Map) (st : State) (gp gp' sp words : ℕ) → Same m m' gp sp → gp ≤ gp' → gp' ≤ gp + 4 * words → Gone m map st gp sp words m' map st gp'
  gone_same m m' map st gp gp' sp words same from to = record {
    kept = kept_same w m m' map.marked gp sp sp (omega arith) same;
    grown = not_grown w map st.drawn (length st.store) gp sp;
    drawn = omega arith;
    located = omega arith;
    gp_from = from;
    gp_to = to;
  }

  pub same_self : (m : Bytes) (gp sp : ℕ) → Same m m gp sp
  same_self m gp sp = record { below = λ q h. refl; over = λ q h. refl }

  pub gone_then : (m m1 m2 : Bytes) (map map1 map2 : Map) (st t1 t2 : State) (gp gp1 gp2 sp sp1 a b words : ℕ) → sp1 ≤ sp → sp % 4 ≡ 0 → Gone m map st gp sp a m1 map1 t1 gp1 → Gone m1 map1 t1 gp1 sp1 b m2 map2 t2 gp2
      → a + b ≤ words → Gone m map st gp sp words m2 map2 t2 gp2
  gone_then m m1 m2 map map1 map2 st t1 t2 gp gp1 gp2 sp sp1 a b words le even h k sum =
      let d1 = h.drawn in let d2 = k.drawn in let l1 = h.located in let l2 = k.located in let f1 = h.gp_from in let f2 = k.gp_from in let o1 = h.gp_to in let o2 = k.gp_to in
      record {
        kept = kept_then w m m1 m2 map map1 st.drawn (length st.store) gp gp1 sp sp1 f1 le even h.grown h.kept k.kept;
        grown = grown_then w map map1 map2 st.drawn t1.drawn (length st.store) (length t1.store) gp gp1 sp sp1 d1 l1 f1 le h.grown k.grown;
        drawn = omega arith;
        located = omega arith;
        gp_from = omega arith;
        gp_to = omega arith;
      }

  -- a picture after what was gone through
  pub pic_gone : (m m' : Bytes) (map map' : Map) (st t : State) (gp gp' sp words : ℕ) (v : Value) (a : ℕ) → Gone m map st gp sp words m' map' t gp' → Pic w m map st.drawn gp v a → Pic w m' map' t.drawn gp' v a
  pic_gone m m' map map' st t gp gp' sp words v a gone pic =
      pic_stays w m m' map map' st.drawn t.drawn gp gp' v a gone.gp_from gone.drawn (staying_of w m m' map map' st.drawn (length st.store) gp sp gone.kept gone.grown) pic

  -- a word of the stack that is no home
  pub word_gone : (m m' : Bytes) (map map' : Map) (st t : State) (gp gp' sp words a : ℕ) → Gone m map st gp sp words m' map' t gp' → sp ≤ a → a % 4 ≡ 0 → map.marked (a / 4) ≡ false → word m' a ≡ word m a
  word_gone m m' map map' st t gp gp' sp words a gone from even un =
      word_equal m m' a (λ q low high. let same : q / 4 ≡ a / 4 = omega arith in gone.kept.over q (omega arith) (ap map.marked same ∙ un))

  -- a value's word has 32 bits
  pub pic_fits : (p : List Class) (loaded m : Bytes) (map : Map) (st : State) (gp sp : ℕ) (v : Value) (a : ℕ) → gp < 4294967296 → Pictures p w loaded m map st gp sp → Pic w m map st.drawn gp v a → a < 4294967296
  pic_fits p loaded m map st gp sp Void a small pictures pic = omega arith
  pic_fits p loaded m map st gp sp (Int n) a small pictures pic = let to = pic.0.lies.to in omega arith
  pic_fits p loaded m map st gp sp (Bool b) a small pictures pic = let to = pic.0.lies.to in omega arith
  pic_fits p loaded m map st gp sp (Str bytes) a small pictures pic = let to = pic.0.lies.to in omega arith
  pic_fits p loaded m map st gp sp (Obj c i ls) a small pictures pic = let to = (pictures.objects i pic.1).to in let is = pic.0 in omega arith

  -- a push keeps the rest
  pub push_same : (m : Bytes) (gp sp v : ℕ) → gp + 4 ≤ sp → Same m (set_word m (sp - 4) v) gp sp
  push_same m gp sp v room = record { below = λ q h. byte_other m (sp - 4) v q (inl (omega arith)); over = λ q h. byte_other m (sp - 4) v q (inr (omega arith)) }

  -- a new Int
  pub new_int_pic : (m : Bytes) (map : Map) (st : State) (gp sp : ℕ) (r : ℤ) (p : List Class) (loaded : Bytes) → HEAP_START ≤ gp → gp % 4 ≡ 0 → gp + 20 ≤ sp → fits r ≡ true → word_of r < 4294967296
      → IntAt w m gp (w.place int_prototype) 0 → Pictures p w loaded m map st gp sp → Pic w (with_int m gp w.tags.int (w.place int_table) (word_of r)) map st.drawn (gp + 20) (Int r) (gp + 4)
  new_int_pic m map st gp sp r p loaded from even room fit small proto pictures =
      (made_int w m gp (w.place int_prototype) (word_of r) from even small proto, fit, (λ q low high. pictures.unmarked_room (q / 4) (omega arith) (omega arith)))

module _ (l : Loading) where
  pub gone_of : (q : Pointers) (m : Bytes) (map : Map) (st : State) (words : ℕ) (v : Value) (t : State) (s : Machine) → (k : Done l q m map st words v t s) → Gone m map st q.gp q.sp words k.memory k.map' t k.gp
  gone_of q m map st words v t s k = record { kept = k.kept; grown = k.grown; drawn = k.drawn; located = k.located; gp_from = k.gp_from; gp_to = k.gp_to }

  pub done_of : (q : Pointers) (m : Bytes) (map : Map) (st : State) (words : ℕ) (v : Value) (t : State) (s : Machine) (gp acc ra : ℕ) (memory : Bytes) (map' : Map) (console : Console)
      → At l.world (record q { gp = gp; acc = acc; ra = ra }) memory console s → Shows t console → Pictures l.table l.world l.memory memory map' t gp q.sp → Pic l.world memory map' t.drawn gp v acc
      → Gone m map st q.gp q.sp words memory map' t gp → Done l q m map st words v t s
  done_of q m map st words v t s gp acc ra memory map' console at shows pictures value gone = record {
    gp = gp;
    acc = acc;
    ra = ra;
    memory = memory;
    map' = map';
    console = console;
    at = at;
    shows = shows;
    pictures = pictures;
    value = value;
    kept = gone.kept;
    grown = gone.grown;
    drawn = gone.drawn;
    located = gone.located;
    gp_from = gone.gp_from;
    gp_to = gone.gp_to;
  }

  -- a value at once
  pub done_here : (q : Pointers) (m : Bytes) (map : Map) (st : State) (words : ℕ) (v : Value) (s : Machine) (acc ra : ℕ) (console : Console) → At l.world (record q { acc = acc; ra = ra }) m console s → Shows st console
      → Pictures l.table l.world l.memory m map st q.gp q.sp → Pic l.world m map st.drawn q.gp v acc → Done l q m map st words v st s
  done_here q m map st words v s acc ra console at shows pictures value =
      done_of q m map st words v st s q.gp acc ra m map console at shows pictures value (gone_same l.world m m map st q.gp q.gp q.sp words (same_self l.world m q.gp q.sp) (omega arith) (omega arith))

  -- the code went on, with another value
  pub done_on : (q : Pointers) (m : Bytes) (map : Map) (st : State) (a words : ℕ) (v v' : Value) (t : State) (u s : Machine) (pc pc' acc ra : ℕ) → (k : Done l (record q { pc = pc }) m map st a v t u) → a ≤ words
      → At l.world (record q { pc = pc'; gp = k.gp; acc = acc; ra = ra }) k.memory k.console s → Pic l.world k.memory k.map' t.drawn k.gp v' acc → Done l (record q { pc = pc' }) m map st words v' t s
  done_on q m map st a words v v' t u s pc pc' acc ra k le at value =
      let to = k.gp_to in
      done_of (record q { pc = pc' }) m map st words v' t s k.gp acc ra k.memory k.map' k.console at k.shows k.pictures value
      (record { kept = k.kept; grown = k.grown; drawn = k.drawn; located = k.located; gp_from = k.gp_from; gp_to = omega arith })

  -- a part and then another one, which began where the first one ended
  pub done_both : (q : Pointers) (m : Bytes) (map : Map) (st : State) (a b words : ℕ) (v v' : Value) (t t' : State) (u s : Machine) (pc pc2 acc ra : ℕ) → q.sp % 4 ≡ 0 → (k : Done l (record q { pc = pc }) m map st a v t u)
      → Done l (record q { pc = pc2; gp = k.gp; acc = acc; ra = ra }) k.memory k.map' t b v' t' s → a + b ≤ words → Done l (record q { pc = pc2 }) m map st words v' t' s
  done_both q m map st a b words v v' t t' u s pc pc2 acc ra even k j sum =
      done_of (record q { pc = pc2 }) m map st words v' t' s j.gp j.acc j.ra j.memory j.map' j.console j.at j.shows j.pictures j.value
      (gone_then l.world m k.memory j.memory map k.map' j.map' st t t' q.gp k.gp j.gp q.sp q.sp a b words (omega arith) even (gone_of (record q { pc = pc }) m map st a v t u k)
      (gone_of (record q { pc = pc2; gp = k.gp; acc = acc; ra = ra }) k.memory k.map' t b v' t' s j) sum)
