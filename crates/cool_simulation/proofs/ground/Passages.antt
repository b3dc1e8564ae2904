-- Runs that, at each marked address (the beginning of an expression), are in a state of the source run (`Passes`) compose. A run over instructions without
-- marked addresses is such a run.
use Rattle.std.proofs.Common.{◌≡◌, ℕ, zero, suc, ◌+◌, ◌-◌, ◌<◌, ◌≤◌, ◌⊎◌, inl, inr, List, Option, None, Some, Bool as Truth, true, false, refl, sym, ap, ◌∙◌, subst, arith, ◌%◌}
use Rattle.mips_isa.specs.Calls.{State as Machine, Outcome, Running, Exited, Trapped}
use Rattle.mips_isa.specs.Decoding.{decoded}
use Rattle.mips_isa.specs.Lines.{Line}
use Rattle.mips_isa.specs.Machine.{word_of_text}
use Rattle.mips_isa.specs.Run.{and_then, run}
use Rattle.mips_isa.proofs.RunsInParts.{run_sum}
use Rattle.cool_classes.specs.Chains.{Class}
use Rattle.cool_runtime.specs.Reaches.{World, Ends, Goal, Reaches, exits, stands}
use Rattle.cool_runtime.specs.Standing.{HasLines, sizes}
use Rattle.cool_simulation.specs.Loadings.{Loading, Watch, Watched, marks, watched_text, whole, whole_text}
use Rattle.cool_simulation.specs.Quiet.{IsFree}
use Rattle.cool_simulation.specs.Simulation.{Passes, Shown}
use Rattle.cool_simulation.specs.Visits.{Visit}
use Rattle.cool_simulation.proofs.ground.QuietRuns.{same_running}
use Rattle.cool_simulation.proofs.ground.QuietTexts.{lines_quiet, run_quiet}
use Rattle.mips_isa.specs.declared.address_map.TheConstants.{TEXT_START}

-- the world's text is the whole one except at the marks, where words are missing
same_word : {table : List Class} {files : List (List ℕ)} {world : World} → (h : Option (Watch table files world)) → (a : ℕ) → a % 4 ≡ 0 → TEXT_START ≤ a → marks h a ≡ false → word_of_text world.text a ≡ word_of_text (watched_text h) a
same_word None a even from free = refl
same_word (Some h) a even from free = h.same a even from free

no_word : {table : List Class} {files : List (List ℕ)} {world : World} → (h : Option (Watch table files world)) → (a : ℕ) → a % 4 ≡ 0 → TEXT_START ≤ a → marks h a ≡ true → decoded (word_of_text world.text a) ≡ None
no_word None a even from mark = absurd cc
no_word (Some h) a even from mark = h.traps a even from mark

order : (m k : ℕ) → (m < k) ⊎ (k ≤ m)
order m k = grind arith

-- words without a mark, fewer of them
pub free_within : (marked : ℕ → Truth) (from to from' to' : ℕ) → from ≤ from' → to' ≤ to → IsFree marked from to → IsFree marked from' to'
free_within marked from to from' to' a b free i even low high = free i even (omega arith) (omega arith)

module _ (l : Loading) where
  -- lines without a mark, for a run that is to pass none
  pub quiet : (lines : List Line) (pc to : ℕ) → pc + sizes lines ≤ to → IsFree (marks l.watch) pc to → HasLines (whole l) pc lines → HasLines l.world pc lines
  quiet = lines_quiet l.world (whole_text l) (marks l.watch) (same_word l.watch) (no_word l.watch)

  -- the visits of a run of so many instructions from a state
  abbrev pub Visiting : ℕ → Machine → Type 0
  Visiting k s = (m : ℕ) (t : Machine) → m < k → run (whole_text l) l.world.segments m s ≡ Running t → marks l.watch t.core.pc ≡ true → (x : Visit) × Watched l.watch x × Shown l x t

  -- a run over such lines passes no mark
  pub passes : (s : Machine) (lo hi : ℕ) (goal : Goal) → Reaches l.world s lo hi goal → Passes l s lo hi goal
  passes s lo hi goal r =
      let h = run_quiet l.world (whole_text l) (marks l.watch) (same_word l.watch) (no_word l.watch) s lo hi goal r in
      record { reaches = h.0; visits = λ m t less e mark. absurd (h.1 m t less e mark) }

  -- one instruction at a mark, where a visit is pictured
  pub passes_mark : (s : Machine) (lo : ℕ) (goal : Goal) (x : Visit) → Watched l.watch x → Shown l x s → Reaches (whole l) s lo 1 goal → Passes l s lo 1 goal
  passes_mark s lo goal x watched shown r = record { reaches = r; visits = λ m t less e mark. first m t (let within = r.within in omega arith) e }
    where
      first : (m : ℕ) (t : Machine) → m < 1 → run (whole_text l) l.world.segments m s ≡ Running t → (x : Visit) × Watched l.watch x × Shown l x t
      first zero t less e = (x, watched, subst (Shown l x) (same_running s t e) shown)
      first (suc m) t less e = absurd (omega arith)

  moved : (lo lo' m m' : ℕ) (goal : Goal) (o : Outcome) → (lo ≤ m → lo' ≤ m') → Ends (whole l) lo goal m o → Ends (whole l) lo' goal m' o
  moved lo lo' m m' goal (Running s) le e = (le e.0, e.1)
  moved lo lo' m m' goal (Exited code s) le e = e
  moved lo lo' m m' goal (Trapped trap s) le e = e

  ends_as : (lo m : ℕ) (goal goal' : Goal) (o : Outcome) → ((o : Outcome) → goal o → goal' o) → Ends (whole l) lo goal m o → Ends (whole l) lo goal' m o
  ends_as lo m goal goal' (Running s) as' e = (e.0, as' (Running s) e.1)
  ends_as lo m goal goal' (Exited code s) as' (inl e) = inl (as' (Exited code s) e)
  ends_as lo m goal goal' (Exited code s) as' (inr e) = inr e
  ends_as lo m goal goal' (Trapped trap s) as' e = e

  -- fewer at least, more at most
  pub passes_wider : (s : Machine) (lo lo' hi hi' : ℕ) (goal : Goal) → lo' ≤ lo → hi ≤ hi' → Passes l s lo hi goal → Passes l s lo' hi' goal
  passes_wider s lo lo' hi hi' goal a c r = record {
    reaches = record {
      count = r.reaches.count;
      within = omega (arith, r.reaches.within);
      ends = moved lo lo' r.reaches.count r.reaches.count goal (run (whole_text l) l.world.segments r.reaches.count s) (λ h. omega arith) r.reaches.ends;
    };
    visits = r.visits;
  }

  -- a weaker goal
  pub passes_weaker : (s : Machine) (lo hi : ℕ) (goal goal' : Goal) → ((o : Outcome) → goal o → goal' o) → Passes l s lo hi goal → Passes l s lo hi goal'
  passes_weaker s lo hi goal goal' as' r = record {
    reaches = record { count = r.reaches.count; within = r.reaches.within; ends = ends_as lo r.reaches.count goal goal' (run (whole_text l) l.world.segments r.reaches.count s) as' r.reaches.ends };
    visits = r.visits;
  }

  visiting_then : (s t : Machine) (k j : ℕ) → run (whole_text l) l.world.segments k s ≡ Running t → Visiting k s → Visiting j t → Visiting (k + j) s
  visiting_then s t k j e first more m u less is mark = by (order m k)
    where
      by : (m < k) ⊎ (k ≤ m) → (x : Visit) × Watched l.watch x × Shown l x u
      by (inl before) = first m u before is mark
      by (inr le) =
          let i = m - k in
          let sum : m ≡ k + i = omega arith in
          more i u (omega arith) (sym (ap (λ o. and_then o (run (whole_text l) l.world.segments i)) e) ∙ sym (run_sum (whole_text l) l.world.segments k i s) ∙ sym (ap (λ n. run (whole_text l) l.world.segments n s) sum) ∙ is) mark

  then_from : (s : Machine) (k lo hi lo' hi' : ℕ) (P : Machine → Type 0) (goal : Goal) (o : Outcome) → k ≤ hi → run (whole_text l) l.world.segments k s ≡ o → Ends (whole l) lo (stands P) k o → Visiting k s
      → ((t : Machine) → P t → Passes l t lo' hi' goal) → Passes l s (lo + lo') (hi + hi') goal
  then_from s k lo hi lo' hi' P goal (Running t) within e h first next =
      let r = next t h.1 in
      let j = r.reaches.count in
      let on : run (whole_text l) l.world.segments (k + j) s ≡ run (whole_text l) l.world.segments j t = run_sum (whole_text l) l.world.segments k j s ∙ ap (λ o. and_then o (run (whole_text l) l.world.segments j)) e in
      record {
        reaches = record {
          count = k + j;
          within = omega (arith, r.reaches.within);
          ends = subst (Ends (whole l) (lo + lo') goal (k + j)) (sym on) (moved lo' (lo + lo') j (k + j) goal (run (whole_text l) l.world.segments j t) (λ le. omega (arith, h.0)) r.reaches.ends);
        };
        visits = visiting_then s t k j e first r.visits;
      }
  then_from s k lo hi lo' hi' P goal (Exited code t) within e (inl h) first next = absurd h
  then_from s k lo hi lo' hi' P goal (Exited code t) within e (inr h) first next =
      record { reaches = record { count = k; within = omega arith; ends = subst (Ends (whole l) (lo + lo') goal k) (sym e) (inr h) }; visits = first }
  then_from s k lo hi lo' hi' P goal (Trapped trap t) within e h first next = absurd h

  -- one stretch after another
  pub passes_then : (s : Machine) (lo hi lo' hi' : ℕ) (P : Machine → Type 0) (goal : Goal) → Passes l s lo hi (stands P) → ((t : Machine) → P t → Passes l t lo' hi' goal) → Passes l s (lo + lo') (hi + hi') goal
  passes_then s lo hi lo' hi' P goal r next =
      then_from s r.reaches.count lo hi lo' hi' P goal (run (whole_text l) l.world.segments r.reaches.count s) r.reaches.within refl r.reaches.ends r.visits next

  -- one stretch after another, of which no least number of instructions is said
  pub passes_next : (s : Machine) (hi hi' n : ℕ) (P : Machine → Type 0) (goal : Goal) → Passes l s 0 hi (stands P) → hi + hi' ≤ n → ((t : Machine) → P t → Passes l t 0 hi' goal) → Passes l s 0 n goal
  passes_next s hi hi' n P goal r le more = passes_wider s (0 + 0) 0 (hi + hi') n goal (omega arith) le (passes_then s 0 hi 0 hi' P goal r more)

  exit_as : (n : ℕ) (P Q : Machine → Type 0) → ((t : Machine) → P t → Q t) → (o : Outcome) → exits n P o → exits n Q o
  exit_as n P Q as' (Running s) h = h
  exit_as n P Q as' (Exited code s) h = (h.0, as' s h.1)
  exit_as n P Q as' (Trapped trap s) h = h

  pub passes_exits : (s : Machine) (lo hi n : ℕ) (P Q : Machine → Type 0) → ((t : Machine) → P t → Q t) → Passes l s lo hi (exits n P) → Passes l s lo hi (exits n Q)
  passes_exits s lo hi n P Q as' r = passes_weaker s lo hi (exits n P) (exits n Q) (exit_as n P Q as') r

-- If nothing is watched, the text is whole, and nothing is required of visits.

text_whole : {table : List Class} {files : List (List ℕ)} {world : World} (h : Option (Watch table files world)) → h ≡ None → watched_text h ≡ world.text
text_whole None e = refl
text_whole (Some h) e = absurd cc

any_visit : {table : List Class} {files : List (List ℕ)} {world : World} (h : Option (Watch table files world)) → h ≡ None → (x : Visit) → Watched h x
any_visit None e x = tt
any_visit (Some h) e x = absurd cc

module _ (l : Loading) (none : l.watch ≡ None) where
  pub unwatched : (x : Visit) → Watched l.watch x
  unwatched = any_visit l.watch none

  -- the world with the whole text is the world itself
  pub whole_is : whole l ≡ l.world
  whole_is = ap (λ (text : List ℕ). record l.world { text = text }) (text_whole l.watch none)

  pub plain : (s : Machine) (lo hi : ℕ) (goal : Goal) → Passes l s lo hi goal → Reaches l.world s lo hi goal
  plain s lo hi goal r = subst (λ (w : World). Reaches w s lo hi goal) whole_is r.reaches

  pub plain_lines : (pc : ℕ) (lines : List Line) → HasLines (whole l) pc lines → HasLines l.world pc lines
  plain_lines pc lines h = subst (λ (w : World). HasLines w pc lines) whole_is h
