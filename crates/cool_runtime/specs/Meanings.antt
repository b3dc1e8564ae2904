-- `Means` defines the effect of each run-time routine: a run of its code leads from the memory and registers at entry to those at exit, within a stated number
-- of instructions, or exits by a limit of heap or stack.
use Rattle.mips_isa.specs.declared.register.TheConstants.{T8, T9}
use Rattle.cool_runtime.specs.Comparison.{Operands, ValueAt, Verdict, constant_place}
use Rattle.cool_runtime.specs.Contents.{IntAt, StringAt, TextAt, Lies, Tagged, Prototypes, NameAt}
use Rattle.cool_runtime.specs.Labels.{name_table, type_name, abort, case_abort, abort_text, newline_text, no_branch_text, stop_text, colon_text, copy, int_prototype, string_prototype, equality, main_prototype, main_init, main_main, end_text, int_table, string_concat, string_substr, substr_abort, dispatch_abort, div_abort, heap_limit, stack_limit, in_string, in_int, out_int, out_string, string_length}
use Rattle.cool_runtime.specs.Machines.{At, Pointers, Console, got, with_int, with_string_head, with_cut, wrote, EndsWith, with_copy, Returned, line_asked, with_text, with_joined}
use Rattle.cool_runtime.specs.Premises.{Limits}
use Rattle.cool_runtime.specs.Reaches.{World, Reaches, stands, OnTheWay, exits}
use Rattle.cool_runtime.specs.RoutineLabels.{case_void, overflow_abort, dispatch_text, case_text, division_text, substring_text, overflow_text}
use Rattle.cool_runtime.specs.RoutineLines.{routine_lines}
use Rattle.cool_runtime.specs.declared.catalogue.Routine.{Routine}
use Rattle.cool_runtime.specs.declared.catalogue.Routine.TheVariants as routines
use Rattle.cool_runtime.specs.Standing.{HasLines}
use Rattle.mips_isa.specs.declared.address_map.TheConstants.{STACK_END}
use Rattle.mips_isa.specs.Assembly.{start_name}
use Rattle.mips_isa.specs.Bytes.{Bytes, word}
use Rattle.mips_isa.specs.Calls.{State, Taken, signed, asked_line, number_of}
use Rattle.mips_isa.specs.Lines.{Name}
use Rattle.std.specs.Fmt.{signed_decimal}
use Rattle.std.specs.Prelude.{◌≡◌, ℕ, ◌+◌, ◌*◌, ◌/◌, ◌^◌, ◌<◌, ◌≤◌, ◌⊎◌, List, ◌++◌, length, Bool}
use Rattle.lists.specs.Bytes.{AreBytes}

-- the Int at the top of the stack is written
abbrev pub WritesInt : World → Type 0
WritesInt w = (p : Pointers) (m : Bytes) (c : Console) (s : State) (v : ℕ)
    → HasLines w (w.place out_int) (routine_lines routines.OutInt) → At w p m c s → p.pc ≡ w.place out_int → p.sp + 4 ≤ STACK_END → IntAt w m p.gp (word m p.sp) v
    → Reaches w s 0 8 (stands (At w (record p { pc = p.ra; sp = p.sp + 4 }) m (wrote c (signed_decimal (signed v)))))

-- the String at the top of the stack is written
abbrev pub WritesString : World → Type 0
WritesString w = (p : Pointers) (m : Bytes) (c : Console) (s : State) (bytes : List ℕ)
    → HasLines w (w.place out_string) (routine_lines routines.OutString) → At w p m c s → p.pc ≡ w.place out_string → p.sp + 4 ≤ STACK_END → StringAt w m p.gp (word m p.sp) bytes
    → Reaches w s 0 8 (stands (At w (record p { pc = p.ra; sp = p.sp + 4 }) m (wrote c bytes)))

-- a line is taken, and its number is the result
abbrev pub ReadsInt : World → Type 0
ReadsInt w = (p : Pointers) (m : Bytes) (c : Console) (s : State) (t : Taken) → Limits w → HasLines w (w.place in_int) (routine_lines routines.InInt) → At w p m c s → p.pc ≡ w.place in_int
    → IntAt w m p.gp (w.place int_prototype) 0 → asked_line c.ended c.input ≡ t → p.gp + 20 ≤ w.top → OnTheWay w c.output t.rest
    → Reaches w s 0 24 (stands (At w (record p { pc = p.ra; gp = p.gp + 20; acc = p.gp + 4 }) (with_int m p.gp w.tags.int (w.place int_table) (number_of t.got)) (got c t)))

-- a line is taken, and its String is the result
abbrev pub ReadsString : World → Type 0
ReadsString w = (p : Pointers) (m : Bytes) (c : Console) (s : State) (other : List ℕ) (line : Taken) → Limits w → HasLines w (w.place in_string) (routine_lines routines.InString) → At w p m c s
    → p.pc ≡ w.place in_string → AreBytes c.input → line_asked c.ended c.input ≡ line → IntAt w m p.gp (w.place int_prototype) 0 → StringAt w m p.gp (w.place string_prototype) other
    → let n = length line.got in p.gp + 44 + 4 * (n / 4) ≤ w.top → OnTheWay w c.output line.rest
    → Reaches w s 0 (11 * n + 48) (stands (At w (record p { pc = p.ra; gp = p.gp + 44 + 4 * (n / 4); acc = p.gp + 24 }) (with_string_head w (with_text m p.gp line.got) p.gp n) (got c line)))

-- the Int of a String's length is the result
abbrev pub GivesLength : World → Type 0
GivesLength w = (p : Pointers) (m : Bytes) (c : Console) (s : State) (bytes : List ℕ) → HasLines w (w.place string_length) (routine_lines routines.Length) → At w p m c s → p.pc ≡ w.place string_length → StringAt w m p.gp p.acc bytes
    → Reaches w s 0 2 (stands (At w (record p { pc = p.ra; acc = word m (p.acc + 12) }) m c))

-- an object is copied
abbrev pub Copies : World → Type 0
Copies w = (p : Pointers) (m : Bytes) (c : Console) (s : State) (size : ℕ) → Limits w → HasLines w (w.place copy) (routine_lines routines.Copy) → At w p m c s → p.pc ≡ w.place copy
    → Lies w p.gp p.acc (4 * size) → 3 ≤ size → word m (p.acc + 4) ≡ size → p.gp + 4 * size + 4 ≤ w.top → OnTheWay w c.output c.input
    → Reaches w s 0 (7 * size + 16) (stands (At w (record p { pc = p.ra; gp = p.gp + 4 * size + 4; acc = p.gp + 4 }) (with_copy m p.gp p.acc size) c))

-- two Strings are joined
abbrev pub Joins : World → Type 0
Joins w = (p : Pointers) (m : Bytes) (c : Console) (s : State) (xs ys other : List ℕ) → Limits w → HasLines w (w.place string_concat) (routine_lines routines.Concat) → At w p m c s
    → p.pc ≡ w.place string_concat → p.sp + 4 ≤ STACK_END → StringAt w m p.gp p.acc xs → StringAt w m p.gp (word m p.sp) ys
    → IntAt w m p.gp (w.place int_prototype) 0 → StringAt w m p.gp (w.place string_prototype) other
    → let n = length xs + length ys in p.gp + 44 + 4 * (n / 4) ≤ w.top → OnTheWay w c.output c.input
    → Reaches w s 0 (8 * n + 65) (stands (At w (record p { pc = p.ra; gp = p.gp + 44 + 4 * (n / 4); sp = p.sp + 4; acc = p.gp + 24 })
    (with_joined w m p.gp p.acc (word m p.sp) (length xs) (length ys)) c))

-- a part of a String is copied
abbrev pub Cuts : World → Type 0
Cuts w = (p : Pointers) (m : Bytes) (c : Console) (s : State) (xs other : List ℕ) (i l : ℕ) → Limits w → HasLines w (w.place string_substr) (routine_lines routines.Substr) → At w p m c s
    → p.pc ≡ w.place string_substr → p.sp + 8 ≤ STACK_END → StringAt w m p.gp p.acc xs → IntAt w m p.gp (word m (p.sp + 4)) i → IntAt w m p.gp (word m p.sp) l → i + l ≤ length xs
    → IntAt w m p.gp (w.place int_prototype) 0 → StringAt w m p.gp (w.place string_prototype) other → p.gp + 44 + 4 * (l / 4) ≤ w.top → OnTheWay w c.output c.input
    → Reaches w s 0 (8 * l + 64) (stands (At w (record p { pc = p.ra; gp = p.gp + 44 + 4 * (l / 4); sp = p.sp + 8; acc = p.gp + 24 }) (with_cut w m p.gp p.acc i l) c))

-- a part that does not lie within the String is refused
abbrev pub RefusesToCut : World → Type 0
RefusesToCut w = (p : Pointers) (m : Bytes) (c : Console) (s : State) (xs : List ℕ) (i l : ℕ) → HasLines w (w.place string_substr) (routine_lines routines.Substr) → At w p m c s → p.pc ≡ w.place string_substr → p.sp + 8 ≤ STACK_END
    → StringAt w m p.gp p.acc xs → IntAt w m p.gp (word m (p.sp + 4)) i → IntAt w m p.gp (word m p.sp) l → length xs < i + l
    → Reaches w s 0 13 (stands (λ t. At w (record p { pc = w.place substr_abort }) m c t × (t.core.registers T8 ≡ s.core.registers T8) × (t.core.registers T9 ≡ s.core.registers T9)))

-- two values are compared
abbrev pub Compares : World → Type 0
Compares w = (p : Pointers) (m : Bytes) (c : Console) (s : State) (a b ta tb v u : ℕ) (xs ys : List ℕ) → HasLines w (w.place equality) (routine_lines routines.Equal) → Operands w p m c a b s → p.pc ≡ w.place equality
    → ((a ≡ 0 → ⊥) → Tagged w m p.gp a ta) → ((b ≡ 0 → ⊥) → Tagged w m p.gp b tb) → Prototypes w m p.gp
    → (ta ≡ tb → (ta ≡ w.tags.int) ⊎ (ta ≡ w.tags.bool) → ValueAt w m p.gp a v × ValueAt w m p.gp b u) → (ta ≡ tb → ta ≡ w.tags.string → StringAt w m p.gp a xs × StringAt w m p.gp b ys)
    → Reaches w s 0 (10 * length xs + 47) (stands (λ r. (t : Bool) × (Verdict w a b ta tb v u xs ys t × At w (record p { pc = p.ra; acc = constant_place w t }) m c r)))

-- the name of an object's class is the result
abbrev pub GivesTypeName : World → Type 0
GivesTypeName w = (p : Pointers) (m : Bytes) (c : Console) (s : State) (tag : ℕ) (name : List ℕ) → HasLines w (w.place type_name) (routine_lines routines.TypeName) → At w p m c s → p.pc ≡ w.place type_name
    → Tagged w m p.gp p.acc tag → NameAt w m p.gp tag name
    → Reaches w s 0 8 (stands (At w (record p { pc = p.ra; acc = word m (w.place name_table + 4 * tag) }) m c))

-- the end by `abort`
abbrev pub EndsByAbort : World → Type 0
EndsByAbort w = (p : Pointers) (m : Bytes) (c : Console) (s : State) (tag : ℕ) (name first last : List ℕ) → HasLines w (w.place abort) (routine_lines routines.Abort) → At w p m c s → p.pc ≡ w.place abort
    → Tagged w m p.gp p.acc tag → NameAt w m p.gp tag name → TextAt w m (w.place abort_text) first → TextAt w m (w.place newline_text) last
    → Reaches w s 0 18 (exits 3 (EndsWith c (first ++ (name ++ last))))

-- the end by an error at a place, of a routine with the name and the text of its labels
abbrev pub EndsByError : World → Routine → Name → Name → Type 0
EndsByError w routine name text = (p : Pointers) (m : Bytes) (c : Console) (s : State) (file colon words : List ℕ) (line : ℕ) → HasLines w (w.place name) (routine_lines routine) → At w p m c s → p.pc ≡ w.place name
    → StringAt w m p.gp (s.core.registers T8) file → s.core.registers T9 ≡ line → line < 2 ^ 32 → TextAt w m (w.place colon_text) colon → TextAt w m (w.place text) words
    → Reaches w s 0 16 (exits 3 (EndsWith c (file ++ (colon ++ (signed_decimal (signed line) ++ words)))))

-- the end of a case without a branch
abbrev pub EndsByNoBranch : World → Type 0
EndsByNoBranch w = (p : Pointers) (m : Bytes) (c : Console) (s : State) (tag line : ℕ) (name file colon first last : List ℕ) → HasLines w (w.place case_abort) (routine_lines routines.NoBranch) → At w p m c s → p.pc ≡ w.place case_abort
    → Tagged w m p.gp p.acc tag → NameAt w m p.gp tag name → StringAt w m p.gp (s.core.registers T8) file → s.core.registers T9 ≡ line → line < 2 ^ 32
    → TextAt w m (w.place colon_text) colon → TextAt w m (w.place no_branch_text) first → TextAt w m (w.place stop_text) last
    → Reaches w s 0 27 (exits 3 (EndsWith c ((file ++ (colon ++ signed_decimal (signed line))) ++ (first ++ (name ++ last)))))

-- the end by a limit, of a routine with the name of its label and the code of its exit
abbrev pub EndsByLimit : World → Routine → Name → ℕ → Type 0
EndsByLimit w routine name code = (p : Pointers) (m : Bytes) (c : Console) (s : State) → HasLines w (w.place name) (routine_lines routine) → At w p m c s → p.pc ≡ w.place name
    → Reaches w s 0 3 (exits code (λ t. (t.output ≡ c.output) × (t.input ≡ c.input)))

-- the start of a program
abbrev pub StartsMain : World → Type 0
StartsMain w = (p : Pointers) (m : Bytes) (c c1 c2 : Console) (s : State) (size init main : ℕ) (words : List ℕ) → Limits w → HasLines w (w.place start_name) (routine_lines routines.Start) → HasLines w (w.place copy) (routine_lines routines.Copy)
    → At w p m c s → p.pc ≡ w.place start_name → Lies w p.gp (w.place main_prototype) (4 * size) → 3 ≤ size → word m (w.place main_prototype + 4) ≡ size → p.gp + 4 * size + 4 ≤ w.top → OnTheWay w c.output c.input
    → ((t : State) → At w (record p { pc = w.place main_init; gp = p.gp + 4 * size + 4; acc = p.gp + 4; ra = p.pc + 12 + 4 }) (with_copy m p.gp (w.place main_prototype) size) c t
    → Reaches w t 0 init (stands (Returned w (record p { pc = w.place main_init; gp = p.gp + 4 * size + 4; acc = p.gp + 4; ra = p.pc + 12 + 4 }) c1)))
    → ((gp acc : ℕ) (m' : Bytes) (t : State) → At w (record p { pc = w.place main_main; gp = gp; acc = acc; ra = p.pc + 12 + 4 + 4 }) m' c1 t
    → Reaches w t 0 main (stands (λ u. (r : Returned w (record p { pc = w.place main_main; gp = gp; acc = acc; ra = p.pc + 12 + 4 + 4 }) c2 u) × TextAt w r.memory (w.place end_text) words)))
    → Reaches w s 0 (7 * size + init + main + 27) (exits 0 (EndsWith c2 words))

-- the effect of a routine
abbrev pub Means : World → Routine → Type 0
Means w routines.Start = StartsMain w
Means w routines.Copy = Copies w
Means w routines.Abort = EndsByAbort w
Means w routines.TypeName = GivesTypeName w
Means w routines.OutString = WritesString w
Means w routines.OutInt = WritesInt w
Means w routines.InString = ReadsString w
Means w routines.InInt = ReadsInt w
Means w routines.Length = GivesLength w
Means w routines.Concat = Joins w
Means w routines.Substr = Cuts w × RefusesToCut w
Means w routines.Equal = Compares w
Means w routines.DispatchVoid = EndsByError w routines.DispatchVoid dispatch_abort dispatch_text
Means w routines.CaseVoid = EndsByError w routines.CaseVoid case_void case_text
Means w routines.NoBranch = EndsByNoBranch w
Means w routines.DivZero = EndsByError w routines.DivZero div_abort division_text
Means w routines.SubstrRange = EndsByError w routines.SubstrRange substr_abort substring_text
Means w routines.Overflow = EndsByError w routines.Overflow overflow_abort overflow_text
Means w routines.HeapLimit = EndsByLimit w routines.HeapLimit heap_limit 4
Means w routines.StackLimit = EndsByLimit w routines.StackLimit stack_limit 5
