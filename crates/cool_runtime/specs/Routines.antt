-- The run-time routines in assembly, line by line: input and output, copies, strings, comparison and errors. The last argument is at $sp, and the routine
-- takes the arguments from the stack.
use Rattle.std.specs.Prelude.{ℕ, pos, negsuc, List, [], ◌∷◌, ◌++◌}
use Rattle.mips_isa.specs.declared.register.TheConstants.{ZERO, V0, V1, A0, A1, T0, T1, T2, T3, T4, T5, T6, T7, S6, S7, T8, T9, GP, SP, RA}
use Rattle.mips_isa.specs.declared.system_call.TheConstants.{PRINT_INT, PRINT_STRING, READ_INT, EXIT, READ_CHAR, EXIT2}
use Rattle.mips_isa.specs.Lines.{Name, Line}
use Rattle.mips_isa.specs.Assembly.{start_name}
use Rattle.cool_runtime.specs.Labels.{heap_limit, stack_limit, int_prototype, string_prototype, out_string, out_int, in_int, string_length, copy, copy_words, copy_end, string_concat, concat_first, concat_second, concat_third, concat_end, in_string, in_string_bytes, in_string_end, string_substr, substr_bytes, substr_end, substr_abort, colon_text, equality, equal_values, equal_strings, equal_bytes, equal_true, equal_false, bool_prototype, true_constant, false_constant, main_prototype, main_init, main_main, end_text, name_table, type_name, abort, case_abort, abort_text, newline_text, no_branch_text, stop_text}
use Rattle.cool_runtime.specs.Instructions.{label, addu, subu, sltu, sll, srl, addiu, call_number, lw, sw, lbu, sb, move, la, jr, j, jal, syscall, beq, bne, bgez}

-- pushes $a0
abbrev pub push_lines : List Line
push_lines = addiu SP SP (negsuc 3) ∷ sltu T0 SP S6 ∷ beq T0 ZERO ∷ j stack_limit ∷ sw A0 (pos 0) SP ∷ []

-- allocates an Int with the value of $t2, whose address is left in $a0; the head is that of the prototype
abbrev pub new_int_lines : List Line
new_int_lines =
    addiu T1 GP (pos 20) ∷ sltu T0 S7 T1 ∷ beq T0 ZERO ∷ j heap_limit
    ∷ la T3 int_prototype ∷ lw T4 (pos 0) T3 ∷ lw T5 (pos 4) T3 ∷ lw T6 (pos 8) T3
    ∷ addiu T0 ZERO (negsuc 0) ∷ sw T0 (pos 0) GP
    ∷ sw T4 (pos 4) GP
    ∷ sw T5 (pos 8) GP
    ∷ sw T6 (pos 12) GP
    ∷ sw T2 (pos 16) GP
    ∷ addiu A0 GP (pos 4) ∷ move GP T1 ∷ []

-- writes the Int at $sp
abbrev pub out_int_lines : List Line
out_int_lines =
    label out_int
    ∷ move T0 A0
    ∷ lw A0 (pos 0) SP
    ∷ lw A0 (pos 12) A0
    ∷ call_number PRINT_INT
    ∷ syscall
    ∷ move A0 T0
    ∷ addiu SP SP (pos 4)
    ∷ jr RA
    ∷ []

-- writes the String at $sp
abbrev pub out_string_lines : List Line
out_string_lines =
    label out_string
    ∷ move T0 A0
    ∷ lw A0 (pos 0) SP
    ∷ addiu A0 A0 (pos 16)
    ∷ call_number PRINT_STRING
    ∷ syscall
    ∷ move A0 T0
    ∷ addiu SP SP (pos 4)
    ∷ jr RA
    ∷ []

-- reads an Int
abbrev pub read_number_lines : List Line
read_number_lines = label in_int ∷ call_number READ_INT ∷ syscall ∷ move T2 V0 ∷ []

abbrev pub return_lines : List Line
return_lines = jr RA ∷ []

abbrev pub in_int_lines : List Line
in_int_lines = read_number_lines ++ (new_int_lines ++ return_lines)

-- the Int with the length of the String in $a0
abbrev pub length_lines : List Line
length_lines = label string_length ∷ lw A0 (pos 12) A0 ∷ jr RA ∷ []

-- Copies the object in $a0: $t1 becomes the end of the object, $t2 the new $gp, $t3 the next word's address.
abbrev pub copy_first_lines : List Line
copy_first_lines =
    label copy
    ∷ lw T1 (pos 4) A0 ∷ sll T1 T1 2
    ∷ addu T2 GP T1 ∷ addiu T2 T2 (pos 4)
    ∷ sltu T0 S7 T2 ∷ beq T0 ZERO ∷ j heap_limit
    ∷ addiu T0 ZERO (negsuc 0) ∷ sw T0 (pos 0) GP
    ∷ addiu T3 GP (pos 4) ∷ addu T1 A0 T1 ∷ []

-- a word, and the next turn
abbrev pub copy_word_lines : List Line
copy_word_lines = lw T0 (pos 0) A0 ∷ sw T0 (pos 0) T3 ∷ addiu A0 A0 (pos 4) ∷ addiu T3 T3 (pos 4) ∷ j copy_words ∷ []

abbrev pub copy_words_lines : List Line
copy_words_lines = label copy_words ∷ bne A0 T1 ∷ j copy_end ∷ copy_word_lines

abbrev pub copy_end_lines : List Line
copy_end_lines = label copy_end ∷ addiu A0 GP (pos 4) ∷ move GP T2 ∷ jr RA ∷ []

abbrev pub copy_lines : List Line
copy_lines = copy_first_lines ++ (copy_words_lines ++ copy_end_lines)

-- Puts the object of an Int with the value of $t5 at $gp, which stays.
abbrev pub int_head_lines : List Line
int_head_lines =
    la A1 int_prototype ∷ lw V0 (pos 0) A1 ∷ lw V1 (pos 8) A1
    ∷ addiu T0 ZERO (negsuc 0) ∷ sw T0 (pos 0) GP ∷ sw V0 (pos 4) GP ∷ addiu V0 ZERO (pos 4) ∷ sw V0 (pos 8) GP ∷ sw V1 (pos 12) GP ∷ sw T5 (pos 16) GP ∷ []

-- Puts the head of a String of $t5 bytes after that Int.
abbrev pub string_head_lines : List Line
string_head_lines =
    la A1 string_prototype ∷ lw V0 (pos 0) A1 ∷ lw V1 (pos 8) A1
    ∷ addiu T0 ZERO (negsuc 0) ∷ sw T0 (pos 20) GP ∷ sw V0 (pos 24) GP
    ∷ srl V0 T5 2 ∷ addiu V0 V0 (pos 5) ∷ sw V0 (pos 28) GP ∷ sw V1 (pos 32) GP ∷ addiu V0 GP (pos 4) ∷ sw V0 (pos 36) GP ∷ []

-- Puts zeros into the last word of that String, which ends at $t1; its first byte's address to $t4.
abbrev pub string_zeros_lines : List Line
string_zeros_lines = sw ZERO (negsuc 3) T1 ∷ addiu T4 GP (pos 40) ∷ []

-- Copies $t3 bytes from $t2 to $t4.
abbrev pub bytes_lines : Name → Name → List Line
bytes_lines begin end =
    label begin ∷ bne T3 ZERO ∷ j end
    ∷ lbu T0 (pos 0) T2 ∷ sb T0 (pos 0) T4 ∷ addiu T2 T2 (pos 1) ∷ addiu T4 T4 (pos 1) ∷ addiu T3 T3 (negsuc 0) ∷ j begin ∷ []

-- The String after $gp is the result, $t1 the new $gp; so many bytes of arguments are taken from the stack.
abbrev pub string_end_lines : Name → ℕ → List Line
string_end_lines name arguments = label name ∷ addiu A0 GP (pos 24) ∷ move GP T1 ∷ addiu SP SP (pos arguments) ∷ jr RA ∷ []

-- The same without arguments and without a label.
abbrev pub string_return_lines : List Line
string_return_lines = addiu A0 GP (pos 24) ∷ move GP T1 ∷ jr RA ∷ []

-- The String in $a0, then the one at $sp: $t6 is the second one, $t3 and $t7 the lengths, $t5 their sum, $t1 the new $gp.
abbrev pub concat_begin_lines : List Line
concat_begin_lines =
    label string_concat
    ∷ lw T6 (pos 0) SP
    ∷ lw T3 (pos 12) A0 ∷ lw T3 (pos 12) T3
    ∷ lw T7 (pos 12) T6 ∷ lw T7 (pos 12) T7
    ∷ addu T5 T3 T7
    ∷ srl T0 T5 2 ∷ sll T0 T0 2 ∷ addu T1 GP T0 ∷ addiu T1 T1 (pos 44)
    ∷ sltu T0 S7 T1 ∷ beq T0 ZERO ∷ j heap_limit
    ∷ addiu T2 A0 (pos 16) ∷ []

abbrev pub concat_turn_lines : List Line
concat_turn_lines = label concat_second ∷ addiu T2 T6 (pos 16) ∷ move T3 T7 ∷ []

abbrev pub concat_lines : List Line
concat_lines =
    concat_begin_lines ++ (int_head_lines ++ (string_head_lines ++ (string_zeros_lines ++ (bytes_lines concat_first concat_second ++ (concat_turn_lines
    ++ (bytes_lines concat_third concat_end ++ string_end_lines concat_end 4))))))

-- The part of the String in $a0 that begins at the position in the Int at 4($sp), and has as many bytes as the Int at $sp says.
abbrev pub substr_begin_lines : List Line
substr_begin_lines =
    label string_substr
    ∷ lw T5 (pos 0) SP ∷ lw T5 (pos 12) T5
    ∷ lw T2 (pos 4) SP ∷ lw T2 (pos 12) T2
    ∷ lw T3 (pos 12) A0 ∷ lw T3 (pos 12) T3
    ∷ sltu T0 T3 T2 ∷ beq T0 ZERO ∷ j substr_abort
    ∷ subu T3 T3 T2
    ∷ sltu T0 T3 T5 ∷ beq T0 ZERO ∷ j substr_abort ∷ []

abbrev pub substr_size_lines : List Line
substr_size_lines =
    addiu T2 T2 (pos 16) ∷ addu T2 A0 T2 ∷ move T3 T5
    ∷ srl T0 T5 2 ∷ sll T0 T0 2 ∷ addu T1 GP T0 ∷ addiu T1 T1 (pos 44)
    ∷ sltu T0 S7 T1 ∷ beq T0 ZERO ∷ j heap_limit ∷ []

abbrev pub substr_lines : List Line
substr_lines =
    substr_begin_lines ++ (substr_size_lines ++ (int_head_lines ++ (string_head_lines ++ (string_zeros_lines ++ (bytes_lines substr_bytes substr_end ++ string_end_lines substr_end 8)))))

-- Asks for a String without bytes. The bytes so far, and then zeros to a full word, stand in its room up to $t1; $t4 is the next
-- byte's address, $t3 the newline.
abbrev pub in_string_begin_lines : List Line
in_string_begin_lines =
    label in_string
    ∷ addiu T1 GP (pos 44) ∷ sltu T0 S7 T1 ∷ beq T0 ZERO ∷ j heap_limit
    ∷ sw ZERO (pos 40) GP ∷ addiu T4 GP (pos 40) ∷ addiu T3 ZERO (pos 10) ∷ []

-- Takes a byte, and stores it, unless the input is at its end or at a newline.
abbrev pub in_string_byte_lines : List Line
in_string_byte_lines =
    label in_string_bytes
    ∷ call_number READ_CHAR ∷ syscall
    ∷ bgez V0 ∷ j in_string_end
    ∷ bne V0 T3 ∷ j in_string_end
    ∷ sb V0 (pos 0) T4 ∷ addiu T4 T4 (pos 1) ∷ []

-- Stores a word of zeros after the one that the bytes have filled.
abbrev pub in_string_zeros_lines : List Line
in_string_zeros_lines = sw ZERO (pos 0) T1 ∷ addiu T1 T1 (pos 4) ∷ j in_string_bytes ∷ []

-- Asks for that word.
abbrev pub in_string_room_lines : List Line
in_string_room_lines = bne T1 S7 ∷ j heap_limit ∷ in_string_zeros_lines

-- Goes on where the bytes have not filled their word.
abbrev pub in_string_word_lines : List Line
in_string_word_lines = beq T4 T1 ∷ j in_string_bytes ∷ in_string_room_lines

abbrev pub in_string_bytes_lines : List Line
in_string_bytes_lines = in_string_byte_lines ++ in_string_word_lines

-- The number of bytes to $t5.
abbrev pub in_string_end_lines : List Line
in_string_end_lines = label in_string_end ∷ subu T5 T4 GP ∷ addiu T5 T5 (negsuc 39) ∷ []

abbrev pub in_string_lines : List Line
in_string_lines =
    in_string_begin_lines ++ (in_string_bytes_lines ++ (in_string_end_lines ++ (int_head_lines ++ (string_head_lines ++ string_return_lines))))

-- Writes the String in $t8, a colon, the number in $t9 and a text of data, and exits with 3: an end by an error at a place.
abbrev pub error_lines : Name → Name → List Line
error_lines name text =
    label name
    ∷ addiu A0 T8 (pos 16) ∷ call_number PRINT_STRING ∷ syscall
    ∷ la A0 colon_text ∷ syscall
    ∷ move A0 T9 ∷ call_number PRINT_INT ∷ syscall
    ∷ la A0 text ∷ call_number PRINT_STRING ∷ syscall
    ∷ addiu A0 ZERO (pos 3) ∷ call_number EXIT2 ∷ syscall ∷ []

-- Compares the objects in $t1 and $t2: the same address is equal, void and other tags are not, and then Ints and Bools are compared
-- by value, Strings by their bytes.
abbrev pub equal_begin_lines : List Line
equal_begin_lines =
    label equality
    ∷ bne T1 T2 ∷ j equal_true
    ∷ bne T1 ZERO ∷ j equal_false
    ∷ bne T2 ZERO ∷ j equal_false
    ∷ lw T3 (pos 0) T1 ∷ lw T4 (pos 0) T2 ∷ beq T3 T4 ∷ j equal_false
    ∷ la T5 int_prototype ∷ lw T5 (pos 0) T5 ∷ bne T3 T5 ∷ j equal_values
    ∷ la T5 bool_prototype ∷ lw T5 (pos 0) T5 ∷ bne T3 T5 ∷ j equal_values
    ∷ la T5 string_prototype ∷ lw T5 (pos 0) T5 ∷ bne T3 T5 ∷ j equal_strings
    ∷ j equal_false ∷ []

abbrev pub equal_values_lines : List Line
equal_values_lines = label equal_values ∷ lw T3 (pos 12) T1 ∷ lw T4 (pos 12) T2 ∷ beq T3 T4 ∷ j equal_false ∷ j equal_true ∷ []

abbrev pub equal_strings_lines : List Line
equal_strings_lines =
    label equal_strings
    ∷ lw T3 (pos 12) T1 ∷ lw T3 (pos 12) T3 ∷ lw T4 (pos 12) T2 ∷ lw T4 (pos 12) T4 ∷ beq T3 T4 ∷ j equal_false
    ∷ addiu T1 T1 (pos 16) ∷ addiu T2 T2 (pos 16) ∷ []

abbrev pub equal_bytes_lines : List Line
equal_bytes_lines =
    label equal_bytes ∷ bne T3 ZERO ∷ j equal_true
    ∷ lbu T4 (pos 0) T1 ∷ lbu T5 (pos 0) T2 ∷ beq T4 T5 ∷ j equal_false
    ∷ addiu T1 T1 (pos 1) ∷ addiu T2 T2 (pos 1) ∷ addiu T3 T3 (negsuc 0) ∷ j equal_bytes ∷ []

abbrev pub equal_true_lines : List Line
equal_true_lines = label equal_true ∷ la A0 true_constant ∷ jr RA ∷ []

abbrev pub equal_false_lines : List Line
equal_false_lines = label equal_false ∷ la A0 false_constant ∷ jr RA ∷ []

abbrev pub equal_lines : List Line
equal_lines = equal_begin_lines ++ (equal_values_lines ++ (equal_strings_lines ++ (equal_bytes_lines ++ (equal_true_lines ++ equal_false_lines))))

-- Makes Main, calls main, writes the end text, and exits with 0.
abbrev pub start_copy_lines : List Line
start_copy_lines = label start_name ∷ la A0 main_prototype ∷ jal copy ∷ []

abbrev pub start_end_lines : List Line
start_end_lines = la A0 end_text ∷ call_number PRINT_STRING ∷ syscall ∷ call_number EXIT ∷ syscall ∷ []

abbrev pub start_lines : List Line
start_lines = start_copy_lines ++ (jal main_init ∷ jal main_main ∷ start_end_lines)

-- the String with the name of the class of the object in $a0 to $t0
abbrev pub name_lines : List Line
name_lines = lw T0 (pos 0) A0 ∷ sll T0 T0 2 ∷ la T1 name_table ∷ addu T0 T1 T0 ∷ lw T0 (pos 0) T0 ∷ []

abbrev pub type_name_lines : List Line
type_name_lines = label type_name ∷ (name_lines ++ (move A0 T0 ∷ jr RA ∷ []))

-- Writes a text of data, the String in $t0 and another text, and exits with 3.
abbrev pub named_end_lines : Name → Name → List Line
named_end_lines before behind =
    la A0 before ∷ call_number PRINT_STRING ∷ syscall ∷ addiu A0 T0 (pos 16) ∷ syscall ∷ la A0 behind ∷ syscall
    ∷ addiu A0 ZERO (pos 3) ∷ call_number EXIT2 ∷ syscall ∷ []

abbrev pub abort_lines : List Line
abort_lines = label abort ∷ (name_lines ++ named_end_lines abort_text newline_text)

-- Writes the String in $t8, a colon and the number in $t9.
abbrev pub place_lines : List Line
place_lines =
    addiu A0 T8 (pos 16) ∷ call_number PRINT_STRING ∷ syscall ∷ la A0 colon_text ∷ syscall ∷ move A0 T9 ∷ call_number PRINT_INT ∷ syscall ∷ []

abbrev pub no_branch_lines : List Line
no_branch_lines = label case_abort ∷ (name_lines ++ (place_lines ++ named_end_lines no_branch_text stop_text))

-- exits with a code
abbrev pub limit_lines : Name → ℕ → List Line
limit_lines name code = label name ∷ addiu A0 ZERO (pos code) ∷ call_number EXIT2 ∷ syscall ∷ []

abbrev pub heap_limit_lines : List Line
heap_limit_lines = limit_lines heap_limit 4

abbrev pub stack_limit_lines : List Line
stack_limit_lines = limit_lines stack_limit 5
