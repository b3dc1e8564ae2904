-- The system calls of SPIM: the number of each, by its name.
use Rattle.std.specs.Prelude.{◌≡◌, refl}
use Rattle.mips_isa.specs.declared.system_call.TheConstants.{PRINT_INT, PRINT_STRING, READ_INT, READ_STRING, SBRK, EXIT, PRINT_CHAR, READ_CHAR, EXIT2}

print_int : PRINT_INT ≡ 1
print_int = refl

print_string : PRINT_STRING ≡ 4
print_string = refl

read_int : READ_INT ≡ 5
read_int = refl

read_string : READ_STRING ≡ 8
read_string = refl

sbrk : SBRK ≡ 9
sbrk = refl

exit : EXIT ≡ 10
exit = refl

print_char : PRINT_CHAR ≡ 11
print_char = refl

read_char : READ_CHAR ≡ 12
read_char = refl

exit2 : EXIT2 ≡ 17
exit2 = refl
