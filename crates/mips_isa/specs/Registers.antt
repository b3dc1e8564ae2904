-- The general registers of MIPS: the number of each, by its name.
use Rattle.std.specs.Prelude.{◌≡◌, refl}
use Rattle.mips_isa.specs.declared.register.TheConstants.{ZERO, AT, V0, V1, A0, A1, A2, A3, T0, T1, T2, T3, T4, T5, T6, T7, S0, S1, S2, S3, S4, S5, S6, S7, T8, T9, K0, K1, GP, SP, FP, RA}

zero : ZERO ≡ 0
zero = refl

at : AT ≡ 1
at = refl

v0 : V0 ≡ 2
v0 = refl

v1 : V1 ≡ 3
v1 = refl

a0 : A0 ≡ 4
a0 = refl

a1 : A1 ≡ 5
a1 = refl

a2 : A2 ≡ 6
a2 = refl

a3 : A3 ≡ 7
a3 = refl

t0 : T0 ≡ 8
t0 = refl

t1 : T1 ≡ 9
t1 = refl

t2 : T2 ≡ 10
t2 = refl

t3 : T3 ≡ 11
t3 = refl

t4 : T4 ≡ 12
t4 = refl

t5 : T5 ≡ 13
t5 = refl

t6 : T6 ≡ 14
t6 = refl

t7 : T7 ≡ 15
t7 = refl

s0 : S0 ≡ 16
s0 = refl

s1 : S1 ≡ 17
s1 = refl

s2 : S2 ≡ 18
s2 = refl

s3 : S3 ≡ 19
s3 = refl

s4 : S4 ≡ 20
s4 = refl

s5 : S5 ≡ 21
s5 = refl

s6 : S6 ≡ 22
s6 = refl

s7 : S7 ≡ 23
s7 = refl

t8 : T8 ≡ 24
t8 = refl

t9 : T9 ≡ 25
t9 = refl

k0 : K0 ≡ 26
k0 = refl

k1 : K1 ≡ 27
k1 = refl

gp : GP ≡ 28
gp = refl

sp : SP ≡ 29
sp = refl

fp : FP ≡ 30
fp = refl

ra : RA ≡ 31
ra = refl
