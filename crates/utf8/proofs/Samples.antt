-- Texts on both sides of each edge of the table of RFC 3629, section 4.
use Rattle.std.specs.Prelude.{◌≡◌, refl, [], ◌∷◌, true, false}
use Rattle.utf8.specs.Utf8.{starts, char, octets, utf8}

-- the empty text, NUL, BOM and a non-character are text
empty : utf8 [] ≡ true
unfolding starts char octets
empty = refl

nul : utf8 (0 ∷ []) ≡ true
unfolding starts char octets
nul = refl

bom : utf8 (239 ∷ 187 ∷ 191 ∷ []) ≡ true
unfolding starts char octets
bom = refl

nonchar : utf8 (239 ∷ 191 ∷ 191 ∷ []) ≡ true
unfolding starts char octets
nonchar = refl

-- UTF8-2 starts at C2: C0 and C1 would be overlong
ascii_last : utf8 (127 ∷ []) ≡ true
unfolding starts char octets
ascii_last = refl

c1 : utf8 (193 ∷ 191 ∷ []) ≡ false
unfolding starts char octets
c1 = refl

c2 : utf8 (194 ∷ 128 ∷ []) ≡ true
unfolding starts char octets
c2 = refl

df : utf8 (223 ∷ 191 ∷ []) ≡ true
unfolding starts char octets
df = refl

-- E0 from A0, ED to 9F: no overlong form, no surrogate
e0_9f : utf8 (224 ∷ 159 ∷ 191 ∷ []) ≡ false
unfolding starts char octets
e0_9f = refl

e0_a0 : utf8 (224 ∷ 160 ∷ 128 ∷ []) ≡ true
unfolding starts char octets
e0_a0 = refl

ed_9f : utf8 (237 ∷ 159 ∷ 191 ∷ []) ≡ true
unfolding starts char octets
ed_9f = refl

ed_a0 : utf8 (237 ∷ 160 ∷ 128 ∷ []) ≡ false
unfolding starts char octets
ed_a0 = refl

ee : utf8 (238 ∷ 128 ∷ 128 ∷ []) ≡ true
unfolding starts char octets
ee = refl

-- F0 from 90, F4 to 8F: no overlong form, nothing above 10FFFF
f0_8f : utf8 (240 ∷ 143 ∷ 191 ∷ 191 ∷ []) ≡ false
unfolding starts char octets
f0_8f = refl

f0_90 : utf8 (240 ∷ 144 ∷ 128 ∷ 128 ∷ []) ≡ true
unfolding starts char octets
f0_90 = refl

f4_8f : utf8 (244 ∷ 143 ∷ 191 ∷ 191 ∷ []) ≡ true
unfolding starts char octets
f4_8f = refl

f4_90 : utf8 (244 ∷ 144 ∷ 128 ∷ 128 ∷ []) ≡ false
unfolding starts char octets
f4_90 = refl

f5 : utf8 (245 ∷ 128 ∷ 128 ∷ 128 ∷ []) ≡ false
unfolding starts char octets
f5 = refl

ff : utf8 (255 ∷ []) ≡ false
unfolding starts char octets
ff = refl

-- a lone tail, and a sequence cut after each of its octets
lone : utf8 (128 ∷ []) ≡ false
unfolding starts char octets
lone = refl

cut_2 : utf8 (195 ∷ []) ≡ false
unfolding starts char octets
cut_2 = refl

cut_3 : utf8 (226 ∷ 130 ∷ []) ≡ false
unfolding starts char octets
cut_3 = refl

cut_3_first : utf8 (226 ∷ []) ≡ false
unfolding starts char octets
cut_3_first = refl

cut_4 : utf8 (240 ∷ 159 ∷ 152 ∷ []) ≡ false
unfolding starts char octets
cut_4 = refl

cut_4_second : utf8 (240 ∷ 159 ∷ []) ≡ false
unfolding starts char octets
cut_4_second = refl

cut_4_first : utf8 (240 ∷ []) ≡ false
unfolding starts char octets
cut_4_first = refl

-- the same with a letter after it
cut_inside : utf8 (226 ∷ 130 ∷ 65 ∷ []) ≡ false
unfolding starts char octets
cut_inside = refl

cut_two_inside : utf8 (195 ∷ 65 ∷ []) ≡ false
unfolding starts char octets
cut_two_inside = refl

fourth_inside : utf8 (240 ∷ 159 ∷ 152 ∷ 65 ∷ []) ≡ false
unfolding starts char octets
fourth_inside = refl

-- one of each width
mixed : utf8 (65 ∷ 195 ∷ 169 ∷ 226 ∷ 130 ∷ 172 ∷ 240 ∷ 159 ∷ 152 ∷ 128 ∷ 10 ∷ []) ≡ true
unfolding starts char octets
mixed = refl
