-- Laws of coordinates and bytes.
-- Values: the bits of a number, and the number of given bits.
-- Lists: the elements of a tabulated list.
-- Digits: a list of numbers of d bits as one row of coordinates, for bytes and limbs alike.
-- Bytes: `coord` of `pack` and `pack` of `coord`; equal bytes from equal coordinates.
-- Bitwise operations: their bits, modulo 2.
use mathlib.Core.Path.{◌≡◌, refl, sym, ap, ap₂, ◌∙◌}
use mathlib.Core.List.{List, [], ◌∷◌, ◌++◌}
use Prim.Native.Nat.{ℕ, zero, suc, ◌+◌, ◌-◌, ◌*◌, ◌/◌, ◌%◌, ◌^◌, ◌<◌, ◌≤◌, min}
use native.Mathlib.Nat.{zero-min, min-zero, suc-min-suc, add-zero, add-suc, add-mul, mul_comm, add-mul-div_right, div-add-mod', div-eq_of_lt, div-lt_iff_lt-mul, zero-div, mod-eq_of_lt, mod-lt, lt_of_lt_of_le, pow-suc, pow-succ', mul_assoc}
use native.Mathlib.Numerals.{add-one}
use native.Mathlib.Decide.{ℕ_discrete, dec_lt}
use native.Mathlib.Omega.{arith}
use lib.Arith.{digits_lt, digits_div, digits_mod}
use lib.ListN.{length, get_or, replicate, length-append, length-replicate, get_or-replicate, get_or-append, get_or-eq_default}
use lib.Seq.{get_or_at, ext_get_or}
use lib.Bits.{bit_and, and_shr, and_step, bit_xor, xor_shr, xor_add_and, xor_lt}
use lib.Dec.{eqb}
use lib.Pow.{pow_pos, pow_mono, pow-add, shl-shr, shl_exact, shr-shr, mod-pow-add, mod-mod-pow, field}
use borrow.Author.Tests.{eq-eqb, ne_eqb}
use Rattle.gf2.specs.Sums.{sum}
use Rattle.gf2.specs.Coordinates.{coord, value, tabulate, pack}
use Rattle.gf2.specs.Operands.{choose}
use Rattle.gf2.proofs.Sums.{sum-ext, sum-next}

pub value-ext : (n : ℕ) (f g : ℕ → ℕ) → ((j : ℕ) → j < n → f j % 2 ≡ g j % 2) → value n f ≡ value n g
unfolding value
value-ext n f g h = sum-ext n _ _ (λ j l. ap (λ d. d * 2 ^ j) (h j l))

-- the bits of x make x up to 2 ^ n
pub value-bits : (n x : ℕ) → value n (λ j. x / 2 ^ j) ≡ x % 2 ^ n
unfolding value sum
value-bits zero x = omega arith
value-bits (suc n) x = omega (arith, value-bits n x, mod-pow-add x 1 n, ap (λ k. x % 2 ^ k) (one_more_lem n))
  where
    one_more_lem : (n : ℕ) → 1 + n ≡ suc n
    one_more_lem n = omega arith

bit-times : (d x : ℕ) → d < 2 → d * x ≤ x
bit-times zero x h = omega arith
bit-times (suc zero) x h = omega arith
bit-times (suc (suc d)) x h = absurd (omega arith)

pub value-lt : (n : ℕ) (f : ℕ → ℕ) → value n f < 2 ^ n
unfolding value sum
value-lt zero f = omega arith
value-lt (suc n) f = omega (arith, value-lt n f, pow-suc 2 n, bit-times (f n % 2) (2 ^ n) (omega arith))

pub value-bit : (n : ℕ) (f : ℕ → ℕ) (j : ℕ) → j < n → value n f / 2 ^ j % 2 ≡ f j % 2
unfolding value sum
value-bit zero f j l = absurd (omega arith)
value-bit (suc n) f j l = elim (ℕ_discrete j n) [
  | yes q ↦ rw (q, add-mul-div_right (value n f) (f n % 2) (pow_pos n), div-eq_of_lt (value-lt n f)) (omega arith)
  | no q ↦ rw (lower (omega arith), add-mul-div_right (value n f) (f n % 2 * 2 ^ (n - suc j) * 2) (pow_pos j)) (omega (arith, value-bit n f j (omega arith)))
]
  where
    lower : j < n → f n % 2 * 2 ^ n ≡ f n % 2 * 2 ^ (n - suc j) * 2 * 2 ^ j
    lower h = let e : n ≡ n - suc j + suc j = omega arith in ap (λ k. f n % 2 * 2 ^ k) e ∙ simp (pow-add, pow-succ', mul_assoc)

-- a number below 2 ^ n is made of its bits
pub value-eq : (n : ℕ) (f : ℕ → ℕ) (x : ℕ) → x < 2 ^ n → ((j : ℕ) → j < n → x / 2 ^ j % 2 ≡ f j % 2) → x ≡ value n f
value-eq n f x h e = sym (mod-eq_of_lt h) ∙ sym (value-bits n x) ∙ value-ext n (λ j. x / 2 ^ j) f e

-- the low n bits and the others
pub value-split : (n k : ℕ) (f : ℕ → ℕ) → value (n + k) f ≡ value n f + value k (λ j. f (n + j)) * 2 ^ n
unfolding value sum
value-split n zero f = ap (λ k. value k f) (add-zero n) ∙ omega arith
value-split n (suc k) f =
    ap (λ k. value k f) (add-suc n k)
    ∙ ap₂ ◌+◌ (value-split n k f) (ap (λ p. f (n + k) % 2 * p) (pow-add 2 n k ∙ mul_comm (2 ^ n) (2 ^ k)) ∙ sym (mul_assoc (f (n + k) % 2) (2 ^ k) (2 ^ n)))
    ∙ omega (arith, add-mul (value k (λ j. f (n + j))) (f (n + k) % 2 * 2 ^ k) (2 ^ n))

pub length-tabulate : (n : ℕ) (f : ℕ → ℕ) → length (tabulate n f) ≡ n
unfolding tabulate
length-tabulate zero f = refl
length-tabulate (suc n) f = omega (arith, length-append (tabulate n f) (f n ∷ []), length-tabulate n f)

pub get_d_tabulate : (n : ℕ) (f : ℕ → ℕ) (i : ℕ) → i < n → get_or (tabulate n f) i 0 ≡ f i
unfolding tabulate
get_d_tabulate zero f i h = absurd (omega arith)
get_d_tabulate (suc n) f i h = elim (ℕ_discrete i n) [
  | yes q ↦ rw q (get_or_at (tabulate n f) (f n) [] 0 n (length-tabulate n f))
  | no q ↦ get_or-append (tabulate n f) (f n ∷ []) 0 i (omega (arith, length-tabulate n f)) ∙ get_d_tabulate n f i (omega arith)
]

-- a list of zeros has 0 everywhere, past its end too
pub zero-at : (n i : ℕ) → get_or (replicate {A = ℕ} n 0) i 0 ≡ 0
zero-at n i = elim (dec_lt i n) [
  | yes h ↦ get_or-replicate {A = ℕ} n i 0 0 h
  | no h ↦ get_or-eq_default {A = ℕ} (replicate n 0) 0 {n = i} (omega (arith, length-replicate {A = ℕ} n 0))
]

pub tabulate-ext : (n : ℕ) (f g : ℕ → ℕ) → ((i : ℕ) → i < n → f i ≡ g i) → tabulate n f ≡ tabulate n g
unfolding tabulate
tabulate-ext zero f g h = refl
tabulate-ext (suc n) f g h = ap₂ (λ l x. l ++ (x ∷ [])) (tabulate-ext n f g (λ i l. h i (omega arith))) (h n (omega arith))

-- coordinate i is bit i % d of element i / d: bytes are d = 8, limbs d = 64
abbrev pub digit : ℕ → List ℕ → ℕ → ℕ
digit d l i = get_or l (i / d) 0 / 2 ^ (i % d) % 2

-- the n elements of d bits whose coordinates are f 0, f 1, .., each modulo 2
abbrev pub packed : ℕ → ℕ → (ℕ → ℕ) → List ℕ
packed d n f = tabulate n (λ b. value d (λ j. f (b * d + j)))

module _ (d : ℕ) (some : 0 < d) where
  -- the coordinates of one element
  pub digit_at : (l : List ℕ) (b j : ℕ) → j < d → digit d l (b * d + j) ≡ get_or l b 0 / 2 ^ j % 2
  digit_at l b j h = rw (digits_div b h, digits_mod b h)

  pub digit-past : (l : List ℕ) (i : ℕ) → length l ≤ i / d → digit d l i ≡ 0
  digit-past l i h = rw (get_or-eq_default l 0 {n = i / d} h, zero-div)

  pub packed_lt : (n : ℕ) (f : ℕ → ℕ) (b : ℕ) → get_or (packed d n f) b 0 < 2 ^ d
  packed_lt n f b = elim (dec_lt b n) [
    | yes h ↦ rw (get_d_tabulate n (λ c. value d (λ j. f (c * d + j))) b h) (value-lt d (λ j. f (b * d + j)))
    | no h ↦ rw (get_or-eq_default (packed d n f) 0 {n = b} (omega (arith, length-tabulate n (λ c. value d (λ j. f (c * d + j)))))) (pow_pos d)
  ]

  pub digit-packed : (n : ℕ) (f : ℕ → ℕ) (i : ℕ) → i < n * d → digit d (packed d n f) i ≡ f i % 2
  digit-packed n f i h =
      ap (λ x. x / 2 ^ (i % d) % 2) (get_d_tabulate n (λ b. value d (λ j. f (b * d + j))) (i / d) ((div-lt_iff_lt-mul some).1 h))
      ∙ value-bit d (λ j. f (i / d * d + j)) (i % d) (mod-lt i some) ∙ ap (λ k. f k % 2) (div-add-mod' i d)

  -- a list given element by element has the coordinates f where each element's bits are f's
  pub packed-of : (n : ℕ) (g f : ℕ → ℕ) → ((b : ℕ) → b < n → g b < 2 ^ d) → ((b j : ℕ) → b < n → j < d → g b / 2 ^ j % 2 ≡ f (b * d + j) % 2)
      → tabulate n g ≡ packed d n f
  packed-of n g f small e = tabulate-ext n g _ (λ b h. value-eq d (λ j. f (b * d + j)) (g b) (small b h) (λ j l. e b j h l))

  -- a list is known by its coordinates
  pub packed-eq : (n : ℕ) (f : ℕ → ℕ) (l : List ℕ) → length l ≡ n → ((b : ℕ) → get_or l b 0 < 2 ^ d) → ((i : ℕ) → i < n * d → digit d l i ≡ f i % 2) → l ≡ packed d n f
  packed-eq n f l size small e =
      ext_get_or 0 l (tabulate n (λ b. get_or l b 0)) (size ∙ sym (length-tabulate n _)) (λ b h. sym (get_d_tabulate n (λ b. get_or l b 0) b (omega arith)))
      ∙ packed-of n _ f (λ b h. small b) (λ b j h l'. sym (digit_at l b j l') ∙ e (b * d + j) (digits_lt h l'))

  pub digit-none : (n i : ℕ) → digit d (replicate n 0) i ≡ 0
  digit-none n i = rw (zero-at n (i / d), zero-div)

pub coord-lt : (bytes : List ℕ) (i : ℕ) → coord bytes i < 2
unfolding coord
coord-lt bytes i = omega arith

pub coord-past : (bytes : List ℕ) (i : ℕ) → 8 * length bytes ≤ i → coord bytes i ≡ 0
unfolding coord
coord-past bytes i h = digit-past 8 (omega arith) bytes i (omega arith)

pub length-pack : (n : ℕ) (f : ℕ → ℕ) → length (pack n f) ≡ n
unfolding pack
length-pack n f = length-tabulate n _

pub pack-byte : (n : ℕ) (f : ℕ → ℕ) (b : ℕ) → get_or (pack n f) b 0 < 256
unfolding pack
pack-byte n f b = packed_lt 8 (omega arith) n f b

pub coord-pack : (n : ℕ) (f : ℕ → ℕ) (i : ℕ) → i < 8 * n → coord (pack n f) i ≡ f i % 2
unfolding coord pack
coord-pack n f i h = digit-packed 8 (omega arith) n f i (omega arith)

-- bytes are known by their coordinates
pub pack-eq : (n : ℕ) (f : ℕ → ℕ) (l : List ℕ) → length l ≡ n → ((b : ℕ) → get_or l b 0 < 256) → ((i : ℕ) → i < 8 * n → coord l i ≡ f i % 2) → l ≡ pack n f
unfolding coord pack
pack-eq n f l size small e = packed-eq 8 (omega arith) n f l size small (λ i h. e i (omega arith))

pub pack-ext : (n : ℕ) (f g : ℕ → ℕ) → ((i : ℕ) → i < 8 * n → f i % 2 ≡ g i % 2) → pack n f ≡ pack n g
pack-ext n f g e = pack-eq n g (pack n f) (length-pack n f) (pack-byte n f) (λ i h. coord-pack n f i h ∙ e i h)

pub pack-coord : (l : List ℕ) → ((b : ℕ) → get_or l b 0 < 256) → l ≡ pack (length l) (coord l)
pack-coord l small = pack-eq (length l) (coord l) l refl small (λ i h. sym (mod-eq_of_lt (coord-lt l i)))

-- the coordinates of one byte
pub coord-digit : (l : List ℕ) (b j : ℕ) → j < 8 → coord l (b * 8 + j) ≡ get_or l b 0 / 2 ^ j % 2
unfolding coord
coord-digit l b j h = digit_at 8 (omega arith) l b j h

-- a list given byte by byte is the bytes of f where each byte's bits are f's
pub pack-of : (n : ℕ) (g f : ℕ → ℕ) → ((b : ℕ) → b < n → g b < 256) → ((b j : ℕ) → b < n → j < 8 → g b / 2 ^ j % 2 ≡ f (b * 8 + j) % 2) → tabulate n g ≡ pack n f
unfolding pack
pack-of n g f small e = packed-of 8 (omega arith) n g f small e

pub xor-bit : (a b k : ℕ) → bit_xor a b / 2 ^ k % 2 ≡ (a / 2 ^ k % 2 + b / 2 ^ k % 2) % 2
xor-bit a b k = rw xor_shr (omega (arith, xor_add_and (a / 2 ^ k) (b / 2 ^ k)))

-- a bitwise product
min-mul : (x y : ℕ) → x < 2 → y < 2 → min x y ≡ x * y
min-mul zero y h l = zero-min y ∙ omega arith
min-mul (suc zero) zero h l = min-zero 1
min-mul (suc zero) (suc zero) h l = suc-min-suc 0 0 ∙ ap suc (min-zero 0)
min-mul (suc zero) (suc (suc y)) h l = absurd (omega arith)
min-mul (suc (suc x)) y h l = absurd (omega arith)

pub and-bit : (a b k : ℕ) → bit_and a b / 2 ^ k % 2 ≡ (a / 2 ^ k % 2) * (b / 2 ^ k % 2)
and-bit a b k = rw and_shr (omega (arith, and_step (a / 2 ^ k) (b / 2 ^ k), min-mul (a / 2 ^ k % 2) (b / 2 ^ k % 2) (omega arith) (omega arith)))

pub value-xor : (n : ℕ) (f g : ℕ → ℕ) → bit_xor (value n f) (value n g) ≡ value n (λ j. f j + g j)
value-xor n f g = value-eq n (λ j. f j + g j) _ (xor_lt n _ _ (value-lt n f) (value-lt n g)) (λ j l.
    xor-bit (value n f) (value n g) j ∙ omega (arith, value-bit n f j l, value-bit n g j l))

-- one bit more in a byte
pub byte_next : (f : ℕ → ℕ) (j x y : ℕ) → x ≡ value j f → y ≡ f j % 2 → j < 8 → (y * 2 ^ j % 2 ^ 8 ≡ y * 2 ^ j) × (x + y * 2 ^ j ≡ value (j + 1) f) × (x + y * 2 ^ j < 256)
byte_next f j x y e h l = (
  shl_exact {a = y} 1 j 8 (omega arith) (omega arith),
  there,
  rw there (lt_of_lt_of_le (value-lt (j + 1) f) (pow_mono {i = j + 1} {j = 8} (omega arith))),
)
  where
    there : x + y * 2 ^ j ≡ value (j + 1) f
    there = unfold value in (rw (add-one, sum-next) (ap₂ (λ a b. a + b * 2 ^ j) e h))

-- the bits of x % 2 ^ k
pub mod-bit : (x k j : ℕ) → j < k → x % 2 ^ k / 2 ^ j % 2 ≡ x / 2 ^ j % 2
mod-bit x k j h =
    let e : k ≡ (k - suc j) + 1 + j = omega arith in
    ap (λ n. x % 2 ^ n / 2 ^ j % 2) e ∙ ap (λ y. y % 2) (field x (k - suc j + 1) j) ∙ mod-mod-pow (x / 2 ^ j) (k - suc j) 1

pub mod-bit-out : (x k j : ℕ) → k ≤ j → x % 2 ^ k / 2 ^ j % 2 ≡ 0
mod-bit-out x k j h = ap (λ y. y % 2) (div-eq_of_lt (lt_of_lt_of_le (mod-lt x (pow_pos k)) (pow_mono h)))

-- the bits of a number shifted up by k, of which n are kept
pub shl-bit : (x n k j : ℕ) → k ≤ j → j < n → x * 2 ^ k % 2 ^ n / 2 ^ j % 2 ≡ x / 2 ^ (j - k) % 2
shl-bit x n k j h l =
    let e : j ≡ k + (j - k) = omega arith in
    mod-bit (x * 2 ^ k) n j l ∙ ap (λ y. x * 2 ^ k / 2 ^ y % 2) e
    ∙ ap (λ y. y % 2) (sym (shr-shr (x * 2 ^ k) k (j - k)) ∙ ap (λ y. y / 2 ^ (j - k)) (shl-shr x k))

pub shl-bit-out : (x n k j : ℕ) → j < k → j < n → x * 2 ^ k % 2 ^ n / 2 ^ j % 2 ≡ 0
shl-bit-out x n k j h l =
    let e : k ≡ (k - suc j) + suc j = omega arith in
    mod-bit (x * 2 ^ k) n j l ∙ ap (λ y. x * 2 ^ y / 2 ^ j % 2) e
    ∙ ap (λ y. y / 2 ^ j % 2) even ∙ ap (λ y. y % 2) (shl-shr (x * 2 ^ (k - suc j) * 2) j) ∙ omega arith
  where
    even : x * 2 ^ (k - suc j + suc j) ≡ x * 2 ^ (k - suc j) * 2 * 2 ^ j
    even = simp (pow-add, pow-succ', mul_assoc)

-- 1 shifted up has the one bit
pub one_bit : (n k j : ℕ) → j < n → 1 * 2 ^ k % 2 ^ n / 2 ^ j % 2 ≡ choose (eqb j k) 1 0
one_bit n k j l = elim (dec_lt j k) [
  | yes h ↦ shl-bit-out 1 n k j h l ∙ rw (ne_eqb j k (omega arith))
  | no h ↦ shl-bit 1 n k j (omega arith) l ∙ at (j - k) (omega arith)
]
  where
    past : (t : ℕ) → 1 / 2 ^ suc t ≡ 0
    past t = div-eq_of_lt (lt_of_lt_of_le {m = 2 ^ 1} (omega arith) (pow_mono {i = 1} {j = suc t} (omega arith)))

    at : (t : ℕ) → j ≡ k + t → 1 / 2 ^ t % 2 ≡ choose (eqb j k) 1 0
    at zero e = rw (eq-eqb j k (omega arith))
    at (suc t) e = rw (ne_eqb j k (omega arith), past t)

pub coord-none : (n i : ℕ) → coord (replicate n 0) i ≡ 0
unfolding coord
coord-none n i = digit-none 8 (omega arith) n i
