-- Laws of the numbers of a card.
-- Parts: what a reading without fault rests on.
-- Trips: a number written is read as it was, and a number read is written as it was.
-- Bytes: a number by the bytes that are read.
use mathlib.Core.Path.{◌≡◌, refl, sym, ◌∙◌}
use mathlib.Core.List.{List, [], ◌∷◌, ◌++◌}
use mathlib.Core.Bool.{Bool, true, false}
use Prim.Native.Nat.{ℕ, suc, ◌+◌, ◌-◌, ◌*◌, ◌/◌, ◌%◌, ◌<◌, ◌≤◌}
use native.Mathlib.Decide.{dec_lt}
use native.Mathlib.Omega.{arith}
use lib.Dec.{ltb, eqb}
use borrow.Author.Tests.{lt-ltb, le-ltb, ltb-true, eq-eqb, ne_eqb, eqb-false}
use Rattle.gf2.specs.Operands.{choose}
use Rattle.judging.specs.declared.fault.Fault.{Fault}
use Rattle.judging.specs.Faults.{card_ends, card_number}
use Rattle.card.specs.Numbers.{number, number_limit, Read, refused, got, and_then, second_group, read_number}
use Rattle.card.specs.Inner.{read_byte}
use Rattle.card.specs.Statements.{Bytes}

-- a fault is no value
pub no_value : {A B : Type 0} {f : Fault} {a : A} {rest : List ℕ} → refused f ≡ got a rest → B
no_value e = absurd (let z : ◌≡◌ {A = ℕ} 0 1 = cc in omega arith)

-- two parts without fault
pub parts : {A B : Type 0} (x : Read A) (next : A → List ℕ → Read B) {b : B} {rest : List ℕ} → and_then x next ≡ got b rest →
    (a : A) × (s : List ℕ) × (x ≡ got a s) × (next a s ≡ got b rest)
parts (refused f) next e = no_value e
parts (got a s) next e = (a, s, refl, e)

-- a test that has passed
pub passed : {A : Type 0} (t : Bool) (x : Read A) (f : Fault) {a : A} {rest : List ℕ} → choose t x (refused f) ≡ got a rest → (t ≡ true) × (x ≡ got a rest)
passed true x f e = (refl, e)
passed false x f e = no_value e

pub spared : {A : Type 0} (t : Bool) (x : Read A) (f : Fault) {a : A} {rest : List ℕ} → choose t (refused f) x ≡ got a rest → (t ≡ false) × (x ≡ got a rest)
spared true x f e = no_value e
spared false x f e = (refl, e)

pub read-written : (n : ℕ) (rest : List ℕ) → n < number_limit → read_number (number n ++ rest) ≡ got n rest
unfolding number read_number second_group
read-written n rest h = elim (dec_lt n 128) [
  | yes l ↦ simp (lt-ltb n 128 l)
  | no l ↦
      let some : n / 128 ≡ 0 → ⊥ = λ z. omega arith in
      let e : 128 + n % 128 - 128 + n / 128 * 128 ≡ n = omega arith in
      rw (
        le-ltb n 128 (omega arith),
        le-ltb (128 + n % 128) 128 (omega arith),
        ne_eqb (n / 128) 0 some,
        lt-ltb (n / 128) 128 (omega arith),
        e,
      )
]

-- a number that was read: its bytes, its bound, and that bytes are left
pub record NumberRead (s : List ℕ) (n : ℕ) (rest : List ℕ) : Type 0 where
  pub is_number : s ≡ number n ++ rest
  pub small : n < number_limit
  pub bytes : Bytes rest

one-group : (g : ℕ) (s : List ℕ) → g < 128 → Bytes s → NumberRead (g ∷ s) g s
unfolding number
one-group g s l small = record { is_number = rw (lt-ltb g 128 l); small = omega arith; bytes = small }

two-groups : (g h : ℕ) (s : List ℕ) → 128 ≤ g → g < 256 → (h ≡ 0 → ⊥) → h < 128 → Bytes s → NumberRead (g ∷ h ∷ s) (g - 128 + h * 128) s
unfolding number
two-groups g h s l u n b small =
    let low : 128 + (g - 128 + h * 128) % 128 ≡ g = omega arith in
    let high : (g - 128 + h * 128) / 128 ≡ h = omega arith in
    let long : 128 ≤ g - 128 + h * 128 = omega arith in
    record { is_number = rw (le-ltb (g - 128 + h * 128) 128 long, low, high); small = omega arith; bytes = small }

same_read : {s rest r : List ℕ} {n k : ℕ} → got k r ≡ got n rest → NumberRead s k r → NumberRead s n rest
same_read {s} {rest} {r} {n} {k} e q =
    let en : k ≡ n = cc in
    let er : r ≡ rest = cc in
    rw (en, er) at q

pub written_read_lem : (s : List ℕ) (n : ℕ) (rest : List ℕ) → Bytes s → read_number s ≡ got n rest → NumberRead s n rest
unfolding read_number second_group
written_read_lem [] n rest small e = no_value e
written_read_lem (g ∷ []) n rest small e = elim (dec_lt g 128) [
  | yes l ↦ same_read (rw (lt-ltb g 128 l) at e) (one-group g [] l (λ b. small (suc b)))
  | no l ↦ no_value (rw (le-ltb g 128 (omega arith)) at e)
]
written_read_lem (g ∷ h ∷ s) n rest small e = elim (dec_lt g 128) [
  | yes l ↦ same_read (rw (lt-ltb g 128 l) at e) (one-group g (h ∷ s) l (λ b. small (suc b)))
  | no l ↦
      let p = spared (eqb h 0) _ card_number (rw (le-ltb g 128 (omega arith)) at e) in
      let q = passed (ltb h 128) _ card_number p.1 in
      same_read q.1 (two-groups g h s (omega arith) (small 0) (eqb-false h 0 p.0) (ltb-true h 128 q.0) (λ b. small (suc (suc b))))
]

-- the next byte, where there is one
byte-is : (s : List ℕ) {g : ℕ} {rest : List ℕ} → read_byte s ≡ got g rest → s ≡ g ∷ rest
byte-is [] e = no_value e
byte-is (h ∷ s) e = cc

-- where there is none
no-byte : (s : List ℕ) {f : Fault} → read_byte s ≡ refused f → (s ≡ []) × (f ≡ card_ends)
no-byte [] e = (refl, cc)
no-byte (h ∷ s) e = no_value (sym e)

-- a number, by the bytes that are read
module _ (s : List ℕ) where
  pub number-ends : {f : Fault} → read_byte s ≡ refused f → refused f ≡ read_number s
  unfolding read_number
  number-ends e = let p = no-byte s e in rw (p.0, p.1)

  module _ {g : ℕ} {rest : List ℕ} (byte : read_byte s ≡ got g rest) where
    pub number_short : g < 128 → got g rest ≡ read_number s
    unfolding read_number
    number_short l = rw (byte-is s byte, lt-ltb g 128 l)

    pub number-long : {x : Read ℕ} → 128 ≤ g → x ≡ second_group (g - 128) rest → x ≡ read_number s
    unfolding read_number
    number-long l e = e ∙ rw (byte-is s byte, le-ltb g 128 l)

module _ (low : ℕ) (s : List ℕ) where
  pub second-ends : {f : Fault} → read_byte s ≡ refused f → refused f ≡ second_group low s
  unfolding second_group
  second-ends e = let p = no-byte s e in rw (p.0, p.1)

  module _ {g : ℕ} {rest : List ℕ} (byte : read_byte s ≡ got g rest) where
    pub second-zero : g ≡ 0 → refused card_number ≡ second_group low s
    unfolding second_group
    second-zero e = rw (byte-is s byte, eq-eqb g 0 e)

    pub second-third : 128 ≤ g → refused card_number ≡ second_group low s
    unfolding second_group
    second-third l = rw (byte-is s byte, ne_eqb g 0 (λ e. omega arith), le-ltb g 128 l)

    pub second-last : (g ≡ 0 → ⊥) → g < 128 → got (low + g * 128) rest ≡ second_group low s
    unfolding second_group
    second-last n l = rw (byte-is s byte, ne_eqb g 0 n, lt-ltb g 128 l)
