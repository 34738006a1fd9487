-- What the kernels make: slots of limbs at which sums are gathered, coordinate by coordinate.
use Rattle.std.specs.Prelude.{◌≡◌, Bool, ◌&&◌, List, ℕ, ◌+◌, ◌*◌, ◌/◌, ◌%◌, ◌<◌, length, ltb, eqb}
use Rattle.gf2.specs.Sums.{sum}
use Rattle.gf2.specs.Coordinates.{coord}
use Rattle.gf2.specs.Operands.{choose, below}
use Rattle.limbs.specs.Limbs.{carried_limbs, few, reach, limb_coord, pack_limbs, raised}

-- a slot for each bit of a limb: it gathers what the ones at that bit of the rows' limbs ask for
abbrev pub slots : ℕ
slots = 64

-- room for an operand's limbs twice, and one more: a slot's limbs too
abbrev pub twice_limbs : ℕ
twice_limbs = 2 * carried_limbs + 1

-- the limbs of a product that a width is worked on in
abbrev pub twice_reach : ℕ → ℕ
twice_reach m = choose (ltb m (64 * few)) (2 * few) twice_limbs

-- whether a loop over these ends before limb w
unfoldable pub twice_ends_at : ℕ → ℕ → Bool
twice_ends_at w m = eqb w (2 * few) && ltb m (64 * few)

-- a list of limbs has all slots
abbrev pub HasSlots : List ℕ → Type 0
HasSlots g = length g ≡ slots * twice_limbs

-- coordinate i of the limbs at slot r
abbrev pub cell : List ℕ → ℕ → ℕ → ℕ
cell g r i = limb_coord g (r * (64 * twice_limbs) + i)

-- h is g with f r i added to coordinate i at each slot r, modulo 2
pub record Added (f : ℕ → ℕ → ℕ) (g h : List ℕ) : Type 0 where
  pub size : length h ≡ length g
  pub coords : (r i : ℕ) → r < slots → i < 64 * twice_limbs → cell h r i ≡ (cell g r i + f r i) % 2

-- where f was added to get g, h is the same with more added, f' in all
abbrev pub AddedAfter : (ℕ → ℕ → ℕ) → (ℕ → ℕ → ℕ) → List ℕ → List ℕ → Type 0
AddedAfter f f' g h = (a : List ℕ) → Added f a g → Added f' a h

-- coordinates in the limbs that a width is worked on in, from limb q on
abbrev pub kept_from : ℕ → ℕ → List ℕ → ℕ → ℕ
kept_from m q e = raised (q * 64) (below (64 * reach m) (limb_coord e))

-- what the first n limbs of a row add to coordinate i at slot r: f from limb q on, where the row has coordinate q * 64 + r
abbrev pub slot_sum : ℕ → List ℕ → (ℕ → ℕ) → ℕ → ℕ → ℕ
slot_sum n row f r i = sum n (λ q. coord row (q * 64 + r) * raised (q * 64) f i)

-- the same of limbs
abbrev pub limbs_add : ℕ → List ℕ → List ℕ → ℕ → ℕ → ℕ → ℕ
limbs_add m e row n = slot_sum n row (below (64 * reach m) (limb_coord e))

-- whether a list of limbs has all slots
abbrev pub has_slots : List ℕ → Bool
has_slots g = eqb (length g) (slots * twice_limbs)

-- what a row adds to coordinate i at slot r, where g has all slots
abbrev pub row_adds : ℕ → List ℕ → List ℕ → List ℕ → ℕ → ℕ → ℕ
row_adds m g e row r i = choose (has_slots g) (limbs_add m e row (reach m) r i) 0

-- g with what a row adds to it: coordinate c of g is coordinate c modulo a slot's at slot c over that, rounded down
unfoldable pub plus_row : ℕ → List ℕ → List ℕ → List ℕ → List ℕ
plus_row m g e row = pack_limbs (length g) (λ c. limb_coord g c + row_adds m g e row (c / (64 * twice_limbs)) (c % (64 * twice_limbs)))

-- coordinate i of the sum of all slots, slot r moved up r
abbrev pub total_at : List ℕ → ℕ → ℕ
total_at g i = sum slots (λ r. raised r (cell g r) i)

-- the same in the limbs that the width is worked on in, where g has all slots
abbrev pub spread_sum : ℕ → List ℕ → ℕ → ℕ
spread_sum m g = below (64 * twice_reach m) (λ i. choose (has_slots g) (total_at g i) 0)

-- whether limbs go on for an operand's from a coordinate on, and one more
abbrev pub is_long : ℕ → List ℕ → Bool
is_long at x = ltb (at / 64 + carried_limbs) (length x)

-- coordinate i of what is seen of limbs from a coordinate on, where there are limbs enough
abbrev pub seen_from : ℕ → List ℕ → ℕ → ℕ → ℕ
seen_from m x at = below (64 * reach m) (λ i. choose (is_long at x) (limb_coord x (at + i)) 0)

-- coordinate i of what a row at distance d meets, where xx and yy are x and y written twice: the product of the pair i, i + d,
-- and unless it is met one way round that of the pair the other way
abbrev pub met_at : Bool → ℕ → ℕ → List ℕ → List ℕ → List ℕ → List ℕ → ℕ → ℕ
met_at once m d x y xx yy = below (64 * reach m) (λ i. choose (is_long d xx && is_long d yy)
    (limb_coord x i * limb_coord yy (d + i) + choose once 0 (limb_coord y i * limb_coord xx (d + i))) 0)
