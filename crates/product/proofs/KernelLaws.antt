-- What rows of a table add at the slots of their ones: operands written twice, what a row meets, row after row.
use mathlib.Core.Path.{◌≡◌, refl, sym, ap, ap₂, ◌∙◌}
use mathlib.Core.Bool.{Bool, true, false, ◌&&◌}
use mathlib.Core.List.{List}
use Prim.Native.Nat.{ℕ, zero, suc, ◌+◌, ◌-◌, ◌*◌, ◌/◌, ◌%◌, ◌<◌, ◌≤◌}
use native.Mathlib.Nat.{zero-mul, mod-eq_of_lt, add-mod_left}
use native.Mathlib.Decide.{dec_lt}
use native.Mathlib.Omega.{arith}
use lib.ListN.{length, replicate}
use Rattle.gf2.specs.Sums.{sum}
use Rattle.gf2.specs.Coordinates.{coord}
use Rattle.gf2.specs.Operands.{max_width, minus, choose, below}
use Rattle.gf2.specs.Tables.{row}
use Rattle.gf2.proofs.Sums.{sum-ext, sum-mod}
use Rattle.gf2.proofs.Coordinates.{coord-lt}
use Rattle.gf2.proofs.Operands.{below_in, below_out}
use Rattle.operand.specs.declared.Operand.{Operand}
use Rattle.limbs.specs.Limbs.{carried_limbs, reach, limb_coord, pack_limbs, raised}
use Rattle.limbs.proofs.LimbCoords.{limb-lt, limb-pack, length-limbs, limb-zero, limbs-same}
use Rattle.limbs.proofs.RaisedLimbs.{raised-in, raised-out}
use Rattle.limbs.proofs.Reach.{reach-most, reach-room}
use Rattle.table.specs.Rows.{Shaped}
use Rattle.product.specs.Inner.{Clear, met_limbs, rows_to, gathered_at, Sound, is_one_way}
use Rattle.scatter.specs.declared.methods.Method.{Method}
use Rattle.scatter.specs.Cells.{twice_limbs, slots, cell, Added, slot_sum, limbs_add, met_at}
use Rattle.scatter.proofs.CellLaws.{added_none, added_more, long-enough}
use Rattle.product.proofs.GatherLaws.{gathered-rows}

-- x and the same again m places up
abbrev pub Twice : ℕ → List ℕ → List ℕ → Type 0
Twice m x xx = xx ≡ pack_limbs twice_limbs (λ i. limb_coord x i + raised m (limb_coord x) i)

room : (m d : ℕ) (x : List ℕ) {xx : List ℕ} → m ≤ max_width → d < m → Twice m x xx → d / 64 + carried_limbs < length xx
room m d x {xx} w h e = let size : length xx ≡ twice_limbs = ap length e ∙ length-limbs twice_limbs _ in omega arith

twice-coord : (m d i : ℕ) (x : List ℕ) {xx : List ℕ} → m ≤ max_width → Clear m x → Twice m x xx → d < m → i < m → limb_coord xx (d + i) ≡ limb_coord x ((i + d) % m)
twice-coord m d i x big clear e h l =
    ap (λ z. limb_coord z (d + i)) e ∙ limb-pack twice_limbs _ (d + i) (omega arith) ∙ elim (dec_lt (d + i) m) [
      | yes q ↦
          let p : (i + d) % m ≡ d + i = mod-eq_of_lt (omega arith) ∙ omega arith in
          rw (raised-out m (limb_coord x) (d + i) q, p) (omega (arith, limb-lt x (d + i)))
      | no q ↦
          let s : i + d ≡ m + (d + i - m) = omega arith in
          let p : (i + d) % m ≡ d + i - m = ap (λ k. k % m) s ∙ add-mod_left m (d + i - m) ∙ mod-eq_of_lt (omega arith) in
          rw (raised-in m (limb_coord x) (d + i) (omega arith), clear (d + i) (omega arith), p) (omega (arith, limb-lt x (d + i - m)))
    ]

bit-times : (c p : ℕ) → c < 2 → c * (p % 2) % 2 ≡ c * p % 2
bit-times zero p h = omega arith
bit-times (suc zero) p h = omega arith
bit-times (suc (suc c)) p h = absurd (omega arith)

-- the coordinates of x times others are 0 where those of x are
clear-times : (a b c d : ℕ) (t : Bool) → a ≡ 0 → c ≡ 0 → a * b + choose t 0 (c * d) ≡ 0
clear-times a b c d true p q = rw (p, zero-mul)
clear-times a b c d false p q = rw (p, q, zero-mul, zero-mul)

-- the same in the coordinates of bytes
abbrev pub met_bytes : Method → ℕ → ℕ → List ℕ → List ℕ → ℕ → ℕ
met_bytes how m d a b i = coord a i * coord b ((i + d) % m) + choose (is_one_way how m d) 0 (coord b i * coord a ((i + d) % m))

module _ (how : Method) (m : ℕ) (t x y : List ℕ) (from : ℕ) where
  pub rows_none : (g : List ℕ) → Added (rows_to how m t x y from 0) g g
  rows_none g = added_none (rows_to how m t x y from 0) g (λ r i. unfold sum in refl)

  rows_next : (d : ℕ) → from ≤ d → (s i : ℕ) → rows_to how m t x y from (d - from) s i + slot_sum (reach m) (row m t d) (met_limbs how m d x y) s i ≡ rows_to how m t x y from (d + 1 - from) s i
  unfolding sum
  rows_next d past s i =
      let next : d + 1 - from ≡ suc (d - from) = omega arith in
      let there : from + (d - from) ≡ d = omega arith in
      rw (next, there)

  module _ (shaped : Shaped m t) (cx : Clear m x) (cy : Clear m y) where
    pub met-clear : (d i : ℕ) → m ≤ i → met_limbs how m d x y i ≡ 0
    unfolding met_limbs
    met-clear d i h = clear-times _ _ _ _ (is_one_way how m d) (cx i h) (cy i h)

    met-coord : (d i : ℕ) {xx yy : List ℕ} → d < m → Twice m x xx → Twice m y yy → i < 64 * reach m → met_at (is_one_way how m d) m d x y xx yy i ≡ met_limbs how m d x y i
    unfolding met_limbs
    met-coord d i {xx} {yy} h ex ey k =
        let w = shaped.greatest in
        below_in (64 * reach m) _ i k
        ∙ ap (λ b. choose b (limb_coord x i * limb_coord yy (d + i) + choose (is_one_way how m d) 0 (limb_coord y i * limb_coord xx (d + i))) 0) (ap₂ ◌&&◌ (long-enough d xx (room m d x w h ex)) (long-enough d yy (room m d y w h ey)))
        ∙ elim (dec_lt i m) [
          | yes l ↦ ap₂ (λ u v. limb_coord x i * u + choose (is_one_way how m d) 0 (limb_coord y i * v)) (twice-coord m d i y w cy ey h l) (twice-coord m d i x w cx ex h l)
          | no l ↦ clear-times _ _ _ _ (is_one_way how m d) (cx i (omega arith)) (cy i (omega arith)) ∙ sym (clear-times _ _ _ _ (is_one_way how m d) (cx i (omega arith)) (cy i (omega arith)))
        ]

    -- what a row meets, as it is added
    met-kept : (d i : ℕ) {once : Bool} {xx yy e : List ℕ} → d < m → Twice m x xx → Twice m y yy → once ≡ is_one_way how m d → e ≡ pack_limbs carried_limbs (met_at once m d x y xx yy)
        → below (64 * reach m) (limb_coord e) i ≡ met_limbs how m d x y i % 2
    met-kept d i {xx = xx} {yy} {e} h ex ey o q = elim (dec_lt i (64 * reach m)) [
      | yes l ↦ below_in (64 * reach m) (limb_coord e) i l ∙ ap (λ z. limb_coord z i) q ∙ limb-pack carried_limbs _ i (omega (arith, reach-most m))
          ∙ ap (λ z. z % 2) (ap (λ b. met_at b m d x y xx yy i) o ∙ met-coord d i h ex ey l)
      | no l ↦ below_out (64 * reach m) (limb_coord e) i (omega arith) ∙ sym (ap (λ z. z % 2) (met-clear d i (omega (arith, reach-room m (omega (arith, shaped.greatest))))))
    ]

    pub rows_more : (d : ℕ) {once : Bool} {xx yy e u v w : List ℕ} → from ≤ d → d < m → Twice m x xx → Twice m y yy → once ≡ is_one_way how m d → e ≡ pack_limbs carried_limbs (met_at once m d x y xx yy)
        → Added (rows_to how m t x y from (d - from)) u v → Added (limbs_add m e (row m t d) (reach m)) v w → Added (rows_to how m t x y from (d + 1 - from)) u w
    rows_more d {e = e} past h ex ey o q p r = added_more (rows_to how m t x y from (d - from)) _ _ p r (λ s i b l. parts (rows_to how m t x y from (d - from) s i) (limbs_add m e line (reach m) s i) (slot_sum (reach m) line f s i) (same s i) ∙ ap (λ z. z % 2) (rows_next d past s i))
      where
        f : ℕ → ℕ
        f = met_limbs how m d x y

        line : List ℕ
        line = row m t d

        moved : (n i : ℕ) → raised n (below (64 * reach m) (limb_coord e)) i ≡ raised n f i % 2
        moved n i = elim (dec_lt i n) [
          | yes c ↦ raised-out n (below (64 * reach m) (limb_coord e)) i c ∙ sym (ap (λ z. z % 2) (raised-out n f i c))
          | no c ↦ raised-in n (below (64 * reach m) (limb_coord e)) i (omega arith) ∙ met-kept d (i - n) h ex ey o q ∙ sym (ap (λ z. z % 2) (raised-in n f i (omega arith)))
        ]

        same : (s i : ℕ) → limbs_add m e line (reach m) s i % 2 ≡ slot_sum (reach m) line f s i % 2
        same s i = sym (sum-mod (reach m) _) ∙ ap (λ z. z % 2) (sum-ext (reach m) _ _ (λ n c. ap (λ z. coord line (n * 64 + s) * z % 2) (moved (n * 64) i)
            ∙ bit-times (coord line (n * 64 + s)) (raised (n * 64) f i) (coord-lt line (n * 64 + s)))) ∙ sum-mod (reach m) _

        parts : (a b c : ℕ) → b % 2 ≡ c % 2 → (a + b) % 2 ≡ (a + c) % 2
        parts a b c z = omega arith

  -- from empty slots on
  rows-cell : (n c : ℕ) {g : List ℕ} → Added (rows_to how m t x y from n) (replicate c 0) g
      → (r i : ℕ) → r < slots → i < 64 * twice_limbs → cell g r i ≡ rows_to how m t x y from n r i % 2
  rows-cell n c p r i b l = p.coords r i b l ∙ ap (λ z. (z + rows_to how m t x y from n r i) % 2) (limb-zero c (r * (64 * twice_limbs) + i)) ∙ ap (λ z. z % 2) (omega arith)

-- an operand's coordinates in limbs
module _ {m : ℕ} {a : Operand} (s : Sound m a) {x : List ℕ} (e : x ≡ pack_limbs carried_limbs (coord a.bytes)) where
  pub limbs-clear : Clear m x
  limbs-clear i h = ap (λ f. f i) (limbs-same a.bytes e s.operand.size) ∙ s.operand.clear i h

  pub limbs-coord : (i : ℕ) → limb_coord x i ≡ coord a.bytes i
  limbs-coord i = ap (λ f. f i) (limbs-same a.bytes e s.operand.size)

module _ {m : ℕ} {a b : Operand} {x y : List ℕ} (sa : Sound m a) (sb : Sound m b)
    (ex : x ≡ pack_limbs carried_limbs (coord a.bytes)) (ey : y ≡ pack_limbs carried_limbs (coord b.bytes)) where
  -- what the rows add, gathered, in the operands' coordinates
  pub rows_made : {t : List ℕ} (how : Method) (from n c : ℕ) {g : List ℕ} → Shaped m t → from + n ≤ m → Added (rows_to how m t x y from n) (replicate c 0) g
      → (i : ℕ) → i < m → gathered_at m g i % 2 ≡ sum n (λ k. sum m (λ s. coord (row m t (from + k)) s * met_bytes how m (from + k) a.bytes b.bytes (minus m i s))) % 2
  rows_made {t} how from n c {g} shaped inside p i l =
      gathered-rows m n (λ k. row m t (from + k)) (λ k. met_limbs how m (from + k) x y) g (rows-cell how m t x y from n c p) (omega (arith, shaped.greatest))
      (λ k s h q. (shaped.is_table.rows (from + k) (omega arith)).clear s q)
      (λ k j q. met-clear how m t x y from shaped (limbs-clear sa ex) (limbs-clear sb ey) (from + k) j q) i l
      ∙ ap (λ z. z % 2) (sum-ext n _ _ (λ k h. sum-ext m _ _ (λ s q. ap (λ z. coord (row m t (from + k)) s * z) (same (from + k) (minus m i s)))))
    where
      same : (d j : ℕ) → met_limbs how m d x y j ≡ met_bytes how m d a.bytes b.bytes j
      same d j = unfold met_limbs in
          ap₂ (λ v w. v + choose (is_one_way how m d) 0 w) (ap₂ ◌*◌ (limbs-coord sa ex j) (limbs-coord sb ey ((j + d) % m))) (ap₂ ◌*◌ (limbs-coord sb ey j) (limbs-coord sa ex ((j + d) % m)))
