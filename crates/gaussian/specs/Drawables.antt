-- That a width and a type can be drawn is a proposition: the order that a type speaks of is one alone.
use mathlib.Core.Path.{◌≡◌}
use mathlib.Core.HLevel.{Σ_prop_path}
use Prim.Native.Nat.{ℕ, ◌*◌, ◌/◌}
use native.Mathlib.Decide.{dec_lt}
use native.Mathlib.Omega.{arith}
use Rattle.std.specs.Coded.{le_prop}
use Rattle.std.proofs.Props.{props}
use Rattle.gaussian.specs.Types.{Prime, IsOrder, Coprime, IsType, modulus}
use Rattle.gaussian.specs.Inner.{Drawable}

order-one : (b p j k : ℕ) → IsOrder j b p → IsOrder k b p → j ≡ k
order-one b p j k o q = elim (dec_lt j k) [
  | yes l ↦ absurd (q.2 j o.0 l o.1)
  | no l ↦ elim (dec_lt k j) [
    | yes h ↦ absurd (o.2 k q.0 h q.1)
    | no h ↦ omega arith
  ]
]

-- an order that a type speaks of
abbrev Speaks : ℕ → ℕ → ℕ → Type 0
Speaks m t k = IsOrder k 2 (modulus m t) × Coprime (t * m / k) m

speaks-prop : (m t k : ℕ) → IsProp (Speaks m t k)
speaks-prop m t k = Prim.hlevel props

prime-prop : (p : ℕ) → IsProp (Prime p)
prime-prop p = Prim.hlevel props

type-prop : (m t : ℕ) → IsProp (IsType m t)
type-prop m t u v =
    let nested : (w : IsType m t) → (k : ℕ) × Speaks m t k = λ w. (w.1.0, (w.1.1, w.1.2)) in
    let same : nested u ≡ nested v = Σ_prop_path (speaks-prop m t) (order-one 2 (modulus m t) u.1.0 v.1.0 u.1.1 v.1.1) in
    λ i. (prime-prop (modulus m t) u.0 v.0 i, ((same i).0, (same i).1.0, (same i).1.1))

pub drawable-prop : (m t : ℕ) → IsProp (Drawable m t)
drawable-prop m t u v = λ i. record {
  least = le_prop u.least v.least i;
  greatest = le_prop u.greatest v.greatest i;
  is_type = type-prop m t u.is_type v.is_type i;
  small = le_prop u.small v.small i;
}
