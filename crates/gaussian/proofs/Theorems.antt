-- The theorems of specs/Statements: the list of types, by one computed test over all of its entries, and its moduli, by its bounds; the two
-- orders of choice; drawn tables, computed.
use mathlib.Core.Path.{◌≡◌, refl, sym, subst}
use mathlib.Core.Logic.{◌⊎◌, inl, inr}
use Prim.Native.Nat.{ℕ, ◌+◌, ◌-◌, ◌%◌, ◌<◌, ◌∣◌}
use native.Mathlib.Nat.{dvd_of_mod-eq-zero, mod-eq-zero_of_dvd}
use native.Mathlib.Omega.{arith}
use lib.Dec.{T, eqb, eqb→eq, eqb_refl}
use lib.ListN.{get_or}
use Rattle.gf2.specs.Sums.{sum}
use Rattle.gf2.specs.Coordinates.{value, tabulate, pack}
use Rattle.gf2.specs.Operands.{below, from_coords}
use Rattle.gaussian.specs.Types.{IsType, AnsiType, types, type_of}
use Rattle.gaussian.specs.Table.{some, in_k, in_coset, gives, term, row_coord, rows_of, drawn}
use Rattle.gaussian.specs.Statements.{Listed, TypeList, TypeOrders, ModuliFit, DrawnTable, DrawnCarried}
use Rattle.gaussian.proofs.Entries.{every, at}
use Rattle.gaussian.proofs.TypeTests.{entry, ansi_type}
use Rattle.gaussian.proofs.Soundness.{cases, zero-type, ansi-type}
use Rattle.gaussian.proofs.Two.{eight}
use Rattle.gaussian.proofs.TypeOrders.{ansi-is-type, ansi-only, same, other, both-types}
use Rattle.gaussian.proofs.TypeBound.{type-small, modulus-small, modulus-fits}
use Rattle.gaussian.proofs.RowLaws.{row_of, rows-table}

passes : T (every entry 0 types)
passes = tt

-- an entry that passes the test
sound : (k x : ℕ) → T (entry k x) → Listed (k + 2) x
sound k x t = pick (cases (eqb ((k + 2) % 8) 0) (eqb x 0) (ansi_type (k + 2) x) t)
  where
    pos : 0 < k + 2
    pos = omega arith

    never : 8 ∣ k + 2 → (s : ℕ) → ¬ IsType (k + 2) s
    never d = eight (k + 2) pos (mod-eq-zero_of_dvd 8 d)

    pick : (T (eqb ((k + 2) % 8) 0) × T (eqb x 0)) ⊎ ((T (eqb ((k + 2) % 8) 0) → ⊥) × T (ansi_type (k + 2) x)) → Listed (k + 2) x
    pick (inl s) = record {
      chosen = λ n. absurd (n (eqb→eq x 0 s.1));
      none = (λ z. dvd_of_mod-eq-zero 8 (eqb→eq ((k + 2) % 8) 0 s.0), λ d. eqb→eq x 0 s.1);
      never = never;
    }
    pick (inr s) = record {
      chosen = λ n. choice;
      none = (λ z. absurd (zero-type (k + 2) (subst (λ (y : ℕ). IsType (k + 2) y) z (ansi-is-type (k + 2) x choice))), λ d. absurd (not_eight d));
      never = never;
    }
      where
        choice : AnsiType (k + 2) x
        choice = ansi-type (k + 2) x pos s.1

        not_eight : 8 ∣ k + 2 → ⊥
        not_eight d = s.0 (subst (λ (y : ℕ). T (eqb y 0)) (sym (mod-eq-zero_of_dvd 8 d)) (eqb_refl 0))

pub type-list : TypeList
unfolding type_of
type-list m h h' = subst (λ (y : ℕ). Listed y (get_or types (m - 2) 0)) back (sound (m - 2) _ (at entry types passes (m - 2) (omega arith)))
  where
    back : m - 2 + 2 ≡ m
    back = omega arith

pub type-orders : TypeOrders
unfolding sum value tabulate pack below from_coords some in_k in_coset gives term row_coord rows_of drawn
type-orders = record { is_type = ansi-is-type; only = ansi-only; same = same; other = other; both = both-types; table2 = refl }

pub moduli-fit : ModuliFit
moduli-fit m h h' = modulus-fits (modulus-small (type-small m h h') h')

pub drawn-table : (m t : ℕ) → DrawnTable m t
unfolding drawn
drawn-table m t = record { is_table = rows-table m _; rows = λ d h. row_of m m _ d h }

pub drawn-carried : DrawnCarried
unfolding sum value tabulate pack below from_coords type_of some in_k in_coset gives term row_coord rows_of drawn
drawn-carried = record { width2 = refl; width3 = refl; width4 = refl; width5 = refl }
