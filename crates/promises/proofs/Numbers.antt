-- Which numbers faults have: 1 to 6 and 9 to 21.
-- never7, never8: document 02 took these two out.
use mathlib.Core.Path.{◌≡◌, refl, sym, ap, ◌∙◌}
use mathlib.Core.Bool.{Bool, true, false, ◌&&◌, ◌||◌, true≢false}
use Prim.Native.Nat.{ℕ}
use lib.Dec.{leb}
use Rattle.judging.specs.declared.fault.Fault.{Fault}
use Rattle.judging.specs.declared.fault.Fault.TheVariants.{Width, Length, HighBit, RowZero, RowPair, Triple, Call, Card, List as OfList}
use Rattle.judging.specs.declared.fault.CallFault.TheVariants.{InverseOfZero, TraceOne, OutputShort, NoType, BadGate}
use Rattle.judging.specs.declared.fault.CardFault.TheVariants.{Ends, Number, Form, Place, Tail}
use Rattle.judging.specs.declared.fault.ListFault.TheVariants.{Size, Form as ListForm, Output}
use Rattle.judging.specs.Faults.{number_of}

unfoldable is_given : ℕ → Bool
is_given n = (leb 1 n && leb n 6) || (leb 9 n && leb n 21)

given : (f : Fault) → is_given (number_of f).0 ≡ true
unfolding is_given
given Width = refl
given Length = refl
given HighBit = refl
given RowZero = refl
given (RowPair d) = refl
given (Triple i j) = refl
given (Call InverseOfZero) = refl
given (Call TraceOne) = refl
given (Call OutputShort) = refl
given (Call NoType) = refl
given (Call BadGate) = refl
given (Card Ends) = refl
given (Card Number) = refl
given (Card Form) = refl
given (Card Place) = refl
given (Card Tail) = refl
given (OfList Size) = refl
given (OfList ListForm) = refl
given (OfList (Output r)) = refl

never : (n : ℕ) → is_given n ≡ false → (f : Fault) → ¬ ((number_of f).0 ≡ n)
never n h f e = true≢false (sym (given f) ∙ ap is_given e ∙ h)

pub never7 : (f : Fault) → ¬ ((number_of f).0 ≡ 7)
unfolding is_given
never7 = never 7 refl

pub never8 : (f : Fault) → ¬ ((number_of f).0 ≡ 8)
unfolding is_given
never8 = never 8 refl
