-- The proofs of the statements in specs/Statements.antt.
use Rattle.std.specs.Prelude.{Ok}
use mathlib.Core.Path.{◌≡◌, refl, sym, ◌∙◌}
use mathlib.Core.List.{List, [], ◌∷◌}
use Prim.Native.Nat.{ℕ, ◌≤◌}
use lib.ListN.{length}
use Rattle.gf2.specs.Coordinates.{coord}
use Rattle.gf2.specs.Tables.{row}
use Rattle.judging.specs.FaultTable.{too_short, shape_causes}
use Rattle.judging.proofs.CauseLaws.{none-given, answer-given}
use Rattle.judging.proofs.Searches.{fine-append}
use Rattle.judging.proofs.Passed.{room-passes}
use Rattle.table.specs.Rows.{Shaped}
use Rattle.table.proofs.Shapes.{shape-passes}
use Rattle.card.specs.Numbers.{number}
use Rattle.card.specs.Rows.{places, steps, row_card, rows_card}
use Rattle.card.specs.Cards.{card}
use Rattle.card.specs.Calls.{in_front}
use Rattle.card.specs.Statements.{CardOf}
use Rattle.card.proofs.Theorems.{card-laws}
use Rattle.card_writer.specs.Calls.{write_causes, write_verdict, write_call, write_card}
use Rattle.card_writer.specs.Statements.{CardTrip, CardTrips, CardLengths, CarriedCards}
use Rattle.card_writer.proofs.Lengths.{card-le, ones-table, ones-longest}

-- what is written where the table has a shape and the output room
module _ (m : ℕ) (table out : List ℕ) (shape : Shaped m table) (fits : length (card m table) ≤ length out) where
  write-none : write_verdict m table (length out) ≡ Ok tt
  write-none = none-given (write_causes m table (length out))
      (fine-append (shape_causes m table) (too_short (length out) (length (card m table)) ∷ []) (shape-passes shape) (room-passes (length out) (length (card m table)) fits, tt))

  write-answers : write_call m table out ≡ Ok (length (card m table))
  write-answers = sym (answer-given (length (card m table)) write-none)

  write-writes : write_card m table out ≡ in_front (card m table) out
  write-writes = rw write-none

-- a card, and the table of which it is the card
card-trip : (s : List ℕ) (m : ℕ) (table : List ℕ) → CardOf s m table → CardTrip s m table
card-trip s m table c =
    let shaped : Shaped m table = record { least = c.least; greatest = c.greatest; is_table = c.shape } in
    record {
      of_table = c;
      answers = λ out h. write-answers m table out shaped (rw (← c.is_card) at h) ∙ rw c.is_card;
      writes = λ out h. write-writes m table out shaped (rw (← c.is_card) at h) ∙ rw c.is_card;
    }

pub card-trips : CardTrips
card-trips s old small e = card-trip s _ _ (card-laws.cards s old small e)

pub card-lengths : CardLengths
card-lengths = record { most = card-le; is_table = ones-table; reached = ones-longest }

pub carried-cards : CarriedCards
unfolding card number rows_card row_card places steps row coord
carried-cards = record { width2 = refl; width3 = refl; width4 = refl; width5 = refl }
