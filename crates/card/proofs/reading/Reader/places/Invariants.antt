-- `card::reading::Reader::places` meets its contract.
use Prim.Native.Nat.{◌-◌}
use Rattle.card.specs.Rows.{read_places}
use Rattle.card.proofs.ReadSteps.{PlacesTo}
use Rattle.card.proofs.reading.Reader.places.Given as goal

abbrev pub invariant-loop : goal.invariant-loop
invariant-loop l = PlacesTo l.width (read_places l.width 0 l.count l.initial.self.left.now) l.self.left.now l.row l.free (l.count - l.counter)
