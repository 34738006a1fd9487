-- The proofs of the statements in specs/Statements.antt.
-- A card without fault has a table, and the call answers as the statements say.
use Rattle.std.specs.Prelude.{IsOk}
use Rattle.std.specs.Result.{is_ok, result_unwrap_or}
use mathlib.Core.Path.{◌≡◌, refl, sym, ap, ap₂, ◌∙◌}
use mathlib.Core.List.{List, []}
use mathlib.Core.Bool.{true≢false}
use Prim.Native.Nat.{ℕ, ◌*◌, ◌≤◌}
use lib.ListN.{length, take}
use lib.Seq.{take_at}
use Rattle.gf2.specs.Operands.{max_width, bytes_for}
use Rattle.gf2.specs.Tables.{IsTable}
use Rattle.card.specs.Numbers.{Read, refused, got}
use Rattle.card.specs.Cards.{card, Table, read_card}
use Rattle.card.specs.Calls.{in_front, read_answer, read_into, read_call}
use Rattle.card.specs.Statements.{Bytes, TableTrip, width_read, table_read, CardOf, CardLaws}
use Rattle.card.proofs.Numbers.{read-written, written_read_lem}
use Rattle.card.proofs.Trips.{rows-placed, rows-read, rows_written, card-read, card-written}

-- an answer without fault rests on a table
pub found : (room : ℕ) (s : List ℕ) → IsOk (read_answer (read_card room s)) → (t : Table) × (rest : List ℕ) × (read_card room s ≡ got t rest)
found room s e = go (read_card room s) refl e
  where
    go : (x : Read Table) → read_card room s ≡ x → IsOk (read_answer x) → (t : Table) × (rest : List ℕ) × (read_card room s ≡ got t rest)
    go (refused f) q e = absurd (true≢false (sym e))
    go (got t rest) q e = (t, rest, q)

front_of : (m : ℕ) (table old : List ℕ) → length table ≡ m * bytes_for m → take (m * bytes_for m) (in_front table old) ≡ table
front_of m table old h = take_at table _ (m * bytes_for m) h

same-card : {s : List ℕ} {m n : ℕ} {table t : List ℕ} → m ≡ n → table ≡ t → CardOf s n t → CardOf s m table
same-card e q c = rw (e, q) c

cards : (s old : List ℕ) → Bytes s → IsOk (read_call s old) → CardOf s (width_read s old) (table_read s old)
cards s old small e =
    let (t, rest, q) = found (length old) s e in
    let r = card-written (length old) s t rest small q in
    let w : width_read s old ≡ t.width = ap (λ x. result_unwrap_or (read_answer x) 0) q in
    let b : table_read s old ≡ t.bytes = ap₂ (λ k x. take (k * bytes_for k) x) w (ap (λ x. read_into x old) q) ∙ front_of t.width t.bytes old r.is_table.size in
    same-card w b (record { least = r.lent.least; greatest = r.lent.greatest; shape = r.is_table; is_card = sym r.is_card })

tables : (m : ℕ) (table : List ℕ) → 2 ≤ m → m ≤ max_width → IsTable m table → TableTrip m table
tables m table least greatest t = record {
  answers = λ old h. ap read_answer (reads old h);
  fills = λ old h. ap (λ x. read_into x old) (reads old h);
  only = λ s old small a f.
      let c = cards s old small (ap is_ok a) in
      let w : width_read s old ≡ m = ap (λ r. result_unwrap_or r 0) a in
      let b : table_read s old ≡ table = ap₂ (λ k x. take (k * bytes_for k) x) w f ∙ front_of m table old t.size in
      sym c.is_card ∙ ap₂ card w b;
}
  where
    reads : (old : List ℕ) → m * bytes_for m ≤ length old → read_card (length old) (card m table) ≡ got (record { width = m; bytes = table }) []
    reads old h = card-read (length old) m table (record { least = least; greatest = greatest; fits = h }) t

pub card-laws : CardLaws
card-laws = record {
  numbers = record { read_written = read-written; written_read = λ s n rest small e. (written_read_lem s n rest small e).is_number };
  rows = λ m h. record {
    read_written = λ table start count rest o. rows-read m table start count rest h o;
    written_read = λ table start count s rest small e. (rows_written m table start count s rest small e).are_rows;
    in_place = rows-placed m;
  };
  tables = tables;
  cards = cards;
}
