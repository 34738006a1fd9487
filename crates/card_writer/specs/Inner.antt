-- Inner definitions, which no demand cites: what the code's steps through a card say.
use Rattle.std.specs.Prelude.{◌≡◌, List, ℕ, ◌+◌, ◌*◌, ◌≤◌, length}
use Rattle.std.proofs.lemmas.List.Edits.{sets}
use Rattle.gf2.specs.Operands.{max_width}
use Rattle.limbs.specs.Limbs.{carried_limbs, limb_coord}
use Rattle.card.specs.Rows.{places}
use Rattle.card_writer.specs.Calls.{longest}
use Rattle.card_writer.specs.declared.writing.CardWriter.{CardWriter}

-- bytes are put where the writer stands, as far as its output goes, and it stands after them
pub record Puts (bytes : List ℕ) (old new : CardWriter) : Type 0 where
  pub ends : new.at ≡ old.at + length bytes
  pub stored : new.out.now ≡ sets old.out.now old.at bytes
  pub same_output : new.out.ghost_name ≡ old.out.ghost_name

-- bytes that are put next end within the longest card
pub record HasRoom (bytes : List ℕ) (w : CardWriter) : Type 0 where
  pub within : w.at + length bytes ≤ longest max_width

-- the places of the ones of a row that is carried in limbs
abbrev pub limb_ones : List ℕ → List ℕ
limb_ones x = places (limb_coord x) 0 (64 * carried_limbs)
