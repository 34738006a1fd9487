-- A fold that takes one term after another: where it stands, and what it has stored.
use Rattle.std.specs.Prelude.{◌≡◌, List, [], ◌∷◌, ℕ, ◌+◌, ◌*◌, Option, None, Some}
use Rattle.std.proofs.lemmas.List.Edits.{sets}
use Rattle.netlist.specs.Lists.{gate_wire}
use Rattle.list_folds.specs.declared.fold.Fold.{Fold}

-- a fold without terms, whose first gate is gate n
abbrev pub fresh : ℕ → Fold
fresh n = record { running = None; gates = n }

-- one term more: "the first term is the running wire; each next term is an XOR with the running wire left"
abbrev pub term_after : ℕ → Option ℕ → ℕ → ℕ → Fold
term_after m None n w = record { running = Some w; gates = n }
term_after m (Some r) n w = record { running = Some (gate_wire m n); gates = n + 1 }

-- the gate that it gives, where there is a term before it
abbrev pub words_after : Option ℕ → ℕ → ℕ → List ℕ → List ℕ
words_after None n w out = out
words_after (Some r) n w out = sets out (2 + 3 * n) (1 ∷ r ∷ w ∷ [])

unfoldable pub pushed : ℕ → Fold → ℕ → Fold
pushed m f w = term_after m f.running f.gates w

unfoldable pub stored : Fold → ℕ → List ℕ → List ℕ
stored f w out = words_after f.running f.gates w out

-- several terms more
unfoldable pub pushed_all : ℕ → Fold → List ℕ → Fold
pushed_all m f [] = f
pushed_all m f (w ∷ terms) = pushed_all m (pushed m f w) terms

unfoldable pub stored_all : ℕ → Fold → List ℕ → List ℕ → List ℕ
stored_all m f [] out = out
stored_all m f (w ∷ terms) out = stored_all m (pushed m f w) terms (stored f w out)

-- the terms take the fold from f to g, and the words from `old` to `out`
pub record Pushed (m : ℕ) (f : Fold) (old terms : List ℕ) (g : Fold) (out : List ℕ) : Type 0 where
  pub fold : g ≡ pushed_all m f terms
  pub words : out ≡ stored_all m f terms old
