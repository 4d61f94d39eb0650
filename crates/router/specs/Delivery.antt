-- What an exit writes (01, One cycle).
use Rattle.std.specs.Prelude.{List, [], ◌∷◌, ◌++◌, ℕ}

pub record Delivery : Type 0 where
  pub flow : ℕ
  pub serial : ℕ
  pub entry : ℕ
  pub exit : ℕ
  pub D : ℕ

-- the delivery with these five words, in their order
abbrev pub delivery_with : (flow serial entry exit D : ℕ) → Delivery
delivery_with f s e t D = record { flow = f; serial = s; entry = e; exit = t; D = D }

-- each exit writes five words: flow, serial, entry cycle, exit cycle, D
abbrev pub words_of : List Delivery → List ℕ
words_of [] = []
words_of (d ∷ ds) = (d.flow ∷ d.serial ∷ d.entry ∷ d.exit ∷ d.D ∷ []) ++ words_of ds
