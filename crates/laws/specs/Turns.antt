-- A loop's turns: step 0, then step 1, and so on, n of them.
use Rattle.std.specs.Prelude.{ℕ, zero, suc}

unfoldable pub turns : {A : Type 0} → ℕ → (ℕ → A → A) → A → A
turns zero step a = a
turns (suc n) step a = step n (turns n step a)
