-- The curve of a flow: how often it can enter in a span of cycles (01, Windows, with 02's U3).
use Rattle.std.specs.Prelude.{ℕ, ◌+◌, ◌-◌, ◌/◌}

-- ⌈d/P⌉, the least number of periods that cover d cycles: `ceiling_least`
unfoldable pub ceiling : ℕ → ℕ → ℕ
ceiling d period = (d + (period - 1)) / period

-- "The curve becomes σ + ⌈(t−1+J)/P⌉ everywhere", with d for t−1+J
unfoldable pub curve : ℕ → ℕ → ℕ → ℕ
curve burst period d = burst + ceiling d period
