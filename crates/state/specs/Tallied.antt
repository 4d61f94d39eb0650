-- A walk over the flows that writes each one's next tally. Only promises of inner functions name it; proofs/Tallied has its laws.
use Rattle.std.specs.Prelude.{List, ◌≡◌, ℕ, ◌+◌, ◌<◌}
use Rattle.std.proofs.lemmas.List.Edits.{sets}
use Rattle.laws.specs.Turns.{turns}
use Rattle.flow.specs.declared.Flow.{Flow}
use Rattle.flow.specs.Plan.{flow_at}
use Rattle.state.specs.declared.Tally.{Tally}
use Rattle.state.specs.Layout.{flow_place, number_size}
use Rattle.state.specs.State.{tally_at}
use Rattle.state.specs.Words.{tally_words}
use Rattle.state.specs.Read.{count_in, state_of}

-- the words l, after flow f's next tally has been written
unfoldable pub tallied : (next : ℕ → Tally) → (f : ℕ) → List ℕ → List ℕ
tallied next f l = sets l (flow_place f + number_size) (tally_words (next f))

-- a call may be made at the number, the plan numbers and the tally of each flow
abbrev pub AtEach : (pre : ℕ → Flow → Tally → Type 0) → (w : List ℕ) → Type 0
AtEach pre w = (f : ℕ) → f < count_in w → pre f (flow_at (state_of w).plan f) (tally_at (state_of w) f)

-- the words l, after n flows' next tallies have been written, which a call gave at these
pub record Retallied (post : ℕ → Flow → Tally → Tally → Type 0) (w : List ℕ) (n : ℕ) (l : List ℕ) : Type 0 where
  pub next : ℕ → Tally
  pub given : (f : ℕ) → f < n → post f (flow_at (state_of w).plan f) (tally_at (state_of w) f) (next f)
  pub words : l ≡ turns n (tallied next) w
