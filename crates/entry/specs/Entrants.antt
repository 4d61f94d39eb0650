-- Who enters, as the walk over the flows finds it, and a flow's next tally. Only promises of inner functions name these;
-- proofs/ ties them to the rule and to Step.
use Rattle.std.specs.Prelude as Prelude
use Rattle.std.specs.Prelude.{Bool, List, ◌≡◌, ℕ, ◌+◌, ◌-◌, ◌*◌, ◌≤◌, ◌<◌, length, get_or, Some, None}
use Rattle.std.proofs.Math.Option.{Option, none, some}
use Rattle.laws.specs.Count.{one}
use Rattle.laws.specs.Grid.{cell_index}
use Rattle.flow.specs.declared.Flow.{Flow}
use Rattle.flow.specs.Offsets.{port_of}
use Rattle.flow.specs.Limits.{last_clock}
use Rattle.bucket.specs.Regulator.{after_cycle}
use Rattle.router.specs.Rule.{is_open, entrant_below}
use Rattle.state.specs.declared.Tally.{Tally}
use Rattle.state.specs.State.{State}
use Rattle.state.specs.Facts.{StateFacts}
use Rattle.state.specs.Read.{count_in, clock_in, state_of}
use Rattle.cycle.specs.Seen.{seen, view}

-- the port of a flow at its client's router is open
unfoldable pub port_open : State → Flow → Bool
port_open s f = is_open (seen s f.xs f.ys) f.xs (port_of s.plan.sx f)

-- who enters at a client, as the walk has it
unfoldable pub entrant_in : Prelude.Option ℕ → Option ℕ
entrant_in None = none
entrant_in (Some f) = some f

-- the entrants of all clients after n flows, in the order of the routers
pub record Entrants (s : State) (n : ℕ) (l : List (Prelude.Option ℕ)) : Type 0 where
  pub room : s.plan.sx * s.plan.sy ≤ length l
  pub at : (x y : ℕ) → x < s.plan.sx → y < s.plan.sy
      → entrant_in (get_or l (cell_index s.plan.sx x y) None) ≡ entrant_below s.plan (view s) x y n

-- a state whose clock isn't the last, with the entrants of all its clients
pub record AllEntered (w : List ℕ) (l : List (Prelude.Option ℕ)) : Type 0 where
  pub facts : StateFacts w
  pub clock_below : clock_in w < last_clock
  pub all_entrants : Entrants (state_of w) (count_in w) l

-- a flow's tally after a cycle in which it entered or not
unfoldable pub tally_after : Flow → Tally → (entered : Bool) → Tally
tally_after f t entered =
    record {
      bucket = after_cycle f.burst f.period entered t.bucket;
      entered = t.entered + one entered;
      waiting = t.waiting - one entered;
    }
