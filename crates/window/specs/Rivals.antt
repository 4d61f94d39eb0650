-- What the inner functions ask and keep: the rivals of a flow, those that conflict with it, and what they add to I(t).
use Rattle.std.specs.Prelude.{List, [], ◌∷◌, ◌++◌, ◌≡◌, ℕ, ◌+◌, ◌-◌, ◌/◌, ◌≤◌, length, Some, None}
use Rattle.std.specs.List.{All, sum_by}
use Rattle.laws.specs.Bounded.{sum_below}
use Rattle.flow.specs.declared.Flow.{Flow}
use Rattle.flow.specs.Plan.{Plan, most_burst}
use Rattle.bucket.specs.Curve.{curve}
use Rattle.conflict.specs.Conflict.{Conflict}
use Rattle.conflict.specs.Inner.{most_spread}
use Rattle.window.specs.declared.Rival.{Rival}
use Rattle.window.specs.Window.{share_of}

-- what a rival adds to I(t)
unfoldable pub rival_share : (t : ℕ) → Rival → ℕ
rival_share t r = curve r.burst r.period (t - 1 + r.spread)

-- what rivals add to I(t)
unfoldable pub demand_of : List Rival → (t : ℕ) → ℕ
demand_of rivals t = sum_by (rival_share t) rivals

-- a rival's burst is in range, its period at least 1, and its spread small
pub record RivalOk (r : Rival) : Type 0 where
  pub burst_least : 1 ≤ r.burst
  pub burst_most : r.burst ≤ most_burst
  pub period_least : 1 ≤ r.period
  pub spread_most : r.spread ≤ most_spread

-- every one of them
abbrev pub AllOk : List Rival → Type 0
AllOk rivals = All RivalOk rivals

-- the parts in which a link, one packet a cycle, is counted; a flow of period P has the rate of ⌊2^31/P⌋ of them a cycle
abbrev pub whole_link : ℕ
whole_link = 2147483648

abbrev pub rate_of : Rival → ℕ
rate_of r = whole_link / r.period

-- the rates of rivals together
unfoldable pub rates_of : List Rival → ℕ
rates_of rivals = sum_by rate_of rivals

-- flow g as a rival, with spread j
abbrev pub rival_of : Flow → (j : ℕ) → Rival
rival_of g j = record { burst = g.burst; period = g.period; spread = j }

-- after the rivals kept, flow g with its conflict
abbrev pub keep_rival : List Rival → Flow → Conflict → List Rival
keep_rival rivals g None = rivals
keep_rival rivals g (Some j) = rivals ++ rival_of g j ∷ []

-- these are the rivals of flow number f among the first m flows: together they add to I(t) what those flows do
pub record RivalsAmong (p : Plan) (f m : ℕ) (rivals : List Rival) : Type 0 where
  pub few : length rivals ≤ m
  pub ok : AllOk rivals
  pub sum : (t : ℕ) → demand_of rivals t ≡ sum_below m (share_of p f t)
