-- Gathering a flow's rivals, flow by flow: what is added to their demand is that flow's share of I(t). Rests on Demand, Rates and Spread.
use mathlib.Core.List.{List, []}
use mathlib.Core.Path.{◌≡◌, refl, sym, ap, fun_ext, ◌∙◌}
use Prim.Native.Nat.{ℕ, ◌+◌, ◌≤◌, ◌<◌}
use native.Mathlib.Omega.{arith}
use borrow.Author.Tests.{eq-eqb, ne_eqb}
use lib.ListN.{length, length-append}
use Rattle.std.specs.Prelude.{Some, None}
use Rattle.std.proofs.lemmas.List.Elements.{All-push}
use Rattle.std.proofs.lemmas.List.Sums.{sum_by_push}
use Rattle.laws.specs.Bounded.{sum_below}
use Rattle.laws.proofs.Sum.{sum_none, sum_more, sum_grow}
use Rattle.flow.specs.declared.Flow.{Flow}
use Rattle.flow.specs.Plan.{Plan, flow_at}
use Rattle.flow.specs.Ranges.{PlanOk}
use Rattle.conflict.specs.Conflict.{Conflict, conflict}
use Rattle.conflict.proofs.Spread.{SpreadMost, none, some, conflict_most}
use Rattle.window.specs.declared.Rival.{Rival}
use Rattle.window.specs.Window.{share, share_of, interference, least_from, most_window, least_window, window_of, burst_window_of}
use Rattle.window.specs.Rivals.{RivalOk, whole_link, rival_share, demand_of, rates_of, rival_of, keep_rival, RivalsAmong}
use Rattle.window.proofs.Rates.{rivals_fill}
use Rattle.window.proofs.Bursts.{goes_in}
use Rattle.window.proofs.BurstWindows.{burst_one, burst_none}

-- no flows, no rivals
pub among_none : (p : Plan) (f : ℕ) → RivalsAmong p f 0 []
unfolding demand_of
among_none p f = record { few = omega arith; ok = λ k d b. absurd (omega arith); sum = λ t. sym (sum_none _) }

-- the rivals among all flows make I(t), so their least window is T
pub among_all : (p : Plan) (f : ℕ) (rivals : List Rival) → RivalsAmong p f (length p.flows) rivals
    → least_from (demand_of rivals) most_window 1 ≡ window_of p f
unfolding window_of interference
among_all p f rivals h = ap (λ (I : ℕ → ℕ). least_from I most_window 1) (fun_ext h.sum)

-- their least window for k packets is B
pub burst_all : (p : Plan) (f k : ℕ) (rivals : List Rival) → RivalsAmong p f (length p.flows) rivals
    → least_window (goes_in (demand_of rivals) k) ≡ burst_window_of p f k
unfolding burst_window_of interference
burst_all p f k rivals h = ap (λ (I : ℕ → ℕ). least_window (goes_in I k)) (fun_ext h.sum)

pub with_demand : (rivals : List Rival) (g : Flow) (j t : ℕ) → demand_of (keep_rival rivals g (Some j)) t ≡ demand_of rivals t + share g t (Some j)
unfolding demand_of rival_share share
with_demand rivals g j t = sum_by_push (rival_share t) rivals (rival_of g j)

module _ (p : Plan) (f m : ℕ) (rivals : List Rival) (h : RivalsAmong p f m rivals) where
  -- where their rates fill the link there is no window for any packet, whatever flows are left
  pub burst_filled : (packets : ℕ) → 1 ≤ packets → m ≤ length p.flows → whole_link ≤ rates_of rivals → burst_window_of p f packets ≡ None
  unfolding interference
  burst_filled packets least below full =
      burst_none p f packets (λ t from to. omega (arith, rivals_fill rivals t h.ok from full, h.sum t, sum_grow (share_of p f t) m _ below))

  pub among_filled : m ≤ length p.flows → whole_link ≤ rates_of rivals → window_of p f ≡ None
  among_filled below full = sym (burst_one p f) ∙ burst_filled 1 (omega arith) below full

  -- a flow is no rival of its own
  pub among_self : m ≡ f → RivalsAmong p f (m + 1) rivals
  unfolding share_of
  among_self same =
      record {
        few = omega (arith, h.few);
        ok = h.ok;
        sum = λ t. h.sum t ∙ sym (sum_more (share_of p f t) m ∙ rw (eq-eqb m f same) (omega arith));
      }

  module _ (ok : PlanOk p) (in_plan : f < length p.flows) (below : m < length p.flows) (other : m ≡ f → ⊥) where
    next_sum : (t : ℕ) → sum_below (m + 1) (share_of p f t)
        ≡ demand_of rivals t + share (flow_at p m) t (conflict p (flow_at p f) (flow_at p m))
    unfolding share_of
    next_sum t = sum_more (share_of p f t) m ∙ rw (h.sum t, ne_eqb m f other)

    small : SpreadMost (conflict p (flow_at p f) (flow_at p m))
    small =
        conflict_most p ok.sx_most ok.sy_most (flow_at p f) (flow_at p m) (record { own = ok.flow_ok f in_plan; other = ok.flow_ok m below })

    among_by : (c : Conflict) → conflict p (flow_at p f) (flow_at p m) ≡ c → SpreadMost c
        → RivalsAmong p f (m + 1) (keep_rival rivals (flow_at p m) c)
    unfolding share
    among_by None e none =
        record { few = omega (arith, h.few); ok = h.ok; sum = λ t. sym (rw e at (next_sum t) ∙ omega arith) }
    among_by (Some j) e (some most) =
        let g = ok.flow_ok m below in
        let fits : RivalOk (rival_of (flow_at p m) j) =
        record { burst_least = g.burst_least; burst_most = g.burst_most; period_least = g.period_least; spread_most = most } in
        record {
          few = simp length-append (omega (arith, h.few));
          ok = All-push RivalOk rivals (rival_of (flow_at p m) j) h.ok fits;
          sum = λ t. with_demand rivals (flow_at p m) j t ∙ sym (rw e at (next_sum t));
        }

    -- flow m with its conflict
    pub among_more : RivalsAmong p f (m + 1) (keep_rival rivals (flow_at p m) (conflict p (flow_at p f) (flow_at p m)))
    among_more = among_by _ refl small
