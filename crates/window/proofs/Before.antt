-- No window grows: a conflict by the turning rows is no wider than 01's, so neither is I(t). Rests on Bursts and the laws of turning rows.
use mathlib.Core.Bool.{Bool, true, false, cond, ◌&&◌}
use mathlib.Core.Logic.{inl, inr}
use mathlib.Core.Path.{◌∙◌}
use Prim.Native.Nat.{ℕ, ◌+◌, ◌-◌, ◌*◌, ◌≤◌}
use native.Mathlib.Nat.{mul-le-mul_right}
use native.Mathlib.Omega.{arith}
use lib.Dec.{ltb, leb, eqb}
use lib.ListN.{length}
use Rattle.laws.proofs.Cases.{test}
use Rattle.laws.proofs.Sum.{sum_mono}
use Rattle.flow.specs.declared.Flow.{Flow}
use Rattle.flow.specs.Offsets.{ΔX, ΔY, same_client}
use Rattle.flow.specs.Plan.{Plan, flow_at}
use Rattle.bucket.proofs.Curve.{curve_span}
use Rattle.turning.specs.Turning.{is_turning}
use Rattle.turning.proofs.Turning.{south_most}
use Rattle.std.specs.Prelude.{Some, None}
use Rattle.conflict.specs.Conflict.{Conflict, rows_to, columns_to, laps, conflict_east, conflict_south, conflict_by, conflict}
use Rattle.window.specs.Window.{share, share_of, interference, most_window, window_of}
use Rattle.window.specs.Before.{east_before, south_before, conflict_before, share_before, interference_before, window_before, NoWindowGrows}
use Rattle.window.proofs.Bursts.{at_least, least_most, least_one}

-- no conflict where there was none, and no larger spread
data Narrower : Conflict → Conflict → Type 0 where
  free : {c : Conflict} → Narrower None c
  less : {i j : ℕ} → i ≤ j → Narrower (Some i) (Some j)

either : (b : Bool) {c c' d d' : Conflict} → Narrower c c' → Narrower d d' → Narrower (cond b c d) (cond b c' d')
either true h k = h
either false h k = k

-- with one test more
fewer : (a t : Bool) {c c' : Conflict} → Narrower c c' → Narrower (cond (a && t) c None) (cond a c' None)
fewer true true h = h
fewer true false h = free
fewer false t h = free

module _ (sx sy : ℕ) (turns : ℕ → Bool) (f g : Flow) where
  abbrev r : ℕ
  r = rows_to sy f g

  laps_less : (n : ℕ) → laps sx sy turns g n ≤ n * sx
  laps_less n = mul-le-mul_right sx (south_most sy turns g.ys n)

  east_narrower : Narrower (conflict_east sx sy turns f g) (east_before sx sy f g)
  unfolding conflict_east east_before
  east_narrower =
      either (eqb r 0)
      (either (leb 1 (columns_to sx f g) && leb (columns_to sx f g) (ΔX sx g)) (less {i = 0} {j = 0} (omega arith)) free)
      (fewer (leb r (ΔY sy g)) (turns f.ys) (less (laps_less (r - 1))))

  south_narrower : Narrower (conflict_south sx sy turns f g) (south_before sx sy f g)
  unfolding conflict_south south_before
  south_narrower = either (eqb g.xd f.xs && leb r (ΔY sy g)) (less (laps_less r)) free

  narrower : Narrower (conflict_by sx sy turns f g) (conflict_before sx sy f g)
  unfolding conflict_by conflict_before
  narrower =
      either (same_client f g) (less {i = 0} {j = 0} (omega arith))
      (elim (test (ltb 0 (ΔX sx f))) [ inl east ↦ rw east east_narrower | inr south ↦ rw south south_narrower ])

share_less : (g : Flow) (t : ℕ) (c d : Conflict) → Narrower c d → share g t c ≤ share g t d
unfolding share
share_less g t c d free = omega arith
share_less g t c d (less {i} {j} h) = curve_span g.burst g.period {d = t - 1 + i} {e = t - 1 + j} (omega arith)

own_none : (b : Bool) (m n : ℕ) → m ≤ n → cond b 0 m ≤ cond b 0 n
own_none true m n h = omega arith
own_none false m n h = h

flow_less : (p : Plan) (f t g : ℕ) → share_of p f t g ≤ share_before p f t g
unfolding share_of share_before conflict
flow_less p f t g =
    let narrow = narrower p.sx p.sy (is_turning p (flow_at p g).xd) (flow_at p f) (flow_at p g) in
    own_none (eqb g f) _ _ (share_less (flow_at p g) t _ _ narrow)

-- I(t) is no larger
interference_less : (p : Plan) (f t : ℕ) → interference p f t ≤ interference_before p f t
unfolding interference interference_before
interference_less p f t = sum_mono (share_of p f t) (share_before p f t) (length p.flows) (λ g l. flow_less p f t g)

pub no_window_grows : NoWindowGrows
unfolding window_of window_before
no_window_grows p f before e =
    let old = at_least (interference_before p f) 1 most_window 1 before (least_one (interference_before p f) ∙ e) in
    rw (← (least_one (interference p f)))
    (least_most (interference p f) 1 most_window 1 before old.from old.to (omega (arith, old.free, interference_less p f before)))
