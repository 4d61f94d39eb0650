-- What an answer of the window call, the burst call or the flight call tells: the window, a burst's window, or the flight bound. Rests
-- on Asked.
use mathlib.Core.Bool.{true}
use mathlib.Core.List.{List}
use mathlib.Core.Logic.{inl, inr}
use mathlib.Core.Path.{◌≡◌, refl, sym, ◌∙◌}
use Prim.Native.Nat.{ℕ, ◌≤◌, ◌<◌}
use borrow.Author.Tests.{leb-true}
use lib.Dec.{leb}
use lib.ListN.{length}
use Rattle.laws.proofs.Cases.{test, and_true}
use Rattle.flow.specs.declared.Flow.{Flow}
use Rattle.flow.specs.Plan.{flow_at}
use Rattle.std.specs.Option.{ok_or}
use Rattle.refusal.specs.declared.Cause.TheVariants.{NoWindow}
use Rattle.refusal.specs.Answer.{Answer, Done, Refused, told_value}
use Rattle.file.specs.Layout.{plan_of}
use Rattle.plan.proofs.Refusals.{refused_done}
use Rattle.window.specs.Window.{Window}
use Rattle.std.specs.Prelude.{Some, None}
use Rattle.window.specs.Window.{window_of, burst_window_of}
use Rattle.bounds.specs.Bounds.{asked, window_by, window_answer, is_burst, burst_answer, flight_bound_answer, flight_bound_of}
use Rattle.bounds.proofs.Asked.{Known, asked_refused, asked_done}

-- the window found, or 14 with the flow
pub told_or : (f : ℕ) (w : Window) → told_value (ok_or w (record { cause = NoWindow; place = f })) ≡ window_by f w
told_or f (Some T) = refl
told_or f None = refl

-- a call that isn't refused is on a known flow, and answers its own value
asked_known : (file : List ℕ) (f v : ℕ) (a : Answer) → asked file f a ≡ Done v → Known file f
asked_known file f v a e = go (asked file f (Done 0)) refl
  where
    go : (first : Answer) → asked file f (Done 0) ≡ first → Known file f
    go (Done w) q = asked_done file f w q
    go (Refused n place) q = absurd (refused_done n place v (sym (asked_refused file f n place a q) ∙ e))

asked_own : (file : List ℕ) (f v : ℕ) (a : Answer) → asked file f a ≡ Done v → a ≡ Done v
asked_own file f v a e = sym ((asked_known file f v a e).answers a) ∙ e

-- a window that is answered is found
found_at : (f T : ℕ) (found : Window) → window_by f found ≡ Done T → found ≡ Some T
found_at f T (Some t) e = cc
found_at f T None e = absurd (refused_done 14 f T e)

-- the T of the window call is the window
pub window_told : (file : List ℕ) (f T : ℕ) → window_answer file f ≡ Done T → window_of (plan_of file) f ≡ Some T
unfolding window_answer
window_told file f T e = found_at f T _ (asked_own file f T _ e)

-- a burst has 1 to σ packets
pub burst_range : (f : Flow) (k : ℕ) → is_burst f k ≡ true → (1 ≤ k) × (k ≤ f.burst)
burst_range f k e = let both = and_true (leb 1 k) (leb k f.burst) e in (leb-true 1 k both.0, leb-true k f.burst both.1)

-- the B of the burst call is the window of k packets of a flow of the plan
pub burst_told : (file : List ℕ) (f k B : ℕ) → burst_answer file f k ≡ Done B
    → (f < length (plan_of file).flows) × (burst_window_of (plan_of file) f k ≡ Some B)
unfolding burst_answer
burst_told file f k B e =
    elim (test (is_burst (flow_at (plan_of file) f) k)) [
      | inl some ↦ ((asked_known file f B _ e).below, found_at f B _ (rw some at (asked_own file f B _ e)))
      | inr none ↦ absurd (refused_done 20 0 B (rw none at (asked_own file f B _ e)))
    ]

-- the B of the flight call is the flight bound
pub flight_told : (file : List ℕ) (f B : ℕ) → flight_bound_answer file f ≡ Done B → flight_bound_of (plan_of file) f ≡ B
unfolding flight_bound_answer
flight_told file f B e = let own = asked_own file f B _ e in cc
