-- Refusal numbers are small: a plan's at most 7, a window's at most 14. Rests on the definitions of the refusals.
use mathlib.Core.Bool.{Bool, true, false, cond, not, ◌&&◌, ◌||◌}
use mathlib.Core.List.{List}
use Prim.Native.Nat.{ℕ, zero, suc, ◌+◌, ◌-◌, ◌*◌, ◌≤◌}
use native.Mathlib.Omega.{arith}
use lib.Dec.{ltb, eqb}
use lib.ListN.{length}
use Rattle.flow.specs.declared.Flow.{Flow}
use Rattle.flow.specs.Plan.{on_torus, most_flows}
use Rattle.refusal.specs.Answer.{Answer, Done, Refused}
use Rattle.file.specs.declared.Trailer.{Trailer}
use Rattle.plan.specs.Refusals as Refusals
use Rattle.plan.specs.Refusals.{answer_by, refused_or, size_ok, header_number, trailer_number, record_number, flow_number, first_refused, records_answer, plan_answer}
use Rattle.file.specs.Layout.{most_file, record_size, trailer_size, tagged, trailer_of, plan_of}
use Rattle.window.specs.Window.{Window}
use Rattle.std.specs.Prelude.{Some, None}
use Rattle.window.specs.Window.{window_of}
use Rattle.bounds.specs.Bounds.{asked, window_by, window_answer}
use Rattle.bounds.specs.Inner.{NumberMost}

or_else_most : (m : ℕ) (a b : Answer) → NumberMost m a → NumberMost m b → NumberMost m (refused_or a b)
or_else_most m (Done v) b h k = k
or_else_most m (Refused n place) b h k = h

answer_most : (m n place : ℕ) → n ≤ m → NumberMost m (answer_by n place)
answer_most m zero place h = tt
answer_most m (suc n) place h = h

number_most : {m x y : ℕ} (b : Bool) → x ≤ m → y ≤ m → cond b x y ≤ m
number_most true h k = h
number_most false h k = k

header_most : (t : Trailer) (len : ℕ) → header_number t len ≤ 7
unfolding Refusals.header_number
header_most t len =
    number_most (not (size_ok t.sx && size_ok t.sy)) (omega arith)
    (number_most (eqb t.count 0 || ltb most_flows t.count) (omega arith)
    (number_most (not (eqb (t.start + record_size * t.count) (len - trailer_size))) (omega arith) (omega arith)))

trailer_most : (file : List ℕ) → trailer_number file ≤ 7
unfolding Refusals.trailer_number
trailer_most file =
    number_most (ltb (length file) trailer_size || ltb most_file (length file)) (omega arith)
    (number_most (not (tagged file)) (omega arith) (header_most (trailer_of file) (length file)))

record_most : (sx sy : ℕ) (f : Flow) → record_number sx sy f ≤ 7
unfolding Refusals.record_number
record_most sx sy f =
    number_most (not (on_torus sx sy f)) (omega arith)
    (number_most (eqb f.period 0 || eqb f.burst 0) (omega arith) (omega arith))

first_most : (number : ℕ → ℕ) (m : ℕ) → ((i : ℕ) → number i ≤ m) → (n : ℕ) → NumberMost m (first_refused number n)
unfolding Refusals.first_refused
first_most number m h zero = tt
first_most number m h (suc n) =
    or_else_most m (first_refused number n) (answer_by (number n) n) (first_most number m h n) (answer_most m (number n) n (h n))

-- a plan's refusals are 1 to 7
pub plan_most : (file : List ℕ) → NumberMost 7 (plan_answer file)
unfolding Refusals.plan_answer Refusals.flow_number
plan_most file =
    or_else_most 7 (answer_by (trailer_number file) 0) (records_answer file (trailer_of file)) (answer_most 7 (trailer_number file) 0 (trailer_most file))
    (first_most (flow_number file (trailer_of file)) 7 (λ f. record_most _ _ _) (trailer_of file).count)

-- no call on a flow adds a larger number than its own
asked_most : (file : List ℕ) (f m : ℕ) (a : Answer) → 12 ≤ m → NumberMost m a → NumberMost m (asked file f a)
unfolding asked
asked_most file f m a h k =
    or_else_most m (plan_answer file) (cond known a (Refused 12 0)) (raise (plan_answer file) (plan_most file)) (with_flow known)
  where
    known : Bool
    known = ltb f (length (plan_of file).flows)

    with_flow : (b : Bool) → NumberMost m (cond b a (Refused 12 0))
    with_flow true = k
    with_flow false = h

    raise : (a : Answer) → NumberMost 7 a → NumberMost m a
    raise (Done v) l = tt
    raise (Refused n place) l = omega arith

-- 14 is the window call's last
pub window_most : (file : List ℕ) (f : ℕ) → NumberMost 14 (window_answer file f)
unfolding window_answer
window_most file f = asked_most file f 14 _ (omega arith) (found (window_of (plan_of file) f))
  where
    found : (w : Window) → NumberMost 14 (window_by f w)
    found (Some T) = tt
    found None = omega arith
