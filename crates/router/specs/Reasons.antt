-- Why a flow didn't enter (02, U7): "one word per flow with the first of these six that applies: 0 it entered; 1 nothing waiting;
-- 2 no token; 3 its port is E and W held a packet; 4 its port is S and a network packet took S; 5 a lower-numbered flow of its client
-- entered. All are judged on the state before the step." Said of what rule 3 is fed, so of a state and of the packet book alike.
use Rattle.std.specs.Prelude.{Bool, true, false, cond, not, ◌&&◌, ◌||◌, List, ◌≡◌, ℕ, ◌<◌, ltb, length}
use Rattle.std.proofs.Math.Option.{Option, none, some}
use Rattle.laws.specs.Bounded.{tabulate}
use Rattle.flow.specs.declared.Flow.{Flow}
use Rattle.flow.specs.declared.Port.{Port}
use Rattle.flow.specs.declared.Port.TheVariants.{East, South}
use Rattle.flow.specs.Offsets.{port_of, same_port}
use Rattle.flow.specs.Plan.{Plan, flow_at}
use Rattle.place.specs.Place.{Place, W, N}
use Rattle.router.specs.declared.Reason.{Reason}
use Rattle.router.specs.declared.Reason.TheVariants.{Entered, NothingWaiting, NoToken, WestHeld, SouthTaken, LowerEntered}
use Rattle.router.specs.Rule.{Seen, no_packet, port_from, View, entrant, enters}

-- 02's number of each
abbrev pub number_of : Reason → ℕ
number_of Entered = 0
number_of NothingWaiting = 1
number_of NoToken = 2
number_of WestHeld = 3
number_of SouthTaken = 4
number_of LowerEntered = 5

-- the packet in a register goes by this port (rule 1)
abbrev pub goes_by : Seen → Place → Port → Option Flow → Bool
goes_by s at o none = false
goes_by s at o (some f) = same_port (port_from s at f) o

-- a network packet took S: that of W or that of N. One that exits takes S too, as S at its destination is the exit (rule 2)
unfoldable pub south_taken : Seen → (x y : ℕ) → Bool
south_taken s x y = goes_by s (W x y) South s.west || goes_by s (N x y) South s.north

-- a flow's port, and what its client's router sees
abbrev pub port_for : Plan → ℕ → Port
port_for p f = port_of p.sx (flow_at p f)

abbrev pub seen_by : Plan → View → ℕ → Seen
seen_by p v f = v.seen (flow_at p f).xs (flow_at p f).ys

-- who enters is a flow with a lower number
abbrev pub is_lower : ℕ → Option ℕ → Bool
is_lower f none = false
is_lower f (some g) = ltb g f

-- a reason applies to flow f
unfoldable pub applies : Plan → View → ℕ → Reason → Bool
applies p v f Entered = enters p v f
applies p v f NothingWaiting = not (v.waits f)
applies p v f NoToken = not (v.token f)
applies p v f WestHeld = same_port (port_for p f) East && not (no_packet (seen_by p v f).west)
applies p v f SouthTaken = same_port (port_for p f) South && south_taken (seen_by p v f) (flow_at p f).xs (flow_at p f).ys
applies p v f LowerEntered = is_lower f (entrant p v (flow_at p f).xs (flow_at p f).ys)

-- the first that applies; where none of the first five does, the sixth does (`EveryReason`)
unfoldable pub reason : Plan → View → ℕ → Reason
reason p v f =
    cond (applies p v f Entered) Entered
    (cond (applies p v f NothingWaiting) NothingWaiting
    (cond (applies p v f NoToken) NoToken
    (cond (applies p v f WestHeld) WestHeld
    (cond (applies p v f SouthTaken) SouthTaken LowerEntered))))

-- the words of all flows
unfoldable pub reason_words : Plan → View → List ℕ
reason_words p v = tabulate (length p.flows) (λ f. number_of (reason p v f))

-- "A reason list shorter than the flow count is refused with 19"; else 0
unfoldable pub list_number : Plan → (told : ℕ) → ℕ
list_number p told = cond (ltb told (length p.flows)) 19 0

-- reason r of flow f is the first that applies
pub record IsFirst (p : Plan) (v : View) (f : ℕ) (r : Reason) : Type 0 where
  pub applies_itself : applies p v f r ≡ true
  pub none_before : (q : Reason) → number_of q < number_of r → applies p v f q ≡ false

-- the six are complete: every flow of a plan has one that applies
abbrev pub EveryReason : Type 0
EveryReason = (p : Plan) (v : View) (f : ℕ) → f < length p.flows → IsFirst p v f (reason p v f)
