-- What a step delivers is genuine, whatever state it was: packets of the plan's flows, that flew as 01 says. The words that it leaves
-- are those deliveries' words (01, One cycle). Rests on the laws of a cycle.
use mathlib.Core.List.Memᴰ.{head as here}
use mathlib.Core.List.Memᴰ.{tail as there}
use mathlib.Core.List.{List, Memᴰ as Mem}
use mathlib.Core.Path.{◌≡◌}
use Prim.Native.Nat.{ℕ, ◌*◌, ◌<◌}
use lib.ListN.{length, take}
use lib.Seq.{take_at}
use Rattle.laws.proofs.Count.{mem_join}
use Rattle.flow.specs.Limits.{exit_size}
use Rattle.refusal.specs.Answer.{Done}
use Rattle.router.specs.Rule.{leave}
use Rattle.router.specs.Delivery.{Delivery, words_of}
use Rattle.router.proofs.Delivery.{words_length}
use Rattle.state.specs.Register.{Register}
use Rattle.std.specs.Prelude.{Some, None}
use Rattle.state.specs.State.{State}
use Rattle.state.specs.Read.{state_of}
use Rattle.state.proofs.Formed.{StateOk}
use Rattle.cycle.specs.Step.{carried, leaving, delivered, deliveries, step_on}
use Rattle.delivery.proofs.Groups.{Genuine}
use Rattle.cycle.proofs.Carried.{Carries, carried_routed}
use Rattle.cycle.proofs.Keeps.{step_done}

module _ (s : State) (ok : StateOk s) (d : Delivery) where
  router_genuine : (x y : ℕ) → x < s.plan.sx → y < s.plan.sy → Mem d (delivered s x y) → Genuine s.plan d
  unfolding delivered
  router_genuine x y lx ly = of (carried s x y leave) (carried_routed s ok x y lx ly leave)
    where
      of : (r : Register) → Carries s x y leave r → Mem d (leaving s.clock r) → Genuine s.plan d
      of None h m = elim m [ ]
      of (Some packet) h (here e) =
          rw e (record { flow_below = h.flow_below; few = h.arrives.few; time = h.arrives.time })
      of (Some packet) h (there m) = elim m [ ]

  pub delivery_genuine : Mem d (deliveries s) → Genuine s.plan d
  unfolding deliveries
  delivery_genuine m =
      let row = mem_join s.plan.sy _ m in
      let router = mem_join s.plan.sx _ row.2 in
      router_genuine router.0 row.0 router.1 row.1 router.2

-- the words that an accepted step's answer counts
pub step_delivers : (w delivery : List ℕ) (n : ℕ) → (step_on w delivery).answer ≡ Done n
    → take (exit_size * n) (step_on w delivery).memory.other ≡ words_of (deliveries (state_of w))
step_delivers w delivery n e =
    let done = step_done w delivery n e in
    let ds = deliveries (state_of w) in
    rw (done.does, ← done.count) (take_at (words_of ds) _ (exit_size * length ds) (words_length ds))
