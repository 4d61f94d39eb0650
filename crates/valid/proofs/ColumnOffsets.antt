-- A list of the flows' ΔX, filled flow by flow. Rests on the facts of crate state.
use mathlib.Core.Bool.{true}
use mathlib.Core.List.{List}
use mathlib.Core.Path.{◌≡◌, ◌∙◌}
use Prim.Native.Nat.{ℕ, ◌+◌, ◌≤◌, ◌<◌}
use native.Mathlib.Decide.{ℕ_discrete}
use native.Mathlib.Omega.{arith}
use lib.ListN.{length, set, length-set}
use lib.Seq.{get_or-set_same, get_or-set_other}
use Rattle.flow.specs.Offsets.{ΔX}
use Rattle.state.specs.Layout.{flow_place}
use Rattle.state.specs.Read.{sx_in, count_in, flow_in}
use Rattle.laws.specs.Bounded.{all_below}
use Rattle.laws.proofs.Bounded.{all_at}
use Rattle.state.specs.Forms.{flow_fits}
use Rattle.state.specs.Facts.{Headed, ColumnOffsets, FlowsFit}
use Rattle.state.proofs.Forms.{flow_facts}

pub column_offsets_none : (w dxs : List ℕ) → count_in w ≤ length dxs → ColumnOffsets w 0 dxs
column_offsets_none w dxs room = record { room = room; offset = λ f h. absurd (omega arith) }

-- one flow more
pub column_offsets_more : (w dxs : List ℕ) (n dx : ℕ) → ColumnOffsets w n dxs → n < count_in w → dx ≡ ΔX (sx_in w) (flow_in w (flow_place n))
    → ColumnOffsets w (n + 1) (set dxs n dx)
column_offsets_more w dxs n dx before below e =
    let within : n < length dxs = omega (arith, before.room) in
    record {
      room = simp length-set before.room;
      offset = λ f h. elim (ℕ_discrete f n) [
        | yes same ↦ rw same (get_or-set_same dxs n dx 0 within ∙ e)
        | no other ↦ get_or-set_other dxs n f dx 0 other ∙ before.offset f (omega arith)
      ];
    }

-- after all flows
pub flows_fit : (w dxs : List ℕ) → Headed w → all_below (count_in w) (flow_fits w) ≡ true → ColumnOffsets w (count_in w) dxs → FlowsFit w dxs
flows_fit w dxs headed all known =
    record { headed = headed; flow = λ f l. flow_facts w f (all_at (flow_fits w) (count_in w) all f l); known = known }
