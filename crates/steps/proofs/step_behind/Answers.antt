-- `step_behind`: a step on the memory behind the exits, with cleared room for its entrants and the next registers.
use Rattle.std.proofs.Common.{rules}
use Rattle.steps.proofs.Behind.{part_is, put_is, behind_steps, cleared}
use Rattle.steps.proofs.step_behind.Goals as goal
use Rattle.steps.proofs.step_behind.Goals.{After-fill-2}

pub advance_in-requires-clause-stepping : goal.advance_in-requires-clause-stepping
advance_in-requires-clause-stepping c =
    let inv = (goal.at.advance_in-requires-clause-stepping c).After-fill-2.type_inv in
    rw part_is (behind_steps _ _ _ c.requires.free_behind (inv.state 3).fits)

pub advance_in-requires-clause-room : goal.advance_in-requires-clause-room
advance_in-requires-clause-room c = rw (c.fill.ensures.after (λ y e. search rules), c.fill-2.ensures.after (λ y e. search rules)) (cleared _ _ _ c.requires.rooms)

pub returns : goal.returns
returns c =
    record {
      state_after = c.advance_in.ensures.state_after;
      value = c.advance_in.ensures.value;
      delivery_after = rw (put_is, c.advance_in.ensures.delivery_after) (rw part_is);
    }
