-- The words of a state, in 01's order (01, State memory).
use Rattle.std.specs.Prelude.{List, [], ◌∷◌, ◌++◌, ℕ, ◌+◌, length}
use Rattle.laws.specs.Count.{join_below}
use Rattle.flow.specs.declared.Flow.{Flow}
use Rattle.flow.specs.Plan.{Plan, flow_at}
use Rattle.state.specs.Register.{Register}
use Rattle.std.specs.Prelude.{Some, None}
use Rattle.state.specs.declared.Tally.{Tally}
use Rattle.state.specs.declared.Cell.{Cell}
use Rattle.state.specs.State.{State, tally_at, cell_at}

-- Sx, Sy, F, clock, four zeros
abbrev pub header_words : Plan → (clock : ℕ) → List ℕ
header_words p clock = p.sx ∷ p.sy ∷ length p.flows ∷ clock ∷ 0 ∷ 0 ∷ 0 ∷ 0 ∷ []

-- a flow's six plan numbers in record order
abbrev pub number_words : Flow → List ℕ
number_words f = f.xs ∷ f.ys ∷ f.xd ∷ f.yd ∷ f.period ∷ f.burst ∷ []

-- its tokens, count, entered, waiting
abbrev pub tally_words : Tally → List ℕ
tally_words t = t.bucket.tokens ∷ t.bucket.count ∷ t.entered ∷ t.waiting ∷ []

-- ten per flow
abbrev pub flow_words : Flow → Tally → List ℕ
flow_words f t = number_words f ++ tally_words t

-- empty is four zeros; otherwise flow + 1, serial, entry cycle, deflections D
abbrev pub register_words : Register → List ℕ
register_words None = 0 ∷ 0 ∷ 0 ∷ 0 ∷ []
register_words (Some packet) = (packet.flow + 1) ∷ packet.serial ∷ packet.entry ∷ packet.deflections ∷ []

-- W before N
abbrev pub cell_words : Cell → List ℕ
cell_words c = register_words c.west ++ register_words c.north

-- registers run by row, then column
unfoldable pub state_words : State → List ℕ
state_words s =
    let p = s.plan in
    header_words p s.clock
    ++ join_below (length p.flows) (λ f. flow_words (flow_at p f) (tally_at s f))
    ++ join_below p.sy (λ y. join_below p.sx (λ x. cell_words (cell_at s x y)))
