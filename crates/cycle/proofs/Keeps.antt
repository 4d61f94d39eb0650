-- A step keeps words that form a state: the state after a cycle has numbers that fit, whatever state it was (01, State memory; One
-- cycle). Rests on Carried and the laws of a state's words.
use mathlib.Core.Bool.{true}
use mathlib.Core.List.{List}
use mathlib.Core.Path.{◌≡◌, refl, sym, ap, subst, ◌∙◌}
use Prim.Native.Nat.{ℕ, ◌+◌, ◌-◌, ◌<◌}
use native.Mathlib.Omega.{arith}
use borrow.Author.Tests.{lt-ltb, le-leb}
use lib.ListN.{length}
use Rattle.laws.specs.Count.{one}
use Rattle.laws.proofs.Cases.{and_true}
use Rattle.laws.proofs.Bounded.{get_d_tabulate, length_tabulate}
use Rattle.laws.proofs.Count.{one_most}
use Rattle.laws.proofs.Grid.{get_d_grid, length_grid}
use Rattle.laws.proofs.Stands.{Stands, stands_first}
use Rattle.flow.specs.declared.Flow.{Flow}
use Rattle.flow.specs.Plan.{Plan, flow_at}
use Rattle.flow.specs.Limits.{most_waiting, step_number}
use Rattle.bucket.proofs.Regulator.{cycle_fits}
use Rattle.refusal.specs.Answer.{Answer, Done}
use Rattle.place.specs.Place.{Place, W, N, column_of, row_of}
use Rattle.router.specs.Links.{Output, feeder}
use Rattle.router.specs.Rule.{via}
use Rattle.router.specs.Delivery.{words_of}
use Rattle.router.proofs.Links.{feeder_on, reach_feeder}
use Rattle.router.proofs.Limit.{every_row}
use Rattle.router.proofs.Path.{OnPath, entered_before}
use Rattle.router.proofs.InPlace.{path_in_place}
use Rattle.state.specs.Register.{Register}
use Rattle.std.specs.Prelude.{Some, None}
use Rattle.state.specs.declared.Tally.{Tally}
use Rattle.state.specs.declared.Cell.{Cell}
use Rattle.state.specs.State.{State, tally_at, cell_at}
use Rattle.state.specs.Words.{state_words}
use Rattle.state.specs.Read.{plan_in, state_of}
use Rattle.state.specs.Forms.{tally_fits, state_number}
use Rattle.state.specs.Outcome.{Outcome, outcome, Lent, lent, unless, over}
use Rattle.state.proofs.Over.{unless_done}
use Rattle.state.proofs.Read.{plan_read}
use Rattle.state.proofs.View.{view_plan}
use Rattle.state.proofs.Forms.{tally_facts}
use Rattle.state.proofs.Formed.{register_ok, StateOk, words_form, state_fits}
use Rattle.cycle.specs.Seen.{enters}
use Rattle.cycle.specs.Step.{carried, next_register, next_cell, next_tally, step_state, deliveries, step_on}
use Rattle.cycle.proofs.Offer.{Sound}
use Rattle.cycle.proofs.Carried.{Carries, carried_routed}

module _ (s : State) (ok : StateOk s) where
  abbrev p : Plan
  p = s.plan

  next_tally_fits : (f : ℕ) → f < length p.flows → tally_fits (s.clock + 1) (flow_at p f) (next_tally s f) ≡ true
  unfolding tally_fits next_tally
  next_tally_fits f l =
      let φ : Flow = flow_at p f in
      let t : Tally = tally_at s f in
      let old = tally_facts s.clock φ t (ok.tally_ok f l) in
      let bucket = (and_true _ _ (and_true _ _ (ok.tally_ok f l)).0).0 in
      rw (
        cycle_fits φ.burst φ.period (enters s f) t.bucket bucket,
        le-leb (t.waiting - one (enters s f)) most_waiting (omega (arith, old.waiting_most)),
        le-leb (t.entered + one (enters s f)) (s.clock + 1) (omega (arith, old.entered_most, one_most (enters s f))),
      )

  tally_after : (f : ℕ) → f < length p.flows → tally_at (step_state s) f ≡ next_tally s f
  unfolding step_state
  tally_after f l = get_d_tabulate (length p.flows) (next_tally s) f _ l

  cell_after : (x y : ℕ) → x < p.sx → y < p.sy → cell_at (step_state s) x y ≡ next_cell s x y
  unfolding step_state
  cell_after x y l m = get_d_grid p.sx p.sy (next_cell s) _ x y l m

  -- a register then holds what the output that feeds it carried
  next_register_fits : (at : Place) → column_of at < p.sx → row_of at < p.sy → register_ok (step_state s) at (next_register s at) ≡ true
  unfolding next_register step_state
  next_register_fits at column row =
      let on = feeder_on p at column row in
      of (carried s from.x from.y (via from.port)) (carried_routed s ok from.x from.y on.0 on.1 (via from.port))
    where
      from : Output
      from = feeder p at

      of : (r : Register) → Carries s from.x from.y (via from.port) r → register_ok (step_state s) at r ≡ true
      of None h = refl
      of (Some packet) h =
          let fits = ok.plan_ok.flow_ok packet.flow h.flow_below in
          let path = subst (OnPath p (flow_at p packet.flow) every_row (s.clock + 1) packet.deflections packet.entry) (reach_feeder p at column row) h.arrives in
          let entered = ap (λ (t : Tally). t.entered) (tally_after packet.flow h.flow_below) in
          rw (
            lt-ltb packet.flow (length p.flows) h.flow_below,
            le-leb 1 packet.serial h.serial_least,
            le-leb packet.serial (tally_at (step_state s) packet.flow).entered (omega (arith, entered, h.serial_most)),
            lt-ltb packet.entry (s.clock + 1) (entered_before p (flow_at p packet.flow) every_row fits (s.clock + 1) packet.deflections packet.entry at path),
            path_in_place p (flow_at p packet.flow) fits (s.clock + 1) packet.deflections every_row (λ n. omega arith) packet.entry at path,
          )

  -- the state after a cycle
  pub step_fits : StateOk (step_state s)
  unfolding step_state
  step_fits =
      record {
        plan_ok = ok.plan_ok;
        tally_ok = λ f l. rw (tally_after f l) (next_tally_fits f l);
        west_ok = λ x y l m. ap (λ (c : Cell). register_ok (step_state s) (W x y) c.west) (cell_after x y l m) ∙ next_register_fits (W x y) l m;
        north_ok = λ x y l m. ap (λ (c : Cell). register_ok (step_state s) (N x y) c.north) (cell_after x y l m) ∙ next_register_fits (N x y) l m;
      }

-- with a tally for each flow and a cell for each router
pub step_sound : (s : State) → Sound s → Sound (step_state s)
unfolding step_state
step_sound s sound =
    record {
      fits = step_fits s sound.fits;
      sized = record {
        tallies_all = length_tabulate (length s.plan.flows) (next_tally s);
        cells_all = length_grid s.plan.sx s.plan.sy (next_cell s);
      };
    }

-- what a step that is not refused answers and leaves
abbrev pub accepted_step : (words delivery : List ℕ) → Outcome Answer Lent
accepted_step words delivery =
    let s = state_of words in
    outcome (Done (length (deliveries s))) (lent (over (state_words (step_state s)) words) (over (words_of (deliveries s)) delivery))

-- an accepted step: the words formed a state, and its answer is the count of exits
pub record StepDone (w delivery : List ℕ) (n : ℕ) : Type 0 where
  pub formed : state_number w ≡ 0
  pub does : step_on w delivery ≡ accepted_step w delivery
  pub count : length (deliveries (state_of w)) ≡ n

module _ (w delivery : List ℕ) (n : ℕ) (e : (step_on w delivery).answer ≡ Done n) where
  abbrev limits : ℕ
  limits = step_number (state_of w).plan (length delivery) (state_of w).clock

  pub step_done : StepDone w delivery n
  unfolding step_on
  step_done =
      let tried = unless limits (lent w delivery) (accepted_step w delivery) in
      let state = unless_done (state_number w) (lent w delivery) tried n e in
      let rest = unless_done limits (lent w delivery) (accepted_step w delivery) n (sym (ap (λ (o : Outcome Answer Lent). o.answer) state.1) ∙ e) in
      let does : step_on w delivery ≡ accepted_step w delivery = state.1 ∙ rest.1 in
      let answer : Done (length (deliveries (state_of w))) ≡ Done n = sym (ap (λ (o : Outcome Answer Lent). o.answer) does) ∙ e in
      record { formed = state.0; does = does; count = cc }

  stands : Stands 0 (step_on w delivery).memory.state 0 (state_words (step_state (state_of w)))
  stands = rw step_done.does (stands_first 0 (state_words (step_state (state_of w))) _)

  -- its words form a state
  pub step_forms : state_number (step_on w delivery).memory.state ≡ 0
  step_forms = words_form (step_state (state_of w)) (step_fits (state_of w) (state_fits w step_done.formed)) _ stands

  -- and have the plan that they had
  pub step_plan : plan_in (step_on w delivery).memory.state ≡ plan_in w
  unfolding step_state
  step_plan = plan_read (step_state (state_of w)) _ stands ∙ view_plan w
