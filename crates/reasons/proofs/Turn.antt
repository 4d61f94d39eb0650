-- A flow's turn, by each test of rule 3: what it tells, and the entrants after it. Rests on the laws of reasons and of entrants.
use mathlib.Core.Bool.{Bool, true, false}
use mathlib.Core.List.{List}
use mathlib.Core.Path.{◌≡◌, sym, ap, ◌∙◌}
use Prim.Native.Nat.{ℕ, ◌+◌, ◌<◌}
use native.Mathlib.Omega.{arith}
use borrow.Author.Tests.{lt-ltb, le-ltb}
use lib.ListN.{get_or}
use Rattle.std.specs.Prelude.{Option, None}
use Rattle.laws.specs.Grid.{cell_index}
use Rattle.flow.specs.declared.Flow.{Flow}
use Rattle.flow.specs.declared.Port.{Port}
use Rattle.flow.specs.Offsets.{port_of}
use Rattle.flow.specs.Plan.{Plan, flow_at}
use Rattle.router.specs.declared.Reason.{Reason}
use Rattle.router.specs.declared.Reason.TheVariants.{Entered, NothingWaiting, NoToken, LowerEntered}
use Rattle.router.specs.Rule.{View, is_open, ready, is_flow}
use Rattle.router.specs.Rule as Rule
use Rattle.router.specs.Reasons.{port_for, seen_by, reason}
use Rattle.router.proofs.Entrant.{Ready, enters_turn}
use Rattle.router.proofs.Reasons.{closed_by, told_entered, told_nothing, told_no_token, told_closed, told_lower}
use Rattle.state.specs.declared.Tally.{Tally}
use Rattle.state.specs.State.{tally_at}
use Rattle.state.specs.Read.{sx_in, count_in, plan_in, state_of}
use Rattle.state.specs.Facts.{StateFacts}
use Rattle.state.proofs.View.{counted}
use Rattle.cycle.specs.Seen.{view}
use Rattle.cycle.proofs.Facts.{flow_ok}
use Rattle.entry.specs.Entrants.{port_open, entrant_in, Entrants}
use Rattle.entry.proofs.Entrant.{entrants_unready}
use Rattle.entry.proofs.Clients.{entrant_found}

-- what flow f's turn tells, and the entrants that it leaves
abbrev pub Turn : (w : List ℕ) → (f : ℕ) → Reason → List (Option ℕ) → Type 0
Turn w f r l = record { value : r ≡ reason (state_of w).plan (view (state_of w)) f; entrants_2 : Entrants (state_of w) (f + 1) l }

module _ (w : List ℕ) (s : StateFacts w) (f : ℕ) (below : f < count_in w) (t : Tally) (tally : t ≡ tally_at (state_of w) f) where
  abbrev p : Plan
  p = (state_of w).plan

  abbrev v : View
  v = view (state_of w)

  -- the queue and the bucket
  none_waits : t.waiting < 1 → v.waits f ≡ false
  none_waits h = rw (← tally) (le-ltb 0 t.waiting (omega arith))

  some_wait : 0 < t.waiting → v.waits f ≡ true
  some_wait h = rw (← tally) (lt-ltb 0 t.waiting h)

  no_token : t.bucket.tokens < 1 → v.token f ≡ false
  no_token h = rw (← tally) (le-ltb 0 t.bucket.tokens (omega arith))

  some_token : 0 < t.bucket.tokens → v.token f ≡ true
  some_token h = rw (← tally) (lt-ltb 0 t.bucket.tokens h)

  module _ (l : List (Option ℕ)) (e : Entrants (state_of w) f l) where
    pub turn_nothing : t.waiting < 1 → Turn w f NothingWaiting l
    unfolding ready
    turn_nothing h =
        let waits = none_waits h in
        record { value = sym (told_nothing p v f waits); entrants_2 = entrants_unready (state_of w) f l (rw waits) e }

    pub turn_no_token : 0 < t.waiting → t.bucket.tokens < 1 → Turn w f NoToken l
    unfolding ready
    turn_no_token h k =
        let waits = some_wait h in
        let token = no_token k in
        record { value = sym (told_no_token p v f waits token); entrants_2 = entrants_unready (state_of w) f l (rw (waits, token)) e }

  -- a waiting packet and a token: the port of the flow's numbers decides, by the rule
  module _ (h : 0 < t.waiting) (k : 0 < t.bucket.tokens) (φ : Flow) (flow : φ ≡ flow_at p f) where
    port_is : port_open (state_of w) φ ≡ is_open (seen_by p v f) (flow_at p f).xs (port_for p f)
    unfolding port_open
    port_is = rw flow

    pub turn_closed : (l : List (Option ℕ)) → Entrants (state_of w) f l → port_open (state_of w) φ ≡ false → (o : Port) → o ≡ port_of (sx_in w) φ → Turn w f (closed_by o) l
    unfolding ready state_of plan_in
    turn_closed l e shut o port =
        let waits = some_wait h in
        let token = some_token k in
        let closed = sym port_is ∙ shut in
        rw (port, flow)
        (record { value = sym (told_closed p v f waits token closed); entrants_2 = entrants_unready (state_of w) f l (rw (waits, token, closed)) e })

    -- an open port: the word at the flow's client after its turn tells whether it entered
    module _ (open' : port_open (state_of w) φ ≡ true) (l : List (Option ℕ)) (e : Entrants (state_of w) (f + 1) l)
        (r : Bool) (told : r ≡ is_flow f (entrant_in (get_or l (cell_index (sx_in w) φ.xs φ.ys) None))) where
      word_is : r ≡ Rule.enters p v f
      word_is =
          let ok = flow_ok w s f below in
          told ∙ rw flow (ap (is_flow f) (entrant_found w s (f + 1) l e _ _ ok.xs_on ok.ys_on)) ∙ enters_turn p v f (rw (counted w) below)

      pub turn_word : (r ≡ true → Turn w f Entered l) × (r ≡ false → Turn w f LowerEntered l)
      turn_word =
          let has_all : Ready p v f = record { waits = some_wait h; token = some_token k; opened = sym port_is ∙ open' } in (
            λ yes'. record { value = sym (told_entered p v f (sym word_is ∙ yes')); entrants_2 = e },
            λ no'. record { value = sym (told_lower p v f has_all (sym word_is ∙ no')); entrants_2 = e },
          )
