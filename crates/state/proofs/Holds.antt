-- Memory that holds a state: each part of its words at its place, and what lies past them. One law for each writer: of a
-- flow's tally, of the clock, and of all registers. Rests on Words.
use mathlib.Core.List.{List, [], ◌∷◌, ◌++◌}
use mathlib.Core.Logic.{inl, inr, ◌≢◌}
use mathlib.Core.Path.{◌≡◌, refl, ◌∙◌}
use Prim.Native.Nat.{ℕ, ◌+◌, ◌*◌, ◌≤◌, ◌<◌}
use native.Mathlib.Decide.{dec_lt, ℕ_discrete}
use native.Mathlib.Nat.{add-zero, zero-add}
use native.Mathlib.Omega.{arith}
use lib.ListN.{length, drop, set, length-set}
use lib.Seq.{sets, length-sets}
use Rattle.laws.specs.Grid.{cell_index}
use Rattle.laws.proofs.Grid.{rows_stand, stands_rows}
use Rattle.laws.proofs.Stands.{Stands, stands_left, stands_in, stands_first, stands_after, stands_append, stands_join, join_stands}
use Rattle.laws.proofs.Stands.{stands_other, stands_sets, drop_sets}
use Rattle.flow.specs.declared.Flow.{Flow}
use Rattle.flow.specs.Plan.{Plan, flow_at}
use Rattle.state.specs.declared.Tally.{Tally}
use Rattle.state.specs.declared.Cell.{Cell}
use Rattle.state.specs.Layout.{header_size, clock_place, zeros_place, flow_size, number_size, router_size, flow_place, router_place, plan_size}
use Rattle.state.specs.State.{State, tally_at, cell_at}
use Rattle.state.specs.Words.{header_words, number_words, tally_words, flow_words, cell_words, state_words}
use Rattle.state.specs.Outcome.{over}
use Rattle.state.proofs.Words.{header, flows, cells, length_cell, length_words, front_length}
use Rattle.state.proofs.Over.{over_is}

-- room for a plan's state, its header and its flows, and what lies past the state
pub record Front (p : Plan) (clock : ℕ) (tally : ℕ → Tally) (rest w : List ℕ) : Type 0 where
  pub room : plan_size p ≤ length w
  pub head : Stands 0 w 0 (header_words p clock)
  pub flow : (f : ℕ) → f < length p.flows → Stands 0 w (flow_place f) (flow_words (flow_at p f) (tally f))
  pub past : drop (plan_size p) w ≡ rest

-- and its registers
pub record Holds (p : Plan) (clock : ℕ) (tally : ℕ → Tally) (cell : (x y : ℕ) → Cell) (rest w : List ℕ) : Type 0 where
  pub front : Front p clock tally rest w
  pub router : (x y : ℕ) → x < p.sx → y < p.sy → Stands 0 w (router_place (length p.flows) p.sx x y) (cell_words (cell x y))

abbrev pub HoldsState : State → (rest w : List ℕ) → Type 0
HoldsState s rest w = Holds s.plan s.clock (tally_at s) (cell_at s) rest w

module _ (s : State) (w : List ℕ) where
  -- the words of a state are held, part by part
  pub words_hold : Stands 0 w 0 (state_words s) → HoldsState s (drop (plan_size s.plan) w) w
  unfolding state_words
  words_hold h =
      record {
        front = record {
          room = omega (arith, length_words s, h.fits);
          head = part 0 (header s) (stands_left 0 (header s ++ flows s) (cells s) 0 (header s) (stands_first 0 (header s) (flows s)));
          flow = λ f l. part (flow_place f) (word f)
              (stands_left 0 (header s ++ flows s) (cells s) (flow_place f) (word f)
              (stands_in 0 (header s ++ flows s) (flows s) (word f) header_size (flow_size * f) (stands_after 0 (header s) (flows s))
              (join_stands 0 flow_size _ word (λ f l. refl) f l)));
          past = refl;
        };
        router = λ x y l k. part _ _
            (stands_in 0 (state_words s) (cells s) (cell_words (cell_at s x y)) (flow_place (length s.plan.flows)) (router_size * cell_index s.plan.sx x y)
            (rw (front_length s) at (stands_after 0 (header s ++ flows s) (cells s)))
            (rows_stand 0 router_size _ _ (λ x y. cell_words (cell_at s x y)) (λ x y l k. length_cell (cell_at s x y)) x y l k));
      }
    where
      word : ℕ → List ℕ
      word f = flow_words (flow_at s.plan f) (tally_at s f)

      part : (at : ℕ) (b : List ℕ) → Stands 0 (state_words s) at b → Stands 0 w at b
      part at b p = rw zero-add at (stands_in 0 w (state_words s) b 0 at h p)

  -- and memory that holds them is the words, and what lies past
  pub hold_words : (rest : List ℕ) → HoldsState s rest w → Stands 0 w 0 (state_words s)
  unfolding state_words
  hold_words rest h =
      let room = h.front.room in
      stands_append 0 w (header s ++ flows s) (cells s) 0
      (stands_append 0 w (header s) (flows s) 0 h.front.head
      (stands_join 0 w header_size flow_size _ (λ f. flow_words (flow_at s.plan f) (tally_at s f)) (omega arith) (λ f l. refl) h.front.flow))
      (rw (front_length s, zero-add)
      (stands_rows 0 router_size _ _ (λ x y. cell_words (cell_at s x y)) (λ x y l k. length_cell (cell_at s x y)) w _ room h.router))

  pub hold_over : (old : List ℕ) → HoldsState s (drop (plan_size s.plan) old) w → w ≡ over (state_words s) old
  hold_over old h = over_is (state_words s) old w (hold_words _ h) (rw (length_words s) h.front.past)

module _ (p : Plan) (clock : ℕ) (tally : ℕ → Tally) (rest w : List ℕ) (h : Front p clock tally rest w) where
  -- all registers, written behind the flows
  pub registers_written : (cell : (x y : ℕ) → Cell) (l : List ℕ) → length l ≡ router_size * (p.sx * p.sy)
      → ((x y : ℕ) → x < p.sx → y < p.sy → Stands 0 l (router_size * cell_index p.sx x y) (cell_words (cell x y)))
      → Holds p clock tally cell rest (sets w (flow_place (length p.flows)) l)
  registers_written cell l long each =
      let room = h.room in
      record {
        front = record {
          room = rw length-sets h.room;
          head = stands_other 0 w 0 (header_words p clock) base l h.head (inl (omega arith));
          flow = λ f m. stands_other 0 w (flow_place f) (flow_words (flow_at p f) (tally f)) base l (h.flow f m) (inl (omega arith));
          past = drop_sets w base l (plan_size p) (omega arith) ∙ h.past;
        };
        router = λ x y m k. stands_in 0 (sets w base l) l (cell_words (cell x y)) base (router_size * cell_index p.sx x y)
            (stands_sets 0 w base l (omega arith)) (each x y m k);
      }
    where
      base : ℕ
      base = flow_place (length p.flows)

module _ (p : Plan) (clock : ℕ) (tally : ℕ → Tally) (cell : (x y : ℕ) → Cell) (rest w : List ℕ) (h : Holds p clock tally cell rest w) where
  -- equal tallies and cells
  pub hold_same : (tally' : ℕ → Tally) (cell' : (x y : ℕ) → Cell) → ((f : ℕ) → f < length p.flows → tally' f ≡ tally f)
      → ((x y : ℕ) → x < p.sx → y < p.sy → cell' x y ≡ cell x y) → Holds p clock tally' cell' rest w
  hold_same tally' cell' e d =
      record {
        front = record {
          room = h.front.room;
          head = h.front.head;
          flow = λ f l. rw (e f l) (h.front.flow f l);
          past = h.front.past;
        };
        router = λ x y l k. rw (d x y l k) (h.router x y l k);
      }

  -- a tally, written over that of flow f
  pub tally_written : (f : ℕ) → f < length p.flows → (tally' : ℕ → Tally) → ((g : ℕ) → g ≢ f → tally' g ≡ tally g)
      → Holds p clock tally' cell rest (sets w (flow_place f + number_size) (tally_words (tally' f)))
  tally_written f l tally' others =
      record {
        front = record {
          room = rw length-sets h.front.room;
          head = stands_other 0 w 0 (header_words p clock) at t h.front.head (inl (omega arith));
          flow = each;
          past = drop_sets w at t (plan_size p) (omega arith) ∙ h.front.past;
        };
        router = λ x y m k. stands_other 0 w _ (cell_words (cell x y)) at t (h.router x y m k) (inr (omega arith));
      }
    where
      at : ℕ
      at = flow_place f + number_size

      t : List ℕ
      t = tally_words (tally' f)

      φ : Flow
      φ = flow_at p f

      old : Stands 0 w (flow_place f) (flow_words φ (tally f))
      old = h.front.flow f l

      numbers : Stands 0 w (flow_place f) (number_words φ)
      numbers =
          rw add-zero at (stands_in 0 w (flow_words φ (tally f)) (number_words φ) (flow_place f) 0 old (stands_first 0 (number_words φ) (tally_words (tally f))))

      each : (g : ℕ) → g < length p.flows → Stands 0 (sets w at t) (flow_place g) (flow_words (flow_at p g) (tally' g))
      each g m =
          elim (ℕ_discrete g f) [
            | yes e ↦
                rw e
                (stands_append 0 (sets w at t) (number_words φ) t (flow_place f)
                (stands_other 0 w (flow_place f) (number_words φ) at t numbers (inl (omega arith)))
                (stands_sets 0 w at t (omega (arith, old.fits))))
            | no e ↦
                rw (others g e)
                (stands_other 0 w (flow_place g) (flow_words (flow_at p g) (tally g)) at t (h.front.flow g m)
                (elim (dec_lt f g) [ yes b ↦ inr (omega arith) | no b ↦ inl (omega arith) ]))
          ]

  -- a clock, written over the clock
  pub clock_written : (clock' : ℕ) → Holds p clock' tally cell rest (set w clock_place clock')
  clock_written clock' =
      record {
        front = record {
          room = rw length-set h.front.room;
          head = stands_append 0 (sets w clock_place now) front (clock' ∷ zeros) 0
              (stands_other 0 w 0 front clock_place now front_old (inl (omega arith)))
              (stands_append 0 (sets w clock_place now) now zeros clock_place
              (stands_sets 0 w clock_place now (omega (arith, old.fits)))
              (stands_other 0 w zeros_place zeros clock_place now zeros_old (inr (omega arith))));
          flow = λ f l. stands_other 0 w _ _ clock_place now (h.front.flow f l) (inr (omega arith));
          past = drop_sets w clock_place now (plan_size p) (omega arith) ∙ h.front.past;
        };
        router = λ x y l k. stands_other 0 w _ _ clock_place now (h.router x y l k) (inr (omega arith));
      }
    where
      front : List ℕ
      front = p.sx ∷ p.sy ∷ length p.flows ∷ []

      zeros : List ℕ
      zeros = 0 ∷ 0 ∷ 0 ∷ 0 ∷ []

      now : List ℕ
      now = clock' ∷ []

      old : Stands 0 w 0 (header_words p clock)
      old = h.front.head

      front_old : Stands 0 w 0 front
      front_old = stands_in 0 w (header_words p clock) front 0 0 old (stands_first 0 front (clock ∷ zeros))

      zeros_old : Stands 0 w zeros_place zeros
      zeros_old = stands_in 0 w (header_words p clock) zeros 0 zeros_place old (stands_after 0 (front ++ (clock ∷ [])) zeros)
