-- What an accepted call has: its number is 0, every group can be kept, and the records are those with all groups. Rests on Groups.
use mathlib.Core.Bool.{Bool, false, not, ◌&&◌}
use mathlib.Core.List.{List, [], ◌∷◌, map}
use mathlib.Core.Path.{◌≡◌, sym, ap, ◌∙◌}
use Prim.Native.Nat.{ℕ, zero, suc, ◌≤◌, ◌<◌}
use native.Mathlib.Omega.{arith}
use borrow.Author.Tests.{leb-true, ltb-false, not-false, le-ltb, le-leb}
use lib.Dec.{ltb, leb}
use lib.ListN.{length, get_or}
use Rattle.laws.specs.Count.{any}
use Rattle.laws.proofs.Cases.{passed, and_true, or_false}
use Rattle.flow.specs.Plan.{Plan}
use Rattle.flight.proofs.Flight.{flight_most}
use Rattle.refusal.specs.Answer.{Answer, Done}
use Rattle.router.specs.Delivery.{Delivery}
use Rattle.state.specs.Read.{sx_in, sy_in, count_in, plan_in, state_of}
use Rattle.state.specs.Facts.{StateFacts}
use Rattle.state.specs.Forms.{state_number}
use Rattle.state.specs.Outcome.{Outcome, outcome, unless}
use Rattle.state.proofs.Over.{unless_done}
use Rattle.state.proofs.View.{view_count}
use Rattle.cycle.proofs.Facts.{flow_ok}
use Rattle.recent.specs.declared.Recent.{Recent}
use Rattle.recent.specs.Recent.{most_kept}
use Rattle.delivery.specs.Groups.{groups_of, strange}
use Rattle.delivery.specs.Inner.{group_in}
use Rattle.feed.specs.Feed.{fed_all, feed_number, planned_on, feed_on}
use Rattle.feed.specs.Inner.{Keepable, Feedable}
use Rattle.delivery.proofs.Groups.{Genuine, known_genuine}

-- what a number of 0 leaves
pub record Accepted (p : Plan) (ds : List Delivery) (count last : ℕ) : Type 0 where
  pub enough : length p.flows ≤ count
  pub some : 1 ≤ last
  pub few : last ≤ most_kept
  pub known : any (strange p) ds ≡ false

pub accepted : (p : Plan) (ds : List Delivery) (count last : ℕ) → feed_number p ds count last ≡ 0 → Accepted p ds count last
unfolding feed_number
accepted p ds count last e =
    let first = passed (ltb count (length p.flows)) 15 _ e in
    let limits = passed (not (leb 1 last && leb last most_kept)) 16 _ first.1 in
    let both = and_true _ _ (not-false _ limits.0) in
    record {
      enough = ltb-false _ _ first.0;
      some = leb-true _ _ both.0;
      few = leb-true _ _ both.1;
      known = (passed (any (strange p) ds) 11 0 limits.1).0;
    }

accepted_number : (p : Plan) (ds : List Delivery) (count last : ℕ) → Accepted p ds count last → feed_number p ds count last ≡ 0
unfolding feed_number
accepted_number p ds count last a = rw (le-ltb _ _ a.enough, le-leb _ _ a.some, le-leb _ _ a.few, a.known)

-- a test that no group passes
none_group : (t : Delivery → Bool) (groups : List (List ℕ)) (i : ℕ) → any t (map group_in groups) ≡ false → i < length groups
    → t (group_in (get_or groups i [])) ≡ false
none_group t [] i e h = absurd (omega arith)
none_group t (g ∷ groups) zero e h = (or_false _ _ e).0
none_group t (g ∷ groups) (suc i) e h = none_group t groups i (or_false _ _ e).1 (omega arith)

-- the groups of an accepted call can be kept
module _ (words : List ℕ) (formed : StateFacts words) (groups : List (List ℕ)) (count last : ℕ)
    (goes : Accepted (plan_in words) (map group_in groups) count last) where
  keepable : (i : ℕ) → i < length groups → let d = group_in (get_or groups i []) in Keepable d last × (d.flow < count)
  unfolding plan_in state_of
  keepable i h =
      let d : Delivery = group_in (get_or groups i []) in
      let real : Genuine (plan_in words) d = known_genuine (plan_in words) d (none_group (strange (plan_in words)) groups i goes.known h) in
      let below : d.flow < count_in words = rw (view_count words) at real.flow_below in
      let fits = formed.header in
      let short = flight_most (sx_in words) (sy_in words) _ d.D (flow_ok words formed d.flow below) fits.sx_ok.most fits.sy_ok.most real.few in (
        record { ordered = omega (arith, real.time); short = omega (arith, real.time, short); some = goes.some; few = goes.few },
        omega (arith, real.flow_below, goes.enough),
      )

  pub feedable : Feedable groups count last
  feedable = record { keepable = λ i h. (keepable i h).0; flow_below = λ i h. (keepable i h).1 }

module _ (words deliveries : List ℕ) (last : ℕ) (records : List Recent) where
  -- a call that answers a number is on a state, and its deliveries are accepted
  pub feed_done : (v : ℕ) → (feed_on words deliveries last records).answer ≡ Done v
      → (state_number words ≡ 0) × (Accepted (plan_in words) (groups_of deliveries) (length records) last)
  unfolding feed_on
  feed_done v e =
      let state = unless_done _ _ _ v e in
      let feeding = unless_done _ _ _ v (ap (λ (o : Outcome Answer (List Recent)). o.answer) (sym state.1) ∙ e) in
      (state.0, accepted _ _ _ _ feeding.0)

  -- on a state, the later checks decide
  pub feed_checks : state_number words ≡ 0 → planned_on (plan_in words) deliveries last records ≡ feed_on words deliveries last records
  unfolding feed_on unless
  feed_checks formed = rw formed

  -- and such a call answers 0 and feeds them all
  pub feed_accepts : state_number words ≡ 0 → Accepted (plan_in words) (groups_of deliveries) (length records) last
      → feed_on words deliveries last records ≡ outcome (Done 0) (fed_all last (groups_of deliveries) records)
  unfolding feed_on unless
  feed_accepts formed a = rw (formed, accepted_number _ _ _ _ a)
