-- A router with no packet sends none and delivers none. Rests on specs/Sent.
use mathlib.Core.Bool.{true, false, ◌&&◌, false≢true}
use mathlib.Core.List.{List, []}
use mathlib.Core.Option.{Option, none, some}
use mathlib.Core.Path.{◌≡◌, refl}
use Prim.Native.Nat.{ℕ}
use Rattle.laws.proofs.Cases.{and_true}
use Rattle.router.specs.Rule.{Way, leave, takes, entrant}
use Rattle.state.specs.Register.{Register}
use Rattle.std.specs.Prelude.{Some, None, is_none}
use Rattle.state.specs.State.{State, cell_at}
use Rattle.state.specs.Read.{state_of}
use Rattle.cycle.specs.Seen.{view}
use Rattle.cycle.specs.Step.{sends_by, sent_by, carried, delivered}
use Rattle.routing.specs.Sent.{nobody, is_idle}
use Rattle.routing.specs.Walk.{pushed, passed}

module _ (s : State) (x y : ℕ) (idle : is_idle s x y ≡ true) where
  empty : (r : Register) → is_none r ≡ true → r ≡ None
  empty None e = refl
  empty (Some packet) e = absurd (false≢true e)

  no_entrant : (who : Option ℕ) → nobody who ≡ true → who ≡ none
  no_entrant none e = refl
  no_entrant (some f) e = absurd (false≢true e)

  -- no packet in W and none in N, and nobody enters
  parts : (entrant s.plan (view s) x y ≡ none) × (((cell_at s x y).west ≡ None) × ((cell_at s x y).north ≡ None))
  parts =
      let two = and_true (nobody (entrant s.plan (view s) x y) && is_none (cell_at s x y).west) (is_none (cell_at s x y).north) idle in
      let one = and_true (nobody (entrant s.plan (view s) x y)) (is_none (cell_at s x y).west) two.0 in
      (no_entrant _ one.0, (empty _ one.1, empty _ two.1))

  pub idle_carries : (o : Way) → carried s x y o ≡ None
  unfolding carried sent_by takes sends_by
  idle_carries o = rw (parts.0, parts.1.0, parts.1.1)

  -- it delivers nothing
  pub idle_delivers : delivered s x y ≡ []
  unfolding delivered
  idle_delivers = rw (idle_carries leave)

module _ (w : List ℕ) (x y : ℕ) (l : List ℕ) where
  -- it writes nothing, and any other writes what it sends
  pub passed_idle : is_idle (state_of w) x y ≡ true → passed w x y l ≡ l
  unfolding passed
  passed_idle e = rw e

  pub passed_busy : is_idle (state_of w) x y ≡ false → passed w x y l ≡ pushed w x y l
  unfolding passed
  passed_busy e = rw e
