-- `take_back`: entry by entry, from the last. Rests on Added.
use mathlib.Core.List.{List, ◌++◌, ◌∷◌, []}
use mathlib.Core.Path.{◌≡◌, refl, sym, ◌∙◌}
use Prim.Native.Nat.{ℕ, ◌+◌, ◌<◌}
use native.Mathlib.Omega.{arith}
use lib.ListN.{length, get_or, get_or-append, length-append, take}
use lib.Seq.{length-take-le}
use Rattle.std.proofs.lemmas.List.{get_or_push, get_or-take}
use Rattle.offers.specs.Inner.{Added}
use Rattle.offers.proofs.Added.{added_back, last_flow, last_waits, added_less}
use Rattle.offers.proofs.take_back.Goals as goal

-- the last entry still added
module _ (before flows rest next state : List ℕ) (x : ℕ) (pushed : rest ≡ next ++ (x ∷ []))
    (same : (j : ℕ) → j < length rest → get_or rest j 0 ≡ get_or flows j 0) (a : Added before flows (length rest) state) where
  longer : length rest ≡ length next + 1
  longer = rw (pushed, length-append)

  added : Added before flows (length next + 1) state
  added = rw longer at a

  keeps : (j : ℕ) → j < length next → get_or next j 0 ≡ get_or flows j 0
  keeps j l = sym (get_or-append next (x ∷ []) 0 j l) ∙ rw pushed at (same j (omega (arith, longer)))

  known : x ≡ get_or flows (length next) 0
  known = sym (get_or_push next x 0 (length next) refl) ∙ rw pushed at (same (length next) (omega (arith, longer)))

pub loop-f-init : goal.loop-f-init
loop-f-init c =
    let n = c.args.n in
    let flows = c.args.flows.now in
    let rest : c.into_iter-f-iterator.result.iter.rest.now ≡ take n flows =
    rw (c.into_iter-f-iterator.ensures.into_iter_gives, c.rev-f-items.ensures.source) c.iter.ensures.rest in
    let long : length (take n flows) ≡ n = length-take-le n flows c.requires.1.entries in
    (refl, (λ j l. rw rest (get_or-take n flows j 0 (omega (arith, long, rw rest at l))), λ before a. rw (rest, long) a))

pub wait_less-requires-clause-state_flow : goal.wait_less-requires-clause-state_flow
wait_less-requires-clause-state_flow c =
    let old = c.loop-f.invariant.1 in
    let a = old.1 c.requires.0 c.requires.1 in
    last_flow _ _ _ _ (added _ _ _ _ _ _ c.in-Some.ensures.steps old.0 a) _ (known _ _ _ _ _ _ c.in-Some.ensures.steps old.0 a)

pub wait_less-requires-clause-bound : goal.wait_less-requires-clause-bound
wait_less-requires-clause-bound c =
    let old = c.loop-f.invariant.1 in
    let a = old.1 c.requires.0 c.requires.1 in
    last_waits _ _ _ _ (added _ _ _ _ _ _ c.in-Some.ensures.steps old.0 a) _ (known _ _ _ _ _ _ c.in-Some.ensures.steps old.0 a)

pub loop-f-preserved : goal.loop-f-preserved
loop-f-preserved c =
    let old = c.loop-f.invariant.1 in (
      c.wait_less.auto.state ∙ c.loop-f.invariant.0,
      (
        λ j l. keeps _ _ _ _ _ _ c.in-Some.ensures.steps old.0 (old.1 c.requires.0 c.requires.1) j l,
        λ before b.
            let a = old.1 before b in
            added_less _ _ _ _ (added _ _ _ _ _ _ c.in-Some.ensures.steps old.0 a) _ (known _ _ _ _ _ _ c.in-Some.ensures.steps old.0 a) _ c.wait_less.ensures,
      ),
    )

pub returns : goal.returns
returns c before a =
    let none = c.in-None.ensures.steps.0 in
    added_back _ _ _ (rw none at (c.loop-f.invariant.1.1 before a))
