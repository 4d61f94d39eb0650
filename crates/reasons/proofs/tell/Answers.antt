-- `tell`: turn by turn, each flow's word behind those of the flows below it.
use mathlib.Core.List.{List}
use mathlib.Core.Path.{◌≡◌, sym, ap, ◌∙◌}
use Prim.Native.Nat.{ℕ, ◌+◌, ◌≤◌}
use native.Mathlib.Omega.{arith}
use lib.ListN.{length, set}
use Rattle.laws.specs.Bounded.{tabulate}
use Rattle.laws.proofs.Bounded.{length_tabulate, tabulate_more}
use Rattle.laws.proofs.Written.{wrote_none, wrote_one, wrote_then}
use Rattle.router.specs.Reasons.{number_of, reason_words}
use Rattle.state.specs.Read.{count_in, state_of}
use Rattle.state.specs.Outcome.{over}
use Rattle.state.proofs.Over.{over_sets}
use Rattle.state.proofs.View.{counted}
use Rattle.cycle.specs.Reasons.{words_on}
use Rattle.reasons.proofs.tell.Goals as goal
use Rattle.reasons.proofs.tell.Invariants.{word, Told}

told_none : (w l : List ℕ) → Told w l 0 l
unfolding tabulate
told_none w l = wrote_none l 0

told_more : (w l k : List ℕ) (f n : ℕ) → n ≡ word w f → Told w l f k → Told w l (f + 1) (set k f n)
told_more w l k f n e h = rw (tabulate_more f (word w), e) (wrote_then h (wrote_one k f (word w f)))

-- the words of all flows
told_all : (w l k : List ℕ) → count_in w ≤ length l → Told w l (count_in w) k → k ≡ over (words_on (state_of w)) l
unfolding reason_words
told_all w l k room h =
    h.memory
    ∙ over_sets (tabulate (count_in w) (word w)) l (rw (length_tabulate (count_in w) (word w)) room)
    ∙ ap (λ n. over (tabulate n (word w)) l) (sym (counted w))

pub loop-f-init : goal.loop-f-init
loop-f-init c = record { entrants = c.requires.entrants; told = told_none _ _ }

-- the turn that a call begins, and the one that a word ends
pub why-reason-requires : goal.why-reason-requires
why-reason-requires c = record { f_below = omega arith; entrants = c.loop-f.invariant.entrants }

pub loop-f-preserved : goal.loop-f-preserved
loop-f-preserved c =
    record {
      entrants = c.why-reason.ensures.entrants_2;
      told = told_more _ _ _ _ _ (c.number.ensures ∙ ap number_of c.why-reason.ensures.value) c.loop-f.invariant.told;
    }

pub returns : goal.returns
returns c =
    let all : c.loop-f.f ≡ count_in c.args.state.now = omega arith in
    told_all _ _ _ c.requires.state_in_bounds (rw all at c.loop-f.invariant.told)
