-- Laws of memory whose leading part is written anew, part by part, and of refusals. Rests on specs/Outcome.
use mathlib.Core.List.{List, ◌++◌, append_assoc}
use mathlib.Core.Path.{◌≡◌, refl, sym, ap, ◌∙◌}
use Prim.Native.Nat.{ℕ, zero, suc, ◌+◌, ◌≤◌}
use native.Mathlib.Nat.{zero-add}
use native.Mathlib.Omega.{arith}
use lib.ListN.{length, take, drop, length-append, take-append-drop}
use lib.Seq.{sets, sets-eq, take_at, drop_at, drop-drop, drop-append-le}
use Rattle.laws.proofs.Stands.{Stands, stands_start}
use Rattle.refusal.specs.Answer.{Answer, Done, Refused}
use Rattle.plan.proofs.Refusals.{refused_done}
use Rattle.state.specs.Outcome.{Outcome, refused, unless, unless_refused, over}

-- a run of stores from the start
pub over_sets : (part memory : List ℕ) → length part ≤ length memory → sets memory 0 part ≡ over part memory
over_sets part memory h = sets-eq part memory 0 (omega arith) ∙ rw zero-add

-- memory with the part at its start, and the rest as it was
pub over_is : (part memory after : List ℕ) → Stands 0 after 0 part → drop (length part) after ≡ drop (length part) memory → after ≡ over part memory
over_is part memory after s e = rw (← e) (stands_start 0 after part s)

-- a part behind a part
pub over_behind : (a b memory : List ℕ) (n : ℕ) → length a ≡ n → take n (over a memory) ++ over b (drop n (over a memory)) ≡ over (a ++ b) memory
over_behind a b memory n e =
    let at : length a + length b ≡ length (a ++ b) = sym (length-append a b) in
    rw (take_at a (drop (length a) memory) n e, drop_at a (drop (length a) memory) n e)
    (rw (drop-drop (length b) (length a) memory, at, ← (append_assoc a b (drop (length (a ++ b)) memory))))

-- a part in the front of a memory
pub over_front : (part memory : List ℕ) (n : ℕ) → length part ≤ length (take n memory) → over part (take n memory) ++ drop n memory ≡ over part memory
over_front part memory n l =
    append_assoc part (drop (length part) (take n memory)) (drop n memory)
    ∙ ap (λ rest. part ++ rest)
    (sym (drop-append-le (length part) (take n memory) (drop n memory) l) ∙ ap (drop (length part)) (take-append-drop n memory))

-- no refusal, or one
pub unless_passes : {M : Type 0} (n : ℕ) (memory : M) (o : Outcome Answer M) → n ≡ 0 → o ≡ unless n memory o
unfolding unless
unless_passes n memory o e = rw e

pub unless_refuses : {M : Type 0} (n : ℕ) (memory : M) (o : Outcome Answer M) → (n ≡ 0 → ⊥) → refused n memory ≡ unless n memory o
unfolding unless
unless_refuses zero memory o e = absurd (e refl)
unless_refuses (suc n) memory o e = refl

-- an accepted call was not refused, and does what it does then
pub unless_done : {M : Type 0} (n : ℕ) (memory : M) (o : Outcome Answer M) (v : ℕ) → (unless n memory o).answer ≡ Done v
    → (n ≡ 0) × (unless n memory o ≡ o)
unfolding unless
unless_done zero memory o v e = (refl, refl)
unless_done (suc n) memory o v e = absurd (refused_done _ _ _ e)

-- what a first answer tells: an accepted call passed it, and one that is accepted otherwise has its refusal from there
pub unless_refused_done : {M : Type 0} (a : Answer) (memory : M) (o : Outcome Answer M) (v : ℕ) → (unless_refused a memory o).answer ≡ Done v
    → (w : ℕ) × (a ≡ Done w) × (o.answer ≡ Done v)
unfolding unless_refused
unless_refused_done (Done w) memory o v e = (w, refl, e)
unless_refused_done (Refused n place) memory o v e = absurd (refused_done n place v e)

pub unless_refused_by : {M : Type 0} (a : Answer) (memory : M) (o : Outcome Answer M) (v n place : ℕ) → o.answer ≡ Done v
    → (unless_refused a memory o).answer ≡ Refused n place → a ≡ Refused n place
unfolding unless_refused
unless_refused_by (Done w) memory o v n place d e = absurd (refused_done n place v (sym e ∙ d))
unless_refused_by (Refused m at) memory o v n place d e = e
