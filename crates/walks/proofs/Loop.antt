-- A loop in a walk of code by hand: from each state a turn leaves the loop, or comes to a state with less left. Rests on the kit's rule
-- of loops.
use mathlib.Core.Path.{◌≡◌, refl, sym, subst}
use mathlib.Core.Bool.{Bool, true, false}
use mathlib.Core.List.{List, ◌∷◌}
use mathlib.Core.Logic.{inl, inr}
use Prim.Native.Nat.{ℕ, ◌<◌, ◌≤◌, ◌+◌, ◌-◌}
use native.Mathlib.Nat.{eq-or-lt_of_le}
use native.Mathlib.Omega.{arith}
use lib.Dec.{T as Holds}
use lib.WfN.{lt-wf_rel}
use seplogic.Ra.Ura.{Ura}
use base.Fraction.{full_share}
use mir.Syntax.{Ty, Body, loop}
use mir.Val.{Val}
use base.Logic.{SProp, ent, ex, guard, via, ex_i, ex_e, guard_i, guard_e}
use base.Fml.{fat, froom, fdies}
use prog.Wp.{Out, Env, after_turn, Wp, Tables}
use types.Logic.{Logic}
use sound.Loop.{loop_rule}
use types.Kit.{Item, ‵, ⋆}

-- a loop's test, by what is known
pub holds : (t : Bool) → Holds t → t ≡ true
holds true _ = refl
holds false a = absurd a

pub fails : (t : Bool) → (Holds t → ⊥) → t ≡ false
fails true f = absurd (f tt)
fails false _ = refl

-- a local that holds v, and one that holds nothing, in front of a context
abbrev pub full : {M : Type 1} {𝓤 : Ura M} → Ty → ℕ → Val → List (Item 𝓤) → List (Item 𝓤)
full τ l v Γ = ‵ (fat full_share τ l 0 v) ∷ ‵ (fdies τ l) ∷ Γ

abbrev pub bare : {M : Type 1} {𝓤 : Ura M} → Ty → ℕ → List (Item 𝓤) → List (Item 𝓤)
bare τ l Γ = ‵ (froom τ l 0) ∷ ‵ (fdies τ l) ∷ Γ

module _ {M : Type 1} {𝓤 : Ura M} (𝓛 : Logic 𝓤) (𝓣 : Tables 𝓤 𝓛.H) (E : Env 𝓤 𝓛.H) (turn : Body) (Left : Out → SProp 𝓤) where
  -- a turn that ends with X to go on from, and the loop
  open 𝓛 use {H}

  abbrev Turn : SProp 𝓤 → SProp 𝓤
  Turn X = Wp 𝓤 H 𝓣.C 𝓣.Λ E turn (after_turn 𝓤 H X Left)

  abbrev Loops : SProp 𝓤
  Loops = Wp 𝓤 H 𝓣.C 𝓣.Λ E (loop turn) Left

  module _ (S : Type 0) (At : S → List (Item 𝓤)) (left : S → ℕ) where
    -- some state with t left, and with less than t left
    abbrev Inv : ℕ → SProp 𝓤
    Inv t = ex 𝓤 (λ (s : S). guard 𝓤 (left s ≡ t) (⋆ 𝓛 (At s)))

    abbrev Below : ℕ → SProp 𝓤
    Below t = ex 𝓤 (λ (u : ℕ). guard 𝓤 (u < t) (Inv u))

    comes : (s : S) → ent 𝓤 (⋆ 𝓛 (At s)) (Inv (left s))
    comes s =
        via 𝓤 (guard 𝓤 (left s ≡ left s) (⋆ 𝓛 (At s))) (guard_i 𝓤 (left s ≡ left s) (⋆ 𝓛 (At s)) refl)
        (ex_i 𝓤 (λ (s' : S). guard 𝓤 (left s' ≡ left s) (⋆ 𝓛 (At s'))) s)

    below : (t : ℕ) (s : S) → left s < t → ent 𝓤 (⋆ 𝓛 (At s)) (Below t)
    below t s less =
        via 𝓤 (Inv (left s)) (comes s)
        (via 𝓤 (guard 𝓤 (left s < t) (Inv (left s))) (guard_i 𝓤 (left s < t) (Inv (left s)) less)
        (ex_i 𝓤 (λ (u : ℕ). guard 𝓤 (u < t) (Inv u)) (left s)))

    pub loop_at : ((s : S) (X : SProp 𝓤) → ((s' : S) → left s' < left s → ent 𝓤 (⋆ 𝓛 (At s')) X) → ent 𝓤 (⋆ 𝓛 (At s)) (Turn X))
        → (s : S) → ent 𝓤 (⋆ 𝓛 (At s)) Loops
    loop_at turns s =
        via 𝓤 (Inv (left s)) (comes s)
        (loop_rule 𝓤 H 𝓛.laws 𝓣 ◌<◌ lt-wf_rel.wf E turn Left Inv
        (λ t. ex_e 𝓤 (λ (s : S). guard 𝓤 (left s ≡ t) (⋆ 𝓛 (At s))) (λ s. guard_e 𝓤 (left s ≡ t) (⋆ 𝓛 (At s)) (λ e.
        turns s (Below t) (λ s' less. below t s' (subst (λ (u : ℕ). left s' < u) e less))))) (left s))

  -- a loop over 0 .. n: a turn from i < n comes to i + 1, and a turn from n leaves
  pub for_at : (n : ℕ) (At : ℕ → List (Item 𝓤))
      → ((i : ℕ) (X : SProp 𝓤) → i < n → ent 𝓤 (⋆ 𝓛 (At (i + 1))) X → ent 𝓤 (⋆ 𝓛 (At i)) (Turn X))
      → ((X : SProp 𝓤) → ent 𝓤 (⋆ 𝓛 (At n)) (Turn X)) → ent 𝓤 (⋆ 𝓛 (At 0)) Loops
  for_at n At more ends =
      loop_at ((i : ℕ) × (i ≤ n)) (λ i. At i.0) (λ i. n - i.0)
      (λ i X go. elim (eq-or-lt_of_le i.1) [
        | inl e ↦ subst (λ (j : ℕ). ent 𝓤 (⋆ 𝓛 (At j)) (Turn X)) (sym e) (ends X)
        | inr small ↦ more i.0 X small (go (i.0 + 1, omega (arith, small)) (omega (arith, small)))
      ])
      (0, omega arith)
