-- A call, in a walk of code by hand, of a function that is known by its contract. Rests on the kit's rule of calls.
use mathlib.Core.Path.{◌≡◌, refl, sym, ap, subst}
use mathlib.Core.List.{List, [], ◌∷◌}
use Prim.Native.Nat.{ℕ, ◌<◌, ◌^◌}
use seplogic.Ra.Ura.{Ura}
use mir.Syntax.{Callee, Lifetime, Width, w32, w64, Place, Opd as Operand, Body, seq, call}
use mir.Val.{Val, vint}
use base.Logic.{SProp, ent, id⊢, emp}
use base.Fml.{Fml, Lft, fsep}
use prog.Wp.{Env, Calls, Loops}
use types.Logic.{Logic}
use sound.WpLaws.{FmC}
use contract.Monad.{fact, fact_i}
use types.Kit.{Item, ‵, raw, ◌⊛◌, some, later, mean, Post, Goal, runs, lands, Seq, Step, step, ◌$◌, use0, use1, move, drop, split, join, rewrite, pick}
use types.Kit.{await, fjoin}
use types.Run.{Opds}
use denote.RattleType.{RattleType, RowLaws, owns}
use denote.Builtin.{u32, usize}
use denote.Plain.{UInt, uint_Makes}
use denote.Ref.{Bor}
use denote.Slice.{ShrSlice, shr_slice_copy}
use denote.Signature.{type_at, types_at}
use denote.Laws.{Is, shows}
use denote.Steps.{only, peeks, heard, owned}
use denote.Triple.Entry.{alive}
use denote.Triple.Statement.{Contract, Triple}
use denote.Triple.Call.{calls_at}
use denote.Triple.Clauses.{Ended, Clauses, Lasts, at_exit, lasts, closing}
use denote.Triple.Spec.{triple_of}

-- the table's entry f meets the contract
abbrev pub Knows : {M : Type 1} {𝓤 : Ura M} (𝓛 : Logic 𝓤) → Calls 𝓤 𝓛.H → Callee → (T : Ended) → Clauses 𝓤 T → Type 1
Knows {𝓤 = 𝓤} 𝓛 C f T c = Triple 𝓤 (C f) (triple_of 𝓛 T.signature (closing 𝓛 T c))

-- a `requires` that states a fact
pub told : {M : Type 1} (𝓤 : Ura M) {φ : Type 0} → φ → ent 𝓤 (emp 𝓤) (fact 𝓤 φ)
told 𝓤 x = fact_i 𝓤 _ (emp 𝓤) x

module _ {M : Type 1} {𝓤 : Ura M} (𝓛 : Logic 𝓤) (T : Ended) (c : Clauses 𝓤 T) where
  -- the contract T with clauses c
  abbrev The : Contract 𝓤
  The = triple_of 𝓛 T.signature (closing 𝓛 T c)

  -- it is cited at lifetimes, shares, arguments and machine values y: the tokens, the result, the last values
  module _ (y : The.Ghost) where
    abbrev Alive : SProp 𝓤
    Alive = alive 𝓛 T.signature y.0.0 y.0.1

    abbrev R : RattleType
    R = type_at T.signature.result y.0.0

    abbrev Last : Type 0
    Last = Lasts T y.0.0 y.0.3

    -- what it says of them
    abbrev Said : R.Denot → Last → SProp 𝓤
    Said r ws = (c y.0.0 y.0.3).ensures y.1 r (at_exit T y.0.0 y.0.3 ws)

    -- what the arguments own, and what is said of last values
    abbrev Owns : Fml
    Owns = owns (types_at T.signature.params y.0.0) y.0.3 y.0.4

    abbrev Ends : Last → Fml
    Ends ws = lasts T y.0.0 y.0.3 ws

module _ {M : Type 1} {𝓤 : Ura M} {𝓛 : Logic 𝓤} {K : Type 0} {Γ : List (Item 𝓤)}
    {E : Env 𝓤 𝓛.H} {C : Calls 𝓤 𝓛.H} {Λ : Loops 𝓤 𝓛.H} {q : Post 𝓤 𝓛.H} {d : Place} {rest : Body} where
  -- At the head stand the tokens and what the arguments own; afterwards the result is there with what the contract says of it, what
  -- it says of last values, and the tokens.
  open 𝓛 use {H}

  pub calls_told : K → {f : Callee} {xs : List Operand} → FmC 𝓤 H 𝓛.laws C → (T : Ended) (c : Clauses 𝓤 T) → Knows 𝓛 C f T c
      → (y : (The 𝓛 T c).Ghost) → {tok : Item 𝓤} → ent 𝓤 (mean 𝓛 tok) (Alive 𝓛 T c y) → ent 𝓤 (Alive 𝓛 T c y) (mean 𝓛 tok)
      → ent 𝓤 (emp 𝓤) ((c y.0.0 y.0.3).requires y.1)
      → (φ : (R 𝓛 T c y).Denot → Last 𝓛 T c y → Type 0)
      → ((r : (R 𝓛 T c y).Denot) (ws : Last 𝓛 T c y) → ent 𝓤 (Said 𝓛 T c y r ws) (fact 𝓤 (φ r ws)))
      → Opds K 𝓛 (raw ((The 𝓛 T c).pre y) ∷ Γ) E xs ((The 𝓛 T c).args y)
      → ((v : Val) (r : (R 𝓛 T c y).Denot) (ws : Last 𝓛 T c y) → φ r ws → Is (R 𝓛 T c y) r (v ∷ [])
      → Seq K 𝓛 (‵ ((R 𝓛 T c y).own_val r (v ∷ [])) ∷ ‵ (Ends 𝓛 T c y ws) ∷ tok ∷ Γ) (lands C Λ E d v rest q))
      → Seq K 𝓛 (tok ∷ ‵ (Owns 𝓛 T c y) ∷ Γ) (runs C Λ E (seq (call f xs d) rest) q)
  calls_told t fm T c known y {tok} give back asks φ tells os k =
      use1 𝓛 (raw (Alive 𝓛 T c y)) give $ use0 𝓛 (raw ((c y.0.0 y.0.3).requires y.1)) asks $ move t (1 ∷ 2 ∷ 0 ∷ []) $
      join t $ join t $ use1 𝓛 (raw ((The 𝓛 T c).pre y)) (id⊢ 𝓤 _) $
      calls_at t fm (The 𝓛 T c) known y os (λ v.
      use1 𝓛 (later (some (λ (r : (R 𝓛 T c y).Denot). (raw (Alive 𝓛 T c y) ⊛ ‵ ((R 𝓛 T c y).own_val r (v ∷ [])))
      ⊛ some (λ (ws : Last 𝓛 T c y). ‵ (Ends 𝓛 T c y ws) ⊛ raw (Said 𝓛 T c y r ws))))) (id⊢ 𝓤 _) $ await t tt $ pick t (λ r.
      split t $ move t (1 ∷ []) $ pick t (λ ws. split t $ move t (1 ∷ []) $ use1 𝓛 (raw (fact 𝓤 (φ r ws))) (tells r ws) $ heard t (φ r ws) (λ e.
      move t (1 ∷ []) $ split t $ use1 𝓛 tok back $ move t (1 ∷ 2 ∷ []) $
      peeks t (R 𝓛 T c y) (Is (R 𝓛 T c y)) (shows 𝓛 (R 𝓛 T c y)) r (v ∷ []) (λ is. k v r ws e is)))))

  -- the same where the contract says which value the result is, and nothing is said of last values
  pub calls_value : K → {f : Callee} {xs : List Operand} → FmC 𝓤 H 𝓛.laws C → (T : Ended) (c : Clauses 𝓤 T) → Knows 𝓛 C f T c
      → (y : (The 𝓛 T c).Ghost) → {tok : Item 𝓤} → ent 𝓤 (mean 𝓛 tok) (Alive 𝓛 T c y) → ent 𝓤 (Alive 𝓛 T c y) (mean 𝓛 tok)
      → ent 𝓤 (emp 𝓤) ((c y.0.0 y.0.3).requires y.1) → (x : (R 𝓛 T c y).Denot)
      → ((r : (R 𝓛 T c y).Denot) (ws : Last 𝓛 T c y) → ent 𝓤 (Said 𝓛 T c y r ws) (fact 𝓤 (r ≡ x)))
      → Opds K 𝓛 (raw ((The 𝓛 T c).pre y) ∷ Γ) E xs ((The 𝓛 T c).args y)
      → ((v : Val) → Is (R 𝓛 T c y) x (v ∷ []) → Seq K 𝓛 (‵ ((R 𝓛 T c y).own_val x (v ∷ [])) ∷ tok ∷ Γ) (lands C Λ E d v rest q))
      → Seq K 𝓛 (tok ∷ ‵ (Owns 𝓛 T c y) ∷ Γ) (runs C Λ E (seq (call f xs d) rest) q)
  calls_value t fm T c known y give back asks x tells os k =
      calls_told t fm T c known y give back asks (λ r ws. r ≡ x) tells os (λ v r ws e is.
      move t (1 ∷ []) $ drop t $ rewrite t 0 (λ (z : (R 𝓛 T c y).Denot). ‵ ((R 𝓛 T c y).own_val z (v ∷ []))) e refl $
      k v (subst (λ (z : (R 𝓛 T c y).Denot). Is (R 𝓛 T c y) z (v ∷ [])) e is))

  -- a result that is a number: its machine value is written out, and what it owns, which is a fact, is let go
  pub word : K → {w : Width} {x : ℕ} {v : Val} {i : Item 𝓤} → Is (UInt w) x (v ∷ [])
      → Step K 𝓛 Γ (lands C Λ E d (vint w x) rest q) (i ∷ Γ) (lands C Λ E d v rest q)
  word t {w} {x} {v} is = step (λ s. drop t $ subst (λ (u : Val). Seq K 𝓛 Γ (lands C Λ E d u rest q)) (sym (ap only is.0)) s)

-- what a callee's arguments own is put together from the last argument to the first, in front of `ftrue`
module _ {M : Type 1} {𝓤 : Ura M} {𝓛 : Logic 𝓤} {K : Type 0} {Γ : List (Item 𝓤)} {G : Goal 𝓤 𝓛.H} {P : Fml} where
  -- a number
  pub give32 : K → (n : ℕ) → n < 2 ^ 32 → Step K 𝓛 (‵ (fsep (u32.own_val n (vint w32 n ∷ [])) P) ∷ Γ) G (‵ P ∷ Γ) G
  give32 t n g = step (λ s. owned t u32 (Is u32) (uint_Makes 𝓛 w32) n _ (refl, g) $ fjoin t $ s)

  pub give64 : K → (n : ℕ) → n < 2 ^ 64 → Step K 𝓛 (‵ (fsep (usize.own_val n (vint w64 n ∷ [])) P) ∷ Γ) G (‵ P ∷ Γ) G
  give64 t n g = step (λ s. owned t usize (Is usize) (uint_Makes 𝓛 w64) n _ (refl, g) $ fjoin t $ s)

  -- a `&[T]`, of which the caller keeps its copy
  pub lend : K → (ℓ : Lifetime) (κ : Lft) (T : RattleType) → RowLaws T → (x : Bor (List T.Denot)) (vs : List Val)
      → let own = (ShrSlice ℓ κ T).own_val x vs in Step K 𝓛 (‵ (fsep own P) ∷ ‵ own ∷ Γ) G (‵ own ∷ ‵ P ∷ Γ) G
  lend t ℓ κ T laws x vs =
      step (λ s. use1 𝓛 (‵ ((ShrSlice ℓ κ T).own_val x vs) ⊛ ‵ ((ShrSlice ℓ κ T).own_val x vs)) ((shr_slice_copy 𝓛 ℓ κ T laws).twice x vs) $
      split t $ move t (0 ∷ 2 ∷ []) $ fjoin t $ s)
