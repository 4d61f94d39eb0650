-- Operands, whole locals and elements of slices in a walk of code by hand. Rests on the kit's rules of reads and writes.
use mathlib.Core.Path.{◌≡◌, refl, sym, ap, subst}
use mathlib.Core.List.{List, [], ◌∷◌}
use Prim.Native.Nat.{ℕ, zero, suc, ◌<◌, ◌-◌, ◌*◌, ◌^◌}
use lib.Dec.{T as Holds, ltb}
use seplogic.Ra.Ura.{Ura}
use base.Fraction.{full_share}
use mir.Syntax.{Ty, Lifetime, Mutability, w64, ty_int, ty_ref, field, Place, place, copy, int, Rv as RValue, op2, mul, offset, unsigned, Body, seq, assign}
use mir.Val.{Val, vint, vptr, vstruct, vcons, vnil}
use base.Fml.{Share, fat, fdies}
use prog.Wp.{Env, Spot, spot_of, Calls, Loops}
use types.Logic.{Logic}
use types.Kit.{Item, ‵, nth, Post, Goal, runs, lands, frees, Step, step, ◌$◌}
use types.Part.{Part, whole, sub, look_in}
use types.Run.{Walks as Along, Opd, Rv, Writes, look, stop, fld, from, load, lit, bin, land, assigns, forget, free1}
use denote.Slice.{slice_ty, slice_val}
use denote.Index.{place as place_at, place_is}

-- the positions of n locals and of what lets them die, from p downwards
abbrev pub down : ℕ → ℕ → List ℕ
down p zero = []
down p (suc n) = p ∷ suc p ∷ down (p - 2) n

-- a slice of τ behind a reference
abbrev slice_of : Lifetime → Mutability → Ty → Ty
slice_of ℓ μ τ = slice_ty (ty_ref ℓ μ τ)

-- v is written to the whole of local i
abbrev Sets : {M : Type 1} {𝓤 : Ura M} → Type 0 → (𝓛 : Logic 𝓤) → Env 𝓤 𝓛.H → ℕ → Val → List (Item 𝓤) → List (Item 𝓤) → Type 2
Sets {𝓤 = 𝓤} K 𝓛 E i v Γ Γ' = Writes K 𝓛 Γ (spot_of 𝓤 𝓛.H E i).0 (spot_of 𝓤 𝓛.H E i).1 (spot_of 𝓤 𝓛.H E i).2 v Γ'

module _ {M : Type 1} {𝓤 : Ura M} {𝓛 : Logic 𝓤} {K : Type 0} {Γ : List (Item 𝓤)} {E : Env 𝓤 𝓛.H} where
  -- a local that holds something is freed
  open 𝓛 use {H}

  pub free_v : K → {τ : Ty} {b : ℕ} {v : Val} {g : Goal 𝓤 H}
      → Step K 𝓛 Γ (frees E g) (‵ (fat full_share τ b zero v) ∷ ‵ (fdies τ b) ∷ Γ) (frees ((τ, b) ∷ E) g)
  free_v t = step (λ s. forget t 0 refl $ free1 t $ s)

  -- a local, whose cell is entry n
  pub loc : K → (n : ℕ) {i : ℕ} {q : Share} {v : Val}
      → nth 𝓛 n Γ ≡ ‵ (fat q (spot_of 𝓤 H E i).0 (spot_of 𝓤 H E i).1 (spot_of 𝓤 H E i).2 v) → Opd K 𝓛 Γ E (copy (place i [])) v
  loc t n e = load t (from t (stop t)) (look t n e)

  -- the pointer and the count of a slice in a local, whose cell is entry n
  module _ {i : ℕ} {ℓ : Lifetime} {μ : Mutability} {τ : Ty} {l b o c : ℕ} {q : Share} where
    pub ptr_of : K → (n : ℕ) → spot_of 𝓤 H E i ≡ (slice_of ℓ μ τ, l, 0) → nth 𝓛 n Γ ≡ ‵ (fat q (slice_of ℓ μ τ) l 0 (slice_val (b, o) c))
        → Opd K 𝓛 Γ E (copy (place i (field 0 ∷ []))) (vptr b o)
    ptr_of t n at e =
        load t (from t (subst (λ (sp : Spot 𝓤 H). Along K 𝓛 Γ E sp (field 0 ∷ []) (ty_ref ℓ μ τ, l, 0)) (sym at) (fld t refl (stop t))))
        (look_in t n (subst (λ (j : Item 𝓤). Part K 𝓛 j q (ty_ref ℓ μ τ) l 0 (vptr b o)
        (λ u. ‵ (fat q (slice_of ℓ μ τ) l 0 (vstruct (vcons u (vcons (vint w64 c) vnil)))))) (sym e) (sub t 0 refl (whole t))))

    pub count_of : K → (n : ℕ) → spot_of 𝓤 H E i ≡ (slice_of ℓ μ τ, l, 0) → nth 𝓛 n Γ ≡ ‵ (fat q (slice_of ℓ μ τ) l 0 (slice_val (b, o) c))
        → Opd K 𝓛 Γ E (copy (place i (field 1 ∷ []))) (vint w64 c)
    count_of t n at e =
        load t (from t (subst (λ (sp : Spot 𝓤 H). Along K 𝓛 Γ E sp (field 1 ∷ []) (ty_int w64, l, 8)) (sym at) (fld t refl (stop t))))
        (look_in t n (subst (λ (j : Item 𝓤). Part K 𝓛 j q (ty_int w64) l 8 (vint w64 c)
        (λ u. ‵ (fat q (slice_of ℓ μ τ) l 0 (vstruct (vcons (vptr b o) (vcons u vnil)))))) (sym e) (sub t 1 refl (whole t))))

  module _ {C : Calls 𝓤 H} {Λ : Loops 𝓤 H} {q : Post 𝓤 H} where
    -- a whole local is assigned; a call's result goes to a whole local
    pub sets : K → {i : ℕ} {rv : RValue} {rest : Body} {v : Val} {Γ' : List (Item 𝓤)} → Rv K 𝓛 Γ E rv v → Sets K 𝓛 E i v Γ Γ'
        → Step K 𝓛 Γ' (runs C Λ E rest q) Γ (runs C Λ E (seq (assign (place i []) rv) rest) q)
    sets t r w = assigns t r (from t (stop t)) w

    pub lands_in : K → {i : ℕ} {r : Val} {rest : Body} {Γ' : List (Item 𝓤)} → Sets K 𝓛 E i r Γ Γ'
        → Step K 𝓛 Γ' (runs C Λ E rest q) Γ (lands C Λ E (place i []) r rest q)
    lands_in t w = land t (from t (stop t)) w

    -- the place of element i of a slice whose elements have that size: the index is scaled, and the pointer is moved on
    pub elem_place : K → {p r j : ℕ} {x : Place} {rest : Body} {b : ℕ} (size o i : ℕ) {Γ₁ Γ₂ : List (Item 𝓤)}
        → Opd K 𝓛 Γ E (copy x) (vint w64 i) → Holds (ltb size (2 ^ 64)) → i * size < 2 ^ 64
        → Sets K 𝓛 E p (vint w64 (i * size)) Γ Γ₁
        → Opd K 𝓛 Γ₁ E (copy (place r (field 0 ∷ []))) (vptr b o) → Opd K 𝓛 Γ₁ E (copy (place p [])) (vint w64 (i * size))
        → Sets K 𝓛 E j (vptr b (place_at size o i)) Γ₁ Γ₂
        → Step K 𝓛 Γ₂ (runs C Λ E rest q) Γ (runs C Λ E (seq (assign (place p []) (op2 (mul unsigned) (copy x) (int w64 size)))
        (seq (assign (place j []) (op2 offset (copy (place r (field 0 ∷ []))) (copy (place p [])))) rest)) q)
    elem_place t {p = p} {r = r'} {b = b} size o i {Γ₁ = Γ₁} x lits fits w₁ r s w₂ =
        let moved = op2 offset (copy (place r' (field 0 ∷ []))) (copy (place p [])) in
        step (λ k. assigns t (bin t x (lit t lits) (record { fits = fits })) (from t (stop t)) w₁ $
        assigns t (subst (Rv K 𝓛 Γ₁ E moved) (ap (vptr b) (sym (place_is size o i))) (bin t r s tt)) (from t (stop t)) w₂ $ k)
