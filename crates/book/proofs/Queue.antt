-- A flow's queue: its serials are 1..n in the order of its offers, the entered ones first; so the waiting line of lowest
-- serial has the serial entered + 1, and one line enters where its flow does. Rests on Moves.
use mathlib.Core.Bool.{Bool, true, false, not, ◌&&◌, and-false}
use mathlib.Core.List.{List, [], ◌∷◌, ◌++◌, map, map-append, map-map, append-nil, Memᴰ as Mem}
use mathlib.Core.Logic.{◌⊎◌, inl, inr, ◌≢◌}
use mathlib.Core.Path.{◌≡◌, refl, sym, ap, ◌∙◌}
use Prim.Native.Nat.{ℕ, zero, suc, ◌+◌, ◌≤◌, ◌<◌}
use native.Mathlib.Decide.{ℕ_discrete, dec_le}
use native.Mathlib.Nat.{add-zero}
use native.Mathlib.Omega.{arith}
use borrow.Author.Tests.{lt-ltb, le-ltb, ltb-true, ltb-false, eq-eqb, ne_eqb, eqb-true, eqb-false}
use lib.Dec.{ltb, eqb}
use lib.ListN.{get_or}
use Rattle.laws.specs.Bounded.{tabulate}
use Rattle.laws.specs.Count.{one, count, any, keep}
use Rattle.laws.proofs.Cases.{test, and_true}
use Rattle.laws.proofs.Bounded.{tabulate_more}
use Rattle.laws.proofs.Turns.{turns_along}
use Rattle.laws.proofs.Count.{mem_map, mem_snoc, any_true, any_mem, mem_count, count_find}
use Rattle.laws.proofs.Count.{count_append, count_map, count_same, count_sum, count_none, count_keep}
use Rattle.laws.proofs.Keep.{keep_append, keep_map}
use Rattle.flow.specs.Plan.{Plan}
use Rattle.router.proofs.Entrant.{entering_ready}
use Rattle.book.specs.Line.{Line, is_waiting}
use Rattle.book.specs.Book.{Book, of_flow, waits_for, entered_for, total_of, waiting_of, entered_of, offered, offered_line, offered_first}
use Rattle.book.specs.Cycle.{view, enters, lowest, move, stepped}
use Rattle.book.proofs.Moves.{goes, Turn, keeps, stays, comes, turn, goes_enters}

abbrev serial_of : Line → ℕ
serial_of l = l.serial

pub record Queued (b : Book) : Type 0 where
  pub numbered : (f : ℕ) → map (λ (l : Line). l.serial) (keep (of_flow f) b.lines) ≡ tabulate (total_of b f) (λ i. i + 1)
  pub entered_first : (l : Line) → Mem l b.lines → is_waiting l.stage ≡ ltb (entered_of b l.flow) l.serial

-- the numbers 1..n have k once, and no other number
not_in : (n k : ℕ) → (k < 1) ⊎ (n < k) → count (λ i. eqb i k) (tabulate n (λ i. i + 1)) ≡ 0
unfolding tabulate
not_in zero k h = refl
not_in (suc n) k h =
    let other : n + 1 ≢ k = elim h [ inl l ↦ omega arith | inr l ↦ omega arith ] in
    let rest = not_in n k (elim h [ inl l ↦ inl l | inr l ↦ inr (omega arith) ]) in
    rw (count_append (λ i. eqb i k) (tabulate n (λ i. i + 1)) ((n + 1) ∷ []), ne_eqb (n + 1) k other, rest)

once_in : (n k : ℕ) → 1 ≤ k → k ≤ n → count (λ i. eqb i k) (tabulate n (λ i. i + 1)) ≡ 1
unfolding tabulate
once_in zero k l m = absurd (omega arith)
once_in (suc n) k l m =
    let split = count_append (λ i. eqb i k) (tabulate n (λ i. i + 1)) ((n + 1) ∷ []) in
    elim (ℕ_discrete (n + 1) k) [
      | yes e ↦ rw (split, eq-eqb (n + 1) k e, not_in n k (inr (omega arith)))
      | no e ↦ rw (split, ne_eqb (n + 1) k e, once_in n k l (omega arith))
    ]

-- an offer adds a waiting line
-- what every offer keeps, a set of offers keeps
pub set_keeps : (b : Book) (flows : List ℕ) (Ok : Book → Type 0) → ((now : Book) (f : ℕ) → Ok now → Ok (offered now f))
    → (n : ℕ) → Ok b → Ok (offered_first b flows n)
set_keeps b flows Ok each n ok = turns_along n _ b Ok (λ i l now. each (offered_first b flows i) (get_or flows i 0) now) ok

pub entered_offer : (b : Book) (f g : ℕ) → entered_of (offered b f) g ≡ entered_of b g
entered_offer b f g = count_append (entered_for g) b.lines (offered_line b f ∷ []) ∙ rw (and-false (eqb f g)) (omega arith)

-- each line of a flow waits or has an entry
pub total_split : (b : Book) (f : ℕ) → total_of b f ≡ entered_of b f + waiting_of b f
total_split b f = count_sum (of_flow f) (entered_for f) (waits_for f) b.lines (λ l m. either (of_flow f l) (is_waiting l.stage))
  where
    either : (s w : Bool) → one s ≡ one (s && not w) + one (s && w)
    either true true = refl
    either true false = refl
    either false w = refl

-- an offer adds a line to its flow, a step adds none
pub total_offer : (b : Book) (f g : ℕ) → total_of (offered b f) g ≡ total_of b g + one (eqb f g)
total_offer b f g = count_append (of_flow g) b.lines (offered_line b f ∷ []) ∙ omega arith

pub total_step : (p : Plan) (b : Book) (f : ℕ) → total_of (stepped p b) f ≡ total_of b f
total_step p b f = count_map (of_flow f) (move p b) b.lines

module _ (b : Book) (q : Queued b) where
  -- the flow's lines with a given serial
  with_serial : (f k : ℕ) → count (λ l. of_flow f l && eqb l.serial k) b.lines ≡ count (λ i. eqb i k) (tabulate (total_of b f) (λ i. i + 1))
  with_serial f k =
      sym (count_keep (λ l. eqb l.serial k) (of_flow f) b.lines)
      ∙ sym (count_map (λ i. eqb i k) serial_of (keep (of_flow f) b.lines))
      ∙ ap (count (λ i. eqb i k)) (q.numbered f)

  pub serial_once : (f k : ℕ) → 1 ≤ k → k ≤ total_of b f → count (λ l. of_flow f l && eqb l.serial k) b.lines ≡ 1
  serial_once f k l m = with_serial f k ∙ once_in (total_of b f) k l m

  pub serial_range : (l : Line) → Mem l b.lines → (1 ≤ l.serial) × (l.serial ≤ total_of b l.flow)
  serial_range l m = (
    elim (dec_le 1 l.serial) [ yes h ↦ h | no h ↦ absurd (inside (inl (omega arith))) ],
    elim (dec_le l.serial (total_of b l.flow)) [ yes h ↦ h | no h ↦ absurd (inside (inr (omega arith))) ],
  )
    where
      own : Line → Bool
      own k = of_flow l.flow k && eqb k.serial l.serial

      inside : (l.serial < 1) ⊎ (total_of b l.flow < l.serial) → ⊥
      inside h =
          let here = mem_count own b.lines m (rw (eq-eqb l.flow l.flow refl, eq-eqb l.serial l.serial refl)) in
          omega (arith, with_serial l.flow l.serial, not_in (total_of b l.flow) l.serial h)

  -- a waiting line's serial is past the entered ones
  pub waits_past : (l : Line) → Mem l b.lines → is_waiting l.stage ≡ true → entered_of b l.flow < l.serial
  waits_past l m w = ltb-true (entered_of b l.flow) l.serial (sym (q.entered_first l m) ∙ w)

  pub entered_within : (l : Line) → Mem l b.lines → is_waiting l.stage ≡ false → l.serial ≤ entered_of b l.flow
  entered_within l m w = ltb-false (entered_of b l.flow) l.serial (sym (q.entered_first l m) ∙ w)

  -- the waiting line of lowest serial is the one after the entered ones
  pub lowest_next : (l : Line) → Mem l b.lines → is_waiting l.stage ≡ true → lowest b l ≡ eqb l.serial (entered_of b l.flow + 1)
  unfolding lowest
  lowest_next l m w =
      elim (ℕ_discrete l.serial (entered_of b l.flow + 1)) [
        | yes e ↦ rw (eq-eqb l.serial (entered_of b l.flow + 1) e, none e)
        | no e ↦ rw (ne_eqb l.serial (entered_of b l.flow + 1) e, some (omega (arith, waits_past l m w)))
      ]
    where
      lower : Line → Bool
      lower k = waits_for l.flow k && ltb k.serial l.serial

      none : l.serial ≡ entered_of b l.flow + 1 → any lower b.lines ≡ false
      none e =
          elim (test (any lower b.lines)) [
            | inr h ↦ h
            | inl h ↦
                let k = any_true lower b.lines h in
                let parts = and_true _ _ k.2 in
                let waits = and_true _ _ parts.0 in
                let below = ltb-true k.0.serial l.serial parts.1 in
                let same = ap (entered_of b) (eqb-true k.0.flow l.flow waits.0) in
                absurd (omega (arith, waits_past k.0 k.1 waits.1))
          ]

      some : entered_of b l.flow + 1 < l.serial → any lower b.lines ≡ true
      some past =
          let next : Line → Bool = λ k. of_flow l.flow k && eqb k.serial (entered_of b l.flow + 1) in
          let there = serial_once l.flow (entered_of b l.flow + 1) (omega arith) (omega (arith, serial_range l m)) in
          let k = count_find next b.lines (omega arith) in
          let parts = and_true _ _ k.2 in
          let serial = eqb-true k.0.serial (entered_of b l.flow + 1) parts.1 in
          let same = ap (entered_of b) (eqb-true k.0.flow l.flow parts.0) in
          any_mem lower b.lines k.1
          (rw (
            parts.0,
            q.entered_first k.0 k.1,
            lt-ltb (entered_of b k.0.flow) k.0.serial (omega arith),
            lt-ltb k.0.serial l.serial (omega arith),
          ))

  module _ (p : Plan) where
    -- who enters, of a flow that does
    goes_next : (l : Line) → Mem l b.lines → enters p b l.flow ≡ true → goes p b l ≡ eqb l.serial (entered_of b l.flow + 1)
    goes_next l m en =
        elim (test (is_waiting l.stage)) [
          | inl w ↦ rw (en, w) (lowest_next l m w)
          | inr w ↦ rw (w, ne_eqb l.serial (entered_of b l.flow + 1) (omega (arith, entered_within l m w)))
        ]

    -- one line enters where its flow does
    pub goes_count : (f : ℕ) → count (λ l. of_flow f l && goes p b l) b.lines ≡ one (enters p b f)
    goes_count f =
        elim (test (enters p b f)) [
          | inl en ↦
              let head = any_true (waits_for f) b.lines (entering_ready p (view p b) f en).waits in
              let waits = and_true _ _ head.2 in
              let same = eqb-true head.0.flow f waits.0 in
              let past = waits_past head.0 head.1 waits.1 in
              let within = serial_range head.0 head.1 in
              rw en
              (count_same (λ l. of_flow f l && goes p b l) (λ l. of_flow f l && eqb l.serial (entered_of b f + 1)) b.lines (λ l m. next l m en)
              ∙ serial_once f (entered_of b f + 1) (omega arith) (omega (arith, ap (entered_of b) same, ap (total_of b) same)))
          | inr out ↦ rw out (count_none (λ l. of_flow f l && goes p b l) b.lines (λ l m. none l out))
        ]
      where
        next : (l : Line) → Mem l b.lines → enters p b f ≡ true → of_flow f l && goes p b l ≡ of_flow f l && eqb l.serial (entered_of b f + 1)
        next l m en =
            elim (ℕ_discrete l.flow f) [
              | yes e ↦ rw (← e) (ap (λ (t : Bool). of_flow l.flow l && t) (goes_next l m (ap (enters p b) e ∙ en)))
              | no e ↦ rw (ne_eqb l.flow f e)
            ]

        none : (l : Line) → enters p b f ≡ false → of_flow f l && goes p b l ≡ false
        none l out =
            elim (ℕ_discrete l.flow f) [
              | yes e ↦ rw (ap (enters p b) e ∙ out) (simp and-false)
              | no e ↦ rw (ne_eqb l.flow f e)
            ]

    -- a flow's entries after a step
    pub entered_step : (f : ℕ) → entered_of (stepped p b) f ≡ entered_of b f + one (enters p b f)
    entered_step f =
        count_map (entered_for f) (move p b) b.lines
        ∙ count_sum (λ l. entered_for f (move p b l)) (entered_for f) (λ l. of_flow f l && goes p b l) b.lines (λ l m. sums (of_flow f l) l (turn p b l))
        ∙ ap (λ (n : ℕ). entered_of b f + n) (goes_count f)
      where
        sums : (s : Bool) (l : Line) → Turn p b l
            → one (s && not (is_waiting (move p b l).stage)) ≡ one (s && not (is_waiting l.stage)) + one (s && goes p b l)
        sums false l t = refl
        sums true l (keeps w w' e g) = rw (g, w, w')
        sums true l (stays w w' g) = rw (g, w, w')
        sums true l (comes w w' e g) = rw (g, w, w')

    -- a step keeps the queue
    pub queued_step : Queued (stepped p b)
    queued_step =
        record {
          numbered = λ f.
              ap (map serial_of) (keep_map (of_flow f) (move p b) b.lines)
              ∙ map-map serial_of (move p b) (keep (of_flow f) b.lines)
              ∙ q.numbered f
              ∙ ap (λ (n : ℕ). tabulate n (λ i. i + 1)) (sym (count_map (of_flow f) (move p b) b.lines));
          entered_first = λ l m. let k = mem_map b.lines m in rw k.2 (first k.0 k.1 (turn p b k.0));
        }
      where
        first : (l : Line) → Mem l b.lines → Turn p b l → is_waiting (move p b l).stage ≡ ltb (entered_of (stepped p b) l.flow) l.serial
        first l m (keeps w w' e g) =
            rw (w', entered_step l.flow, le-ltb (entered_of b l.flow + one (enters p b l.flow)) l.serial (omega (arith, entered_within l m w)))
        first l m (comes w w' e g) =
            let en = goes_enters p b l g in
            let next = eqb-true l.serial (entered_of b l.flow + 1) (sym (goes_next l m en) ∙ g) in
            rw (w', entered_step l.flow, en, le-ltb (entered_of b l.flow + 1) l.serial (omega arith))
        first l m (stays w w' g) =
            let past = waits_past l m w in
            elim (test (enters p b l.flow)) [
              | inr out ↦ rw (w', entered_step l.flow, out, lt-ltb (entered_of b l.flow + 0) l.serial (omega arith))
              | inl en ↦
                  let other = eqb-false l.serial (entered_of b l.flow + 1) (sym (goes_next l m en) ∙ g) in
                  let later : entered_of b l.flow + 1 < l.serial = below other past in
                  rw (w', entered_step l.flow, en, lt-ltb (entered_of b l.flow + 1) l.serial later)
            ]
          where
            below : {m n : ℕ} → n ≢ m + 1 → m < n → m + 1 < n
            below other past = omega arith

  -- an offer keeps the queue
  pub queued_offer : (f : ℕ) → Queued (offered b f)
  queued_offer f =
      record {
        numbered = λ g.
            ap (map serial_of) (keep_append (of_flow g) b.lines (new' ∷ []))
            ∙ map-append serial_of (keep (of_flow g) b.lines) (keep (of_flow g) (new' ∷ []))
            ∙ more g;
        entered_first = λ l m. elim (mem_snoc b.lines m) [
          | inl old ↦ rw (entered_offer b f l.flow) (q.entered_first l old)
          | inr new ↦ rw (new, entered_offer b f f, lt-ltb (entered_of b f) (total_of b f + 1) (omega (arith, total_split b f)))
        ];
      }
    where
      new' : Line
      new' = offered_line b f

      more : (g : ℕ) → map serial_of (keep (of_flow g) b.lines) ++ map serial_of (keep (of_flow g) (new' ∷ [])) ≡ tabulate (total_of (offered b f) g) (λ i. i + 1)
      more g =
          rw (q.numbered g, count_append (of_flow g) b.lines (new' ∷ []))
          (elim (ℕ_discrete f g) [
            | yes e ↦ rw (eq-eqb f g e, tabulate_more (total_of b g) (λ i. i + 1), e)
            | no e ↦ rw (ne_eqb f g e, append-nil, add-zero (total_of b g))
          ])
