-- Writing gives the bytes back: the bytes of an accepted file's plan with its notes are the file. Rests on Ranges.
use mathlib.Core.Bool.{true}
use mathlib.Core.List.{List, [], ◌∷◌, ◌++◌, append_assoc, append-nil}
use mathlib.Core.Path.{◌≡◌, refl, sym, ◌∙◌}
use Prim.Native.Nat.{ℕ, zero, suc, ◌+◌, ◌-◌, ◌*◌, ◌/◌, ◌%◌, ◌≤◌, ◌<◌}
use native.Mathlib.Nat.{mul-zero, add-zero}
use native.Mathlib.Omega.{arith}
use borrow.Author.Tests.{eqb-true}
use lib.Dec.{eqb}
use lib.ListN.{length, get_or, drop, take, take-append-drop}
use lib.Seq.{drop-length, length-take-le}
use Rattle.laws.specs.Bounded.{tabulate}
use Rattle.laws.proofs.Bounded.{all_at}
use Rattle.laws.proofs.Parts.{drop_entries}
use Rattle.flow.specs.declared.Flow.{Flow}
use Rattle.flow.specs.Plan.{Plan}
use Rattle.refusal.specs.Answer.{Done}
use Rattle.file.specs.Bytes.{third_byte, little_endian2, little_endian4, two_bytes, four_bytes}
use Rattle.file.specs.Layout.{tag, tagged, trailer_of, period_at, flow_from, plan_of}
use Rattle.plan.specs.Refusals.{plan_answer}
use Rattle.plan.specs.Notes.{notes_of}
use Rattle.plan.specs.Written.{record_bytes, records_bytes, trailer_bytes, plan_bytes}
use Rattle.plan.proofs.Accepted.{done_trailed}
use Rattle.plan.proofs.Ranges.{Bytes, plan_count}

-- the low two bytes of a number
low_back : (a b c : ℕ) → a < 256 → b < 256 → two_bytes (a + 256 * b + third_byte * c) ≡ a ∷ b ∷ []
unfolding two_bytes
low_back a b c ha hb =
    let low : (a + 256 * b + third_byte * c) % 256 ≡ a = omega arith in
    let above : (a + 256 * b + third_byte * c) / 256 ≡ b + 256 * c = omega arith in
    let second : (b + 256 * c) % 256 ≡ b = omega arith in
    rw (low, above, second)

-- what stands above them
top_back : (a b c : ℕ) → a < 256 → b < 256 → (a + 256 * b + third_byte * c) / third_byte ≡ c
top_back a b c ha hb = omega arith

two_back : (a b : ℕ) → a < 256 → b < 256 → two_bytes (a + 256 * b) ≡ a ∷ b ∷ []
two_back a b ha hb = rw (mul-zero, add-zero) at (low_back a b 0 ha hb)

four_back : (a b c d : ℕ) → a < 256 → b < 256 → c < 256 → d < 256
    → four_bytes (a + 256 * b + third_byte * (c + 256 * d)) ≡ a ∷ b ∷ c ∷ d ∷ []
unfolding four_bytes
four_back a b c d ha hb hc hd =
    let low : (a + 256 * b + third_byte * (c + 256 * d)) % third_byte ≡ a + 256 * b = omega arith in
    rw (low, top_back a b (c + 256 * d) ha hb, two_back a b ha hb, two_back c d hc hd)

pub records_append : (l : List Flow) (f : Flow) → records_bytes (l ++ (f ∷ [])) ≡ records_bytes l ++ record_bytes f
unfolding records_bytes
records_append [] f = append-nil (record_bytes f)
records_append (g ∷ l) f = rw (records_append l f, append_assoc)

module _ (s : List ℕ) (bytes : Bytes s) where
  -- a record's eight bytes are those written for its flow
  record_back : (at : ℕ) → at + 8 ≤ length s → drop at s ≡ record_bytes (flow_from s at) ++ drop (at + 8) s
  unfolding flow_from period_at little_endian2 record_bytes tabulate
  record_back at h =
      let five : at + 4 + 1 ≡ at + 5 = omega arith in
      let low = bytes (at + 4) in
      let middle = bytes (at + 5) in
      drop_entries s at 0 8 h
      ∙ rw (
        five,
        low_back (get_or s (at + 4) 0) (get_or s (at + 5) 0) (get_or s (at + 7) 0) low middle,
        top_back (get_or s (at + 4) 0) (get_or s (at + 5) 0) (get_or s (at + 7) 0) low middle,
        add-zero,
      )

  -- the records from a start on
  records_back : (start n : ℕ) → start + 8 * n ≤ length s
      → drop start s ≡ records_bytes (tabulate n (λ f. flow_from s (start + 8 * f))) ++ drop (start + 8 * n) s
  unfolding tabulate records_bytes
  records_back start zero h = rw (mul-zero, add-zero)
  records_back start (suc n) h =
      let e : start + 8 * n + 8 ≡ start + 8 * suc n = omega arith in
      records_back start n (omega arith)
      ∙ rw (record_back (start + 8 * n) (omega arith), records_append, append_assoc, e)

  tag_at : tagged s ≡ true → 12 ≤ length s → (k : ℕ) → k < 4 → get_or s (length s - 12 + (8 + k)) 0 ≡ get_or tag k 0
  unfolding tagged
  tag_at t long k l =
      let e : length s - 12 + (8 + k) ≡ length s - 4 + k = omega arith in
      rw e (eqb-true _ _ (all_at (λ k. eqb (get_or s (length s - 4 + k) 0) (get_or tag k 0)) 4 t k l))

  -- the last twelve bytes are those written for the trailer
  trailer_back : tagged s ≡ true → 12 ≤ length s → (p : Plan)
      → length p.flows ≡ (trailer_of s).count → p.sx ≡ (trailer_of s).sx → p.sy ≡ (trailer_of s).sy
      → drop (length s - 12) s ≡ trailer_bytes (trailer_of s).start p
  unfolding trailer_of little_endian2 little_endian4 trailer_bytes tabulate
  trailer_back t long p count sx sy =
      let at = length s - 12 in
      let all : at + 12 ≡ length s = omega arith in
      let three : at + 2 + 1 ≡ at + 3 = omega arith in
      let five : at + 4 + 1 ≡ at + 5 = omega arith in
      drop_entries s at 0 12 (omega arith)
      ∙ rw (
        all,
        drop-length s,
        add-zero,
        tag_at t long 0 (omega arith),
        tag_at t long 1 (omega arith),
        tag_at t long 2 (omega arith),
        tag_at t long 3 (omega arith),
        count,
        sx,
        sy,
        three,
        five,
        four_back (get_or s at 0) (get_or s (at + 1) 0) (get_or s (at + 2) 0) (get_or s (at + 3) 0) (bytes at) (bytes (at + 1)) (bytes (at + 2)) (bytes (at + 3)),
        two_back (get_or s (at + 4) 0) (get_or s (at + 5) 0) (bytes (at + 4)) (bytes (at + 5)),
      )

-- for every accepted file: the bytes written for what was read, with the file's notes, are the file
pub written_back : (file : List ℕ) (v : ℕ) → Bytes file → plan_answer file ≡ Done v → plan_bytes (notes_of file) (plan_of file) ≡ file
unfolding plan_bytes notes_of plan_of
written_back file v bytes e =
    let t = trailer_of file in
    let framed = done_trailed file v e in
    let last : t.start + 8 * t.count ≡ length file - 12 = framed.frame.ends in
    let notes : length (take t.start file) ≡ t.start = length-take-le t.start file (omega arith) in
    sym
    (rw (
      e,
      notes,
      ← (trailer_back file bytes framed.tag_ok framed.long (plan_of file) (plan_count file) refl refl),
      ← last,
      append_assoc,
      ← (records_back file bytes t.start t.count (omega arith)),
    )
    (sym (take-append-drop t.start file)))
