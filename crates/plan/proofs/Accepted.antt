-- What an accepted plan file has: its frame, and a plan in 01's ranges. Rests on specs/Refusals and specs/Layout.
use mathlib.Core.Bool.{true, not, ◌&&◌, ◌||◌}
use mathlib.Core.List.{List}
use mathlib.Core.Path.{◌≡◌}
use Prim.Native.Nat.{ℕ, ◌+◌, ◌-◌, ◌*◌, ◌≤◌}
use native.Mathlib.Omega.{arith}
use borrow.Author.Tests.{ltb-false, leb-true, eqb-true, eqb-false, not-false}
use lib.Dec.{ltb, leb, eqb}
use lib.ListN.{length}
use Rattle.laws.proofs.Cases.{and_true, or_false, passed}
use Rattle.flow.specs.Plan.{most_size, most_flows}
use Rattle.flow.specs.Ranges.{SizeOk}
use Rattle.file.specs.declared.Trailer.{Trailer}
use Rattle.file.specs.Layout.{most_file, trailer_size, record_size, tagged, trailer_of}
use Rattle.refusal.specs.declared.Cause.{Cause}
use Rattle.refusal.specs.Cause.{cause_number}
use Rattle.refusal.specs.Answer.{Done, Refused}
use Rattle.plan.specs.Inner.{Framed}
use Rattle.plan.specs.Refusals.{size_ok, header_number, trailer_number, answer_by, records_answer, plan_answer}
use Rattle.plan.proofs.Refusals.{or_else_done, answer_done, cause_answer}

pub size_ok_lem : (s : ℕ) → size_ok s ≡ true → SizeOk s
size_ok_lem s e =
    let parts = and_true (leb 1 s) (leb s most_size) e in
    record { least = leb-true 1 s parts.0; most = leb-true s most_size parts.1 }

framed : (t : Trailer) (len : ℕ) → header_number t len ≡ 0 → Framed t len
unfolding header_number
framed t len e =
    let sizes = passed (not (size_ok t.sx && size_ok t.sy)) 2 _ e in
    let counts = passed (eqb t.count 0 || ltb most_flows t.count) 3 _ sizes.1 in
    let start = passed (not (eqb (t.start + record_size * t.count) (len - trailer_size))) 4 _ counts.1 in
    let both = and_true (size_ok t.sx) (size_ok t.sy) (not-false _ sizes.0) in
    let none = or_false (eqb t.count 0) (ltb most_flows t.count) counts.0 in
    let some = eqb-false t.count 0 none.0 in
    record {
      sx_ok = size_ok_lem t.sx both.0;
      sy_ok = size_ok_lem t.sy both.1;
      count_least = omega arith;
      count_most = ltb-false most_flows t.count none.1;
      ends = eqb-true _ _ (not-false _ start.0);
    }

-- a file whose refusals 1 to 5 don't apply
pub record Trailed (file : List ℕ) : Type 0 where
  pub long : trailer_size ≤ length file
  pub most : length file ≤ most_file
  pub tag_ok : tagged file ≡ true
  pub frame : Framed (trailer_of file) (length file)

pub trailed : (file : List ℕ) → trailer_number file ≡ 0 → Trailed file
unfolding trailer_number
trailed file e =
    let lengths = passed (ltb (length file) trailer_size || ltb most_file (length file)) 0 _ e in
    let tags = passed (not (tagged file)) 1 _ lengths.1 in
    let both = or_false (ltb (length file) trailer_size) (ltb most_file (length file)) lengths.0 in
    record {
      long = ltb-false _ _ both.0;
      most = ltb-false _ _ both.1;
      tag_ok = not-false _ tags.0;
      frame = framed (trailer_of file) (length file) tags.1;
    }

pub done_trailed : (file : List ℕ) (v : ℕ) → plan_answer file ≡ Done v → Trailed file
unfolding plan_answer
done_trailed file v e =
    let parts = or_else_done (answer_by (trailer_number file) 0) (records_answer file (trailer_of file)) v e in
    trailed file (answer_done (trailer_number file) 0 parts.0 parts.1)

-- a trailer's refusal is the file's
pub trailer_refused : (file : List ℕ) (c : Cause) → cause_number c ≡ trailer_number file → Refused (cause_number c) 0 ≡ plan_answer file
unfolding plan_answer
trailer_refused file c e = rw (← e, ← (cause_answer c 0))

-- and behind an accepted trailer that of its records
pub answer_by_records : (file : List ℕ) → trailer_number file ≡ 0 → plan_answer file ≡ records_answer file (trailer_of file)
unfolding plan_answer
answer_by_records file e = rw e
